-- The rule of what readers take: each view has seen the first posts up to some post, and at most one view leads.
use Rattle.std.specs.Prelude.{◌≡◌, ℕ, ◌<◌, List, [], ◌∷◌, ◌++◌, length, IfSome, IsTrue, false, Option, Some, None}
use mathlib.Core.Option.{some}
use lib.ListN.{get_elem?}
use Rattle.atomic_table.specs.Seated.{TableId}
use Rattle.left_right.specs.Sides.{view}
use Rattle.left_right.specs.declared.reader.Reader.{Reader}
use Rattle.ks_hints.specs.declared.hint.Hint.{Hint}
use Rattle.ks_hints.specs.declared.hints.Hints.{Hints}
use Rattle.ks_hints.specs.declared.view.View.{View}
use Rattle.ks_hints.specs.Hints.{list_after}

-- the view has seen the first posts up to some post; if it leads, it has seen all, and there is a post
pub record Follows (x : Hints) (posts : List Hint) (v : View) : Type 0 where
  pub rest : List Hint
  pub begins : posts ≡ rest ++ v.seen
  pub all : IsTrue v.leads → v.seen ≡ posts
  pub some_posted : IsTrue v.leads → 0 < length x.list.items

-- the value shows the list after these posts, each view follows them, and at most one leads
pub record AreOfPosts (x : Hints) (views : List View) : Type 0 where
  pub posts : List Hint
  pub shown : x.list.items ≡ list_after posts
  pub each : (seat : ℕ) (v : View) → get_elem? views seat ≡ some v → Follows x posts v
  pub one : (i j : ℕ) (v w : View) → get_elem? views i ≡ some v → get_elem? views j ≡ some w → IsTrue v.leads → IsTrue w.leads → i ≡ j

-- the view of a new seat: it has seen no post
abbrev pub new_view : View
new_view = record { seen = []; leads = false }

-- the writer shows y, which has one post more than its view had seen
abbrev pub HasPosted : View → Hints → Hints → View → Type 0
HasPosted v x y w = (w.seen ≡ y.newest ∷ v.seen) × IsTrue w.leads

-- a reader takes x: its view has seen the posts of x, and loses none that it had seen
abbrev pub HasSeen : View → Hints → Hints → View → Type 0
HasSeen v x y w = ((rest : List Hint) × (w.seen ≡ rest ++ v.seen)) × (x.list.items ≡ list_after w.seen)

module _ {P A : Type 0} where
  -- the posts that a reader with a place has seen; without a place it sees none
  abbrev pub seen_by : Option (Reader Hints View P A) → List Hint
  seen_by None = []
  seen_by (Some r) = (view r.place).seen

  -- the place of the reader, if it has one, is in this table
  abbrev pub IsSeatedAt : TableId → Option (Reader Hints View P A) → Type 0
  IsSeatedAt table reader = IfSome reader (λ r. r.place.table_id ≡ table)
