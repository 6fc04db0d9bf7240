-- A put at node 0 that has no edge for the place.
use Rattle.std.specs.Prelude.{is_some, length}
use Rattle.std.proofs.Common.{◌≡◌, ℕ, ◌≤◌, Bool, true, false, cond, List, [], ◌∷◌, ◌++◌, Option, Some, None, sym, refl, ap, ◌∙◌, subst, arith, inl, inr}
use Rattle.std.proofs.lemmas.List.{append-nil}
use Rattle.std.proofs.lemmas.Bool.Decides.{eqb_tells}
use Rattle.ks_keysets.specs.declared.Kind.{Kind}
use Rattle.ks_keysets.specs.declared.Kind.TheVariants.{NoBranch, Inner, Directory}
use Rattle.ks_keysets.specs.declared.NodeState.TheVariants.{Live}
use Rattle.ks_keysets.specs.Record.{top}
use Rattle.ks_keysets.specs.Keyset.{live_record, InOutset}
use Rattle.ks_keysets.specs.Layout.{room}
use Rattle.ks_keysets.specs.Tight.{capacity}
use Rattle.ks_history.specs.declared.Op.TheVariants.{Put}
use Rattle.ks_history.specs.declared.Reply.{Reply}
use Rattle.ks_history.specs.declared.Event.{Event}
use Rattle.ks_history.specs.declared.Event.TheVariants.{Take, Give, Call}
use Rattle.ks_history.specs.Map.{told}
use Rattle.ks_history.specs.Trace.{graph_after, calls_by}
use Rattle.ks_history.specs.Frames.{frame_after}
use Rattle.ks_history.specs.Due.{IsFullFor}
use Rattle.ks_history.specs.Refusals.{Sometime}
use Rattle.ks_history.specs.Passes.{GrowsWith}
use Rattle.ks_history.specs.Laws.Begins.{none_no_call}
use Rattle.ks_history.specs.Calls.{numbered}
use Rattle.ks_history.specs.Laws.Calls.{calls_kept, calls_more}
use Rattle.ks_node.specs.declared.start.Next.TheVariants.{Here, Go}
use Rattle.ks_node.specs.Body.{Body, content_of, first_of, last_of, frame_of, next_at, value_at, is_branch, is_branch_kind}
use Rattle.ks_node.specs.Edges.{record_of}
use Rattle.ks_node.specs.Room.{is_full, is_full_at}
use Rattle.ks_node.specs.Asks.{IsBelowOwn}
use Rattle.ks_node.specs.Sound.{Sound as InOrder}
use Rattle.ks_node.specs.Laws.Puts.{value_first}
use Rattle.ks_node.specs.Laws.Ways.{next_leads}
use Rattle.ks_arena.specs.declared.held.Held.{Held as Hand}
use Rattle.ks_arena.specs.Sound.{Sort, blank_of}
use Rattle.ks_arena.specs.Clauses.{Matches, MatchesIf, Numbered, HasTaken}
use Rattle.ks_arena.specs.Laws.Writes.{ends_below_own as below_own_where, ends_at_no_branch as no_branch_where}

-- a body without a range at which a search ends is no branch, and the place is below its own edge
module _ (b : Body) (p : ℕ) (s : InOrder (content_of b)) (none : b.range ≡ None) (place : p ≤ top) (here : next_at b p ≡ Here) where
  first : first_of b.range ≤ p
  first = omega (arith, ap first_of none)

  last : p ≤ last_of b.range
  last = omega (arith, ap last_of none, place)

  pub ends_below_own : IsBelowOwn b p
  ends_below_own = below_own_where b p s first last here

  pub ends_at_no_branch : is_branch b ≡ false
  ends_at_no_branch = no_branch_where b p s first last here

given : (c d i : ℕ) (k g : List Event) → d ≡ c → i ≡ 0 → GrowsWith d (Give d i) k g → GrowsWith c (Give c 0) k g
given c d i k g same root gave = subst (λ (j : ℕ). GrowsWith c (Give c j) k g) root (subst (λ (e : ℕ). GrowsWith e (Give e i) k g) same gave)

-- a take and a release leave the calls of their caller
took_calls : {c i : ℕ} {h k : List Event} → GrowsWith c (Take c i) h k → calls_by c k ≡ calls_by c h
took_calls {c} {i} {h} {k} grows = ap (calls_by c) grows.is ∙ calls_kept grows.rest h c (none_no_call c grows.rest grows.others)

gave_calls : {c i : ℕ} {h k : List Event} → GrowsWith c (Give c i) h k → calls_by c k ≡ calls_by c h
gave_calls {c} {i} {h} {k} grows = ap (calls_by c) grows.is ∙ calls_kept grows.rest h c (none_no_call c grows.rest grows.others)

-- a search for the place ends at the body
pub record EndsHere (b : Body) (p : ℕ) : Type 0 where
  pub order : InOrder (content_of b)
  pub place : p ≤ top
  pub here : next_at b p ≡ Here

module _ {N : Type 0} {sort : Sort} {shows : N → Body} where
  shown : (k : List Event) (x : Hand N) → x.node ≡ 0 → x.live ≡ true → Matches sort shows k x →
      (graph_after k 0 ≡ Live (record_of (shows x.body))) × (frame_after (blank_of sort) k 0 ≡ frame_of (shows x.body))
  shown k x root live so = subst (λ (i : ℕ). (graph_after k i ≡ Live (record_of (shows x.body))) × (frame_after (blank_of sort) k i ≡ frame_of (shows x.body))) root
      (subst (λ (l : Bool). MatchesIf sort shows l (graph_after k x.node) (frame_after (blank_of sort) k x.node) x.body) live so.is)

  -- c took node 0 and released it: it made no call, and the node was between as it found it
  module _ {c d : ℕ} {h k g : List Event} {x : Hand N} (took : HasTaken sort shows c 0 h k x) (gave : GrowsWith d (Give d x.node) k g) (same : d ≡ c) where
    gives : GrowsWith c (Give c 0) k g
    gives = given c d x.node k g same took.node gave

    pub no_calls : calls_by c g ≡ calls_by c h ++ []
    no_calls = gave_calls gives ∙ took_calls took.grows ∙ sym (append-nil (calls_by c h))

    between : {P : List Event → Type 0} → P k → Sometime h g P
    between {P} is = record {
      moment = k;
      since = record { rest = Take c 0 ∷ took.grows.rest; is = took.grows.is };
      until = record { rest = Give c 0 ∷ gives.rest; is = gives.is };
      so = is;
    }

    pub no_room : {p : ℕ} → EndsHere (shows x.body) p → (shows x.body).range ≡ None → value_at (shows x.body).pairs p ≡ None → is_full sort.layout (shows x.body) ≡ true →
        Sometime h g (λ m. IsFullFor sort.layout (graph_after m) 0 p)
    no_room {p} ends unranged none full = between (record {
      node = record_of (shows x.body);
      is = ap live_record (shown k x took.node took.live took.matches).0;
      filled = fills (shows x.body).kind (length (shows x.body).starts) (length (shows x.body).pairs) (ends_at_no_branch (shows x.body) p ends.order unranged ends.place ends.here) full;
      absent = value_first (shows x.body).pairs p ∙ none;
    })
      where
        fills : (k : Kind) (m n : ℕ) → is_branch_kind k ≡ false → is_full_at (capacity sort.layout k) (cond (is_branch_kind k) m n) ≡ true → n ≡ room sort.layout
        fills NoBranch m n e full = elim (eqb_tells n (room sort.layout)) [ inl q ↦ q.1 | inr q ↦ (let w : false ≡ true = sym q.0 ∙ full in cc) ]
        fills Inner m n e full = cc
        fills Directory m n e full = cc

    pub elsewhere : {p m : ℕ} → InOrder (content_of (shows x.body)) → p ≤ top → next_at (shows x.body) p ≡ Go m → Sometime h g (λ m. InOutset (graph_after m) 0 p)
    elsewhere {p} {m} order place go =
        let to = next_leads (shows x.body) p m order place go in
        between (record_of (shows x.body), ap live_record (shown k x took.node took.live took.matches).0, (to.0, to.1, to.2, to.3, to.4.0))

  -- c took node 0, made a call there, and released it
  pub one_call : {c d e p v n : ℕ} {reply : Reply} {h k l g : List Event} {x : Hand N} (old : Option ℕ) → HasTaken sort shows c 0 h k x → Numbered d (Call d x.node (Put p v) reply) k l n → GrowsWith e (Give e x.node) l g →
      d ≡ c → e ≡ d → reply ≡ told old → calls_by c g ≡ calls_by c h ++ numbered n (Put p v) (told old) ∷ []
  one_call {c} {d} {e} {p} {v} {n} {reply} {h} {k} {l} {g} {x} old took called gave same still tells =
      gave_calls (given c e x.node l g (still ∙ same) took.node gave)
      ∙ ap (calls_by c) calls.grows.is ∙ calls_more (calls.grows.rest ++ k) c 0 (Put p v) (told old)
      ∙ ap (λ (m : ℕ). calls_by c (calls.grows.rest ++ k) ++ numbered m (Put p v) (told old) ∷ []) (sym calls.number)
      ∙ ap (λ z. z ++ numbered n (Put p v) (told old) ∷ []) (calls_kept calls.grows.rest k c (none_no_call c calls.grows.rest calls.grows.others) ∙ took_calls took.grows)
    where
      calls : Numbered c (Call c 0 (Put p v) (told old)) k l n
      calls = subst (λ (r : Reply). Numbered c (Call c 0 (Put p v) r) k l n) tells
          (subst (λ (j : ℕ). Numbered c (Call c j (Put p v) reply) k l n) took.node (subst (λ (b : ℕ). Numbered b (Call b x.node (Put p v) reply) k l n) same called))

-- without a range
pub no_range : {X : Type 0} {o : Option X} {b : Bool} → is_some o ≡ b → b ≡ false → o ≡ None
no_range {X} {o} {b} e f = go o (e ∙ f)
  where
    go : (o : Option X) → is_some o ≡ false → o ≡ None
    go None q = refl
    go (Some x) q = cc
