-- The bodies of a tree: the places that come to a body are in its range, and from its low on.
use Rattle.std.proofs.Common.{ℕ, suc, ◌≡◌, ◌≤◌, ◌+◌, List, Option, Some, None, refl, sym, ◌∙◌, ap, subst, arith}
use Rattle.std.specs.Prelude.{All}
use Rattle.std.proofs.lemmas.List.Elements.{All-filter}
use Rattle.ks_keysets.specs.declared.Frame.{Frame}
use Rattle.ks_keysets.specs.declared.Span.{Span}
use Rattle.ks_keysets.specs.declared.Record.{Record}
use Rattle.ks_keysets.specs.declared.NodeState.{NodeState}
use Rattle.ks_keysets.specs.declared.Change.{Change}
use Rattle.ks_keysets.specs.Keyset.{record_at, InInset, InKeyset, Good}
use Rattle.ks_node.specs.Body.{Body, first_of, last_of, pairs_below, pairs_from}
use Rattle.ks_node.specs.Edges.{record_of}
use Rattle.ks_node.specs.Laws.Ascend.{all_below, all_from}
use Rattle.ks_flow.specs.Ways.{DiffersIn}
use Rattle.ks_flow.specs.Tree.{Tree, FramesKept, edges_between, edges_in}
use Rattle.ks_flow.specs.Changes.{nodes_of, graph_with, frames_with, HasBecome}
use Rattle.ks_flow.specs.Shapes.{StandBelow, StandFrom}
use Rattle.ks_bodies.specs.Stands.{Stands}
use Rattle.ks_bodies.proofs.Led.{count}
use Rattle.ks_bodies.proofs.Records.{InRange, body_count}

-- what a list of changes did to graph and frames
pub record Made (g : ℕ → NodeState) (f : ℕ → Frame) (xs : List Change) : Type 0 where
  pub differs : DiffersIn g (nodes_of xs) (graph_with xs g)
  pub frames : FramesKept f (nodes_of xs) (frames_with xs f)
  pub named : All (HasBecome f (graph_with xs g) (frames_with xs f)) xs

pub fresh_apart : (g : ℕ → NodeState) (n m : ℕ) (r : Record) → record_at g n ≡ Some r → record_at g m ≡ None → n ≡ m → ⊥
fresh_apart g n m r is none e = let x : Some r ≡ None = sym is ∙ ap (λ (z : ℕ). record_at g z) e ∙ none in cc

module _ (g : ℕ → NodeState) (f : ℕ → Frame) (n : ℕ) (b : Body) (tree : Tree g f) (stands : Stands g f n b) where
  pub in_range : (p : ℕ) → InInset g n p → InRange b p
  in_range p inset = go b.range refl
    where
      go : (o : Option Span) → b.range ≡ o → InRange b p
      go None e = record { low = subst (λ (o : Option Span). first_of o ≤ p) (sym e) (omega arith); last = subst (λ (o : Option Span). p ≤ last_of o) (sym e) (omega (arith, inset.0)) }
      go (Some r) e =
          let y = (tree.range n r (record_of b, stands.has) (ap (λ (z : Frame). z.range) stands.frame ∙ e)).forth p inset in
          record { low = subst (λ (o : Option Span). first_of o ≤ p) (sym e) y.0; last = subst (λ (o : Option Span). p ≤ last_of o) (sym e) y.1 }

  pub low_le : (p : ℕ) → InInset g n p → b.low ≤ p
  low_le p inset = let y = tree.spans n (record_of b, stands.has) in omega (arith, (y.1.forth p inset).0, ap (λ (z : Frame). z.low) stands.frame)

  pub low_inside : InInset g n b.low
  low_inside = let y = tree.spans n (record_of b, stands.has) in y.1.back b.low (omega (arith, ap (λ (z : Frame). z.low) stands.frame)) (omega (arith, y.1.filled, ap (λ (z : Frame). z.low) stands.frame))

  -- one start at most leads to a node
  pub one_start : (m : ℕ) → count b.starts m ≤ 1
  one_start m = omega (arith, tree.edges.one m n (suc n) (λ e. omega arith), ap (λ (o : Option Record). edges_in o m) stands.has, body_count b stands.plain m)

  pub start_between : (m : ℕ) → edges_between g n m ≡ count b.starts m
  start_between m = ap (λ (o : Option Record). edges_in o m) stands.has ∙ body_count b stands.plain m

pub pairs_stand : (g : ℕ → NodeState) (f : ℕ → Frame) (n : ℕ) (b : Body) → Good g → Stands g f n b → All (λ x. InKeyset g n x.place) b.pairs
pairs_stand g f n b good stands = good.stored n (record_of b) stands.has

pub pairs_lower : (g : ℕ → NodeState) (f : ℕ → Frame) (n cut : ℕ) (b : Body) → Good g → Stands g f n b → StandBelow g n cut (pairs_below cut b.pairs)
pairs_lower g f n cut b good stands i d lt = (All-filter _ (λ x. InKeyset g n x.place) b.pairs (pairs_stand g f n b good stands) i d lt, all_below (λ x. x.place) cut b.pairs i d lt)

pub pairs_upper : (g : ℕ → NodeState) (f : ℕ → Frame) (n cut : ℕ) (b : Body) → Good g → Stands g f n b → StandFrom g n cut (pairs_from cut b.pairs)
pairs_upper g f n cut b good stands i d lt = (All-filter _ (λ x. InKeyset g n x.place) b.pairs (pairs_stand g f n b good stands) i d lt, all_from (λ x. x.place) cut b.pairs i d lt)

-- no start leads to a node that is not live
pub none_fresh : (g : ℕ → NodeState) (f : ℕ → Frame) (n m : ℕ) (b : Body) → Stands g f n b → edges_between g n m ≡ 0 → count b.starts m ≡ 0
none_fresh g f n m b stands none = sym (ap (λ (o : Option Record). edges_in o m) stands.has ∙ body_count b stands.plain m) ∙ none

-- each node has at most one start in all bodies together
pub sole_start : (g : ℕ → NodeState) (f : ℕ → Frame) (n m c : ℕ) (b q : Body) → Tree g f → Stands g f n b → Stands g f m q → (n ≡ m → ⊥) → count b.starts c + count q.starts c ≤ 1
sole_start g f n m c b q tree x y ne = omega (arith, tree.edges.one c n m ne, start_between g f n b tree x c, start_between g f m q tree y c)
