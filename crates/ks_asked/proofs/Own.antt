-- A body is suited by its own range.
use Rattle.std.specs.Prelude.{◌≡◌, ◌<◌, ◌≤◌, All, get_or, drop, Some}
use Rattle.std.proofs.Common.{arith, sym, ◌∙◌}
use Rattle.std.proofs.lemmas.List.Elements.{All-drop}
use Rattle.ks_keysets.specs.declared.Span.{Span}
use Rattle.ks_node.specs.Body.{Body}
use Rattle.ks_node.specs.Sound.{Framed}
use Rattle.ks_node.specs.Asks.{Suits, IsNoneOr}

some_same : (r q : Span) → Some r ≡ Some q → q ≡ r
some_same r q e = cc

pub suits_own : (b : Body) (r : Span) → b.range ≡ Some r → Framed r b → All (λ x. (r.low ≤ x.place) × (x.place ≤ r.last)) b.pairs → Suits b r
suits_own b r range f pairs = record {
  begins_low = sym f.low_is;
  pairs = pairs;
  starts = λ k d h. (let above : r.low < (get_or (drop 1 b.starts) k d).low = f.above k d h in omega arith, All-drop (λ s. s.low ≤ r.last) 1 b.starts f.upto k d h);
  is_range = λ q e. some_same r q (sym range ∙ e);
}

pub own_handed : (r : Span) → IsNoneOr (Some r) r
own_handed r q e = some_same r q e
