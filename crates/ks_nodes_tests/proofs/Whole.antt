-- A leaf with no range and no edge is suited by all places.
use Rattle.std.specs.Prelude.{◌≡◌, ◌≤◌, All, None, Some}
use Rattle.std.proofs.Common.{arith, sym, ◌∙◌}
use Rattle.ks_keysets.specs.declared.Span.{Span}
use Rattle.ks_node.specs.Body.{Body, all_places}
use Rattle.ks_node.specs.Asks.{Suits, IsNoneOr}
use Rattle.ks_nodes_tests.specs.Bare.{IsBare}

pub suits_all : (b : Body) → IsBare 0 b → All (λ x. (all_places.low ≤ x.place) × (x.place ≤ all_places.last)) b.pairs → Suits b all_places
suits_all b bare pairs = record {
  begins_low = sym bare.1;
  pairs = pairs;
  starts = rw bare.0 (λ k d h. absurd (omega (arith, h)));
  is_range = λ r e. let x : None ≡ Some r = sym bare.3 ∙ e in absurd (cc);
}

same : (r q : Span) → Some r ≡ Some q → q ≡ r
same r q e = cc

pub all_handed : IsNoneOr (Some all_places) all_places
all_handed q e = same all_places q e
