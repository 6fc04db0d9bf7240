use Rattle.std.proofs.Common.{ℕ, ◌≡◌, ◌≤◌, ◌+◌, ◌⊎◌, inl, inr, IsTrue, Bool, true, false, not, refl, arith, sym, ◌∙◌}
use Rattle.std.specs.Prelude.{◌↔◌}
use mathlib.Core.Bool.{beq}
use Rattle.ks_keysets.specs.Keyset.{InKeyset}
use Rattle.ks_keysets.proofs.Ways.{keyset_both}
use Rattle.ks_keysets.specs.Listed.{graph_of}
use Rattle.ks_keysets.proofs.readers.run_last.Goals as goal

pub loop-last-init : goal.loop-last-init
loop-last-init c = record {
  above = c.graph_cut-last.ensures.above;
  same = λ q le le'.
      let both : InKeyset (graph_of c.args.graph.now) c.args.node c.args.place ↔ InKeyset (graph_of c.args.graph.now) c.args.node q = keyset_both (graph_of c.args.graph.now) c.args.place q c.args.node (omega (arith, c.graph_cut-last.type_inv)) (omega (arith, c.graph_cut-last.type_inv)) (λ n r is. c.graph_cut-last.ensures.same q n r le le' is) in
      (λ t. both.0 (c.requires.inside.0 t), λ h. c.requires.inside.1 (both.1 h));
}

same_bools : (a b : Bool) → not (beq a b) ≡ false → a ≡ b
same_bools true true e = refl
same_bools false false e = refl
same_bools true false e = cc
same_bools false true e = cc

cases : (q last : ℕ) → (q ≤ last) ⊎ (last + 1 ≤ q)
cases q last = grind arith

pub loop-last-preserved : goal.loop-last-preserved
loop-last-preserved c = record {
  above = omega (arith, c.graph_cut-last-in-loop-last.ensures.above);
  same = λ q le le'. go q le le' (cases q c.loop-last.last);
}
  where
    go : (q : ℕ) → c.args.place ≤ q → q ≤ c.graph_cut-last-in-loop-last.result → (q ≤ c.loop-last.last) ⊎ (c.loop-last.last + 1 ≤ q) → IsTrue c.args.inside ↔ InKeyset (graph_of c.args.graph.now) c.args.node q
    go q le le' (inl before) = c.loop-last.invariant.same q le before
    go q le le' (inr after) =
        let both : InKeyset (graph_of c.args.graph.now) c.args.node (c.loop-last.last + 1) ↔ InKeyset (graph_of c.args.graph.now) c.args.node q = keyset_both (graph_of c.args.graph.now) (c.loop-last.last + 1) q c.args.node (omega (arith, c.graph_cut-last-in-loop-last.type_inv)) (omega (arith, c.graph_cut-last-in-loop-last.type_inv)) (λ n r is. c.graph_cut-last-in-loop-last.ensures.same q n r after le' is) in
        let same : c.has_place.result ≡ c.args.inside = same_bools c.has_place.result c.args.inside c.if-has_place-inside.false in
        (λ t. both.0 (c.has_place.ensures.0 (same ∙ t)), λ h. sym same ∙ c.has_place.ensures.1 (both.1 h))
