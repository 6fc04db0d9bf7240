-- A body with a range in place of the one of the body inside, or of none.
use Rattle.std.specs.Prelude.{◌≡◌, ℕ, ◌<◌, ◌≤◌, Bool, true, false, not, ◌&&◌, nat_eq, IsTrue, Option, Some, refl}
use Rattle.std.specs.Option.{ForSome}
use Rattle.std.proofs.Common.{arith, ap, ◌∙◌, sym, subst}
use Rattle.std.proofs.lemmas.Bool.{ne_eqb}
use Rattle.ks_keysets.specs.declared.Span.{Span}
use Rattle.ks_keysets.specs.Layout.{Layout}
use Rattle.ks_node.specs.Body.{Body, Content, content_of, is_branch_kind}
use Rattle.ks_node.specs.Effect.{with_range}
use Rattle.ks_node.specs.Asks.{IsCut, Suits, IsGoodCut, AdoptsInside, AdoptsItsCut, BranchesAdopt}
use Rattle.ks_node.specs.Wrapped.{adopts_ranged}

not_both : (b c x : Bool) → c ≡ false → x ≡ true → (not (b && c) && x) ≡ true
not_both true c x e h = rw e h
not_both false c x e h = h

not_first : (b c x : Bool) → b ≡ false → x ≡ true → (not (b && c) && x) ≡ true
not_first b c x e h = rw e h

second : (a x : Bool) → (a && x) ≡ true → x ≡ true
second true x h = h
second false x h = cc

pub adopts_above : (can : Content → ℕ → Bool) (c : Content) (cut : ℕ) → c.low < cut → IsTrue (can c cut) → IsTrue (adopts_ranged can c cut)
adopts_above can c cut h t = not_both (is_branch_kind c.kind) (nat_eq cut c.low) (can c cut) (ne_eqb _ _ (λ e. omega arith)) t

pub adopts_inner : (can : Content → ℕ → Bool) (c : Content) (cut : ℕ) → IsTrue (adopts_ranged can c cut) → IsTrue (can c cut)
adopts_inner can c cut t = second _ (can c cut) t

module _ (b : Body) (r : Span) (same : ForSome b.range (λ q. q ≡ r)) where
  -- what suits a body with a range suits the body inside
  pub suits_inside : {span : Span} → Suits (with_range r b) span → Suits b span
  suits_inside s = record {
    begins_low = s.begins_low;
    pairs = s.pairs;
    starts = s.starts;
    is_range = λ q e. same q e ∙ s.is_range r refl;
  }

  pub cut_inside : (cut : ℕ) → IsCut (with_range r b) cut → IsCut b cut
  cut_inside cut h = (h.0, λ q e. subst (λ p. cut ≤ p.last) (sym (same q e)) (h.1 r refl))

  pub good_inside : {span : Span} (cut : ℕ) → IsGoodCut (with_range r b) span cut → IsGoodCut b span cut
  good_inside cut g = record { above = g.above; within = g.within; splits = (cut_inside cut g.splits.0, g.splits.1, g.splits.2) }

  le_last : (cut : ℕ) (q : Span) → Some r ≡ Some q → cut ≤ r.last → cut ≤ q.last
  le_last cut q e h = let same : r ≡ q = cc in subst (λ p. cut ≤ p.last) same h

  pub good_outside : {span : Span} (cut : ℕ) → Suits (with_range r b) span → IsGoodCut b span cut → IsGoodCut (with_range r b) span cut
  good_outside {span} cut s g =
      let last : r.last ≡ span.last = ap (λ q. q.last) (s.is_range r refl) in
      let within : cut ≤ span.last = g.within in
      record {
        above = g.above;
        within = within;
        splits = ((g.splits.0.0, λ q e. le_last cut q e (omega arith)), g.splits.1, g.splits.2);
      }

  pub adopts_inside : (can : Content → ℕ → Bool) (layout : Layout) → AdoptsInside can layout b → AdoptsInside (adopts_ranged can) layout (with_range r b)
  adopts_inside can layout a cut branch less cuts free =
      adopts_above can (content_of b) cut cuts.0 (a cut branch less (cut_inside cut cuts) free)

  pub branches_inside : (can : Content → ℕ → Bool) (layout : Layout) → BranchesAdopt can layout b → BranchesAdopt (adopts_ranged can) layout (with_range r b)
  branches_inside can layout a = record { bare = a.bare; inside = adopts_inside can layout a.inside }

  pub adopts_its_cut : (can : Content → ℕ → Bool) (cut_at : Content → Option Span → ℕ) (layout : Layout) → AdoptsItsCut can cut_at layout b → AdoptsItsCut (adopts_ranged can) cut_at layout (with_range r b)
  adopts_its_cut can cut_at layout a span o full suits is good =
      let cut : ℕ = cut_at (content_of b) o in
      adopts_above can (content_of b) cut good.splits.0.0 (a span o full (suits_inside suits) is (good_inside cut good))
