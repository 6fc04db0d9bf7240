-- From what is said of the first line that is not served of a script that was read, what is said of the source.
use Rattle.std.proofs.Common.{ℕ, ◌≡◌, Bool, List, Option, Some, None, sym, subst, ◌∙◌}
use Rattle.std.specs.Prelude.{IfSome}
use Rattle.std.proofs.lemmas.Option.{same_Some}
use Rattle.ks_lines.specs.declared.Line.{Line}
use Rattle.ks_script.specs.Script.{ScriptOf}
use Rattle.ks_script.specs.Unfit.{IsUnfitAt}
use Rattle.ks_words.specs.declared.pairing.Pairing.{Pairing}
use Rattle.ks_words.specs.Pairings.{technique_row, does_scan}
use Rattle.ks_ends.specs.Serve.{Accepts, UnfitAt}

module _ (pairing : Pairing) (script : List (List Line)) (scans moves : Bool) (scans_is : scans ≡ does_scan pairing.structure pairing.technique) (moves_is : moves ≡ (technique_row pairing.technique).moves) (found : Option ℕ)
    (due : (bytes : List ℕ) (n : ℕ) → ScriptOf bytes script → IsUnfitAt scans moves bytes n → found ≡ Some n) where
  found_at : (bytes : List ℕ) (n : ℕ) → Accepts bytes script → UnfitAt pairing bytes n → found ≡ Some n
  found_at bytes n a unfit = due bytes n a.reads (subst (λ b. IsUnfitAt b moves bytes n) (sym scans_is) (subst (λ b. IsUnfitAt (does_scan pairing.structure pairing.technique) b bytes n) (sym moves_is) unfit.unfit))

  -- a line that was found is the only such
  pub one_unfit : (left : Option (List ℕ)) (line : ℕ) → found ≡ Some line → IfSome left (λ bytes. Accepts bytes script) → IfSome left (λ bytes. (m : ℕ) → UnfitAt pairing bytes m → line ≡ m)
  one_unfit None line is a = tt
  one_unfit (Some bytes) line is a = λ m unfit. same_Some line m (sym is ∙ found_at bytes m a unfit)

  -- if none was found, there is none
  pub none_unfit : (left : Option (List ℕ)) → found ≡ None → IfSome left (λ bytes. Accepts bytes script) → IfSome left (λ bytes. (m : ℕ) → UnfitAt pairing bytes m → ⊥)
  none_unfit None is a = tt
  none_unfit (Some bytes) is a = λ m unfit. absurd (let e = sym is ∙ found_at bytes m a unfit in cc)
