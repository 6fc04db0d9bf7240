-- Why an input is refused, from why its bytes are.
use Rattle.std.proofs.Common.{ℕ, zero, suc, ◌≡◌, ◌≤◌, ◌<◌, List, [], length, Option, Some, None, Result, Ok, Err, refl, subst, arith}
use Rattle.std.specs.Prelude.{IfSome, IfErr, IfOk}
use Rattle.ks_lines.specs.declared.Line.{Line}
use Rattle.ks_script.specs.declared.version.Version.{Version}
use Rattle.ks_script.specs.declared.version.Version.TheVariants.{First, Second, Third, Fourth}
use Rattle.ks_script.specs.Version.{callers_limit}
use Rattle.ks_script.specs.Script.{IsScript, ScriptOf}
use Rattle.ks_words.specs.declared.words.Text.{Text}
use Rattle.ks_words.specs.declared.words.Text.TheVariants.{Script, Checked}
use Rattle.ks_ends.specs.declared.input.Stop.{Stop}
use Rattle.ks_ends.specs.declared.input.Stop.TheVariants.{Refused, Source, Memory}
use Rattle.ks_ends.specs.Serve.{limit_of, FirstBadOf, IsReasonAt, RefusedAt, SaysWhy}
use Rattle.ks_ends.specs.Stop.{IsCause, IsRefusal, ReadToEnd}
use Rattle.ks_ends.specs.Laws.Ended.{not_some}
use Rattle.ks_script.specs.declared.reasons.Reason.{Reason}

bad_after : (text : Text) (n : ℕ) (v : List ℕ) → FirstBadOf text v n → 0 < n
bad_after Script n v bad = bad.place
bad_after Checked n v bad = bad.place

refused_at : (text : Text) (n : ℕ) (v bytes : List ℕ) → v ≡ bytes → length v ≤ limit_of text → FirstBadOf text v n → RefusedAt text bytes n
refused_at text zero v bytes is le bad = let place = bad_after text zero v bad in absurd (omega arith)
refused_at text (suc n) v bytes is le bad = subst (λ (b : List ℕ). RefusedAt text b (suc n)) is (le, bad)

not_zero : (text : Text) (n : ℕ) (v : List ℕ) → FirstBadOf text v n → n ≡ 0 → ⊥
not_zero text n v bad e = let place = bad_after text n v bad in omega (arith, place, e)

pub load_cause : {X : Type 0} (text : Text) (left : Option (List ℕ)) (rose : Type 0) (v : List ℕ) (r : Result X Stop) → IfSome left (λ bytes. v ≡ bytes) → length v ≤ limit_of text → IfErr r (λ stop. IsRefusal stop text v) → IfErr r (λ stop. IsCause stop text left rose)
load_cause text left rose v (Ok x) is le bad = tt
load_cause text None rose v (Err (Refused n None)) is le bad = absurd (not_some {X = Reason} None refl bad.1)
load_cause text (Some bytes) rose v (Err (Refused n None)) is le bad = absurd (not_some {X = Reason} None refl bad.1)
load_cause text None rose v (Err (Refused n (Some why))) is le bad = (tt, (not_zero text n v bad.0, tt))
load_cause text (Some bytes) rose v (Err (Refused n (Some why))) is le bad = (refused_at text n v bytes is le bad.0, (not_zero text n v bad.0, subst (λ (b : List ℕ). IsReasonAt text b n (Some why)) is bad.2))
load_cause text left rose v (Err Source) is le bad = absurd bad
load_cause text left rose v (Err Memory) is le bad = tt

-- an input of more bytes than it may have is refused at line 0, for no reason
pub too_long : (text : Text) (left : Option (List ℕ)) (limit : ℕ) → limit ≡ limit_of text → IfSome left (λ bytes. limit < length bytes) → IfSome left (λ bytes. RefusedAt text bytes 0) × SaysWhy text left 0 None
too_long text None limit is long = (tt, (refl, tt))
too_long text (Some bytes) limit is long = (subst (λ (m : ℕ). m < length bytes) is long, (refl, refl))

pub read_to_end : {X : Type 0} (r : Result X Stop) (left after : Option (List ℕ)) → IfSome left (λ _. after ≡ Some []) → IfErr r (λ stop. ReadToEnd stop left after)
read_to_end (Ok x) left after end = tt
read_to_end (Err (Refused n why)) left after end = λ _. end
read_to_end (Err Source) left after end = tt
read_to_end (Err Memory) left after end = tt

-- no version has more callers than 1,024
within : (version : Version) (n : ℕ) → n ≤ callers_limit version → n ≤ 1024
within First n le = omega arith
within Second n le = le
within Third n le = le
within Fourth n le = le

pub few_read : (bytes : List ℕ) (r : Result (List (List Line)) Stop) → IfOk r (λ script. ScriptOf bytes script) → IfOk r (λ script. length script ≤ 1024)
few_read bytes (Ok script) is = within is.0 (length script) is.1.is.callers
few_read bytes (Err stop) is = tt

pub script_read : (bytes : List ℕ) (r : Result (List (List Line)) Stop) → IfOk r (λ script. ScriptOf bytes script) → IfOk r (λ script. (version : Version) × IsScript version script)
script_read bytes (Ok script) is = (is.0, is.1.is)
script_read bytes (Err stop) is = tt
