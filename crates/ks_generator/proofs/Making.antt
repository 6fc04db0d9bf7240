-- One call more and one caller more: what is made so far and what is left are the whole.
use Rattle.std.proofs.Common.{ℕ, suc, ◌≡◌, ◌<◌, ◌≤◌, ◌+◌, ◌-◌, List, [], ◌∷◌, ◌++◌, sym, ◌∙◌, ap, arith, append_assoc}
use Rattle.std.proofs.lemmas.List.{append-nil}
use Rattle.ks_history.specs.declared.Op.{Op}
use Rattle.ks_lines.specs.declared.Line.{Line}
use Rattle.ks_lines.specs.declared.Line.TheVariants.{Call}
use Rattle.ks_generator.specs.Made.{call_made, after_call, calls_made, after_calls, callers_made}

left_one : (n i : ℕ) → i < n → n - i ≡ suc (n - (i + 1))
left_one n i lt = omega arith

left_none : (n i : ℕ) → n ≤ i → n - i ≡ 0
left_none n i le = omega arith

pub call_more : (callers c n i x x' : ℕ) (ops ops' whole : List Line) (op : Op) → i < n → ops' ≡ ops ++ Call op ∷ [] → op ≡ call_made callers c x → x' ≡ after_call x →
    ops ++ calls_made callers c (n - i) x ≡ whole → ops' ++ calls_made callers c (n - (i + 1)) x' ≡ whole
call_more callers c n i x x' ops ops' whole op lt pushed is after so_far =
    let m : ℕ = n - (i + 1) in
    ap (λ (xs : List Line). xs ++ calls_made callers c m x') pushed
    ∙ append_assoc ops (Call op ∷ []) (calls_made callers c m x')
    ∙ ap (λ (o : Op). ops ++ Call o ∷ calls_made callers c m x') is
    ∙ ap (λ (y : ℕ). ops ++ Call (call_made callers c x) ∷ calls_made callers c m y) after
    ∙ sym (ap (λ (k : ℕ). ops ++ calls_made callers c k x) (left_one n i lt))
    ∙ so_far

pub state_more : (n i x x' whole : ℕ) → i < n → x' ≡ after_call x → after_calls (n - i) x ≡ whole → after_calls (n - (i + 1)) x' ≡ whole
state_more n i x x' whole lt after so_far =
    ap (λ (y : ℕ). after_calls (n - (i + 1)) y) after ∙ sym (ap (λ (k : ℕ). after_calls k x) (left_one n i lt)) ∙ so_far

pub calls_all : (callers c n i x : ℕ) (ops whole : List Line) → n ≤ i → ops ++ calls_made callers c (n - i) x ≡ whole → ops ≡ whole
calls_all callers c n i x ops whole le so_far = sym (append-nil ops) ∙ sym (ap (λ (k : ℕ). ops ++ calls_made callers c k x) (left_none n i le)) ∙ so_far

pub state_all : (n i x whole : ℕ) → n ≤ i → after_calls (n - i) x ≡ whole → x ≡ whole
state_all n i x whole le so_far = sym (ap (λ (k : ℕ). after_calls k x) (left_none n i le)) ∙ so_far

pub caller_more : (callers n c x x' : ℕ) (scripts scripts' : List (List Line)) (script : List Line) (whole : List (List Line)) → c < callers → scripts' ≡ scripts ++ script ∷ [] → script ≡ calls_made callers c n x → x' ≡ after_calls n x →
    scripts ++ callers_made callers n c (callers - c) x ≡ whole → scripts' ++ callers_made callers n (c + 1) (callers - (c + 1)) x' ≡ whole
caller_more callers n c x x' scripts scripts' script whole lt pushed is after so_far =
    let m : ℕ = callers - (c + 1) in
    let rest : List (List Line) = callers_made callers n (c + 1) m x' in
    ap (λ (xs : List (List Line)). xs ++ rest) pushed
    ∙ append_assoc scripts (script ∷ []) rest
    ∙ ap (λ (o : List Line). scripts ++ o ∷ rest) is
    ∙ ap (λ (y : ℕ). scripts ++ calls_made callers c n x ∷ callers_made callers n (c + 1) m y) after
    ∙ sym (ap (λ (k : ℕ). scripts ++ callers_made callers n c k x) (left_one callers c lt))
    ∙ so_far
