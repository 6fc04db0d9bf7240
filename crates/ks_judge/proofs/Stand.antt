-- Each call of a trace is on one line of the rows of its caller, in order, with its number and reply.
use Rattle.std.proofs.Common.{ℕ, ◌≡◌, ◌<◌, ◌≤◌, ◌+◌, List, [], ◌∷◌, ◌++◌, length, get_or, refl, sym, ◌∙◌, ap, subst, arith}
use mathlib.Core.Logic.{dite}
use native.Mathlib.Decide.{ℕ_discrete}
use Rattle.std.proofs.lemmas.List.{length-append, get_or_append_left}
use Rattle.std.proofs.Math.Seq.{get_or-append_seam}
use Rattle.ks_history.specs.declared.Op.{Op}
use Rattle.ks_history.specs.declared.Op.TheVariants.{Get}
use Rattle.ks_history.specs.declared.Reply.{Reply}
use Rattle.ks_history.specs.declared.Reply.TheVariants.{Nothing}
use Rattle.ks_history.specs.declared.Answered.{Answered}
use Rattle.ks_history.specs.Laws.Stays.{cond_here, cond_else}
use Rattle.ks_judge.specs.Judgment.{carriers_from}
use Rattle.ks_judge.proofs.Tables.{rows, Below, below_more, below_push, below_at, pushed, from_other, from_new, pushed_at, pushed_last, pushed_long, pushed_longer}

abbrev pub no_call : Answered
no_call = record { op = Get 0; reply = Nothing }

-- the call n is on a line of one of m callers
pub record Stands (m : ℕ) (L : ℕ → List (ℕ × Reply)) (O : ℕ → List Op) (calls : List Answered) (n : ℕ) : Type 0 where
  pub caller : ℕ
  pub place : ℕ
  pub below : caller < m
  pub within : place < length (L caller)
  pub asked : place < length (O caller)
  pub only : carriers_from n 0 (rows L 0 m) ≡ (caller, place) ∷ []
  pub ordered : (i : ℕ) → i < place → (get_or (L caller) i (0, Nothing)).0 ≤ n
  pub is : record { op = get_or (O caller) place (Get 0); reply = (get_or (L caller) place (0, Nothing)).1 } ≡ get_or calls n no_call

-- what is known of the rows after a trace
pub record Known (m : ℕ) (L : ℕ → List (ℕ × Reply)) (O : ℕ → List Op) (calls : List Answered) : Type 0 where
  pub low : (c : ℕ) → Below (length calls) (L c)
  pub even : (c : ℕ) → length (O c) ≡ length (L c)
  pub stands : (n : ℕ) → n < length calls → Stands m L O calls n

pub known_first : (m : ℕ) → Known m (λ c. []) (λ c. []) []
known_first m = record { low = λ c. tt; even = λ c. refl; stands = λ n h. absurd (omega arith) }

module _ (m : ℕ) (L : ℕ → List (ℕ × Reply)) (O : ℕ → List Op) (calls : List Answered) (known : Known m L O calls) (d : ℕ) (op : Op) (reply : Reply) (inside : d < m) where
  abbrev pub line : ℕ × Reply
  line = (length calls, reply)

  abbrev pub more : List Answered
  more = calls ++ record { op = op; reply = reply } ∷ []

  long : length more ≡ length calls + 1
  long = length-append calls (record { op = op; reply = reply } ∷ [])

  low_more : (c : ℕ) → Below (length more) (pushed L d line c)
  low_more c = dite (ℕ_discrete c d)
      (λ e. subst (Below (length more)) (sym (cond_here c d (L c ++ line ∷ []) (L c) e)) (below_push (length more) (L c) line (below_more (length calls) (length more) (L c) (omega (arith, long)) (known.low c)) (omega (arith, long))))
      (λ e. subst (Below (length more)) (sym (cond_else c d (L c ++ line ∷ []) (L c) e)) (below_more (length calls) (length more) (L c) (omega (arith, long)) (known.low c)))

  even_more : (c : ℕ) → length (pushed O d op c) ≡ length (pushed L d line c)
  even_more c = dite (ℕ_discrete c d)
      (λ e. ap length (cond_here c d (O c ++ op ∷ []) (O c) e) ∙ omega (arith, length-append (O c) (op ∷ []), length-append (L c) (line ∷ []), known.even c) ∙ sym (ap length (cond_here c d (L c ++ line ∷ []) (L c) e)))
      (λ e. ap length (cond_else c d (O c ++ op ∷ []) (O c) e) ∙ known.even c ∙ sym (ap length (cond_else c d (L c ++ line ∷ []) (L c) e)))

  old_stands : (n : ℕ) → n < length calls → Stands m (pushed L d line) (pushed O d op) more n
  old_stands n h =
      let s : Stands m L O calls n = known.stands n h in
      record {
        caller = s.caller;
        place = s.place;
        below = s.below;
        within = omega (arith, s.within, pushed_long L d line s.caller);
        asked = omega (arith, s.asked, pushed_long O d op s.caller);
        only = from_other L d line n 0 m (λ e. omega arith) ∙ s.only;
        ordered = λ i lt. rw (pushed_at L d line s.caller i (0, Nothing) (omega (arith, s.within))) (s.ordered i lt);
        is =
            ap (λ o. record { op = o; reply = (get_or (pushed L d line s.caller) s.place (0, Nothing)).1 }) (pushed_at O d op s.caller s.place (Get 0) s.asked)
            ∙ ap (λ x. record { op = get_or (O s.caller) s.place (Get 0); reply = x.1 }) (pushed_at L d line s.caller s.place (0, Nothing) s.within)
            ∙ s.is
            ∙ sym (get_or_append_left calls (record { op = op; reply = reply } ∷ []) no_call n h);
      }

  new_stands : (n : ℕ) → n ≡ length calls → Stands m (pushed L d line) (pushed O d op) more n
  new_stands n e =
      let even : length (L d) ≡ length (O d) = sym (known.even d) in
      record {
        caller = d;
        place = length (L d);
        below = inside;
        within = pushed_longer L d line;
        asked = subst (λ k. k < length (pushed O d op d)) (sym even) (pushed_longer O d op);
        only = subst (λ k. carriers_from k 0 (rows (pushed L d line) 0 m) ≡ (d, length (L d)) ∷ []) (sym e) (from_new L d line known.low 0 m (omega arith) (omega arith));
        ordered = λ i lt. rw (pushed_at L d line d i (0, Nothing) lt) (omega (arith, below_at (length calls) (L d) i (0, Nothing) (known.low d) lt));
        is =
            ap (λ x. record { op = get_or (pushed O d op d) (length (L d)) (Get 0); reply = x.1 }) (pushed_last L d line (0, Nothing))
            ∙ (ap (λ o. record { op = o; reply = reply }) (ap (λ k. get_or (pushed O d op d) k (Get 0)) even ∙ pushed_last O d op (Get 0))
            ∙ sym (ap (λ k. get_or more k no_call) e ∙ get_or-append_seam calls (record { op = op; reply = reply }) [] no_call));
      }

  pub known_more : Known m (pushed L d line) (pushed O d op) more
  known_more = record {
    low = low_more;
    even = even_more;
    stands = λ n h. dite (ℕ_discrete n (length calls)) (λ e. new_stands n e) (λ e. old_stands n (omega (arith, long)));
  }
