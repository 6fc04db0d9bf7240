-- A small trace, of a put and a get: it served the script of a test, at the places of a hash table.
use Rattle.std.proofs.Common.{ℕ, zero, suc, ◌≡◌, ◌<◌, ◌≤◌, inl, List, [], ◌∷◌, map, slice_get, Some, None, refl, sym, ◌∙◌, ap, subst, arith}
use Rattle.std.specs.Prelude.{All, Contains}
use mathlib.Core.Logic.{dite}
use native.Mathlib.Decide.{ℕ_discrete}
use Rattle.std.proofs.lemmas.Option.{same_Some}
use Rattle.ks_places.specs.Golden.{golden_place}
use Rattle.ks_places.specs.Inverse.{golden_key}
use Rattle.ks_places.specs.Laws.Golden.{golden_round}
use Rattle.ks_keysets.specs.Record.{IsPlace}
use Rattle.ks_history.specs.declared.Op.{Op}
use Rattle.ks_history.specs.declared.Op.TheVariants.{Get, Put}
use Rattle.ks_history.specs.declared.Reply.{Reply}
use Rattle.ks_history.specs.declared.Reply.TheVariants.{Nothing, Value}
use Rattle.ks_history.specs.declared.Answered.{Answered}
use Rattle.ks_history.specs.declared.Event.{Event}
use Rattle.ks_history.specs.declared.Event.TheVariants.{Take, Give, Call}
use Rattle.ks_history.specs.Map.{IsAnswer, map_after, Legal}
use Rattle.ks_history.specs.Trace.{calls_of, calls_by}
use Rattle.ks_history.specs.Served.{at_place, CalledBelow, IsListing, Served}
use Rattle.ks_history.specs.Laws.Stays.{cond_here, cond_else}
use Rattle.ks_lines.specs.declared.Line.{Line}
use Rattle.ks_lines.specs.declared.Line.TheVariants as line
use Rattle.ks_lines.specs.declared.Said.{Said}
use Rattle.ks_lines.specs.declared.Said.TheVariants as said
use Rattle.ks_lines.specs.Lines.{AreAnswered, ops_in, replies_in}
use Rattle.ks_lines.specs.ServedLines.{ServedLines}
use Rattle.ks_script.specs.Script.{calls_in}
use Rattle.ks_judge.specs.Keys.{AreKeys, KeepsSpans}

-- what is asked and said

abbrev pub asked_lines : List (List Line)
asked_lines = (line.Call (Put 5 50) ∷ line.Call (Get 5) ∷ []) ∷ []

abbrev pub told_lines : List (List Said)
told_lines = (said.Call 0 Nothing ∷ said.Call 1 (Value 50) ∷ []) ∷ []

abbrev pub last_pairs : List (ℕ × ℕ)
last_pairs = (5, 50) ∷ []

-- and the trace, in which a caller holds the root all the while
abbrev pub traced : List Event
traced = Give 0 0 ∷ Call 0 0 (Get (golden_place 5)) (Value 50) ∷ Call 0 0 (Put (golden_place 5) 50) Nothing ∷ Take 0 0 ∷ []

keys_can_be_places : AreKeys asked_lines
keys_can_be_places = (((tt, λ k is. omega (arith, is)), ((tt, λ k is. omega (arith, is)), tt)), tt)

no_spans : KeepsSpans golden_place asked_lines
no_spans = ((tt, (tt, tt)), tt)

is_answered : AreAnswered asked_lines told_lines
is_answered = ((tt, (tt, tt)), tt)

apart : (j k : ℕ) → IsPlace j → IsPlace k → golden_place j ≡ golden_place k → j ≡ k
apart j k place place' same = sym (golden_round j (omega arith)) ∙ ap golden_key same ∙ golden_round k (omega arith)

is_map : IsListing (λ k. map_after (calls_of traced) (golden_place k)) last_pairs
is_map = record { exact = λ k v. (there k v, back k v); ascend = λ i j d lt lt'. absurd (omega arith) }
  where
    pair_is : (k v : ℕ) → 5 ≡ k → 50 ≡ v → let x : ℕ × ℕ = (5, 50) in let y : ℕ × ℕ = (k, v) in x ≡ y
    pair_is k v key value = ap (λ (n : ℕ). let x : ℕ × ℕ = (n, 50) in x) key ∙ ap (λ (n : ℕ). let x : ℕ × ℕ = (k, n) in x) value

    there : (k v : ℕ) → IsPlace k × (map_after (calls_of traced) (golden_place k) ≡ Some v) → Contains last_pairs (k, v)
    there k v is = dite (ℕ_discrete (golden_place 5) (golden_place k))
        (λ same. (0, omega arith, pair_is k v (apart 5 k (omega arith) is.0 same) (same_Some 50 v (sym (cond_here (golden_place 5) (golden_place k) (Some 50) None same) ∙ is.1))))
        (λ other. let x : None ≡ Some v = sym (cond_else (golden_place 5) (golden_place k) (Some 50) None other) ∙ is.1 in absurd (cc))

    back : (k v : ℕ) → Contains last_pairs (k, v) → IsPlace k × (map_after (calls_of traced) (golden_place k) ≡ Some v)
    back k v (zero, lt, same) =
        let key : 5 ≡ k = ap (λ (x : ℕ × ℕ). x.0) same in
        let value : 50 ≡ v = ap (λ (x : ℕ × ℕ). x.1) same in
        (omega arith, cond_here (golden_place 5) (golden_place k) (Some 50) None (ap golden_place key) ∙ ap (λ (n : ℕ). Some n) value)
    back k v (suc i, lt, same) = absurd (omega arith)

is_history : Served golden_place (ops_in asked_lines told_lines) (replies_in asked_lines told_lines) last_pairs traced
is_history = record { asked = asked; told = told_so; callers = refl; others = called; legal = legal; final = is_map }
  where
    asked : (c : ℕ) (ops : List Op) → slice_get (ops_in asked_lines told_lines) c ≡ Some ops → map (λ x. x.call.op) (calls_by c traced) ≡ map (at_place golden_place) ops
    asked zero ops is = ap (map (at_place golden_place)) (same_Some (Put 5 50 ∷ Get 5 ∷ []) ops is)
    asked (suc c) ops is = absurd (cc)

    told_so : (c : ℕ) (ls : List (ℕ × Reply)) → slice_get (replies_in asked_lines told_lines) c ≡ Some ls → map (λ x. (x.number, x.call.reply)) (calls_by c traced) ≡ ls
    told_so zero ls is = same_Some ((0, Nothing) ∷ (1, Value 50) ∷ []) ls is
    told_so (suc c) ls is = absurd (cc)

    called : All (CalledBelow 1) traced
    called zero d lt = tt
    called (suc zero) d lt = omega arith
    called (suc (suc zero)) d lt = omega arith
    called (suc (suc (suc zero))) d lt = tt
    called (suc (suc (suc (suc k)))) d lt = absurd (omega arith)

    legal : Legal (calls_of traced)
    legal zero a is = subst (λ (x : Answered). IsAnswer (map_after []) x.op x.reply) (same_Some (record { op = Put (golden_place 5) 50; reply = Nothing }) a is) (inl refl)
    legal (suc zero) a is = subst (λ (x : Answered). IsAnswer (map_after (record { op = Put (golden_place 5) 50; reply = Nothing } ∷ [])) x.op x.reply) (same_Some (record { op = Get (golden_place 5); reply = Value 50 }) a is) refl
    legal (suc (suc k)) a is = absurd (cc)

is_served : ServedLines golden_place asked_lines told_lines last_pairs traced
is_served = record { answered = is_answered; calls = is_history }

-- all that the law asks of a script and its run, with how many calls they make
abbrev pub Asks : List (List Line) → List (List Said) → List (ℕ × ℕ) → Type 0
Asks script said pairs = (calls_in (ops_in script said) ≡ 2) × (calls_in (ops_in script said) ≤ 1114112) × AreKeys script × KeepsSpans golden_place script × ServedLines golden_place script said pairs traced

asks : Asks asked_lines told_lines last_pairs
asks = let two : calls_in (ops_in asked_lines told_lines) ≡ 2 = refl in (two, omega (arith, two), keys_can_be_places, no_spans, is_served)

pub asks_of : (script : List (List Line)) (said : List (List Said)) (pairs : List (ℕ × ℕ)) → script ≡ asked_lines → said ≡ told_lines → pairs ≡ last_pairs → Asks script said pairs
asks_of script said pairs a b c =
    subst (λ (x : List (List Line)). Asks x said pairs) (sym a)
    (subst (λ (x : List (List Said)). Asks asked_lines x pairs) (sym b)
    (subst (λ (x : List (ℕ × ℕ)). Asks asked_lines told_lines x) (sym c) asks))
