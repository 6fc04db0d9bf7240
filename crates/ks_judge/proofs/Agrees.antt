-- A run that says what a trace served is legal.
use Rattle.std.proofs.Common.{ℕ, zero, suc, ◌≡◌, ◌<◌, ◌≤◌, ◌+◌, ◌%◌, ◌^◌, List, [], ◌∷◌, ◌++◌, length, get_or, take, map, Some, refl, sym, ◌∙◌, ap, subst, arith, take_all, add-one}
use Rattle.std.specs.Prelude.{All, slice_get}
use Rattle.std.proofs.Math.Path.{fun_ext}
use mathlib.Core.Logic.{dite}
use native.Mathlib.Decide.{ℕ_discrete}
use Rattle.std.specs.List.{AllByRecursion}
use Rattle.std.proofs.lemmas.List.{length-append, length-map, map-append, take_more}
use Rattle.std.proofs.lemmas.Simd.{map-map}
use Rattle.ks_keysets.specs.Record.{IsPlace}
use Rattle.std.proofs.lemmas.List.Elements.{All-tail}
use Rattle.ks_history.specs.declared.Op.{Op}
use Rattle.ks_history.specs.declared.Op.TheVariants.{Get}
use Rattle.ks_history.specs.declared.Reply.{Reply}
use Rattle.ks_history.specs.declared.Reply.TheVariants.{Nothing}
use Rattle.ks_history.specs.declared.Answered.{Answered}
use Rattle.ks_history.specs.declared.Event.{Event}
use Rattle.ks_history.specs.declared.Event.TheVariants.{Take, Give, Claim, Shape, Call, Twin}
use Rattle.ks_history.specs.Trace.{calls_of, calls_by, number_after, NumberedCall}
use Rattle.ks_history.specs.Map.{IsAnswer, map_after, Legal}
use Rattle.ks_history.specs.Laws.Stays.{cond_here, cond_else}
use Rattle.ks_history.specs.Served.{CalledBelow, Served, IsListing, at_place}
use Rattle.ks_script.specs.Script.{calls_in}
use Rattle.ks_judge.specs.declared.judging.Judged.{Judged}
use Rattle.ks_judge.specs.declared.judging.Judged.TheVariants as judged
use Rattle.ks_judge.specs.Verdict.{IsJudged}
use Rattle.ks_judge.specs.Judgment.{WrongAt, at_call, at_map, Lines, IsRight, IsLegalRun, carriers, calls_below, answered_at, line_at}
use Rattle.ks_judge.proofs.Tables.{lines_by, ops_by, rows, rows_are, row_at, pushed, zero_plus}
use Rattle.ks_judge.proofs.Placed.{HasKey, placed, IsPlaced, of_all, ops_back, are_placed, have_keys, placed_back, after_agree, legal_back, listing_back}
use Rattle.ks_judge.proofs.Stand.{Known, Stands, known_first, known_more, no_call}

small : (n : ℕ) → n ≤ 1114112 → n % 2 ^ 64 ≡ n
small n h = omega arith

-- the rows after a call

module _ (key : ℕ → ℕ) (h : List Event) (d i : ℕ) (op : Op) (reply : Reply) where
  mapped : {X : Type 0} (f : NumberedCall → X) → (λ c. map f (calls_by c (Call d i op reply ∷ h))) ≡ pushed (λ c. map f (calls_by c h)) d (f (record { number = number_after h; call = record { op = op; reply = reply } }))
  mapped f = fun_ext (λ c. dite (ℕ_discrete c d)
      (λ e. ap (map f) (cond_here c d (calls_by c h ++ record { number = number_after h; call = record { op = op; reply = reply } } ∷ []) (calls_by c h) e)
      ∙ map-append f (calls_by c h) (record { number = number_after h; call = record { op = op; reply = reply } } ∷ [])
      ∙ sym (cond_here c d (map f (calls_by c h) ++ f (record { number = number_after h; call = record { op = op; reply = reply } }) ∷ []) (map f (calls_by c h)) e))
      (λ e. ap (map f) (cond_else c d (calls_by c h ++ record { number = number_after h; call = record { op = op; reply = reply } } ∷ []) (calls_by c h) e)
      ∙ sym (cond_else c d (map f (calls_by c h) ++ f (record { number = number_after h; call = record { op = op; reply = reply } }) ∷ []) (map f (calls_by c h)) e)))

  lines_more : length (calls_of h) ≤ 1114112 → lines_by (Call d i op reply ∷ h) ≡ pushed (lines_by h) d (length (map (placed key) (calls_of h)), reply)
  lines_more few = mapped (λ x. (x.number, x.call.reply)) ∙ ap (λ n. pushed (lines_by h) d (n, reply)) (small (length (calls_of h)) few ∙ sym (length-map (calls_of h) (placed key)))

  ops_more : ops_by key (Call d i op reply ∷ h) ≡ pushed (ops_by key h) d (at_place key op)
  ops_more = mapped (λ x. at_place key x.call.op)

  calls_more : map (placed key) (calls_of (Call d i op reply ∷ h)) ≡ map (placed key) (calls_of h) ++ record { op = at_place key op; reply = reply } ∷ []
  calls_more = map-append (placed key) (calls_of h) (record { op = op; reply = reply } ∷ [])

one_more : (calls : List Answered) (a : Answered) → length (calls ++ a ∷ []) ≡ length calls + 1
one_more calls a = length-append calls (a ∷ [])

known_call : (key : ℕ → ℕ) (m : ℕ) (h : List Event) (d j : ℕ) (op : Op) (reply : Reply) → d < m → length (calls_of h) ≤ 1114112 → Known m (lines_by h) (ops_by key h) (map (placed key) (calls_of h)) →
    Known m (lines_by (Call d j op reply ∷ h)) (ops_by key (Call d j op reply ∷ h)) (map (placed key) (calls_of (Call d j op reply ∷ h)))
known_call key m h d j op reply inside less known =
    let calls = map (placed key) (calls_of h) in
    let k = known_more m (lines_by h) (ops_by key h) calls known d (at_place key op) reply inside in
    subst (λ L. Known m L (ops_by key (Call d j op reply ∷ h)) (map (placed key) (calls_of (Call d j op reply ∷ h)))) (sym (lines_more key h d j op reply less))
    (subst (λ O. Known m (pushed (lines_by h) d (length calls, reply)) O (map (placed key) (calls_of (Call d j op reply ∷ h)))) (sym (ops_more key h d j op reply))
    (subst (λ cs. Known m (pushed (lines_by h) d (length calls, reply)) (pushed (ops_by key h) d (at_place key op)) cs) (sym (calls_more key h d j op reply)) k))

fewer : (calls : List Answered) (a : Answered) → length (calls ++ a ∷ []) ≤ 1114112 → length calls ≤ 1114112
fewer calls a few = let long = one_more calls a in omega (arith, long)

pub known_of : (key : ℕ → ℕ) (m : ℕ) (h : List Event) → All (CalledBelow m) h → length (calls_of h) ≤ 1114112 → Known m (lines_by h) (ops_by key h) (map (placed key) (calls_of h))
known_of key m [] others few = known_first m
known_of key m (Take d j ∷ h) others few = known_of key m h (All-tail (CalledBelow m) (Take d j) h others) few
known_of key m (Give d j ∷ h) others few = known_of key m h (All-tail (CalledBelow m) (Give d j) h others) few
known_of key m (Claim d j ∷ h) others few = known_of key m h (All-tail (CalledBelow m) (Claim d j) h others) few
known_of key m (Shape d changes ∷ h) others few = known_of key m h (All-tail (CalledBelow m) (Shape d changes) h others) few
known_of key m (Call d j op reply ∷ h) others few =
    let less = fewer (calls_of h) (record { op = op; reply = reply }) few in
    known_call key m h d j op reply (others 0 (Call d j op reply) (omega arith)) less (known_of key m h (All-tail (CalledBelow m) (Call d j op reply) h others) less)
known_of key m (Twin d j k op reply ∷ h) others few =
    let less = fewer (calls_of h) (record { op = op; reply = reply }) few in
    known_call key m h d j op reply (others 0 (Twin d j k op reply) (omega arith)) less (known_of key m h (All-tail (CalledBelow m) (Twin d j k op reply) h others) less)

-- how many calls the rows have

module _ (O : ℕ → List Op) (d : ℕ) (x : Op) where
  total_outside : (c k : ℕ) → d < c → calls_in (rows (pushed O d x) c k) ≡ calls_in (rows O c k)
  total_outside c zero out = refl
  total_outside c (suc k) out =
      let first : length (pushed O d x c) ≡ length (O c) = ap length (cond_else c d (O c ++ x ∷ []) (O c) (λ e. omega arith)) in
      omega (arith, first, total_outside (suc c) k (omega arith))

  total_push : (c k : ℕ) → c ≤ d → d < c + k → calls_in (rows (pushed O d x) c k) ≡ calls_in (rows O c k) + 1
  total_push c zero le lt = absurd (omega arith)
  total_push c (suc k) le lt = dite (ℕ_discrete c d)
      (λ e. let first : length (pushed O d x c) ≡ length (O c ++ x ∷ []) = ap length (cond_here c d (O c ++ x ∷ []) (O c) e) in
      omega (arith, first, length-append (O c) (x ∷ []), total_outside (suc c) k (omega arith)))
      (λ e. let first : length (pushed O d x c) ≡ length (O c) = ap length (cond_else c d (O c ++ x ∷ []) (O c) e) in
      omega (arith, first, total_push (suc c) k (omega arith) (omega arith)))

total_none : (c k : ℕ) → calls_in {X = Op} (rows (λ b. []) c k) ≡ 0
total_none c zero = refl
total_none c (suc k) = zero_plus (calls_in {X = Op} (rows (λ b. []) (suc c) k)) ∙ total_none (suc c) k

total_call : (key : ℕ → ℕ) (m : ℕ) (h : List Event) (d j : ℕ) (op : Op) (reply : Reply) → d < m → calls_in (rows (ops_by key h) 0 m) ≡ length (calls_of h) →
    calls_in (rows (ops_by key (Call d j op reply ∷ h)) 0 m) ≡ length (calls_of (Call d j op reply ∷ h))
total_call key m h d j op reply inside before =
    ap (λ O. calls_in (rows O 0 m)) (ops_more key h d j op reply)
    ∙ total_push (ops_by key h) d (at_place key op) 0 m (omega arith) (omega arith)
    ∙ ap (λ n. n + 1) before
    ∙ sym (one_more (calls_of h) (record { op = op; reply = reply }))

pub total : (key : ℕ → ℕ) (m : ℕ) (h : List Event) → All (CalledBelow m) h → calls_in (rows (ops_by key h) 0 m) ≡ length (calls_of h)
total key m [] others = total_none 0 m
total key m (Take d j ∷ h) others = total key m h (All-tail (CalledBelow m) (Take d j) h others)
total key m (Give d j ∷ h) others = total key m h (All-tail (CalledBelow m) (Give d j) h others)
total key m (Claim d j ∷ h) others = total key m h (All-tail (CalledBelow m) (Claim d j) h others)
total key m (Shape d changes ∷ h) others = total key m h (All-tail (CalledBelow m) (Shape d changes) h others)
total key m (Call d j op reply ∷ h) others = total_call key m h d j op reply (others 0 (Call d j op reply) (omega arith)) (total key m h (All-tail (CalledBelow m) (Call d j op reply) h others))
total key m (Twin d j k op reply ∷ h) others = total_call key m h d j op reply (others 0 (Twin d j k op reply) (omega arith)) (total key m h (All-tail (CalledBelow m) (Twin d j k op reply) h others))

-- rows are read by their number

row_is : {X : Type 0} (g : ℕ → X) (m i : ℕ) (d : X) → i < m → get_or (rows g 0 m) i d ≡ g i
row_is g m i d h = row_at g 0 m i d h ∙ ap g (zero_plus i)

slice_get_is : (xs : List Answered) (i : ℕ) → i < length xs → slice_get xs i ≡ Some (get_or xs i no_call)
slice_get_is [] i h = absurd (omega arith)
slice_get_is (x ∷ xs) zero h = refl
slice_get_is (x ∷ xs) (suc i) h = slice_get_is xs i (omega arith)

module _ (m : ℕ) (L : ℕ → List (ℕ × Reply)) (O : ℕ → List Op) (calls : List Answered) (known : Known m L O calls) where
  answered : (n : ℕ) (lt : n < length calls) → answered_at (rows O 0 m) (rows L 0 m) ((known.stands n lt).caller, (known.stands n lt).place) ≡ get_or calls n no_call
  answered n lt =
      let s : Stands m L O calls n = known.stands n lt in
      ap (λ ops. record { op = get_or ops s.place (Get 0); reply = (line_at (rows L 0 m) s.caller s.place).1 }) (row_is O m s.caller [] s.below)
      ∙ ap (λ ls. record { op = get_or (O s.caller) s.place (Get 0); reply = (get_or ls s.place (0, Nothing)).1 }) (row_is L m s.caller [] s.below)
      ∙ s.is

  below_is : (n : ℕ) → n ≤ length calls → calls_below (rows O 0 m) (rows L 0 m) n ≡ take n calls
  below_is zero le = refl
  below_is (suc n) le =
      let s : Stands m L O calls n = known.stands n (omega arith) in
      ap (λ l. l ++ map (answered_at (rows O 0 m) (rows L 0 m)) (carriers (rows L 0 m) n)) (below_is n (omega arith))
      ∙ ap (λ l. take n calls ++ map (answered_at (rows O 0 m) (rows L 0 m)) l) s.only
      ∙ ap (λ a. take n calls ++ a ∷ []) (answered n (omega arith))
      ∙ sym (take_more calls n no_call (omega arith))
      ∙ ap (λ k. take k calls) (add-one n)

  right : Legal calls → (n : ℕ) → n < length calls → IsRight (rows O 0 m) (rows L 0 m) n
  right legal n lt =
      let s : Stands m L O calls n = known.stands n lt in
      record {
        placed = record {
          caller = s.caller;
          place = s.place;
          only = s.only;
          ordered = λ i less. rw (row_is L m s.caller [] s.below) (s.ordered i less);
        };
        answers =
            subst (λ a. IsAnswer (map_after (calls_below (rows O 0 m) (rows L 0 m) n)) a.op a.reply) (sym (answered n lt))
            (subst (λ cs. IsAnswer (map_after cs) (get_or calls n no_call).op (get_or calls n no_call).reply) (sym (below_is n (omega arith))) (legal n (get_or calls n no_call) (slice_get_is calls n lt)));
      }

-- the keys of the operations at places

module _ (place key : ℕ → ℕ) (back : (k : ℕ) → IsPlace k → key (place k) ≡ k) where
  abbrev pub AreKeyed : List (List Op) → Type 0
  AreKeyed script = AllByRecursion (AllByRecursion (HasKey place)) script

  keyed : (h : List Event) (c : ℕ) (ops : List Op) → AllByRecursion (HasKey place) ops → map (λ x. x.call.op) (calls_by c h) ≡ map (at_place place) ops → ops_by key h c ≡ ops
  keyed h c ops are is = sym (map-map (at_place key) (λ x. x.call.op) (calls_by c h)) ∙ ap (map (at_place key)) is ∙ ops_back place key back ops are

  ops_at : (script : List (List Op)) (c : ℕ) → c < length script → AreKeyed script → (ops : List Op) × (slice_get script c ≡ Some ops) × AllByRecursion (HasKey place) ops
  ops_at [] c lt are = absurd (omega arith)
  ops_at (ops ∷ script) zero lt are = (ops, refl, are.0)
  ops_at (ops ∷ script) (suc c) lt are = ops_at script c (omega arith) are.1

  keys_at : (script : List (List Op)) (c : ℕ) (ops : List Op) → AreKeyed script → slice_get script c ≡ Some ops → AllByRecursion (HasKey place) ops
  keys_at [] c ops are e = absurd cc
  keys_at (x ∷ script) zero ops are e = let same : x ≡ ops = cc in subst (AllByRecursion (HasKey place)) same are.0
  keys_at (x ∷ script) (suc c) ops are e = keys_at script c ops are.1 e

  pub agrees : (script : List (List Op)) (lines : Lines) (pairs : List (ℕ × ℕ)) (h : List Event) → calls_in script ≤ 1114112 → AreKeyed script → Served place script lines pairs h → IsLegalRun script lines pairs
  agrees script lines pairs h few are served =
      let m = length script in
      let rooted : (c : ℕ) → c < m → AllByRecursion (IsPlaced place key back) (map (λ x. x.call.op) (calls_by c h)) =
      λ c lt. let o = ops_at script c lt are in subst (AllByRecursion (IsPlaced place key back)) (sym (served.asked c o.0 o.1)) (are_placed place key back o.0 o.2) in
      let all : AllByRecursion (λ a. IsPlaced place key back a.op) (calls_of h) = of_all (IsPlaced place key back) m h served.others rooted in
      let calls = map (placed key) (calls_of h) in
      let keys : AllByRecursion (λ a. HasKey place a.op) calls = have_keys place key back (calls_of h) all in
      let whole_back : map (placed place) calls ≡ calls_of h = placed_back place key back (calls_of h) all in
      let legal : Legal calls = legal_back place key back calls keys (subst Legal (sym whole_back) served.legal) in
      let final : IsListing (map_after calls) pairs =
      listing_back place key back (map_after (calls_of h)) (map_after calls) pairs (subst (λ cs. (k : ℕ) → IsPlace k → map_after cs (place k) ≡ map_after calls k) whole_back (after_agree place key back calls keys)) served.final in
      let scripts : script ≡ rows (ops_by key h) 0 m = rows_are (ops_by key h) 0 script (λ i x e. ap (ops_by key h) (zero_plus i) ∙ keyed h i x (keys_at script i x are e) (served.asked i x e)) in
      let told : lines ≡ rows (lines_by h) 0 m = rows_are (lines_by h) 0 lines (λ i x e. ap (lines_by h) (zero_plus i) ∙ served.told i x e) ∙ ap (rows (lines_by h) 0) served.callers in
      let long : length calls ≡ length (calls_of h) = length-map (calls_of h) (placed key) in
      let count : calls_in script ≡ length calls = ap calls_in scripts ∙ total key m h served.others ∙ sym long in
      let known : Known m (lines_by h) (ops_by key h) calls = known_of key m h served.others (omega (arith, count, long)) in
      let whole : calls_below (rows (ops_by key h) 0 m) (rows (lines_by h) 0 m) (calls_in script) ≡ calls =
      below_is m (lines_by h) (ops_by key h) calls known (calls_in script) (omega (arith, count)) ∙ ap (λ k. take k calls) count ∙ take_all (length calls) calls (omega arith) in
      record {
        numbers = λ n lt.
            subst (λ s. IsRight s lines n) (sym scripts) (subst (λ l. IsRight (rows (ops_by key h) 0 m) l n) (sym told) (right m (lines_by h) (ops_by key h) calls known legal n (omega (arith, count))));
        map =
            subst (λ s. IsListing (map_after (calls_below s lines (calls_in script))) pairs) (sym scripts)
            (subst (λ l. IsListing (map_after (calls_below (rows (ops_by key h) 0 m) l (calls_in script))) pairs) (sym told)
            (subst (λ cs. IsListing (map_after cs) pairs) (sym whole) final));
      }

-- so no judgment finds a wrong number in it
pub no_wrong : (script : List (List Op)) (lines : Lines) (pairs : List (ℕ × ℕ)) (n : ℕ) → IsLegalRun script lines pairs → WrongAt script lines pairs n → ⊥
no_wrong script lines pairs n legal (at_call {n = k} lt wrong) = wrong (legal.numbers k lt)
no_wrong script lines pairs n legal (at_map wrong) = wrong legal.map

pub judged_legal : (script : List (List Op)) (lines : Lines) (pairs : List (ℕ × ℕ)) (j : Judged) → IsLegalRun script lines pairs → IsJudged script lines pairs j → j ≡ judged.Legal (calls_in script)
judged_legal script lines pairs (judged.Legal calls) legal is = ap (λ n. judged.Legal n) is.0
judged_legal script lines pairs (judged.Wrong n) legal is = absurd (no_wrong script lines pairs n legal is.wrong)
