-- The places of the callers' next calls, where all numbers so far are right, and the call that a number has.
use Rattle.std.proofs.Common.{ℕ, ◌≡◌, ◌<◌, ◌+◌, List, [], length, get_or, set, replicate, map, refl, sym, ◌∙◌, ap, subst, arith}
use mathlib.Core.Logic.{dite}
use native.Mathlib.Decide.{ℕ_discrete}
use Rattle.std.proofs.lemmas.List.{get_or-set_same, get_or-set_other, length-set, get_or-replicate, length-replicate, get_or-map, length-map}
use Rattle.ks_history.specs.declared.Op.{Op}
use Rattle.ks_history.specs.declared.Op.TheVariants.{Get}
use Rattle.ks_history.specs.declared.Reply.{Reply}
use Rattle.ks_history.specs.declared.Reply.TheVariants.{Nothing}
use Rattle.ks_history.specs.Trace.{NumberedCall}
use Rattle.ks_history.specs.Write.{Map}
use Rattle.ks_lines.specs.declared.Line.{Line}
use Rattle.ks_lines.specs.declared.Said.{Said}
use Rattle.ks_lines.specs.Lines.{MayAnswer, AllBoth, AreAnswered, calls_of_lines, calls_of_script, ops_in, replies_in}
use Rattle.ks_judge.specs.declared.replay.Place.{Place}
use Rattle.ks_judge.specs.declared.slots.Slot.{Slot}
use Rattle.ks_judge.specs.declared.slots.Slot.TheVariants.{One}
use Rattle.ks_judge.specs.Judgment.{Lines, line_at, op_at, answered_at, carriers, IsRight}
use Rattle.ks_judge.specs.Slots.{TellsSlot}
use Rattle.ks_judge.specs.Places.{no_call, call_in, IsPlaceIn, place_after, IsAnswered, HasMade}
use Rattle.ks_judge.proofs.Replays.{After, RightBelow, IsCallOf, right_if, only_if, after_more}
use Rattle.ks_judge.proofs.Turns.{Turns, turns_none, IsNext, next_found, next_wrong, next_turns, next_call}
use Rattle.ks_judge.proofs.Flat.{reply_in, op_in, at_caller, both_at, callers_long}
use Rattle.ks_judge.proofs.Cursor.{IsAt, at_start, is_place, call_is, next_at}

abbrev pub start : Place
start = record { line = 0; part = 0 }

-- a call, by its operation and its reply
call_of : (op : Op) (reply : ℕ × Reply) (x : NumberedCall) → op ≡ op_in x → reply ≡ reply_in x → record { op = op; reply = reply.1 } ≡ x.call
call_of op reply x is_op is_reply = ap (λ (o : Op). record { op = o; reply = reply.1 }) is_op ∙ ap (λ (r : ℕ × Reply). record { op = op_in x; reply = r.1 }) is_reply

module _ (script : List (List Line)) (said : List (List Said)) where
  abbrev pub ops : List (List Op)
  ops = ops_in script said

  abbrev pub replies : Lines
  replies = replies_in script said

  -- the numbers below n are right, and the place of each caller is that of its next call
  pub record Stand (n : ℕ) (places : List Place) : Type 0 where
    pub made : List ℕ
    pub turns : Turns replies n made
    pub count : length places ≡ length script
    pub at : (c : ℕ) → c < length script → IsAt (get_or script c []) (get_or said c []) (get_or places c start) (get_or made c 0)

module _ (script : List (List Line)) (said : List (List Said)) (answered : AreAnswered script said) where
  long : length (replies_in script said) ≡ length script
  long = length-map (calls_of_script script said) (map reply_in) ∙ (callers_long script said answered).1

  pub stand_first : (m : ℕ) (places : List Place) → places ≡ replicate m start → m ≡ length script → Stand script said 0 places
  stand_first m places is count = record {
    made = replicate m 0;
    turns = turns_none (replies_in script said) m (replicate m 0) refl (omega (arith, count, long));
    count = ap length is ∙ length-replicate m start ∙ count;
    at = λ c lt.
        let first : get_or places c start ≡ start = ap (λ (xs : List Place). get_or xs c start) is ∙ get_or-replicate m c start start (omega (arith, count)) in
        let none : get_or (replicate m 0) c 0 ≡ 0 = get_or-replicate m c 0 0 (omega (arith, count)) in
        subst (λ (x : Place). IsAt (get_or script c []) (get_or said c []) x (get_or (replicate m 0) c 0)) (sym first)
        (subst (λ (k : ℕ). IsAt (get_or script c []) (get_or said c []) start k) (sym none) (at_start (get_or script c []) (get_or said c []) (both_at script said c answered)));
  }

  -- the next call of the caller whose line has the number n, at place x of its lines ls and of what is said of them
  pub record IsRead (n c : ℕ) (places : List Place) (stand : Stand script said n places) (x : Place) (ls : List Line) (ss : List Said) : Type 0 where
    pub caller : c < length script
    pub next : IsNext (replies_in script said) n c stand.made
    pub both : AllBoth MayAnswer ls ss
    pub at : IsAt ls ss x (get_or stand.made c 0)
    pub place : IsPlaceIn ls ss x
    pub line : line_at (replies_in script said) c (get_or stand.made c 0) ≡ reply_in (call_in ls ss x)
    pub call : answered_at (ops_in script said) (replies_in script said) (c, get_or stand.made c 0) ≡ (call_in ls ss x).call
    pub is_ls : get_or script c [] ≡ ls
    pub is_ss : get_or said c [] ≡ ss
    pub is_x : x ≡ get_or places c start

  pub caller_of : (n c : ℕ) (places : List Place) → Stand script said n places → (slot : Slot) → slot ≡ One c → TellsSlot (replies_in script said) n slot (carriers (replies_in script said) n) → c < length script
  caller_of n c places stand slot one tells = let next = next_found (replies_in script said) n c stand.made slot stand.turns one tells in omega (arith, next.stands.0, long)

  pub read : (n c : ℕ) (places : List Place) (stand : Stand script said n places) (slot : Slot) (x : Place) (ls : List Line) (ss : List Said) →
      slot ≡ One c → TellsSlot (replies_in script said) n slot (carriers (replies_in script said) n) → x ≡ get_or places c start → get_or script c [] ≡ ls → get_or said c [] ≡ ss → IsRead n c places stand x ls ss
  read n c places stand slot x ls ss one tells is_x is_ls is_ss =
      let next = next_found (replies_in script said) n c stand.made slot stand.turns one tells in
      let there : c < length script = omega (arith, next.stands.0, long) in
      let both : AllBoth MayAnswer ls ss = subst (λ (l : List Line). AllBoth MayAnswer l ss) is_ls (subst (λ (s : List Said). AllBoth MayAnswer (get_or script c []) s) is_ss (both_at script said c answered)) in
      let p : ℕ = get_or stand.made c 0 in
      let calls : List NumberedCall = calls_of_lines ls ss in
      let same : calls_of_lines (get_or script c []) (get_or said c []) ≡ calls = ap (λ (l : List Line). calls_of_lines l (get_or said c [])) is_ls ∙ ap (λ (s : List Said). calls_of_lines ls s) is_ss in
      let row : get_or (replies_in script said) c [] ≡ map reply_in calls = at_caller reply_in script said c answered ∙ ap (map reply_in) same in
      let asked : get_or (ops_in script said) c [] ≡ map op_in calls = at_caller op_in script said c answered ∙ ap (map op_in) same in
      let in' : p < length calls = subst (λ (k : ℕ). p < k) (ap length row ∙ length-map calls reply_in) next.stands.1 in
      let at : IsAt ls ss x p = subst (λ (y : Place). IsAt ls ss y p) (sym is_x) (subst (λ (l : List Line). IsAt l ss (get_or places c start) p) is_ls (subst (λ (s : List Said). IsAt (get_or script c []) s (get_or places c start) p) is_ss (stand.at c there))) in
      let is : get_or calls p no_call ≡ call_in ls ss x = call_is ls ss both x p at in' in
      let line : line_at (replies_in script said) c p ≡ reply_in (call_in ls ss x) = ap (λ (r : List (ℕ × Reply)). get_or r p (0, Nothing)) row ∙ get_or-map reply_in calls p no_call (0, Nothing) in' ∙ ap reply_in is in
      let op : op_at (ops_in script said) c p ≡ op_in (call_in ls ss x) = ap (λ (r : List Op). get_or r p (Get 0)) asked ∙ get_or-map op_in calls p no_call (Get 0) in' ∙ ap op_in is in
      record {
        caller = there;
        next = next;
        both = both;
        at = at;
        place = is_place ls ss both x p at in';
        line = line;
        call = call_of (op_at (ops_in script said) c p) (line_at (replies_in script said) c p) (call_in ls ss x) op line;
        is_ls = is_ls;
        is_ss = is_ss;
        is_x = is_x;
      }

  module _ (n c : ℕ) (places : List Place) (stand : Stand script said n places) (x : Place) (ls : List Line) (ss : List Said) (it : IsRead n c places stand x ls ss) (m : Map) (after : After (ops_in script said) (replies_in script said) n m) where
    here : (call_in ls ss x).number ≡ n → (line_at (replies_in script said) c (get_or stand.made c 0)).0 ≡ n
    here is = ap (λ (r : ℕ × Reply). r.0) it.line ∙ is

    its_call : (call_in ls ss x).number ≡ n → IsCallOf (ops_in script said) (replies_in script said) n (call_in ls ss x).call
    its_call is = next_call (ops_in script said) (replies_in script said) n c stand.made stand.turns it.next (call_in ls ss x).call it.call (here is)

    -- where the call has another number, or another answer, n is wrong
    pub read_wrong : RightBelow (ops_in script said) (replies_in script said) n → (IsAnswered m n (call_in ls ss x) → ⊥) → IsRight (ops_in script said) (replies_in script said) n → ⊥
    read_wrong before wrong right = dite (ℕ_discrete (call_in ls ss x).number n)
        (λ e. wrong (e, only_if (ops_in script said) (replies_in script said) m n (call_in ls ss x).call (its_call e) after right))
        (λ e. next_wrong (ops_in script said) (replies_in script said) n c stand.made stand.turns it.next before (λ is. e (sym (ap (λ (r : ℕ × Reply). r.0) it.line) ∙ is)) right)

    -- and else n is right, and one number more is read
    module _ (is : IsAnswered m n (call_in ls ss x)) where
      pub read_right : IsRight (ops_in script said) (replies_in script said) n
      read_right = right_if (ops_in script said) (replies_in script said) m n (call_in ls ss x).call (its_call is.0) after is.1

      pub read_after : (k : Map) → HasMade m (call_in ls ss x).call k → After (ops_in script said) (replies_in script said) (n + 1) k
      read_after k made = after_more (ops_in script said) (replies_in script said) m k n (call_in ls ss x).call (its_call is.0) after made

      pub read_stand : (next : Place) → next ≡ place_after ls ss x → Stand script said (n + 1) (set places c next)
      read_stand next is_next = record {
        made = set stand.made c (p + 1);
        turns = next_turns (ops_in script said) (replies_in script said) n c stand.made stand.turns it.next (here is.0);
        count = length-set places c next ∙ stand.count;
        at = λ d lt. dite (ℕ_discrete d c) (λ e. subst At (sym e) same) (λ e. other d e (stand.at d lt));
      }
        where
          p : ℕ
          p = get_or stand.made c 0

          At : ℕ → Type 0
          At d = IsAt (get_or script d []) (get_or said d []) (get_or (set places c next) d start) (get_or (set stand.made c (p + 1)) d 0)

          same : At c
          same =
              let in' : p < length (calls_of_lines ls ss) = inside in
              let here' : get_or (set places c next) c start ≡ place_after ls ss x = get_or-set_same places c next start (omega (arith, it.caller, stand.count)) ∙ is_next in
              let there : get_or (set stand.made c (p + 1)) c 0 ≡ p + 1 = get_or-set_same stand.made c (p + 1) 0 (omega (arith, it.next.stands.0, stand.turns.count)) in
              subst (λ (k : ℕ). IsAt (get_or script c []) (get_or said c []) (get_or (set places c next) c start) k) (sym there)
              (subst (λ (y : Place). IsAt (get_or script c []) (get_or said c []) y (p + 1)) (sym here')
              (subst (λ (l : List Line). IsAt l (get_or said c []) (place_after ls ss x) (p + 1)) (sym it.is_ls)
              (subst (λ (s : List Said). IsAt ls s (place_after ls ss x) (p + 1)) (sym it.is_ss) (next_at ls ss it.both x p it.at in'))))
            where
              inside : p < length (calls_of_lines ls ss)
              inside =
                  let row : get_or (replies_in script said) c [] ≡ map reply_in (calls_of_lines (get_or script c []) (get_or said c [])) = at_caller reply_in script said c answered in
                  let both : calls_of_lines (get_or script c []) (get_or said c []) ≡ calls_of_lines ls ss = ap (λ (l : List Line). calls_of_lines l (get_or said c [])) it.is_ls ∙ ap (λ (s : List Said). calls_of_lines ls s) it.is_ss in
                  subst (λ (k : ℕ). p < k) (ap length row ∙ length-map (calls_of_lines (get_or script c []) (get_or said c [])) reply_in ∙ ap length both) it.next.stands.1

          other : (d : ℕ) → (d ≡ c → ⊥) → IsAt (get_or script d []) (get_or said d []) (get_or places d start) (get_or stand.made d 0) → At d
          other d e is' =
              subst (λ (k : ℕ). IsAt (get_or script d []) (get_or said d []) (get_or (set places c next) d start) k) (sym (get_or-set_other stand.made c d (p + 1) 0 e))
              (subst (λ (y : Place). IsAt (get_or script d []) (get_or said d []) y (get_or stand.made d 0)) (sym (get_or-set_other places c d next start e)) is')
