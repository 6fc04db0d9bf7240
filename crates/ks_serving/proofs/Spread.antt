-- The calls that lines represent: with one line more, of all callers, and of one.
use Rattle.std.proofs.Common.{◌≡◌, ℕ, zero, suc, ◌+◌, ◌<◌, ◌≤◌, List, [], ◌∷◌, ◌++◌, map, length, take, drop, get_or, sym, refl, ap, ap₂, subst, ◌∙◌, arith, drop-cons}
use Rattle.std.specs.Prelude.{Bool, true, All}
use Rattle.std.proofs.lemmas.List.{map-append, append_assoc, append-nil, take_all, take_more}
use Rattle.std.proofs.lemmas.List.Elements.{All-weaker}
use mathlib.Core.Option.{some}
use lib.ListN.{get_elem?}
use Rattle.ks_history.specs.declared.Event.{Event}
use Rattle.ks_history.specs.declared.Op.{Op}
use Rattle.ks_history.specs.declared.Op.TheVariants.{Get, Put, Del, Add, Swap, Move, Part as lists}
use Rattle.ks_history.specs.declared.Reply.{Reply}
use Rattle.ks_history.specs.Trace.{NumberedCall, calls_by}
use Rattle.ks_history.specs.Served.{at_place}
use Rattle.ks_lines.specs.declared.Line.{Line}
use Rattle.ks_lines.specs.declared.Line.TheVariants.{Call, Scan}
use Rattle.ks_lines.specs.declared.Said.{Said}
use Rattle.ks_lines.specs.Lines.{AllBoth, IsServedLine, MayAnswer, calls_of_line, calls_of_lines, calls_of_script}
use Rattle.ks_jobs.specs.Rooms.{HaveRooms, Room, rooms_after}
use Rattle.ks_jobs.specs.Work.{asked_by, told_by, ops_of_lines, replies_of_lines}
use Rattle.ks_serving.specs.Called.{call_at}

-- two lists, each with one element more
pub both_more : {X Y : Type 0} (Of : X → Y → Type 0) (xs : List X) (ys : List Y) (x : X) (y : Y) → AllBoth Of xs ys → Of x y → AllBoth Of (xs ++ x ∷ []) (ys ++ y ∷ [])
both_more Of [] [] x y all one = (one, tt)
both_more Of [] (z ∷ ys) x y all one = absurd all
both_more Of (w ∷ xs) [] x y all one = absurd all
both_more Of (w ∷ xs) (z ∷ ys) x y all one = (all.0, both_more Of xs ys x y all.1 one)

-- what holds of the elements in each place of two lists of one length
pub both_at : {X Y : Type 0} (Of : X → Y → Type 0) (xs : List X) (ys : List Y) → length ys ≡ length xs
    → ((i : ℕ) (x : X) (y : Y) → get_elem? xs i ≡ some x → get_elem? ys i ≡ some y → Of x y) → AllBoth Of xs ys
both_at Of [] [] long each = tt
both_at Of [] (y ∷ ys) long each = absurd (omega (arith, long))
both_at Of (x ∷ xs) [] long each = absurd (omega (arith, long))
both_at Of (x ∷ xs) (y ∷ ys) long each = (each 0 x y refl refl, both_at Of xs ys (omega (arith, long)) (λ i z w at at'. each (suc i) z w at at'))

-- the calls of lines, with one line more
pub lines_more : (ls : List Line) (ss : List Said) (l : Line) (s : Said) → AllBoth MayAnswer ls ss → calls_of_lines (ls ++ l ∷ []) (ss ++ s ∷ []) ≡ calls_of_lines ls ss ++ calls_of_line l s
lines_more [] [] l s all = append-nil (calls_of_line l s)
lines_more [] (y ∷ ss) l s all = absurd all
lines_more (x ∷ ls) [] l s all = absurd all
lines_more (x ∷ ls) (y ∷ ss) l s all =
    ap (λ (z : List NumberedCall). calls_of_line x y ++ z) (lines_more ls ss l s all.1)
    ∙ sym (append_assoc (calls_of_line x y) (calls_of_lines ls ss) (calls_of_line l s))

-- what a caller has called, with the calls of one line more
pub called_more : (place : ℕ → ℕ) (before so_far now : List NumberedCall) (ls : List Line) (ss : List Said) (l : Line) (s : Said) → AllBoth MayAnswer ls ss → so_far ≡ before ++ map (call_at place) (calls_of_lines ls ss)
    → now ≡ so_far ++ map (call_at place) (calls_of_line l s) → now ≡ before ++ map (call_at place) (calls_of_lines (ls ++ l ∷ []) (ss ++ s ∷ []))
called_more place before so_far now ls ss l s all so more =
    more
    ∙ ap (λ (z : List NumberedCall). z ++ map (call_at place) (calls_of_line l s)) so
    ∙ append_assoc before (map (call_at place) (calls_of_lines ls ss)) (map (call_at place) (calls_of_line l s))
    ∙ ap (λ (z : List NumberedCall). before ++ z) (sym (map-append (call_at place) (calls_of_lines ls ss) (calls_of_line l s)) ∙ ap (map (call_at place)) (sym (lines_more ls ss l s all)))

-- the same of a script of which one line more is done
module _ (lines : List Line) (at : ℕ) (d : Line) (near : at < length lines) where
  next : take (at + 1) lines ≡ take at lines ++ get_or lines at d ∷ []
  next = take_more lines at d near

  pub answered_next : (ss new : List Said) (s : Said) → new ≡ ss ++ s ∷ [] → AllBoth MayAnswer (take at lines) ss → MayAnswer (get_or lines at d) s → AllBoth MayAnswer (take (at + 1) lines) new
  answered_next ss new s pushed all one =
      subst (λ (ls : List Line). AllBoth MayAnswer ls new) (sym next)
      (subst (λ (ws : List Said). AllBoth MayAnswer (take at lines ++ get_or lines at d ∷ []) ws) (sym pushed) (both_more MayAnswer (take at lines) ss (get_or lines at d) s all one))

  pub called_next : (place : ℕ → ℕ) (c c' : ℕ) (s0 s s1 : List Event) (ss new : List Said) (word : Said) → c' ≡ c → new ≡ ss ++ word ∷ [] → AllBoth MayAnswer (take at lines) ss
      → calls_by c s ≡ calls_by c s0 ++ map (call_at place) (calls_of_lines (take at lines) ss) → calls_by c' s1 ≡ calls_by c' s ++ map (call_at place) (calls_of_line (get_or lines at d) word)
      → calls_by c s1 ≡ calls_by c s0 ++ map (call_at place) (calls_of_lines (take (at + 1) lines) new)
  called_next place c c' s0 s s1 ss new word same pushed all so more =
      called_more place (calls_by c s0) (calls_by c s) (calls_by c s1) (take at lines) ss (get_or lines at d) word all so
      (subst (λ (z : ℕ). calls_by z s1 ≡ calls_by z s ++ map (call_at place) (calls_of_line (get_or lines at d) word)) same more)
      ∙ ap₂ (λ (ls : List Line) (ws : List Said). calls_by c s0 ++ map (call_at place) (calls_of_lines ls ws)) (sym next) (sym pushed)

  pub rooms_next : (rooms new : List Room) → HaveRooms (drop at lines) rooms → new ≡ rooms_after (get_or lines at d) rooms → HaveRooms (drop (at + 1) lines) new
  rooms_next rooms new have is =
      let all : HaveRooms (get_or lines at d ∷ drop (suc at) lines) rooms = subst (λ (ls : List Line). HaveRooms ls rooms) (drop-cons lines at d near) have in
      let e : suc at ≡ at + 1 = omega arith in
      subst (λ (n : ℕ). HaveRooms (drop n lines) new) e (subst (HaveRooms (drop (suc at) lines)) (sym is) all.1)

-- and once all are done
pub called_all : (place : ℕ → ℕ) (before now : List NumberedCall) (lines : List Line) (at : ℕ) (ss : List Said) → length lines ≤ at → now ≡ before ++ map (call_at place) (calls_of_lines (take at lines) ss) → now ≡ before ++ map (call_at place) (calls_of_lines lines ss)
called_all place before now lines at ss over so = so ∙ ap (λ (ls : List Line). before ++ map (call_at place) (calls_of_lines ls ss)) (take_all at lines over)

ops_at : (place : ℕ → ℕ) (xs : List NumberedCall) → map (λ (x : NumberedCall). x.call.op) (map (call_at place) xs) ≡ map (at_place place) (map (λ (x : NumberedCall). x.call.op) xs)
ops_at place [] = refl
ops_at place (x ∷ xs) = ap (λ (z : List Op). at_place place x.call.op ∷ z) (ops_at place xs)

replies_at : (place : ℕ → ℕ) (xs : List NumberedCall) → map {B = ℕ × Reply} (λ (x : NumberedCall). (x.number, x.call.reply)) (map (call_at place) xs) ≡ map {B = ℕ × Reply} (λ (x : NumberedCall). (x.number, x.call.reply)) xs
replies_at place [] = refl
replies_at place (x ∷ xs) = ap (λ (z : List (ℕ × Reply)). (x.number, x.call.reply) ∷ z) (replies_at place xs)

-- the calls of a script, as operations, and as numbers and replies
pub as_asked : (place : ℕ → ℕ) (c : ℕ) (s0 s1 : List Event) (ls : List Line) (ss : List Said) → calls_by c s1 ≡ calls_by c s0 ++ map (call_at place) (calls_of_lines ls ss) → asked_by c s1 ≡ asked_by c s0 ++ map (at_place place) (ops_of_lines ls ss)
as_asked place c s0 s1 ls ss so =
    ap (map (λ (x : NumberedCall). x.call.op)) so
    ∙ map-append (λ (x : NumberedCall). x.call.op) (calls_by c s0) (map (call_at place) (calls_of_lines ls ss))
    ∙ ap (λ (z : List Op). map (λ (x : NumberedCall). x.call.op) (calls_by c s0) ++ z) (ops_at place (calls_of_lines ls ss))

pub as_told : (place : ℕ → ℕ) (c : ℕ) (s0 s1 : List Event) (ls : List Line) (ss : List Said) → calls_by c s1 ≡ calls_by c s0 ++ map (call_at place) (calls_of_lines ls ss) → told_by c s1 ≡ told_by c s0 ++ replies_of_lines ls ss
as_told place c s0 s1 ls ss so =
    ap (map {B = ℕ × Reply} (λ (x : NumberedCall). (x.number, x.call.reply))) so
    ∙ map-append {B = ℕ × Reply} (λ (x : NumberedCall). (x.number, x.call.reply)) (calls_by c s0) (map (call_at place) (calls_of_lines ls ss))
    ∙ ap (λ (z : List (ℕ × Reply)). map {B = ℕ × Reply} (λ (x : NumberedCall). (x.number, x.call.reply)) (calls_by c s0) ++ z) (replies_at place (calls_of_lines ls ss))

-- as many callers have calls as there are scripts
pub script_long : (script : List (List Line)) (said : List (List Said)) → length said ≡ length script → length (calls_of_script script said) ≡ length script
script_long [] said long = refl
script_long (ls ∷ script) [] long = absurd (omega (arith, long))
script_long (ls ∷ script) (ss ∷ said) long = ap suc (script_long script said (omega (arith, long)))

-- one caller's script and what is said of it
pub record OneOf (script : List (List Line)) (said : List (List Said)) (c : ℕ) (calls : List NumberedCall) : Type 0 where
  pub ls : List Line
  pub ss : List Said
  pub line : get_elem? script c ≡ some ls
  pub word : get_elem? said c ≡ some ss
  pub calls_are : calls_of_lines ls ss ≡ calls

pub one_of : (script : List (List Line)) (said : List (List Said)) (c : ℕ) (calls : List NumberedCall) → get_elem? (calls_of_script script said) c ≡ some calls → OneOf script said c calls
one_of [] said c calls is = absurd (cc)
one_of (ls ∷ script) [] c calls is = absurd (cc)
one_of (ls ∷ script) (ss ∷ said) zero calls is = let same : calls_of_lines ls ss ≡ calls = cc in record { ls = ls; ss = ss; line = refl; word = refl; calls_are = same }
one_of (ls ∷ script) (ss ∷ said) (suc c) calls is = let r = one_of script said c calls is in record { ls = r.ls; ss = r.ss; line = r.line; word = r.word; calls_are = r.calls_are }

-- a line that is served where moves are or are not, is served where they are
moves_too : (scans moves : Bool) (l : Line) → IsServedLine scans moves l → IsServedLine scans true l
moves_too scans moves (Call (Get k)) served = tt
moves_too scans moves (Call (Put k v)) served = tt
moves_too scans moves (Call (Del k)) served = tt
moves_too scans moves (Call (Add k v)) served = tt
moves_too scans moves (Call (Swap k old new)) served = tt
moves_too scans moves (Call (lists low last)) served = tt
moves_too scans moves (Call (Move from to)) served = refl
moves_too scans moves (Scan low last most) served = served

pub all_moves_too : (scans moves : Bool) (ls : List Line) → All (λ l. IsServedLine scans moves l) ls → All (λ l. IsServedLine scans true l) ls
all_moves_too scans moves ls all = All-weaker (λ l. IsServedLine scans moves l) (λ l. IsServedLine scans true l) (moves_too scans moves) ls all
