-- How a non-blocking put or add ends at the node where its first search does.
use Rattle.std.proofs.Common.{◌≡◌, ℕ, List, [], ◌∷◌, arith}
use Rattle.std.specs.Prelude.{Result, Ok, Err}
use Rattle.ks_keysets.specs.Layout.{Layout}
use Rattle.ks_history.specs.declared.Event.{Event}
use Rattle.ks_history.specs.declared.Event.TheVariants.{Give}
use Rattle.ks_history.specs.declared.Op.{Op}
use Rattle.ks_history.specs.Descent.{TookSince}
use Rattle.ks_history.specs.Done.{Template, Hands, give_up}
use Rattle.ks_history.specs.Map.{Touches}
use Rattle.ks_history.specs.Passes.{GrowsWith}
use Rattle.ks_history.specs.Own.{hand}
use Rattle.ks_history.specs.Underway.{Underway}
use Rattle.ks_history.specs.Laws.Descent.{took_none, took_while}
use Rattle.ks_history.specs.Laws.Underway.{left_of}
use Rattle.ks_shape.specs.declared.answers.Numbered.{Numbered}
use Rattle.ks_shape.specs.declared.answers.Later.{Later}
use Rattle.ks_shape.specs.declared.answers.PutLater.{PutLater}
use Rattle.ks_shape.specs.declared.answers.PutLater.TheVariants.{Full, Later as Otherwise}
use Rattle.ks_shape.specs.Tries.{IsPutOff, TriedPut}
use Rattle.ks_shape.specs.Descents.{IsCauseAt}
use Rattle.ks_shape.specs.Laws.Down.{gave_no_take}

pub put_off : (n c place : ℕ) (op : Op) (s h : List Event) (later : Later) → Touches op place → Underway give_up c op s h → (hand c h ≡ []) × IsCauseAt give_up n c place s h later → IsPutOff give_up n c op s h later
put_off n c place op s h later touched under so = record { left = left_of give_up c op s h under so.0; cause = so.1 op touched }

-- a release takes no root
pub once_later : (c i : ℕ) (s h k : List Event) → GrowsWith c (Give c i) h k → TookSince c s h 0 1 → TookSince c s k 0 1
once_later c i s h k gave took = took_while c s h k 0 1 (record { rest = Give c i ∷ gave.rest; is = gave.is }) (gave_no_take c i h k gave) took

-- at first the caller took no root
pub once_here : (c : ℕ) (h : List Event) → TookSince c h h 0 1
once_here c h = let none = took_none c h in record { grows = none.grows; many = none.many; root = (let r = none.root in omega (arith, r)) }

-- however it ends, it held and took nodes as its technique may
pub tried_hands : (layout : Layout) (template : Template) (n c : ℕ) (op : Op) (s h : List Event) (answer : Result Numbered PutLater) → TriedPut layout template n c op s h answer → Hands template c op s h
tried_hands layout template n c op s h (Ok answer) so = so.hands
tried_hands layout template n c op s h (Err (Full number)) so = so.hands
tried_hands layout template n c op s h (Err (Otherwise later)) so = so.left.hands
