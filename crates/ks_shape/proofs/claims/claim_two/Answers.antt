use Rattle.std.proofs.Common.{◌≡◌, ◌∙◌, ℕ, List, sym, subst, inl, inr}
use Rattle.ks_keysets.specs.declared.NodeState.{NodeState}
use Rattle.ks_history.specs.declared.Event.TheVariants.{Give}
use Rattle.ks_history.specs.Own.{hand, drop_one}
use Rattle.ks_history.specs.Passes.{Has, GrowsWith}
use Rattle.ks_history.specs.declared.Event.{Event}
use Rattle.ks_history.specs.Done.{Template, coupling}
use Rattle.ks_history.specs.Due.{NoneFree}
use Rattle.ks_history.specs.Stretch.{Stretch}
use Rattle.ks_history.specs.Laws.Stretch.{stretch_both, stretch_begins}
use Rattle.ks_history.specs.Laws.Begins.{begins_both, with_begins}
use Rattle.ks_flow.specs.Discipline.{SameKeyset}
use Rattle.ks_arena.specs.Sound.{sort_of}
use Rattle.ks_arena.specs.Clauses.{seen_of, hand_of, Kept, KeptBut}
use Rattle.ks_shape.specs.Beside.{KeepsBeside}
use Rattle.ks_shape.specs.Laws.Beside.{StaysBeside, beside_with, beside_both, stays_beside, keyset_beside}
use Rattle.ks_shape.specs.Claims.{HoldsForClaim}
use Rattle.ks_shape.specs.Makes.{MakesNone}
use Rattle.ks_shape.specs.Laws.Makes.{makes_both, makes_with}
use Rattle.ks_shape.specs.Laws.Quiet.{quiet_give, quiet_both, quiet_on}
use Rattle.ks_shape.proofs.Claiming.{still_for_claim, back_hand, back_stretch, back_refused, back_kept}
use Rattle.ks_shape.specs.Does.{HoldsToSplit, MayFill}
use Rattle.ks_shape.specs.Laws.Does.{does_both, does_on, does_with, splits_kept}
use Rattle.ks_shape.proofs.claims.claim_two.Given.{Over}
use Rattle.ks_shape.proofs.claims.claim_two.Goals as goal
use Rattle.ks_shape.proofs.claims.claim_two.Goals.{After-walks_law, After-claim_one, After-give}

besides : (g : Over) (c : After-walks_law g) → StaysBeside g.D.Discipline.beside (sort_of g.N.Node.layout g.N.Node.ranged) g.D.Discipline.begins g.D.Discipline.step c.args.arena.now.table.shared.table_id.slots
besides g c = stays_beside (sort_of g.N.Node.layout g.N.Node.ranged) c.laws.ensures c.walks_law.ensures.opening c.args.arena.now.table.shared.table_id.slots

keysets : (g : Over) (c : After-walks_law g) → StaysBeside SameKeyset (sort_of g.N.Node.layout g.N.Node.ranged) g.D.Discipline.begins g.D.Discipline.step c.args.arena.now.table.shared.table_id.slots
keysets g c = keyset_beside (sort_of g.N.Node.layout g.N.Node.ranged) c.laws.ensures c.walks_law.ensures.opening c.args.arena.now.table.shared.table_id.slots

pub returns-in_default-clause-claimed : goal.returns-in_default-clause-claimed
returns-in_default-clause-claimed g c = let told = rw c.in_default.is at c.claim_one.ensures.claimed in (told.0, λ node place live holds grows. told.1 place (inl live))

-- two claims, one after the other

both : (template : Template) (a b : ℕ) (h k l : List Event) → b ≡ a → Stretch template a h k → Stretch template b k l → Stretch template a h l
both template a b h k l same one two = stretch_both template a h k l one (subst (λ (z : ℕ). Stretch template z k l) same two)

pub returns-in-Some-claim_one-clause-stretch : goal.returns-in-Some-claim_one-clause-stretch
returns-in-Some-claim_one-clause-stretch g c = λ template. let e = c.claim_one.ensures in
    both template c.args.pass.now.caller c.claim_one.new.pass.caller (seen_of c.args.pass.now) (seen_of c.claim_one.new.pass) (seen_of c.claim_one-2.new.pass) e.caller (e.stretch template) (c.claim_one-2.ensures.stretch template)

pub returns-in-Some-claim_one-clause-beside : goal.returns-in-Some-claim_one-clause-beside
returns-in-Some-claim_one-clause-beside g c = let at = (goal.at.returns-in-Some-claim_one-clause-beside g c).After-walks_law in let me : ℕ = c.args.pass.now.caller in let h₁ = seen_of c.claim_one.new.pass in let h₂ = seen_of c.claim_one-2.new.pass in
    beside_both g.D.Discipline.beside (sort_of g.N.Node.layout g.N.Node.ranged) g.D.Discipline.begins g.D.Discipline.step c.args.arena.now.table.shared.table_id.slots (besides g at) me (seen_of c.args.pass.now) h₁ h₂ c.claim_one.ensures.rest.kept c.claim_one.ensures.beside
    (subst (λ (z : ℕ). KeepsBeside g.D.Discipline.beside z h₁ h₂) c.claim_one.ensures.caller c.claim_one-2.ensures.beside)

pub returns-in-Some-claim_one-clause-keysets : goal.returns-in-Some-claim_one-clause-keysets
returns-in-Some-claim_one-clause-keysets g c = let at = (goal.at.returns-in-Some-claim_one-clause-keysets g c).After-walks_law in let me : ℕ = c.args.pass.now.caller in let h₁ = seen_of c.claim_one.new.pass in let h₂ = seen_of c.claim_one-2.new.pass in
    beside_both SameKeyset (sort_of g.N.Node.layout g.N.Node.ranged) g.D.Discipline.begins g.D.Discipline.step c.args.arena.now.table.shared.table_id.slots (keysets g at) me (seen_of c.args.pass.now) h₁ h₂ c.claim_one.ensures.rest.kept c.claim_one.ensures.keysets
    (subst (λ (z : ℕ). KeepsBeside SameKeyset z h₁ h₂) c.claim_one.ensures.caller c.claim_one-2.ensures.keysets)

-- the second was refused, and the first is released

own : (g : Over) (c : After-give g) → c.claim_one-2.new.pass.caller ≡ c.args.pass.now.caller
own g c = c.claim_one-2.ensures.caller ∙ c.claim_one.ensures.caller

-- what is known after the second claim, for the caller's own number
second : (g : Over) (c : After-give g) → (hand c.args.pass.now.caller (seen_of c.claim_one-2.new.pass) ≡ hand c.args.pass.now.caller (seen_of c.claim_one.new.pass)) × ((place : ℕ) → HoldsForClaim g.N.Node.layout place (seen_of c.claim_one.new.pass) c.args.pass.now.caller → NoneFree g.N.Node.layout c.args.arena.now.nodes c.args.pass.now.caller place (seen_of c.claim_one.new.pass) (seen_of c.claim_one-2.new.pass))
second g c = let h₁ = seen_of c.claim_one.new.pass in let h₂ = seen_of c.claim_one-2.new.pass in
    subst (λ (z : ℕ). (hand z h₂ ≡ hand z h₁) × ((place : ℕ) → HoldsForClaim g.N.Node.layout place h₁ z → NoneFree g.N.Node.layout c.args.arena.now.nodes z place h₁ h₂)) c.claim_one.ensures.caller c.in-None.ensures.claimed

gave : (g : Over) (c : After-give g) → GrowsWith c.args.pass.now.caller (Give c.args.pass.now.caller c.in-Some.left.node) (seen_of c.claim_one-2.new.pass) (seen_of c.give.new.pass)
gave g c = subst (λ (z : ℕ). GrowsWith z (Give z c.in-Some.left.node) (seen_of c.claim_one-2.new.pass) (seen_of c.give.new.pass)) (own g c) c.give.ensures.gave

hands : (g : Over) (c : After-give g) → hand c.args.pass.now.caller (seen_of c.give.new.pass) ≡ drop_one c.in-Some.left.node (hand c.args.pass.now.caller (seen_of c.claim_one-2.new.pass))
hands g c = let h₂ = seen_of c.claim_one-2.new.pass in let h₃ = seen_of c.give.new.pass in let i : ℕ = c.in-Some.left.node in
    subst (λ (z : ℕ). hand z h₃ ≡ drop_one i (hand c.args.pass.now.caller h₂)) (c.give.ensures.caller ∙ own g c) (subst (λ (z : ℕ). hand c.give.new.pass.caller h₃ ≡ drop_one i (hand z h₂)) (own g c) c.give.ensures.hand)

kept₂ : (g : Over) (c : After-give g) → Kept c.args.pass.now.caller (seen_of c.claim_one.new.pass) (seen_of c.claim_one-2.new.pass)
kept₂ g c = subst (λ (z : ℕ). Kept z (seen_of c.claim_one.new.pass) (seen_of c.claim_one-2.new.pass)) c.claim_one.ensures.caller c.claim_one-2.ensures.rest.kept

kept₃ : (g : Over) (c : After-give g) → KeptBut c.in-Some.left.node c.args.pass.now.caller (seen_of c.claim_one-2.new.pass) (seen_of c.give.new.pass)
kept₃ g c = subst (λ (z : ℕ). KeptBut c.in-Some.left.node z (seen_of c.claim_one-2.new.pass) (seen_of c.give.new.pass)) (own g c) c.give.ensures.rest.kept

pub returns-in-None-clause-claimed : goal.returns-in-None-clause-claimed
returns-in-None-clause-claimed g c = let at = goal.at.returns-in-None-clause-claimed g c in let gv = at.After-give in let me : ℕ = c.args.pass.now.caller in let h = seen_of c.args.pass.now in let h₁ = seen_of c.claim_one.new.pass in let h₂ = seen_of c.claim_one-2.new.pass in let h₃ = seen_of c.give.new.pass in let two = second g gv in let got = c.in-Some.ensures.claimed in let shows = g.N.Node.body in let sort = sort_of g.N.Node.layout g.N.Node.ranged in let n : ℕ = c.args.arena.now.table.shared.table_id.slots in (
  back_hand sort shows me h h₁ c.in-Some.left got h₂ h₃ two.0 (gave g gv) (hands g gv),
  λ node place live holds grows.
      back_refused sort shows me h h₁ c.in-Some.left got h₂ h₃ two.0 (gave g gv) (hands g gv) coupling g.N.Node.layout c.args.arena.now.nodes place c.requires.few (c.claim_one.ensures.stretch coupling)
      (two.1 place (still_for_claim sort shows me h h₁ c.in-Some.left got g.D.Discipline.begins g.D.Discipline.step n (keysets g at.After-walks_law) c.requires.pass.sound c.claim_one.ensures.pass.sound c.claim_one.ensures.rest.kept c.claim_one.ensures.keysets node place live holds grows)),
)

pub returns-in-None-clause-stretch : goal.returns-in-None-clause-stretch
returns-in-None-clause-stretch g c = λ template. let gv = (goal.at.returns-in-None-clause-stretch g c).After-give in let me : ℕ = c.args.pass.now.caller in let h₁ = seen_of c.claim_one.new.pass in let h₂ = seen_of c.claim_one-2.new.pass in
    back_stretch (sort_of g.N.Node.layout g.N.Node.ranged) g.N.Node.body me (seen_of c.args.pass.now) h₁ c.in-Some.left c.in-Some.ensures.claimed h₂ (seen_of c.give.new.pass) (second g gv).0 (gave g gv) (hands g gv) template c.requires.few (c.claim_one.ensures.stretch template)
    (subst (λ (z : ℕ). Stretch template z h₁ h₂) c.claim_one.ensures.caller (c.claim_one-2.ensures.stretch template))

-- what stays at a node through both claims and the release
module _ (beside : ℕ → (ℕ → NodeState) → (ℕ → NodeState) → Type 0) where
  through : (g : Over) (c : After-give g) → StaysBeside beside (sort_of g.N.Node.layout g.N.Node.ranged) g.D.Discipline.begins g.D.Discipline.step c.args.arena.now.table.shared.table_id.slots → KeepsBeside beside c.args.pass.now.caller (seen_of c.args.pass.now) (seen_of c.claim_one.new.pass) → KeepsBeside beside c.claim_one.new.pass.caller (seen_of c.claim_one.new.pass) (seen_of c.claim_one-2.new.pass) → KeepsBeside beside c.args.pass.now.caller (seen_of c.args.pass.now) (seen_of c.give.new.pass)
  through g c laws one two = let sort = sort_of g.N.Node.layout g.N.Node.ranged in let n : ℕ = c.args.arena.now.table.shared.table_id.slots in let me : ℕ = c.args.pass.now.caller in let h = seen_of c.args.pass.now in let h₁ = seen_of c.claim_one.new.pass in let h₂ = seen_of c.claim_one-2.new.pass in let h₃ = seen_of c.give.new.pass in
      beside_both beside sort g.D.Discipline.begins g.D.Discipline.step n laws me h h₁ h₃ c.claim_one.ensures.rest.kept one
      (beside_both beside sort g.D.Discipline.begins g.D.Discipline.step n laws me h₁ h₂ h₃ (kept₂ g c) (subst (λ (z : ℕ). KeepsBeside beside z h₁ h₂) c.claim_one.ensures.caller two)
      (beside_with beside sort g.D.Discipline.begins g.D.Discipline.step n laws me (Give me c.in-Some.left.node) h₂ h₃ tt (gave g c) c.give.ensures.pass.sound))

pub returns-in-None-clause-beside : goal.returns-in-None-clause-beside
returns-in-None-clause-beside g c = let at = goal.at.returns-in-None-clause-beside g c in through g.D.Discipline.beside g at.After-give (besides g at.After-walks_law) c.claim_one.ensures.beside c.claim_one-2.ensures.beside

pub returns-in-None-clause-keysets : goal.returns-in-None-clause-keysets
returns-in-None-clause-keysets g c = let at = goal.at.returns-in-None-clause-keysets g c in through SameKeyset g at.After-give (keysets g at.After-walks_law) c.claim_one.ensures.keysets c.claim_one-2.ensures.keysets

pub returns-in-None-clause-rest : goal.returns-in-None-clause-rest
returns-in-None-clause-rest g c = let gv = (goal.at.returns-in-None-clause-rest g c).After-give in let h₁ = seen_of c.claim_one.new.pass in let h₂ = seen_of c.claim_one-2.new.pass in let me : ℕ = c.args.pass.now.caller in let got = c.in-Some.ensures.claimed in record {
  kept = back_kept (sort_of g.N.Node.layout g.N.Node.ranged) g.N.Node.body me (seen_of c.args.pass.now) h₁ c.in-Some.left got h₂ (seen_of c.give.new.pass) (second g gv).0 (gave g gv) (hands g gv) c.claim_one.ensures.rest.kept (kept₂ g gv) (kept₃ g gv);
  still = λ x has matches.
      let in₁ : Has (hand me h₁) x.node = subst (λ (z : List ℕ). Has z x.node) (sym got.hands) (inr has) in
      let in₂ : Has (hand me h₂) x.node = subst (λ (z : List ℕ). Has z x.node) (sym (second g gv).0) in₁ in
      c.give.ensures.rest.still x (λ e. got.fresh (subst (Has (hand_of c.args.pass.now)) e has)) (subst (λ (z : ℕ). Has (hand z h₂) x.node) (sym (own g gv)) in₂)
      (c.claim_one-2.ensures.rest.still x (subst (λ (z : ℕ). Has (hand z h₁) x.node) (sym c.claim_one.ensures.caller) in₁) (c.claim_one.ensures.rest.still x has matches));
}

-- no node is made live

made : (a b : ℕ) (h k l : List Event) → b ≡ a → Stretch coupling a h k → Stretch coupling b k l → MakesNone a h k → MakesNone b k l → MakesNone a h l
made a b h k l same one two first then = makes_both a h k l (stretch_begins coupling a h k one) (stretch_begins coupling b k l two) first (subst (λ (z : ℕ). MakesNone z k l) same then)

pub returns-in-Some-claim_one-clause-makes : goal.returns-in-Some-claim_one-clause-makes
returns-in-Some-claim_one-clause-makes g c = let one = c.claim_one.ensures in let two = c.claim_one-2.ensures in
    made c.args.pass.now.caller c.claim_one.new.pass.caller (seen_of c.args.pass.now) (seen_of c.claim_one.new.pass) (seen_of c.claim_one-2.new.pass) one.caller (one.stretch coupling) (two.stretch coupling) one.makes two.makes

pub returns-in-None-clause-makes : goal.returns-in-None-clause-makes
returns-in-None-clause-makes g c = let gv = (goal.at.returns-in-None-clause-makes g c).After-give in let me : ℕ = c.args.pass.now.caller in let h = seen_of c.args.pass.now in let h₁ = seen_of c.claim_one.new.pass in let h₂ = seen_of c.claim_one-2.new.pass in let h₃ = seen_of c.give.new.pass in let one = c.claim_one.ensures in let two = c.claim_one-2.ensures in
    let last = with_begins me _ h₂ h₃ (gave g gv) in let till = begins_both h₁ h₂ h₃ (stretch_begins coupling c.claim_one.new.pass.caller h₁ h₂ (two.stretch coupling)) last in
    makes_both me h h₁ h₃ (stretch_begins coupling me h h₁ (one.stretch coupling)) till one.makes
    (makes_both me h₁ h₂ h₃ (stretch_begins coupling c.claim_one.new.pass.caller h₁ h₂ (two.stretch coupling)) last (subst (λ (z : ℕ). MakesNone z h₁ h₂) one.caller two.makes) (makes_with me _ h₂ h₃ tt (gave g gv)))

-- no node is taken, and no Shape made

pub returns-in-Some-claim_one-clause-quiet : goal.returns-in-Some-claim_one-clause-quiet
returns-in-Some-claim_one-clause-quiet g c = let one = c.claim_one.ensures in
    quiet_on c.args.pass.now.caller c.claim_one.new.pass.caller (seen_of c.args.pass.now) (seen_of c.claim_one.new.pass) (seen_of c.claim_one-2.new.pass) one.caller one.quiet c.claim_one-2.ensures.quiet

pub returns-in-None-clause-quiet : goal.returns-in-None-clause-quiet
returns-in-None-clause-quiet g c = let gv = (goal.at.returns-in-None-clause-quiet g c).After-give in let me : ℕ = c.args.pass.now.caller in let h = seen_of c.args.pass.now in let h₁ = seen_of c.claim_one.new.pass in let h₂ = seen_of c.claim_one-2.new.pass in let one = c.claim_one.ensures in
    quiet_both me h h₂ (seen_of c.give.new.pass) (quiet_on me c.claim_one.new.pass.caller h h₁ h₂ one.caller one.quiet c.claim_one-2.ensures.quiet) (quiet_give me c.in-Some.left.node h₂ (seen_of c.give.new.pass) (gave g gv))

-- the node that is to be split stays so as another is claimed
still_splits : (g : Over) (c : After-claim_one g) (place : ℕ) → HoldsToSplit (sort_of g.N.Node.layout g.N.Node.ranged) place (seen_of c.args.pass.now) c.args.pass.now.caller → HoldsToSplit (sort_of g.N.Node.layout g.N.Node.ranged) place (seen_of c.claim_one.new.pass) c.claim_one.new.pass.caller
still_splits g c place splits = let sort = sort_of g.N.Node.layout g.N.Node.ranged in let me : ℕ = c.args.pass.now.caller in let h = seen_of c.args.pass.now in let k = seen_of c.claim_one.new.pass in
    subst (λ (z : ℕ). HoldsToSplit sort place k z) (sym c.claim_one.ensures.caller) (splits_kept sort place me h k splits (c.claim_one.ensures.rest.kept splits.node splits.holds))

pub returns-in-Some-claim_one-clause-fills : goal.returns-in-Some-claim_one-clause-fills
returns-in-Some-claim_one-clause-fills g c = λ place splits. let e = c.claim_one.ensures in
    does_on (MayFill (sort_of g.N.Node.layout g.N.Node.ranged) place) c.args.pass.now.caller c.claim_one.new.pass.caller (seen_of c.args.pass.now) (seen_of c.claim_one.new.pass) (seen_of c.claim_one-2.new.pass) e.caller (e.fills place splits) (c.claim_one-2.ensures.fills place (still_splits g (goal.at.returns-in-Some-claim_one-clause-fills g c).After-claim_one place splits))

pub returns-in-None-clause-fills : goal.returns-in-None-clause-fills
returns-in-None-clause-fills g c = λ place splits. let at = (goal.at.returns-in-None-clause-fills g c).After-give in let e = c.claim_one.ensures in let may = MayFill (sort_of g.N.Node.layout g.N.Node.ranged) place in let me : ℕ = c.args.pass.now.caller in let h = seen_of c.args.pass.now in let h₁ = seen_of c.claim_one.new.pass in let h₂ = seen_of c.claim_one-2.new.pass in let h₃ = seen_of c.give.new.pass in
    does_both may me h h₂ h₃ (does_on may me c.claim_one.new.pass.caller h h₁ h₂ e.caller (e.fills place splits) (c.claim_one-2.ensures.fills place (still_splits g (goal.at.returns-in-None-clause-fills g c).After-claim_one place splits))) (does_with may me (Give me c.in-Some.left.node) h₂ h₃ (gave g at) tt)
