use Rattle.std.proofs.Common.{ℕ, ◌≡◌, ◌<◌, List, length, sym, ◌∙◌, ap, subst, arith}
use Rattle.std.proofs.lemmas.Bool.{false≢true}
use Rattle.ks_lines.specs.Lines.{ops_in, replies_in}
use Rattle.ks_script.specs.Script.{calls_in}
use Rattle.ks_judge.specs.declared.slots.PackedSlot.{PackedSlot}
use Rattle.ks_judge.specs.Judgment.{Lines, IsLeastWrong, carriers}
use Rattle.ks_judge.specs.Slots.{Notes}
use Rattle.ks_judge.proofs.Flat.{script_replies}
use Rattle.ks_judge.proofs.Replays.{After, RightBelow, wrong_call, wrong_map, all_right}
use Rattle.ks_judge.proofs.judging.judge_on.Goals as goal

pub replay-requires-clause-noted : goal.replay-requires-clause-noted
replay-requires-clause-noted g c =
    let lines : Lines = replies_in c.args.callers.now c.args.said.now in
    subst (λ (slots : List PackedSlot). Notes lines slots (carriers lines)) (sym c.deref.ensures.value)
    (subst (λ (ls : Lines). Notes ls c.in_ok-slots.slots.items (carriers ls)) (sym (script_replies c.args.callers.now c.args.said.now c.requires.answered)) c.in_ok-slots.ensures.noted)

pub returns-then-right-count : goal.returns-then-right-count
returns-then-right-count g c =
    let script = ops_in c.args.callers.now c.args.said.now in
    let lines = replies_in c.args.callers.now c.args.said.now in
    let r = c.in_ok-right.field-0 in
    let e = c.in_ok-right.ensures in
    let slots : length c.deref.result.now ≡ calls_in script = ap length c.deref.ensures.value ∙ c.in_ok-slots.ensures.count ∙ c.requires.count in
    let lt : r.right < calls_in script = omega (arith, c.if-right-count.true, c.requires.count) in
    wrong_call script lines c.args.pairs.now r.right lt e.right (e.stop (subst (λ (n : ℕ). r.right < n) (sym slots) lt))

pub returns-then-not-branch : goal.returns-then-not-branch
returns-then-not-branch g c =
    let script = ops_in c.args.callers.now c.args.said.now in
    let lines = replies_in c.args.callers.now c.args.said.now in
    let r = c.in_ok-right.field-0 in
    let e = c.in_ok-right.ensures in
    let slots : length c.deref.result.now ≡ calls_in script = ap length c.deref.ensures.value ∙ c.in_ok-slots.ensures.count ∙ c.requires.count in
    let all : r.right ≡ calls_in script = omega (arith, c.requires.count, slots, e.within) in
    let before : RightBelow script lines (calls_in script) = subst (RightBelow script lines) all e.right in
    let after : After script lines (calls_in script) (g.M.Store.has r.map) = subst (λ (n : ℕ). After script lines n (g.M.Store.has r.map)) all (e.map (all ∙ sym slots)) in
    subst (λ (n : ℕ). IsLeastWrong script lines c.args.pairs.now n) (sym all)
    (wrong_map script lines c.args.pairs.now (g.M.Store.has r.map) after before (λ listing. false≢true (sym c.if-not-branch.true ∙ c.in_ok-is_listing.ensures.1 listing)))

pub returns : goal.returns
returns g c =
    let script = ops_in c.args.callers.now c.args.said.now in
    let lines = replies_in c.args.callers.now c.args.said.now in
    let r = c.in_ok-right.field-0 in
    let e = c.in_ok-right.ensures in
    let slots : length c.deref.result.now ≡ calls_in script = ap length c.deref.ensures.value ∙ c.in_ok-slots.ensures.count ∙ c.requires.count in
    let all : r.right ≡ calls_in script = omega (arith, c.requires.count, slots, e.within) in
    let before : RightBelow script lines (calls_in script) = subst (RightBelow script lines) all e.right in
    let after : After script lines (calls_in script) (g.M.Store.has r.map) = subst (λ (n : ℕ). After script lines n (g.M.Store.has r.map)) all (e.map (all ∙ sym slots)) in
    (all, all_right script lines c.args.pairs.now (g.M.Store.has r.map) after before (c.in_ok-is_listing.ensures.0 c.if-not-branch.false))
