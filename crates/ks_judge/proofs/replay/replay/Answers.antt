use Rattle.std.proofs.Common.{◌≡◌, ◌<◌, [], length, get_or, rules, refl, sym, ◌∙◌, subst, arith}
use Rattle.std.proofs.lemmas.List.{get_or_read}
use Rattle.ks_script.specs.PackedReplies.{said_at}
use Rattle.ks_script.specs.Plain.{IsOfCall}
use Rattle.ks_lines.specs.Lines.{ops_in, replies_in}
use Rattle.ks_judge.specs.Slots.{slot_in}
use Rattle.ks_judge.proofs.Replays.{right_more}
use Rattle.ks_judge.proofs.Flat.{callers_long}
use Rattle.ks_judge.proofs.Reading.{start, stand_first, caller_of, read, read_wrong, read_right, read_after, read_stand}
use Rattle.ks_judge.proofs.replay.replay.Goals as goal

pub loop-number-init : goal.loop-number-init
loop-number-init g c = record {
  right = λ k lt. absurd (omega arith);
  after = c.requires.empty;
  stand = stand_first c.args.callers.now c.args.said.now c.requires.answered (length c.args.callers.now) c.in_ok-places.places.items (search rules) refl;
}

pub index-at-requires : goal.index-at-requires
index-at-requires g c =
    let script = c.args.callers.now in
    let said = c.args.said.now in
    let n = c.loop-number.number in
    let places = c.loop-number.places.items in
    let stand = c.loop-number.invariant.stand in
    let told : c.told_by.result ≡ slot_in (get_or c.args.slots.now n (record { code = 0 })) = search rules in
    let tells = c.requires.noted n c.loop-number-test.true in
    let there : c.in-One.caller < length script = caller_of script said c.requires.answered n c.in-One.caller places stand _ (sym told ∙ c.in-One.is) tells in
    omega (arith, there, stand.count)

pub bounds-callers-caller : goal.bounds-callers-caller
bounds-callers-caller g c =
    let script = c.args.callers.now in
    let said = c.args.said.now in
    let n = c.loop-number.number in
    let places = c.loop-number.places.items in
    let stand = c.loop-number.invariant.stand in
    let told : c.told_by.result ≡ slot_in (get_or c.args.slots.now n (record { code = 0 })) = search rules in
    let tells = c.requires.noted n c.loop-number-test.true in
    let there : c.in-One.caller < length script = caller_of script said c.requires.answered n c.in-One.caller places stand _ (sym told ∙ c.in-One.is) tells in
    there

pub bounds-said-caller : goal.bounds-said-caller
bounds-said-caller g c =
    let script = c.args.callers.now in
    let said = c.args.said.now in
    let n = c.loop-number.number in
    let places = c.loop-number.places.items in
    let stand = c.loop-number.invariant.stand in
    let told : c.told_by.result ≡ slot_in (get_or c.args.slots.now n (record { code = 0 })) = search rules in
    let tells = c.requires.noted n c.loop-number-test.true in
    let there : c.in-One.caller < length script = caller_of script said c.requires.answered n c.in-One.caller places stand _ (sym told ∙ c.in-One.is) tells in
    let long = callers_long script said c.requires.answered in
    omega (arith, there, long.0)

pub after-requires-clause-answered : goal.after-requires-clause-answered
after-requires-clause-answered g c =
    let script = c.args.callers.now in
    let said = c.args.said.now in
    let n = c.loop-number.number in
    let places = c.loop-number.places.items in
    let stand = c.loop-number.invariant.stand in
    let told : c.told_by.result ≡ slot_in (get_or c.args.slots.now n (record { code = 0 })) = search rules in
    let tells = c.requires.noted n c.loop-number-test.true in
    let there : c.in-One.caller < length script = caller_of script said c.requires.answered n c.in-One.caller places stand _ (sym told ∙ c.in-One.is) tells in
    let long = callers_long script said c.requires.answered in
    let x = c.index-at.result.now in
    let ls = c.index-callers-caller.result in
    let ss = c.index-said-caller.result in
    let is_x : x ≡ get_or places c.in-One.caller start = get_or_read places c.in-One.caller x (omega (arith, there, stand.count)) c.index-at.ensures start in
    let is_ls : get_or script c.in-One.caller [] ≡ ls = sym (get_or_read script c.in-One.caller ls there c.index-callers-caller.is []) in
    let is_ss : get_or said c.in-One.caller [] ≡ ss = sym (get_or_read said c.in-One.caller ss (omega (arith, there, long.0)) c.index-said-caller.is []) in
    let it = read script said c.requires.answered n c.in-One.caller places stand _ x ls ss (sym told ∙ c.in-One.is) tells is_x is_ls is_ss in
    it.both

pub after-requires-clause-place : goal.after-requires-clause-place
after-requires-clause-place g c =
    let script = c.args.callers.now in
    let said = c.args.said.now in
    let n = c.loop-number.number in
    let places = c.loop-number.places.items in
    let stand = c.loop-number.invariant.stand in
    let told : c.told_by.result ≡ slot_in (get_or c.args.slots.now n (record { code = 0 })) = search rules in
    let tells = c.requires.noted n c.loop-number-test.true in
    let there : c.in-One.caller < length script = caller_of script said c.requires.answered n c.in-One.caller places stand _ (sym told ∙ c.in-One.is) tells in
    let long = callers_long script said c.requires.answered in
    let x = c.index-at.result.now in
    let ls = c.index-callers-caller.result in
    let ss = c.index-said-caller.result in
    let is_x : x ≡ get_or places c.in-One.caller start = get_or_read places c.in-One.caller x (omega (arith, there, stand.count)) c.index-at.ensures start in
    let is_ls : get_or script c.in-One.caller [] ≡ ls = sym (get_or_read script c.in-One.caller ls there c.index-callers-caller.is []) in
    let is_ss : get_or said c.in-One.caller [] ≡ ss = sym (get_or_read said c.in-One.caller ss (omega (arith, there, long.0)) c.index-said-caller.is []) in
    let it = read script said c.requires.answered n c.in-One.caller places stand _ x ls ss (sym told ∙ c.in-One.is) tells is_x is_ls is_ss in
    it.place

pub after-requires-clause-lists : goal.after-requires-clause-lists
after-requires-clause-lists g c =
    let script = c.args.callers.now in
    let said = c.args.said.now in
    let n = c.loop-number.number in
    let places = c.loop-number.places.items in
    let stand = c.loop-number.invariant.stand in
    let told : c.told_by.result ≡ slot_in (get_or c.args.slots.now n (record { code = 0 })) = search rules in
    let tells = c.requires.noted n c.loop-number-test.true in
    let there : c.in-One.caller < length script = caller_of script said c.requires.answered n c.in-One.caller places stand _ (sym told ∙ c.in-One.is) tells in
    let long = callers_long script said c.requires.answered in
    let x = c.index-at.result.now in
    let ls = c.index-callers-caller.result in
    let ss = c.index-said-caller.result in
    let is_x : x ≡ get_or places c.in-One.caller start = get_or_read places c.in-One.caller x (omega (arith, there, stand.count)) c.index-at.ensures start in
    let is_ls : get_or script c.in-One.caller [] ≡ ls = sym (get_or_read script c.in-One.caller ls there c.index-callers-caller.is []) in
    let is_ss : get_or said c.in-One.caller [] ≡ ss = sym (get_or_read said c.in-One.caller ss (omega (arith, there, long.0)) c.index-said-caller.is []) in
    let it = read script said c.requires.answered n c.in-One.caller places stand _ x ls ss (sym told ∙ c.in-One.is) tells is_x is_ls is_ss in
    λ none. subst (λ s. IsOfCall (said_at s x.line)) is_ss (c.requires.lists none c.in-One.caller x.line)

pub index_mut-requires : goal.index_mut-requires
index_mut-requires g c =
    let script = c.args.callers.now in
    let said = c.args.said.now in
    let n = c.loop-number.number in
    let places = c.loop-number.places.items in
    let stand = c.loop-number.invariant.stand in
    let told : c.told_by.result ≡ slot_in (get_or c.args.slots.now n (record { code = 0 })) = search rules in
    let tells = c.requires.noted n c.loop-number-test.true in
    let there : c.in-One.caller < length script = caller_of script said c.requires.answered n c.in-One.caller places stand _ (sym told ∙ c.in-One.is) tells in
    omega (arith, there, stand.count)

pub returns-in-None-clause-stop : goal.returns-in-None-clause-stop
returns-in-None-clause-stop g c =
    let script = c.args.callers.now in
    let said = c.args.said.now in
    let n = c.loop-number.number in
    let places = c.loop-number.places.items in
    let stand = c.loop-number.invariant.stand in
    let told : c.told_by.result ≡ slot_in (get_or c.args.slots.now n (record { code = 0 })) = search rules in
    let tells = c.requires.noted n c.loop-number-test.true in
    let there : c.in-One.caller < length script = caller_of script said c.requires.answered n c.in-One.caller places stand _ (sym told ∙ c.in-One.is) tells in
    let long = callers_long script said c.requires.answered in
    let x = c.index-at.result.now in
    let ls = c.index-callers-caller.result in
    let ss = c.index-said-caller.result in
    let is_x : x ≡ get_or places c.in-One.caller start = get_or_read places c.in-One.caller x (omega (arith, there, stand.count)) c.index-at.ensures start in
    let is_ls : get_or script c.in-One.caller [] ≡ ls = sym (get_or_read script c.in-One.caller ls there c.index-callers-caller.is []) in
    let is_ss : get_or said c.in-One.caller [] ≡ ss = sym (get_or_read said c.in-One.caller ss (omega (arith, there, long.0)) c.index-said-caller.is []) in
    let it = read script said c.requires.answered n c.in-One.caller places stand _ x ls ss (sym told ∙ c.in-One.is) tells is_x is_ls is_ss in
    let wrong = rw c.in-None.is at c.in_ok-next-in-One.ensures.wrong in
    λ lt right. read_wrong script said c.requires.answered n c.in-One.caller places stand x ls ss it (g.M.Store.has c.loop-number.map) c.loop-number.invariant.after c.loop-number.invariant.right wrong right

pub loop-number-preserved : goal.loop-number-preserved
loop-number-preserved g c =
    let script = c.args.callers.now in
    let said = c.args.said.now in
    let n = c.loop-number.number in
    let places = c.loop-number.places.items in
    let stand = c.loop-number.invariant.stand in
    let told : c.told_by.result ≡ slot_in (get_or c.args.slots.now n (record { code = 0 })) = search rules in
    let tells = c.requires.noted n c.loop-number-test.true in
    let there : c.in-One.caller < length script = caller_of script said c.requires.answered n c.in-One.caller places stand _ (sym told ∙ c.in-One.is) tells in
    let long = callers_long script said c.requires.answered in
    let x = c.index-at.result.now in
    let ls = c.index-callers-caller.result in
    let ss = c.index-said-caller.result in
    let is_x : x ≡ get_or places c.in-One.caller start = get_or_read places c.in-One.caller x (omega (arith, there, stand.count)) c.index-at.ensures start in
    let is_ls : get_or script c.in-One.caller [] ≡ ls = sym (get_or_read script c.in-One.caller ls there c.index-callers-caller.is []) in
    let is_ss : get_or said c.in-One.caller [] ≡ ss = sym (get_or_read said c.in-One.caller ss (omega (arith, there, long.0)) c.index-said-caller.is []) in
    let it = read script said c.requires.answered n c.in-One.caller places stand _ x ls ss (sym told ∙ c.in-One.is) tells is_x is_ls is_ss in
    let m = g.M.Store.has c.loop-number.map in
    let after = c.loop-number.invariant.after in
    let is = rw c.in-Some.is at c.in_ok-next-in-One.ensures.right in
    let made = rw c.in-Some.is at c.in_ok-next-in-One.ensures.map in
    let next = rw c.in-Some.is at c.in_ok-next-in-One.ensures.next in
    record {
      right = right_more (ops_in script said) (replies_in script said) n c.loop-number.invariant.right (read_right script said c.requires.answered n c.in-One.caller places stand x ls ss it m after is);
      after = read_after script said c.requires.answered n c.in-One.caller places stand x ls ss it m after is (g.M.Store.has c.after.new.map) made;
      stand = read_stand script said c.requires.answered n c.in-One.caller places stand x ls ss it m after is c.in-Some.next next;
    }
