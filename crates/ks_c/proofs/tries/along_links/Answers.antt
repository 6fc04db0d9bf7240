use Rattle.std.proofs.Common.{refl, subst, sym}
use Rattle.ks_arena.specs.Of.{IsEmptyPassOf}
use Rattle.ks_history.specs.Done.{link_move}
use Rattle.ks_history.specs.declared.Op.TheVariants.{Add as OpAdd, Del as OpDel, Get as OpGet, Put as OpPut, Swap as OpSwap}
use Rattle.ks_shape.specs.Of.{TriedOf, TriedPutOf}
use Rattle.ks_c.specs.Made.{Makes}
use Rattle.ks_c.proofs.tries.along_links.Goals as goal

pub returns-in-Get : goal.returns-in-Get
returns-in-Get g c =
    let p = c.args.caller.now in let q = c.try_get.new.pass in let t = c.try_get.ensures in let r = c.try_get.result in let same = c.deref.ensures in
    subst (λ s. Makes link_move c.args.call s p (record { before = p.before; arena = p.arena; pass = q; after = p.after }) c.tell.result c.tell.new.out) c.place-place.ensures (
    subst (λ k. Makes link_move k c.place-place.result p (record { before = p.before; arena = p.arena; pass = q; after = p.after }) c.tell.result c.tell.new.out) (sym c.in-Get.is) (record {
      ready = subst (λ a. IsEmptyPassOf a q) same t.pass;
      same = refl;
      caller = t.caller;
      leaves = t.leaves;
      answer = r;
      tried = subst (λ a. TriedOf a link_move (OpGet c.place-place.result) p.pass q r) same t.tried;
      never = c.tries_law.ensures.told _ _ _ _ _ _ _ _ t.tried;
      alone = λ alone holds. c.tries_law.ensures.ok _ _ _ _ _ _ _ _ alone holds t.tried;
      reuse = c.reuse_law.ensures _ _ _ _ t.pass.0.sound;
      tells = c.tell.ensures;
    }))

pub returns-in-Put : goal.returns-in-Put
returns-in-Put g c =
    let p = c.args.caller.now in let q = c.try_put.new.pass in let t = c.try_put.ensures in let r = c.try_put.result in let same = c.deref-in-Put.ensures in
    subst (λ s. Makes link_move c.args.call s p (record { before = p.before; arena = p.arena; pass = q; after = p.after }) c.tell_put.result c.tell_put.new.out) c.place-place.ensures (
    subst (λ k. Makes link_move k c.place-place.result p (record { before = p.before; arena = p.arena; pass = q; after = p.after }) c.tell_put.result c.tell_put.new.out) (sym c.in-Put.is) (record {
      ready = subst (λ a. IsEmptyPassOf a q) same t.pass;
      same = refl;
      caller = t.caller;
      leaves = t.fills;
      answer = r;
      tried = subst (λ a. TriedPutOf a link_move (OpPut c.place-place.result c.in-Put.value) p.pass q r) same t.tried;
      never = c.tries_law.ensures.put_told _ _ _ _ _ _ _ _ t.tried;
      alone = λ alone holds. c.tries_law.ensures.put _ _ _ _ _ _ _ _ alone holds t.tried;
      reuse = c.reuse_law.ensures _ _ _ _ t.pass.0.sound;
      tells = c.tell_put.ensures;
    }))

pub returns-in-Add : goal.returns-in-Add
returns-in-Add g c =
    let p = c.args.caller.now in let q = c.try_add.new.pass in let t = c.try_add.ensures in let r = c.try_add.result in let same = c.deref-in-Add.ensures in
    subst (λ s. Makes link_move c.args.call s p (record { before = p.before; arena = p.arena; pass = q; after = p.after }) c.tell_put-in-Add.result c.tell_put-in-Add.new.out) c.place-place.ensures (
    subst (λ k. Makes link_move k c.place-place.result p (record { before = p.before; arena = p.arena; pass = q; after = p.after }) c.tell_put-in-Add.result c.tell_put-in-Add.new.out) (sym c.in-Add.is) (record {
      ready = subst (λ a. IsEmptyPassOf a q) same t.pass;
      same = refl;
      caller = t.caller;
      leaves = t.fills;
      answer = r;
      tried = subst (λ a. TriedPutOf a link_move (OpAdd c.place-place.result c.in-Add.value) p.pass q r) same t.tried;
      never = c.tries_law.ensures.put_told _ _ _ _ _ _ _ _ t.tried;
      alone = λ alone holds. c.tries_law.ensures.put _ _ _ _ _ _ _ _ alone holds t.tried;
      reuse = c.reuse_law.ensures _ _ _ _ t.pass.0.sound;
      tells = c.tell_put-in-Add.ensures;
    }))

pub returns-in-Swap : goal.returns-in-Swap
returns-in-Swap g c =
    let p = c.args.caller.now in let q = c.try_swap.new.pass in let t = c.try_swap.ensures in let r = c.try_swap.result in let same = c.deref-in-Swap.ensures in
    subst (λ s. Makes link_move c.args.call s p (record { before = p.before; arena = p.arena; pass = q; after = p.after }) c.tell-in-Swap.result c.tell-in-Swap.new.out) c.place-place.ensures (
    subst (λ k. Makes link_move k c.place-place.result p (record { before = p.before; arena = p.arena; pass = q; after = p.after }) c.tell-in-Swap.result c.tell-in-Swap.new.out) (sym c.in-Swap.is) (record {
      ready = subst (λ a. IsEmptyPassOf a q) same t.pass;
      same = refl;
      caller = t.caller;
      leaves = t.leaves;
      answer = r;
      tried = subst (λ a. TriedOf a link_move (OpSwap c.place-place.result c.in-Swap.old c.in-Swap.new) p.pass q r) same t.tried;
      never = c.tries_law.ensures.told _ _ _ _ _ _ _ _ t.tried;
      alone = λ alone holds. c.tries_law.ensures.ok _ _ _ _ _ _ _ _ alone holds t.tried;
      reuse = c.reuse_law.ensures _ _ _ _ t.pass.0.sound;
      tells = c.tell-in-Swap.ensures;
    }))

pub returns-in-Del : goal.returns-in-Del
returns-in-Del g c =
    let p = c.args.caller.now in let q = c.try_del.new.pass in let t = c.try_del.ensures in let r = c.try_del.result in let same = c.deref-in-Del.ensures in
    subst (λ s. Makes link_move c.args.call s p (record { before = p.before; arena = p.arena; pass = q; after = p.after }) c.tell-in-Del.result c.tell-in-Del.new.out) c.place-place.ensures (
    subst (λ k. Makes link_move k c.place-place.result p (record { before = p.before; arena = p.arena; pass = q; after = p.after }) c.tell-in-Del.result c.tell-in-Del.new.out) (sym c.in-Del.is) (record {
      ready = subst (λ a. IsEmptyPassOf a q) same t.pass;
      same = refl;
      caller = t.caller;
      leaves = t.leaves;
      answer = r;
      tried = subst (λ a. TriedOf a link_move (OpDel c.place-place.result) p.pass q r) same t.tried;
      never = c.tries_law.ensures.told _ _ _ _ _ _ _ _ t.tried;
      alone = λ alone holds. c.tries_law.ensures.ok _ _ _ _ _ _ _ _ alone holds t.tried;
      reuse = c.reuse_law.ensures _ _ _ _ t.pass.0.sound;
      tells = c.tell-in-Del.ensures;
    }))
