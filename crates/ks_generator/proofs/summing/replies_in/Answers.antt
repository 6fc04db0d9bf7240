use Rattle.std.proofs.Common.{ℕ, ◌≡◌, ◌<◌, Bool, true, false, length, get_or, ◌∙◌, ap, arith}
use Rattle.std.proofs.lemmas.List.{get_or_default}
use Rattle.ks_history.specs.declared.Reply.TheVariants.{Nothing}
use Rattle.ks_lines.specs.declared.Said.{Said}
use Rattle.ks_lines.specs.declared.Said.TheVariants.{Call}
use Rattle.ks_script.specs.PackedReplies.{said_at}
use Rattle.ks_generator.specs.declared.summing.Kind.{Kind}
use Rattle.ks_generator.specs.Summary.{is_some_of, reply_in}
use Rattle.ks_generator.specs.declared.summing.Kind.TheVariants.{Found, Missing, NoRoom}
use Rattle.ks_generator.proofs.Counting.{count_more}
use Rattle.ks_generator.proofs.summing.replies_in.Goals as goal

pub loop-at-preserved : goal.loop-at-preserved
loop-at-preserved c =
    let said = c.args.said.now in
    let i : ℕ = c.loop-at.at in
    let x : Said = said_at said i in
    let lt : i < length said = omega (arith, c.loop-at-test.true, c.len-at-end.ensures) in
    let is : x ≡ get_or said i x = get_or_default said i (Call 0 Nothing) x lt in
    let told : (k : Kind) (b : Bool) → is_some_of k (reply_in x) ≡ b → is_some_of k c.reply_at-reply.result ≡ b = λ k b e. ap (is_some_of k) c.reply_at-reply.ensures ∙ e in
    let inv = c.loop-at.invariant in
    record {
      found = count_more (λ s. is_some_of Found (reply_in s)) said i c.loop-at.found c.counted-found.result x lt is (λ e. c.counted-found.ensures.same (told Found true e)) (λ e. c.counted-found.ensures.other (told Found false e)) inv.found;
      none = count_more (λ s. is_some_of Missing (reply_in s)) said i c.loop-at.none c.counted-none.result x lt is (λ e. c.counted-none.ensures.same (told Missing true e)) (λ e. c.counted-none.ensures.other (told Missing false e)) inv.none;
      full = count_more (λ s. is_some_of NoRoom (reply_in s)) said i c.loop-at.full c.counted-full.result x lt is (λ e. c.counted-full.ensures.same (told NoRoom true e)) (λ e. c.counted-full.ensures.other (told NoRoom false e)) inv.full;
      few_found = omega (arith, inv.few_found, c.counted-found.ensures.few);
      few_none = omega (arith, inv.few_none, c.counted-none.ensures.few);
      few_full = omega (arith, inv.few_full, c.counted-full.ensures.few);
    }
