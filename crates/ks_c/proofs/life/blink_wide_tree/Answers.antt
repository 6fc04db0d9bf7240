use Rattle.std.proofs.Common.{map, refl}
use Rattle.ks_c.specs.declared.caller.Caller.TheVariants.{BLinkWideTree}
use Rattle.ks_c.proofs.Crew.{one_ok, kept_callers}
use Rattle.ks_c.proofs.life.blink_wide_tree.Goals as goal

pub returns : goal.returns
returns c = one_ok c.boxed.result (λ v is. kept_callers 4 c.args.nodes c.args.callers (λ k. BLinkWideTree k) (λ t i k new. (refl, new)) c.in_ok-crew.crew.items (map (λ b. b.value) v.items) c.in_ok-crew.ensures is) c.boxed.ensures
