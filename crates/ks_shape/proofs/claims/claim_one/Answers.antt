use Rattle.std.proofs.Common.{ℕ, arith}
use Rattle.ks_flow.specs.Discipline.{SameKeyset}
use Rattle.ks_history.specs.declared.Event.TheVariants.{Claim}
use Rattle.ks_history.specs.Laws.Begins.{by_others_begins, with_begins}
use Rattle.ks_history.specs.Laws.Stretch.{stretch_others}
use Rattle.ks_arena.specs.Sound.{sort_of}
use Rattle.ks_arena.specs.Clauses.{seen_of}
use Rattle.ks_shape.specs.Laws.Beside.{StaysBeside, beside_others, stays_beside, keyset_beside}
use Rattle.ks_shape.specs.Laws.Makes.{makes_both, makes_others, makes_with}
use Rattle.ks_shape.specs.Laws.Quiet.{quiet_others, quiet_claim, quiet_both}
use Rattle.ks_shape.proofs.Claiming.{claimed_stretch, claimed_beside, refused, splits_before}
use Rattle.ks_shape.specs.Does.{MayFill}
use Rattle.ks_shape.specs.Laws.Does.{does_both, does_others, does_with}
use Rattle.ks_shape.proofs.claims.claim_one.Given.{Over}
use Rattle.ks_shape.proofs.claims.claim_one.Goals as goal
use Rattle.ks_shape.proofs.claims.claim_one.Goals.{After-claim}

besides : (g : Over) (c : After-claim g) → StaysBeside g.D.Discipline.beside (sort_of g.N.Node.layout g.N.Node.ranged) g.D.Discipline.begins g.D.Discipline.step c.args.arena.now.table.shared.table_id.slots
besides g c = stays_beside (sort_of g.N.Node.layout g.N.Node.ranged) c.laws.ensures c.walks_law.ensures.opening c.args.arena.now.table.shared.table_id.slots

keysets : (g : Over) (c : After-claim g) → StaysBeside SameKeyset (sort_of g.N.Node.layout g.N.Node.ranged) g.D.Discipline.begins g.D.Discipline.step c.args.arena.now.table.shared.table_id.slots
keysets g c = keyset_beside (sort_of g.N.Node.layout g.N.Node.ranged) c.laws.ensures c.walks_law.ensures.opening c.args.arena.now.table.shared.table_id.slots

pub returns-in_default-clause-claimed : goal.returns-in_default-clause-claimed
returns-in_default-clause-claimed g c = let at = (goal.at.returns-in_default-clause-claimed g c).After-claim in let told = rw c.in_default.is at c.claim.ensures.claimed in
    (told.0.hand, λ place holds. refused (sort_of g.N.Node.layout g.N.Node.ranged) g.D.Discipline.begins g.D.Discipline.step c.args.arena.now.table.shared.table_id.slots c.args.pass.now.caller c.args.arena.now.nodes (keysets g at) (seen_of c.args.pass.now) (seen_of c.claim.new.pass) told.0 told.1 c.claim.ensures.pass.sound place holds)

pub returns-in_default-clause-stretch : goal.returns-in_default-clause-stretch
returns-in_default-clause-stretch g c = λ template. let told = rw c.in_default.is at c.claim.ensures.claimed in stretch_others template c.args.pass.now.caller (seen_of c.args.pass.now) (seen_of c.claim.new.pass) (omega (arith, c.requires.few)) told.0.grows

pub returns-in_default-clause-beside : goal.returns-in_default-clause-beside
returns-in_default-clause-beside g c = let at = (goal.at.returns-in_default-clause-beside g c).After-claim in let told = rw c.in_default.is at c.claim.ensures.claimed in
    beside_others g.D.Discipline.beside (sort_of g.N.Node.layout g.N.Node.ranged) g.D.Discipline.begins g.D.Discipline.step c.args.arena.now.table.shared.table_id.slots (besides g at) c.args.pass.now.caller (seen_of c.args.pass.now) (seen_of c.claim.new.pass) told.0.grows c.claim.ensures.pass.sound

pub returns-in_default-clause-keysets : goal.returns-in_default-clause-keysets
returns-in_default-clause-keysets g c = let at = (goal.at.returns-in_default-clause-keysets g c).After-claim in let told = rw c.in_default.is at c.claim.ensures.claimed in
    beside_others SameKeyset (sort_of g.N.Node.layout g.N.Node.ranged) g.D.Discipline.begins g.D.Discipline.step c.args.arena.now.table.shared.table_id.slots (keysets g at) c.args.pass.now.caller (seen_of c.args.pass.now) (seen_of c.claim.new.pass) told.0.grows c.claim.ensures.pass.sound

pub returns-clause-stretch : goal.returns-clause-stretch
returns-clause-stretch g c = λ template. claimed_stretch (sort_of g.N.Node.layout g.N.Node.ranged) g.N.Node.body c.args.pass.now.caller (seen_of c.args.pass.now) (seen_of c.claim.new.pass) c.in-Some.claimed c.in-Some.ensures.claimed.0 template c.requires.few

pub returns-clause-beside : goal.returns-clause-beside
returns-clause-beside g c = let at = (goal.at.returns-clause-beside g c).After-claim in
    claimed_beside (sort_of g.N.Node.layout g.N.Node.ranged) g.N.Node.body c.args.pass.now.caller (seen_of c.args.pass.now) (seen_of c.claim.new.pass) c.in-Some.claimed c.in-Some.ensures.claimed.0 g.D.Discipline.begins g.D.Discipline.step c.args.arena.now.table.shared.table_id.slots g.D.Discipline.beside (besides g at) c.claim.ensures.pass.sound

pub returns-clause-keysets : goal.returns-clause-keysets
returns-clause-keysets g c = let at = (goal.at.returns-clause-keysets g c).After-claim in
    claimed_beside (sort_of g.N.Node.layout g.N.Node.ranged) g.N.Node.body c.args.pass.now.caller (seen_of c.args.pass.now) (seen_of c.claim.new.pass) c.in-Some.claimed c.in-Some.ensures.claimed.0 g.D.Discipline.begins g.D.Discipline.step c.args.arena.now.table.shared.table_id.slots SameKeyset (keysets g at) c.claim.ensures.pass.sound

pub returns-in_default-clause-makes : goal.returns-in_default-clause-makes
returns-in_default-clause-makes g c = let told = rw c.in_default.is at c.claim.ensures.claimed in makes_others c.args.pass.now.caller (seen_of c.args.pass.now) (seen_of c.claim.new.pass) told.0.grows

pub returns-clause-makes : goal.returns-clause-makes
returns-clause-makes g c = let me : ℕ = c.args.pass.now.caller in let h = seen_of c.args.pass.now in let k = seen_of c.claim.new.pass in let got = c.in-Some.ensures.claimed.0 in let e = Claim me c.in-Some.claimed.node in
    makes_both me h got.moment k (with_begins me e h got.moment got.grows) (by_others_begins me got.moment k got.since) (makes_with me e h got.moment tt got.grows) (makes_others me got.moment k got.since)

pub returns-in_default-clause-quiet : goal.returns-in_default-clause-quiet
returns-in_default-clause-quiet g c = let told = rw c.in_default.is at c.claim.ensures.claimed in quiet_others c.args.pass.now.caller (seen_of c.args.pass.now) (seen_of c.claim.new.pass) told.0.grows

pub returns-clause-quiet : goal.returns-clause-quiet
returns-clause-quiet g c = let me : ℕ = c.args.pass.now.caller in let h = seen_of c.args.pass.now in let k = seen_of c.claim.new.pass in let got = c.in-Some.ensures.claimed.0 in
    quiet_both me h got.moment k (quiet_claim me c.in-Some.claimed.node h got.moment got.grows) (quiet_others me got.moment k got.since)

pub returns-in_default-clause-fills : goal.returns-in_default-clause-fills
returns-in_default-clause-fills g c = λ place splits. let told = rw c.in_default.is at c.claim.ensures.claimed in does_others (MayFill (sort_of g.N.Node.layout g.N.Node.ranged) place) c.args.pass.now.caller (seen_of c.args.pass.now) (seen_of c.claim.new.pass) told.0.grows

pub returns-clause-fills : goal.returns-clause-fills
returns-clause-fills g c = λ place splits. let at = (goal.at.returns-clause-fills g c).After-claim in let me : ℕ = c.args.pass.now.caller in let h = seen_of c.args.pass.now in let k = seen_of c.claim.new.pass in let got = c.in-Some.ensures.claimed.0 in let sort = sort_of g.N.Node.layout g.N.Node.ranged in let n : ℕ = c.args.arena.now.table.shared.table_id.slots in let e = Claim me c.in-Some.claimed.node in let may = MayFill sort place in
    let so = (keysets g at).older got.moment k (by_others_begins me got.moment k got.since) c.claim.ensures.pass.sound in
    let before = splits_before sort g.D.Discipline.begins g.D.Discipline.step n me (keysets g at) e place h got.moment got.grows so splits in
    does_both may me h got.moment k (does_with may me e h got.moment got.grows before) (does_others may me got.moment k got.since)
