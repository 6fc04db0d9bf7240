use Rattle.ks_arena.specs.Laws.FromSound.{fine, sound_begins, fulls_due, lasts_from, unshaped}
use Rattle.ks_arena.proofs.laws.sound_law.Goals as goal

pub returns-clause-lawful : goal.returns-clause-lawful
returns-clause-lawful g c = λ sort nodes h so. (fine sort c.laws.ensures c.walks_law.ensures.opening nodes h so).lawful

pub returns-clause-good : goal.returns-clause-good
returns-clause-good g c = λ sort nodes h so. (fine sort c.laws.ensures c.walks_law.ensures.opening nodes h so).good

pub returns-clause-facts : goal.returns-clause-facts
returns-clause-facts g c = λ sort nodes h so. (fine sort c.laws.ensures c.walks_law.ensures.opening nodes h so).facts_now

pub returns-clause-begins : goal.returns-clause-begins
returns-clause-begins g c = λ sort nodes k h from so. sound_begins sort c.laws.ensures c.walks_law.ensures.opening nodes k h from so

pub returns-clause-due : goal.returns-clause-due
returns-clause-due g c = λ sort nodes h so. fulls_due sort c.laws.ensures c.walks_law.ensures.opening nodes h so

pub returns-clause-lasts : goal.returns-clause-lasts
returns-clause-lasts g c = λ sort nodes k h from so. lasts_from sort c.laws.ensures c.walks_law.ensures.opening nodes k h from so

pub returns-clause-keyset : goal.returns-clause-keyset
returns-clause-keyset g c = λ sort nodes c' i k h grows mine so. (unshaped sort c.laws.ensures c.walks_law.ensures.opening nodes c' i k h grows mine so).keyset

pub returns-clause-beside : goal.returns-clause-beside
returns-clause-beside g c = λ sort nodes c' i k h grows mine so. (unshaped sort c.laws.ensures c.walks_law.ensures.opening nodes c' i k h grows mine so).aside
