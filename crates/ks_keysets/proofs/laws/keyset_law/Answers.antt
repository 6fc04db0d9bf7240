use Rattle.ks_keysets.proofs.Walks.{keyset_ends, ends_keyset, keyset_one, ends_live, ends_ends}
use Rattle.ks_keysets.proofs.laws.keyset_law.Goals as goal

pub returns-clause-walk : goal.returns-clause-walk
returns-clause-walk c g n p place = (keyset_ends g n p, ends_keyset g n p place)

pub returns-clause-one : goal.returns-clause-one
returns-clause-one c g n m p apart h h' = keyset_one g n m p apart h h'

pub returns-clause-ended : goal.returns-clause-ended
returns-clause-ended c g n p apart e = ends_live g p n apart e

pub returns-clause-endless : goal.returns-clause-endless
returns-clause-endless c g n p apart e = ends_ends g p n apart e
