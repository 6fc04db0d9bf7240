-- Small traces and graphs at which what `serve` promises of a run holds, and some at which it does not.
use Rattle.std.proofs.Common.{ℕ, zero, suc, ◌≡◌, ◌<◌, inl, List, [], ◌∷◌, Some, refl, ap, length, arith}
use Rattle.std.proofs.lemmas.Option.{same_Some}
use Rattle.ks_keysets.specs.declared.NodeState.{NodeState}
use Rattle.ks_keysets.specs.declared.NodeState.TheVariants.{Free, Live}
use Rattle.ks_keysets.specs.declared.Record.{Record}
use Rattle.ks_keysets.specs.Record.{top}
use Rattle.ks_keysets.specs.Frame.{empty_record}
use Rattle.ks_keysets.specs.Keyset.{record_at, at_root, InKeyset, Good}
use Rattle.ks_history.specs.declared.Op.TheVariants.{Put}
use Rattle.ks_history.specs.declared.Reply.TheVariants.{Nothing}
use Rattle.ks_history.specs.declared.Event.{Event}
use Rattle.ks_history.specs.declared.Event.TheVariants.{Take, Give, Call}
use Rattle.ks_history.specs.Lawful.{Lawful}
use Rattle.ks_history.specs.Callers.{CallersBelow}
use Rattle.ks_history.specs.Trace.{graph_after}
use Rattle.ks_arena.specs.Named.{AllNamedBelow}

-- caller 0 takes the root, puts a pair there, and releases it
abbrev taken : List Event
taken = Take 0 0 ∷ []

abbrev one_put : List Event
one_put = Give 0 0 ∷ Call 0 0 (Put 5 50) Nothing ∷ taken

root_has_no_edge : (r : Record) → record_at (graph_after taken) 0 ≡ Some r → (i : ℕ) → i < length r.edges → ⊥
root_has_no_edge r is i lt = let e = ap (λ (x : Record). length x.edges) (same_Some empty_record r is) in omega arith

in_root : (p : ℕ) → p ≡ 5 → InKeyset (graph_after taken) 0 p
in_root p is = ((omega arith, at_root (empty_record, refl)), λ o. root_has_no_edge o.0 o.1 o.2.0 o.2.2)

-- that is lawful
put_is_lawful : Lawful one_put
put_is_lawful = (((tt, refl), (refl, in_root, inl refl)), refl)

-- a put at the root by a caller that does not hold it is not
put_in_passing : Lawful (Call 0 0 (Put 5 50) Nothing ∷ []) → ⊥
put_in_passing l = let idle_held = l.1.0 in absurd (cc)

-- it names only the root, and only caller 0 acts: it is of an arena of one node, and of none of no node
named_one : AllNamedBelow 1 one_put × CallersBelow 1 one_put
named_one = ((((tt, omega arith), omega arith), omega arith), (omega arith, (omega arith, (omega arith, tt))))

named_none : AllNamedBelow 0 one_put → ⊥
named_none named = let last = named.1 in omega arith

-- the root, with an edge for the places from 8 on to node 1, which is free
abbrev torn : ℕ → NodeState
torn zero = Live (record { edges = record { span = record { low = 8; last = top }; node = 1 } ∷ []; pairs = [] })
torn (suc n) = Free

-- that graph is not good
torn_not_good : Good torn → ⊥
torn_not_good good = let live = good.leads 0 (record { edges = record { span = record { low = 8; last = top }; node = 1 } ∷ []; pairs = [] }) refl 0 (record { span = record { low = 8; last = top }; node = 1 }) (omega arith) in let none = live.1 in absurd (cc)
