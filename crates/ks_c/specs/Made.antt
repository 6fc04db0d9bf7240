-- What one call did, over any nodes, and how C gets its result.
use Rattle.std.specs.Prelude.{ℕ, ◌≡◌, ◌<◌, List, [], length, slice_index_or, Bool, IsTrue, Result}
use Rattle.std.specs.Result.{is_ok}
use Rattle.std_alloc.specs.Arc.{arc_value}
use Rattle.ks_keysets.specs.Layout.{Layout}
use Rattle.ks_node.specs.declared.node.Node.{Ghosts as NodeGhosts}
use Rattle.ks_node.below.ks_places.specs.declared.Placing.{Ghosts as PlacingGhosts}
use Rattle.ks_flow.specs.declared.discipline.Discipline.{Ghosts as DisciplineGhosts}
use Rattle.ks_history.specs.declared.Op.{Op}
use Rattle.ks_history.specs.declared.Op.TheVariants.{Add as OpAdd, Del as OpDel, Get as OpGet, Move as OpMove, Part as OpPart, Put as OpPut, Swap as OpSwap}
use Rattle.ks_history.specs.Done.{Template, coupling, give_up, link_move}
use Rattle.atomic_table.specs.Seated.{TableId}
use Rattle.ks_arena.specs.Clauses.{seen_of}
use Rattle.ks_arena.specs.Of.{HeldAlone, IsEmptyPassOf, SameCaller, WasAlone, caller_of, callers_of, nodes_of}
use Rattle.ks_arena.specs.Reuse.{ReusesSafely}
use Rattle.ks_arena.specs.declared.held.Pass.{Pass}
use Rattle.ks_shape.specs.declared.answers.Numbered.{Numbered}
use Rattle.ks_shape.specs.declared.answers.Later.{Later}
use Rattle.ks_shape.specs.declared.answers.PutLater.{PutLater}
use Rattle.ks_shape.specs.Does.{OnlyDels, OnlyFills, OnlySearches}
use Rattle.ks_shape.specs.Of.{TriedOf, TriedPutOf}
use Rattle.ks_shape.specs.Tries.{IsDoneIn, MayTell, PutMayTell}
use Rattle.ks_c.specs.declared.answers.Answer.{Answer}
use Rattle.ks_c.specs.declared.tries.Call.{Call}
use Rattle.ks_c.specs.declared.tries.Call.TheVariants.{Add, Del, Get, Put, Swap}
use Rattle.ks_c.specs.declared.tries.CallerOf.{CallerOf}
use Rattle.ks_c.specs.Tells.{Tells, TellsPut}

module _ {N D : Type 0} where
  -- what a del does beside its call: it merges nodes; along links it only searches
  abbrev pub DelLeaves : Template → Layout → Bool → Pass N D → Pass N D → Type 0
  DelLeaves coupling layout ranged p q = OnlyDels layout ranged p q
  DelLeaves give_up layout ranged p q = OnlyDels layout ranged p q
  DelLeaves link_move layout ranged p q = OnlySearches p q

  -- what an operation does beside its call: a get, a swap and a part of a scan only search; a put and an add make room for their
  -- place, and a move for its second one
  abbrev pub Leaves : Template → Layout → Bool → Op → Pass N D → Pass N D → Type 0
  Leaves technique layout ranged (OpGet place) p q = OnlySearches p q
  Leaves technique layout ranged (OpSwap place old new) p q = OnlySearches p q
  Leaves technique layout ranged (OpPart low last) p q = OnlySearches p q
  Leaves technique layout ranged (OpPut place value) p q = OnlyFills layout ranged place p q
  Leaves technique layout ranged (OpAdd place value) p q = OnlyFills layout ranged place p q
  Leaves technique layout ranged (OpMove from to) p q = OnlyFills layout ranged to p q
  Leaves technique layout ranged (OpDel place) p q = DelLeaves technique layout ranged p q

module _ {N D P : Type 0} {n : NodeGhosts N P} {q : PlacingGhosts P} {d : DisciplineGhosts D} where
  -- the caller holds no node, and its pass is one of its dictionary
  abbrev pub IsReadyOver : CallerOf N D P n q d → Type 0
  IsReadyOver c = IsEmptyPassOf (arc_value c.arena) c.pass

  -- the two are of one dictionary
  abbrev pub AreKin : CallerOf N D P n q d → CallerOf N D P n q d → Type 0
  AreKin a b = (arc_value a.arena).table.shared.table_id ≡ (arc_value b.arena).table.shared.table_id

  -- it is the caller numbered i of a new dictionary, with this table, and as many nodes and callers: it has seen nothing
  pub record IsNewAt (t : TableId) (nodes callers i : ℕ) (c : CallerOf N D P n q d) : Type 0 where
    pub ready : IsReadyOver c
    pub table : (arc_value c.arena).table.shared.table_id ≡ t
    pub size : nodes_of (arc_value c.arena) ≡ nodes
    pub shared : callers_of (arc_value c.arena) ≡ callers
    pub number : caller_of c.pass ≡ i
    pub seen : seen_of c.pass ≡ []

  -- these are all callers of one new dictionary, in their order
  pub record AreNewOver (nodes callers : ℕ) (cs : List (CallerOf N D P n q d)) : Type 0 where
    pub table : TableId
    pub count : length cs ≡ callers
    pub each : (i : ℕ) (x : CallerOf N D P n q d) → i < callers → IsNewAt table nodes callers i (slice_index_or cs i x)

  -- the caller tried the operation on its dictionary, by the technique, and C gets its result; if no other caller acts or holds
  -- a node, the operation is not put off
  pub record Made (technique : Template) (op : Op) (before after : CallerOf N D P n q d) (code : ℕ) (out : Answer) : Type 0 where
    pub ready : IsReadyOver after
    pub same : arc_value after.arena ≡ arc_value before.arena
    pub caller : SameCaller before.pass after.pass
    pub leaves : Leaves technique n.layout n.ranged op before.pass after.pass
    pub answer : Result Numbered Later
    pub tried : TriedOf (arc_value before.arena) technique op before.pass after.pass answer
    pub never : MayTell technique answer
    pub alone : WasAlone before.pass after.pass → HeldAlone before.pass → IsTrue (is_ok answer)
    pub reuse : ReusesSafely d.lasts (seen_of before.pass) (seen_of after.pass)
    pub tells : Tells answer code out

  -- the same for a put or an add
  pub record MadePut (technique : Template) (op : Op) (before after : CallerOf N D P n q d) (code : ℕ) (out : Answer) : Type 0 where
    pub ready : IsReadyOver after
    pub same : arc_value after.arena ≡ arc_value before.arena
    pub caller : SameCaller before.pass after.pass
    pub leaves : Leaves technique n.layout n.ranged op before.pass after.pass
    pub answer : Result Numbered PutLater
    pub tried : TriedPutOf (arc_value before.arena) technique op before.pass after.pass answer
    pub never : PutMayTell technique answer
    pub alone : WasAlone before.pass after.pass → HeldAlone before.pass → IsDoneIn answer
    pub reuse : ReusesSafely d.lasts (seen_of before.pass) (seen_of after.pass)
    pub tells : TellsPut answer code out

  -- it tried the call at the place
  abbrev pub Makes : Template → Call → ℕ → CallerOf N D P n q d → CallerOf N D P n q d → ℕ → Answer → Type 0
  Makes technique Get place before after code out = Made technique (OpGet place) before after code out
  Makes technique (Put value) place before after code out = MadePut technique (OpPut place value) before after code out
  Makes technique (Add value) place before after code out = MadePut technique (OpAdd place value) before after code out
  Makes technique (Swap old new) place before after code out = Made technique (OpSwap place old new) before after code out
  Makes technique Del place before after code out = Made technique (OpDel place) before after code out
