-- What the functions that C calls require and ensure of a handle.
use Rattle.std.specs.Prelude.{ℕ, ◌≡◌, ◌≢◌, ◌≤◌, ◌<◌, List, All, Any, Option, Some, None, length, slice_index_or}
use Rattle.atomic_table.specs.Seated.{TableId}
use Rattle.ks_places.specs.Golden.{golden_place}
use Rattle.ks_history.specs.Done.{coupling, give_up, link_move}
use Rattle.ks_c.specs.declared.answers.Answer.{Answer}
use Rattle.ks_c.specs.declared.caller.Caller.{Caller}
use Rattle.ks_c.specs.declared.caller.Caller.TheVariants.{BLinkTree, GiveUpTree, BTree, LinkHashTable, BLinkWideTree, GiveUpWideTree}
use Rattle.ks_c.specs.declared.handle.Handle.{Handle}
use Rattle.ks_c.specs.declared.tries.Call.{Call}
use Rattle.ks_c.specs.Made.{IsNewAt, IsReadyOver, Makes}

-- the caller holds no node, and its pass is one of its dictionary
abbrev pub IsReady : Caller → Type 0
IsReady (BLinkTree c) = IsReadyOver c
IsReady (GiveUpTree c) = IsReadyOver c
IsReady (BTree c) = IsReadyOver c
IsReady (LinkHashTable c) = IsReadyOver c
IsReady (BLinkWideTree c) = IsReadyOver c
IsReady (GiveUpWideTree c) = IsReadyOver c

-- the caller tried the call at the key, by the technique of its structure and at the place that this has for the key; it
-- still is one of the same dictionary; and C gets its result
abbrev pub Called : Call → ℕ → Caller → Caller → ℕ → Answer → Type 0
Called call key (BLinkTree c) after code out = (e : _) × (after ≡ BLinkTree e) × Makes link_move call key c e code out
Called call key (GiveUpTree c) after code out = (e : _) × (after ≡ GiveUpTree e) × Makes give_up call key c e code out
Called call key (BTree c) after code out = (e : _) × (after ≡ BTree e) × Makes coupling call key c e code out
Called call key (LinkHashTable c) after code out = (e : _) × (after ≡ LinkHashTable e) × Makes link_move call (golden_place key) c e code out
Called call key (BLinkWideTree c) after code out = (e : _) × (after ≡ BLinkWideTree e) × Makes link_move call key c e code out
Called call key (GiveUpWideTree c) after code out = (e : _) × (after ≡ GiveUpWideTree e) × Makes give_up call key c e code out

-- a handle is closed, or its caller is ready
abbrev pub IsHandle : Option Caller → Type 0
IsHandle None = Unit {0}
IsHandle (Some c) = IsReady c

-- the code is 16 for a closed handle; an open one stays open, and its caller tried the call
abbrev pub HasCalled : Call → ℕ → Option Caller → Option Caller → ℕ → Answer → Type 0
HasCalled call key None after code out = (code ≡ 16) × (after ≡ None)
HasCalled call key (Some before) after code out = (c : Caller) × (after ≡ Some c) × Called call key before c code out

-- all are handles
abbrev pub AreHandles : List Handle → Type 0
AreHandles hs = All (λ h. IsHandle h.inside) hs

-- the word by which C chooses a structure
abbrev pub IsStructure : ℕ → Type 0
IsStructure word = word ≤ 5

-- this is the caller numbered i of a new dictionary: of the structure that the word chooses, with this table, and as many
-- nodes and callers
abbrev pub IsNewCaller : ℕ → TableId → ℕ → ℕ → ℕ → Caller → Type 0
IsNewCaller word t nodes callers i (BLinkTree c) = (word ≡ 0) × IsNewAt t nodes callers i c
IsNewCaller word t nodes callers i (GiveUpTree c) = (word ≡ 1) × IsNewAt t nodes callers i c
IsNewCaller word t nodes callers i (BTree c) = (word ≡ 2) × IsNewAt t nodes callers i c
IsNewCaller word t nodes callers i (LinkHashTable c) = (word ≡ 3) × IsNewAt t nodes callers i c
IsNewCaller word t nodes callers i (BLinkWideTree c) = (word ≡ 4) × IsNewAt t nodes callers i c
IsNewCaller word t nodes callers i (GiveUpWideTree c) = (word ≡ 5) × IsNewAt t nodes callers i c

-- these are all callers of one new dictionary, in their order
pub record AreNewCallers (word nodes callers : ℕ) (cs : List Caller) : Type 0 where
  pub table : TableId
  pub count : length cs ≡ callers
  pub each : (i : ℕ) (d : Caller) → i < callers → IsNewCaller word table nodes callers i (slice_index_or cs i d)

-- behind the handles are all callers of one new dictionary, in their order
pub record AreOpened (word nodes : ℕ) (hs : List Handle) : Type 0 where
  pub table : TableId
  pub each : (i : ℕ) (d : Handle) → i < length hs → (c : Caller) × ((slice_index_or hs i d).inside ≡ Some c) × IsNewCaller word table nodes (length hs) i c

-- a handle that was open is closed now, with the code 0; for one that was closed the code is 16
abbrev pub HasClosed : Option Caller → ℕ → Type 0
HasClosed None code = code ≡ 16
HasClosed (Some c) code = code ≡ 0

-- a dictionary may have this number of nodes, and of callers
abbrev pub IsSize : ℕ → ℕ → Type 0
IsSize nodes callers = (4 ≤ nodes) × (nodes ≤ 1048576) × (1 ≤ callers) × (callers ≤ 1024)

-- one of the handles is open
abbrev pub IsAnyOpen : List Handle → Type 0
IsAnyOpen hs = Any (λ h. h.inside ≢ None) hs

-- behind each handle is what was behind it before
abbrev pub AreAsBefore : List Handle → List Handle → Type 0
AreAsBefore hs ks = (i : ℕ) (d : Handle) → (slice_index_or ks i d).inside ≡ (slice_index_or hs i d).inside
