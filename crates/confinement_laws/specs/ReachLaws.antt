-- What is in reach of a call, told by the kinds of parts: the statement that is the contract of a function of src/laws.rt.
use Rattle.std.specs.Prelude.{◌≡◌, ◌≢◌, ◌⊎◌, ⊤, ℕ, ◌<◌, List, [], Some}
use Rattle.std.specs.FinMap.{get}
use Rattle.abi_base.specs.Rights.{Has}
use Rattle.abi_base.specs.declared.rights.Rights.{Rights}
use Rattle.abi_types.specs.declared.call.Call.{Call}
use Rattle.abi_types.specs.declared.descriptor.Descriptor.{Descriptor}
use Rattle.abi_types.specs.declared.needed.Needed.{Needed}
use Rattle.abi_types.specs.declared.open_kind.OpenKind.{OpenKind}
use Rattle.abi_types.specs.declared.open_kind.OpenKind.TheVariants.{File, Directory, End, Terminal, Process}
use Rattle.run_types.specs.declared.history.Entry.{Entry}
use Rattle.run_types.specs.declared.launch.Launch.{Launch}
use Rattle.tree_model.specs.Grants.{MayBegin}
use Rattle.tree_model.specs.Tree.{Tree, HasName}
use Rattle.kernel_model.specs.Calls.{named, need}
use Rattle.kernel_model.specs.Proper.{IsIn}
use Rattle.kernel_model.specs.State.{Part, at_chan, at_clock, at_names, at_node, at_open, at_proc, at_status, at_term, tree_of}
use Rattle.run_model.specs.Legal.{Legal}
use Rattle.run_model.specs.World.{world}
use Rattle.authority_laws.specs.Recorded.{ledger}
use Rattle.confinement_laws.specs.Reach.{IsInReach}

-- ---- descriptors

-- the first has each right of the second, bit by bit
abbrev pub HasEach : Rights → Rights → Type 0
HasEach held asked = (k : ℕ) → k < 64 → Has asked.0 k → Has held.0 k

-- The descriptor has all rights that the row asks: the base rights, or those that stand in place of them where there are such; and those that it
-- is to pass on.
pub record HasAllOf (d : Descriptor) (row : Needed) : Type 0 where
  pub base : HasEach d.base row.base ⊎ ((row.instead.0 ≢ 0) × HasEach d.base row.instead)
  pub inheriting : HasEach d.inheriting row.inheriting

-- the call needs rights of the descriptor under this number, and it has them; or it needs no right at all, and names the number
abbrev pub MayUse : Call → ℕ → Descriptor → Type 0
MayUse call fd d = ((row : Needed) × IsIn row (need call) × (row.fd ≡ fd) × HasAllOf d row) ⊎ ((need call ≡ []) × IsIn fd (named call))

-- after these entries, by what the ledger says, process p holds the descriptor under a number for which the call may use it
pub record IsUsable (launch : Launch) (history : List Entry) (p : ℕ) (call : Call) (d : Descriptor) : Type 0 where
  pub fd : ℕ
  pub held : (ledger launch history).held p fd ≡ Some d
  pub may : MayUse call fd d

-- so it holds a descriptor whose open is this one
abbrev pub UsesOpen : Launch → List Entry → ℕ → Call → OpenKind → Type 0
UsesOpen launch history p call kind = (d : Descriptor) × IsUsable launch history p call d × (get (world launch history).state.opens d.id ≡ Some kind)

-- ---- parts

-- names lead from the directory to the node, in so many steps as there are
pub data NamesLead (t : Tree) (a : ℕ) : ℕ → Type 0 where
  here : NamesLead t a a
  further : (d : ℕ) (name : List ℕ) (n : ℕ) → NamesLead t a d → HasName t d name n → NamesLead t a n

-- the open is of the file, or of a directory from which names lead to it
abbrev pub LeadsTo : Tree → OpenKind → ℕ → Type 0
LeadsTo t (File node offset flags) n = node ≡ n
LeadsTo t (Directory node flags) n = NamesLead t node n
LeadsTo t _ n = ⊥

-- the open is of a directory from which names lead to this one
abbrev pub LeadsInto : Tree → OpenKind → ℕ → Type 0
LeadsInto t (Directory node flags) n = NamesLead t node n
LeadsInto t _ n = ⊥

-- the open is of an end that reads the channel or writes it
abbrev pub IsEndOf : OpenKind → ℕ → Type 0
IsEndOf (End reads writes flags form) c = (reads ≡ Some c) ⊎ (writes ≡ Some c)
IsEndOf _ c = ⊥

-- the open is of the standard stream
abbrev pub IsOfStream : OpenKind → ℕ → Type 0
IsOfStream (Terminal which flags) k = which ≡ k
IsOfStream _ k = ⊥

-- the open is of the process
abbrev pub IsOfProcess : OpenKind → ℕ → Type 0
IsOfProcess (Process q object) r = q ≡ r
IsOfProcess _ r = ⊥

-- The call of process p may reach the part after these entries. That is the clock, and of processes its own; and beside these, by a descriptor that the
-- process holds and the call may use: its open; the status of the process that the open is of; the file that it is of, or a file or directory to which
-- names lead from it; the names in such a directory; the standard stream that it is of; and the channel that it is an end of.
abbrev pub MayReach : Launch → List Entry → ℕ → Call → Part → Type 0
MayReach launch history p call at_clock = ⊤
MayReach launch history p call (at_proc q) = q ≡ p
MayReach launch history p call (at_status q) = (q ≡ p) ⊎ ((kind : OpenKind) × UsesOpen launch history p call kind × IsOfProcess kind q)
MayReach launch history p call (at_open o) = (d : Descriptor) × IsUsable launch history p call d × (d.id ≡ o)
MayReach launch history p call (at_node n) =
    (kind : OpenKind) × UsesOpen launch history p call kind × LeadsTo (tree_of (world launch history).state) kind n
MayReach launch history p call (at_names n) =
    (kind : OpenKind) × UsesOpen launch history p call kind × LeadsInto (tree_of (world launch history).state) kind n
MayReach launch history p call (at_term k) = (kind : OpenKind) × UsesOpen launch history p call kind × IsOfStream kind k
MayReach launch history p call (at_chan c) = (kind : OpenKind) × UsesOpen launch history p call kind × IsEndOf kind c

-- Nothing else is in reach, in the world of a legal history.
abbrev pub NothingElseIsInReach : Type 0
NothingElseIsInReach =
    (launch : Launch) (history : List Entry) (p : ℕ) (call : Call) (part : Part) → MayBegin launch.tree launch.grants → Legal launch history
    → IsInReach launch history p call part → MayReach launch history p call part
