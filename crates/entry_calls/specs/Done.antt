-- How a call on names ends.
use Rattle.std.specs.Prelude.{◌≡◌, ◌⊎◌, ⊤, ℕ, zero, suc, true, Option, Some, Result, Ok, Err}
use Rattle.std.specs.FinMap.{get}
use Rattle.std.specs.Option.{option_map}
use Rattle.abi_base.specs.declared.errno.Errno.{Errno}
use Rattle.abi_types.specs.declared.node.Node.{Node}
use Rattle.file_calls.specs.declared.paths.PathFault.TheVariants as path_fault
use Rattle.kernel_model.specs.Families.NameMeaning.{NameOutcome, Refuses, LeadsOut, Changes}
use Rattle.kernel_model.specs.Families.TreeUpdates.{Change}
use Rattle.entry_calls.specs.declared.failure.Failure.{Failure}
use Rattle.entry_calls.specs.declared.failure.Failure.TheVariants.{Refused, NoMemory}
use Rattle.tree_model.specs.Changes.{is_absent}
use Rattle.tree_model.specs.Tree.{Tree}
use Rattle.tree_model.specs.declared.fault.TreeFault.{TreeFault}
use Rattle.tree_model.specs.declared.fault.TreeFault.TheVariants as fault

-- why it isn't done where the tree has this fault, by the error for that fault
abbrev pub failure_of : (TreeFault → Errno) → TreeFault → Failure
failure_of errno_of fault.NoMemory = NoMemory
failure_of errno_of f = Refused (path_fault.Errno (errno_of f))

-- it fails so: it is refused as the definition says, or memory runs out where it would change the tree
abbrev pub FailsAs : NameOutcome → Failure → Type 0
FailsAs comes (Refused (path_fault.Errno errno)) = comes ≡ Refuses errno
FailsAs comes (Refused (path_fault.Outside component)) = comes ≡ LeadsOut component
FailsAs comes NoMemory = (change : Change) × (comes ≡ Changes change)

-- the node is there and counts no name
abbrev pub IsNameless : Tree → ℕ → Type 0
IsNameless t n = option_map (λ (node : Node). node.links) (get t.nodes n) ≡ Some 0

-- each node without a name is this one, if one is named, or had none before
abbrev pub LosesOnly : Tree → Tree → Option ℕ → Type 0
LosesOnly old new lost = (n : ℕ) → IsNameless new n → (lost ≡ Some n) ⊎ IsNameless old n

-- It comes to a change of the tree old to the tree new, by which no node but this one lost its last name; or it fails, and the
-- tree stays.
abbrev pub IsDone : NameOutcome → Tree → Tree → Result (Option ℕ) Failure → Type 0
IsDone comes old new (Ok lost) = (change : Change) × (comes ≡ Changes change) × (new ≡ change.tree) × LosesOnly old new lost
IsDone comes old new (Err failure) = FailsAs comes failure × (new ≡ old)

-- the number of a node that is made, where one is, is none in the tree
abbrev pub IsNew : ℕ → Tree → ℕ → Type 0
IsNew zero t new = ⊤
IsNew (suc new_nodes) t new = is_absent t new ≡ true
