-- The call that takes a name away.
use Rattle.std.specs.Prelude.{ℕ, ◌==◌, bit_and, not, Bool, List, [], ◌∷◌, ◌++◌, Option, None, Some, if◌then◌else◌}
use Rattle.abi_base.specs.declared.errno.Errno.{Errno}
use Rattle.abi_base.specs.declared.errno.Errno.TheVariants.{Noent, Notdir, Notempty, Perm}
use Rattle.abi_base.specs.declared.rights.TheConstants.Rights.{FILE_UNLINK}
use Rattle.abi_base.specs.declared.flags.TheConstants.{UNLINK_REMOVEDIR}
use Rattle.abi_types.specs.declared.node.Times.{Times}
use Rattle.tree_model.specs.Changes.{first_fault, is_absent, unlinked, unlink_faults}
use Rattle.tree_model.specs.Tree.{entry_of, is_directory}
use Rattle.tree_model.specs.declared.fault.TreeFault.{TreeFault}
use Rattle.tree_model.specs.declared.fault.TreeFault.TheVariants.{NotEmpty}
use Rattle.kernel_model.specs.Families.FileChanges.{retimed}
use Rattle.kernel_model.specs.Families.FilePaths.{path_errors}
use Rattle.kernel_model.specs.Families.LastNames.{LastName, StandsIn, IsNone, IsOutside, directory_parts, last_name, last_outside}
use Rattle.kernel_model.specs.Meaning.{Meaning}
use Rattle.kernel_model.specs.Families.NameMaking.{errno_of, with_new_names}
use Rattle.kernel_model.specs.Families.NameMeaning.{NameOutcome, Refuses, Changes, NameMeaning, at_name, by_name, unless_fault}
use Rattle.kernel_model.specs.Rows.{base_row}
use Rattle.kernel_model.specs.State.{Part, Tree, at_node}
use Rattle.kernel_model.specs.Families.TreeUpdates.{Change}

-- the times of a node that has other names now, or other times
abbrev pub recounted : ℕ → Times → Times
recounted now times = record times { ctim = now }

abbrev pub with_new_count : ℕ → Tree → ℕ → Tree
with_new_count now t n = retimed t n (recounted now)

-- a directory's name is taken away with REMOVEDIR, any other without it
abbrev pub removes_directory : ℕ → Bool
removes_directory flags = not (bit_and flags UNLINK_REMOVEDIR == 0)

abbrev pub without_name : ℕ → Tree → ℕ → List ℕ → ℕ → Change
without_name now t d name n = record {
  tree = with_new_count now (with_new_names now (unlinked t d name) d) n;
  nodes = d ∷ n ∷ [];
  directories = d ∷ [];
}

-- the name is of this node, and the tree has no fault for it
abbrev pub unlink_node : ℕ → ℕ → Tree → ℕ → List ℕ → Option ℕ → NameOutcome
unlink_node flags now t d name None = Refuses Noent
unlink_node flags now t d name (Some n) =
    if is_directory t n then (if removes_directory flags then Changes (without_name now t d name n) else Refuses Perm)
    else (if removes_directory flags then Refuses Notdir else Changes (without_name now t d name n))

-- names in a directory are reported only where it might go
abbrev pub unlink_errno : ℕ → TreeFault → Errno
unlink_errno flags NotEmpty = if removes_directory flags then Notempty else Perm
unlink_errno flags fault = errno_of fault

-- A name whose node isn't there is no entry. No tree has such a name.
abbrev pub unless_lost : Tree → Option ℕ → NameOutcome → NameOutcome
unless_lost t None comes = comes
unless_lost t (Some n) comes = if is_absent t n then Refuses Noent else comes

abbrev pub unlink_in : ℕ → ℕ → Tree → ℕ → List ℕ → NameOutcome
unlink_in flags now t d name =
    unless_lost t (entry_of t d name)
    (unless_fault (unlink_errno flags) (first_fault (unlink_faults t d name)) (unlink_node flags now t d name (entry_of t d name)))

-- the node that has a name, where it is there
abbrev pub node_parts_of : Tree → Option ℕ → List Part
node_parts_of t None = []
node_parts_of t (Some n) = if is_absent t n then [] else at_node n ∷ []

abbrev pub named_parts : Tree → LastName → List Part
named_parts t (StandsIn dir name) = node_parts_of t (entry_of t dir name)
named_parts t (IsNone errno) = []
named_parts t (IsOutside component) = []

abbrev pub unlinking : ℕ → List ℕ → NameMeaning
unlinking flags path = record {
  effect = λ now new t here there. at_name (unlink_in flags now t) (last_name t path here);
  outside = λ t here there. last_outside (last_name t path here);
  touched = λ t here there. directory_parts (last_name t path here) ++ named_parts t (last_name t path here);
  new_nodes = 0;
  errors = path_errors ++ Perm ∷ Notempty ∷ [];
}

abbrev pub file_unlink : ℕ → List ℕ → ℕ → Meaning
file_unlink fd path flags = by_name (base_row fd FILE_UNLINK) (unlinking flags path)
