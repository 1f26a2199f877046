-- The calls that make names of files, move them or take them away: each by its meaning on the opens of its descriptors.
use Rattle.std.specs.Prelude.{ℕ, [], ◌∷◌, Option, None, Some}
use Rattle.abi_base.specs.declared.errno.Errno.TheVariants.{Nosys}
use Rattle.abi_types.specs.declared.call.Call.{Call}
use Rattle.abi_types.specs.declared.call.Call.TheVariants as call
use Rattle.abi_types.specs.declared.node.NodeKind.TheVariants as kind
use Rattle.kernel_model.specs.Families.FilePaths.{lookup_mode}
use Rattle.kernel_model.specs.Families.NameMaking.{making, making_unless, text_error}
use Rattle.kernel_model.specs.Families.NameMeaning.{NameMeaning, Refuses}
use Rattle.kernel_model.specs.Families.NameMoving.{linking, renaming}
use Rattle.kernel_model.specs.Families.NameRemoving.{unlinking}

-- the number of that descriptor, and of the second one where there are two, where the call is such a one
abbrev pub entry_fds : Call → Option (ℕ × Option ℕ)
entry_fds (call.FileCreate fd path type) = Some (fd, None)
entry_fds (call.FileLink lookup path new_fd new_path) = Some (lookup.fd, Some new_fd)
entry_fds (call.FileRename fd path new_fd new_path) = Some (fd, Some new_fd)
entry_fds (call.FileSymlink text fd path) = Some (fd, None)
entry_fds (call.FileUnlink fd path flags) = Some (fd, None)
entry_fds _ = None

-- a call that has no meaning on names
abbrev pub no_names : NameMeaning
no_names = record {
  effect = λ now new t here there. Refuses Nosys;
  outside = λ t here there. None;
  touched = λ t here there. [];
  new_nodes = 0;
  errors = Nosys ∷ [];
}

-- what the call means by the opens
abbrev pub name_meaning : Call → NameMeaning
name_meaning (call.FileCreate fd path type) = making kind.Directory path
name_meaning (call.FileLink lookup path new_fd new_path) = linking (lookup_mode lookup.flags) path new_path
name_meaning (call.FileRename fd path new_fd new_path) = renaming path new_path
name_meaning (call.FileSymlink text fd path) = making_unless (text_error text) (making (kind.Link text) path)
name_meaning (call.FileUnlink fd path flags) = unlinking flags path
name_meaning _ = no_names
