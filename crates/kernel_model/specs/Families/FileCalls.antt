-- The calls on files that work on the open of one descriptor: each by its meaning there.
use Rattle.std.specs.Prelude.{ℕ, ◌+◌, Option, None, Some, if◌then◌else◌}
use Rattle.abi_base.specs.declared.errno.Errno.TheVariants.{Nosys}
use Rattle.abi_types.specs.declared.call.Call.{Call}
use Rattle.abi_types.specs.declared.call.Call.TheVariants as call
use Rattle.path_lookup.specs.declared.ends.WalkMode.TheVariants.{NoFollow}
use Rattle.kernel_model.specs.Families.FileBytes.{read_at, write_at}
use Rattle.kernel_model.specs.Families.FileChanges.{allocate, changing, put_by_path, put_open}
use Rattle.kernel_model.specs.Families.FileLooks.{list_open, looking, read_link_in, report_in, report_open}
use Rattle.kernel_model.specs.Families.FileMeaning.{FileMeaning}
use Rattle.kernel_model.specs.Families.FilePaths.{by_path, lookup_mode}
use Rattle.abi_types.specs.Families.{is_anonymous}
use Rattle.kernel_model.specs.Families.MemoryCalls.{mapping}
use Rattle.kernel_model.specs.Outcome.{replies}
use Rattle.kernel_model.specs.Reply.{refused}

-- the number of that descriptor, where the call is such a one
abbrev pub file_fd : Call → Option ℕ
file_fd (call.FileAllocate fd offset length) = Some fd
file_fd (call.FileReaddir fd length cookie) = Some fd
file_fd (call.FileReadlink fd path length) = Some fd
file_fd (call.FileStatFget fd) = Some fd
file_fd (call.FileStatFput fd stat flags) = Some fd
file_fd (call.FileStatGet lookup path) = Some lookup.fd
file_fd (call.FileStatPut lookup path stat flags) = Some lookup.fd
file_fd (call.FdPread fd length offset) = Some fd
file_fd (call.FdPwrite fd bytes offset) = Some fd
file_fd (call.MemMap place length prot flags fd offset) = if is_anonymous flags then None else Some fd
file_fd _ = None

-- what the call means by the open; any other call has no meaning there
abbrev pub file_meaning : Call → FileMeaning
file_meaning (call.FileAllocate fd offset length) = changing (allocate (offset + length))
file_meaning (call.FileReaddir fd length cookie) = looking (list_open length cookie)
file_meaning (call.FileReadlink fd path length) = by_path NoFollow path (λ now. read_link_in length)
file_meaning (call.FileStatFget fd) = looking report_open
file_meaning (call.FileStatFput fd stat flags) = changing (put_open flags stat)
file_meaning (call.FileStatGet lookup path) = by_path (lookup_mode lookup.flags) path (λ now. report_in)
file_meaning (call.FileStatPut lookup path stat flags) = put_by_path (lookup_mode lookup.flags) path flags stat
file_meaning (call.FdPread fd length offset) = looking (read_at length offset)
file_meaning (call.FdPwrite fd bytes offset) = changing (write_at bytes offset)
file_meaning (call.MemMap place length prot flags fd offset) = mapping place length offset
file_meaning _ = looking (λ t kind. replies (refused Nosys))
