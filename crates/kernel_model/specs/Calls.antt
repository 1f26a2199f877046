-- What each call means: the one table of all calls.
use Rattle.std.specs.Prelude.{ℕ, Bool, List, Option, None, Some}
use Rattle.abi_base.specs.declared.errno.Errno.{Errno}
use Rattle.abi_base.specs.declared.errno.Errno.TheVariants.{Badf, Nosys}
use Rattle.abi_types.specs.declared.call.Call.{Call}
use Rattle.abi_types.specs.declared.call.Call.TheVariants as call
use Rattle.abi_types.specs.declared.reply.Reply.{Reply}
use Rattle.abi_types.specs.declared.needed.Needed.{Needed}
use Rattle.kernel_model.specs.Families.ClockCalls.{clock_res_get, clock_time_get, random_get}
use Rattle.kernel_model.specs.Families.DescriptorCalls.{fd_close, fd_datasync, fd_dup, fd_replace, fd_stat_get, fd_stat_put, fd_sync}
use Rattle.kernel_model.specs.Families.FileBytes.{fd_pread, fd_pwrite}
use Rattle.kernel_model.specs.Families.FileChanges.{file_allocate, file_stat_fput, file_stat_put}
use Rattle.kernel_model.specs.Families.FileLooks.{file_advise, file_readdir, file_readlink, file_stat_fget, file_stat_get}
use Rattle.kernel_model.specs.Families.NameMaking.{file_create, file_symlink}
use Rattle.kernel_model.specs.Families.NameMoving.{file_link, file_rename}
use Rattle.kernel_model.specs.Families.NameRemoving.{file_unlink}
use Rattle.kernel_model.specs.Families.Opening.{file_open}
use Rattle.kernel_model.specs.Families.MemoryCalls.{decided, mem_map}
use Rattle.kernel_model.specs.Families.ForkCalls.{proc_exec, proc_fork}
use Rattle.kernel_model.specs.Families.ProcessCalls.{proc_exit, proc_raise, thread_create, thread_exit, thread_yield}
use Rattle.kernel_model.specs.Families.SocketCalls.{fd_create1, fd_create2, sock_recv, sock_send, sock_shutdown}
use Rattle.kernel_model.specs.Families.StreamCalls.{fd_read, fd_seek, fd_write}
use Rattle.kernel_model.specs.Families.LockCalls.{condvar_signal, lock_unlock}
use Rattle.kernel_model.specs.Families.Polls.{poll}
use Rattle.kernel_model.specs.Meaning.{Meaning}
use Rattle.kernel_model.specs.Need as needs
use Rattle.kernel_model.specs.Reply.{refused}
use Rattle.kernel_model.specs.State.{Table}

abbrev pub meaning_of : Call → Meaning
meaning_of (call.ClockResGet clock) = clock_res_get
meaning_of (call.ClockTimeGet clock precision) = clock_time_get clock
meaning_of (call.CondvarSignal condvar word scope n) = condvar_signal condvar n
meaning_of (call.FdClose fd) = fd_close fd
meaning_of (call.FdCreate1 kind) = fd_create1
meaning_of (call.FdCreate2 kind) = fd_create2 kind
meaning_of (call.FdDatasync fd) = fd_datasync fd
meaning_of (call.FdDup fd) = fd_dup fd
meaning_of (call.FdPread fd length offset) = fd_pread fd length offset
meaning_of (call.FdPwrite fd bytes offset) = fd_pwrite fd bytes offset
meaning_of (call.FdRead fd length) = fd_read fd length
meaning_of (call.FdReplace from to) = fd_replace from to
meaning_of (call.FdSeek fd offset whence) = fd_seek fd offset whence
meaning_of (call.FdStatGet fd) = fd_stat_get fd
meaning_of (call.FdStatPut fd stat flags) = fd_stat_put fd stat flags
meaning_of (call.FdSync fd) = fd_sync fd
meaning_of (call.FdWrite fd bytes) = fd_write fd bytes
meaning_of (call.FileAdvise fd offset length advice) = file_advise fd
meaning_of (call.FileAllocate fd offset length) = file_allocate fd offset length
meaning_of (call.FileCreate fd path kind) = file_create fd path
meaning_of (call.FileLink lookup path new_fd new_path) = file_link lookup path new_fd new_path
meaning_of (call.FileOpen lookup path oflags stat) = file_open lookup path oflags stat
meaning_of (call.FileReaddir fd length cookie) = file_readdir fd length cookie
meaning_of (call.FileReadlink fd path length) = file_readlink fd path length
meaning_of (call.FileRename fd path new_fd new_path) = file_rename fd path new_fd new_path
meaning_of (call.FileStatFget fd) = file_stat_fget fd
meaning_of (call.FileStatFput fd stat flags) = file_stat_fput fd stat flags
meaning_of (call.FileStatGet lookup path) = file_stat_get lookup path
meaning_of (call.FileStatPut lookup path stat flags) = file_stat_put lookup path stat flags
meaning_of (call.FileSymlink text fd path) = file_symlink text fd path
meaning_of (call.FileUnlink fd path flags) = file_unlink fd path flags
meaning_of (call.LockUnlock lock word scope) = lock_unlock lock word
meaning_of (call.MemMap place length prot flags fd offset) = mem_map place length prot flags fd offset
meaning_of (call.Memory number errno) = decided errno
meaning_of (call.Poll subscriptions) = poll subscriptions
meaning_of (call.ProcExec fd bytes fds) = proc_exec fd fds
meaning_of (call.ProcExit code) = proc_exit code
meaning_of (call.ProcFork left) = proc_fork left
meaning_of (call.ProcRaise signal) = proc_raise signal
meaning_of (call.RandomGet length) = random_get length
meaning_of (call.SockRecv fd length fds flags) = sock_recv fd length fds flags
meaning_of (call.SockSend fd bytes fds flags) = sock_send fd bytes fds
meaning_of (call.SockShutdown fd how) = sock_shutdown fd how
meaning_of (call.ThreadCreate attributes) = thread_create
meaning_of (call.ThreadExit lock word scope) = thread_exit lock word
meaning_of call.ThreadYield = thread_yield
meaning_of (call.Refused number errno) = decided errno
meaning_of (call.Unknown number) = decided Nosys

-- the descriptors that the call names
abbrev pub named : Call → List ℕ
named call = (meaning_of call).named

-- the rights that it needs of them
abbrev pub need : Call → List Needed
need call = (meaning_of call).need

-- the descriptors that it sees
abbrev pub seen : Call → List ℕ
seen call = (meaning_of call).seen

-- the errors that it answers of its own
abbrev pub errors_of : Call → List Errno
errors_of call = (meaning_of call).errors

-- whether memory may run out in it
abbrev pub takes_memory : Call → Bool
takes_memory call = (meaning_of call).takes_memory

-- the refusal of a call by a table
abbrev pub refusal : Table → Call → Option Reply
refusal table call = needs.refusal table (named call) (need call)

-- the refusal of a call by its process's table; a process without one has no descriptor, and each of its calls is BADF
abbrev pub refusal_of : Call → Option Table → Option Reply
refusal_of call None = Some (refused Badf)
refusal_of call (Some table) = refusal table call
