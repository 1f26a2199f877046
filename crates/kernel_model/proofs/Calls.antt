-- The meaning of each call is proper.
use Rattle.std.proofs.Common.{[], inl, refl}
use Rattle.abi_base.specs.declared.errno.Errno.TheVariants.{Nosys}
use Rattle.abi_types.specs.declared.call.Call.{Call}
use Rattle.abi_types.specs.declared.call.Call.TheVariants as call
use Rattle.kernel_model.specs.Calls.{meaning_of}
use Rattle.kernel_model.specs.Proper.{IsProper}
use Rattle.kernel_model.specs.Reply.{success}
use Rattle.kernel_model.proofs.Answering.{answering_is_proper, naming_is_proper, needing_is_proper}
use Rattle.kernel_model.proofs.MemoryCalls.{decided_is_proper, mem_map_is_proper}
use Rattle.kernel_model.proofs.ClockCalls.{clock_time_get_is_proper, random_get_is_proper}
use Rattle.kernel_model.proofs.ExecCalls.{proc_exec_is_proper}
use Rattle.kernel_model.proofs.ForkCalls.{proc_fork_is_proper}
use Rattle.kernel_model.proofs.ProcessCalls.{proc_exit_is_proper, proc_raise_is_proper}
use Rattle.kernel_model.proofs.ThreadCalls.{thread_create_is_proper, thread_exit_is_proper}
use Rattle.kernel_model.proofs.DescriptorCalls.{fd_close_is_proper, fd_dup_is_proper, fd_replace_is_proper, fd_stat_get_is_proper, fd_stat_put_is_proper}
use Rattle.kernel_model.proofs.FileBytes.{fd_pread_is_proper, fd_pwrite_is_proper}
use Rattle.kernel_model.proofs.FileChanges.{file_allocate_is_proper, file_stat_fput_is_proper, file_stat_put_is_proper}
use Rattle.kernel_model.proofs.FileLooks.{file_advise_is_proper, file_readdir_is_proper, file_readlink_is_proper, file_stat_fget_is_proper, file_stat_get_is_proper}
use Rattle.kernel_model.proofs.LockCalls.{condvar_signal_is_proper, lock_unlock_is_proper}
use Rattle.kernel_model.proofs.NameLinking.{file_link_is_proper}
use Rattle.kernel_model.proofs.NameMaking.{file_create_is_proper, file_symlink_is_proper}
use Rattle.kernel_model.proofs.NameMoving.{file_rename_is_proper}
use Rattle.kernel_model.proofs.NameRemoving.{file_unlink_is_proper}
use Rattle.kernel_model.proofs.Opening.{file_open_is_proper}
use Rattle.kernel_model.proofs.PairCalls.{fd_create2_is_proper}
use Rattle.kernel_model.proofs.SocketCalls.{sock_recv_is_proper, sock_send_is_proper, sock_shutdown_is_proper}
use Rattle.kernel_model.proofs.StreamCalls.{fd_read_is_proper, fd_seek_is_proper, fd_write_is_proper}
use Rattle.kernel_model.proofs.Polls.{poll_is_proper}

pub proper : (call : Call) → IsProper (meaning_of call)
proper (call.ClockResGet clock) = answering_is_proper [] (success 1000 0) refl (inl refl)
proper (call.ClockTimeGet clock precision) = clock_time_get_is_proper clock
proper (call.CondvarSignal condvar word scope n) = condvar_signal_is_proper condvar n
proper (call.FdClose fd) = fd_close_is_proper fd
proper (call.FdCreate1 kind) = naming_is_proper []
proper (call.FdCreate2 kind) = fd_create2_is_proper kind
proper (call.FdDatasync fd) = needing_is_proper fd _
proper (call.FdDup fd) = fd_dup_is_proper fd
proper (call.FdPread fd length offset) = fd_pread_is_proper fd length offset
proper (call.FdPwrite fd bytes offset) = fd_pwrite_is_proper fd bytes offset
proper (call.FdRead fd length) = fd_read_is_proper fd length
proper (call.FdReplace from to) = fd_replace_is_proper from to
proper (call.FdSeek fd offset whence) = fd_seek_is_proper offset whence fd
proper (call.FdStatGet fd) = fd_stat_get_is_proper fd
proper (call.FdStatPut fd stat flags) = fd_stat_put_is_proper fd stat flags
proper (call.FdSync fd) = needing_is_proper fd _
proper (call.FdWrite fd bytes) = fd_write_is_proper fd bytes
proper (call.FileAdvise fd offset length advice) = file_advise_is_proper fd
proper (call.FileAllocate fd offset length) = file_allocate_is_proper fd offset length
proper (call.FileCreate fd path kind) = file_create_is_proper fd path
proper (call.FileLink lookup path new_fd new_path) = file_link_is_proper lookup path new_fd new_path
proper (call.FileOpen lookup path oflags stat) = file_open_is_proper lookup path oflags stat
proper (call.FileReaddir fd length cookie) = file_readdir_is_proper fd length cookie
proper (call.FileReadlink fd path length) = file_readlink_is_proper fd path length
proper (call.FileRename fd path new_fd new_path) = file_rename_is_proper fd path new_fd new_path
proper (call.FileStatFget fd) = file_stat_fget_is_proper fd
proper (call.FileStatFput fd stat flags) = file_stat_fput_is_proper fd stat flags
proper (call.FileStatGet lookup path) = file_stat_get_is_proper lookup path
proper (call.FileStatPut lookup path stat flags) = file_stat_put_is_proper lookup path stat flags
proper (call.FileSymlink text fd path) = file_symlink_is_proper text fd path
proper (call.FileUnlink fd path flags) = file_unlink_is_proper fd path flags
proper (call.LockUnlock lock word scope) = lock_unlock_is_proper lock word
proper (call.MemMap place length prot flags fd offset) = mem_map_is_proper place length prot flags fd offset
proper (call.Memory number errno) = decided_is_proper errno
proper (call.Poll subscriptions) = poll_is_proper subscriptions
proper (call.ProcExec fd bytes fds) = proc_exec_is_proper fd fds
proper (call.ProcExit code) = proc_exit_is_proper code
proper (call.ProcFork left) = proc_fork_is_proper left
proper (call.ProcRaise signal) = proc_raise_is_proper signal
proper (call.RandomGet length) = random_get_is_proper length
proper (call.SockRecv fd length fds flags) = sock_recv_is_proper fd length fds flags
proper (call.SockSend fd bytes fds flags) = sock_send_is_proper fd bytes fds
proper (call.SockShutdown fd how) = sock_shutdown_is_proper fd how
proper (call.ThreadCreate attributes) = thread_create_is_proper
proper (call.ThreadExit lock word scope) = thread_exit_is_proper lock word
proper call.ThreadYield = answering_is_proper [] (success 0 0) refl (inl refl)
proper (call.Refused number errno) = decided_is_proper errno
proper (call.Unknown number) = decided_is_proper Nosys
