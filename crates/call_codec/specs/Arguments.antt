-- The call that a thread's registers and memory encode as it stands at an ECALL: the call's number is in a7, and its
-- arguments are in a0 and the registers after it (x17, and x10 on: RISC-V ELF psABI, integer register convention).
use Rattle.std.specs.Prelude.{◌≡◌, ℕ, Bool, true, false, IsTrue, Option, Some, None, MatchOption, Result, Ok, Err, slice_get, slice_index}
use Rattle.abi_base.specs.declared.errno.Errno.{Errno}
use Rattle.abi_base.specs.Registers.{Registers}
use Rattle.abi_types.specs.CallNumbers.{all_calls}
use Rattle.abi_types.specs.declared.call.Call.{Call}
use Rattle.abi_types.specs.declared.call.Call.TheVariants.{Refused, Unknown}
use Rattle.abi_types.specs.declared.call_number.CallNumber.{CallNumber}
use Rattle.abi_types.specs.declared.call_number.CallNumber.TheVariants as number
use Rattle.call_codec.specs.MemoryCalls.{mem_advise_of, mem_map_of, mem_protect_of, mem_sync_of, mem_unmap_of}
use Rattle.codec_calls.specs.ClockCalls.{clock_res_get_of, clock_time_get_of}
use Rattle.codec_calls.specs.DescriptorCalls.{fd_close_of, fd_create1_of, fd_create2_of, fd_datasync_of, fd_dup_of, fd_pread_of, fd_pwrite_of, fd_read_of, fd_replace_of, fd_seek_of, fd_stat_get_of, fd_stat_put_of, fd_sync_of, fd_write_of}
use Rattle.codec_calls.specs.LockCalls.{condvar_signal_of, lock_unlock_of, thread_exit_of}
use Rattle.codec_calls.specs.ProcessCalls.{proc_exec_of, proc_exit_of, proc_fork_of, proc_raise_of, random_get_of}
use Rattle.codec_calls.specs.SocketCalls.{sock_recv_of, sock_send_of, sock_shutdown_of}
use Rattle.codec_calls.specs.ThreadCalls.{thread_create_of, thread_yield_of}
use Rattle.codec_files.specs.ByNode.{file_advise_of, file_allocate_of, file_readdir_of, file_stat_fget_of, file_stat_fput_of, file_stat_get_of, file_stat_put_of}
use Rattle.codec_files.specs.ByPath.{file_create_of, file_link_of, file_open_of, file_readlink_of, file_rename_of, file_symlink_of, file_unlink_of}
use Rattle.codec_poll.specs.Poll.{poll_of}
use Rattle.guest_memory.specs.Page.{Pages}

-- what registers and memory encode under a call's number, of a process with so many turns left
unfoldable pub read_of : Pages → Registers → ℕ → CallNumber → Result Call Errno
read_of m r left number.ClockResGet = clock_res_get_of r
read_of m r left number.ClockTimeGet = clock_time_get_of r
read_of m r left number.CondvarSignal = condvar_signal_of m r
read_of m r left number.FdClose = Ok (fd_close_of r)
read_of m r left number.FdCreate1 = Err (fd_create1_of r)
read_of m r left number.FdCreate2 = fd_create2_of r
read_of m r left number.FdDatasync = Ok (fd_datasync_of r)
read_of m r left number.FdDup = Ok (fd_dup_of r)
read_of m r left number.FdPread = fd_pread_of m r
read_of m r left number.FdPwrite = fd_pwrite_of m r
read_of m r left number.FdRead = fd_read_of m r
read_of m r left number.FdReplace = Ok (fd_replace_of r)
read_of m r left number.FdSeek = fd_seek_of r
read_of m r left number.FdStatGet = fd_stat_get_of m r
read_of m r left number.FdStatPut = fd_stat_put_of m r
read_of m r left number.FdSync = Ok (fd_sync_of r)
read_of m r left number.FdWrite = fd_write_of m r
read_of m r left number.FileAdvise = file_advise_of r
read_of m r left number.FileAllocate = file_allocate_of r
read_of m r left number.FileCreate = file_create_of m r
read_of m r left number.FileLink = file_link_of m r
read_of m r left number.FileOpen = file_open_of m r
read_of m r left number.FileReaddir = file_readdir_of m r
read_of m r left number.FileReadlink = file_readlink_of m r
read_of m r left number.FileRename = file_rename_of m r
read_of m r left number.FileStatFget = file_stat_fget_of m r
read_of m r left number.FileStatFput = file_stat_fput_of m r
read_of m r left number.FileStatGet = file_stat_get_of m r
read_of m r left number.FileStatPut = file_stat_put_of m r
read_of m r left number.FileSymlink = file_symlink_of m r
read_of m r left number.FileUnlink = file_unlink_of m r
read_of m r left number.LockUnlock = lock_unlock_of m r
read_of m r left number.MemAdvise = Ok (mem_advise_of m r)
read_of m r left number.MemMap = mem_map_of m r
read_of m r left number.MemProtect = Ok (mem_protect_of m r)
read_of m r left number.MemSync = Ok (mem_sync_of m r)
read_of m r left number.MemUnmap = Ok (mem_unmap_of r)
read_of m r left number.Poll = poll_of m r
read_of m r left number.ProcExec = proc_exec_of m r
read_of m r left number.ProcExit = Ok (proc_exit_of r)
read_of m r left number.ProcFork = Ok (proc_fork_of left)
read_of m r left number.ProcRaise = proc_raise_of r
read_of m r left number.RandomGet = random_get_of m r
read_of m r left number.SockRecv = sock_recv_of m r
read_of m r left number.SockSend = sock_send_of m r
read_of m r left number.SockShutdown = sock_shutdown_of r
read_of m r left number.ThreadCreate = thread_create_of m r
read_of m r left number.ThreadExit = thread_exit_of m r
read_of m r left number.ThreadYield = Ok thread_yield_of

-- a call whose bytes, paths, descriptors or subscriptions are copied from the caller's memory, for which the host needs memory
abbrev pub is_copied : CallNumber → Bool
is_copied number.FdPwrite = true
is_copied number.FdWrite = true
is_copied number.FileCreate = true
is_copied number.FileLink = true
is_copied number.FileOpen = true
is_copied number.FileReadlink = true
is_copied number.FileRename = true
is_copied number.FileStatGet = true
is_copied number.FileStatPut = true
is_copied number.FileSymlink = true
is_copied number.FileUnlink = true
is_copied number.Poll = true
is_copied number.ProcExec = true
is_copied number.SockSend = true
is_copied _ = false

-- the call that a7 asks for, if its number is one's
abbrev pub asked : Registers → Option CallNumber
asked r = slice_get all_calls (slice_index r.x 17)

-- a7 asks for a call for which the test holds
abbrev pub AsksFor : (CallNumber → Bool) → Registers → Type 0
AsksFor test r = MatchOption (asked r) ⊥ (λ number. IsTrue (test number))

-- a call that was read, or its refusal
abbrev pub or_refused : CallNumber → Result Call Errno → Call
or_refused number (Ok call) = call
or_refused number (Err errno) = Refused number errno

-- a number that no call has is its own call
abbrev pub or_unknown : Registers → (CallNumber → Call) → Option CallNumber → Call
or_unknown r encoded (Some number) = encoded number
or_unknown r encoded None = Unknown (slice_index r.x 17)

-- the call that the registers and the memory of a process encode that has so many turns left
abbrev pub encoded_call : Pages → Registers → ℕ → Call
encoded_call m r left = or_unknown r (λ number. or_refused number (read_of m r left number)) (asked r)

-- the same, as it is cited
unfoldable pub args_of : Pages → Registers → ℕ → Call
args_of m r left = encoded_call m r left

-- they encode the call, however many turns are left
abbrev pub Encodes : Pages → Registers → Call → Type 0
Encodes m r call = (left : ℕ) × (call ≡ args_of m r left)
