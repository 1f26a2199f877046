-- Which part of the kernel does a call. A view of a call is of one call alone; IsOf says of which.
use Rattle.std.specs.Prelude.{◌≡◌, ℕ, Bool, true, false, List, Option, None, Some, ◌==◌, if◌then◌else◌}
use Rattle.std.specs.Int.RustNames.{bit_and}
use Rattle.abi_base.specs.declared.errno.Errno.{Errno}
use Rattle.abi_base.specs.declared.errno.Errno.TheVariants.{Nosys, Success}
use Rattle.abi_base.specs.declared.flags.TheConstants.{MAP_ANON}
use Rattle.abi_types.specs.declared.call.Call.{Call}
use Rattle.abi_types.specs.declared.call.Call.TheVariants as call
use Rattle.abi_types.specs.declared.family.DescriptorChange.{DescriptorChange}
use Rattle.abi_types.specs.declared.family.DescriptorChange.TheVariants.{Close, Dup, Replace, StatPut}
use Rattle.abi_types.specs.declared.family.EntryCall.{EntryCall}
use Rattle.abi_types.specs.declared.family.EntryCall.TheVariants as entry
use Rattle.abi_types.specs.declared.family.Family.{Family}
use Rattle.abi_types.specs.declared.family.Family.TheVariants as family
use Rattle.abi_types.specs.declared.family.FileCall.{FileCall}
use Rattle.abi_types.specs.declared.family.FileCall.TheVariants as file
use Rattle.abi_types.specs.declared.family.OffsetCall.{OffsetCall}
use Rattle.abi_types.specs.declared.family.OffsetCall.TheVariants as offset
use Rattle.abi_types.specs.declared.family.OpenCall.{OpenCall}
use Rattle.abi_types.specs.declared.family.SocketCall.{SocketCall}
use Rattle.abi_types.specs.declared.family.SocketCall.TheVariants as socket
use Rattle.abi_types.specs.declared.place.Place.{Place}

-- ---- the calls that views are of

abbrev pub call_of_change : DescriptorChange → Call
call_of_change (Close fd) = call.FdClose fd
call_of_change (Dup fd) = call.FdDup fd
call_of_change (Replace from to) = call.FdReplace from to
call_of_change (StatPut fd stat flags) = call.FdStatPut fd stat flags

abbrev pub call_of_file : FileCall → Call
call_of_file (file.FdPread fd length offset) = call.FdPread fd length offset
call_of_file (file.FdPwrite fd bytes offset) = call.FdPwrite fd bytes.now offset
call_of_file (file.FileAllocate fd offset length) = call.FileAllocate fd offset length
call_of_file (file.FileReaddir fd length cookie) = call.FileReaddir fd length cookie
call_of_file (file.FileReadlink fd path length) = call.FileReadlink fd path.now length
call_of_file (file.FileStatFget fd) = call.FileStatFget fd
call_of_file (file.FileStatFput fd stat flags) = call.FileStatFput fd stat flags
call_of_file (file.FileStatGet lookup path) = call.FileStatGet lookup path.now
call_of_file (file.FileStatPut lookup path stat flags) = call.FileStatPut lookup path.now stat flags
call_of_file (file.MemMap place length prot flags fd offset) = call.MemMap place length prot flags fd offset

abbrev pub call_of_offset : OffsetCall → Call
call_of_offset (offset.FdRead fd length) = call.FdRead fd length
call_of_offset (offset.FdSeek fd offset whence) = call.FdSeek fd offset whence
call_of_offset (offset.FdWrite fd bytes) = call.FdWrite fd bytes.now

abbrev pub call_of_entry : EntryCall → Call
call_of_entry (entry.FileCreate fd path kind) = call.FileCreate fd path.now kind
call_of_entry (entry.FileLink lookup path new_fd new_path) = call.FileLink lookup path.now new_fd new_path.now
call_of_entry (entry.FileRename fd path new_fd new_path) = call.FileRename fd path.now new_fd new_path.now
call_of_entry (entry.FileSymlink text fd path) = call.FileSymlink text.now fd path.now
call_of_entry (entry.FileUnlink fd path flags) = call.FileUnlink fd path.now flags

abbrev pub call_of_open : OpenCall → Call
call_of_open view = call.FileOpen view.lookup view.path.now view.oflags view.stat

abbrev pub call_of_socket : SocketCall → Call
call_of_socket (socket.SockRecv fd length fds flags) = call.SockRecv fd length fds flags
call_of_socket (socket.SockSend fd bytes fds flags) = call.SockSend fd bytes.now fds.now flags
call_of_socket (socket.SockShutdown fd how) = call.SockShutdown fd how

-- ---- their descriptors

abbrev pub fd_of_file : FileCall → ℕ
fd_of_file (file.FdPread fd length offset) = fd
fd_of_file (file.FdPwrite fd bytes offset) = fd
fd_of_file (file.FileAllocate fd offset length) = fd
fd_of_file (file.FileReaddir fd length cookie) = fd
fd_of_file (file.FileReadlink fd path length) = fd
fd_of_file (file.FileStatFget fd) = fd
fd_of_file (file.FileStatFput fd stat flags) = fd
fd_of_file (file.FileStatGet lookup path) = lookup.fd
fd_of_file (file.FileStatPut lookup path stat flags) = lookup.fd
fd_of_file (file.MemMap place length prot flags fd offset) = fd

abbrev pub fd_of_offset : OffsetCall → ℕ
fd_of_offset (offset.FdRead fd length) = fd
fd_of_offset (offset.FdSeek fd offset whence) = fd
fd_of_offset (offset.FdWrite fd bytes) = fd

-- that of the path, and that of the second path where there are two
abbrev pub fds_of_entry : EntryCall → ℕ × Option ℕ
fds_of_entry (entry.FileCreate fd path kind) = (fd, None)
fds_of_entry (entry.FileLink lookup path new_fd new_path) = (lookup.fd, Some new_fd)
fds_of_entry (entry.FileRename fd path new_fd new_path) = (fd, Some new_fd)
fds_of_entry (entry.FileSymlink text fd path) = (fd, None)
fds_of_entry (entry.FileUnlink fd path flags) = (fd, None)

-- ---- calls that need no view

-- the flags of a mapping have 1, which is for one of zeros, with no file
abbrev pub is_anonymous : ℕ → Bool
is_anonymous flags = bit_and flags MAP_ANON == MAP_ANON

-- a view of mem_map is of a mapping that has a file
abbrev pub HasFile : FileCall → Type 0
HasFile (file.MemMap place length prot flags fd offset) = is_anonymous flags ≡ false
HasFile _ = Unit {0}

-- where a mapping of zeros goes
abbrev pub zeros_of : Call → Option Place
zeros_of (call.MemMap place length prot flags fd offset) = if is_anonymous flags then Some place else None
zeros_of _ = None

-- What a call answers that is answered by itself. fd_datasync, fd_sync, file_advise and thread_yield have nothing to do.
abbrev pub answer_of : Call → Option Errno
answer_of (call.FdDatasync fd) = Some Success
answer_of (call.FdSync fd) = Some Success
answer_of (call.FileAdvise fd offset length advice) = Some Success
answer_of call.ThreadYield = Some Success
answer_of (call.Memory number errno) = Some errno
answer_of (call.Refused number errno) = Some errno
answer_of (call.Unknown number) = Some Nosys
answer_of _ = None

-- the call that isn't built: there is no one descriptor that it could make
abbrev pub is_unbuilt : Call → Bool
is_unbuilt (call.FdCreate1 kind) = true
is_unbuilt _ = false

-- ---- the part that does a call

-- the call is one that this part of the kernel does, and the view is of it
unfoldable pub IsOf : Call → Family → Type 0
IsOf c (family.Descriptors change) = c ≡ call_of_change change
IsOf c (family.DescriptorState fd) = c ≡ call.FdStatGet fd
IsOf c (family.File view) = (c ≡ call_of_file view) × HasFile view
IsOf c (family.Offset view) = c ≡ call_of_offset view
IsOf c (family.Entries view) = c ≡ call_of_entry view
IsOf c (family.Open view) = c ≡ call_of_open view
IsOf c (family.Ends kind) = c ≡ call.FdCreate2 kind
IsOf c (family.Socket view) = c ≡ call_of_socket view
IsOf c (family.Exit code) = c ≡ call.ProcExit code
IsOf c (family.Fork left) = c ≡ call.ProcFork left
IsOf c (family.Exec fd fds) = (bytes : List ℕ) × (c ≡ call.ProcExec fd bytes fds.now)
IsOf c (family.Raise signal) = c ≡ call.ProcRaise signal
IsOf c (family.Zeros place) = zeros_of c ≡ Some place
IsOf c (family.Poll subscriptions) = c ≡ call.Poll subscriptions.now
IsOf c (family.ClockResolution clock) = c ≡ call.ClockResGet clock
IsOf c (family.ClockTime clock precision) = c ≡ call.ClockTimeGet clock precision
IsOf c (family.Random length) = c ≡ call.RandomGet length
IsOf c (family.NewThread attributes) = c ≡ call.ThreadCreate attributes
IsOf c (family.ThreadExit lock word scope) = c ≡ call.ThreadExit lock word scope
IsOf c (family.Unlock lock word scope) = c ≡ call.LockUnlock lock word scope
IsOf c (family.Signal condvar word scope n) = c ≡ call.CondvarSignal condvar word scope n
IsOf c (family.Answered errno) = answer_of c ≡ Some errno
IsOf c family.NotBuilt = is_unbuilt c ≡ true
