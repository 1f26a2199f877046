-- Which of the 49 calls a call is.
use Rattle.std.specs.Prelude.{ℕ, Result, Ok, Err}
use Rattle.abi_types.specs.declared.call.Call.{Call}
use Rattle.abi_types.specs.declared.call.Call.TheVariants as call
use Rattle.abi_types.specs.declared.call_number.CallNumber.{CallNumber}
use Rattle.abi_types.specs.declared.call_number.CallNumber.TheVariants as number

-- the call, or the number that none of the 49 has
abbrev pub number_of_call : Call → Result CallNumber ℕ
number_of_call (call.ClockResGet clock) = Ok number.ClockResGet
number_of_call (call.ClockTimeGet clock precision) = Ok number.ClockTimeGet
number_of_call (call.CondvarSignal condvar word scope n) = Ok number.CondvarSignal
number_of_call (call.FdClose fd) = Ok number.FdClose
number_of_call (call.FdCreate1 kind) = Ok number.FdCreate1
number_of_call (call.FdCreate2 kind) = Ok number.FdCreate2
number_of_call (call.FdDatasync fd) = Ok number.FdDatasync
number_of_call (call.FdDup fd) = Ok number.FdDup
number_of_call (call.FdPread fd length offset) = Ok number.FdPread
number_of_call (call.FdPwrite fd bytes offset) = Ok number.FdPwrite
number_of_call (call.FdRead fd length) = Ok number.FdRead
number_of_call (call.FdReplace from to) = Ok number.FdReplace
number_of_call (call.FdSeek fd offset whence) = Ok number.FdSeek
number_of_call (call.FdStatGet fd) = Ok number.FdStatGet
number_of_call (call.FdStatPut fd stat flags) = Ok number.FdStatPut
number_of_call (call.FdSync fd) = Ok number.FdSync
number_of_call (call.FdWrite fd bytes) = Ok number.FdWrite
number_of_call (call.FileAdvise fd offset length advice) = Ok number.FileAdvise
number_of_call (call.FileAllocate fd offset length) = Ok number.FileAllocate
number_of_call (call.FileCreate fd path kind) = Ok number.FileCreate
number_of_call (call.FileLink lookup path new_fd new_path) = Ok number.FileLink
number_of_call (call.FileOpen lookup path oflags stat) = Ok number.FileOpen
number_of_call (call.FileReaddir fd length cookie) = Ok number.FileReaddir
number_of_call (call.FileReadlink fd path length) = Ok number.FileReadlink
number_of_call (call.FileRename fd path new_fd new_path) = Ok number.FileRename
number_of_call (call.FileStatFget fd) = Ok number.FileStatFget
number_of_call (call.FileStatFput fd stat flags) = Ok number.FileStatFput
number_of_call (call.FileStatGet lookup path) = Ok number.FileStatGet
number_of_call (call.FileStatPut lookup path stat flags) = Ok number.FileStatPut
number_of_call (call.FileSymlink text fd path) = Ok number.FileSymlink
number_of_call (call.FileUnlink fd path flags) = Ok number.FileUnlink
number_of_call (call.LockUnlock lock word scope) = Ok number.LockUnlock
number_of_call (call.MemMap place length prot flags fd offset) = Ok number.MemMap
number_of_call (call.Memory it errno) = Ok it
number_of_call (call.Poll subscriptions) = Ok number.Poll
number_of_call (call.ProcExec fd bytes fds) = Ok number.ProcExec
number_of_call (call.ProcExit code) = Ok number.ProcExit
number_of_call (call.ProcFork left) = Ok number.ProcFork
number_of_call (call.ProcRaise signal) = Ok number.ProcRaise
number_of_call (call.RandomGet length) = Ok number.RandomGet
number_of_call (call.SockRecv fd length fds flags) = Ok number.SockRecv
number_of_call (call.SockSend fd bytes fds flags) = Ok number.SockSend
number_of_call (call.SockShutdown fd how) = Ok number.SockShutdown
number_of_call (call.ThreadCreate attributes) = Ok number.ThreadCreate
number_of_call (call.ThreadExit lock word scope) = Ok number.ThreadExit
number_of_call call.ThreadYield = Ok number.ThreadYield
number_of_call (call.Refused it errno) = Ok it
number_of_call (call.Unknown it) = Err it
