-- The calls about processes, and random_get.
use Rattle.std.specs.Prelude.{ℕ, Bool, not, ◌==◌, ◌&&◌, ◌||◌, nat_le, nat_lt, Result, Ok}
use Rattle.abi_base.specs.declared.errno.Errno.{Errno}
use Rattle.abi_base.specs.declared.errno.Errno.TheVariants.{Inval, Notsup, TooBig}
use Rattle.abi_base.specs.Registers.{Registers}
use Rattle.abi_types.specs.declared.call.Call.{Call}
use Rattle.abi_types.specs.declared.call.Call.TheVariants.{ProcExec, ProcExit, ProcFork, ProcRaise, RandomGet}
use Rattle.guest_memory.specs.Page.{Pages}
use Rattle.codec_arguments.specs.Arguments.{argument, low}
use Rattle.codec_arguments.specs.Bytes.{bytes_in, descriptors_in, writable}
use Rattle.codec_arguments.specs.Reading.{◌>>=◌, refuse_when}
use Rattle.codec_calls.specs.declared.process_calls.TheConstants.{MOST_ARGUMENT_DATA, MOST_EXEC_DESCRIPTORS, MOST_RANDOM}

-- proc_exec: a descriptor, the address and the length of argument data, and the address and the count of descriptors. Over
-- 65,536 bytes of argument data are 2BIG, over 1024 descriptors INVAL
abbrev pub proc_exec_of : Pages → Registers → Result Call Errno
proc_exec_of m r =
    refuse_when (nat_lt MOST_ARGUMENT_DATA (argument r 2)) TooBig >>= λ _.
    refuse_when (nat_lt MOST_EXEC_DESCRIPTORS (argument r 4)) Inval >>= λ _.
    bytes_in m (argument r 1) (argument r 2) >>= λ bytes.
    descriptors_in m (argument r 3) (argument r 4) >>= λ fds.
    Ok (ProcExec (low (argument r 0)) bytes fds)

-- proc_exit: a code
abbrev pub proc_exit_of : Registers → Call
proc_exit_of r = ProcExit (low (argument r 0))

-- proc_fork, with the turns that the process has left
abbrev pub proc_fork_of : ℕ → Call
proc_fork_of left = ProcFork left

-- a signal by its number
abbrev pub is_signal : ℕ → Bool
is_signal signal = nat_le 1 signal && nat_le signal 26

-- a signal that stops a process, which isn't supported: STOP 14, TSTP 18, TTIN 19, TTOU 20
abbrev pub is_stop : ℕ → Bool
is_stop signal = signal == 14 || signal == 18 || signal == 19 || signal == 20

-- proc_raise: a signal
abbrev pub proc_raise_of : Registers → Result Call Errno
proc_raise_of r =
    refuse_when (not (is_signal (low (argument r 0)))) Inval >>= λ _.
    refuse_when (is_stop (low (argument r 0))) Notsup >>= λ _.
    Ok (ProcRaise (low (argument r 0)))

-- random_get: the address and the length of room for random bytes, of at most 65,536
abbrev pub random_get_of : Pages → Registers → Result Call Errno
random_get_of m r =
    refuse_when (nat_lt MOST_RANDOM (argument r 1)) Inval >>= λ _.
    writable m (argument r 0) (argument r 1) >>= λ _.
    Ok (RandomGet (argument r 1))
