-- The calls about clocks: MONOTONIC is 1, REALTIME is 3, and 2 and 4 are clocks of a processor's time.
use Rattle.std.specs.Prelude.{ℕ, Bool, not, ◌==◌, ◌||◌, Result, Ok}
use Rattle.abi_base.specs.declared.errno.Errno.{Errno}
use Rattle.abi_base.specs.declared.errno.Errno.TheVariants.{Inval, Notsup}
use Rattle.abi_base.specs.Registers.{Registers}
use Rattle.abi_base.specs.declared.flags.TheConstants.{CLOCK_MONOTONIC, CLOCK_REALTIME}
use Rattle.abi_types.specs.declared.call.Call.{Call}
use Rattle.abi_types.specs.declared.call.Call.TheVariants.{ClockResGet, ClockTimeGet}
use Rattle.codec_arguments.specs.Arguments.{argument, low}
use Rattle.codec_arguments.specs.Reading.{◌>>=◌, refuse_when}

-- a clock of a processor's time, which no call supports
abbrev pub is_cpu_clock : ℕ → Bool
is_cpu_clock clock = clock == 2 || clock == 4

-- a clock of the time that passes
abbrev pub is_time_clock : ℕ → Bool
is_time_clock clock = clock == CLOCK_MONOTONIC || clock == CLOCK_REALTIME

-- the clock can be asked
abbrev pub clock_known : ℕ → Result (Unit {0}) Errno
clock_known clock =
    refuse_when (is_cpu_clock clock) Notsup >>= λ _.
    refuse_when (not (is_time_clock clock)) Inval

-- clock_res_get: a clock
abbrev pub clock_res_get_of : Registers → Result Call Errno
clock_res_get_of r =
    clock_known (low (argument r 0)) >>= λ _.
    Ok (ClockResGet (low (argument r 0)))

-- clock_time_get: a clock and a precision
abbrev pub clock_time_get_of : Registers → Result Call Errno
clock_time_get_of r =
    clock_known (low (argument r 0)) >>= λ _.
    Ok (ClockTimeGet (low (argument r 0)) (argument r 1))
