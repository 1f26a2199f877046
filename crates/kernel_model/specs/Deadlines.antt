-- Until when threads wait.
use Rattle.std.specs.Prelude.{ℕ, ◌+◌, ◌^◌, nat_lt, not, Bool, false, Option, None, Some, if◌then◌else◌}
use Rattle.abi_types.specs.declared.thread.Thread.{Thread}
use Rattle.abi_types.specs.declared.thread.Thread.TheVariants.{Runnable, Waits}
use Rattle.kernel_model.specs.Earliest.{earliest}
use Rattle.kernel_model.specs.State.{ProcessState, State}

-- the deadline, where it counts: one of 2^62 or more does not
abbrev pub soon : Option ℕ → Option ℕ
soon None = None
soon (Some until) = if nat_lt until (2 ^ 62) then Some until else None

-- whether the deadline has come
abbrev pub is_due : ℕ → Option ℕ → Bool
is_due now None = false
is_due now (Some until) = not (nat_lt now until)

-- until when a thread waits, if there is such a moment that counts
abbrev pub until_of : Thread → Option ℕ
until_of Runnable = None
until_of (Waits call since until stage) = soon until

-- the earliest moment until which a thread of the process waits
abbrev pub process_until : ProcessState → Option ℕ
process_until own = earliest until_of own.threads

-- the earliest moment until which any thread waits: the least deadline
abbrev pub least_deadline : State → Option ℕ
least_deadline S = earliest process_until S.processes

-- the moment after a jump from this one: the deadline, where that is later than what each entry takes
abbrev pub jumped_to : ℕ → Option ℕ → ℕ
jumped_to now None = now + 1000
jumped_to now (Some until) = if nat_lt (now + 1000) until then until else now + 1000

-- the state after an idle jump: only the clock has moved, to the least deadline, or as far as each entry moves it
abbrev pub idle_state : State → State
idle_state S = record S { clock = jumped_to S.clock (least_deadline S) }
