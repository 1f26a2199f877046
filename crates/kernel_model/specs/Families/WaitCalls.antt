-- What polls need, and until when they wait for clocks.
use Rattle.std.specs.Prelude.{ℕ, ◌+◌, ◌-◌, ◌==◌, Bool, List, [], ◌∷◌, map, if◌then◌else◌}
use Rattle.abi_base.specs.declared.rights.TheConstants.Rights.{POLL_FD_READWRITE, POLL_PROC_TERMINATE}
use Rattle.abi_base.specs.declared.flags.TheConstants.{SUBSCRIPTION_CLOCK_ABSTIME}
use Rattle.abi_structures.specs.declared.events.Subscription.{Subscription}
use Rattle.abi_structures.specs.declared.events.What.{What}
use Rattle.abi_structures.specs.declared.events.What.TheVariants.{FdRead, FdWrite, ProcTerminate}
use Rattle.abi_types.specs.declared.constants.Constants.{Constants}
use Rattle.abi_types.specs.declared.needed.Needed.{Needed}
use Rattle.kernel_model.specs.Families.ClockCalls.{is_real}
use Rattle.kernel_model.specs.Rows.{base_row}

-- ---- what a poll needs

-- what one subscription needs of its descriptor, if it has one, before the needs of the others
abbrev pub wait_row : What → List Needed → List Needed
wait_row (FdRead fd) rows = base_row fd POLL_FD_READWRITE ∷ rows
wait_row (FdWrite fd) rows = base_row fd POLL_FD_READWRITE ∷ rows
wait_row (ProcTerminate fd) rows = base_row fd POLL_PROC_TERMINATE ∷ rows
wait_row _ rows = rows

-- what the subscriptions need, in their order
abbrev pub wait_rows : List Subscription → List Needed
wait_rows [] = []
wait_rows (subscription ∷ rest) = wait_row subscription.what (wait_rows rest)

-- the rows' descriptors
abbrev pub fds_of : List Needed → List ℕ
fds_of rows = map (λ (row : Needed). row.fd) rows

-- ---- the times of clocks

-- whether the time is one of the clock (ABSTIME), and not counted from the call on
abbrev pub is_absolute : ℕ → Bool
is_absolute flags = flags == SUBSCRIPTION_CLOCK_ABSTIME

-- The moment of a time of a clock: one since 1970 is so much later than the run's epoch, and 0 where it is earlier than that.
abbrev pub moment_of : Constants → ℕ → ℕ → ℕ
moment_of constants clock time = if is_real clock then time - constants.epoch else time

-- the moment by which the time has come of a call that was made at the moment `since`
abbrev pub clock_deadline : Constants → ℕ → ℕ → ℕ → ℕ → ℕ
clock_deadline constants since clock timeout flags = if is_absolute flags then moment_of constants clock timeout else since + timeout
