-- One step of the kernel: a call of a thread, or the end of a process from outside.
use Rattle.std.specs.Prelude.{◌≡◌, ◌⊎◌, ℕ, ◌+◌, true, false, List, [], ◌++◌, Option, None, Some}
use Rattle.std.specs.FinMap.{get}
use Rattle.abi_types.specs.declared.reply.Answer.{Answer}
use Rattle.abi_types.specs.declared.reply.Answer.TheVariants as answer
use Rattle.abi_types.specs.declared.call.Call.{Call}
use Rattle.abi_types.specs.declared.reply.Reply.{Reply}
use Rattle.abi_types.specs.declared.constants.Constants.{Constants}
use Rattle.abi_base.specs.declared.errno.Errno.TheVariants.{Badf, Nomem}
use Rattle.abi_types.specs.declared.status.Status.{Status}
use Rattle.abi_types.specs.declared.who.Who.{Who}
use Rattle.kernel_model.specs.Calls.{meaning_of, seen, takes_memory, refusal}
use Rattle.kernel_model.specs.Outcome.{Outcome, IsSuccess, replies}
use Rattle.kernel_model.specs.Families.ProcessCalls.{end_updates}
use Rattle.kernel_model.specs.OwnChanges.{made_parts}
use Rattle.kernel_model.specs.Release.{release, is_released}
use Rattle.kernel_model.specs.Reply.{refused}
use Rattle.kernel_model.specs.Sight.{process_parts, reached}
use Rattle.kernel_model.specs.State.{State, Table, Part, has_part, put_all}
use Rattle.kernel_model.specs.View.{View, restrict}
use Rattle.kernel_model.specs.Waits.{waits_if, waiting}

-- each entry of the history takes 1000 nanoseconds
abbrev pub tick : State → State
tick S = record S { clock = S.clock + 1000 }

-- ---- what a call sees and touches

-- the parts, unless the call is refused
abbrev pub unless_refused : Option Reply → List Part → List Part
unless_refused None parts = parts
unless_refused (Some reply) parts = []

-- what a call reaches through the descriptors that it sees, where none is absent and no right is missing
abbrev pub reach : State → Call → Option Table → List Part
reach S call None = []
reach S call (Some table) = unless_refused (refusal table call) (reached S table (seen call))

-- all that a call may read: the clock, what is its process's own, and what its descriptors reach
unfoldable pub sight : State → Who → Call → List Part
sight S who call = process_parts who.pid ++ reach S call (get S.tables who.pid)

-- what a call may change through its descriptors, where none is absent and no right is missing
abbrev pub changed : State → Call → Option Table → List Part
changed S call None = []
changed S call (Some table) = unless_refused (refusal table call) ((meaning_of call).touched S table)

-- the child and the objects that a call may make, where none is absent and no right is missing
abbrev pub made_on : State → Who → Call → Option Table → List Part
made_on S who call None = []
made_on S who call (Some table) = unless_refused (refusal table call) (made_parts (meaning_of call).own who.pid (meaning_of call).numbers (get S.processes who.pid))

abbrev pub made_by : State → Who → Call → List Part
made_by S who call = made_on S who call (get S.tables who.pid)

-- all that a call may change, but for what the release ends
unfoldable pub touch : State → Who → Call → List Part
touch S who call = process_parts who.pid ++ (made_by S who call ++ changed S call (get S.tables who.pid))

-- ---- what a call does

-- the refusal, if there is one, else what the call does
abbrev pub unless : Option Reply → Outcome → Outcome
unless None outcome = outcome
unless (Some reply) outcome = replies reply

abbrev pub outcome_on : Constants → View → Who → Call → Option Table → Outcome
outcome_on constants v who call None = replies (refused Badf)
outcome_on constants v who call (Some table) = unless (refusal table call) ((meaning_of call).effect constants v who table)

-- a call of a process's thread, by a view of the state
abbrev pub outcome_by : Constants → View → Who → Call → Outcome
outcome_by constants v who call = outcome_on constants v who call (v.table who.pid)

-- a call's outcome depends on what is in its sight alone
unfoldable pub outcome : Constants → State → Who → Call → Outcome
outcome constants S who call = outcome_by constants (restrict (tick S) (sight S who call)) who call

-- ---- where a path of a call leads outside

-- the component, unless the call is refused
abbrev pub component_unless : Option Reply → Option ℕ → Option ℕ
component_unless None component = component
component_unless (Some reply) component = None

abbrev pub outside_on : View → Call → Option Table → Option ℕ
outside_on v call None = None
outside_on v call (Some table) = component_unless (refusal table call) ((meaning_of call).outside v table)

-- The component at which a path of a call leads outside the directory where it begins, by a view of the state: none where a
-- descriptor is absent or a right is missing.
abbrev pub outside_by : View → Who → Call → Option ℕ
outside_by v who call = outside_on v call (v.table who.pid)

-- the same by what is in the call's sight
unfoldable pub outside : State → Who → Call → Option ℕ
outside S who call = outside_by (restrict (tick S) (sight S who call)) who call

-- ---- the step

-- the state that a call leaves before anything is released: where it doesn't come to a reply, its thread waits in it
abbrev pub unreleased : Constants → State → Who → Call → State
unreleased constants S who call =
    waits_if (outcome constants S who call).answer who (waiting constants call who (S.clock + 1000)) (put_all (outcome constants S who call).updates (tick S))

-- the answer to a call, and the state after it
abbrev pub step_answer : Constants → State → Who → Call → Answer
step_answer constants S who call = (outcome constants S who call).answer

abbrev pub step_state : Constants → State → Who → Call → State
step_state constants S who call = release (unreleased constants S who call)

-- a call may answer that memory ran out: it takes memory, and else it would succeed or its thread would wait
abbrev pub MayLackMemory : Constants → State → Who → Call → Type 0
MayLackMemory constants S who call = (takes_memory call ≡ true) × IsSuccess (step_answer constants S who call)

-- the state after a call that answers an error: only the clock has moved
abbrev pub failed : State → Who → State
failed S who = tick S

-- the call has its answer and leaves its state, or it answers that memory ran out and only the clock has moved
abbrev pub IsStep : Constants → State → Who → Call → Answer → State → Type 0
IsStep constants S who call given T =
    ((given ≡ step_answer constants S who call) × (T ≡ step_state constants S who call))
    ⊎ (MayLackMemory constants S who call × (given ≡ answer.Reply (refused Nomem)) × (T ≡ failed S who))

-- the part is outside what the call touches and what the release after it ends
abbrev pub IsUntouched : Constants → State → Who → Call → Part → Type 0
IsUntouched constants S who call part =
    (has_part (touch S who call) part ≡ false) × (is_released (unreleased constants S who call) part ≡ false)

-- ---- the end of a process from outside, by a trap or at the end of its turns

abbrev pub end_unreleased : State → ℕ → Status → State
end_unreleased S p status = put_all (end_updates p status) (tick S)

unfoldable pub end_state : State → ℕ → Status → State
end_state S p status = release (end_unreleased S p status)
