-- What calls on names come to, by the tables and the opens that the code keeps.
use Rattle.std.specs.Prelude.{ℕ, Option}
use Rattle.std.specs.FinMap.{get}
use Rattle.abi_types.specs.declared.call.Call.{Call}
use Rattle.abi_types.specs.declared.constants.Constants.{Constants}
use Rattle.kernel_model.specs.Families.ClockCalls.{real_time}
use Rattle.kernel_model.specs.Families.EntryCalls.{name_meaning}
use Rattle.kernel_model.specs.Families.NameMeaning.{NameOutcome, outcome_of}
use Rattle.kernel_model.specs.Families.Numbers.{next_object}
use Rattle.kernel_model.specs.Outcome.{Outcome}
use Rattle.kernel_model.specs.State.{State, Table, tree_of}
use Rattle.kernel_parts.specs.Entries.{open_at, open_in}

-- what a call on names comes to, of process p, whose table is this, by the opens of these descriptors
abbrev pub entries_come : Constants → State → ℕ → Table → ℕ → Option ℕ → Call → NameOutcome
entries_come constants S p table fd other call =
    (name_meaning call).effect (real_time constants S.clock) (next_object p (get S.processes p) 1) (tree_of S) (open_in S.opens (get table fd))
    (open_at S.opens table other)

abbrev pub entry_outcome : Constants → State → ℕ → Table → ℕ → Option ℕ → Call → Outcome
entry_outcome constants S p table fd other call =
    outcome_of p (get S.processes p) (name_meaning call).new_nodes (entries_come constants S p table fd other call)
