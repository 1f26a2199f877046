-- What calls do to what their process has of its own.
use Rattle.std.specs.Prelude.{◌≡◌, ℕ, ◌+◌, List, [], ◌∷◌, Option, None, Some, Result, Ok, Err, if◌then◌else◌}
use Rattle.std.specs.declared.alloc.AllocError.{AllocError}
use Rattle.abi_types.specs.declared.reply.Answer.{Answer}
use Rattle.kernel_model.specs.Families.ClockCalls.{can_draw}
use Rattle.kernel_model.specs.Families.ProcessCalls.{can_make_thread}
use Rattle.kernel_model.specs.Outcome.{Outcome, IsSuccess}
use Rattle.kernel_model.specs.OwnChanges.{next_thread}
use Rattle.kernel_model.specs.State.{ProcessState, Update, set_process}

-- the number of the next thread, where the thread t can make one
abbrev pub new_thread : ℕ → ProcessState → Option ℕ
new_thread t own = if can_make_thread t own then Some (next_thread own) else None

-- how many random words it has drawn once it has drawn so many more, where it can
abbrev pub words_after : ℕ → ProcessState → Option ℕ
words_after words own = if can_draw words own then Some (own.counts.words + words) else None

-- what the process has of its own after these updates of it
abbrev pub own_after : List Update → ProcessState → ProcessState
own_after [] own = own
own_after (set_process p new ∷ updates) own = own_after updates new
own_after (update ∷ updates) own = own_after updates own

-- a call that comes to this is done: its answer, and what its process has of its own before and after it
abbrev pub IsOwnStep : ProcessState → ProcessState → Answer → Outcome → Type 0
IsOwnStep own new given outcome = (given ≡ outcome.answer) × (new ≡ own_after outcome.updates own)

-- it is done; or memory runs out where it would else succeed, and what its process has of its own stays
abbrev pub IsOwnDone : Outcome → ProcessState → ProcessState → Result Answer AllocError → Type 0
IsOwnDone outcome own new (Ok given) = IsOwnStep own new given outcome
IsOwnDone outcome own new (Err error) = IsSuccess outcome.answer × (new ≡ own)
