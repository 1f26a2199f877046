-- How a call ends.
use Rattle.std.specs.Prelude.{◌≡◌, Bool, true, Result, Ok, Err}
use Rattle.std.specs.declared.alloc.AllocError.{AllocError}
use Rattle.abi_types.specs.declared.reply.Answer.{Answer}
use Rattle.kernel_model.specs.Outcome.{Outcome, IsSuccess}
use Rattle.kernel_model.specs.Release.{release}
use Rattle.kernel_model.specs.State.{State, put_all}

-- a call that comes to this has this answer, and leaves the state after it, in which nothing stays that nothing holds
abbrev pub IsAnswered : Outcome → State → State → Answer → Type 0
IsAnswered outcome before after given = (given ≡ outcome.answer) × (after ≡ release (put_all outcome.updates before))

-- It is done; or memory runs out, which it may in a call that takes some and would else succeed, and the state stays.
abbrev pub IsDone : Bool → Outcome → State → State → Result Answer AllocError → Type 0
IsDone takes outcome before after (Ok given) = IsAnswered outcome before after given
IsDone takes outcome before after (Err error) = (takes ≡ true) × IsSuccess outcome.answer × (after ≡ before)
