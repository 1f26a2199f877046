-- What changes leave as it was: the statements that are the contracts of `changes_are_local` and `entries_are_local`.
use Rattle.std.specs.Prelude.{◌≡◌, ℕ, ◌≤◌, Bool, false, List}
use Rattle.abi_types.specs.declared.call.Call.{Call}
use Rattle.abi_types.specs.declared.constants.Constants.{Constants}
use Rattle.abi_types.specs.declared.reply.Answer.{Answer}
use Rattle.abi_types.specs.declared.status.Status.{Status}
use Rattle.abi_types.specs.declared.thread.Thread.{Thread}
use Rattle.abi_types.specs.declared.wake.WakeIn.{WakeIn}
use Rattle.abi_types.specs.declared.who.Who.{Who}
use Rattle.kernel_model.specs.Deadlines.{idle_state}
use Rattle.kernel_model.specs.Release.{release}
use Rattle.kernel_model.specs.State.{State, Update, put_all, thread_of}
use Rattle.kernel_model.specs.Step.{end_state, IsStep}
use Rattle.kernel_model.specs.WaitLaws.{at_moment}
use Rattle.kernel_model.specs.Waits.{with_thread}
use Rattle.kernel_model.specs.Wakes.{IsWake}
use Rattle.readiness_laws.specs.Changes.{ChangesOnly, all_set_by, either, end_changes, ended_by, moments, of_thread, step_changes, telling, wake_changes}
use Rattle.readiness_laws.specs.Spots.{Spot}

-- One change after another changes the spots of both.
abbrev pub ChangesFollow : Type 0
ChangesFollow =
    (first second : Spot → Bool) (S T U : State) → ChangesOnly first S T → ChangesOnly second T U → ChangesOnly (either first second) S U

-- What a change makes of threads may be told one by one.
abbrev pub ThreadsAreTold : Type 0
ThreadsAreTold =
    (changes : Spot → Bool) (told : ℕ → ℕ → Bool) (S T : State) → ChangesOnly changes S T
    → ((p t : ℕ) → told p t ≡ false → thread_of S p t ≡ thread_of T p t) → ChangesOnly (telling told changes) S T

-- Time that goes on changes nothing but the moments that come.
abbrev pub TimeIsLocal : Type 0
TimeIsLocal = (S : State) (later : ℕ) → S.clock ≤ later → ChangesOnly (moments S.clock later) S (at_moment S later)

-- What one thread does is one spot.
abbrev pub ThreadsAreLocal : Type 0
ThreadsAreLocal = (S : State) (p t : ℕ) (thread : Thread) → ChangesOnly (of_thread p t) S (with_thread S p t thread)

-- Updates change what they set, and the release what it ends.
abbrev pub UpdatesAreLocal : Type 0
UpdatesAreLocal = (updates : List Update) (S : State) → ChangesOnly (all_set_by updates) S (put_all updates S)

abbrev pub ReleaseIsLocal : Type 0
ReleaseIsLocal = (S : State) → ChangesOnly (ended_by S) S (release S)

-- ---- entries of a history

abbrev pub StepsAreLocal : Type 0
StepsAreLocal =
    (constants : Constants) (S : State) (who : Who) (call : Call) (given : Answer) (T : State) → IsStep constants S who call given T
    → ChangesOnly (step_changes constants S who call) S T

abbrev pub WakesAreLocal : Type 0
WakesAreLocal =
    (constants : Constants) (S : State) (who : Who) (call : Call) (given : WakeIn) (answered : Answer) (T : State)
    → IsWake constants S who call given answered T → ChangesOnly (wake_changes constants S who call given) S T

abbrev pub EndsAreLocal : Type 0
EndsAreLocal = (S : State) (p : ℕ) (status : Status) → ChangesOnly (end_changes S p status) S (end_state S p status)

abbrev pub JumpsAreLocal : Type 0
JumpsAreLocal = (S : State) → ChangesOnly (moments S.clock (idle_state S).clock) S (idle_state S)
