-- What a call leaves of the kernel's state, and the end of a process from outside.
--     called_is      a step of a call that registers encode leaves what its answer says
--     woken_is      and so does a wake
--     stays_on      a thread of a process that lives on is there after its call, unless that ends it
--     runs_on      a runnable thread of a process that lives on is runnable after a call with a reply, unless that ends it, or the others
--     ended_by      a process that is ended is not live
use Rattle.std.proofs.Common.{◌≡◌, ◌≢◌, inl, inr, ℕ, ◌+◌, true, false, Option, None, Some, IsSome, is_some, refl, sym, ap, subst, ◌∙◌}
use Rattle.std.proofs.lemmas.Bool.Decides.{eqb_tells}
use Rattle.std.specs.FinMap.{get}
use Rattle.abi_types.specs.declared.reply.Answer.{Answer}
use Rattle.abi_types.specs.declared.reply.Answer.TheVariants as answer
use Rattle.abi_types.specs.declared.call.Call.{Call}
use Rattle.abi_types.specs.declared.constants.Constants.{Constants}
use Rattle.abi_base.specs.declared.errno.Errno.{Errno}
use Rattle.abi_base.specs.declared.errno.Errno.TheVariants.{Nomem}
use Rattle.abi_types.specs.declared.status.Status.{Status}
use Rattle.abi_types.specs.declared.status.Status.TheVariants.{Live}
use Rattle.abi_types.specs.declared.thread.Thread.{Thread}
use Rattle.abi_types.specs.declared.thread.Thread.TheVariants.{Runnable}
use Rattle.abi_types.specs.declared.wake.WakeIn.{WakeIn}
use Rattle.abi_types.specs.declared.wake.WakeIn.TheVariants as wake
use Rattle.abi_types.specs.declared.who.Who.{Who}
use Rattle.abi_base.specs.Registers.{Registers}
use Rattle.kernel_model.specs.Outcome.{is_parked}
use Rattle.kernel_model.specs.Families.Locks.{with_word}
use Rattle.kernel_model.specs.State.{State, thread_of}
use Rattle.kernel_model.specs.Step.{failed, step_state, IsStep, end_state}
use Rattle.kernel_model.proofs.Refusals.{IsNoLackOf, reply_no_lack}
use Rattle.kernel_model.specs.Threads.{ends_caller, ends_others, IsCallerAfter}
use Rattle.kernel_model.specs.Waits.{may_wait, resumed, waiting}
use Rattle.kernel_model.specs.Wakes.{IsWake}
use Rattle.kernel_model.proofs.Moving.{moved_runs, moved_some}
use Rattle.kernel_model.proofs.Tests.{not_true}
use Rattle.kernel_model.proofs.WaitedCalls.{waited_is_no_lack}
use Rattle.kernel_model.proofs.Steps.{step_moves_only, end_ends_only}
use Rattle.guest_memory.specs.Page.{Pages}
use Rattle.call_codec.specs.Arguments.{args_of}
use Rattle.run_model.specs.Legal.{IsRunnable}
use Rattle.run_model.specs.World.{by_errno, called_state, woken_state}
use Rattle.run_model.proofs.Encoded.{args_no_lack}
use Rattle.run_model.proofs.Words.{word_may_wait}

-- ---- what an answered call leaves

by_other : (errno : Errno) (lacking done : State) → errno ≢ Nomem → by_errno errno lacking done ≡ done
by_other Nomem lacking done h = absurd (h refl)
by_other _ lacking done h = refl

called_by : (constants : Constants) (S : State) (who : Who) (call : Call) (given : Answer) (T : State) → IsNoLackOf call → IsStep constants S who call given T
    → T ≡ called_state constants S who call given
unfolding called_state
called_by constants S who call (answer.Parked writes) T none (inl done) = done.1
called_by constants S who call (answer.Parked writes) T none (inr lacking) = absurd (not_true (sym (ap is_parked lacking.1)))
called_by constants S who call (answer.Reply reply) T none (inl done) =
    done.1 ∙ sym (by_other reply.errno (failed S who) (step_state constants S who call) (reply_no_lack constants S who call reply none (sym done.0)))
called_by constants S who call (answer.Reply reply) T none (inr lacking) =
    lacking.2 ∙ ap (called_state constants S who call) (sym lacking.1)

-- a step of a call that registers encode leaves what its answer says
pub called_is : (m : Pages) (r : Registers) (left : ℕ) (constants : Constants) (S : State) (who : Who) (given : Answer) (T : State)
    → IsStep constants S who (args_of m r left) given T → T ≡ called_state constants S who (args_of m r left) given
called_is m r left constants S who given T step = called_by constants S who (args_of m r left) given T (args_no_lack m r left) step

-- and so does a wake of a call in which a thread may wait
pub woken_is : (constants : Constants) (S : State) (who : Who) (call : Call) (given : WakeIn) (answered : Answer) (T : State) → may_wait call ≡ true
    → IsWake constants S who call given answered T → T ≡ woken_state constants S who call given answered
woken_is constants S who call (wake.Plain word) answered T may is =
    called_by constants (resumed S who) who (with_word word call) answered T (waited_is_no_lack (with_word word call) (word_may_wait word call ∙ may)) is.0
woken_is constants S who call wake.Fault answered T may is = is.1

-- ---- a thread that runs on

caller_there : (waits : Thread) (given : Answer) (before after : Option Thread) → IsCallerAfter waits given before after → IsSome before → IsSome after
caller_there waits (answer.Parked writes) None after is there = absurd (not_true there)
caller_there waits (answer.Parked writes) (Some thread) after is there = ap is_some is
caller_there waits (answer.Reply reply) before after is there = moved_some before after is there

-- a thread of a process that is live after its call, which doesn't end it, is there then
pub stays_on : (constants : Constants) (S : State) (who : Who) (call : Call) (given : Answer) (T : State) → IsStep constants S who call given T
    → ends_caller call given ≡ false → get T.statuses who.pid ≡ Some Live → IsSome (thread_of S who.pid who.tid) → IsSome (thread_of T who.pid who.tid)
stays_on constants S who call given T step lasts live there =
    let left = (step_moves_only constants S who call given T step).threads live in
    caller_there (waiting constants call who (S.clock + 1000)) given (thread_of S who.pid who.tid) (thread_of T who.pid who.tid)
    (left.caller lasts) there

caller_runs : (waits : Thread) (given : Answer) (before after : Option Thread) → is_parked given ≡ false → IsCallerAfter waits given before after
    → before ≡ Some Runnable → after ≡ Some Runnable
caller_runs waits (answer.Parked writes) before after replies same runs = absurd (not_true (sym replies))
caller_runs waits (answer.Reply reply) before after replies moved runs = moved_runs before after moved runs

-- a runnable thread of a process that is live after a call with a reply, which doesn't end that thread, is runnable then
pub runs_on : (constants : Constants) (S : State) (who : Who) (call : Call) (given : Answer) (T : State) (t : ℕ) → IsStep constants S who call given T
    → is_parked given ≡ false → (t ≡ who.tid → ends_caller call given ≡ false) → (t ≢ who.tid → ends_others call given ≡ false)
    → get T.statuses who.pid ≡ Some Live → IsRunnable S who.pid t → IsRunnable T who.pid t
runs_on constants S who call given T t step replies lasts stay live runs =
    let left = (step_moves_only constants S who call given T step).threads live in
    elim (eqb_tells t who.tid) [
      | inl is ↦ subst (IsRunnable T who.pid) (sym is.1)
          (caller_runs (waiting constants call who (S.clock + 1000)) given (thread_of S who.pid who.tid) (thread_of T who.pid who.tid) replies
          (left.caller (lasts is.1)) (subst (IsRunnable S who.pid) is.1 runs))
      | inr other ↦ moved_runs (thread_of S who.pid t) (thread_of T who.pid t) (left.others t other.1 (subst IsSome (sym runs) refl) (stay other.1)) runs
    ]

-- ---- the end of a process

not_live : (status : Status) (o : Option Status) → status ≢ Live → o ≡ Some status → o ≢ Some Live
not_live status o other is live = let both : Some status ≡ Some Live = sym is ∙ live in let same : status ≡ Live = cc in other same

-- a process that is ended is not live
pub ended_by : (S : State) (p : ℕ) (status : Status) → status ≢ Live → get (end_state S p status).statuses p ≢ Some Live
ended_by S p status other = not_live status (get (end_state S p status).statuses p) other (end_ends_only S p status other).stands
