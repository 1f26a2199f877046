-- Threads that are given a lock or signalled.
--     told_are_ready
use Rattle.std.proofs.Common.{◌≡◌, ℕ, true, ◌∷◌, ◌++◌, Option, None, Some, IsSome, refl, sym, ap, ◌∙◌}
use Rattle.std.specs.Prelude.{if◌then◌else◌}
use Rattle.abi_structures.specs.declared.events.What.{What}
use Rattle.abi_structures.specs.declared.events.What.TheVariants.{Clock, Condvar, FdRead, FdWrite, LockRdlock, LockWrlock, ProcTerminate}
use Rattle.abi_types.specs.declared.call.Call.{Call}
use Rattle.abi_types.specs.declared.constants.Constants.{Constants}
use Rattle.abi_types.specs.declared.thread.Stage.{Stage}
use Rattle.abi_types.specs.declared.thread.Stage.TheVariants.{Signalled, Granted}
use Rattle.abi_types.specs.declared.thread.Thread.{Thread}
use Rattle.abi_types.specs.declared.thread.Thread.TheVariants.{Runnable, Waits}
use Rattle.abi_types.specs.declared.who.Who.{Who}
use Rattle.kernel_model.specs.Calls.{meaning_of}
use Rattle.kernel_model.specs.Deadlines.{is_due}
use Rattle.kernel_model.specs.Families.Locks.{awaits_lock, awaits_signal, called, first_awaited, given, is_late, sleeps_at, waits_for}
use Rattle.kernel_model.specs.State.{State, thread_of}
use Rattle.kernel_model.specs.Wakes.{goes_on_at, is_done_now, is_ready, is_ready_as}
use Rattle.kernel_model.proofs.Tests.{not_true}
use Rattle.readiness_laws.specs.PlaceLaws.{ToldAreReady}
use Rattle.readiness_laws.specs.Spots.{call_spots, moment_spot, on_thread, spots, waiting_spots}
use Rattle.readiness_laws.proofs.Locality.{is_for_lock, lock_by_stage}

lock_awaited : (at : ℕ) (what : Option What) (since : ℕ) (stage : Stage) → IsSome (awaits_lock at what since stage) → is_for_lock what ≡ true
lock_awaited at (Some (LockRdlock lock word scope)) since stage some = refl
lock_awaited at (Some (LockWrlock lock word scope)) since stage some = refl
lock_awaited at (Some (Condvar condvar condvar_word lock lock_word condvar_scope lock_scope)) since stage some = refl
lock_awaited at None since stage some = absurd (not_true some)
lock_awaited at (Some (Clock clock timeout precision flags)) since stage some = absurd (not_true some)
lock_awaited at (Some (FdRead fd)) since stage some = absurd (not_true some)
lock_awaited at (Some (FdWrite fd)) since stage some = absurd (not_true some)
lock_awaited at (Some (ProcTerminate fd)) since stage some = absurd (not_true some)

signal_awaited : (at : ℕ) (what : Option What) (since : ℕ) (stage : Stage) → IsSome (awaits_signal at what since stage) → is_for_lock what ≡ true
signal_awaited at (Some (Condvar condvar condvar_word lock lock_word condvar_scope lock_scope)) since stage some = refl
signal_awaited at None since stage some = absurd (not_true some)
signal_awaited at (Some (LockRdlock lock word scope)) since stage some = absurd (not_true some)
signal_awaited at (Some (LockWrlock lock word scope)) since stage some = absurd (not_true some)
signal_awaited at (Some (Clock clock timeout precision flags)) since stage some = absurd (not_true some)
signal_awaited at (Some (FdRead fd)) since stage some = absurd (not_true some)
signal_awaited at (Some (FdWrite fd)) since stage some = absurd (not_true some)
signal_awaited at (Some (ProcTerminate fd)) since stage some = absurd (not_true some)

module _ (constants : Constants) (S T : State) (p t : ℕ) (call : Call) (since : ℕ) (until : Option ℕ) (was now : Stage)
    (by_stage : (meaning_of call).by_stage ≡ true) (before : thread_of S p t ≡ Some (Waits call since until was)) (after : thread_of T p t ≡ Some (Waits call since until now)) where
  ready_by_stage : goes_on_at now (is_due T.clock until) ≡ true → is_ready constants T p t ≡ true
  ready_by_stage goes =
      let who : Who = record { pid = p; tid = t; since = since; stage = Some now } in
      ap (is_ready_as constants T p t) after
      ∙ ap (λ b. if b then goes_on_at now (is_due T.clock until) else is_done_now constants T who call) by_stage ∙ goes

  stands_still : spots T p t ≡ spots S p t
  stands_still =
      ap (λ o. on_thread p t ∷ waiting_spots T p o) after ∙ ap (λ b. on_thread p t ∷ moment_spot until ++ call_spots b T p call) by_stage
      ∙ sym (ap (λ o. on_thread p t ∷ waiting_spots S p o) before ∙ ap (λ b. on_thread p t ∷ moment_spot until ++ call_spots b S p call) by_stage)

given_ready : (constants : Constants) (S T : State) (p t lock : ℕ) (thread : Thread) → thread_of S p t ≡ Some thread → IsSome (waits_for lock thread)
    → thread_of T p t ≡ Some (given thread) → (is_ready constants T p t ≡ true) × (spots T p t ≡ spots S p t)
given_ready constants S T p t lock Runnable before some after = absurd (not_true some)
given_ready constants S T p t lock (Waits call since until stage) before some after =
    let by_stage = lock_by_stage call (lock_awaited lock (first_awaited call) since stage some) in (
      ready_by_stage constants S T p t call since until stage (Granted (is_late stage)) by_stage before after refl,
      stands_still constants S T p t call since until stage (Granted (is_late stage)) by_stage before after,
    )

signalled_ready : (constants : Constants) (S T : State) (p t condvar : ℕ) (thread : Thread) → thread_of S p t ≡ Some thread → IsSome (sleeps_at condvar thread)
    → thread_of T p t ≡ Some (called thread) → (is_ready constants T p t ≡ true) × (spots T p t ≡ spots S p t)
signalled_ready constants S T p t condvar Runnable before some after = absurd (not_true some)
signalled_ready constants S T p t condvar (Waits call since until stage) before some after =
    let by_stage = lock_by_stage call (signal_awaited condvar (first_awaited call) since stage some) in (
      ready_by_stage constants S T p t call since until stage Signalled by_stage before after refl,
      stands_still constants S T p t call since until stage Signalled by_stage before after,
    )

pub told_are_ready : ToldAreReady
told_are_ready = record { given = given_ready; signalled = signalled_ready }
