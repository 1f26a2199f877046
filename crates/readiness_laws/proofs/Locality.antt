-- Whether a thread is ready hangs on its spots alone.
--     ready_alike      by constants of either state
--     readiness_is_local
use Rattle.std.proofs.Common.{◌≡◌, ℕ, Bool, true, false, not, [], ◌∷◌, ◌++◌, List, [], ◌∷◌, Option, None, Some, refl, sym, ap, ◌∙◌}
use Rattle.std.specs.Prelude.{if◌then◌else◌}
use Rattle.std.specs.FinMap.{get}
use Rattle.abi_structures.specs.declared.events.Event.{Event}
use Rattle.abi_structures.specs.declared.events.What.{What}
use Rattle.abi_structures.specs.declared.events.What.TheVariants.{Clock, Condvar, FdRead, FdWrite, LockRdlock, LockWrlock, ProcTerminate}
use Rattle.abi_types.specs.declared.call.Call.{Call}
use Rattle.abi_types.specs.declared.call.Call.TheVariants as call
use Rattle.abi_types.specs.declared.constants.Constants.{Constants}
use Rattle.abi_types.specs.declared.reply.Reply.{Reply}
use Rattle.abi_types.specs.declared.thread.Stage.{Stage}
use Rattle.abi_types.specs.declared.thread.Stage.TheVariants.{Begun, Signalled, Queued, Granted}
use Rattle.abi_types.specs.declared.thread.Thread.{Thread}
use Rattle.abi_types.specs.declared.thread.Thread.TheVariants.{Runnable, Waits}
use Rattle.abi_types.specs.declared.who.Who.{Who}
use Rattle.kernel_model.specs.Calls.{meaning_of, refusal}
use Rattle.kernel_model.specs.Deadlines.{is_due, soon}
use Rattle.kernel_model.specs.Families.Locks.{first_awaited, is_condition}
use Rattle.kernel_model.specs.Families.Polls.{events_now, is_of_lock, told_or_waits}
use Rattle.kernel_model.specs.Outcome.{Outcome, is_parked}
use Rattle.kernel_model.specs.State.{State, Table, no_state, thread_of}
use Rattle.kernel_model.specs.Step.{unless}
use Rattle.kernel_model.specs.View.{whole}
use Rattle.kernel_model.specs.Waits.{deadline_at, deadline_of, has_left, may_stand, may_wait, HasDeadline, MayWait}
use Rattle.kernel_model.specs.Wakes.{goes_on_at, is_done_now, is_ready, is_ready_as}
use Rattle.kernel_model.proofs.Calls.{proper}
use Rattle.kernel_model.proofs.Tests.{not_true}
use Rattle.kernel_parts.specs.Waiting.{is_over}
use Rattle.kernel_parts.proofs.Parked.{effect_parks, parks}
use Rattle.kernel_parts.proofs.Polling.{over_is}
use Rattle.poll_set.specs.Polls.{is_told}
use Rattle.poll_set.proofs.PollReads.{poll_by_stage, poll_until}
use Rattle.readiness_laws.specs.LocalityLaws.{ReadinessIsLocal}
use Rattle.readiness_laws.specs.Spots.{AreSame, call_spots, look_spots, looks_of, moment_spot, spots, table_spots, waiting_spots}
use Rattle.readiness_laws.proofs.Looks.{read_looks, receive_looks, seen_at, send_looks, told_looks, write_looks}
use Rattle.readiness_laws.proofs.Standing.{first_same, second_same}

-- ---- until when a thread waits in a call that isn't by stage

-- whether it is a lock or a condition variable that is waited for
abbrev pub is_for_lock : Option What → Bool
is_for_lock None = false
is_for_lock (Some what) = is_of_lock what

-- a wait for one is by stage
pub lock_by_stage : (c : Call) → is_for_lock (first_awaited c) ≡ true → (meaning_of c).by_stage ≡ true
lock_by_stage (call.Poll (first ∷ rest)) is = poll_by_stage (first ∷ rest) ∙ is
lock_by_stage (call.Poll []) is = absurd (not_true is)
lock_by_stage _ is = absurd (not_true is)

condition_for_lock : (what : Option What) → is_condition what ≡ true → is_for_lock what ≡ true
condition_for_lock None is = absurd (not_true is)
condition_for_lock (Some (Condvar condvar condvar_word lock lock_word condvar_scope lock_scope)) is = refl
condition_for_lock (Some (Clock clock timeout precision flags)) is = absurd (not_true is)
condition_for_lock (Some (FdRead fd)) is = absurd (not_true is)
condition_for_lock (Some (FdWrite fd)) is = absurd (not_true is)
condition_for_lock (Some (LockRdlock lock word scope)) is = absurd (not_true is)
condition_for_lock (Some (LockWrlock lock word scope)) is = absurd (not_true is)
condition_for_lock (Some (ProcTerminate fd)) is = absurd (not_true is)

condition_by_stage : (c : Call) → is_condition (first_awaited c) ≡ true → (meaning_of c).by_stage ≡ true
condition_by_stage c is = lock_by_stage c (condition_for_lock (first_awaited c) is)

plain_stands : (c : Call) (stage : Stage) → (meaning_of c).by_stage ≡ false → may_stand c stage ≡ true → has_left c stage ≡ false
plain_stands c Begun plain stands = refl
plain_stands c Signalled plain stands = refl
plain_stands c (Queued at late) plain stands = absurd (not_true (sym plain ∙ condition_by_stage c stands))
plain_stands c (Granted late) plain stands =
    elim (is_condition (first_awaited c)) as (λ b. is_condition (first_awaited c) ≡ b → b ≡ false) [
      | true ↦ λ is. absurd (not_true (sym plain ∙ condition_by_stage c is))
      | false ↦ λ _. refl
    ] refl

plain_until : (constants : Constants) (c : Call) (since : ℕ) (until : Option ℕ) (stage : Stage) → (meaning_of c).by_stage ≡ false → may_stand c stage ≡ true
    → until ≡ deadline_at constants c since stage → until ≡ deadline_of constants c since
plain_until constants c since until stage plain stands is =
    is ∙ ap (λ (b : Bool). if b then None else deadline_of constants c since) (plain_stands c stage plain stands)

-- ---- calls that are over

pub unless_alike : (r : Option Reply) (o u : Outcome) → is_parked o.answer ≡ is_parked u.answer → is_parked (unless r o).answer ≡ is_parked (unless r u).answer
unless_alike None o u same = same
unless_alike (Some reply) o u same = refl

-- a poll waits where it has nothing to tell of
waits_untold : (events : List Event) → is_parked (told_or_waits events).answer ≡ not (is_told events)
waits_untold [] = refl
waits_untold (event ∷ events) = refl

-- a moment has come in both states or in none
due_same : (S T : State) (until : Option ℕ) → AreSame S T (moment_spot until) → is_due S.clock until ≡ is_due T.clock until
due_same S T None all = refl
due_same S T (Some until) all = all.0

module _ (first second : Constants) (S T : State) (since : ℕ) (table : Table) where
  -- whether it waits, where its time hasn't come
  parks_same : (c : Call) → is_due S.clock (deadline_of first c since) ≡ false → is_due T.clock (deadline_of second c since) ≡ false
      → AreSame S T (look_spots S.opens table (looks_of c))
      → parks first S.opens S.chans S.statuses S.clock table since c ≡ parks second T.opens T.chans T.statuses T.clock table since c
  parks_same (call.Poll subs) before after all =
      waits_untold (events_now first (seen_at S) since table subs)
      ∙ ap not
      (told_looks S T first second since table subs (ap (λ d. is_due S.clock (soon d)) (sym (poll_until first since subs)) ∙ before)
      (ap (λ d. is_due T.clock (soon d)) (sym (poll_until second since subs)) ∙ after) all)
      ∙ sym (waits_untold (events_now second (seen_at T) since table subs))
  parks_same (call.FdRead fd n) before after all = read_looks S T table fd n all
  parks_same (call.FdWrite fd bytes) before after all = write_looks S T table fd bytes all
  parks_same (call.SockRecv fd n room mode) before after all = receive_looks S T table fd n room mode all
  parks_same (call.SockSend fd bytes fds mode) before after all = send_looks S T table fd bytes fds mode all
  parks_same _ before after all = refl

  -- who asks is of no account
  abbrev asker : Who
  asker = record { pid = 0; tid = 0; since = since; stage = None }

  abbrev looked : State → State
  looked U = record no_state { clock = U.clock; opens = U.opens; chans = U.chans; statuses = U.statuses }

  abbrev waits_in : Call → Constants → State → Bool
  waits_in c constants U = is_parked ((meaning_of c).effect constants (whole (looked U)) asker table).answer

  effect_same : (c : Call) → may_wait c ≡ true → (meaning_of c).by_stage ≡ false
      → is_due S.clock (deadline_of first c since) ≡ is_due T.clock (deadline_of second c since)
      → AreSame S T (look_spots S.opens table (looks_of c)) → waits_in c first S ≡ waits_in c second T
  effect_same c may plain due all =
      elim (is_due S.clock (deadline_of first c since)) as (λ b. is_due S.clock (deadline_of first c since) ≡ b → waits_in c first S ≡ waits_in c second T) [
        | true ↦ λ come.
            let over = ((proper c).waits may).due plain in
            over first (whole (looked S)) asker table come ∙ sym (over second (whole (looked T)) asker table (sym due ∙ come))
        | false ↦ λ ahead.
            effect_parks first (looked S) asker table c plain ∙ parks_same c ahead (sym due ∙ ahead) all
            ∙ sym (effect_parks second (looked T) asker table c plain)
      ] refl

module _ (first second : Constants) (S T : State) (since : ℕ) (c : Call) (may : may_wait c ≡ true) (plain : (meaning_of c).by_stage ≡ false)
    (due : is_due S.clock (deadline_of first c since) ≡ is_due T.clock (deadline_of second c since)) where
  over_same : (o : Option Table) → AreSame S T (table_spots S.opens o (looks_of c))
      → is_over first S.opens S.chans S.statuses S.clock o since c ≡ is_over second T.opens T.chans T.statuses T.clock o since c
  over_same None all = refl
  over_same (Some table) all = ap not (unless_alike (refusal table c) _ _ (effect_same first second S T since table c may plain due all))

module _ (first second : Constants) (S T : State) where
  done_same : (who : Who) (c : Call) → may_wait c ≡ true → (meaning_of c).by_stage ≡ false
      → is_due S.clock (deadline_of first c who.since) ≡ is_due T.clock (deadline_of second c who.since)
      → AreSame S T (call_spots false S who.pid c) → is_done_now first S who c ≡ is_done_now second T who c
  done_same who c may plain due all =
      sym (over_is first S who c plain) ∙ over_same first second S T who.since c may plain due (get S.tables who.pid) all.1
      ∙ ap (λ o. is_over second T.opens T.chans T.statuses T.clock o who.since c) all.0 ∙ over_is second T who c plain

  ready_as_same : (p t : ℕ) (o : Option Thread) → MayWait o → HasDeadline first o → HasDeadline second o → AreSame S T (waiting_spots S p o)
      → is_ready_as first S p t o ≡ is_ready_as second T p t o
  ready_as_same p t None may until other all = refl
  ready_as_same p t (Some Runnable) may until other all = refl
  ready_as_same p t (Some (Waits c since until stage)) may is other all =
      let who : Who = record { pid = p; tid = t; since = since; stage = Some stage } in
      elim (meaning_of c).by_stage as (λ b. (meaning_of c).by_stage ≡ b → AreSame S T (moment_spot until ++ call_spots b S p c)
      → (if b then goes_on_at stage (is_due S.clock until) else is_done_now first S who c)
      ≡ (if b then goes_on_at stage (is_due T.clock until) else is_done_now second T who c)) [
        | true ↦ λ _ those. ap (goes_on_at stage) (due_same S T until (first_same S T (moment_spot until) [] those))
        | false ↦ λ plain those.
            let before : until ≡ deadline_of first c since = plain_until first c since until stage plain may.1 is in
            let after : until ≡ deadline_of second c since = plain_until second c since until stage plain may.1 other in
            let due = due_same S T until (first_same S T (moment_spot until) (call_spots false S p c) those) in
            done_same who c may.0 plain (ap (is_due S.clock) (sym before) ∙ due ∙ ap (is_due T.clock) after)
            (second_same S T (moment_spot until) (call_spots false S p c) those)
      ] refl all

-- even by other constants, as long as the thread waits until its call's deadline by either
pub ready_alike : (first second : Constants) (S T : State) (p t : ℕ) → MayWait (thread_of S p t) → HasDeadline first (thread_of S p t)
    → HasDeadline second (thread_of S p t) → AreSame S T (spots S p t) → is_ready first S p t ≡ is_ready second T p t
ready_alike first second S T p t may until other all =
    ready_as_same first second S T p t (thread_of S p t) may until other all.1 ∙ ap (is_ready_as second T p t) all.0

pub readiness_is_local : ReadinessIsLocal
readiness_is_local constants S T p t may until all = ready_alike constants constants S T p t may until until all
