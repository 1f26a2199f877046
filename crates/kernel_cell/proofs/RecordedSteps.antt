-- What stands behind the lock as an entry is added, read off the kernel, the keeper and what is kept.
--     kernel_early, log_short, constants_early, live_there, dead_there, few_there      the bounds, and who is live
--     covers      the process that the keeper holds
--     recorded_same      what stands there where no entry came
--     entered_on, fits_entry, recorded_entry      an entry of any act
--     call_runs_there, other_there, number_there, call_fits, call_recorded, call_came      a call
--     no_child, place_for      a call that makes no child, and the place of a thread that it made
--     wake_can, wake_few, same_given, wake_fits, wake_recorded, wake_came, wake_not, wake_none      a wake
--     end_fits, end_recorded, end_came      an end from outside
--     fits_jump, recorded_jump, appends_jump, busy_there, over_there, stalled_there      an idle jump
use Rattle.std.proofs.Common.{◌≡◌, ◌≢◌, inl, inr, ◌+◌, ◌-◌, ◌^◌, ◌<◌, ◌≤◌, ℕ, Bool, true, false, List, [], ◌∷◌, ◌++◌, length, Contains, Option, None, Some, IsSome, IsTrue, ◌↔◌, refl, sym, ap, subst, ◌∙◌, arith}
use Rattle.std.specs.Prelude.{Result, Ok, Err, OnErr, OnOk, is_ok}
use Rattle.std.proofs.lemmas.Bool.Decides.{eqb_tells}
use Rattle.std.specs.FinMap.{FinMap, get}
use Rattle.std.specs.Ordering.{nat_cmp}
use Rattle.abi_types.specs.declared.reply.Answer.{Answer}
use Rattle.abi_types.specs.declared.call.Call.{Call}
use Rattle.abi_types.specs.declared.call.Call.TheVariants.{ProcExec, ProcFork, ThreadCreate, ThreadExit}
use Rattle.abi_types.specs.declared.reply.Answer.TheVariants as answer
use Rattle.abi_types.specs.declared.reply.WordWrites.{WordWrites}
use Rattle.abi_base.specs.Registers.{Registers}
use Rattle.maps.specs.Maps.{get-insert-same}
use Rattle.abi_types.specs.declared.constants.Constants.{Constants}
use Rattle.abi_types.specs.declared.status.Status.{Status}
use Rattle.abi_types.specs.declared.status.Status.TheVariants.{Live}
use Rattle.abi_types.specs.declared.thread.Stage.{Stage}
use Rattle.abi_types.specs.declared.thread.Thread.{Thread}
use Rattle.abi_types.specs.declared.thread.Thread.TheVariants.{Runnable, Waits}
use Rattle.abi_types.specs.declared.wake.WakeIn.{WakeIn}
use Rattle.abi_types.specs.declared.who.Who.{Who}
use Rattle.run_types.specs.declared.history.Act.{Act}
use Rattle.run_types.specs.declared.history.Act.TheVariants as act
use Rattle.run_types.specs.declared.history.Entry.{Entry}
use Rattle.run_types.specs.declared.launch.Launch.{Launch}
use Rattle.call_codec.specs.Arguments.{args_of}
use Rattle.call_codec.specs.Given.{given_of, CanWait}
use Rattle.call_codec.specs.Put.{HasFewRanges}
use Rattle.call_codec.proofs.Puts.{few_ranges}
use Rattle.kernel_invariant.specs.Waiting.{waiter}
use Rattle.kernel_core.specs.Waiting.{caller, kept_call}
use Rattle.kernel_model.specs.Deadlines.{idle_state}
use Rattle.kernel_model.specs.Outcome.{is_parked}
use Rattle.kernel_model.specs.State.{ProcessState, State, counts_in, thread_of}
use Rattle.kernel_model.specs.Step.{IsStep, end_state}
use Rattle.kernel_model.specs.Threads.{child_told, ends_caller, ends_others, first_result, makes_thread, next_number, IsMoved}
use Rattle.kernel_model.specs.Valid.{IsValid}
use Rattle.kernel_model.specs.Waits.{HasDeadlines, WaitsIn}
use Rattle.kernel_model.specs.Wakes.{is_ready, is_ready_as, IsStalled, IsWake as IsWoken, MayJump}
use Rattle.kernel_model.proofs.Tests.{not_true}
use Rattle.kernel_model.proofs.ThreadLaws.{create_number}
use Rattle.guest_process.specs.Room.{Begins, HasNumber, HasOther, HasThreadFor, IsCreate}
use Rattle.guest_process.specs.declared.guest.NewThread.{NewThread}
use Rattle.run_model.specs.Ends.{Stalled}
use Rattle.run_model.specs.Legal.{FitsAct, Fits, IsRunnable}
use Rattle.run_model.specs.Own.{is_idle, IsLiveIn}
use Rattle.run_model.specs.World.{World, Guest, world, acted, thread_at, turned, guest_of, registers_of, answered_guest, called_guest}
use Rattle.run_model.proofs.Bounds.{early, short}
use Rattle.run_model.proofs.Histories.{world_constants}
use Rattle.run_model.proofs.ThreadLaws.{numbers_suffice}
use Rattle.run_model.proofs.ThreadRegisters.{parked_makes}
use Rattle.run_model.proofs.Waited.{parked_is}
use Rattle.run_model.proofs.Words.{few_of_call}
use Rattle.run_model.proofs.WaitingRegisters.{may_can, waits_are_encoded, whole_keeps}
use Rattle.run_model.proofs.Worlds.{world_has_deadlines, world_is_valid}
use Rattle.shared_history.specs.Entries.{head_of, entry_of, answered_call, idled}
use Rattle.shared_history.specs.Kept.{Takes}
use Rattle.shared_history.specs.declared.entries.EntryHead.{EntryHead}
use Rattle.shared_history.specs.declared.kept.Kept.{Kept}
use Rattle.kernel_cell.specs.Acting.{Became, Entered, GoesOn, HasEnded, HasLeft, HasStarted, IsAlone, IsDead, IsActedOn, IsIdledOn, KeepsBut, MayCome, WaitsOn}
use Rattle.kernel_cell.specs.Results.{Threads, act_of, after_call, after_wake, end_of, if_live, status_of, unless_lost, with_made, without_place, HasPlace, IsPlaceFor}
use Rattle.kernel_cell.specs.Asking.{Answers, AsksCall, AsksEnd, AsksWake, HasNoChild}
use Rattle.kernel_cell.specs.Recorded.{IsRecorded}
use Rattle.kernel_cell.specs.declared.results.After.{After}
use Rattle.kernel_cell.specs.declared.results.Asked.{Asked}
use Rattle.kernel_cell.specs.declared.results.Asked.TheVariants as asked
use Rattle.kernel_cell.specs.declared.results.Body.{Body}
use Rattle.kernel_cell.specs.declared.results.Came.TheVariants as came
use Rattle.kernel_cell.specs.declared.results.EndBy.{EndBy}
use Rattle.kernel_cell.specs.declared.results.Idled.TheVariants as idle
use Rattle.kernel_cell.proofs.EntryEffects.{recorded_next, entry_state, entry_fits, entry_dead, entry_goes, entry_has, entry_keeps, entry_left, entry_starts, entry_waits, call_runnable, call_leaves, call_answered, call_set, call_runs, call_waits, call_left, call_keeps, call_alone, call_makes, kept_waits, moved_same, waits_may, wake_leaves, wake_answered, wake_runs, wake_stays, wake_waits, end_leaves, end_answered, end_dead}

-- a thread of which no call is kept isn't ready
none_ready : (constants : Constants) (S : State) (p t : ℕ) (o : Option Thread) → None ≡ kept_call o → is_ready_as constants S p t o ≡ false
none_ready constants S p t None none = refl
none_ready constants S p t (Some Runnable) none = refl
none_ready constants S p t (Some (Waits call since until stage)) none = absurd (cc)

-- what a thread is given is given for the call that is kept of it
pub same_given : (guest : Guest) (t : ℕ) (seen call : Call) (o : Option Call) (given : WakeIn) → Some seen ≡ o → Some call ≡ o
    → given ≡ given_of guest.memory (registers_of guest t) seen → given ≡ given_of guest.memory (registers_of guest t) call
same_given guest t seen call o given here there is =
    let same : seen ≡ call = cc in
    is ∙ ap (given_of guest.memory (registers_of guest t)) same

-- a call doesn't both make a thread and end one
makes_lasts : (call : Call) (given : Answer) → makes_thread call given ≡ true → ends_caller call given ≡ false
makes_lasts (ThreadCreate attributes) given makes = refl
makes_lasts _ given makes = absurd (not_true makes)

-- a call that makes a thread or ends one doesn't end the others
makes_stays : (call : Call) (given : Answer) → makes_thread call given ≡ true → ends_others call given ≡ false
makes_stays (ThreadCreate attributes) given makes = refl
makes_stays _ given makes = absurd (not_true makes)

leaves_stays : (call : Call) (given : Answer) → ends_caller call given ≡ true → ends_others call given ≡ false
leaves_stays (ThreadExit lock word scope) given ends = refl
leaves_stays _ given ends = absurd (not_true ends)

-- nor does one in which its thread waits
parked_stays : (call : Call) (writes : WordWrites) → ends_others call (answer.Parked writes) ≡ false
parked_stays (ProcExec fd bytes fds) writes = refl
parked_stays _ writes = refl

-- the number of a process's next thread is small, if it is where the process was made
few_numbers : (o : Option ProcessState) → ((own : ProcessState) → o ≡ Some own → own.counts.threads + 1 < 2 ^ 30 - 1) → (counts_in o).threads + 1 < 2 ^ 32
few_numbers None few = omega arith
few_numbers (Some own) few = let small = few own refl in omega (arith, small)

-- only a thread_create begins a thread
begins_create : (call : Call) (t : ℕ) (regs : FinMap nat_cmp Registers) → Begins call t regs → IsCreate call
begins_create (ThreadCreate attributes) t regs begins = tt
begins_create _ t regs begins = absurd begins

-- the thread that there is room for has not the number t, if the next thread hasn't
other_number : (call : Call) (t next : ℕ) (thread : Option NewThread) (regs : FinMap nat_cmp Registers) → HasThreadFor call thread regs
    → HasNumber next thread → (IsCreate call → t ≢ next) → HasOther t thread
other_number call t next None regs room number apart = tt
other_number call t next (Some new) regs room number apart = λ same. apart (begins_create call new.tid regs room) (same ∙ number)

-- a call that makes no child tells none
pub no_child : (call : Call) (given : Answer) → HasNoChild call → child_told call given ≡ None
no_child (ProcFork left) given plain = absurd plain
no_child _ given plain = refl

-- the keeper holds the process of the entry
pub covers : (held : List ℕ) (p q : ℕ) → held ≡ p ∷ [] → q ≡ p → Contains held q
covers held p q one same = subst (λ (x : List ℕ × ℕ). Contains x.0 x.1) (λ i. (sym one i, sym same i)) (0, omega arith, refl)

-- ---- places

-- only a thread_create makes a thread
makes_create : (call : Call) (given : Answer) → makes_thread call given ≡ true → IsCreate call
makes_create (ThreadCreate attributes) given makes = tt
makes_create _ given makes = absurd (not_true makes)

place_by : (next : ℕ) (threads : Threads) (had live parks makes ends begins : Bool) → (makes ≡ true → IsSome (get threads next))
    → IsPlaceFor next threads (unless_lost had (if_live live (end_of parks makes ends begins next)))
place_by next threads false live parks makes ends begins there = tt
place_by next threads true false parks makes ends begins there = tt
place_by next threads true true true makes ends begins there = tt
place_by next threads true true false true ends begins there = (refl, there refl)
place_by next threads true true false false true begins there = tt
place_by next threads true true false false false true there = tt
place_by next threads true true false false false false there = tt

-- a thread that was made has its place
pub place_for : (call : Call) (given : Answer) (next : ℕ) (threads threads' : Threads) (placed had live : Bool) (end after : After)
    → HasPlace call next threads placed threads' → end ≡ after_call call given next → after ≡ unless_lost had (if_live live end)
    → IsPlaceFor next threads' after
place_for call given next threads threads' placed had live end after place is so =
    subst (IsPlaceFor next threads') (sym (so ∙ ap (λ x. unless_lost had (if_live live x)) is))
    (place_by next threads' had live (is_parked given) (makes_thread call given) (ends_caller call given) (ends_others call given)
    (λ makes. place.there (makes_create call given makes)))

-- ---- what may come of a wake, which makes no thread

may_wake : (live waits : Bool) → MayCome asked.Wakes (if_live live (after_wake waits))
may_wake false waits = tt
may_wake true false = tt
may_wake true true = tt

none_made : (live waits : Bool) (threads : Threads) → threads ≡ with_made (if_live live (after_wake waits)) threads
none_made false waits threads = refl
none_made true false threads = refl
none_made true true threads = refl

module _ {launch : Launch} {all : Bool} {log : List Entry} {before : State} {constants : Constants} {kept : Kept}
    (r : IsRecorded launch all log before constants kept) where
  abbrev w : World
  w = world launch log

  pub kernel_early : before.clock < 2 ^ 63
  kernel_early = subst (λ (S : State). S.clock < 2 ^ 63) (sym r.state) (early launch log r.bounded r.legal)

  pub log_short : length log < 2 ^ 63
  log_short = short launch log r.bounded r.legal

  pub constants_early : constants.epoch ≤ 2 ^ 62
  constants_early = subst (λ (c : Constants). c.epoch ≤ 2 ^ 62) (sym r.constants_are) r.bounded.epoch

  -- what holds of the kernel's constants and state holds of the history's
  there : (P : Constants → State → Type 0) → P constants before → P launch.constants w.state
  there P here = subst (λ (x : Constants × State). P x.0 x.1) (λ i. (r.constants_are i, r.state i)) here

  pub live_there : (p : ℕ) → get before.statuses p ≡ Some Live → IsLiveIn w p
  live_there p live = there (λ c S. get S.statuses p ≡ Some Live) live

  pub dead_there : (p : ℕ) → ¬ (get before.statuses p ≡ Some Live) → IsDead launch log p
  dead_there p dead = there (λ c S. ¬ (get S.statuses p ≡ Some Live)) dead

  pub valid_there : IsValid w.state
  valid_there = world_is_valid launch log r.bounded.begins r.legal

  -- each thread that waits does until its call's deadline
  pub deadlines_there : HasDeadlines constants before
  deadlines_there =
      subst (λ (x : Constants × State). HasDeadlines x.0 x.1) (λ i. (sym r.constants_are i, sym r.state i))
      (subst (λ (c : Constants). HasDeadlines c w.state) (world_constants launch log) (world_has_deadlines launch log r.bounded.begins r.legal))

  -- the number of a process's next thread
  pub few_there : (p : ℕ) → next_number before p < 2 ^ 32
  few_there p =
      subst (λ (S : State). next_number S p < 2 ^ 32) (sym r.state)
      (few_numbers (get w.state.processes p) (λ own there. (numbers_suffice launch log p 0 own r.bounded r.legal there (omega arith)).0))

  numbered_there : (p next : ℕ) → next ≡ next_number before p → next ≡ next_number w.state p
  numbered_there p next is = is ∙ ap (λ (S : State). next_number S p) r.state

  -- no thread that is there has it
  next_there : (p t next : ℕ) → next ≡ next_number before p → IsSome (thread_of w.state p t) → t ≢ next
  next_there p t next is there same =
      let counted : t ≤ (counts_in (get w.state.processes p)).threads = valid_there.nearly.numbered p t there in
      let number : next ≡ (counts_in (get w.state.processes p)).threads + 1 = numbered_there p next is in
      omega (arith, counted, number, same)

  -- nothing changed but that room was made
  pub recorded_same : (kernel : State) (kept' : Kept) → kernel ≡ before → kept'.all ≡ kept.all → kept'.entries.items ≡ kept.entries.items
      → kept'.denied.items ≡ kept.denied.items → IsRecorded launch all log kernel constants kept'
  recorded_same kernel kept' same all_is entries denied = record {
    bounded = r.bounded;
    legal = r.legal;
    state = same ∙ r.state;
    constants_are = r.constants_are;
    kept_is = record {
      all_is = all_is ∙ r.kept_is.all_is;
      entries_are = entries ∙ r.kept_is.entries_are;
      denied_are = denied ∙ r.kept_is.denied_are;
    };
  }

  -- ---- an entry of any act

  module _ (p t : ℕ) (turns : List ℕ) (a : Act) (kernel : State) (head : EntryHead) (head_is : head ≡ head_of kernel.clock p t turns)
      (leaves : (acted (turned w p turns) (thread_at w.state p t) a).state ≡ kernel) (live : is_idle a ≡ false → IsLiveIn w p)
      (fits : FitsAct launch.constants w.state (thread_at w.state p t) (guest_of w p) turns a) where
    abbrev entry : Entry
    entry = entry_of (head_of kernel.clock p t turns) a

    same_entry : entry ≡ entry_of head a
    same_entry = ap (λ (h : EntryHead). entry_of h a) (sym head_is)

    fits_here : Fits w entry
    fits_here = entry_fits launch log p t turns a kernel leaves live fits

    fits_entry : Fits w (entry_of head a)
    fits_entry = subst (Fits w) same_entry fits_here

    module _ (after : List Entry) (last : after ≡ log ++ entry_of head a ∷ []) where
      last_here : after ≡ log ++ entry ∷ []
      last_here = last ∙ ap (λ (e : Entry). log ++ e ∷ []) (sym same_entry)

      entered_on : (what : Asked) → Answers what a → Entered launch log p t turns what after
      entered_on what answers = record { act = a; answers = answers; moment = kernel.clock; fits = fits_here; last = last_here }

      recorded_entry : (kept' : Kept) → Takes (entry_of head a) kept kept' → IsRecorded launch all after kernel constants kept'
      recorded_entry kept' took =
          subst (λ (h : List Entry). IsRecorded launch all h kernel constants kept') (sym last_here)
          (recorded_next launch all log before constants kept entry kernel kept' r fits_here (entry_state launch log p t turns a kernel leaves)
          (subst (λ (e : Entry). Takes e kept kept') (sym same_entry) took))

      -- what holds of the history with the entry
      entry_there : (P : List Entry → Type 0) → P (log ++ entry ∷ []) → P after
      entry_there P here = subst P (sym last_here) here

  -- ---- a call

  module _ {p t : ℕ} {turns : List ℕ} {call : Call} {guest : Guest} (a : AsksCall w p t turns guest call) where
    pub call_runs_there : IsRunnable before p t
    call_runs_there = subst (λ (S : State). IsRunnable S p t) (sym r.state) (call_runnable w p t turns guest call a)

    -- the thread that there is room for is another
    pub other_there : (next : ℕ) (thread : Option NewThread) (regs : FinMap nat_cmp Registers) → (IsCreate call → next ≡ next_number before p)
        → HasThreadFor call thread regs → HasNumber next thread → HasOther t thread
    other_there next thread regs is room number =
        other_number call t next thread regs room number
        (λ creates. next_there p t next (is creates) (subst IsSome (sym (call_runnable w p t turns guest call a)) refl))

    -- and the one that is made, if one is
    pub number_there : (given : Answer) (kernel : State) (next : ℕ) (thread : Option NewThread)
        → IsStep constants before (caller before p t) call given kernel → (IsCreate call → next ≡ next_number before p) → HasNumber next thread
        → makes_thread call given ≡ true → HasNumber (first_result given) thread
    number_there given kernel next thread step is number makes =
        subst (λ n. HasNumber n thread)
        (is (makes_create call given makes) ∙ sym (create_number constants before (caller before p t) call given kernel step makes).0) number

    module _ (given : Answer) (kernel : State) (head : EntryHead) (head_is : head ≡ head_of kernel.clock p t turns)
        (step : IsStep constants before (caller before p t) call given kernel) (live : IsLiveIn w p) where
      pub step_there : IsStep launch.constants w.state (caller w.state p t) call given kernel
      step_there = there (λ c S. IsStep c S (caller S p t) call given kernel) step

      abbrev call_act : Act
      call_act = act.Call call given

      leaves_call : (acted (turned w p turns) (thread_at w.state p t) call_act).state ≡ kernel
      leaves_call = call_leaves launch log p t turns call given guest kernel a step_there

      answered_there : FitsAct launch.constants w.state (thread_at w.state p t) (guest_of w p) turns call_act
      answered_there = call_answered launch log p t turns call given guest kernel a step_there

      pub call_fits : Fits w (answered_call head call None given)
      call_fits = fits_entry p t turns call_act kernel head head_is leaves_call (λ _. live) answered_there

      module _ (after : List Entry) (last : after ≡ log ++ answered_call head call None given ∷ []) where
        pub call_recorded : (kept' : Kept) → Takes (answered_call head call None given) kept kept' → IsRecorded launch all after kernel constants kept'
        call_recorded kept' took = recorded_entry p t turns call_act kernel head head_is leaves_call (λ _. live) answered_there after last kept' took

        pub call_entered : Entered launch log p t turns (asked.Calls call) after
        call_entered = entered_on p t turns call_act kernel head head_is leaves_call (λ _. live) answered_there after last (asked.Calls call) (given, refl)

        pub entered_is : call_entered.act ≡ call_act
        unfolding call_entered entered_on
        entered_is = refl

        module _ (guest' : Guest) (is : guest' ≡ answered_guest p guest t call given) where
          abbrev changed : Guest → Guest
          changed g = answered_guest p g t call given

          set_call : get (acted (turned w p turns) (thread_at w.state p t) call_act).guests p ≡ Some (changed (guest_of (turned w p turns) p))
          set_call = call_set launch log p t turns call given guest kernel a step_there valid_there live

          -- what holds of the history after the call
          after_this : (P : List Entry → Type 0) → P (log ++ entry_of (head_of kernel.clock p t turns) call_act ∷ []) → P after
          after_this P here = entry_there p t turns call_act kernel head head_is leaves_call (λ _. live) answered_there after last P here

          pub goes_call : get kernel.statuses p ≡ Some Live → is_parked given ≡ false → ends_caller call given ≡ false → GoesOn launch after p t guest'
          goes_call on replies lasts =
              after_this (λ h. GoesOn launch h p t guest')
              (entry_goes launch log p t turns call_act kernel leaves_call changed guest a.guest_is set_call guest' is on
              (call_runs launch log p t turns call given guest kernel a step_there replies lasts on))

          waits_call : get kernel.statuses p ≡ Some Live → is_parked given ≡ true → WaitsOn launch after p t guest'
          waits_call on parks =
              let thread = call_waits launch log p t turns call given guest kernel a step_there parks on in
              after_this (λ h. WaitsOn launch h p t guest')
              (entry_waits launch log p t turns call_act kernel leaves_call changed guest a.guest_is set_call guest' is on thread.0 thread.1 thread.2)

          leaves_caller : get kernel.statuses p ≡ Some Live → ends_caller call given ≡ true → HasLeft launch after p t guest'
          leaves_caller on ends =
              after_this (λ h. HasLeft launch h p t guest')
              (entry_left launch log p t turns call_act kernel leaves_call changed guest a.guest_is set_call guest' is on
              (call_left launch log p t turns call given guest kernel a step_there ends on))

          pub keeps_call : get kernel.statuses p ≡ Some Live → makes_thread call given ≡ false → ends_others call given ≡ false → KeepsBut launch log after p t
          keeps_call on makes stay =
              after_this (λ h. KeepsBut launch log h p t)
              (entry_keeps launch log p t turns call_act kernel leaves_call t
              (λ u apart. call_keeps launch log p t turns call given guest kernel a step_there stay on u apart
              (λ does. absurd (not_true (sym makes ∙ does)))))

          -- where another program begins no other thread is left
          alone_call : get kernel.statuses p ≡ Some Live → ends_others call given ≡ true → IsAlone launch after p t
          alone_call on begins =
              after_this (λ h. IsAlone launch h p t)
              (λ u apart. entry_has launch log p t turns call_act kernel leaves_call (λ S. thread_of S p u ≡ None)
              (call_alone launch log p t turns call given guest kernel a step_there begins on u apart))

          -- where a thread is made the one that made it is what it was too
          keeps_maker : get kernel.statuses p ≡ Some Live → is_parked given ≡ false → makes_thread call given ≡ true → (u : ℕ)
              → u ≢ next_number w.state p → IsMoved (thread_of w.state p u) (thread_of kernel p u)
          keeps_maker on replies makes u old =
              elim (eqb_tells u t) [
                | inl same ↦ subst (λ k. IsMoved (thread_of w.state p k) (thread_of kernel p k)) (sym same.1)
                    (moved_same (thread_of w.state p t) (thread_of kernel p t)
                    (call_runs launch log p t turns call given guest kernel a step_there replies (makes_lasts call given makes) on
                    ∙ sym (call_runnable w p t turns guest call a)))
                | inr apart ↦ call_keeps launch log p t turns call given guest kernel a step_there (makes_stays call given makes) on u apart.1 (λ _. old)
              ]

          starts_call : (next : ℕ) → (IsCreate call → next ≡ next_number before p) → get kernel.statuses p ≡ Some Live → is_parked given ≡ false
              → makes_thread call given ≡ true → HasStarted launch log after p next
          starts_call next number on replies makes =
              let made = call_makes launch log p t turns call given guest kernel a step_there makes on in
              subst (HasStarted launch log after p) (sym (numbered_there p next (number (makes_create call given makes))))
              (after_this (λ h. HasStarted launch log h p (next_number w.state p))
              (entry_starts launch log p t turns call_act kernel leaves_call (next_number w.state p) made.0 refl made.1
              (keeps_maker on replies makes)))

          became_by : (next : ℕ) → (IsCreate call → next ≡ next_number before p) → (lives parks makes ends begins : Bool) → is_parked given ≡ parks
              → makes_thread call given ≡ makes → ends_caller call given ≡ ends → ends_others call given ≡ begins
              → (IsTrue lives ↔ (get kernel.statuses p ≡ Some Live))
              → Became launch log p t after guest' call_act (if_live lives (end_of parks makes ends begins next))
          became_by next number false parks makes ends begins waits made left anew on =
              after_this (λ h. IsDead launch h p) (entry_dead launch log p t turns call_act kernel leaves_call (λ alive. not_true (on.1 alive)))
          became_by next number true true makes ends begins waits made left anew on =
              let writes = parked_is given waits in (
                waits_call (on.0 refl) waits,
                keeps_call (on.0 refl) (ap (makes_thread call) writes.1 ∙ parked_makes call writes.0)
                    (ap (ends_others call) writes.1 ∙ parked_stays call writes.0),
              )
          became_by next number true false true ends begins waits made left anew on =
              (goes_call (on.0 refl) waits (makes_lasts call given made), starts_call next number (on.0 refl) waits made)
          became_by next number true false false true begins waits made left anew on =
              (leaves_caller (on.0 refl) left, keeps_call (on.0 refl) made (leaves_stays call given left))
          became_by next number true false false false true waits made left anew on =
              (goes_call (on.0 refl) waits left, alone_call (on.0 refl) anew)
          became_by next number true false false false false waits made left anew on =
              (goes_call (on.0 refl) waits left, keeps_call (on.0 refl) made anew)

        -- where there was no memory for a program, its entry came
        became_or_lost : {X E : Type 0} (guest' : Guest) (begun : Result X E) → OnOk begun (guest' ≡ answered_guest p guest t call given)
            → OnErr begun (ends_others call given ≡ true) → (lives : Bool) (next : ℕ) → (IsCreate call → next ≡ next_number before p)
            → (IsTrue lives ↔ (get kernel.statuses p ≡ Some Live))
            → Became launch log p t after guest' call_act (unless_lost (is_ok begun) (if_live lives (after_call call given next)))
        became_or_lost guest' (Ok done) is begins lives next number on =
            became_by guest' is next number lives (is_parked given) (makes_thread call given) (ends_caller call given) (ends_others call given) refl refl refl refl on
        became_or_lost guest' (Err lack) is begins lives next number on = begins

        pub call_came : {X E : Type 0} (guest' : Guest) (begun : Result X E) → OnOk begun (guest' ≡ answered_guest p guest t call given)
            → OnErr begun (ends_others call given ≡ true) → (result end : After) (lives : Bool) (next : ℕ) (threads threads' made : Threads) (none : List ℕ) (placed : Bool)
            → result ≡ unless_lost (is_ok begun) (if_live lives end) → end ≡ after_call call given next → (IsCreate call → next ≡ next_number before p)
            → (IsTrue lives ↔ (get kernel.statuses p ≡ Some Live)) → none ≡ [] → HasPlace call next threads placed made
            → threads' ≡ with_made result (without_place next placed made)
            → IsActedOn launch log p t (record { guest = guest; threads = threads; turns = turns }) (asked.Calls call)
            (record { guest = guest'; threads = threads'; turns = none }) after (came.Done result)
        unfolding call_entered entered_on
        call_came guest' begun is begins result end lives next threads threads' made none placed so same number on empty place threads_are = record {
          came = (
            call_entered,
            (
              tt,
              subst (Became launch log p t after guest' call_act) (sym (so ∙ ap (λ x. unless_lost (is_ok begun) (if_live lives x)) same))
                  (became_or_lost guest' begun is begins lives next number on),
            ),
          );
          kept = (empty, threads_are ∙ ap (with_made result) place.without);
          unanswered = tt;
        }

  -- ---- a wake

  module _ {p t : ℕ} {turns : List ℕ} {guest : Guest} (a : AsksWake w p t turns guest) (call : Call)
      (kept_is : Some call ≡ kept_call (thread_of before p t)) where
    abbrev sleeper : Who
    sleeper = thread_at w.state p t

    waits_there : WaitsIn w.state sleeper call
    waits_there = kept_waits w.state p t call (thread_of w.state p t) refl (there (λ c S. Some call ≡ kept_call (thread_of S p t)) kept_is)

    -- in the kernel's own state too
    abbrev sleeper_here : Who
    sleeper_here = waiter p t sleeper.since waits_there.1

    same_sleeper : sleeper_here ≡ sleeper
    same_sleeper = ap (λ (o : Option Stage). record { pid = p; tid = t; since = sleeper.since; stage = o }) (sym waits_there.2)

    waits_here : WaitsIn before sleeper_here call
    waits_here = subst (λ (x : Who × State). WaitsIn x.1 x.0 call) (λ i. (sym same_sleeper i, sym r.state i)) waits_there

    pub wake_can : CanWait call
    wake_can = may_can call (waits_may w.state sleeper call valid_there waits_there)

    pub wake_few : HasFewRanges (registers_of guest t) call
    wake_few =
        let encoded = waits_are_encoded launch log p t call sleeper.since waits_there.0 waits_there.1 r.bounded.begins r.legal waits_there.3 in
        few_of_call (registers_of guest t) encoded.1 call encoded.3
        (few_ranges encoded.0 (registers_of guest t) encoded.2.0 encoded.1
        (encoded.2.1 ∙ ap (λ (r : Registers). args_of encoded.0 r encoded.2.0) (sym (ap (λ (g : Guest). registers_of g t) a.guest_is
        ∙ whole_keeps w.state p (guest_of w p) turns t a.waits.thread a.whole a.waits.there a.waits.waits))))

    module _ (given : WakeIn) (given_is : given ≡ given_of guest.memory (registers_of guest t) call) (answered : Answer) (kernel : State)
        (head : EntryHead) (head_is : head ≡ head_of kernel.clock p t turns) (ready : is_ready constants before p t ≡ true)
        (is_wake : (since : ℕ) (stage : Stage) → WaitsIn before (waiter p t since stage) call
        → IsWoken constants before (waiter p t since stage) call given answered kernel) (live : IsLiveIn w p) where
      ready_there : is_ready launch.constants w.state p t ≡ true
      ready_there = there (λ c S. is_ready c S p t ≡ true) ready

      wake_there : IsWoken launch.constants w.state sleeper call given answered kernel
      wake_there =
          there (λ c S. IsWoken c S sleeper call given answered kernel)
          (subst (λ (x : Who). IsWoken constants before x call given answered kernel) same_sleeper (is_wake sleeper.since waits_there.1 waits_here))

      abbrev wake_act : Act
      wake_act = act.Wake call given answered

      leaves_wake : (acted (turned w p turns) sleeper wake_act).state ≡ kernel
      leaves_wake = wake_leaves launch log p t turns call given answered guest kernel a valid_there waits_there given_is ready_there wake_there

      answered_wake : FitsAct launch.constants w.state sleeper (guest_of w p) turns wake_act
      answered_wake = wake_answered launch log p t turns call given answered guest kernel a valid_there waits_there given_is ready_there wake_there

      pub wake_fits : Fits w (answered_call head call (Some given) answered)
      wake_fits = fits_entry p t turns wake_act kernel head head_is leaves_wake (λ _. live) answered_wake

      module _ (after : List Entry) (last : after ≡ log ++ answered_call head call (Some given) answered ∷ []) where
        pub wake_recorded : (kept' : Kept) → Takes (answered_call head call (Some given) answered) kept kept'
            → IsRecorded launch all after kernel constants kept'
        wake_recorded kept' took = recorded_entry p t turns wake_act kernel head head_is leaves_wake (λ _. live) answered_wake after last kept' took

        -- what holds of the history after the wake
        after_that : (P : List Entry → Type 0) → P (log ++ entry_of (head_of kernel.clock p t turns) wake_act ∷ []) → P after
        after_that P here = entry_there p t turns wake_act kernel head head_is leaves_wake (λ _. live) answered_wake after last P here

        keeps_wake : get kernel.statuses p ≡ Some Live → KeepsBut launch log after p t
        keeps_wake on =
            after_that (λ h. KeepsBut launch log h p t)
            (entry_keeps launch log p t turns wake_act kernel leaves_wake t
            (wake_stays launch log p t turns call given answered guest kernel a valid_there waits_there given_is ready_there wake_there on))

        set_wake : get (acted (turned w p turns) sleeper wake_act).guests p ≡ Some (called_guest (guest_of (turned w p turns) p) t call answered)
        set_wake = get-insert-same (turned w p turns).guests p (called_guest (guest_of (turned w p turns) p) t call answered)

        module _ (guest' : Guest) (is : guest' ≡ called_guest guest t call answered) where
          goes_wake : get kernel.statuses p ≡ Some Live → is_parked answered ≡ false → GoesOn launch after p t guest'
          goes_wake on replies =
              after_that (λ h. GoesOn launch h p t guest')
              (entry_goes launch log p t turns wake_act kernel leaves_wake (λ g. called_guest g t call answered) guest a.guest_is set_wake guest' is on
              (wake_runs launch log p t turns call given answered guest kernel a valid_there waits_there given_is ready_there wake_there replies on))

          waits_wake : get kernel.statuses p ≡ Some Live → is_parked answered ≡ true → WaitsOn launch after p t guest'
          waits_wake on parks =
              let thread = wake_waits launch log p t turns call given answered guest kernel a valid_there waits_there given_is ready_there wake_there parks on in
              after_that (λ h. WaitsOn launch h p t guest')
              (entry_waits launch log p t turns wake_act kernel leaves_wake (λ g. called_guest g t call answered) guest a.guest_is set_wake guest' is on
              thread.0 thread.1 thread.2)

          woken_by : (lives waits : Bool) → is_parked answered ≡ waits → (IsTrue lives ↔ (get kernel.statuses p ≡ Some Live))
              → Became launch log p t after guest' wake_act (if_live lives (after_wake waits))
          woken_by false waits parks on =
              after_that (λ h. IsDead launch h p) (entry_dead launch log p t turns wake_act kernel leaves_wake (λ alive. not_true (on.1 alive)))
          woken_by true false parks on = (goes_wake (on.0 refl) parks, keeps_wake (on.0 refl))
          woken_by true true parks on = (waits_wake (on.0 refl) parks, keeps_wake (on.0 refl))

          pub wake_came : (result end : After) (lives : Bool) (threads : Threads) (none : List ℕ) → result ≡ if_live lives end
              → end ≡ after_wake (is_parked answered) → (IsTrue lives ↔ (get kernel.statuses p ≡ Some Live)) → none ≡ []
              → IsActedOn launch log p t (record { guest = guest; threads = threads; turns = turns }) asked.Wakes
              (record { guest = guest'; threads = threads; turns = none }) after (came.Done result)
          unfolding entered_on
          wake_came result end lives threads none so same on empty =
              subst (λ (x : After). IsActedOn launch log p t (record { guest = guest; threads = threads; turns = turns }) asked.Wakes
              (record { guest = guest'; threads = threads; turns = none }) after (came.Done x)) (sym (so ∙ ap (if_live lives) same)) (record {
                came = (
                  entered_on p t turns wake_act kernel head head_is leaves_wake (λ _. live) answered_wake after last asked.Wakes (call, given, answered, refl),
                  (may_wake lives (is_parked answered), woken_by lives (is_parked answered) refl on),
                );
                kept = (empty, none_made lives (is_parked answered) threads);
                unanswered = tt;
              })

  -- the thread waits on
  pub wake_not : (p t : ℕ) (body : Body) (after : List Entry) → after ≡ log → IsLiveIn w p → is_ready constants before p t ≡ false
      → IsActedOn launch log p t body asked.Wakes body after came.NotReady
  wake_not p t body after same live not = record { came = (same, (live, there (λ c S. is_ready c S p t ≡ false) not), tt); kept = refl; unanswered = tt }

  -- it waits in no call
  pub wake_none : (p t : ℕ) (body : Body) (after : List Entry) → after ≡ log → IsLiveIn w p → None ≡ kept_call (thread_of before p t)
      → IsActedOn launch log p t body asked.Wakes body after came.NotReady
  wake_none p t body after same live none = wake_not p t body after same live (none_ready constants before p t (thread_of before p t) none)

  -- ---- an end from outside

  module _ (p t : ℕ) (turns : List ℕ) (how : EndBy) (status : Status) (status_is : status ≡ status_of how) (a : Act) (act_is : a ≡ act_of how)
      (kernel : State) (ended : kernel ≡ end_state before p status) (head : EntryHead) (head_is : head ≡ head_of kernel.clock p t turns)
      (live : IsLiveIn w p) (asks : AsksEnd w p t turns how) where
    ended_there : kernel ≡ end_state w.state p (status_of how)
    ended_there = ended ∙ (λ i. end_state (r.state i) p (status_is i))

    leaves_end : (acted (turned w p turns) (thread_at w.state p t) (act_of how)).state ≡ kernel
    leaves_end = end_leaves launch log p t turns how kernel ended_there

    answered_end : FitsAct launch.constants w.state (thread_at w.state p t) (guest_of w p) turns (act_of how)
    answered_end = end_answered launch log p t turns how kernel ended_there asks

    same_end : entry_of head (act_of how) ≡ entry_of head a
    same_end = ap (entry_of head) (sym act_is)

    pub end_fits : Fits w (entry_of head a)
    end_fits = subst (Fits w) same_end (fits_entry p t turns (act_of how) kernel head head_is leaves_end (λ _. live) answered_end)

    module _ (after : List Entry) (last : after ≡ log ++ entry_of head a ∷ []) where
      last_end : after ≡ log ++ entry_of head (act_of how) ∷ []
      last_end = last ∙ ap (λ (e : Entry). log ++ e ∷ []) (sym same_end)

      pub end_recorded : (kept' : Kept) → Takes (entry_of head a) kept kept' → IsRecorded launch all after kernel constants kept'
      end_recorded kept' took =
          recorded_entry p t turns (act_of how) kernel head head_is leaves_end (λ _. live) answered_end after last_end kept'
          (subst (λ (e : Entry). Takes e kept kept') (sym same_end) took)

      pub end_came : HasEnded launch log p t turns how after
      end_came = (
        entered_on p t turns (act_of how) kernel head head_is leaves_end (λ _. live) answered_end after last_end (asked.Ends how) refl,
        entry_there p t turns (act_of how) kernel head head_is leaves_end (λ _. live) answered_end after last_end (λ h. IsDead launch h p)
            (entry_dead launch log p t turns (act_of how) kernel leaves_end (end_dead launch log p t turns how kernel ended_there)),
      )

  -- ---- an idle jump

  module _ (kernel : State) (jumped : kernel ≡ idle_state before) (may : MayJump constants before) (moment : ℕ) (moment_is : moment ≡ kernel.clock) where
    head_jump : head_of moment 0 0 [] ≡ head_of kernel.clock 0 0 []
    head_jump = ap (λ (m : ℕ). head_of m 0 0 []) moment_is

    leaves_jump : (acted (turned w 0 []) (thread_at w.state 0 0) act.Idle).state ≡ kernel
    leaves_jump = sym (jumped ∙ ap idle_state r.state)

    answered_jump : FitsAct launch.constants w.state (thread_at w.state 0 0) (guest_of w 0) [] act.Idle
    answered_jump = ((refl, refl, refl), there MayJump may)

    pub fits_jump : Fits w (idled moment)
    fits_jump = fits_entry 0 0 [] act.Idle kernel (head_of moment 0 0 []) head_jump leaves_jump (λ busy. absurd (not_true (sym busy))) answered_jump

    module _ (after : List Entry) (last : after ≡ log ++ idled moment ∷ []) where
      pub recorded_jump : (kept' : Kept) → Takes (idled moment) kept kept' → IsRecorded launch all after kernel constants kept'
      recorded_jump kept' took =
          recorded_entry 0 0 [] act.Idle kernel (head_of moment 0 0 []) head_jump leaves_jump (λ busy. absurd (not_true (sym busy))) answered_jump after last kept'
          took

      pub appends_jump : IsIdledOn launch log after idle.Jumped
      appends_jump = record { moment = moment; fits = fits_jump; last = last }

  pub stalled_there : (after : List Entry) → after ≡ log → IsStalled constants before → IsIdledOn launch log after idle.Stalled
  stalled_there after same stalled = (same, stalled_world (there IsStalled stalled))
    where
      stalled_world : IsStalled launch.constants w.state → Stalled launch log
      stalled_world here = subst (λ (c : Constants). IsStalled c w.state) (sym (world_constants launch log)) here

  pub over_there : (after : List Entry) → after ≡ log → ¬ ((p : ℕ) × (get before.statuses p ≡ Some Live)) → IsIdledOn launch log after idle.Over
  over_there after same none = (same, there (λ c S. (p : ℕ) → ¬ (get S.statuses p ≡ Some Live)) (λ p live. none (p, live)))

  pub busy_there : (after : List Entry) → after ≡ log → ¬ MayJump constants before → ¬ IsStalled constants before → IsIdledOn launch log after idle.Busy
  busy_there after same still goes = (
    same,
    there (λ c S. ¬ MayJump c S) still,
    subst (λ (c : Constants). ¬ IsStalled c w.state) (sym (world_constants launch log)) (there (λ c S. ¬ IsStalled c S) goes),
  )
