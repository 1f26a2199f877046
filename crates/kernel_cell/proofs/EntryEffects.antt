-- What an entry leaves that the kernel makes: its world's state is the kernel's, and a call's or a wake's guest has the answer.
--     entry_state, entry_fits, entry_dead, entry_guest      an entry of any act
--     call_leaves, call_answered, call_set, call_runs, call_waits, call_left, call_keeps, call_alone, call_makes      a call
--     fork_replies, fork_lives      a proc_fork
--     wake_leaves, wake_answered, wake_runs, wake_waits, wake_stays      a wake
--     end_leaves      an end from outside
--     recorded_next      what stands behind the lock after an entry
use Rattle.std.proofs.Common.{◌≡◌, ◌≢◌, ℕ, ◌+◌, Bool, true, false, List, [], ◌∷◌, ◌++◌, Option, None, Some, IsSome, inl, inr, refl, sym, ap, subst, ◌∙◌}
use Rattle.std.specs.Option.{option_map}
use Rattle.std.specs.Ordering.{nat_cmp}
use Rattle.std.specs.FinMap.{FinMap, get, insert}
use Rattle.abi_base.specs.declared.errno.Errno.TheVariants.{Nosys}
use Rattle.abi_types.specs.declared.reply.Answer.{Answer}
use Rattle.abi_types.specs.declared.reply.Answer.TheVariants as answer
use Rattle.abi_types.specs.declared.reply.Reply.{Reply}
use Rattle.abi_types.specs.declared.call.Call.{Call}
use Rattle.abi_types.specs.declared.call.Call.TheVariants.{ProcFork}
use Rattle.abi_types.specs.declared.constants.Constants.{Constants}
use Rattle.abi_types.specs.declared.status.Status.TheVariants.{Live}
use Rattle.abi_types.specs.declared.thread.Thread.{Thread}
use Rattle.abi_types.specs.declared.thread.Stage.TheVariants.{Queued}
use Rattle.abi_types.specs.declared.thread.Thread.TheVariants.{Runnable, Waits}
use Rattle.abi_types.specs.declared.wake.WakeIn.{WakeIn}
use Rattle.abi_types.specs.declared.who.Who.{Who}
use Rattle.run_types.specs.declared.history.Act.{Act}
use Rattle.run_types.specs.declared.history.Act.TheVariants as act
use Rattle.run_types.specs.declared.history.Entry.{Entry}
use Rattle.run_types.specs.declared.launch.Launch.{Launch}
use Rattle.kernel_core.specs.Waiting.{caller, kept_call}
use Rattle.kernel_model.specs.Outcome.{is_parked}
use Rattle.kernel_model.specs.Reply.{refused}
use Rattle.kernel_model.specs.State.{State, thread_of}
use Rattle.kernel_model.specs.Step.{IsStep, end_state}
use Rattle.kernel_model.specs.Valid.{IsValid}
use Rattle.kernel_model.specs.Families.ForkCalls.{child_number}
use Rattle.kernel_model.specs.Families.Locks.{with_word}
use Rattle.kernel_model.specs.Threads.{child_told, ends_caller, ends_others, makes_thread, next_number, stays, IsCallerAfter, IsMoved, LeavesThreads}
use Rattle.kernel_model.specs.Waits.{may_wait, waiting, IsParked, MayWait, WaitsIn}
use Rattle.kernel_model.specs.Wakes.{is_ready, HasThread, IsWake}
use Rattle.kernel_model.proofs.ForkLaws.{child_is_new, fork_makes_child}
use Rattle.kernel_model.proofs.Parking.{parks_only}
use Rattle.kernel_model.proofs.Refusals.{error_keeps}
use Rattle.kernel_model.proofs.Sending.{succeeds_or}
use Rattle.kernel_model.proofs.Steps.{fork_tells_child, step_moves_only}
use Rattle.kernel_model.proofs.Tests.{not_true}
use Rattle.kernel_model.proofs.Waking.{wake_keeps, wake_moves_none, wake_moves_only}
use Rattle.maps.specs.Maps.{get-insert-other, get-insert-same}
use Rattle.call_codec.specs.Arguments.{args_of}
use Rattle.call_codec.specs.Given.{given_of}
use Rattle.guest_process.specs.Children.{IsFork}
use Rattle.run_model.specs.Ends.{EndsBy}
use Rattle.run_model.specs.Legal.{Asks, FitsAct, Fits, IsRunnable}
use Rattle.run_model.specs.Own.{is_idle, IsLiveIn}
use Rattle.run_model.specs.World.{World, Guest, world, apply, acted, come_to, made_since, thread_at, turned, turned_guest_by, or_no_guest, guest_of, registers_of, called_state, answered_guest, child_guest, with_child, woken_state}
use Rattle.run_model.proofs.Calls.{called_is, woken_is, runs_on, ended_by}
use Rattle.run_model.proofs.Ends.{acted_end, end_is_answered, ends_not_live}
use Rattle.run_model.proofs.Histories.{world_more, world_constants, legal_more, apply_is, guest_turned}
use Rattle.run_model.proofs.ThreadRegisters.{parked_ends}
use Rattle.run_model.proofs.Waited.{parked_is}
use Rattle.kernel_cell.specs.Acting.{GoesOn, HasLeft, HasStarted, IsDead, KeepsBut, WaitsOn}
use Rattle.kernel_cell.specs.Results.{act_of, status_of}
use Rattle.kernel_cell.specs.Asking.{AsksCall, AsksWake}
use Rattle.shared_history.specs.Entries.{head_of, entry_of}
use Rattle.shared_history.specs.Kept.{Takes}
use Rattle.kernel_cell.specs.Recorded.{IsRecorded}
use Rattle.shared_history.specs.declared.kept.Kept.{Kept}
use Rattle.kernel_cell.specs.declared.results.EndBy.{EndBy}
use Rattle.kernel_cell.specs.declared.results.EndBy.TheVariants as end_by
use Rattle.shared_history.proofs.KeptEntries.{kept_more}

-- ---- an entry

-- the kernel's state is that of the history with an entry, if the entry leaves it
state_next : (launch : Launch) (log : List Entry) (e : Entry) (kernel : State) → (apply (world launch log) e).state ≡ kernel
    → kernel ≡ (world launch (log ++ e ∷ [])).state
state_next launch log e kernel is = sym is ∙ sym (ap (λ (w : World). w.state) (world_more launch log e))

pub recorded_next : (launch : Launch) (all : Bool) (log : List Entry) (kernel : State) (constants : Constants) (kept : Kept) (e : Entry) (after : State)
    (kept' : Kept) → IsRecorded launch all log kernel constants kept → Fits (world launch log) e → (apply (world launch log) e).state ≡ after
    → Takes e kept kept' → IsRecorded launch all (log ++ e ∷ []) after constants kept'
recorded_next launch all log kernel constants kept e after kept' r fits state took = record {
  bounded = r.bounded;
  legal = legal_more launch log e r.legal fits;
  state = state_next launch log e after state;
  constants_are = r.constants_are;
  kept_is = kept_more all log e kept kept' r.kept_is took;
}

module _ (launch : Launch) (log : List Entry) (p t : ℕ) (turns : List ℕ) (a : Act) (kernel : State) where
  abbrev w : World
  w = world launch log

  abbrev e : Entry
  e = entry_of (head_of kernel.clock p t turns) a

  -- the world after the act
  abbrev done : World
  done = acted (turned w p turns) (thread_at w.state p t) a

  module _ (leaves : done.state ≡ kernel) where
    pub entry_state : (apply w e).state ≡ kernel
    entry_state = ap (λ (v : World). v.state) (apply_is w e) ∙ leaves

    pub entry_fits : (is_idle a ≡ false → IsLiveIn w p) → FitsAct launch.constants w.state (thread_at w.state p t) (guest_of w p) turns a → Fits w e
    entry_fits live fits = record {
      live = live;
      act = subst (λ (c : Constants). FitsAct c w.state (thread_at w.state p t) (guest_of w p) turns a) (sym (world_constants launch log)) fits;
      moment = ap (λ (S : State). S.clock) (sym entry_state);
    }

    -- what holds of the kernel's state holds of the history's
    pub entry_has : (P : State → Type 0) → P kernel → P (world launch (log ++ e ∷ [])).state
    entry_has P there = subst P (state_next launch log e kernel entry_state) there

    -- the other threads of the process are what the kernel makes of them
    pub entry_keeps : (x : ℕ) → ((u : ℕ) → u ≢ x → IsMoved (thread_of w.state p u) (thread_of kernel p u)) → KeepsBut launch log (log ++ e ∷ []) p x
    entry_keeps x keeps u apart = entry_has (λ S. IsMoved (thread_of w.state p u) (thread_of S p u)) (keeps u apart)

    -- one thread more runs, if the kernel has one more
    pub entry_starts : (x : ℕ) → thread_of w.state p x ≡ None → x ≡ next_number w.state p → IsRunnable kernel p x
        → ((u : ℕ) → u ≢ x → IsMoved (thread_of w.state p u) (thread_of kernel p u)) → HasStarted launch log (log ++ e ∷ []) p x
    entry_starts x absent numbered runs keeps = record {
      absent = absent;
      numbered = numbered;
      runs = entry_has (λ S. IsRunnable S p x) runs;
      others = entry_keeps x keeps;
    }

    -- the process has ended, if it isn't live
    pub entry_dead : ¬ (get kernel.statuses p ≡ Some Live) → IsDead launch (log ++ e ∷ []) p
    entry_dead dead = entry_has (λ S. ¬ (get S.statuses p ≡ Some Live)) dead

    -- the act changes the process's guest so
    module _ (changed : Guest → Guest) (guest : Guest) (guest_is : guest ≡ turned_guest_by turns (guest_of w p))
        (set : get done.guests p ≡ Some (changed (guest_of (turned w p turns) p))) where
      -- it has the answer
      pub entry_guest : guest_of (world launch (log ++ e ∷ [])) p ≡ changed guest
      entry_guest =
          ap (λ (v : World). guest_of v p) (world_more launch log e ∙ apply_is w e)
          ∙ ap or_no_guest set
          ∙ ap changed (guest_turned w p turns ∙ sym guest_is)

      -- the thread goes on, if it runs and its process is live
      pub entry_goes : (after : Guest) → after ≡ changed guest → get kernel.statuses p ≡ Some Live → IsRunnable kernel p t
          → GoesOn launch (log ++ e ∷ []) p t after
      entry_goes after is live runs = record {
        live = entry_has (λ S. get S.statuses p ≡ Some Live) live;
        runnable = entry_has (λ S. IsRunnable S p t) runs;
        guest_is = is ∙ sym entry_guest;
      }

      -- it waits, if it does so
      pub entry_waits : (after : Guest) → after ≡ changed guest → get kernel.statuses p ≡ Some Live → (thread : Thread)
          → HasThread kernel p t thread → IsParked thread → WaitsOn launch (log ++ e ∷ []) p t after
      entry_waits after is live thread there waits = record {
        live = entry_has (λ S. get S.statuses p ≡ Some Live) live;
        waits = record { thread = thread; there = entry_has (λ S. HasThread S p t thread) there; waits = waits };
        guest_is = is ∙ sym entry_guest;
      }

      -- it is gone, if the kernel has it no more
      pub entry_left : (after : Guest) → after ≡ changed guest → get kernel.statuses p ≡ Some Live → thread_of kernel p t ≡ None
          → HasLeft launch (log ++ e ∷ []) p t after
      entry_left after is live gone = record {
        live = entry_has (λ S. get S.statuses p ≡ Some Live) live;
        gone = entry_has (λ S. thread_of S p t ≡ None) gone;
        guest_is = is ∙ sym entry_guest;
      }

-- ---- a call

-- some answer, by which what is asked whatever the answer is can be read
some_answer : Answer
some_answer = answer.Reply (refused Nosys)

-- a thread that runs makes its call at the moment after the entry's time
runs_at : (S : State) (p t : ℕ) → IsRunnable S p t → thread_at S p t ≡ caller S p t
runs_at S p t runs = ap (λ (o : Option Thread). record { pid = p; tid = t; since = made_since (S.clock + 1000) o; stage = come_to o }) runs

module _ (w : World) (p t : ℕ) (turns : List ℕ) (guest : Guest) (call : Call) (a : AsksCall w p t turns guest call) where
  -- the thread that makes the call is runnable
  pub call_runnable : IsRunnable w.state p t
  call_runnable = (a.asks some_answer).0.3.0

  -- the call is the one that the guest encodes
  pub call_encoded : call ≡ args_of guest.memory (registers_of guest t) guest.left
  call_encoded = subst (λ (g : Guest). call ≡ args_of g.memory (registers_of g t) g.left) (sym a.guest_is) (a.asks some_answer).1

caller_waits : (waits : Thread) (given : Answer) (before after : Option Thread) → is_parked given ≡ true → IsCallerAfter waits given before after
    → before ≡ Some Runnable → after ≡ Some waits
caller_waits waits (answer.Parked writes) before after parks is runs = is ∙ ap (option_map (λ (thread : Thread). waits)) runs
caller_waits waits (answer.Reply reply) before after parks is runs = absurd (not_true parks)

-- what became of a thread that was there, or that there is none still
moved_or_none : (before after : Option Thread) → (IsSome before → IsMoved before after) → (before ≡ None → IsSome after → ⊥) → IsMoved before after
moved_or_none None None there never = stays None
moved_or_none None (Some thread) there never = absurd (never refl refl)
moved_or_none (Some thread) after there never = there refl

-- a thread that is what it was
pub moved_same : (before after : Option Thread) → after ≡ before → IsMoved before after
moved_same before after same = subst (IsMoved before) (sym same) (stays before)

-- the guest of another process than the child is what it is without the child
child_elsewhere : (o : Option ℕ) (child : Guest) (guests : FinMap nat_cmp Guest) (p : ℕ) → o ≢ Some p → get (with_child o child guests) p ≡ get guests p
child_elsewhere None child guests p apart = refl
child_elsewhere (Some q) child guests p apart = get-insert-other guests q child p (λ same. apart (ap Some (sym same)))

module _ (launch : Launch) (log : List Entry) (p t : ℕ) (turns : List ℕ) (call : Call) (given : Answer) (guest : Guest) (kernel : State)
    (a : AsksCall (world launch log) p t turns guest call)
    (step : IsStep launch.constants (world launch log).state (caller (world launch log).state p t) call given kernel) where
  abbrev before : World
  before = world launch log

  abbrev who : Who
  who = thread_at before.state p t

  call_step : IsStep launch.constants before.state who call given kernel
  call_step =
      subst (λ (x : Who). IsStep launch.constants before.state x call given kernel) (sym (runs_at before.state p t (call_runnable before p t turns guest call a)))
      step

  -- the state that the answer says is the kernel's
  call_is : kernel ≡ called_state launch.constants before.state who call given
  call_is =
      subst (λ (x : Call). IsStep launch.constants before.state who x given kernel → kernel ≡ called_state launch.constants before.state who x given)
      (sym (call_encoded before p t turns guest call a))
      (called_is guest.memory (registers_of guest t) guest.left launch.constants before.state who given kernel) call_step

  pub call_leaves : (acted (turned before p turns) who (act.Call call given)).state ≡ kernel
  call_leaves = ap (λ (c : Constants). called_state c before.state who call given) (world_constants launch log) ∙ sym call_is

  pub call_answered : FitsAct launch.constants before.state who (guest_of before p) turns (act.Call call given)
  call_answered = (a.asks given, subst (IsStep launch.constants before.state who call given) call_is call_step)

  -- the child, if there is one, is another process, so the process's own guest has the answer
  module _ (valid : IsValid before.state) (live : get before.state.statuses p ≡ Some Live) where
    call_apart : child_told call given ≢ Some p
    call_apart is =
        let made = sym (fork_tells_child launch.constants before.state who call given kernel call_step) ∙ is in
        let wrong : None ≡ Some Live = sym (child_is_new launch.constants before.state who call given kernel p valid call_step made).0 ∙ live in
        absurd (cc)

    pub call_set : get (acted (turned before p turns) who (act.Call call given)).guests p
        ≡ Some (answered_guest p (guest_of (turned before p turns) p) t call given)
    call_set =
        child_elsewhere (child_told call given) (child_guest (guest_of (turned before p turns) p) t)
        (insert (turned before p turns).guests p (answered_guest p (guest_of (turned before p turns) p) t call given)) p call_apart
        ∙ get-insert-same (turned before p turns).guests p (answered_guest p (guest_of (turned before p turns) p) t call given)

  -- after a reply the thread runs on, if its process is live and the call doesn't end it
  pub call_runs : is_parked given ≡ false → ends_caller call given ≡ false → get kernel.statuses p ≡ Some Live → IsRunnable kernel p t
  call_runs replies lasts live =
      runs_on launch.constants before.state who call given kernel t call_step replies (λ _. lasts) (λ apart. absurd (apart refl)) live
      (call_runnable before p t turns guest call a)

  -- what the call leaves of the threads
  left_threads : get kernel.statuses p ≡ Some Live → LeavesThreads launch.constants before.state who call given kernel
  left_threads live = (step_moves_only launch.constants before.state who call given kernel call_step).threads live

  -- a thread that the call ends is there no more
  pub call_left : ends_caller call given ≡ true → get kernel.statuses p ≡ Some Live → thread_of kernel p t ≡ None
  call_left ends live = (left_threads live).ended ends

  -- where the call doesn't end the others, each is what it was, or was given a lock or signalled, and only the one comes that the call makes
  pub call_keeps : ends_others call given ≡ false → get kernel.statuses p ≡ Some Live → (u : ℕ) → u ≢ t → (makes_thread call given ≡ true → u ≢ next_number before.state p)
      → IsMoved (thread_of before.state p u) (thread_of kernel p u)
  call_keeps stay live u apart old =
      moved_or_none (thread_of before.state p u) (thread_of kernel p u)
      (λ there. (left_threads live).others u apart there stay)
      (λ none there. let made = (left_threads live).made u none there in old made.0 made.1)

  -- where it does, no other is there
  pub call_alone : ends_others call given ≡ true → get kernel.statuses p ≡ Some Live → (u : ℕ) → u ≢ t → thread_of kernel p u ≡ None
  call_alone ends live u apart = (left_threads live).alone ends u apart

  -- that one has the next number, which none had, and runs
  pub call_makes : makes_thread call given ≡ true → get kernel.statuses p ≡ Some Live
      → (thread_of before.state p (next_number before.state p) ≡ None) × IsRunnable kernel p (next_number before.state p)
  call_makes makes live = (left_threads live).makes makes

  -- where it is to wait, it does so
  pub call_waits : is_parked given ≡ true → get kernel.statuses p ≡ Some Live → (thread : Thread) × HasThread kernel p t thread × IsParked thread
  call_waits parks live = (
    waiting launch.constants call who (before.state.clock + 1000),
    caller_waits (waiting launch.constants call who (before.state.clock + 1000)) given (thread_of before.state p t) (thread_of kernel p t) parks
        ((left_threads live).caller (let writes = parked_is given parks in ap (ends_caller call) writes.1 ∙ parked_ends call writes.0))
        (call_runnable before p t turns guest call a),
    tt,
  )

-- ---- a proc_fork

-- a proc_fork is answered at once
pub fork_replies : (constants : Constants) (S : State) (one : Who) (call : Call) (given : Answer) (T : State) → IsFork call
    → IsStep constants S one call given T → is_parked given ≡ false
fork_replies constants S one (ProcFork left) (answer.Reply reply) T fork step = refl
fork_replies constants S one (ProcFork left) (answer.Parked writes) T fork (inl done) =
    absurd (not_true (parks_only constants S one (ProcFork left) (sym (ap is_parked done.0))).may)
fork_replies constants S one (ProcFork left) (answer.Parked writes) T fork (inr lacking) = absurd (not_true (sym (ap is_parked lacking.1)))
fork_replies constants S one _ given T fork step = absurd fork

-- a live process lives on: either only the clock moves, or another process is made
forker_lives : (constants : Constants) (S : State) (one : Who) (left : ℕ) (reply : Reply) (T : State) → IsValid S
    → IsStep constants S one (ProcFork left) (answer.Reply reply) T → get S.statuses one.pid ≡ Some Live → get T.statuses one.pid ≡ Some Live
forker_lives constants S one left reply T valid step live =
    elim (succeeds_or reply.errno) [
      | inl success ↦ (
          let f = fork_makes_child constants S one left reply T valid step success in
          let child = child_number one.pid f.own in
          ap (λ m. get m one.pid) f.statuses
          ∙ get-insert-other S.statuses child Live one.pid (λ same.
          let wrong : None ≡ Some Live = sym (ap (get S.statuses) same ∙ f.new.status) ∙ live in
          absurd (cc))
          ∙ live)
      | inr error ↦ ap (λ (U : State). get U.statuses one.pid) (error_keeps constants S one (ProcFork left) reply T step valid error) ∙ live
    ]

pub fork_lives : (constants : Constants) (S : State) (one : Who) (call : Call) (given : Answer) (T : State) → IsFork call → IsValid S
    → IsStep constants S one call given T → get S.statuses one.pid ≡ Some Live → get T.statuses one.pid ≡ Some Live
fork_lives constants S one (ProcFork left) (answer.Reply reply) T fork valid step live = forker_lives constants S one left reply T valid step live
fork_lives constants S one (ProcFork left) (answer.Parked writes) T fork valid step live =
    absurd (not_true (sym (fork_replies constants S one (ProcFork left) (answer.Parked writes) T fork step)))
fork_lives constants S one _ given T fork valid step live = absurd fork

-- ---- a wake

-- a thread whose call is kept waits in it
pub kept_waits : (S : State) (p t : ℕ) (call : Call) (o : Option Thread) → thread_of S p t ≡ o → Some call ≡ kept_call o → WaitsIn S (thread_at S p t) call
kept_waits S p t call None is kept = absurd (cc)
kept_waits S p t call (Some Runnable) is kept = absurd (cc)
kept_waits S p t call (Some (Waits other since until stage)) is kept =
    let same : other ≡ call = cc in
    (until, stage, ap come_to is, is ∙ (λ i. Some (Waits (same i) (sym (ap (made_since (S.clock + 1000)) is) i) until stage)))

-- a valid state's thread waits only in a call in which it may
pub waits_may : (S : State) (one : Who) (call : Call) → IsValid S → WaitsIn S one call → may_wait call ≡ true
waits_may S one call valid waits = (subst MayWait waits.3 (valid.nearly.waits one.pid one.tid)).0

module _ (launch : Launch) (log : List Entry) (p t : ℕ) (turns : List ℕ) (call : Call) (given : WakeIn) (answered : Answer) (guest : Guest) (kernel : State)
    (a : AsksWake (world launch log) p t turns guest) (valid : IsValid (world launch log).state)
    (waits : WaitsIn (world launch log).state (thread_at (world launch log).state p t) call)
    (given_is : given ≡ given_of guest.memory (registers_of guest t) call)
    (ready : is_ready launch.constants (world launch log).state p t ≡ true)
    (woken : IsWake launch.constants (world launch log).state (thread_at (world launch log).state p t) call given answered kernel) where
  abbrev start : World
  start = world launch log

  abbrev sleeper : Who
  sleeper = thread_at start.state p t

  wake_is : kernel ≡ woken_state launch.constants start.state sleeper call given answered
  wake_is = woken_is launch.constants start.state sleeper call given answered kernel (waits_may start.state sleeper call valid waits) woken

  pub wake_leaves : (acted (turned start p turns) sleeper (act.Wake call given answered)).state ≡ kernel
  wake_leaves = ap (λ (c : Constants). woken_state c start.state sleeper call given answered) (world_constants launch log) ∙ sym wake_is

  pub wake_answered : FitsAct launch.constants start.state sleeper (guest_of start p) turns (act.Wake call given answered)
  wake_answered = (
    (a.whole, waits, subst (λ (g : Guest). given ≡ given_of g.memory (registers_of g t) call) a.guest_is given_is),
    (ready, subst (IsWake launch.constants start.state sleeper call given answered) wake_is woken),
  )

  -- the thread runs then, if its process is live and its call has a reply
  pub wake_runs : is_parked answered ≡ false → get kernel.statuses p ≡ Some Live → IsRunnable kernel p t
  wake_runs replies live =
      (wake_moves_only launch.constants start.state sleeper call given answered kernel woken).runs live (subst IsSome (sym waits.3) refl)
      (wake_keeps start.state sleeper call answered valid waits).0 replies

  -- and else it waits
  pub wake_waits : is_parked answered ≡ true → get kernel.statuses p ≡ Some Live → (thread : Thread) × HasThread kernel p t thread × IsParked thread
  wake_waits parks live =
      let on = (wake_moves_only launch.constants start.state sleeper call given answered kernel woken).queues live (subst IsSome (sym waits.3) refl) parks in
      (Waits (with_word on.0 call) sleeper.since None (Queued kernel.clock on.1), on.2, tt)

  -- the others are what they were, and none comes
  pub wake_stays : get kernel.statuses p ≡ Some Live → (u : ℕ) → u ≢ t → IsMoved (thread_of start.state p u) (thread_of kernel p u)
  wake_stays live u apart =
      let moves = wake_moves_only launch.constants start.state sleeper call given answered kernel woken in
      let keeps = wake_keeps start.state sleeper call answered valid waits in
      let none_moves = wake_moves_none launch.constants start.state sleeper call given answered kernel woken valid waits in
      moved_or_none (thread_of start.state p u) (thread_of kernel p u)
      (λ there. moved_same (thread_of start.state p u) (thread_of kernel p u) (moves.threads live u apart there keeps.1 none_moves))
      (λ none there. not_true (sym keeps.2 ∙ (moves.made live u none there).0))

-- ---- an end from outside

ended_so : (how : EndBy) → EndsBy (act_of how) (status_of how)
ended_so (end_by.Trap signal) = refl
ended_so end_by.Expire = refl

module _ (launch : Launch) (log : List Entry) (p t : ℕ) (turns : List ℕ) (how : EndBy) (kernel : State)
    (ended : kernel ≡ end_state (world launch log).state p (status_of how)) where
  abbrev last : World
  last = world launch log

  pub end_leaves : (acted (turned last p turns) (thread_at last.state p t) (act_of how)).state ≡ kernel
  end_leaves = ap (λ (v : World). v.state) (acted_end (turned last p turns) (thread_at last.state p t) (act_of how) (status_of how) (ended_so how)) ∙ sym ended

  pub end_answered : Asks last.state (thread_at last.state p t) (guest_of last p) turns (act_of how)
      → FitsAct launch.constants last.state (thread_at last.state p t) (guest_of last p) turns (act_of how)
  end_answered asks = (asks, end_is_answered launch.constants last.state (thread_at last.state p t) (act_of how) (status_of how) (ended_so how))

  pub end_dead : ¬ (get kernel.statuses p ≡ Some Live)
  end_dead live =
      ended_by last.state p (status_of how) (ends_not_live (act_of how) (status_of how) (ended_so how))
      (subst (λ (S : State). get S.statuses p ≡ Some Live) ended live)
