-- Some entry follows each legal history whose run is neither ended nor stalled, so each launch has a run that ends or stalls.
use Rattle.std.proofs.Common.{◌≡◌, ◌⊎◌, inl, inr, ℕ, zero, suc, ◌+◌, ◌*◌, ◌-◌, ◌≤◌, true, false, List, [], ◌∷◌, ◌++◌, length, Option, None, Some, IsSome, is_some, refl, sym, ap, subst, ◌∙◌, arith, length-append}
use Rattle.std.proofs.lemmas.Bool.Decides.{eqb_tells}
use Rattle.std.specs.FinMap.{get}
use Rattle.abi_base.specs.declared.errno.Errno.TheVariants.{Fault}
use Rattle.abi_types.specs.declared.call.Call.{Call}
use Rattle.abi_types.specs.declared.constants.Constants.{Constants}
use Rattle.abi_types.specs.declared.reply.Answer.{Answer}
use Rattle.abi_types.specs.declared.reply.Answer.TheVariants as answer
use Rattle.abi_base.specs.declared.signal.Signal.{Signal}
use Rattle.abi_base.specs.declared.signal.Signal.TheVariants.{Xcpu}
use Rattle.abi_types.specs.declared.status.Status.TheVariants.{Live, Killed}
use Rattle.abi_types.specs.declared.thread.Thread.{Thread}
use Rattle.abi_types.specs.declared.thread.Thread.TheVariants.{Runnable, Waits}
use Rattle.abi_types.specs.declared.wake.WakeIn.{WakeIn}
use Rattle.abi_types.specs.declared.wake.WakeIn.TheVariants as wake
use Rattle.abi_types.specs.declared.who.Who.{Who}
use Rattle.abi_base.specs.Registers.{Registers}
use Rattle.run_types.specs.declared.history.Act.{Act}
use Rattle.run_types.specs.declared.history.Act.TheVariants as act
use Rattle.run_types.specs.declared.history.Entry.{Entry}
use Rattle.run_types.specs.declared.launch.Launch.{Launch}
use Rattle.kernel_model.specs.Ends.{NoneLive}
use Rattle.kernel_model.specs.Deadlines.{least_deadline}
use Rattle.kernel_model.specs.Families.Locks.{with_word}
use Rattle.kernel_model.specs.Outcome.{is_parked}
use Rattle.kernel_model.specs.Reply.{refused}
use Rattle.kernel_model.specs.State.{State, thread_in, thread_of}
use Rattle.kernel_model.specs.Step.{step_answer, step_state}
use Rattle.kernel_model.specs.Valid.{IsValid}
use Rattle.kernel_model.specs.Waits.{may_wait, resumed, MayWait, WaitsIn}
use Rattle.kernel_model.specs.Wakes.{is_ready, is_ready_as, AllParked, IsStalled, IsWake, MayJump, NoneReady}
use Rattle.kernel_model.specs.Threads.{ends_caller}
use Rattle.kernel_model.proofs.Tests.{not_true}
use Rattle.kernel_model.proofs.ThreadLaws.{exit_leaves_one}
use Rattle.kernel_model.proofs.Waking.{ready_has_wake, wake_keeps, wake_moves_only}
use Rattle.tree_model.specs.Grants.{MayBegin}
use Rattle.rv_interp.specs.declared.turns.TurnEnd.{TurnEnd}
use Rattle.rv_interp.specs.declared.turns.TurnEnd.TheVariants as turn_end_is
use Rattle.guest_memory.specs.Page.{Pages}
use Rattle.call_codec.specs.Arguments.{args_of}
use Rattle.call_codec.specs.Given.{given_of}
use Rattle.run_model.specs.Ends.{Ended, Stalled, HasThread}
use Rattle.run_model.specs.Legal.{IsRunnable, MayTurn, AreWhole, FitsAct, Fits, FollowsFrom, Legal}
use Rattle.run_model.specs.Own.{is_idle, IsLeft, is_born, is_ended, stays}
use Rattle.run_model.specs.World.{World, Guest, start_world, guest_of, registers_of, called_state, woken_state, come_to, made_since, thread_at, turn_end, turned_guest_by, turned, acted, who_of, apply, apply_all, world}
use Rattle.run_model.proofs.Calls.{called_is, ended_by, stays_on, woken_is}
use Rattle.run_model.proofs.Ends.{killed_is_not_live, start_only}
use Rattle.run_model.proofs.Own.{born_runs, own_or_left, same_threads}
use Rattle.run_model.proofs.Running.{NoneRuns, one_or_none, ready_or_none, some_lives, thread_lives}
use Rattle.run_model.proofs.Worlds.{apply_valid, first_valid, world_is_valid}
use Rattle.run_model.proofs.Potentials.{history_is_short}
use Rattle.run_model.proofs.Histories.{apply_is, turned_more, whole_more, legal_none, legal_more, first_thread}

-- ---- each process that is live has a thread

-- the process has a thread, if it is live
abbrev HasThreads : State → ℕ → Type 0
HasThreads S p = get S.statuses p ≡ Some Live → (t : ℕ) × (thread : Thread) × HasThread S p t thread

the_thread : (S : State) (p t : ℕ) (o : Option Thread) → thread_of S p t ≡ o → IsSome o → (u : ℕ) × (thread : Thread) × HasThread S p u thread
the_thread S p t None is there = absurd (not_true there)
the_thread S p t (Some thread) is there = (t, thread, is)

-- the thread that did an act is there after it, if its process lives on, or it has ended and another one is there
acted_has : (w : World) (who : Who) (guest : Guest) (ts : List ℕ) (a : Act) → is_idle a ≡ false → IsValid w.state
    → FitsAct w.constants w.state who guest ts a → HasThreads (acted w who a).state who.pid
acted_has w who guest ts (act.Call call given) done valid fits live =
    let T = called_state w.constants w.state who call given in
    elim (ends_caller call given) as (λ b. ends_caller call given ≡ b → (t : ℕ) × (thread : Thread) × HasThread T who.pid t thread) [
      | true ↦ λ ends. exit_leaves_one w.constants w.state who call given T fits.1 ends live
      | false ↦ λ lasts.
          the_thread T who.pid who.tid (thread_of T who.pid who.tid) refl
          (stays_on w.constants w.state who call given T fits.1 lasts live (ap is_some fits.0.0.3.0))
    ] refl
acted_has w who guest ts (act.Wake call given answered) done valid fits live =
    let T = woken_state w.constants w.state who call given answered in
    let only = wake_moves_only w.constants w.state who call given answered T fits.1.1 in
    elim (is_parked answered) as (λ b. is_parked answered ≡ b → (t : ℕ) × (thread : Thread) × HasThread T who.pid t thread) [
      | true ↦ λ parked. (who.tid, _, (only.queues live (ap is_some fits.0.1.3) parked).2)
      | false ↦ λ replies. (who.tid, Runnable, only.runs live (ap is_some fits.0.1.3) (wake_keeps w.state who call answered valid fits.0.1).0 replies)
    ] refl
acted_has w who guest ts (act.Trap signal) done valid fits live = absurd (ended_by w.state who.pid (Killed signal) (killed_is_not_live signal) live)
acted_has w who guest ts act.Expire done valid fits live = absurd (ended_by w.state who.pid (Killed Xcpu) (killed_is_not_live Xcpu) live)
acted_has w who guest ts act.Idle done valid fits live = absurd (not_true (sym done))

own_has : (w : World) (e : Entry) → is_idle e.act ≡ false → IsValid w.state → Fits w e → HasThreads (apply w e).state e.pid
own_has w e done valid fits =
    subst (λ (v : World). HasThreads v.state e.pid) (sym (apply_is w e))
    (acted_has (turned w e.pid e.turns) (who_of w.state e) (guest_of w e.pid) e.turns e.act done valid fits.act)

others_have : (w : World) (e : Entry) (q : ℕ) → IsValid w.state → Fits w e → HasThreads w.state q → IsLeft w (apply w e) e.act q
    → HasThreads (apply w e).state q
others_have w e q valid fits before (is_born there) live = (e.tid, Runnable, (born_runs w e q valid fits there).0)
others_have w e q valid fits before (is_ended was dead) live = absurd (dead live)
others_have w e q valid fits before (stays same) live =
    let has = before (sym same.status ∙ live) in (has.0, has.1, ap (λ o. thread_in o has.0) (same_threads (apply w e) w q same) ∙ has.2)

threads_after : (w : World) (e : Entry) → IsValid w.state → ((p : ℕ) → HasThreads w.state p) → Fits w e → (p : ℕ) → HasThreads (apply w e).state p
threads_after w e valid before fits p =
    elim (own_or_left w e p valid fits) [
      | inl is ↦ subst (HasThreads (apply w e).state) (sym is.0) (own_has w e is.1 valid fits)
      | inr left ↦ others_have w e p valid fits (before p) left
    ]

follows_threads : (w : World) (history : List Entry) → IsValid w.state → ((p : ℕ) → HasThreads w.state p) → FollowsFrom w history
    → (p : ℕ) → HasThreads (apply_all w history).state p
unfolding FollowsFrom apply_all
follows_threads w [] valid before follows = before
follows_threads w (e ∷ history) valid before follows =
    follows_threads (apply w e) history (apply_valid w e follows.0 valid) (threads_after w e valid before follows.0) follows.1

start_threads : (launch : Launch) (p : ℕ) → HasThreads (start_world launch).state p
start_threads launch p live =
    elim (eqb_tells p 0) [
      | inl is ↦ (1, Runnable, subst (λ q. IsRunnable (start_world launch).state q 1) (sym is.1) (first_thread launch))
      | inr other ↦ absurd (start_only launch p other.1 live)
    ]

legal_threads : (launch : Launch) (history : List Entry) → MayBegin launch.tree launch.grants → Legal launch history
    → (p : ℕ) → HasThreads (world launch history).state p
unfolding Legal world
legal_threads launch history begins legal = follows_threads (start_world launch) history (first_valid launch begins) (start_threads launch) legal

-- ---- an act that follows

-- turns of a process and an act that fits after them
abbrev HasAct : Constants → State → Who → Guest → Type 0
HasAct constants S who guest = (ts : List ℕ) × (a : Act) × FitsAct constants S who guest ts a

-- the thread's call is answered by the kernel
called : (constants : Constants) (S : State) (who : Who) (guest : Guest) (ts : List ℕ) → AreWhole S who.pid guest ts
    → MayTurn S who.pid (turned_guest_by ts guest) who.tid → turn_end (turned_guest_by ts guest) who.tid ≡ turn_end_is.Ecall → HasAct constants S who guest
called constants S who guest ts whole may end =
    let after : Guest = turned_guest_by (ts ++ who.tid ∷ []) guest in
    let m : Pages = after.memory in
    let r : Registers = registers_of after who.tid in
    let call : Call = args_of m r after.left in
    let given = step_answer constants S who call in (
      ts ++ who.tid ∷ [],
      act.Call call given,
      (
        ((ts, refl, whole, may, end), refl),
        inl (refl, sym (called_is m r after.left constants S who given (step_state constants S who call) (inl (refl, refl)))),
      ),
    )

trapped : (constants : Constants) (S : State) (who : Who) (guest : Guest) (ts : List ℕ) (signal : Signal) → AreWhole S who.pid guest ts
    → MayTurn S who.pid (turned_guest_by ts guest) who.tid → turn_end (turned_guest_by ts guest) who.tid ≡ turn_end_is.Trap signal
    → HasAct constants S who guest
trapped constants S who guest ts signal whole may end = (ts ++ who.tid ∷ [], act.Trap signal, ((ts, refl, whole, may, end), tt))

left_more : (ts : List ℕ) (t : ℕ) (guest : Guest) (n : ℕ) → (turned_guest_by ts guest).left ≡ suc n → (turned_guest_by (ts ++ t ∷ []) guest).left ≡ n
left_more ts t guest n left =
    let more : (turned_guest_by (ts ++ t ∷ []) guest).left ≡ (turned_guest_by ts guest).left - 1 = ap (λ (g : Guest). g.left) (turned_more ts t guest) in
    omega arith

-- one more turn, by how it ends
turn_more : (constants : Constants) (S : State) (who : Who) (guest : Guest) (ts : List ℕ) (end : TurnEnd) → AreWhole S who.pid guest ts
    → MayTurn S who.pid (turned_guest_by ts guest) who.tid → turn_end (turned_guest_by ts guest) who.tid ≡ end
    → (AreWhole S who.pid guest (ts ++ who.tid ∷ []) → HasAct constants S who guest) → HasAct constants S who guest
turn_more constants S who guest ts turn_end_is.Quantum whole may is rest = rest (whole_more S who.pid ts who.tid guest whole may is)
turn_more constants S who guest ts turn_end_is.Ecall whole may is rest = called constants S who guest ts whole may is
turn_more constants S who guest ts (turn_end_is.Trap signal) whole may is rest = trapped constants S who guest ts signal whole may is

-- turns of one thread come to an act
acts : (constants : Constants) (S : State) (who : Who) (guest : Guest) (n : ℕ) (ts : List ℕ) → IsRunnable S who.pid who.tid → AreWhole S who.pid guest ts
    → (turned_guest_by ts guest).left ≡ n → HasAct constants S who guest
acts constants S who guest zero ts runs whole left = (ts, act.Expire, ((whole, runs, left), tt))
acts constants S who guest (suc n) ts runs whole left =
    turn_more constants S who guest ts (turn_end (turned_guest_by ts guest) who.tid) whole (runs, omega arith) refl
    (λ more. acts constants S who guest n (ts ++ who.tid ∷ []) runs more (left_more ts who.tid guest n left))

-- an act that fits is that of an entry at its moment
entry_of : (w : World) (p t : ℕ) → get w.state.statuses p ≡ Some Live → HasAct w.constants w.state (thread_at w.state p t) (guest_of w p)
    → (e : Entry) × Fits w e
unfolding apply
entry_of w p t live next = (
  record { moment = (acted (turned w p next.0) (thread_at w.state p t) next.1).state.clock; pid = p; tid = t; turns = next.0; act = next.1 },
  record { live = λ _. live; act = next.2; moment = refl },
)

-- a runnable thread of a live process goes on
thread_goes_on : (w : World) (p t : ℕ) → get w.state.statuses p ≡ Some Live → IsRunnable w.state p t → (e : Entry) × Fits w e
thread_goes_on w p t live runs =
    let who : Who = thread_at w.state p t in
    entry_of w p t live (acts w.constants w.state who (guest_of w p) (guest_of w p).left [] runs tt refl)

-- ---- a wake that follows

-- a wake of a thread that waits in this call, as it is given
woken_by : (constants : Constants) (S : State) (who : Who) (call : Call) (given : WakeIn) → may_wait call ≡ true → WaitsIn S who call
    → is_ready constants S who.pid who.tid ≡ true
    → (answered : Answer) × IsWake constants S who call given answered (woken_state constants S who call given answered)
woken_by constants S who call (wake.Plain word) may kept ready =
    let a = step_answer constants (resumed S who) who (with_word word call) in
    let T = step_state constants (resumed S who) who (with_word word call) in
    let is = ready_has_wake constants S who call word kept ready in
    (a, subst (IsWake constants S who call (wake.Plain word) a) (woken_is constants S who call (wake.Plain word) a T may is) is)
woken_by constants S who call wake.Fault may kept ready = (answer.Reply (refused Fault), (refl, refl))

-- a ready thread waits in a call
waits_where : (constants : Constants) (S : State) (p t : ℕ) (thread : Thread) → HasThread S p t thread → is_ready constants S p t ≡ true
    → (call : Call) × WaitsIn S (thread_at S p t) call
waits_where constants S p t Runnable there ready = absurd (not_true (sym (ap (is_ready_as constants S p t) there) ∙ ready))
waits_where constants S p t (Waits call since until stage) there ready = (
  call,
  (until, stage, ap come_to there, there ∙ ap (λ n. Some (Waits call n until stage)) (sym (ap (made_since (S.clock + 1000)) there))),
)

thread_wakes : (w : World) (p t : ℕ) (thread : Thread) → IsValid w.state → HasThread w.state p t thread → is_ready w.constants w.state p t ≡ true
    → (e : Entry) × Fits w e
thread_wakes w p t thread valid there ready =
    let who : Who = thread_at w.state p t in
    let waits = waits_where w.constants w.state p t thread there ready in
    let given = given_of (guest_of w p).memory (registers_of (guest_of w p) t) waits.0 in
    let may : may_wait waits.0 ≡ true = (subst MayWait waits.1.3 (valid.nearly.waits p t)).0 in
    let woken = woken_by w.constants w.state who waits.0 given may waits.1 ready in
    entry_of w p t (thread_lives w.state p t thread valid there) ([], act.Wake waits.0 given woken.0, ((tt, waits.1, refl), (ready, woken.1)))

-- ---- a jump that follows

time_jumps : (w : World) → MayJump w.constants w.state → (e : Entry) × Fits w e
unfolding apply
time_jumps w may = (
  record { moment = (acted (turned w 0 []) (thread_at w.state 0 0) act.Idle).state.clock; pid = 0; tid = 0; turns = []; act = act.Idle },
  record { live = λ done. absurd (not_true (sym done)); act = ((refl, refl, refl), may); moment = refl },
)

-- ---- the end

parked_where : (S : State) → NoneRuns S → (p : ℕ) → HasThreads S p → get S.statuses p ≡ Some Live → AllParked S
parked_where S none p has live = let thread = has live in ((p, thread.0, thread.1, thread.2, live), none)

jumps_or_stalls : (w : World) → AllParked w.state → NoneReady w.constants w.state → (o : Option ℕ) → least_deadline w.state ≡ o
    → IsStalled w.constants w.state ⊎ ((e : Entry) × Fits w e)
jumps_or_stalls w all none None is = inl (record { all = all; none = none; least = is })
jumps_or_stalls w all none (Some until) is = inr (time_jumps w (record { all = all; none = none; until = until; least = is }))

parked_goes_on : (w : World) → IsValid w.state → AllParked w.state → IsStalled w.constants w.state ⊎ ((e : Entry) × Fits w e)
parked_goes_on w valid all =
    elim (ready_or_none w.constants w.state) [
      | inl ready ↦ inr (thread_wakes w ready.0 ready.1 ready.2 valid ready.3 ready.4)
      | inr none ↦ jumps_or_stalls w all none (least_deadline w.state) refl
    ]

world_goes_on : (w : World) → IsValid w.state → ((p : ℕ) → HasThreads w.state p)
    → NoneLive w.state ⊎ (IsStalled w.constants w.state ⊎ ((e : Entry) × Fits w e))
world_goes_on w valid threads =
    elim (one_or_none w.state) [
      | inl runs ↦ inr (inr (thread_goes_on w runs.0 runs.1 (thread_lives w.state runs.0 runs.1 Runnable valid runs.2) runs.2))
      | inr none ↦ elim (some_lives w.state) [
        | inl live ↦ inr (parked_goes_on w valid (parked_where w.state none live.0 (threads live.0) live.1))
        | inr dead ↦ inl dead
      ]
    ]

pub ends_or_goes_on : (launch : Launch) (history : List Entry) → MayBegin launch.tree launch.grants → Legal launch history
    → Ended launch history ⊎ (Stalled launch history ⊎ ((e : Entry) × Fits (world launch history) e))
ends_or_goes_on launch history begins legal =
    world_goes_on (world launch history) (world_is_valid launch history begins legal) (legal_threads launch history begins legal)

-- an ended process has no thread, so an ended run isn't stalled
pub ended_or_stalled : (launch : Launch) (history : List Entry) → MayBegin launch.tree launch.grants → Legal launch history → Ended launch history
    → Stalled launch history → ⊥
ended_or_stalled launch history begins legal ended stalled =
    ended stalled.all.0.0 stalled.all.0.4

-- a legal history whose run is ended or stalled
abbrev HasEnd : Launch → Type 0
HasEnd launch = (history : List Entry) × Legal launch history × (Ended launch history ⊎ Stalled launch history)

too_long : (launch : Launch) (history : List Entry) (e : Entry) → MayBegin launch.tree launch.grants → Legal launch (history ++ e ∷ [])
    → 6 * launch.turns + 2 ≤ length history → ⊥
too_long launch history e begins legal long = omega (arith, history_is_short launch (history ++ e ∷ []) begins legal, length-append history (e ∷ []))

ends_within : (launch : Launch) (n : ℕ) (history : List Entry) → MayBegin launch.tree launch.grants → Legal launch history
    → 6 * launch.turns + 2 ≤ length history + n → HasEnd launch
ends_within launch zero history begins legal long =
    elim (ends_or_goes_on launch history begins legal) [
      | inl ended ↦ (history, legal, inl ended)
      | inr (inl stalled) ↦ (history, legal, inr stalled)
      | inr (inr next) ↦ absurd (too_long launch history next.0 begins (legal_more launch history next.0 legal next.1) (omega arith))
    ]
ends_within launch (suc n) history begins legal long =
    elim (ends_or_goes_on launch history begins legal) [
      | inl ended ↦ (history, legal, inl ended)
      | inr (inl stalled) ↦ (history, legal, inr stalled)
      | inr (inr next) ↦ (
          ends_within launch n (history ++ next.0 ∷ []) begins (legal_more launch history next.0 legal next.1)
          (omega (arith, length-append history (next.0 ∷ []))))
    ]

pub ends : (launch : Launch) → MayBegin launch.tree launch.grants → HasEnd launch
ends launch begins = ends_within launch (6 * launch.turns + 2) [] begins (legal_none launch) (omega arith)
