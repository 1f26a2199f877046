-- How many wakes are left after an entry.
--     moved_wakes      a thread that is given its lock or is signalled has no more than before
--     call_wakes, two_wakes, replied_wakes      a call leaves those of its own thread more: at most two, and none where it has a reply
--     woken_caller      what a thread does after its wake
--     woken_wakes      a wake leaves one less
--     end_wakes      the end of a process leaves no more
--     start_wakes      at the start there are none
use Rattle.std.proofs.Common.{◌≡◌, ◌≢◌, ◌⊎◌, inl, inr, ℕ, ◌+◌, ◌≤◌, Bool, true, false, Option, Some, None, IsSome, refl, sym, ap, subst, ◌∙◌, arith}
use Rattle.std.proofs.lemmas.Bool.Decides.{eqb_tells}
use Rattle.std.specs.Prelude.{if◌then◌else◌}
use Rattle.std.specs.Option.{option_map}
use Rattle.std.specs.Ordering.{nat_cmp}
use Rattle.std.specs.FinMap.{FinMap, empty, get, get-empty, remove}
use Rattle.abi_structures.specs.declared.events.What.{What}
use Rattle.abi_structures.specs.declared.events.What.TheVariants.{Condvar}
use Rattle.abi_types.specs.declared.call.Call.{Call}
use Rattle.abi_types.specs.declared.constants.Constants.{Constants}
use Rattle.abi_types.specs.declared.reply.Answer.{Answer}
use Rattle.abi_types.specs.declared.reply.Answer.TheVariants as answer
use Rattle.abi_types.specs.declared.status.Status.{Status}
use Rattle.abi_types.specs.declared.status.Status.TheVariants.{Live}
use Rattle.abi_types.specs.declared.thread.Stage.{Stage}
use Rattle.abi_types.specs.declared.thread.Stage.TheVariants.{Begun}
use Rattle.abi_types.specs.declared.thread.Thread.{Thread}
use Rattle.abi_types.specs.declared.thread.Thread.TheVariants.{Runnable, Waits}
use Rattle.abi_types.specs.declared.wake.WakeIn.{WakeIn}
use Rattle.abi_types.specs.declared.wake.WakeIn.TheVariants as wake
use Rattle.abi_types.specs.declared.who.Who.{Who}
use Rattle.kernel_model.specs.Families.ForkCalls.{child_process}
use Rattle.kernel_model.specs.Families.Locks.{awaits_signal, first_awaited, is_condition, with_word}
use Rattle.kernel_model.specs.Laws.{HasSameProcess, IsKilled}
use Rattle.kernel_model.specs.Outcome.{is_parked}
use Rattle.kernel_model.specs.State.{State, ProcessState, Threads, thread_in, thread_of}
use Rattle.kernel_model.specs.Step.{end_state, IsStep}
use Rattle.kernel_model.specs.Threads.{child_made, is_given, is_signalled, stays, IsCallerAfter, IsMoved}
use Rattle.kernel_model.specs.Valid.{IsValid}
use Rattle.kernel_model.specs.Waits.{resumed, waiting, WaitsIn}
use Rattle.kernel_model.specs.Wakes.{may_queue, woken, IsWake}
use Rattle.kernel_model.proofs.Steps.{end_ends_only, end_valid, step_keeps_valid, step_moves_only}
use Rattle.kernel_model.proofs.Tests.{not_true, same_some}
use Rattle.kernel_model.proofs.Threading.{thread_apart, thread_here, with_apart}
use Rattle.kernel_model.proofs.Moving.{moved_runs}
use Rattle.kernel_model.proofs.WokenCalls.{queueing_at, same_condition}
use Rattle.kernel_model.proofs.Waking.{caller_after, ended_thread, other_after, resumed_valid, same_child}
use Rattle.maps.specs.Closure.{total_below}
use Rattle.maps.specs.Maps.{get-remove-same, get-remove-other, total, weight, total_none, total-empty, total-insert, total-remove}
use Rattle.run_model.specs.Ends.{wakes_left, all_wakes_left}
use Rattle.run_model.proofs.BornParts.{is_child_of}

-- where no other key weighs more in m than in n, the total of m is greater by no more than what the key k weighs more
pub total_around : {X : Type 0} (f : X → ℕ) (m n : FinMap nat_cmp X) (k : ℕ) → ((q : ℕ) → q ≢ k → weight f (get m q) ≤ weight f (get n q))
    → total f m + weight f (get n k) ≤ total f n + weight f (get m k)
total_around f m n k others =
    let below : total f (remove m k) ≤ total f (remove n k) =
    total_below f f (remove m k) (remove n k) (λ q. elim (eqb_tells q k) [
      | inl is ↦ (
          let none : weight f (get (remove m k) q) ≡ 0 = ap (weight f) (ap (get (remove m k)) is.1 ∙ get-remove-same m k) in
          omega (arith, none))
      | inr other ↦ (
          let there : weight f (get (remove m k) q) ≡ weight f (get m q) = ap (weight f) (get-remove-other m k q other.1) in
          let here : weight f (get (remove n k) q) ≡ weight f (get n q) = ap (weight f) (get-remove-other n k q other.1) in
          let less = others q other.1 in
          omega (arith, there, here, less))
    ]) in
    let first = total-remove f m k in
    let second = total-remove f n k in
    omega (arith, below, first, second)

-- ---- a process

-- its threads, and none if it was never made
abbrev threads_or_none : Option ProcessState → Threads
threads_or_none None = empty
threads_or_none (Some own) = own.threads

own_wakes : (o : Option ProcessState) → weight all_wakes_left o ≡ total wakes_left (threads_or_none o)
own_wakes None = sym (total-empty wakes_left)
own_wakes (Some own) = refl

own_thread : (o : Option ProcessState) (t : ℕ) → thread_in (option_map (λ (own : ProcessState). own.threads) o) t ≡ get (threads_or_none o) t
own_thread None t = sym (get-empty nat_cmp t)
own_thread (Some own) t = refl

-- the wakes of one thread
abbrev pub thread_wakes : State → ℕ → ℕ → ℕ
thread_wakes S p t = weight wakes_left (thread_of S p t)

abbrev twice_if : Bool → ℕ
twice_if b = if b then 2 else 1

one_or_two : (b : Bool) → (1 ≤ twice_if b) × (twice_if b ≤ 2)
one_or_two true = (omega arith, omega arith)
one_or_two false = (omega arith, omega arith)

pub two_wakes : (o : Option Thread) → weight wakes_left o ≤ 2
two_wakes None = omega arith
two_wakes (Some Runnable) = omega arith
two_wakes (Some (Waits call since until stage)) = (one_or_two (may_queue call (Some stage))).1

-- one that is signalled waited at its condition variable
sleeps_begun : (at : ℕ) (what : Option What) (since : ℕ) (stage : Stage) → IsSome (awaits_signal at what since stage) → stage ≡ Begun
sleeps_begun at (Some (Condvar condvar condvar_word lock lock_word condvar_scope lock_scope)) since Begun sleeps = refl
sleeps_begun at what since stage sleeps = absurd (not_true sleeps)

pub moved_wakes : (before after : Option Thread) → IsMoved before after → weight wakes_left after ≤ weight wakes_left before
moved_wakes before after (stays thread) = omega arith
moved_wakes before after (is_given lock Runnable waits) = omega arith
moved_wakes before after (is_given lock (Waits call since until stage) waits) = (one_or_two (may_queue call (Some stage))).0
moved_wakes before after (is_signalled condvar Runnable sleeps) = omega arith
moved_wakes before after (is_signalled condvar (Waits call since until stage) sleeps) =
    let same : twice_if (may_queue call (Some stage)) ≡ twice_if (is_condition (first_awaited call)) =
    ap (λ s. twice_if (may_queue call (Some s))) (sleeps_begun condvar (first_awaited call) since stage sleeps) in
    omega (arith, same)

abbrev process_wakes : State → ℕ → ℕ
process_wakes S p = weight all_wakes_left (get S.processes p)

-- where no other thread has more wakes left, the process has no more than this one's are more
process_around : (S T : State) (p t : ℕ) → ((u : ℕ) → u ≢ t → thread_wakes T p u ≤ thread_wakes S p u)
    → process_wakes T p + thread_wakes S p t ≤ process_wakes S p + thread_wakes T p t
process_around S T p t others =
    let before = threads_or_none (get S.processes p) in
    let after = threads_or_none (get T.processes p) in
    let was : (u : ℕ) → thread_wakes S p u ≡ weight wakes_left (get before u) = λ u. ap (weight wakes_left) (own_thread (get S.processes p) u) in
    let is : (u : ℕ) → thread_wakes T p u ≡ weight wakes_left (get after u) = λ u. ap (weight wakes_left) (own_thread (get T.processes p) u) in
    let around =
    total_around wakes_left after before t (λ u apart. (let less = others u apart in let one = was u in let other = is u in omega (arith, less, one, other))) in
    let one = was t in
    let other = is t in
    let first = own_wakes (get S.processes p) in
    let second = own_wakes (get T.processes p) in
    omega (arith, around, one, other, first, second)

-- ---- all processes

abbrev pub all_wakes : State → ℕ
all_wakes S = total all_wakes_left S.processes

other_wakes : (S T : State) (q : ℕ) → HasSameProcess T S q ⊎ IsKilled S T q → process_wakes T q ≤ process_wakes S q
other_wakes S T q (inl same) = let is = ap (weight all_wakes_left) same.1 in omega (arith, is)
other_wakes S T q (inr killed) = let none = ap (weight all_wakes_left) killed.0.1 in omega (arith, none)

pub wakes_around : (S T : State) (p t : ℕ) → ((q : ℕ) → q ≢ p → process_wakes T q ≤ process_wakes S q)
    → ((u : ℕ) → u ≢ t → thread_wakes T p u ≤ thread_wakes S p u) → all_wakes T + thread_wakes S p t ≤ all_wakes S + thread_wakes T p t
wakes_around S T p t processes threads =
    let around = total_around all_wakes_left T.processes S.processes p processes in
    let own = process_around S T p t threads in
    omega (arith, around, own)

-- ---- calls

less_or_same : (a b : Option Thread) → ((a ≡ None) ⊎ (a ≡ Some Runnable)) ⊎ IsMoved b a → weight wakes_left a ≤ weight wakes_left b
less_or_same a b (inl (inl none)) = let is = ap (weight wakes_left) none in omega (arith, is)
less_or_same a b (inl (inr runs)) = let is = ap (weight wakes_left) runs in omega (arith, is)
less_or_same a b (inr moved) = moved_wakes b a moved

-- a child's one thread runs
child_wakes : (t : ℕ) (own : ProcessState) → all_wakes_left (child_process t own) ≡ 0
child_wakes t own =
    let none : total wakes_left (empty {R = nat_cmp}) ≡ 0 = total-empty wakes_left in
    let sums = total-insert wakes_left (empty {R = nat_cmp}) t Runnable in
    omega (arith, none, sums)

processes_wake : (constants : Constants) (S : State) (who : Who) (call : Call) (given : Answer) (T : State) → IsValid S → IsStep constants S who call given T
    → (q : ℕ) → q ≢ who.pid → process_wakes T q ≤ process_wakes S q
processes_wake constants S who call given T valid step q apart =
    elim (same_child q (child_made call given who.pid (get S.processes who.pid))) [
      | inl born ↦ (
          let is = is_child_of constants S who call given T q valid step born in
          let none : process_wakes T q ≡ 0 = ap (weight all_wakes_left) is.child ∙ child_wakes who.tid is.own in
          omega (arith, none))
      | inr other ↦ other_wakes S T q ((step_moves_only constants S who call given T step).others q apart other)
    ]

step_around : (constants : Constants) (S : State) (who : Who) (call : Call) (given : Answer) (T : State) → IsValid S → IsStep constants S who call given T
    → all_wakes T + thread_wakes S who.pid who.tid ≤ all_wakes S + thread_wakes T who.pid who.tid
step_around constants S who call given T valid step =
    wakes_around S T who.pid who.tid (processes_wake constants S who call given T valid step)
    (λ u apart. less_or_same (thread_of T who.pid u) (thread_of S who.pid u)
    (other_after constants S who call given T step (step_keeps_valid constants S who call given T step valid) u apart))

pub call_wakes : (constants : Constants) (S : State) (who : Who) (call : Call) (given : Answer) (T : State) → IsValid S → IsStep constants S who call given T
    → all_wakes T ≤ all_wakes S + thread_wakes T who.pid who.tid
call_wakes constants S who call given T valid step = let around = step_around constants S who call given T valid step in omega (arith, around)

-- a thread that runs, or is no more, has no wake left
runs_or_not : (o : Option Thread) → (o ≡ None) ⊎ (o ≡ Some Runnable) → weight wakes_left o ≡ 0
runs_or_not o (inl none) = ap (weight wakes_left) none
runs_or_not o (inr runs) = ap (weight wakes_left) runs

-- a thread that runs and whose call has a reply runs still; else it waits
answered_runs : (waits : Thread) (given : Answer) (before after : Option Thread) → before ≡ Some Runnable → IsCallerAfter waits given before after
    → (after ≡ Some Runnable) ⊎ ((is_parked given ≡ true) × (after ≡ Some waits))
answered_runs waits (answer.Parked writes) before after runs is = inr (refl, is ∙ ap (option_map (λ (was : Thread). waits)) runs)
answered_runs waits (answer.Reply reply) before after runs moved = inl (moved_runs before after moved runs)

-- what a thread that ran does after its step
abbrev DoesAfter : Thread → Answer → Option Thread → Type 0
DoesAfter waits given after = ((after ≡ None) ⊎ (after ≡ Some Runnable)) ⊎ ((is_parked given ≡ true) × (after ≡ Some waits))

runner_after : (constants : Constants) (S : State) (who : Who) (call : Call) (given : Answer) (T : State) → IsValid S → IsStep constants S who call given T
    → thread_of S who.pid who.tid ≡ Some Runnable → DoesAfter (waiting constants call who (S.clock + 1000)) given (thread_of T who.pid who.tid)
runner_after constants S who call given T valid step runs =
    elim (caller_after constants S who call given T step (step_keeps_valid constants S who call given T step valid)) [
      | inl gone ↦ inl (inl gone)
      | inr is ↦ elim (answered_runs (waiting constants call who (S.clock + 1000)) given (thread_of S who.pid who.tid) (thread_of T who.pid who.tid) runs is) [
        | inl still ↦ inl (inr still)
        | inr waits ↦ inr waits
      ]
    ]

pub replied_wakes : (constants : Constants) (S : State) (who : Who) (call : Call) (given : Answer) (T : State) → IsValid S → IsStep constants S who call given T
    → thread_of S who.pid who.tid ≡ Some Runnable → is_parked given ≡ false → thread_wakes T who.pid who.tid ≡ 0
replied_wakes constants S who call given T valid step runs replies =
    elim (runner_after constants S who call given T valid step runs) [
      | inl awake ↦ runs_or_not (thread_of T who.pid who.tid) awake
      | inr waits ↦ absurd (not_true (sym replies ∙ waits.0))
    ]

-- ---- wakes

resumed_runs_here : (S : State) (who : Who) (call : Call) → WaitsIn S who call → thread_of (resumed S who) who.pid who.tid ≡ Some Runnable
resumed_runs_here S who call kept =
    thread_here S who.pid who.tid Runnable ∙ ap (option_map (λ (before : Thread). Runnable)) kept.3

-- after its wake a thread runs, or is no more; or it has left its condition variable, and waits for the lock
pub woken_caller : (constants : Constants) (S : State) (who : Who) (call : Call) (given : WakeIn) (answered : Answer) (T : State) → IsValid S → WaitsIn S who call
    → IsWake constants S who call given answered T
    → DoesAfter (waiting constants (woken call given) who (S.clock + 1000)) answered (thread_of T who.pid who.tid)
woken_caller constants S who call (wake.Plain word) answered T valid kept is =
    runner_after constants (resumed S who) who (with_word word call) answered T (resumed_valid S who valid) is.0 (resumed_runs_here S who call kept)
woken_caller constants S who call wake.Fault answered T valid kept is =
    inl (inr (ap (λ (U : State). thread_of U who.pid who.tid) is.1 ∙ resumed_runs_here S who call kept))

-- where it waits on, it may
pub woken_queues : (constants : Constants) (S : State) (who : Who) (call : Call) (given : WakeIn) (answered : Answer) (T : State)
    → IsWake constants S who call given answered T → is_parked answered ≡ true → may_queue call who.stage ≡ true
woken_queues constants S who call (wake.Plain word) answered T is parked = is.1 parked
woken_queues constants S who call wake.Fault answered T is parked = absurd (not_true (sym (ap is_parked is.0) ∙ parked))

woken_condition : (call : Call) (given : WakeIn) → is_condition (first_awaited (woken call given)) ≡ is_condition (first_awaited call)
woken_condition call (wake.Plain word) = same_condition word call
woken_condition call wake.Fault = refl

-- one that waits on has one wake left
waits_once : (constants : Constants) (who : Who) (call : Call) (given : WakeIn) (now : ℕ) → may_queue call who.stage ≡ true
    → weight wakes_left (Some (waiting constants (woken call given) who now)) ≡ 1
waits_once constants who call given now may =
    ap (λ (thread : Thread). weight wakes_left (Some thread))
    (queueing_at constants who.since call (woken call given) now who.stage may (woken_condition call given)).1

-- and had two
waited_twice : (call : Call) (stage : Option Stage) → may_queue call stage ≡ true → twice_if (may_queue call stage) ≡ 2
waited_twice call stage may = ap twice_if may

woken_less : (constants : Constants) (S : State) (who : Who) (call : Call) (given : WakeIn) (answered : Answer) (T : State) → IsValid S → WaitsIn S who call
    → IsWake constants S who call given answered T → thread_wakes T who.pid who.tid + 1 ≤ thread_wakes S who.pid who.tid
woken_less constants S who call given answered T valid kept is =
    let had : thread_wakes S who.pid who.tid ≡ twice_if (may_queue call who.stage) =
    ap (weight wakes_left) kept.3 ∙ ap (λ s. twice_if (may_queue call s)) (sym kept.2) in
    let some = (one_or_two (may_queue call who.stage)).0 in
    elim (woken_caller constants S who call given answered T valid kept is) [
      | inl awake ↦ (let none = runs_or_not (thread_of T who.pid who.tid) awake in omega (arith, had, some, none))
      | inr waits ↦ (
          let may = woken_queues constants S who call given answered T is waits.0 in
          let twice = waited_twice call who.stage may in
          let once : thread_wakes T who.pid who.tid ≡ 1 =
          ap (weight wakes_left) waits.1 ∙ waits_once constants who call given (S.clock + 1000) may in
          omega (arith, had, twice, once))
    ]

same_moved : (before after : Option Thread) → after ≡ before → IsMoved before after
same_moved before after is = subst (IsMoved before) (sym is) (stays before)

resumed_around : (S : State) (who : Who) → all_wakes (resumed S who) + thread_wakes S who.pid who.tid ≤ all_wakes S + thread_wakes (resumed S who) who.pid who.tid
resumed_around S who =
    wakes_around S (resumed S who) who.pid who.tid (λ q apart. other_wakes S (resumed S who) q (inl (refl, with_apart S who.pid who.tid Runnable q apart, refl)))
    (λ u apart. less_or_same (thread_of (resumed S who) who.pid u) (thread_of S who.pid u)
    (inr (same_moved (thread_of S who.pid u) (thread_of (resumed S who) who.pid u) (thread_apart S who.pid who.tid Runnable u apart))))

woken_around : (constants : Constants) (S : State) (who : Who) (call : Call) (given : WakeIn) (answered : Answer) (T : State) → IsValid S
    → IsWake constants S who call given answered T → all_wakes T + thread_wakes S who.pid who.tid ≤ all_wakes S + thread_wakes T who.pid who.tid
woken_around constants S who call (wake.Plain word) answered T valid is =
    let first = resumed_around S who in
    let second = step_around constants (resumed S who) who (with_word word call) answered T (resumed_valid S who valid) is.0 in
    omega (arith, first, second)
woken_around constants S who call wake.Fault answered T valid is =
    subst (λ (U : State). all_wakes U + thread_wakes S who.pid who.tid ≤ all_wakes S + thread_wakes U who.pid who.tid) (sym is.1) (resumed_around S who)

pub woken_wakes : (constants : Constants) (S : State) (who : Who) (call : Call) (given : WakeIn) (answered : Answer) (T : State) → IsValid S
    → WaitsIn S who call → IsWake constants S who call given answered T → all_wakes T + 1 ≤ all_wakes S
woken_wakes constants S who call given answered T valid kept is =
    let around = woken_around constants S who call given answered T valid is in
    let less = woken_less constants S who call given answered T valid kept is in
    omega (arith, around, less)

-- ---- the end of a process

pub end_wakes : (S : State) (p : ℕ) (status : Status) → status ≢ Live → IsSome (get S.statuses p) → IsValid S
    → all_wakes (end_state S p status) ≤ all_wakes S
end_wakes S p status dead made valid =
    let ends = end_ends_only S p status dead in
    let T = end_state S p status in
    let gone : (u : ℕ) → thread_of T p u ≡ None =
    λ u. ended_thread T p u (end_valid S p status made dead valid) (λ live. dead (same_some status Live (sym ends.stands ∙ live))) in
    let around = wakes_around S T p 0 (λ q apart. other_wakes S T q (ends.others q apart)) (λ u _. less_or_same (thread_of T p u) (thread_of S p u) (inl (inl (gone u)))) in
    let none : thread_wakes T p 0 ≡ 0 = ap (weight wakes_left) (gone 0) in
    omega (arith, around, none)

-- ---- none

pub none_wakes : (S : State) → ((p t : ℕ) → (thread_of S p t ≡ None) ⊎ (thread_of S p t ≡ Some Runnable)) → all_wakes S ≡ 0
none_wakes S each =
    total_none all_wakes_left S.processes (λ p.
    own_wakes (get S.processes p)
    ∙ total_none wakes_left (threads_or_none (get S.processes p)) (λ t.
    ap (weight wakes_left) (sym (own_thread (get S.processes p) t)) ∙ runs_or_not (thread_of S p t) (each p t)))
