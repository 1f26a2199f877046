-- A process stays tied to its world.
--     tied_first, tied_turn, tied_came, tied_forks, tied_child, looked_lives, looked_gone      after each of what a process does
--     calls_there, forks_there, has_registers, has_registers_running, between, does, due_stands, due_runs, no_fork,
--     asks_call, asks_fork, asks_wake, asks_end      what it asks the kernel for, and what is known of it then
--     made_in, same_at, stands_at, stands_then, settled, has_place      the process at the history at which something was done
use Rattle.std.proofs.Common.{◌≡◌, ◌≢◌, ℕ, ◌<◌, Bool, true, false, List, [], ◌∷◌, ◌++◌, Option, None, Some, IsSome, inl, inr, refl, sym, ap, subst, ◌∙◌, true≢false}
use Rattle.std.proofs.lemmas.Bool.Decides.{eqb_tells}
use Rattle.std.specs.FinMap.{FinMap, empty, get, insert, remove, get-empty}
use Rattle.std.specs.Option.{option_map}
use Rattle.std.specs.Ordering.{nat_cmp}
use Rattle.abi_types.specs.declared.call.Call.{Call}
use Rattle.abi_types.specs.declared.call.Call.TheVariants.{ProcFork}
use Rattle.abi_types.specs.declared.status.Status.TheVariants.{Live}
use Rattle.abi_types.specs.declared.thread.Thread.{Thread}
use Rattle.abi_types.specs.declared.thread.Thread.TheVariants.{Runnable}
use Rattle.abi_types.specs.declared.thread.Thread.TheVariants.{Waits as Blocked}
use Rattle.run_types.specs.declared.history.Act.{Act}
use Rattle.run_types.specs.declared.history.Entry.{Entry}
use Rattle.run_types.specs.declared.launch.Launch.{Launch}
use Rattle.maps.specs.Maps.{get-insert-same, get-insert-other, get-remove-same, get-remove-other}
use Rattle.kernel_model.specs.Families.Locks.{called, given}
use Rattle.kernel_model.specs.State.{State, thread_in, thread_of, threads_of}
use Rattle.kernel_model.specs.Threads.{is_given, is_signalled, stays, IsMoved}
use Rattle.kernel_model.specs.Waits.{IsParked}
use Rattle.kernel_model.proofs.Moving.{moved_none, moved_runs}
use Rattle.kernel_model.proofs.Tests.{none_is_no, not_true}
use Rattle.tree_model.specs.Grants.{MayBegin}
use Rattle.rv_interp.specs.declared.turns.TurnEnd.{TurnEnd}
use Rattle.rv_interp.specs.declared.turns.TurnEnd.TheVariants as turn_end_is
use Rattle.call_codec.specs.Arguments.{args_of}
use Rattle.call_codec.specs.Start.{first_registers}
use Rattle.call_codec.proofs.ProcessLaws.{fork_turns}
use Rattle.run_model.specs.Legal.{AreWhole, IsRunnable, Legal, MayTurn, LastEnds}
use Rattle.run_model.specs.Own.{IsLiveIn, Made, Same}
use Rattle.run_model.specs.World.{World, Guest, world, start_world, guest_of, first_guest, registers_of, turned_guest, turned_guest_by, turn_end}
use Rattle.run_model.proofs.Asks.{whole_there}
use Rattle.run_model.proofs.Histories.{legal_front, world_none, first_guest_is, first_state, first_threads, turned_more, whole_more}
use Rattle.run_model.proofs.Own.{left_alone, same_threads}
use Rattle.run_model.proofs.Registers.{legal_has_registers}
use Rattle.shared_history.specs.Entries.{entry_of, head_of}
use Rattle.shared_history.specs.Passes.{IsSeen, Later, Passing}
use Rattle.kernel_cell.specs.Acting.{Became, Entered, HasStarted, IsActed, IsActedOn, IsAlone, IsChild, IsForked, IsForkedOn, KeepsBut, Looked, by_number, going_on}
use Rattle.kernel_cell.specs.Asking.{Asks, AsksCall, HasNoChild}
use Rattle.kernel_cell.specs.Results.{Threads, with_made}
use Rattle.kernel_cell.specs.declared.results.After.{After}
use Rattle.kernel_cell.specs.declared.results.After.TheVariants as to
use Rattle.kernel_cell.specs.declared.results.Asked.{Asked}
use Rattle.kernel_cell.specs.declared.results.Asked.TheVariants as asked
use Rattle.kernel_cell.specs.declared.results.Body.{Body}
use Rattle.kernel_cell.specs.declared.results.Came.{Came}
use Rattle.kernel_cell.specs.declared.results.Came.TheVariants as came
use Rattle.kernel_cell.specs.declared.results.Doing.{Doing}
use Rattle.kernel_cell.specs.declared.results.Doing.TheVariants as doing
use Rattle.kernel_cell.specs.declared.results.EndBy.{EndBy}
use Rattle.kernel_cell.specs.declared.results.EndBy.TheVariants as end_by
use Rattle.kernel_cell.proofs.PassOutcomes.{answers_busy}
use Rattle.process_cell.specs.Phases.{alone, phase_after, phase_after_turn, threads_after, HasPlaceFor}
use Rattle.process_cell.specs.Process.{AreThreads, DoesSo, IsDue, RunsIn, Stands, TiedIn, Tied, Waits, WaitsIn, new_pass, standing_of}
use Rattle.process_cell.specs.Standing.{Standing}
use Rattle.process_cell.specs.declared.results.Phase.{Phase}
use Rattle.process_cell.specs.declared.results.Phase.TheVariants as phase

-- ---- threads

-- a thread that does something is there
does_there : (o : Option Doing) (o' : Option Thread) → DoesSo o o' → IsSome o → IsSome o'
does_there None o' is there = absurd (not_true there)
does_there (Some doing.Runs) o' is there = subst IsSome (sym is) refl
does_there (Some doing.Waits) o' is there = subst IsSome (sym is.1) refl

-- one that isn't there does nothing
pub does_none : (o : Option Doing) (o' : Option Thread) → DoesSo o o' → o' ≡ None → o ≡ None
does_none None o' is none = refl
does_none (Some doing.Runs) o' is none = absurd (none_is_no Runnable (sym none ∙ is))
does_none (Some doing.Waits) o' is none = absurd (none_is_no is.0 (sym none ∙ is.1))

-- a thread that waits waits on where it is given a lock or signalled, and does what it did
given_waits : (thread : Thread) → IsParked thread → IsParked (given thread)
given_waits Runnable waits = waits
given_waits (Blocked call since until stage) waits = tt

called_waits : (thread : Thread) → IsParked thread → IsParked (called thread)
called_waits Runnable waits = waits
called_waits (Blocked call since until stage) waits = tt

still_waits : (f : Thread → Thread) → ((thread : Thread) → IsParked thread → IsParked (f thread)) → (o : Option Thread) → Waits o → Waits (option_map f o)
still_waits f keeps o waits = (f waits.0, ap (option_map f) waits.1, keeps waits.0 waits.2)

moved_does : (what : Option Doing) (o o' : Option Thread) → IsMoved o o' → DoesSo what o → DoesSo what o'
moved_does None o o' moved is = moved_none o o' moved is
moved_does (Some doing.Runs) o o' moved is = moved_runs o o' moved is
moved_does (Some doing.Waits) o o' (stays thread) is = is
moved_does (Some doing.Waits) o o' (is_given lock thread waits) is = still_waits given given_waits (Some thread) is
moved_does (Some doing.Waits) o o' (is_signalled condvar thread waits) is = still_waits called called_waits (Some thread) is

-- The threads are those of another world too, where all but one are there what they were, or were given locks or signalled, and what that one does
-- is what is said of it.
are_but : (w w' : World) (p x : ℕ) (threads threads' : Threads) → AreThreads w p threads
    → ((u : ℕ) → u ≢ x → IsMoved (thread_of w.state p u) (thread_of w'.state p u)) → ((u : ℕ) → u ≢ x → get threads' u ≡ get threads u)
    → DoesSo (get threads' x) (thread_of w'.state p x) → AreThreads w' p threads'
are_but w w' p x threads threads' are others same at u =
    elim (eqb_tells u x) [
      | inl is ↦ subst (λ (y : ℕ). DoesSo (get threads' y) (thread_of w'.state p y)) (sym is.1) at
      | inr apart ↦ subst (λ (what : Option Doing). DoesSo what (thread_of w'.state p u)) (sym (same u apart.1))
          (moved_does (get threads u) (thread_of w.state p u) (thread_of w'.state p u) (others u apart.1) (are u))
    ]

-- ---- a process after an entry of its own

module _ (launch : Launch) (begins : MayBegin launch.tree launch.grants) (history : List Entry) (p : ℕ) (threads : Threads) (guest : Guest) (legal : Legal launch history)
    (live : IsLiveIn (world launch history) p) (are : AreThreads (world launch history) p threads) (guest_is : guest ≡ guest_of (world launch history) p) where
  lives_there : TiedIn (world launch history) p threads [] guest phase.Lives
  lives_there = (
    record {
      live = live;
      are = are;
      guest_is = guest_is;
      registers = λ u there. subst (λ (g : Guest). IsSome (get g.regs u)) (sym guest_is)
          (legal_has_registers launch history p u begins legal live
          (does_there (get threads u) (thread_of (world launch history).state p u) (are u) there));
    },
    tt,
  )

-- ---- the start

abbrev first_doing : Threads
first_doing = insert empty 1 doing.Runs

abbrev first_made : FinMap nat_cmp Thread
first_made = insert empty 1 Runnable

first_live : (launch : Launch) → IsLiveIn (start_world launch) 0
first_live launch = ap (λ (S : State). get S.statuses 0) (first_state launch) ∙ get-insert-same empty 0 Live

first_does : (t : ℕ) → DoesSo (get first_doing t) (get first_made t)
first_does t =
    elim (eqb_tells t 1) [
      | inl is ↦ subst (λ (x : ℕ). DoesSo (get first_doing x) (get first_made x)) (sym is.1)
          (subst (λ (o : Option Doing). DoesSo o (get first_made 1)) (sym (get-insert-same empty 1 doing.Runs)) (get-insert-same empty 1 Runnable))
      | inr apart ↦ subst (λ (o : Option Doing). DoesSo o (get first_made t)) (sym (get-insert-other empty 1 doing.Runs t apart.1 ∙ get-empty nat_cmp t))
          (get-insert-other empty 1 Runnable t apart.1 ∙ get-empty nat_cmp t)
    ]

first_registered : (launch : Launch) (t : ℕ) → IsSome (get first_doing t) → IsSome (get (first_guest launch).regs t)
first_registered launch t there =
    elim (eqb_tells t 1) [
      | inl is ↦ subst (λ (x : ℕ). IsSome (get (first_guest launch).regs x)) (sym is.1)
          (subst IsSome (sym (get-insert-same empty 1 (first_registers launch.elf.entry))) refl)
      | inr apart ↦ absurd (not_true (subst IsSome (get-insert-other empty 1 doing.Runs t apart.1 ∙ get-empty nat_cmp t) there))
    ]

stands_first : (launch : Launch) → Stands (start_world launch) 0 first_doing [] (first_guest launch)
stands_first launch = record {
  live = first_live launch;
  are = λ t. subst (DoesSo (get first_doing t)) (sym (ap (λ o. thread_in o t) (first_threads launch))) (first_does t);
  guest_is = sym (first_guest_is launch);
  registers = first_registered launch;
}

first_at : (launch : Launch) → TiedIn (world launch []) 0 first_doing [] (first_guest launch) phase.Lives
first_at launch =
    subst (λ (w : World). TiedIn w 0 first_doing [] (first_guest launch) phase.Lives) (sym (world_none launch)) (stands_first launch, tt)

pub tied_first : (launch : Launch) (pass : Passing) (threads : Threads) (turns : List ℕ) (guest : Guest) → pass ≡ new_pass
    → threads ≡ first_doing → turns ≡ [] → guest ≡ first_guest launch
    → Tied launch pass (record { guest = guest; threads = threads; turns = turns }) phase.Lives
tied_first launch pass threads turns guest new one none is =
    subst (λ (x : Passing × Body). Tied launch x.0 x.1 phase.Lives)
    (λ i. (sym new i, record { guest = sym is i; threads = sym one i; turns = sym none i })) (first_at launch)

-- ---- a turn

module _ (w : World) (p t : ℕ) (threads : Threads) (turns : List ℕ) (guest : Guest) (tied : TiedIn w p threads turns guest phase.Lives)
    (runs : get threads t ≡ Some doing.Runs) (some : 0 < guest.left) where
  -- the guest after the turn
  abbrev after : Guest
  after = turned_guest guest t

  may : MayTurn w.state p (turned_guest_by turns (guest_of w p)) t
  may = (
    subst (λ (o : Option Doing). DoesSo o (thread_of w.state p t)) runs (tied.0.are t),
    subst (λ (g : Guest). 0 < g.left) tied.0.guest_is some,
  )

  registers_after : (u : ℕ) → IsSome (get threads u) → IsSome (get after.regs u)
  registers_after u there =
      elim (eqb_tells u t) [
        | inl is ↦ subst (λ (x : ℕ). IsSome (get after.regs x)) (sym is.1) (subst IsSome (sym (get-insert-same guest.regs t _)) refl)
        | inr apart ↦ subst IsSome (sym (get-insert-other guest.regs t _ u apart.1)) (tied.0.registers u there)
      ]

  stands_after : Stands w p threads (turns ++ t ∷ []) after
  stands_after = record {
    live = tied.0.live;
    are = tied.0.are;
    guest_is = ap (λ (g : Guest). turned_guest g t) tied.0.guest_is ∙ sym (turned_more turns t (guest_of w p));
    registers = registers_after;
  }

  ends_there : (end : TurnEnd) → end ≡ turn_end guest t → turn_end (turned_guest_by turns (guest_of w p)) t ≡ end
  ends_there end is = sym (is ∙ ap (λ (g : Guest). turn_end g t) tied.0.guest_is)

  last : (end : TurnEnd) → end ≡ turn_end guest t → LastEnds w.state p (guest_of w p) (turns ++ t ∷ []) t end
  last end is = (turns, refl, tied.1, may, ends_there end is)

  tied_after : (end : TurnEnd) → end ≡ turn_end guest t → TiedIn w p threads (turns ++ t ∷ []) after (phase_after_turn t end)
  tied_after turn_end_is.Quantum is =
      (stands_after, whole_more w.state p turns t (guest_of w p) tied.1 may (ends_there turn_end_is.Quantum is))
  tied_after turn_end_is.Ecall is = (stands_after, runs, last turn_end_is.Ecall is)
  tied_after (turn_end_is.Trap signal) is = (stands_after, runs, last (turn_end_is.Trap signal) is)

pub tied_turn : (launch : Launch) (pass : Passing) (t : ℕ) (body : Body) (more : List ℕ) (after : Guest) (now later : Phase)
    (end : TurnEnd) (old : Standing) → Tied launch pass body now → standing_of pass body now ≡ old → RunsIn t old
    → 0 < old.left → more ≡ body.turns ++ t ∷ [] → after ≡ turned_guest body.guest t → end ≡ turn_end body.guest t → later ≡ phase_after_turn t end
    → Tied launch pass (record { guest = after; threads = body.threads; turns = more }) later
tied_turn launch pass t body more turned now later end old tied is runs some one did ends phase_is =
    let before : Tied launch pass body phase.Lives = subst (Tied launch pass body) (ap (λ (s : Standing). s.phase) is ∙ runs.0) tied in
    subst (λ (x : List ℕ × Guest × Phase). Tied launch pass (record { guest = x.1; threads = body.threads; turns = x.0 }) x.2)
    (λ i. (sym one i, sym did i, sym phase_is i))
    (tied_after (world launch pass.seen) pass.pid t body.threads body.turns body.guest before (ap (λ (s : Standing). get s.threads t) is ∙ runs.1)
    (subst (λ (s : Standing). 0 < s.left) (sym is) some) end ends)

-- ---- what is asked for

module _ (launch : Launch) (v : Passing) (t : ℕ) (body : Body) (now : Phase) (old : Standing) (tied : Tied launch v body now)
    (is : standing_of v body now ≡ old) where
  -- the process in the phase that contracts see
  tied_in : (seen : Phase) → old.phase ≡ seen → Tied launch v body seen
  tied_in seen there = subst (Tied launch v body) (ap (λ (s : Standing). s.phase) is ∙ there) tied

  pub calls_there : old.phase ≡ phase.Calls t → Tied launch v body (phase.Calls t)
  calls_there calls = tied_in (phase.Calls t) calls

  pub forks_there : old.phase ≡ phase.Forks t → Tied launch v body (phase.Forks t)
  forks_there forks = tied_in (phase.Forks t) forks

  pub phase_is : {seen : Phase} → old.phase ≡ seen → now ≡ seen
  phase_is there = ap (λ (s : Standing). s.phase) is ∙ there

  pub between : old.phase ≡ phase.Lives → Tied launch v body phase.Lives
  between lives = tied_in phase.Lives lives

  pub does : (what : Doing) → get old.threads t ≡ Some what → get body.threads t ≡ Some what
  does what there = ap (λ (s : Standing). get s.threads t) is ∙ there

  -- its thread has registers
  pub has_registers : old.phase ≡ phase.Calls t → IsSome (get body.guest.regs t)
  has_registers calls = let there = calls_there calls in there.0.registers t (subst IsSome (sym there.1) refl)

  pub has_registers_running : RunsIn t old → IsSome (get body.guest.regs t)
  has_registers_running runs = (tied_in phase.Lives runs.0).0.registers t (subst IsSome (sym (does doing.Runs runs.1)) refl)

  pub asks_wake : WaitsIn t old → Asks (world launch v.seen) v.pid t body asked.Wakes
  asks_wake waits =
      let there = tied_in phase.Lives waits.0 in
      let parks : Waits (thread_of (world launch v.seen).state v.pid t) =
      subst (λ (o : Option Doing). DoesSo o (thread_of (world launch v.seen).state v.pid t)) (does doing.Waits waits.1) (there.0.are t) in
      record {
        guest_is = there.0.guest_is;
        registers = there.0.registers t (subst IsSome (sym (does doing.Waits waits.1)) refl);
        whole = there.1;
        waits = record { thread = parks.0; there = parks.1; waits = parks.2 };
      }

  pub asks_end : (how : EndBy) → IsDue how t old → Asks (world launch v.seen) v.pid t body (asked.Ends how)
  asks_end (end_by.Trap signal) due = (tied_in (phase.Traps t signal) due).2
  asks_end end_by.Expire due =
      let there = tied_in phase.Lives due.0.0 in (
        there.1,
        subst (λ (o : Option Doing). DoesSo o (thread_of (world launch v.seen).state v.pid t)) (does doing.Runs due.0.1) (there.0.are t),
        sym (ap (λ (g : Guest). g.left) there.0.guest_is) ∙ ap (λ (s : Standing). s.left) is ∙ due.1,
      )

  -- an end that is due is of a thread that takes turns
  pub due_stands : (how : EndBy) → IsDue how t old → Stands (world launch v.seen) v.pid body.threads body.turns body.guest
  due_stands (end_by.Trap signal) due = (tied_in (phase.Traps t signal) due).0
  due_stands end_by.Expire due = (tied_in phase.Lives due.0.0).0

  pub due_runs : (how : EndBy) → IsDue how t old → get body.threads t ≡ Some doing.Runs
  due_runs (end_by.Trap signal) due = (tied_in (phase.Traps t signal) due).1
  due_runs end_by.Expire due = does doing.Runs due.0.1

-- a call that is no proc_fork makes no child
pub no_fork : (call : Call) → ((left : ℕ) → call ≡ ProcFork left → ⊥) → HasNoChild call
no_fork (ProcFork left) other = absurd (other left refl)
no_fork call other = tt

module _ (launch : Launch) (v : Passing) (t : ℕ) (body : Body) where
  asks_by : (call : Call) → Stands (world launch v.seen) v.pid body.threads body.turns body.guest → get body.threads t ≡ Some doing.Runs
      → LastEnds (world launch v.seen).state v.pid (guest_of (world launch v.seen) v.pid) body.turns t turn_end_is.Ecall
      → call ≡ args_of body.guest.memory (registers_of body.guest t) body.guest.left → AsksCall (world launch v.seen) v.pid t body.turns body.guest call
  asks_by call stands runs last encoded = record {
    guest_is = stands.guest_is;
    registers = stands.registers t (subst IsSome (sym runs) refl);
    asks = λ given. (last, encoded ∙ ap (λ (g : Guest). args_of g.memory (registers_of g t) g.left) stands.guest_is);
  }

  pub asks_call : (call : Call) → Tied launch v body (phase.Calls t) → call ≡ args_of body.guest.memory (registers_of body.guest t) body.guest.left
      → ((left : ℕ) → call ≡ ProcFork left → ⊥) → Asks (world launch v.seen) v.pid t body (asked.Calls call)
  asks_call call tied encoded other = (asks_by call tied.0 tied.1 tied.2 encoded, no_fork call other)

  pub asks_fork : (left : ℕ) → left ≡ body.guest.left → Tied launch v body (phase.Forks t)
      → AsksCall (world launch v.seen) v.pid t body.turns body.guest (ProcFork left)
  asks_fork left all tied = asks_by (ProcFork left) tied.0 tied.1 tied.2 (ap ProcFork all ∙ sym tied.3)

  -- a call that is a proc_fork is one with the turns that are left
  pub tied_forks : (call : Call) (left : ℕ) (later : Phase) → Tied launch v body (phase.Calls t)
      → call ≡ args_of body.guest.memory (registers_of body.guest t) body.guest.left → call ≡ ProcFork left → later ≡ phase.Forks t → Tied launch v body later
  tied_forks call left later there encoded forks phase_is =
      let fork : args_of body.guest.memory (registers_of body.guest t) body.guest.left ≡ ProcFork left = sym encoded ∙ forks in
      let all : left ≡ body.guest.left = fork_turns body.guest.memory (registers_of body.guest t) body.guest.left left fork in
      subst (Tied launch v body) (sym phase_is) (there.0, there.1, there.2, fork ∙ ap ProcFork all)

-- ---- a process after entries of others

-- what is said of the pass's process is said of the same process by the pass's number
at_pass : (launch : Launch) (v : Passing) (p : ℕ) (body : Body) (now : Phase) → v.pid ≡ p
    → TiedIn (world launch v.seen) p body.threads body.turns body.guest now → Tied launch v body now
at_pass launch v p body now same tied =
    subst (λ (q : ℕ). TiedIn (world launch v.seen) q body.threads body.turns body.guest now) (sym same) tied

-- a process that stands in a world was made there
pub made_in : (w : World) (p : ℕ) → IsLiveIn w p → Made w p
made_in w p live = subst IsSome (sym live) refl

-- at a history to which entries of others alone led, the process is what it was, if it is live
pub same_at : (launch : Launch) → MayBegin launch.tree launch.grants → (p : ℕ) (seen log : List Entry) → Legal launch log → Later p seen log
    → IsLiveIn (world launch seen) p → IsLiveIn (world launch log) p → Same (world launch log) (world launch seen) p
same_at launch begins p seen log legal later was live =
    left_alone launch seen later.beginning.0 log p begins legal (sym later.beginning.1) later.same (made_in (world launch seen) p was) live

module _ (launch : Launch) (begins : MayBegin launch.tree launch.grants) (p : ℕ) (seen log : List Entry) (legal : Legal launch log) (later : Later p seen log)
    (threads : Threads) (turns : List ℕ) (was : Guest) (stands : Stands (world launch seen) p threads turns was) (live : IsLiveIn (world launch log) p) where
  there : Same (world launch log) (world launch seen) p
  there = same_at launch begins p seen log legal later stands.live live

  threads_there : threads_of (world launch log).state p ≡ threads_of (world launch seen).state p
  threads_there = same_threads (world launch log) (world launch seen) p there

  pub stands_at : Stands (world launch log) p threads turns was
  stands_at = record {
    live = live;
    are = λ u. subst (DoesSo (get threads u)) (sym (ap (λ o. thread_in o u) threads_there)) (stands.are u);
    guest_is = stands.guest_is ∙ ap (turned_guest_by turns) (sym there.guest);
    registers = stands.registers;
  }

  lives_at : AreWhole (world launch seen).state p (guest_of (world launch seen) p) turns → TiedIn (world launch log) p threads turns was phase.Lives
  lives_at whole = (
    stands_at,
    subst (λ (g : Guest). AreWhole (world launch log).state p g turns) (sym there.guest)
        (whole_there (world launch seen).state (world launch log).state p threads_there (guest_of (world launch seen) p) turns whole),
  )

-- after a look
pub looked_lives : (launch : Launch) → MayBegin launch.tree launch.grants → (v w : Passing) (body : Body) (lives : Bool)
    → Tied launch v body phase.Lives → Looked launch v w lives → lives ≡ true → Tied launch w body phase.Lives
looked_lives launch begins v w body lives tied looked on =
    at_pass launch w v.pid body phase.Lives looked.pid
    (lives_at launch begins v.pid v.seen w.seen looked.seen.legal looked.later body.threads body.turns body.guest tied.0 (looked.live.0 on) tied.1)

pub looked_gone : (launch : Launch) (v w : Passing) (body : Body) (lives : Bool) → Looked launch v w lives → lives ≡ false
    → Tied launch w body phase.Gone
looked_gone launch v w body lives looked off =
    at_pass launch w v.pid body phase.Gone looked.pid (λ alive. true≢false (sym (looked.live.1 alive) ∙ off))

-- ---- what came of what a thread asked for

module _ (launch : Launch) (log after : List Entry) (p t : ℕ) (threads : Threads) (are : AreThreads (world launch log) p threads) where
  -- nothing changed but what thread t does
  keeps_do : (threads' : Threads) → KeepsBut launch log after p t → ((u : ℕ) → u ≢ t → get threads' u ≡ get threads u)
      → DoesSo (get threads' t) (thread_of (world launch after).state p t) → AreThreads (world launch after) p threads'
  keeps_do threads' keeps same at = are_but (world launch log) (world launch after) p t threads threads' are keeps same at

  put_do : (what : Doing) → KeepsBut launch log after p t → DoesSo (Some what) (thread_of (world launch after).state p t)
      → AreThreads (world launch after) p (insert threads t what)
  put_do what keeps at =
      keeps_do (insert threads t what) keeps (get-insert-other threads t what)
      (subst (λ (o : Option Doing). DoesSo o (thread_of (world launch after).state p t)) (sym (get-insert-same threads t what)) at)

  left_do : KeepsBut launch log after p t → thread_of (world launch after).state p t ≡ None → AreThreads (world launch after) p (remove threads t)
  left_do keeps at =
      keeps_do (remove threads t) keeps (get-remove-other threads t)
      (subst (λ (o : Option Doing). DoesSo o (thread_of (world launch after).state p t)) (sym (get-remove-same threads t)) at)

starts_do : (launch : Launch) (log after : List Entry) (p u : ℕ) (threads : Threads) → AreThreads (world launch log) p threads
    → HasStarted launch log after p u → AreThreads (world launch after) p (insert threads u doing.Runs)
starts_do launch log after p u threads are started = put_do launch log after p u threads are doing.Runs started.others started.runs

-- a thread that is the only one takes turns alone
alone_do : (launch : Launch) (history : List Entry) (p t : ℕ) → IsRunnable (world launch history).state p t → IsAlone launch history p t
    → AreThreads (world launch history) p (alone t)
alone_do launch history p t runs none u =
    let at : ℕ → Option Thread = thread_of (world launch history).state p in
    elim (eqb_tells u t) [
      | inl is ↦ subst (λ (x : ℕ). DoesSo (get (alone t) x) (at x)) (sym is.1)
          (subst (λ (o : Option Doing). DoesSo o (at t)) (sym (get-insert-same empty t doing.Runs)) runs)
      | inr apart ↦ subst (λ (o : Option Doing). DoesSo o (at u)) (sym (get-insert-other empty t doing.Runs u apart.1 ∙ get-empty nat_cmp u))
          (none u apart.1)
    ]

module _ (launch : Launch) (begins : MayBegin launch.tree launch.grants) (log after : List Entry) (p t : ℕ) (threads threads' : Threads) (guest : Guest) (a : Act)
    (legal : Legal launch after) (are : AreThreads (world launch log) p threads) where
  became_at : (x : After) → Became launch log p t after guest a x → threads' ≡ with_made x threads
      → TiedIn (world launch after) p (threads_after threads' t (came.Done x)) [] guest (phase_after (came.Done x))
  became_at to.Runs became is =
      lives_there launch begins after p (insert threads' t doing.Runs) guest legal became.0.live
      (subst (λ (m : Threads). AreThreads (world launch after) p (insert m t doing.Runs)) (sym is)
      (put_do launch log after p t threads are doing.Runs became.1 became.0.runnable)) became.0.guest_is
  became_at (to.Starts u) became is =
      lives_there launch begins after p threads' guest legal became.0.live
      (subst (AreThreads (world launch after) p) (sym is) (starts_do launch log after p u threads are became.1)) became.0.guest_is
  became_at to.Waits became is =
      lives_there launch begins after p (insert threads' t doing.Waits) guest legal became.0.live
      (subst (λ (m : Threads). AreThreads (world launch after) p (insert m t doing.Waits)) (sym is)
      (put_do launch log after p t threads are doing.Waits became.1 (became.0.waits.thread, became.0.waits.there, became.0.waits.waits))) became.0.guest_is
  became_at to.Leaves became is =
      lives_there launch begins after p (remove threads' t) guest legal became.0.live
      (subst (λ (m : Threads). AreThreads (world launch after) p (remove m t)) (sym is) (left_do launch log after p t threads are became.1 became.0.gone))
      became.0.guest_is
  became_at to.Begins became is =
      lives_there launch begins after p (alone t) guest legal became.0.live (alone_do launch after p t became.0.runnable became.1) became.0.guest_is
  became_at to.Lost became is = tt
  became_at to.Ended became is = became

-- what a process has after that: its threads do what came of it
abbrev pub settled : Body → ℕ → Came After → Body
settled body t result = record body { threads = threads_after body.threads t result }

module _ (launch : Launch) (begins : MayBegin launch.tree launch.grants) (v w : Passing) (t : ℕ) (body body' : Body)
    (stands : Stands (world launch v.seen) v.pid body.threads body.turns body.guest) where
  -- where the process lives on without an entry, it is as it was
  abbrev StaysAs : Asked → Type 0
  StaysAs asked.Wakes = AreWhole (world launch v.seen).state v.pid (guest_of (world launch v.seen) v.pid) body.turns
  StaysAs what = Unit {0}

  module _ (log : List Entry) (seen : IsSeen launch v.pid w.seen) (later : Later v.pid v.seen log) where
    -- where no entry came
    legal_same : w.seen ≡ log → Legal launch log
    legal_same same = subst (Legal launch) same seen.legal

    waits_at : w.pid ≡ v.pid → w.seen ≡ log → IsLiveIn (world launch log) v.pid → body' ≡ body
        → AreWhole (world launch v.seen).state v.pid (guest_of (world launch v.seen) v.pid) body.turns → Tied launch w body' phase.Lives
    waits_at pid same live kept whole =
        subst (λ (b : Body). Tied launch w b phase.Lives) (sym kept)
        (at_pass launch w v.pid body phase.Lives pid
        (subst (λ (h : List Entry). TiedIn (world launch h) v.pid body.threads body.turns body.guest phase.Lives) (sym same)
        (lives_at launch begins v.pid v.seen log (legal_same same) later body.threads body.turns body.guest stands live whole)))

    -- the process at the history at which an entry of it came
    pub stands_then : (what : Asked) → Entered launch log v.pid t body.turns what w.seen → Stands (world launch log) v.pid body.threads body.turns body.guest
    stands_then what entered =
        stands_at launch begins v.pid v.seen log
        (legal_front launch log (entry_of (head_of entered.moment v.pid t body.turns) entered.act ∷ []) (subst (Legal launch) entered.last seen.legal)) later
        body.threads body.turns body.guest stands (entered.fits.live (answers_busy what entered.act entered.answers))

  came_at : (what : Asked) (result : Came After) → IsActed launch v t body what body' w result → StaysAs what
      → Tied launch w (settled body' t result) (phase_after result)
  came_at what (came.Done x) told whole =
      let on = told.happens.came in
      let kept = told.happens.kept in
      at_pass launch w v.pid (settled body' t (came.Done x)) (phase_after (came.Done x)) told.pid
      (subst (λ (ts : List ℕ). TiedIn (world launch w.seen) v.pid (threads_after body'.threads t (came.Done x)) ts body'.guest (phase_after (came.Done x)))
      (sym kept.0)
      (became_at launch begins told.log w.seen v.pid t body.threads body'.threads body'.guest on.0.act told.seen.legal
      (stands_then told.log told.seen told.later what on.0).are x on.1.1 kept.1))
  came_at asked.Wakes came.NotReady told whole =
      waits_at told.log told.seen told.later told.pid told.happens.came.0 told.happens.came.1.0 told.happens.kept whole
  came_at (asked.Calls call) came.NotReady told whole = absurd told.happens.came.2
  came_at (asked.Ends how) came.NotReady told whole = absurd told.happens.came.2
  came_at what came.Gone told whole =
      at_pass launch w v.pid body' phase.Gone told.pid
      (subst (λ (h : List Entry). ¬ IsLiveIn (world launch h) v.pid) (sym told.happens.came.0) told.happens.came.1)
  came_at what came.NoMemory told whole = tt

  pub tied_came : (what : Asked) (result : Came After) (threads' : Threads) (later : Phase) → IsActed launch v t body what body' w result → StaysAs what
      → threads' ≡ threads_after body'.threads t result → later ≡ phase_after result → Tied launch w (record body' { threads = threads' }) later
  tied_came what result threads' later told whole threads_are phase_is =
      subst (λ (x : Threads × Phase). Tied launch w (record body' { threads = x.0 }) x.1) (λ i. (sym threads_are i, sym phase_is i))
      (came_at what result told whole)

  -- thread t has its place
  pub has_place : (what : Asked) (did : Doing) (result : Came After) → IsActed launch v t body what body' w result → get body.threads t ≡ Some did
      → HasPlaceFor t did body'.threads result
  has_place what did (came.Done to.Runs) told here = ap (λ (m : Threads). get m t) told.happens.kept.1 ∙ here
  has_place what did (came.Done (to.Starts u)) told here = tt
  has_place what did (came.Done to.Waits) told here = ap (λ (m : Threads). get m t) told.happens.kept.1 ∙ here
  has_place what did (came.Done to.Leaves) told here = tt
  has_place what did (came.Done to.Begins) told here = ap (λ (m : Threads). get m t) told.happens.kept.1 ∙ here
  has_place what did (came.Done to.Lost) told here = tt
  has_place what did (came.Done to.Ended) told here = tt
  has_place what did came.NotReady told here = tt
  has_place what did came.Gone told here = tt
  has_place what did came.NoMemory told here = tt

-- ---- a proc_fork

-- it is a call after which the thread goes on
acted_fork : (launch : Launch) (log now : List Entry) (p t : ℕ) (body : Body) (call : Call) (body' : Body) (result : Came (Option (ℕ × Guest)))
    → IsForkedOn launch log p t body call body' now result → IsActedOn launch log p t body (asked.Calls call) body' now (going_on result)
acted_fork launch log now p t body call body' (came.Done None) on =
    record { came = (on.came.0, (tt, (on.came.1.0, on.came.1.1))); kept = on.kept; unanswered = tt }
acted_fork launch log now p t body call body' (came.Done (Some child)) on =
    record { came = (on.came.0, (tt, (on.came.1.0, on.came.1.1))); kept = on.kept; unanswered = tt }
acted_fork launch log now p t body call body' came.NotReady on = record { came = on.came; kept = on.kept; unanswered = tt }
acted_fork launch log now p t body call body' came.Gone on = record { came = on.came; kept = on.kept; unanswered = tt }
acted_fork launch log now p t body call body' came.NoMemory on = record { came = on.came; kept = on.kept; unanswered = tt }

same_going : (result : Came (Option (Passing × Guest))) → going_on (by_number result) ≡ going_on result
same_going (came.Done None) = refl
same_going (came.Done (Some child)) = refl
same_going came.NotReady = refl
same_going came.Gone = refl
same_going came.NoMemory = refl

pub fork_is_acted : (launch : Launch) (v w : Passing) (t : ℕ) (body : Body) (call : Call) (body' : Body) (result : Came (Option (Passing × Guest))) (ran : Came After)
    → IsForked launch v t body call body' w result → ran ≡ going_on result → IsActed launch v t body (asked.Calls call) body' w ran
fork_is_acted launch v w t body call body' result ran told is =
    subst (IsActed launch v t body (asked.Calls call) body' w) (same_going result ∙ sym is) (record {
      pid = told.pid;
      seen = told.seen;
      log = told.log;
      later = told.later;
      happens = acted_fork launch told.log w.seen v.pid t body call body' (by_number result) told.happens.0;
    })

-- the child, which has its thread alone
pub tied_child : (launch : Launch) → MayBegin launch.tree launch.grants → (v : Passing) (t : ℕ) (seen : List Entry) (threads : Threads) (turns : List ℕ)
    (guest : Guest) → v.seen ≡ seen → IsChild launch seen t v.pid guest → threads ≡ alone t → turns ≡ []
    → Tied launch v (record { guest = guest; threads = threads; turns = turns }) phase.Lives
tied_child launch begins v t seen threads turns guest same child one none =
    subst (λ (x : List Entry × Threads × List ℕ). TiedIn (world launch x.0) v.pid x.1 x.2 guest phase.Lives) (λ i. (sym same i, sym one i, sym none i))
    (lives_there launch begins seen v.pid (alone t) guest child.seen.legal child.goes_on.live
    (alone_do launch seen v.pid t child.goes_on.runnable child.alone) child.goes_on.guest_is)
