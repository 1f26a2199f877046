-- Threads, random bytes and clocks in legal histories.
--     step_of, guest_after, runs_before      what an entry is whose call has succeeded
--     new_thread_begins, ended_thread_is_gone      a thread that is made, and one that has ended
--     program_begins      a process in which another program begins
--     between, thread_numbers_go_up, gone_stays_gone, others_keep_threads      threads in histories
--     draw_is_own, draws_are_apart, canary_is_apart, numbers_suffice, clocks_go_on      random bytes, bounds and clocks
use Rattle.std.proofs.Common.{◌≡◌, ◌≢◌, ◌⊎◌, inl, inr, ℕ, ◌+◌, ◌<◌, ◌≤◌, Bool, true, false, List, [], ◌∷◌, ◌++◌, Option, Some, None, IsSome, is_some, refl, sym, ap, subst, ◌∙◌, arith}
use Rattle.std.proofs.lemmas.Bool.Decides.{eqb_tells}
use Rattle.std.proofs.lemmas.List.{append_assoc}
use Rattle.std.specs.Option.{option_map}
use Rattle.std.specs.Ordering.{nat_cmp}
use Rattle.std.specs.Prelude.{if◌then◌else◌}
use Rattle.std.specs.FinMap.{empty, get, insert}
use Rattle.clock_random.specs.Random.{random_bytes, words_of}
use Rattle.abi_base.specs.declared.signal.Signal.TheVariants.{Kill, Xcpu}
use Rattle.abi_base.specs.Registers.{Registers}
use Rattle.abi_structures.specs.declared.structures.ThreadAttr.{ThreadAttr}
use Rattle.abi_types.specs.declared.call.Call.{Call}
use Rattle.abi_types.specs.declared.call.Call.TheVariants.{ClockTimeGet, ProcExec, RandomGet, ThreadCreate, ThreadExit}
use Rattle.abi_types.specs.declared.counts.Counts.{Counts}
use Rattle.abi_types.specs.declared.reply.Answer.{Answer}
use Rattle.abi_types.specs.declared.reply.Answer.TheVariants as answer
use Rattle.abi_types.specs.declared.reply.Payload.TheVariants.{Content}
use Rattle.abi_types.specs.declared.reply.Reply.{Reply}
use Rattle.abi_types.specs.declared.status.Status.TheVariants.{Live, Killed}
use Rattle.abi_types.specs.declared.thread.Thread.{Thread}
use Rattle.abi_types.specs.declared.thread.Thread.TheVariants.{Runnable}
use Rattle.abi_types.specs.declared.who.Who.{Who}
use Rattle.run_types.specs.declared.history.Act.{Act}
use Rattle.run_types.specs.declared.history.Act.TheVariants as act
use Rattle.run_types.specs.declared.history.Entry.{Entry}
use Rattle.run_types.specs.declared.launch.Launch.{Launch}
use Rattle.call_codec.specs.Bounded.{IsBounded}
use Rattle.call_codec.specs.Put.{answered_of}
use Rattle.call_codec.specs.Start.{thread_registers}
use Rattle.kernel_model.specs.Families.ClockCalls.{is_real, time_of}
use Rattle.kernel_model.specs.Laws.{HasSameProcess, IsKilled}
use Rattle.kernel_model.specs.State.{ProcessState, State, counts_in, thread_in, thread_of}
use Rattle.kernel_model.specs.Step.{IsStep}
use Rattle.kernel_model.specs.Threads.{child_told, ends_caller, is_success, makes_thread, next_number}
use Rattle.kernel_model.specs.Valid.{IsValid}
use Rattle.kernel_model.proofs.Steps.{step_moves_only}
use Rattle.kernel_model.proofs.Tests.{none_is_no, not_true}
use Rattle.kernel_model.proofs.ThreadLaws.{create_number, random_is_drawn, thread_is_made, time_is}
use Rattle.kernel_model.proofs.Waking.{wake_moves_only}
use Rattle.maps.specs.Maps.{get-insert-same}
use Rattle.tree_model.specs.Grants.{MayBegin}
use Rattle.run_model.specs.Ends.{turns_taken}
use Rattle.run_model.specs.Legal.{FitsAct, Fits, FollowsFrom, IsRunnable, Legal}
use Rattle.run_model.specs.Own.{is_idle, IsLiveIn, Made}
use Rattle.run_model.specs.ThreadLaws.{place_of, CanaryIsApart, ClocksGoOn, DrawIsOwn, DrawsAreApart, EndedThreadIsGone, GoneStaysGone, HasBegun, NewThreadBegins, NumbersSuffice, OthersKeepThreads, ProgramBegins, Succeeds, ThreadNumbersGoUp}
use Rattle.run_model.specs.World.{World, Guest, acted, answered_guest, apply, apply_all, begun_guest, called_guest, called_state, guest_of, or_no_registers, registers_of, start_world, turned, who_of, woken_state, world}
use Rattle.run_model.proofs.Calls.{ended_by}
use Rattle.run_model.proofs.Counts.{all_bound, all_counts, call_counts, counts_of, entry_counts, start_words, NoLess, Within}
use Rattle.run_model.proofs.Ends.{apply_made, apply_process, killed_is_not_live}
use Rattle.run_model.proofs.Histories.{apply_is, first_guest_is, legal_front, legal_next, legal_rest, world_constants, world_rest}
use Rattle.run_model.proofs.Own.{born_is_new, idle_leaves, live_before, live_through, made_later, other_process, same_threads}
use Rattle.run_model.proofs.Potentials.{turns_are_bounded}
use Rattle.run_model.proofs.Registers.{call_guest}
use Rattle.run_model.proofs.Running.{none_while_live, thread_lives}
use Rattle.run_model.proofs.ThreadRegisters.{called_ended, called_kept, called_made}
use Rattle.run_model.proofs.Worlds.{apply_clock, apply_valid, first_valid, follows_least, world_is_valid}

-- ---- an entry whose call has succeeded

act_step : (w : World) (who : Who) (guest : Guest) (ts : List ℕ) (a : Act) (call : Call) (given : Answer) → a ≡ act.Call call given
    → FitsAct w.constants w.state who guest ts a → IsStep w.constants w.state who call given (acted (turned w who.pid ts) who a).state
act_step w who guest ts a call given is =
    subst (λ x. FitsAct w.constants w.state who guest ts x → IsStep w.constants w.state who call given (acted (turned w who.pid ts) who x).state) (sym is)
    (λ fits. fits.1)

step_of : (w : World) (e : Entry) (p : ℕ) (call : Call) (reply : Reply) → Fits w e → Succeeds e p call reply
    → IsStep w.constants w.state (who_of w.state e) call (answer.Reply reply) (apply w e).state
step_of w e p call reply fits succeeds =
    subst (λ (v : World). IsStep w.constants w.state (who_of w.state e) call (answer.Reply reply) v.state) (sym (apply_is w e))
    (act_step w (who_of w.state e) (guest_of w e.pid) e.turns e.act call (answer.Reply reply) succeeds.act fits.act)

act_runs : (w : World) (who : Who) (guest : Guest) (ts : List ℕ) (a : Act) (call : Call) (given : Answer) → a ≡ act.Call call given
    → FitsAct w.constants w.state who guest ts a → IsRunnable w.state who.pid who.tid
act_runs w who guest ts a call given is =
    subst (λ x. FitsAct w.constants w.state who guest ts x → IsRunnable w.state who.pid who.tid) (sym is) (λ fits. fits.0.0.3.0)

-- its thread ran before it
runs_before : (w : World) (e : Entry) (p : ℕ) (call : Call) (reply : Reply) → Fits w e → Succeeds e p call reply → IsRunnable w.state e.pid e.tid
runs_before w e p call reply fits succeeds =
    act_runs w (who_of w.state e) (guest_of w e.pid) e.turns e.act call (answer.Reply reply) succeeds.act fits.act

act_guest : (w : World) (who : Who) (ts : List ℕ) (a : Act) (call : Call) (given : Answer) → a ≡ act.Call call given → child_told call given ≡ None
    → guest_of (acted (turned w who.pid ts) who a) who.pid ≡ answered_guest who.pid (guest_of (turned w who.pid ts) who.pid) who.tid call given
act_guest w who ts a call given is none =
    subst (λ x. guest_of (acted (turned w who.pid ts) who x) who.pid ≡ answered_guest who.pid (guest_of (turned w who.pid ts) who.pid) who.tid call given) (sym is)
    (call_guest (turned w who.pid ts) who call given (λ same. none_is_no who.pid (sym none ∙ same)))

-- the guest after it, if it makes no child
guest_after : (w : World) (e : Entry) (p : ℕ) (call : Call) (reply : Reply) → Succeeds e p call reply → child_told call (answer.Reply reply) ≡ None
    → guest_of (apply w e) e.pid ≡ answered_guest e.pid (guest_of (turned w e.pid e.turns) e.pid) e.tid call (answer.Reply reply)
guest_after w e p call reply succeeds none =
    ap (λ (v : World). guest_of v e.pid) (apply_is w e) ∙ act_guest w (who_of w.state e) e.turns e.act call (answer.Reply reply) succeeds.act none

is_live : (w : World) (e : Entry) (p : ℕ) (call : Call) (reply : Reply) → Fits w e → Succeeds e p call reply → IsLiveIn w e.pid
is_live w e p call reply fits succeeds = fits.live (ap is_idle succeeds.act)

-- ---- a new thread

module _ (w : World) (e : Entry) (attributes : ThreadAttr) (reply : Reply) (fits : Fits w e) (succeeds : Succeeds e e.pid (ThreadCreate attributes) reply) where
  abbrev who : Who
  who = who_of w.state e

  abbrev given : Answer
  given = answer.Reply reply

  step : IsStep w.constants w.state who (ThreadCreate attributes) given (apply w e).state
  step = step_of w e e.pid (ThreadCreate attributes) reply fits succeeds

  makes : makes_thread (ThreadCreate attributes) given ≡ true
  makes = ap is_success succeeds.done

  number : (reply.r1 ≡ next_number w.state e.pid) × (thread_of w.state e.pid (next_number w.state e.pid) ≡ None)
  number = create_number w.constants w.state who (ThreadCreate attributes) given (apply w e).state step makes

  new_absent : thread_of w.state e.pid reply.r1 ≡ None
  new_absent = ap (thread_of w.state e.pid) number.0 ∙ number.1

  new_is_other : reply.r1 ≢ e.tid
  new_is_other same =
      none_is_no Runnable (sym new_absent ∙ ap (thread_of w.state e.pid) same ∙ runs_before w e e.pid (ThreadCreate attributes) reply fits succeeds)

  abbrev before : Guest
  before = guest_of (turned w e.pid e.turns) e.pid

  new_has : get (guest_of (apply w e) e.pid).regs reply.r1 ≡ Some (thread_registers attributes reply.r1)
  new_has =
      ap (λ (g : Guest). get g.regs reply.r1) (guest_after w e e.pid (ThreadCreate attributes) reply succeeds refl)
      ∙ called_made (insert before.regs e.tid (answered_of (registers_of before e.tid) (ThreadCreate attributes) given)) e.tid attributes given makes

  maker_has : registers_of (guest_of (apply w e) e.pid) e.tid ≡ answered_of (registers_of before e.tid) (ThreadCreate attributes) given
  maker_has =
      let own : Registers = answered_of (registers_of before e.tid) (ThreadCreate attributes) given in
      ap (λ (g : Guest). registers_of g e.tid) (guest_after w e e.pid (ThreadCreate attributes) reply succeeds refl)
      ∙ ap or_no_registers (called_kept (insert before.regs e.tid own) e.tid (ThreadCreate attributes) given e.tid (λ _. refl)
      (λ _ same. new_is_other (sym same)))
      ∙ ap or_no_registers (get-insert-same before.regs e.tid own)

  new_runs : IsValid w.state → thread_of (apply w e).state e.pid reply.r1 ≡ Some Runnable
  new_runs valid =
      let made = thread_is_made w.constants w.state who attributes reply (apply w e).state valid step succeeds.done in
      let live : get (apply w e).state.statuses e.pid ≡ Some Live =
      ap (λ (S : State). get S.statuses e.pid) made.leaves ∙ is_live w e e.pid (ThreadCreate attributes) reply fits succeeds in
      let leaves = (step_moves_only w.constants w.state who (ThreadCreate attributes) given (apply w e).state step).threads live in
      ap (thread_of (apply w e).state e.pid) number.0 ∙ (leaves.makes makes).1

own_succeeds : (e : Entry) (p : ℕ) (call : Call) (reply : Reply) → Succeeds e p call reply → Succeeds e e.pid call reply
own_succeeds e p call reply succeeds = record { process = refl; act = succeeds.act; done = succeeds.done }

pub new_thread_begins : NewThreadBegins
new_thread_begins w e p t attributes valid fits made =
    let reply : Reply = made.0 in
    let succeeds = own_succeeds e p (ThreadCreate attributes) reply made.1 in
    subst (λ q. HasBegun w e q t attributes) made.1.process
    (subst (λ u. HasBegun w e e.pid u attributes) made.2 (record {
      absent = new_absent w e attributes reply fits succeeds;
      runs = new_runs w e attributes reply fits succeeds valid;
      registers = new_has w e attributes reply fits succeeds;
      other = new_is_other w e attributes reply fits succeeds;
      maker = λ other also. maker_has w e attributes other fits (own_succeeds e e.pid (ThreadCreate attributes) other also);
    }))

-- ---- a thread that has ended

pub ended_thread_is_gone : EndedThreadIsGone
ended_thread_is_gone w e p t valid fits ended =
    let call : Call = ThreadExit ended.0 ended.1 ended.2 in
    let reply : Reply = ended.3 in
    let succeeds = own_succeeds e p call reply ended.4 in
    let before : Guest = guest_of (turned w e.pid e.turns) e.pid in
    let ends : ends_caller call (answer.Reply reply) ≡ true = ap is_success succeeds.done in
    let who : Who = who_of w.state e in
    let T = (apply w e).state in
    subst (λ q. (thread_of T q t ≡ None) × (get (guest_of (apply w e) q).regs t ≡ None)) ended.4.process
    (subst (λ u. (thread_of T e.pid u ≡ None) × (get (guest_of (apply w e) e.pid).regs u ≡ None)) ended.5 (
      none_while_live T e.pid e.tid (apply_valid w e fits valid) (λ live.
          ((step_moves_only w.constants w.state who call (answer.Reply reply) T (step_of w e e.pid call reply fits succeeds)).threads live).ended ends),
      ap (λ (g : Guest). get g.regs e.tid) (guest_after w e e.pid call reply succeeds refl)
          ∙ called_ended (insert before.regs e.tid (answered_of (registers_of before e.tid) call (answer.Reply reply))) e.tid call (answer.Reply reply) ends,
    ))

-- ---- another program

pub program_begins : ProgramBegins
program_begins w e fd bytes fds reply fits succeeds live =
    let call : Call = ProcExec fd bytes fds in
    let given : Answer = answer.Reply reply in
    let T = (apply w e).state in
    let guest : Guest = guest_of (turned w e.pid e.turns) e.pid in
    let done : is_success reply.errno ≡ true = ap is_success succeeds.done in
    let step = step_of w e e.pid call reply fits succeeds in
    let leaves = (step_moves_only w.constants w.state (who_of w.state e) call given T step).threads live in
    record {
      thread = record {
        live = live;
        runs = leaves.goes_on refl refl refl ∙ runs_before w e e.pid call reply fits succeeds;
        alone = leaves.alone done;
      };
      guest = guest_after w e e.pid call reply succeeds refl
          ∙ ap (λ (b : Bool). if b then begun_guest guest e.pid e.tid bytes reply.payload else called_guest guest e.tid call given) done;
    }

-- ---- two entries of a history

record Between (launch : Launch) (front : List Entry) (e : Entry) (middle : List Entry) (f : Entry) : Type 0 where
  first : Fits (world launch front) e
  follows : FollowsFrom (apply (world launch front) e) middle
  is : world launch (front ++ e ∷ middle) ≡ apply_all (apply (world launch front) e) middle
  second : Fits (world launch (front ++ e ∷ middle)) f

next_all : (w : World) (e : Entry) (middle : List Entry) → apply_all w (e ∷ middle) ≡ apply_all (apply w e) middle
unfolding apply_all
next_all w e middle = refl

next_follows : (w : World) (e : Entry) (middle : List Entry) → FollowsFrom w (e ∷ middle) → FollowsFrom (apply w e) middle
unfolding FollowsFrom
next_follows w e middle follows = follows.1

between : (launch : Launch) (front : List Entry) (e : Entry) (middle : List Entry) (f : Entry) (rest : List Entry)
    → Legal launch (front ++ e ∷ (middle ++ f ∷ rest)) → Between launch front e middle f
between launch front e middle f rest legal =
    let other : Legal launch ((front ++ e ∷ middle) ++ f ∷ rest) = subst (Legal launch) (sym (append_assoc front (e ∷ middle) (f ∷ rest))) legal in
    record {
      first = legal_next launch front e (middle ++ f ∷ rest) legal;
      follows = next_follows (world launch front) e middle
          (legal_rest launch front (e ∷ middle) (legal_front launch (front ++ e ∷ middle) (f ∷ rest) other));
      is = world_rest launch front (e ∷ middle) ∙ next_all (world launch front) e middle;
      second = legal_next launch (front ++ e ∷ middle) f rest other;
    }

-- a process that did the first, and that is to do the second, lives between them
lives_between : (launch : Launch) (front : List Entry) (e : Entry) (middle : List Entry) (f : Entry) (p : ℕ) → IsValid (world launch front).state
    → Between launch front e middle f → Made (apply (world launch front) e) p → IsLiveIn (world launch (front ++ e ∷ middle)) p
    → IsLiveIn (apply (world launch front) e) p
lives_between launch front e middle f p valid b made live =
    live_through (apply (world launch front) e) middle p (apply_valid (world launch front) e b.first valid) b.follows made
    (subst (λ (v : World). IsLiveIn v p) b.is live)

-- the counts between them
counts_between : (launch : Launch) (front : List Entry) (e : Entry) (middle : List Entry) (f : Entry) (p : ℕ) → IsValid (world launch front).state
    → Between launch front e middle f → Made (apply (world launch front) e) p → IsLiveIn (world launch (front ++ e ∷ middle)) p
    → NoLess (counts_of (apply (world launch front) e) p) (counts_of (world launch (front ++ e ∷ middle)) p)
counts_between launch front e middle f p valid b made live =
    subst (λ (v : World). NoLess (counts_of (apply (world launch front) e) p) (counts_of v p)) (sym b.is)
    (all_counts (apply (world launch front) e) middle p (apply_valid (world launch front) e b.first valid) b.follows made
    (subst (λ (v : World). IsLiveIn v p) b.is live))

-- who does an entry lives before it, and is made after it
doer_lives : (w : World) (e : Entry) (p : ℕ) (call : Call) (reply : Reply) → Fits w e → Succeeds e p call reply → IsLiveIn w p
doer_lives w e p call reply fits succeeds = subst (IsLiveIn w) succeeds.process (fits.live (ap is_idle succeeds.act))

doer_made : (w : World) (e : Entry) (p : ℕ) (call : Call) (reply : Reply) → Fits w e → Succeeds e p call reply → Made (apply w e) p
doer_made w e p call reply fits succeeds = apply_made w e p fits (ap is_some (doer_lives w e p call reply fits succeeds))

-- ---- numbers of threads

-- the number of a thread that an entry makes
number_of : (w : World) (e : Entry) (p t : ℕ) (attributes : ThreadAttr) (reply : Reply) → Fits w e → Succeeds e p (ThreadCreate attributes) reply
    → reply.r1 ≡ t → t ≡ (counts_of w p).threads + 1
number_of w e p t attributes reply fits succeeds is =
    sym is ∙ (number w e attributes reply fits (own_succeeds e p (ThreadCreate attributes) reply succeeds)).0
    ∙ ap (λ q. (counts_of w q).threads + 1) succeeds.process

pub thread_numbers_go_up : ThreadNumbersGoUp
thread_numbers_go_up launch front e middle f rest p t u first second begins legal made other =
    let b = between launch front e middle f rest legal in
    let w = world launch front in
    let valid = world_is_valid launch front begins (legal_front launch front (e ∷ (middle ++ f ∷ rest)) legal) in
    let first_is : t ≡ (counts_of w p).threads + 1 = number_of w e p t first made.0 b.first made.1 made.2 in
    let ends : u ≡ (counts_of (world launch (front ++ e ∷ middle)) p).threads + 1 =
    number_of (world launch (front ++ e ∷ middle)) f p u second other.0 b.second other.1 other.2 in
    let there = doer_made w e p (ThreadCreate first) made.0 b.first made.1 in
    let live = doer_lives (world launch (front ++ e ∷ middle)) f p (ThreadCreate second) other.0 b.second other.1 in
    let on = subst (IsLiveIn (apply w e)) (sym made.1.process) (lives_between launch front e middle f p valid b there live) in
    let counted = (call_counts w e (ThreadCreate first) (answer.Reply made.0) b.first on made.1.act).0
    ∙ ap (λ x. (counts_of w e.pid).threads + (if x then 1 else 0)) (ap is_success made.1.done) in
    let one : (counts_of (apply w e) p).threads ≡ (counts_of w p).threads + 1 =
    subst (λ q. (counts_of (apply w e) q).threads ≡ (counts_of w q).threads + 1) made.1.process counted in
    let more : (counts_of (apply w e) p).threads ≤ (counts_of (world launch (front ++ e ∷ middle)) p).threads = (counts_between launch front e middle f p valid b there live).threads in
    omega (arith, first_is, ends, one, more)

-- a number, of a thread that isn't there, that was counted if the process lives
record IsSpent (w : World) (p t : ℕ) : Type 0 where
  counted : IsLiveIn w p → t ≤ (counts_of w p).threads
  gone : thread_of w.state p t ≡ None
  made : Made w p

other_gone : (S T : State) (q t : ℕ) → HasSameProcess T S q ⊎ IsKilled S T q → thread_of S q t ≡ None → thread_of T q t ≡ None
other_gone S T q t (inl same) gone = ap (λ o. thread_in (option_map (λ (own : ProcessState). own.threads) o) t) same.1 ∙ gone
other_gone S T q t (inr killed) gone =
    ap (λ o. thread_in (option_map (λ (own : ProcessState). own.threads) o) t) killed.0.1

some_or_none : (o : Option Thread) → IsSome o ⊎ (o ≡ None)
some_or_none None = inr refl
some_or_none (Some thread) = inl refl

-- a call or a wake of the process itself gives no thread such a number
act_gone : (w : World) (who : Who) (guest : Guest) (ts : List ℕ) (a : Act) (t : ℕ) → FitsAct w.constants w.state who guest ts a
    → t ≤ (counts_of w who.pid).threads → thread_of w.state who.pid t ≡ None → get (acted w who a).state.statuses who.pid ≡ Some Live
    → thread_of (acted w who a).state who.pid t ≡ None
act_gone w who guest ts (act.Call call given) t fits counted gone live =
    let T = called_state w.constants w.state who call given in
    elim (some_or_none (thread_of T who.pid t)) [
      | inl there ↦ (
          let new : t ≡ (counts_of w who.pid).threads + 1 =
          (((step_moves_only w.constants w.state who call given T fits.1).threads live).made t gone there).1 in
          absurd (omega (arith, counted, new)))
      | inr none ↦ none
    ]
act_gone w who guest ts (act.Wake call given answered) t fits counted gone live =
    let T = woken_state w.constants w.state who call given answered in
    elim (some_or_none (thread_of T who.pid t)) [
      | inl there ↦ (
          let new : t ≡ (counts_of w who.pid).threads + 1 =
          ((wake_moves_only w.constants w.state who call given answered T fits.1.1).made live t gone there).1 in
          absurd (omega (arith, counted, new)))
      | inr none ↦ none
    ]
act_gone w who guest ts (act.Trap signal) t fits counted gone live =
    absurd (ended_by w.state who.pid (Killed signal) (killed_is_not_live signal) live)
act_gone w who guest ts act.Expire t fits counted gone live = absurd (ended_by w.state who.pid (Killed Xcpu) (killed_is_not_live Xcpu) live)
act_gone w who guest ts act.Idle t fits counted gone live = gone

entry_gone : (w : World) (e : Entry) (p t : ℕ) → IsValid w.state → Fits w e → IsSpent w p t → thread_of (apply w e).state p t ≡ None
entry_gone w e p t valid fits spent =
    elim (eqb_tells p e.pid) [
      | inl is ↦ subst (λ q. IsSpent w q t → thread_of (apply w e).state q t ≡ None) (sym is.1)
          (λ own. none_while_live (apply w e).state e.pid t (apply_valid w e fits valid)
          (λ live. subst (λ (v : World). get v.state.statuses e.pid ≡ Some Live → thread_of v.state e.pid t ≡ None) (sym (apply_is w e))
          (act_gone (turned w e.pid e.turns) (who_of w.state e) (guest_of w e.pid) e.turns e.act t fits.act
          (own.counted (live_before w e e.pid valid fits own.made live)) own.gone) live)) spent
      | inr apart ↦ other_gone w.state (apply w e).state p t
          (apply_process w e p valid fits apart.1 (λ there. (born_is_new w e p valid fits there).0 spent.made)) spent.gone
    ]

entry_spent : (w : World) (e : Entry) (p t : ℕ) → IsValid w.state → Fits w e → IsSpent w p t → IsSpent (apply w e) p t
entry_spent w e p t valid fits spent =
    record {
      counted = λ live. (
          let counted = spent.counted (live_before w e p valid fits spent.made live) in
          let more = (entry_counts w e p valid fits live).threads in
          omega (arith, counted, more));
      gone = entry_gone w e p t valid fits spent;
      made = apply_made w e p fits spent.made;
    }

all_spent : (w : World) (history : List Entry) (p t : ℕ) → IsValid w.state → FollowsFrom w history → IsSpent w p t → IsSpent (apply_all w history) p t
unfolding FollowsFrom apply_all
all_spent w [] p t valid follows spent = spent
all_spent w (e ∷ history) p t valid follows spent =
    all_spent (apply w e) history p t (apply_valid w e follows.0 valid) follows.1 (entry_spent w e p t valid follows.0 spent)

thread_made : (S : State) (p t : ℕ) → IsValid S → IsSome (thread_of S p t) → IsSome (get S.statuses p)
thread_made S p t valid there =
    elim (thread_of S p t) as (λ o. thread_of S p t ≡ o → IsSome (get S.statuses p)) [
      | None ↦ λ none. absurd (not_true (subst IsSome none there))
      | Some thread ↦ λ is. ap is_some (thread_lives S p t thread valid is)
    ] refl

pub gone_stays_gone : GoneStaysGone
gone_stays_gone launch front middle rest p t begins legal there gone =
    let w = world launch front in
    let other : Legal launch ((front ++ middle) ++ rest) = subst (Legal launch) (sym (append_assoc front middle rest)) legal in
    let early : Legal launch (front ++ middle) = legal_front launch (front ++ middle) rest other in
    let valid = world_is_valid launch front begins (legal_front launch front middle early) in
    let first : t ≤ (counts_of w p).threads = valid.nearly.numbered p t there in
    let was = thread_made w.state p t valid there in
    let more : IsLiveIn (world launch (front ++ middle)) p → (counts_of w p).threads ≤ (counts_of (world launch (front ++ middle)) p).threads =
    subst (λ (v : World). IsLiveIn v p → (counts_of w p).threads ≤ (counts_of v p).threads) (sym (world_rest launch front middle))
    (λ live. (all_counts w middle p valid (legal_rest launch front middle early) was live).threads) in
    let made = made_later launch front middle p early was in
    let spent = all_spent (world launch (front ++ middle)) rest p t (world_is_valid launch (front ++ middle) begins early)
    (legal_rest launch (front ++ middle) rest other) (record { counted = λ live. (let grown = more live in omega (arith, first, grown)); gone = gone; made = made }) in
    subst (λ (v : World). thread_of v.state p t ≡ None)
    (sym (world_rest launch (front ++ middle) rest) ∙ ap (world launch) (append_assoc front middle rest)) spent.gone

pub others_keep_threads : OthersKeepThreads
others_keep_threads w e q valid fits other unborn =
    elim (is_idle e.act) as (λ b. is_idle e.act ≡ b → ((t : ℕ) → thread_of (apply w e).state q t ≡ thread_of w.state q t)
    ⊎ ((get (apply w e).state.statuses q ≡ Some (Killed Kill)) × ((t : ℕ) → thread_of (apply w e).state q t ≡ None))) [
      | true ↦ λ idle. inl (λ t. ap (λ o. thread_in o t) (same_threads (apply w e) w q (idle_leaves w e q fits idle)))
      | false ↦ λ done. elim (apply_process w e q valid fits (other_process q e done other) unborn) [
        | inl same ↦ inl (λ t. ap (λ o. thread_in (option_map (λ (own : ProcessState). own.threads) o) t) same.1)
        | inr killed ↦ inr (
          killed.1.1,
          λ t. ap (λ o. thread_in (option_map (λ (own : ProcessState). own.threads) o) t) killed.0.1,
        )
      ]
    ] refl

-- ---- random bytes

pub draw_is_own : DrawIsOwn
draw_is_own w e p length reply valid fits draws =
    let drawn = random_is_drawn w.constants w.state (who_of w.state e) length reply (apply w e).state valid
    (step_of w e p (RandomGet length) reply fits draws) draws.done in
    ap (λ (r : Reply). r.payload) drawn.bytes
    ∙ ap (λ o. Content (random_bytes w.constants.key e.pid (counts_in o).words length)) (sym drawn.there)
    ∙ ap (λ q. Content (random_bytes w.constants.key q (place_of w q) length)) draws.process

pub draws_are_apart : DrawsAreApart
draws_are_apart launch front e middle f rest p length size reply other begins legal draws later =
    let b = between launch front e middle f rest legal in
    let w = world launch front in
    let valid = world_is_valid launch front begins (legal_front launch front (e ∷ (middle ++ f ∷ rest)) legal) in
    let there = doer_made w e p (RandomGet length) reply b.first draws in
    let live = doer_lives (world launch (front ++ e ∷ middle)) f p (RandomGet size) other b.second later in
    let on = subst (IsLiveIn (apply w e)) (sym draws.process) (lives_between launch front e middle f p valid b there live) in
    let counted = (call_counts w e (RandomGet length) (answer.Reply reply) b.first on draws.act).1
    ∙ ap (λ x. (counts_of w e.pid).words + (if x then words_of length else 0)) (ap is_success draws.done) in
    let moved : (counts_of (apply w e) p).words ≡ (counts_of w p).words + words_of length =
    subst (λ q. (counts_of (apply w e) q).words ≡ (counts_of w q).words + words_of length) draws.process counted in
    let more : (counts_of (apply w e) p).words ≤ (counts_of (world launch (front ++ e ∷ middle)) p).words = (counts_between launch front e middle f p valid b there live).words in
    subst (λ n. n ≤ place_of (world launch (front ++ e ∷ middle)) p) moved more

first_made : (launch : Launch) → Made (start_world launch) 0
unfolding start_world
first_made launch = ap is_some (get-insert-same (empty {R = nat_cmp}) 0 Live)

first_words : (launch : Launch) (history : List Entry) → MayBegin launch.tree launch.grants → Legal launch history → IsLiveIn (world launch history) 0
    → (counts_of (start_world launch) 0).words ≤ (counts_of (world launch history) 0).words
unfolding Legal world
first_words launch history begins legal live = (all_counts (start_world launch) history 0 (first_valid launch begins) legal (first_made launch) live).words

pub canary_is_apart : CanaryIsApart
canary_is_apart = record {
  memory = λ launch. ap (λ (g : Guest). g.memory) (first_guest_is launch);
  behind = λ launch history begins legal live. (
      let start : (counts_of (start_world launch) 0).words ≡ 16 = start_words launch in
      let more = first_words launch history begins legal live in
      let all : words_of 64 ≡ 16 = refl in
      omega (arith, start, more, all));
}

-- ---- bounds

first_bound : (launch : Launch) (history : List Entry) (p : ℕ) → IsBounded launch → Legal launch history
    → Within (counts_of (world launch history) p) (turns_taken history)
unfolding Legal world
first_bound launch history p bounded legal = all_bound launch history p (first_valid launch bounded.begins) legal

pub numbers_suffice : NumbersSuffice
numbers_suffice launch history p length own bounded legal there few =
    let bound = first_bound launch history p bounded legal in
    let turns : turns_taken history ≤ launch.turns = turns_are_bounded launch history legal in
    let most : launch.turns ≤ 1000000000 = bounded.turns in
    let same : counts_of (world launch history) p ≡ own.counts = ap counts_in there in
    let threads : (counts_of (world launch history) p).threads ≡ own.counts.threads = ap (λ (c : Counts). c.threads) same in
    let words : (counts_of (world launch history) p).words ≡ own.counts.words = ap (λ (c : Counts). c.words) same in
    let first = bound.threads in
    let second = bound.words in
    (omega (arith, first, turns, most, threads), omega (arith, second, turns, most, words, few))

-- ---- clocks

no_earlier : (w : World) (history : List Entry) → FollowsFrom w history → w.state.clock ≤ (apply_all w history).state.clock
no_earlier w history follows = let least = follows_least w history follows in omega (arith, least)

clock_less : (real : Bool) (moment later epoch : ℕ) → moment < later → (if real then moment + epoch else moment) < (if real then later + epoch else later)
clock_less true moment later epoch less = omega (arith, less)
clock_less false moment later epoch less = less

pub clocks_go_on : ClocksGoOn
clocks_go_on launch front e middle f rest p q clock precision finer reply other legal first second =
    let b = between launch front e middle f rest legal in
    let w = world launch front in
    let v = world launch (front ++ e ∷ middle) in
    let epoch = launch.constants.epoch in
    let one : reply.r1 ≡ time_of launch.constants clock (w.state.clock + 1000) =
    time_is w.constants w.state (who_of w.state e) clock precision reply (apply w e).state (step_of w e p (ClockTimeGet clock precision) reply b.first first) first.done
    ∙ ap (λ c. time_of c clock (w.state.clock + 1000)) (world_constants launch front) in
    let two : other.r1 ≡ time_of launch.constants clock (v.state.clock + 1000) =
    time_is v.constants v.state (who_of v.state f) clock finer other (apply v f).state (step_of v f q (ClockTimeGet clock finer) other b.second second) second.done
    ∙ ap (λ c. time_of c clock (v.state.clock + 1000)) (world_constants launch (front ++ e ∷ middle)) in
    let here : w.state.clock + 1000 ≤ (apply w e).state.clock = (apply_clock w e b.first).least in
    let there : (apply w e).state.clock ≤ v.state.clock =
    subst (λ (u : World). (apply w e).state.clock ≤ u.state.clock) (sym b.is) (no_earlier (apply w e) middle b.follows) in
    let less : time_of launch.constants clock (w.state.clock + 1000) < time_of launch.constants clock (v.state.clock + 1000) =
    clock_less (is_real clock) (w.state.clock + 1000) (v.state.clock + 1000) epoch (omega (arith, here, there)) in
    subst (λ n. n < other.r1) (sym one) (subst (λ n. time_of launch.constants clock (w.state.clock + 1000) < n) (sym two) less)
