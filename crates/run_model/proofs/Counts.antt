-- How many threads and random words processes have counted.
--     act_counts      what an act adds to its process's counts
--     entry_counts, all_counts      no entry takes from a count
--     entry_bound, all_bound      they are no more than the turns that were taken allow
--     start_counts      the counts at the start
use Rattle.std.proofs.Common.{◌≡◌, ◌≢◌, inl, inr, ℕ, ◌+◌, ◌*◌, ◌≤◌, true, false, Contains, List, [], ◌∷◌, length, Some, None, refl, sym, ap, subst, ◌∙◌, arith}
use Rattle.std.proofs.lemmas.Bool.Decides.{eqb_tells}
use Rattle.std.specs.Ordering.{nat_cmp}
use Rattle.std.specs.Prelude.{if◌then◌else◌}
use Rattle.std.specs.FinMap.{empty, get, get-empty}
use Rattle.clock_random.specs.Random.{words_of}
use Rattle.abi_base.specs.declared.signal.Signal.TheVariants.{Xcpu}
use Rattle.abi_types.specs.declared.call.Call.{Call}
use Rattle.abi_types.specs.declared.call.Call.TheVariants.{ProcExec, RandomGet}
use Rattle.abi_types.specs.declared.counts.Counts.{Counts}
use Rattle.abi_types.specs.declared.reply.Answer.{Answer}
use Rattle.abi_types.specs.declared.status.Status.{Status}
use Rattle.abi_types.specs.declared.status.Status.TheVariants.{Killed, Live}
use Rattle.abi_types.specs.declared.who.Who.{Who}
use Rattle.run_types.specs.declared.history.Act.{Act}
use Rattle.run_types.specs.declared.history.Act.TheVariants as act
use Rattle.run_types.specs.declared.history.Entry.{Entry}
use Rattle.run_types.specs.declared.launch.Launch.{Launch}
use Rattle.kernel_model.specs.Start.{first_process}
use Rattle.kernel_model.specs.State.{State, counts_in, no_counts}
use Rattle.kernel_model.specs.Step.{end_state}
use Rattle.kernel_model.specs.Threads.{is_done, makes_thread, threads_made, words_drawn}
use Rattle.kernel_model.specs.Valid.{IsValid}
use Rattle.kernel_model.specs.Waits.{may_wait, MayWait}
use Rattle.kernel_model.proofs.Steps.{end_ends_only, step_moves_only, unless_killed}
use Rattle.kernel_model.proofs.Tests.{same_some}
use Rattle.kernel_model.proofs.Valids.{dead_process, live_or_dead}
use Rattle.kernel_model.proofs.Threads.{waited_draws, waited_keeps}
use Rattle.kernel_model.proofs.Waking.{wake_moves_only}
use Rattle.maps.specs.Maps.{get-insert-same, get-insert-other}
use Rattle.rv_interp.specs.declared.turns.TurnEnd.TheVariants.{Ecall}
use Rattle.call_codec.proofs.ThreadOutputs.{random_written}
use Rattle.run_model.specs.Ends.{turns_taken}
use Rattle.run_model.specs.Legal.{FitsAct, Fits, FollowsFrom}
use Rattle.run_model.specs.World.{World, Guest, acted, apply, apply_all, called_state, guest_of, registers_of, start_world, turned, turned_guest_by, who_of, woken_state}
use Rattle.run_model.specs.Own.{born, IsLiveIn, Made}
use Rattle.run_model.proofs.Births.{born_is_made}
use Rattle.run_model.proofs.BornParts.{is_child_of}
use Rattle.run_model.proofs.Ends.{apply_made, apply_process, killed_is_not_live}
use Rattle.run_model.proofs.Histories.{apply_is}
use Rattle.run_model.proofs.Own.{born_or_not, live_through}
use Rattle.run_model.proofs.Potentials.{last_take}
use Rattle.run_model.proofs.Worlds.{apply_valid}

abbrev pub counts_of : World → ℕ → Counts
counts_of w p = counts_in (get w.state.processes p)

-- ---- the process of an entry

-- how many threads an act makes, and how many words it draws
abbrev act_threads : Act → ℕ
act_threads (act.Call call given) = threads_made call given
act_threads (act.Wake call given answered) = threads_made call answered
act_threads _ = 0

abbrev act_words : Act → ℕ
act_words (act.Call call given) = words_drawn call given
act_words (act.Wake call given answered) = words_drawn call answered
act_words _ = 0

record Adds (before after : Counts) (made drawn : ℕ) : Type 0 where
  threads : after.threads ≡ before.threads + made
  words : after.words ≡ before.words + drawn

same_adds : (before after : Counts) → after ≡ before → Adds before after 0 0
same_adds before after same =
    let threads : after.threads ≡ before.threads = ap (λ (c : Counts). c.threads) same in
    let words : after.words ≡ before.words = ap (λ (c : Counts). c.words) same in
    record { threads = omega (arith, threads); words = omega (arith, words) }

ended_live : (S : State) (p : ℕ) (status : Status) → status ≢ Live → get (end_state S p status).statuses p ≡ Some Live → ⊥
ended_live S p status dead live = dead (same_some status Live (sym (end_ends_only S p status dead).stands ∙ live))

act_counts : (w : World) (who : Who) (guest : Guest) (ts : List ℕ) (a : Act) → FitsAct w.constants w.state who guest ts a
    → IsLiveIn (acted w who a) who.pid → Adds (counts_of w who.pid) (counts_in (get (acted w who a).state.processes who.pid)) (act_threads a) (act_words a)
act_counts w who guest ts (act.Call call given) fits live =
    let counts = (step_moves_only w.constants w.state who call given (called_state w.constants w.state who call given) fits.1).counts live in
    record { threads = counts.threads; words = counts.words }
act_counts w who guest ts (act.Wake call given answered) fits live =
    let counts = (wake_moves_only w.constants w.state who call given answered (woken_state w.constants w.state who call given answered) fits.1.1).counts live in
    record { threads = counts.threads; words = counts.words }
act_counts w who guest ts (act.Trap signal) fits live = absurd (ended_live w.state who.pid (Killed signal) (killed_is_not_live signal) live)
act_counts w who guest ts act.Expire fits live = absurd (ended_live w.state who.pid (Killed Xcpu) (killed_is_not_live Xcpu) live)
act_counts w who guest ts act.Idle fits live = same_adds _ _ refl

own_counts : (w : World) (e : Entry) → Fits w e → IsLiveIn (apply w e) e.pid
    → Adds (counts_of w e.pid) (counts_of (apply w e) e.pid) (act_threads e.act) (act_words e.act)
own_counts w e fits =
    subst (λ (v : World). IsLiveIn v e.pid → Adds (counts_of w e.pid) (counts_of v e.pid) (act_threads e.act) (act_words e.act)) (sym (apply_is w e))
    (act_counts (turned w e.pid e.turns) (who_of w.state e) (guest_of w e.pid) e.turns e.act fits.act)

-- a call adds to the counts of its process, if that lives on, what it makes and draws
pub call_counts : (w : World) (e : Entry) (call : Call) (given : Answer) → Fits w e → IsLiveIn (apply w e) e.pid → e.act ≡ act.Call call given
    → ((counts_of (apply w e) e.pid).threads ≡ (counts_of w e.pid).threads + threads_made call given)
    × ((counts_of (apply w e) e.pid).words ≡ (counts_of w e.pid).words + words_drawn call given)
call_counts w e call given fits live is =
    let counts = own_counts w e fits live in (
      counts.threads ∙ ap (λ a. (counts_of w e.pid).threads + act_threads a) is,
      counts.words ∙ ap (λ a. (counts_of w e.pid).words + act_words a) is,
    )

-- ---- the other processes

other_counts : (w : World) (e : Entry) (q : ℕ) → IsValid w.state → Fits w e → IsLiveIn (apply w e) q → q ≢ e.pid → ¬ Contains (born e.act) q
    → counts_of (apply w e) q ≡ counts_of w q
other_counts w e q valid fits live apart unborn =
    ap counts_in (unless_killed w.state (apply w e).state q live (apply_process w e q valid fits apart unborn)).1

-- of one that doesn't live nothing is counted
dead_counts : (w : World) (q : ℕ) → IsValid w.state → (IsLiveIn w q → ⊥) → counts_of w q ≡ no_counts
dead_counts w q valid dead = ap counts_in (dead_process w.state q valid.nearly dead)

-- a child has counted its parent's threads, and drawn nothing
record IsCounted (before parent after : Counts) : Type 0 where
  fresh : before ≡ no_counts
  threads : after.threads ≡ parent.threads
  words : after.words ≡ 0

act_born : (w : World) (who : Who) (guest : Guest) (ts : List ℕ) (a : Act) (q : ℕ) → IsValid w.state → FitsAct w.constants w.state who guest ts a
    → Contains (born a) q → IsCounted (counts_of w q) (counts_of w who.pid) (counts_in (get (acted w who a).state.processes q))
act_born w who guest ts (act.Call call given) q valid fits there =
    let T = called_state w.constants w.state who call given in
    let is = is_child_of w.constants w.state who call given T q valid fits.1 (born_is_made w.constants w.state who call given T q fits.1 there) in
    record {
      fresh = ap counts_in is.new;
      threads = ap (λ o. (counts_in o).threads) is.child ∙ sym (ap (λ o. (counts_in o).threads) is.parent);
      words = ap (λ o. (counts_in o).words) is.child;
    }
act_born w who guest ts (act.Wake call given answered) q valid fits there = absurd (omega (arith, there.1))
act_born w who guest ts (act.Trap signal) q valid fits there = absurd (omega (arith, there.1))
act_born w who guest ts act.Expire q valid fits there = absurd (omega (arith, there.1))
act_born w who guest ts act.Idle q valid fits there = absurd (omega (arith, there.1))

entry_born : (w : World) (e : Entry) (q : ℕ) → IsValid w.state → Fits w e → Contains (born e.act) q
    → IsCounted (counts_of w q) (counts_of w e.pid) (counts_of (apply w e) q)
entry_born w e q valid fits there =
    subst (λ (v : World). IsCounted (counts_of w q) (counts_of w e.pid) (counts_of v q)) (sym (apply_is w e))
    (act_born (turned w e.pid e.turns) (who_of w.state e) (guest_of w e.pid) e.turns e.act q valid fits.act there)

-- ---- no count of a process that lives falls

pub record NoLess (before after : Counts) : Type 0 where
  pub threads : before.threads ≤ after.threads
  pub words : before.words ≤ after.words

same_no_less : (before after : Counts) → after ≡ before → NoLess before after
same_no_less before after same =
    let threads : after.threads ≡ before.threads = ap (λ (c : Counts). c.threads) same in
    let words : after.words ≡ before.words = ap (λ (c : Counts). c.words) same in
    record { threads = omega (arith, threads); words = omega (arith, words) }

pub entry_counts : (w : World) (e : Entry) (q : ℕ) → IsValid w.state → Fits w e → IsLiveIn (apply w e) q → NoLess (counts_of w q) (counts_of (apply w e) q)
entry_counts w e q valid fits live =
    elim (eqb_tells q e.pid) [
      | inl is ↦ (
          let adds = own_counts w e fits (subst (IsLiveIn (apply w e)) is.1 live) in
          let threads = adds.threads in
          let words = adds.words in
          subst (λ p. NoLess (counts_of w p) (counts_of (apply w e) p)) (sym is.1)
          (record { threads = omega (arith, threads); words = omega (arith, words) }))
      | inr apart ↦ elim (born_or_not e.act q) [
        | inl there ↦ (
            let fresh = (entry_born w e q valid fits there).fresh in
            let threads : (counts_of w q).threads ≡ 0 = ap (λ (c : Counts). c.threads) fresh in
            let words : (counts_of w q).words ≡ 0 = ap (λ (c : Counts). c.words) fresh in
            record { threads = omega (arith, threads); words = omega (arith, words) })
        | inr unborn ↦ same_no_less (counts_of w q) (counts_of (apply w e) q) (other_counts w e q valid fits live apart.1 unborn)
      ]
    ]

pub all_counts : (w : World) (history : List Entry) (q : ℕ) → IsValid w.state → FollowsFrom w history → Made w q → IsLiveIn (apply_all w history) q
    → NoLess (counts_of w q) (counts_of (apply_all w history) q)
unfolding FollowsFrom apply_all
all_counts w [] q valid follows made live = record { threads = omega arith; words = omega arith }
all_counts w (e ∷ history) q valid follows made live =
    let valid_then = apply_valid w e follows.0 valid in
    let there = apply_made w e q follows.0 made in
    let here = entry_counts w e q valid follows.0 (live_through (apply w e) history q valid_then follows.1 there live) in
    let later = all_counts (apply w e) history q valid_then follows.1 there live in
    let threads = here.threads in
    let more = later.threads in
    let words = here.words in
    let further = later.words in
    record { threads = omega (arith, threads, more); words = omega (arith, words, further) }

-- ---- bounds

one_thread : (call : Call) (given : Answer) → threads_made call given ≤ 1
one_thread call given = elim (makes_thread call given) as (λ b. (if b then 1 else 0) ≤ 1) [ true ↦ omega arith | false ↦ omega arith ]

few_words : (call : Call) (given : Answer) → ((n : ℕ) → call ≡ RandomGet n → n ≤ 65536) → words_drawn call given ≤ 16384
few_words (RandomGet n) given few =
    elim (is_done given) as (λ b. (if b then words_of n else 0) ≤ 16384) [
      | true ↦ (let most = few n refl in omega (arith, most))
      | false ↦ omega arith
    ]
few_words (ProcExec fd bytes fds) given few =
    elim (is_done given) as (λ b. (if b then 16 else 0) ≤ 16384) [ true ↦ omega arith | false ↦ omega arith ]
few_words _ given few = omega arith

-- an act adds one thread at most, and 16,384 words, where its thread took a turn
record IsFew (a : Act) (turns : ℕ) : Type 0 where
  threads : act_threads a ≤ turns
  words : act_words a ≤ 16384 * turns

none_few : (a : Act) (turns : ℕ) → act_threads a ≡ 0 → act_words a ≡ 0 → IsFew a turns
none_few a turns threads words = record { threads = omega (arith, threads); words = omega (arith, words) }

act_few : (w : World) (who : Who) (ts : List ℕ) (a : Act) → IsValid w.state → FitsAct w.constants w.state who (guest_of w who.pid) ts a → IsFew a (length ts)
act_few w who ts (act.Call call given) valid fits =
    let took = (last_take w.state who.pid (guest_of w who.pid) ts who.tid Ecall fits.0.0).1 in
    let one = one_thread call given in
    let after = turned_guest_by ts (guest_of w who.pid) in
    let few = few_words call given (λ n is. (random_written after.memory (registers_of after who.tid) after.left n (sym fits.0.1 ∙ is)).0) in
    record { threads = omega (arith, took, one); words = omega (arith, took, few) }
act_few w who ts (act.Wake call given answered) valid fits =
    let may : may_wait call ≡ true = (subst MayWait fits.0.1.3 (valid.nearly.waits who.pid who.tid)).0 in
    none_few (act.Wake call given answered) (length ts) (ap (λ b. if b then 1 else 0) (waited_keeps call answered may).2) (waited_draws call answered may)
act_few w who ts (act.Trap signal) valid fits = none_few (act.Trap signal) (length ts) refl refl
act_few w who ts act.Expire valid fits = none_few act.Expire (length ts) refl refl
act_few w who ts act.Idle valid fits = none_few act.Idle (length ts) refl refl

-- no more than so many turns allow
pub record Within (counts : Counts) (turns : ℕ) : Type 0 where
  pub threads : counts.threads ≤ 1 + turns
  pub words : counts.words ≤ 16 + 16384 * turns

abbrev AllWithin : World → ℕ → Type 0
AllWithin w turns = (q : ℕ) → Within (counts_of w q) turns

live_bound : (w : World) (e : Entry) (n : ℕ) → IsValid w.state → Fits w e → AllWithin w n → (q : ℕ) → IsLiveIn (apply w e) q
    → Within (counts_of (apply w e) q) (n + length e.turns)
live_bound w e n valid fits before q live =
    let own = before e.pid in
    let counted = own.threads in
    let drawn = own.words in
    elim (eqb_tells q e.pid) [
      | inl is ↦ (
          let adds = own_counts w e fits (subst (IsLiveIn (apply w e)) is.1 live) in
          let few = act_few w (who_of w.state e) e.turns e.act valid fits.act in
          let threads = adds.threads in
          let words = adds.words in
          let most = few.threads in
          let many = few.words in
          subst (λ p. Within (counts_of (apply w e) p) (n + length e.turns)) (sym is.1)
          (record { threads = omega (arith, threads, most, counted); words = omega (arith, words, many, drawn) }))
      | inr apart ↦ elim (born_or_not e.act q) [
        | inl there ↦ (
            let is = entry_born w e q valid fits there in
            let threads = is.threads in
            let words = is.words in
            record { threads = omega (arith, threads, counted); words = omega (arith, words) })
        | inr unborn ↦ (
            let same = other_counts w e q valid fits live apart.1 unborn in
            let here = before q in
            let first = here.threads in
            let second = here.words in
            let threads : (counts_of (apply w e) q).threads ≡ (counts_of w q).threads = ap (λ (c : Counts). c.threads) same in
            let words : (counts_of (apply w e) q).words ≡ (counts_of w q).words = ap (λ (c : Counts). c.words) same in
            record { threads = omega (arith, threads, first); words = omega (arith, words, second) })
      ]
    ]

entry_bound : (w : World) (e : Entry) (n : ℕ) → IsValid w.state → Fits w e → AllWithin w n → AllWithin (apply w e) (n + length e.turns)
entry_bound w e n valid fits before q =
    elim (live_or_dead (get (apply w e).state.statuses q)) [
      | inl live ↦ live_bound w e n valid fits before q live
      | inr dead ↦ subst (λ (c : Counts). Within c (n + length e.turns)) (sym (dead_counts (apply w e) q (apply_valid w e fits valid) dead))
          (record { threads = omega arith; words = omega arith })
    ]

bound_on : (w : World) (history : List Entry) (n : ℕ) → IsValid w.state → FollowsFrom w history → AllWithin w n
    → AllWithin (apply_all w history) (n + turns_taken history)
unfolding FollowsFrom apply_all
bound_on w [] n valid follows before q =
    let threads = (before q).threads in let words = (before q).words in record { threads = omega (arith, threads); words = omega (arith, words) }
bound_on w (e ∷ history) n valid follows before q =
    let later =
    bound_on (apply w e) history (n + length e.turns) (apply_valid w e follows.0 valid) follows.1 (entry_bound w e n valid follows.0 before) q in
    let threads = later.threads in
    let words = later.words in
    record { threads = omega (arith, threads); words = omega (arith, words) }

-- ---- the start

start_own : (launch : Launch) → counts_of (start_world launch) 0 ≡ first_process.counts
unfolding start_world
start_own launch = ap counts_in (get-insert-same empty 0 first_process)

start_other : (launch : Launch) (p : ℕ) → p ≢ 0 → counts_of (start_world launch) p ≡ counts_in None
unfolding start_world
start_other launch p apart = ap counts_in (get-insert-other empty 0 first_process p apart ∙ get-empty nat_cmp p)

-- process 0 has numbered its one thread, and drawn its canary
pub start_counts : (launch : Launch) (p : ℕ) → ((counts_of (start_world launch) p).threads ≤ 1) × ((counts_of (start_world launch) p).words ≤ 16)
start_counts launch p =
    elim (eqb_tells p 0) [
      | inl is ↦ (
          let same = ap (counts_of (start_world launch)) is.1 ∙ start_own launch in
          let threads : (counts_of (start_world launch) p).threads ≡ 1 = ap (λ (c : Counts). c.threads) same in
          let words : (counts_of (start_world launch) p).words ≡ 16 = ap (λ (c : Counts). c.words) same in
          (omega (arith, threads), omega (arith, words)))
      | inr other ↦ (
          let same = start_other launch p other.1 in
          let threads : (counts_of (start_world launch) p).threads ≡ 0 = ap (λ (c : Counts). c.threads) same in
          let words : (counts_of (start_world launch) p).words ≡ 0 = ap (λ (c : Counts). c.words) same in
          (omega (arith, threads), omega (arith, words)))
    ]

pub start_words : (launch : Launch) → (counts_of (start_world launch) 0).words ≡ 16
start_words launch = ap (λ (c : Counts). c.words) (start_own launch)

pub all_bound : (launch : Launch) (history : List Entry) (q : ℕ) → IsValid (start_world launch).state → FollowsFrom (start_world launch) history
    → Within (counts_of (apply_all (start_world launch) history) q) (turns_taken history)
all_bound launch history q valid follows =
    let later = bound_on (start_world launch) history 0 valid follows (λ p. (
    let start = start_counts launch p in
    let first = start.0 in
    let second = start.1 in
    record { threads = omega (arith, first); words = omega (arith, second) })) q in
    let threads = later.threads in
    let words = later.words in
    record { threads = omega (arith, threads); words = omega (arith, words) }
