-- What calls on threads, on clocks and for random bytes do.
--     state_of, step_is      the state after an outcome
--     own_left      nothing is released where a process has changed alone
--     threads_are_few, thread_is_made, create_number      thread_create
--     locks_are_let_go, exit_lets_go, exit_ends_one, exit_leaves_one      thread_exit
--     clocks_show, time_is      thread_yield and clocks
--     random_is_drawn, random_is_given, random_hangs_on_place      random_get
use Rattle.std.proofs.Common.{◌≡◌, ◌≢◌, ◌⊎◌, inl, inr, ℕ, ◌+◌, ◌-◌, ◌*◌, ◌^◌, ◌%◌, ◌<◌, ◌≤◌, ◌==◌, ◌&&◌, not, Bool, true, false, Option, Some, None, IsSome, is_some, refl, sym, ap, subst, ◌∙◌, arith}
use Rattle.std.proofs.lemmas.Bool.{eq-eqb, le-ltb, lt-ltb, ltb-true}
use Rattle.std.proofs.lemmas.Bool.Decides.{eqb_tells}
use Rattle.std.specs.Option.{option_map}
use Rattle.std.specs.Prelude.{if◌then◌else◌, nat_lt, List}
use Rattle.std.specs.Ordering.{nat_cmp}
use Rattle.std.specs.FinMap.{empty, empty_of_len, get, get-empty, len, len-empty, remove}
use Rattle.clock_random.specs.Random.{random_bytes, words_of}
use Rattle.abi_base.specs.declared.errno.Errno.{Errno}
use Rattle.abi_base.specs.declared.errno.Errno.TheVariants.{Again, Nomem, Perm, Success}
use Rattle.abi_base.specs.declared.limits.TheConstants.{MOST_THREADS}
use Rattle.abi_structures.specs.declared.structures.ThreadAttr.{ThreadAttr}
use Rattle.abi_types.specs.declared.call.Call.{Call}
use Rattle.abi_types.specs.declared.call.Call.TheVariants.{ClockResGet, ClockTimeGet, ProcExit, RandomGet, ThreadCreate, ThreadExit, ThreadYield}
use Rattle.abi_types.specs.declared.constants.Constants.{Constants}
use Rattle.abi_types.specs.declared.reply.Answer.{Answer}
use Rattle.abi_types.specs.declared.reply.Answer.TheVariants as answer
use Rattle.abi_types.specs.declared.reply.Reply.{Reply}
use Rattle.abi_types.specs.declared.status.Status.TheVariants.{Exit, Live}
use Rattle.abi_types.specs.declared.thread.Thread.{Thread}
use Rattle.abi_types.specs.declared.who.Who.{Who}
use Rattle.fd_table.specs.Table.{Table}
use Rattle.maps.specs.Maps.{get-insert-same, get-remove-same, get-remove-other, same_numbers, passes, least_key, least_key-entry, least_key-none}
use Rattle.kernel_model.specs.Calls.{meaning_of, takes_memory}
use Rattle.kernel_model.specs.Families.ClockCalls.{can_draw, drawn_by, drawn_if, is_real, random_reply, time_of}
use Rattle.kernel_model.specs.Families.LockWords.{holding_of_low, read_by, unheld, written_by}
use Rattle.kernel_model.specs.Families.Locks.{hands_on, leaves, refuses, release_as, release_of, released_word, unlocked_own}
use Rattle.kernel_model.specs.Families.ProcessCalls.{can_make_thread, end_updates, has_next_number, is_last_thread, left_in, left_with, made_if, made_in}
use Rattle.kernel_model.specs.Outcome.{Outcome, replies}
use Rattle.kernel_model.specs.OwnChanges.{drawn_more, is_success, next_thread, with_next_thread, without_thread}
use Rattle.kernel_model.specs.PollLaws.{shown}
use Rattle.kernel_model.specs.Release.{release}
use Rattle.kernel_model.specs.Reply.{refused, success}
use Rattle.kernel_model.specs.State.{ProcessState, State, Threads, counts_in, put_all, put_one, set_process, thread_in, thread_of}
use Rattle.kernel_model.specs.Step.{outcome, step_answer, step_state, tick, IsStep}
use Rattle.kernel_model.specs.Threads.{ends_caller, first_result, makes_thread, next_number}
use Rattle.kernel_model.specs.ThreadLaws.{with_own, ClocksShow, ExitEndsOne, ExitLetsGo, IsCaller, IsDrawn, IsThreadMade, LocksAreLetGo, OnlyAnswers, RandomHangsOnPlace, RandomIsDrawn, RandomIsGiven, ThreadIsMade, ThreadsAreFew}
use Rattle.kernel_model.specs.Valid.{IsNearlyValid, IsValid}
use Rattle.kernel_model.specs.View.{whole}
use Rattle.kernel_model.specs.Waits.{waiting, waits_if}
use Rattle.kernel_model.proofs.ClockCalls.{drawn_holds}
use Rattle.kernel_model.proofs.OwnChanges.{drawn_grows, set_process_nearly_valid, thread_grows, Grows}
use Rattle.kernel_model.proofs.Outcomes.{outcome_holds, outcome_of_table}
use Rattle.kernel_model.proofs.ProcessCalls.{ended_live}
use Rattle.kernel_model.proofs.Refusals.{same_reply}
use Rattle.kernel_model.proofs.Steps.{released_threads}
use Rattle.kernel_model.proofs.Tests.{not_true, same_some}
use Rattle.kernel_model.proofs.ThreadCalls.{last_unlocked, left_holds, left_nearly_valid, made_holds}
use Rattle.kernel_model.proofs.Threads.{refusal_of_fails}
use Rattle.kernel_model.proofs.Valids.{release_valid, tick_nearly_valid, tick_valid}

-- ---- the state after an outcome

abbrev pub state_of : Constants → State → Who → Call → Outcome → State
state_of constants S who call o = release (waits_if o.answer who (waiting constants call who (S.clock + 1000)) (put_all o.updates (tick S)))

-- what an outcome comes to that is a success
abbrev pub Comes : (Reply → State → Type 0) → Constants → State → Who → Call → Outcome → Type 0
Comes P constants S who call o =
    (reply : Reply) → answer.Reply reply ≡ o.answer → reply.errno ≡ Success → P reply (state_of constants S who call o)

not_success : (errno : Errno) (reply : Reply) → is_success errno ≡ false → reply.errno ≡ errno → reply.errno ≡ Success → ⊥
not_success errno reply isnt is done = not_true (sym isnt ∙ ap is_success (sym is ∙ done))

pub fails : {X : Type 0} (errno : Errno) (reply : Reply) → is_success errno ≡ false → answer.Reply reply ≡ answer.Reply (refused errno) → reply.errno ≡ Success → X
fails errno reply isnt is done =
    absurd (not_success errno reply isnt (ap (λ (r : Reply). r.errno) (same_reply reply (refused errno) is)) done)

pub success_is : (errno : Errno) → is_success errno ≡ true → errno ≡ Success
success_is Success is = refl
success_is _ is = absurd (not_true is)

-- what each outcome comes to that is a success, each step with one does
step_comes : (P : Reply → State → Type 0) (constants : Constants) (S : State) (who : Who) (call : Call) (reply : Reply) (T : State)
    → ((table : Table) → Comes P constants S who call ((meaning_of call).effect constants (whole (tick S)) who table))
    → IsStep constants S who call (answer.Reply reply) T → reply.errno ≡ Success → P reply T
step_comes P constants S who call reply T comes (inl done) success =
    subst (P reply) (sym done.1)
    (outcome_holds (Comes P constants S who call) constants S who call
    (λ refusal refuses given is done. absurd (not_true (sym (refusal_of_fails call (get S.tables who.pid) refusal refuses)
    ∙ ap (λ (r : Reply). is_success r.errno) (sym (same_reply given refusal is)) ∙ ap is_success done)))
    (λ table _. comes table) reply done.0 success)
step_comes P constants S who call reply T comes (inr lacking) success = fails Nomem reply refl lacking.1 success

-- nothing is released where one process of a valid state has changed alone
left_alone : (S : State) (p : ℕ) (new : ProcessState) → IsNearlyValid (put_one (set_process p new) (tick S)) → IsValid S
    → release (put_one (set_process p new) (tick S)) ≡ with_own S p new
left_alone S p new nearly valid =
    release_valid (put_one (set_process p new) (tick S)) (record { nearly = nearly; held = valid.held; kept = valid.kept; going = valid.going })

own_left : (S : State) (p : ℕ) (own new : ProcessState) → get S.processes p ≡ Some own → Grows own new → IsValid S
    → release (put_one (set_process p new) (tick S)) ≡ with_own S p new
own_left S p own new there grows valid =
    left_alone S p new (set_process_nearly_valid (tick S) p own new there grows (tick_nearly_valid S valid.nearly)) valid

the_table : (o : Option Table) → IsSome o → (table : Table) × (o ≡ Some table)
the_table None there = absurd (not_true there)
the_table (Some table) there = (table, refl)

-- a process of a valid state has a table
table_of : (S : State) (p : ℕ) (own : ProcessState) → IsValid S → get S.processes p ≡ Some own → (table : Table) × (get S.tables p ≡ Some table)
table_of S p own valid there =
    the_table (get S.tables p) (valid.nearly.tables p ∙ sym (valid.nearly.owns p) ∙ ap is_some there)

-- ---- thread_create

create_is : (constants : Constants) (S : State) (who : Who) (attributes : ThreadAttr) (own : ProcessState) → IsValid S → get S.processes who.pid ≡ Some own
    → step_answer constants S who (ThreadCreate attributes) ≡ (made_if (can_make_thread who.tid own) who.pid own).answer
create_is constants S who attributes own valid there =
    let table = table_of S who.pid own valid there in
    ap (λ (o : Outcome). o.answer) (outcome_of_table constants S who (ThreadCreate attributes) table.0 table.1)
    ∙ ap (λ o. (made_in who.pid who.tid o).answer) there

-- no thread of a valid state has the next number
next_is_free : (S : State) (p : ℕ) (own : ProcessState) → IsValid S → get S.processes p ≡ Some own → is_some (get own.threads (next_thread own)) ≡ false
next_is_free S p own valid there =
    elim (is_some (get own.threads (next_thread own))) as (λ b. is_some (get own.threads (next_thread own)) ≡ b → b ≡ false) [
      | true ↦ λ some. (
          let here : IsSome (thread_of S p (next_thread own)) = ap (λ o. is_some (thread_in (option_map (λ (x : ProcessState). x.threads) o) (next_thread own))) there ∙ some in
          let counted : next_thread own ≤ (counts_in (get S.processes p)).threads = valid.nearly.numbered p (next_thread own) here in
          let count : (counts_in (get S.processes p)).threads ≡ own.counts.threads = ap (λ o. (counts_in o).threads) there in
          absurd (omega (arith, counted, count)))
      | false ↦ λ _. refl
    ] refl

can_make : (S : State) (who : Who) (own : ProcessState) → IsValid S → IsCaller S who own
    → can_make_thread who.tid own ≡ (nat_lt (len own.threads) MOST_THREADS && nat_lt (next_thread own) (2 ^ 30 - 1))
can_make S who own valid caller =
    ap (λ b. b && (nat_lt (len own.threads) MOST_THREADS && has_next_number own)) caller.1
    ∙ ap (λ b. nat_lt (len own.threads) MOST_THREADS && (not b && nat_lt (next_thread own) (2 ^ 30 - 1))) (next_is_free S who.pid own valid caller.0)

few_make : (a b : Bool) → a ≡ true → b ≡ true → (a && b) ≡ true
few_make true true first second = refl
few_make true false first second = second
few_make false b first second = first

and_false : (a b : Bool) → (a ≡ false) ⊎ (b ≡ false) → (a && b) ≡ false
and_false true b (inl isnt) = absurd (not_true (sym isnt))
and_false true b (inr isnt) = isnt
and_false false b some = refl

pub threads_are_few : ThreadsAreFew
threads_are_few = record {
  made = λ constants S who attributes own valid caller few small.
      create_is constants S who attributes own valid caller.0
      ∙ ap (λ b. (made_if b who.pid own).answer)
      (can_make S who own valid caller
      ∙ few_make (nat_lt (len own.threads) MOST_THREADS) (nat_lt (next_thread own) (2 ^ 30 - 1)) (lt-ltb (len own.threads) MOST_THREADS few)
      (lt-ltb (next_thread own) (2 ^ 30 - 1) small));
  refused = λ constants S who attributes own valid caller many.
      create_is constants S who attributes own valid caller.0
      ∙ ap (λ b. (made_if b who.pid own).answer)
      (can_make S who own valid caller
      ∙ and_false (nat_lt (len own.threads) MOST_THREADS) (nat_lt (next_thread own) (2 ^ 30 - 1)) (elim many [
        | inl all ↦ inl (le-ltb (len own.threads) MOST_THREADS all)
        | inr spent ↦ inr (le-ltb (next_thread own) (2 ^ 30 - 1) spent)
      ]));
}

pub thread_is_made : ThreadIsMade
thread_is_made constants S who attributes reply T valid step success =
    step_comes (IsThreadMade S who) constants S who (ThreadCreate attributes) reply T
    (λ table. made_holds (Comes (IsThreadMade S who) constants S who (ThreadCreate attributes)) who.pid who.tid (get S.processes who.pid)
    (λ given is done. fails Again given refl is done)
    (λ own there can given is done. record {
      own = own;
      caller = (there, can.there);
      few = ltb-true (len own.threads) MOST_THREADS can.few;
      number = same_reply given _ is;
      leaves = own_left S who.pid own (with_next_thread own) there (thread_grows own who.tid can.there) valid;
    })) step success

-- a call that makes a thread answers the next number, and no thread had that
pub create_number : (constants : Constants) (S : State) (who : Who) (call : Call) (given : Answer) (T : State) → IsStep constants S who call given T
    → makes_thread call given ≡ true → (first_result given ≡ next_number S who.pid) × (thread_of S who.pid (next_number S who.pid) ≡ None)
create_number constants S who (ThreadCreate attributes) (answer.Parked writes) T step makes = absurd (not_true makes)
create_number constants S who (ThreadCreate attributes) (answer.Reply reply) T step makes =
    let P : Reply → State → Type 0 = λ given _. (given.r1 ≡ next_number S who.pid) × (thread_of S who.pid (next_number S who.pid) ≡ None) in
    step_comes P constants S who (ThreadCreate attributes) reply T
    (λ table. made_holds (Comes P constants S who (ThreadCreate attributes)) who.pid who.tid (get S.processes who.pid)
    (λ given is done. fails Again given refl is done)
    (λ own there can given is done. (
      ap (λ (r : Reply). r.r1) (same_reply given _ is) ∙ ap (λ o. (counts_in o).threads + 1) (sym there),
      ap (λ o. thread_in (option_map (λ (x : ProcessState). x.threads) o) ((counts_in o).threads + 1)) there ∙ can.free,
    ))) step (success_is reply.errno makes)
create_number constants S who _ given T step makes = absurd (not_true makes)

-- ---- the words of locks

low_is : (low : ℕ) (t word : ℕ) → word % 2 ^ 31 ≡ low → release_of t word ≡ release_as t word (holding_of_low low)
low_is low t word is = ap (λ n. release_as t word (holding_of_low n)) is

written : (t word low owner : ℕ) → word % 2 ^ 31 ≡ low → low ≡ 2 ^ 30 + owner → release_of t word ≡ (if owner == t then hands_on else refuses)
written t word low owner is low_of =
    low_is low t word is
    ∙ elim (eqb_tells low 0) [
      | inl zero ↦ (let none : low ≡ 0 = zero.1 in absurd (omega (arith, none, low_of)))
      | inr some ↦ ap (λ b. release_as t word (if b then unheld else if nat_lt low (2 ^ 30) then read_by low else written_by (low - 2 ^ 30))) some.0
          ∙ ap (λ b. release_as t word (if b then read_by low else written_by (low - 2 ^ 30))) (le-ltb low (2 ^ 30) (omega (arith, low_of)))
          ∙ ap (λ n. release_as t word (written_by n)) owned
    ] where
      owned : low - 2 ^ 30 ≡ owner
      owned = omega (arith, low_of)

read : (t word low : ℕ) → word % 2 ^ 31 ≡ low → 0 < low → low < 2 ^ 30 → release_of t word ≡ (if nat_lt 1 low then leaves (word - 1) else hands_on)
read t word low is some few =
    low_is low t word is
    ∙ elim (eqb_tells low 0) [
      | inl zero ↦ (let none : low ≡ 0 = zero.1 in absurd (omega (arith, none, some)))
      | inr apart ↦ ap (λ b. release_as t word (if b then unheld else if nat_lt low (2 ^ 30) then read_by low else written_by (low - 2 ^ 30))) apart.0
          ∙ ap (λ b. release_as t word (if b then read_by low else written_by (low - 2 ^ 30))) (lt-ltb low (2 ^ 30) few)
    ]

not_same : (a b : ℕ) → a ≢ b → (a == b) ≡ false
not_same a b apart = elim (eqb_tells a b) [ inl is ↦ absurd (apart is.1) | inr other ↦ other.0 ]

pub locks_are_let_go : LocksAreLetGo
locks_are_let_go = record {
  free = λ t high. low_is 0 t (high * 2 ^ 31) (omega arith);
  other = λ t high owner small apart.
      written t (high * 2 ^ 31 + 2 ^ 30 + owner) (2 ^ 30 + owner) owner (omega (arith, small)) refl
      ∙ ap (λ b. if b then hands_on else refuses) (not_same owner t apart);
  writer = λ t high small.
      written t (high * 2 ^ 31 + 2 ^ 30 + t) (2 ^ 30 + t) t (omega (arith, small)) refl ∙ ap (λ b. if b then hands_on else refuses) (eq-eqb t t refl);
  readers = λ t high readers many few.
      read t (high * 2 ^ 31 + readers) readers (omega (arith, few)) (omega (arith, many)) few
      ∙ ap (λ b. if b then leaves (high * 2 ^ 31 + readers - 1) else hands_on) (lt-ltb 1 readers many) ∙ ap leaves (omega (arith, many));
  reader = λ t high. read t (high * 2 ^ 31 + 1) 1 (omega arith) (omega arith) (omega arith);
}

-- ---- thread_exit

exit_is : (constants : Constants) (S : State) (who : Who) (lock word scope : ℕ) → IsSome (get S.tables who.pid)
    → outcome constants S who (ThreadExit lock word scope) ≡ left_in who.pid who.tid lock word (get S.processes who.pid)
exit_is constants S who lock word scope has =
    let table = the_table (get S.tables who.pid) has in
    outcome_of_table constants S who (ThreadExit lock word scope) table.0 table.1

exit_refused : (p t lock word : ℕ) (o : Option ProcessState) → release_of t word ≡ refuses → (left_in p t lock word o).answer ≡ answer.Reply (refused Perm)
exit_refused p t lock word None may_not = refl
exit_refused p t lock word (Some own) may_not =
    ap (λ r. (left_with p t (Some (unlocked_own lock word t own)) lock (released_word r lock own.threads)).answer) may_not

pub exit_lets_go : ExitLetsGo
exit_lets_go = record {
  refused = λ constants S who lock word scope has may_not.
      ap (λ (o : Outcome). o.answer) (exit_is constants S who lock word scope has)
      ∙ exit_refused who.pid who.tid lock word (get S.processes who.pid) may_not;
  writes = λ constants S who lock word scope new own has there may.
      ap (λ (o : Outcome). o.answer) (exit_is constants S who lock word scope has)
      ∙ ap (λ o. (left_in who.pid who.tid lock word o).answer) there
      ∙ ap (λ w. (left_with who.pid who.tid (Some (unlocked_own lock word who.tid own)) lock w).answer) may;
}

-- a thread that is there beside another is not the last, and one beside which none is there is
not_last : (own : ProcessState) (t u : ℕ) → u ≢ t → IsSome (get own.threads u) → is_last_thread t own ≡ false
not_last own t u apart there =
    elim (eqb_tells (len (remove own.threads t)) 0) [
      | inl is ↦ (
          let none : remove own.threads t ≡ empty = empty_of_len (remove own.threads t) is.1 in
          absurd (not_true (sym (ap is_some (get-empty nat_cmp u)) ∙ sym (ap (λ (m : Threads). is_some (get m u)) none)
          ∙ ap is_some (get-remove-other own.threads t u apart) ∙ there)))
      | inr other ↦ other.0
    ]

is_last : (own : ProcessState) (t : ℕ) → ((u : ℕ) → u ≢ t → get own.threads u ≡ None) → is_last_thread t own ≡ true
is_last own t none =
    eq-eqb (len (remove own.threads t)) 0
    (ap len (same_numbers (remove own.threads t) empty (λ u. elim (eqb_tells u t) [
      | inl is ↦ ap (get (remove own.threads t)) is.1 ∙ get-remove-same own.threads t ∙ sym (get-empty nat_cmp u)
      | inr apart ↦ get-remove-other own.threads t u apart.1 ∙ none u apart.1 ∙ sym (get-empty nat_cmp u)
    ])) ∙ len-empty nat_cmp Thread)

exits_is : (constants : Constants) (S : State) (who : Who) (table : Table) → get S.tables who.pid ≡ Some table
    → step_state constants S who (ProcExit 0) ≡ release (put_all (end_updates who.pid (Exit 0)) (tick S))
exits_is constants S who table there =
    ap (state_of constants S who (ProcExit 0)) (outcome_of_table constants S who (ProcExit 0) table there)

pub exit_ends_one : ExitEndsOne
exit_ends_one = record {
  one = λ constants S who lock word scope reply T own t valid step success there apart other.
      let left : ProcessState → ProcessState = λ x. without_thread who.tid (unlocked_own lock word who.tid x) in
      let P : Reply → State → Type 0 = λ _ U. U ≡ with_own S who.pid (left own) in
      step_comes P constants S who (ThreadExit lock word scope) reply T
      (λ table. left_holds (Comes P constants S who (ThreadExit lock word scope)) who.pid who.tid lock word (get S.processes who.pid)
      (λ given is done. fails Perm given refl is done)
      (λ new x here _ last given is done. absurd (not_true (
      sym (not_last own who.tid t apart other) ∙ ap (is_last_thread who.tid) (same_some own x (sym there ∙ here))
      ∙ sym (last_unlocked lock word who.tid x) ∙ last)))
      (λ new x here _ _ given is done.
      left_alone S who.pid (left x) (left_nearly_valid (tick S) who.pid who.tid lock word x here (tick_nearly_valid S valid.nearly)) valid
      ∙ ap (λ y. with_own S who.pid (left y)) (same_some x own (sym here ∙ there)))) step success;
  last = λ constants S who lock word scope reply T own valid step success there none.
      let P : Reply → State → Type 0 = λ _ U. U ≡ step_state constants S who (ProcExit 0) in
      let table = table_of S who.pid own valid there in
      step_comes P constants S who (ThreadExit lock word scope) reply T
      (λ _. left_holds (Comes P constants S who (ThreadExit lock word scope)) who.pid who.tid lock word (get S.processes who.pid)
      (λ given is done. fails Perm given refl is done)
      (λ new x here _ _ given is done. sym (exits_is constants S who table.0 table.1))
      (λ new x here _ lasts given is done.
      absurd (not_true (sym lasts ∙ last_unlocked lock word who.tid x ∙ ap (is_last_thread who.tid) (same_some x own (sym here ∙ there))
      ∙ is_last own who.tid none)))) step success;
}

-- some key of a map that isn't empty
some_key : (m : Threads) → (len m == 0) ≡ false → (t : ℕ) × (thread : Thread) × (get m t ≡ Some thread)
some_key m more =
    elim (least_key (λ k (thread : Thread). true) m) as (λ o. least_key (λ k (thread : Thread). true) m ≡ o → (t : ℕ) × (thread : Thread) × (get m t ≡ Some thread)) [
      | Some t ↦ λ found. (let entry = least_key-entry (λ k (thread : Thread). true) m t found in (t, entry.0, entry.1))
      | None ↦ λ none. absurd (not_true (sym more ∙ eq-eqb (len m) 0
          (ap len (same_numbers m empty (λ u. nothing u (get m u) (least_key-none (λ k (thread : Thread). true) m none u) ∙ sym (get-empty nat_cmp u)))
          ∙ len-empty nat_cmp Thread)))
    ] refl where
      nothing : (k : ℕ) (o : Option Thread) → passes (λ j (thread : Thread). true) k o ≡ false → o ≡ None
      nothing k None isnt = refl
      nothing k (Some thread) isnt = absurd (not_true (sym isnt))

-- where its thread has ended and the process lives on, another thread is there
pub exit_leaves_one : (constants : Constants) (S : State) (who : Who) (call : Call) (given : Answer) (T : State) → IsStep constants S who call given T
    → ends_caller call given ≡ true → get T.statuses who.pid ≡ Some Live → (t : ℕ) × (thread : Thread) × (thread_of T who.pid t ≡ Some thread)
exit_leaves_one constants S who (ThreadExit lock word scope) (answer.Parked writes) T step ends live = absurd (not_true ends)
exit_leaves_one constants S who (ThreadExit lock word scope) (answer.Reply reply) T step ends live =
    let P : Reply → State → Type 0 =
    λ _ U. get U.statuses who.pid ≡ Some Live → (t : ℕ) × (thread : Thread) × (thread_of U who.pid t ≡ Some thread) in
    step_comes P constants S who (ThreadExit lock word scope) reply T
    (λ _. left_holds (Comes P constants S who (ThreadExit lock word scope)) who.pid who.tid lock word (get S.processes who.pid)
    (λ given is done. fails Perm given refl is done)
    (λ new own _ _ last given is done lives.
    absurd (ended_live S.statuses who.pid 0 (released_threads (put_all (end_updates who.pid (Exit 0)) (tick S)) who.pid lives).0))
    (λ new own there _ more given is done lives. (
    let unlocked : ProcessState = unlocked_own lock word who.tid own in
    let one = some_key (remove unlocked.threads who.tid) more in
    let same = (released_threads (put_one (set_process who.pid (without_thread who.tid unlocked)) (tick S)) who.pid lives).1 in (
      one.0,
      one.1,
      ap (λ o. thread_in o one.0) same
          ∙ ap (λ o. thread_in (option_map (λ (x : ProcessState). x.threads) o) one.0) (get-insert-same S.processes who.pid (without_thread who.tid unlocked)) ∙ one.2,
    )))) step (success_is reply.errno ends) live
exit_leaves_one constants S who _ given T step ends live = absurd (not_true ends)

-- ---- thread_yield and clocks

only_answers : (constants : Constants) (S : State) (who : Who) (call : Call) (reply : Reply) (given : Answer) (T : State) → takes_memory call ≡ false
    → outcome constants S who call ≡ replies reply → IsValid S → IsStep constants S who call given T → OnlyAnswers S who given T reply
only_answers constants S who call reply given T takes is valid (inl done) = (
  done.0 ∙ ap (λ (o : Outcome). o.answer) is,
  done.1 ∙ ap (state_of constants S who call) is ∙ release_valid (tick S) (tick_valid S valid),
)
only_answers constants S who call reply given T takes is valid (inr lacking) = absurd (not_true (sym takes ∙ lacking.0.0))

either_time : (real : Bool) (moment epoch : ℕ) → (if real then moment + epoch else moment) ≡ (if real then epoch + moment else moment)
either_time true moment epoch = omega arith
either_time false moment epoch = refl

-- the time that a call gives which succeeds
pub time_is : (constants : Constants) (S : State) (who : Who) (clock precision : ℕ) (reply : Reply) (T : State)
    → IsStep constants S who (ClockTimeGet clock precision) (answer.Reply reply) T → reply.errno ≡ Success → reply.r1 ≡ time_of constants clock (S.clock + 1000)
time_is constants S who clock precision reply T step success =
    step_comes (λ given _. given.r1 ≡ time_of constants clock (S.clock + 1000)) constants S who (ClockTimeGet clock precision) reply T
    (λ table given is done. ap (λ (r : Reply). r.r1) (same_reply given _ is)) step success

pub clocks_show : ClocksShow
clocks_show = record {
  yields = λ constants S who given T valid has step.
      let table = the_table (get S.tables who.pid) has in
      only_answers constants S who ThreadYield (success 0 0) given T refl (outcome_of_table constants S who ThreadYield table.0 table.1) valid step;
  resolution = λ constants S who clock given T valid has step.
      let table = the_table (get S.tables who.pid) has in
      only_answers constants S who (ClockResGet clock) (success 1000 0) given T refl (outcome_of_table constants S who (ClockResGet clock) table.0 table.1)
      valid step;
  time = λ constants S who clock precision given T valid has step.
      let table = the_table (get S.tables who.pid) has in
      only_answers constants S who (ClockTimeGet clock precision) (success (shown constants clock (S.clock + 1000)) 0) given T refl
      (outcome_of_table constants S who (ClockTimeGet clock precision) table.0 table.1
      ∙ ap (λ n. replies (success n 0)) (either_time (is_real clock) (S.clock + 1000) constants.epoch)) valid step;
}

-- ---- random bytes

pub random_is_drawn : RandomIsDrawn
random_is_drawn constants S who length reply T valid step success =
    step_comes (IsDrawn constants S who length) constants S who (RandomGet length) reply T
    (λ table. drawn_holds (Comes (IsDrawn constants S who length) constants S who (RandomGet length)) constants who.pid (get S.processes who.pid) length
    (λ given is done. fails Again given refl is done)
    (λ own there given is done. record {
      own = own;
      there = there;
      bytes = same_reply given _ is;
      leaves = own_left S who.pid own (drawn_more (words_of length) own) there (drawn_grows (words_of length) own) valid;
    })) step success

-- the answer by key, process and place
abbrev drawn_answer : List ℕ → ℕ → ℕ → ℕ → Answer
drawn_answer key p place length =
    if nat_lt (place + words_of length) (2 ^ 63) then answer.Reply (random_reply (random_bytes key p place length)) else answer.Reply (refused Again)

drawn_is : (may : Bool) (constants : Constants) (p : ℕ) (own : ProcessState) (length : ℕ)
    → (drawn_if may constants p own length).answer
    ≡ (if may then answer.Reply (random_reply (random_bytes constants.key p own.counts.words length)) else answer.Reply (refused Again))
drawn_is true constants p own length = refl
drawn_is false constants p own length = refl

random_is : (constants : Constants) (S : State) (who : Who) (own : ProcessState) (length : ℕ) → IsSome (get S.tables who.pid) → get S.processes who.pid ≡ Some own
    → step_answer constants S who (RandomGet length) ≡ drawn_answer constants.key who.pid own.counts.words length
random_is constants S who own length has there =
    let table = the_table (get S.tables who.pid) has in
    ap (λ (o : Outcome). o.answer) (outcome_of_table constants S who (RandomGet length) table.0 table.1)
    ∙ ap (λ o. (drawn_by constants who.pid o length).answer) there
    ∙ drawn_is (can_draw (words_of length) own) constants who.pid own length

pub random_is_given : RandomIsGiven
random_is_given constants S who length own has there few =
    random_is constants S who own length has there
    ∙ ap (λ b. if b then answer.Reply (random_reply (random_bytes constants.key who.pid own.counts.words length)) else answer.Reply (refused Again))
    (lt-ltb (own.counts.words + words_of length) (2 ^ 63) few)

pub random_hangs_on_place : RandomHangsOnPlace
random_hangs_on_place constants other S U who by own owned length key pid has holds there here words =
    random_is constants S who own length has there
    ∙ ap (λ k. drawn_answer k who.pid own.counts.words length) key
    ∙ ap (λ p. drawn_answer other.key p own.counts.words length) pid
    ∙ ap (λ n. drawn_answer other.key by.pid n length) words
    ∙ sym (random_is other U by owned length holds here)
