-- What threads are answered that ask for locks, let them go or wait at condition variables.
--     held_as, free_is, write_is, read_is      who has a lock, by its word
--     lock_is_asked, lock_wait_ends      polls of locks
--     lock_is_let_go, lock_comes_back      lock_unlock
--     condition_is_signalled      condvar_signal
--     condition_is_asked, condition_wait_ends      polls of condition variables
use Rattle.std.proofs.Common.{◌≡◌, ◌≢◌, ◌⊎◌, inl, inr, ℕ, ◌+◌, ◌-◌, ◌*◌, ◌/◌, ◌%◌, ◌^◌, ◌<◌, ◌≤◌, ◌==◌, Bool, true, false, List, ◌∷◌, Option, Some, None, IsSome, refl, sym, ap, subst, ◌∙◌, arith}
use Rattle.std.proofs.lemmas.Bool.{eq-eqb, le-ltb, lt-ltb, ltb-false, ltb-true}
use Rattle.std.proofs.lemmas.Bool.Decides.{eqb_tells}
use Rattle.std.proofs.lemmas.Nat.Bits.{and_pow}
use Rattle.std.specs.Int.{bit_at}
use Rattle.std.specs.Int.Bits.{or_add_and, or_shifted_r}
use Rattle.std.specs.Prelude.{if◌then◌else◌, bit_and, bit_or, nat_lt}
use Rattle.std.specs.FinMap.{get}
use Rattle.abi_base.specs.declared.errno.Errno.{Errno}
use Rattle.abi_base.specs.declared.errno.Errno.TheVariants.{Deadlk, Perm, Success, TimedOut}
use Rattle.abi_structures.specs.declared.events.Subscription.{Subscription}
use Rattle.abi_structures.specs.declared.events.What.{What}
use Rattle.abi_structures.specs.declared.events.What.TheVariants.{Condvar}
use Rattle.abi_types.specs.declared.call.Call.{Call}
use Rattle.abi_types.specs.declared.call.Call.TheVariants.{CondvarSignal, LockUnlock, Poll}
use Rattle.abi_types.specs.declared.constants.Constants.{Constants}
use Rattle.abi_types.specs.declared.reply.Answer.{Answer}
use Rattle.abi_types.specs.declared.reply.Answer.TheVariants as answer
use Rattle.abi_types.specs.declared.reply.WordWrites.{WordWrites}
use Rattle.abi_types.specs.declared.reply.WordWrites.TheVariants.{Zero, One}
use Rattle.abi_types.specs.declared.thread.Stage.{Stage}
use Rattle.abi_types.specs.declared.thread.Stage.TheVariants.{Begun, Signalled, Queued, Granted}
use Rattle.abi_types.specs.declared.needed.Needed.{Needed}
use Rattle.abi_types.specs.declared.thread.Thread.TheVariants.{Waits}
use Rattle.abi_types.specs.declared.who.Who.{Who}
use Rattle.fd_table.specs.Table.{Table}
use Rattle.maps.specs.Maps.{insert_self}
use Rattle.kernel_model.specs.Calls.{takes_memory}
use Rattle.kernel_model.specs.Families.LockCalls.{condition_outcome, error_if, lock_outcome, signal_in, sleeps_if, taken_as, tells, unlock_in, unlocks_to, waited_outcome}
use Rattle.kernel_model.specs.Families.LockWords.{Holding, holding_of, holding_of_low, read_by, unheld, written_by}
use Rattle.kernel_model.specs.Families.Locks.{Release, Taking, deadlock, handed_word, hands_on, is_reader, is_written_by, leaves, managed_word, queues, refuses, release_as, release_of, released_threads, released_word, retaking, signalled, some_waits, taking, taking_if, takes, takes_to_read, takes_to_write, too_many, unlocked_own, waits_for, with_threads}
use Rattle.kernel_model.specs.Families.Polls.{is_of_lock, poll_by}
use Rattle.kernel_model.specs.Families.WaitCalls.{fds_of, wait_row, wait_rows}
use Rattle.kernel_model.specs.LockCallLaws.{condition_call, late_error, lock_call, lock_kind, lock_what, tells_event, writes_word, ConditionIsAsked, ConditionIsSignalled, ConditionWaitEnds, IsAsking, IsFree, IsHeldToRead, IsHeldToWrite, IsMarked, IsWoken, LockComesBack, LockIsAsked, LockIsLetGo, LockWaitEnds, WaitsMarked}
use Rattle.kernel_model.specs.LockLaws.{NoneWaits, Waiter}
use Rattle.kernel_model.specs.Need as needs
use Rattle.kernel_model.specs.Outcome.{Outcome}
use Rattle.kernel_model.specs.OwnChanges.{is_done}
use Rattle.kernel_model.specs.Release.{release}
use Rattle.kernel_model.specs.Reply.{refused}
use Rattle.kernel_model.specs.State.{ProcessState, State, Threads, put_all, put_one, set_process}
use Rattle.kernel_model.specs.Step.{failed, outcome, step_answer, tick, unless, IsStep}
use Rattle.kernel_model.specs.ThreadLaws.{with_own}
use Rattle.kernel_model.specs.Valid.{IsValid}
use Rattle.kernel_model.specs.View.{whole}
use Rattle.kernel_model.specs.Waits.{stage_after, waiting, waits_at, waits_if}
use Rattle.kernel_model.proofs.Locks.{released_keeps, signalled_keeps, KeepsEach}
use Rattle.kernel_model.proofs.LockTurns.{equal_is, some_false, some_true, waits_words, word_tells_owner, words_wait}
use Rattle.kernel_model.proofs.MovedThreads.{moved_nearly_valid}
use Rattle.kernel_model.proofs.Outcomes.{outcome_of_table}
use Rattle.kernel_model.proofs.Tests.{not_true}
use Rattle.kernel_model.proofs.Valids.{release_valid, tick_nearly_valid, tick_valid}

-- ---- words of locks

pub free_is : (word : ℕ) → IsFree word → holding_of word ≡ unheld
free_is word h =
    let is : word ≡ h.0 * 2 ^ 31 = h.1 in
    let low : word % 2 ^ 31 ≡ 0 = omega (arith, is) in
    ap holding_of_low low

abbrev held_if : Bool → Bool → ℕ → Holding
held_if none few low = if none then unheld else if few then read_by low else written_by (low - 2 ^ 30)

apart : (a b : ℕ) → a ≢ b → (a == b) ≡ false
apart a b n = elim (eqb_tells a b) [ inl is ↦ absurd (n is.1) | inr other ↦ other.0 ]

pub write_is : (owner word : ℕ) → IsHeldToWrite owner word → holding_of word ≡ written_by owner
write_is owner word h =
    let is : word ≡ h.0 * 2 ^ 31 + 2 ^ 30 + owner = h.2 in
    let low : word % 2 ^ 31 ≡ 2 ^ 30 + owner = omega (arith, is, h.1) in
    let same : 2 ^ 30 + owner - 2 ^ 30 ≡ owner = omega arith in
    ap holding_of_low low
    ∙ ap (λ b. held_if b (nat_lt (2 ^ 30 + owner) (2 ^ 30)) (2 ^ 30 + owner)) (apart (2 ^ 30 + owner) 0 (λ e. omega (arith, e)))
    ∙ ap (λ b. held_if false b (2 ^ 30 + owner)) (le-ltb (2 ^ 30 + owner) (2 ^ 30) (omega arith))
    ∙ ap written_by same

pub read_is : (readers word : ℕ) → IsHeldToRead readers word → holding_of word ≡ read_by readers
read_is readers word h =
    let is : word ≡ h.0 * 2 ^ 31 + readers = h.3 in
    let low : word % 2 ^ 31 ≡ readers = omega (arith, is, h.2) in
    ap holding_of_low low
    ∙ ap (λ b. held_if b (nat_lt readers (2 ^ 30)) readers) (apart readers 0 (λ e. omega (arith, e, h.1)))
    ∙ ap (λ b. held_if false b readers) (lt-ltb readers (2 ^ 30) h.2)

-- and the other way round
abbrev pub HeldAs : Holding → ℕ → Type 0
HeldAs unheld word = IsFree word
HeldAs (written_by owner) word = IsHeldToWrite owner word
HeldAs (read_by readers) word = IsHeldToRead readers word

pub held_as : (word : ℕ) → HeldAs (holding_of word) word
held_as word =
    let low = word % 2 ^ 31 in
    elim (low == 0) as (λ b. (low == 0) ≡ b → HeldAs (held_if b (nat_lt low (2 ^ 30)) low) word) [
      | true ↦ λ e. (let none : word % 2 ^ 31 ≡ 0 = equal_is low 0 e in (word / 2 ^ 31, omega (arith, none)))
      | false ↦ λ e. elim (nat_lt low (2 ^ 30)) as (λ b. nat_lt low (2 ^ 30) ≡ b → HeldAs (held_if false b low) word) [
        | true ↦ λ few. (
          word / 2 ^ 31,
          some low e,
          ltb-true low (2 ^ 30) few,
          omega arith,
        )
        | false ↦ λ many. (
            let most : 2 ^ 30 ≤ word % 2 ^ 31 = ltb-false low (2 ^ 30) many in
            (word / 2 ^ 31, omega (arith, most), omega (arith, most)))
      ] refl
    ] refl where
      some : (n : ℕ) → (n == 0) ≡ false → 0 < n
      some n isnt = elim (eqb_tells n 0) [ inl is ↦ absurd (not_true (sym isnt ∙ is.0)) | inr other ↦ (let more = other.1 in positive n more) ] where
        positive : (m : ℕ) → m ≢ 0 → 0 < m
        positive m more = elim (nat_lt 0 m) as (λ b. nat_lt 0 m ≡ b → 0 < m) [
          | true ↦ λ lt. ltb-true 0 m lt
          | false ↦ λ ge. (let zero = ltb-false 0 m ge in absurd (more (omega (arith, zero))))
        ] refl

written_words : (t word : ℕ) (h : Holding) → HeldAs h word → is_written_by t h ≡ true → IsHeldToWrite t word
written_words t word unheld held is = absurd (not_true is)
written_words t word (written_by owner) held is = subst (λ k. IsHeldToWrite k word) (equal_is owner t is) held
written_words t word (read_by readers) held is = absurd (not_true is)

not_written : (t word : ℕ) → ¬ IsHeldToWrite t word → is_written_by t (holding_of word) ≡ false
not_written t word isnt =
    elim (is_written_by t (holding_of word)) as (λ b. is_written_by t (holding_of word) ≡ b → b ≡ false) [
      | true ↦ λ is. absurd (isnt (written_words t word (holding_of word) (held_as word) is))
      | false ↦ λ _. refl
    ] refl

is_written : (t word : ℕ) → IsHeldToWrite t word → is_written_by t (holding_of word) ≡ true
is_written t word h = ap (is_written_by t) (write_is t word h) ∙ eq-eqb t t refl

-- the word of a lock for which some wait
pub marked_is : (word : ℕ) → word < 2 ^ 32 → IsMarked word (managed_word word)
marked_is word fits =
    elim (nat_lt word (2 ^ 31)) as (λ b. nat_lt word (2 ^ 31) ≡ b → IsMarked word (managed_word word)) [
      | true ↦ λ lt. (let less = ltb-true word (2 ^ 31) lt in (word, less, inl refl, or_shifted_r 1 31 word less))
      | false ↦ λ ge. (
          let most = ltb-false word (2 ^ 31) ge in
          let sums : bit_or word (2 ^ 31) + bit_and word (2 ^ 31) ≡ word + 2 ^ 31 = or_add_and word (2 ^ 31) in
          let bit : bit_and word (2 ^ 31) ≡ 2 ^ 31 = and_pow word 31 ∙ top most in
          let same : bit_or word (2 ^ 31) ≡ word = omega (arith, sums, bit) in
          (word - 2 ^ 31, omega (arith, fits, most), inr (omega (arith, most)), omega (arith, same, most)))
    ] refl where
      top : 2 ^ 31 ≤ word → bit_at word 31 * 2 ^ 31 ≡ 2 ^ 31
      top most = omega (arith, most, fits)

-- ---- who waits

waits_true : (lock : ℕ) (threads : Threads) (r : Bool) (t moment : ℕ) → Waiter r lock threads t moment → some_waits lock threads ≡ true
waits_true lock threads r t moment h = some_true (waits_for lock) threads t moment h.0 h.1 (words_wait r lock moment h.0 h.2).0

waits_false : (lock : ℕ) (threads : Threads) → NoneWaits lock threads → some_waits lock threads ≡ false
waits_false lock threads none =
    some_false (waits_for lock) threads
    (λ t moment thread there waits. none (is_reader thread) t moment (thread, there, waits_words lock moment thread waits))

-- ---- what a poll of a lock or a condition variable comes to

the_table : (o : Option Table) → IsSome o → (table : Table) × (o ≡ Some table)
the_table None there = absurd (not_true there)
the_table (Some table) there = (table, refl)

module _ (constants : Constants) (S : State) (who : Who) (own : ProcessState) (rest : List Subscription) (asks : IsAsking S who own rest) where
  poll_outcome : (userdata : ℕ) (what : What) → is_of_lock what ≡ true → ((rows : List Needed) → wait_row what rows ≡ rows)
      → outcome constants S who (Poll (record { userdata = userdata; what = what } ∷ rest))
      ≡ waited_outcome userdata what who.pid who.tid who.stage (Some own)
  poll_outcome userdata what is_lock no_row =
      let subscriptions = record { userdata = userdata; what = what } ∷ rest in
      let table = the_table (get S.tables who.pid) asks.table in
      let effect = λ (b : Bool). (poll_by b subscriptions).effect constants (whole (tick S)) who table.0 in
      outcome_of_table constants S who (Poll subscriptions) table.0 table.1
      ∙ ap (λ rows. unless (needs.refusal table.0 (fds_of rows) rows) (effect (is_of_lock what))) (no_row (wait_rows rest) ∙ asks.plain)
      ∙ ap effect is_lock
      ∙ ap (waited_outcome userdata what who.pid who.tid who.stage) asks.process

  lock_answer : (reads : Bool) (userdata lock word scope : ℕ)
      → step_answer constants S who (lock_call reads userdata lock word scope rest)
      ≡ (lock_outcome userdata (lock_what reads lock word scope) reads who.tid lock word who.stage (Some own)).answer
  lock_answer true userdata lock word scope =
      ap (λ (o : Outcome). o.answer) (poll_outcome userdata (lock_what true lock word scope) refl (λ rows. refl))
  lock_answer false userdata lock word scope =
      ap (λ (o : Outcome). o.answer) (poll_outcome userdata (lock_what false lock word scope) refl (λ rows. refl))

  -- one that asks
  asked : (reads : Bool) (userdata lock word scope : ℕ) (taken : Taking) → who.stage ≡ None → taking reads who.tid word (some_waits lock own.threads) ≡ taken
      → step_answer constants S who (lock_call reads userdata lock word scope rest)
      ≡ (taken_as userdata (lock_what reads lock word scope) Success lock word taken).answer
  asked reads userdata lock word scope taken new is =
      lock_answer reads userdata lock word scope
      ∙ ap (λ s. (lock_outcome userdata (lock_what reads lock word scope) reads who.tid lock word s (Some own)).answer) new
      ∙ ap (λ x. (taken_as userdata (lock_what reads lock word scope) Success lock word x).answer) is

  -- one whose wait ends
  ended : (reads : Bool) (userdata lock word scope : ℕ) (stage : Option Stage) → who.stage ≡ stage
      → step_answer constants S who (lock_call reads userdata lock word scope rest)
      ≡ (lock_outcome userdata (lock_what reads lock word scope) reads who.tid lock word stage (Some own)).answer
  ended reads userdata lock word scope stage is =
      lock_answer reads userdata lock word scope
      ∙ ap (λ s. (lock_outcome userdata (lock_what reads lock word scope) reads who.tid lock word s (Some own)).answer) is

-- the one event
told_is : (reads : Bool) (userdata lock word scope : ℕ) (errno : Errno) (writes : WordWrites)
    → (tells userdata (lock_what reads lock word scope) errno writes).answer ≡ tells_event userdata (lock_kind reads) errno writes
told_is true userdata lock word scope errno writes = refl
told_is false userdata lock word scope errno writes = refl

-- the wait
marked : (userdata lock word : ℕ) (what : What) (errno : Errno) (given : Answer) → given ≡ (taken_as userdata what errno lock word queues).answer
    → WaitsMarked lock word given
marked userdata lock word what errno given is fits = (managed_word word, marked_is word fits, is)

-- ---- what it comes to that a thread asks

abbrev takes_as : Bool → ℕ → Holding → Taking
takes_as reads t holding = if reads then takes_to_read holding else takes_to_write t holding

taking_as : (reads : Bool) (t word : ℕ) (waits : Bool) (holding : Holding) (written : Bool) → holding_of word ≡ holding → is_written_by t holding ≡ written
    → taking reads t word waits ≡ taking_if written waits (takes_as reads t holding)
taking_as reads t word waits holding written is kind =
    ap (λ h. taking_if (is_written_by t h) waits (takes_as reads t h)) is
    ∙ ap (λ b. taking_if b waits (takes_as reads t holding)) kind

-- where none waits
taking_alone : (reads : Bool) (lock t word : ℕ) (threads : Threads) (holding : Holding) → NoneWaits lock threads → holding_of word ≡ holding
    → is_written_by t holding ≡ false → taking reads t word (some_waits lock threads) ≡ takes_as reads t holding
taking_alone reads lock t word threads holding none is kind =
    taking_as reads t word (some_waits lock threads) holding false is kind
    ∙ ap (λ b. taking_if false b (takes_as reads t holding)) (waits_false lock threads none)

queues_behind : (reads : Bool) (t owner : ℕ) → takes_as reads t (written_by owner) ≡ queues
queues_behind true t owner = refl
queues_behind false t owner = refl

pub lock_is_asked : LockIsAsked
lock_is_asked = record {
  deadlock = λ constants S who own rest reads userdata lock word scope asks new held.
      asked constants S who own rest asks reads userdata lock word scope deadlock new
      (taking_as reads who.tid word (some_waits lock own.threads) (written_by who.tid) true (write_is who.tid word held) (eq-eqb who.tid who.tid refl))
      ∙ told_is reads userdata lock word scope Deadlk Zero;
  behind = λ constants S who own rest reads userdata lock word scope asks new isnt r t moment waits.
      marked userdata lock word (lock_what reads lock word scope) Success _
      (asked constants S who own rest asks reads userdata lock word scope queues new
      (taking_as reads who.tid word (some_waits lock own.threads) (holding_of word) false refl (not_written who.tid word isnt)
      ∙ ap (λ b. taking_if false b (takes_as reads who.tid (holding_of word))) (waits_true lock own.threads r t moment waits)));
  read_free = λ constants S who own rest userdata lock word scope asks new none free.
      asked constants S who own rest asks true userdata lock word scope (takes 1) new
      (taking_alone true lock who.tid word own.threads unheld none (free_is word free) refl);
  write_free = λ constants S who own rest userdata lock word scope asks new none free.
      asked constants S who own rest asks false userdata lock word scope (takes (2 ^ 30 + who.tid)) new
      (taking_alone false lock who.tid word own.threads unheld none (free_is word free) refl);
  joins = λ constants S who own rest userdata lock word scope readers asks new none held few.
      asked constants S who own rest asks true userdata lock word scope (takes (readers + 1)) new
      (taking_alone true lock who.tid word own.threads (read_by readers) none (read_is readers word held) refl
      ∙ ap (λ b. if b then takes (readers + 1) else too_many) (lt-ltb readers (2 ^ 30 - 1) few));
  many = λ constants S who own rest userdata lock word scope asks new none held.
      asked constants S who own rest asks true userdata lock word scope too_many new
      (taking_alone true lock who.tid word own.threads (read_by (2 ^ 30 - 1)) none (read_is (2 ^ 30 - 1) word held) refl);
  behind_readers = λ constants S who own rest userdata lock word scope readers asks new none held.
      marked userdata lock word (lock_what false lock word scope) Success _
      (asked constants S who own rest asks false userdata lock word scope queues new
      (taking_alone false lock who.tid word own.threads (read_by readers) none (read_is readers word held) refl));
  behind_writer = λ constants S who own rest reads userdata lock word scope owner asks new none other held.
      marked userdata lock word (lock_what reads lock word scope) Success _
      (asked constants S who own rest asks reads userdata lock word scope queues new
      (taking_alone reads lock who.tid word own.threads (written_by owner) none (write_is owner word held) (apart owner who.tid other)
      ∙ queues_behind reads who.tid owner));
}

pub lock_wait_ends : LockWaitEnds
lock_wait_ends = record {
  given = λ constants S who own rest reads late userdata lock word scope asks stage.
      ended constants S who own rest asks reads userdata lock word scope (Some (Granted late)) stage ∙ told_is reads userdata lock word scope Success Zero;
  late = λ constants S who own rest reads userdata lock word scope asks stage.
      ended constants S who own rest asks reads userdata lock word scope (Some Begun) stage ∙ told_is reads userdata lock word scope TimedOut Zero;
}

-- ---- lock_unlock

unlock_outcome : (constants : Constants) (S : State) (who : Who) (own : ProcessState) (lock word scope : ℕ) → IsSome (get S.tables who.pid)
    → get S.processes who.pid ≡ Some own
    → outcome constants S who (LockUnlock lock word scope)
    ≡ unlocks_to who.pid lock (unlocked_own lock word who.tid own) (released_word (release_of who.tid word) lock own.threads)
unlock_outcome constants S who own lock word scope has there =
    let table = the_table (get S.tables who.pid) has in
    outcome_of_table constants S who (LockUnlock lock word scope) table.0 table.1 ∙ ap (unlock_in who.pid who.tid lock word) there

unlock_is : (constants : Constants) (S : State) (who : Who) (own : ProcessState) (lock word scope : ℕ) → IsSome (get S.tables who.pid)
    → get S.processes who.pid ≡ Some own
    → step_answer constants S who (LockUnlock lock word scope)
    ≡ (unlocks_to who.pid lock (unlocked_own lock word who.tid own) (released_word (release_of who.tid word) lock own.threads)).answer
unlock_is constants S who own lock word scope has there = ap (λ (o : Outcome). o.answer) (unlock_outcome constants S who own lock word scope has there)

unlock_as : (constants : Constants) (S : State) (who : Who) (own : ProcessState) (lock word scope : ℕ) (r : Release) → IsSome (get S.tables who.pid)
    → get S.processes who.pid ≡ Some own → release_of who.tid word ≡ r
    → step_answer constants S who (LockUnlock lock word scope)
    ≡ (unlocks_to who.pid lock (unlocked_own lock word who.tid own) (released_word r lock own.threads)).answer
unlock_as constants S who own lock word scope r has there is =
    unlock_is constants S who own lock word scope has there
    ∙ ap (λ x. (unlocks_to who.pid lock (unlocked_own lock word who.tid own) (released_word x lock own.threads)).answer) is

release_free : (t word : ℕ) → IsFree word ⊎ ((owner : ℕ) × (owner ≢ t) × IsHeldToWrite owner word) → release_of t word ≡ refuses
release_free t word (inl free) = ap (release_as t word) (free_is word free)
release_free t word (inr other) =
    ap (release_as t word) (write_is other.0 word other.2) ∙ ap (λ b. if b then hands_on else refuses) (apart other.0 t other.1)

release_handed : (t word : ℕ) → IsHeldToWrite t word ⊎ IsHeldToRead 1 word → release_of t word ≡ hands_on
release_handed t word (inl held) = ap (release_as t word) (write_is t word held) ∙ ap (λ b. if b then hands_on else refuses) (eq-eqb t t refl)
release_handed t word (inr held) = ap (release_as t word) (read_is 1 word held)

-- where it is refused nobody has it, or another has it to write
module _ (p t lock word : ℕ) (own : ProcessState) (threads : Threads) where
  abbrev answer_by : Release → Answer
  answer_by r = (unlocks_to p lock own (released_word r lock threads)).answer

  abbrev IsRefused : Release → Type 0
  IsRefused r = answer_by r ≡ answer.Reply (refused Perm)

  isnt_done : {X : Type 0} (given : Answer) → is_done given ≡ true → given ≡ answer.Reply (refused Perm) → X
  isnt_done given done is = absurd (not_true (sym (ap is_done is) ∙ done))

  refused_by : (h : Holding) → HeldAs h word → IsRefused (release_as t word h) → IsFree word ⊎ ((owner : ℕ) × (owner ≢ t) × IsHeldToWrite owner word)
  refused_by unheld held is = inl held
  refused_by (written_by owner) held is =
      elim (eqb_tells owner t) [
        | inl same ↦ isnt_done (answer_by hands_on) refl (sym (ap (λ b. answer_by (if b then hands_on else refuses)) same.0) ∙ is)
        | inr other ↦ inr (owner, other.1, held)
      ]
  refused_by (read_by readers) held is =
      elim (nat_lt 1 readers) as (λ b. IsRefused (if b then leaves (word - 1) else hands_on)
      → IsFree word ⊎ ((owner : ℕ) × (owner ≢ t) × IsHeldToWrite owner word)) [
        | true ↦ λ e. isnt_done (answer_by (leaves (word - 1))) refl e
        | false ↦ λ e. isnt_done (answer_by hands_on) refl e
      ] is

-- nothing is released where threads of a process of a valid state were given a lock or signalled
moved_left : (S : State) (p : ℕ) (own : ProcessState) (threads : Threads) → get S.processes p ≡ Some own → KeepsEach own.threads threads → IsValid S
    → release (put_one (set_process p (with_threads own threads)) (tick S)) ≡ with_own S p (with_threads own threads)
moved_left S p own threads there keeps valid =
    release_valid (put_one (set_process p (with_threads own threads)) (tick S))
    (record {
      nearly = moved_nearly_valid (tick S) p own threads there keeps (tick_nearly_valid S valid.nearly);
      held = valid.held;
      kept = valid.kept;
      going = valid.going;
    })

-- the state after an outcome
abbrev state_of : Constants → State → Who → Call → Outcome → State
state_of constants S who call o = release (waits_if o.answer who (waiting constants call who (S.clock + 1000)) (put_all o.updates (tick S)))

-- a step that takes no memory leaves the state of its outcome
step_leaves : (constants : Constants) (S : State) (who : Who) (call : Call) (given : Answer) (T : State) (o : Outcome) → takes_memory call ≡ false
    → outcome constants S who call ≡ o → IsStep constants S who call given T → T ≡ state_of constants S who call o
step_leaves constants S who call given T o none is (inl done) = done.1 ∙ ap (state_of constants S who call) is
step_leaves constants S who call given T o none is (inr lacking) = absurd (not_true (sym none ∙ lacking.0.0))

-- what a lock_unlock leaves that is let
unlock_leaves : (constants : Constants) (S : State) (who : Who) (own : ProcessState) (lock word scope new : ℕ) (r : Release) (given : Answer) (T : State)
    → IsValid S → IsSome (get S.tables who.pid) → get S.processes who.pid ≡ Some own → release_of who.tid word ≡ r
    → released_word r lock own.threads ≡ Some new → IsStep constants S who (LockUnlock lock word scope) given T
    → T ≡ with_own S who.pid (with_threads own (released_threads r lock own.threads))
unlock_leaves constants S who own lock word scope new r given T valid has there is writes step =
    step_leaves constants S who (LockUnlock lock word scope) given T _ refl
    (unlock_outcome constants S who own lock word scope has there
    ∙ ap (λ x. unlocks_to who.pid lock (with_threads own (released_threads x lock own.threads)) (released_word x lock own.threads)) is
    ∙ ap (unlocks_to who.pid lock (with_threads own (released_threads r lock own.threads))) writes) step
    ∙ moved_left S who.pid own (released_threads r lock own.threads) there (released_keeps r lock own.threads) valid

release_shared : (t word readers : ℕ) → IsHeldToRead readers word → 1 < readers → release_of t word ≡ leaves (word - 1)
release_shared t word readers held more =
    ap (release_as t word) (read_is readers word held) ∙ ap (λ b. if b then leaves (word - 1) else hands_on) (lt-ltb 1 readers more)

pub lock_is_let_go : LockIsLetGo
lock_is_let_go = record {
  refused = λ constants S who own lock word scope has there. (
    λ is. refused_by who.pid who.tid lock word (unlocked_own lock word who.tid own) own.threads (holding_of word) (held_as word)
        (sym (unlock_is constants S who own lock word scope has there) ∙ is),
    λ none. unlock_as constants S who own lock word scope refuses has there (release_free who.tid word none),
  );
  shared = λ constants S who own lock word scope readers has there held more.
      unlock_as constants S who own lock word scope (leaves (word - 1)) has there (release_shared who.tid word readers held more);
  last = λ constants S who own lock word scope has there held.
      unlock_as constants S who own lock word scope hands_on has there (release_handed who.tid word held);
  shared_leaves = λ constants S who own lock word scope readers given T valid has there held more step.
      unlock_leaves constants S who own lock word scope (word - 1) (leaves (word - 1)) given T valid has there (release_shared who.tid word readers held more)
      refl step
      ∙ ap (λ m. record (tick S) { processes = m }) (insert_self S.processes who.pid own there);
  last_leaves = λ constants S who own lock word scope given T valid has there held.
      unlock_leaves constants S who own lock word scope (handed_word lock own.threads) hands_on given T valid has there (release_handed who.tid word held) refl;
}

-- the word that an answer writes first
abbrev word_of : WordWrites → ℕ
word_of (One write) = write.word
word_of other = 0

abbrev word_written : Answer → ℕ
word_written (answer.Parked writes) = word_of writes
word_written (answer.Reply reply) = word_of reply.writes

comes_back : (constants : Constants) (T : State) (by : Who) (left : ProcessState) (lock new scope : ℕ) → IsHeldToWrite by.tid new ⊎ IsHeldToRead 1 new
    → IsSome (get T.tables by.pid) → get T.processes by.pid ≡ Some left → NoneWaits lock left.threads
    → step_answer constants T by (LockUnlock lock new scope) ≡ writes_word lock 0
comes_back constants T by left lock new scope held has there none =
    lock_is_let_go.last constants T by left lock new scope has there held ∙ ap (writes_word lock) (word_tells_owner.nobody lock left.threads none)

pub lock_comes_back : LockComesBack
lock_comes_back constants S T who by own left rest true userdata lock word scope new asks begins small none free taken same has there empty =
    let is : new ≡ 1 =
    ap word_written (sym taken ∙ lock_is_asked.read_free constants S who own rest userdata lock word scope asks begins none free) in
    comes_back constants T by left lock new scope (inr (0, omega arith, omega arith, omega (arith, is))) has there empty
lock_comes_back constants S T who by own left rest false userdata lock word scope new asks begins small none free taken same has there empty =
    let is : new ≡ 2 ^ 30 + who.tid =
    ap word_written (sym taken ∙ lock_is_asked.write_free constants S who own rest userdata lock word scope asks begins none free) in
    let by_same : by.tid ≡ who.tid = same in
    comes_back constants T by left lock new scope (inl (0, omega (arith, small, by_same), omega (arith, is, by_same))) has there empty

-- ---- condvar_signal

signal_outcome : (constants : Constants) (S : State) (who : Who) (own : ProcessState) (condvar word scope n : ℕ) → IsSome (get S.tables who.pid)
    → get S.processes who.pid ≡ Some own
    → outcome constants S who (CondvarSignal condvar word scope n) ≡ signal_in who.pid condvar n (Some own)
signal_outcome constants S who own condvar word scope n has there =
    let table = the_table (get S.tables who.pid) has in
    outcome_of_table constants S who (CondvarSignal condvar word scope n) table.0 table.1 ∙ ap (signal_in who.pid condvar n) there

pub condition_is_signalled : ConditionIsSignalled
condition_is_signalled = record {
  writes = λ constants S who own condvar word scope n has there.
      ap (λ (o : Outcome). o.answer) (signal_outcome constants S who own condvar word scope n has there);
  leaves = λ constants S who own condvar word scope n given T valid has there step.
      step_leaves constants S who (CondvarSignal condvar word scope n) given T (signal_in who.pid condvar n (Some own)) refl
      (signal_outcome constants S who own condvar word scope n has there) step
      ∙ moved_left S who.pid own (signalled n condvar own.threads) there (signalled_keeps n condvar own.threads) valid;
}

-- ---- polls of condition variables

module _ (constants : Constants) (S : State) (who : Who) (own : ProcessState) (rest : List Subscription) (asks : IsAsking S who own rest)
    (userdata condvar condvar_word lock word condvar_scope lock_scope : ℕ) where
  abbrev what : What
  what = Condvar condvar condvar_word lock word condvar_scope lock_scope

  abbrev the_call : Call
  the_call = condition_call userdata condvar condvar_word lock word condvar_scope lock_scope rest

  condition_is : (stage : Option Stage) → who.stage ≡ stage
      → outcome constants S who the_call ≡ condition_outcome userdata what who.pid who.tid condvar lock word stage (Some own)
  condition_is stage is =
      poll_outcome constants S who own rest asks userdata what refl (λ rows. refl)
      ∙ ap (λ s. condition_outcome userdata what who.pid who.tid condvar lock word s (Some own)) is

  begins : (b : Bool) → who.stage ≡ None → is_written_by who.tid (holding_of word) ≡ b
      → outcome constants S who the_call ≡ sleeps_if b userdata what who.pid condvar lock (Some own)
  begins b new is = condition_is None new ∙ ap (λ c. sleeps_if c userdata what who.pid condvar lock (Some own)) is

  -- one that may not changes nothing
  refused_leaves : (given : Answer) (T : State) → who.stage ≡ None → ¬ IsHeldToWrite who.tid word → IsValid S → IsStep constants S who the_call given T
      → T ≡ failed S who
  refused_leaves given T new isnt valid (inl done) =
      done.1
      ∙ ap (λ (o : Outcome). release (waits_if o.answer who (waiting constants the_call who (S.clock + 1000)) (put_all o.updates (tick S))))
      (begins false new (not_written who.tid word isnt))
      ∙ release_valid (tick S) (tick_valid S valid)
  refused_leaves given T new isnt valid (inr lacking) = lacking.2

  -- one that was woken
  woken_by : (late : Bool) (stage : Stage) → who.stage ≡ Some stage → IsWoken late stage
      → step_answer constants S who the_call
      ≡ (taken_as userdata what (late_error late) lock word (retaking who.tid word (some_waits lock own.threads))).answer
  woken_by late stage is (inl came) =
      ap (λ (o : Outcome). o.answer) (condition_is (Some Begun) (is ∙ ap Some came.1))
      ∙ ap (λ b. (taken_as userdata what (late_error b) lock word (retaking who.tid word (some_waits lock own.threads))).answer) (sym came.0)
  woken_by late stage is (inr called) =
      ap (λ (o : Outcome). o.answer) (condition_is (Some Signalled) (is ∙ ap Some called.1))
      ∙ ap (λ b. (taken_as userdata what (late_error b) lock word (retaking who.tid word (some_waits lock own.threads))).answer) (sym called.0)

  woken : (late : Bool) (stage : Stage) (taken : Taking) → who.stage ≡ Some stage → IsWoken late stage
      → retaking who.tid word (some_waits lock own.threads) ≡ taken
      → step_answer constants S who the_call ≡ (taken_as userdata what (late_error late) lock word taken).answer
  woken late stage taken is wakes retakes =
      woken_by late stage is wakes ∙ ap (λ x. (taken_as userdata what (late_error late) lock word x).answer) retakes

  given_it : (late : Bool) → who.stage ≡ Some (Granted late) → step_answer constants S who the_call ≡ tells_event userdata 2 (late_error late) Zero
  given_it late is = ap (λ (o : Outcome). o.answer) (condition_is (Some (Granted late)) is) ∙ error_is late where
    error_is : (b : Bool) → (tells userdata what (error_if b) Zero).answer ≡ tells_event userdata 2 (late_error b) Zero
    error_is true = refl
    error_is false = refl

-- one that waits again does it behind any that has the lock
held_queues : (t word : ℕ) (h : Holding) → HeldAs h word → ¬ IsFree word → takes_to_write t h ≡ queues
held_queues t word unheld held isnt = absurd (isnt held)
held_queues t word (written_by owner) held isnt = refl
held_queues t word (read_by readers) held isnt = refl

either_queues : (b : Bool) → (if b then queues else queues) ≡ queues
either_queues true = refl
either_queues false = refl

waits_again : (constants : Constants) (who : Who) (call : Call) (now : ℕ) (stage : Stage) → who.stage ≡ Some stage
    → waiting constants call who now ≡ waits_at constants call who.since (stage_after call (Some stage) now)
waits_again constants who call now stage is = ap (λ s. waits_at constants call who.since (stage_after call s now)) is

pub condition_is_asked : ConditionIsAsked
condition_is_asked = record {
  refused = λ constants S who own rest userdata condvar condvar_word lock word condvar_scope lock_scope asks new isnt.
      ap (λ (o : Outcome). o.answer) (begins constants S who own rest asks userdata condvar condvar_word lock word condvar_scope lock_scope false new
      (not_written who.tid word isnt));
  unchanged = λ constants S who own rest userdata condvar condvar_word lock word condvar_scope lock_scope given T asks.
      refused_leaves constants S who own rest asks userdata condvar condvar_word lock word condvar_scope lock_scope given T;
  sleeps = λ constants S who own rest userdata condvar condvar_word lock word condvar_scope lock_scope asks new held.
      ap (λ (o : Outcome). o.answer) (begins constants S who own rest asks userdata condvar condvar_word lock word condvar_scope lock_scope true new
      (is_written who.tid word held));
}

pub condition_wait_ends : ConditionWaitEnds
condition_wait_ends = record {
  takes = λ constants S who own rest late stage userdata condvar condvar_word lock word condvar_scope lock_scope asks is wakes free none.
      woken constants S who own rest asks userdata condvar condvar_word lock word condvar_scope lock_scope late stage (takes (2 ^ 30 + who.tid)) is wakes
      (ap (λ b. if b then queues else takes_to_write who.tid (holding_of word)) (waits_false lock own.threads none)
      ∙ ap (takes_to_write who.tid) (free_is word free));
  behind = λ constants S who own rest late stage userdata condvar condvar_word lock word condvar_scope lock_scope asks is wakes r t moment waits.
      marked userdata lock word (Condvar condvar condvar_word lock word condvar_scope lock_scope) (late_error late) _
      (woken constants S who own rest asks userdata condvar condvar_word lock word condvar_scope lock_scope late stage queues is wakes
      (ap (λ b. if b then queues else takes_to_write who.tid (holding_of word)) (waits_true lock own.threads r t moment waits)));
  held = λ constants S who own rest late stage userdata condvar condvar_word lock word condvar_scope lock_scope asks is wakes isnt.
      marked userdata lock word (Condvar condvar condvar_word lock word condvar_scope lock_scope) (late_error late) _
      (woken constants S who own rest asks userdata condvar condvar_word lock word condvar_scope lock_scope late stage queues is wakes
      (ap (λ x. if some_waits lock own.threads then queues else x) (held_queues who.tid word (holding_of word) (held_as word) isnt)
      ∙ either_queues (some_waits lock own.threads)));
  waits = λ constants who rest late stage userdata condvar condvar_word lock word condvar_scope lock_scope now is wakes.
      let call = condition_call userdata condvar condvar_word lock word condvar_scope lock_scope rest in
      waits_again constants who call now stage is
      ∙ elim wakes [
        | inl came ↦ ap (λ s. waits_at constants call who.since (stage_after call (Some s) now)) came.1
            ∙ ap (λ b. Waits call who.since None (Queued now b)) (sym came.0)
        | inr called ↦ ap (λ s. waits_at constants call who.since (stage_after call (Some s) now)) called.1
            ∙ ap (λ b. Waits call who.since None (Queued now b)) (sym called.0)
      ];
  given = λ constants S who own rest late userdata condvar condvar_word lock word condvar_scope lock_scope asks is.
      given_it constants S who own rest asks userdata condvar condvar_word lock word condvar_scope lock_scope late is;
}
