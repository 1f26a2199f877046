-- What condvar_signal comes to, and a poll that begins with a lock or a condition variable.
--     signal_is_listed      condvar_signal
--     lock_poll_is_listed      a poll of a lock
--     condition_poll_is_listed      a poll of a condition variable
use Rattle.std.proofs.Common.{◌≡◌, ◌≢◌, ◌⊎◌, inl, inr, ℕ, ◌+◌, ◌-◌, ◌*◌, ◌^◌, ◌<◌, ◌≤◌, Bool, true, false, cond, List, [], ◌∷◌, Option, Some, None, IsSome, is_some, refl, sym, ap, subst, ◌∙◌, arith}
use Rattle.std.specs.Ordering.{nat_cmp}
use Rattle.std.specs.FinMap.{FinMap, empty, empty_of_len, get, get-empty, len, len-empty, retain_keys}
use Rattle.abi_base.specs.declared.errno.Errno.TheVariants.{Again, Success}
use Rattle.abi_structures.specs.declared.events.Subscription.{Subscription}
use Rattle.abi_structures.specs.declared.events.What.{What}
use Rattle.abi_structures.specs.declared.events.What.TheVariants.{Clock, Condvar, FdRead, FdWrite, LockRdlock, LockWrlock, ProcTerminate}
use Rattle.abi_types.specs.declared.call.Call.{Call}
use Rattle.abi_types.specs.declared.call.Call.TheVariants.{CondvarSignal}
use Rattle.abi_types.specs.declared.constants.Constants.{Constants}
use Rattle.abi_types.specs.declared.reply.Answer.{Answer}
use Rattle.abi_types.specs.declared.reply.Answer.TheVariants as answer
use Rattle.abi_types.specs.declared.reply.WordWrites.TheVariants.{Zero}
use Rattle.abi_types.specs.declared.thread.Thread.{Thread}
use Rattle.abi_types.specs.declared.who.Who.{Who}
use Rattle.maps.specs.Maps.{get-retain, least_key, least_key-entry, least_key-none, passes, same_numbers}
use Rattle.kernel_model.specs.Families.LockWords.{Holding, holding_of, read_by, unheld, written_by}
use Rattle.kernel_model.specs.Families.Locks.{is_reader, signalled, signalled_word, sleeps_at, waits_for}
use Rattle.kernel_model.specs.Families.WaitCalls.{wait_row, wait_rows}
use Rattle.kernel_model.specs.LockCallLaws.{condition_call, lock_call, lock_kind, tells_event, writes_one, writes_word, IsAsking, IsFree, IsHeldToRead, IsHeldToWrite, IsMarked, WaitsMarked}
use Rattle.kernel_model.specs.LockLaws.{AreSleepers, NoneWaits, Sleeper}
use Rattle.kernel_model.specs.State.{ProcessState, State, Table, Threads}
use Rattle.kernel_model.specs.Step.{step_answer}
use Rattle.kernel_model.proofs.LockAnswers.{HeldAs, condition_is_asked, condition_is_signalled, held_as, lock_is_asked}
use Rattle.kernel_model.proofs.LockSignals.{signals_in_turn}
use Rattle.kernel_model.proofs.LockTurns.{sleeps_words, some_moment, waits_words, words_sleep, words_wait}
use Rattle.kernel_model.proofs.Tests.{none_is_no, not_true}
use Rattle.process_errors.specs.LockErrors.{ConditionComesTo, ConditionPollIsListed, IsAloneOrTimed, IsBehind, IsClock, LockComesTo, LockPollIsListed, SignalComesTo, SignalIsListed, SomeWaits, awaits_lock, deadlock, joined, none_left, not_held, read, sleeps, some_left, too_many, written}
use Rattle.process_errors.specs.Verdicts.{IsUnrefused}
use Rattle.process_errors.proofs.Tables.{below, listed, same_or}

-- ---- who waits at a condition variable

abbrev sleeps_in : ℕ → Option Thread → Bool
sleeps_in condvar None = false
sleeps_in condvar (Some thread) = is_some (sleeps_at condvar thread)

abbrev sleepers_of : ℕ → Threads → Threads
sleepers_of condvar threads = retain_keys threads (λ t. sleeps_in condvar (get threads t))

are_sleepers : (condvar : ℕ) (threads : Threads) → AreSleepers condvar threads (sleepers_of condvar threads)
are_sleepers condvar threads t = (
  λ some. there (get threads t) refl (sym (ap (λ o. is_some o) (get-retain threads (λ k. sleeps_in condvar (get threads k)) t)) ∙ some),
  λ one. ap (λ o. is_some o)
      (get-retain threads (λ k. sleeps_in condvar (get threads k)) t ∙ ap (λ o. cond (sleeps_in condvar o) o None) one.1.1
      ∙ ap (λ o. cond (is_some o) (Some one.1.0) None) (words_sleep condvar one.0 one.1.0 one.1.2)),
) where
  there : (o : Option Thread) → get threads t ≡ o → is_some (cond (sleeps_in condvar o) o None) ≡ true
      → (moment : ℕ) × Sleeper condvar threads t moment
  there None is some = absurd (not_true some)
  there (Some thread) is some = by (sleeps_at condvar thread) refl some where
    by : (o : Option ℕ) → sleeps_at condvar thread ≡ o → is_some (cond (is_some o) (Some thread) None) ≡ true
        → (moment : ℕ) × Sleeper condvar threads t moment
    by None none h = absurd (not_true h)
    by (Some moment) at h = (moment, (thread, is, sleeps_words condvar moment thread at))

-- a map with an item has a key
some_key : (m : Threads) → 0 < len m → (t : ℕ) × IsSome (get m t)
some_key m some = by (least_key (λ k x. true) m) refl where
  no_value : (k : ℕ) (o : Option Thread) → passes (λ q x. true) k o ≡ false → o ≡ None
  no_value k None none = refl
  no_value k (Some x) none = absurd (not_true (sym none))

  by : (o : Option ℕ) → least_key (λ k x. true) m ≡ o → (t : ℕ) × IsSome (get m t)
  by (Some t) is = let entry = least_key-entry (λ k x. true) m t is in (t, ap (λ o. is_some o) entry.1)
  by None none =
      let same : m ≡ empty =
      same_numbers m empty (λ q. no_value q (get m q) (least_key-none (λ k x. true) m none q) ∙ sym (get-empty nat_cmp q)) in
      let count : len m ≡ 0 = ap len same ∙ len-empty nat_cmp Thread in
      absurd (omega (arith, count, some))

-- ---- condvar_signal

module _ (condvar n : ℕ) (threads : Threads) (before : FinMap nat_cmp Thread) (are : AreSleepers condvar threads before) where
  left_count : len (sleepers_of condvar (signalled n condvar threads)) ≡ len before - n
  left_count =
      signals_in_turn.count n condvar threads before (sleepers_of condvar (signalled n condvar threads)) are
      (are_sleepers condvar (signalled n condvar threads))

  no_word : len before ≤ n → signalled_word n condvar threads ≡ 0
  no_word few =
      let count = left_count in
      let none : sleepers_of condvar (signalled n condvar threads) ≡ empty = empty_of_len _ (omega (arith, count, few)) in
      signals_in_turn.none n condvar threads
      (λ t moment one. not_true (sym (ap (λ o. is_some o) (ap (λ m. get m t) none ∙ get-empty nat_cmp t))
      ∙ (are_sleepers condvar (signalled n condvar threads) t).1 (moment, one)))

  one_word : n < len before → signalled_word n condvar threads ≡ 1
  one_word more =
      let count = left_count in
      let key = some_key (sleepers_of condvar (signalled n condvar threads)) (omega (arith, count, more)) in
      let one = (are_sleepers condvar (signalled n condvar threads) key.0).0 key.1 in
      signals_in_turn.waits n condvar threads key.0 one.0 one.1

table_some : (o : Option Table) (table : Table) → o ≡ Some table → IsSome o
table_some None table had = absurd (none_is_no table had)
table_some (Some x) table had = refl

module _ (constants : Constants) (S : State) (who : Who) (condvar word scope n : ℕ) (table : Table) (own : ProcessState)
    (unrefused : IsUnrefused S who (CondvarSignal condvar word scope n) table own) where
  signal_as : (k : ℕ) → signalled_word n condvar own.threads ≡ k → writes_word condvar k ≡ step_answer constants S who (CondvarSignal condvar word scope n)
  signal_as k is =
      sym (condition_is_signalled.writes constants S who own condvar word scope n (table_some (get S.tables who.pid) table unrefused.had) unrefused.there
      ∙ ap (writes_word condvar) is)

  signal_sound : (given : Answer) → SignalComesTo condvar n own.threads given → given ≡ step_answer constants S who (CondvarSignal condvar word scope n)
  signal_sound given (none_left sleepers are few) = signal_as 0 (no_word condvar n own.threads sleepers are few)
  signal_sound given (some_left sleepers are more) = signal_as 1 (one_word condvar n own.threads sleepers are more)

signal_some : (condvar n : ℕ) (threads : Threads) → (given : Answer) × SignalComesTo condvar n threads given
signal_some condvar n threads =
    elim (below n (len (sleepers_of condvar threads))) [
      | inl more ↦ (_, some_left (sleepers_of condvar threads) (are_sleepers condvar threads) more)
      | inr few ↦ (_, none_left (sleepers_of condvar threads) (are_sleepers condvar threads) few)
    ]

pub signal_is_listed : SignalIsListed
signal_is_listed constants S who condvar word scope n table own given unrefused =
    listed (SignalComesTo condvar n own.threads) (step_answer constants S who (CondvarSignal condvar word scope n))
    (signal_sound constants S who condvar word scope n table own unrefused) (signal_some condvar n own.threads) given

-- ---- words of locks

-- the word has one marked word
marked_same : (word a b : ℕ) → IsMarked word a → IsMarked word b → a ≡ b
marked_same word a b one two = by one.1 one.2 one.3 two.1 two.2 two.3 where
  by : {low high : ℕ} → low < 2 ^ 31 → (word ≡ low) ⊎ (word ≡ 2 ^ 31 + low) → a ≡ 2 ^ 31 + low → high < 2 ^ 31 → (word ≡ high) ⊎ (word ≡ 2 ^ 31 + high)
      → b ≡ 2 ^ 31 + high → a ≡ b
  by few (inl x) is less (inl y) same = omega (arith, x, is, y, same)
  by few (inl x) is less (inr y) same = omega (arith, few, x, is, y, same)
  by few (inr x) is less (inl y) same = omega (arith, less, x, is, y, same)
  by few (inr x) is less (inr y) same = omega (arith, x, is, y, same)

marked_some : (word : ℕ) → word < 2 ^ 32 → (marked : ℕ) × IsMarked word marked
marked_some word fits =
    elim (below word (2 ^ 31)) [
      | inl less ↦ (2 ^ 31 + word, (word, less, inl refl, refl))
      | inr most ↦ (word, (word - 2 ^ 31, omega (arith, fits, most), inr (omega (arith, most)), omega (arith, most)))
    ]

-- what is had otherwise isn't had to write
free_unwritten : (t word : ℕ) → IsFree word → ¬ IsHeldToWrite t word
free_unwritten t word free held =
    let high : word ≡ free.0 * 2 ^ 31 = free.1 in
    let few : t < 2 ^ 30 = held.1 in
    let is : word ≡ held.0 * 2 ^ 31 + 2 ^ 30 + t = held.2 in
    omega (arith, high, few, is)

read_unwritten : (t readers word : ℕ) → IsHeldToRead readers word → ¬ IsHeldToWrite t word
read_unwritten t readers word shared held =
    let less : readers < 2 ^ 30 = shared.2 in
    let high : word ≡ shared.0 * 2 ^ 31 + readers = shared.3 in
    let few : t < 2 ^ 30 = held.1 in
    let is : word ≡ held.0 * 2 ^ 31 + 2 ^ 30 + t = held.2 in
    omega (arith, less, high, few, is)

other_unwritten : (t owner word : ℕ) → owner ≢ t → IsHeldToWrite owner word → ¬ IsHeldToWrite t word
other_unwritten t owner word other own held =
    let less : owner < 2 ^ 30 = own.1 in
    let high : word ≡ own.0 * 2 ^ 31 + 2 ^ 30 + owner = own.2 in
    let few : t < 2 ^ 30 = held.1 in
    let is : word ≡ held.0 * 2 ^ 31 + 2 ^ 30 + t = held.2 in
    other (omega (arith, less, high, few, is))

-- ---- who waits for a lock

waits_or_none : (lock : ℕ) (threads : Threads) → SomeWaits lock threads ⊎ NoneWaits lock threads
waits_or_none lock threads = by (least_key test threads) refl where
  test : ℕ → Thread → Bool
  test t thread = is_some (waits_for lock thread)

  by : (o : Option ℕ) → least_key test threads ≡ o → SomeWaits lock threads ⊎ NoneWaits lock threads
  by (Some t) is =
      let entry = least_key-entry test threads t is in
      let moment = some_moment (waits_for lock entry.0) entry.2 in
      inl (is_reader entry.0, t, moment.0, (entry.0, entry.1, waits_words lock moment.0 entry.0 moment.1))
  by None none = inr (λ reads t moment one.
      not_true (sym (least_key-none test threads none t) ∙ ap (passes test t) one.1
      ∙ ap (λ o. is_some o) (words_wait reads lock moment one.0 one.2).0))

-- ---- a poll of a lock

-- a clock needs no right
no_row : (what : What) → IsClock what → wait_row what [] ≡ []
no_row (Clock clock timeout precision flags) is = refl
no_row (FdRead fd) is = absurd is
no_row (FdWrite fd) is = absurd is
no_row (ProcTerminate fd) is = absurd is
no_row (LockRdlock lock word scope) is = absurd is
no_row (LockWrlock lock word scope) is = absurd is
no_row (Condvar condvar condvar_word lock lock_word condvar_scope lock_scope) is = absurd is

no_rows : (rest : List Subscription) → IsAloneOrTimed rest → wait_rows rest ≡ []
no_rows [] alone = refl
no_rows (second ∷ []) alone = no_row second.what alone
no_rows (second ∷ third ∷ rest) alone = absurd alone

asking_is : (S : State) (who : Who) (call : Call) (table : Table) (own : ProcessState) (rest : List Subscription) → IsUnrefused S who call table own
    → IsAloneOrTimed rest → IsAsking S who own rest
asking_is S who call table own rest unrefused alone =
    record { table = table_some (get S.tables who.pid) table unrefused.had; process = unrefused.there; plain = no_rows rest alone }

module _ (constants : Constants) (S : State) (who : Who) (own : ProcessState) (rest : List Subscription) (userdata lock word scope : ℕ)
    (asks : IsAsking S who own rest) (new : who.stage ≡ None) (fits : word < 2 ^ 32) where
  -- the answer
  abbrev asked : Bool → Answer
  asked reads = step_answer constants S who (lock_call reads userdata lock word scope rest)

  parks_so : (marked : ℕ) (given : Answer) → IsMarked word marked → WaitsMarked lock word given → answer.Parked (writes_one lock marked) ≡ given
  parks_so marked given is stands =
      let parked = stands fits in
      ap (λ k. answer.Parked (writes_one lock k)) (marked_same word marked parked.0 is parked.1) ∙ sym parked.2

  behind_is : (reads : Bool) → ¬ IsHeldToWrite who.tid word → IsBehind reads who.tid lock word own.threads
      → SomeWaits lock own.threads ⊎ NoneWaits lock own.threads → WaitsMarked lock word (asked reads)
  behind_is reads isnt behind (inl some) =
      lock_is_asked.behind constants S who own rest reads userdata lock word scope asks new isnt some.0 some.1 some.2 some.3
  behind_is reads isnt (inl some) (inr none) = absurd (none some.0 some.1 some.2 some.3)
  behind_is reads isnt (inr (inl other)) (inr none) =
      lock_is_asked.behind_writer constants S who own rest reads userdata lock word scope other.0 asks new none other.1 other.2
  behind_is reads isnt (inr (inr shared)) (inr none) =
      subst (λ b. WaitsMarked lock word (asked b)) (sym shared.0)
      (lock_is_asked.behind_readers constants S who own rest userdata lock word scope shared.1.0 asks new none shared.1.1)

  lock_sound : (reads : Bool) (given : Answer) → LockComesTo reads userdata who.tid lock word own.threads given → given ≡ asked reads
  lock_sound reads given (deadlock held) = sym (lock_is_asked.deadlock constants S who own rest reads userdata lock word scope asks new held)
  lock_sound reads given (too_many is none held) =
      subst (λ b. tells_event userdata (lock_kind b) Again Zero ≡ asked b) (sym is)
      (sym (lock_is_asked.many constants S who own rest userdata lock word scope asks new none held))
  lock_sound reads given (read is none free) =
      subst (λ b. tells_event userdata (lock_kind b) Success (writes_one lock 1) ≡ asked b) (sym is)
      (sym (lock_is_asked.read_free constants S who own rest userdata lock word scope asks new none free))
  lock_sound reads given (written is none free) =
      subst (λ b. tells_event userdata (lock_kind b) Success (writes_one lock (2 ^ 30 + who.tid)) ≡ asked b) (sym is)
      (sym (lock_is_asked.write_free constants S who own rest userdata lock word scope asks new none free))
  lock_sound reads given (joined readers is none held few) =
      subst (λ b. tells_event userdata (lock_kind b) Success (writes_one lock (readers + 1)) ≡ asked b) (sym is)
      (sym (lock_is_asked.joins constants S who own rest userdata lock word scope readers asks new none held few))
  lock_sound reads given (awaits_lock marked isnt behind is) =
      parks_so marked (asked reads) is (behind_is reads isnt behind (waits_or_none lock own.threads))

module _ (userdata t lock word : ℕ) (threads : Threads) (fits : word < 2 ^ 32) where
  abbrev HasLine : Bool → Type 0
  HasLine reads = (given : Answer) × LockComesTo reads userdata t lock word threads given

  stays_behind : (reads : Bool) → ¬ IsHeldToWrite t word → IsBehind reads t lock word threads → HasLine reads
  stays_behind reads isnt behind = let marked = marked_some word fits in (_, awaits_lock marked.0 isnt behind marked.1)

  free_line : (reads : Bool) → IsFree word → NoneWaits lock threads → HasLine reads
  free_line true free none = (_, read refl none free)
  free_line false free none = (_, written refl none free)

  read_line : (reads : Bool) (readers : ℕ) → IsHeldToRead readers word → NoneWaits lock threads → HasLine reads
  read_line true readers held none =
      elim (below readers (2 ^ 30 - 1)) [
        | inl few ↦ (_, joined readers refl none held few)
        | inr most ↦ (
            let less : readers < 2 ^ 30 = held.2 in
            let all : readers ≡ 2 ^ 30 - 1 = omega (arith, less, most) in
            (_, too_many refl none (subst (λ k. IsHeldToRead k word) all held)))
      ]
  read_line false readers held none = stays_behind false (read_unwritten t readers word held) (inr (inr (refl, (readers, held))))

  lock_line : (reads : Bool) (holding : Holding) → HeldAs holding word → HasLine reads
  lock_line reads unheld held =
      elim (waits_or_none lock threads) [
        | inl some ↦ stays_behind reads (free_unwritten t word held) (inl some)
        | inr none ↦ free_line reads held none
      ]
  lock_line reads (written_by owner) held =
      elim (same_or owner t) [
        | inl is ↦ (_, deadlock (subst (λ k. IsHeldToWrite k word) is held))
        | inr other ↦ stays_behind reads (other_unwritten t owner word other held) (inr (inl (owner, other, held)))
      ]
  lock_line reads (read_by readers) held =
      elim (waits_or_none lock threads) [
        | inl some ↦ stays_behind reads (read_unwritten t readers word held) (inl some)
        | inr none ↦ read_line reads readers held none
      ]

pub lock_poll_is_listed : LockPollIsListed
lock_poll_is_listed constants S who rest reads userdata lock word scope table own given unrefused alone new fits =
    let asks = asking_is S who (lock_call reads userdata lock word scope rest) table own rest unrefused alone in
    listed (LockComesTo reads userdata who.tid lock word own.threads) (step_answer constants S who (lock_call reads userdata lock word scope rest))
    (lock_sound constants S who own rest userdata lock word scope asks new fits reads)
    (lock_line userdata who.tid lock word own.threads fits reads (holding_of word) (held_as word)) given

-- ---- a poll of a condition variable

condition_line : (userdata t condvar lock word : ℕ) (threads : Threads) (holding : Holding) → HeldAs holding word
    → (given : Answer) × ConditionComesTo userdata t condvar lock word threads given
condition_line userdata t condvar lock word threads unheld held = (_, not_held (free_unwritten t word held))
condition_line userdata t condvar lock word threads (written_by owner) held =
    elim (same_or owner t) [
      | inl is ↦ (_, sleeps (subst (λ k. IsHeldToWrite k word) is held))
      | inr other ↦ (_, not_held (other_unwritten t owner word other held))
    ]
condition_line userdata t condvar lock word threads (read_by readers) held = (_, not_held (read_unwritten t readers word held))

module _ (constants : Constants) (S : State) (who : Who) (own : ProcessState) (rest : List Subscription)
    (userdata condvar condvar_word lock word condvar_scope lock_scope : ℕ) (asks : IsAsking S who own rest) (new : who.stage ≡ None) where
  condition_sound : (given : Answer) → ConditionComesTo userdata who.tid condvar lock word own.threads given
      → given ≡ step_answer constants S who (condition_call userdata condvar condvar_word lock word condvar_scope lock_scope rest)
  condition_sound given (not_held isnt) =
      sym (condition_is_asked.refused constants S who own rest userdata condvar condvar_word lock word condvar_scope lock_scope asks new isnt)
  condition_sound given (sleeps held) =
      sym (condition_is_asked.sleeps constants S who own rest userdata condvar condvar_word lock word condvar_scope lock_scope asks new held)

pub condition_poll_is_listed : ConditionPollIsListed
condition_poll_is_listed constants S who rest userdata condvar condvar_word lock word condvar_scope lock_scope table own given unrefused alone new =
    let asks =
    asking_is S who (condition_call userdata condvar condvar_word lock word condvar_scope lock_scope rest) table own rest unrefused alone in
    listed (ConditionComesTo userdata who.tid condvar lock word own.threads)
    (step_answer constants S who (condition_call userdata condvar condvar_word lock word condvar_scope lock_scope rest))
    (condition_sound constants S who own rest userdata condvar condvar_word lock word condvar_scope lock_scope asks new)
    (condition_line userdata who.tid condvar lock word own.threads (holding_of word) (held_as word)) given
