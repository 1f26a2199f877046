-- To whom a lock is handed, and which threads are signalled.
--     waits_words, words_wait, sleeps_words, words_sleep      who waits, in other words
--     in_turn      a lock is handed on in turn
--     word_tells_owner      and its word tells to whom
--     some_true, some_false, len_counts      whether there is a thread of some kind, and how many
use Rattle.std.proofs.Common.{◌≡◌, ◌≢◌, ◌⊎◌, inl, inr, ℕ, ◌+◌, ◌^◌, ◌<◌, ◌≤◌, ◌==◌, ◌&&◌, not, Bool, true, false, List, ◌∷◌, Option, Some, None, IsSome, is_some, refl, sym, ap, subst, ◌∙◌, arith}
use Rattle.std.proofs.lemmas.Bool.{eq-eqb, ltb-false, le-ltb}
use Rattle.std.proofs.lemmas.Bool.Decides.{eqb_tells}
use Rattle.std.specs.Option.{option_map}
use Rattle.std.specs.Prelude.{if◌then◌else◌, nat_lt}
use Rattle.std.specs.FinMap.{get, len}
use Rattle.abi_structures.specs.declared.events.Subscription.{Subscription}
use Rattle.abi_structures.specs.declared.events.What.{What}
use Rattle.abi_structures.specs.declared.events.What.TheVariants.{Condvar, LockRdlock, LockWrlock}
use Rattle.abi_types.specs.declared.call.Call.{Call}
use Rattle.abi_types.specs.declared.call.Call.TheVariants.{Poll}
use Rattle.abi_types.specs.declared.thread.Stage.{Stage}
use Rattle.abi_types.specs.declared.thread.Stage.TheVariants.{Begun, Queued, Granted}
use Rattle.abi_types.specs.declared.thread.Thread.{Thread}
use Rattle.abi_types.specs.declared.thread.Thread.TheVariants.{Runnable, Waits}
use Rattle.maps.specs.Closure.{get-changed, total_ones}
use Rattle.maps.specs.Maps.{passes, weight, total, total_same, least_key, least_key-entry, least_key-none}
use Rattle.kernel_model.specs.Earliest.{earliest, is_first, moment_at, moment_of_value}
use Rattle.kernel_model.specs.Families.Locks.{Next, all_readers, at_address, awaits_lock, awaits_signal, count_next, first_awaited, front, given, handed, handed_word, is_late, is_next, is_not_after, is_reader, is_to_read, low_word, managed_if, next_by, next_of, nobody, one_writer, reads_in, reads_next, sleeps_at, some_waits, waits_for, waits_to_write}
use Rattle.kernel_model.specs.LockLaws.{has_come_to, InTurn, IsGiven, IsManaged, NoneWaits, SleepsAt, Waiter, WaitsFor, WaitsIn, WordTellsOwner}
use Rattle.kernel_model.specs.State.{Threads}
use Rattle.kernel_model.proofs.Earliest.{earliest_least, earliest_there}
use Rattle.kernel_model.proofs.Locks.{both_true, next_as, next_waits, IsNextAs}
use Rattle.kernel_model.proofs.Tests.{none_is_no, not_true, same_some}

-- ---- who waits

pub equal_is : (a b : ℕ) → (a == b) ≡ true → a ≡ b
equal_is a b h = elim (eqb_tells a b) [ inl is ↦ is.1 | inr other ↦ absurd (not_true (sym other.0 ∙ h)) ]

at_is : (at address moment other : ℕ) → at_address at address moment ≡ Some other → (at ≡ address) × (moment ≡ other)
at_is at address moment other h =
    elim (address == at) as (λ b. (address == at) ≡ b → (if b then Some moment else None) ≡ Some other → (at ≡ address) × (moment ≡ other)) [
      | true ↦ λ is e. (sym (equal_is address at is), same_some moment other e)
      | false ↦ λ _ e. absurd (none_is_no other e)
    ] refl h

at_same : (at moment : ℕ) → at_address at at moment ≡ Some moment
at_same at moment = ap (λ b. if b then Some moment else None) (eq-eqb at at refl)

waits_in : (first : Subscription) (rest : List Subscription) (until : Option ℕ) (what : What) (since moment : ℕ) (stage : Stage) → first.what ≡ what
    → since ≡ moment → WaitsIn what moment stage (Waits (Poll (first ∷ rest)) since until stage)
waits_in first rest until what since moment stage is same = (first, rest, until, is, ap (λ m. Waits (Poll (first ∷ rest)) m until stage) same)

waits_words_by : (lock moment : ℕ) (first : Subscription) (rest : List Subscription) (since : ℕ) (until : Option ℕ) (what : What) (stage : Stage)
    → first.what ≡ what → awaits_lock lock (Some what) since stage ≡ Some moment
    → WaitsFor (is_to_read (Some what)) lock moment (Waits (Poll (first ∷ rest)) since until stage)
waits_words_by lock moment first rest since until (LockRdlock address word scope) Begun is h =
    let at = at_is lock address since moment h in
    (word, scope, waits_in first rest until (LockRdlock lock word scope) since moment Begun (is ∙ ap (λ a. LockRdlock a word scope) (sym at.0)) at.1)
waits_words_by lock moment first rest since until (LockWrlock address word scope) Begun is h =
    let at = at_is lock address since moment h in
    inl (word, scope, waits_in first rest until (LockWrlock lock word scope) since moment Begun (is ∙ ap (λ a. LockWrlock a word scope) (sym at.0)) at.1)
waits_words_by lock moment first rest since until (Condvar condvar condvar_word address lock_word condvar_scope lock_scope) (Queued left late) is h =
    let at = at_is lock address left moment h in
    inr (
      condvar,
      condvar_word,
      lock_word,
      condvar_scope,
      lock_scope,
      since,
      late,
      (
        first,
        rest,
        until,
        is ∙ ap (λ a. Condvar condvar condvar_word a lock_word condvar_scope lock_scope) (sym at.0),
        ap (λ m. Waits (Poll (first ∷ rest)) since until (Queued m late)) at.1,
      ),
    )
waits_words_by lock moment first rest since until what stage is h = absurd (none_is_no moment h)

waits_words_call : (lock moment : ℕ) (call : Call) (since : ℕ) (until : Option ℕ) (stage : Stage)
    → awaits_lock lock (first_awaited call) since stage ≡ Some moment
    → WaitsFor (is_to_read (first_awaited call)) lock moment (Waits call since until stage)
waits_words_call lock moment (Poll (first ∷ rest)) since until stage h = waits_words_by lock moment first rest since until first.what stage refl h
waits_words_call lock moment other since until stage h = absurd (none_is_no moment h)

-- one that waits for the lock by its definition does in other words
pub waits_words : (lock moment : ℕ) (thread : Thread) → waits_for lock thread ≡ Some moment → WaitsFor (is_reader thread) lock moment thread
waits_words lock moment Runnable h = absurd (none_is_no moment h)
waits_words lock moment (Waits call since until stage) h = waits_words_call lock moment call since until stage h

-- and the other way round
abbrev pub IsWaiting : Bool → ℕ → ℕ → Thread → Type 0
IsWaiting reads lock moment thread = (waits_for lock thread ≡ Some moment) × (is_reader thread ≡ reads)

in_waits : (reads : Bool) (lock moment since : ℕ) (stage : Stage) (what : What) (thread : Thread) → WaitsIn what since stage thread
    → awaits_lock lock (Some what) since stage ≡ Some moment → is_to_read (Some what) ≡ reads → IsWaiting reads lock moment thread
in_waits reads lock moment since stage what thread h waits kind =
    subst (IsWaiting reads lock moment) (sym h.4)
    (ap (λ w. awaits_lock lock (Some w) since stage) h.3 ∙ waits, ap (λ w. is_to_read (Some w)) h.3 ∙ kind)

pub words_wait : (reads : Bool) (lock moment : ℕ) (thread : Thread) → WaitsFor reads lock moment thread → IsWaiting reads lock moment thread
words_wait true lock moment thread h =
    in_waits true lock moment moment Begun (LockRdlock lock h.0 h.1) thread h.2 (at_same lock moment) refl
words_wait false lock moment thread (inl h) =
    in_waits false lock moment moment Begun (LockWrlock lock h.0 h.1) thread h.2 (at_same lock moment) refl
words_wait false lock moment thread (inr h) =
    in_waits false lock moment h.5 (Queued moment h.6) (Condvar h.0 h.1 lock h.2 h.3 h.4) thread h.7 (at_same lock moment) refl

sleeps_words_by : (condvar moment : ℕ) (first : Subscription) (rest : List Subscription) (since : ℕ) (until : Option ℕ) (what : What) (stage : Stage)
    → first.what ≡ what → awaits_signal condvar (Some what) since stage ≡ Some moment
    → SleepsAt condvar moment (Waits (Poll (first ∷ rest)) since until stage)
sleeps_words_by condvar moment first rest since until (Condvar address condvar_word lock lock_word condvar_scope lock_scope) Begun is h =
    let at = at_is condvar address since moment h in (
      condvar_word,
      lock,
      lock_word,
      condvar_scope,
      lock_scope,
      waits_in first rest until (Condvar condvar condvar_word lock lock_word condvar_scope lock_scope) since moment Begun
          (is ∙ ap (λ a. Condvar a condvar_word lock lock_word condvar_scope lock_scope) (sym at.0)) at.1,
    )
sleeps_words_by condvar moment first rest since until what stage is h = absurd (none_is_no moment h)

sleeps_words_call : (condvar moment : ℕ) (call : Call) (since : ℕ) (until : Option ℕ) (stage : Stage)
    → awaits_signal condvar (first_awaited call) since stage ≡ Some moment → SleepsAt condvar moment (Waits call since until stage)
sleeps_words_call condvar moment (Poll (first ∷ rest)) since until stage h = sleeps_words_by condvar moment first rest since until first.what stage refl h
sleeps_words_call condvar moment other since until stage h = absurd (none_is_no moment h)

-- the same of those that wait at a condition variable
pub sleeps_words : (condvar moment : ℕ) (thread : Thread) → sleeps_at condvar thread ≡ Some moment → SleepsAt condvar moment thread
sleeps_words condvar moment Runnable h = absurd (none_is_no moment h)
sleeps_words condvar moment (Waits call since until stage) h = sleeps_words_call condvar moment call since until stage h

pub words_sleep : (condvar moment : ℕ) (thread : Thread) → SleepsAt condvar moment thread → sleeps_at condvar thread ≡ Some moment
words_sleep condvar moment thread h =
    subst (λ x. sleeps_at condvar x ≡ Some moment) (sym h.5.4)
    (ap (λ w. awaits_signal condvar (Some w) moment Begun) h.5.3 ∙ at_same condvar moment)

-- ---- who is given the lock

pub some_moment : (o : Option ℕ) → IsSome o → (moment : ℕ) × (o ≡ Some moment)
some_moment None h = absurd (not_true h)
some_moment (Some moment) h = (moment, refl)

-- whether its deadline came before a signal
abbrev late_of : Thread → Bool
late_of Runnable = false
late_of (Waits call since until stage) = is_late stage

given_come : (thread : Thread) → given thread ≡ has_come_to (Granted (late_of thread)) thread
given_come Runnable = refl
given_come (Waits call since until stage) = refl

-- one that was given the lock waits for it no more
granted_by : (lock since : ℕ) (late : Bool) (what : Option What) → awaits_lock lock what since (Granted late) ≡ None
granted_by lock since late None = refl
granted_by lock since late (Some (LockRdlock address word scope)) = refl
granted_by lock since late (Some (LockWrlock address word scope)) = refl
granted_by lock since late (Some (Condvar condvar condvar_word address lock_word condvar_scope lock_scope)) = refl
granted_by lock since late (Some other) = refl

granted_waits_not : (lock : ℕ) (late : Bool) (thread : Thread) → waits_for lock (has_come_to (Granted late) thread) ≡ None
granted_waits_not lock late Runnable = refl
granted_waits_not lock late (Waits call since until stage) = granted_by lock since late (first_awaited call)

-- waits to write, by its parts
to_write_is : (lock : ℕ) (thread : Thread) (moment : ℕ) → is_reader thread ≡ false → waits_for lock thread ≡ Some moment
    → waits_to_write lock thread ≡ Some moment
to_write_is lock thread moment writes waits = ap (λ b. if b then None else waits_for lock thread) writes ∙ waits

of_write : (lock : ℕ) (thread : Thread) (moment : ℕ) → waits_to_write lock thread ≡ Some moment
    → (is_reader thread ≡ false) × (waits_for lock thread ≡ Some moment)
of_write lock thread moment h =
    elim (is_reader thread) as (λ b. is_reader thread ≡ b → (if b then None else waits_for lock thread) ≡ Some moment
    → (is_reader thread ≡ false) × (waits_for lock thread ≡ Some moment)) [
      | true ↦ λ _ none. absurd (none_is_no moment none)
      | false ↦ λ writes waits. (writes, waits)
    ] refl h

not_is : (b : Bool) → not b ≡ true → b ≡ false
not_is true h = absurd (not_true h)
not_is false h = refl

-- to whom a lock is handed
abbrev is_all : Next → Bool
is_all nobody = false
is_all (one_writer t) = false
is_all all_readers = true

abbrev writer_of : Next → ℕ
writer_of nobody = 0
writer_of (one_writer t) = t
writer_of all_readers = 0

apart_next : (t : ℕ) → all_readers ≢ one_writer t
apart_next t e = not_true (sym (ap is_all e))

same_writer : (u t : ℕ) → one_writer u ≡ one_writer t → u ≡ t
same_writer u t e = ap writer_of e

module _ (lock : ℕ) (threads : Threads) where
  abbrev after : Threads
  after = handed lock threads

  -- whether the lock is handed to the thread
  abbrev IsNext : ℕ → Thread → Type 0
  IsNext t thread = is_next (next_of lock threads) lock threads t thread ≡ true

  handed_at : (t : ℕ) (thread : Thread) (b : Bool) → get threads t ≡ Some thread → is_next (next_of lock threads) lock threads t thread ≡ b
      → get after t ≡ Some (if b then given thread else thread)
  handed_at t thread b there is =
      get-changed (λ u x. if is_next (next_of lock threads) lock threads u x then given x else x) threads t
      ∙ ap (option_map (λ x. if is_next (next_of lock threads) lock threads t x then given x else x)) there
      ∙ ap (λ c. Some (if c then given thread else thread)) is

  -- where one is next that waits, it is given the lock
  to_given : (reads : Bool) (t moment : ℕ) (thread : Thread) → get threads t ≡ Some thread → IsWaiting reads lock moment thread → IsNext t thread
      → IsGiven reads lock threads after t moment
  to_given reads t moment thread there waits next = (
    thread,
    late_of thread,
    there,
    subst (λ b. WaitsFor b lock moment thread) waits.1 (waits_words lock moment thread waits.0),
    handed_at t thread true there next ∙ ap Some (given_come thread),
  )

  -- what it takes that thread t is given it
  record Given (reads : Bool) (t moment : ℕ) : Type 0 where
    thread : Thread
    there : get threads t ≡ Some thread
    waits : waits_for lock thread ≡ Some moment
    kind : is_reader thread ≡ reads
    next : IsNextAs lock threads t thread

  of_given : (reads : Bool) (t moment : ℕ) → IsGiven reads lock threads after t moment → Given reads t moment
  of_given reads t moment h =
      let thread = h.0 in
      let waits = words_wait reads lock moment thread h.3 in
      record {
        thread = thread;
        there = h.2;
        waits = waits.0;
        kind = waits.1;
        next = next_as lock threads t thread h.2
            (elim (is_next (next_of lock threads) lock threads t thread) as (λ b. is_next (next_of lock threads) lock threads t thread ≡ b → b ≡ true) [
              | true ↦ λ _. refl
              | false ↦ λ isnt. absurd (none_is_no moment (sym (granted_waits_not lock h.1 thread)
                  ∙ ap (waits_for lock) (sym (same_some thread (has_come_to (Granted h.1) thread) (sym (handed_at t thread false h.2 isnt) ∙ h.4)))
                  ∙ waits.0))
            ] refl);
      }

  -- ---- who stands first

  front_earliest : earliest (waits_for lock) threads ≡ moment_at (waits_for lock) threads (front lock threads)
  unfolding earliest
  front_earliest = refl

  -- the first has waited no shorter than any
  first_least : (t moment : ℕ) (thread : Thread) → front lock threads ≡ Some t → get threads t ≡ Some thread → waits_for lock thread ≡ Some moment
      → (u other : ℕ) (x : Thread) → get threads u ≡ Some x → waits_for lock x ≡ Some other → moment ≤ other
  first_least t moment thread stands there waits u other x here longer =
      let least = earliest_least (waits_for lock) threads u x other here longer in
      let same : moment ≡ least.0 =
      same_some moment least.0 (sym waits ∙ sym (ap (moment_of_value (waits_for lock)) there) ∙ sym (ap (moment_at (waits_for lock) threads) stands) ∙ sym front_earliest ∙ least.1) in
      omega (arith, same, least.2)

  front_by : (least : ℕ) (o : Option ℕ) → front lock threads ≡ o → moment_at (waits_for lock) threads o ≡ Some least
      → (t : ℕ) × (thread : Thread) × (front lock threads ≡ Some t) × (get threads t ≡ Some thread) × (waits_for lock thread ≡ Some least)
  front_by least None stands h = absurd (none_is_no least h)
  front_by least (Some t) stands h =
      elim (get threads t) as (λ o. get threads t ≡ o → moment_of_value (waits_for lock) o ≡ Some least
      → (u : ℕ) × (thread : Thread) × (front lock threads ≡ Some u) × (get threads u ≡ Some thread) × (waits_for lock thread ≡ Some least)) [
        | None ↦ λ _ none. absurd (none_is_no least none)
        | Some thread ↦ λ there waits. (t, thread, stands, there, waits)
      ] refl h

  -- where one waits some stands first
  front_there : (u other : ℕ) (x : Thread) → get threads u ≡ Some x → waits_for lock x ≡ Some other
      → (t : ℕ) × (thread : Thread) × (moment : ℕ) × (front lock threads ≡ Some t) × (get threads t ≡ Some thread) × (waits_for lock thread ≡ Some moment)
  front_there u other x here waits =
      let least = earliest_least (waits_for lock) threads u x other here waits in
      let first = front_by least.0 (front lock threads) refl (sym front_earliest ∙ least.1) in
      (first.0, first.1, least.0, first.2, first.3, first.4)

  -- ---- who reads

  -- one waits to read before any that waits to write
  abbrev BeforeWriters : ℕ → Type 0
  BeforeWriters moment = (w other : ℕ) (x : Thread) → get threads w ≡ Some x → is_reader x ≡ false → waits_for lock x ≡ Some other → moment ≤ other

  reads_next_is : (thread : Thread) (moment : ℕ) → is_reader thread ≡ true → waits_for lock thread ≡ Some moment → BeforeWriters moment
      → reads_next lock threads thread ≡ true
  reads_next_is thread moment reads waits before =
      ap (λ b. b && is_not_after (waits_for lock thread) (earliest (waits_to_write lock) threads)) reads
      ∙ ap (λ o. is_not_after o (earliest (waits_to_write lock) threads)) waits
      ∙ elim (earliest (waits_to_write lock) threads) as (λ o. earliest (waits_to_write lock) threads ≡ o → is_not_after (Some moment) o ≡ true) [
        | None ↦ λ _. refl
        | Some least ↦ λ is.
            let writer = earliest_there (waits_to_write lock) threads least is in
            let parts = of_write lock writer.1 least writer.3 in
            ap not (le-ltb least moment (before writer.0 least writer.1 writer.2 parts.0 parts.1))
      ] refl

  reads_next_of : (thread : Thread) (moment : ℕ) → reads_next lock threads thread ≡ true → waits_for lock thread ≡ Some moment → BeforeWriters moment
  reads_next_of thread moment next waits w other x here writes longer =
      let least = earliest_least (waits_to_write lock) threads w x other here (to_write_is lock x other writes longer) in
      let stands : not (nat_lt least.0 moment) ≡ true =
      sym (ap (is_not_after (waits_for lock thread)) least.1 ∙ ap (λ o. is_not_after o (Some least.0)) waits)
      ∙ (both_true (is_reader thread) (is_not_after (waits_for lock thread) (earliest (waits_to_write lock) threads)) next).1 in
      let most = ltb-false least.0 moment (not_is (nat_lt least.0 moment) stands) in
      omega (arith, most, least.2)

  -- the lock is handed to all that read, where the first does, and to the first, where it is to write
  front_next : (t : ℕ) (thread : Thread) → front lock threads ≡ Some t → get threads t ≡ Some thread → (b : Bool) → is_reader thread ≡ b
      → next_of lock threads ≡ (if b then all_readers else one_writer t)
  front_next t thread stands there b kind =
      ap (next_by threads) stands ∙ ap (λ o. if reads_in o then all_readers else one_writer t) there ∙ ap (λ c. if c then all_readers else one_writer t) kind

  front_is_next : (t moment : ℕ) (thread : Thread) → front lock threads ≡ Some t → get threads t ≡ Some thread → waits_for lock thread ≡ Some moment
      → IsNext t thread
  front_is_next t moment thread stands there waits =
      elim (is_reader thread) as (λ b. is_reader thread ≡ b → IsNext t thread) [
        | true ↦ λ reads. ap (λ n. is_next n lock threads t thread) (front_next t thread stands there true reads)
            ∙ reads_next_is thread moment reads waits (λ w other x here _ longer. first_least t moment thread stands there waits w other x here longer)
        | false ↦ λ writes. ap (λ n. is_next n lock threads t thread) (front_next t thread stands there false writes) ∙ eq-eqb t t refl
      ] refl

  -- ---- the clauses

  each_is : (t : ℕ) → (get after t ≡ get threads t) ⊎ ((reads : Bool) × (moment : ℕ) × IsGiven reads lock threads after t moment)
  each_is t =
      elim (get threads t) as (λ o. get threads t ≡ o
      → (get after t ≡ get threads t) ⊎ ((reads : Bool) × (moment : ℕ) × IsGiven reads lock threads after t moment)) [
        | None ↦ λ none. inl (get-changed (λ u x. if is_next (next_of lock threads) lock threads u x then given x else x) threads t
            ∙ ap (option_map (λ x. if is_next (next_of lock threads) lock threads t x then given x else x)) none ∙ sym none)
        | Some thread ↦ λ there. elim (is_next (next_of lock threads) lock threads t thread) as (λ b. is_next (next_of lock threads) lock threads t thread ≡ b
            → (get after t ≡ get threads t) ⊎ ((reads : Bool) × (moment : ℕ) × IsGiven reads lock threads after t moment)) [
              | true ↦ λ next.
                  let waits = some_moment (waits_for lock thread) (next_waits lock threads t thread there next) in
                  inr (is_reader thread, waits.0, to_given (is_reader thread) t waits.0 thread there (waits.1, refl) next)
              | false ↦ λ isnt. inl (handed_at t thread false there isnt ∙ sym there)
            ] refl
      ] refl

  some_is : (reads : Bool) (t moment : ℕ) → Waiter reads lock threads t moment
      → (r : Bool) × (u : ℕ) × (since : ℕ) × IsGiven r lock threads after u since
  some_is reads t moment h =
      let waits = words_wait reads lock moment h.0 h.2 in
      let first = front_there t moment h.0 h.1 waits.0 in (
        is_reader first.1,
        first.0,
        first.2,
        to_given (is_reader first.1) first.0 first.2 first.1 first.4 (first.5, refl) (front_is_next first.0 first.2 first.1 first.3 first.4 first.5),
      )

  -- another reader is given it too
  reader_too : (u since : ℕ) (x : Thread) → next_of lock threads ≡ all_readers → get threads u ≡ Some x → IsWaiting true lock since x → BeforeWriters since
      → IsGiven true lock threads after u since
  reader_too u since x all here waits before =
      to_given true u since x here waits (ap (λ n. is_next n lock threads u x) all ∙ reads_next_is x since waits.1 waits.0 before)

  turn_is : (reads r : Bool) (t u moment longer : ℕ) → IsGiven reads lock threads after t moment → Waiter r lock threads u longer → longer < moment
      → (reads ≡ true) × (r ≡ true) × IsGiven true lock threads after u longer
  turn_is reads r t u moment longer h other less =
      let one = of_given reads t moment h in
      let waits = words_wait r lock longer other.0 other.2 in
      elim one.next [
        | inl all ↦ (
            let before = reads_next_of one.thread moment all.1 one.waits in
            let is_read : is_reader one.thread ≡ true =
            (both_true (is_reader one.thread) (is_not_after (waits_for lock one.thread) (earliest (waits_to_write lock) threads)) all.1).0 in
            elim (is_reader other.0) as (λ b. is_reader other.0 ≡ b → (reads ≡ true) × (r ≡ true) × IsGiven true lock threads after u longer) [
              | true ↦ λ read. (
                sym one.kind ∙ is_read,
                sym waits.1 ∙ read,
                reader_too u longer other.0 all.0 other.1 (waits.0, read)
                    (λ w c x here writes since. let most = before w c x here writes since in omega (arith, most, less)),
              )
              | false ↦ λ writes. (let most = before u longer other.0 other.1 writes waits.0 in absurd (omega (arith, most, less)))
            ] refl)
        | inr alone ↦ (
            let most = first_least t moment one.thread alone.1 one.there one.waits u longer other.0 other.1 waits.0 in
            absurd (omega (arith, most, less)))
      ]

  alone_is : (r : Bool) (t u moment other : ℕ) → IsGiven false lock threads after t moment → IsGiven r lock threads after u other → u ≡ t
  alone_is r t u moment other h more =
      let one = of_given false t moment h in
      let two = of_given r u other more in
      elim one.next [
        | inl all ↦ absurd (not_true (sym one.kind
            ∙ (both_true (is_reader one.thread) (is_not_after (waits_for lock one.thread) (earliest (waits_to_write lock) threads)) all.1).0))
        | inr alone ↦ elim two.next [
          | inl all ↦ absurd (apart_next t (sym all.0 ∙ alone.0))
          | inr other ↦ same_writer u t (sym other.0 ∙ alone.0)
        ]
      ]

  together_is : (t u moment since : ℕ) → IsGiven true lock threads after t moment → Waiter true lock threads u since
      → ((w other : ℕ) → Waiter false lock threads w other → since ≤ other) → IsGiven true lock threads after u since
  together_is t u moment since h other before =
      let one = of_given true t moment h in
      let waits = words_wait true lock since other.0 other.2 in
      elim one.next [
        | inl all ↦ reader_too u since other.0 all.0 other.1 waits
            (λ w c x here writes longer. before w c (x, here, subst (λ b. WaitsFor b lock c x) writes (waits_words lock c x longer)))
        | inr alone ↦ absurd (not_true (sym alone.2 ∙ one.kind))
      ]

  late_is : (t : ℕ) (call : Call) (since moment : ℕ) (until : Option ℕ) (came : Bool) → get threads t ≡ Some (Waits call since until (Queued moment came))
      → (get after t ≡ get threads t) ⊎ (get after t ≡ Some (Waits call since until (Granted came)))
  late_is t call since moment until came there =
      let thread = Waits call since until (Queued moment came) in
      elim (is_next (next_of lock threads) lock threads t thread) as (λ b. is_next (next_of lock threads) lock threads t thread ≡ b
      → (get after t ≡ get threads t) ⊎ (get after t ≡ Some (Waits call since until (Granted came)))) [
        | true ↦ λ next. inr (handed_at t thread true there next)
        | false ↦ λ isnt. inl (handed_at t thread false there isnt ∙ sym there)
      ] refl

pub in_turn : InTurn
in_turn = record {
  others = each_is;
  some = λ reads lock threads t moment. some_is lock threads reads t moment;
  turn = λ reads r lock threads t u moment longer. turn_is lock threads reads r t u moment longer;
  alone = λ r lock threads t u moment other. alone_is lock threads r t u moment other;
  together = together_is;
  late = late_is;
}

-- ---- whether some have a moment

module _ (f : Thread → Option ℕ) (m : Threads) where
  pub some_true : (t moment : ℕ) (thread : Thread) → get m t ≡ Some thread → f thread ≡ Some moment → is_some (least_key (λ k x. is_some (f x)) m) ≡ true
  some_true t moment thread there has =
      elim (least_key (λ k x. is_some (f x)) m) as (λ o. least_key (λ k x. is_some (f x)) m ≡ o → is_some o ≡ true) [
        | Some u ↦ λ _. refl
        | None ↦ λ none. absurd (not_true (sym (least_key-none (λ k x. is_some (f x)) m none t)
            ∙ ap (passes (λ k x. is_some (f x)) t) there ∙ ap is_some has))
      ] refl

  pub some_false : ((t moment : ℕ) (thread : Thread) → get m t ≡ Some thread → f thread ≡ Some moment → ⊥)
      → is_some (least_key (λ k x. is_some (f x)) m) ≡ false
  some_false none =
      elim (least_key (λ k x. is_some (f x)) m) as (λ o. least_key (λ k x. is_some (f x)) m ≡ o → is_some o ≡ false) [
        | Some u ↦ λ found.
            let entry = least_key-entry (λ k x. is_some (f x)) m u found in
            let moment = some_moment (f entry.0) entry.2 in
            absurd (none u moment.0 entry.0 entry.1 moment.1)
        | None ↦ λ _. refl
      ] refl

-- ---- the word

count_one : (o : Option Thread) → IsSome o → weight (λ _. 1) o ≡ 1
count_one None h = absurd (not_true h)
count_one (Some thread) h = refl

count_none : (o : Option Thread) → (IsSome o → ⊥) → weight (λ _. 1) o ≡ 0
count_none None h = refl
count_none (Some thread) h = absurd (h refl)

-- a map with those threads alone that pass a test has as many as there are
pub len_counts : (test : Thread → Bool) (threads some : Threads) → ((t : ℕ) (thread : Thread) → get threads t ≡ Some thread → test thread ≡ true → IsSome (get some t))
    → ((t : ℕ) → IsSome (get some t) → (thread : Thread) × (get threads t ≡ Some thread) × (test thread ≡ true))
    → total (λ thread. if test thread then 1 else 0) threads ≡ len some
len_counts test threads some each only =
    sym (total_same (λ _. 1) (λ thread. if test thread then 1 else 0) some threads (λ t.
    elim (get threads t) as (λ o. get threads t ≡ o → weight (λ _. 1) (get some t) ≡ weight (λ thread. if test thread then 1 else 0) o) [
      | None ↦ λ none. count_none (get some t) (λ h. let one = only t h in none_is_no one.0 (sym none ∙ one.1))
      | Some thread ↦ λ there. elim (test thread) as (λ b. test thread ≡ b → weight (λ _. 1) (get some t) ≡ (if b then 1 else 0)) [
        | true ↦ λ passes. count_one (get some t) (each t thread there passes)
        | false ↦ λ fails. count_none (get some t) (λ h.
            let one = only t h in
            not_true (sym fails ∙ ap test (same_some thread one.0 (sym there ∙ one.1)) ∙ one.2))
      ] refl
    ] refl))
    ∙ total_ones some

managed_is : (lock : ℕ) (threads : Threads) (low : ℕ) → IsManaged lock threads low (low + managed_if (some_waits lock threads))
managed_is lock threads low = record {
  waits = λ reads t moment h.
      ap (λ b. low + managed_if b) (some_true (waits_for lock) threads t moment h.0 h.1 (words_wait reads lock moment h.0 h.2).0);
  none = λ none.
      ap (λ b. low + managed_if b) (some_false (waits_for lock) threads
      (λ t moment thread there waits. none (is_reader thread) t moment (thread, there, waits_words lock moment thread waits)))
      ∙ omega arith;
}

-- a thread that waits once the lock was handed on waited before
waited_before : (lock : ℕ) (threads : Threads) → NoneWaits lock threads → NoneWaits lock (handed lock threads)
waited_before lock threads none reads t moment h =
    elim (each_is lock threads t) [
      | inl same ↦ none reads t moment (h.0, sym same ∙ h.1, h.2)
      | inr new ↦ none new.0 t new.1 (new.2.0, new.2.2, new.2.3)
    ]

none_next : (lock : ℕ) (threads : Threads) → NoneWaits lock threads → next_of lock threads ≡ nobody
none_next lock threads none =
    ap (next_by threads) (elim (front lock threads) as (λ o. front lock threads ≡ o → o ≡ None) [
      | None ↦ λ _. refl
      | Some t ↦ λ stands.
          let entry = least_key-entry (λ k x. is_first (waits_for lock) threads (waits_for lock x)) threads t stands in
          let moment = first_moment (waits_for lock entry.0) entry.2 in
          absurd (none (is_reader entry.0) t moment.0 (entry.0, entry.1, waits_words lock moment.0 entry.0 moment.1))
    ] refl) where
      first_moment : (o : Option ℕ) → is_first (waits_for lock) threads o ≡ true → (moment : ℕ) × (o ≡ Some moment)
      first_moment None h = absurd (not_true h)
      first_moment (Some moment) h = (moment, refl)

word_by : (lock : ℕ) (threads : Threads) (next : Next) → next_of lock threads ≡ next
    → handed_word lock threads ≡ low_word next lock threads + managed_if (some_waits lock (handed lock threads))
word_by lock threads next is = ap (λ n. low_word n lock threads + managed_if (some_waits lock (handed lock threads))) is

reads_all : (lock : ℕ) (threads : Threads) (t moment : ℕ) → IsGiven true lock threads (handed lock threads) t moment → next_of lock threads ≡ all_readers
reads_all lock threads t moment h =
    let one = of_given lock threads true t moment h in
    elim one.next [ inl all ↦ all.0 | inr alone ↦ absurd (not_true (sym alone.2 ∙ one.kind)) ]

pub word_tells_owner : WordTellsOwner
word_tells_owner = record {
  nobody = λ lock threads none.
      word_by lock threads nobody (none_next lock threads none)
      ∙ (managed_is lock (handed lock threads) 0).none (waited_before lock threads none);
  writer = λ lock threads t moment h.
      let one = of_given lock threads false t moment h in
      elim one.next [
        | inl all ↦ absurd (not_true (sym one.kind
            ∙ (both_true (is_reader one.thread) (is_not_after (waits_for lock one.thread) (earliest (waits_to_write lock) threads)) all.1).0))
        | inr alone ↦ subst (IsManaged lock (handed lock threads) (2 ^ 30 + t)) (sym (word_by lock threads (one_writer t) alone.0))
            (managed_is lock (handed lock threads) (2 ^ 30 + t))
      ];
  readers = λ lock threads t moment readers h are.
      let all = reads_all lock threads t moment h in
      let test = reads_next lock threads in
      let count : count_next lock threads ≡ len readers =
      len_counts test threads readers
      (λ u thread there next.
      let both = both_true (is_reader thread) (is_not_after (waits_for lock thread) (earliest (waits_to_write lock) threads)) next in
      let is_next = ap (λ n. is_next n lock threads u thread) all ∙ next in
      let waits = some_moment (waits_for lock thread) (next_waits lock threads u thread there is_next) in
      (are u).1 (waits.0, to_given lock threads true u waits.0 thread there (waits.1, both.0) is_next))
      (λ u some.
      let given = (are u).0 some in
      let one = of_given lock threads true u given.0 given.1 in
      (one.thread, one.there, elim one.next [ inl reads ↦ reads.1 | inr alone ↦ absurd (not_true (sym alone.2 ∙ one.kind)) ])) in
      subst (λ n. IsManaged lock (handed lock threads) n (handed_word lock threads)) count
      (subst (IsManaged lock (handed lock threads) (count_next lock threads)) (sym (word_by lock threads all_readers all))
      (managed_is lock (handed lock threads) (count_next lock threads)));
}
