-- What a call leaves of its process's threads, and of what the process has made.
--     undone_stays, made_where, ended_where      what a call that is not done, that makes no thread, and that ends none leaves
--     leaves_threads      the law of threads, by what the call does to its process
--     leaves_counts      the law of counts
--     bears_is, child_is      what a call that makes a child is by its meaning
--     moves_is      a call that gives locks to no thread that waits, and signals none, is so by its meaning
--     waited_draws, waited_keeps      a call in which a thread may wait draws no words, makes no child, and makes and ends no thread
use Rattle.std.proofs.Common.{◌≡◌, ◌≢◌, ◌⊎◌, ℕ, ◌+◌, ◌==◌, ◌≤◌, Bool, true, false, cond, List, [], ◌∷◌, Option, Some, None, IsSome, inl, inr, refl, sym, ap, subst, ◌∙◌, arith}
use Rattle.std.proofs.lemmas.Bool.{eq-eqb}
use Rattle.std.proofs.lemmas.Bool.Decides.{eqb_tells}
use Rattle.std.specs.Prelude.{if◌then◌else◌}
use Rattle.std.specs.Option.{option_map}
use Rattle.std.specs.FinMap.{get, remove, retain_keys}
use Rattle.abi_structures.specs.declared.events.Subscription.{Subscription}
use Rattle.abi_structures.specs.declared.events.What.{What}
use Rattle.abi_structures.specs.declared.events.What.TheVariants.{Condvar}
use Rattle.abi_types.specs.Families.{is_anonymous}
use Rattle.abi_types.specs.declared.reply.Answer.{Answer}
use Rattle.abi_types.specs.declared.reply.Answer.TheVariants as answer
use Rattle.abi_types.specs.declared.call.Call.{Call}
use Rattle.abi_types.specs.declared.call.Call.TheVariants as call
use Rattle.abi_types.specs.declared.counts.Counts.{Counts}
use Rattle.abi_types.specs.declared.reply.Reply.{Reply}
use Rattle.abi_types.specs.declared.reply.WordWrites.{WordWrites}
use Rattle.abi_types.specs.declared.constants.Constants.{Constants}
use Rattle.abi_types.specs.declared.descriptor.Denial.{Denial}
use Rattle.abi_base.specs.declared.errno.Errno.TheVariants.{Badf}
use Rattle.abi_types.specs.declared.thread.Thread.{Thread}
use Rattle.abi_types.specs.declared.thread.Thread.TheVariants.{Runnable}
use Rattle.abi_types.specs.declared.who.Who.{Who}
use Rattle.maps.specs.Closure.{changed, get-changed}
use Rattle.maps.specs.Maps.{get-insert-same, get-insert-other, get-remove-same, get-remove-other, get-retain}
use Rattle.kernel_model.specs.Calls.{meaning_of, named, need, refusal_of}
use Rattle.kernel_model.specs.Families.FileMeaning.{on_open}
use Rattle.kernel_model.specs.Families.MemoryCalls.{map_row, map_zeros, mapping}
use Rattle.kernel_model.specs.Families.LockCalls.{waited_own}
use Rattle.kernel_model.specs.Families.Locks.{handed_own, signalled_own, unlocked_own}
use Rattle.kernel_model.specs.Families.Numbers.{made_more}
use Rattle.kernel_model.specs.Families.Polls.{is_of_lock, poll, poll_by}
use Rattle.kernel_model.specs.Meaning.{Meaning}
use Rattle.kernel_model.specs.Need.{some_absent, first_lack, denied_by}
use Rattle.kernel_model.specs.Outcome.{OnReply}
use Rattle.kernel_model.specs.OwnChanges.{OwnChange, keeps_own, makes_one, ends_one, draws_words, forks_one, begins_anew, lets_lock_go, signals_some, hands_lock_on, begins_to_sleep, begun_anew, born_of, drawn_more, next_child, with_next_child, is_done, is_success, next_thread, own_by, with_next_thread, without_thread, IsChangedBy, AllowsChange}
use Rattle.kernel_model.specs.Reply.{refused, denied}
use Rattle.kernel_model.specs.State.{State, Table, Threads, ProcessState, no_counts, counts_in, threads_of, thread_in, thread_of}
use Rattle.kernel_model.specs.Threads.{child_in, child_made, ends_caller, ends_others, makes_child, makes_thread, moves_waiters, next_number, stays, words_drawn, IsMoved, LeavesCounts, LeavesThreads}
use Rattle.kernel_model.specs.Waits.{may_wait, thread_set, waiting, waits_if}
use Rattle.kernel_model.proofs.Moving.{handed_moves, signalled_moves, unlocked_moves, moved_none, moved_set}
use Rattle.kernel_model.proofs.Parts.{number_apart, own_stays}
use Rattle.kernel_model.proofs.Threading.{with_here}
use Rattle.kernel_model.proofs.Tests.{not_true, none_is_no, same_some}

-- ---- what a call does to its process, by its name and by its meaning

-- whether a call that does this and was answered so makes a thread, or ends the one that made it; and the words that it draws
abbrev makes_by : OwnChange → Answer → Bool
makes_by makes_one given = is_done given
makes_by _ given = false

abbrev ends_by : OwnChange → Answer → Bool
ends_by (ends_one lock word) given = is_done given
ends_by _ given = false

abbrev draws_by : OwnChange → Answer → ℕ
draws_by (draws_words words) given = if is_done given then words else 0
draws_by (begins_anew words) given = if is_done given then words else 0
draws_by _ given = 0

-- whether it makes a child, and whether it ends the other threads
abbrev bears_by : OwnChange → Answer → Bool
bears_by forks_one given = is_done given
bears_by _ given = false

abbrev clears_by : OwnChange → Answer → Bool
clears_by (begins_anew words) given = is_done given
clears_by _ given = false

-- whether it may give locks to threads that wait, or signal them
abbrev moves_by : OwnChange → Answer → Bool
moves_by (ends_one lock word) given = is_done given
moves_by (lets_lock_go lock word) given = is_done given
moves_by (signals_some condvar n) given = is_done given
moves_by (hands_lock_on lock) given = begins_to_sleep given
moves_by _ given = false

-- a poll keeps its process, or hands a lock on
waited_by : (P : OwnChange → Type 0) → P keeps_own → ((lock : ℕ) → P (hands_lock_on lock)) → (what : What) → P (waited_own what)
waited_by P keeps hands (Condvar condvar condvar_word lock lock_word condvar_scope lock_scope) = hands lock
waited_by P keeps hands _ = keeps

pub poll_own : (P : OwnChange → Type 0) → P keeps_own → ((lock : ℕ) → P (hands_lock_on lock)) → (subscriptions : List Subscription) → P (poll subscriptions).own
poll_own P keeps hands [] = keeps
poll_own P keeps hands (first ∷ rest) =
    elim (is_of_lock first.what) as (λ b. P (poll_by b (first ∷ rest)).own) [ true ↦ waited_by P keeps hands first.what | false ↦ keeps ]

either_keeps : (b : Bool) (one other : Meaning) → one.own ≡ keeps_own → other.own ≡ keeps_own → (if b then one else other).own ≡ keeps_own
either_keeps true one other first second = first
either_keeps false one other first second = second

-- a mapping keeps its process
map_keeps_own : (b : Bool) (one other : Meaning) → one.own ≡ keeps_own → other.own ≡ keeps_own → keeps_own ≡ (if b then one else other).own
map_keeps_own b one other first second = sym (either_keeps b one other first second)

makes_is : (call : Call) (given : Answer) → makes_thread call given ≡ makes_by (meaning_of call).own given
makes_is (call.MemMap place length prot flags fd offset) given =
    ap (λ change. makes_by change given)
    (map_keeps_own (is_anonymous flags) (map_zeros place) (on_open (map_row fd prot) (mapping place length offset)) refl refl)
makes_is (call.Poll subscriptions) given = poll_own (λ change. false ≡ makes_by change given) refl (λ lock. refl) subscriptions
makes_is _ given = refl

ends_is : (call : Call) (given : Answer) → ends_caller call given ≡ ends_by (meaning_of call).own given
ends_is (call.MemMap place length prot flags fd offset) given =
    ap (λ change. ends_by change given)
    (map_keeps_own (is_anonymous flags) (map_zeros place) (on_open (map_row fd prot) (mapping place length offset)) refl refl)
ends_is (call.Poll subscriptions) given = poll_own (λ change. false ≡ ends_by change given) refl (λ lock. refl) subscriptions
ends_is _ given = refl

draws_is : (call : Call) (given : Answer) → words_drawn call given ≡ draws_by (meaning_of call).own given
draws_is (call.MemMap place length prot flags fd offset) given =
    ap (λ change. draws_by change given)
    (map_keeps_own (is_anonymous flags) (map_zeros place) (on_open (map_row fd prot) (mapping place length offset)) refl refl)
draws_is (call.Poll subscriptions) given = poll_own (λ change. 0 ≡ draws_by change given) refl (λ lock. refl) subscriptions
draws_is _ given = refl

bears_is : (call : Call) (given : Answer) → makes_child call given ≡ bears_by (meaning_of call).own given
bears_is (call.MemMap place length prot flags fd offset) given =
    ap (λ change. bears_by change given)
    (map_keeps_own (is_anonymous flags) (map_zeros place) (on_open (map_row fd prot) (mapping place length offset)) refl refl)
bears_is (call.Poll subscriptions) given = poll_own (λ change. false ≡ bears_by change given) refl (λ lock. refl) subscriptions
bears_is _ given = refl

clears_is : (call : Call) (given : Answer) → ends_others call given ≡ clears_by (meaning_of call).own given
clears_is (call.MemMap place length prot flags fd offset) given =
    ap (λ change. clears_by change given)
    (map_keeps_own (is_anonymous flags) (map_zeros place) (on_open (map_row fd prot) (mapping place length offset)) refl refl)
clears_is (call.Poll subscriptions) given = poll_own (λ change. false ≡ clears_by change given) refl (λ lock. refl) subscriptions
clears_is _ given = refl

moves_is : (call : Call) (given : Answer) → moves_waiters call given ≡ false → moves_by (meaning_of call).own given ≡ false
moves_is (call.Poll subscriptions) given isnt = poll_own (λ change. moves_by change given ≡ false) refl (λ lock. isnt) subscriptions
moves_is (call.MemMap place length prot flags fd offset) given isnt =
    sym (ap (λ change. moves_by change given)
    (map_keeps_own (is_anonymous flags) (map_zeros place) (on_open (map_row fd prot) (mapping place length offset)) refl refl))
moves_is _ given isnt = isnt

-- a call that is done makes the child that its meaning says
born_by : (change : OwnChange) (given : Answer) (p : ℕ) (own : Option ProcessState) → is_done given ≡ true
    → (if bears_by change given then next_child p own else None) ≡ born_of change p own
born_by keeps_own given p own done = refl
born_by makes_one given p own done = refl
born_by (ends_one lock word) given p own done = refl
born_by (lets_lock_go lock word) given p own done = refl
born_by (signals_some condvar n) given p own done = refl
born_by (hands_lock_on lock) given p own done = refl
born_by (draws_words words) given p own done = refl
born_by (begins_anew words) given p own done = refl
born_by forks_one given p own done = ap (λ b. if b then next_child p own else None) done

pub child_is : (call : Call) (given : Answer) (p : ℕ) (own : Option ProcessState) → is_done given ≡ true
    → child_made call given p own ≡ born_of (meaning_of call).own p own
child_is call given p own done =
    ap (λ b. if b then next_child p own else None) (bears_is call given) ∙ born_by (meaning_of call).own given p own done

-- ---- the process by what was done

-- a call that is not done, and whose thread does not begin to wait at a condition variable, leaves all
undone : (change : OwnChange) (t : ℕ) (given : Answer) → is_done given ≡ false → begins_to_sleep given ≡ false → (own : ProcessState)
    → own_by change t given own ≡ own
undone keeps_own t given isnt awake own = refl
undone makes_one t given isnt awake own = ap (λ b. if b then with_next_thread own else own) isnt
undone (ends_one lock word) t given isnt awake own = ap (λ b. if b then without_thread t (unlocked_own lock word t own) else own) isnt
undone (draws_words words) t given isnt awake own = ap (λ b. if b then drawn_more words own else own) isnt
undone forks_one t given isnt awake own = ap (λ b. if b then with_next_child own else own) isnt
undone (begins_anew words) t given isnt awake own = ap (λ b. if b then begun_anew words t own else own) isnt
undone (lets_lock_go lock word) t given isnt awake own = ap (λ b. if b then unlocked_own lock word t own else own) isnt
undone (signals_some condvar n) t given isnt awake own = ap (λ b. if b then signalled_own condvar n own else own) isnt
undone (hands_lock_on lock) t given isnt awake own = ap (λ b. if b then handed_own lock own else own) awake

pub undone_stays : (change : OwnChange) (t : ℕ) (given : Answer) → is_done given ≡ false → begins_to_sleep given ≡ false → (o : Option ProcessState)
    → IsChangedBy (own_by change t given) o o
undone_stays change t given isnt awake None = (0, refl)
undone_stays change t given isnt awake (Some own) =
    let same = own_stays (Some own) in
    (same.0, same.1 ∙ ap (λ x. Some (made_more same.0 x)) (sym (undone change t given isnt awake own)))

-- a call whose thread waits makes none and ends none
parked_makes : (change : OwnChange) (writes : WordWrites) → makes_by change (answer.Parked writes) ≡ false
parked_makes makes_one writes = refl
parked_makes _ writes = refl

parked_ends : (change : OwnChange) (writes : WordWrites) → ends_by change (answer.Parked writes) ≡ false
parked_ends (ends_one lock word) writes = refl
parked_ends _ writes = refl

parked_clears : (change : OwnChange) (writes : WordWrites) → clears_by change (answer.Parked writes) ≡ false
parked_clears (begins_anew words) writes = refl
parked_clears _ writes = refl

-- ---- one thread

-- a thread that is left alone
retained_here : (threads : Threads) (t u : ℕ) → get (retain_keys threads (λ k. k == t)) u ≡ cond (u == t) (get threads u) None
retained_here threads t u = get-retain threads (λ k. k == t) u

-- the threads of a process that is changed by the call
abbrev threads_after : OwnChange → ℕ → Answer → ProcessState → Threads
threads_after change t given own = (own_by change t given own).threads

-- one that the call doesn't end is what it was, where it was there, and the call gives no lock and signals none; that the number of the next was
-- free is known
kept_thread : (change : OwnChange) (t : ℕ) (given : Answer) (own : ProcessState) (u : ℕ) → AllowsChange change t given (Some own) → moves_by change given ≡ false
    → (u ≡ t → ends_by change given ≡ false) → (u ≢ t → clears_by change given ≡ false)
    → (IsSome (get own.threads u) ⊎ (makes_by change given ≡ false)) → get (threads_after change t given own) u ≡ get own.threads u
kept_thread keeps_own t given own u fresh still lasts clears there = refl
kept_thread (draws_words words) t given own u fresh still lasts clears there =
    elim (is_done given) as (λ b. get (if b then drawn_more words own else own).threads u ≡ get own.threads u) [ true ↦ refl | false ↦ refl ]
kept_thread forks_one t given own u fresh still lasts clears there =
    elim (is_done given) as (λ b. get (if b then with_next_child own else own).threads u ≡ get own.threads u) [ true ↦ refl | false ↦ refl ]
kept_thread (begins_anew words) t given own u fresh still lasts clears there =
    elim (is_done given) as (λ b. is_done given ≡ b → get (if b then begun_anew words t own else own).threads u ≡ get own.threads u) [
      | true ↦ λ done. (
          elim (eqb_tells u t) [
            | inl is ↦ retained_here own.threads t u ∙ ap (λ b. cond b (get own.threads u) None) is.0
            | inr apart ↦ absurd (not_true (sym (clears apart.1) ∙ done))
          ])
      | false ↦ λ _. refl
    ] refl
kept_thread makes_one t given own u fresh still lasts clears there =
    elim (is_done given) as (λ b. is_done given ≡ b → get (if b then with_next_thread own else own).threads u ≡ get own.threads u) [
      | true ↦ λ done. (
          elim (eqb_tells u (next_thread own)) [
            | inl is ↦ absurd (elim there [
              | inl some ↦ not_true (subst IsSome (ap (get own.threads) is.1 ∙ (fresh done).1) some)
              | inr none ↦ not_true (sym none ∙ done)
            ])
            | inr apart ↦ get-insert-other own.threads (next_thread own) Runnable u apart.1
          ])
      | false ↦ λ _. refl
    ] refl
kept_thread (ends_one lock word) t given own u fresh still lasts clears there =
    ap (λ b. get (if b then without_thread t (unlocked_own lock word t own) else own).threads u) still
kept_thread (lets_lock_go lock word) t given own u fresh still lasts clears there =
    ap (λ b. get (if b then unlocked_own lock word t own else own).threads u) still
kept_thread (signals_some condvar n) t given own u fresh still lasts clears there =
    ap (λ b. get (if b then signalled_own condvar n own else own).threads u) still
kept_thread (hands_lock_on lock) t given own u fresh still lasts clears there =
    ap (λ b. get (if b then handed_own lock own else own).threads u) still

-- one that stays what it was is moved as little as can be
moved_as : (before after : Option Thread) → after ≡ before → IsMoved before after
moved_as before after same = subst (IsMoved before) (sym same) (stays before)

-- it may be given a lock, or be signalled
moved_thread : (change : OwnChange) (t : ℕ) (given : Answer) (own : ProcessState) (u : ℕ) → AllowsChange change t given (Some own)
    → (u ≡ t → ends_by change given ≡ false) → (u ≢ t → clears_by change given ≡ false)
    → (IsSome (get own.threads u) ⊎ (makes_by change given ≡ false)) → IsMoved (get own.threads u) (get (threads_after change t given own) u)
moved_thread (ends_one lock word) t given own u fresh lasts clears there =
    elim (is_done given) as (λ b. is_done given ≡ b
    → IsMoved (get own.threads u) (get (if b then without_thread t (unlocked_own lock word t own) else own).threads u)) [
      | true ↦ λ done. (
          elim (eqb_tells u t) [
            | inl is ↦ absurd (not_true (sym (lasts is.1) ∙ done))
            | inr apart ↦ subst (IsMoved (get own.threads u)) (sym (get-remove-other (unlocked_own lock word t own).threads t u apart.1))
                (unlocked_moves lock word t own u)
          ])
      | false ↦ λ _. stays (get own.threads u)
    ] refl
moved_thread (lets_lock_go lock word) t given own u fresh lasts clears there =
    elim (is_done given) as (λ b. IsMoved (get own.threads u) (get (if b then unlocked_own lock word t own else own).threads u)) [
      | true ↦ unlocked_moves lock word t own u
      | false ↦ stays (get own.threads u)
    ]
moved_thread (signals_some condvar n) t given own u fresh lasts clears there =
    elim (is_done given) as (λ b. IsMoved (get own.threads u) (get (if b then signalled_own condvar n own else own).threads u)) [
      | true ↦ signalled_moves n condvar own.threads u
      | false ↦ stays (get own.threads u)
    ]
moved_thread (hands_lock_on lock) t given own u fresh lasts clears there =
    elim (begins_to_sleep given) as (λ b. IsMoved (get own.threads u) (get (if b then handed_own lock own else own).threads u)) [
      | true ↦ handed_moves lock own.threads u
      | false ↦ stays (get own.threads u)
    ]
moved_thread keeps_own t given own u fresh lasts clears there = stays (get own.threads u)
moved_thread makes_one t given own u fresh lasts clears there =
    moved_as (get own.threads u) (get (threads_after makes_one t given own) u) (kept_thread makes_one t given own u fresh refl lasts clears there)
moved_thread (draws_words words) t given own u fresh lasts clears there =
    moved_as (get own.threads u) (get (threads_after (draws_words words) t given own) u)
    (kept_thread (draws_words words) t given own u fresh refl lasts clears there)
moved_thread forks_one t given own u fresh lasts clears there =
    moved_as (get own.threads u) (get (threads_after forks_one t given own) u) (kept_thread forks_one t given own u fresh refl lasts clears there)
moved_thread (begins_anew words) t given own u fresh lasts clears there =
    moved_as (get own.threads u) (get (threads_after (begins_anew words) t given own) u)
    (kept_thread (begins_anew words) t given own u fresh refl lasts clears there)

-- the one that it ends is there no more
ended_here : (change : OwnChange) (t : ℕ) (given : Answer) (own : ProcessState) → ends_by change given ≡ true → get (threads_after change t given own) t ≡ None
ended_here (ends_one lock word) t given own ends =
    ap (λ b. get (if b then without_thread t (unlocked_own lock word t own) else own).threads t) ends
    ∙ get-remove-same (unlocked_own lock word t own).threads t
ended_here _ t given own ends = absurd (not_true ends)

-- the one that it makes runs
made_here : (change : OwnChange) (t : ℕ) (given : Answer) (own : ProcessState) → makes_by change given ≡ true
    → get (threads_after change t given own) (next_thread own) ≡ Some Runnable
made_here makes_one t given own makes =
    ap (λ b. get (if b then with_next_thread own else own).threads (next_thread own)) makes ∙ get-insert-same own.threads (next_thread own) Runnable
made_here _ t given own makes = absurd (not_true makes)

free_here : (change : OwnChange) (t : ℕ) (given : Answer) (own : ProcessState) → AllowsChange change t given (Some own) → makes_by change given ≡ true
    → get own.threads (next_thread own) ≡ None
free_here makes_one t given own fresh makes = (fresh makes).1
free_here _ t given own fresh makes = absurd (not_true makes)

-- the thread whose call makes one is there
maker_here : (change : OwnChange) (t : ℕ) (given : Answer) (own : ProcessState) → AllowsChange change t given (Some own) → makes_by change given ≡ true
    → IsSome (get own.threads t)
maker_here makes_one t given own fresh makes = (fresh makes).0
maker_here _ t given own fresh makes = absurd (not_true makes)

retained_none : (b : Bool) (o : Option Thread) → o ≡ None → cond b o None ≡ None
retained_none true o none = none
retained_none false o none = refl

-- another one is there no more, where it ends these
cleared_here : (change : OwnChange) (t : ℕ) (given : Answer) (own : ProcessState) (u : ℕ) → clears_by change given ≡ true → u ≢ t
    → get (threads_after change t given own) u ≡ None
cleared_here (begins_anew words) t given own u clears apart =
    ap (λ b. get (if b then begun_anew words t own else own).threads u) clears ∙ retained_here own.threads t u
    ∙ ap (λ b. cond b (get own.threads u) None) (number_apart u t (λ e. apart (sym e)))
cleared_here _ t given own u clears apart = absurd (not_true clears)

-- one that was not there is the one that it makes
come_here : (change : OwnChange) (t : ℕ) (given : Answer) (own : ProcessState) (u : ℕ) → get own.threads u ≡ None → IsSome (get (threads_after change t given own) u)
    → (makes_by change given ≡ true) × (u ≡ next_thread own)
come_here keeps_own t given own u none some = absurd (not_true (subst IsSome none some))
come_here (draws_words words) t given own u none some =
    elim (is_done given) as (λ b. IsSome (get (if b then drawn_more words own else own).threads u) → (false ≡ true) × (u ≡ next_thread own)) [
      | true ↦ λ there. absurd (not_true (subst IsSome none there))
      | false ↦ λ there. absurd (not_true (subst IsSome none there))
    ] some
come_here forks_one t given own u none some =
    elim (is_done given) as (λ b. IsSome (get (if b then with_next_child own else own).threads u) → (false ≡ true) × (u ≡ next_thread own)) [
      | true ↦ λ there. absurd (not_true (subst IsSome none there))
      | false ↦ λ there. absurd (not_true (subst IsSome none there))
    ] some
come_here (begins_anew words) t given own u none some =
    elim (is_done given) as (λ b. IsSome (get (if b then begun_anew words t own else own).threads u) → (false ≡ true) × (u ≡ next_thread own)) [
      | true ↦ λ there. absurd (not_true (subst IsSome (retained_here own.threads t u ∙ retained_none (u == t) (get own.threads u) none) there))
      | false ↦ λ there. absurd (not_true (subst IsSome none there))
    ] some
come_here makes_one t given own u none some =
    elim (is_done given) as (λ b. IsSome (get (if b then with_next_thread own else own).threads u) → (b ≡ true) × (u ≡ next_thread own)) [
      | true ↦ λ there. elim (eqb_tells u (next_thread own)) [
        | inl is ↦ (refl, is.1)
        | inr apart ↦ absurd (not_true (subst IsSome (get-insert-other own.threads (next_thread own) Runnable u apart.1 ∙ none) there))
      ]
      | false ↦ λ there. absurd (not_true (subst IsSome none there))
    ] some
come_here (ends_one lock word) t given own u none some =
    elim (is_done given) as (λ b. IsSome (get (if b then without_thread t (unlocked_own lock word t own) else own).threads u) → (false ≡ true) × (u ≡ next_thread own)) [
      | true ↦ λ there. elim (eqb_tells u t) [
        | inl is ↦ absurd (not_true (subst IsSome
            (ap (get (remove (unlocked_own lock word t own).threads t)) is.1 ∙ get-remove-same (unlocked_own lock word t own).threads t) there))
        | inr apart ↦ absurd (not_true (subst IsSome
            (get-remove-other (unlocked_own lock word t own).threads t u apart.1 ∙ moved_none _ _ (unlocked_moves lock word t own u) none) there))
      ]
      | false ↦ λ there. absurd (not_true (subst IsSome none there))
    ] some
come_here (lets_lock_go lock word) t given own u none some =
    elim (is_done given) as (λ b. IsSome (get (if b then unlocked_own lock word t own else own).threads u) → (false ≡ true) × (u ≡ next_thread own)) [
      | true ↦ λ there. absurd (not_true (subst IsSome (moved_none _ _ (unlocked_moves lock word t own u) none) there))
      | false ↦ λ there. absurd (not_true (subst IsSome none there))
    ] some
come_here (signals_some condvar n) t given own u none some =
    elim (is_done given) as (λ b. IsSome (get (if b then signalled_own condvar n own else own).threads u) → (false ≡ true) × (u ≡ next_thread own)) [
      | true ↦ λ there. absurd (not_true (subst IsSome (moved_none _ _ (signalled_moves n condvar own.threads u) none) there))
      | false ↦ λ there. absurd (not_true (subst IsSome none there))
    ] some
come_here (hands_lock_on lock) t given own u none some =
    elim (begins_to_sleep given) as (λ b. IsSome (get (if b then handed_own lock own else own).threads u) → (false ≡ true) × (u ≡ next_thread own)) [
      | true ↦ λ there. absurd (not_true (subst IsSome (moved_none _ _ (handed_moves lock own.threads u) none) there))
      | false ↦ λ there. absurd (not_true (subst IsSome none there))
    ] some

-- ---- the threads of the state

-- what the process has of its own, and its threads
abbrev threads_in : Option ProcessState → Option Threads
threads_in own = option_map (λ (x : ProcessState). x.threads) own

some_is_none : (o : Option Thread) → o ≡ None → IsSome o → ⊥
some_is_none o none some = not_true (subst IsSome none some)

no_process : (c : OwnChange) (t : ℕ) (given : Answer) → AllowsChange c t given None → makes_by c given ≡ true → ⊥
no_process makes_one t given free makes = free makes
no_process _ t given free makes = not_true makes

-- The threads that are there before and after, where the call has changed the process so and no thread waits.
module _ (change : OwnChange) (t : ℕ) (given : Answer) where
  abbrev After : Option ProcessState → Option ProcessState → Type 0
  After before after = IsChangedBy (own_by change t given) before after

  thread_kept : (before after : Option ProcessState) (u : ℕ) → AllowsChange change t given before → After before after → moves_by change given ≡ false
      → (u ≡ t → ends_by change given ≡ false) → (u ≢ t → clears_by change given ≡ false)
      → (IsSome (thread_in (threads_in before) u) ⊎ (makes_by change given ≡ false)) → thread_in (threads_in after) u ≡ thread_in (threads_in before) u
  thread_kept None after u fresh is still lasts clears there = ap (λ o. thread_in (threads_in o) u) is.1
  thread_kept (Some own) after u fresh is still lasts clears there =
      ap (λ o. thread_in (threads_in o) u) is.1 ∙ kept_thread change t given own u fresh still lasts clears there

  thread_moved : (before after : Option ProcessState) (u : ℕ) → AllowsChange change t given before → After before after
      → (u ≡ t → ends_by change given ≡ false) → (u ≢ t → clears_by change given ≡ false)
      → (IsSome (thread_in (threads_in before) u) ⊎ (makes_by change given ≡ false)) → IsMoved (thread_in (threads_in before) u) (thread_in (threads_in after) u)
  thread_moved None after u fresh is lasts clears there = moved_as None (thread_in (threads_in after) u) (ap (λ o. thread_in (threads_in o) u) is.1)
  thread_moved (Some own) after u fresh is lasts clears there =
      subst (IsMoved (get own.threads u)) (sym (ap (λ o. thread_in (threads_in o) u) is.1)) (moved_thread change t given own u fresh lasts clears there)

  thread_cleared : (before after : Option ProcessState) (u : ℕ) → After before after → clears_by change given ≡ true → u ≢ t
      → thread_in (threads_in after) u ≡ None
  thread_cleared None after u is clears apart = ap (λ o. thread_in (threads_in o) u) is.1
  thread_cleared (Some own) after u is clears apart =
      ap (λ o. thread_in (threads_in o) u) is.1 ∙ cleared_here change t given own u clears apart

  -- the thread that made the call
  maker_there : (before : Option ProcessState) → AllowsChange change t given before → IsSome (thread_in (threads_in before) t) ⊎ (makes_by change given ≡ false)
  maker_there before fresh =
      elim (makes_by change given) as (λ b. makes_by change given ≡ b → IsSome (thread_in (threads_in before) t) ⊎ (makes_by change given ≡ false)) [
        | true ↦ λ makes. inl (maker_in before fresh makes)
        | false ↦ λ none. inr none
      ] refl where
        maker_in : (o : Option ProcessState) → AllowsChange change t given o → makes_by change given ≡ true → IsSome (thread_in (threads_in o) t)
        maker_in None free makes = absurd (no_process change t given free makes)
        maker_in (Some own) free makes = maker_here change t given own free makes

  caller_kept : (before after : Option ProcessState) → AllowsChange change t given before → After before after → moves_by change given ≡ false
      → ends_by change given ≡ false → thread_in (threads_in after) t ≡ thread_in (threads_in before) t
  caller_kept before after fresh is still lasts =
      thread_kept before after t fresh is still (λ _. lasts) (λ apart. absurd (apart refl)) (maker_there before fresh)

  caller_moved : (before after : Option ProcessState) → AllowsChange change t given before → After before after → ends_by change given ≡ false
      → IsMoved (thread_in (threads_in before) t) (thread_in (threads_in after) t)
  caller_moved before after fresh is lasts =
      thread_moved before after t fresh is (λ _. lasts) (λ apart. absurd (apart refl)) (maker_there before fresh)

  thread_ended : (before after : Option ProcessState) → After before after → ends_by change given ≡ true → thread_in (threads_in after) t ≡ None
  thread_ended None after is ends = ap (λ o. thread_in (threads_in o) t) is.1
  thread_ended (Some own) after is ends = ap (λ o. thread_in (threads_in o) t) is.1 ∙ ended_here change t given own ends

  thread_made : (before after : Option ProcessState) → AllowsChange change t given before → After before after → makes_by change given ≡ true
      → (thread_in (threads_in before) ((counts_in before).threads + 1) ≡ None)
      × (thread_in (threads_in after) ((counts_in before).threads + 1) ≡ Some Runnable)
  thread_made None after fresh is makes = absurd (no_process change t given fresh makes)
  thread_made (Some own) after fresh is makes = (
    free_here change t given own fresh makes,
    ap (λ o. thread_in (threads_in o) (next_thread own)) is.1 ∙ made_here change t given own makes,
  )

  thread_come : (before after : Option ProcessState) (u : ℕ) → After before after → thread_in (threads_in before) u ≡ None → IsSome (thread_in (threads_in after) u)
      → (makes_by change given ≡ true) × (u ≡ (counts_in before).threads + 1)
  thread_come None after u is none some = absurd (some_is_none (thread_in (threads_in after) u) (ap (λ o. thread_in (threads_in o) u) is.1) some)
  thread_come (Some own) after u is none some =
      come_here change t given own u none (subst IsSome (ap (λ o. thread_in (threads_in o) u) is.1) some)

-- ---- a call in which the thread waits

thread_by : (t : ℕ) (thread : Thread) (own : Option ProcessState) (u : ℕ)
    → thread_in (threads_in (option_map (thread_set t thread) own)) u ≡ option_map (λ was. if u == t then thread else was) (thread_in (threads_in own) u)
thread_by t thread None u = refl
thread_by t thread (Some own) u = get-changed (λ k was. if k == t then thread else was) own.threads u

unchanged : (thread : Thread) (o : Option Thread) → option_map (λ was. if false then thread else was) o ≡ o
unchanged thread None = refl
unchanged thread (Some was) = refl

module _ (constants : Constants) (S : State) (who : Who) (call : Call) (U : State) (writes : WordWrites) where
  abbrev waits : Thread
  waits = waiting constants call who (S.clock + 1000)

  abbrev parked_state : State
  parked_state = waits_if (answer.Parked writes) who waits U

  parked_by : (u : ℕ) → thread_of parked_state who.pid u ≡ option_map (λ was. if u == who.tid then waits else was) (thread_of U who.pid u)
  parked_by u =
      ap (λ o. thread_in (threads_in o) u) (with_here U who.pid who.tid waits) ∙ thread_by who.tid waits (get U.processes who.pid) u

  parked_here : thread_of parked_state who.pid who.tid ≡ option_map (λ (was : Thread). waits) (thread_of U who.pid who.tid)
  parked_here = parked_by who.tid ∙ ap (λ b. option_map (λ was. if b then waits else was) (thread_of U who.pid who.tid)) (eq-eqb who.tid who.tid refl)

  parked_apart : (u : ℕ) → u ≢ who.tid → thread_of parked_state who.pid u ≡ thread_of U who.pid u
  parked_apart u apart =
      parked_by u ∙ ap (λ b. option_map (λ was. if b then waits else was) (thread_of U who.pid u)) (number_apart u who.tid (λ e. apart (sym e)))
      ∙ unchanged waits (thread_of U who.pid u)

  parked_none : (u : ℕ) → thread_of U who.pid u ≡ None → thread_of parked_state who.pid u ≡ None
  parked_none u none = parked_by u ∙ ap (option_map (λ was. if u == who.tid then waits else was)) none

-- ---- the law of threads

-- the state before the caller waits, if it does
abbrev pub IsOwnAfter : State → Who → Call → Answer → State → Type 0
IsOwnAfter S who call given U =
    AllowsChange (meaning_of call).own who.tid given (get S.processes who.pid)
    × IsChangedBy (own_by (meaning_of call).own who.tid given) (get S.processes who.pid) (get U.processes who.pid)

pub leaves_threads : (constants : Constants) (S : State) (who : Who) (call : Call) (given : Answer) (U T : State) → IsOwnAfter S who call given U
    → threads_of T who.pid ≡ threads_of (waits_if given who (waiting constants call who (S.clock + 1000)) U) who.pid → LeavesThreads constants S who call given T
leaves_threads constants S who call (answer.Reply reply) U T is same =
    let given : Answer = answer.Reply reply in
    let change : OwnChange = (meaning_of call).own in
    let before : Option ProcessState = get S.processes who.pid in
    let after : Option ProcessState = get U.processes who.pid in
    let at : (u : ℕ) → thread_of T who.pid u ≡ thread_of U who.pid u = λ u. ap (λ o. thread_in o u) same in
    record {
      caller = λ lasts.
          subst (IsMoved (thread_of S who.pid who.tid)) (sym (at who.tid))
          (caller_moved change who.tid given before after is.0 is.1 (sym (ends_is call given) ∙ lasts));
      goes_on = λ still lasts _.
          at who.tid ∙ caller_kept change who.tid given before after is.0 is.1 (moves_is call given still) (sym (ends_is call given) ∙ lasts);
      ended = λ ends. at who.tid ∙ thread_ended change who.tid given before after is.1 (sym (ends_is call given) ∙ ends);
      others = λ u apart there lasts.
          subst (IsMoved (thread_of S who.pid u)) (sym (at u))
          (thread_moved change who.tid given before after u is.0 is.1 (λ e. absurd (apart e)) (λ _. sym (clears_is call given) ∙ lasts) (inl there));
      same = λ still u apart there lasts.
          at u ∙ thread_kept change who.tid given before after u is.0 is.1 (moves_is call given still) (λ e. absurd (apart e))
          (λ _. sym (clears_is call given) ∙ lasts) (inl there);
      alone = λ clears u apart. at u ∙ thread_cleared change who.tid given before after u is.1 (sym (clears_is call given) ∙ clears) apart;
      made = λ u none some. (
          let come = thread_come change who.tid given before after u is.1 none (subst IsSome (at u) some) in
          (makes_is call given ∙ come.0, come.1, at u ∙ ap (thread_of U who.pid) come.1 ∙ (thread_made change who.tid given before after is.0 is.1 come.0).1));
      makes = λ makes. (
          let made = thread_made change who.tid given before after is.0 is.1 (sym (makes_is call given) ∙ makes) in
          (made.0, at (next_number S who.pid) ∙ made.1));
    }
leaves_threads constants S who call (answer.Parked writes) U T is same =
    let given : Answer = answer.Parked writes in
    let change : OwnChange = (meaning_of call).own in
    let before : Option ProcessState = get S.processes who.pid in
    let after : Option ProcessState = get U.processes who.pid in
    let thread : Thread = waiting constants call who (S.clock + 1000) in
    let at : (u : ℕ) → thread_of T who.pid u ≡ thread_of (waits_if given who thread U) who.pid u = λ u. ap (λ o. thread_in o u) same in
    let kept : (u : ℕ) → IsMoved (thread_of S who.pid u) (thread_of U who.pid u) =
    λ u. thread_moved change who.tid given before after u is.0 is.1 (λ _. parked_ends change writes) (λ _. parked_clears change writes) (inr (parked_makes change writes)) in
    record {
      caller = λ _. at who.tid ∙ parked_here constants S who call U writes ∙ moved_set thread _ _ (kept who.tid);
      goes_on = λ _ _ replies. absurd (not_true (sym replies));
      ended = λ ends. absurd (not_true (sym (parked_ends change writes) ∙ sym (ends_is call given) ∙ ends));
      others = λ u apart there _.
          subst (IsMoved (thread_of S who.pid u)) (sym (at u ∙ parked_apart constants S who call U writes u apart)) (kept u);
      same = λ still u apart there _.
          at u ∙ parked_apart constants S who call U writes u apart
          ∙ thread_kept change who.tid given before after u is.0 is.1 (moves_is call given still) (λ _. parked_ends change writes)
          (λ _. parked_clears change writes) (inr (parked_makes change writes));
      alone = λ clears u apart. absurd (not_true (sym (parked_clears change writes) ∙ sym (clears_is call given) ∙ clears));
      made = λ u none some. absurd (some_is_none (thread_of T who.pid u)
          (at u ∙ parked_none constants S who call U writes u (moved_none _ _ (kept u) none)) some);
      makes = λ makes. absurd (not_true (sym (parked_makes change writes) ∙ sym (makes_is call given) ∙ makes));
    }

-- ---- the law of counts

-- the number where the test says so, else 0
abbrev number_if : Bool → ℕ → ℕ
number_if b n = if b then n else 0

-- as the law of counts says it, for a call that does this
record CountsAfter (change : OwnChange) (given : Answer) (before after : Counts) : Type 0 where
  threads : after.threads ≡ before.threads + number_if (makes_by change given) 1
  words : after.words ≡ before.words + draws_by change given
  forks : after.forks ≡ before.forks + number_if (bears_by change given) 1
  objects : before.objects ≤ after.objects

counts_done : (change : OwnChange) (t : ℕ) (given : Answer) (own : ProcessState) → CountsAfter change given own.counts (own_by change t given own).counts
counts_done keeps_own t given own = record { threads = omega arith; words = omega arith; forks = omega arith; objects = omega arith }
counts_done makes_one t given own =
    elim (is_done given) as (λ b. is_done given ≡ b → CountsAfter makes_one given own.counts (if b then with_next_thread own else own).counts) [
      | true ↦ λ done. (
          let one : number_if (is_done given) 1 ≡ 1 = ap (λ b. number_if b 1) done in
          record { threads = omega (arith, one); words = omega arith; forks = omega arith; objects = omega arith })
      | false ↦ λ isnt. (
          let none : number_if (is_done given) 1 ≡ 0 = ap (λ b. number_if b 1) isnt in
          record { threads = omega (arith, none); words = omega arith; forks = omega arith; objects = omega arith })
    ] refl
counts_done (lets_lock_go lock word) t given own =
    elim (is_done given) as (λ b. CountsAfter (lets_lock_go lock word) given own.counts (if b then unlocked_own lock word t own else own).counts) [
      | true ↦ record { threads = omega arith; words = omega arith; forks = omega arith; objects = omega arith }
      | false ↦ record { threads = omega arith; words = omega arith; forks = omega arith; objects = omega arith }
    ]
counts_done (signals_some condvar n) t given own =
    elim (is_done given) as (λ b. CountsAfter (signals_some condvar n) given own.counts (if b then signalled_own condvar n own else own).counts) [
      | true ↦ record { threads = omega arith; words = omega arith; forks = omega arith; objects = omega arith }
      | false ↦ record { threads = omega arith; words = omega arith; forks = omega arith; objects = omega arith }
    ]
counts_done (hands_lock_on lock) t given own =
    elim (begins_to_sleep given) as (λ b. CountsAfter (hands_lock_on lock) given own.counts (if b then handed_own lock own else own).counts) [
      | true ↦ record { threads = omega arith; words = omega arith; forks = omega arith; objects = omega arith }
      | false ↦ record { threads = omega arith; words = omega arith; forks = omega arith; objects = omega arith }
    ]
counts_done (ends_one lock word) t given own =
    elim (is_done given) as (λ b. CountsAfter (ends_one lock word) given own.counts (if b then without_thread t (unlocked_own lock word t own) else own).counts) [
      | true ↦ record { threads = omega arith; words = omega arith; forks = omega arith; objects = omega arith }
      | false ↦ record { threads = omega arith; words = omega arith; forks = omega arith; objects = omega arith }
    ]
counts_done (draws_words words) t given own =
    elim (is_done given) as (λ b. is_done given ≡ b → CountsAfter (draws_words words) given own.counts (if b then drawn_more words own else own).counts) [
      | true ↦ λ done. (
          let all : number_if (is_done given) words ≡ words = ap (λ b. number_if b words) done in
          record { threads = omega arith; words = omega (arith, all); forks = omega arith; objects = omega arith })
      | false ↦ λ isnt. (
          let none : number_if (is_done given) words ≡ 0 = ap (λ b. number_if b words) isnt in
          record { threads = omega arith; words = omega (arith, none); forks = omega arith; objects = omega arith })
    ] refl
counts_done forks_one t given own =
    elim (is_done given) as (λ b. is_done given ≡ b → CountsAfter forks_one given own.counts (if b then with_next_child own else own).counts) [
      | true ↦ λ done. (
          let one : number_if (is_done given) 1 ≡ 1 = ap (λ b. number_if b 1) done in
          record { threads = omega arith; words = omega arith; forks = omega (arith, one); objects = omega arith })
      | false ↦ λ isnt. (
          let none : number_if (is_done given) 1 ≡ 0 = ap (λ b. number_if b 1) isnt in
          record { threads = omega arith; words = omega arith; forks = omega (arith, none); objects = omega arith })
    ] refl
counts_done (begins_anew words) t given own =
    elim (is_done given) as (λ b. is_done given ≡ b → CountsAfter (begins_anew words) given own.counts (if b then begun_anew words t own else own).counts) [
      | true ↦ λ done. (
          let all : number_if (is_done given) words ≡ words = ap (λ b. number_if b words) done in
          record { threads = omega arith; words = omega (arith, all); forks = omega arith; objects = omega arith })
      | false ↦ λ isnt. (
          let none : number_if (is_done given) words ≡ 0 = ap (λ b. number_if b words) isnt in
          record { threads = omega arith; words = omega (arith, none); forks = omega arith; objects = omega arith })
    ] refl

-- a call of no process makes and draws nothing
counts_of_none : (change : OwnChange) (t : ℕ) (given : Answer) → AllowsChange change t given None → CountsAfter change given no_counts no_counts
counts_of_none keeps_own t given allows = record { threads = refl; words = refl; forks = omega arith; objects = omega arith }
counts_of_none (ends_one lock word) t given allows = record { threads = refl; words = refl; forks = omega arith; objects = omega arith }
counts_of_none (lets_lock_go lock word) t given allows = record { threads = refl; words = refl; forks = omega arith; objects = omega arith }
counts_of_none (signals_some condvar n) t given allows = record { threads = refl; words = refl; forks = omega arith; objects = omega arith }
counts_of_none (hands_lock_on lock) t given allows = record { threads = refl; words = refl; forks = omega arith; objects = omega arith }
counts_of_none makes_one t given allows =
    elim (is_done given) as (λ b. is_done given ≡ b → CountsAfter makes_one given no_counts no_counts) [
      | true ↦ λ done. absurd (allows done)
      | false ↦ λ isnt. (
          let none : number_if (is_done given) 1 ≡ 0 = ap (λ b. number_if b 1) isnt in
          record { threads = omega (arith, none); words = refl; forks = omega arith; objects = omega arith })
    ] refl
counts_of_none (draws_words words) t given allows =
    elim (is_done given) as (λ b. is_done given ≡ b → CountsAfter (draws_words words) given no_counts no_counts) [
      | true ↦ λ done. absurd (not_true (allows done))
      | false ↦ λ isnt. (
          let none : number_if (is_done given) words ≡ 0 = ap (λ b. number_if b words) isnt in
          record { threads = refl; words = omega (arith, none); forks = omega arith; objects = omega arith })
    ] refl
counts_of_none forks_one t given allows =
    elim (is_done given) as (λ b. is_done given ≡ b → CountsAfter forks_one given no_counts no_counts) [
      | true ↦ λ done. absurd (not_true (allows done))
      | false ↦ λ isnt. (
          let none : number_if (is_done given) 1 ≡ 0 = ap (λ b. number_if b 1) isnt in
          record { threads = refl; words = refl; forks = omega (arith, none); objects = omega arith })
    ] refl
counts_of_none (begins_anew words) t given allows =
    elim (is_done given) as (λ b. is_done given ≡ b → CountsAfter (begins_anew words) given no_counts no_counts) [
      | true ↦ λ done. absurd (not_true (allows done))
      | false ↦ λ isnt. (
          let none : number_if (is_done given) words ≡ 0 = ap (λ b. number_if b words) isnt in
          record { threads = refl; words = omega (arith, none); forks = omega arith; objects = omega arith })
    ] refl

counts_changed : (change : OwnChange) (t : ℕ) (given : Answer) (before after : Option ProcessState) → AllowsChange change t given before
    → IsChangedBy (own_by change t given) before after → CountsAfter change given (counts_in before) (counts_in after)
counts_changed change t given None after allows is =
    subst (λ o. CountsAfter change given no_counts (counts_in o)) (sym is.1) (counts_of_none change t given allows)
counts_changed change t given (Some own) after allows is =
    let done = counts_done change t given own in
    let more : own.counts.objects ≤ (own_by change t given own).counts.objects = done.objects in
    subst (λ o. CountsAfter change given own.counts (counts_in o)) (sym is.1)
    (record { threads = done.threads; words = done.words; forks = done.forks; objects = omega (arith, more) })

pub leaves_counts : (call : Call) (given : Answer) (p t : ℕ) (S T : State) → AllowsChange (meaning_of call).own t given (get S.processes p)
    → IsChangedBy (own_by (meaning_of call).own t given) (get S.processes p) (get T.processes p) → LeavesCounts call given (counts_in (get S.processes p)) (counts_in (get T.processes p))
leaves_counts call given p t S T allows changed =
    let change : OwnChange = (meaning_of call).own in
    let before : Option ProcessState = get S.processes p in
    let after : Option ProcessState = get T.processes p in
    let is : CountsAfter change given (counts_in before) (counts_in after) =
    counts_changed change t given before after allows changed in
    record {
      threads = is.threads ∙ ap (λ b. (counts_in before).threads + number_if b 1) (sym (makes_is call given));
      words = is.words ∙ ap (λ n. (counts_in before).words + n) (sym (draws_is call given));
      forks = is.forks ∙ ap (λ b. (counts_in before).forks + number_if b 1) (sym (bears_is call given));
      objects = is.objects;
    }

-- ---- refusals and errors

-- the reply is no success
abbrev Fails : Answer → Type 0
Fails given = OnReply (λ (reply : Reply). is_success reply.errno ≡ false) given

refusal_fails : (absent : Bool) (lack : Option Denial) (reply : Reply) → cond absent (Some (refused Badf)) (denied_by lack) ≡ Some reply
    → is_success reply.errno ≡ false
refusal_fails true lack reply is = ap (λ (r : Reply). is_success r.errno) (sym (same_some (refused Badf) reply is))
refusal_fails false None reply is = absurd (none_is_no reply is)
refusal_fails false (Some denial) reply is = ap (λ (r : Reply). is_success r.errno) (sym (same_some (denied denial) reply is))

pub refusal_of_fails : (call : Call) (table : Option Table) (reply : Reply) → refusal_of call table ≡ Some reply → is_success reply.errno ≡ false
refusal_of_fails call None reply is = ap (λ (r : Reply). is_success r.errno) (sym (same_some (refused Badf) reply is))
refusal_of_fails call (Some table) reply is = refusal_fails (some_absent table (named call)) (first_lack table (need call)) reply is

-- and its reply tells no child
refusal_tells_none : (absent : Bool) (lack : Option Denial) (reply : Reply) → cond absent (Some (refused Badf)) (denied_by lack) ≡ Some reply
    → child_in reply.payload ≡ None
refusal_tells_none true lack reply is = ap (λ (r : Reply). child_in r.payload) (sym (same_some (refused Badf) reply is))
refusal_tells_none false None reply is = absurd (none_is_no reply is)
refusal_tells_none false (Some denial) reply is = ap (λ (r : Reply). child_in r.payload) (sym (same_some (denied denial) reply is))

pub refusal_bears : (call : Call) (table : Option Table) (reply : Reply) → refusal_of call table ≡ Some reply → child_in reply.payload ≡ None
refusal_bears call None reply is = ap (λ (r : Reply). child_in r.payload) (sym (same_some (refused Badf) reply is))
refusal_bears call (Some table) reply is = refusal_tells_none (some_absent table (named call)) (first_lack table (need call)) reply is

-- a call that is not done asks nothing of its process
pub undone_allows : (change : OwnChange) (t : ℕ) (given : Answer) (before : Option ProcessState) → is_done given ≡ false → AllowsChange change t given before
undone_allows keeps_own t given before isnt = tt
undone_allows (ends_one lock word) t given before isnt = tt
undone_allows (lets_lock_go lock word) t given before isnt = tt
undone_allows (signals_some condvar n) t given before isnt = tt
undone_allows (hands_lock_on lock) t given before isnt = tt
undone_allows makes_one t given before isnt = λ done. absurd (not_true (sym isnt ∙ done))
undone_allows (draws_words words) t given before isnt = λ done. absurd (not_true (sym isnt ∙ done))
undone_allows forks_one t given before isnt = λ done. absurd (not_true (sym isnt ∙ done))
undone_allows (begins_anew words) t given before isnt = λ done. absurd (not_true (sym isnt ∙ done))

-- ---- calls in which a thread may wait

-- such a call draws no random words
pub waited_draws : (call : Call) (given : Answer) → may_wait call ≡ true → words_drawn call given ≡ 0
waited_draws (call.RandomGet length) given may = absurd (not_true may)
waited_draws (call.ProcExec fd bytes fds) given may = absurd (not_true may)
waited_draws _ given may = refl

-- and makes and ends no thread, and no child
pub waited_keeps : (call : Call) (given : Answer) → may_wait call ≡ true
    → (ends_caller call given ≡ false) × (ends_others call given ≡ false) × (makes_thread call given ≡ false) × (makes_child call given ≡ false)
waited_keeps (call.Poll subscriptions) given may = (refl, refl, refl, refl)
waited_keeps (call.MemMap place length prot flags fd offset) given may = (refl, refl, refl, refl)
waited_keeps (call.ThreadCreate attributes) given may = absurd (not_true may)
waited_keeps (call.ThreadExit lock word scope) given may = absurd (not_true may)
waited_keeps (call.ProcExec fd bytes fds) given may = absurd (not_true may)
waited_keeps (call.ProcFork left) given may = absurd (not_true may)
waited_keeps _ given may = (refl, refl, refl, refl)
