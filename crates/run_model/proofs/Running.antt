-- Whether some thread of a state is runnable, or ready, and whether some process is live.
--     one_or_none      a runnable thread, or none
--     ready_or_none      a ready thread, or none
--     running_no_jump, ready_no_jump, jump_at_most, jump_is_left      whether time may jump
--     some_lives      a live process, or none
--     thread_lives, none_while_live      the process of a thread is live in a valid state
use Rattle.std.proofs.Common.{◌≡◌, ◌⊎◌, inl, inr, ℕ, ◌≤◌, arith, Bool, true, false, Option, Some, None, is_some, refl, sym, ap, ◌∙◌}
use Rattle.std.specs.Option.{option_map}
use Rattle.std.specs.FinMap.{get}
use Rattle.abi_types.specs.declared.constants.Constants.{Constants}
use Rattle.abi_types.specs.declared.status.Status.{Status}
use Rattle.abi_types.specs.declared.status.Status.TheVariants.{Live, Exit, Killed}
use Rattle.abi_types.specs.declared.thread.Thread.{Thread}
use Rattle.abi_types.specs.declared.thread.Thread.TheVariants.{Runnable, Waits}
use Rattle.kernel_model.specs.Ends.{NoneLive, SomeLive}
use Rattle.kernel_model.specs.State.{State, ProcessState, thread_in, thread_of}
use Rattle.kernel_model.specs.Valid.{IsValid}
use Rattle.kernel_model.specs.Wakes.{is_ready, is_ready_as, NoneReady}
use Rattle.kernel_model.proofs.Tests.{not_true, none_is_no}
use Rattle.kernel_model.proofs.Valids.{dead_process, live_or_dead}
use Rattle.maps.specs.Maps.{passes, least_key, least_key-entry, least_key-none}
use Rattle.run_model.specs.Ends.{IsParked, HasThread, goes_on, some_goes_on, jumps_unless, jumps_left}
use Rattle.run_model.specs.Legal.{IsRunnable}

-- ---- threads that pass a test

true_or_false : (b : Bool) → (b ≡ true) ⊎ (b ≡ false)
true_or_false true = inl refl
true_or_false false = inr refl

module _ (test : ℕ → ℕ → Thread → Bool) where
  -- whether some thread of a process does
  abbrev some_own : ℕ → ProcessState → Bool
  some_own p own = is_some (least_key (test p) own.threads)

  abbrev Passing : State → Type 0
  Passing S = (p : ℕ) × (t : ℕ) × (thread : Thread) × HasThread S p t thread × (test p t thread ≡ true)

  abbrev NonePasses : State → Type 0
  NonePasses S = (p t : ℕ) (thread : Thread) → HasThread S p t thread → test p t thread ≡ false

  one_passes : (S : State) (p : ℕ) (own : ProcessState) → get S.processes p ≡ Some own → some_own p own ≡ true → Passing S
  one_passes S p own is =
      elim (least_key (test p) own.threads) as (λ o. least_key (test p) own.threads ≡ o → is_some o ≡ true → Passing S) [
        | None ↦ λ none some. absurd (not_true some)
        | Some t ↦ λ found some. (
            let entry = least_key-entry (test p) own.threads t found in
            (p, t, entry.0, ap (λ o. thread_in (option_map (λ (x : ProcessState). x.threads) o) t) is ∙ entry.1, entry.2))
      ] refl

  own_fails : (p : ℕ) (own : ProcessState) (t : ℕ) (thread : Thread) → some_own p own ≡ false → get own.threads t ≡ Some thread → test p t thread ≡ false
  own_fails p own t thread none there =
      elim (least_key (test p) own.threads) as (λ o. least_key (test p) own.threads ≡ o → is_some o ≡ false → test p t thread ≡ false) [
        | None ↦ λ e _. sym (ap (passes (test p) t) there) ∙ least_key-none (test p) own.threads e t
        | Some u ↦ λ _ isnt. absurd (not_true (sym isnt))
      ] refl none

  each_fails : (p t : ℕ) (thread : Thread) (o : Option ProcessState) → passes some_own p o ≡ false
      → thread_in (option_map (λ (x : ProcessState). x.threads) o) t ≡ Some thread → test p t thread ≡ false
  each_fails p t thread None isnt there = absurd (none_is_no thread there)
  each_fails p t thread (Some own) isnt there = own_fails p own t thread isnt there

  -- whether some thread of any process does
  abbrev some_thread : State → Bool
  some_thread S = is_some (least_key some_own S.processes)

  pub some_or_none : (S : State) → Passing S ⊎ NonePasses S
  some_or_none S =
      elim (least_key some_own S.processes) as (λ o. least_key some_own S.processes ≡ o → Passing S ⊎ NonePasses S) [
        | None ↦ λ none. inr (λ p t thread there. each_fails p t thread (get S.processes p) (least_key-none some_own S.processes none p) there)
        | Some p ↦ λ found. (
            let entry = least_key-entry some_own S.processes p found in
            inl (one_passes S p entry.0 entry.1 entry.2))
      ] refl

  -- where one does it is found, and where none does it isn't
  pub some_found : (S : State) (p t : ℕ) (thread : Thread) → HasThread S p t thread → test p t thread ≡ true → some_thread S ≡ true
  some_found S p t thread there passing =
      elim (least_key some_own S.processes) as (λ o. least_key some_own S.processes ≡ o → is_some o ≡ true) [
        | None ↦ λ none. absurd (not_true (sym (each_fails p t thread (get S.processes p) (least_key-none some_own S.processes none p) there) ∙ passing))
        | Some q ↦ λ _. refl
      ] refl

  pub none_found : (S : State) → NonePasses S → some_thread S ≡ false
  none_found S none =
      elim (least_key some_own S.processes) as (λ o. least_key some_own S.processes ≡ o → is_some o ≡ false) [
        | None ↦ λ e. refl
        | Some p ↦ λ found. (
            let entry = least_key-entry some_own S.processes p found in
            let one = one_passes S p entry.0 entry.1 entry.2 in
            absurd (not_true (sym (none one.0 one.1 one.2 one.3) ∙ one.4)))
      ] refl

-- ---- threads that run

-- whether a thread takes its turns
abbrev runs : Thread → Bool
runs Runnable = true
runs (Waits call since until stage) = false

runs_is : (thread : Thread) → runs thread ≡ true → thread ≡ Runnable
runs_is Runnable is = refl
runs_is (Waits call since until stage) is = absurd (not_true is)

-- a thread that isn't runnable waits
waits_is : (thread : Thread) → runs thread ≡ false → IsParked thread
waits_is Runnable isnt = absurd (not_true (sym isnt))
waits_is (Waits call since until stage) isnt = tt

-- some thread is runnable
abbrev pub SomeRuns : State → Type 0
SomeRuns S = (p : ℕ) × (t : ℕ) × IsRunnable S p t

-- each thread waits
abbrev pub NoneRuns : State → Type 0
NoneRuns S = (p t : ℕ) (thread : Thread) → HasThread S p t thread → IsParked thread

-- some thread is runnable, or each waits
pub one_or_none : (S : State) → SomeRuns S ⊎ NoneRuns S
one_or_none S =
    elim (some_or_none (λ p t. runs) S) [
      | inl one ↦ inl (one.0, one.1, one.3 ∙ ap Some (runs_is one.2 one.4))
      | inr none ↦ inr (λ p t thread there. waits_is thread (none p t thread there))
    ]

-- ---- threads that are ready

abbrev pub SomeReady : Constants → State → Type 0
SomeReady constants S = (p : ℕ) × (t : ℕ) × (thread : Thread) × HasThread S p t thread × (is_ready constants S p t ≡ true)

ready_none : (constants : Constants) (S : State) (p t : ℕ) (o : Option Thread) → thread_of S p t ≡ o
    → ((thread : Thread) → HasThread S p t thread → is_ready_as constants S p t (Some thread) ≡ false) → is_ready_as constants S p t o ≡ false
ready_none constants S p t None is none = refl
ready_none constants S p t (Some thread) is none = none thread is

-- some thread is ready, or none is
pub ready_or_none : (constants : Constants) (S : State) → SomeReady constants S ⊎ NoneReady constants S
ready_or_none constants S =
    elim (some_or_none (λ p t thread. is_ready_as constants S p t (Some thread)) S) [
      | inl one ↦ inl (one.0, one.1, one.2, one.3, ap (is_ready_as constants S one.0 one.1) one.3 ∙ one.4)
      | inr none ↦ inr (λ p t. ready_none constants S p t (thread_of S p t) refl (none p t))
    ]

-- ---- jumps

-- time doesn't jump where a thread is runnable, or ready, and at most once elsewhere
pub running_no_jump : (constants : Constants) (S : State) (p t : ℕ) → IsRunnable S p t → jumps_left constants S ≡ 0
running_no_jump constants S p t there = ap jumps_unless (some_found (goes_on constants S) S p t Runnable there refl)

goes_on_is : (constants : Constants) (S : State) (p t : ℕ) (thread : Thread) → is_ready_as constants S p t (Some thread) ≡ true
    → goes_on constants S p t thread ≡ true
goes_on_is constants S p t Runnable ready = refl
goes_on_is constants S p t (Waits call since until stage) ready = ready

ready_found : (constants : Constants) (S : State) (p t : ℕ) (o : Option Thread) → thread_of S p t ≡ o → is_ready_as constants S p t o ≡ true
    → jumps_left constants S ≡ 0
ready_found constants S p t None is ready = absurd (not_true ready)
ready_found constants S p t (Some thread) is ready =
    ap jumps_unless (some_found (goes_on constants S) S p t thread is (goes_on_is constants S p t thread ready))

pub ready_no_jump : (constants : Constants) (S : State) (p t : ℕ) → is_ready constants S p t ≡ true → jumps_left constants S ≡ 0
ready_no_jump constants S p t ready = ready_found constants S p t (thread_of S p t) refl ready

one_jump : (b : Bool) → jumps_unless b ≤ 1
one_jump true = omega arith
one_jump false = omega arith

pub jump_at_most : (constants : Constants) (S : State) → jumps_left constants S ≤ 1
jump_at_most constants S = one_jump (is_some (least_key (some_goes_on constants S) S.processes))

-- where each thread waits and none is ready, it may
stays_on : (constants : Constants) (S : State) (p t : ℕ) (thread : Thread) → IsParked thread → is_ready_as constants S p t (Some thread) ≡ false
    → goes_on constants S p t thread ≡ false
stays_on constants S p t Runnable parked none = absurd parked
stays_on constants S p t (Waits call since until stage) parked none = none

pub jump_is_left : (constants : Constants) (S : State) → NoneRuns S → NoneReady constants S → jumps_left constants S ≡ 1
jump_is_left constants S waits none =
    ap jumps_unless (none_found (goes_on constants S) S (λ p t thread there.
    stays_on constants S p t thread (waits p t thread there) (sym (ap (is_ready_as constants S p t) there) ∙ none p t)))

-- ---- processes

abbrev lives : ℕ → Status → Bool
lives p Live = true
lives p (Exit code) = false
lives p (Killed signal) = false

lives_is : (p : ℕ) (status : Status) → lives p status ≡ true → status ≡ Live
lives_is p Live is = refl
lives_is p (Exit code) is = absurd (not_true is)
lives_is p (Killed signal) is = absurd (not_true is)

-- some process is live, or none is
pub some_lives : (S : State) → SomeLive S ⊎ NoneLive S
some_lives S =
    elim (least_key lives S.statuses) as (λ o. least_key lives S.statuses ≡ o → SomeLive S ⊎ NoneLive S) [
      | None ↦ λ none. inr (λ p live. not_true (sym (least_key-none lives S.statuses none p) ∙ ap (passes lives p) live))
      | Some p ↦ λ found. (
          let entry = least_key-entry lives S.statuses p found in
          inl (p, entry.1 ∙ ap Some (lives_is p entry.0 entry.2)))
    ] refl

-- ---- a thread's process

-- the process of a thread is live
pub thread_lives : (S : State) (p t : ℕ) (thread : Thread) → IsValid S → HasThread S p t thread → get S.statuses p ≡ Some Live
thread_lives S p t thread valid there =
    elim (live_or_dead (get S.statuses p)) [
      | inl live ↦ live
      | inr dead ↦ absurd (none_is_no thread
          (sym (ap (λ o. thread_in (option_map (λ (x : ProcessState). x.threads) o) t) (dead_process S p valid.nearly dead)) ∙ there))
    ]

-- a thread that isn't there while its process lives is not there
pub none_while_live : (S : State) (p t : ℕ) → IsValid S → (get S.statuses p ≡ Some Live → thread_of S p t ≡ None) → thread_of S p t ≡ None
none_while_live S p t valid none =
    elim (thread_of S p t) as (λ o. thread_of S p t ≡ o → o ≡ None) [
      | None ↦ λ _. refl
      | Some thread ↦ λ there. sym there ∙ none (thread_lives S p t thread valid there)
    ] refl
