-- The next thread that is ready, and the least deadline, by the entries.
--     marks_are_exact, mark_tells      an entry that isn't left is marked by whether its thread is ready
--     up_ready, next_is_ready      the next entry of a thread that waits and is ready is that of the next ready thread
--     next_moment_is_least      the first moment at which somebody stands is the least deadline
use Rattle.std.proofs.Common.{◌≡◌, ℕ, ◌/◌, ◌%◌, ◌^◌, ◌<◌, ◌≤◌, ◌&&◌, ◌||◌, not, Bool, true, false, cond, inl, inr, Option, None, Some, IsSome, refl, sym, ap, subst, ◌∙◌, arith}
use Rattle.std.proofs.lemmas.Bool.{eq-eqb, eqb-true, lt-ltb, ltb-false, ltb-true}
use Rattle.std.specs.Prelude.{nat_lt}
use Rattle.std.specs.Option.{option_map}
use Rattle.std.specs.FinMap.{get}
use Rattle.abi_types.specs.declared.constants.Constants.{Constants}
use Rattle.abi_types.specs.declared.thread.Thread.{Thread}
use Rattle.abi_types.specs.declared.thread.Thread.TheVariants.{Runnable, Waits}
use Rattle.maps.specs.Maps.{least_key, least_key-entry, least_key-none, passes, total-zero, total_none, weight}
use Rattle.kernel_model.specs.Deadlines.{least_deadline}
use Rattle.kernel_model.specs.State.{State, thread_of}
use Rattle.kernel_model.specs.WaitLaws.{IsLeastDeadline, WaitsUntil}
use Rattle.kernel_model.specs.Waits.{HasDeadline, HasDeadlines}
use Rattle.kernel_model.specs.Wakes.{is_ready, is_ready_as}
use Rattle.kernel_model.proofs.Deadlines.{soon_is_soon}
use Rattle.kernel_model.proofs.Readiness.{least_is_least}
use Rattle.kernel_model.proofs.Tests.{none_is_no, not_true, same_some}
use Rattle.kernel_parts.specs.Keys.{key}
use Rattle.wait_set.specs.declared.spot.Spot.TheVariants as spot
use Rattle.wait_set.specs.declared.waiting.Waiting.{Waiting}
use Rattle.wait_set.specs.Next.{IsNext, is_after}
use Rattle.wait_set.specs.Waits.{IsExact, WaitMap, counted, is_awaited, is_up, lists, mark_of}
use Rattle.readiness_laws.specs.NextReady.{ComesBehind, IsNextReady, IsOrBehind, ThreadName, thread_at}
use Rattle.readiness_laws.specs.WatchLaws.{IsSmall, NoneSpread, TellsReady, number_of}
use Rattle.readiness_laws.specs.Watched.{AreEntries, HasEntry, IsEntry, IsWatched, is_moment, is_running, looked_at, until_in}
use Rattle.readiness_laws.proofs.Alike.{ready_by_parts}
use Rattle.readiness_laws.proofs.Keys.{key_before, key_behind, key_of, key_same, key_small}
use Rattle.readiness_laws.proofs.Watched.{until_counts}

weighs_none : (b : Bool) (n : ℕ) → n ≡ cond b 1 0 → n ≡ 0 → b ≡ false
weighs_none true n is none = absurd (omega (arith, is, none))
weighs_none false n is none = refl

-- ---- marks

ready_there : (constants : Constants) (S : State) (p t : ℕ) (o : Option Thread) → is_ready_as constants S p t o ≡ true → IsSome o
ready_there constants S p t None ready = absurd (not_true ready)
ready_there constants S p t (Some thread) ready = refl

-- each that isn't left is marked by whether its thread is ready
pub marks_are_exact : (constants : Constants) (S : State) (W : WaitMap) → IsWatched S W → HasDeadlines constants S → (ready : ℕ → Bool)
    → TellsReady constants S W ready → IsExact ready W
marks_are_exact constants S W watched deadlines ready tells k w there done =
    let p = k / 2 ^ 32 in
    let t = k % 2 ^ 32 in
    let at : get W (key p t) ≡ Some w = ap (get W) (key_of k) ∙ there in
    let entry : IsEntry (looked_at S) p t w = subst (HasEntry (looked_at S) p t) at (watched.entries p t (key_small k)) in
    entry.marks constants done (deadlines p t) ∙ ready_by_parts constants S p t (watched.may p t) (deadlines p t)
    ∙ sym (tells p t w (key_small k) at) ∙ ap ready (key_of k)

marked_by : (left runs ready b : Bool) → cond (left || runs) None (Some ready) ≡ Some b → (left ≡ false) × (ready ≡ b)
marked_by true runs ready b is = absurd (none_is_no b is)
marked_by false true ready b is = absurd (none_is_no b is)
marked_by false false ready b is = (refl, same_some ready b is)

-- a thread that waits and isn't left is as ready as it is marked
pub mark_tells : (constants : Constants) (S : State) (W : WaitMap) → IsWatched S W → (p t : ℕ) → t < 2 ^ 32 → HasDeadline constants (thread_of S p t) → (b : Bool)
    → mark_of (get W (key p t)) ≡ Some b → is_ready constants S p t ≡ b
mark_tells constants S W watched p t small deadline b is = by_entry (get W (key p t)) (watched.entries p t small) is where
  by_entry : (o : Option Waiting) → HasEntry (looked_at S) p t o → mark_of o ≡ Some b → is_ready constants S p t ≡ b
  by_entry None none marked = absurd (none_is_no b marked)
  by_entry (Some w) entry marked =
      let both = marked_by w.left w.runs w.ready b marked in
      sym (entry.marks constants both.0 deadline ∙ ready_by_parts constants S p t (watched.may p t) deadline) ∙ both.1

-- whoever is ready doesn't run
waits_up : (constants : Constants) (S : State) (p t : ℕ) (o : Option Thread) → (not (is_running o) && is_ready_as constants S p t o) ≡ is_ready_as constants S p t o
waits_up constants S p t None = refl
waits_up constants S p t (Some Runnable) = refl
waits_up constants S p t (Some (Waits call since until stage)) = refl

module _ (constants : Constants) (S : State) (W : WaitMap) (watched : IsWatched S W) (ready : ℕ → Bool) (tells : TellsReady constants S W ready) where
  entry_up : (p t : ℕ) → t < 2 ^ 32 → (o : Option Waiting) → get W (key p t) ≡ o → HasEntry (looked_at S) p t o
      → is_up ready o (key p t) ≡ is_ready constants S p t
  entry_up p t small None is none = sym (ap (is_ready_as constants S p t) none)
  entry_up p t small (Some w) is entry =
      ap (λ b. not b && ready (key p t)) entry.runs ∙ ap (λ b. not (is_running (thread_of S p t)) && b) (tells p t w small is)
      ∙ waits_up constants S p t (thread_of S p t)

  pub up_ready : (p t : ℕ) → t < 2 ^ 32 → is_up ready (get W (key p t)) (key p t) ≡ is_ready constants S p t
  up_ready p t small = entry_up p t small (get W (key p t)) refl (watched.entries p t small)

  ready_small : (p t : ℕ) → is_ready constants S p t ≡ true → t < 2 ^ 32
  ready_small p t is = watched.small p t (ready_there constants S p t (thread_of S p t) is)

  -- ---- the next ready thread

  behind_after : (after : Option ThreadName) → IsSmall after → (p t : ℕ) → t < 2 ^ 32 → ComesBehind after p t → is_after (number_of after) (key p t) ≡ true
  behind_after None _ p t small behind = refl
  behind_after (Some other) known p t small behind = lt-ltb (key other.0 other.1) (key p t) (key_behind other.0 other.1 p t known small behind)

  after_behind : (after : Option ThreadName) → IsSmall after → (p t : ℕ) → t < 2 ^ 32 → is_after (number_of after) (key p t) ≡ true → ComesBehind after p t
  after_behind None _ p t small later = tt
  after_behind (Some other) known p t small later = key_before other.0 other.1 p t known small (ltb-true (key other.0 other.1) (key p t) later)

  module _ (after : Option ThreadName) (known : IsSmall after) where
    none_next : IsNext (λ k. is_up ready (get W k) k) (number_of after) None → IsNextReady constants S after None
    none_next none p t behind =
        elim (is_ready constants S p t) as (λ b. is_ready constants S p t ≡ b → b ≡ false) [
          | true ↦ λ is.
              let small = ready_small p t is in
              absurd (not_true (sym (none (key p t) (behind_after after known p t small behind)) ∙ up_ready p t small ∙ is))
          | false ↦ λ _. refl
        ] refl

    one_of : (p t q u : ℕ) → t < 2 ^ 32 → u < 2 ^ 32 → key p t ≤ key q u → IsOrBehind (p, t) q u
    one_of p t q u small other before =
        elim (nat_lt (key p t) (key q u)) as (λ b. nat_lt (key p t) (key q u) ≡ b → IsOrBehind (p, t) q u) [
          | true ↦ λ less. inr (key_before p t q u small other (ltb-true (key p t) (key q u) less))
          | false ↦ λ more. inl (key_same p t q u small other (let not_less = ltb-false (key p t) (key q u) more in omega (arith, before, not_less)))
        ] refl

    one_next : (k p t : ℕ) → t < 2 ^ 32 → key p t ≡ k → IsNext (λ j. is_up ready (get W j) j) (number_of after) (Some k) → IsNextReady constants S after (Some (p, t))
    one_next k p t small is next = (
      after_behind after known p t small (ap (is_after (number_of after)) is ∙ next.0),
      sym (up_ready p t small) ∙ ap (λ j. is_up ready (get W j) j) is ∙ next.1,
      λ q u behind up.
          let below = ready_small q u up in
          let least = next.2 (key q u) (behind_after after known q u below behind) (up_ready q u below ∙ up) in
          one_of p t q u small below (subst (λ j. j ≤ key q u) (sym is) least),
    )

    pub next_is_ready : (result : Option ℕ) → IsNext (λ k. is_up ready (get W k) k) (number_of after) result
        → IsNextReady constants S after (option_map thread_at result)
    next_is_ready None next = none_next next
    next_is_ready (Some k) next = one_next k (k / 2 ^ 32) (k % 2 ^ 32) (key_small k) (key_of k) next

-- ---- the least deadline

moment_is : (m : ℕ) (o : Option ℕ) → is_moment m o ≡ true → o ≡ Some m
moment_is m None is = absurd (not_true is)
moment_is m (Some until) is = ap Some (sym (eqb-true m until is))

moment_itself : (m : ℕ) (o : Option ℕ) → o ≡ Some m → is_moment m o ≡ true
moment_itself m o is = ap (is_moment m) is ∙ eq-eqb m m refl

-- whoever waits until a moment, which counts where it is its call's deadline
pub waits_until : (constants : Constants) (S : State) (p t m : ℕ) (o : Option Thread) → HasDeadline constants o → thread_of S p t ≡ o → until_in o ≡ Some m
    → WaitsUntil S p t m
waits_until constants S p t m None deadline is until = absurd (none_is_no m until)
waits_until constants S p t m (Some Runnable) deadline is until = absurd (none_is_no m until)
waits_until constants S p t m (Some (Waits call since other stage)) deadline is until = (
  call,
  since,
  stage,
  is ∙ ap (λ o. Some (Waits call since o stage)) until,
  soon_is_soon other m (until_counts constants call since other stage deadline ∙ until),
)

-- there is one least deadline
pub one_least : (S : State) (first second : Option ℕ) → IsLeastDeadline S first → IsLeastDeadline S second → first ≡ second
one_least S None None one other = refl
one_least S None (Some m) one other = absurd (one other.0.0 other.0.1 m other.0.2)
one_least S (Some m) None one other = absurd (other one.0.0 one.0.1 m one.0.2)
one_least S (Some m) (Some n) one other =
    let up = one.1 other.0.0 other.0.1 n other.0.2 in
    let down = other.1 one.0.0 one.0.1 m one.0.2 in
    ap Some (omega (arith, up, down))

-- somebody awaits a moment exactly where it is in somebody's list
some_awaited : (W : WaitMap) (m : ℕ) → is_awaited W m ≡ true → (k : ℕ) × (w : Waiting) × (get W k ≡ Some w) × (lists (spot.Moment m) w ≡ true)
some_awaited W m awaited =
    elim (least_key (λ k w. lists (spot.Moment m) w) W) as (λ o. least_key (λ k w. lists (spot.Moment m) w) W ≡ o
    → (k : ℕ) × (w : Waiting) × (get W k ≡ Some w) × (lists (spot.Moment m) w ≡ true)) [
      | None ↦ λ is.
          let none : counted (lists (spot.Moment m)) W ≡ 0 =
          total_none (λ s. cond (lists (spot.Moment m) s) 1 0) W (λ k. no_weight k (get W k) (least_key-none (λ k w. lists (spot.Moment m) w) W is k)) in
          let some = ltb-true 0 (counted (lists (spot.Moment m)) W) awaited in
          absurd (omega (arith, none, some))
      | Some k ↦ λ is. let entry = least_key-entry (λ k w. lists (spot.Moment m) w) W k is in (k, entry.0, entry.1, entry.2)
    ] refl where
      no_weight : (k : ℕ) (o : Option Waiting) → passes (λ k w. lists (spot.Moment m) w) k o ≡ false → weight (λ s. cond (lists (spot.Moment m) s) 1 0) o ≡ 0
      no_weight k None fails = refl
      no_weight k (Some w) fails = ap (λ b. cond b 1 0) fails

awaited_by : (W : WaitMap) (m k : ℕ) (w : Waiting) → get W k ≡ Some w → lists (spot.Moment m) w ≡ true → is_awaited W m ≡ true
awaited_by W m k w there at =
    elim (is_awaited W m) as (λ b. is_awaited W m ≡ b → b ≡ true) [
      | true ↦ λ _. refl
      | false ↦ λ none.
          let few = ltb-false 0 (counted (lists (spot.Moment m)) W) none in
          let zero : counted (lists (spot.Moment m)) W ≡ 0 = omega (arith, few) in
          absurd (not_true (sym (weighs_none (lists (spot.Moment m) w) (cond (lists (spot.Moment m) w) 1 0) refl (total-zero (λ s. cond (lists (spot.Moment m) s) 1 0) W k w zero there)) ∙ at))
    ] refl

module _ (constants : Constants) (S : State) (W : WaitMap) (watched : AreEntries S W) (deadlines : HasDeadlines constants S) (listed : NoneSpread W) where
  listed_until : (p t m : ℕ) (o : Option Waiting) → get W (key p t) ≡ o → HasEntry S p t o → WaitsUntil S p t m → (w : Waiting) × (o ≡ Some w) × (lists (spot.Moment m) w ≡ true)
  listed_until p t m None is none waits = absurd (not_true (subst IsSome (sym waits.3 ∙ none) refl))
  listed_until p t m (Some w) is entry waits =
      (w, refl, entry.moments (listed (key p t) w is) m ∙ ap (λ o. is_moment m (until_in o)) waits.3 ∙ moment_itself m (Some m) refl)

  someone_awaits : (p t m : ℕ) → WaitsUntil S p t m → is_awaited W m ≡ true
  someone_awaits p t m waits =
      let small = watched.small p t (subst IsSome (sym waits.3) refl) in
      let entry = listed_until p t m (get W (key p t)) refl (watched.entries p t small) waits in
      awaited_by W m (key p t) entry.0 entry.1 entry.2

  awaited_until : (m : ℕ) → is_awaited W m ≡ true → (p : ℕ) × (t : ℕ) × WaitsUntil S p t m
  awaited_until m awaited =
      let found = some_awaited W m awaited in
      let p = found.0 / 2 ^ 32 in
      let t = found.0 % 2 ^ 32 in
      let entry : IsEntry S p t found.1 = subst (HasEntry S p t) (ap (get W) (key_of found.0) ∙ found.2) (watched.entries p t (key_small found.0)) in
      (p, t, waits_until constants S p t m (thread_of S p t) (deadlines p t) refl (moment_is m (until_in (thread_of S p t)) (sym (entry.moments (listed found.0 found.1 found.2) m) ∙ found.3)))

  first_is_least : (result : Option ℕ) → IsNext (is_awaited W) None result → IsLeastDeadline S result
  first_is_least None none = λ p t m waits. not_true (sym (none m refl) ∙ someone_awaits p t m waits)
  first_is_least (Some m) next = (awaited_until m next.1, λ p t other waits. next.2 other refl (someone_awaits p t other waits))

  least_entry : (result : Option ℕ) → IsNext (is_awaited W) None result → least_deadline S ≡ result
  least_entry result next = one_least S (least_deadline S) result (least_is_least S) (first_is_least result next)

pub next_moment_is_least : (constants : Constants) (S : State) (W : WaitMap) → IsWatched S W → HasDeadlines constants S → NoneSpread W
    → (result : Option ℕ) → IsNext (is_awaited W) None result → least_deadline S ≡ result
next_moment_is_least constants S W watched deadlines listed result next = least_entry constants (looked_at S) W watched deadlines listed result next
