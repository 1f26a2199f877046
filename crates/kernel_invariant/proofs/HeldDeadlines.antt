-- The least deadline, by the entries and by what each thread waits until.
--     IsLeastUntil u P least      the least moment among those of the numbers that pass
--     with_one      one more number passes
--     until_past, until_all      as threads are gone over by their entries
--     least_of      the least deadline by what all threads wait until
--     first_moment      by the first moment at which somebody stands, where nobody stands everywhere
use Rattle.std.proofs.Common.{◌≡◌, ◌⊎◌, ℕ, ◌/◌, ◌%◌, ◌^◌, ◌≤◌, true, false, inl, inr, Option, None, Some, IsSome, refl, sym, ap, subst, ◌∙◌, arith}
use Rattle.std.proofs.lemmas.Bool.Decides.{leb_tells}
use Rattle.std.proofs.Math.Nat.{min-eq_left, min_comm}
use Rattle.std.specs.Prelude.{⊤}
use Rattle.std.specs.FinMap.{contains_key, get}
use Rattle.abi_types.specs.declared.constants.Constants.{Constants}
use Rattle.kernel_model.specs.Deadlines.{least_deadline}
use Rattle.kernel_model.specs.Families.Polls.{sooner}
use Rattle.kernel_model.specs.State.{State, thread_of}
use Rattle.kernel_model.specs.WaitLaws.{WaitsUntil}
use Rattle.kernel_model.specs.Waits.{HasDeadlines}
use Rattle.kernel_model.proofs.Readiness.{least_is_least}
use Rattle.kernel_model.proofs.Tests.{none_is_no, none_of, same_some}
use Rattle.kernel_parts.specs.Keys.{key}
use Rattle.kernel_parts.proofs.Walks.{IsPast}
use Rattle.wait_set.specs.Next.{IsNext}
use Rattle.wait_set.specs.Waits.{WaitMap, flag, is_awaited, is_everywhere}
use Rattle.readiness_laws.specs.Watched.{HasEntry, IsWatched, looked_at, until_in}
use Rattle.readiness_laws.proofs.Keys.{key_of, key_parts, key_small}
use Rattle.readiness_laws.proofs.NextReady.{next_moment_is_least, one_least, waits_until}
use Rattle.kernel_invariant.specs.Held.{AreHeld}
use Rattle.kernel_invariant.specs.Readiness.{thread_by_key}
use Rattle.kernel_invariant.proofs.Walking.{after_or_past}

abbrev pub IsLeastUntil : (ℕ → Option ℕ) → (ℕ → Type 0) → Option ℕ → Type 0
IsLeastUntil u P None = (k : ℕ) → P k → u k ≡ None
IsLeastUntil u P (Some least) = ((k : ℕ) × (u k ≡ Some least)) × ((k other : ℕ) → P k → u k ≡ Some other → least ≤ other)

module _ (u : ℕ → Option ℕ) (P Q : ℕ → Type 0) (one : ℕ) (more : (k : ℕ) → Q k → P k ⊎ (k ≡ one) ⊎ (u k ≡ None)) where
  -- what holds of none, of those that passed, and of the one, holds of each
  each : (R : ℕ → Type 0) → ((k : ℕ) → P k → R k) → R one → ((k : ℕ) → u k ≡ None → R k) → (k : ℕ) → Q k → R k
  each R passed here none k q =
      elim (more k q) [
        | inl p ↦ passed k p
        | inr rest ↦ elim rest [
          | inl same ↦ subst R (sym same) here
          | inr absent ↦ none k absent
        ]
      ]

  no_other : (m : ℕ) (k : ℕ) → u k ≡ None → (other : ℕ) → u k ≡ Some other → m ≤ other
  no_other m k none other is = absurd (none_is_no other (sym none ∙ is))

  lesser : (first second : ℕ) → first ≤ second → ((k other : ℕ) → P k → u k ≡ Some other → first ≤ other) → u one ≡ Some second
      → (k other : ℕ) → Q k → u k ≡ Some other → first ≤ other
  lesser first second before old is k other q =
      each (λ j. (o : ℕ) → u j ≡ Some o → first ≤ o) (λ j p o. old j o p)
      (λ o at. let same = same_some second o (sym is ∙ at) in omega (arith, before, same)) (no_other first) k q other

  new_one : (first second : ℕ) → second ≤ first → ((k other : ℕ) → P k → u k ≡ Some other → first ≤ other) → u one ≡ Some second
      → (k other : ℕ) → Q k → u k ≡ Some other → second ≤ other
  new_one first second before old is k other q =
      each (λ j. (o : ℕ) → u j ≡ Some o → second ≤ o) (λ j p o at. let most = old j o p at in omega (arith, before, most))
      (λ o at. let same = same_some second o (sym is ∙ at) in omega (arith, same)) (no_other second) k q other

  with_one_by : (least here : Option ℕ) → u one ≡ here → IsLeastUntil u P least → IsLeastUntil u Q (sooner least here)
  with_one_by None None is old = each (λ k. u k ≡ None) old is (λ k none. none)
  with_one_by None (Some m) is old = (
    (one, is),
    λ k other q. each (λ j. (o : ℕ) → u j ≡ Some o → m ≤ o) (λ j p. no_other m j (old j p))
        (λ o at. let same = same_some m o (sym is ∙ at) in omega (arith, same)) (no_other m) k q other,
  )
  with_one_by (Some least) None is old = (
    old.0,
    λ k other q. each (λ j. (o : ℕ) → u j ≡ Some o → least ≤ o) (λ j p o. old.1 j o p) (no_other least one is) (no_other least) k q other,
  )
  with_one_by (Some least) (Some m) is old =
      elim (leb_tells least m) [
        | inl before ↦ subst (λ n. IsLeastUntil u Q (Some n)) (sym (min-eq_left before.1)) (old.0, lesser least m before.1 old.1 is)
        | inr after ↦
            let less : m ≤ least = omega (arith, after.1) in
            subst (λ n. IsLeastUntil u Q (Some n)) (sym (min_comm least m ∙ min-eq_left less)) ((one, is), new_one least m less old.1 is)
      ]

  with_one : (least : Option ℕ) → IsLeastUntil u P least → IsLeastUntil u Q (sooner least (u one))
  with_one least old = with_one_by least (u one) refl old

-- ---- the threads of a state, one after another

abbrev pub until_at : State → ℕ → Option ℕ
until_at S k = until_in (thread_by_key S.processes k)

module _ (S : State) (W : WaitMap) (watched : IsWatched S W) where
  -- where there is no entry there is no thread
  not_held : (k : ℕ) (o : Option _) → get W k ≡ o → o ≡ None → until_at S k ≡ None
  not_held k o is none =
      ap until_in (subst (HasEntry (looked_at S) (k / 2 ^ 32) (k % 2 ^ 32)) (ap (get W) (key_of k) ∙ is ∙ none) (watched.entries (k / 2 ^ 32) (k % 2 ^ 32) (key_small k)))

  not_in : (k : ℕ) → contains_key W k ≡ false → until_at S k ≡ None
  not_in k out = not_held k (get W k) refl (none_of (get W k) out)

  -- with the next one
  module _ (after : Option ℕ) (one : ℕ) (next : IsNext (λ t. contains_key W t) after (Some one)) where
    past_one : (k : ℕ) → k ≤ one → IsPast after k ⊎ (k ≡ one) ⊎ (until_at S k ≡ None)
    past_one k most =
        elim (after_or_past after k) [
          | inl behind ↦
              elim (contains_key W k) as (λ b. contains_key W k ≡ b → IsPast after k ⊎ (k ≡ one) ⊎ (until_at S k ≡ None)) [
                | true ↦ λ has. (let least = next.2 k behind has in inr (inl (omega (arith, least, most))))
                | false ↦ λ out. inr (inr (not_in k out))
              ] refl
          | inr past ↦ inl past
        ]

    pub until_past : (least : Option ℕ) → IsLeastUntil (until_at S) (IsPast after) least
        → IsLeastUntil (until_at S) (IsPast (Some one)) (sooner least (until_at S one))
    until_past least old = with_one (until_at S) (IsPast after) (λ k. k ≤ one) one past_one least old

  -- there is no next one
  pub until_all : (after : Option ℕ) → IsNext (λ t. contains_key W t) after None → (least : Option ℕ) → IsLeastUntil (until_at S) (IsPast after) least
      → IsLeastUntil (until_at S) (λ _. ⊤) least
  until_all after none None old = λ k all.
      elim (after_or_past after k) [
        | inl behind ↦ not_in k (none k behind)
        | inr past ↦ old k past
      ]
  until_all after none (Some least) old = (
    old.0,
    λ k other all is. elim (after_or_past after k) [
      | inl behind ↦ absurd (none_is_no other (sym (not_in k (none k behind)) ∙ is))
      | inr past ↦ old.1 k other past is
    ],
  )

-- ---- the least deadline

module _ (constants : Constants) (S : State) (W : WaitMap) (watched : IsWatched S W) (deadlines : HasDeadlines constants S) where
  until_key : (p t m : ℕ) → WaitsUntil S p t m → until_at S (key p t) ≡ Some m
  until_key p t m waits =
      let parts = key_parts p t (watched.small p t (subst IsSome (sym waits.3) refl)) in
      (λ i. until_in (thread_of S (parts.0 i) (parts.1 i))) ∙ ap until_in waits.3

  pub least_of : (result : Option ℕ) → IsLeastUntil (until_at S) (λ _. ⊤) result → result ≡ least_deadline S
  least_of None is =
      one_least S None (least_deadline S) (λ p t m waits. none_is_no m (sym (is (key p t) tt) ∙ until_key p t m waits)) (least_is_least S)
  least_of (Some least) is =
      let k = is.0.0 in
      one_least S (Some least) (least_deadline S) (
        (k / 2 ^ 32, k % 2 ^ 32, waits_until constants S (k / 2 ^ 32) (k % 2 ^ 32) least (thread_by_key S.processes k) (deadlines (k / 2 ^ 32) (k % 2 ^ 32)) refl is.0.1),
        λ p t other waits. is.1 (key p t) other tt (until_key p t other waits),
      ) (least_is_least S)

pub first_moment : (constants : Constants) (S : State) (W : WaitMap) → AreHeld (looked_at S) W → HasDeadlines constants S → IsNext (λ t. flag is_everywhere (get W t)) None None
    → (result : Option ℕ) → IsNext (λ m. is_awaited W m) None result → result ≡ least_deadline S
first_moment constants S W held deadlines none result next =
    sym (next_moment_is_least constants S W held.watched deadlines (λ k w there. sym (ap (flag is_everywhere) there) ∙ none k refl) result next)
