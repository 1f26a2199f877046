-- The soonest of several moments.
--     sooner_none      a moment with none beside it
--     clock_first      the soonest of those from one place on, by the first of them
use Rattle.std.proofs.Common.{◌≡◌, ℕ, suc, ◌+◌, ◌^◌, ◌<◌, ◌≤◌, min, Bool, true, false, List, ◌∷◌, drop, get_or, length, Option, Some, None, refl, sym, ap, ◌∙◌, arith}
use Rattle.std.proofs.Math.Seq.{drop-cons}
use Rattle.std.proofs.lemmas.List.{drop_all}
use Rattle.std.proofs.Math.Nat.{min_comm, min-eq_left, min-eq_right}
use Rattle.std.proofs.lemmas.Bool.{le-ltb, ltb-true, ltb-false}
use Rattle.std.specs.Prelude.{nat_lt, if◌then◌else◌}
use Rattle.abi_structures.specs.declared.events.Subscription.{Subscription}
use Rattle.abi_types.specs.declared.constants.Constants.{Constants}
use Rattle.kernel_model.specs.Deadlines.{soon}
use Rattle.kernel_model.specs.Families.Polls.{deadline_in, sooner, soonest}

pub sooner_none : (first : Option ℕ) → sooner first None ≡ first
sooner_none None = refl
sooner_none (Some moment) = refl

min_joins : (a b c : ℕ) → min (min a b) c ≡ min a (min b c)
min_joins a b c = omega arith

-- the sooner of three, from either side
sooner_joins : (a b c : Option ℕ) → sooner (sooner a b) c ≡ sooner a (sooner b c)
sooner_joins None b c = refl
sooner_joins (Some a) None c = refl
sooner_joins (Some a) (Some b) None = refl
sooner_joins (Some a) (Some b) (Some c) = ap Some (min_joins a b c)

sooner_swaps : (a b : Option ℕ) → sooner a b ≡ sooner b a
sooner_swaps None b = sym (sooner_none b)
sooner_swaps (Some a) None = refl
sooner_swaps (Some a) (Some b) = ap Some (min_comm a b)

-- where the first isn't after the second, it stays the sooner one as they are cut
kept_beside : (a b : ℕ) → a ≤ b → (counts : Bool) → Some a ≡ sooner (Some a) (if counts then Some b else None)
kept_beside a b before true = ap Some (sym (min-eq_left before))
kept_beside a b before false = refl

soon_first : (a b : ℕ) → a ≤ b → soon (Some a) ≡ sooner (soon (Some a)) (soon (Some b))
soon_first a b before =
    elim (nat_lt a (2 ^ 62)) as (λ p. nat_lt a (2 ^ 62) ≡ p → (if p then Some a else None) ≡ sooner (if p then Some a else None) (soon (Some b))) [
      | true ↦ λ e. kept_beside a b before (nat_lt b (2 ^ 62))
      | false ↦ λ e. (
          let late = ltb-false a (2 ^ 62) e in
          sym (ap (λ p. if p then Some b else None) (le-ltb b (2 ^ 62) (omega (arith, late, before)))))
    ] refl

soon_both : (a b : ℕ) → soon (Some (min a b)) ≡ sooner (soon (Some a)) (soon (Some b))
soon_both a b =
    elim (nat_lt a b) as (λ p. nat_lt a b ≡ p → soon (Some (min a b)) ≡ sooner (soon (Some a)) (soon (Some b))) [
      | true ↦ λ e. (
          let before = ltb-true a b e in
          let first : a ≤ b = omega (arith, before) in
          ap (λ m. soon (Some m)) (min-eq_left first) ∙ soon_first a b first)
      | false ↦ λ e. (
          let first : b ≤ a = ltb-false a b e in
          ap (λ m. soon (Some m)) (min-eq_right first) ∙ soon_first b a first ∙ sooner_swaps (soon (Some b)) (soon (Some a)))
    ] refl

soon_sooner : (a b : Option ℕ) → soon (sooner a b) ≡ sooner (soon a) (soon b)
soon_sooner None b = refl
soon_sooner (Some a) None = sym (sooner_none (soon (Some a)))
soon_sooner (Some a) (Some b) = soon_both a b

-- none is left
pub none_left : (constants : Constants) (since : ℕ) (subs : List Subscription) (i : ℕ) (found : Option ℕ) → length subs ≤ i
    → sooner found (soon (soonest constants since (drop i subs))) ≡ found
none_left constants since subs i found past = ap (λ rest. sooner found (soon (soonest constants since rest))) (drop_all i subs past) ∙ sooner_none found

module _ (constants : Constants) (since : ℕ) (subs : List Subscription) (i : ℕ) (d : Subscription) where
  pub clock_first : (found : Option ℕ) → i < length subs
      → sooner (sooner found (soon (deadline_in constants since (get_or subs i d).what))) (soon (soonest constants since (drop (i + 1) subs)))
      ≡ sooner found (soon (soonest constants since (drop i subs)))
  clock_first found within =
      let next : suc i ≡ i + 1 = omega arith in
      let rest = soonest constants since (drop (i + 1) subs) in
      let first = deadline_in constants since (get_or subs i d).what in
      let from : soonest constants since (drop i subs) ≡ sooner first rest =
      ap (soonest constants since) (drop-cons subs i d within ∙ ap (λ j. get_or subs i d ∷ drop j subs) next) in
      sooner_joins found (soon first) (soon rest) ∙ ap (sooner found) (sym (ap soon from ∙ soon_sooner first rest))
