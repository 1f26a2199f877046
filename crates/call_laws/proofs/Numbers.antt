-- The lowest number that is free in a table.
--     lowest_is_lowest      none has it, and each lower one is taken
--     lowest_number      it is the lowest that isn't taken
--     taken_before, taken_after      what is taken once one descriptor more is there
--     alike, all_alike      where the same numbers are taken the lowest are the same
use Rattle.std.proofs.Common.{◌≡◌, ◌≢◌, ◌⊎◌, inl, inr, ℕ, zero, suc, ◌+◌, ◌<◌, ◌≤◌, cond, List, [], ◌∷◌, Some, None, IsSome, is_some, refl, sym, ap, ◌∙◌, arith}
use Rattle.std.proofs.lemmas.Bool.Decides.{eqb_tells}
use Rattle.std.specs.FinMap.{get, insert}
use Rattle.abi_types.specs.declared.descriptor.Descriptor.{Descriptor}
use Rattle.maps.specs.Maps.{get-insert-same, get-insert-other}
use Rattle.kernel_model.specs.Families.DescriptorCalls.{free_from, lowest_free}
use Rattle.kernel_model.specs.State.{Table}
use Rattle.kernel_model.proofs.DescriptorCalls.{free_is_absent}
use Rattle.kernel_model.proofs.Tests.{none_is_no, not_true, same_some}
use Rattle.call_laws.specs.NumberLaws.{AreLowest, IsLowest, IsTaken, LowestIsLowest}

-- ---- the search

free_below : (table : Table) (n k m : ℕ) → free_from table n k ≡ Some m → (k ≤ m) × (m < k + n)
unfolding free_from
free_below table zero k m is = absurd (none_is_no m is)
free_below table (suc n) k m is =
    elim (get table k) as (λ o. get table k ≡ o → cond (is_some o) (free_from table n (k + 1)) (Some k) ≡ Some m → (k ≤ m) × (m < k + suc n)) [
      | None ↦ λ here h. (let same : k ≡ m = same_some k m h in (omega (arith, same), omega (arith, same)))
      | Some d ↦ λ here h. (let more = free_below table n (k + 1) m h in let least = more.0 in let most = more.1 in (omega (arith, least), omega (arith, most)))
    ] refl is

taken_below : (table : Table) (n k m j : ℕ) → free_from table n k ≡ Some m → k ≤ j → j < m → IsSome (get table j)
unfolding free_from
taken_below table zero k m j is past less = absurd (none_is_no m is)
taken_below table (suc n) k m j is past less =
    elim (get table k) as (λ o. get table k ≡ o → cond (is_some o) (free_from table n (k + 1)) (Some k) ≡ Some m → IsSome (get table j)) [
      | None ↦ λ here h. (let same : k ≡ m = same_some k m h in absurd (omega (arith, same, past, less)))
      | Some d ↦ λ here h. elim (eqb_tells j k) [
        | inl is ↦ ap (λ i. is_some (get table i)) is.1 ∙ ap is_some here
        | inr other ↦ (let apart : j ≢ k = other.1 in taken_below table n (k + 1) m j h (omega (arith, past, apart)) less)
      ]
    ] refl is

all_taken : (table : Table) (n k j : ℕ) → free_from table n k ≡ None → k ≤ j → j < k + n → IsSome (get table j)
unfolding free_from
all_taken table zero k j is past less = absurd (omega (arith, past, less))
all_taken table (suc n) k j is past less =
    elim (get table k) as (λ o. get table k ≡ o → cond (is_some o) (free_from table n (k + 1)) (Some k) ≡ None → IsSome (get table j)) [
      | None ↦ λ here h. absurd (none_is_no k (sym h))
      | Some d ↦ λ here h. elim (eqb_tells j k) [
        | inl is ↦ ap (λ i. is_some (get table i)) is.1 ∙ ap is_some here
        | inr other ↦ (let apart : j ≢ k = other.1 in all_taken table n (k + 1) j h (omega (arith, past, apart)) (omega (arith, less)))
      ]
    ] refl is

pub lowest_is_lowest : LowestIsLowest
lowest_is_lowest = record {
  free = λ table n is. free_is_absent table 1024 0 n is;
  small = λ table n is. (free_below table 1024 0 n is).1;
  lower = λ table n m is less. taken_below table 1024 0 n m is (omega arith) less;
  none = λ table m is less. all_taken table 1024 0 m is (omega arith) less;
}

-- ---- the lowest that isn't taken

pub not_taken : (table : Table) (n : ℕ) → get table n ≡ None → ¬ IsTaken table n
not_taken table n free taken = not_true (sym (ap is_some free) ∙ taken)

pub lowest_number : (table : Table) (n : ℕ) → lowest_free table ≡ Some n → IsLowest (IsTaken table) n
lowest_number table n is = record {
  free = not_taken table n (lowest_is_lowest.free table n is);
  small = lowest_is_lowest.small table n is;
  lower = λ m less. lowest_is_lowest.lower table n m is less;
}

-- ---- one number more

pub taken_before : (table : Table) (n k : ℕ) (d : Descriptor) → IsTaken (insert table n d) k → (k ≡ n) ⊎ IsTaken table k
taken_before table n k d taken =
    elim (eqb_tells k n) [
      | inl is ↦ inl is.1
      | inr other ↦ inr (sym (ap is_some (get-insert-other table n d k other.1)) ∙ taken)
    ]

pub taken_after : (table : Table) (n k : ℕ) (d : Descriptor) → (k ≡ n) ⊎ IsTaken table k → IsTaken (insert table n d) k
taken_after table n k d (inl is) = ap (λ i. is_some (get (insert table n d) i)) is ∙ ap is_some (get-insert-same table n d)
taken_after table n k d (inr taken) =
    elim (eqb_tells k n) [
      | inl is ↦ ap (λ i. is_some (get (insert table n d) i)) is.1 ∙ ap is_some (get-insert-same table n d)
      | inr other ↦ ap is_some (get-insert-other table n d k other.1) ∙ taken
    ]

pub alike : (P Q : ℕ → Type 0) (n : ℕ) → ((k : ℕ) → P k → Q k) → ((k : ℕ) → Q k → P k) → IsLowest P n → IsLowest Q n
alike P Q n there back low = record { free = λ q. low.free (back n q); small = low.small; lower = λ m less. there m (low.lower m less) }

pub all_alike : (P Q : ℕ → Type 0) (ns : List ℕ) → ((k : ℕ) → P k → Q k) → ((k : ℕ) → Q k → P k) → AreLowest P ns → AreLowest Q ns
all_alike P Q [] there back low = low
all_alike P Q (n ∷ ns) there back low = (
  alike P Q n there back low.0,
  all_alike (λ m. (m ≡ n) ⊎ P m) (λ m. (m ≡ n) ⊎ Q m) ns (λ k. beside n k (P k) (Q k) (there k)) (λ k. beside n k (Q k) (P k) (back k)) low.1,
) where
  beside : (n k : ℕ) (A B : Type 0) → (A → B) → (k ≡ n) ⊎ A → (k ≡ n) ⊎ B
  beside n k A B f (inl is) = inl is
  beside n k A B f (inr a) = inr (f a)
