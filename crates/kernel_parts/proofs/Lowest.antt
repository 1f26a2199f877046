-- The lowest free number of a table is the one that the code finds.
use Rattle.std.proofs.Common.{◌≡◌, ℕ, zero, suc, ◌+◌, ◌<◌, ◌≤◌, cond, Option, None, Some, IsSome, is_some, inl, inr, refl, ap, ◌∙◌, arith}
use Rattle.std.proofs.lemmas.Bool.Decides.{eqb_tells}
use Rattle.std.specs.FinMap.{get, insert}
use Rattle.abi_base.specs.declared.limits.TheConstants.{MOST_DESCRIPTORS}
use Rattle.fd_table.specs.Sizes.{taken_if_full}
use Rattle.fd_table.specs.Table.{IsFull, IsLowestFree, IsTable}
use Rattle.abi_base.specs.declared.errno.Errno.TheVariants.{Mfile}
use Rattle.abi_types.specs.declared.descriptor.Descriptor.{Descriptor}
use Rattle.kernel_model.specs.Families.DescriptorCalls.{dup_at, dup_of, free_from, lowest_free, with_table}
use Rattle.kernel_model.specs.Outcome.{replies}
use Rattle.kernel_model.specs.Reply.{refused}
use Rattle.kernel_model.specs.State.{Table}

-- where each of n numbers from k on is taken, none is free
none_free : (table : Table) (n k : ℕ) → ((i : ℕ) → k ≤ i → i < k + n → IsSome (get table i)) → free_from table n k ≡ None
unfolding free_from
none_free table zero k taken = refl
none_free table (suc n) k taken =
    ap (λ b. cond b (free_from table n (k + 1)) (Some k)) (taken k (omega arith) (omega arith))
    ∙ none_free table n (k + 1) (λ i least most. taken i (omega (arith, least)) (omega (arith, most)))

-- where j is free and all from k on below it are taken, it is the one
first_free : (table : Table) (n k j : ℕ) → k ≤ j → j < k + n → get table j ≡ None → ((i : ℕ) → k ≤ i → i < j → IsSome (get table i)) → free_from table n k ≡ Some j
unfolding free_from
first_free table zero k j least most free taken = absurd (omega (arith, least, most))
first_free table (suc n) k j least most free taken =
    elim (eqb_tells k j) [
      | inl is ↦
          ap (λ (o : Option _). cond (is_some o) (free_from table n (k + 1)) (Some k)) (ap (get table) is.1 ∙ free) ∙ ap Some is.1
      | inr other ↦ (
          let apart = other.1 in
          ap (λ b. cond b (free_from table n (k + 1)) (Some k)) (taken k (omega arith) (omega (arith, least, apart)))
          ∙ first_free table n (k + 1) j (omega (arith, least, apart)) (omega (arith, most)) free (λ i lower upper. taken i (omega (arith, lower)) upper))
    ]

pub full_is_none : (table : Table) → IsTable table → IsFull table → lowest_free table ≡ None
full_is_none table small full = none_free table MOST_DESCRIPTORS 0 (λ i _ most. taken_if_full MOST_DESCRIPTORS table small full i (omega (arith, most)))

pub lowest_is : (table : Table) (n : ℕ) → IsLowestFree table n → lowest_free table ≡ Some n
lowest_is table n lowest = first_free table MOST_DESCRIPTORS 0 n (omega arith) (omega (arith, lowest.0)) lowest.1 (λ i _ below. lowest.2 i below)

-- ---- what fd_dup comes to

-- no number is free
pub dup_full : (p : ℕ) (table : Table) (fd : ℕ) (d : Descriptor) → get table fd ≡ Some d → lowest_free table ≡ None
    → dup_of p table (get table fd) ≡ replies (refused Mfile)
dup_full p table fd d there none = ap (dup_of p table) there ∙ ap (dup_at p table d) none

-- this number is the lowest that is free
pub dup_done : (p : ℕ) (table : Table) (fd n : ℕ) (d : Descriptor) → get table fd ≡ Some d → IsLowestFree table n
    → dup_of p table (get table fd) ≡ with_table p n (insert table n d)
dup_done p table fd n d there lowest = ap (dup_of p table) there ∙ ap (dup_at p table d) (lowest_is table n lowest)
