-- The lowest number that is free, and how many are.
--     none_free, first_free, taken_or_free      the lowest of n numbers, from k on, that has no descriptor
--     lowest_none, lowest_is, all_or_first      the same of the 1024 numbers that a descriptor may have
--     install_none, install_some      descriptors are installed where as many numbers are free
use Rattle.std.proofs.Common.{◌≡◌, ◌⊎◌, inl, inr, ℕ, zero, suc, ◌+◌, ◌-◌, ◌<◌, ◌≤◌, Option, Some, None, IsSome, is_some, cond, refl, sym, ap, ◌∙◌, arith}
use Rattle.std.specs.FinMap.{get, insert}
use Rattle.std.specs.Prelude.{List, [], ◌∷◌, length}
use Rattle.abi_types.specs.declared.descriptor.Descriptor.{Descriptor}
use Rattle.maps.specs.Maps.{get-insert-same, get-insert-other}
use Rattle.kernel_model.specs.Families.ChannelCalls.{Installed, install, put_first, where_free}
use Rattle.kernel_model.specs.Families.DescriptorCalls.{free_from, lowest_free}
use Rattle.kernel_model.specs.State.{Table}
use Rattle.kernel_model.proofs.Tests.{none_is_no, same_some}
use Rattle.process_errors.specs.FreeNumbers.{AreAllTaken, IsFirstFree, free_within, one_where}
use Rattle.process_errors.proofs.Tables.{same_or}

none_free : (table : Table) (n k : ℕ) → ((m : ℕ) → k ≤ m → m < k + n → IsSome (get table m)) → free_from table n k ≡ None
unfolding free_from
none_free table zero k taken = refl
none_free table (suc n) k taken =
    ap (λ b. cond b (free_from table n (k + 1)) (Some k)) (taken k (omega arith) (omega arith))
    ∙ none_free table n (k + 1) (λ m from to. taken m (omega (arith, from)) (omega (arith, to)))

first_free : (table : Table) (n k fd : ℕ) → k ≤ fd → fd < k + n → get table fd ≡ None → ((m : ℕ) → k ≤ m → m < fd → IsSome (get table m))
    → free_from table n k ≡ Some fd
unfolding free_from
first_free table zero k fd from to free taken = absurd (omega (arith, from, to))
first_free table (suc n) k fd from to free taken =
    elim (same_or k fd) [
      | inl is ↦ ap (λ o. cond (is_some o) (free_from table n (k + 1)) (Some k)) (ap (get table) is ∙ free) ∙ ap Some is
      | inr other ↦ ap (λ b. cond b (free_from table n (k + 1)) (Some k)) (taken k (omega arith) (omega (arith, from, other)))
          ∙ first_free table n (k + 1) fd (omega (arith, from, other)) (omega (arith, to)) free (λ m more less. taken m (omega (arith, more)) less)
    ]

-- n numbers from k on are all taken, or there is a first one that isn't
abbrev AreTaken : Table → ℕ → ℕ → Type 0
AreTaken table n k = (m : ℕ) → k ≤ m → m < k + n → IsSome (get table m)

abbrev HasFirst : Table → ℕ → ℕ → Type 0
HasFirst table n k = (fd : ℕ) × (k ≤ fd) × (fd < k + n) × (get table fd ≡ None) × ((m : ℕ) → k ≤ m → m < fd → IsSome (get table m))

module _ (table : Table) (n k : ℕ) where
  taken_later : (d : Descriptor) → get table k ≡ Some d → AreTaken table n (k + 1) ⊎ HasFirst table n (k + 1)
      → AreTaken table (suc n) k ⊎ HasFirst table (suc n) k
  taken_later d there (inl taken) =
      inl (λ m from to. elim (same_or m k) [
        | inl is ↦ ap (λ o. is_some o) (ap (get table) is ∙ there)
        | inr other ↦ taken m (omega (arith, from, other)) (omega (arith, to))
      ])
  taken_later d there (inr one) =
      let from : k + 1 ≤ one.0 = one.1 in
      let to : one.0 < k + 1 + n = one.2 in
      inr (
        one.0,
        omega (arith, from),
        omega (arith, to),
        one.3,
        λ m more less. elim (same_or m k) [
          | inl is ↦ ap (λ o. is_some o) (ap (get table) is ∙ there)
          | inr other ↦ one.4 m (omega (arith, more, other)) less
        ],
      )

  taken_by : (o : Option Descriptor) → get table k ≡ o → AreTaken table n (k + 1) ⊎ HasFirst table n (k + 1)
      → AreTaken table (suc n) k ⊎ HasFirst table (suc n) k
  taken_by None none later = inr (k, omega arith, omega arith, none, λ m from to. absurd (omega (arith, from, to)))
  taken_by (Some d) there later = taken_later d there later

taken_or_free : (table : Table) (n k : ℕ) → AreTaken table n k ⊎ HasFirst table n k
taken_or_free table zero k = inl (λ m from to. absurd (omega (arith, from, to)))
taken_or_free table (suc n) k = taken_by table n k (get table k) refl (taken_or_free table n (k + 1))

pub lowest_none : (table : Table) → AreAllTaken table → lowest_free table ≡ None
lowest_none table taken = none_free table 1024 0 (λ m from to. taken m (omega (arith, to)))

pub lowest_is : (table : Table) (fd : ℕ) → IsFirstFree table 0 fd → lowest_free table ≡ Some fd
lowest_is table fd is = let most = is.most in first_free table 1024 0 fd (omega arith) (omega (arith, most)) is.free is.first

-- from a number on
pub all_or_first : (table : Table) (k : ℕ) → k ≤ 1024 → ((m : ℕ) → k ≤ m → m < 1024 → IsSome (get table m)) ⊎ ((fd : ℕ) × IsFirstFree table k fd)
all_or_first table k within =
    let n : ℕ = 1024 - k in
    elim (taken_or_free table n k) [
      | inl taken ↦ inl (λ m from to. taken m from (omega (arith, within, to)))
      | inr one ↦ (
          let to : one.0 < k + n = one.2 in
          inr (one.0, record { behind = one.1; most = omega (arith, within, to); free = one.3; first = one.4 }))
    ]

-- ---- how many are free

-- the free one is within
found_within : (table : Table) (n k m : ℕ) → free_from table n k ≡ Some m → k ≤ m
unfolding free_from
found_within table zero k m is = absurd (none_is_no m is)
found_within table (suc n) k m is =
    elim (get table k) as (λ o. cond (is_some o) (free_from table n (k + 1)) (Some k) ≡ Some m → k ≤ m) [
      | None ↦ λ h. (let same : k ≡ m = same_some k m h in omega (arith, same))
      | Some d ↦ λ h. (let later = found_within table n (k + 1) m h in omega (arith, later))
    ] is

none_within : (table : Table) (n k : ℕ) → free_from table n k ≡ None → free_within table n k ≡ 0
unfolding free_from free_within
none_within table zero k is = refl
none_within table (suc n) k is =
    elim (get table k) as (λ o. cond (is_some o) (free_from table n (k + 1)) (Some k) ≡ None → one_where o + free_within table n (k + 1) ≡ 0) [
      | None ↦ λ h. absurd (none_is_no k (sym h))
      | Some d ↦ λ h. (let later = none_within table n (k + 1) h in omega (arith, later))
    ] is

-- a number below them changes nothing
within_above : (table : Table) (m : ℕ) (d : Descriptor) (n k : ℕ) → m < k → free_within (insert table m d) n k ≡ free_within table n k
unfolding free_within
within_above table m d zero k less = refl
within_above table m d (suc n) k less =
    λ i. one_where (get-insert-other table m d k (λ is. omega (arith, is, less)) i) + within_above table m d n (k + 1) (omega (arith, less)) i

-- once the first has a descriptor one less is free
one_less : (table : Table) (d : Descriptor) (n k m : ℕ) → free_from table n k ≡ Some m → free_within (insert table m d) n k + 1 ≡ free_within table n k
unfolding free_from free_within
one_less table d zero k m is = absurd (none_is_no m is)
one_less table d (suc n) k m is =
    elim (get table k) as (λ o. get table k ≡ o → cond (is_some o) (free_from table n (k + 1)) (Some k) ≡ Some m
    → one_where (get (insert table m d) k) + free_within (insert table m d) n (k + 1) + 1 ≡ one_where o + free_within table n (k + 1)) [
      | None ↦ λ none h. (
          let same : k ≡ m = same_some k m h in
          let now : one_where (get (insert table m d) k) ≡ 0 = ap one_where (ap (get (insert table m d)) same ∙ get-insert-same table m d) in
          let later = within_above table m d n (k + 1) (omega (arith, same)) in
          omega (arith, now, later))
      | Some x ↦ λ there h. (
          let after = found_within table n (k + 1) m h in
          let now : one_where (get (insert table m d) k) ≡ 0 =
          ap one_where (get-insert-other table m d k (λ same. omega (arith, same, after)) ∙ there) in
          let later = one_less table d n (k + 1) m h in
          omega (arith, now, later))
    ] refl is

-- ---- descriptors that are installed

module _ (table : Table) (d : Descriptor) (ds : List Descriptor) where
  abbrev rest_from : ℕ → Option Installed
  rest_from number = put_first number (install (insert table number d) ds)

  install_less : (o : Option ℕ) → lowest_free table ≡ o → free_within table 1024 0 < suc (length ds)
      → ((m : ℕ) → free_within (insert table m d) 1024 0 < length ds → install (insert table m d) ds ≡ None) → where_free o rest_from ≡ None
  install_less None none few later = refl
  install_less (Some m) one few later =
      let less = one_less table d 1024 0 m one in
      ap (put_first m) (later m (omega (arith, less, few)))

  install_more : (o : Option ℕ) → lowest_free table ≡ o → suc (length ds) ≤ free_within table 1024 0
      → ((m : ℕ) → length ds ≤ free_within (insert table m d) 1024 0 → (installed : Installed) × (install (insert table m d) ds ≡ Some installed))
      → (installed : Installed) × (where_free o rest_from ≡ Some installed)
  install_more None none many later = let zero_free = none_within table 1024 0 none in absurd (omega (arith, zero_free, many))
  install_more (Some m) one many later =
      let less = one_less table d 1024 0 m one in
      let rest = later m (omega (arith, less, many)) in
      (_, ap (put_first m) rest.1)

pub install_none : (table : Table) (ds : List Descriptor) → free_within table 1024 0 < length ds → install table ds ≡ None
install_none table [] few = absurd (omega (arith, few))
install_none table (d ∷ ds) few =
    install_less table d ds (lowest_free table) refl few (λ m less. install_none (insert table m d) ds less)

pub install_some : (table : Table) (ds : List Descriptor) → length ds ≤ free_within table 1024 0 → (installed : Installed) × (install table ds ≡ Some installed)
install_some table [] many = (_, refl)
install_some table (d ∷ ds) many =
    install_more table d ds (lowest_free table) refl many (λ m more. install_some (insert table m d) ds more)
