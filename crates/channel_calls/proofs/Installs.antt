-- Descriptors that come into a table.
--     lowest_is      the lowest free number of a table is the one that the code finds
--     one_installed, installs, no_room      what is installed, where there is room for it and where there isn't
--     installed_counts      the holders of an open then
--     AreInstalled, none_left, one_then_others      what the code leaves
use Rattle.std.proofs.Common.{◌≡◌, ℕ, zero, suc, ◌+◌, ◌<◌, ◌≤◌, cond, List, [], ◌∷◌, ◌++◌, length, Option, None, Some, IsSome, is_some, inl, inr, refl, sym, ap, ◌∙◌, arith}
use Rattle.std.proofs.lemmas.Bool.Decides.{eqb_tells}
use Rattle.std.proofs.lemmas.List.{append-nil, append_assoc}
use Rattle.std.specs.FinMap.{get, insert, len}
use Rattle.abi_base.specs.declared.limits.TheConstants.{MOST_DESCRIPTORS}
use Rattle.abi_types.specs.declared.descriptor.Descriptor.{Descriptor}
use Rattle.fd_table.specs.Sizes.{below-insert, full_if_taken, len_at_most}
use Rattle.fd_table.specs.Table.{IsLowestFree, IsTable}
use Rattle.maps.specs.Maps.{len-insert_new, total-insert_new}
use Rattle.kernel_model.specs.Families.ChannelCalls.{Installed, install, put_first, where_free}
use Rattle.kernel_model.specs.Families.DescriptorCalls.{free_from, lowest_free}
use Rattle.kernel_model.specs.Release.{count_carried, count_in, names_open}
use Rattle.kernel_model.specs.State.{Table}
use Rattle.kernel_model.proofs.DescriptorCalls.{free_is_absent}
use Rattle.kernel_model.proofs.SocketCalls.{installed_from}
use Rattle.kernel_model.proofs.Tests.{none_is_no, same_some}

-- ---- the lowest free number

-- where j is free and all from k on below it are taken, it is the one
first_free : (table : Table) (n k j : ℕ) → k ≤ j → j < k + n → get table j ≡ None → ((i : ℕ) → k ≤ i → i < j → IsSome (get table i)) → free_from table n k ≡ Some j
unfolding free_from
first_free table zero k j least most free taken = absurd (omega (arith, least, most))
first_free table (suc n) k j least most free taken =
    elim (eqb_tells k j) [
      | inl is ↦
          ap (λ (o : Option _). cond (is_some o) (free_from table n (k + 1)) (Some k)) (ap (get table) is.1 ∙ free) ∙ ap Some is.1
      | inr other ↦ (
          let apart = other.1 in
          ap (λ b. cond b (free_from table n (k + 1)) (Some k)) (taken k (omega arith) (omega (arith, least, apart)))
          ∙ first_free table n (k + 1) j (omega (arith, least, apart)) (omega (arith, most)) free (λ i lower upper. taken i (omega (arith, lower)) upper))
    ]

pub lowest_is : (table : Table) (n : ℕ) → IsLowestFree table n → lowest_free table ≡ Some n
lowest_is table n lowest = first_free table MOST_DESCRIPTORS 0 n (omega arith) (omega (arith, lowest.0)) lowest.1 (λ i _ below. lowest.2 i below)

-- a number that is found is among those that are tried, and where none is found each is taken
found_within : (table : Table) (n k m : ℕ) → free_from table n k ≡ Some m → m < k + n
unfolding free_from
found_within table zero k m is = absurd (none_is_no m is)
found_within table (suc n) k m is =
    elim (get table k) as (λ o. cond (is_some o) (free_from table n (k + 1)) (Some k) ≡ Some m → m < k + suc n) [
      | None ↦ λ h. let same = same_some k m h in omega (arith, same)
      | Some d ↦ λ h. let less = found_within table n (k + 1) m h in omega (arith, less)
    ] is

all_taken : (table : Table) (n k : ℕ) → free_from table n k ≡ None → (i : ℕ) → k ≤ i → i < k + n → IsSome (get table i)
unfolding free_from
all_taken table zero k is i least most = absurd (omega (arith, least, most))
all_taken table (suc n) k is i least most =
    elim (get table k) as (λ o. get table k ≡ o → cond (is_some o) (free_from table n (k + 1)) (Some k) ≡ None → IsSome (get table i)) [
      | None ↦ λ here h. absurd (none_is_no k (sym h))
      | Some d ↦ λ here h. elim (eqb_tells i k) [
        | inl same ↦ ap (λ j. is_some (get table j)) same.1 ∙ ap is_some here
        | inr other ↦ (let apart = other.1 in all_taken table n (k + 1) h i (omega (arith, least, apart)) (omega (arith, most)))
      ]
    ] refl is

lowest_there : (table : Table) → IsTable table → len table < MOST_DESCRIPTORS → (n : ℕ) × (lowest_free table ≡ Some n)
lowest_there table small less = at (lowest_free table) refl where
  at : (o : Option ℕ) → lowest_free table ≡ o → (n : ℕ) × (lowest_free table ≡ Some n)
  at None none = absurd (let full = full_if_taken MOST_DESCRIPTORS table small (λ i most. all_taken table MOST_DESCRIPTORS 0 none i (omega arith) (omega (arith, most))) in omega (arith, full, less))
  at (Some n) some = (n, some)

-- ---- what is installed

pub one_installed : (table : Table) (number : ℕ) (d : Descriptor) (ds : List Descriptor) (more : Installed) → lowest_free table ≡ Some number
    → install (insert table number d) ds ≡ Some more → install table (d ∷ ds) ≡ Some (record { fds = number ∷ more.fds; table = more.table })
one_installed table number d ds more lowest rest =
    ap (λ o. where_free o (λ k. put_first k (install (insert table k d) ds))) lowest ∙ ap (put_first number) rest

module _ (table : Table) (small : IsTable table) (n : ℕ) (d : Descriptor) (found : lowest_free table ≡ Some n) where
  below : n < MOST_DESCRIPTORS
  below = omega (arith, found_within table MOST_DESCRIPTORS 0 n found)

  still_small : IsTable (insert table n d)
  still_small = below-insert MOST_DESCRIPTORS table n d small below

  one_more : len (insert table n d) ≡ len table + 1
  one_more = len-insert_new table n d (free_is_absent table MOST_DESCRIPTORS 0 n found)

pub installs : (ds : List Descriptor) (table : Table) → IsTable table → length ds + len table ≤ MOST_DESCRIPTORS → (installed : Installed) × (install table ds ≡ Some installed)
installs [] table small room = (record { fds = []; table = table }, refl)
installs (d ∷ ds) table small room =
    let lowest = lowest_there table small (omega (arith, room)) in
    let n = lowest.0 in
    let grown = one_more table small n d lowest.1 in
    let more = installs ds (insert table n d) (still_small table small n d lowest.1) (omega (arith, room, grown)) in
    (record { fds = n ∷ more.0.fds; table = more.0.table }, one_installed table n d ds more.0 lowest.1 more.1)

pub no_room : (ds : List Descriptor) (table : Table) → IsTable table → MOST_DESCRIPTORS < length ds + len table → install table ds ≡ None
no_room [] table small few = absurd (let most = len_at_most MOST_DESCRIPTORS table small in omega (arith, most, few))
no_room (d ∷ ds) table small few =
    elim (lowest_free table) as (λ o. lowest_free table ≡ o → where_free o (λ k. put_first k (install (insert table k d) ds)) ≡ None) [
      | None ↦ λ _. refl
      | Some n ↦ λ found.
          let grown = one_more table small n d found in
          ap (put_first n) (no_room ds (insert table n d) (still_small table small n d found) (omega (arith, few, grown)))
    ] refl

pub installed_counts : (o : ℕ) (ds : List Descriptor) (table : Table) (installed : Installed) → install table ds ≡ Some installed
    → count_in o installed.table ≡ count_in o table + count_carried o ds
installed_counts o [] table installed is =
    let same = ap (λ (x : Installed). count_in o x.table) (same_some (record { fds = []; table = table }) installed is) in
    omega (arith, same)
installed_counts o (d ∷ ds) table installed is =
    let from = installed_from (lowest_free table) (λ number. install (insert table number d) ds) installed is in
    let same = ap (λ (x : Installed). count_in o x.table) from.4 in
    let more = installed_counts o ds (insert table from.0 d) from.1 from.3 in
    let one = total-insert_new (names_open o) table from.0 d (free_is_absent table MOST_DESCRIPTORS 0 from.0 from.2) in
    omega (arith, same, more, one)

-- ---- what the code leaves

-- the descriptors are installed in the table, which is left so, and their numbers stand at the end of the list
abbrev pub AreInstalled : Table → List Descriptor → Table → List ℕ → List ℕ → Type 0
AreInstalled table ds after before numbers =
    (installed : Installed) × (install table ds ≡ Some installed) × (after ≡ installed.table) × (numbers ≡ before ++ installed.fds)

pub none_left : (table : Table) (ds : List Descriptor) (numbers : List ℕ) → length ds ≡ 0 → AreInstalled table ds table numbers numbers
none_left table [] numbers none = (record { fds = []; table = table }, refl, refl, sym (append-nil numbers))
none_left table (d ∷ ds) numbers none = absurd (omega (arith, none))

pub one_then_others : (table next after : Table) (number : ℕ) (d : Descriptor) (ds all : List Descriptor) (before pushed numbers : List ℕ)
    → IsLowestFree table number → next ≡ insert table number d → all ≡ d ∷ ds → pushed ≡ before ++ number ∷ [] → AreInstalled next ds after pushed numbers
    → AreInstalled table all after before numbers
one_then_others table next after number d ds all before pushed numbers lowest put is grown more = (
  record { fds = number ∷ more.0.fds; table = more.0.table },
  ap (install table) is ∙ one_installed table number d ds more.0 (lowest_is table number lowest) (ap (λ (t : Table). install t ds) (sym put) ∙ more.1),
  more.2,
  more.3 ∙ ap (λ (ns : List ℕ). ns ++ more.0.fds) grown ∙ append_assoc before (number ∷ []) more.0.fds,
)
