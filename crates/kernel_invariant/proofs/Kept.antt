-- What the code keeps of tables and processes, and that the holders of an open stay far from what a count can have.
use Rattle.std.proofs.Common.{◌≡◌, ℕ, ◌+◌, ◌*◌, ◌^◌, ◌<◌, ◌≤◌, Bool, true, false, cond, Option, Some, IsSome, is_some, inl, inr, sym, ap, subst, ◌∙◌, arith}
use Rattle.std.proofs.lemmas.Bool.Decides.{eqb_tells}
use Rattle.std.proofs.Math.Nat.{mul-suc}
use Rattle.std.proofs.Math.Numerals.{suc-eq-add-one}
use Rattle.std.specs.Ordering.{nat_cmp}
use Rattle.std.specs.FinMap.{FinMap, get, insert, len, remove}
use Rattle.abi_base.specs.declared.limits.TheConstants.{MOST_DESCRIPTORS}
use Rattle.abi_types.specs.declared.descriptor.Descriptor.{Descriptor}
use Rattle.channel_calls.specs.Calls.{AreFew}
use Rattle.maps.specs.Maps.{number, get-insert-same, get-insert-other, len-insert_new, map_induction, total, total-empty, total-insert_new}
use Rattle.fd_table.specs.Sizes.{KeysBelow, len_at_most}
use Rattle.fd_table.specs.Table.{IsTable}
use Rattle.kernel_model.specs.Release.{carriers, count_in, ends, holders, is_killed, names_open, own_left, release}
use Rattle.kernel_model.specs.State.{State, Table}
use Rattle.kernel_model.specs.Valid.{IsValid}
use Rattle.kernel_model.proofs.EndedValid.{ended_before, gone_or_same}
use Rattle.kernel_model.proofs.Ends.{table_after}
use Rattle.kernel_model.proofs.Tests.{none_is_no, not_true, same_some}
use Rattle.kernel_model.proofs.Valids.{table_before}
use Rattle.kernel_invariant.specs.Held.{IsKept}

-- ---- tables

abbrev pub AreSmall : FinMap nat_cmp Table → Type 0
AreSmall tables = (p : ℕ) (table : Table) → get tables p ≡ Some table → IsTable table

pub small_set : (tables : FinMap nat_cmp Table) (p : ℕ) (new : Table) → AreSmall tables → IsTable new → AreSmall (insert tables p new)
small_set tables p new small fits q table there =
    elim (eqb_tells q p) [
      | inl is ↦ subst IsTable (same_some new table (sym (get-insert-same tables p new) ∙ sym (ap (get (insert tables p new)) is.1) ∙ there)) fits
      | inr other ↦ small q table (sym (get-insert-other tables p new q other.1) ∙ there)
    ]

pub small_dropped : (tables : FinMap nat_cmp Table) (p : ℕ) → AreSmall tables → AreSmall (remove tables p)
small_dropped tables p small q table there = small q table (ended_before tables p q table there)

pub below_dropped : (tables : FinMap nat_cmp Table) (p n : ℕ) → KeysBelow n tables → KeysBelow n (remove tables p)
below_dropped tables p n below q there =
    elim (gone_or_same tables p q) [
      | inl gone ↦ absurd (not_true (sym (ap is_some gone) ∙ there))
      | inr same ↦ below q (sym (ap is_some same.1) ∙ there)
    ]

pub small_released : (S : State) → AreSmall S.tables → AreSmall (release S).tables
small_released S small p table there = small p table (table_before S p table there)

pub below_released : (S : State) (n : ℕ) → KeysBelow n S.tables → KeysBelow n (release S).tables
below_released S n below p there = below p (left_some (is_killed S (ends S) p) (get S.tables p) (sym (ap is_some (table_after S (ends S) p)) ∙ there)) where
  left_some : (killed : Bool) (before : Option Table) → IsSome (own_left killed before) → IsSome before
  left_some true before there = absurd (not_true there)
  left_some false before there = there

-- ---- what is kept again

-- where nothing has changed but that a count of 0 may stand for none
pub kept_again : (S : State) (counts : FinMap nat_cmp ℕ) → IsKept S counts → (T : State) (after : FinMap nat_cmp ℕ) → T ≡ S
    → ((r : ℕ) → number (get after r) ≡ number (get counts r)) → IsKept T after
kept_again S counts kept T after same numbers = record {
  valid = subst IsValid (sym same) kept.valid;
  counted = λ r. numbers r ∙ kept.counted r ∙ ap (λ (U : State). holders U r + carriers U r) (sym same);
  few = subst (λ (U : State). AreFew U.chans) (sym same) kept.few;
  small = subst (λ (U : State). AreSmall U.tables) (sym same) kept.small;
  processes = subst (λ (U : State). KeysBelow (2 ^ 32) U.tables) (sym same) kept.processes;
}

-- ---- holders

-- a sum of values of at most n each
total_bound : {X : Type 0} (f : X → ℕ) (n : ℕ) (m : FinMap nat_cmp X) → ((k : ℕ) (x : X) → get m k ≡ Some x → f x ≤ n) → total f m ≤ n * len m
total_bound {X} f n = map_induction (λ m. ((k : ℕ) (x : X) → get m k ≡ Some x → f x ≤ n) → total f m ≤ n * len m)
    (λ _. let none = total-empty f in omega (arith, none))
    (λ m k v free before most.
    let others = before (λ q x there. most q x (get-insert-other m k v q (λ e. none_is_no x (sym free ∙ sym (ap (get m) e) ∙ there)) ∙ there)) in
    let one = most k v (get-insert-same m k v) in
    let sum = total-insert_new f m k v free in
    let size = len-insert_new m k v free in
    let product : n * len (insert m k v) ≡ n * len m + n = ap (λ x. n * x) (size ∙ sym (suc-eq-add-one (len m))) ∙ mul-suc n (len m) in
    omega (arith, sum, product, others, one))

names_once : (o : ℕ) (d : Descriptor) → names_open o d ≤ 1
names_once o d = elim (eqb_tells d.id o) [
  | inl is ↦ let one : names_open o d ≡ 1 = ap (λ b. cond b 1 0) is.0 in omega (arith, one)
  | inr other ↦ let none : names_open o d ≡ 0 = ap (λ b. cond b 1 0) other.0 in omega (arith, none)
]

-- a table names an open at most as often as it has numbers
counted_most : (o : ℕ) (table : Table) → IsTable table → count_in o table ≤ MOST_DESCRIPTORS
counted_most o table small =
    let sum = total_bound (names_open o) 1 table (λ k d _. names_once o d) in
    let size = len_at_most MOST_DESCRIPTORS table small in
    omega (arith, sum, size)

-- so an open has far fewer holders than a count can count
pub holders_few : (S : State) (o : ℕ) → AreSmall S.tables → KeysBelow (2 ^ 32) S.tables → holders S o < 2 ^ 61
holders_few S o small below =
    let sum = total_bound (count_in o) MOST_DESCRIPTORS S.tables (λ p table there. counted_most o table (small p table there)) in
    let size = len_at_most (2 ^ 32) S.tables below in
    omega (arith, sum, size)
