-- A change of a process's descriptors, and of the opens that they name, is what the model's updates are.
use Rattle.std.proofs.Common.{◌≡◌, ℕ, zero, suc, ◌+◌, ◌<◌, ◌==◌, Bool, true, false, cond, List, [], ◌∷◌, ◌++◌, Option, None, Some, IsSome, is_some, refl, sym, ap, subst, ◌∙◌, arith}
use Rattle.std.specs.Ordering.{nat_cmp}
use Rattle.std.specs.Prelude.{bit_and}
use Rattle.std.specs.FinMap.{FinMap, contains_key, get, insert}
use Rattle.abi_base.specs.declared.limits.TheConstants.{MOST_DESCRIPTORS}
use Rattle.abi_structures.specs.declared.structures.FdStat.{FdStat}
use Rattle.abi_types.specs.declared.descriptor.Descriptor.{Descriptor}
use Rattle.abi_types.specs.declared.open_kind.OpenKind.{OpenKind}
use Rattle.maps.specs.Maps.{number, insert-again, insert_self, get-insert-same}
use Rattle.fd_table.specs.Sizes.{below-insert, below-insert_again, below-remove}
use Rattle.fd_table.specs.Table.{IsTable}
use Rattle.kernel_model.specs.Families.DescriptorCalls.{dup_at, dup_of, free_from, lowest_free, lowered_to, replaced_by, stat_put, stat_set, with_flags}
use Rattle.kernel_model.specs.Outcome.{Outcome}
use Rattle.kernel_model.specs.State.{State, Table, Update, set_table, set_open, put_all}
use Rattle.kernel_model.specs.Valid.{IsNearlyValid}
use Rattle.kernel_model.specs.View.{whole}
use Rattle.kernel_model.proofs.DescriptorCalls.{close_is, dup_errors, dup_is, put_valid, replaced_is, setting_valid}
use Rattle.abi_base.specs.declared.errno.Errno.TheVariants.{Badf}
use Rattle.abi_types.specs.declared.family.DescriptorChange.{DescriptorChange}
use Rattle.abi_types.specs.declared.family.DescriptorChange.TheVariants.{Close, Dup, Replace, StatPut}
use Rattle.kernel_parts.specs.Changes.{change_outcome, opens_after, stat_put_at, table_after, HasReplaced}
use Rattle.kernel_model.proofs.Tests.{none_is_no, same_some}

-- ---- the updates are of this process's table and of opens

abbrev pub AreOf : ℕ → List Update → Type 0
AreOf p [] = Unit {0}
AreOf p (set_table q table ∷ us) = (q ≡ p) × AreOf p us
AreOf p (set_open o kind ∷ us) = AreOf p us
AreOf p _ = ⊥

either_of : (p o : ℕ) (kind : OpenKind) (new : Table) (a b : Bool) → AreOf p (cond a [] (set_open o kind ∷ []) ++ cond b [] (set_table p new ∷ []))
either_of p o kind new true true = tt
either_of p o kind new true false = (refl, tt)
either_of p o kind new false true = tt
either_of p o kind new false false = (refl, tt)

dup_of_own : (p : ℕ) (table : Table) (d : Descriptor) (number : Option ℕ) → AreOf p (dup_at p table d number).updates
dup_of_own p table d None = tt
dup_of_own p table d (Some number) = (refl, tt)

dups_of_own : (p : ℕ) (table : Table) (o : Option Descriptor) → AreOf p (dup_of p table o).updates
dups_of_own p table None = tt
dups_of_own p table (Some d) = dup_of_own p table d (lowest_free table)

replaced_of_own : (p : ℕ) (table : Table) (to : ℕ) (o : Option Descriptor) → AreOf p (replaced_by p table to o).updates
replaced_of_own p table to None = tt
replaced_of_own p table to (Some d) = (refl, tt)

set_of_own : (p : ℕ) (table : Table) (fd : ℕ) (stat : FdStat) (flags : ℕ) (d : Descriptor) (o : Option OpenKind) → AreOf p (stat_set p table fd stat flags d o).updates
set_of_own p table fd stat flags d None = tt
set_of_own p table fd stat flags d (Some kind) =
    either_of p d.id (with_flags kind stat.flags) (insert table fd (lowered_to d stat)) (bit_and flags 1 == 0) (bit_and flags 2 == 0)

put_of_own : (p : ℕ) (opens : FinMap nat_cmp OpenKind) (table : Table) (fd : ℕ) (stat : FdStat) (flags : ℕ) (o : Option Descriptor)
    → AreOf p (stat_put_at p opens table fd stat flags o).updates
put_of_own p opens table fd stat flags None = tt
put_of_own p opens table fd stat flags (Some d) = set_of_own p table fd stat flags d (get opens d.id)

pub change_of_own : (p : ℕ) (opens : FinMap nat_cmp OpenKind) (table : Table) (change : DescriptorChange) → AreOf p (change_outcome p opens table change).updates
change_of_own p opens table (Close fd) = (refl, tt)
change_of_own p opens table (Dup fd) = dups_of_own p table (get table fd)
change_of_own p opens table (Replace from to) = replaced_of_own p table to (get table from)
change_of_own p opens table (StatPut fd stat flags) = put_of_own p opens table fd stat flags (get table fd)

-- the state after such updates
pub puts_are : (us : List Update) (S : State) (p : ℕ) (table : Table) → get S.tables p ≡ Some table → AreOf p us
    → put_all us S ≡ record S { tables = insert S.tables p (table_after table us); opens = opens_after S.opens us }
puts_are [] S p table there of = λ i. record S { tables = sym (insert_self S.tables p table there) i }
puts_are (set_table q new ∷ us) S p table there of =
    puts_are us (record S { tables = insert S.tables q new }) p new (ap (λ (r : ℕ). get (insert S.tables r new) p) of.0 ∙ get-insert-same S.tables p new) of.1
    ∙ (λ i. record S {
      tables = (ap (λ (r : ℕ). insert (insert S.tables r new) p (table_after new us)) of.0 ∙ insert-again S.tables p new (table_after new us)) i;
      opens = opens_after S.opens us;
    })
puts_are (set_open o kind ∷ us) S p table there of = puts_are us (record S { opens = insert S.opens o kind }) p table there of
puts_are (u ∷ us) S p table there of = absurd of

-- ---- the state is nearly valid after them

put_same : (S : State) (p : ℕ) (table : Table) (fd : ℕ) (stat : FdStat) (flags : ℕ) (o : Option Descriptor)
    → stat_put (whole S) p table fd stat flags o ≡ stat_put_at p S.opens table fd stat flags o
put_same S p table fd stat flags None = refl
put_same S p table fd stat flags (Some d) = refl

pub put_is : (S : State) (p : ℕ) (table : Table) (fd : ℕ) (stat : FdStat) (flags : ℕ)
    → stat_put (whole S) p table fd stat flags (get table fd) ≡ change_outcome p S.opens table (StatPut fd stat flags)
put_is S p table fd stat flags = put_same S p table fd stat flags (get table fd)

pub change_valid : (S : State) (p : ℕ) (table : Table) (change : DescriptorChange) → get S.tables p ≡ Some table → IsNearlyValid S
    → IsNearlyValid (put_all (change_outcome p S.opens table change).updates S)
change_valid S p table (Close fd) there nearly = setting_valid [] S p table _ (close_is p table fd) there nearly
change_valid S p table (Dup fd) there nearly = setting_valid dup_errors S p table _ (dup_is p table fd (get table fd) refl) there nearly
change_valid S p table (Replace from to) there nearly = setting_valid (Badf ∷ []) S p table _ (replaced_is p table from to (get table from) refl) there nearly
change_valid S p table (StatPut fd stat flags) there nearly =
    subst (λ (o : Outcome). IsNearlyValid (put_all o.updates S)) (put_is S p table fd stat flags) (put_valid S p table fd stat flags there nearly)

-- ---- the table stays one

-- it is this number, or one behind it
free_case : (b : Bool) (n k j : ℕ) (rest : Option ℕ) → (rest ≡ Some j → j < (k + 1) + n) → cond b rest (Some k) ≡ Some j → j < k + suc n
free_case true n k j rest behind e = let less = behind e in omega (arith, less)
free_case false n k j rest behind e = let same : k ≡ j = same_some k j e in omega (arith, same)

free_below : (table : Table) (n k j : ℕ) → free_from table n k ≡ Some j → j < k + n
unfolding free_from
free_below table zero k j e = absurd (none_is_no j e)
free_below table (suc n) k j e =
    free_case (contains_key table k) n k j (free_from table n (k + 1)) (λ is. free_below table n (k + 1) j is) e

-- a free number is one that a descriptor may have
pub lowest_small : (table : Table) (number : ℕ) → lowest_free table ≡ Some number → number < MOST_DESCRIPTORS
lowest_small table number is = let less = free_below table MOST_DESCRIPTORS 0 number is in omega (arith, less)

dup_small : (p : ℕ) (table : Table) (d : Descriptor) (number : Option ℕ) → lowest_free table ≡ number → IsTable table
    → IsTable (table_after table (dup_at p table d number).updates)
dup_small p table d None e small = small
dup_small p table d (Some number) e small =
    below-insert MOST_DESCRIPTORS table number d small (lowest_small table number e)

dups_small : (p : ℕ) (table : Table) (o : Option Descriptor) → IsTable table → IsTable (table_after table (dup_of p table o).updates)
dups_small p table None small = small
dups_small p table (Some d) small = dup_small p table d (lowest_free table) refl small

replaced_small : (p : ℕ) (table : Table) (to : ℕ) (o : Option Descriptor) → IsSome (get table to) → IsTable table → IsTable (table_after table (replaced_by p table to o).updates)
replaced_small p table to None there small = small
replaced_small p table to (Some d) there small = below-insert_again MOST_DESCRIPTORS table to d small there

either_small : (p o : ℕ) (kind : OpenKind) (table new : Table) (a b : Bool) → IsTable table → IsTable new
    → IsTable (table_after table (cond a [] (set_open o kind ∷ []) ++ cond b [] (set_table p new ∷ [])))
either_small p o kind table new true true old fits = old
either_small p o kind table new true false old fits = fits
either_small p o kind table new false true old fits = old
either_small p o kind table new false false old fits = fits

set_small : (p : ℕ) (table : Table) (fd : ℕ) (stat : FdStat) (flags : ℕ) (d : Descriptor) (o : Option OpenKind) → IsSome (get table fd) → IsTable table
    → IsTable (table_after table (stat_set p table fd stat flags d o).updates)
set_small p table fd stat flags d None there small = small
set_small p table fd stat flags d (Some kind) there small =
    either_small p d.id (with_flags kind stat.flags) table (insert table fd (lowered_to d stat)) (bit_and flags 1 == 0) (bit_and flags 2 == 0) small
    (below-insert_again MOST_DESCRIPTORS table fd (lowered_to d stat) small there)

put_small : (p : ℕ) (opens : FinMap nat_cmp OpenKind) (table : Table) (fd : ℕ) (stat : FdStat) (flags : ℕ) (o : Option Descriptor) → get table fd ≡ o → IsTable table
    → IsTable (table_after table (stat_put_at p opens table fd stat flags o).updates)
put_small p opens table fd stat flags None e small = small
put_small p opens table fd stat flags (Some d) e small = set_small p table fd stat flags d (get opens d.id) (ap is_some e) small

pub change_small : (p : ℕ) (opens : FinMap nat_cmp OpenKind) (table : Table) (change : DescriptorChange) → HasReplaced table change → IsTable table
    → IsTable (table_after table (change_outcome p opens table change).updates)
change_small p opens table (Close fd) has small = below-remove MOST_DESCRIPTORS table fd small
change_small p opens table (Dup fd) has small = dups_small p table (get table fd) small
change_small p opens table (Replace from to) has small = replaced_small p table to (get table from) has small
change_small p opens table (StatPut fd stat flags) has small = put_small p opens table fd stat flags (get table fd) refl small
