-- What fd_stat_put comes to.
use Rattle.std.proofs.Common.{◌≡◌, ℕ, ◌==◌, ◌&&◌, Bool, true, false, cond, [], ◌∷◌, ◌++◌, Option, Some, inl, inr, refl, ap, ◌∙◌}
use Rattle.std.proofs.lemmas.Bool.Decides.{eqb_tells}
use Rattle.std.specs.Ordering.{nat_cmp}
use Rattle.std.specs.Prelude.{bit_and, IsTrue}
use Rattle.std.specs.FinMap.{FinMap, get, insert}
use Rattle.abi_base.specs.declared.rights.Rights.{Rights}
use Rattle.abi_base.specs.Rights.{has_all, meet_of}
use Rattle.abi_structures.specs.declared.structures.FdStat.{FdStat}
use Rattle.abi_types.specs.declared.descriptor.Descriptor.{Descriptor}
use Rattle.abi_types.specs.declared.open_kind.OpenKind.{OpenKind}
use Rattle.fd_table.specs.Table.{holds_all, lowered, lowered_at}
use Rattle.kernel_model.specs.Families.DescriptorCalls.{lowered_to, stat_set, with_flags}
use Rattle.kernel_model.specs.Outcome.{Outcome}
use Rattle.kernel_model.specs.State.{Table, set_open, set_table}
use Rattle.kernel_model.proofs.DescriptorCalls.{lowered_within}
use Rattle.kernel_parts.specs.Changes.{stat_put_at, table_after}

-- where descriptor and open are there
pub stat_is : (p : ℕ) (opens : FinMap nat_cmp OpenKind) (table : Table) (fd : ℕ) (stat : FdStat) (flags : ℕ) (d : Descriptor) (kind : OpenKind)
    → get table fd ≡ Some d → get opens d.id ≡ Some kind
    → stat_put_at p opens table fd stat flags (get table fd) ≡ stat_set p table fd stat flags d (Some kind)
stat_is p opens table fd stat flags d kind there at =
    ap (stat_put_at p opens table fd stat flags) there ∙ ap (stat_set p table fd stat flags d) at

-- ---- the table

table_of_both : (table new : Table) (p o : ℕ) (k : OpenKind) (a b : Bool)
    → table_after table (cond a [] (set_open o k ∷ []) ++ cond b [] (set_table p new ∷ [])) ≡ cond b table new
table_of_both table new p o k true true = refl
table_of_both table new p o k true false = refl
table_of_both table new p o k false true = refl
table_of_both table new p o k false false = refl

pub stat_table : (p : ℕ) (opens : FinMap nat_cmp OpenKind) (table : Table) (fd : ℕ) (stat : FdStat) (flags : ℕ) (d : Descriptor) (kind : OpenKind)
    → get table fd ≡ Some d → get opens d.id ≡ Some kind
    → table_after table (stat_put_at p opens table fd stat flags (get table fd)).updates ≡ cond (bit_and flags 2 == 0) table (insert table fd (lowered_to d stat))
stat_table p opens table fd stat flags d kind there at =
    ap (λ (o : Outcome). table_after table o.updates) (stat_is p opens table fd stat flags d kind there at)
    ∙ table_of_both table (insert table fd (lowered_to d stat)) p d.id (with_flags kind stat.flags) (bit_and flags 1 == 0) (bit_and flags 2 == 0)

pub not_zero : (n : ℕ) → (n ≡ 0 → ⊥) → (n == 0) ≡ false
not_zero n h = elim (eqb_tells n 0) [ inl is ↦ absurd (h is.1) | inr other ↦ other.0 ]

pub is_zero : (n : ℕ) → n ≡ 0 → (n == 0) ≡ true
is_zero n h = elim (eqb_tells n 0) [ inl is ↦ is.0 | inr other ↦ absurd (other.1 h) ]

-- ---- the rights

as_rights : (base : Rights) (bits : ℕ) → base.0 ≡ bits → base ≡ record { 0 = bits }
as_rights base bits e = ap (λ (n : ℕ). let rights : Rights = record { 0 = n } in rights) e

both_true : (a b : Bool) → a ≡ true → b ≡ true → (a && b) ≡ true
both_true a b h k = ap (λ x. x && b) h ∙ k

-- the descriptor is lowered to the rights that are asked of those that it has
pub lowered_is : (table new : Table) (fd : ℕ) (stat : FdStat) (d : Descriptor) (base inheriting : Rights) (low : Bool) → get table fd ≡ Some d
    → base.0 ≡ meet_of d.base.0 stat.base.0 → inheriting.0 ≡ meet_of d.inheriting.0 stat.inheriting.0
    → low ≡ holds_all (get table fd) base inheriting → (IsTrue low → new ≡ lowered table fd base inheriting) → new ≡ insert table fd (lowered_to d stat)
lowered_is table new fd stat d base inheriting low there first second held sets =
    let within = lowered_within d stat in
    let bases : has_all d.base.0 base.0 ≡ true = ap (has_all d.base.0) first ∙ within.1 in
    let inherits : has_all d.inheriting.0 inheriting.0 ≡ true = ap (has_all d.inheriting.0) second ∙ within.2 in
    let lower : low ≡ true = held ∙ ap (λ (o : Option Descriptor). holds_all o base inheriting) there ∙ both_true _ _ bases inherits in
    sets lower ∙ ap (λ (o : Option Descriptor). lowered_at o table fd base inheriting) there
    ∙ (λ i. insert table fd (record d { base = as_rights base _ first i; inheriting = as_rights inheriting _ second i }))
