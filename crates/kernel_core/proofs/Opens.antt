-- What was found by a number of a descriptor.
--     open_found      a process's table, its descriptor and the open
--     open_absent      where nothing is found there is no open
--     found_named, found_kind, found_here      by the table that a process has
use Rattle.std.proofs.Common.{◌≡◌, ℕ, Option, None, Some, refl, sym, ap, subst, ◌∙◌}
use Rattle.std.specs.Ordering.{nat_cmp}
use Rattle.std.specs.FinMap.{FinMap, get}
use Rattle.std.specs.Option.{option_map}
use Rattle.abi_types.specs.declared.descriptor.Descriptor.{Descriptor}
use Rattle.abi_types.specs.declared.open_kind.OpenKind.{OpenKind}
use Rattle.kernel_model.specs.State.{State, Table}
use Rattle.kernel_model.proofs.Tests.{none_is_no, same_some}
use Rattle.kernel_model.proofs.Valids.{same_value}
use Rattle.kernel_parts.specs.Entries.{open_by, open_in, open_with}

-- a descriptor with its open
abbrev Held : Type 0
Held = Descriptor × OpenKind

paired : (held d : Descriptor) (o : Option OpenKind) (kind : OpenKind) → option_map {U = Held} (λ (k : OpenKind). (held, k)) o ≡ Some (d, kind) → (held ≡ d) × (o ≡ Some kind)
paired held d None kind is = absurd (none_is_no (d, kind) is)
paired held d (Some k) kind is =
    let both : (held, k) ≡ (d, kind) = same_some (held, k) (d, kind) is in
    (ap (λ (h : Held). h.0) both, ap (λ (h : Held). Some h.1) both)

found_by : (opens : FinMap nat_cmp OpenKind) (o : Option Descriptor) (d : Descriptor) (kind : OpenKind) → open_by opens o ≡ Some (d, kind)
    → (o ≡ Some d) × (get opens d.id ≡ Some kind)
found_by opens None d kind is = absurd (none_is_no (d, kind) is)
found_by opens (Some held) d kind is =
    let both = paired held d (get opens held.id) kind is in
    (ap Some both.0, subst (λ (x : Descriptor). get opens x.id ≡ Some kind) both.0 both.1)

-- that is found: a table, a descriptor in it and its open
pub record IsFound (opens : FinMap nat_cmp OpenKind) (t : Option Table) (fd : ℕ) (d : Descriptor) (kind : OpenKind) : Type 0 where
  pub table : Table
  pub there : t ≡ Some table
  pub named : get table fd ≡ Some d
  pub opened : get opens d.id ≡ Some kind

pub open_found : (opens : FinMap nat_cmp OpenKind) (t : Option Table) (fd : ℕ) (d : Descriptor) (kind : OpenKind) → open_with opens t fd ≡ Some (d, kind)
    → IsFound opens t fd d kind
open_found opens None fd d kind is = absurd (none_is_no (d, kind) is)
open_found opens (Some table) fd d kind is =
    let both = found_by opens (get table fd) d kind is in record { table = table; there = refl; named = both.0; opened = both.1 }

unpaired : (held : Descriptor) (o : Option OpenKind) → option_map {U = Held} (λ (k : OpenKind). (held, k)) o ≡ None → o ≡ None
unpaired held None is = refl
unpaired held (Some k) is = absurd (none_is_no (held, k) (sym is))

absent_by : (opens : FinMap nat_cmp OpenKind) (o : Option Descriptor) → open_by opens o ≡ None → open_in opens o ≡ None
absent_by opens None is = refl
absent_by opens (Some d) is = unpaired d (get opens d.id) is

pub open_absent : (opens : FinMap nat_cmp OpenKind) (t : Option Table) (table : Table) (fd : ℕ) → t ≡ Some table → open_with opens t fd ≡ None
    → open_in opens (get table fd) ≡ None
open_absent opens t table fd there none = absent_by opens (get table fd) (ap (λ x. open_with opens x fd) (sym there) ∙ none)

-- what was found is found by the table that a process has
module _ (S : State) (p fd : ℕ) (d : Descriptor) (kind : OpenKind) (found : IsFound S.opens (get S.tables p) fd d kind) (table : Table)
    (there : get S.tables p ≡ Some table) where
  pub found_named : get table fd ≡ Some d
  found_named = ap (λ (t : Table). get t fd) (sym (same_value _ _ _ found.there there)) ∙ found.named

  pub found_kind : open_in S.opens (get table fd) ≡ Some kind
  found_kind = ap (open_in S.opens) found_named ∙ found.opened

-- the open that was found is that of the number in the process's table
pub found_here : (S : State) (p fd : ℕ) (table : Table) (result : Option (Descriptor × OpenKind)) (d : Descriptor) (kind : OpenKind) → get S.tables p ≡ Some table
    → result ≡ open_with S.opens (get S.tables p) fd → result ≡ Some (d, kind) → Some kind ≡ open_in S.opens (get table fd)
found_here S p fd table result d kind there of is =
    sym (found_kind S p fd d kind (open_found S.opens (get S.tables p) fd d kind (sym of ∙ is)) table there)
