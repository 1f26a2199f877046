-- A change of descriptors leaves each node as much used as it was: an open that becomes another stays of its node.
use Rattle.std.proofs.Common.{◌≡◌, ℕ, ◌==◌, List, Option, Some, None, refl}
use Rattle.std.specs.Prelude.{bit_and}
use Rattle.std.specs.Ordering.{nat_cmp}
use Rattle.std.specs.FinMap.{FinMap, get, insert}
use Rattle.abi_structures.specs.declared.structures.FdStat.{FdStat}
use Rattle.abi_types.specs.declared.descriptor.Descriptor.{Descriptor}
use Rattle.abi_types.specs.declared.open_kind.OpenKind.{OpenKind}
use Rattle.abi_types.specs.declared.open_kind.OpenKind.TheVariants.{File, Directory, End, Terminal, Process}
use Rattle.tree_model.specs.Opens.{is_used, one_of_node}
use Rattle.tree_model.specs.Releasing.{used-set}
use Rattle.tree_model.specs.Tree.{Tree}
use Rattle.kernel_model.specs.Families.DescriptorCalls.{dup_at, dup_of, lowered_to, lowest_free, replaced_by, stat_set, with_flags}
use Rattle.kernel_model.specs.State.{Table, Update, set_open, set_table}
use Rattle.kernel_model.proofs.DescriptorCalls.{either_set}
use Rattle.kernel_parts.specs.Changes.{change_outcome, opens_after, stat_put_at}
use Rattle.abi_types.specs.declared.family.DescriptorChange.{DescriptorChange}
use Rattle.abi_types.specs.declared.family.DescriptorChange.TheVariants.{Close, Dup, Replace, StatPut}

-- an open with other flags is of the same node
pub same_node : (kind : OpenKind) (flags n : ℕ) → one_of_node n (with_flags kind flags) ≡ one_of_node n kind
same_node (File node offset old) flags n = refl
same_node (Directory node old) flags n = refl
same_node (End reads writes old form) flags n = refl
same_node (Terminal which old) flags n = refl
same_node (Process p object) flags n = refl

module _ (p : ℕ) (opens : FinMap nat_cmp OpenKind) (table : Table) (t : Tree) (n : ℕ) where
  -- the node is as much used with the opens after these updates
  abbrev pub KeepsUse : List Update → Type 0
  KeepsUse us = is_used (opens_after opens us) t n ≡ is_used opens t n

  dup_at_use : (d : Descriptor) (number : Option ℕ) → KeepsUse (dup_at p table d number).updates
  dup_at_use d None = refl
  dup_at_use d (Some number) = refl

  dup_use : (o : Option Descriptor) → KeepsUse (dup_of p table o).updates
  dup_use None = refl
  dup_use (Some d) = dup_at_use d (lowest_free table)

  replaced_use : (to : ℕ) (o : Option Descriptor) → KeepsUse (replaced_by p table to o).updates
  replaced_use to None = refl
  replaced_use to (Some d) = refl

  stat_set_use : (fd : ℕ) (stat : FdStat) (flags : ℕ) (d : Descriptor) (o : Option OpenKind) → get opens d.id ≡ o
      → KeepsUse (stat_set p table fd stat flags d o).updates
  stat_set_use fd stat flags d None there = refl
  stat_set_use fd stat flags d (Some kind) there =
      let set = used-set opens d.id kind (with_flags kind stat.flags) t n there (same_node kind stat.flags) in
      either_set KeepsUse (bit_and flags 1 == 0) (bit_and flags 2 == 0) (set_open d.id (with_flags kind stat.flags))
      (set_table p (insert table fd (lowered_to d stat))) refl set refl set

  stat_put_use : (fd : ℕ) (stat : FdStat) (flags : ℕ) (o : Option Descriptor) → KeepsUse (stat_put_at p opens table fd stat flags o).updates
  stat_put_use fd stat flags None = refl
  stat_put_use fd stat flags (Some d) = stat_set_use fd stat flags d (get opens d.id) refl

  pub change_use : (change : DescriptorChange) → KeepsUse (change_outcome p opens table change).updates
  change_use (Close fd) = refl
  change_use (Dup fd) = dup_use (get table fd)
  change_use (Replace from to) = replaced_use to (get table from)
  change_use (StatPut fd stat flags) = stat_put_use fd stat flags (get table fd)
