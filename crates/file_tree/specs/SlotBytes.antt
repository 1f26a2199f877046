-- A file's slot with other bytes.
use Rattle.std.specs.Prelude.{ℕ, List}
use Rattle.abi_types.specs.declared.node.NodeKind.TheVariants as kind
use Rattle.file_tree.specs.declared.slot.Slot.{Slot}

abbrev pub with_file : Slot → List ℕ → Slot
with_file s bytes = record s { node = record s.node { kind = kind.File bytes } }
