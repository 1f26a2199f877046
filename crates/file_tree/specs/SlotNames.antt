-- The names of a slot.
use Rattle.std.specs.Prelude.{Option, None, Some, if◌then◌else◌}
use Rattle.tree_model.specs.Tree.{Names, is_directory_kind}
use Rattle.file_tree.specs.declared.slot.Slot.{Slot}

-- the names of a directory's slot
abbrev pub names_in_slot : Slot → Option Names
names_in_slot s = if is_directory_kind s.node.kind then Some s.names else None
