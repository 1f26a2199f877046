-- What the kernel's code keeps of the opens that a launch grants.
use Rattle.std.specs.Prelude.{List}
use Rattle.std.specs.FinMap.{from_entries}
use Rattle.abi_base.specs.declared.grant.Grant.{Grant}
use Rattle.object_store.specs.Objects.{Held}
use Rattle.kernel_model.specs.Start.{first_open, numbered, granted_open}
use Rattle.tree_model.specs.Tree.{Tree}

-- the opens of the granted descriptors, each held once
abbrev pub granted_objects : Tree → List Grant → Held
granted_objects tree grants = record {
  kinds = from_entries (numbered (granted_open tree) (first_open tree) grants);
  counts = from_entries (numbered (λ _ _. 1) (first_open tree) grants);
}
