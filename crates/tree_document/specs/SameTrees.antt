-- When two trees are the same, but for the numbers and the times of their nodes.
--     kind_at t p      what a path leads to, with its bytes or its text
--     AreOfOneFile t p q      two paths lead to one file
--     IsSameTree t u      the same paths lead to the same nodes, and the same ones to one file
--     IsSameOrLacking t read      what was read is the same tree, or memory ran out
use Rattle.std.specs.Prelude.{◌≡◌, ◌↔◌, ℕ, true, Option, None, Some, is_some, Result, Ok, Err}
use Rattle.std.specs.FinMap.{get}
use Rattle.lists.specs.Options.{◌>>=◌}
use Rattle.lists.specs.declared.stop.Stop.{Stop}
use Rattle.lists.specs.declared.stop.Stop.TheVariants.{Memory}
use Rattle.abi_types.specs.declared.node.Node.{Node}
use Rattle.abi_types.specs.declared.node.NodeKind.{NodeKind}
use Rattle.tree_model.specs.declared.limits.TheConstants.{ROOT}
use Rattle.tree_model.specs.Changes.{is_file}
use Rattle.tree_model.specs.Tree.{Tree}
use Rattle.tree_records.specs.Paths.{Path}
use Rattle.tree_document.specs.declared.fault.TreeDocFault.{TreeDocFault}
use Rattle.tree_document.specs.Building.{node_at}

abbrev pub kind_in : Option Node → Option NodeKind
kind_in None = None
kind_in (Some node) = Some node.kind

abbrev pub kind_of : Tree → ℕ → Option NodeKind
kind_of t n = kind_in (get t.nodes n)

-- the kind of the node that a path leads to, with the bytes of a file and the text of a symlink
abbrev pub kind_at : Tree → Path → Option NodeKind
kind_at t p = node_at t ROOT p >>= λ n. kind_of t n

-- both paths lead to this file
pub record AreOfOneFile (t : Tree) (p q : Path) : Type 0 where
  pub file : ℕ
  pub is_one : is_file t file ≡ true
  pub first : node_at t ROOT p ≡ Some file
  pub second : node_at t ROOT q ≡ Some file

-- Nodes may have other numbers and other times, and a symlink with several names may be several symlinks.
pub record IsSameTree (t u : Tree) : Type 0 where
  pub leads : (p : Path) → is_some (node_at t ROOT p) ≡ is_some (node_at u ROOT p)
  pub kinds : (p : Path) → kind_at t p ≡ kind_at u p
  pub files : (p q : Path) → AreOfOneFile t p q ↔ AreOfOneFile u p q

-- what was read is the same tree, or nothing was read since memory ran out
abbrev pub IsSameOrLacking : Tree → Result Tree (Stop TreeDocFault) → Type 0
IsSameOrLacking t (Ok u) = IsSameTree t u
IsSameOrLacking t (Err stop) = stop ≡ Memory
