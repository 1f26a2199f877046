-- Which opens are of a node, and which nodes are used.
--     one_of_node n kind      1 where the open is of the node, else 0
--     opens_of_node kinds n      how many of these opens are of the node
--     is_used kinds t n      whether the node is the root, has a name or is open
use Rattle.std.specs.Prelude.{ℕ, ◌==◌, ◌||◌, nat_lt, Bool}
use Rattle.std.specs.Ordering.{nat_cmp}
use Rattle.std.specs.FinMap.{FinMap}
use Rattle.abi_types.specs.declared.open_kind.OpenKind.{OpenKind}
use Rattle.abi_types.specs.declared.open_kind.OpenKind.TheVariants.{File, Directory}
use Rattle.maps.specs.Maps.{total}
use Rattle.tree_model.specs.declared.limits.TheConstants.{ROOT}
use Rattle.tree_model.specs.Tree.{Tree, links_of, one_for}

-- 1 where the open is of the node, else 0
abbrev pub one_of_node : ℕ → OpenKind → ℕ
one_of_node n (File node offset flags) = one_for n node
one_of_node n (Directory node flags) = one_for n node
one_of_node n _ = 0

-- how many of these opens are of the node
abbrev pub opens_of_node : FinMap nat_cmp OpenKind → ℕ → ℕ
opens_of_node kinds n = total (one_of_node n) kinds

-- whether the node is the root, has a name or is open
abbrev pub is_used : FinMap nat_cmp OpenKind → Tree → ℕ → Bool
is_used kinds t n = (n == ROOT) || (nat_lt 0 (links_of t n) || nat_lt 0 (opens_of_node kinds n))
