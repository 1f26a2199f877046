-- How many opens are of each node, as it is kept, and opens that are of the same node.
use Rattle.std.specs.Prelude.{◌≡◌, ◌≢◌, ℕ, Some}
use Rattle.std.specs.Ordering.{nat_cmp}
use Rattle.std.specs.FinMap.{FinMap, get}
use Rattle.abi_types.specs.declared.open_kind.OpenKind.{OpenKind}
use Rattle.maps.specs.Maps.{number}
use Rattle.tree_model.specs.Opens.{one_of_node, opens_of_node}

-- no node has the number 0: what no open is of has no entry
abbrev pub HasNoZero : FinMap nat_cmp ℕ → Type 0
HasNoZero by_node = (n : ℕ) → get by_node n ≢ Some 0

-- the number that is kept of a node is how many of these opens are of it, and a node that none is of has no entry
pub record AreCounted (kinds : FinMap nat_cmp OpenKind) (by_node : FinMap nat_cmp ℕ) : Type 0 where
  pub right : (n : ℕ) → number (get by_node n) ≡ opens_of_node kinds n
  pub no_zero : HasNoZero by_node

-- the two opens are of the same node, or neither is of one
abbrev pub IsOfSameNode : OpenKind → OpenKind → Type 0
IsOfSameNode kind other = (n : ℕ) → one_of_node n kind ≡ one_of_node n other
