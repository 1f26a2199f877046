-- What a file tree is, and when it is a tree.
--     Tree      nodes by number, and in each directory its names
--     entry_of t d name      the node of a name in a directory
--     names_count t n      how many names a node has
--     below t d      what is below a directory, and itself
--     IsTree      names lead from directories to nodes, counts are right, a directory has one name, and there is no cycle
use Rattle.std.specs.Prelude.{◌≡◌, ◌↔◌, ℕ, ◌+◌, ◌<◌, ◌≤◌, ◌==◌, nat_lt, Bool, true, false, List, [], ◌∷◌, Option, None, Some, IsSome, if◌then◌else◌, refl}
use Rattle.std.specs.Cmp.Lexicographic.{slice_cmp}
use Rattle.std.specs.Ordering.{nat_cmp}
use Rattle.std.specs.Coded.{Coded, code_by, coded×, coded_list, coded_ℕ}
use Rattle.std.specs.FinMap.{FinMap, code, empty, get}
use Rattle.abi_types.specs.declared.node.Node.{Node}
use Rattle.abi_types.specs.declared.node.NodeKind.{NodeKind}
use Rattle.abi_types.specs.declared.node.NodeKind.TheVariants as kind
use Rattle.abi_types.specs.contracts.node.Node as node
use Rattle.maps.specs.Closure.{closure}
use Rattle.maps.specs.Maps.{total}
use Rattle.maps.specs.Names as name_map
use Rattle.tree_model.specs.declared.limits.TheConstants.{ROOT}

-- the names in a directory, in the order of their bytes, each with the number of its node
abbrev pub Names : Type 0
Names = FinMap (slice_cmp nat_cmp) ℕ

-- the nodes of a tree, and for each directory its names
pub record Tree : Type 0 where
  pub nodes : FinMap nat_cmp Node
  pub names : FinMap nat_cmp Names

-- ---- what is there

abbrev pub is_directory_kind : NodeKind → Bool
is_directory_kind (kind.File bytes) = false
is_directory_kind kind.Directory = true
is_directory_kind (kind.Link text) = false

abbrev pub is_directory_node : Option Node → Bool
is_directory_node None = false
is_directory_node (Some node) = is_directory_kind node.kind

-- whether the number is a directory's
abbrev pub is_directory : Tree → ℕ → Bool
is_directory t d = is_directory_node (get t.nodes d)

-- how many names the node counts, and 0 where there is none
abbrev pub links_in : Option Node → ℕ
links_in None = 0
links_in (Some node) = node.links

abbrev pub links_of : Tree → ℕ → ℕ
links_of t n = links_in (get t.nodes n)

-- the names, none where there is no directory
abbrev pub names_in : Option Names → Names
names_in None = empty
names_in (Some names) = names

-- the names in the directory
abbrev pub names_of : Tree → ℕ → Names
names_of t d = names_in (get t.names d)

-- the node of this name in the directory
abbrev pub entry_of : Tree → ℕ → List ℕ → Option ℕ
entry_of t d name = get (names_of t d) name

-- the directory d has this name, of the node n
abbrev pub HasName : Tree → ℕ → List ℕ → ℕ → Type 0
HasName t d name n = entry_of t d name ≡ Some n

-- ---- how many names a node has

-- 1 for the node itself, 0 for another one
abbrev pub one_for : ℕ → ℕ → ℕ
one_for n m = if m == n then 1 else 0

-- how many of these names are the node's
unfoldable pub count_in : ℕ → Names → ℕ
count_in n names = name_map.total (one_for n) names

-- how many names the node has in the whole tree
abbrev pub names_count : Tree → ℕ → ℕ
names_count t n = total (count_in n) t.names

-- ---- what is below a directory

-- whether one of these names is the node's
abbrev pub has_node : ℕ → Option Names → Bool
has_node n None = false
has_node n (Some names) = nat_lt 0 (count_in n names)

-- whether one of these directories has a name of the node
abbrev pub leads : Tree → List ℕ → ℕ → Bool
leads t [] n = false
leads t (d ∷ ds) n = if has_node n (get t.names d) then true else leads t ds n

-- the directory, and each node to which names lead from it, one after another
unfoldable pub below : Tree → ℕ → List ℕ
below t d = closure (leads t) t.nodes (d ∷ [])

-- ---- when it is a tree

-- Each node has a height that is greater than that of each directory with a name of it. So no chain of names leads back to
-- where it began.
pub record HasNoCycle (t : Tree) : Type 0 where
  pub height : ℕ → ℕ
  pub rises : (d : ℕ) (name : List ℕ) (n : ℕ) → HasName t d name n → height d < height n

pub record IsTree (t : Tree) : Type 0 where
  -- the root is a directory
  pub root : is_directory t ROOT ≡ true
  -- what is a directory has names, though there may be none in it, and nothing else has
  pub directories : (d : ℕ) → IsSome (get t.names d) ↔ (is_directory t d ≡ true)
  -- the node of a name is there
  pub led : (d : ℕ) (name : List ℕ) (n : ℕ) → HasName t d name n → IsSome (get t.nodes n)
  -- a node counts its names, and the root counts one that no directory has
  pub counted : (n : ℕ) (node : Node) → get t.nodes n ≡ Some node → node.links ≡ names_count t n + one_for ROOT n
  -- a directory has at most one name, the root none
  pub single : (d : ℕ) → is_directory t d ≡ true → links_of t d ≤ 1
  -- a directory without a name has no names in it
  pub bare : (d : ℕ) → is_directory t d ≡ true → links_of t d ≡ 0 → names_of t d ≡ empty
  pub acyclic : HasNoCycle t

abbrev pub tree_code : Coded Tree
tree_code =
    code_by (FinMap nat_cmp Node × FinMap nat_cmp Names) (coded× (code coded_ℕ node.the_row.coded) (code coded_ℕ (code (coded_list coded_ℕ) coded_ℕ)))
    (λ t. (t.nodes, t.names)) (λ p. record { nodes = p.0; names = p.1 }) (λ _. refl)
