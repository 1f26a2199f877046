-- What is known while the nodes of a file tree are met, from its root on.
--     unmet t met      the nodes that were not met
--     IsAmong ns n      the number is among these
--     IsClosed t met left      each name in a directory that was met is of a node that was met, but for these directories
--     AreCounted t walk      what was counted so far, and what is not met, are all
--     Grows t before after      more was met
--     NamesMet t d before place after      and so many names of a directory
--     IsGoing t walk      the root was met, and some directories are left
use Rattle.std.specs.Prelude.{◌≡◌, ℕ, ◌+◌, ◌*◌, ◌<◌, ◌≤◌, ◌⊎◌, not, is_some, IsSome, Some, List, [], ◌∷◌, ◌++◌, length, slice_get}
use Rattle.std.specs.Ordering.{nat_cmp}
use Rattle.std.specs.FinMap.{FinMap, entries, get, len, retain_keys}
use Rattle.abi_types.specs.declared.node.Node.{Node}
use Rattle.maps.specs.Maps.{total}
use Rattle.tree_model.specs.declared.limits.TheConstants.{ROOT}
use Rattle.tree_model.specs.Tree.{HasName, IsTree, Tree, names_of}
use Rattle.run_report.specs.TreeSizes.{bytes_count, files_count, named_bytes, named_file}
use Rattle.run_report.specs.declared.tree_sizes.Walk.{Walk}

-- the nodes that were not met
abbrev pub unmet : {X : Type 0} → Tree → FinMap nat_cmp X → FinMap nat_cmp Node
unmet t met = retain_keys t.nodes (λ q. not (is_some (get met q)))

-- the number is among these
abbrev pub IsAmong : List ℕ → ℕ → Type 0
IsAmong [] n = ⊥
IsAmong (m ∷ ms) n = (m ≡ n) ⊎ IsAmong ms n

-- each name in a directory that was met is of a node that was met, but for these directories
abbrev pub IsClosed : {X : Type 0} → Tree → FinMap nat_cmp X → List ℕ → Type 0
IsClosed t met left = (d : ℕ) (name : List ℕ) (n : ℕ) → IsSome (get met d) → HasName t d name n → IsSome (get met n) ⊎ IsAmong left d

-- what was counted so far, and what is not met, are all
pub record AreCounted (t : Tree) (walk : Walk) : Type 0 where
  pub files : walk.files + total named_file (unmet t walk.met) ≡ files_count t
  pub bytes : walk.bytes + total named_bytes (unmet t walk.met) ≡ bytes_count t

-- a step meets a node, or is done with a directory
abbrev pub steps_left : Tree → Walk → ℕ
steps_left t walk = 2 * len (unmet t walk.met) + length walk.left.items

-- more was met, and what was known is known of it
pub record Grows (t : Tree) (before after : Walk) : Type 0 where
  pub met : (n : ℕ) → IsSome (get before.met n) → IsSome (get after.met n)
  pub counted : AreCounted t before → AreCounted t after
  pub closed : (more : List ℕ) → IsClosed t before.met (more ++ before.left.items) → IsClosed t after.met (more ++ after.left.items)
  pub fewer : steps_left t after ≤ steps_left t before

-- more was met, and each name among the first of a directory, so many
pub record NamesMet (t : Tree) (d : ℕ) (before : Walk) (place : ℕ) (after : Walk) : Type 0 where
  pub grows : Grows t before after
  pub names : (k : ℕ) (name : List ℕ) (n : ℕ) → k < place → slice_get (entries (names_of t d)) k ≡ Some (name, n) → IsSome (get after.met n)

-- the root was met, what was met is counted, and the names in each directory that was met were, but for those that are left
pub record IsGoing (t : Tree) (walk : Walk) : Type 0 where
  pub tree : IsTree t
  pub root : IsSome (get walk.met ROOT)
  pub counted : AreCounted t walk
  pub closed : IsClosed t walk.met walk.left.items
