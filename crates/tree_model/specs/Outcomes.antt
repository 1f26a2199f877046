-- What each change makes of a tree, for a reader: which names and which nodes came, went and stayed.
--     made-name, made-other_names, made-node, made-other_nodes      after a new node with its first name
--     linked-name, linked-other_names, linked-node, linked-other_nodes      after one more name of a node
--     unlinked-name, unlinked-other_names, unlinked-node, unlinked-other_nodes      after a name goes
--     with_bytes-names, with_bytes-bytes, with_bytes-other_nodes      after a file has other bytes
--     with_times-names, with_times-bytes, with_times-other_nodes      after a node has other times
--     forgotten-names, forgotten-node, forgotten-other_nodes      after a node without a name goes
--     linked-counts, unlinked-counts      how many names each node counts
use Rattle.std.proofs.Common.{◌≡◌, ◌≢◌, ℕ, ◌+◌, ◌-◌, true, List, Option, None, Some, IsSome, refl, ap, ◌∙◌}
use Rattle.std.proofs.lemmas.Bool.{false≢true}
use Rattle.std.specs.Option.{option_map}
use Rattle.std.specs.FinMap.{get}
use Rattle.abi_types.specs.declared.node.Node.{Node}
use Rattle.abi_types.specs.declared.node.NodeKind.TheVariants as kind
use Rattle.abi_types.specs.declared.node.Times.{Times}
use Rattle.maps.specs.Maps.{get-remove-same, get-remove-other}
use Rattle.tree_model.specs.Tree.{Tree, HasName, IsTree, entry_of, links_of, one_for}
use Rattle.tree_model.specs.Changes.{bytes_in, bytes_of, forgotten, is_absent, is_file, is_file_node, linked, made, new_node, one_more, unlinked, with_bytes, with_count, with_times, without_old}
use Rattle.tree_model.specs.Entries.{IsElsewhere, entry_of-changed, entry_of-drop_name-other, entry_of-drop_name-same, entry_of-new_node, entry_of-put_name-other, entry_of-put_name-same, entry_of-without_old, get-new_node-other, get-new_node-same, one_less-changes, one_more-changes, with_bytes-changes, with_times-changes}
use Rattle.tree_model.specs.Counts.{links_of-one_less, links_of-one_more}
use Rattle.tree_model.specs.Facts.{absent, absent_no_directory, links_of_named, no_names_in}
use Rattle.tree_model.specs.Keeps.{forgotten_names}

-- ---- make

module _ (t : Tree) (d : ℕ) (name : List ℕ) (n : ℕ) (node : Node) where
  pub made-name : entry_of (made t d name n node) d name ≡ Some n
  made-name = entry_of-put_name-same (new_node t n node) d name n

  -- each other name is as it was; the new node, if it is a directory, has none in it
  pub made-other_names : IsTree t → is_absent t n ≡ true → (d' : ℕ) (name' : List ℕ) → IsElsewhere d name d' name'
      → entry_of (made t d name n node) d' name' ≡ entry_of t d' name'
  made-other_names tree new d' name' away =
      entry_of-put_name-other (new_node t n node) d name n d' name' away
      ∙ entry_of-new_node t n node (no_names_in t tree n (absent_no_directory t n (absent t n new))) d' name'

  pub made-node : get (made t d name n node).nodes n ≡ Some (with_count node 1)
  made-node = get-new_node-same t n node

  pub made-other_nodes : (q : ℕ) → q ≢ n → get (made t d name n node).nodes q ≡ get t.nodes q
  made-other_nodes q other = get-new_node-other t n node q other

-- ---- link

module _ (t : Tree) (d : ℕ) (name : List ℕ) (n : ℕ) where
  pub linked-name : entry_of (linked t d name n) d name ≡ Some n
  linked-name = entry_of-put_name-same (one_more t n) d name n

  pub linked-other_names : (d' : ℕ) (name' : List ℕ) → IsElsewhere d name d' name' → entry_of (linked t d name n) d' name' ≡ entry_of t d' name'
  linked-other_names d' name' away =
      entry_of-put_name-other (one_more t n) d name n d' name' away ∙ entry_of-changed t (one_more t n) n _ (one_more-changes t n) d' name'

  -- the node counts one name more
  pub linked-node : get (linked t d name n).nodes n ≡ option_map (λ node. with_count node (node.links + 1)) (get t.nodes n)
  linked-node = (one_more-changes t n).node

  pub linked-other_nodes : (q : ℕ) → q ≢ n → get (linked t d name n).nodes q ≡ get t.nodes q
  linked-other_nodes q other = (one_more-changes t n).others q other

  pub linked-counts : IsSome (get t.nodes n) → (q : ℕ) → links_of (linked t d name n) q ≡ links_of t q + one_for q n
  linked-counts there q = links_of-one_more t n there q

-- ---- unlink

module _ (t : Tree) (d : ℕ) (name : List ℕ) where
  pub unlinked-name : entry_of (unlinked t d name) d name ≡ None
  unlinked-name = entry_of-drop_name-same (without_old t (entry_of t d name)) d name

  pub unlinked-other_names : (d' : ℕ) (name' : List ℕ) → IsElsewhere d name d' name' → entry_of (unlinked t d name) d' name' ≡ entry_of t d' name'
  unlinked-other_names d' name' away =
      entry_of-drop_name-other (without_old t (entry_of t d name)) d name d' name' away
      ∙ entry_of-without_old t (entry_of t d name) d' name'

  -- the node of the name counts one name less
  pub unlinked-node : (n : ℕ) → HasName t d name n
      → get (unlinked t d name).nodes n ≡ option_map (λ node. with_count node (node.links - 1)) (get t.nodes n)
  unlinked-node n h = ap (λ o. get (without_old t o).nodes n) h ∙ (one_less-changes t n).node

  pub unlinked-other_nodes : (n : ℕ) → HasName t d name n → (q : ℕ) → q ≢ n → get (unlinked t d name).nodes q ≡ get t.nodes q
  unlinked-other_nodes n h q other = ap (λ o. get (without_old t o).nodes q) h ∙ (one_less-changes t n).others q other

  pub unlinked-counts : IsTree t → (n : ℕ) → HasName t d name n → (q : ℕ) → links_of (unlinked t d name) q + one_for q n ≡ links_of t q
  unlinked-counts tree n h q =
      ap (λ o. links_of (without_old t o) q + one_for q n) h ∙ links_of-one_less t n (links_of_named t tree d name n h) q

-- ---- other bytes, other times

bytes_of-file : (bytes : List ℕ) (o : Option Node) → is_file_node o ≡ true → bytes_in (option_map {T = Node} (λ node. record node { kind = kind.File bytes }) o) ≡ bytes
bytes_of-file bytes None e = absurd (false≢true e)
bytes_of-file bytes (Some node) e = refl

bytes_of-timed : (times : Times) (o : Option Node) → bytes_in (option_map {T = Node} (λ node. record node { times = times }) o) ≡ bytes_in o
bytes_of-timed times None = refl
bytes_of-timed times (Some node) = refl

module _ (t : Tree) (n : ℕ) where
  pub with_bytes-names : (bytes : List ℕ) (d : ℕ) (name : List ℕ) → entry_of (with_bytes t n bytes) d name ≡ entry_of t d name
  with_bytes-names bytes = entry_of-changed t (with_bytes t n bytes) n _ (with_bytes-changes t n bytes)

  pub with_bytes-bytes : (bytes : List ℕ) → is_file t n ≡ true → bytes_of (with_bytes t n bytes) n ≡ bytes
  with_bytes-bytes bytes file = ap bytes_in (with_bytes-changes t n bytes).node ∙ bytes_of-file bytes (get t.nodes n) file

  pub with_bytes-other_nodes : (bytes : List ℕ) (q : ℕ) → q ≢ n → get (with_bytes t n bytes).nodes q ≡ get t.nodes q
  with_bytes-other_nodes bytes q other = (with_bytes-changes t n bytes).others q other

  pub with_times-names : (times : Times) (d : ℕ) (name : List ℕ) → entry_of (with_times t n times) d name ≡ entry_of t d name
  with_times-names times = entry_of-changed t (with_times t n times) n _ (with_times-changes t n times)

  pub with_times-bytes : (times : Times) → bytes_of (with_times t n times) n ≡ bytes_of t n
  with_times-bytes times = ap bytes_in (with_times-changes t n times).node ∙ bytes_of-timed times (get t.nodes n)

  pub with_times-other_nodes : (times : Times) (q : ℕ) → q ≢ n → get (with_times t n times).nodes q ≡ get t.nodes q
  with_times-other_nodes times q other = (with_times-changes t n times).others q other

  -- ---- a node without a name goes

  pub forgotten-names : IsTree t → links_of t n ≡ 0 → (d : ℕ) (name : List ℕ) → entry_of (forgotten t n) d name ≡ entry_of t d name
  forgotten-names tree nameless d name = ap (λ names. get names name) (forgotten_names t n tree nameless d)

  pub forgotten-node : get (forgotten t n).nodes n ≡ None
  forgotten-node = get-remove-same t.nodes n

  pub forgotten-other_nodes : (q : ℕ) → q ≢ n → get (forgotten t n).nodes q ≡ get t.nodes q
  forgotten-other_nodes q other = get-remove-other t.nodes n q other
