-- A launch may begin with the tree of a document.
use Rattle.std.proofs.Common.{◌≡◌, ℕ, ◌+◌, ◌^◌, ◌<◌, ◌≤◌, true, List, [], ◌∷◌, length, Option, None, Some, IsSome, is_none, is_some, Ok, inl, inr, refl, sym, ap, subst, ◌∙◌, arith}
use Rattle.std.specs.FinMap.{empty, get, len, get-empty, len-empty}
use Rattle.std.specs.Ordering.{nat_cmp}
use Rattle.std.proofs.lemmas.Bool.{false≢true}
use Rattle.std.proofs.lemmas.Bool.Decides.{eqb_tells}
use Rattle.maps.specs.Closure.{len_same}
use Rattle.maps.specs.Maps.{get-insert-other, len-insert_new}
use Rattle.abi_types.specs.declared.node.Node.{Node}
use Rattle.abi_types.specs.declared.node.NodeKind.{NodeKind}
use Rattle.abi_types.specs.declared.node.Times.{Times}
use Rattle.tree_model.specs.declared.limits.TheConstants.{ROOT}
use Rattle.tree_model.specs.Tree.{Tree, IsTree, links_of}
use Rattle.tree_model.specs.Changes.{first_fault, is_absent, link_faults, linked, made, make_faults, one_more, with_count}
use Rattle.tree_model.specs.Entries.{KeepsNodes-one_more, get-new_node-other, here_or_other}
use Rattle.tree_model.specs.Counts.{links_of-new_node-other, links_of-new_node-same, links_of-one_more}
use Rattle.tree_model.specs.Facts.{absent, links_of_root}
use Rattle.tree_model.specs.Faults.{can_link}
use Rattle.tree_model.specs.Grants.{IsStartTree}
use Rattle.tree_model.specs.Keeps.{linked-tree, made-tree}
use Rattle.tree_model.specs.Start.{root_node, root_tree, root_tree-tree}
use Rattle.tree_records.specs.Paths.{name_of, parent}
use Rattle.tree_records.specs.Records.{Record, dir, file, link, hard}
use Rattle.tree_document.specs.Building.{IsAllowed, IsLinkPlaceIn, IsPlaceIn, Making, node_at, node_of, start, with_name_in, with_node_in, with_record}
use Rattle.tree_document.specs.Documents.{AreAllowed, Means, with_records}
use Rattle.tree_document.specs.Meaning.{meaning}
use Rattle.tree_document.proofs.Computed.{means_from}
use Rattle.tree_document.proofs.Documents.{next_records}

-- A tree, each node of which has a name, the root aside, which counts one. Its nodes have the numbers from the root's up to the
-- next one, and no number is left out.
pub record IsFilled (t : Tree) (next : ℕ) : Type 0 where
  pub tree : IsTree t
  pub named : (n : ℕ) → IsSome (get t.nodes n) → 1 ≤ links_of t n
  pub numbered : (n : ℕ) → IsSome (get t.nodes n) → (ROOT ≤ n) × (n < next)
  pub counted : next ≡ ROOT + len t.nodes

-- the numbers from the next one on are no nodes'
pub filled_absent : (t : Tree) (next n : ℕ) → IsFilled t next → next ≤ n → is_absent t n ≡ true
filled_absent t next n h far =
    elim (get t.nodes n) as (λ o. get t.nodes n ≡ o → is_none o ≡ true) [
      | None ↦ λ _. refl
      | Some node ↦ λ there. let near = h.numbered n (ap is_some there) in absurd (omega (arith, near.1))
    ] refl

-- ---- the root alone

module _ (times : Times) where
  pub root_only : (n : ℕ) → IsSome (get (root_tree times).nodes n) → n ≡ ROOT
  root_only n there =
      elim (eqb_tells n ROOT) [
        | inl is ↦ is.1
        | inr is ↦ absurd (false≢true (sym (ap is_some (get-insert-other empty ROOT (root_node times) n is.1 ∙ get-empty nat_cmp n)) ∙ there))
      ]

  pub root_filled : IsFilled (root_tree times) (ROOT + 1)
  root_filled = record {
    tree = root_tree-tree times;
    named = λ n there.
        let one = ap (links_of (root_tree times)) (root_only n there) ∙ links_of_root (root_tree times) (root_tree-tree times) in
        omega arith;
    numbered = λ n there. let is = root_only n there in (omega arith, omega arith);
    counted =
        let one = len-insert_new empty ROOT (root_node times) (get-empty nat_cmp ROOT) in
        let none = len-empty nat_cmp Node in
        omega arith;
  }

-- ---- a new node

module _ (t : Tree) (d : ℕ) (name : List ℕ) (next : ℕ) (node : Node) (h : IsFilled t next) where
  made_there : (n : ℕ) → (n ≡ next → ⊥) → IsSome (get (made t d name next node).nodes n) → IsSome (get t.nodes n)
  made_there n other there = sym (ap is_some (get-new_node-other t next node n other)) ∙ there

  made_named : (n : ℕ) → IsSome (get (made t d name next node).nodes n) → 1 ≤ links_of (made t d name next node) n
  made_named n =
      here_or_other (λ x. IsSome (get (made t d name next node).nodes x) → 1 ≤ links_of (made t d name next node) x) next n
      (λ _. let one = links_of-new_node-same t next node in omega arith)
      (λ other there.
      let kept = links_of-new_node-other t next node n other in
      let some = h.named n (made_there n other there) in
      omega arith)

  made_numbered : (n : ℕ) → IsSome (get (made t d name next node).nodes n) → (ROOT ≤ n) × (n < next + 1)
  made_numbered n =
      here_or_other (λ x. IsSome (get (made t d name next node).nodes x) → (ROOT ≤ x) × (x < next + 1)) next n
      (λ _. let size = h.counted in (omega arith, omega arith))
      (λ other there. let within = h.numbered n (made_there n other there) in (within.0, omega (arith, within.1)))

  pub made_filled : first_fault (make_faults t d name) ≡ None → IsFilled (made t d name next node) (next + 1)
  made_filled free =
      let new = filled_absent t next next h (omega arith) in
      record {
        tree = made-tree t d name next node h.tree free new;
        named = made_named;
        numbered = made_numbered;
        counted =
            let one = len-insert_new t.nodes next (with_count node 1) (absent t next new) in
            let size = h.counted in
            omega arith;
      }

-- ---- one more name

pub linked_filled : (t : Tree) (d : ℕ) (name : List ℕ) (n next : ℕ) → IsFilled t next → first_fault (link_faults t d name n) ≡ None
    → IsFilled (linked t d name n) next
linked_filled t d name n next h free =
    let keeps = KeepsNodes-one_more t n in
    record {
      tree = linked-tree t d name n h.tree free;
      named = λ q there.
          let sums = links_of-one_more t n (can_link t d name n free).there q in
          let some = h.named q (sym (keeps.nodes q) ∙ there) in
          omega arith;
      numbered = λ q there. h.numbered q (sym (keeps.nodes q) ∙ there);
      counted = h.counted ∙ ap (λ k. ROOT + k) (len_same t.nodes (one_more t n).nodes (λ q. sym (keeps.nodes q)));
    }

-- ---- records

abbrev pub Filled : Making → Type 0
Filled m = IsFilled m.tree m.next

node_filled : (m : Making) (name : List ℕ) (kind : NodeKind) (o : Option ℕ) → IsPlaceIn m.tree name o → Filled m → Filled (with_node_in m name kind o)
node_filled m name kind None here h = absurd here
node_filled m name kind (Some d) here h = made_filled m.tree d name m.next (node_of m.times kind) h here

name_filled : (m : Making) (name : List ℕ) (o p : Option ℕ) → IsLinkPlaceIn m.tree name o p → Filled m → Filled (with_name_in m name o p)
name_filled m name None p here h = absurd here
name_filled m name (Some d) None here h = absurd here
name_filled m name (Some d) (Some n) here h = linked_filled m.tree d name n m.next h here

pub more_filled : (m : Making) (r : Record) → IsAllowed m r → Filled m → Filled (with_record m r)
more_filled m (dir p) here h = node_filled m (name_of p) _ (node_at m.tree ROOT (parent p)) here h
more_filled m (file p bytes) here h = node_filled m (name_of p) _ (node_at m.tree ROOT (parent p)) here h
more_filled m (link p text) here h = node_filled m (name_of p) _ (node_at m.tree ROOT (parent p)) here h
more_filled m (hard p target) here h = name_filled m (name_of p) (node_at m.tree ROOT (parent p)) (node_at m.tree ROOT target) here.1 h

pub records_filled : (m : Making) (rs : List Record) → AreAllowed m rs → Filled m → Filled (with_records m rs)
records_filled m [] here h = h
records_filled m (r ∷ rs) here h = records_filled (with_record m r) rs here.2 (more_filled m r here.1 h)

-- ---- what a launch may begin with

start_from_filled : (t : Tree) (next : ℕ) → IsFilled t next → next ≤ ROOT + 2 ^ 31 → IsStartTree t
start_from_filled t next h few =
    let size = h.counted in
    record {
      tree = h.tree;
      named = h.named;
      numbered = λ n there. let within = h.numbered n there in (within.0, omega (arith, within.1));
      few = omega arith;
    }

-- the tree of a document of fewer bytes than a launch's objects may be
pub means_start : (times : Times) (bytes : List ℕ) (t : Tree) → Means times bytes t → length bytes < 2 ^ 31 → IsStartTree t
means_start times bytes t h short =
    let last = next_records (start times) h.records in
    let size = ap length h.text in
    subst IsStartTree (sym h.tree)
    (start_from_filled (with_records (start times) h.records).tree (with_records (start times) h.records).next
    (records_filled (start times) h.records h.allowed (root_filled times)) (omega arith))

pub meaning_start : (times : Times) (bytes : List ℕ) (t : Tree) → meaning times bytes ≡ Ok t → length bytes < 2 ^ 31 → IsStartTree t
meaning_start times bytes t e short = means_start times bytes t (means_from times bytes t e) short

-- no text means the root alone
pub meaning_of_none : (times : Times) → meaning times [] ≡ Ok (root_tree times)
unfolding meaning
meaning_of_none times = refl

-- a launch may begin with the root alone
pub root_start : (times : Times) → IsStartTree (root_tree times)
root_start times = start_from_filled (root_tree times) (ROOT + 1) (root_filled times) (omega arith)
