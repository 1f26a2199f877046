-- A copy with one name more of a file is a copy of one row more.
use Rattle.std.proofs.Common.{◌≡◌, inl, inr, ℕ, ◌+◌, ◌<◌, ◌≤◌, true, List, [], ◌∷◌, ◌++◌, map, Option, Some, None, IsSome, option_map, refl, sym, ap, subst, ◌∙◌, arith}
use Rattle.std.proofs.lemmas.Bool.Decides.{eqb_tells}
use Rattle.std.specs.FinMap.{get}
use Rattle.abi_types.specs.declared.node.Node.{Node}
use Rattle.tree_model.specs.declared.limits.TheConstants.{MOST_LINKS, ROOT}
use Rattle.tree_model.specs.Changes.{is_file, linked, with_count}
use Rattle.tree_model.specs.Counts.{links_of-one_more, one_for-other, one_for-same}
use Rattle.tree_model.specs.Entries.{KeepsNodes-one_more, here_or_other}
use Rattle.tree_model.specs.Outcomes.{linked-name, linked-node, linked-other_nodes}
use Rattle.tree_model.specs.Tree.{HasName, IsTree, Tree, entry_of, links_of, one_for}
use Rattle.tree_records.specs.Paths.{IsPath, Path}
use Rattle.tree_document.specs.Building.{Making, node_at}
use Rattle.tree_document.specs.Printing.{first_in}
use Rattle.tree_document.specs.SameTrees.{kind_in, kind_of}
use Rattle.tree_document.proofs.BackCopies.{HasRoom, IsCopied, IsCopy, file_there, firsts_more, firsts_other, firsts_stay, may_link, same_file}
use Rattle.tree_document.proofs.BackCounts.{rows_count, rows_count-append}
use Rattle.tree_document.proofs.BackNames.{linked_names, linked_stay}
use Rattle.tree_document.proofs.BackPaths.{image, leads_last}
use Rattle.tree_document.proofs.BackRows.{IsNext, Listed, PathRow, listed_back, listed_front, listed_in, row_of}
use Rattle.tree_document.proofs.StartTrees.{linked_filled}

counted_kind : (o : Option Node) → kind_in (option_map {T = Node} (λ node. with_count node (node.links + 1)) o) ≡ kind_in o
counted_kind None = refl
counted_kind (Some node) = refl

module _ (t : Tree) (h : IsTree t) (rows : List PathRow) (m : Making) (c : IsCopy t rows m) (p : Path) (n : ℕ) (next : IsNext t rows p n)
    (room : HasRoom t m c.origin next.above next.name next.directory) (k : ℕ) (file : is_file m.tree k ≡ true) (from : c.origin k ≡ n) where
  -- the tree with one more name of the file
  abbrev pub with_it : Tree
  with_it = linked m.tree room.at next.name k

  abbrev pub rows_now : List PathRow
  rows_now = rows ++ (p, n) ∷ []

  -- ---- names

  names_stay : (x : ℕ) (a : List ℕ) (j : ℕ) → HasName m.tree x a j → HasName with_it x a j
  names_stay = linked_stay m.tree room.at next.name k room.new

  names_from : (x : ℕ) (a : List ℕ) (j : ℕ) → HasName with_it x a j → HasName t (c.origin x) a (c.origin j)
  names_from x a j named =
      elim (linked_names m.tree room.at next.name k x a j named) [
        | inl new ↦ ap (λ (y : ℕ). entry_of t (c.origin y) a) new.0 ∙ ap (entry_of t (c.origin room.at)) new.1
            ∙ ap (λ (y : ℕ). entry_of t y next.name) room.from ∙ next.named ∙ ap (λ (y : ℕ). Some y) (sym (ap c.origin new.2 ∙ from))
        | inr old ↦ c.names x a j old
      ]

  sources_now : (x : ℕ) (a : List ℕ) (j : ℕ) → HasName with_it x a j
      → (q : Path) × (node_at t ROOT q ≡ Some (c.origin x)) × Listed rows_now (q ++ a ∷ []) (c.origin j)
  sources_now x a j named =
      elim (linked_names m.tree room.at next.name k x a j named) [
        | inl new ↦ (
          next.above,
          next.leads ∙ ap (λ (y : ℕ). Some y) (sym (ap c.origin new.0 ∙ room.from)),
          listed_back rows ((p, n) ∷ []) (next.above ++ a ∷ []) (c.origin j)
              (inl (next.path ∙ ap (λ (last : List ℕ). next.above ++ last ∷ []) (sym new.1), sym (ap c.origin new.2 ∙ from))),
        )
        | inr old ↦
            let source = c.sources x a j old in
            (source.0, source.1, listed_front rows ((p, n) ∷ []) (source.0 ++ a ∷ []) (c.origin j) source.2)
      ]

  -- ---- nodes

  kind_same : (j : ℕ) → kind_of with_it j ≡ kind_of m.tree j
  kind_same j =
      here_or_other (λ x. kind_of with_it x ≡ kind_of m.tree x) k j
      (ap kind_in (linked-node m.tree room.at next.name k) ∙ counted_kind (get m.tree.nodes k))
      (λ other. ap kind_in (linked-other_nodes m.tree room.at next.name k j other))

  file_same : (j : ℕ) → is_file with_it j ≡ true → is_file m.tree j ≡ true
  file_same j is = sym (same_file with_it m.tree j j (kind_same j)) ∙ is

  kinds_now : (j : ℕ) → IsSome (get with_it.nodes j) → kind_of with_it j ≡ kind_of t (c.origin j)
  kinds_now j there = kind_same j ∙ c.kinds j (sym ((KeepsNodes-one_more m.tree k).nodes j) ∙ there)

  -- what one more name of the file makes of the tree so far
  abbrev pub linked_now : Making
  linked_now = record m { tree = with_it }

  still_leads : (q : Path) (j : ℕ) → node_at m.tree ROOT q ≡ Some j → node_at with_it ROOT q ≡ Some j
  still_leads q j e = image m.tree with_it (λ x. x) names_stay q ROOT j e

  rows_copied_now : IsPath p → (q : Path) (x : ℕ) → Listed rows_now q x → IsCopied t linked_now q x
  rows_copied_now good q x there =
      elim (listed_in rows ((p, n) ∷ []) q x there) [
        | inl old ↦
            let one = c.rows_copied q x old in
            record { path = one.path; leads = one.leads; copy = one.copy; copied = still_leads q one.copy one.copied }
        | inr new ↦ elim new [
          | inl here ↦ record {
            path = subst IsPath here.0 good;
            leads = ap (node_at t ROOT) (sym here.0 ∙ next.path) ∙ leads_last t ROOT next.above next.name next.directory n next.leads next.named
                ∙ ap (λ (y : ℕ). Some y) here.1;
            copy = k;
            copied = ap (node_at with_it ROOT) (sym here.0 ∙ next.path)
                ∙ leads_last with_it ROOT next.above next.name room.at k (still_leads next.above room.at room.leads) (linked-name m.tree room.at next.name k);
          }
          | inr none ↦ absurd none
        ]
      ]

  -- a file that has a row has the same first name
  files_now : (first : List ℕ) → first_in (map row_of rows) n ≡ Some first → (x : ℕ) (path : List ℕ) → is_file t x ≡ true
      → first_in (map row_of rows_now) x ≡ Some path → IsSome (get m.files path)
  files_now first e x path is there =
      elim (eqb_tells n x) [
        | inl same ↦ c.files x path is
            (ap (first_in (map row_of rows)) (sym same.1) ∙ e
            ∙ sym (firsts_stay rows p n n first e) ∙ ap (first_in (map row_of rows_now)) same.1 ∙ there)
        | inr other ↦ c.files x path is (sym (firsts_other rows p n x other.1) ∙ there)
      ]

  counted_now : (j : ℕ) → is_file with_it j ≡ true → links_of with_it j ≤ rows_count (c.origin j) rows_now
  counted_now j is =
      let links = links_of-one_more m.tree k (file_there m.tree k file) j in
      let more = rows_count-append (c.origin j) rows ((p, n) ∷ []) in
      let before = c.counted j (file_same j is) in
      elim (eqb_tells k j) [
        | inl same ↦
            let one = ap (one_for j) same.1 ∙ one_for-same j in
            let here = ap (one_for (c.origin j)) (sym from ∙ ap c.origin same.1) ∙ one_for-same (c.origin j) in
            omega arith
        | inr other ↦ let none = one_for-other j k other.1 in omega arith
      ]

  pub copy_linked : IsPath p → (first : List ℕ) → first_in (map row_of rows) n ≡ Some first → links_of m.tree k < MOST_LINKS → IsCopy t rows_now linked_now
  copy_linked good first e few = record {
    filled = linked_filled m.tree room.at next.name k m.next c.filled (may_link t m c.origin next.above next.name next.directory room k file few);
    origin = c.origin;
    root = c.root;
    names = names_from;
    sources = sources_now;
    kinds = kinds_now;
    rows_copied = rows_copied_now good;
    files = files_now first e;
    seen = λ j is. firsts_more rows p n (c.origin j) (c.seen j (file_same j is));
    one_copy = λ i j is also same. c.one_copy i j (file_same i is) (file_same j also) same;
    counted = counted_now;
  }
