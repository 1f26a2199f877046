-- The tree of a document keeps the limits.
use Rattle.std.proofs.Common.{◌≡◌, ◌≢◌, ◌⊎◌, inl, inr, ℕ, zero, suc, ◌+◌, ◌<◌, ◌≤◌, true, List, [], ◌∷◌, ◌++◌, length, map, Option, Some, None, is_some, option_map, refl, sym, ap, subst, ◌∙◌, length-append, arith}
use Rattle.std.proofs.lemmas.Bool.{false≢true}
use Rattle.std.specs.FinMap.{empty, get, get-empty}
use Rattle.std.specs.List.{AllByRecursion}
use Rattle.std.specs.Ordering.{nat_cmp}
use Rattle.maps.specs.Maps.{get-insert-other, get-insert-same}
use Rattle.lists.proofs.OptionSteps.{bind_some}
use Rattle.abi_types.specs.declared.node.Node.{Node}
use Rattle.abi_types.specs.declared.node.NodeKind.{NodeKind}
use Rattle.abi_types.specs.declared.node.NodeKind.TheVariants as kind
use Rattle.abi_types.specs.declared.node.Times.{Times}
use Rattle.tree_model.specs.declared.limits.TheConstants.{MOST_LINKS, ROOT}
use Rattle.tree_model.specs.Changes.{is_absent, linked, made, with_count}
use Rattle.tree_model.specs.Entries.{here_or_other}
use Rattle.tree_model.specs.Facts.{absent, directory_of_name, directory_there, two_kinds}
use Rattle.tree_model.specs.Faults.{can_link, can_make}
use Rattle.tree_model.specs.Outcomes.{linked-node, linked-other_nodes, made-node, made-other_nodes}
use Rattle.tree_model.specs.Start.{root_node, root_tree, root_tree-no_name}
use Rattle.tree_model.specs.Tree.{HasName, IsTree, Tree, entry_of, is_directory, links_in}
use Rattle.tree_records.specs.Paths.{IsName, IsPath, Path, name_of, parent, path_bytes}
use Rattle.tree_records.specs.Records.{IsRecord, Record, dir, file, hard, link}
use Rattle.tree_document.specs.Building.{IsAllowed, IsLinkPlaceIn, IsPlaceIn, Making, node_at, node_of, start, with_name_in, with_node_in, with_record}
use Rattle.tree_document.specs.Documents.{AreAllowed, Means, with_records}
use Rattle.tree_document.specs.Limits.{IsKept, IsKeptNode, IsRowPath, KeepsLimits}
use Rattle.tree_document.specs.Printing.{Row}
use Rattle.tree_document.proofs.BackNames.{IsNew, linked_names, made_names}
use Rattle.tree_document.proofs.BackPaths.{last_of, leads_last, one_path, splits_last}
use Rattle.tree_document.proofs.BackRows.{Listed, PathRow, paths_listing, paths_next, paths_of, row_next, row_of}
use Rattle.tree_document.proofs.StartTrees.{Filled, filled_absent, more_filled, records_filled, root_filled}

-- ---- a tree by its paths

-- its names may be names, its paths those of records, and its nodes in a document
record AreGood (t : Tree) : Type 0 where
  names : (d : ℕ) (name : List ℕ) (n : ℕ) → HasName t d name n → IsName name
  paths : (p : Path) (n : ℕ) → node_at t ROOT p ≡ Some n → (p ≡ []) ⊎ IsPath p
  nodes : (n : ℕ) → IsKeptNode (get t.nodes n)

all_rows : (P : Row → Type 0) (rows : List PathRow) → ((p : Path) (n : ℕ) → Listed rows p n → P (path_bytes p, n)) → AllByRecursion P (map row_of rows)
all_rows P [] h = tt
all_rows P (row ∷ rows) h = (h row.0 row.1 (inl (refl, refl)), all_rows P rows (λ p n there. h p n (inr there)))

good_keeps : (t : Tree) → IsTree t → AreGood t → KeepsLimits t
good_keeps t h good = record {
  names = good.names;
  rows = subst (AllByRecursion (λ row. IsRowPath row.0 × IsKeptNode (get t.nodes row.1))) (sym (paths_listing t good.names))
      (all_rows (λ row. IsRowPath row.0 × IsKeptNode (get t.nodes row.1)) (paths_of t) fits);
} where
  fits : (p : Path) (n : ℕ) → Listed (paths_of t) p n → IsRowPath (path_bytes p) × IsKeptNode (get t.nodes n)
  fits p n there =
      let next = (row_next t (paths_of t) [] (paths_next t) p n there).1 in
      let leads = ap (node_at t ROOT) next.path ∙ leads_last t ROOT next.above next.name next.directory n next.leads next.named in
      elim (good.paths p n leads) [
        | inl root ↦
            let size = ap length (sym root ∙ next.path) ∙ length-append next.above (next.name ∷ []) in
            absurd (omega arith)
        | inr path ↦ (record { short = path.short; utf8 = path.utf8 }, good.nodes n)
      ]

-- ---- one name more

split_last : (p : Path) → 0 < length p → p ≡ parent p ++ name_of p ∷ []
split_last [] some = absurd (omega arith)
split_last (name ∷ []) some = refl
split_last (name ∷ next ∷ more) some = ap (λ (q : Path). name ∷ q) (split_last (next ∷ more) (omega arith))

last_name : (p : Path) → 0 < length p → AllByRecursion IsName p → IsName (name_of p)
last_name [] some all = absurd (omega arith)
last_name (name ∷ []) some all = all.0
last_name (name ∷ next ∷ more) some all = last_name (next ∷ more) (omega arith) all.1

-- u is the tree t with the name of the record's path, of a node without names in it
module _ (t u : Tree) (h : IsTree t) (good : AreGood t) (p : Path) (path : IsPath p) (d n : ℕ) (leads : node_at t ROOT (parent p) ≡ Some d)
    (is : is_directory t d ≡ true)
    (names_now : (x : ℕ) (a : List ℕ) (k : ℕ) → HasName u x a k → IsNew d (name_of p) n x a k ⊎ HasName t x a k)
    (bare : (a : List ℕ) (k : ℕ) → HasName u n a k → ⊥) where
  good_names : (x : ℕ) (a : List ℕ) (k : ℕ) → HasName u x a k → IsName a
  good_names x a k named =
      elim (names_now x a k named) [
        | inl new ↦ subst IsName (sym new.1) (last_name p path.some path.names)
        | inr old ↦ good.names x a k old
      ]

  -- a path that leads somewhere did so before, or is the record's
  old_or_new : (most : ℕ) (q : Path) (k : ℕ) → length q ≤ most → node_at u ROOT q ≡ Some k → (node_at t ROOT q ≡ Some k) ⊎ ((q ≡ p) × (k ≡ n))
  old_or_new most [] k few e = inl e
  old_or_new zero (name ∷ more) k few e = absurd (omega arith)
  old_or_new (suc most) (name ∷ more) k few e =
      elim (last_of (name ∷ more)) [
        | inl none ↦ absurd cc
        | inr some ↦
            let up = splits_last u ROOT some.0 some.1 k (ap (node_at u ROOT) (sym some.2) ∙ e) in
            let size = ap length some.2 ∙ length-append some.0 (some.1 ∷ []) in
            elim (old_or_new most some.0 up.0 (omega arith) up.1) [
              | inl before ↦ elim (names_now up.0 some.1 k up.2) [
                | inl new ↦
                    let same = one_path t h d some.0 (parent p) is (before ∙ ap (λ (x : ℕ). Some x) new.0) leads in
                    inr (
                      some.2 ∙ ap (λ (r : Path). r ++ some.1 ∷ []) same ∙ ap (λ (a : List ℕ). parent p ++ a ∷ []) new.1 ∙ sym (split_last p path.some),
                      new.2,
                    )
                | inr old ↦ inl (ap (node_at t ROOT) some.2 ∙ leads_last t ROOT some.0 some.1 up.0 k before old)
              ]
              | inr last ↦ absurd (bare some.1 k (subst (λ (x : ℕ). HasName u x some.1 k) last.1 up.2))
            ]
      ]

  good_more : ((k : ℕ) → IsKeptNode (get u.nodes k)) → AreGood u
  good_more kept = record {
    names = good_names;
    paths = λ q k e. elim (old_or_new (length q) q k (omega arith) e) [
      | inl before ↦ good.paths q k before
      | inr new ↦ inr (subst IsPath (sym new.0) path)
    ];
    nodes = kept;
  }

-- ---- a record more

kept_more : (o : Option Node) → IsKeptNode o → links_in o < MOST_LINKS → IsKeptNode (option_map (λ node. with_count node (node.links + 1)) o)
kept_more None kept few = tt
kept_more (Some node) kept few = (kept.0, omega arith)

good_node : (m : Making) (p : Path) (k : NodeKind) (o : Option ℕ) → Filled m → AreGood m.tree → IsPath p → IsKept k → node_at m.tree ROOT (parent p) ≡ o
    → IsPlaceIn m.tree (name_of p) o → AreGood (with_node_in m (name_of p) k o).tree
good_node m p k None h good path kept leads here = absurd here
good_node m p k (Some d) h good path kept leads here =
    let can = can_make m.tree d (name_of p) here in
    let node = node_of m.times k in
    let fresh : is_absent m.tree m.next ≡ true = filled_absent m.tree m.next m.next h (omega arith) in
    let none : (x : ℕ) → is_directory m.tree x ≡ true → x ≢ m.next = λ x there same.
    false≢true (sym (ap is_some (ap (get m.tree.nodes) same ∙ absent m.tree m.next fresh)) ∙ directory_there m.tree x there) in
    good_more m.tree (made m.tree d (name_of p) m.next node) h.tree good p path d m.next leads can.directory
    (made_names m.tree d (name_of p) m.next node h.tree fresh)
    (λ a j named. elim (made_names m.tree d (name_of p) m.next node h.tree fresh m.next a j named) [
      | inl new ↦ none d can.directory (sym new.0)
      | inr old ↦ none m.next (directory_of_name m.tree h.tree m.next a j old) refl
    ])
    (λ j. here_or_other (λ x. IsKeptNode (get (made m.tree d (name_of p) m.next node).nodes x)) m.next j
    (subst IsKeptNode (sym (made-node m.tree d (name_of p) m.next node)) (kept, omega arith))
    (λ other. subst IsKeptNode (sym (made-other_nodes m.tree d (name_of p) m.next node j other)) (good.nodes j)))

good_name : (m : Making) (p : Path) (o target : Option ℕ) → Filled m → AreGood m.tree → IsPath p → node_at m.tree ROOT (parent p) ≡ o
    → IsLinkPlaceIn m.tree (name_of p) o target → AreGood (with_name_in m (name_of p) o target).tree
good_name m p None target h good path leads here = absurd here
good_name m p (Some d) None h good path leads here = absurd here
good_name m p (Some d) (Some n) h good path leads here =
    let can = can_link m.tree d (name_of p) n here in
    good_more m.tree (linked m.tree d (name_of p) n) h.tree good p path d n leads can.directory
    (linked_names m.tree d (name_of p) n)
    (λ a j named. elim (linked_names m.tree d (name_of p) n n a j named) [
      | inl new ↦ two_kinds m.tree d n can.directory can.kind new.0
      | inr old ↦ false≢true (sym can.kind ∙ directory_of_name m.tree h.tree n a j old)
    ])
    (λ j. here_or_other (λ x. IsKeptNode (get (linked m.tree d (name_of p) n).nodes x)) n j
    (subst IsKeptNode (sym (linked-node m.tree d (name_of p) n)) (kept_more (get m.tree.nodes n) (good.nodes n) can.room))
    (λ other. subst IsKeptNode (sym (linked-other_nodes m.tree d (name_of p) n j other)) (good.nodes j)))

good_record : (m : Making) (r : Record) → Filled m → AreGood m.tree → IsRecord r → IsAllowed m r → AreGood (with_record m r).tree
good_record m (dir p) h good fits here = good_node m p kind.Directory (node_at m.tree ROOT (parent p)) h good fits tt refl here
good_record m (file p bytes) h good fits here = good_node m p (kind.File bytes) (node_at m.tree ROOT (parent p)) h good fits.0 fits.1 refl here
good_record m (link p text) h good fits here = good_node m p (kind.Link text) (node_at m.tree ROOT (parent p)) h good fits.0 fits.1 refl here
good_record m (hard p target) h good fits here =
    good_name m p (node_at m.tree ROOT (parent p)) (node_at m.tree ROOT target) h good fits.0 refl here.1

good_records : (m : Making) (rs : List Record) → Filled m → AreGood m.tree → AreAllowed m rs → AreGood (with_records m rs).tree
good_records m [] h good here = good
good_records m (r ∷ rs) h good here =
    good_records (with_record m r) rs (more_filled m r here.1 h) (good_record m r h good here.0 here.1) here.2

-- ---- the root alone

module _ (times : Times) where
  root_paths : (p : Path) (n : ℕ) → node_at (root_tree times) ROOT p ≡ Some n → (p ≡ []) ⊎ IsPath p
  root_paths [] n e = inl refl
  root_paths (name ∷ more) n e =
      let one = bind_some (entry_of (root_tree times) ROOT name) (λ x. node_at (root_tree times) x more) n e in
      absurd (root_tree-no_name times ROOT name one.0 one.1)

  root_good : AreGood (root_tree times)
  root_good = record {
    names = λ d name n named. absurd (root_tree-no_name times d name n named);
    paths = root_paths;
    nodes = λ n. here_or_other (λ x. IsKeptNode (get (root_tree times).nodes x)) ROOT n
        (subst IsKeptNode (sym (get-insert-same empty ROOT (root_node times))) (tt, omega arith))
        (λ other. subst IsKeptNode (sym (get-insert-other empty ROOT (root_node times) n other ∙ get-empty nat_cmp n)) tt);
  }

pub means_keeps : (times : Times) (bytes : List ℕ) (t : Tree) → Means times bytes t → KeepsLimits t
means_keeps times bytes t h =
    subst KeepsLimits (sym h.tree)
    (good_keeps (with_records (start times) h.records).tree (records_filled (start times) h.records h.allowed (root_filled times)).tree
    (good_records (start times) h.records (root_filled times) (root_good times) h.allowed))
