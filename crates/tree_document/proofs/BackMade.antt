-- A copy with one node more is a copy of one row more.
use Rattle.std.proofs.Common.{◌≡◌, ◌≢◌, inl, inr, ℕ, ◌+◌, ◌≤◌, Bool, true, if◌then◌else◌, eqb, List, [], ◌∷◌, ◌++◌, map, Some, None, IsSome, is_some, refl, sym, ap, subst, ◌∙◌, arith}
use Rattle.std.proofs.lemmas.Bool.{eq-eqb, false≢true, ne_eqb}
use Rattle.std.specs.FinMap.{get}
use Rattle.abi_types.specs.declared.node.Node.{Node}
use Rattle.abi_types.specs.declared.node.NodeKind.{NodeKind}
use Rattle.maps.specs.Names.{Names}
use Rattle.tree_model.specs.declared.limits.TheConstants.{ROOT}
use Rattle.tree_model.specs.Changes.{is_absent, is_file, is_file_kind, is_file_node, made}
use Rattle.tree_model.specs.Counts.{links_of-new_node-other, links_of-new_node-same, one_for-same}
use Rattle.tree_model.specs.Entries.{here_or_other}
use Rattle.tree_model.specs.Facts.{directory_of_name, directory_there}
use Rattle.tree_model.specs.Outcomes.{made-name, made-node, made-other_nodes}
use Rattle.tree_model.specs.Tree.{HasName, IsTree, Tree, entry_of, links_of}
use Rattle.tree_records.specs.Paths.{IsPath, Path}
use Rattle.tree_document.specs.Building.{Making, node_at, node_of}
use Rattle.tree_document.specs.Printing.{first_in}
use Rattle.tree_document.specs.SameTrees.{kind_in, kind_of}
use Rattle.tree_document.proofs.BackCopies.{HasRoom, IsCopied, IsCopy, firsts_more, firsts_some, may_make}
use Rattle.tree_document.proofs.BackCounts.{rows_count, rows_count-append}
use Rattle.tree_document.proofs.BackNames.{made_names, made_stay}
use Rattle.tree_document.proofs.BackPaths.{image, leads_last}
use Rattle.tree_document.proofs.BackRows.{IsNext, Listed, PathRow, listed_back, listed_front, listed_in, row_of}
use Rattle.tree_document.proofs.StartTrees.{filled_absent, made_filled}

module _ (t : Tree) (h : IsTree t) (rows : List PathRow) (m : Making) (c : IsCopy t rows m) (p : Path) (n : ℕ) (next : IsNext t rows p n)
    (room : HasRoom t m c.origin next.above next.name next.directory) (kind : NodeKind) where
  abbrev pub node : Node
  node = node_of m.times kind

  -- the tree with the new node
  abbrev pub with_it : Tree
  with_it = made m.tree room.at next.name m.next node

  abbrev pub rows_now : List PathRow
  rows_now = rows ++ (p, n) ∷ []

  -- ---- where each node is from

  -- the new node is a copy of the row's node
  abbrev origin : ℕ → ℕ
  origin k = if eqb k m.next then n else c.origin k

  origin_new : origin m.next ≡ n
  origin_new = ap (λ (b : Bool). if b then n else c.origin m.next) (eq-eqb m.next m.next refl)

  origin_other : (k : ℕ) → k ≢ m.next → origin k ≡ c.origin k
  origin_other k other = ap (λ (b : Bool). if b then n else c.origin k) (ne_eqb k m.next other)

  origin_old : (k : ℕ) → IsSome (get m.tree.nodes k) → origin k ≡ c.origin k
  origin_old k there = let before = c.filled.numbered k there in let less = before.1 in origin_other k (λ same. omega arith)

  origin_directory : origin room.at ≡ next.directory
  origin_directory = origin_old room.at room.there ∙ room.from

  fresh : is_absent m.tree m.next ≡ true
  fresh = filled_absent m.tree m.next m.next c.filled (omega arith)

  -- ---- names

  names_stay : (x : ℕ) (a : List ℕ) (k : ℕ) → HasName m.tree x a k → HasName with_it x a k
  names_stay = made_stay m.tree room.at next.name m.next node c.filled.tree fresh room.new

  -- the nodes of a name that was there were there
  old_directory : (x : ℕ) (a : List ℕ) (k : ℕ) → HasName m.tree x a k → origin x ≡ c.origin x
  old_directory x a k named = origin_old x (directory_there m.tree x (directory_of_name m.tree c.filled.tree x a k named))

  old_node : (x : ℕ) (a : List ℕ) (k : ℕ) → HasName m.tree x a k → origin k ≡ c.origin k
  old_node x a k named = origin_old k (c.filled.tree.led x a k named)

  names_from : (x : ℕ) (a : List ℕ) (k : ℕ) → HasName with_it x a k → HasName t (origin x) a (origin k)
  names_from x a k named =
      elim (made_names m.tree room.at next.name m.next node c.filled.tree fresh x a k named) [
        | inl new ↦ ap (λ (y : ℕ). entry_of t (origin y) a) new.0 ∙ ap (entry_of t (origin room.at)) new.1
            ∙ ap (λ (y : ℕ). entry_of t y next.name) origin_directory ∙ next.named ∙ ap (λ (y : ℕ). Some y) (sym (ap origin new.2 ∙ origin_new))
        | inr old ↦ ap (λ (y : ℕ). entry_of t y a) (old_directory x a k old) ∙ c.names x a k old ∙ ap (λ (y : ℕ). Some y) (sym (old_node x a k old))
      ]

  sources_now : (x : ℕ) (a : List ℕ) (k : ℕ) → HasName with_it x a k
      → (q : Path) × (node_at t ROOT q ≡ Some (origin x)) × Listed rows_now (q ++ a ∷ []) (origin k)
  sources_now x a k named =
      elim (made_names m.tree room.at next.name m.next node c.filled.tree fresh x a k named) [
        | inl new ↦ (
          next.above,
          next.leads ∙ ap (λ (y : ℕ). Some y) (sym (ap origin new.0 ∙ origin_directory)),
          listed_back rows ((p, n) ∷ []) (next.above ++ a ∷ []) (origin k)
              (inl (next.path ∙ ap (λ (last : List ℕ). next.above ++ last ∷ []) (sym new.1), sym (ap origin new.2 ∙ origin_new))),
        )
        | inr old ↦
            let source = c.sources x a k old in (
              source.0,
              source.1 ∙ ap (λ (y : ℕ). Some y) (sym (old_directory x a k old)),
              listed_front rows ((p, n) ∷ []) (source.0 ++ a ∷ []) (origin k)
                  (subst (λ (y : ℕ). Listed rows (source.0 ++ a ∷ []) y) (sym (old_node x a k old)) source.2),
            )
      ]

  -- ---- nodes

  kind_other : (k : ℕ) → k ≢ m.next → kind_of with_it k ≡ kind_of m.tree k
  kind_other k other = ap kind_in (made-other_nodes m.tree room.at next.name m.next node k other)

  file_other : (k : ℕ) → k ≢ m.next → is_file with_it k ≡ true → is_file m.tree k ≡ true
  file_other k other file = sym (ap is_file_node (made-other_nodes m.tree room.at next.name m.next node k other)) ∙ file

  file_new : is_file with_it m.next ≡ true → is_file_kind kind ≡ true
  file_new file = sym (ap is_file_node (made-node m.tree room.at next.name m.next node)) ∙ file

  module _ (is : kind_of t n ≡ Some kind) where
    kinds_now : (k : ℕ) → IsSome (get with_it.nodes k) → kind_of with_it k ≡ kind_of t (origin k)
    kinds_now k =
        here_or_other (λ x. IsSome (get with_it.nodes x) → kind_of with_it x ≡ kind_of t (origin x)) m.next k
        (λ _. ap kind_in (made-node m.tree room.at next.name m.next node) ∙ sym is ∙ ap (kind_of t) (sym origin_new))
        (λ other there. kind_other k other
        ∙ c.kinds k (sym (ap is_some (made-other_nodes m.tree room.at next.name m.next node k other)) ∙ there)
        ∙ ap (kind_of t) (sym (origin_other k other)))

    module _ (files : Names (Unit {0})) (good : IsPath p)
        (first : is_file_kind kind ≡ true → first_in (map row_of rows) n ≡ None)
        (known : (x : ℕ) (path : List ℕ) → is_file t x ≡ true → first_in (map row_of rows_now) x ≡ Some path → IsSome (get files path)) where
      -- what the new node makes of the tree so far
      abbrev pub made_now : Making
      made_now = record { tree = with_it; times = m.times; next = m.next + 1; files = files }

      still_leads : (q : Path) (k : ℕ) → node_at m.tree ROOT q ≡ Some k → node_at with_it ROOT q ≡ Some k
      still_leads q k e = image m.tree with_it (λ x. x) names_stay q ROOT k e

      rows_copied_now : (q : Path) (x : ℕ) → Listed rows_now q x → IsCopied t made_now q x
      rows_copied_now q x there =
          elim (listed_in rows ((p, n) ∷ []) q x there) [
            | inl old ↦
                let one = c.rows_copied q x old in
                record { path = one.path; leads = one.leads; copy = one.copy; copied = still_leads q one.copy one.copied }
            | inr new ↦ elim new [
              | inl here ↦ record {
                path = subst IsPath here.0 good;
                leads = ap (node_at t ROOT) (sym here.0 ∙ next.path) ∙ leads_last t ROOT next.above next.name next.directory n next.leads next.named
                    ∙ ap (λ (y : ℕ). Some y) here.1;
                copy = m.next;
                copied = ap (node_at with_it ROOT) (sym here.0 ∙ next.path)
                    ∙ leads_last with_it ROOT next.above next.name room.at m.next (still_leads next.above room.at room.leads)
                    (made-name m.tree room.at next.name m.next node);
              }
              | inr none ↦ absurd none
            ]
          ]

      seen_now : (k : ℕ) → is_file with_it k ≡ true → IsSome (first_in (map row_of rows_now) (origin k))
      seen_now k =
          here_or_other (λ x. is_file with_it x ≡ true → IsSome (first_in (map row_of rows_now) (origin x))) m.next k
          (λ _. ap (λ (y : ℕ). is_some (first_in (map row_of rows_now) y)) origin_new ∙ firsts_some rows p n)
          (λ other file. ap (λ (y : ℕ). is_some (first_in (map row_of rows_now) y)) (origin_other k other)
          ∙ firsts_more rows p n (c.origin k) (c.seen k (file_other k other file)))

      -- no file so far is a copy of the row's
      not_seen : (k : ℕ) → k ≢ m.next → is_file with_it m.next ≡ true → is_file with_it k ≡ true → origin m.next ≡ origin k → ⊥
      not_seen k other new file same =
          false≢true
          (ap is_some (sym (first (file_new new)) ∙ ap (first_in (map row_of rows)) (sym origin_new ∙ same ∙ origin_other k other))
          ∙ c.seen k (file_other k other file))

      one_copy_now : (j k : ℕ) → is_file with_it j ≡ true → is_file with_it k ≡ true → origin j ≡ origin k → j ≡ k
      one_copy_now j k =
          here_or_other (λ x. is_file with_it x ≡ true → is_file with_it k ≡ true → origin x ≡ origin k → x ≡ k) m.next j
          (here_or_other (λ y. is_file with_it m.next ≡ true → is_file with_it y ≡ true → origin m.next ≡ origin y → m.next ≡ y) m.next k
          (λ _ _ _. refl)
          (λ other new file same. absurd (not_seen k other new file same)))
          (λ away. here_or_other (λ y. is_file with_it j ≡ true → is_file with_it y ≡ true → origin j ≡ origin y → j ≡ y) m.next k
          (λ file new same. absurd (not_seen j away new file (sym same)))
          (λ other file also same. c.one_copy j k (file_other j away file) (file_other k other also)
          (sym (origin_other j away) ∙ same ∙ origin_other k other)))

      counted_now : (k : ℕ) → is_file with_it k ≡ true → links_of with_it k ≤ rows_count (origin k) rows_now
      counted_now k =
          here_or_other (λ x. is_file with_it x ≡ true → links_of with_it x ≤ rows_count (origin x) rows_now) m.next k
          (λ _.
          let one = links_of-new_node-same m.tree m.next node in
          let same = ap (λ (y : ℕ). rows_count y rows_now) origin_new in
          let more = rows_count-append n rows ((p, n) ∷ []) in
          let here = one_for-same n in
          omega arith)
          (λ other file.
          let links = links_of-new_node-other m.tree m.next node k other in
          let same = ap (λ (y : ℕ). rows_count y rows_now) (origin_other k other) in
          let more = rows_count-append (c.origin k) rows ((p, n) ∷ []) in
          let before = c.counted k (file_other k other file) in
          omega arith)

      pub copy_made : IsCopy t rows_now made_now
      copy_made = record {
        filled = made_filled m.tree room.at next.name m.next node c.filled (may_make t m c.origin next.above next.name next.directory room);
        origin = origin;
        root = origin_old ROOT (directory_there m.tree ROOT c.filled.tree.root) ∙ c.root;
        names = names_from;
        sources = sources_now;
        kinds = kinds_now;
        rows_copied = rows_copied_now;
        files = known;
        seen = seen_now;
        one_copy = one_copy_now;
        counted = counted_now;
      }
