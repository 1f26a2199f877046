-- What is printed of a tree that keeps the limits is a document, whose tree is the same.
use Rattle.std.proofs.Common.{◌≡◌, ◌⊎◌, inl, inr, ℕ, ◌≤◌, true, List, [], ◌∷◌, ◌++◌, length, map, Option, Some, None, Result, Ok, Err, IsSome, is_some, refl, sym, ap, subst, ◌∙◌, append_assoc, append-nil, length-append, arith}
use Rattle.std.proofs.lemmas.Bool.{false≢true}
use Rattle.std.proofs.lemmas.List.{map-append}
use Rattle.std.specs.FinMap.{get}
use Rattle.std.specs.List.{AllByRecursion}
use Rattle.lists.specs.Options.{◌>>=◌}
use Rattle.lists.proofs.Chosen.{none_some, some_is}
use Rattle.abi_types.specs.declared.node.Node.{Node}
use Rattle.abi_types.specs.declared.node.NodeKind.{NodeKind}
use Rattle.abi_types.specs.declared.node.NodeKind.TheVariants as kind
use Rattle.abi_types.specs.declared.node.Times.{Times}
use Rattle.tree_model.specs.declared.limits.TheConstants.{ROOT}
use Rattle.tree_model.specs.Changes.{is_file}
use Rattle.tree_model.specs.Counts.{one_for-same}
use Rattle.tree_model.specs.Facts.{directory_there}
use Rattle.tree_model.specs.Start.{root_tree, root_tree-no_name, root_tree-tree}
use Rattle.tree_model.specs.Tree.{IsTree, Tree, is_directory, is_directory_kind, is_directory_node, links_of}
use Rattle.tree_records.specs.Paths.{IsPath, Path, path_bytes}
use Rattle.tree_records.specs.Records.{Record, path_of, encoded}
use Rattle.tree_document.specs.Building.{Making, node_at, start, with_record}
use Rattle.tree_document.specs.Documents.{AreAllowed, Means, document, with_records}
use Rattle.tree_document.specs.declared.fault.TreeDocFault.{TreeDocFault}
use Rattle.lists.specs.declared.stop.Stop.{Stop}
use Rattle.lists.specs.declared.stop.Stop.TheVariants.{At, Memory}
use Rattle.tree_document.specs.Meaning.{meaning}
use Rattle.tree_document.specs.Views.{Gives}
use Rattle.tree_document.proofs.Computed.{meaning_of}
use Rattle.tree_document.specs.Limits.{IsKeptNode, IsRowPath, KeepsLimits}
use Rattle.tree_document.specs.Printing.{Row, listing, printed, row_text, rows_text}
use Rattle.tree_document.specs.SameTrees.{AreOfOneFile, IsSameOrLacking, IsSameTree, kind_at, kind_in, kind_of}
use Rattle.tree_document.proofs.BackCopies.{IsCopy, file_directory, file_there, origin_leads, same_file}
use Rattle.tree_document.proofs.BackCounts.{few_rows, rows_count, rows_count-append}
use Rattle.tree_document.proofs.BackPaths.{leads_last, path_there}
use Rattle.tree_document.proofs.BackRecords.{read_row}
use Rattle.tree_document.proofs.BackRows.{AreNext, Listed, PathRow, every_path, names_along, paths_listing, paths_next, paths_of, row_has, row_next, row_of}
use Rattle.tree_document.proofs.StartTrees.{root_filled, root_only}

-- ---- before the first row

directory_is : (o : Option Node) → is_directory_node o ≡ true → kind_in o ≡ Some kind.Directory
directory_is None is = absurd (false≢true is)
directory_is (Some node) is = ap (λ (k : NodeKind). Some k) (by_kind node.kind is) where
  by_kind : (k : NodeKind) → is_directory_kind k ≡ true → k ≡ kind.Directory
  by_kind (kind.File bytes) e = absurd (false≢true e)
  by_kind kind.Directory e = refl
  by_kind (kind.Link text) e = absurd (false≢true e)

module _ (t : Tree) (h : IsTree t) (times : Times) where
  root_no_file : (k : ℕ) → is_file (root_tree times) k ≡ true → ⊥
  root_no_file k is =
      false≢true
      (sym (file_directory (root_tree times) k is) ∙ ap (is_directory (root_tree times)) (root_only times k (file_there (root_tree times) k is))
      ∙ (root_tree-tree times).root)

  copy_start : IsCopy t [] (start times)
  copy_start = record {
    filled = root_filled times;
    origin = λ k. k;
    root = refl;
    names = λ d name k named. absurd (root_tree-no_name times d name k named);
    sources = λ d name k named. absurd (root_tree-no_name times d name k named);
    kinds = λ k there.
        (let same = root_only times k there in
        ap (kind_of (root_tree times)) same
        ∙ directory_is (get (root_tree times).nodes ROOT) (root_tree-tree times).root
        ∙ sym (directory_is (get t.nodes ROOT) h.root) ∙ ap (kind_of t) (sym same));
    rows_copied = λ p n none. absurd none;
    files = λ n path is none. absurd (none_some path none);
    seen = λ k is. absurd (root_no_file k is);
    one_copy = λ j k is _ _. absurd (root_no_file j is);
    counted = λ k is. absurd (root_no_file k is);
  }

-- ---- row by row

-- records of these rows that may stand one behind the other, and a copy of all rows that they make
record AreRead (t : Tree) (before rows : List PathRow) (m : Making) : Type 0 where
  records : List Record
  allowed : AreAllowed m records
  text : rows_text t (map row_of before) (map row_of rows) ≡ document records
  paths : map (λ r. path_bytes (path_of r)) records ≡ map (λ row. row.0) (map row_of rows)
  copy : IsCopy t (before ++ rows) (with_records m records)

paths_more : (rows : List PathRow) (row : PathRow) (one : Record) (rest : List Record) → path_of one ≡ row.0
    → map (λ r. path_bytes (path_of r)) rest ≡ map (λ r. r.0) (map row_of rows)
    → map (λ r. path_bytes (path_of r)) (one ∷ rest) ≡ map (λ r. r.0) (map row_of (row ∷ rows))
paths_more rows row one rest first later =
    ap (λ (p : Path). path_bytes p ∷ map (λ r. path_bytes (path_of r)) rest) first ∙ ap (λ (paths : List (List ℕ)). path_bytes row.0 ∷ paths) later

text_more : (t : Tree) (before rows : List PathRow) (row : PathRow) (one : Record) (rest : List Record)
    → row_text t (map row_of before) (row_of row) ≡ encoded one → rows_text t (map row_of (before ++ row ∷ [])) (map row_of rows) ≡ document rest
    → rows_text t (map row_of before) (map row_of (row ∷ rows)) ≡ document (one ∷ rest)
text_more t before rows row one rest first later =
    ap (λ (text : List ℕ). text ++ rows_text t (map row_of before ++ row_of row ∷ []) (map row_of rows)) first
    ∙ ap (λ (rs : List Row). encoded one ++ rows_text t rs (map row_of rows)) (sym (map-append row_of before (row ∷ [])))
    ∙ ap (λ (text : List ℕ). encoded one ++ text) later

module _ (t : Tree) (h : IsTree t) where
  read_rows : (rows before : List PathRow) (m : Making) → AreNext t before rows → IsCopy t before m
      → ((p : Path) (n : ℕ) → Listed rows p n → IsPath p × IsKeptNode (get t.nodes n)) → ((n : ℕ) → rows_count n (before ++ rows) ≤ links_of t n)
      → AreRead t before rows m
  read_rows [] before m next c good few = record {
    records = [];
    allowed = tt;
    text = refl;
    paths = refl;
    copy = subst (λ (rows : List PathRow). IsCopy t rows m) (sym (append-nil before)) c;
  }
  read_rows (row ∷ rows) before m next c good few =
      let fits = good row.0 row.1 (inl (refl, refl)) in
      let more = rows_count-append row.1 before (row ∷ rows) in
      let all = few row.1 in
      let here = one_for-same row.1 in
      let one = read_row t h before m c row.0 row.1 next.0 fits.0 fits.1 (omega arith) in
      let rest = read_rows rows (before ++ row ∷ []) (with_record m one.one) next.1 one.copy (λ p n there. good p n (inr there))
      (λ n. let count = few n in let same = ap (rows_count n) (append_assoc before (row ∷ []) rows) in omega arith) in
      record {
        records = one.one ∷ rest.records;
        allowed = (one.fits, one.allowed, rest.allowed);
        text = text_more t before rows row one.one rest.records one.text rest.text;
        paths = paths_more rows row one.one rest.records one.path rest.paths;
        copy = subst (λ (done : List PathRow). IsCopy t done (with_records (with_record m one.one) rest.records)) (append_assoc before (row ∷ []) rows)
            rest.copy;
      }

  -- ---- a copy of all rows

  good_rows : KeepsLimits t → (p : Path) (n : ℕ) → Listed (paths_of t) p n → IsPath p × IsKeptNode (get t.nodes n)
  good_rows kept p n there =
      let is = row_has (λ row. IsRowPath row.0 × IsKeptNode (get t.nodes row.1)) (paths_of t) p n
      (subst (AllByRecursion (λ row. IsRowPath row.0 × IsKeptNode (get t.nodes row.1))) (paths_listing t kept.names) kept.rows) there in
      let next = (row_next t (paths_of t) [] (paths_next t) p n there).1 in
      let leads = ap (node_at t ROOT) next.path ∙ leads_last t ROOT next.above next.name next.directory n next.leads next.named in
      let size = ap length next.path ∙ length-append next.above (next.name ∷ []) in
      (record { some = omega arith; names = names_along t kept.names p ROOT n leads; short = is.0.short; utf8 = is.0.utf8 }, is.1)

  all_read : KeepsLimits t → (times : Times) → AreRead t [] (paths_of t) (start times)
  all_read kept times = read_rows (paths_of t) [] (start times) (paths_next t) (copy_start t h times) (good_rows kept) (few_rows t h)

  -- ---- the same tree

  module _ (m : Making) (c : IsCopy t (paths_of t) m) where
    -- what a path leads to has a copy, to which it leads
    copy_at : (p : Path) (n : ℕ) → node_at t ROOT p ≡ Some n → (k : ℕ) × (node_at m.tree ROOT p ≡ Some k) × (c.origin k ≡ n)
    copy_at p n e =
        elim (every_path t h p n e) [
          | inl root ↦ (ROOT, ap (node_at m.tree ROOT) root, c.root ∙ some_is ROOT n (sym (ap (node_at t ROOT) root) ∙ e))
          | inr row ↦
              let one = c.rows_copied p n row in
              (one.copy, one.copied, some_is (c.origin one.copy) n (sym (origin_leads t (paths_of t) m c p one.copy one.copied) ∙ e))
        ]

    copy_there : (p : Path) (k : ℕ) → node_at m.tree ROOT p ≡ Some k → IsSome (get m.tree.nodes k)
    copy_there p k e = path_there m.tree c.filled.tree p ROOT k (directory_there m.tree ROOT c.filled.tree.root) e

    -- a path leads to a node and its copy, or nowhere in both trees
    abbrev Both : Path → Type 0
    Both p =
        ((k : ℕ) × (node_at t ROOT p ≡ Some (c.origin k)) × (node_at m.tree ROOT p ≡ Some k))
        ⊎ ((node_at t ROOT p ≡ None) × (node_at m.tree ROOT p ≡ None))

    both : (p : Path) → Both p
    both p =
        elim (node_at t ROOT p) as (λ o. node_at t ROOT p ≡ o → Both p) [
          | Some n ↦ λ e. let one = copy_at p n e in inl (one.0, origin_leads t (paths_of t) m c p one.0 one.1, one.1)
          | None ↦ λ none. inr (
            none,
            elim (node_at m.tree ROOT p) as (λ o. node_at m.tree ROOT p ≡ o → o ≡ None) [
              | None ↦ λ _. refl
              | Some k ↦ λ e. absurd (none_some (c.origin k) (sym none ∙ origin_leads t (paths_of t) m c p k e))
            ] refl,
          )
        ] refl

    kinds_same : (p : Path) → kind_at t p ≡ kind_at m.tree p
    kinds_same p =
        elim (both p) [
          | inl there ↦ ap (λ (o : Option ℕ). o >>= λ n. kind_of t n) there.1 ∙ sym (c.kinds there.0 (copy_there p there.0 there.2))
              ∙ sym (ap (λ (o : Option ℕ). o >>= λ n. kind_of m.tree n) there.2)
          | inr none ↦ ap (λ (o : Option ℕ). o >>= λ n. kind_of t n) none.0 ∙ sym (ap (λ (o : Option ℕ). o >>= λ n. kind_of m.tree n) none.1)
        ]

    file_copy : (p : Path) (k : ℕ) → node_at m.tree ROOT p ≡ Some k → is_file m.tree k ≡ is_file t (c.origin k)
    file_copy p k e = same_file m.tree t k (c.origin k) (c.kinds k (copy_there p k e))

    files_stay : (p q : Path) → AreOfOneFile t p q → AreOfOneFile m.tree p q
    files_stay p q one =
        let first = copy_at p one.file one.first in
        let second = copy_at q one.file one.second in
        let is = file_copy p first.0 first.1 ∙ ap (is_file t) first.2 ∙ one.is_one in
        let also = file_copy q second.0 second.1 ∙ ap (is_file t) second.2 ∙ one.is_one in
        let same = c.one_copy second.0 first.0 also is (second.2 ∙ sym first.2) in
        record { file = first.0; is_one = is; first = first.1; second = second.1 ∙ ap (λ (k : ℕ). Some k) same }

    files_before : (p q : Path) → AreOfOneFile m.tree p q → AreOfOneFile t p q
    files_before p q one = record {
      file = c.origin one.file;
      is_one = sym (file_copy p one.file one.first) ∙ one.is_one;
      first = origin_leads t (paths_of t) m c p one.file one.first;
      second = origin_leads t (paths_of t) m c q one.file one.second;
    }

    same_tree : IsSameTree t m.tree
    same_tree = record {
      leads = λ p. elim (both p) [
        | inl there ↦ ap is_some there.1 ∙ sym (ap is_some there.2)
        | inr none ↦ ap is_some none.0 ∙ sym (ap is_some none.1)
      ];
      kinds = kinds_same;
      files = λ p q. (files_stay p q, files_before p q);
    }

-- ---- what is printed

ok_is : (t u : Tree) → ◌≡◌ {A = Result Tree ℕ} (Ok t) (Ok u) → t ≡ u
ok_is t u e = cc

ok_err : (t : Tree) (byte : ℕ) → ◌≡◌ {A = Result Tree ℕ} (Ok t) (Err byte) → ⊥
ok_err t byte e = cc

module _ (times : Times) (t : Tree) (h : IsTree t) (kept : KeepsLimits t) where
  rows_printed : printed t ≡ document (all_read t h kept times).records
  rows_printed = ap (rows_text t []) (paths_listing t kept.names) ∙ (all_read t h kept times).text

  pub printed_document : (rs : List Record) × AreAllowed (start times) rs × (printed t ≡ document rs)
      × (map (λ r. path_bytes (path_of r)) rs ≡ map (λ row. row.0) (listing t))
  printed_document =
      let read = all_read t h kept times in
      (read.records, read.allowed, rows_printed, read.paths ∙ ap (map (λ row. row.0)) (sym (paths_listing t kept.names)))

  pub reads_back : (u : Tree) × Means times (printed t) u × IsSameTree t u
  reads_back =
      let read = all_read t h kept times in (
        (with_records (start times) read.records).tree,
        record { records = read.records; allowed = read.allowed; text = rows_printed; tree = refl },
        same_tree t h (with_records (start times) read.records) read.copy,
      )

  -- so what is read of it is the same tree
  pub read_back : (read : Result Tree (Stop TreeDocFault)) → Gives read (meaning times (printed t)) → IsSameOrLacking t read
  read_back (Ok u) gives =
      let same = meaning_of times (printed t) reads_back.0 reads_back.1 in
      subst (IsSameTree t) (ok_is reads_back.0 u (sym same ∙ gives)) reads_back.2
  read_back (Err (At fault)) gives = absurd (ok_err reads_back.0 fault.byte (sym (meaning_of times (printed t) reads_back.0 reads_back.1) ∙ gives))
  read_back (Err Memory) gives = refl
