-- What is printed, one name more at a time.
use Rattle.std.proofs.Common.{◌≡◌, ◌≢◌, ℕ, ◌+◌, ◌≤◌, true, false, eqb, if◌then◌else◌, List, [], ◌∷◌, ◌++◌, length, Option, None, Some, Result, Ok, Err, inl, inr, refl, sym, ap, ◌∙◌, append_assoc, length-append, arith}
use Rattle.std.specs.Prelude.{OnOk}
use Rattle.std.specs.FinMap.{empty, get, get-empty, insert}
use Rattle.std.specs.Ordering.{nat_cmp}
use Rattle.std.proofs.lemmas.Bool.{eq-eqb, false≢true, ne_eqb}
use Rattle.std.proofs.lemmas.Bool.Decides.{eqb_tells}
use Rattle.std.proofs.lemmas.List.{append-nil}
use Rattle.maps.specs.Maps.{get-insert-other, get-insert-same}
use Rattle.abi_types.specs.declared.node.Node.{Node}
use Rattle.abi_types.specs.declared.node.NodeKind.{NodeKind}
use Rattle.abi_types.specs.declared.node.NodeKind.TheVariants as kind
use Rattle.tree_model.specs.Tree.{Tree}
use Rattle.tree_model.specs.Changes.{is_file, is_file_kind, is_file_node}
use Rattle.tree_document.specs.Printing.{Row, first_in, kind_text, node_text, row_text, rows_text}
use Rattle.tree_document.specs.Left.{Firsts, IsPrinted, with_first, with_first_in}

rows_text_push : (t : Tree) (before rows : List Row) (row : Row)
    → rows_text t before (rows ++ row ∷ []) ≡ rows_text t before rows ++ row_text t (before ++ rows) row
rows_text_push t before [] row = append-nil (row_text t before row) ∙ ap (λ (bs : List Row). row_text t bs row) (sym (append-nil before))
rows_text_push t before (first ∷ rows) row =
    ap (λ (text : List ℕ). row_text t before first ++ text)
    (rows_text_push t (before ++ first ∷ []) rows row
    ∙ ap (λ (bs : List Row). rows_text t (before ++ first ∷ []) rows ++ row_text t bs row) (append_assoc before (first ∷ []) rows))
    ∙ sym (append_assoc (row_text t before first) (rows_text t (before ++ first ∷ []) rows) (row_text t (before ++ first ∷ rows) row))

-- ---- the first names

first_behind : (rows more : List Row) (n : ℕ) → first_in rows n ≡ None → first_in (rows ++ more) n ≡ first_in more n
first_behind [] more n h = refl
first_behind (row ∷ rows) more n h =
    elim (eqb row.1 n) as (λ b. (if b then Some row.0 else first_in rows n) ≡ None → (if b then Some row.0 else first_in (rows ++ more) n) ≡ first_in more n) [
      | true ↦ λ e. absurd cc
      | false ↦ λ e. first_behind rows more n e
    ] h

pub first_stays : (rows more : List Row) (n : ℕ) (path : List ℕ) → first_in rows n ≡ Some path → first_in (rows ++ more) n ≡ Some path
first_stays [] more n path h = absurd cc
first_stays (row ∷ rows) more n path h =
    elim (eqb row.1 n) as (λ b. (if b then Some row.0 else first_in rows n) ≡ Some path → (if b then Some row.0 else first_in (rows ++ more) n) ≡ Some path) [
      | true ↦ λ e. e
      | false ↦ λ e. first_stays rows more n path e
    ] h

pub first_other : (rows : List Row) (path : List ℕ) (m n : ℕ) → m ≢ n → first_in (rows ++ (path, m) ∷ []) n ≡ first_in rows n
first_other [] path m n other = ap (λ b. if b then Some path else None) (ne_eqb m n other)
first_other (row ∷ rows) path m n other = ap (λ (o : Option (List ℕ)). if eqb row.1 n then Some row.0 else o) (first_other rows path m n other)

pub first_here : (rows : List Row) (path : List ℕ) (n : ℕ) → first_in rows n ≡ None → first_in (rows ++ (path, n) ∷ []) n ≡ Some path
first_here rows path n h = first_behind rows ((path, n) ∷ []) n h ∙ ap (λ b. if b then Some path else None) (eq-eqb n n refl)

-- ---- one name more

-- each record has a byte at least
kind_text_some : (first : Option (List ℕ)) (path : List ℕ) (k : NodeKind) → 1 ≤ length (kind_text first path k)
kind_text_some first path kind.Directory = omega arith
kind_text_some first path (kind.Link text) = omega arith
kind_text_some None path (kind.File bytes) = omega arith
kind_text_some (Some first) path (kind.File bytes) = omega arith

pub printed_start : (t : Tree) (bytes : List ℕ) (number : ℕ) (known : Firsts) → bytes ≡ [] → number ≡ 0 → known ≡ empty → IsPrinted t bytes number known []
printed_start t bytes number known none zero no_firsts = record { text = none; counted = zero; few = omega arith; firsts = λ n _. ap (λ (m : Firsts). get m n) no_firsts ∙ get-empty nat_cmp n }

module _ (t : Tree) (rows : List Row) (path : List ℕ) (n : ℕ) (old new : List ℕ) (number : ℕ) (known : Firsts) (h : IsPrinted t old number known rows) where
  text_more : new ≡ old ++ row_text t rows (path, n) → new ≡ rows_text t [] (rows ++ (path, n) ∷ [])
  text_more e = e ∙ ap (λ (text : List ℕ). text ++ row_text t rows (path, n)) h.text ∙ sym (rows_text_push t [] rows (path, n))

  counted_more : number + 1 ≡ length (rows ++ (path, n) ∷ [])
  counted_more = let before = h.counted in let size = length-append rows ((path, n) ∷ []) in omega arith

  few_more : (first : Option (List ℕ)) (k : NodeKind) → new ≡ old ++ kind_text first path k → number + 1 ≤ length new
  few_more first k e =
      let before = h.few in
      let size = ap length e ∙ length-append old (kind_text first path k) in
      let some = kind_text_some first path k in
      omega arith

  -- a name of what is no file
  pub printed_other : (node : Node) → Some node ≡ get t.nodes n → is_file_kind node.kind ≡ false → new ≡ old ++ kind_text (first_in rows n) path node.kind
      → IsPrinted t new (number + 1) known (rows ++ (path, n) ∷ [])
  printed_other node is other e = record {
    text = text_more (e ∙ ap (λ (x : Option Node). old ++ node_text (first_in rows n) path x) is);
    counted = counted_more;
    few = few_more (first_in rows n) node.kind e;
    firsts = λ m file.
        h.firsts m file ∙ sym (first_other rows path n m (λ same. false≢true (sym other ∙ ap is_file_node is ∙ ap (is_file t) same ∙ file)));
  }

  -- a file's first name, and each other name
  known_more : (o : Option (List ℕ)) → get known n ≡ o → is_file t n ≡ true → (m : ℕ) → is_file t m ≡ true
      → get (with_first_in known n path o) m ≡ first_in (rows ++ (path, n) ∷ []) m
  known_more (Some first) e file m other =
      elim (eqb_tells n m) [
        | inl same ↦ ap (get known) (sym same.1) ∙ e ∙ sym (ap (first_in (rows ++ (path, n) ∷ [])) (sym same.1)
            ∙ first_stays rows ((path, n) ∷ []) n first (sym (h.firsts n file) ∙ e))
        | inr apart ↦ h.firsts m other ∙ sym (first_other rows path n m apart.1)
      ]
  known_more None e file m other =
      elim (eqb_tells n m) [
        | inl same ↦ ap (get (insert known n path)) (sym same.1) ∙ get-insert-same known n path
            ∙ sym (ap (first_in (rows ++ (path, n) ∷ [])) (sym same.1) ∙ first_here rows path n (sym (h.firsts n file) ∙ e))
        | inr apart ↦ get-insert-other known n path m (λ same. apart.1 (sym same)) ∙ h.firsts m other ∙ sym (first_other rows path n m apart.1)
      ]

  pub printed_file : (node : Node) (bytes : List ℕ) (plus : ℕ) (more : Firsts) → Some node ≡ get t.nodes n → node.kind ≡ kind.File bytes
      → new ≡ old ++ kind_text (get known n) path (kind.File bytes) → plus ≡ number + 1 → more ≡ with_first known n path
      → IsPrinted t new plus more (rows ++ (path, n) ∷ [])
  printed_file node bytes plus more is file e one knows =
      let here : is_file t n ≡ true = ap is_file_node (sym is) ∙ ap is_file_kind file in
      record {
        text = text_more
            (e ∙ ap (λ (o : Option (List ℕ)). old ++ kind_text o path (kind.File bytes)) (h.firsts n here)
            ∙ ap (λ (k : NodeKind). old ++ kind_text (first_in rows n) path k) (sym file)
            ∙ ap (λ (x : Option Node). old ++ node_text (first_in rows n) path x) is);
        counted = one ∙ counted_more;
        few = let enough = few_more (get known n) (kind.File bytes) e in omega arith;
        firsts = λ m other. ap (λ (x : Firsts). get x m) knows ∙ known_more (get known n) refl here m other;
      }

pub on_ok : {A E : Type 0} {P Q : Type 0} (r : Result A E) → (P → Q) → OnOk r P → OnOk r Q
on_ok (Ok x) f h = f h
on_ok (Err e) f h = tt

pub on_ok_both : {A E : Type 0} {P Q R : Type 0} (r : Result A E) → (P → Q → R) → OnOk r P → OnOk r Q → OnOk r R
on_ok_both (Ok x) f h k = f h k
on_ok_both (Err e) f h k = tt
