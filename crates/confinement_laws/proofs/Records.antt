-- The records of one node's names in the documents of two trees.
--     paths_to n rows      the paths of the node's rows, in their order
--     has_record      a record of the node is one in each tree that has the same paths of the node in this order, and the same node
--     same_listing      trees that have the same names in all directories above a node list the same paths of it, in the same order
--     same_records      so they have the same records of it
use Rattle.std.proofs.Common.{◌≡◌, ◌≢◌, ◌⊎◌, inl, inr, ℕ, zero, suc, ◌+◌, ◌<◌, ◌≤◌, ◌==◌, Bool, true, false, cond, if◌then◌else◌, List, [], ◌∷◌, ◌++◌, flat_map, Option, Some, None, refl, sym, ap, subst, ◌∙◌, arith}
use Rattle.std.proofs.lemmas.Bool.{eq-eqb}
use Rattle.std.proofs.lemmas.Bool.Decides.{eqb_tells}
use Rattle.std.specs.FinMap.{entries, get, len}
use Rattle.std.specs.List.{AllByRecursion}
use Rattle.lists.proofs.Chosen.{some_is}
use Rattle.maps.specs.Names.{same_or_not}
use Rattle.tree_model.specs.declared.limits.TheConstants.{ROOT}
use Rattle.tree_model.specs.Climbing.{climb_shortens, depth}
use Rattle.tree_model.specs.Tree.{Tree, HasName, IsTree, names_in, names_of}
use Rattle.tree_document.specs.Left.{Entries, reach, rows_of}
use Rattle.tree_document.specs.Printing.{Row, below_path, first_in, listed, listing, node_text}
use Rattle.tree_document.proofs.Rows.{depth_least, entries_got, listing_rows, reach_rows}
use Rattle.confinement_laws.specs.Untouched.{HasRecord, HasSameRecords}

-- ---- the paths of one node among rows

abbrev pub Paths : Type 0
Paths = List (List ℕ)

abbrev with_path : Bool → List ℕ → Paths → Paths
with_path is path paths = if is then path ∷ paths else paths

-- the paths of the node's rows, in their order
abbrev pub paths_to : ℕ → List Row → Paths
paths_to n [] = []
paths_to n (row ∷ rows) = with_path (row.1 == n) row.0 (paths_to n rows)

abbrev first_of : Paths → Option (List ℕ)
first_of [] = None
first_of (path ∷ paths) = Some path

abbrev later_of : Paths → Paths
later_of [] = []
later_of (path ∷ paths) = paths

with_path-append : (is : Bool) (path : List ℕ) (paths more : Paths) → with_path is path (paths ++ more) ≡ with_path is path paths ++ more
with_path-append true path paths more = refl
with_path-append false path paths more = refl

paths_to-append : (n : ℕ) (rows more : List Row) → paths_to n (rows ++ more) ≡ paths_to n rows ++ paths_to n more
paths_to-append n [] more = refl
paths_to-append n (row ∷ rows) more =
    ap (with_path (row.1 == n) row.0) (paths_to-append n rows more) ∙ with_path-append (row.1 == n) row.0 (paths_to n rows) (paths_to n more)

-- a row of another node adds no path
paths_to-other : (n : ℕ) (row : Row) (rows : List Row) → row.1 ≢ n → paths_to n (row ∷ rows) ≡ paths_to n rows
paths_to-other n row rows other =
    elim (eqb_tells row.1 n) [
      | inl is ↦ absurd (other is.1)
      | inr is ↦ ap (λ (b : Bool). with_path b row.0 (paths_to n rows)) is.0
    ]

-- a row of the node adds its path
paths_to-here : (n : ℕ) (path : List ℕ) (front back : List Row) → paths_to n (front ++ (path, n) ∷ back) ≡ paths_to n front ++ path ∷ paths_to n back
paths_to-here n path front back =
    paths_to-append n front ((path, n) ∷ back)
    ∙ ap (λ (b : Bool). paths_to n front ++ with_path b path (paths_to n back)) (eq-eqb n n refl)

first_with : (is : Bool) (path : List ℕ) (paths : Paths) → cond is (Some path) (first_of paths) ≡ first_of (with_path is path paths)
first_with true path paths = refl
first_with false path paths = refl

-- the path of the node's first name is the first of them
first_in-paths : (n : ℕ) (rows : List Row) → first_in rows n ≡ first_of (paths_to n rows)
first_in-paths n [] = refl
first_in-paths n (row ∷ rows) = ap (cond (row.1 == n) (Some row.0)) (first_in-paths n rows) ∙ first_with (row.1 == n) row.0 (paths_to n rows)

-- ---- where a path stands among them, a row stands among the rows

-- the node has a row with this path, behind rows that have these paths of it
abbrev HasRow : ℕ → List ℕ → List Row → Paths → Type 0
HasRow n path rows before = (front : List Row) × (back : List Row) × (rows ≡ front ++ (path, n) ∷ back) × (paths_to n front ≡ before)

row_of_node : (n : ℕ) (path : List ℕ) (row : Row) (rows : List Row) (before after : Paths) → (row.1 == n) ≡ true → row.1 ≡ n
    → ((earlier : Paths) → paths_to n rows ≡ earlier ++ path ∷ after → HasRow n path rows earlier)
    → paths_to n (row ∷ rows) ≡ before ++ path ∷ after → HasRow n path (row ∷ rows) before
row_of_node n path row rows [] after is same later e =
    let seen : row.0 ∷ paths_to n rows ≡ path ∷ after = sym (ap (λ (b : Bool). with_path b row.0 (paths_to n rows)) is) ∙ e in
    let own : row.0 ≡ path = some_is row.0 path (ap first_of seen) in
    ([], rows, ap (λ (p : List ℕ). (p, row.1) ∷ rows) own ∙ ap (λ (m : ℕ). (path, m) ∷ rows) same, refl)
row_of_node n path row rows (one ∷ more) after is same later e =
    let seen : row.0 ∷ paths_to n rows ≡ one ∷ (more ++ path ∷ after) = sym (ap (λ (b : Bool). with_path b row.0 (paths_to n rows)) is) ∙ e in
    let own : row.0 ≡ one = some_is row.0 one (ap first_of seen) in
    let rest = later more (ap later_of seen) in (
      row ∷ rest.0,
      rest.1,
      ap (λ (all : List Row). row ∷ all) rest.2,
      ap (λ (b : Bool). with_path b row.0 (paths_to n rest.0)) is ∙ ap (λ (p : List ℕ). p ∷ paths_to n rest.0) own
          ∙ ap (λ (paths : Paths). one ∷ paths) rest.3,
    )

has_row : (n : ℕ) (path : List ℕ) (rows : List Row) (before after : Paths) → paths_to n rows ≡ before ++ path ∷ after → HasRow n path rows before
has_row n path [] [] after e = absurd cc
has_row n path [] (one ∷ more) after e = absurd cc
has_row n path (row ∷ rows) before after e =
    elim (eqb_tells row.1 n) [
      | inl is ↦ row_of_node n path row rows before after is.0 is.1 (λ earlier. has_row n path rows earlier after) e
      | inr is ↦
          let rest = has_row n path rows before after (sym (ap (λ (b : Bool). with_path b row.0 (paths_to n rows)) is.0) ∙ e) in
          (row ∷ rest.0, rest.1, ap (λ (all : List Row). row ∷ all) rest.2, ap (λ (b : Bool). with_path b row.0 (paths_to n rest.0)) is.0 ∙ rest.3)
    ]

-- ---- one record

-- a record of the node is one in each tree that has the same paths of the node in this order, and the same node
pub has_record : (t u : Tree) (n : ℕ) → paths_to n (listing t) ≡ paths_to n (listing u) → get t.nodes n ≡ get u.nodes n → (path text : List ℕ)
    → HasRecord t path n text → HasRecord u path n text
has_record t u n paths node path text r =
    let row = has_row n path (listing u) (paths_to n r.before) (paths_to n r.after)
    (sym paths ∙ ap (paths_to n) r.listed ∙ paths_to-here n path r.before r.after) in
    let first : first_in r.before n ≡ first_in row.0 n = first_in-paths n r.before ∙ ap first_of (sym row.3) ∙ sym (first_in-paths n row.0) in
    record {
      before = row.0;
      after = row.1;
      listed = row.2;
      text_is = r.text_is ∙ ap (λ (o : Option (List ℕ)). node_text o path (get t.nodes n)) first ∙ ap (node_text (first_in row.0 n) path) node;
    }

-- ---- equal or not

equal_or_not : (some others : Paths) → (some ≡ others) ⊎ (some ≢ others)
equal_or_not [] [] = inl refl
equal_or_not [] (y ∷ ys) = inr (λ e. cc)
equal_or_not (x ∷ xs) [] = inr (λ e. cc)
equal_or_not (x ∷ xs) (y ∷ ys) =
    elim (same_or_not x y) [
      | inr other ↦ inr (λ e. other (some_is x y (ap first_of e)))
      | inl same ↦ elim (equal_or_not xs ys) [
        | inl more ↦ inl (ap (λ (p : List ℕ). p ∷ xs) same ∙ ap (λ (paths : Paths). y ∷ paths) more)
        | inr other ↦ inr (λ e. other (ap later_of e))
      ]
    ]

-- They are equal if they are where P holds and where it doesn't, though it is not known which it is.
equal_either_way : (P : Type 0) (some others : Paths) → (P → some ≡ others) → ((P → ⊥) → some ≡ others) → some ≡ others
equal_either_way P some others within beyond =
    elim (equal_or_not some others) [ inl e ↦ e | inr apart ↦ absurd (apart (beyond (λ p. apart (within p)))) ]

-- ---- outside of a set of nodes

-- These nodes have names only in directories that are among them.
abbrev pub IsClosedUp : Tree → (ℕ → Type 0) → Type 0
IsClosedUp t Z = (d : ℕ) (name : List ℕ) (m : ℕ) → Z m → HasName t d name m → Z d

module _ (t : Tree) (Z : ℕ → Type 0) (closed : IsClosedUp t Z) (n : ℕ) (own : Z n) where
  outside_in : (most : ℕ) (path : List ℕ) (d : ℕ) (es : Entries) → (Z d → ⊥) → AllByRecursion (λ e. get (names_of t d) e.0 ≡ Some e.1) es
      → ((p : List ℕ) (m : ℕ) → (Z m → ⊥) → paths_to n (listed most t p m) ≡ [])
      → paths_to n (flat_map (λ e. (below_path path e.0, e.1) ∷ listed most t (below_path path e.0) e.1) es) ≡ []
  outside_in most path d [] away all below = refl
  outside_in most path d (e ∷ es) away all below =
      let p = below_path path e.0 in
      let under = listed most t p e.1 in
      let others = flat_map (λ x. (below_path path x.0, x.1) ∷ listed most t (below_path path x.0) x.1) es in
      let out : Z e.1 → ⊥ = λ z. away (closed d e.0 e.1 z all.0) in
      paths_to-other n (p, e.1) (under ++ others) (λ same. out (subst Z (sym same) own))
      ∙ paths_to-append n under others
      ∙ ap (λ (paths : Paths). paths ++ paths_to n others) (below p e.1 out)
      ∙ outside_in most path d es away all.1 below

  -- from what is not among them no names lead to one of them
  outside : (most : ℕ) (path : List ℕ) (d : ℕ) → (Z d → ⊥) → paths_to n (listed most t path d) ≡ []
  outside zero path d away = refl
  outside (suc most) path d away =
      outside_in most path d (entries (names_of t d)) away (entries_got (names_of t d)) (λ p m. outside most p m)

-- ---- within it

module _ (t u : Tree) (h : IsTree t) (k : IsTree u) (Z : ℕ → Type 0) (closed : IsClosedUp t Z) (closed' : IsClosedUp u Z)
    (names : (d : ℕ) → Z d → get t.names d ≡ get u.names d) (n : ℕ) (own : Z n) where
  -- both trees list the same paths of the node below the node d
  abbrev ListsSame : List ℕ → ℕ → Type 0
  ListsSame path d = paths_to n (listed (reach t d) t path d) ≡ paths_to n (listed (reach u d) u path d)

  same_in : (path : List ℕ) (d : ℕ) (es : Entries) → AllByRecursion (λ e. get (names_of t d) e.0 ≡ Some e.1) es
      → ((p : List ℕ) (m : ℕ) → depth t d < depth t m → ListsSame p m) → paths_to n (rows_of t path es) ≡ paths_to n (rows_of u path es)
  same_in path d [] all below = refl
  same_in path d (e ∷ es) all below =
      let p = below_path path e.0 in
      let under = listed (reach t e.1) t p e.1 in
      let under' = listed (reach u e.1) u p e.1 in
      ap (with_path (e.1 == n) p) (
      paths_to-append n under (rows_of t path es)
      ∙ ap (λ (paths : Paths). paths ++ paths_to n (rows_of t path es)) (below p e.1 (climb_shortens t h d e.0 e.1 all.0))
      ∙ ap (λ (paths : Paths). paths_to n under' ++ paths) (same_in path d es all.1 below)
      ∙ sym (paths_to-append n under' (rows_of u path es))
      )

  same_at : (path : List ℕ) (d : ℕ) → ((p : List ℕ) (m : ℕ) → depth t d < depth t m → ListsSame p m) → ListsSame path d
  same_at path d below =
      equal_either_way (Z d) (paths_to n (listed (reach t d) t path d)) (paths_to n (listed (reach u d) u path d))
      (λ z. ap (paths_to n) (reach_rows t h path d)
      ∙ same_in path d (entries (names_of t d)) (entries_got (names_of t d)) below
      ∙ ap (λ o. paths_to n (rows_of u path (entries (names_in o)))) (names d z)
      ∙ sym (ap (paths_to n) (reach_rows u k path d)))
      (λ away. outside t Z closed n own (reach t d) path d away ∙ sym (outside u Z closed' n own (reach u d) path d away))

  -- no chain of names is longer than there are nodes
  same_below : (most : ℕ) (path : List ℕ) (d : ℕ) → len t.nodes ≤ most + depth t d → ListsSame path d
  same_below zero path d far = same_at path d (λ p m more. let least = depth_least t m in absurd (omega arith))
  same_below (suc most) path d far = same_at path d (λ p m more. same_below most p m (omega arith))

  -- both documents have the same paths of the node, in the same order
  pub same_listing : paths_to n (listing t) ≡ paths_to n (listing u)
  same_listing =
      ap (paths_to n) (listing_rows t h ∙ sym (reach_rows t h [] ROOT))
      ∙ same_below (len t.nodes) [] ROOT (omega arith)
      ∙ ap (paths_to n) (reach_rows u k [] ROOT ∙ sym (listing_rows u k))

-- ---- all records of a node

-- Where both trees have the same nodes and the same names of a set of nodes, whose names stand in both trees only in directories of the
-- set, their documents have the same records of each of these nodes.
pub same_records : (t u : Tree) (Z : ℕ → Type 0) → IsTree t → IsTree u
    → ((d : ℕ) (name : List ℕ) (n : ℕ) → Z n → HasName t d name n → Z d)
    → ((d : ℕ) (name : List ℕ) (n : ℕ) → Z n → HasName u d name n → Z d)
    → ((n : ℕ) → Z n → get t.nodes n ≡ get u.nodes n) → ((n : ℕ) → Z n → get t.names n ≡ get u.names n)
    → (n : ℕ) → Z n → HasSameRecords t u n
same_records t u Z h k closed closed' nodes names n own path text =
    let paths = same_listing t u h k Z closed closed' names n own in (
      has_record t u n paths (nodes n own) path text,
      has_record u t n (sym paths) (sym (nodes n own)) path text,
    )
