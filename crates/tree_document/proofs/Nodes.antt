-- Each row of a tree's listing has a node.
use Rattle.std.proofs.Common.{◌≡◌, ℕ, zero, suc, List, [], ◌∷◌, ◌++◌, Some, IsSome, subst}
use Rattle.std.specs.FinMap.{entries, get, len}
use Rattle.std.specs.List.{AllByRecursion, flat_map}
use Rattle.tree_model.specs.declared.limits.TheConstants.{ROOT}
use Rattle.tree_model.specs.Tree.{IsTree, Tree, names_of}
use Rattle.tree_document.specs.Left.{Entries}
use Rattle.tree_document.specs.Printing.{Row, below_path, listed, listing}
use Rattle.tree_document.proofs.Rows.{entries_got}

abbrev pub HasNode : Tree → Row → Type 0
HasNode t row = IsSome (get t.nodes row.1)

pub all_both : (P : Row → Type 0) (rows more : List Row) → AllByRecursion P rows → AllByRecursion P more → AllByRecursion P (rows ++ more)
all_both P [] more h k = k
all_both P (row ∷ rows) more h k = (h.0, all_both P rows more h.1 k)

module _ (t : Tree) (h : IsTree t) where
  rows_there : (f : ℕ) (path : List ℕ) (n : ℕ) (es : Entries) → ((p : List ℕ) (m : ℕ) → AllByRecursion (HasNode t) (listed f t p m))
      → AllByRecursion (λ e. get (names_of t n) e.0 ≡ Some e.1) es
      → AllByRecursion (HasNode t) (flat_map (λ e. (below_path path e.0, e.1) ∷ listed f t (below_path path e.0) e.1) es)
  rows_there f path n [] below all = tt
  rows_there f path n (e ∷ es) below all = (
    h.led n e.0 e.1 all.0,
    all_both (HasNode t) (listed f t (below_path path e.0) e.1) (flat_map (λ e. (below_path path e.0, e.1) ∷ listed f t (below_path path e.0) e.1) es)
        (below (below_path path e.0) e.1) (rows_there f path n es below all.1),
  )

  pub listed_there : (f : ℕ) (path : List ℕ) (n : ℕ) → AllByRecursion (HasNode t) (listed f t path n)
  listed_there zero path n = tt
  listed_there (suc f) path n = rows_there f path n (entries (names_of t n)) (listed_there f) (entries_got (names_of t n))

  -- a row that others stand before has one
  middle : (rows : List Row) (row : Row) (more : List Row) → AllByRecursion (HasNode t) (rows ++ row ∷ more) → HasNode t row
  middle [] row more all = all.0
  middle (first ∷ rows) row more all = middle rows row more all.1

  pub row_there : (rows : List Row) (row : Row) (more : List Row) → listing t ≡ rows ++ row ∷ more → HasNode t row
  row_there rows row more is = middle rows row more (subst (AllByRecursion (HasNode t)) is (listed_there (len t.nodes) [] ROOT))
