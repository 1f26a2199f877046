-- No node has more rows than it counts names.
use Rattle.std.proofs.Common.{◌≡◌, ◌⊎◌, inl, inr, ℕ, ◌+◌, ◌≤◌, List, [], ◌∷◌, ◌++◌, Some, sym, ap, ◌∙◌, append_assoc, append-nil, arith}
use Rattle.maps.specs.Maps.{weight}
use Rattle.lists.proofs.Chosen.{some_is}
use Rattle.tree_model.specs.declared.limits.TheConstants.{ROOT}
use Rattle.tree_model.specs.Changes.{drop_name}
use Rattle.tree_model.specs.Counts.{names_count-drop_name}
use Rattle.tree_model.specs.Entries.{entry_of-drop_name-other, same_place_or_not}
use Rattle.tree_model.specs.Facts.{counts_names}
use Rattle.tree_model.specs.Tree.{HasName, IsTree, Tree, entry_of, links_of, names_count, one_for}
use Rattle.tree_records.specs.Paths.{Path}
use Rattle.tree_document.specs.Building.{node_at}
use Rattle.tree_document.proofs.BackRows.{AreNext, IsNext, Listed, PathRow, listed_back, listed_front, name_new, paths_next, paths_of}

-- how many rows are of the node
abbrev pub rows_count : ℕ → List PathRow → ℕ
rows_count n [] = 0
rows_count n (row ∷ rows) = one_for n row.1 + rows_count n rows

pub rows_count-append : (n : ℕ) (rows more : List PathRow) → rows_count n (rows ++ more) ≡ rows_count n rows + rows_count n more
rows_count-append n [] more = omega arith
rows_count-append n (row ∷ rows) more = let later = rows_count-append n rows more in omega arith

module _ (t : Tree) (h : IsTree t) where
  -- u is the tree t without the names of these rows
  record Without (before : List PathRow) (u : Tree) : Type 0 where
    counted : (n : ℕ) → names_count u n + rows_count n before ≡ names_count t n
    left : (d : ℕ) (name : List ℕ) (n : ℕ) → HasName t d name n
        → HasName u d name n ⊎ ((p : Path) × (node_at t ROOT p ≡ Some d) × Listed before (p ++ name ∷ []) n)

  without_none : Without [] t
  without_none = record { counted = λ n. omega arith; left = λ d name n named. inl named }

  module _ (before : List PathRow) (p : Path) (n : ℕ) (u : Tree) (next : IsNext t before p n) (w : Without before u) where
    still_there : HasName u next.directory next.name n
    still_there =
        elim (w.left next.directory next.name n next.named) [
          | inl there ↦ there
          | inr row ↦ absurd (name_new t h before p n next row.0 n row.1 row.2)
        ]

    without_more : Without (before ++ (p, n) ∷ []) (drop_name u next.directory next.name)
    without_more = record {
      counted = λ q.
          let names = names_count-drop_name u next.directory next.name q in
          let one = ap (weight (one_for q)) still_there in
          let rows = rows_count-append q before ((p, n) ∷ []) in
          let all = w.counted q in
          omega arith;
      left = λ d name m named. elim (w.left d name m named) [
        | inl there ↦ elim (same_place_or_not next.directory next.name d name) [
          | inl same ↦ inr (
            next.above,
            next.leads ∙ ap (λ (x : ℕ). Some x) (sym same.0),
            listed_back before ((p, n) ∷ []) (next.above ++ name ∷ []) m
                (inl (
                  next.path ∙ ap (λ (last : List ℕ). next.above ++ last ∷ []) (sym same.1),
                  some_is n m
                      (sym next.named ∙ ap (entry_of t next.directory) (sym same.1) ∙ ap (λ (x : ℕ). entry_of t x name) (sym same.0) ∙ named),
                )),
          )
          | inr away ↦ inl (entry_of-drop_name-other u next.directory next.name d name away ∙ there)
        ]
        | inr row ↦ inr (row.0, row.1, listed_front before ((p, n) ∷ []) (row.0 ++ name ∷ []) m row.2)
      ];
    }

  few_within : (rows before : List PathRow) (u : Tree) → AreNext t before rows → Without before u → (n : ℕ) → rows_count n (before ++ rows) ≤ names_count t n
  few_within [] before u next w n = let same = ap (rows_count n) (append-nil before) in let all = w.counted n in omega arith
  few_within (row ∷ rows) before u next w n =
      let same = ap (rows_count n) (append_assoc before (row ∷ []) rows) in
      let later = few_within rows (before ++ row ∷ []) (drop_name u next.0.directory next.0.name) next.1 (without_more before row.0 row.1 u next.0 w) n in
      omega arith

  pub few_rows : (n : ℕ) → rows_count n (paths_of t) ≤ links_of t n
  few_rows n =
      let few = few_within (paths_of t) [] t (paths_next t) without_none n in
      let counts = counts_names t h n in
      omega arith
