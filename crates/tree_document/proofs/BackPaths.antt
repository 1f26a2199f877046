-- Where paths lead in a tree.
--     leads_on, leads_last, splits_last      a path behind another;  a path with one more name
--     image      paths in a tree whose names are those of another
--     path_there, path_deepens      what a path leads to is there, and deeper by each name
--     one_path      one path leads to a directory
use Rattle.std.proofs.Common.{◌≡◌, ◌⊎◌, inl, inr, ℕ, zero, suc, ◌+◌, ◌≤◌, true, List, [], ◌∷◌, ◌++◌, length, Option, Some, None, IsSome, refl, sym, ap, subst, ◌∙◌, length-append, arith}
use Rattle.std.specs.FinMap.{get}
use Rattle.lists.specs.Options.{◌>>=◌}
use Rattle.lists.proofs.Chosen.{some_is}
use Rattle.lists.proofs.OptionSteps.{bind_some}
use Rattle.tree_model.specs.declared.limits.TheConstants.{ROOT}
use Rattle.tree_model.specs.Climbing.{climb_shortens, depth, no_parent, single_name}
use Rattle.tree_model.specs.Facts.{directory_of_name}
use Rattle.tree_model.specs.Tree.{HasName, IsTree, Tree, entry_of, is_directory}
use Rattle.tree_records.specs.Paths.{Path}
use Rattle.tree_document.specs.Building.{node_at}

-- ---- a path behind another

pub leads_on : (t : Tree) (d : ℕ) (p q : Path) → node_at t d (p ++ q) ≡ (node_at t d p >>= λ x. node_at t x q)
leads_on t d [] q = refl
leads_on t d (name ∷ p) q =
    elim (entry_of t d name) as (λ o. (o >>= λ n. node_at t n (p ++ q)) ≡ ((o >>= λ n. node_at t n p) >>= λ x. node_at t x q)) [
      | None ↦ refl
      | Some n ↦ leads_on t n p q
    ]

pub leads_last : (t : Tree) (d : ℕ) (p : Path) (name : List ℕ) (x n : ℕ) → node_at t d p ≡ Some x → HasName t x name n → node_at t d (p ++ name ∷ []) ≡ Some n
leads_last t d p name x n e named =
    leads_on t d p (name ∷ []) ∙ ap (λ (o : Option ℕ). o >>= λ y. node_at t y (name ∷ [])) e ∙ ap (λ (o : Option ℕ). o >>= λ y. node_at t y []) named

pub splits_last : (t : Tree) (d : ℕ) (p : Path) (name : List ℕ) (n : ℕ) → node_at t d (p ++ name ∷ []) ≡ Some n
    → (x : ℕ) × (node_at t d p ≡ Some x) × HasName t x name n
splits_last t d p name n e =
    let one = bind_some (node_at t d p) (λ x. node_at t x (name ∷ [])) n (sym (leads_on t d p (name ∷ [])) ∙ e) in
    let two = bind_some (entry_of t one.0 name) (λ y. node_at t y []) n one.2 in
    (one.0, one.1, two.1 ∙ two.2)

-- a path is empty, or has a last name
pub last_of : (p : Path) → (p ≡ []) ⊎ ((q : Path) × (name : List ℕ) × (p ≡ q ++ name ∷ []))
last_of [] = inl refl
last_of (name ∷ more) =
    inr (elim (last_of more) [
      | inl none ↦ ([], name, ap (λ (r : Path). name ∷ r) none)
      | inr some ↦ (name ∷ some.0, some.1, ap (λ (r : Path). name ∷ r) some.2)
    ])

-- ---- names that are those of another tree

pub image : (t u : Tree) (f : ℕ → ℕ) → ((d : ℕ) (name : List ℕ) (n : ℕ) → HasName t d name n → HasName u (f d) name (f n))
    → (p : Path) (d n : ℕ) → node_at t d p ≡ Some n → node_at u (f d) p ≡ Some (f n)
image t u f names [] d n e = ap (λ (x : ℕ). Some (f x)) (some_is d n e)
image t u f names (name ∷ more) d n e =
    let one = bind_some (entry_of t d name) (λ x. node_at t x more) n e in
    ap (λ (o : Option ℕ). o >>= λ x. node_at u x more) (names d name one.0 one.1) ∙ image t u f names more one.0 n one.2

module _ (t : Tree) (h : IsTree t) where
  -- ---- what a path leads to

  pub path_there : (p : Path) (d n : ℕ) → IsSome (get t.nodes d) → node_at t d p ≡ Some n → IsSome (get t.nodes n)
  path_there [] d n there e = subst (λ (x : ℕ). IsSome (get t.nodes x)) (some_is d n e) there
  path_there (name ∷ more) d n there e =
      let one = bind_some (entry_of t d name) (λ x. node_at t x more) n e in
      path_there more one.0 n (h.led d name one.0 one.1) one.2

  pub path_deepens : (p : Path) (d n : ℕ) → node_at t d p ≡ Some n → depth t d + length p ≤ depth t n
  path_deepens [] d n e = let same = ap (depth t) (some_is d n e) in omega arith
  path_deepens (name ∷ more) d n e =
      let one = bind_some (entry_of t d name) (λ x. node_at t x more) n e in
      let first = climb_shortens t h d name one.0 one.1 in
      let rest = path_deepens more one.0 n one.2 in
      omega arith

  -- ---- one path leads to a directory

  -- the root has the empty path alone
  root_path : (q : Path) → node_at t ROOT q ≡ Some ROOT → [] ≡ q
  root_path q e =
      elim (last_of q) [
        | inl none ↦ sym none
        | inr some ↦
            let up = splits_last t ROOT some.0 some.1 ROOT (ap (node_at t ROOT) (sym some.2) ∙ e) in
            absurd (no_parent t h ROOT (inr refl) up.0 some.1 up.2)
      ]

  one_within : (most : ℕ) (x : ℕ) (p q : Path) → length p ≤ most → is_directory t x ≡ true → node_at t ROOT p ≡ Some x → node_at t ROOT q ≡ Some x → p ≡ q
  one_within most x [] q few is e f = root_path q (f ∙ sym e)
  one_within zero x (name ∷ more) q few is e f = absurd (omega arith)
  one_within (suc most) x (name ∷ more) q few is e f =
      elim (last_of (name ∷ more)) [
        | inl none ↦ absurd cc
        | inr some ↦
            let up = splits_last t ROOT some.0 some.1 x (ap (node_at t ROOT) (sym some.2) ∙ e) in
            elim (last_of q) [
              | inl none ↦ absurd (no_parent t h x (inr (some_is x ROOT (sym f ∙ ap (node_at t ROOT) none))) up.0 some.1 up.2)
              | inr other ↦
                  let back = splits_last t ROOT other.0 other.1 x (ap (node_at t ROOT) (sym other.2) ∙ f) in
                  let same = single_name t h x is up.0 some.1 back.0 other.1 up.2 back.2 in
                  let size = ap length some.2 ∙ length-append some.0 (some.1 ∷ []) in
                  let above = one_within most up.0 some.0 other.0 (omega arith) (directory_of_name t h up.0 some.1 x up.2) up.1
                  (back.1 ∙ ap (λ (y : ℕ). Some y) (sym same.0)) in
                  some.2 ∙ ap (λ (r : Path). r ++ some.1 ∷ []) above ∙ ap (λ (last : List ℕ). other.0 ++ last ∷ []) same.1 ∙ sym other.2
            ]
      ]

  pub one_path : (x : ℕ) (p q : Path) → is_directory t x ≡ true → node_at t ROOT p ≡ Some x → node_at t ROOT q ≡ Some x → p ≡ q
  one_path x p q is e f = one_within (length p) x p q (omega arith) is e f
