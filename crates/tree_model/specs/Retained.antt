-- A tree without some of its nodes that have no name.
--     retained t keep      the tree with those nodes, and the names in those directories, that pass
--     retained-node, retained-names, retained-kind      what it answers
--     retained-tree      it is a tree, where the root and each node that has a name pass
use Rattle.std.proofs.Common.{◌≡◌, ◌↔◌, ℕ, zero, suc, ◌+◌, ◌≤◌, Bool, true, false, cond, List, Option, None, Some, IsSome, is_some, refl, sym, ap, subst, ◌∙◌, arith}
use Rattle.std.proofs.lemmas.Bool.{false≢true}
use Rattle.std.specs.FinMap.{empty, get, retain_keys}
use Rattle.abi_types.specs.declared.node.Node.{Node}
use Rattle.maps.specs.Maps.{get-retain}
use Rattle.tree_model.specs.declared.limits.TheConstants.{ROOT}
use Rattle.tree_model.specs.Tree.{Tree, HasName, IsTree, is_directory, is_directory_node, links_in, links_of, names_in, names_of, one_for}
use Rattle.tree_model.specs.Counts.{names_count-same}
use Rattle.tree_model.specs.Facts.{links_of_named, no_names_in}
use Rattle.tree_model.specs.Heights.{no_cycle-fewer}

-- the tree with those nodes, and the names in those directories, that pass
abbrev pub retained : Tree → (ℕ → Bool) → Tree
retained t keep = record { nodes = retain_keys t.nodes keep; names = retain_keys t.names keep }

-- ---- what it answers

kept_value : {X : Type 0} (b : Bool) (o : Option X) → b ≡ true → cond b o None ≡ o
kept_value true o e = refl
kept_value false o e = absurd (false≢true e)

dropped_value : {X : Type 0} (b : Bool) (o : Option X) → b ≡ false → cond b o None ≡ None
dropped_value true o e = absurd (false≢true (sym e))
dropped_value false o e = refl

module _ (t : Tree) (keep : ℕ → Bool) where
  pub retained-node : (q : ℕ) → keep q ≡ true → get (retained t keep).nodes q ≡ get t.nodes q
  retained-node q kept = get-retain t.nodes keep q ∙ kept_value (keep q) (get t.nodes q) kept

  pub retained-no_node : (q : ℕ) → keep q ≡ false → get (retained t keep).nodes q ≡ None
  retained-no_node q dropped = get-retain t.nodes keep q ∙ dropped_value (keep q) (get t.nodes q) dropped

  pub retained-table : (q : ℕ) → keep q ≡ true → get (retained t keep).names q ≡ get t.names q
  retained-table q kept = get-retain t.names keep q ∙ kept_value (keep q) (get t.names q) kept

  pub retained-no_table : (q : ℕ) → keep q ≡ false → get (retained t keep).names q ≡ None
  retained-no_table q dropped = get-retain t.names keep q ∙ dropped_value (keep q) (get t.names q) dropped

  -- by whether a number passes
  by_keep : (P : ℕ → Type 0) (q : ℕ) → (keep q ≡ true → P q) → (keep q ≡ false → P q) → P q
  by_keep P q kept dropped = elim (keep q) as (λ b. keep q ≡ b → P q) [ true ↦ λ e. kept e | false ↦ λ e. dropped e ] refl

  -- a node that is left was there, and passes
  pub retained-before : (q : ℕ) (node : Node) → get (retained t keep).nodes q ≡ Some node → (keep q ≡ true) × (get t.nodes q ≡ Some node)
  retained-before q node there =
      by_keep (λ k. get (retained t keep).nodes k ≡ Some node → (keep k ≡ true) × (get t.nodes k ≡ Some node)) q
      (λ kept e. (kept, sym (retained-node q kept) ∙ e))
      (λ dropped e. absurd (false≢true (ap is_some (sym (retained-no_node q dropped) ∙ e))))
      there

  -- a directory that is left was one, and passes
  pub retained-directory : (q : ℕ) → is_directory (retained t keep) q ≡ true → (keep q ≡ true) × (is_directory t q ≡ true)
  retained-directory q is =
      by_keep (λ k. is_directory (retained t keep) k ≡ true → (keep k ≡ true) × (is_directory t k ≡ true)) q
      (λ kept e. (kept, sym (ap is_directory_node (retained-node q kept)) ∙ e))
      (λ dropped e. absurd (false≢true (sym (ap is_directory_node (retained-no_node q dropped)) ∙ e)))
      is

  module _ (tree : IsTree t) (root : keep ROOT ≡ true) (named : (n : ℕ) → 1 ≤ links_of t n → keep n ≡ true) where
    -- a node that doesn't pass has no name in it
    dropped_bare : (q : ℕ) → keep q ≡ false → names_of t q ≡ empty
    dropped_bare q dropped =
        elim (is_directory t q) as (λ b. is_directory t q ≡ b → names_of t q ≡ empty) [
          | false ↦ λ e. no_names_in t tree q e
          | true ↦ λ e. tree.bare q e (no_links q dropped (links_of t q) refl)
        ] refl where
          no_links : (q : ℕ) → keep q ≡ false → (k : ℕ) → links_of t q ≡ k → links_of t q ≡ 0
          no_links q dropped zero e = e
          no_links q dropped (suc k) e = absurd (false≢true (sym dropped ∙ named q (omega (arith, e))))

    -- the names in each directory are as they were
    pub retained-names : (q : ℕ) → names_of (retained t keep) q ≡ names_of t q
    retained-names q =
        by_keep (λ k. names_of (retained t keep) k ≡ names_of t k) q (λ kept. ap names_in (retained-table q kept))
        (λ dropped. ap names_in (retained-no_table q dropped) ∙ sym (dropped_bare q dropped))

    pub retained-name : (d : ℕ) (name : List ℕ) (n : ℕ) → HasName (retained t keep) d name n → HasName t d name n
    retained-name d name n h = sym (ap (λ names. get names name) (retained-names d)) ∙ h

    retained_directories : (d : ℕ) → IsSome (get (retained t keep).names d) ↔ (is_directory (retained t keep) d ≡ true)
    retained_directories d =
        by_keep (λ k. IsSome (get (retained t keep).names k) ↔ (is_directory (retained t keep) k ≡ true)) d
        (λ kept. (
          λ some. ap is_directory_node (retained-node d kept) ∙ (tree.directories d).0 (sym (ap is_some (retained-table d kept)) ∙ some),
          λ is. ap is_some (retained-table d kept) ∙ (tree.directories d).1 (sym (ap is_directory_node (retained-node d kept)) ∙ is),
        ))
        (λ dropped. (
          λ some. absurd (false≢true (sym (ap is_some (retained-no_table d dropped)) ∙ some)),
          λ is. absurd (false≢true (sym (ap is_directory_node (retained-no_node d dropped)) ∙ is)),
        ))

    -- it is a tree
    pub retained-tree : IsTree (retained t keep)
    retained-tree = record {
      root = ap is_directory_node (retained-node ROOT root) ∙ tree.root;
      directories = retained_directories;
      led = λ d name n h.
          (let before = retained-name d name n h in
          ap is_some (retained-node n (named n (links_of_named t tree d name n before))) ∙ tree.led d name n before);
      counted = λ n node there.
          (let before = retained-before n node there in
          tree.counted n node before.1 ∙ ap (λ k. k + one_for ROOT n) (sym (names_count-same t (retained t keep) retained-names n)));
      single = λ d is.
          (let before = retained-directory d is in
          subst (λ k. k ≤ 1) (sym (ap links_in (retained-node d before.0))) (tree.single d before.1));
      bare = λ d is none.
          (let before = retained-directory d is in
          retained-names d ∙ tree.bare d before.1 (sym (ap links_in (retained-node d before.0)) ∙ none));
      acyclic = no_cycle-fewer t (retained t keep) retained-name tree.acyclic;
    }
