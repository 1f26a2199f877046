-- What holds in each tree.
--     table_of_directory, no_table, no_names_in      a directory has a table of names;  nothing else has one, or a name in it
--     directory_of_name      what has a name in it is a directory
--     absent_no_directory, links_of_absent, no_name_of_absent      what isn't there is no directory, counts no name, and has none
--     counts_names      each number counts its names, and the root one more
--     links_of_named, no_name_of_nameless      a node with a name counts one at least;  a node that counts none has none
--     links_of_root, links_of_held      the root counts one;  a directory that has a name, or is the root, counts some
use Rattle.std.proofs.Common.{◌≡◌, ◌≢◌, ℕ, ◌+◌, ◌≤◌, true, false, List, None, Some, IsSome, is_some, refl, sym, ap, ◌∙◌, arith}
use Rattle.std.proofs.lemmas.Bool.{false≢true, not-true, false_from_ne_true, true_from_ne_false}
use Rattle.std.specs.FinMap.{empty, get}
use Rattle.tree_model.specs.declared.limits.TheConstants.{ROOT}
use Rattle.tree_model.specs.Tree.{Tree, HasName, IsTree, is_directory, is_directory_node, links_in, links_of, names_count, names_in, names_of, one_for}
use Rattle.tree_model.specs.Changes.{is_absent}
use Rattle.tree_model.specs.Entries.{empty_answers}
use Rattle.tree_model.specs.Counts.{names_count_at_least, names_count_none, one_for-other, one_for-same}
use Rattle.tree_model.specs.Faults.{none_of}

-- what isn't there is no directory
pub absent_no_directory : (t : Tree) (n : ℕ) → get t.nodes n ≡ None → is_directory t n ≡ false
absent_no_directory t n none = ap is_directory_node none

-- what isn't there counts no name
pub links_of_absent : (t : Tree) (n : ℕ) → get t.nodes n ≡ None → links_of t n ≡ 0
links_of_absent t n none = ap links_in none

-- the test, as an equation
pub absent : (t : Tree) (n : ℕ) → is_absent t n ≡ true → get t.nodes n ≡ None
absent t n e = none_of (get t.nodes n) (not-true (is_some (get t.nodes n)) e)

-- what is a directory is there
pub directory_there : (t : Tree) (d : ℕ) → is_directory t d ≡ true → IsSome (get t.nodes d)
directory_there t d e =
    true_from_ne_false _ (λ none. false≢true (sym (absent_no_directory t d (none_of (get t.nodes d) none)) ∙ e))

-- a directory and what is none are two
pub two_kinds : (t : Tree) (d n : ℕ) → is_directory t d ≡ true → is_directory t n ≡ false → n ≢ d
two_kinds t d n is other same = false≢true (sym other ∙ ap (is_directory t) same ∙ is)

-- what has a name in it has names
pub names_of_name : (t : Tree) (d : ℕ) (name : List ℕ) (n : ℕ) → HasName t d name n → names_of t d ≢ empty
names_of_name t d name n h none =
    false≢true (ap is_some (sym (empty_answers name) ∙ sym (ap (λ names. get names name) none) ∙ h))

module _ (t : Tree) (tree : IsTree t) where
  -- a directory has a table of names
  pub table_of_directory : (d : ℕ) → is_directory t d ≡ true → IsSome (get t.names d)
  table_of_directory d = (tree.directories d).1

  -- nothing else has one
  pub no_table : (n : ℕ) → is_directory t n ≡ false → get t.names n ≡ None
  no_table n other = none_of (get t.names n) (false_from_ne_true _ (λ is. false≢true (sym other ∙ (tree.directories n).0 is)))

  -- nothing else has a name in it
  pub no_names_in : (n : ℕ) → is_directory t n ≡ false → names_of t n ≡ empty
  no_names_in n other = ap names_in (no_table n other)

  -- what has a name in it is a directory
  pub directory_of_name : (d : ℕ) (name : List ℕ) (n : ℕ) → HasName t d name n → is_directory t d ≡ true
  directory_of_name d name n h = true_from_ne_false _ (λ other. names_of_name t d name n h (no_names_in d other))

  -- nothing has a name of what isn't there
  pub no_name_of_absent : (n : ℕ) → get t.nodes n ≡ None → (d : ℕ) (name : List ℕ) → HasName t d name n → ⊥
  no_name_of_absent n none d name h = false≢true (sym (ap is_some none) ∙ tree.led d name n h)

  -- what isn't there is another number than the root
  pub absent_not_root : (n : ℕ) → get t.nodes n ≡ None → n ≢ ROOT
  absent_not_root n none same = two_kinds t ROOT n tree.root (absent_no_directory t n none) same

  -- each number counts its names, and the root one more
  pub counts_names : (n : ℕ) → links_of t n ≡ names_count t n + one_for ROOT n
  counts_names n =
      elim (get t.nodes n) as (λ o. get t.nodes n ≡ o → links_of t n ≡ names_count t n + one_for ROOT n) [
        | None ↦ λ none.
            let links = links_of_absent t n none in
            let names = names_count_none t n (no_name_of_absent n none) in
            let other = one_for-other ROOT n (absent_not_root n none) in
            omega arith
        | Some node ↦ λ there. ap links_in there ∙ tree.counted n node there
      ] refl

  -- a node with a name counts one at least
  pub links_of_named : (d : ℕ) (name : List ℕ) (n : ℕ) → HasName t d name n → 1 ≤ links_of t n
  links_of_named d name n h =
      let some = names_count_at_least t d name n h in
      let counts = counts_names n in
      omega arith

  -- a node that counts no name has none
  pub no_name_of_nameless : (n : ℕ) → links_of t n ≡ 0 → (d : ℕ) (name : List ℕ) → HasName t d name n → ⊥
  no_name_of_nameless n none d name h = let some = links_of_named d name n h in omega arith

  -- the root counts one
  pub links_of_root : links_of t ROOT ≡ 1
  links_of_root =
      let counts = counts_names ROOT in
      let one = one_for-same ROOT in
      let most = tree.single ROOT tree.root in
      omega arith

  -- a directory that has a name, or is the root, counts one
  pub links_of_held : (d : ℕ) → (links_of t d ≡ 0 → d ≡ ROOT) → links_of t d ≢ 0
  links_of_held d held none =
      let root = ap (links_of t) (held none) in
      let one = links_of_root in
      omega arith
