-- What a name is in a directory of a tree, for the walk of a path.
--     finds t      what each name is in each directory
--     HasSameBelow t u a      u has the nodes and names of t below a, and no node that t lacks
--     finds_closed      what a name is in a directory below a is below a
--     finds_agree      two trees with the same below a find the same there
--     named_alike      and the node of each name is the same
--     below_alike      and the same is below each directory there
use Rattle.std.proofs.Common.{◌≡◌, ℕ, true, List, Option, None, Some, IsSome, is_some, refl, sym, ap, ◌∙◌}
use Rattle.std.proofs.lemmas.Bool.Decides.{same_from_decides}
use Rattle.std.specs.FinMap.{get}
use Rattle.abi_types.specs.declared.node.Node.{Node}
use Rattle.abi_types.specs.declared.node.NodeKind.{NodeKind}
use Rattle.abi_types.specs.declared.node.NodeKind.TheVariants as kind
use Rattle.maps.specs.Closure.{member}
use Rattle.path_lookup.specs.Finding.{Finding, Nothing, Directory, File, Link}
use Rattle.path_lookup.specs.Laws.{FindsIn, IsClosed, Agree}
use Rattle.path_lookup.specs.Walk.{Finds}
use Rattle.tree_model.specs.Tree.{Tree, HasName, below, entry_of, names_in}
use Rattle.tree_model.specs.Below.{below_closed, below_induction, below_self, below_trans}

-- what a node of this number and kind is
abbrev pub finding_of_kind : ℕ → NodeKind → Finding
finding_of_kind n (kind.File bytes) = File n
finding_of_kind n kind.Directory = Directory n
finding_of_kind n (kind.Link text) = Link n text

-- a name whose node isn't there is nothing
abbrev pub finding_of_node : ℕ → Option Node → Finding
finding_of_node n None = Nothing
finding_of_node n (Some node) = finding_of_kind n node.kind

abbrev pub finding_of : Tree → Option ℕ → Finding
finding_of t None = Nothing
finding_of t (Some n) = finding_of_node n (get t.nodes n)

abbrev pub finds : Tree → Finds
finds t d name = finding_of t (entry_of t d name)

-- u has the same nodes and names as t on all that is below a in t, and no node that t lacks
pub record HasSameBelow (t u : Tree) (a : ℕ) : Type 0 where
  pub nodes : (n : ℕ) → member n (below t a) ≡ true → get t.nodes n ≡ get u.nodes n
  pub names : (d : ℕ) → member d (below t a) ≡ true → get t.names d ≡ get u.names d
  pub fewer : (n : ℕ) → get t.nodes n ≡ None → get u.nodes n ≡ None

-- ---- what is found is below

module _ (t : Tree) (a : ℕ) where
  kind_inside : (n : ℕ) (kind : NodeKind) → member n (below t a) ≡ true → FindsIn (λ q. member q (below t a)) (finding_of_kind n kind)
  kind_inside n (kind.File bytes) h = h
  kind_inside n kind.Directory h = h
  kind_inside n (kind.Link text) h = h

  node_inside : (d : ℕ) (name : List ℕ) (n : ℕ) (o : Option Node) → member d (below t a) ≡ true → HasName t d name n → get t.nodes n ≡ o
      → FindsIn (λ q. member q (below t a)) (finding_of_node n o)
  node_inside d name n None under has there = tt
  node_inside d name n (Some node) under has there = kind_inside n node.kind (below_closed t a d name n under has (ap is_some there))

  entry_inside : (d : ℕ) (name : List ℕ) (o : Option ℕ) → member d (below t a) ≡ true → entry_of t d name ≡ o
      → FindsIn (λ q. member q (below t a)) (finding_of t o)
  entry_inside d name None under is = tt
  entry_inside d name (Some n) under is = node_inside d name n (get t.nodes n) under is refl

  -- what a name is in a directory below a is below a
  pub finds_closed : IsClosed (finds t) (λ n. member n (below t a))
  finds_closed = record { closed = λ d name under. entry_inside d name (entry_of t d name) under refl }

-- ---- what is found is the same

module _ (t u : Tree) (a : ℕ) (same : HasSameBelow t u a) where
  node_alike : (d : ℕ) (name : List ℕ) (n : ℕ) (o : Option Node) → member d (below t a) ≡ true → HasName t d name n → get t.nodes n ≡ o
      → get t.nodes n ≡ get u.nodes n
  node_alike d name n None under has there = there ∙ sym (same.fewer n there)
  node_alike d name n (Some node) under has there = same.nodes n (below_closed t a d name n under has (ap is_some there))

  -- the node of a name in a directory below a is the same, or is there in neither
  pub named_alike : (d : ℕ) (name : List ℕ) (n : ℕ) → member d (below t a) ≡ true → HasName t d name n → get t.nodes n ≡ get u.nodes n
  named_alike d name n under has = node_alike d name n (get t.nodes n) under has refl

  entry_alike : (d : ℕ) (name : List ℕ) (o : Option ℕ) → member d (below t a) ≡ true → entry_of t d name ≡ o → finding_of t o ≡ finding_of u o
  entry_alike d name None under is = refl
  entry_alike d name (Some n) under is = ap (finding_of_node n) (named_alike d name n under is)

  -- two trees that have the same below a find the same there
  pub finds_agree : Agree (finds t) (finds u) (λ n. member n (below t a))
  finds_agree = record {
    same = λ d name under.
        (entry_alike d name (entry_of t d name) under refl ∙ ap (λ m. finding_of u (get (names_in m) name)) (same.names d under));
  }

  -- ---- the same is below

  name_there : (d : ℕ) (name : List ℕ) (n : ℕ) → member d (below t a) ≡ true → HasName t d name n → HasName u d name n
  name_there d name n under has = sym (ap (λ o. get (names_in o) name) (same.names d under)) ∙ has

  name_back : (d : ℕ) (name : List ℕ) (n : ℕ) → member d (below t a) ≡ true → HasName u d name n → HasName t d name n
  name_back d name n under has = ap (λ o. get (names_in o) name) (same.names d under) ∙ has

  -- what u has t has
  node_back : (n : ℕ) → IsSome (get u.nodes n) → IsSome (get t.nodes n)
  node_back n here =
      elim (get t.nodes n) as (λ o. get t.nodes n ≡ o → IsSome o) [
        | None ↦ λ none. sym (ap is_some (same.fewer n none)) ∙ here
        | Some node ↦ λ there. refl
      ] refl

  below_there : (n : ℕ) → member n (below t a) ≡ true → (q : ℕ) → member q (below t n) ≡ true → member q (below u n) ≡ true
  below_there n under =
      below_induction t n (λ q. member q (below u n) ≡ true) (below_self u n)
      (λ d name m inside found has here.
      let dir : member d (below t a) ≡ true = below_trans t a n under d inside in
      below_closed u n d name m found (name_there d name m dir has)
      (ap is_some (sym (same.nodes m (below_closed t a d name m dir has here))) ∙ here))

  below_back : (n : ℕ) → member n (below t a) ≡ true → (q : ℕ) → member q (below u n) ≡ true → member q (below t n) ≡ true
  below_back n under =
      below_induction u n (λ q. member q (below t n) ≡ true) (below_self t n)
      (λ d name m inside found has here.
      below_closed t n d name m found (name_back d name m (below_trans t a n under d found) has) (node_back m here))

  -- the same is below each node that is below a
  pub below_alike : (n : ℕ) → member n (below t a) ≡ true → (q : ℕ) → member q (below t n) ≡ member q (below u n)
  below_alike n under q = same_from_decides _ _ (λ e. e, λ e. e) (below_back n under q, below_there n under q)
