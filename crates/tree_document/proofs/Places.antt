-- Where a record may stand, as changes of a tree show it.
use Rattle.std.proofs.Common.{◌≡◌, ℕ, ◌+◌, List, Option, Some, None, sym, ap, subst, ◌∙◌}
use Rattle.abi_types.specs.declared.node.NodeKind.{NodeKind}
use Rattle.tree_model.specs.declared.fault.TreeFault.{TreeFault}
use Rattle.tree_model.specs.declared.fault.TreeFault.TheVariants.{NoMemory}
use Rattle.tree_model.specs.declared.limits.TheConstants.{ROOT}
use Rattle.tree_model.specs.Tree.{Tree}
use Rattle.tree_model.specs.Changes.{IsRefusal, first_fault, link_faults, linked, made, make_faults}
use Rattle.tree_records.specs.Paths.{Path, name_of, parent}
use Rattle.tree_document.specs.Building.{IsLinkPlace, IsLinkPlaceIn, IsPlace, IsPlaceIn, Making, node_at, node_of, with_name, with_name_in, with_node, with_node_in}

abbrev some_node : ℕ → Option ℕ
some_node n = Some n

-- what is refused though it has no fault is refused since memory ran out
no_fault : (o : Option TreeFault) (fault : TreeFault) → IsRefusal o fault → o ≡ None → fault ≡ NoMemory
no_fault o fault h none = subst (λ (x : Option TreeFault). IsRefusal x fault) none h

module _ (m : Making) (p : Path) where
  -- ---- a new node

  pub no_parent : None ≡ node_at m.tree ROOT (parent p) → IsPlace m.tree p → ⊥
  no_parent e h = subst (IsPlaceIn m.tree (name_of p)) (sym e) h

  module _ (name : List ℕ) (d : ℕ) (is : some_node d ≡ node_at m.tree ROOT (parent p)) (same : name ≡ name_of p) where
    pub place : first_fault (make_faults m.tree d name) ≡ None → IsPlace m.tree p
    place none = subst (IsPlaceIn m.tree (name_of p)) is (subst (λ (x : List ℕ). first_fault (make_faults m.tree d x) ≡ None) same none)

    pub with_place : (kind : NodeKind) (t : Tree) → t ≡ made m.tree d name m.next (node_of m.times kind) → record m { tree = t; next = m.next + 1 } ≡ with_node m p kind
    with_place kind t e =
        ap (λ (x : Tree). record m { tree = x; next = m.next + 1 }) (e ∙ ap (λ (x : List ℕ). made m.tree d x m.next (node_of m.times kind)) same)
        ∙ ap (with_node_in m (name_of p) kind) is

    pub no_place : (fault : TreeFault) → IsRefusal (first_fault (make_faults m.tree d name)) fault → (fault ≡ NoMemory → ⊥) → IsPlace m.tree p → ⊥
    no_place fault h other here =
        other (no_fault (first_fault (make_faults m.tree d name)) fault h
        (subst (λ (x : List ℕ). first_fault (make_faults m.tree d x) ≡ None) (sym same) (subst (IsPlaceIn m.tree (name_of p)) (sym is) here)))

  -- ---- one more name

  module _ (target : Path) where
    pub no_link_parent : None ≡ node_at m.tree ROOT (parent p) → IsLinkPlace m.tree p target → ⊥
    no_link_parent e h = subst (λ (o : Option ℕ). IsLinkPlaceIn m.tree (name_of p) o (node_at m.tree ROOT target)) (sym e) h

    module _ (name : List ℕ) (d : ℕ) (is : some_node d ≡ node_at m.tree ROOT (parent p)) (same : name ≡ name_of p) where
      pub no_target : None ≡ node_at m.tree ROOT target → IsLinkPlace m.tree p target → ⊥
      no_target e h =
          subst (λ (o : Option ℕ). IsLinkPlaceIn m.tree (name_of p) (some_node d) o) (sym e)
          (subst (λ (o : Option ℕ). IsLinkPlaceIn m.tree (name_of p) o (node_at m.tree ROOT target)) (sym is) h)

      module _ (n : ℕ) (to : some_node n ≡ node_at m.tree ROOT target) where
        pub link_place : first_fault (link_faults m.tree d name n) ≡ None → IsLinkPlace m.tree p target
        link_place none =
            subst (λ (o : Option ℕ). IsLinkPlaceIn m.tree (name_of p) o (node_at m.tree ROOT target)) is
            (subst (λ (o : Option ℕ). IsLinkPlaceIn m.tree (name_of p) (some_node d) o) to
            (subst (λ (x : List ℕ). first_fault (link_faults m.tree d x n) ≡ None) same none))

        pub with_link_place : (t : Tree) → t ≡ linked m.tree d name n → record m { tree = t } ≡ with_name m p target
        with_link_place t e =
            ap (λ (x : Tree). record m { tree = x }) (e ∙ ap (λ (x : List ℕ). linked m.tree d x n) same)
            ∙ ap (λ (o : Option ℕ). with_name_in m (name_of p) (some_node d) o) to
            ∙ ap (λ (o : Option ℕ). with_name_in m (name_of p) o (node_at m.tree ROOT target)) is

        pub no_link_place : (fault : TreeFault) → IsRefusal (first_fault (link_faults m.tree d name n)) fault → (fault ≡ NoMemory → ⊥)
            → IsLinkPlace m.tree p target → ⊥
        no_link_place fault h other here =
            other (no_fault (first_fault (link_faults m.tree d name n)) fault h
            (subst (λ (x : List ℕ). first_fault (link_faults m.tree d x n) ≡ None) (sym same)
            (subst (λ (o : Option ℕ). IsLinkPlaceIn m.tree (name_of p) (some_node d) o) (sym to)
            (subst (λ (o : Option ℕ). IsLinkPlaceIn m.tree (name_of p) o (node_at m.tree ROOT target)) (sym is) here))))
