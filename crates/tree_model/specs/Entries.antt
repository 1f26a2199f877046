-- What the parts of a change leave of a tree: its names, its nodes, and how many names a node counts.
--     here_or_other, by_node      what holds of a number holds of each: of the node, of the directory, and of another
--     IsElsewhere d name d' name'      the second place is another than the first: another directory, or another name in it
--     entry_of-put_name-same, entry_of-drop_name-other ..      what names answer after a change of one
--     HasName-put_name, HasName-drop_name      each name after a change was there, or came
--     names_of-new_node, entry_of-new_node ..      a new node changes no name
--     ChangesNode t u n f      u is the tree t with the node n, where it is there, changed by f
--     one_more-changes, one_less-changes, with_bytes-changes, with_times-changes      each of these does so
--     KeepsNodes t u      no node came or went, and none became a directory or ceased to be one
use Rattle.std.proofs.Common.{◌≡◌, ◌≢◌, ◌⊎◌, ℕ, ◌+◌, ◌-◌, true, false, inl, inr, List, Option, None, Some, IsSome, is_some, refl, sym, ap, subst, ◌∙◌}
use Rattle.std.proofs.lemmas.Bool.Decides.{eqb_tells}
use Rattle.std.specs.Prelude.{if◌then◌else◌}
use Rattle.std.specs.Option.{option_map, unwrap_or}
use Rattle.std.specs.FinMap.{empty, get, insert, remove, get-empty}
use Rattle.abi_types.specs.declared.node.Node.{Node}
use Rattle.abi_types.specs.declared.node.NodeKind.TheVariants as kind
use Rattle.abi_types.specs.declared.node.Times.{Times}
use Rattle.maps.specs.Maps.{get-insert-same, get-insert-other}
use Rattle.maps.specs.Names as name_map
use Rattle.tree_model.specs.Tree.{Tree, HasName, entry_of, is_directory, is_directory_kind, is_directory_node, links_in, links_of, names_in, names_of}
use Rattle.tree_model.specs.Changes.{drop_name, new_node, one_less, one_less_in, one_more, one_more_in, put_name, put_node, with_bytes, with_bytes_in, with_count, with_times, with_times_in, without_old}

-- ---- numbers, and places of names

-- what holds of k, and of q where it is another number, holds of q
pub here_or_other : (P : ℕ → Type 0) (k q : ℕ) → P k → (q ≢ k → P q) → P q
here_or_other P k q here other = elim (eqb_tells q k) [ inl is ↦ subst P (sym is.1) here | inr is ↦ other is.1 ]

-- what holds of the node n, of the directory d and of q where it is neither holds of q
pub by_node : (P : ℕ → Type 0) (n d q : ℕ) → P n → P d → (q ≢ n → q ≢ d → P q) → P q
by_node P n d q node directory other = here_or_other P n q node (λ a. here_or_other P d q directory (λ b. other a b))

-- the name is in another directory, or another one
abbrev pub IsElsewhere : ℕ → List ℕ → ℕ → List ℕ → Type 0
IsElsewhere d name d' name' = d' ≡ d → name' ≡ name → ⊥

pub same_place_or_not : (d : ℕ) (name : List ℕ) (d' : ℕ) (name' : List ℕ) → ((d' ≡ d) × (name' ≡ name)) ⊎ IsElsewhere d name d' name'
same_place_or_not d name d' name' =
    elim (eqb_tells d' d) [
      | inl is ↦ elim (name_map.same_or_not name' name) [ inl same ↦ inl (is.1, same) | inr other ↦ inr (λ _ e. other e) ]
      | inr is ↦ inr (λ e _. is.1 e)
    ]

-- `Some` is of one value
some_of : {A : Type 0} (x y : A) → Some x ≡ Some y → x ≡ y
some_of x y e = ap (λ o. unwrap_or o x) e

-- ---- one name more, one less

module _ (t : Tree) (d : ℕ) (name : List ℕ) where
  pub names_of-put_name-same : (n : ℕ) → names_of (put_name t d name n) d ≡ insert (names_of t d) name n
  names_of-put_name-same n = ap names_in (get-insert-same t.names d _)

  pub names_of-put_name-other : (n q : ℕ) → q ≢ d → names_of (put_name t d name n) q ≡ names_of t q
  names_of-put_name-other n q other = ap names_in (get-insert-other t.names d _ q other)

  pub entry_of-put_name-same : (n : ℕ) → entry_of (put_name t d name n) d name ≡ Some n
  entry_of-put_name-same n = ap (λ names. get names name) (names_of-put_name-same n) ∙ name_map.get-insert-same (names_of t d) name n

  pub entry_of-put_name-other : (n d' : ℕ) (name' : List ℕ) → IsElsewhere d name d' name' → entry_of (put_name t d name n) d' name' ≡ entry_of t d' name'
  entry_of-put_name-other n d' name' away =
      elim (eqb_tells d' d) [
        | inl is ↦ subst (λ x. entry_of (put_name t d name n) x name' ≡ entry_of t x name') (sym is.1)
            (ap (λ names. get names name') (names_of-put_name-same n) ∙ name_map.get-insert-other (names_of t d) name n name' (λ e. away is.1 e))
        | inr is ↦ ap (λ names. get names name') (names_of-put_name-other n d' is.1)
      ]

  -- a name that is there after a name came is that one, or was there
  pub HasName-put_name : (n d' : ℕ) (name' : List ℕ) (m : ℕ) → HasName (put_name t d name n) d' name' m
      → ((d' ≡ d) × (name' ≡ name) × (m ≡ n)) ⊎ (IsElsewhere d name d' name' × HasName t d' name' m)
  HasName-put_name n d' name' m h =
      elim (same_place_or_not d name d' name') [
        | inl same ↦ inl (
          same.0,
          same.1,
          some_of m n
              (sym h ∙ ap (λ x. entry_of (put_name t d name n) x name') same.0 ∙ ap (entry_of (put_name t d name n) d) same.1 ∙ entry_of-put_name-same n),
        )
        | inr away ↦ inr (away, sym (entry_of-put_name-other n d' name' away) ∙ h)
      ]

  pub names_of-drop_name-same : names_of (drop_name t d name) d ≡ remove (names_of t d) name
  names_of-drop_name-same = ap names_in (get-insert-same t.names d _)

  pub names_of-drop_name-other : (q : ℕ) → q ≢ d → names_of (drop_name t d name) q ≡ names_of t q
  names_of-drop_name-other q other = ap names_in (get-insert-other t.names d _ q other)

  pub entry_of-drop_name-same : entry_of (drop_name t d name) d name ≡ None
  entry_of-drop_name-same = ap (λ names. get names name) names_of-drop_name-same ∙ name_map.get-remove-same (names_of t d) name

  pub entry_of-drop_name-other : (d' : ℕ) (name' : List ℕ) → IsElsewhere d name d' name' → entry_of (drop_name t d name) d' name' ≡ entry_of t d' name'
  entry_of-drop_name-other d' name' away =
      elim (eqb_tells d' d) [
        | inl is ↦ subst (λ x. entry_of (drop_name t d name) x name' ≡ entry_of t x name') (sym is.1)
            (ap (λ names. get names name') names_of-drop_name-same ∙ name_map.get-remove-other (names_of t d) name name' (λ e. away is.1 e))
        | inr is ↦ ap (λ names. get names name') (names_of-drop_name-other d' is.1)
      ]

  -- a name that is there after a name went is another one, and was there
  pub HasName-drop_name : (d' : ℕ) (name' : List ℕ) (m : ℕ) → HasName (drop_name t d name) d' name' m → IsElsewhere d name d' name' × HasName t d' name' m
  HasName-drop_name d' name' m h =
      elim (same_place_or_not d name d' name') [
        | inl same ↦ absurd (none (sym entry_of-drop_name-same
            ∙ sym (ap (λ x. entry_of (drop_name t d name) x name') same.0 ∙ ap (entry_of (drop_name t d name) d) same.1) ∙ h))
        | inr away ↦ (away, sym (entry_of-drop_name-other d' name' away) ∙ h)
      ]
    where
      none : None ≡ Some m → ⊥
      none e = cc

-- ---- a new node

-- where there is no directory, no name is in it
pub empty_answers : (name : List ℕ) → get (names_in None) name ≡ None
empty_answers name = get-empty name_map.name_cmp name

module _ (t : Tree) (n : ℕ) (node : Node) where
  pub get-new_node-same : get (new_node t n node).nodes n ≡ Some (with_count node 1)
  get-new_node-same = get-insert-same t.nodes n (with_count node 1)

  pub get-new_node-other : (q : ℕ) → q ≢ n → get (new_node t n node).nodes q ≡ get t.nodes q
  get-new_node-other q other = get-insert-other t.nodes n (with_count node 1) q other

  -- the new node has a table of names exactly where it is a directory
  pub table-new_node-same : get t.names n ≡ None → is_some (get (new_node t n node).names n) ≡ is_directory_kind node.kind
  table-new_node-same none =
      elim (is_directory_kind node.kind) as (λ b. is_some (get (if b then insert t.names n empty else t.names) n) ≡ b) [
        | true ↦ ap is_some (get-insert-same t.names n empty)
        | false ↦ ap is_some none
      ]

  pub table-new_node-other : (q : ℕ) → q ≢ n → get (new_node t n node).names q ≡ get t.names q
  table-new_node-other q other =
      elim (is_directory_kind node.kind) as (λ b. get (if b then insert t.names n empty else t.names) q ≡ get t.names q) [
        | true ↦ get-insert-other t.names n empty q other
        | false ↦ refl
      ]

  -- where the number had no names, no directory's names change
  pub names_of-new_node : names_of t n ≡ empty → (q : ℕ) → names_of (new_node t n node) q ≡ names_of t q
  names_of-new_node none q =
      here_or_other (λ x. names_of (new_node t n node) x ≡ names_of t x) n q
      (elim (is_directory_kind node.kind) as (λ b. names_in (get (if b then insert t.names n empty else t.names) n) ≡ names_of t n) [
        | true ↦ ap names_in (get-insert-same t.names n empty) ∙ sym none
        | false ↦ refl
      ])
      (λ other. ap names_in (table-new_node-other q other))

  pub entry_of-new_node : names_of t n ≡ empty → (d : ℕ) (name : List ℕ) → entry_of (new_node t n node) d name ≡ entry_of t d name
  entry_of-new_node none d name = ap (λ names. get names name) (names_of-new_node none d)

-- ---- one node changed

-- u is the tree t with the node n, where it is there, changed by f; each other node and all names are as they were
pub record ChangesNode (t u : Tree) (n : ℕ) (f : Node → Node) : Type 0 where
  pub names : u.names ≡ t.names
  pub node : get u.nodes n ≡ option_map f (get t.nodes n)
  pub others : (q : ℕ) → q ≢ n → get u.nodes q ≡ get t.nodes q

-- where there is no such node, nothing changes
unchanged : (t : Tree) (n : ℕ) (f : Node → Node) → get t.nodes n ≡ None → ChangesNode t t n f
unchanged t n f none = record { names = refl; node = none ∙ ap (option_map f) (sym none); others = λ _ _. refl }

put_changes : (t : Tree) (n : ℕ) (f : Node → Node) (node : Node) → get t.nodes n ≡ Some node → ChangesNode t (put_node t n (f node)) n f
put_changes t n f node there = record {
  names = refl;
  node = get-insert-same t.nodes n (f node) ∙ ap (option_map f) (sym there);
  others = λ q other. get-insert-other t.nodes n (f node) q other;
}

module _ (t : Tree) (n : ℕ) where
  pub one_more-changes : ChangesNode t (one_more t n) n (λ node. with_count node (node.links + 1))
  one_more-changes =
      elim (get t.nodes n) as (λ o. get t.nodes n ≡ o → ChangesNode t (one_more_in t n o) n (λ node. with_count node (node.links + 1))) [
        | None ↦ λ none. unchanged t n _ none
        | Some node ↦ λ there. put_changes t n (λ x. with_count x (x.links + 1)) node there
      ] refl

  pub one_less-changes : ChangesNode t (one_less t n) n (λ node. with_count node (node.links - 1))
  one_less-changes =
      elim (get t.nodes n) as (λ o. get t.nodes n ≡ o → ChangesNode t (one_less_in t n o) n (λ node. with_count node (node.links - 1))) [
        | None ↦ λ none. unchanged t n _ none
        | Some node ↦ λ there. put_changes t n (λ x. with_count x (x.links - 1)) node there
      ] refl

  pub with_bytes-changes : (bytes : List ℕ) → ChangesNode t (with_bytes t n bytes) n (λ node. record node { kind = kind.File bytes })
  with_bytes-changes bytes =
      elim (get t.nodes n) as (λ o. get t.nodes n ≡ o → ChangesNode t (with_bytes_in t n bytes o) n (λ node. record node { kind = kind.File bytes })) [
        | None ↦ λ none. unchanged t n _ none
        | Some node ↦ λ there. put_changes t n (λ x. record x { kind = kind.File bytes }) node there
      ] refl

  pub with_times-changes : (times : Times) → ChangesNode t (with_times t n times) n (λ node. record node { times = times })
  with_times-changes times =
      elim (get t.nodes n) as (λ o. get t.nodes n ≡ o → ChangesNode t (with_times_in t n times o) n (λ node. record node { times = times })) [
        | None ↦ λ none. unchanged t n _ none
        | Some node ↦ λ there. put_changes t n (λ x. record x { times = times }) node there
      ] refl

-- f leaves what is a directory one, and what is none none
abbrev pub KeepsKind : (Node → Node) → Type 0
KeepsKind f = (node : Node) → is_directory_kind (f node).kind ≡ is_directory_kind node.kind

-- f leaves the count of names as it is
abbrev pub KeepsCount : (Node → Node) → Type 0
KeepsCount f = (node : Node) → (f node).links ≡ node.links

module _ (t u : Tree) (n : ℕ) (f : Node → Node) (c : ChangesNode t u n f) where
  pub names_of-changed : (d : ℕ) → names_of u d ≡ names_of t d
  names_of-changed d = ap (λ m. names_in (get m d)) c.names

  pub entry_of-changed : (d : ℕ) (name : List ℕ) → entry_of u d name ≡ entry_of t d name
  entry_of-changed d name = ap (λ names. get names name) (names_of-changed d)

  pub node_there-changed : (q : ℕ) → is_some (get u.nodes q) ≡ is_some (get t.nodes q)
  node_there-changed q =
      here_or_other (λ x. is_some (get u.nodes x) ≡ is_some (get t.nodes x)) n q
      (ap is_some c.node ∙ elim (get t.nodes n) as (λ o. is_some (option_map f o) ≡ is_some o) [ None ↦ refl | Some node ↦ refl ])
      (λ other. ap is_some (c.others q other))

  pub is_directory-changed : ((node : Node) → get t.nodes n ≡ Some node → is_directory_kind (f node).kind ≡ is_directory_kind node.kind)
      → (q : ℕ) → is_directory u q ≡ is_directory t q
  is_directory-changed kinds q =
      here_or_other (λ x. is_directory u x ≡ is_directory t x) n q
      (ap is_directory_node c.node ∙ elim (get t.nodes n) as (λ o. get t.nodes n ≡ o → is_directory_node (option_map f o) ≡ is_directory_node o) [
        | None ↦ λ _. refl
        | Some node ↦ kinds node
      ] refl)
      (λ other. ap is_directory_node (c.others q other))

  pub links_of-changed : (node : Node) → get t.nodes n ≡ Some node → links_of u n ≡ (f node).links
  links_of-changed node there = ap links_in (c.node ∙ ap (option_map f) there)

  pub links_of-changed-other : (q : ℕ) → q ≢ n → links_of u q ≡ links_of t q
  links_of-changed-other q other = ap links_in (c.others q other)

  pub links_of-changed-kept : KeepsCount f → (q : ℕ) → links_of u q ≡ links_of t q
  links_of-changed-kept same q =
      here_or_other (λ x. links_of u x ≡ links_of t x) n q
      (ap links_in c.node ∙ elim (get t.nodes n) as (λ o. links_in (option_map f o) ≡ links_in o) [ None ↦ refl | Some node ↦ same node ])
      (λ other. links_of-changed-other q other)

-- what counts a name less where there is one changes no name
pub names-without_old : (t : Tree) (o : Option ℕ) → (without_old t o).names ≡ t.names
names-without_old t None = refl
names-without_old t (Some n) = (one_less-changes t n).names

pub entry_of-without_old : (t : Tree) (o : Option ℕ) (d : ℕ) (name : List ℕ) → entry_of (without_old t o) d name ≡ entry_of t d name
entry_of-without_old t o d name = ap (λ m. get (names_in (get m d)) name) (names-without_old t o)

pub names_of-without_old : (t : Tree) (o : Option ℕ) (d : ℕ) → names_of (without_old t o) d ≡ names_of t d
names_of-without_old t o d = ap (λ m. names_in (get m d)) (names-without_old t o)

-- ---- changes by which no node comes or goes

-- no node came or went, none became a directory or ceased to be one, and the same numbers have tables of names
pub record KeepsNodes (t u : Tree) : Type 0 where
  pub nodes : (q : ℕ) → is_some (get u.nodes q) ≡ is_some (get t.nodes q)
  pub kinds : (q : ℕ) → is_directory u q ≡ is_directory t q
  pub tables : (q : ℕ) → is_some (get u.names q) ≡ is_some (get t.names q)

pub KeepsNodes-itself : (t : Tree) → KeepsNodes t t
KeepsNodes-itself t = record { nodes = λ _. refl; kinds = λ _. refl; tables = λ _. refl }

pub KeepsNodes-twice : (t u v : Tree) → KeepsNodes t u → KeepsNodes u v → KeepsNodes t v
KeepsNodes-twice t u v a b = record {
  nodes = λ q. b.nodes q ∙ a.nodes q;
  kinds = λ q. b.kinds q ∙ a.kinds q;
  tables = λ q. b.tables q ∙ a.tables q;
}

pub KeepsNodes-changed : (t u : Tree) (n : ℕ) (f : Node → Node) → ChangesNode t u n f
    → ((node : Node) → get t.nodes n ≡ Some node → is_directory_kind (f node).kind ≡ is_directory_kind node.kind) → KeepsNodes t u
KeepsNodes-changed t u n f c kinds = record {
  nodes = node_there-changed t u n f c;
  kinds = is_directory-changed t u n f c kinds;
  tables = λ q. ap (λ m. is_some (get m q)) c.names;
}

pub KeepsNodes-one_more : (t : Tree) (n : ℕ) → KeepsNodes t (one_more t n)
KeepsNodes-one_more t n = KeepsNodes-changed t _ n _ (one_more-changes t n) (λ _ _. refl)

pub KeepsNodes-one_less : (t : Tree) (n : ℕ) → KeepsNodes t (one_less t n)
KeepsNodes-one_less t n = KeepsNodes-changed t _ n _ (one_less-changes t n) (λ _ _. refl)

pub KeepsNodes-without_old : (t : Tree) (o : Option ℕ) → KeepsNodes t (without_old t o)
KeepsNodes-without_old t None = KeepsNodes-itself t
KeepsNodes-without_old t (Some n) = KeepsNodes-one_less t n

-- what puts other names where there were some
pub KeepsNodes-put_name : (t : Tree) (d : ℕ) (name : List ℕ) (n : ℕ) → IsSome (get t.names d) → KeepsNodes t (put_name t d name n)
KeepsNodes-put_name t d name n there = record {
  nodes = λ _. refl;
  kinds = λ _. refl;
  tables = λ q. here_or_other (λ x. is_some (get (put_name t d name n).names x) ≡ is_some (get t.names x)) d q
      (ap is_some (get-insert-same t.names d _) ∙ sym there) (λ other. ap is_some (get-insert-other t.names d _ q other));
}

pub KeepsNodes-drop_name : (t : Tree) (d : ℕ) (name : List ℕ) → IsSome (get t.names d) → KeepsNodes t (drop_name t d name)
KeepsNodes-drop_name t d name there = record {
  nodes = λ _. refl;
  kinds = λ _. refl;
  tables = λ q. here_or_other (λ x. is_some (get (drop_name t d name).names x) ≡ is_some (get t.names x)) d q
      (ap is_some (get-insert-same t.names d _) ∙ sym there) (λ other. ap is_some (get-insert-other t.names d _ q other));
}
