-- How many names each node has, after each part of a change.
--     one_for-same, one_for-other      1 for the node itself, 0 for another one
--     names_count-put_name      a name that comes is one more for its node, and what had the name before has one less
--     names_count-drop_name      a name that goes is one less for its node
--     names_count-new_node      a new node changes no count
--     names_count-changed, names_count-without_old      nor does what changes nodes alone
--     names_count-forgotten      nor does a node without names in it that goes
--     names_count_at_least      a node with a name has one at least
--     names_count_none      a node without a name has none
--     links_of-one_more, links_of-one_less, links_of-without_old      how many names each node counts after each of these
--     links_of-new_node-same, links_of-new_node-other      a new node counts one, the others what they did
use Rattle.std.proofs.Common.{◌≡◌, ◌≢◌, ℕ, ◌+◌, ◌≤◌, cond, inl, inr, List, Option, None, Some, IsSome, refl, sym, ap, ◌∙◌, arith}
use Rattle.std.proofs.lemmas.Bool.{eq-eqb, false≢true}
use Rattle.std.proofs.lemmas.Bool.Decides.{eqb_tells}
use Rattle.std.specs.FinMap.{empty, get, insert, remove}
use Rattle.abi_types.specs.declared.node.Node.{Node}
use Rattle.maps.specs.Maps.{weight, total, total-insert, total-remove, total_none, total_same}
use Rattle.maps.specs.Names as name_map
use Rattle.tree_model.specs.Tree.{Tree, Names, HasName, count_in, entry_of, links_in, links_of, names_count, names_in, names_of, one_for}
use Rattle.tree_model.specs.Changes.{drop_name, forgotten, new_node, one_less, one_more, put_name, without_old}
use Rattle.tree_model.specs.Entries.{ChangesNode, get-new_node-same, get-new_node-other, here_or_other, links_of-changed, links_of-changed-other, names-without_old, names_of-new_node, one_less-changes, one_more-changes}

-- ---- the node itself, and another one

pub one_for-same : (n : ℕ) → one_for n n ≡ 1
one_for-same n = ap (λ b. cond b 1 0) (eq-eqb n n refl)

pub one_for-other : (q n : ℕ) → n ≢ q → one_for q n ≡ 0
one_for-other q n other = elim (eqb_tells n q) [ inl is ↦ absurd (other is.1) | inr is ↦ ap (λ b. cond b 1 0) is.0 ]

-- ---- the names in one directory

pub count_in-empty : (q : ℕ) → count_in q empty ≡ 0
unfolding count_in
count_in-empty q = name_map.total-empty (one_for q)

pub count_in-insert : (q : ℕ) (names : Names) (name : List ℕ) (n : ℕ)
    → count_in q (insert names name n) + weight (one_for q) (get names name) ≡ count_in q names + one_for q n
unfolding count_in
count_in-insert q names name n = name_map.total-insert (one_for q) names name n

pub count_in-remove : (q : ℕ) (names : Names) (name : List ℕ) → count_in q (remove names name) + weight (one_for q) (get names name) ≡ count_in q names
unfolding count_in
count_in-remove q names name = name_map.total-remove (one_for q) names name

-- what no name is of has none of these names
pub count_in_none : (q : ℕ) (names : Names) → ((name : List ℕ) → get names name ≢ Some q) → count_in q names ≡ 0
unfolding count_in
count_in_none q names none =
    name_map.total_none (one_for q) names (λ name. elim (get names name) as (λ o. get names name ≡ o → weight (one_for q) o ≡ 0) [
      | None ↦ λ _. refl
      | Some n ↦ λ e. one_for-other q n (λ same. none name (e ∙ ap Some same))
    ] refl)

-- a directory that isn't there counts as one without names
count_of_table : (q : ℕ) (o : Option Names) → weight (count_in q) o ≡ count_in q (names_in o)
count_of_table q None = sym (count_in-empty q)
count_of_table q (Some names) = refl

-- ---- the names in the whole tree

-- a directory's names are others
names_count-others : (t : Tree) (d : ℕ) (names : Names) (q : ℕ)
    → total (count_in q) (insert t.names d names) + count_in q (names_of t d) ≡ names_count t q + count_in q names
names_count-others t d names q =
    let before = count_of_table q (get t.names d) in
    let sums = total-insert (count_in q) t.names d names in
    omega arith

module _ (t : Tree) (d : ℕ) (name : List ℕ) where
  pub names_count-put_name : (n q : ℕ) → names_count (put_name t d name n) q + weight (one_for q) (entry_of t d name) ≡ names_count t q + one_for q n
  names_count-put_name n q =
      let sums = names_count-others t d (insert (names_of t d) name n) q in
      let here = count_in-insert q (names_of t d) name n in
      omega arith

  pub names_count-put_new_name : (n : ℕ) → entry_of t d name ≡ None → (q : ℕ) → names_count (put_name t d name n) q ≡ names_count t q + one_for q n
  names_count-put_new_name n new q =
      let none = ap (weight (one_for q)) new in
      let sums = names_count-put_name n q in
      omega arith

  pub names_count-drop_name : (q : ℕ) → names_count (drop_name t d name) q + weight (one_for q) (entry_of t d name) ≡ names_count t q
  names_count-drop_name q =
      let sums = names_count-others t d (remove (names_of t d) name) q in
      let here = count_in-remove q (names_of t d) name in
      omega arith

-- a node with a name has one at least
pub names_count_at_least : (t : Tree) (d : ℕ) (name : List ℕ) (n : ℕ) → HasName t d name n → 1 ≤ names_count t n
names_count_at_least t d name n h =
    let one = ap (weight (one_for n)) h ∙ one_for-same n in
    let sums = names_count-drop_name t d name n in
    omega arith

-- a node without a name has none
pub names_count_none : (t : Tree) (n : ℕ) → ((d : ℕ) (name : List ℕ) → HasName t d name n → ⊥) → names_count t n ≡ 0
names_count_none t n none =
    total_none (count_in n) t.names (λ d. count_of_table n (get t.names d) ∙ count_in_none n (names_of t d) (none d))

pub names_count-same : (t u : Tree) → ((d : ℕ) → names_of u d ≡ names_of t d) → (q : ℕ) → names_count u q ≡ names_count t q
names_count-same t u same q =
    total_same (count_in q) (count_in q) u.names t.names (λ d.
    count_of_table q (get u.names d) ∙ ap (count_in q) (same d) ∙ sym (count_of_table q (get t.names d)))

pub names_count-new_node : (t : Tree) (n : ℕ) (node : Node) → names_of t n ≡ empty → (q : ℕ) → names_count (new_node t n node) q ≡ names_count t q
names_count-new_node t n node none q = names_count-same t (new_node t n node) (names_of-new_node t n node none) q

pub names_count-changed : (t u : Tree) (n : ℕ) (f : Node → Node) → ChangesNode t u n f → (q : ℕ) → names_count u q ≡ names_count t q
names_count-changed t u n f c q = ap (λ m. total (count_in q) m) c.names

pub names_count-without_old : (t : Tree) (o : Option ℕ) (q : ℕ) → names_count (without_old t o) q ≡ names_count t q
names_count-without_old t o q = ap (λ m. total (count_in q) m) (names-without_old t o)

-- where no names were in it, a node that goes changes no count
pub names_count-forgotten : (t : Tree) (n : ℕ) → names_of t n ≡ empty → (q : ℕ) → names_count (forgotten t n) q ≡ names_count t q
names_count-forgotten t n bare q =
    let sums = total-remove (count_in q) t.names n in
    let none = count_of_table q (get t.names n) ∙ ap (count_in q) bare ∙ count_in-empty q in
    omega arith

-- ---- how many names a node counts

pub links_of-one_more : (t : Tree) (n : ℕ) → IsSome (get t.nodes n) → (q : ℕ) → links_of (one_more t n) q ≡ links_of t q + one_for q n
links_of-one_more t n there q =
    let c = one_more-changes t n in
    here_or_other (λ x. links_of (one_more t n) x ≡ links_of t x + one_for x n) n q
    (let one = one_for-same n in
    elim (get t.nodes n) as (λ o. get t.nodes n ≡ o → IsSome o → links_of (one_more t n) n ≡ links_of t n + one_for n n) [
      | None ↦ λ _ none. absurd (false≢true none)
      | Some node ↦ λ e _.
          let before : links_of t n ≡ node.links = ap links_in e in
          let after = links_of-changed t _ n _ c node e in
          omega arith
    ] refl there)
    (λ other.
    let none = one_for-other q n (λ e. other (sym e)) in
    let same = links_of-changed-other t _ n _ c q other in
    omega arith)

pub links_of-one_less : (t : Tree) (n : ℕ) → 1 ≤ links_of t n → (q : ℕ) → links_of (one_less t n) q + one_for q n ≡ links_of t q
links_of-one_less t n some q =
    let c = one_less-changes t n in
    here_or_other (λ x. links_of (one_less t n) x + one_for x n ≡ links_of t x) n q
    (let one = one_for-same n in
    elim (get t.nodes n) as (λ o. get t.nodes n ≡ o → links_of (one_less t n) n + one_for n n ≡ links_of t n) [
      | None ↦ λ e. let none : links_of t n ≡ 0 = ap links_in e in absurd (omega arith)
      | Some node ↦ λ e.
          let before : links_of t n ≡ node.links = ap links_in e in
          let after = links_of-changed t _ n _ c node e in
          omega arith
    ] refl)
    (λ other.
    let none = one_for-other q n (λ e. other (sym e)) in
    let same = links_of-changed-other t _ n _ c q other in
    omega arith)

pub links_of-without_old : (t : Tree) (o : Option ℕ) → ((n : ℕ) → o ≡ Some n → 1 ≤ links_of t n)
    → (q : ℕ) → links_of (without_old t o) q + weight (one_for q) o ≡ links_of t q
links_of-without_old t None some q = omega arith
links_of-without_old t (Some n) some q = links_of-one_less t n (some n refl) q

pub links_of-new_node-same : (t : Tree) (n : ℕ) (node : Node) → links_of (new_node t n node) n ≡ 1
links_of-new_node-same t n node = ap links_in (get-new_node-same t n node)

pub links_of-new_node-other : (t : Tree) (n : ℕ) (node : Node) (q : ℕ) → q ≢ n → links_of (new_node t n node) q ≡ links_of t q
links_of-new_node-other t n node q other = ap links_in (get-new_node-other t n node q other)
