-- Whether a directory is below another, decided by climbing from it to the directory that has a name of it.
--     single_name      a directory has one name, in one directory
--     has_parent      a directory has a name, where it counts one and isn't the root
--     no_parent      the root, and what counts no name, has none
--     climb_from_itself      each is below itself
--     climb      another directory is below n exactly where the one that has a name of it is
--     climb_ends      another directory that has no name is not below n
--     climb_lowers      each climb leads to a lower height
--     depth t q, climb_shortens      how many nodes q is below;  each climb leaves fewer
use Rattle.std.proofs.Common.{◌≡◌, ◌≢◌, ◌⊎◌, ℕ, zero, suc, ◌<◌, ◌≤◌, Bool, true, false, cond, inl, inr, List, Option, Some, None, IsSome, is_some, refl, sym, ap, ◌∙◌, arith}
use Rattle.std.proofs.lemmas.Bool.{false≢true, false_from_ne_true}
use Rattle.std.proofs.lemmas.Bool.Decides.{eqb_tells, same_from_decides}
use Rattle.std.specs.FinMap.{FinMap, get, insert, remove, len, retain_keys}
use Rattle.std.specs.Ordering.{nat_cmp}
use Rattle.abi_types.specs.declared.node.Node.{Node}
use Rattle.maps.specs.Closure.{member, total_ones, total_below}
use Rattle.maps.specs.Maps.{weight, total, map_induction, total-empty, total-insert_new, get-insert-same, get-insert-other, get-remove-other, get-retain, len-removed}
use Rattle.tree_model.specs.declared.limits.TheConstants.{ROOT}
use Rattle.tree_model.specs.Tree.{Tree, Names, HasName, IsTree, names_in, below, is_directory, links_of, one_for, count_in}
use Rattle.tree_model.specs.Changes.{drop_name}
use Rattle.tree_model.specs.Entries.{entry_of-drop_name-other, same_place_or_not}
use Rattle.tree_model.specs.Counts.{one_for-same, one_for-other, names_count_at_least, names_count-drop_name}
use Rattle.tree_model.specs.Facts.{counts_names, links_of_root}
use Rattle.tree_model.specs.Below.{some_name, below_self, below_closed, below_cases}
use Rattle.tree_model.specs.Heights.{not_below_child}

-- ---- a directory has one name

-- a directory has one name, in one directory
pub single_name : (t : Tree) → IsTree t → (n : ℕ) → is_directory t n ≡ true → (d : ℕ) (name : List ℕ) (d' : ℕ) (name' : List ℕ)
    → HasName t d name n → HasName t d' name' n → (d ≡ d') × (name ≡ name')
single_name t h n is d name d' name' e f =
    elim (same_place_or_not d name d' name') [
      | inl same ↦ (sym same.0, sym same.1)
      | inr away ↦
          let one = ap (weight (one_for n)) e ∙ one_for-same n in
          let others = names_count_at_least (drop_name t d name) d' name' n (entry_of-drop_name-other t d name d' name' away ∙ f) in
          let sum = names_count-drop_name t d name n in
          let count = counts_names t h n in
          let most = h.single n is in
          absurd (omega arith)
    ]

-- some directory has a name of a node that has one at all
some_directory : (n : ℕ) (m : FinMap nat_cmp Names) → 0 < total (count_in n) m → (d : ℕ) × (0 < weight (count_in n) (get m d))
some_directory n =
    map_induction (λ m. 0 < total (count_in n) m → (d : ℕ) × (0 < weight (count_in n) (get m d)))
    (λ some. let none = total-empty (count_in n) in absurd (omega arith))
    (λ m k names new rest some.
    elim (count_in n names) as (λ c. count_in n names ≡ c → (d : ℕ) × (0 < weight (count_in n) (get (insert m k names) d))) [
      | zero ↦ λ none.
          let sum = total-insert_new (count_in n) m k names new in
          let found = rest (omega arith) in
          let weighs = found.1 in
          let apart : found.0 ≢ k = λ same.
          let nothing = ap (λ x. weight (count_in n) (get m x)) same ∙ ap (weight (count_in n)) new in
          absurd (omega arith) in
          let same = ap (weight (count_in n)) (get-insert-other m k names found.0 apart) in
          (found.0, omega arith)
      | suc c ↦ λ more. let same = ap (weight (count_in n)) (get-insert-same m k names) in (k, omega arith)
    ] refl)

some_name_weighs : (n : ℕ) (o : Option Names) → 0 < weight (count_in n) o → (name : List ℕ) × (get (names_in o) name ≡ Some n)
some_name_weighs n None some = absurd (omega arith)
some_name_weighs n (Some names) some = some_name n names some

-- a directory has a name, where it counts one and isn't the root
pub has_parent : (t : Tree) → IsTree t → (n : ℕ) → is_directory t n ≡ true → links_of t n ≢ 0 → n ≢ ROOT
    → (d : ℕ) × (name : List ℕ) × HasName t d name n
has_parent t h n is linked other =
    let count = counts_names t h n in
    let none = one_for-other ROOT n other in
    let one = some_directory n t.names (omega arith) in
    let name = some_name_weighs n (get t.names one.0) one.1 in
    (one.0, name.0, name.1)

-- the root, and what counts no name, has none
pub no_parent : (t : Tree) → IsTree t → (n : ℕ) → (links_of t n ≡ 0) ⊎ (n ≡ ROOT) → (d : ℕ) (name : List ℕ) → HasName t d name n → ⊥
no_parent t h n top d name e =
    let some = names_count_at_least t d name n e in
    let count = counts_names t h n in
    elim top [
      | inl none ↦ omega arith
      | inr same ↦
          let one = ap (one_for ROOT) same ∙ one_for-same ROOT in
          let links = ap (links_of t) same ∙ links_of_root t h in
          omega arith
    ]

-- ---- climbing

-- each is below itself
pub climb_from_itself : (t : Tree) (d n : ℕ) → d ≡ n → member d (below t n) ≡ true
climb_from_itself t d n same = ap (λ x. member x (below t n)) same ∙ below_self t n

-- another directory is below n exactly where the one that has a name of it is
pub climb : (t : Tree) → IsTree t → (n p : ℕ) (name : List ℕ) (d : ℕ) → is_directory t d ≡ true → HasName t p name d → d ≢ n
    → member d (below t n) ≡ member p (below t n)
climb t h n p name d is e other =
    same_from_decides _ _ (λ e. e, λ e. e) (
      λ over. below_closed t n p name d over e (h.led p name d e),
      λ under. elim (below_cases t n d under) [
        | inl same ↦ absurd (other same)
        | inr last ↦ ap (λ x. member x (below t n)) (single_name t h d is p name last.0 last.1 e last.3).0 ∙ last.2
      ],
    )

-- another directory that has no name, since it is the root or counts none, is not below n
pub climb_ends : (t : Tree) → IsTree t → (n d : ℕ) → (links_of t d ≡ 0) ⊎ (d ≡ ROOT) → d ≢ n → member d (below t n) ≡ false
climb_ends t h n d top other =
    false_from_ne_true _ (λ under. elim (below_cases t n d under) [
      | inl same ↦ other same
      | inr last ↦ no_parent t h d top last.0 last.1 last.3
    ])

-- each climb leads to a lower height
pub climb_lowers : (t : Tree) (h : IsTree t) (p : ℕ) (name : List ℕ) (d : ℕ) → HasName t p name d → h.acyclic.height p < h.acyclic.height d
climb_lowers t h p name d e = h.acyclic.rises p name d e

-- ---- how deep a node is

-- how many nodes it is below, itself among them
unfoldable pub depth : Tree → ℕ → ℕ
depth t q = len (retain_keys t.nodes (λ a. member q (below t a)))

kept_weight : (b c : Bool) (o : Option Node) → (b ≡ true → c ≡ true) → weight (λ _. 1) (cond b o None) ≤ weight (λ _. 1) (cond c o None)
kept_weight true true o f = omega arith
kept_weight true false o f = absurd (false≢true (f refl))
kept_weight false c o f = omega arith

-- each climb leaves fewer
pub climb_shortens : (t : Tree) → IsTree t → (p : ℕ) (name : List ℕ) (d : ℕ) → HasName t p name d → depth t p < depth t d
unfolding depth
climb_shortens t h p name d e =
    let above = λ (q a : ℕ). member q (below t a) in
    let few = retain_keys t.nodes (above p) in
    let many = retain_keys t.nodes (above d) in
    let here : IsSome (get t.nodes d) = h.led p name d e in
    elim (get t.nodes d) as (λ o. get t.nodes d ≡ o → len few < len many) [
      | None ↦ λ none. absurd (false≢true (sym (ap is_some none) ∙ here))
      | Some node ↦ λ there.
          let kept : get many d ≡ Some node = get-retain t.nodes (above d) d ∙ ap (λ b. cond b (get t.nodes d) None) (below_self t d) ∙ there in
          let gone : get few d ≡ None = get-retain t.nodes (above p) d ∙ ap (λ b. cond b (get t.nodes d) None) (not_below_child t h.acyclic p name d e) in
          let less : total (λ _. 1) few ≤ total (λ _. 1) (remove many d) = total_below (λ _. 1) (λ _. 1) few (remove many d) (λ q. elim (eqb_tells q d) [
            | inl same ↦ let nothing : weight (λ _. 1) (get few q) ≡ 0 = ap (λ x. weight (λ _. 1) (get few x)) same.1 ∙ ap (weight (λ _. 1)) gone in omega arith
            | inr other ↦
                let left : weight (λ _. 1) (get few q) ≡ weight (λ _. 1) (cond (above p q) (get t.nodes q) None) = ap (weight (λ _. 1)) (get-retain t.nodes (above p) q) in
                let right : weight (λ _. 1) (get (remove many d) q) ≡ weight (λ _. 1) (cond (above d q) (get t.nodes q) None) =
                ap (weight (λ _. 1)) (get-remove-other many d q other.1 ∙ get-retain t.nodes (above d) q) in
                let most = kept_weight (above p q) (above d q) (get t.nodes q) (λ over. below_closed t q p name d over e here) in
                omega arith
          ]) in
          let size = len-removed many d node kept in
          let count : total (λ _. 1) few ≡ len few = total_ones few in
          let others : total (λ _. 1) (remove many d) ≡ len (remove many d) = total_ones (remove many d) in
          omega arith
    ] refl
