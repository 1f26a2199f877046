-- Changes of trees hang on a node, or on the names in a directory, alone.
--     NodeAlike t u q, NamesAlike t u d      the trees have the same node of this number;  the same names in this directory
--     changed_node_alike, changed_names_alike      so they have after the same change of one node
--     retimed-changes, retimed_node_alike, retimed_names_alike      other times of a node are such a change;  so they have after that
--     put_name_alike, drop_name_alike      and after the same name came, or went
use Rattle.std.proofs.Common.{◌≡◌, ℕ, List, Some, None, refl, sym, ap, ◌∙◌}
use Rattle.std.specs.FinMap.{get, insert, remove}
use Rattle.std.specs.Option.{option_map}
use Rattle.abi_types.specs.declared.node.Node.{Node}
use Rattle.abi_types.specs.declared.node.Times.{Times}
use Rattle.maps.specs.Maps.{get-insert-same, get-insert-other}
use Rattle.tree_model.specs.Changes.{drop_name, put_name}
use Rattle.tree_model.specs.Entries.{ChangesNode, here_or_other, with_times-changes}
use Rattle.tree_model.specs.Tree.{names_in, names_of}
use Rattle.kernel_model.specs.Families.FileChanges.{retimed_in, retimed}
use Rattle.kernel_model.specs.State.{Names, Tree}

-- ---- nodes

-- the trees have the same node of this number, or none
abbrev pub NodeAlike : Tree → Tree → ℕ → Type 0
NodeAlike t u q = get t.nodes q ≡ get u.nodes q

-- and the same names in this directory
abbrev pub NamesAlike : Tree → Tree → ℕ → Type 0
NamesAlike t u d = get t.names d ≡ get u.names d

-- after the same change of one node they have the same node where they had it before
pub changed_node_alike : (t u t' u' : Tree) (n : ℕ) (f : Node → Node) → ChangesNode t t' n f → ChangesNode u u' n f → (q : ℕ)
    → NodeAlike t u q → NodeAlike t' u' q
changed_node_alike t u t' u' n f one other q =
    here_or_other (λ x. NodeAlike t u x → NodeAlike t' u' x) n q
    (λ same. one.node ∙ ap (option_map f) same ∙ sym other.node)
    (λ away same. one.others q away ∙ same ∙ sym (other.others q away))

-- and the same names
pub changed_names_alike : (t u t' u' : Tree) (n : ℕ) (f : Node → Node) → ChangesNode t t' n f → ChangesNode u u' n f → (d : ℕ)
    → NamesAlike t u d → NamesAlike t' u' d
changed_names_alike t u t' u' n f one other d same = ap (λ m. get m d) one.names ∙ same ∙ sym (ap (λ m. get m d) other.names)

-- a node with other times
abbrev pub timed : (Times → Times) → Node → Node
timed new node = record node { times = new node.times }

timed_changes : (t u : Tree) (n : ℕ) (new : Times → Times) (node : Node) → get t.nodes n ≡ Some node
    → ChangesNode t u n (λ (x : Node). record x { times = new node.times }) → ChangesNode t u n (timed new)
timed_changes t u n new node there c = record {
  names = c.names;
  node = c.node ∙ ap (option_map (λ (x : Node). record x { times = new node.times })) there ∙ sym (ap (option_map (timed new)) there);
  others = c.others;
}

pub retimed-changes : (t : Tree) (n : ℕ) (new : Times → Times) → ChangesNode t (retimed t n new) n (timed new)
retimed-changes t n new =
    elim (get t.nodes n) as (λ o. get t.nodes n ≡ o → ChangesNode t (retimed_in t n new o) n (timed new)) [
      | None ↦ λ none. record { names = refl; node = none ∙ ap (option_map (timed new)) (sym none); others = λ q other. refl }
      | Some node ↦ λ there. timed_changes t _ n new node there (with_times-changes t n (new node.times))
    ] refl

-- so they have with other times of a node
module _ (t u : Tree) (n : ℕ) (new : Times → Times) where
  pub retimed_node_alike : (q : ℕ) → NodeAlike t u q → NodeAlike (retimed t n new) (retimed u n new) q
  retimed_node_alike = changed_node_alike t u (retimed t n new) (retimed u n new) n (timed new) (retimed-changes t n new) (retimed-changes u n new)

  pub retimed_names_alike : (d : ℕ) → NamesAlike t u d → NamesAlike (retimed t n new) (retimed u n new) d
  retimed_names_alike = changed_names_alike t u (retimed t n new) (retimed u n new) n (timed new) (retimed-changes t n new) (retimed-changes u n new)

-- ---- names

-- what is set at one number is the same at each where it was, or where it is set
set_alike : (t u : Tree) (d : ℕ) (names more : Names) (q : ℕ) → (q ≡ d → names ≡ more) → NamesAlike t u q
    → get (insert t.names d names) q ≡ get (insert u.names d more) q
set_alike t u d names more q new =
    here_or_other (λ x. (x ≡ d → names ≡ more) → NamesAlike t u x → get (insert t.names d names) x ≡ get (insert u.names d more) x) d q
    (λ given same. get-insert-same t.names d names ∙ ap Some (given refl) ∙ sym (get-insert-same u.names d more))
    (λ away given same. get-insert-other t.names d names q away ∙ same ∙ sym (get-insert-other u.names d more q away)) new

-- the names in the directory, where another number isn't it
names_there : (t u : Tree) (d q : ℕ) → NamesAlike t u q → q ≡ d → names_of t d ≡ names_of u d
names_there t u d q same is = ap (names_of t) (sym is) ∙ ap names_in same ∙ ap (names_of u) is

pub put_name_alike : (t u : Tree) (d : ℕ) (name : List ℕ) (n q : ℕ) → NamesAlike t u q → NamesAlike (put_name t d name n) (put_name u d name n) q
put_name_alike t u d name n q same =
    set_alike t u d _ _ q (λ is. ap (λ (names : Names). insert names name n) (names_there t u d q same is)) same

pub drop_name_alike : (t u : Tree) (d : ℕ) (name : List ℕ) (q : ℕ) → NamesAlike t u q → NamesAlike (drop_name t d name) (drop_name u d name) q
drop_name_alike t u d name q same =
    set_alike t u d _ _ q (λ is. ap (λ (names : Names). remove names name) (names_there t u d q same is)) same
