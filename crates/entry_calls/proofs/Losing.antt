-- Which node a change of the tree may leave without a name.
--     counted t n      how many names the node counts, where it is there
--     loses_by, loses_nothing      it loses what another change does;  where no node changes, none loses its name
--     loses-retimed, loses-recounted      other times take no name
--     loses-made, loses-linked      nor does a new node, or a name that comes
--     loses-unlinked, loses-renamed      a name that goes is one of its node alone;  and so is one that makes place for another
--     loses-opened      what an open does to the tree takes none
use Rattle.std.proofs.Common.{◌≡◌, ◌⊎◌, ℕ, ◌+◌, Bool, true, false, cond, List, [], Option, None, Some, inl, inr, refl, sym, ap, subst, ◌∙◌, arith}
use Rattle.std.specs.FinMap.{get}
use Rattle.std.specs.Option.{option_map}
use Rattle.abi_types.specs.declared.node.Node.{Node}
use Rattle.abi_types.specs.declared.node.NodeKind.TheVariants as kind
use Rattle.abi_types.specs.declared.node.Times.{Times}
use Rattle.tree_model.specs.Changes.{is_same, linked, made, moved_to, one_less, one_more, renamed, replaced, unlinked, with_bytes, with_count, without_old}
use Rattle.tree_model.specs.Entries.{ChangesNode, KeepsCount, get-new_node-other, get-new_node-same, here_or_other, one_less-changes, one_more-changes, with_bytes-changes, with_times-changes}
use Rattle.tree_model.specs.Tree.{Tree, entry_of}
use Rattle.kernel_model.specs.Families.FileChanges.{modified, retimed, retimed_in}
use Rattle.kernel_model.specs.Families.LastNames.{name_at}
use Rattle.kernel_model.specs.Families.NameMaking.{node_of}
use Rattle.kernel_model.specs.Families.NameMoving.{with_new_count_of}
use Rattle.kernel_model.specs.Families.NameRemoving.{recounted}
use Rattle.kernel_model.proofs.Tests.{same_some}
use Rattle.entry_calls.specs.Done.{IsNameless, LosesOnly}
use Rattle.entry_calls.specs.Plans.{change_of}
use Rattle.entry_calls.specs.declared.plans.OpenPlan.{OpenPlan}
use Rattle.entry_calls.specs.declared.plans.OpenPlan.TheVariants.{File, Directory, New}

-- how many names the node counts, where it is there
abbrev count_in : Option Node → Option ℕ
count_in o = option_map (λ (node : Node). node.links) o

abbrev counted : Tree → ℕ → Option ℕ
counted t n = count_in (get t.nodes n)

-- ---- where no name goes

pub loses_by : (t u w : Tree) (lost other : Option ℕ) → u ≡ w → lost ≡ other → LosesOnly t w other → LosesOnly t u lost
loses_by t u w lost other tree node loses = subst (λ x. LosesOnly t x lost) (sym tree) (subst (LosesOnly t w) (sym node) loses)

pub loses_nothing : (t : Tree) (lost : Option ℕ) → LosesOnly t t lost
loses_nothing t lost n none = inr none

loses_counted : (t u w : Tree) (lost : Option ℕ) → ((n : ℕ) → counted w n ≡ counted u n) → LosesOnly t u lost → LosesOnly t w lost
loses_counted t u w lost same loses n none = loses n (sym (same n) ∙ none)

count_kept : (f : Node → Node) → KeepsCount f → (o : Option Node) → count_in (option_map f o) ≡ count_in o
count_kept f same None = refl
count_kept f same (Some node) = ap Some (same node)

counted-changed : (t u : Tree) (n : ℕ) (f : Node → Node) → ChangesNode t u n f → KeepsCount f → (q : ℕ) → counted u q ≡ counted t q
counted-changed t u n f c same q =
    here_or_other (λ x. counted u x ≡ counted t x) n q (ap count_in c.node ∙ count_kept f same (get t.nodes n)) (λ other. ap count_in (c.others q other))

counted-retimed : (t : Tree) (n : ℕ) (new : Times → Times) (o : Option Node) (q : ℕ) → counted (retimed_in t n new o) q ≡ counted t q
counted-retimed t n new None q = refl
counted-retimed t n new (Some node) q = counted-changed t _ n _ (with_times-changes t n (new node.times)) (λ _. refl) q

pub loses-retimed : (t u : Tree) (n : ℕ) (new : Times → Times) (lost : Option ℕ) → LosesOnly t u lost → LosesOnly t (retimed u n new) lost
loses-retimed t u n new lost loses = loses_counted t u (retimed u n new) lost (counted-retimed u n new (get u.nodes n)) loses

pub loses-recounted : (t u : Tree) (now : ℕ) (node lost : Option ℕ) → LosesOnly t u lost → LosesOnly t (with_new_count_of now u node) lost
loses-recounted t u now None lost loses = loses
loses-recounted t u now (Some n) lost loses = loses-retimed t u n (recounted now) lost loses

-- ---- names that come

pub loses-made : (t : Tree) (d : ℕ) (name : List ℕ) (new : ℕ) (node : Node) → LosesOnly t (made t d name new node) None
loses-made t d name new node n =
    here_or_other (λ q. IsNameless (made t d name new node) q → (None ≡ Some q) ⊎ IsNameless t q) new n
    (λ none. (let one : 1 ≡ 0 = same_some 1 0 (sym (ap count_in (get-new_node-same t new node)) ∙ none) in absurd (omega (arith, one))))
    (λ other none. inr (sym (ap count_in (get-new_node-other t new node n other)) ∙ none))

counts_one : (o : Option Node) → count_in (option_map (λ (node : Node). with_count node (node.links + 1)) o) ≡ Some 0 → ⊥
counts_one None none = cc
counts_one (Some node) none = (let some : node.links + 1 ≡ 0 = same_some (node.links + 1) 0 none in absurd (omega (arith, some)))

pub loses-linked : (t : Tree) (d : ℕ) (name : List ℕ) (m : ℕ) → LosesOnly t (linked t d name m) None
loses-linked t d name m n =
    here_or_other (λ q. IsNameless (one_more t m) q → (None ≡ Some q) ⊎ IsNameless t q) m n
    (λ none. absurd (counts_one (get t.nodes m) (sym (ap count_in (one_more-changes t m).node) ∙ none)))
    (λ other none. inr (sym (ap count_in ((one_more-changes t m).others n other)) ∙ none))

-- ---- names that go

loses-without_old : (t : Tree) (o : Option ℕ) → LosesOnly t (without_old t o) o
loses-without_old t None n = λ none. inr none
loses-without_old t (Some m) n =
    here_or_other (λ q. IsNameless (one_less t m) q → (Some m ≡ Some q) ⊎ IsNameless t q) m n
    (λ none. inl refl)
    (λ other none. inr (sym (ap count_in ((one_less-changes t m).others n other)) ∙ none))

pub loses-unlinked : (t : Tree) (d : ℕ) (name : List ℕ) → LosesOnly t (unlinked t d name) (entry_of t d name)
loses-unlinked t d name = loses-without_old t (entry_of t d name)

loses-moved : (t : Tree) (from : ℕ) (name : List ℕ) (to : ℕ) (new : List ℕ) (o : Option ℕ) → LosesOnly t (moved_to t from name to new o) (entry_of t to new)
loses-moved t from name to new None = loses_nothing t (entry_of t to new)
loses-moved t from name to new (Some m) = loses-without_old t (entry_of t to new)

loses_either : (t u : Tree) (lost : Option ℕ) (b : Bool) → LosesOnly t u lost → LosesOnly t (cond b t u) (cond b None lost)
loses_either t u lost true loses = loses_nothing t None
loses_either t u lost false loses = loses

pub loses-renamed : (t : Tree) (from : ℕ) (name : List ℕ) (to : ℕ) (new : List ℕ) → LosesOnly t (renamed t from name to new) (replaced t from name to new)
loses-renamed t from name to new =
    loses_either t _ (entry_of t to new) (is_same (entry_of t from name) (entry_of t to new)) (loses-moved t from name to new (entry_of t from name))

-- ---- what an open does

loses_unless : (t u : Tree) (b : Bool) → LosesOnly t u None → LosesOnly t (cond b t u) None
loses_unless t u true loses = loses_nothing t None
loses_unless t u false loses = loses

loses-rewritten : (t : Tree) (n : ℕ) (bytes : List ℕ) → LosesOnly t (with_bytes t n bytes) None
loses-rewritten t n bytes =
    loses_counted t t (with_bytes t n bytes) None (counted-changed t _ n _ (with_bytes-changes t n bytes) (λ _. refl)) (loses_nothing t None)

pub loses-opened : (plan : OpenPlan) (path : List ℕ) (now new : ℕ) (t : Tree) → LosesOnly t (change_of plan path now new t).tree None
loses-opened (File n true) path now new t = loses_unless t _ _ (loses-retimed t _ n (modified now) None (loses-rewritten t n _))
loses-opened (File n false) path now new t = loses_nothing t None
loses-opened (Directory n) path now new t = loses_nothing t None
loses-opened (New place) path now new t = loses-retimed t _ place.dir (modified now) None (loses-made t place.dir (name_at path place.from place.len) new (node_of (kind.File []) now))
