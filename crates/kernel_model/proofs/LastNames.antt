-- What holds where a path leads, and of its last name, for a call that changes names there.
--     HasBelow t kind d      the number d is below the open's directory
--     below_is_seen, below_alike, entry_alike, entry_below      such a node and its names are seen, and alike where the same is seen;
--         so is the node of a name in it;  which is below as well, where it is there
--     walks_below      what a path's end names is below the open's directory
--     last_name_reads      by what is seen of the tree the last name stands where it does by the whole
--     last_name_below, stands_below, directory_is_seen, directory_unset      its directory is below the open's;  it is seen;  and when it is unset
--     last_plainly      where it stands nowhere, that is for an error that a path may come to
--     in_front, in_behind, all_both      lists one behind the other
--     at_name_holds, at_name_alike, at_name_reads, at_name_plain      what a call comes to at the last name
use Rattle.std.proofs.Common.{◌≡◌, ◌||◌, ℕ, Bool, true, false, cond, List, [], ◌∷◌, ◌++◌, Option, Some, None, inl, inr, IsSome, refl, sym, ap, subst, ◌∙◌}
use Rattle.std.proofs.lemmas.List.{append_assoc}
use Rattle.std.specs.Prelude.{⊤}
use Rattle.std.specs.FinMap.{get}
use Rattle.std.specs.List.{AllByRecursion}
use Rattle.abi_base.specs.declared.errno.Errno.{Errno}
use Rattle.abi_types.specs.declared.open_kind.OpenKind.{OpenKind}
use Rattle.abi_types.specs.declared.open_kind.OpenKind.TheVariants.{File, Directory, End, Terminal, Process}
use Rattle.maps.specs.Closure.{member}
use Rattle.path_lookup.specs.declared.ends.End.{End as PathEnd}
use Rattle.path_lookup.specs.declared.ends.End.TheVariants as end
use Rattle.path_lookup.specs.declared.ends.WalkMode.{WalkMode}
use Rattle.path_lookup.specs.declared.ends.WalkMode.TheVariants.{Parent}
use Rattle.tree_model.specs.Below.{below_closed}
use Rattle.tree_model.specs.Finds.{named_alike}
use Rattle.tree_model.specs.Tree.{HasName, below}
use Rattle.kernel_model.specs.Families.FilePaths.{Walked, Ends, Fails, LeadsOutside, path_errors, walked}
use Rattle.kernel_model.specs.Families.LastNames.{LastName, StandsIn, IsNone, IsOutside, directory_parts, is_dots, last_name, last_of, last_outside, name_at}
use Rattle.kernel_model.specs.Families.NameMeaning.{NameOutcome, Refuses, LeadsOut, at_name}
use Rattle.kernel_model.specs.Proper.{IsIn}
use Rattle.kernel_model.specs.Sight.{behind}
use Rattle.kernel_model.specs.State.{State, Tree, tree_of, Part, at_node, at_names, same_part, has_part}
use Rattle.kernel_model.proofs.Branches.{IsSeen, names_are_part, node_is_part}
use Rattle.kernel_model.proofs.FilePaths.{FailsPlainly, LeadsIn, inval_among, leads_below, noent_among, walked_plainly, walked_reads}
use Rattle.kernel_model.proofs.Lists.{in_more}
use Rattle.kernel_model.proofs.NameMeanings.{IsPlainly, SetsAlike}
use Rattle.kernel_model.proofs.Parts.{outside_cons, same_part_is}
use Rattle.kernel_model.proofs.Tests.{either_true, not_true}

-- ---- below an open's directory

abbrev pub HasBelow : Tree → Option OpenKind → ℕ → Type 0
HasBelow t None d = ⊥
HasBelow t (Some (File node offset flags)) d = ⊥
HasBelow t (Some (Directory node flags)) d = member d (below t node) ≡ true
HasBelow t (Some (End reads writes flags form)) d = ⊥
HasBelow t (Some (Terminal which flags)) d = ⊥
HasBelow t (Some (Process p object)) d = ⊥

pub below_is_seen : (S : State) (kind : Option OpenKind) (d : ℕ) → HasBelow (tree_of S) kind d
    → (has_part (behind S kind) (at_node d) ≡ true) × (has_part (behind S kind) (at_names d) ≡ true)
below_is_seen S (Some (Directory node flags)) d under =
    (node_is_part d (below (tree_of S) node) under, names_are_part d (below (tree_of S) node) under)
below_is_seen S kind d under = absurd under

pub below_alike : (t u : Tree) (kind : Option OpenKind) (d : ℕ) → IsSeen t u kind → HasBelow t kind d
    → (get t.nodes d ≡ get u.nodes d) × (get t.names d ≡ get u.names d)
below_alike t u (Some (Directory node flags)) d seen under = (seen.nodes d under, seen.names d under)
below_alike t u kind d seen under = absurd under

-- the node of a name there is alike, if it is there or not
pub entry_alike : (t u : Tree) (kind : Option OpenKind) (d : ℕ) (name : List ℕ) (n : ℕ) → IsSeen t u kind → HasBelow t kind d → HasName t d name n
    → get t.nodes n ≡ get u.nodes n
entry_alike t u (Some (Directory node flags)) d name n seen under has = named_alike t u node seen d name n under has
entry_alike t u kind d name n seen under has = absurd under

pub entry_below : (t : Tree) (kind : Option OpenKind) (d : ℕ) (name : List ℕ) (n : ℕ) → HasBelow t kind d → HasName t d name n → IsSome (get t.nodes n)
    → HasBelow t kind n
entry_below t (Some (Directory node flags)) d name n under has there = below_closed t node d name n under has there
entry_below t kind d name n under has there = absurd under

-- ---- where a path leads

abbrev pub EndsBelow : Tree → Option OpenKind → PathEnd → Type 0
EndsBelow t kind (end.Found n) = HasBelow t kind n
EndsBelow t kind (end.Absent dir from len) = HasBelow t kind dir
EndsBelow t kind (end.Last dir from len) = HasBelow t kind dir

abbrev pub WalksBelow : Tree → Option OpenKind → Walked → Type 0
WalksBelow t kind (Ends end) = EndsBelow t kind end
WalksBelow t kind (Fails errno) = ⊤
WalksBelow t kind (LeadsOutside component) = ⊤

end_is_below : (t : Tree) (node flags : ℕ) (end : PathEnd) → LeadsIn (λ n. member n (below t node)) (Ends end)
    → EndsBelow t (Some (Directory node flags)) end
end_is_below t node flags (end.Found n) h = h
end_is_below t node flags (end.Absent dir from len) h = h
end_is_below t node flags (end.Last dir from len) h = h

walk_is_below : (t : Tree) (node flags : ℕ) (w : Walked) → LeadsIn (λ n. member n (below t node)) w → WalksBelow t (Some (Directory node flags)) w
walk_is_below t node flags (Ends end) h = end_is_below t node flags end h
walk_is_below t node flags (Fails errno) h = tt
walk_is_below t node flags (LeadsOutside component) h = tt

pub walks_below : (t : Tree) (mode : WalkMode) (path : List ℕ) (kind : Option OpenKind) → WalksBelow t kind (walked t mode path kind)
walks_below t mode path None = tt
walks_below t mode path (Some (File node offset flags)) = tt
walks_below t mode path (Some (Directory node flags)) =
    walk_is_below t node flags (walked t mode path (Some (Directory node flags))) (leads_below t mode path node)
walks_below t mode path (Some (End reads writes flags form)) = tt
walks_below t mode path (Some (Terminal which flags)) = tt
walks_below t mode path (Some (Process p object)) = tt

-- ---- the last name

pub last_name_reads : (t u : Tree) (path : List ℕ) (kind : Option OpenKind) → IsSeen t u kind → last_name u path kind ≡ last_name t path kind
last_name_reads t u path kind seen = ap (last_of path) (walked_reads t u Parent path kind seen)

-- what holds of each name in a directory, and where there is none, holds of a name that may be `.` or `..`
dots_or : (P : LastName → Type 0) (b : Bool) (first second : LastName) → P first → P second → P (cond b first second)
dots_or P true first second one other = one
dots_or P false first second one other = other

abbrev pub StandsBelow : Tree → Option OpenKind → LastName → Type 0
StandsBelow t kind (StandsIn dir name) = HasBelow t kind dir
StandsBelow t kind (IsNone errno) = ⊤
StandsBelow t kind (IsOutside component) = ⊤

last_is_below : (t : Tree) (kind : Option OpenKind) (path : List ℕ) (w : Walked) → WalksBelow t kind w → StandsBelow t kind (last_of path w)
last_is_below t kind path (Ends (end.Last dir from len)) h =
    dots_or (StandsBelow t kind) (is_dots (name_at path from len)) _ (StandsIn dir (name_at path from len)) tt h
last_is_below t kind path (Ends (end.Absent dir from len)) h = tt
last_is_below t kind path (Ends (end.Found n)) h = tt
last_is_below t kind path (Fails errno) h = tt
last_is_below t kind path (LeadsOutside component) h = tt

pub last_name_below : (t : Tree) (path : List ℕ) (kind : Option OpenKind) → StandsBelow t kind (last_name t path kind)
last_name_below t path kind = last_is_below t kind path (walked t Parent path kind) (walks_below t Parent path kind)

pub stands_below : (t : Tree) (path : List ℕ) (kind : Option OpenKind) (d : ℕ) (name : List ℕ) → last_name t path kind ≡ StandsIn d name → HasBelow t kind d
stands_below t path kind d name is =
    subst (StandsBelow t kind) is (last_name_below t path kind)

pub directory_seen : (S : State) (kind : Option OpenKind) (last : LastName) (q : Part) → StandsBelow (tree_of S) kind last
    → has_part (directory_parts last) q ≡ true → has_part (behind S kind) q ≡ true
directory_seen S kind (StandsIn dir name) q under here =
    let seen = below_is_seen S kind dir under in
    elim (either_true (same_part (at_node dir) q) (same_part (at_names dir) q || false) here) [
      | inl node ↦ subst (λ part. has_part (behind S kind) part ≡ true) (same_part_is (at_node dir) q node) seen.0
      | inr later ↦ elim (either_true (same_part (at_names dir) q) false later) [
        | inl names ↦ subst (λ part. has_part (behind S kind) part ≡ true) (same_part_is (at_names dir) q names) seen.1
        | inr none ↦ absurd (not_true none)
      ]
    ]
directory_seen S kind (IsNone errno) q under here = absurd (not_true here)
directory_seen S kind (IsOutside component) q under here = absurd (not_true here)

pub directory_is_seen : (S : State) (path : List ℕ) (kind : Option OpenKind) (q : Part)
    → has_part (directory_parts (last_name (tree_of S) path kind)) q ≡ true → has_part (behind S kind) q ≡ true
directory_is_seen S path kind q here =
    directory_seen S kind (last_name (tree_of S) path kind) q (last_name_below (tree_of S) path kind) here

pub directory_unset : (last : LastName) (q : Part) (d : ℕ) (name : List ℕ) → has_part (directory_parts last) q ≡ false → last ≡ StandsIn d name
    → (same_part (at_node d) q ≡ false) × (same_part (at_names d) q ≡ false)
directory_unset last q d name h is =
    let first = outside_cons (at_node d) (at_names d ∷ []) q (sym (ap (λ l. has_part (directory_parts l) q) is) ∙ h) in
    (first.0, (outside_cons (at_names d) [] q first.1).0)

-- ---- lists one behind the other

pub in_front : {X : Type 0} (x : X) (xs ys : List X) → IsIn x xs → IsIn x (xs ++ ys)
in_front x xs ys here = (here.0, here.1 ++ ys, ap (λ zs. zs ++ ys) here.2 ∙ append_assoc here.0 (x ∷ here.1) ys)

pub in_behind : {X : Type 0} (x : X) (xs ys : List X) → IsIn x ys → IsIn x (xs ++ ys)
in_behind x [] ys here = here
in_behind x (first ∷ xs) ys here = in_more x first (xs ++ ys) (in_behind x xs ys here)

pub all_both : {X : Type 0} (P : X → Type 0) (xs ys : List X) → AllByRecursion P xs → AllByRecursion P ys → AllByRecursion P (xs ++ ys)
all_both P [] ys all more = more
all_both P (x ∷ xs) ys all more = (all.0, all_both P xs ys all.1 more)

-- ---- the errors of last names

abbrev pub LastPlainly : LastName → Type 0
LastPlainly (StandsIn dir name) = ⊤
LastPlainly (IsNone errno) = IsIn errno path_errors
LastPlainly (IsOutside component) = ⊤

last_is_plain : (path : List ℕ) (w : Walked) → FailsPlainly w → LastPlainly (last_of path w)
last_is_plain path (Ends (end.Last dir from len)) h =
    dots_or LastPlainly (is_dots (name_at path from len)) _ (StandsIn dir (name_at path from len)) inval_among tt
last_is_plain path (Ends (end.Absent dir from len)) h = noent_among
last_is_plain path (Ends (end.Found n)) h = inval_among
last_is_plain path (Fails errno) h = h
last_is_plain path (LeadsOutside component) h = tt

pub last_plainly : (t : Tree) (path : List ℕ) (kind : Option OpenKind) → LastPlainly (last_name t path kind)
last_plainly t path kind = last_is_plain path (walked t Parent path kind) (walked_plainly t Parent path kind)

-- ---- what a call comes to at the last name

module _ (P : NameOutcome → Type 0) (goes : ℕ → List ℕ → NameOutcome)
    (refuses : (errno : Errno) → P (Refuses errno)) (leads : (component : ℕ) → P (LeadsOut component)) where
  pub at_name_holds : (last : LastName) → ((d : ℕ) (name : List ℕ) → last ≡ StandsIn d name → P (goes d name)) → P (at_name goes last)
  at_name_holds (StandsIn d name) at = at d name refl
  at_name_holds (IsNone errno) at = refuses errno
  at_name_holds (IsOutside component) at = leads component

pub at_name_alike : (goes other : ℕ → List ℕ → NameOutcome) (last : LastName)
    → ((d : ℕ) (name : List ℕ) → last ≡ StandsIn d name → SetsAlike (goes d name) (other d name)) → SetsAlike (at_name goes last) (at_name other last)
at_name_alike goes other (StandsIn d name) at = at d name refl
at_name_alike goes other (IsNone errno) at = refl
at_name_alike goes other (IsOutside component) at = refl

-- it comes to the same by what is seen of the tree, where it does so in each directory below the open's
pub at_name_reads : (goes : Tree → ℕ → List ℕ → NameOutcome) (t u : Tree) (path : List ℕ) (kind : Option OpenKind)
    → ((d : ℕ) (name : List ℕ) → HasBelow t kind d → SetsAlike (goes u d name) (goes t d name)) → IsSeen t u kind
    → SetsAlike (at_name (goes u) (last_name u path kind)) (at_name (goes t) (last_name t path kind))
at_name_reads goes t u path kind alike seen =
    subst (λ last. SetsAlike (at_name (goes u) last) (at_name (goes t) (last_name t path kind))) (sym (last_name_reads t u path kind seen))
    (at_name_alike (goes u) (goes t) (last_name t path kind) (λ d name is. alike d name (stands_below t path kind d name is)))

plain_at_last : (more : List Errno) (goes : ℕ → List ℕ → NameOutcome) (last : LastName) → LastPlainly last
    → ((d : ℕ) (name : List ℕ) → IsPlainly (path_errors ++ more) None (goes d name)) → IsPlainly (path_errors ++ more) (last_outside last) (at_name goes last)
plain_at_last more goes (StandsIn d name) h at = at d name
plain_at_last more goes (IsNone errno) h at = in_front errno path_errors more h
plain_at_last more goes (IsOutside component) h at = refl

pub at_name_plain : (more : List Errno) (goes : ℕ → List ℕ → NameOutcome) (t : Tree) (path : List ℕ) (kind : Option OpenKind)
    → ((d : ℕ) (name : List ℕ) → IsPlainly (path_errors ++ more) None (goes d name))
    → IsPlainly (path_errors ++ more) (last_outside (last_name t path kind)) (at_name goes (last_name t path kind))
at_name_plain more goes t path kind at = plain_at_last more goes (last_name t path kind) (last_plainly t path kind) at
