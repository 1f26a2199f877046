-- Where a path leads from a directory that is there, the node is there.
--     LeadsThere t w, leads_there      a path ends at a node that is there, and its error is never BADF
--     by_path_found      what a call does there
--     at_last_found      what a call on names comes to at the last name of a path
use Rattle.std.proofs.Common.{◌≡◌, ◌≢◌, ℕ, not, Bool, true, false, cond, List, length, Option, Some, None, Ok, Err, is_some, refl, ap}
use Rattle.std.specs.Prelude.{⊤, nat_lt}
use Rattle.std.specs.FinMap.{get}
use Rattle.std.specs.Str.{is_utf8}
use Rattle.abi_base.specs.declared.errno.Errno.TheVariants.{Badf, Ilseq, Inval, NameTooLong}
use Rattle.abi_types.specs.declared.node.Node.{Node}
use Rattle.abi_types.specs.declared.node.NodeKind.{NodeKind}
use Rattle.abi_types.specs.declared.node.NodeKind.TheVariants as kind
use Rattle.abi_types.specs.declared.open_kind.OpenKind.TheVariants.{Directory}
use Rattle.maps.specs.Closure.{member}
use Rattle.path_lookup.proofs.Below.{stays_below}
use Rattle.path_lookup.specs.Laws.{EndsIn, FindsIn, IsClosed, IsIn}
use Rattle.path_lookup.specs.Walk.{WalkEnd, walk_of}
use Rattle.path_lookup.specs.declared.ends.End.{End as PathEnd}
use Rattle.path_lookup.specs.declared.ends.End.TheVariants as end
use Rattle.path_lookup.specs.declared.ends.WalkFault.{WalkFault}
use Rattle.path_lookup.specs.declared.ends.WalkFault.TheVariants as fault
use Rattle.path_lookup.specs.declared.ends.WalkMode.{WalkMode}
use Rattle.path_lookup.specs.declared.ends.WalkMode.TheVariants.{Parent}
use Rattle.tree_model.specs.Finds.{finding_of, finding_of_kind, finding_of_node, finds}
use Rattle.tree_model.specs.Tree.{entry_of, is_directory, is_directory_node}
use Rattle.kernel_model.specs.Families.FilePaths.{Walked, Ends, Fails, LeadsOutside, at_end, at_walked, longest_path, walk_failed, walked, walked_in, walked_unless}
use Rattle.kernel_model.specs.Families.LastNames.{LastName, StandsIn, IsNone, IsOutside, is_dots, last_name, last_of, name_at}
use Rattle.kernel_model.specs.Families.NameMeaning.{NameOutcome, at_name}
use Rattle.kernel_model.specs.Outcome.{Outcome}
use Rattle.kernel_model.specs.State.{Tree}
use Rattle.kernel_model.proofs.FoundOpens.{NamesOther, OnlyWhere, either}
use Rattle.kernel_model.proofs.Tests.{not_true}

-- ---- a walk ends at a node that is there

-- whether the node is there
abbrev pub is_there : Tree → ℕ → Bool
is_there t n = is_some (get t.nodes n)

kind_there : (t : Tree) (n : ℕ) (kind : NodeKind) → is_there t n ≡ true → FindsIn (is_there t) (finding_of_kind n kind)
kind_there t n (kind.File bytes) there = there
kind_there t n kind.Directory there = there
kind_there t n (kind.Link text) there = there

node_there : (t : Tree) (n : ℕ) (o : Option Node) → get t.nodes n ≡ o → FindsIn (is_there t) (finding_of_node n o)
node_there t n None is = tt
node_there t n (Some node) is = kind_there t n node.kind (ap is_some is)

entry_there : (t : Tree) (o : Option ℕ) → FindsIn (is_there t) (finding_of t o)
entry_there t None = tt
entry_there t (Some n) = node_there t n (get t.nodes n) refl

-- what a name is that is found is there
there_closed : (t : Tree) → IsClosed (finds t) (is_there t)
there_closed t = record { closed = λ d name _. entry_there t (entry_of t d name) }

pub directory_there : (o : Option Node) → is_directory_node o ≡ true → is_some o ≡ true
directory_there None directory = absurd (not_true directory)
directory_there (Some node) directory = refl

-- the number that the path's end has is that of a node which is there, and the error of a path is never BADF
abbrev pub LeadsThere : Tree → Walked → Type 0
LeadsThere t (Ends end) = IsIn (is_there t) end
LeadsThere t (Fails errno) = errno ≢ Badf
LeadsThere t (LeadsOutside component) = ⊤

failed_there : (t : Tree) (fault : WalkFault) → LeadsThere t (walk_failed fault)
failed_there t fault.NotDir = λ e. cc
failed_there t fault.NoEntry = λ e. cc
failed_there t fault.Loop = λ e. cc
failed_there t fault.TooLong = λ e. cc
failed_there t (fault.Outside component) = tt

unless_there : (t : Tree) (long broken zeros : Bool) (walk : WalkEnd) → EndsIn (is_there t) walk
    → LeadsThere t (walked_unless (cond long (Some NameTooLong) (cond broken (Some Ilseq) (cond zeros (Some Inval) None))) walk)
unless_there t true broken zeros walk h = λ e. cc
unless_there t false true zeros walk h = λ e. cc
unless_there t false false true walk h = λ e. cc
unless_there t false false false (Ok end) h = h
unless_there t false false false (Err fault) h = failed_there t fault

pub leads_there : (t : Tree) (mode : WalkMode) (path : List ℕ) (node : ℕ) → is_directory t node ≡ true → LeadsThere t (walked_in t mode path node)
leads_there t mode path node directory =
    unless_there t (nat_lt longest_path (length path)) (not (is_utf8 path)) (member 0 path) (walk_of (finds t) mode node path)
    (stays_below (finds t) mode node path (is_there t) (there_closed t) (directory_there (get t.nodes node) directory))

-- ---- what a call does there

end_found : (t : Tree) (goes : ℕ → Outcome) → ((n : ℕ) → is_there t n ≡ true → OnlyWhere ⊥ (goes n)) → (end : PathEnd) → IsIn (is_there t) end
    → OnlyWhere ⊥ (at_end goes end)
end_found t goes at (end.Found n) there = at n there
end_found t goes at (end.Absent dir from len) there = λ e. cc
end_found t goes at (end.Last dir from len) there = λ e. cc

walked_found : (t : Tree) (goes : ℕ → Outcome) → ((n : ℕ) → is_there t n ≡ true → OnlyWhere ⊥ (goes n)) → (w : Walked) → LeadsThere t w
    → OnlyWhere ⊥ (at_walked goes w)
walked_found t goes at (Ends end) leads = end_found t goes at end leads
walked_found t goes at (Fails errno) leads = leads
walked_found t goes at (LeadsOutside component) leads = λ e. cc

-- a call that does so at each node which is there does so where a path leads from a directory
pub by_path_found : (t : Tree) (goes : ℕ → Outcome) → ((n : ℕ) → is_there t n ≡ true → OnlyWhere ⊥ (goes n)) → (mode : WalkMode) (path : List ℕ)
    (node flags : ℕ) → is_directory t node ≡ true → OnlyWhere ⊥ (at_walked goes (walked t mode path (Some (Directory node flags))))
by_path_found t goes at mode path node flags directory =
    walked_found t goes at (walked_in t mode path node) (leads_there t mode path node directory)

-- ---- what a call on names comes to at the last name

-- the error of a last name is never BADF
abbrev LastOther : LastName → Type 0
LastOther (StandsIn dir name) = ⊤
LastOther (IsNone errno) = errno ≢ Badf
LastOther (IsOutside component) = ⊤

last_other : (t : Tree) (path : List ℕ) (w : Walked) → LeadsThere t w → LastOther (last_of path w)
last_other t path (Ends (end.Last dir from len)) leads =
    either LastOther (is_dots (name_at path from len)) (IsNone Inval) (StandsIn dir (name_at path from len)) (λ e. cc) tt
last_other t path (Ends (end.Absent dir from len)) leads = λ e. cc
last_other t path (Ends (end.Found n)) leads = λ e. cc
last_other t path (Fails errno) leads = leads
last_other t path (LeadsOutside component) leads = tt

name_found : (goes : ℕ → List ℕ → NameOutcome) → ((d : ℕ) (name : List ℕ) → NamesOther (goes d name)) → (last : LastName) → LastOther last
    → NamesOther (at_name goes last)
name_found goes at (StandsIn dir name) other = at dir name
name_found goes at (IsNone errno) other = other
name_found goes at (IsOutside component) other = tt

pub at_last_found : (t : Tree) (goes : ℕ → List ℕ → NameOutcome) → ((d : ℕ) (name : List ℕ) → NamesOther (goes d name)) → (path : List ℕ)
    (node flags : ℕ) → is_directory t node ≡ true → NamesOther (at_name goes (last_name t path (Some (Directory node flags))))
at_last_found t goes at path node flags directory =
    name_found goes at (last_name t path (Some (Directory node flags)))
    (last_other t path (walked_in t Parent path node) (leads_there t Parent path node directory))
