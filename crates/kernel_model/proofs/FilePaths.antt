-- What holds of a path that is walked, and of what a call does where it leads.
--     walked_reads      by what is seen of the tree it leads where it does by the whole
--     at_walked_reads      and the call does there the same
--     leads_below      it ends below the directory where it begins
--     found_is_seen      the node that is found is seen
--     walked_plainly      its error is one of those that a path may come to
--     at_walked_holds, at_walked_plain, at_walked_unset      what holds of each reply and at each node holds where it leads
use Rattle.std.proofs.Common.{◌≡◌, ◌≢◌, ℕ, Bool, true, false, not, cond, List, [], ◌∷◌, Option, Some, None, Ok, Err, inr, refl, sym, ap, subst, ◌∙◌}
use Rattle.std.specs.Prelude.{⊤, nat_lt, length}
use Rattle.std.specs.Str.{is_utf8}
use Rattle.std.specs.FinMap.{get}
use Rattle.std.specs.List.{AllByRecursion}
use Rattle.abi_base.specs.declared.errno.Errno.{Errno}
use Rattle.abi_base.specs.declared.errno.Errno.TheVariants.{Badf, Ilseq, Inval, Loop, NameTooLong, Noent, Nomem, Notdir}
use Rattle.abi_types.specs.declared.open_kind.OpenKind.{OpenKind}
use Rattle.abi_types.specs.declared.open_kind.OpenKind.TheVariants.{File, Directory, End, Terminal, Process}
use Rattle.abi_types.specs.declared.reply.Reply.{Reply}
use Rattle.maps.specs.Closure.{member}
use Rattle.path_lookup.proofs.Agreeing.{reads_below}
use Rattle.path_lookup.proofs.Below.{stays_below}
use Rattle.path_lookup.specs.Laws.{EndsIn, IsIn}
use Rattle.path_lookup.specs.Walk.{WalkEnd, walk_of}
use Rattle.path_lookup.specs.declared.ends.End.{End as PathEnd}
use Rattle.path_lookup.specs.declared.ends.End.TheVariants as end
use Rattle.path_lookup.specs.declared.ends.WalkFault.{WalkFault}
use Rattle.path_lookup.specs.declared.ends.WalkFault.TheVariants as fault
use Rattle.path_lookup.specs.declared.ends.WalkMode.{WalkMode}
use Rattle.tree_model.specs.Below.{below_self}
use Rattle.tree_model.specs.Finds.{HasSameBelow, finds, finds_agree, finds_closed}
use Rattle.tree_model.specs.Tree.{below}
use Rattle.kernel_model.specs.Families.FilePaths.{Walked, Ends, Fails, LeadsOutside, longest_path, path_error, path_errors, walk_failed, walked_unless, walked_in, walked, outside_of, at_end, at_walked, end_part, found_part}
use Rattle.kernel_model.specs.Outcome.{Outcome, replies}
use Rattle.kernel_model.specs.Proper.{IsDeniedOutside, IsIn as IsAmong, IsPlain, IsUnset}
use Rattle.kernel_model.specs.Sight.{behind, node_parts}
use Rattle.kernel_model.specs.State.{State, Tree, tree_of, Part, at_node, same_part, has_part}
use Rattle.kernel_model.proofs.Branches.{IsSeen, node_is_part}
use Rattle.kernel_model.proofs.Parts.{outside_cons, same_part_is}
use Rattle.kernel_model.proofs.Tests.{not_true, or_false}

-- ---- where a path leads, by what is seen

pub walk_reads : (t u : Tree) (mode : WalkMode) (path : List ℕ) (start : ℕ) → HasSameBelow t u start → walked_in u mode path start ≡ walked_in t mode path start
walk_reads t u mode path start same =
    ap (walked_unless (path_error path))
    (sym (reads_below (finds t) (finds u) (λ n. member n (below t start)) mode start path (finds_closed t start) (finds_agree t u start same) (below_self t start)))

pub walked_reads : (t u : Tree) (mode : WalkMode) (path : List ℕ) (kind : Option OpenKind) → IsSeen t u kind → walked u mode path kind ≡ walked t mode path kind
walked_reads t u mode path None seen = refl
walked_reads t u mode path (Some (File node offset flags)) seen = refl
walked_reads t u mode path (Some (Directory node flags)) seen = walk_reads t u mode path node seen
walked_reads t u mode path (Some (End reads writes flags form)) seen = refl
walked_reads t u mode path (Some (Terminal which flags)) seen = refl
walked_reads t u mode path (Some (Process p object)) seen = refl

-- ---- a path ends below the directory where it begins

-- a number that the path's end has is in this set
abbrev pub LeadsIn : (ℕ → Bool) → Walked → Type 0
LeadsIn inside (Ends end) = IsIn inside end
LeadsIn inside (Fails errno) = ⊤
LeadsIn inside (LeadsOutside component) = ⊤

failed_in : (inside : ℕ → Bool) (fault : WalkFault) → LeadsIn inside (walk_failed fault)
failed_in inside fault.NotDir = tt
failed_in inside fault.NoEntry = tt
failed_in inside fault.Loop = tt
failed_in inside fault.TooLong = tt
failed_in inside (fault.Outside component) = tt

unless_in : (inside : ℕ → Bool) (error : Option Errno) (walk : WalkEnd) → EndsIn inside walk → LeadsIn inside (walked_unless error walk)
unless_in inside (Some errno) walk h = tt
unless_in inside None (Ok end) h = h
unless_in inside None (Err fault) h = failed_in inside fault

pub leads_below : (t : Tree) (mode : WalkMode) (path : List ℕ) (start : ℕ) → LeadsIn (λ n. member n (below t start)) (walked_in t mode path start)
leads_below t mode path start =
    unless_in (λ n. member n (below t start)) (path_error path) (walk_of (finds t) mode start path)
    (stays_below (finds t) mode start path (λ n. member n (below t start)) (finds_closed t start) (below_self t start))

-- ---- what a call does where a path leads, by what is seen

-- it goes on alike at a node that is alike in both trees
abbrev pub GoesAlike : (Tree → ℕ → Outcome) → Type 0
GoesAlike goes = (t u : Tree) (n : ℕ) → get t.nodes n ≡ get u.nodes n → goes u n ≡ goes t n

module _ (goes : Tree → ℕ → Outcome) (alike : GoesAlike goes) where
  at_end_alike : (t u : Tree) (start : ℕ) (end : PathEnd) → HasSameBelow t u start → IsIn (λ n. member n (below t start)) end
      → at_end (goes u) end ≡ at_end (goes t) end
  at_end_alike t u start (end.Found n) same h = alike t u n (same.nodes n h)
  at_end_alike t u start (end.Absent dir from len) same h = refl
  at_end_alike t u start (end.Last dir from len) same h = refl

  at_walked_alike : (t u : Tree) (start : ℕ) (w : Walked) → HasSameBelow t u start → LeadsIn (λ n. member n (below t start)) w
      → at_walked (goes u) w ≡ at_walked (goes t) w
  at_walked_alike t u start (Ends end) same h = at_end_alike t u start end same h
  at_walked_alike t u start (Fails errno) same h = refl
  at_walked_alike t u start (LeadsOutside component) same h = refl

  pub at_walked_reads : (t u : Tree) (mode : WalkMode) (path : List ℕ) (kind : Option OpenKind) → IsSeen t u kind
      → at_walked (goes u) (walked u mode path kind) ≡ at_walked (goes t) (walked t mode path kind)
  at_walked_reads t u mode path None seen = refl
  at_walked_reads t u mode path (Some (File node offset flags)) seen = refl
  at_walked_reads t u mode path (Some (Directory node flags)) seen =
      ap (at_walked (goes u)) (walk_reads t u mode path node seen)
      ∙ at_walked_alike t u node (walked_in t mode path node) seen (leads_below t mode path node)
  at_walked_reads t u mode path (Some (End reads writes flags form)) seen = refl
  at_walked_reads t u mode path (Some (Terminal which flags)) seen = refl
  at_walked_reads t u mode path (Some (Process p object)) seen = refl

-- ---- the node that is found is seen

end_is_below : (nodes : List ℕ) (end : PathEnd) (q : Part) → IsIn (λ n. member n nodes) end → has_part (end_part end) q ≡ true → has_part (node_parts nodes) q ≡ true
end_is_below nodes (end.Found n) q h here =
    let same : at_node n ≡ q = same_part_is (at_node n) q (sym (or_false (same_part (at_node n) q)) ∙ here) in
    subst (λ part. has_part (node_parts nodes) part ≡ true) same (node_is_part n nodes h)
end_is_below nodes (end.Absent dir from len) q h here = absurd (not_true here)
end_is_below nodes (end.Last dir from len) q h here = absurd (not_true here)

found_is_below : (nodes : List ℕ) (w : Walked) (q : Part) → LeadsIn (λ n. member n nodes) w → has_part (found_part w) q ≡ true
    → has_part (node_parts nodes) q ≡ true
found_is_below nodes (Ends end) q h here = end_is_below nodes end q h here
found_is_below nodes (Fails errno) q h here = absurd (not_true here)
found_is_below nodes (LeadsOutside component) q h here = absurd (not_true here)

pub found_is_seen : (S : State) (mode : WalkMode) (path : List ℕ) (kind : Option OpenKind) (q : Part)
    → has_part (found_part (walked (tree_of S) mode path kind)) q ≡ true → has_part (behind S kind) q ≡ true
found_is_seen S mode path None q here = absurd (not_true here)
found_is_seen S mode path (Some (File node offset flags)) q here = absurd (not_true here)
found_is_seen S mode path (Some (Directory node flags)) q here =
    found_is_below (below (tree_of S) node) (walked_in (tree_of S) mode path node) q (leads_below (tree_of S) mode path node) here
found_is_seen S mode path (Some (End reads writes flags form)) q here = absurd (not_true here)
found_is_seen S mode path (Some (Terminal which flags)) q here = absurd (not_true here)
found_is_seen S mode path (Some (Process p object)) q here = absurd (not_true here)

-- ---- what holds where a path leads

module _ (P : Outcome → Type 0) (goes : ℕ → Outcome) (answers : (reply : Reply) → P (replies reply)) (at : (n : ℕ) → P (goes n)) where
  at_end_holds : (end : PathEnd) → P (at_end goes end)
  at_end_holds (end.Found n) = at n
  at_end_holds (end.Absent dir from len) = answers _
  at_end_holds (end.Last dir from len) = answers _

  -- what holds of each reply with nothing set, and at each node
  pub at_walked_holds : (w : Walked) → P (at_walked goes w)
  at_walked_holds (Ends end) = at_end_holds end
  at_walked_holds (Fails errno) = answers _
  at_walked_holds (LeadsOutside component) = answers _

-- a call that sets at a node nothing but that node sets nothing but the node that is found
at_end_unset : (goes : ℕ → Outcome) (q : Part) → ((n : ℕ) → same_part (at_node n) q ≡ false → IsUnset (goes n) q)
    → (end : PathEnd) → has_part (end_part end) q ≡ false → IsUnset (at_end goes end) q
at_end_unset goes q one (end.Found n) h = one n (outside_cons (at_node n) [] q h).0
at_end_unset goes q one (end.Absent dir from len) h = refl
at_end_unset goes q one (end.Last dir from len) h = refl

pub at_walked_unset : (goes : ℕ → Outcome) (q : Part) → ((n : ℕ) → same_part (at_node n) q ≡ false → IsUnset (goes n) q)
    → (w : Walked) → has_part (found_part w) q ≡ false → IsUnset (at_walked goes w) q
at_walked_unset goes q one (Ends end) h = at_end_unset goes q one end h
at_walked_unset goes q one (Fails errno) h = refl
at_walked_unset goes q one (LeadsOutside component) h = refl

-- ---- the errors of paths

-- an error of a path is one of those that it may come to
abbrev pub FailsPlainly : Walked → Type 0
FailsPlainly (Ends end) = ⊤
FailsPlainly (Fails errno) = IsAmong errno path_errors
FailsPlainly (LeadsOutside component) = ⊤

pub badf_among : IsAmong Badf path_errors
badf_among = ([], NameTooLong ∷ Ilseq ∷ Inval ∷ Notdir ∷ Noent ∷ Loop ∷ [], refl)

pub name_too_long_among : IsAmong NameTooLong path_errors
name_too_long_among = (Badf ∷ [], Ilseq ∷ Inval ∷ Notdir ∷ Noent ∷ Loop ∷ [], refl)

pub ilseq_among : IsAmong Ilseq path_errors
ilseq_among = (Badf ∷ NameTooLong ∷ [], Inval ∷ Notdir ∷ Noent ∷ Loop ∷ [], refl)

pub inval_among : IsAmong Inval path_errors
inval_among = (Badf ∷ NameTooLong ∷ Ilseq ∷ [], Notdir ∷ Noent ∷ Loop ∷ [], refl)

pub notdir_among : IsAmong Notdir path_errors
notdir_among = (Badf ∷ NameTooLong ∷ Ilseq ∷ Inval ∷ [], Noent ∷ Loop ∷ [], refl)

pub noent_among : IsAmong Noent path_errors
noent_among = (Badf ∷ NameTooLong ∷ Ilseq ∷ Inval ∷ Notdir ∷ [], Loop ∷ [], refl)

pub loop_among : IsAmong Loop path_errors
loop_among = (Badf ∷ NameTooLong ∷ Ilseq ∷ Inval ∷ Notdir ∷ Noent ∷ [], [], refl)

failed_plainly : (fault : WalkFault) → FailsPlainly (walk_failed fault)
failed_plainly fault.NotDir = notdir_among
failed_plainly fault.NoEntry = noent_among
failed_plainly fault.Loop = loop_among
failed_plainly fault.TooLong = name_too_long_among
failed_plainly (fault.Outside component) = tt

unless_plainly : (long broken zeros : Bool) (walk : WalkEnd)
    → FailsPlainly (walked_unless (cond long (Some NameTooLong) (cond broken (Some Ilseq) (cond zeros (Some Inval) None))) walk)
unless_plainly true broken zeros walk = name_too_long_among
unless_plainly false true zeros walk = ilseq_among
unless_plainly false false true walk = inval_among
unless_plainly false false false (Ok end) = tt
unless_plainly false false false (Err fault) = failed_plainly fault

pub walked_plainly : (t : Tree) (mode : WalkMode) (path : List ℕ) (kind : Option OpenKind) → FailsPlainly (walked t mode path kind)
walked_plainly t mode path None = badf_among
walked_plainly t mode path (Some (File node offset flags)) = badf_among
walked_plainly t mode path (Some (Directory node flags)) =
    unless_plainly (nat_lt longest_path (length path)) (not (is_utf8 path)) (member 0 path) (walk_of (finds t) mode node path)
walked_plainly t mode path (Some (End reads writes flags form)) = badf_among
walked_plainly t mode path (Some (Terminal which flags)) = badf_among
walked_plainly t mode path (Some (Process p object)) = badf_among

-- the call answers plainly where a path leads, or is denied where that is outside
at_end_plain : (goes : ℕ → Outcome) → ((n : ℕ) → IsPlain path_errors (goes n)) → (end : PathEnd) → IsPlain path_errors (at_end goes end)
at_end_plain goes plain (end.Found n) = plain n
at_end_plain goes plain (end.Absent dir from len) = (refl, inr (refl, noent_among))
at_end_plain goes plain (end.Last dir from len) = (refl, inr (refl, noent_among))

pub at_walked_plain : (goes : ℕ → Outcome) → ((n : ℕ) → IsPlain path_errors (goes n)) → (w : Walked) → FailsPlainly w
    → IsDeniedOutside path_errors (outside_of w) (at_walked goes w)
at_walked_plain goes plain (Ends end) h = at_end_plain goes plain end
at_walked_plain goes plain (Fails errno) h = (refl, inr (refl, h))
at_walked_plain goes plain (LeadsOutside component) h = refl

-- none of them is lack of memory
pub path_errors_lack : AllByRecursion (λ errno. errno ≢ Nomem) path_errors
path_errors_lack = ((λ e. cc), ((λ e. cc), ((λ e. cc), ((λ e. cc), ((λ e. cc), ((λ e. cc), ((λ e. cc), tt)))))))
