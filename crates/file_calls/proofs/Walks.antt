-- What a call answers by the end of a walk.
use Rattle.std.proofs.Common.{◌≡◌, ◌≤◌, ℕ, Bool, true, false, cond, List, length, Option, Some, None, Ok, Err, refl, sym, ap, ◌∙◌, arith}
use Rattle.std.proofs.lemmas.Bool.{ltb-false}
use Rattle.abi_base.specs.declared.errno.Errno.{Errno}
use Rattle.path_lookup.proofs.Outside.{LeavesBy}
use Rattle.path_lookup.specs.Walk.{WalkEnd}
use Rattle.path_lookup.specs.declared.ends.End.{End}
use Rattle.path_lookup.specs.declared.ends.End.TheVariants as end
use Rattle.path_lookup.specs.declared.ends.WalkFault.TheVariants as fault
use Rattle.kernel_model.specs.Families.FilePaths.{Walked, Ends, Fails, LeadsOutside, at_end, at_walked, longest_path, path_error}
use Rattle.kernel_model.specs.Outcome.{Outcome, replies}
use Rattle.file_calls.specs.Walks.{going_on, node_at, node_or_refusal, reply_of}
use Rattle.file_calls.specs.declared.paths.PathFault.{PathFault}

end_goes_on : (goes : ℕ → Outcome) (end : End) → at_end goes end ≡ going_on goes (node_at end)
end_goes_on goes (end.Found n) = refl
end_goes_on goes (end.Absent dir from len) = refl
end_goes_on goes (end.Last dir from len) = refl

-- a call goes on at the node that is found, or replies
pub walk_goes_on : (goes : ℕ → Outcome) (walked : Walked) → at_walked goes walked ≡ going_on goes (node_or_refusal walked)
walk_goes_on goes (Ends end) = end_goes_on goes end
walk_goes_on goes (Fails errno) = refl
walk_goes_on goes (LeadsOutside component) = refl

pub found_goes_on : (goes : ℕ → Outcome) (walked : Walked) (n : ℕ) → Ok n ≡ node_or_refusal walked → goes n ≡ at_walked goes walked
found_goes_on goes walked n is = ap (going_on goes) is ∙ sym (walk_goes_on goes walked)

pub lost_replies : (goes : ℕ → Outcome) (walked : Walked) (refusal : PathFault) → Err refusal ≡ node_or_refusal walked
    → replies (reply_of refusal) ≡ at_walked goes walked
lost_replies goes walked refusal is = ap (going_on goes) is ∙ sym (walk_goes_on goes walked)

-- a path whose bytes have no error is short
first_is_false : (b : Bool) (errno : Errno) (o : Option Errno) → cond b (Some errno) o ≡ None → b ≡ false
first_is_false true errno o is = cc
first_is_false false errno o is = refl

pub path_is_short : (path : List ℕ) → path_error path ≡ None → length path ≤ longest_path
path_is_short path is = ltb-false longest_path (length path) (first_is_false _ _ _ is)

pub leaves_by_more : (n m : ℕ) (walked : WalkEnd) → n ≤ m → LeavesBy n walked → LeavesBy m walked
leaves_by_more n m (Ok end) few h = tt
leaves_by_more n m (Err (fault.Outside c)) few h = omega arith
leaves_by_more n m (Err fault.NotDir) few h = tt
leaves_by_more n m (Err fault.NoEntry) few h = tt
leaves_by_more n m (Err fault.Loop) few h = tt
leaves_by_more n m (Err fault.TooLong) few h = tt
