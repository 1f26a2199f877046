-- How calls on names are done: the node that they make, and what they leave.
--     entries_have_fds      such a call has a descriptor
--     one_new, new_again      such a call makes one node or none, and where none no number matters
--     unnumbered_is_one      a call that can't number what it makes makes one node
--     numbered_is, unnumbered      a number was found, or none
--     refused_left, counted_out, changed_left      what a call leaves that is refused;  that can't number its node;  that changes the tree
--     changes_succeed      a call that changes the tree succeeds
use Rattle.std.proofs.Common.{◌≡◌, ◌≢◌, ℕ, Bool, true, false, cond, ◌++◌, List, Option, None, Some, Err, IsSome, refl, sym, ap, subst, ◌∙◌}
use Rattle.abi_base.specs.declared.errno.Errno.{Errno}
use Rattle.abi_base.specs.declared.errno.Errno.TheVariants.{Again}
use Rattle.abi_types.specs.declared.call.Call.{Call}
use Rattle.abi_types.specs.declared.call.Call.TheVariants as call
use Rattle.abi_types.specs.Families.{call_of_entry}
use Rattle.abi_types.specs.declared.family.EntryCall.{EntryCall}
use Rattle.abi_types.specs.declared.family.EntryCall.TheVariants as entry
use Rattle.abi_types.specs.declared.node.NodeKind.{NodeKind}
use Rattle.abi_types.specs.declared.node.NodeKind.TheVariants as kind
use Rattle.abi_types.specs.declared.open_kind.OpenKind.{OpenKind}
use Rattle.abi_types.specs.declared.reply.Answer.TheVariants as answer
use Rattle.abi_types.specs.declared.reply.Reply.{Reply}
use Rattle.file_calls.specs.Walks.{reply_of}
use Rattle.file_calls.specs.declared.paths.PathFault.{PathFault}
use Rattle.file_calls.specs.declared.paths.PathFault.TheVariants as path_fault
use Rattle.kernel_model.specs.Families.EntryCalls.{name_meaning, entry_fds}
use Rattle.kernel_model.specs.Families.NameMaking.{making, making_unless, text_error}
use Rattle.kernel_model.specs.Families.NameMeaning.{NameOutcome, Refuses, LeadsOut, Changes, NameMeaning, outcome_of}
use Rattle.kernel_model.specs.Families.Numbers.{can_number, made_more, next_object, process_updates}
use Rattle.kernel_model.specs.Outcome.{Outcome, IsSuccess, replies}
use Rattle.kernel_model.specs.Reply.{refused, success}
use Rattle.kernel_model.specs.State.{ProcessState, Tree}
use Rattle.kernel_model.specs.Families.TreeUpdates.{Change, change_updates}
use Rattle.kernel_model.proofs.Tests.{none_is_no, not_true, same_some}
use Rattle.entry_calls.specs.Checks.{IsReported}
use Rattle.entry_calls.specs.Done.{FailsAs}
use Rattle.entry_calls.specs.declared.failure.Failure.TheVariants.{Refused}
use Rattle.kernel_parts.specs.Entries.{IsLeftBy, number_of}

-- ---- the node that a call makes

-- such a call has a descriptor
pub entries_have_fds : (call : EntryCall) → IsSome (entry_fds (call_of_entry call))
entries_have_fds (entry.FileCreate fd path type) = refl
entries_have_fds (entry.FileLink lookup path new_fd new_path) = refl
entries_have_fds (entry.FileRename fd path new_fd new_path) = refl
entries_have_fds (entry.FileSymlink text fd path) = refl
entries_have_fds (entry.FileUnlink fd path flags) = refl

text_makes_one : (o : Option Errno) (path : List ℕ) (node : NodeKind) → (making_unless o (making node path)).new_nodes ≡ 1
text_makes_one None path node = refl
text_makes_one (Some errno) path node = refl

pub one_new : (called : Call) → IsSome (entry_fds called) → (name_meaning called).new_nodes ≢ 0 → (name_meaning called).new_nodes ≡ 1
one_new (call.FileCreate fd path type) some new_nodes = refl
one_new (call.FileLink lookup path new_fd new_path) some new_nodes = absurd (new_nodes refl)
one_new (call.FileRename fd path new_fd new_path) some new_nodes = absurd (new_nodes refl)
one_new (call.FileSymlink text fd path) some new_nodes = text_makes_one (text_error text) path (kind.Link text)
one_new (call.FileUnlink fd path flags) some new_nodes = absurd (new_nodes refl)
one_new unnamed some new_nodes = absurd (not_true some)

-- a call that can't number what it makes makes one node
pub unnumbered_is_one : (called : Call) → IsSome (entry_fds called) → (p : ℕ) (own : Option ProcessState) → can_number p (name_meaning called).new_nodes own ≡ false
    → (name_meaning called).new_nodes ≡ 1
unnumbered_is_one called some p own cannot =
    one_new called some (λ zero. let bad : true ≡ false = subst (λ k. can_number p k own ≡ false) zero cannot in absurd (cc))

-- the number of the last node that it makes serves as well as that of the first
pub new_again : (called : Call) → IsSome (entry_fds called) → (p now : ℕ) (own : Option ProcessState) (t : Tree) (here there : Option OpenKind)
    → (name_meaning called).effect now (next_object p own (name_meaning called).new_nodes) t here there ≡ (name_meaning called).effect now (next_object p own 1) t here there
new_again (call.FileCreate fd path type) some p now own t here there = refl
new_again (call.FileLink lookup path new_fd new_path) some p now own t here there = refl
new_again (call.FileRename fd path new_fd new_path) some p now own t here there = refl
new_again (call.FileSymlink text fd path) some p now own t here there =
    let m : NameMeaning = making_unless (text_error text) (making (kind.Link text) path) in
    ap (λ k. m.effect now (next_object p own k) t here there) (text_makes_one (text_error text) path (kind.Link text))
new_again (call.FileUnlink fd path flags) some p now own t here there = refl
new_again unnamed some p now own t here there = absurd (not_true some)

-- a number was found, or none
number_by : (b : Bool) (k n : ℕ) → cond b (Some k) None ≡ Some n → (b ≡ true) × (n ≡ k)
number_by true k n is = (refl, sym (same_some k n is))
number_by false k n is = absurd (none_is_no n is)

pub numbered_is : (p count n : ℕ) (own : Option ProcessState) → number_of p count own ≡ Some n → (can_number p count own ≡ true) × (n ≡ next_object p own count)
numbered_is p count n own is = number_by (can_number p count own) (next_object p own count) n is

unnumbered_by : (b : Bool) (k : ℕ) → cond b (Some k) None ≡ None → b ≡ false
unnumbered_by true k is = absurd (none_is_no k (sym is))
unnumbered_by false k is = refl

pub unnumbered : (p count : ℕ) (own : Option ProcessState) → number_of p count own ≡ None → can_number p count own ≡ false
unnumbered p count own is = unnumbered_by (can_number p count own) (next_object p own count) is

-- ---- how it is done

abbrev comes_of : PathFault → NameOutcome
comes_of (path_fault.Errno errno) = Refuses errno
comes_of (path_fault.Outside component) = LeadsOut component

pub failed_is : (comes : NameOutcome) (why : PathFault) → FailsAs comes (Refused why) → comes ≡ comes_of why
failed_is comes (path_fault.Errno errno) is = is
failed_is comes (path_fault.Outside component) is = is

pub reported_is : (A : Type 0) (comes : NameOutcome) (why : PathFault) → IsReported {A = A} comes (Err why) → comes ≡ comes_of why
reported_is A comes (path_fault.Errno errno) is = is
reported_is A comes (path_fault.Outside component) is = is

module _ (p new_nodes : ℕ) (own new : ProcessState) (t u : Tree) (comes : NameOutcome) (reply : Reply) where
  refused_so : (why : PathFault) → new ≡ own → u ≡ t → reply ≡ reply_of why → IsLeftBy p new_nodes own new t u (comes_of why) reply
  refused_so (path_fault.Errno errno) own_is tree_is is = record { answered = ap answer.Reply is; numbered = own_is; changed = tree_is }
  refused_so (path_fault.Outside component) own_is tree_is is = record { answered = ap answer.Reply is; numbered = own_is; changed = tree_is }

  pub refused_left : (why : PathFault) → comes ≡ comes_of why → new ≡ own → u ≡ t → reply ≡ reply_of why → IsLeftBy p new_nodes own new t u comes reply
  refused_left why comes_is own_is tree_is is = subst (λ k. IsLeftBy p new_nodes own new t u k reply) (sym comes_is) (refused_so why own_is tree_is is)

  -- a change, by whether the process can make so many
  change_so : (c : Change) → new ≡ cond (can_number p new_nodes (Some own)) (made_more new_nodes own) own → u ≡ cond (can_number p new_nodes (Some own)) c.tree t
      → answer.Reply reply ≡ (outcome_of p (Some own) new_nodes (Changes c)).answer → IsLeftBy p new_nodes own new t u (Changes c) reply
  change_so c own_is tree_is is = record { answered = is; numbered = own_is; changed = tree_is }

  abbrev outcome_by : Change → Bool → Outcome
  outcome_by c b =
      cond b (record { answer = answer.Reply (success 0 0); updates = process_updates p new_nodes (Some own) ++ change_updates c }) (replies (refused Again))

  pub counted_out : (c : Change) → comes ≡ Changes c → can_number p new_nodes (Some own) ≡ false → new ≡ own → u ≡ t → reply ≡ refused Again
      → IsLeftBy p new_nodes own new t u comes reply
  counted_out c comes_is cannot own_is tree_is is =
      subst (λ k. IsLeftBy p new_nodes own new t u k reply) (sym comes_is)
      (change_so c (own_is ∙ sym (ap (λ b. cond b (made_more new_nodes own) own) cannot)) (tree_is ∙ sym (ap (λ b. cond b c.tree t) cannot))
      (ap answer.Reply is ∙ sym (ap (λ b. (outcome_by c b).answer) cannot)))

  pub changed_left : (c : Change) → comes ≡ Changes c → can_number p new_nodes (Some own) ≡ true → new ≡ made_more new_nodes own → u ≡ c.tree → reply ≡ success 0 0
      → IsLeftBy p new_nodes own new t u comes reply
  changed_left c comes_is can own_is tree_is is =
      subst (λ k. IsLeftBy p new_nodes own new t u k reply) (sym comes_is)
      (change_so c (own_is ∙ sym (ap (λ b. cond b (made_more new_nodes own) own) can)) (tree_is ∙ sym (ap (λ b. cond b c.tree t) can))
      (ap answer.Reply is ∙ sym (ap (λ b. (outcome_by c b).answer) can)))

-- where it would change the tree, and the process can make so many, it succeeds
pub changes_succeed : (p new_nodes : ℕ) (own : ProcessState) (comes : NameOutcome) (c : Change) → comes ≡ Changes c → can_number p new_nodes (Some own) ≡ true
    → IsSuccess (outcome_of p (Some own) new_nodes comes).answer
changes_succeed p new_nodes own comes c comes_is can =
    subst (λ k. IsSuccess (outcome_of p (Some own) new_nodes k).answer) (sym comes_is)
    (subst (λ b. IsSuccess (cond b (record { answer = answer.Reply (success 0 0); updates = process_updates p new_nodes (Some own) ++ change_updates c })
    (replies (refused Again))).answer) (sym can) refl)
