-- Calls on names: what their meanings come to by the tables and opens, and the state after them.
--     open_there      the open of a descriptor that is there
--     entries_does      a call means what its outcome is
--     entries_take_memory, first_is_named      memory may run out in it;  its first descriptor is there
--     next_is_new      nothing in the tree has the number of the node that it makes
--     entries_valid, entries_after      what it leaves is nearly valid;  the state after it
use Rattle.std.proofs.Common.{◌≡◌, ℕ, zero, suc, true, Option, None, Some, IsSome, is_none, is_some, refl, sym, ap, subst, ◌∙◌, arith}
use Rattle.std.specs.FinMap.{get, insert}
use Rattle.abi_types.specs.declared.call.Call.{Call}
use Rattle.abi_types.specs.declared.call.Call.TheVariants as call
use Rattle.abi_types.specs.declared.constants.Constants.{Constants}
use Rattle.abi_types.specs.declared.descriptor.Descriptor.{Descriptor}
use Rattle.abi_types.specs.declared.node.NodeKind.TheVariants as kind
use Rattle.abi_types.specs.declared.open_kind.OpenKind.{OpenKind}
use Rattle.abi_types.specs.declared.reply.Answer.TheVariants as answer
use Rattle.abi_types.specs.declared.reply.Reply.{Reply}
use Rattle.abi_types.specs.declared.who.Who.{Who}
use Rattle.tree_model.specs.Opens.{is_used}
use Rattle.tree_model.specs.Retained.{retained}
use Rattle.tree_model.specs.Tree.{IsTree}
use Rattle.kernel_model.specs.Calls.{meaning_of, named, takes_memory}
use Rattle.kernel_model.specs.Families.ClockCalls.{real_time}
use Rattle.kernel_model.specs.Families.FileMeaning.{open_of}
use Rattle.kernel_model.specs.Families.FilePaths.{lookup_mode}
use Rattle.kernel_model.specs.Laws.{HasAll}
use Rattle.kernel_model.specs.Families.EntryCalls.{name_meaning, entry_fds}
use Rattle.kernel_model.specs.Families.NameMeaning.{outcome_of}
use Rattle.kernel_model.specs.Families.Numbers.{can_number, next_object}
use Rattle.kernel_model.specs.Outcome.{Outcome}
use Rattle.kernel_model.specs.Release.{release}
use Rattle.kernel_model.specs.State.{State, ProcessState, Table, Tree, put_all, tree_of}
use Rattle.kernel_model.specs.Valid.{IsNamed, IsNearlyValid, IsValid}
use Rattle.kernel_model.specs.View.{whole}
use Rattle.kernel_model.proofs.Calls.{proper}
use Rattle.kernel_model.proofs.FileMeanings.{open_has_behind}
use Rattle.kernel_model.proofs.NameLinking.{linking_well}
use Rattle.kernel_model.proofs.NameMaking.{making_text_well, making_well}
use Rattle.kernel_model.proofs.NameMeanings.{IsBehind, IsGood, NamesWell}
use Rattle.kernel_model.proofs.NameMoving.{renaming_well}
use Rattle.kernel_model.proofs.NameRemoving.{unlinking_well}
use Rattle.kernel_model.proofs.ObjectNumbers.{next_is_absent}
use Rattle.kernel_model.proofs.Tests.{none_is_no, not_true, same_some}
use Rattle.entry_calls.specs.Done.{IsNew}
use Rattle.kernel_core.specs.Entries.{entry_outcome, entries_come}
use Rattle.kernel_parts.specs.Entries.{IsLeftBy, open_at, open_in}
use Rattle.kernel_core.proofs.FileCalls.{opened_is}
use Rattle.kernel_invariant.proofs.Leaving.{left_of, released_is}

-- ---- the opens of descriptors

behind_in : (S : State) (o : Option Descriptor) → IsNearlyValid S → IsBehind S (open_in S.opens o)
behind_in S o v = λ k is. open_has_behind S o v k (opened_is S o ∙ is)

behind_at : (S : State) (table : Table) (fd : Option ℕ) → IsNearlyValid S → IsBehind S (open_at S.opens table fd)
behind_at S table None v = λ k is. absurd (none_is_no k is)
behind_at S table (Some fd) v = behind_in S (get table fd) v

-- the open of a descriptor that is there
named_open : (S : State) (d : Descriptor) → IsNamed (get S.opens d.id) d → get S.opens d.id ≡ None → ⊥
named_open S d named none = subst (λ x. IsNamed x d) none named

pub open_there : (S : State) (p fd : ℕ) (table : Table) → get S.tables p ≡ Some table → IsNearlyValid S → IsSome (get table fd)
    → open_in S.opens (get table fd) ≡ None → ⊥
open_there S p fd table has v =
    elim (get table fd) as (λ o. get table fd ≡ o → IsSome o → open_in S.opens o ≡ None → ⊥) [
      | None ↦ λ _ there none. not_true there
      | Some d ↦ λ is there none. named_open S d (v.named p fd table d has is) none
    ] refl

-- ---- what the calls mean

-- the numbers of a call's descriptors
abbrev fds_of : ℕ → Option ℕ → ℕ × Option ℕ
fds_of n m = (n, m)

pub entries_well : (called : Call) → IsSome (entry_fds called) → NamesWell (name_meaning called)
entries_well (call.FileCreate fd path type) some = making_well kind.Directory path
entries_well (call.FileLink lookup path new_fd new_path) some = linking_well (lookup_mode lookup.flags) path new_path
entries_well (call.FileRename fd path new_fd new_path) some = renaming_well path new_path
entries_well (call.FileSymlink text fd path) some = making_text_well text path
entries_well (call.FileUnlink fd path flags) some = unlinking_well flags path
entries_well other some = absurd (not_true some)

module _ (constants : Constants) (S : State) (p : ℕ) (table : Table) (called : Call) where
  -- what it comes to by these opens
  abbrev by_opens : Option OpenKind → Option OpenKind → Outcome
  by_opens here there =
      outcome_of p (get S.processes p) (name_meaning called).new_nodes
      ((name_meaning called).effect (real_time constants S.clock) (next_object p (get S.processes p) 1) (tree_of S) here there)

  by_one : (n fd : ℕ) (other : Option ℕ) → Some (fds_of n None) ≡ Some (fds_of fd other)
      → by_opens (open_of (whole S) (get table n)) None ≡ entry_outcome constants S p table fd other called
  by_one n fd other is =
      ap (λ here. by_opens here None) (opened_is S (get table n))
      ∙ ap (λ (fds : ℕ × Option ℕ). entry_outcome constants S p table fds.0 fds.1 called) (same_some (fds_of n None) (fds_of fd other) is)

  by_two : (n m fd : ℕ) (other : Option ℕ) → Some (fds_of n (Some m)) ≡ Some (fds_of fd other)
      → by_opens (open_of (whole S) (get table n)) (open_of (whole S) (get table m)) ≡ entry_outcome constants S p table fd other called
  by_two n m fd other is =
      ap (λ here. by_opens here (open_of (whole S) (get table m))) (opened_is S (get table n))
      ∙ ap (by_opens (open_in S.opens (get table n))) (opened_is S (get table m))
      ∙ ap (λ (fds : ℕ × Option ℕ). entry_outcome constants S p table fds.0 fds.1 called) (same_some (fds_of n (Some m)) (fds_of fd other) is)

pub entries_does : (constants : Constants) (S : State) (who : Who) (table : Table) (called : Call) (fd : ℕ) (other : Option ℕ) → entry_fds called ≡ Some (fd, other)
    → (meaning_of called).effect constants (whole S) who table ≡ entry_outcome constants S who.pid table fd other called
entries_does constants S who table (call.FileCreate n path type) fd other is = by_one constants S who.pid table (call.FileCreate n path type) n fd other is
entries_does constants S who table (call.FileLink lookup path m new_path) fd other is =
    by_two constants S who.pid table (call.FileLink lookup path m new_path) lookup.fd m fd other is
entries_does constants S who table (call.FileRename n path m new_path) fd other is =
    by_two constants S who.pid table (call.FileRename n path m new_path) n m fd other is
entries_does constants S who table (call.FileSymlink text n path) fd other is = by_one constants S who.pid table (call.FileSymlink text n path) n fd other is
entries_does constants S who table (call.FileUnlink n path flags) fd other is = by_one constants S who.pid table (call.FileUnlink n path flags) n fd other is
entries_does constants S who table unnamed fd other is = absurd (none_is_no (fd, other) is)

pub entries_take_memory : (called : Call) (fds : ℕ × Option ℕ) → entry_fds called ≡ Some fds → takes_memory called ≡ true
entries_take_memory (call.FileCreate fd path type) fds is = refl
entries_take_memory (call.FileLink lookup path new_fd new_path) fds is = refl
entries_take_memory (call.FileRename fd path new_fd new_path) fds is = refl
entries_take_memory (call.FileSymlink text fd path) fds is = refl
entries_take_memory (call.FileUnlink fd path flags) fds is = refl
entries_take_memory unnamed fds is = absurd (none_is_no fds is)

same_first : (n fd : ℕ) (m other : Option ℕ) → Some (fds_of n m) ≡ Some (fds_of fd other) → n ≡ fd
same_first n fd m other is = ap (λ (fds : ℕ × Option ℕ). fds.0) (same_some (fds_of n m) (fds_of fd other) is)

pub first_is_named : (table : Table) (called : Call) (fd : ℕ) (other : Option ℕ) → entry_fds called ≡ Some (fd, other) → HasAll table (named called)
    → IsSome (get table fd)
first_is_named table (call.FileCreate n path type) fd other is all = subst (λ k. IsSome (get table k)) (same_first n fd None other is) all.0
first_is_named table (call.FileLink lookup path m new_path) fd other is all =
    subst (λ k. IsSome (get table k)) (same_first lookup.fd fd (Some m) other is) all.0
first_is_named table (call.FileRename n path m new_path) fd other is all = subst (λ k. IsSome (get table k)) (same_first n fd (Some m) other is) all.0
first_is_named table (call.FileSymlink text n path) fd other is all = subst (λ k. IsSome (get table k)) (same_first n fd None other is) all.0
first_is_named table (call.FileUnlink n path flags) fd other is all = subst (λ k. IsSome (get table k)) (same_first n fd None other is) all.0
first_is_named table unnamed fd other is all = absurd (none_is_no (fd, other) is)

-- ---- the node that it makes

-- the number of the last object that a process makes is none in the tree
pub next_is_new : (S : State) (p new_nodes : ℕ) → can_number p new_nodes (get S.processes p) ≡ true → IsNearlyValid S → IsNew new_nodes (tree_of S) (next_object p (get S.processes p) new_nodes)
next_is_new S p zero can v = tt
next_is_new S p (suc new_nodes) can v =
    ap is_none (next_is_absent S p (suc new_nodes) (suc new_nodes) v (omega arith) (omega arith) can).1

-- ---- the state after it

module _ (constants : Constants) (S : State) (p : ℕ) (table : Table) (fd : ℕ) (other : Option ℕ) (called : Call) (is : entry_fds called ≡ Some (fd, other)) where
  some_named : IsSome (entry_fds called)
  some_named = ap is_some is

  pub entries_valid : get S.tables p ≡ Some table → IsNearlyValid S → IsNearlyValid (put_all (entry_outcome constants S p table fd other called).updates S)
  entries_valid has v =
      let who : Who = record { pid = p; tid = 0; since = 0; stage = None } in
      subst (λ (o : Outcome). IsNearlyValid (put_all o.updates S)) (entries_does constants S who table called fd other is)
      ((proper called).valid constants S who table has v)

  names_good : IsNearlyValid S → can_number p (name_meaning called).new_nodes (get S.processes p) ≡ true
      → IsGood (tree_of S) (next_object p (get S.processes p) 1) (name_meaning called).new_nodes (entries_come constants S p table fd other called)
  names_good v can =
      (entries_well called some_named).good (real_time constants S.clock) (next_object p (get S.processes p) 1) S (open_in S.opens (get table fd)) (open_at S.opens table other)
      (behind_in S (get table fd) v) (behind_at S table other v) v.tree (λ some.
      (next_is_absent S p 1 (name_meaning called).new_nodes v (omega arith) (omega (arith, some)) can).1)

  module _ (own new : ProcessState) (there : get S.processes p ≡ Some own) (v : IsValid S) (u : Tree) (reply : Reply)
      (done : IsLeftBy p (name_meaning called).new_nodes own new (tree_of S) u (entries_come constants S p table fd other called) reply) where
    -- what was done, before anything is released
    done_is : put_all (entry_outcome constants S p table fd other called).updates S ≡ record S { processes = insert S.processes p new; nodes = u.nodes; names = u.names }
    done_is =
        left_of S p own there (name_meaning called).new_nodes (entries_come constants S p table fd other called) (names_good v.nearly) v.nearly
        ∙ (λ i. record S { processes = insert S.processes p (sym done.numbered i); nodes = (sym done.changed i).nodes; names = (sym done.changed i).names })

    pub entries_tree : get S.tables p ≡ Some table → IsTree u
    entries_tree has = subst (λ (T : State). IsTree (tree_of T)) done_is (entries_valid has v.nearly).tree

    pub entries_after : (w : Tree) → w ≡ retained u (is_used S.opens u)
        → record S { processes = insert S.processes p new; nodes = w.nodes; names = w.names } ≡ release (put_all (entry_outcome constants S p table fd other called).updates S)
    entries_after w rest =
        (λ i. record S { processes = insert S.processes p new; nodes = (rest i).nodes; names = (rest i).names })
        ∙ released_is (record S { processes = insert S.processes p new; nodes = u.nodes; names = u.names }) v.held v.going ∙ ap release (sym done_is)

    pub entries_answer : answer.Reply reply ≡ (entry_outcome constants S p table fd other called).answer
    entries_answer =
        done.answered ∙ sym (ap (λ o. (outcome_of p o (name_meaning called).new_nodes (entries_come constants S p table fd other called)).answer) there)
