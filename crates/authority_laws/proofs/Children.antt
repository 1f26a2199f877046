-- The process that a call makes, and what it holds.
--     child_is      the ledger reads it from the state after
--     born_row      it holds what its parent held
use Rattle.std.proofs.Common.{◌≡◌, ◌≢◌, inl, inr, ℕ, ◌+◌, ◌<◌, Some, None, refl, sym, ap, subst, ◌∙◌, arith}
use Rattle.std.specs.FinMap.{get, insert}
use Rattle.abi_types.specs.declared.call.Call.{Call}
use Rattle.abi_types.specs.declared.call.Call.TheVariants.{ProcFork}
use Rattle.abi_types.specs.declared.constants.Constants.{Constants}
use Rattle.abi_types.specs.declared.reply.Answer.{Answer}
use Rattle.abi_types.specs.declared.reply.Answer.TheVariants as answer
use Rattle.abi_types.specs.declared.reply.Reply.{Reply}
use Rattle.abi_types.specs.declared.who.Who.{Who}
use Rattle.maps.specs.Maps.{get-insert-same, get-insert-other}
use Rattle.kernel_model.specs.Families.Children.{MayHaveChild}
use Rattle.kernel_model.specs.Families.ForkCalls.{child_descriptor, child_kind, child_number, child_open, child_process}
use Rattle.kernel_model.specs.Families.Numbers.{made_more, object_of}
use Rattle.kernel_model.specs.ForkLaws.{IsForked}
use Rattle.kernel_model.specs.OwnChanges.{is_success, with_next_child}
use Rattle.kernel_model.specs.State.{ProcessState, State, counts_in}
use Rattle.kernel_model.specs.Step.{IsStep}
use Rattle.kernel_model.specs.Threads.{child_made}
use Rattle.kernel_model.specs.Valid.{IsValid}
use Rattle.kernel_model.proofs.ChildLaws.{child_apart}
use Rattle.kernel_model.proofs.ForkLaws.{error_is_none, fork_makes_child, forked_child, made_by_fork, made_where, unmade_where}
use Rattle.kernel_model.proofs.Sending.{succeeds_or}
use Rattle.authority_laws.specs.Ledger.{After, after_of, answered_child, by_success, process_of}
use Rattle.authority_laws.proofs.Rows.{by_either, by_error, row_in, row_of}

-- ---- what a fork has made

module _ (S : State) (who : Who) (left : ℕ) (reply : Reply) (T : State) (f : IsForked S who left reply T) where
  abbrev c : ℕ
  c = child_number who.pid f.own

  abbrev grown : ProcessState
  grown = made_more 2 (with_next_child f.own)

  may : MayHaveChild f.own.depth (f.own.counts.forks + 1)
  may = let few : f.own.counts.forks < 254 = f.few.1 in (f.few.0, omega arith, omega (arith, few))

  not_parent : who.pid ≢ c
  not_parent is = child_apart f.own.depth who.pid (f.own.counts.forks + 1) may (sym is)

  pub objects : (counts_in (get T.processes who.pid)).objects ≡ f.own.counts.objects + 2
  objects =
      ap (λ m. (counts_in (get m who.pid)).objects) f.processes
      ∙ ap (λ o. (counts_in o).objects)
      (get-insert-other (insert S.processes who.pid grown) c (child_process who.tid f.own) who.pid not_parent ∙ get-insert-same S.processes who.pid grown)

  opened : get T.opens (child_open who.pid f.own) ≡ Some (child_kind who.pid f.own)
  opened = ap (λ m. get m (child_open who.pid f.own)) f.opens ∙ get-insert-same S.opens (child_open who.pid f.own) (child_kind who.pid f.own)

  pub shown_child : (after_of S T who.pid).child ≡ Some c
  shown_child =
      ap (λ k. process_of (get T.opens (object_of who.pid k))) objects ∙ ap process_of opened

  -- the child holds what its parent held
  pub child_row : row_of T c ≡ row_of S who.pid
  child_row =
      ap row_in (ap (λ m. get m c) f.tables
      ∙ get-insert-other (insert S.tables c f.table) who.pid (insert f.table f.fd (child_descriptor who.pid f.own)) c (λ is. not_parent (sym is))
      ∙ get-insert-same S.tables c f.table ∙ sym f.had)

-- ---- the child of a step

-- what the ledger reads as the child of a call that was answered so is the child that it makes
pub child_is : (constants : Constants) (S : State) (who : Who) (call : Call) (given : Answer) (T : State) → IsValid S → IsStep constants S who call given T
    → answered_child (after_of S T who.pid) call given ≡ child_made call given who.pid (get S.processes who.pid)
child_is constants S who (ProcFork left) (answer.Parked writes) T valid step = refl
child_is constants S who (ProcFork left) (answer.Reply reply) T valid step =
    let after : After = after_of S T who.pid in
    elim (succeeds_or reply.errno) [
      | inl success ↦ (
          let f = fork_makes_child constants S who left reply T valid step success in
          ap (λ errno. by_success errno after.child None) success ∙ shown_child S who left reply T f
          ∙ sym (made_where (is_success reply.errno) who.pid (get S.processes who.pid) (ap is_success success) ∙ forked_child S who left reply T f))
      | inr error ↦ by_error reply.errno after.child None error
          ∙ sym (unmade_where (is_success reply.errno) who.pid (get S.processes who.pid) (error_is_none reply.errno error))
    ]
child_is constants S who call (answer.Parked writes) T valid step = refl
child_is constants S who call (answer.Reply reply) T valid step = by_either reply.errno None

-- and that holds what its parent held
pub born_row : (constants : Constants) (S : State) (who : Who) (call : Call) (given : Answer) (T : State) (q : ℕ) → IsValid S → IsStep constants S who call given T
    → child_made call given who.pid (get S.processes who.pid) ≡ Some q → row_of T q ≡ row_of S who.pid
born_row constants S who call given T q valid step born =
    let by = made_by_fork constants S who call given T q valid step born in
    subst (λ k. row_of T k ≡ row_of S who.pid) by.3 (child_row S who by.0 by.1 T by.2)
