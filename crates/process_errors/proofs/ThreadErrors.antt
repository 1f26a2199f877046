-- What thread_create, thread_yield, thread_exit and lock_unlock come to.
use Rattle.std.proofs.Common.{◌≡◌, inl, inr, ℕ, ◌+◌, ◌-◌, ◌^◌, Option, Some, None, IsSome, refl, sym, ap, subst, ◌∙◌, arith}
use Rattle.std.specs.FinMap.{get, len}
use Rattle.abi_structures.specs.declared.structures.ThreadAttr.{ThreadAttr}
use Rattle.abi_types.specs.declared.call.Call.TheVariants.{LockUnlock, ThreadCreate, ThreadExit, ThreadYield}
use Rattle.abi_types.specs.declared.constants.Constants.{Constants}
use Rattle.abi_types.specs.declared.reply.Answer.{Answer}
use Rattle.abi_types.specs.declared.who.Who.{Who}
use Rattle.kernel_model.specs.Families.LockCalls.{unlock_in, unlocks_to}
use Rattle.kernel_model.specs.Families.LockWords.{Holding, holding_of, read_by, unheld, written_by}
use Rattle.kernel_model.specs.Families.Locks.{release_of, released_word, unlocked_own}
use Rattle.kernel_model.specs.Families.ProcessCalls.{left_in, left_with}
use Rattle.kernel_model.specs.LockCallLaws.{IsHeldToRead, IsHeldToWrite}
use Rattle.kernel_model.specs.Outcome.{Outcome}
use Rattle.kernel_model.specs.State.{ProcessState, State, Table, Threads}
use Rattle.kernel_model.specs.Step.{step_answer}
use Rattle.kernel_model.proofs.LockAnswers.{HeldAs, held_as, lock_is_let_go}
use Rattle.kernel_model.proofs.Outcomes.{outcome_of_table}
use Rattle.kernel_model.proofs.Tests.{none_is_no}
use Rattle.kernel_model.proofs.ThreadLaws.{threads_are_few}
use Rattle.process_errors.specs.ThreadErrors.{CreateComesTo, LetsGo, LockIsLetGoAsListed, ThreadCreateIsListed, ThreadYieldIsListed, handed, left, made, not_had, too_many}
use Rattle.process_errors.specs.Verdicts.{IsUnrefused}
use Rattle.process_errors.proofs.Tables.{answer_is, below, listed, same_or}

-- ---- thread_create

module _ (constants : Constants) (S : State) (who : Who) (attributes : ThreadAttr) (table : Table) (own : ProcessState)
    (unrefused : IsUnrefused S who (ThreadCreate attributes) table own) where
  create_sound : (given : Answer) → CreateComesTo own given → given ≡ step_answer constants S who (ThreadCreate attributes)
  create_sound given (too_many many) = sym (threads_are_few.refused constants S who attributes own unrefused.valid (unrefused.there, unrefused.caller) many)
  create_sound given (made few small) = sym (threads_are_few.made constants S who attributes own unrefused.valid (unrefused.there, unrefused.caller) few small)

create_some : (own : ProcessState) → (given : Answer) × CreateComesTo own given
create_some own =
    elim (below (len own.threads) 64) [
      | inr all ↦ (_, too_many (inl all))
      | inl few ↦ elim (below (own.counts.threads + 1) (2 ^ 30 - 1)) [
        | inl small ↦ (_, made few small)
        | inr spent ↦ (_, too_many (inr spent))
      ]
    ]

pub thread_create_is_listed : ThreadCreateIsListed
thread_create_is_listed constants S who attributes table own given unrefused =
    listed (CreateComesTo own) (step_answer constants S who (ThreadCreate attributes)) (create_sound constants S who attributes table own unrefused)
    (create_some own) given

-- ---- thread_yield

pub thread_yield_is_listed : ThreadYieldIsListed
thread_yield_is_listed constants S who table own unrefused = answer_is constants S who ThreadYield table own unrefused

-- ---- lock_unlock and thread_exit

table_some : (o : Option Table) (table : Table) → o ≡ Some table → IsSome o
table_some None table had = absurd (none_is_no table had)
table_some (Some x) table had = refl

unlock_sound : (constants : Constants) (S : State) (who : Who) (lock word scope : ℕ) (table : Table) (own : ProcessState) → get S.tables who.pid ≡ Some table
    → get S.processes who.pid ≡ Some own → (given : Answer) → LetsGo who.tid lock word own.threads given
    → given ≡ step_answer constants S who (LockUnlock lock word scope)
unlock_sound constants S who lock word scope table own had there given (not_had isnt) =
    sym ((lock_is_let_go.refused constants S who own lock word scope (table_some (get S.tables who.pid) table had) there).1 isnt)
unlock_sound constants S who lock word scope table own had there given (left readers held more) =
    sym (lock_is_let_go.shared constants S who own lock word scope readers (table_some (get S.tables who.pid) table had) there held more)
unlock_sound constants S who lock word scope table own had there given (handed has) =
    sym (lock_is_let_go.last constants S who own lock word scope (table_some (get S.tables who.pid) table had) there has)

-- a line fits each word
lets_go_as : (t lock word : ℕ) (threads : Threads) (holding : Holding) → HeldAs holding word → (given : Answer) × LetsGo t lock word threads given
lets_go_as t lock word threads unheld held = (_, not_had (inl held))
lets_go_as t lock word threads (written_by owner) held =
    elim (same_or owner t) [
      | inl is ↦ (_, handed (inl (subst (λ k. IsHeldToWrite k word) is held)))
      | inr other ↦ (_, not_had (inr (owner, other, held)))
    ]
lets_go_as t lock word threads (read_by readers) held =
    elim (below 1 readers) [
      | inl more ↦ (_, left readers held more)
      | inr few ↦ (
          let one : readers ≡ 1 = omega (arith, few, held.1) in
          (_, handed (inr (subst (λ k. IsHeldToRead k word) one held))))
    ]

lets_go_some : (t lock word : ℕ) (threads : Threads) → (given : Answer) × LetsGo t lock word threads given
lets_go_some t lock word threads = lets_go_as t lock word threads (holding_of word) (held_as word)

-- a thread_exit answers what a lock_unlock does
same_answer : (p t lock word : ℕ) (x : ProcessState) (own : Option ProcessState) (o : Option ℕ)
    → (left_with p t own lock o).answer ≡ (unlocks_to p lock x o).answer
same_answer p t lock word x own None = refl
same_answer p t lock word x own (Some new) = refl

module _ (constants : Constants) (S : State) (who : Who) (lock word scope : ℕ) (table : Table) (own : ProcessState) where
  exit_is : IsUnrefused S who (ThreadExit lock word scope) table own
      → step_answer constants S who (ThreadExit lock word scope) ≡ (unlock_in who.pid who.tid lock word (Some own)).answer
  exit_is unrefused =
      answer_is constants S who (ThreadExit lock word scope) table own unrefused
      ∙ ap (λ o. (left_in who.pid who.tid lock word o).answer) unrefused.there
      ∙ same_answer who.pid who.tid lock word (unlocked_own lock word who.tid own) (Some (unlocked_own lock word who.tid own))
      (released_word (release_of who.tid word) lock own.threads)

  unlock_is : get S.tables who.pid ≡ Some table → get S.processes who.pid ≡ Some own
      → step_answer constants S who (LockUnlock lock word scope) ≡ (unlock_in who.pid who.tid lock word (Some own)).answer
  unlock_is had there =
      ap (λ (o : Outcome). o.answer) (outcome_of_table constants S who (LockUnlock lock word scope) table had)
      ∙ ap (λ o. (unlock_in who.pid who.tid lock word o).answer) there

pub lock_is_let_go_as_listed : LockIsLetGoAsListed
lock_is_let_go_as_listed = record {
  unlock = λ constants S who lock word scope table own given unrefused.
      listed (LetsGo who.tid lock word own.threads) (step_answer constants S who (LockUnlock lock word scope))
      (unlock_sound constants S who lock word scope table own unrefused.had unrefused.there) (lets_go_some who.tid lock word own.threads) given;
  exit = λ constants S who lock word scope table own given unrefused.
      listed (LetsGo who.tid lock word own.threads) (step_answer constants S who (ThreadExit lock word scope))
      (λ x line. unlock_sound constants S who lock word scope table own unrefused.had unrefused.there x line
      ∙ unlock_is constants S who lock word scope table own unrefused.had unrefused.there
      ∙ sym (exit_is constants S who lock word scope table own unrefused))
      (lets_go_some who.tid lock word own.threads) given;
}
