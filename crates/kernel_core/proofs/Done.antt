-- How a call ends, by what it comes to.
--     replied      it answers a reply alone, and changes nothing
--     lacked      memory ran out in it
--     done_of      it was done or memory ran out, each told apart
--     answered_as, done_as      it comes to the same
--     replied_seen, done_seen, done_at      what is so of the state as it is kept, and of the table that was found there, is so as they are seen
use Rattle.std.proofs.Common.{◌≡◌, ℕ, Bool, true, Some, Result, Ok, Err, IfOk, OnErr, IsErr, sym, ap, subst, ◌∙◌}
use Rattle.std.specs.FinMap.{get}
use Rattle.std.specs.declared.alloc.AllocError.{AllocError}
use Rattle.abi_types.specs.declared.reply.Answer.{Answer}
use Rattle.abi_types.specs.declared.reply.Answer.TheVariants as answer
use Rattle.abi_types.specs.declared.reply.Reply.{Reply}
use Rattle.kernel_model.specs.Outcome.{Outcome, IsSuccess, replies}
use Rattle.kernel_model.specs.Release.{release}
use Rattle.kernel_model.specs.State.{State, Table, put_all}
use Rattle.kernel_model.specs.Valid.{IsValid}
use Rattle.kernel_model.proofs.Tests.{not_true}
use Rattle.kernel_model.proofs.Valids.{release_valid, same_value}
use Rattle.kernel_model.specs.Done.{IsAnswered, IsDone}

pub replied : (o : Outcome) (S : State) (reply : Reply) → IsValid S → o ≡ replies reply → IsAnswered o S S (answer.Reply reply)
replied o S reply valid is =
    (sym (ap (λ (x : Outcome). x.answer) is), sym (ap (λ (x : Outcome). release (put_all x.updates S)) is ∙ release_valid S valid))

pub lacked : (takes : Bool) (o : Outcome) (S T : State) (r : Result Answer AllocError) → IsErr r → takes ≡ true → IsSuccess o.answer → T ≡ S
    → IsDone takes o S T r
lacked takes o S T (Ok given) failed may succeeds unchanged = absurd (not_true failed)
lacked takes o S T (Err error) failed may succeeds unchanged = (may, succeeds, unchanged)

pub done_of : (takes : Bool) (o : Outcome) (S T : State) (r : Result Answer AllocError) → IfOk r (IsAnswered o S T) → OnErr r (takes ≡ true)
    → OnErr r (IsSuccess o.answer) → OnErr r (T ≡ S) → IsDone takes o S T r
done_of takes o S T (Ok given) answered may succeeds unchanged = answered
done_of takes o S T (Err error) answered may succeeds unchanged = (may, succeeds, unchanged)

pub answered_as : (o other : Outcome) (S T : State) (given : Answer) → o ≡ other → IsAnswered o S T given → IsAnswered other S T given
answered_as o other S T given is answered = subst (λ (x : Outcome). IsAnswered x S T given) is answered

pub done_as : (takes : Bool) (o other : Outcome) (S T : State) (r : Result Answer AllocError) → o ≡ other → IsDone takes o S T r → IsDone takes other S T r
done_as takes o other S T r is done = subst (λ (x : Outcome). IsDone takes x S T r) is done

-- ---- as they are seen

module _ (S T : State) (seen : S ≡ T) where
  pub replied_seen : (comes : State → Outcome) (reply : Reply) → IsValid S → comes S ≡ replies reply → IsAnswered (comes T) T T (answer.Reply reply)
  replied_seen comes reply valid is = subst (λ (X : State). IsAnswered (comes X) X X (answer.Reply reply)) seen (replied (comes S) S reply valid is)

  pub done_seen : (takes : Bool) (comes : State → Outcome) (U : State) (r : Result Answer AllocError) → IsDone takes (comes S) S U r → IsDone takes (comes T) T U r
  done_seen takes comes U r done = subst (λ (X : State). IsDone takes (comes X) X U r) seen done

  -- by the table that was found and the one that is seen
  pub done_at : (takes : Bool) (comes : State → Table → Outcome) (p : ℕ) (found table : Table) (U : State) (r : Result Answer AllocError)
      → get S.tables p ≡ Some found → get T.tables p ≡ Some table → IsDone takes (comes S found) S U r → IsDone takes (comes T table) T U r
  done_at takes comes p found table U r there here done =
      let same : found ≡ table = same_value _ _ _ (ap (λ (X : State). get X.tables p) (sym seen) ∙ there) here in
      done_seen takes (λ X. comes X table) U r (subst (λ (t : Table). IsDone takes (comes S t) S U r) same done)
