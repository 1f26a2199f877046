-- What a child has of its own in the kernel's state.
use Rattle.std.proofs.Common.{◌≡◌, ℕ, None, Some, sym, ap, ◌∙◌}
use Rattle.std.specs.FinMap.{get, insert}
use Rattle.abi_types.specs.declared.call.Call.{Call}
use Rattle.abi_types.specs.declared.reply.Answer.{Answer}
use Rattle.abi_types.specs.declared.constants.Constants.{Constants}
use Rattle.abi_types.specs.declared.who.Who.{Who}
use Rattle.maps.specs.Maps.{get-insert-same}
use Rattle.kernel_model.specs.Families.ForkCalls.{child_number, child_process}
use Rattle.kernel_model.specs.Families.Numbers.{made_more}
use Rattle.kernel_model.specs.OwnChanges.{with_next_child}
use Rattle.kernel_model.specs.State.{ProcessState, State}
use Rattle.kernel_model.specs.Step.{IsStep}
use Rattle.kernel_model.specs.Threads.{child_made}
use Rattle.kernel_model.specs.Valid.{IsValid}
use Rattle.kernel_model.proofs.ForkLaws.{made_by_fork}

-- it was not there before, and is then as its parent's state says
pub record IsChildOf (S : State) (who : Who) (T : State) (q : ℕ) : Type 0 where
  pub new : get S.processes q ≡ None
  pub own : ProcessState
  pub parent : get S.processes who.pid ≡ Some own
  pub child : get T.processes q ≡ Some (child_process who.tid own)

pub is_child_of : (constants : Constants) (S : State) (who : Who) (call : Call) (given : Answer) (T : State) (q : ℕ) → IsValid S
    → IsStep constants S who call given T → child_made call given who.pid (get S.processes who.pid) ≡ Some q → IsChildOf S who T q
is_child_of constants S who call given T q valid step born =
    let by = made_by_fork constants S who call given T q valid step born in
    let f = by.2 in
    record {
      new = ap (get S.processes) (sym by.3) ∙ f.new.process;
      own = f.own;
      parent = f.caller.0;
      child = ap (get T.processes) (sym by.3) ∙ ap (λ m. get m (child_number who.pid f.own)) f.processes
          ∙ get-insert-same (insert S.processes who.pid (made_more 2 (with_next_child f.own))) (child_number who.pid f.own) (child_process who.tid f.own);
    }
