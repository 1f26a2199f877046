-- The parent's descriptor of the child that a fork has made.
use Rattle.std.proofs.Common.{◌≡◌, ℕ, Some, refl, ap, ◌∙◌}
use Rattle.std.specs.FinMap.{get}
use Rattle.abi_types.specs.declared.descriptor.Descriptor.{Descriptor}
use Rattle.abi_types.specs.declared.reply.Reply.{Reply}
use Rattle.abi_types.specs.declared.who.Who.{Who}
use Rattle.kernel_model.specs.Families.Numbers.{object_of}
use Rattle.kernel_model.specs.ForkLaws.{IsForked}
use Rattle.kernel_model.specs.State.{State, counts_in}
use Rattle.authority_laws.specs.Ledger.{new_held, recently_made}
use Rattle.authority_laws.specs.Traces.{IsMade}
use Rattle.authority_laws.proofs.Children.{objects}
use Rattle.authority_laws.proofs.Pairs.{held_by}

-- it is of an open that was made
pub forked_is_made : (S : State) (who : Who) (left : ℕ) (reply : Reply) (T : State) → IsForked S who left reply T → (d : Descriptor)
    → new_held (recently_made T who.pid 0) ≡ Some d → IsMade S T d
forked_is_made S who left reply T f d here =
    held_by S T (object_of who.pid (counts_in (get T.processes who.pid)).objects) _ d refl
    (ap (λ k. get S.opens (object_of who.pid k)) (objects S who left reply T f) ∙ f.absent) here
