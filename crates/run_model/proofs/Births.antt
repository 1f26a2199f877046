-- The process that an act makes.
--     one_contains, contains_one      the number that is told is the one that is born
--     born_is_told, unborn_is_other      what that says of a call
use Rattle.std.proofs.Common.{◌≡◌, ◌≢◌, ℕ, zero, suc, ◌<◌, Contains, [], ◌∷◌, Option, Some, None, sym, ap, ◌∙◌, arith}
use Rattle.std.specs.Prelude.{slice_index_or}
use Rattle.abi_types.specs.declared.call.Call.{Call}
use Rattle.abi_types.specs.declared.reply.Answer.{Answer}
use Rattle.abi_types.specs.declared.constants.Constants.{Constants}
use Rattle.abi_types.specs.declared.who.Who.{Who}
use Rattle.run_types.specs.declared.history.Act.TheVariants as act
use Rattle.std.specs.FinMap.{get}
use Rattle.kernel_model.specs.State.{State}
use Rattle.kernel_model.specs.Step.{IsStep}
use Rattle.kernel_model.specs.Threads.{child_made, child_told}
use Rattle.kernel_model.proofs.Steps.{fork_tells_child}
use Rattle.kernel_model.proofs.Tests.{none_is_no, same_some}
use Rattle.run_model.specs.Own.{born, one_of}

pub one_contains : (o : Option ℕ) (q : ℕ) → o ≡ Some q → Contains (one_of o) q
one_contains None q is = absurd (none_is_no q is)
one_contains (Some c) q is = (0, omega arith, same_some c q is)

first_is : (c q k : ℕ) → k < 1 → slice_index_or (c ∷ []) k q ≡ q → c ≡ q
first_is c q zero less is = is
first_is c q (suc k) less is = absurd (omega (arith, less))

pub contains_one : (o : Option ℕ) (q : ℕ) → Contains (one_of o) q → o ≡ Some q
contains_one None q there = absurd (omega (arith, there.1))
contains_one (Some c) q there = ap Some (first_is c q there.0 there.1 there.2)

-- a process that a call makes is the child that the kernel's state says
pub born_is_made : (constants : Constants) (S : State) (who : Who) (call : Call) (given : Answer) (T : State) (q : ℕ) → IsStep constants S who call given T
    → Contains (born (act.Call call given)) q → child_made call given who.pid (get S.processes who.pid) ≡ Some q
born_is_made constants S who call given T q step there =
    sym (fork_tells_child constants S who call given T step) ∙ contains_one (child_told call given) q there

-- and one that it doesn't make isn't
pub unborn_is_other : (constants : Constants) (S : State) (who : Who) (call : Call) (given : Answer) (T : State) (q : ℕ) → IsStep constants S who call given T
    → ¬ Contains (born (act.Call call given)) q → child_made call given who.pid (get S.processes who.pid) ≢ Some q
unborn_is_other constants S who call given T q step unborn is =
    unborn (one_contains (child_told call given) q (fork_tells_child constants S who call given T step ∙ is))
