-- That the denied calls of a history are all of its denials: the statement that is the contract of the function of src/laws.rt.
use Rattle.std.specs.Prelude.{◌≡◌, ◌⊎◌, List, [], ◌∷◌, ◌++◌, None, Some}
use Rattle.abi_types.specs.Numbers.{number_of_call}
use Rattle.abi_types.specs.declared.call.Call.{Call}
use Rattle.abi_types.specs.declared.descriptor.Denial.{Denial}
use Rattle.abi_types.specs.declared.reply.Answer.TheVariants as answer
use Rattle.abi_types.specs.declared.reply.Reply.{Reply}
use Rattle.abi_types.specs.declared.wake.WakeIn.{WakeIn}
use Rattle.run_types.specs.declared.history.Act.TheVariants as act
use Rattle.run_types.specs.declared.history.Entry.{Entry}
use Rattle.denied_calls.specs.DeniedCalls.{denied_calls}

-- the entry answers this call so, at once or by the wake of a thread that waited in it
abbrev pub Answers : Entry → Call → Reply → Type 0
Answers e call reply =
    (e.act ≡ act.Call call (answer.Reply reply)) ⊎ ((given : WakeIn) × (e.act ≡ act.Wake call given (answer.Reply reply)))

-- Each answer that denies something is among them, in its place, with its process, its thread, its call's number and what it denies; and there is no
-- other.
pub record DenialsAreAll : Type 0 where
  pub listed : (front : List Entry) (e : Entry) (rest : List Entry) (call : Call) (reply : Reply) (denial : Denial) → Answers e call reply
      → reply.denial ≡ Some denial
      → denied_calls (front ++ e ∷ rest)
      ≡ denied_calls front ++ (record { pid = e.pid; tid = e.tid; number = number_of_call call; denial = denial }) ∷ denied_calls rest
  pub only : (front : List Entry) (e : Entry) (rest : List Entry)
      → ((call : Call) (reply : Reply) → Answers e call reply → reply.denial ≡ None) → denied_calls (front ++ e ∷ rest) ≡ denied_calls front ++ denied_calls rest
  pub none : denied_calls [] ≡ []
