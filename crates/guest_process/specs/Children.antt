-- The call by which a process gets a child.
use Rattle.std.specs.Prelude.{ℕ, Option, None}
use Rattle.abi_types.specs.declared.call.Call.{Call}
use Rattle.abi_types.specs.declared.call.Call.TheVariants.{ProcFork}
use Rattle.abi_types.specs.declared.reply.Answer.{Answer}
use Rattle.abi_types.specs.declared.reply.Answer.TheVariants as answer
use Rattle.kernel_model.specs.Threads.{child_in}

-- the call is a proc_fork
abbrev pub IsFork : Call → Type 0
IsFork (ProcFork left) = Unit {0}
IsFork other = ⊥

-- the number of the child that the answer to a proc_fork tells
abbrev pub told_in : Answer → Option ℕ
told_in (answer.Reply reply) = child_in reply.payload
told_in (answer.Parked writes) = None
