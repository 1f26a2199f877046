-- What a call comes to.
use Rattle.std.specs.Prelude.{◌≡◌, ⊤, Bool, true, false, List, []}
use Rattle.abi_base.specs.declared.errno.Errno.TheVariants.{Success}
use Rattle.abi_types.specs.declared.reply.Answer.{Answer}
use Rattle.abi_types.specs.declared.reply.Answer.TheVariants as answer
use Rattle.abi_types.specs.declared.reply.Reply.{Reply}
use Rattle.abi_types.specs.declared.reply.WordWrites.{WordWrites}
use Rattle.kernel_model.specs.State.{Update}

-- an answer, and the parts that the call sets, one after another
pub record Outcome : Type 0 where
  pub answer : Answer
  pub updates : List Update

-- a reply, with nothing changed
abbrev pub replies : Reply → Outcome
replies reply = record { answer = answer.Reply reply; updates = [] }

-- the thread waits, and these words are written, with nothing else changed
abbrev pub parks : WordWrites → Outcome
parks writes = record { answer = answer.Parked writes; updates = [] }

-- whether the answer is that the thread waits
abbrev pub is_parked : Answer → Bool
is_parked (answer.Parked writes) = true
is_parked (answer.Reply reply) = false

-- the answer is a reply, and this holds of it
abbrev pub OnReply : (Reply → Type 0) → Answer → Type 0
OnReply P (answer.Parked writes) = ⊥
OnReply P (answer.Reply reply) = P reply

-- where the answer is a reply this holds of it
abbrev pub WhereReply : (Reply → Type 0) → Answer → Type 0
WhereReply P (answer.Parked writes) = ⊤
WhereReply P (answer.Reply reply) = P reply

-- the answer is no error: it is a reply that the call is done, or the thread waits in the call
abbrev pub IsSuccess : Answer → Type 0
IsSuccess (answer.Parked writes) = ⊤
IsSuccess (answer.Reply reply) = reply.errno ≡ Success
