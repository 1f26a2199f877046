-- What the calls on the process's memory answer, as registers and memory encode them: the statement that is the contract of a function of src/laws.rt. The
-- conditions of each call are those of `call_codec/specs/Refusals.antt`.
use Rattle.std.specs.Prelude.{ℕ, Some}
use Rattle.abi_base.specs.Registers.{Registers}
use Rattle.abi_base.specs.Rights.{Has}
use Rattle.abi_types.specs.declared.call.Call.{Call}
use Rattle.abi_types.specs.declared.call_number.CallNumber.TheVariants as number
use Rattle.abi_types.specs.declared.constants.Constants.{Constants}
use Rattle.abi_types.specs.declared.open_kind.OpenKind.TheVariants.{File}
use Rattle.abi_types.specs.declared.reply.Reply.{Reply}
use Rattle.abi_types.specs.declared.who.Who.{Who}
use Rattle.call_codec.specs.Arguments.{or_refused}
use Rattle.call_codec.specs.MemoryCalls.{mem_advise_of, mem_map_of, mem_protect_of, mem_sync_of, mem_unmap_of}
use Rattle.call_codec.specs.Refusals.{AnswersFirst, Conditions, advise_conditions, map_conditions, protect_conditions, sync_conditions, unmap_conditions}
use Rattle.codec_arguments.specs.Arguments.{argument, low}
use Rattle.guest_memory.specs.Page.{Pages}
use Rattle.kernel_model.specs.Outcome.{OnReply}
use Rattle.kernel_model.specs.State.{State}
use Rattle.kernel_model.specs.Step.{step_answer}
use Rattle.file_errors.specs.Tables.{IsAllowed, IsOpenAt}

-- where it is allowed the call is answered by the first of the conditions that holds, and where none does it succeeds
abbrev pub IsAnswered : Conditions → Call → Type 0
IsAnswered conditions call =
    (constants : Constants) (S : State) (who : Who) → IsAllowed S who call
    → OnReply (λ (reply : Reply). AnswersFirst conditions reply.errno) (step_answer constants S who call)

-- so it is where the open of the descriptor with this number is of a file
abbrev pub IsAnsweredOfFile : Conditions → Call → ℕ → Type 0
IsAnsweredOfFile conditions call fd =
    (constants : Constants) (S : State) (who : Who) (has : IsAllowed S who call) (node offset flags : ℕ)
    → IsOpenAt S has.table fd (Some (File node offset flags))
    → OnReply (λ (reply : Reply). AnswersFirst conditions reply.errno) (step_answer constants S who call)

pub record MemoryErrorsAreListed (m : Pages) (r : Registers) : Type 0 where
  pub mem_advise : IsAnswered (advise_conditions m r) (mem_advise_of m r)
  pub mem_protect : IsAnswered (protect_conditions m r) (mem_protect_of m r)
  pub mem_sync : IsAnswered (sync_conditions m r) (mem_sync_of m r)
  pub mem_unmap : IsAnswered (unmap_conditions r) (mem_unmap_of r)
  -- with ANON (bit 0), and without
  pub mem_map : Has (low (argument r 3)) 0 → IsAnswered (map_conditions m r) (or_refused number.MemMap (mem_map_of m r))
  pub mem_map_file : ¬ Has (low (argument r 3)) 0
      → IsAnsweredOfFile (map_conditions m r) (or_refused number.MemMap (mem_map_of m r)) (low (argument r 4))

abbrev pub AllMemoryErrorsAreListed : Type 0
AllMemoryErrorsAreListed = (m : Pages) (r : Registers) → MemoryErrorsAreListed m r
