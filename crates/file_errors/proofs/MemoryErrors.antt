-- The errors of the calls on the process's memory are as listed.
use Rattle.std.proofs.Common.{◌≡◌, Some, Ok, Err, sym, subst}
use Rattle.std.specs.Prelude.{Result}
use Rattle.abi_base.specs.Registers.{Registers}
use Rattle.abi_base.specs.Rights.{Has}
use Rattle.abi_base.specs.declared.errno.Errno.{Errno}
use Rattle.abi_base.specs.declared.errno.Errno.TheVariants.{Success}
use Rattle.abi_types.specs.declared.call.Call.TheVariants.{Memory, Refused}
use Rattle.abi_types.specs.declared.call_number.CallNumber.{CallNumber}
use Rattle.abi_types.specs.declared.call_number.CallNumber.TheVariants as number
use Rattle.abi_types.specs.declared.open_kind.OpenKind.TheVariants.{File}
use Rattle.abi_types.specs.declared.place.Place.{Place}
use Rattle.abi_types.specs.declared.place.Place.TheVariants as place
use Rattle.abi_types.specs.declared.reply.Answer.{Answer}
use Rattle.abi_types.specs.declared.reply.Answer.TheVariants as answer
use Rattle.abi_types.specs.declared.reply.Reply.{Reply}
use Rattle.call_codec.specs.Arguments.{or_refused}
use Rattle.call_codec.specs.MemoryCalls.{advise_errno, may_map, pages_in, place_of, placed_map, protect_errno, sync_errno, unmap_errno}
use Rattle.call_codec.specs.Refusals.{AnswersFirst, Conditions, advise_conditions, errno_of, map_conditions, placed_errno, protect_conditions, sync_conditions, unmap_conditions}
use Rattle.call_codec.proofs.Listed.{advise_listed, map_listed, protect_listed, sync_listed, unmap_listed}
use Rattle.codec_arguments.specs.Arguments.{argument, low}
use Rattle.codec_arguments.specs.Reading.{◌>>=◌}
use Rattle.guest_memory.specs.Page.{Pages}
use Rattle.kernel_model.specs.Outcome.{OnReply}
use Rattle.kernel_model.specs.Reply.{refused}
use Rattle.kernel_model.specs.Step.{step_answer}
use Rattle.file_errors.specs.MemoryErrors.{AllMemoryErrorsAreListed, IsAnswered, IsAnsweredOfFile}
use Rattle.file_errors.specs.OwnErrors.{place_rows}
use Rattle.file_errors.specs.Tables.{Answers}
use Rattle.file_errors.proofs.OwnErrors.{own_errors_are_listed}

-- an answer of this error, where the conditions answer so
answered_by : (conditions : Conditions) (errno : Errno) (given : Answer) → AnswersFirst conditions errno → given ≡ answer.Reply (refused errno)
    → OnReply (λ (reply : Reply). AnswersFirst conditions reply.errno) given
answered_by conditions errno given first is = subst (OnReply (λ (reply : Reply). AnswersFirst conditions reply.errno)) (sym is) first

-- a call about pages that are there
decided_answers : (conditions : Conditions) (n : CallNumber) (errno : Errno) → AnswersFirst conditions errno → IsAnswered conditions (Memory n errno)
decided_answers conditions n errno first constants S who has =
    answered_by conditions errno (step_answer constants S who (Memory n errno)) first (own_errors_are_listed.memory n errno constants S who has)

refused_answers : (conditions : Conditions) (n : CallNumber) (errno : Errno) → AnswersFirst conditions errno → IsAnswered conditions (Refused n errno)
refused_answers conditions n errno first constants S who has =
    answered_by conditions errno (step_answer constants S who (Refused n errno)) first (own_errors_are_listed.refused n errno constants S who has)

-- a mapping of zeros that isn't refused by its arguments
succeeded : (conditions : Conditions) (given : Answer) → AnswersFirst conditions Success → OnReply (λ (reply : Reply). reply.errno ≡ Success) given
    → OnReply (λ (reply : Reply). AnswersFirst conditions reply.errno) given
succeeded conditions (answer.Parked writes) first is = is
succeeded conditions (answer.Reply reply) first is = subst (AnswersFirst conditions) (sym is) first

placed_answers : (conditions : Conditions) (at : Place) (given : Answer) → AnswersFirst conditions (placed_errno at) → Answers (place_rows at) given
    → OnReply (λ (reply : Reply). AnswersFirst conditions reply.errno) given
placed_answers conditions (place.At address) given first is = succeeded conditions given first is
placed_answers conditions (place.Refused errno) given first is = answered_by conditions errno given first is

module _ (m : Pages) (r : Registers) (zeros : Has (low (argument r 3)) 0) where
  map_answers : (checked : Result (Unit {0}) Errno)
      → AnswersFirst (map_conditions m r) (errno_of (or_refused number.MemMap (checked >>= λ _. Ok (placed_map m r))))
      → IsAnswered (map_conditions m r) (or_refused number.MemMap (checked >>= λ _. Ok (placed_map m r)))
  map_answers (Err errno) first constants S who has = refused_answers (map_conditions m r) number.MemMap errno first constants S who has
  map_answers (Ok done) first constants S who has =
      let at : Place = place_of m (argument r 0) (low (argument r 3)) (pages_in (argument r 1)) in
      placed_answers (map_conditions m r) at (step_answer constants S who (placed_map m r)) first
      (own_errors_are_listed.mapped_zeros at (argument r 1) (low (argument r 2)) (low (argument r 3)) (low (argument r 4)) (argument r 5) zeros constants S who
      has)

-- a mapping of a file
module _ (m : Pages) (r : Registers) (named : ¬ Has (low (argument r 3)) 0) where
  file_answers : (checked : Result (Unit {0}) Errno)
      → AnswersFirst (map_conditions m r) (errno_of (or_refused number.MemMap (checked >>= λ _. Ok (placed_map m r))))
      → IsAnsweredOfFile (map_conditions m r) (or_refused number.MemMap (checked >>= λ _. Ok (placed_map m r))) (low (argument r 4))
  file_answers (Err errno) first constants S who has node offset flags opened =
      refused_answers (map_conditions m r) number.MemMap errno first constants S who has
  file_answers (Ok done) first constants S who has node offset flags opened =
      let at : Place = place_of m (argument r 0) (low (argument r 3)) (pages_in (argument r 1)) in
      placed_answers (map_conditions m r) at (step_answer constants S who (placed_map m r)) first
      (own_errors_are_listed.mapped_file at (argument r 1) (low (argument r 2)) (low (argument r 3)) (low (argument r 4)) (argument r 5) named constants S who
      (Some (File node offset flags)) has opened tt)

pub memory_errors_are_listed : AllMemoryErrorsAreListed
memory_errors_are_listed m r = record {
  mem_advise = decided_answers (advise_conditions m r) number.MemAdvise (advise_errno m r) (advise_listed m r);
  mem_protect = decided_answers (protect_conditions m r) number.MemProtect (protect_errno m r) (protect_listed m r);
  mem_sync = decided_answers (sync_conditions m r) number.MemSync (sync_errno m r) (sync_listed m r);
  mem_unmap = decided_answers (unmap_conditions r) number.MemUnmap (unmap_errno r) (unmap_listed r);
  mem_map = λ zeros.
      map_answers m r zeros (may_map (argument r 0) (argument r 1) (low (argument r 2)) (low (argument r 3)) (argument r 5)) (map_listed m r);
  mem_map_file = λ named.
      file_answers m r named (may_map (argument r 0) (argument r 1) (low (argument r 2)) (low (argument r 3)) (argument r 5)) (map_listed m r);
}
