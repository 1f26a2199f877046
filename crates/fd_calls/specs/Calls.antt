-- The calls that move an open: each by its meaning there.
use Rattle.std.specs.Prelude.{ℕ, false, [], ◌∷◌, Option, None, Some}
use Rattle.abi_base.specs.declared.errno.Errno.TheVariants.{Nosys}
use Rattle.abi_types.specs.declared.call.Call.{Call}
use Rattle.abi_types.specs.declared.call.Call.TheVariants as call
use Rattle.abi_types.specs.declared.open_kind.OpenKind.{OpenKind}
use Rattle.kernel_model.specs.Families.FileOffsets.{OffsetOutcome, read_open_file, seek_open_file, stays, write_open_file}
use Rattle.kernel_model.specs.Families.OpenMeaning.{OpenMeaning}
use Rattle.kernel_model.specs.Outcome.{replies}
use Rattle.kernel_model.specs.Reply.{refused}
use Rattle.kernel_model.specs.State.{Tree}
use Rattle.kernel_model.specs.Families.StreamCalls.{reading, seeking, writing}

-- the number of the descriptor of that open, where the call is such a one
abbrev pub offset_fd : Call → Option ℕ
offset_fd (call.FdRead fd length) = Some fd
offset_fd (call.FdSeek fd offset whence) = Some fd
offset_fd (call.FdWrite fd bytes) = Some fd
offset_fd _ = None

-- a call that moves no open
abbrev pub no_offset_call : OpenMeaning
no_offset_call = record {
  effect = λ now v o kind. replies (refused Nosys);
  moves = λ kind. false;
  touched = λ kind. [];
  errors = Nosys ∷ [];
  takes_memory = false;
  may_wait = false;
}

-- what the call means by the open
abbrev pub offset_meaning : Call → OpenMeaning
offset_meaning (call.FdRead fd length) = reading length
offset_meaning (call.FdSeek fd offset whence) = seeking offset whence
offset_meaning (call.FdWrite fd bytes) = writing bytes
offset_meaning _ = no_offset_call

-- what it makes of the open of a file, at this time
abbrev pub offset_outcome_of : ℕ → Tree → Call → OpenKind → OffsetOutcome
offset_outcome_of now t (call.FdRead fd length) kind = read_open_file t length kind
offset_outcome_of now t (call.FdSeek fd offset whence) kind = seek_open_file t offset whence kind
offset_outcome_of now t (call.FdWrite fd bytes) kind = write_open_file now t bytes kind
offset_outcome_of now t _ kind = stays (refused Nosys)
