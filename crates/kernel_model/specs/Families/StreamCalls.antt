-- Calls on opens that bytes are read from and written to, at the place where the last one ended.
use Rattle.std.specs.Prelude.{ℕ, ◌==◌, ◌&&◌, Bool, true, false, List, [], ◌∷◌, ◌++◌, length, take, drop, Option, None, Some, if◌then◌else◌}
use Rattle.abi_base.specs.declared.errno.Errno.TheVariants.{Again, Badf, Fbig, Inval, Pipe}
use Rattle.abi_base.specs.declared.rights.TheConstants.Rights.{FD_READ, FD_SEEK, FD_TELL, FD_WRITE}
use Rattle.abi_base.specs.declared.flags.TheConstants.{WHENCE_CUR}
use Rattle.abi_types.specs.declared.needed.Needed.{Needed}
use Rattle.abi_types.specs.declared.open_kind.OpenKind.{OpenKind}
use Rattle.abi_types.specs.declared.open_kind.OpenKind.TheVariants.{End, File, Terminal}
use Rattle.abi_types.specs.declared.reply.Answer.TheVariants as answer
use Rattle.abi_types.specs.declared.stream.Stream.{Stream}
use Rattle.kernel_model.specs.Families.ChannelCalls.{read_end, send_on, written_reply}
use Rattle.kernel_model.specs.Families.FileOffsets.{with_offset, read_on, seek_open_file, write_on}
use Rattle.kernel_model.specs.Meaning.{Meaning}
use Rattle.kernel_model.specs.Families.OpenMeaning.{OpenMeaning, by_open}
use Rattle.kernel_model.specs.Outcome.{Outcome, replies}
use Rattle.kernel_model.specs.Reply.{content, refused, success}
use Rattle.kernel_model.specs.Rows.{base_row, either_row}
use Rattle.kernel_model.specs.Sight.{channel_part}
use Rattle.kernel_model.specs.State.{Part, at_node, at_term, set_term}
use Rattle.kernel_model.specs.View.{View}

-- ---- what such calls may change

-- whether the place where they end moves: it does of a file
abbrev pub has_offset : Option OpenKind → Bool
has_offset (Some (File node offset flags)) = true
has_offset _ = false

-- what is read from by an open, beside a file: a standard stream, or the channel that an end reads
abbrev pub stream_part : Option OpenKind → List Part
stream_part (Some (Terminal which flags)) = at_term which ∷ []
stream_part (Some (End reads writes flags form)) = channel_part reads
stream_part _ = []

-- what is written to by an open: a standard stream, a file, or the channel that an end writes
abbrev pub written_part : Option OpenKind → List Part
written_part (Some (Terminal which flags)) = at_term which ∷ []
written_part (Some (End reads writes flags form)) = channel_part writes
written_part (Some (File node offset flags)) = at_node node ∷ []
written_part _ = []

-- ---- fd_write

-- bytes written to a standard stream: all are written, and their count is the result
abbrev pub write_term : List ℕ → ℕ → Option Stream → Outcome
write_term bytes which None = replies (refused Badf)
write_term bytes which (Some stream) = record {
  answer = answer.Reply (success (length bytes) 0);
  updates = set_term which (record stream { written = stream.written ++ bytes }) ∷ [];
}

-- bytes written to the open of this number: standard streams, files and ends that write a channel take them
abbrev pub write_open : ℕ → View → List ℕ → ℕ → Option OpenKind → Outcome
write_open now v bytes o None = replies (refused Badf)
write_open now v bytes o (Some (Terminal which flags)) = write_term bytes which (v.term which)
write_open now v bytes o (Some (File node offset flags)) = with_offset o (write_on v.branch node offset flags now bytes)
write_open now v bytes o (Some (End reads writes flags form)) = send_on written_reply v flags bytes [] writes
write_open now v bytes o (Some _) = replies (refused Badf)

abbrev pub writing : List ℕ → OpenMeaning
writing bytes = record {
  effect = λ now v. write_open now v bytes;
  moves = has_offset;
  touched = written_part;
  errors = Badf ∷ Fbig ∷ Again ∷ Pipe ∷ [];
  takes_memory = true;
  may_wait = true;
}

abbrev pub fd_write : ℕ → List ℕ → Meaning
fd_write fd bytes = by_open (base_row fd FD_WRITE) (writing bytes)

-- ---- fd_read

-- at most n bytes read from a standard stream: those that are next, and none at its end; their count is the result
abbrev pub read_term : ℕ → ℕ → Option Stream → Outcome
read_term n which None = replies (refused Badf)
read_term n which (Some stream) = record {
  answer = answer.Reply (content (take n stream.left));
  updates = set_term which (record stream { left = drop n stream.left }) ∷ [];
}

-- bytes read from the open of this number: standard streams, files and ends that read a channel give them
abbrev pub read_open : View → ℕ → ℕ → Option OpenKind → Outcome
read_open v n o None = replies (refused Badf)
read_open v n o (Some (Terminal which flags)) = read_term n which (v.term which)
read_open v n o (Some (File node offset flags)) = with_offset o (read_on v.branch node offset flags n)
read_open v n o (Some (End reads writes flags form)) = read_end v n flags reads
read_open v n o (Some _) = replies (refused Badf)

abbrev pub reading : ℕ → OpenMeaning
reading n = record {
  effect = λ now v. read_open v n;
  moves = has_offset;
  touched = stream_part;
  errors = Badf ∷ Again ∷ [];
  takes_memory = true;
  may_wait = true;
}

abbrev pub fd_read : ℕ → ℕ → Meaning
fd_read fd n = by_open (base_row fd FD_READ) (reading n)

-- ---- fd_seek

-- the open of this number is moved
abbrev pub seek_open : View → ℕ → ℕ → ℕ → Option OpenKind → Outcome
seek_open v bits whence o None = replies (refused Badf)
seek_open v bits whence o (Some kind) = with_offset o (seek_open_file v.branch bits whence kind)

abbrev pub seeking : ℕ → ℕ → OpenMeaning
seeking bits whence = record {
  effect = λ now v. seek_open v bits whence;
  moves = has_offset;
  touched = λ kind. [];
  errors = Badf ∷ Inval ∷ [];
  takes_memory = false;
  may_wait = false;
}

-- FD_SEEK; an offset of 0 from where it is (whence 1) only reports it, for which FD_TELL will do
abbrev pub seek_row : ℕ → ℕ → ℕ → Needed
seek_row fd bits whence = if (bits == 0) && (whence == WHENCE_CUR) then either_row fd FD_TELL FD_SEEK else base_row fd FD_SEEK

abbrev pub fd_seek : ℕ → ℕ → ℕ → Meaning
fd_seek fd bits whence = by_open (seek_row fd bits whence) (seeking bits whence)
