-- What calls make of an open whose offset they move: they read and write at it, or set it.
use Rattle.std.specs.Prelude.{ℕ, ◌+◌, ◌-◌, ◌==◌, ◌^◌, bit_and, nat_lt, List, [], ◌∷◌, ◌++◌, length, Option, None, Some, if◌then◌else◌}
use Rattle.abi_base.specs.declared.errno.Errno.TheVariants.{Badf, Fbig, Inval}
use Rattle.abi_base.specs.declared.flags.TheConstants.{FDFLAG_APPEND, WHENCE_CUR, WHENCE_END, WHENCE_SET}
use Rattle.abi_types.specs.declared.open_kind.OpenKind.{OpenKind}
use Rattle.abi_types.specs.declared.open_kind.OpenKind.TheVariants.{File}
use Rattle.abi_types.specs.declared.reply.Reply.{Reply}
use Rattle.tree_model.specs.Changes.{bytes_of}
use Rattle.tree_model.specs.Files.{is_beyond}
use Rattle.kernel_model.specs.Families.FileBytes.{bytes_at, overwrites, written_count}
use Rattle.kernel_model.specs.Outcome.{Outcome, replies}
use Rattle.kernel_model.specs.Reply.{content, refused, success}
use Rattle.kernel_model.specs.State.{Tree, Update, set_open}

-- what such a call comes to: what it answers and sets of the file tree, and the open after it, where this is another one then
pub record OffsetOutcome : Type 0 where
  pub outcome : Outcome
  pub moved : Option OpenKind

-- the open stays as it is
abbrev pub stays : Reply → OffsetOutcome
stays reply = record { outcome = replies reply; moved = None }

-- the open of this number is this one now
abbrev pub open_update : ℕ → Option OpenKind → List Update
open_update o None = []
open_update o (Some kind) = set_open o kind ∷ []

-- all that it sets
abbrev pub with_offset : ℕ → OffsetOutcome → Outcome
with_offset o m = record { answer = m.outcome.answer; updates = m.outcome.updates ++ open_update o m.moved }

-- ---- reading and writing

-- n bytes are read at the offset, which moves on behind them
abbrev pub read_on : Tree → ℕ → ℕ → ℕ → ℕ → OffsetOutcome
read_on t node offset flags n = record {
  outcome = replies (content (bytes_at t node offset n));
  moved = Some (File node (offset + length (bytes_at t node offset n)) flags);
}

-- the place where a file is written: with APPEND its end, else the open's offset
abbrev pub write_place : Tree → ℕ → ℕ → ℕ → ℕ
write_place t node offset flags = if bit_and flags FDFLAG_APPEND == 0 then offset else length (bytes_of t node)

-- the bytes are written at a place, and the offset is behind them then; no bytes leave it
abbrev pub write_from : Tree → ℕ → ℕ → ℕ → ℕ → List ℕ → OffsetOutcome
write_from t node flags now at [] = stays (success 0 0)
write_from t node flags now at (b ∷ bytes) =
    if is_beyond at (b ∷ bytes) then stays (refused Fbig)
    else record {
      outcome = overwrites t node now at (b ∷ bytes);
      moved = Some (File node (at + written_count at (b ∷ bytes)) flags);
    }

abbrev pub write_on : Tree → ℕ → ℕ → ℕ → ℕ → List ℕ → OffsetOutcome
write_on t node offset flags now bytes = write_from t node flags now (write_place t node offset flags) bytes

-- ---- seeking

-- a number that is an offset: it is below 2^63
unfoldable pub as_offset : ℕ → Option ℕ
as_offset n = if nat_lt n (2 ^ 63) then Some n else None

-- the sum of a place and of a signed number, of which the 64 bits in two's complement are given; none where it is no offset
unfoldable pub offset_from : ℕ → ℕ → Option ℕ
offset_from place bits =
    if nat_lt bits (2 ^ 63) then as_offset (place + bits)
    else if nat_lt (place + bits) (2 ^ 64) then None else as_offset (place + bits - 2 ^ 64)

-- where it leads: from the offset (whence 1) or from the file's end (2), or to the place that is given (3)
abbrev pub sought : Tree → ℕ → ℕ → ℕ → ℕ → Option ℕ
sought t node offset bits whence =
    if whence == WHENCE_CUR then offset_from offset bits
    else if whence == WHENCE_END then offset_from (length (bytes_of t node)) bits
    else if whence == WHENCE_SET then as_offset bits
    else None

abbrev pub seek_to : ℕ → ℕ → Option ℕ → OffsetOutcome
seek_to node flags None = stays (refused Inval)
seek_to node flags (Some place) = record { outcome = replies (success place 0); moved = Some (File node place flags) }

abbrev pub seek_on : Tree → ℕ → ℕ → ℕ → ℕ → ℕ → OffsetOutcome
seek_on t node offset flags bits whence = seek_to node flags (sought t node offset bits whence)

-- ---- what each of these calls makes of an open, by the time; one that isn't of a file it refuses

abbrev pub read_open_file : Tree → ℕ → OpenKind → OffsetOutcome
read_open_file t n (File node offset flags) = read_on t node offset flags n
read_open_file t n _ = stays (refused Badf)

abbrev pub write_open_file : ℕ → Tree → List ℕ → OpenKind → OffsetOutcome
write_open_file now t bytes (File node offset flags) = write_on t node offset flags now bytes
write_open_file now t bytes _ = stays (refused Badf)

abbrev pub seek_open_file : Tree → ℕ → ℕ → OpenKind → OffsetOutcome
seek_open_file t bits whence (File node offset flags) = seek_on t node offset flags bits whence
seek_open_file t bits whence _ = stays (refused Badf)
