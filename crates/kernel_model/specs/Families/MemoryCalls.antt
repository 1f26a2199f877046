-- Calls on the caller's memory. Where its pages go comes with the call.
use Rattle.std.specs.Prelude.{ℕ, Bool, true, false, List, [], ◌∷◌, Option, Some, if◌then◌else◌}
use Rattle.abi_base.specs.declared.errno.Errno.{Errno}
use Rattle.abi_base.specs.declared.errno.Errno.TheVariants.{Badf}
use Rattle.abi_base.specs.declared.rights.TheConstants.Rights.{FD_READ, MEM_MAP, MEM_MAP_EXEC}
use Rattle.abi_base.specs.declared.flags.TheConstants.{PROT_EXEC}
use Rattle.abi_types.specs.Families.{is_anonymous}
use Rattle.abi_types.specs.declared.needed.Needed.{Needed}
use Rattle.abi_types.specs.declared.open_kind.OpenKind.{OpenKind}
use Rattle.abi_types.specs.declared.open_kind.OpenKind.TheVariants.{File}
use Rattle.abi_types.specs.declared.place.Place.{Place}
use Rattle.abi_types.specs.declared.place.Place.TheVariants as place
use Rattle.abi_types.specs.declared.place.Place.TheVariants.{At}
use Rattle.abi_types.specs.declared.reply.Payload.TheVariants.{Content}
use Rattle.abi_types.specs.declared.reply.Reply.{Reply}
use Rattle.kernel_model.specs.Families.FileBytes.{bytes_at, page_bytes}
use Rattle.kernel_model.specs.Families.FileLooks.{looking}
use Rattle.kernel_model.specs.Families.FileMeaning.{FileMeaning, on_open}
use Rattle.kernel_model.specs.Meaning.{Meaning, answering}
use Rattle.kernel_model.specs.Outcome.{Outcome, replies}
use Rattle.kernel_model.specs.Reply.{refused, success}
use Rattle.kernel_model.specs.Rows.{base_row, both, where_set}
use Rattle.kernel_model.specs.State.{Tree}

-- what a mapping answers that goes to this place: its address
abbrev pub placed : Place → Reply
placed (At address) = success address 0
placed (place.Refused errno) = refused errno

-- the error by which a mapping has no place
abbrev pub place_errors : Place → List Errno
place_errors (At address) = []
place_errors (place.Refused errno) = errno ∷ []

-- a mapping of zeros
abbrev pub map_zeros : Place → Meaning
map_zeros place = answering (place_errors place) (placed place)

-- a mapping of these bytes; where it has no place it is refused
abbrev pub placed_with : Place → List ℕ → Reply
placed_with (At address) bytes = record (success address 0) { payload = Content bytes }
placed_with (place.Refused errno) bytes = refused errno

-- the pages of so many bytes have those of the file from an offset on, as many as there are
abbrev pub map_open : Place → ℕ → ℕ → Tree → Option OpenKind → Outcome
map_open place length offset t (Some (File node at flags)) = replies (placed_with place (bytes_at t node offset (page_bytes length)))
map_open place length offset t _ = replies (refused Badf)

-- whether a mapping has a place
abbrev pub has_place : Place → Bool
has_place (At address) = true
has_place (place.Refused errno) = false

abbrev pub mapping : Place → ℕ → ℕ → FileMeaning
mapping place length offset = record (looking (map_open place length offset)) {
  errors = Badf ∷ place_errors place;
  takes_memory = has_place place;
}

-- MEM_MAP and FD_READ, and with EXEC (1) MEM_MAP_EXEC
abbrev pub map_row : ℕ → ℕ → Needed
map_row fd prot = base_row fd (both (both MEM_MAP FD_READ) (where_set prot PROT_EXEC MEM_MAP_EXEC))

-- with ANON the pages are zeros, and the descriptor isn't looked at
abbrev pub mem_map : Place → ℕ → ℕ → ℕ → ℕ → ℕ → Meaning
mem_map place length prot flags fd offset =
    if is_anonymous flags then map_zeros place else on_open (map_row fd prot) (mapping place length offset)

-- mem_advise, mem_protect, mem_sync and mem_unmap, and each call that is refused before the kernel looks at it
abbrev pub decided : Errno → Meaning
decided errno = answering (errno ∷ []) (refused errno)
