-- Arrays of iovecs, and the bytes of the ranges that they name, of which 65,536 count.
use Rattle.std.specs.Prelude.{ℕ, ◌+◌, ◌-◌, min, List, [], ◌∷◌, ◌++◌, Result, Ok, Err}
use Rattle.abi_base.specs.declared.errno.Errno.{Errno}
use Rattle.abi_base.specs.declared.errno.Errno.TheVariants.{Fault}
use Rattle.abi_layout.specs.Layout.{number_from}
use Rattle.abi_structures.specs.declared.structures.Iovec.{Iovec}
use Rattle.guest_memory.specs.declared.access.Access.TheVariants.{Write}
use Rattle.guest_memory.specs.declared.fault.MemFault.{MemFault}
use Rattle.guest_memory.specs.Bytes.{bytes_at, bytes_from}
use Rattle.guest_memory.specs.Page.{Pages}
use Rattle.codec_arguments.specs.Arrays.{array_at}
use Rattle.codec_arguments.specs.Bytes.{writable}
use Rattle.codec_arguments.specs.Reading.{◌>>=◌, or_fault}
use Rattle.codec_arguments.specs.declared.ranges.TheConstants.{MOST_TRANSFERRED}

-- an iovec: the address and the length of a range of bytes
abbrev pub range_of : List ℕ → Iovec
range_of bytes = record { address = number_from 0 8 bytes; length = number_from 8 8 bytes }

abbrev pub range_in : Result (List ℕ) MemFault → Result Iovec MemFault
range_in (Ok bytes) = Ok (range_of bytes)
range_in (Err fault) = Err fault

-- an array of n iovecs
abbrev pub ranges_at : Pages → ℕ → ℕ → Result (List Iovec) MemFault
ranges_at m a n = array_at (λ at. range_in (bytes_at m at 16)) 16 a n

-- ---- bytes to write

abbrev pub joined : Result (List ℕ) MemFault → Result (List ℕ) MemFault → Result (List ℕ) MemFault
joined (Ok front) (Ok rest) = Ok (front ++ rest)
joined (Ok front) (Err fault) = Err fault
joined (Err fault) rest = Err fault

-- the first bytes of the ranges, one after another, as many as there is room for
abbrev pub gathered : Pages → ℕ → List Iovec → Result (List ℕ) MemFault
gathered m room [] = Ok []
gathered m room (range ∷ ranges) =
    joined (bytes_at m range.address (min range.length room)) (gathered m (room - min range.length room) ranges)

-- the bytes of an iovec array, of which 65,536 count
abbrev pub gathered_in : Pages → Result (List Iovec) MemFault → Result (List ℕ) MemFault
gathered_in m (Ok ranges) = gathered m MOST_TRANSFERRED ranges
gathered_in m (Err fault) = Err fault

-- the bytes to write that an array of n iovecs names
abbrev pub written_in : Pages → ℕ → ℕ → Result (List ℕ) Errno
written_in m a n = or_fault (gathered_in m (ranges_at m a n))

-- ---- room to read into

-- so many bytes, which may be written, and those of the other ranges
abbrev pub counted : ℕ → Result (List ℕ) MemFault → Result ℕ MemFault → Result ℕ MemFault
counted n (Ok before) (Ok others) = Ok (n + others)
counted n (Ok before) (Err fault) = Err fault
counted n (Err fault) others = Err fault

-- how many bytes the ranges have, of at most so many, where each of these bytes may be written
abbrev pub room_of : Pages → ℕ → List Iovec → Result ℕ MemFault
room_of m room [] = Ok 0
room_of m room (range ∷ ranges) =
    counted (min range.length room) (bytes_from Write m range.address (min range.length room)) (room_of m (room - min range.length room) ranges)

-- how many bytes of a range count, where there is room for so many, and each of these bytes may be written
abbrev pub part_of : Pages → ℕ → Result Iovec MemFault → Result ℕ Errno
part_of m room (Ok range) = writable m range.address (min range.length room) >>= λ _. Ok (min range.length room)
part_of m room (Err fault) = Err Fault

abbrev pub room_among : Pages → Result (List Iovec) MemFault → Result ℕ MemFault
room_among m (Ok ranges) = room_of m MOST_TRANSFERRED ranges
room_among m (Err fault) = Err fault

-- the length to read that an array of n iovecs names
abbrev pub room_in : Pages → ℕ → ℕ → Result ℕ Errno
room_in m a n = or_fault (room_among m (ranges_at m a n))
