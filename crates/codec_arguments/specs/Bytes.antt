-- Bytes, paths, numbers of descriptors and words in a guest's memory, and ranges that may be written.
use Rattle.std.specs.Prelude.{ℕ, ◌+◌, nat_le, List, replicate, Result, Ok, if◌then◌else◌}
use Rattle.abi_base.specs.declared.errno.Errno.{Errno}
use Rattle.abi_layout.specs.Layout.{number_from}
use Rattle.guest_memory.specs.declared.access.Access.TheVariants.{Write}
use Rattle.guest_memory.specs.Bytes.{bytes_at, bytes_from}
use Rattle.guest_memory.specs.Page.{Pages}
use Rattle.codec_arguments.specs.Arrays.{array_at}
use Rattle.codec_arguments.specs.Reading.{◌>>=◌, or_fault}
use Rattle.codec_arguments.specs.declared.bytes.TheConstants.{MOST_OF_PATH}

-- n bytes from an address on
abbrev pub bytes_in : Pages → ℕ → ℕ → Result (List ℕ) Errno
bytes_in m a n = or_fault (bytes_at m a n)

-- what stands for a path that is too long to be read: 1025 zeros
unfoldable pub unread_path : List ℕ
unread_path = replicate (MOST_OF_PATH + 1) 0

-- a path of n bytes; one of over 1024 isn't read
abbrev pub path_in : Pages → ℕ → ℕ → Result (List ℕ) Errno
path_in m a n = if nat_le n MOST_OF_PATH then bytes_in m a n else Ok unread_path

-- a number of 32 bits
abbrev pub number_in : Pages → ℕ → Result ℕ Errno
number_in m a = bytes_in m a 4 >>= λ bytes. Ok (number_from 0 4 bytes)

-- n numbers of descriptors
abbrev pub descriptors_in : Pages → ℕ → ℕ → Result (List ℕ) Errno
descriptors_in m a n = array_at (number_in m) 4 a n

-- whether n bytes may be written
abbrev pub writable : Pages → ℕ → ℕ → Result (Unit {0}) Errno
writable m a n = or_fault (bytes_from Write m a n) >>= λ before. Ok tt

-- the word of a lock or a condition variable, which may be read and written
abbrev pub word_at : Pages → ℕ → Result ℕ Errno
word_at m a = writable m a 4 >>= λ may. number_in m a
