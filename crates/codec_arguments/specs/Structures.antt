-- Structures in a guest's memory.
use Rattle.std.specs.Prelude.{ℕ, List, Result, Ok}
use Rattle.abi_base.specs.declared.errno.Errno.{Errno}
use Rattle.abi_layout.specs.Layout.{number_from}
use Rattle.abi_structures.specs.declared.structures.FdStat.{FdStat}
use Rattle.abi_structures.specs.declared.structures.FileStat.{FileStat}
use Rattle.abi_structures.specs.declared.structures.RecvIn.{RecvIn}
use Rattle.abi_structures.specs.declared.structures.SendIn.{SendIn}
use Rattle.abi_structures.specs.declared.structures.ThreadAttr.{ThreadAttr}
use Rattle.guest_memory.specs.Page.{Pages}
use Rattle.codec_arguments.specs.Bytes.{bytes_in}
use Rattle.codec_arguments.specs.Reading.{◌>>=◌}

-- a descriptor's state
abbrev pub fdstat_of : List ℕ → FdStat
fdstat_of bytes =
    record {
      kind = number_from 0 1 bytes;
      flags = number_from 2 2 bytes;
      base = record { 0 = number_from 8 8 bytes };
      inheriting = record { 0 = number_from 16 8 bytes };
    }

abbrev pub fdstat_at : Pages → ℕ → Result FdStat Errno
fdstat_at m a = bytes_in m a 24 >>= λ bytes. Ok (fdstat_of bytes)

-- a file's state
abbrev pub filestat_of : List ℕ → FileStat
filestat_of bytes =
    record {
      dev = number_from 0 8 bytes;
      ino = number_from 8 8 bytes;
      kind = number_from 16 1 bytes;
      nlink = number_from 20 4 bytes;
      size = number_from 24 8 bytes;
      atim = number_from 32 8 bytes;
      mtim = number_from 40 8 bytes;
      ctim = number_from 48 8 bytes;
    }

abbrev pub filestat_at : Pages → ℕ → Result FileStat Errno
filestat_at m a = bytes_in m a 56 >>= λ bytes. Ok (filestat_of bytes)

-- how a thread begins
abbrev pub threadattr_of : List ℕ → ThreadAttr
threadattr_of bytes =
    record {
      entry = number_from 0 8 bytes;
      stack = number_from 8 8 bytes;
      stacklen = number_from 16 8 bytes;
      argument = number_from 24 8 bytes;
    }

abbrev pub threadattr_at : Pages → ℕ → Result ThreadAttr Errno
threadattr_at m a = bytes_in m a 32 >>= λ bytes. Ok (threadattr_of bytes)

-- where a message that is received goes
abbrev pub recv_in_of : List ℕ → RecvIn
recv_in_of bytes =
    record {
      iovs = number_from 0 8 bytes;
      iovs_count = number_from 8 8 bytes;
      fds = number_from 16 8 bytes;
      fds_count = number_from 24 8 bytes;
      flags = number_from 32 2 bytes;
    }

abbrev pub recv_in_at : Pages → ℕ → Result RecvIn Errno
recv_in_at m a = bytes_in m a 40 >>= λ bytes. Ok (recv_in_of bytes)

-- what is sent
abbrev pub send_in_of : List ℕ → SendIn
send_in_of bytes =
    record {
      iovs = number_from 0 8 bytes;
      iovs_count = number_from 8 8 bytes;
      fds = number_from 16 8 bytes;
      fds_count = number_from 24 8 bytes;
      flags = number_from 32 2 bytes;
    }

abbrev pub send_in_at : Pages → ℕ → Result SendIn Errno
send_in_at m a = bytes_in m a 40 >>= λ bytes. Ok (send_in_of bytes)
