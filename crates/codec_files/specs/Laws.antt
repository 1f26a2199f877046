-- What holds of the calls about files by their registers alone: the statements that are the contracts of the functions of
-- src/laws.rt.
use Rattle.std.specs.Prelude.{◌≡◌, Err}
use Rattle.abi_base.specs.Registers.{Registers}
use Rattle.abi_base.specs.Rights.{Has}
use Rattle.abi_base.specs.declared.errno.Errno.TheVariants.{Inval}
use Rattle.codec_arguments.specs.Arguments.{argument, low}
use Rattle.codec_files.specs.ByPath.{file_open_of}
use Rattle.guest_memory.specs.Page.{Pages}

-- file_open with CREAT, which is bit 0 of its flags, and DIRECTORY, which is bit 1, is INVAL, whatever else the registers and
-- the memory hold.
abbrev pub CreateOfDirectoryIsInvalid : Type 0
CreateOfDirectoryIsInvalid =
    (m : Pages) (r : Registers) → Has (low (argument r 3)) 0 → Has (low (argument r 3)) 1 → file_open_of m r ≡ Err Inval
