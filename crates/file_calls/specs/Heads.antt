-- The head of a directory's entry as its bytes have it.
use Rattle.std.specs.Prelude.{◌%◌, ◌^◌}
use Rattle.abi_structures.specs.declared.structures.Dirent.{Dirent}

-- with the low 32 bits of its name's length
abbrev pub low_head : Dirent → Dirent
low_head head = record head { namlen = head.namlen % 2 ^ 32 }
