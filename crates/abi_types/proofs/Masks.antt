-- The rights of types by their numbers, as docs/ABI.md has them.
use Rattle.std.proofs.Common.{◌≡◌, refl}
use Rattle.abi_types.specs.OpenTypes.{inheriting_of, rights_of}
use Rattle.abi_types.specs.declared.open_type.OpenType.TheVariants.{File, Directory, Reading, Writing, Stream, Process}

pub file_mask : rights_of File ≡ 0x11c3801ff
file_mask = refl

pub directory_mask : rights_of Directory ≡ 0x3eff619
directory_mask = refl

pub reading_mask : rights_of Reading ≡ 0x1008000a
reading_mask = refl

pub writing_mask : rights_of Writing ≡ 0x10080048
writing_mask = refl

pub stream_mask : rights_of Stream ≡ 0x801008004a
stream_mask = refl

pub process_mask : rights_of Process ≡ 0x40080000
process_mask = refl

pub inheriting_mask : inheriting_of Directory ≡ 0x11ffff7ff
inheriting_mask = refl
