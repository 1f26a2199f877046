-- Which rights fit an open: those of its type.
use Rattle.std.specs.Prelude.{ℕ, Option, None, Some, IsTrue}
use Rattle.abi_types.specs.declared.descriptor.Descriptor.{Descriptor}
use Rattle.abi_types.specs.declared.open_kind.OpenKind.{OpenKind}
use Rattle.abi_types.specs.declared.open_kind.OpenKind.TheVariants as kind
use Rattle.abi_types.specs.declared.open_type.OpenType.{OpenType}
use Rattle.abi_types.specs.declared.open_type.OpenType.TheVariants as type
use Rattle.abi_types.specs.OpenTypes.{rights_of, inheriting_of}
use Rattle.abi_base.specs.Grants.{stream_rights}
use Rattle.abi_base.specs.Rights.{has_all}

-- the type of an end of channels, by those that it reads and writes
abbrev pub end_type : Option ℕ → Option ℕ → OpenType
end_type (Some reads) (Some writes) = type.Stream
end_type (Some reads) None = type.Reading
end_type None writes = type.Writing

-- the base rights that a descriptor of the open may have, and the inheriting rights
abbrev pub fits : OpenKind → ℕ
fits (kind.File node offset flags) = rights_of type.File
fits (kind.Directory node flags) = rights_of type.Directory
fits (kind.End reads writes flags form) = rights_of (end_type reads writes)
fits (kind.Terminal which flags) = stream_rights which
fits (kind.Process p object) = rights_of type.Process

abbrev pub fits_inheriting : OpenKind → ℕ
fits_inheriting (kind.Directory node flags) = inheriting_of type.Directory
fits_inheriting _ = 0

-- the descriptor's rights are among those of its open's type
abbrev pub HasRightsOf : Descriptor → OpenKind → Type 0
HasRightsOf d kind = IsTrue (has_all (fits kind) d.base.0) × IsTrue (has_all (fits_inheriting kind) d.inheriting.0)
