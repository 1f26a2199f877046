use Rattle.std.specs.Prelude.{Bool}
use Rattle.abi_base.specs.declared.prot.Prot.{Prot}
use Rattle.guest_memory.specs.declared.access.Access.{Access}
use Rattle.guest_memory.specs.declared.access.Access.TheVariants.{Read, Write, Exec}

-- whether a page's rights allow an access
abbrev pub allows : Prot → Access → Bool
allows p Read = p.read
allows p Write = p.write
allows p Exec = p.exec
