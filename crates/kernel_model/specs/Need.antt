-- The refusals for lack of a descriptor or of rights. They come before what a call does, and are the same for all calls.
use Rattle.std.specs.Prelude.{ℕ, ◌==◌, ◌&&◌, ◌||◌, not, Bool, false, List, [], ◌∷◌, Option, None, Some, if◌then◌else◌}
use Rattle.std.specs.FinMap.{get, contains_key}
use Rattle.abi_types.specs.declared.reply.Reply.{Reply}
use Rattle.abi_types.specs.declared.descriptor.Denial.{Denial}
use Rattle.abi_types.specs.declared.descriptor.Denial.TheVariants.{Missing}
use Rattle.abi_types.specs.declared.descriptor.Descriptor.{Descriptor}
use Rattle.abi_base.specs.declared.errno.Errno.TheVariants.{Badf}
use Rattle.abi_types.specs.declared.needed.Needed.{Needed}
use Rattle.abi_base.specs.declared.rights.Rights.{Rights}
use Rattle.abi_base.specs.Rights.{minus_of, has_all}
use Rattle.kernel_model.specs.Reply.{refused, denied}
use Rattle.kernel_model.specs.State.{Table}

-- whether the descriptor has rights that stand for the base rights that are needed
abbrev pub has_instead : Descriptor → Needed → Bool
has_instead d row = not (row.instead.0 == 0) && has_all d.base.0 row.instead.0

-- the base rights and the inheriting rights that are needed and that the descriptor lacks
abbrev pub lack_base : Descriptor → Needed → Rights
lack_base d row = record { 0 = if has_instead d row then 0 else minus_of row.base.0 d.base.0 }

abbrev pub lack_inheriting : Descriptor → Needed → Rights
lack_inheriting d row = record { 0 = minus_of row.inheriting.0 d.inheriting.0 }

-- whether the descriptor has all that is needed of it
abbrev pub has_needed : Descriptor → Needed → Bool
has_needed d row = ((lack_base d row).0 == 0) && ((lack_inheriting d row).0 == 0)

-- exactly the rights that are missing
abbrev pub missing : Descriptor → Needed → Denial
missing d row = Missing row.fd (lack_base d row) (lack_inheriting d row)

-- whether some of these descriptors is absent
abbrev pub some_absent : Table → List ℕ → Bool
some_absent table [] = false
some_absent table (fd ∷ fds) = not (contains_key table fd) || some_absent table fds

-- the denial of one descriptor, if it lacks a right
abbrev pub lack_at : Option Descriptor → Needed → Option Denial
lack_at None row = None
lack_at (Some d) row = if has_needed d row then None else Some (missing d row)

-- the denial of the first descriptor that lacks a right
abbrev pub either_lack : Option Denial → Option Denial → Option Denial
either_lack (Some denial) rest = Some denial
either_lack None rest = rest

abbrev pub first_lack : Table → List Needed → Option Denial
first_lack table [] = None
first_lack table (row ∷ rows) = either_lack (lack_at (get table row.fd) row) (first_lack table rows)

abbrev pub denied_by : Option Denial → Option Reply
denied_by None = None
denied_by (Some denial) = Some (denied denial)

-- the refusal for lack of one of the descriptors that are named, and where all are there for lack of rights
abbrev pub refusal : Table → List ℕ → List Needed → Option Reply
refusal table named rows = if some_absent table named then Some (refused Badf) else denied_by (first_lack table rows)
