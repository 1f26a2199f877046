-- Rows of rights: what a call needs of one descriptor.
use Rattle.std.specs.Prelude.{ℕ, ◌==◌, bit_and, bit_or, if◌then◌else◌}
use Rattle.abi_base.specs.declared.rights.Rights.{Rights}
use Rattle.abi_base.specs.declared.rights.TheConstants.Rights.{NONE}
use Rattle.abi_types.specs.declared.needed.Needed.{Needed}

-- these base rights of the descriptor
abbrev pub base_row : ℕ → Rights → Needed
base_row fd base = record { fd = fd; base = base; inheriting = NONE; instead = NONE }

-- these base rights of the descriptor, and these of its inheriting rights
abbrev pub asking_row : ℕ → Rights → Rights → Needed
asking_row fd base inheriting = record { fd = fd; base = base; inheriting = inheriting; instead = NONE }

-- the first base rights of the descriptor, for which the second may stand
abbrev pub either_row : ℕ → Rights → Rights → Needed
either_row fd base instead = record { fd = fd; base = base; inheriting = NONE; instead = instead }

-- the rights of both sets
abbrev pub both : Rights → Rights → Rights
both this that = record { 0 = bit_or this.0 that.0 }

-- the rights, where the flags have one of these bits
abbrev pub where_set : ℕ → ℕ → Rights → Rights
where_set flags bits rights = if bit_and flags bits == 0 then NONE else rights
