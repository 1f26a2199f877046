-- How a call's reading goes on and how it ends: with a value, or with the error that refuses the call.
use Rattle.std.specs.Prelude.{◌≡◌, Bool, Result, Ok, Err, if◌then◌else◌}
use Rattle.abi_base.specs.declared.errno.Errno.{Errno}
use Rattle.abi_base.specs.declared.errno.Errno.TheVariants.{Fault}
use Rattle.guest_memory.specs.declared.fault.MemFault.{MemFault}
use Rattle.codec_arguments.specs.declared.fault.ArgumentFault.{ArgumentFault}
use Rattle.codec_arguments.specs.declared.fault.ArgumentFault.TheVariants as faults

-- one step of reading after another: the first error refuses the call
infixl 10 ◌>>=◌
abbrev pub ◌>>=◌ : {A B : Type 0} → Result A Errno → (A → Result B Errno) → Result B Errno
(Ok x) >>= f = f x
(Err errno) >>= f = Err errno

-- what is read of memory; memory that can't be had is FAULT
abbrev pub or_fault : {X : Type 0} → Result X MemFault → Result X Errno
or_fault (Ok x) = Ok x
or_fault (Err fault) = Err Fault

-- refused with the error where the test holds
abbrev pub refuse_when : Bool → Errno → Result (Unit {0}) Errno
refuse_when test errno = if test then Err errno else Ok tt

-- What a function returned is what the reading gives, unless memory ran out.
abbrev pub Reads : {X : Type 0} → Result X ArgumentFault → Result X Errno → Type 0
Reads (Ok x) reading = reading ≡ Ok x
Reads (Err (faults.Errno errno)) reading = reading ≡ Err errno
Reads (Err faults.NoMemory) reading = Unit {0}

-- A function returned nothing, since the host has no memory for the call's arguments.
abbrev pub LacksMemory : {X : Type 0} → Result X ArgumentFault → Type 0
LacksMemory (Ok x) = ⊥
LacksMemory (Err (faults.Errno errno)) = ⊥
LacksMemory (Err faults.NoMemory) = Unit {0}
