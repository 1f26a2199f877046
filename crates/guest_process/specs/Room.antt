-- The room for the answer to a call, in a guest.
use Rattle.std.specs.Prelude.{◌≡◌, ◌≢◌, ◌⊎◌, ℕ, Option, None, Some, IsSome}
use Rattle.std.specs.Ordering.{nat_cmp}
use Rattle.std.specs.FinMap.{FinMap, get, insert, remove}
use Rattle.abi_base.specs.Registers.{Registers}
use Rattle.abi_types.specs.declared.call.Call.{Call}
use Rattle.abi_types.specs.declared.call.Call.TheVariants.{ThreadCreate}
use Rattle.call_codec.specs.Put.{IsRoomFor, TakesRoom}
use Rattle.call_codec.specs.Start.{thread_registers}
use Rattle.guest_memory.specs.Room.{without_each}
use Rattle.run_model.specs.World.{Guest}
use Rattle.guest_process.specs.declared.guest.GuestRoom.{GuestRoom}
use Rattle.guest_process.specs.declared.guest.NewThread.{NewThread}

-- ---- the thread that a call may make

-- what stands at a number, where something does
abbrev pub put_back : FinMap nat_cmp Registers → ℕ → Option Registers → FinMap nat_cmp Registers
put_back regs t None = remove regs t
put_back regs t (Some r) = insert regs t r

-- the registers as they were before the thread had some
abbrev pub without_thread : Option NewThread → FinMap nat_cmp Registers → FinMap nat_cmp Registers
without_thread None regs = regs
without_thread (Some new) regs = put_back regs new.tid new.before

-- the call may make a thread
abbrev pub IsCreate : Call → Type 0
IsCreate (ThreadCreate attributes) = Unit {0}
IsCreate other = ⊥

-- the thread has the registers with which it begins, at this number
abbrev pub Begins : Call → ℕ → FinMap nat_cmp Registers → Type 0
Begins (ThreadCreate attributes) t regs = get regs t ≡ Some (thread_registers attributes t)
Begins other t regs = ⊥

-- it is the room for the thread that the call may make, and there is none for other calls
abbrev pub HasThreadFor : Call → Option NewThread → FinMap nat_cmp Registers → Type 0
HasThreadFor call None regs = IsCreate call → ⊥
HasThreadFor call (Some new) regs = Begins call new.tid regs

-- the thread that there is room for, if there is one, has this number
abbrev pub HasNumber : ℕ → Option NewThread → Type 0
HasNumber t None = Unit {0}
HasNumber t (Some new) = new.tid ≡ t

-- it has registers
abbrev pub HasRegisters : Option NewThread → FinMap nat_cmp Registers → Type 0
HasRegisters None regs = Unit {0}
HasRegisters (Some new) regs = IsSome (get regs new.tid)

-- it has not this number
abbrev pub HasOther : ℕ → Option NewThread → Type 0
HasOther t None = Unit {0}
HasOther t (Some new) = t ≢ new.tid

-- ---- the room

-- the guest without this room
abbrev pub without_room : GuestRoom → Guest → Guest
without_room room guest = record guest { memory = without_each room.pages guest.memory; regs = without_thread room.thread guest.regs }

-- the guest has this room for the answer to the call
pub record HasRoomFor (call : Call) (room : GuestRoom) (guest : Guest) : Type 0 where
  pub pages : IsRoomFor call room.pages guest.memory
  pub thread : HasThreadFor call room.thread guest.regs

-- the call needs room
abbrev pub TakesMemory : Call → Type 0
TakesMemory call = TakesRoom call ⊎ IsCreate call
