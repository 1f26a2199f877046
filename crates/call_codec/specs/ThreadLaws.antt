-- What holds of a thread that is made: its registers are those that its maker asked for, and an instruction can stand at its entry.
use Rattle.std.specs.Prelude.{◌≡◌, ℕ, ◌+◌, ◌%◌, slice_index}
use Rattle.abi_base.specs.Registers.{Registers}
use Rattle.abi_base.specs.declared.address_space.TheConstants.{INSTRUCTION_ALIGNMENT}
use Rattle.abi_structures.specs.declared.structures.ThreadAttr.{ThreadAttr}
use Rattle.abi_types.specs.declared.call.Call.TheVariants.{ThreadCreate}
use Rattle.guest_memory.specs.Page.{Pages}
use Rattle.call_codec.specs.Arguments.{args_of}
use Rattle.call_codec.specs.Start.{thread_registers}

-- The registers of a thread that was asked for with these attributes: the pc at its entry, which is a multiple of 4, sp at its stack's
-- end, its number in a0, its argument in a1, and 0 in each other register.
pub record IsNewThread (attributes : ThreadAttr) (tid : ℕ) (r : Registers) : Type 0 where
  pub entry : r.pc ≡ attributes.entry
  pub aligned : r.pc % INSTRUCTION_ALIGNMENT ≡ 0
  pub stack : slice_index r.x 2 ≡ attributes.stack + attributes.stacklen
  pub number : slice_index r.x 10 ≡ tid
  pub argument : slice_index r.x 11 ≡ attributes.argument
  pub others : (n : ℕ) → (n ≡ 2 → ⊥) → (n ≡ 10 → ⊥) → (n ≡ 11 → ⊥) → slice_index r.x n ≡ 0

abbrev pub ThreadStarts : Type 0
ThreadStarts =
    (m : Pages) (r : Registers) (left : ℕ) (attributes : ThreadAttr) (tid : ℕ) → args_of m r left ≡ ThreadCreate attributes
    → IsNewThread attributes tid (thread_registers attributes tid)
