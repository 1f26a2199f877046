-- The calls about threads, but thread_exit, which names a lock.
use Rattle.std.specs.Prelude.{◌+◌, ◌%◌, ◌^◌, Bool, not, ◌==◌, nat_le, Result, Ok}
use Rattle.abi_base.specs.declared.errno.Errno.{Errno}
use Rattle.abi_base.specs.declared.errno.Errno.TheVariants.{Inval}
use Rattle.abi_base.specs.Registers.{Registers}
use Rattle.abi_base.specs.declared.address_space.TheConstants.{INSTRUCTION_ALIGNMENT}
use Rattle.abi_structures.specs.declared.structures.ThreadAttr.{ThreadAttr}
use Rattle.abi_types.specs.declared.call.Call.{Call}
use Rattle.abi_types.specs.declared.call.Call.TheVariants.{ThreadCreate, ThreadYield}
use Rattle.guest_memory.specs.Page.{Pages}
use Rattle.codec_arguments.specs.Arguments.{argument}
use Rattle.codec_arguments.specs.Reading.{◌>>=◌, refuse_when}
use Rattle.codec_arguments.specs.Structures.{threadattr_at}

-- the stack's end is past every address
abbrev pub stack_passes : ThreadAttr → Bool
stack_passes attributes = nat_le (2 ^ 64) (attributes.stack + attributes.stacklen)

-- no instruction stands at the entry
abbrev pub entry_misaligned : ThreadAttr → Bool
entry_misaligned attributes = not (attributes.entry % INSTRUCTION_ALIGNMENT == 0)

-- thread_create: the address of how the thread begins
abbrev pub thread_create_of : Pages → Registers → Result Call Errno
thread_create_of m r =
    threadattr_at m (argument r 0) >>= λ attributes.
    refuse_when (stack_passes attributes) Inval >>= λ _.
    refuse_when (entry_misaligned attributes) Inval >>= λ _.
    Ok (ThreadCreate attributes)

-- thread_yield: nothing
abbrev pub thread_yield_of : Call
thread_yield_of = ThreadYield
