-- What a process goes on with after proc_exec, and what a child begins with.
use Rattle.std.specs.Prelude.{◌≡◌, ◌≢◌, ◌≤◌, ℕ, ◌+◌, ◌%◌, ◌^◌, false, List, length, slice_index}
use Rattle.abi_base.specs.declared.errno.Errno.TheVariants.{Success}
use Rattle.abi_base.specs.declared.limits.TheConstants.{MOST_ARGDATA}
use Rattle.abi_base.specs.Registers.{Registers, with_pc, with_x}
use Rattle.abi_types.specs.declared.call.Call.TheVariants.{ProcExec, ProcFork, ProcRaise}
use Rattle.abi_types.specs.declared.reply.Reply.{Reply}
use Rattle.codec_calls.specs.ProcessCalls.{is_stop}
use Rattle.codec_calls.specs.declared.process_calls.TheConstants.{MOST_EXEC_DESCRIPTORS}
use Rattle.elf_image.specs.Faults.{HasNoFault}
use Rattle.elf_image.specs.Image.{image}
use Rattle.guest_memory.specs.Page.{Pages}
use Rattle.call_codec.specs.Arguments.{args_of}
use Rattle.call_codec.specs.Put.{put_of}
use Rattle.call_codec.specs.Start.{first_registers, start_pages}

-- ---- another program

-- a program, argument data and a canary that a process can go on with
pub record MayRestart (program argdata canary : List ℕ) : Type 0 where
  pub whole : HasNoFault program
  pub short : length argdata ≤ MOST_ARGDATA
  pub random : length canary ≡ 64

-- the memory that process p, in which thread t goes on, has after it: that of a start with the program's image
abbrev pub restart_pages : List ℕ → List ℕ → List ℕ → ℕ → ℕ → Pages
restart_pages program argdata canary p t = start_pages (image program) argdata canary p t

-- the registers of the thread: those of a first thread
abbrev pub restart_registers : List ℕ → Registers
restart_registers program = first_registers (image program).entry

-- ---- a child

-- what a child has in place of a descriptor of itself
abbrev pub no_descriptor : ℕ
no_descriptor = 0xffffffff

-- The registers of a child's thread t, which is a copy of the parent's that has these registers as it stands at the ECALL. It goes on
-- behind that, with SUCCESS in a0, no descriptor in a1, and its number in a2.
abbrev pub child_registers : Registers → ℕ → Registers
child_registers r t = with_pc (with_x (with_x (with_x r 10 0) 11 no_descriptor) 12 t) ((r.pc + 4) % 2 ^ 64)

-- A child's thread and its parent's, which go on from the same registers, are in the same place and have the same registers but for a1
-- and a2. In these the child has what tells it that it is the child, and its thread's number.
pub record GoesOnAsChild (t : ℕ) (child parent : Registers) : Type 0 where
  pub place : child.pc ≡ parent.pc
  pub descriptor : slice_index child.x 11 ≡ no_descriptor
  pub number : slice_index child.x 12 ≡ t
  pub others : (n : ℕ) → n ≢ 11 → n ≢ 12 → slice_index child.x n ≡ slice_index parent.x n

abbrev pub ChildGoesOn : Type 0
ChildGoesOn =
    (r : Registers) (left t : ℕ) (reply : Reply) → length r.x ≡ 32 → reply.errno ≡ Success
    → GoesOnAsChild t (child_registers r t) (put_of r (ProcFork left) reply)

-- ---- what the calls are that are encoded

-- A fork is asked for with as many turns as the process has left.
abbrev pub ForkHasTurns : Type 0
ForkHasTurns = (m : Pages) (r : Registers) (left turns : ℕ) → args_of m r left ≡ ProcFork turns → turns ≡ left

-- A program is asked for with argument data and descriptors that are not too many.
abbrev pub ExecIsBounded : Type 0
ExecIsBounded =
    (m : Pages) (r : Registers) (left fd : ℕ) (argdata fds : List ℕ) → args_of m r left ≡ ProcExec fd argdata fds
    → (length argdata ≤ MOST_ARGDATA) × (length fds ≤ MOST_EXEC_DESCRIPTORS)

-- A signal that is raised is one that there is, and none that stops a process.
abbrev pub RaisedIsSignal : Type 0
RaisedIsSignal =
    (m : Pages) (r : Registers) (left signal : ℕ) → args_of m r left ≡ ProcRaise signal
    → (1 ≤ signal) × (signal ≤ 26) × (is_stop signal ≡ false)
