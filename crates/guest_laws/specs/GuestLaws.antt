-- What a child, its parent and a program that begins have of memory, registers and turns, and when acts are due: the statements that are the
-- contracts of the functions of src/laws.rt.
use Rattle.std.specs.Prelude.{◌≡◌, ◌≢◌, ℕ, ◌+◌, ◌*◌, ◌<◌, ◌≤◌, true, false, Contains, List, [], ◌∷◌, ◌++◌, length, None, Some}
use Rattle.std.specs.FinMap.{get}
use Rattle.std.specs.List.{AllByRecursion}
use Rattle.abi_base.specs.declared.signal.Signal.{Signal}
use Rattle.abi_types.specs.declared.call.Call.{Call}
use Rattle.abi_base.specs.declared.errno.Errno.TheVariants.{Success}
use Rattle.abi_types.specs.declared.call.Call.TheVariants.{ProcExec}
use Rattle.abi_types.specs.declared.reply.Answer.{Answer}
use Rattle.abi_types.specs.declared.reply.Answer.TheVariants as answer
use Rattle.abi_types.specs.declared.reply.Reply.{Reply}
use Rattle.abi_types.specs.declared.reply.Payload.TheVariants.{Image}
use Rattle.abi_types.specs.declared.thread.Thread.{Thread}
use Rattle.abi_types.specs.declared.thread.Thread.TheVariants.{Runnable}
use Rattle.abi_types.specs.declared.wake.WakeIn.{WakeIn}
use Rattle.call_codec.specs.Processes.{child_registers}
use Rattle.call_codec.specs.Start.{first_registers, start_pages}
use Rattle.elf_image.specs.Image.{image}
use Rattle.kernel_model.specs.State.{thread_of}
use Rattle.kernel_model.specs.Valid.{IsValid}
use Rattle.kernel_model.specs.Waits.{IsParked}
use Rattle.kernel_model.specs.Wakes.{is_ready}
use Rattle.run_types.specs.declared.history.Act.TheVariants as act
use Rattle.run_types.specs.declared.history.Entry.{Entry}
use Rattle.rv_interp.specs.declared.turns.TurnEnd.{TurnEnd}
use Rattle.rv_interp.specs.declared.turns.TurnEnd.TheVariants.{Ecall, Quantum, Trap}
use Rattle.run_model.specs.Legal.{Fits}
use Rattle.run_model.specs.Own.{born, IsLiveIn}
use Rattle.run_model.specs.World.{World, Guest, apply, begun_guest, child_guest, guest_of, less_share, registers_of, turn_end, turned, turned_guest_by}

-- ---- what guests begin with

-- A child has its parent's memory, the thread that forked alone, which goes on as that does, and a sixteenth of the turns that its parent had left; the
-- parent has the others, and its memory and its threads.
pub record ChildIsCopied : Type 0 where
  pub memory : (guest : Guest) (t : ℕ) → (child_guest guest t).memory ≡ guest.memory
  pub thread : (guest : Guest) (t : ℕ) → get (child_guest guest t).regs t ≡ Some (child_registers (registers_of guest t) t)
  pub alone : (guest : Guest) (t u : ℕ) → u ≢ t → get (child_guest guest t).regs u ≡ None
  pub least : (guest : Guest) (t : ℕ) → 16 * (child_guest guest t).left ≤ guest.left
  pub most : (guest : Guest) (t : ℕ) → guest.left < 16 * ((child_guest guest t).left + 1)
  pub given : (guest : Guest) (t child : ℕ) → (less_share (Some child) guest).left + (child_guest guest t).left ≡ guest.left
  pub kept : (guest : Guest) (child : ℕ) → (less_share (Some child) guest).memory ≡ guest.memory
  pub threads : (guest : Guest) (child : ℕ) → (less_share (Some child) guest).regs ≡ guest.regs
  -- where no child was made the parent has all that it had
  pub none : (guest : Guest) → less_share None guest ≡ guest

-- A program that begins has the memory of its start with its own image, its argument data and its canary, and no thread but the one that goes on, at
-- its entry; nothing of the program before it is left but the turns.
pub record ProgramIsFresh : Type 0 where
  pub memory : (guest : Guest) (p t : ℕ) (argdata elf canary : List ℕ)
      → (begun_guest guest p t argdata (Image elf canary)).memory ≡ start_pages (image elf) argdata canary p t
  pub thread : (guest : Guest) (p t : ℕ) (argdata elf canary : List ℕ)
      → get (begun_guest guest p t argdata (Image elf canary)).regs t ≡ Some (first_registers (image elf).entry)
  pub alone : (guest : Guest) (p t u : ℕ) (argdata elf canary : List ℕ) → u ≢ t
      → get (begun_guest guest p t argdata (Image elf canary)).regs u ≡ None
  pub turns : (guest : Guest) (p t : ℕ) (argdata elf canary : List ℕ) → (begun_guest guest p t argdata (Image elf canary)).left ≡ guest.left

-- So it is at an entry that makes process q: that has all memory which the entry's process had at the ECALL, the registers of the thread that forked
-- alone, and a sixteenth of the turns; the entry's process has the others.
pub record IsForkedOff (w : World) (e : Entry) (q : ℕ) : Type 0 where
  pub memory : (guest_of (apply w e) q).memory ≡ (guest_of (turned w e.pid e.turns) e.pid).memory
  pub thread : get (guest_of (apply w e) q).regs e.tid ≡ Some (child_registers (registers_of (guest_of (turned w e.pid e.turns) e.pid) e.tid) e.tid)
  pub alone : (u : ℕ) → u ≢ e.tid → get (guest_of (apply w e) q).regs u ≡ None
  pub least : 16 * (guest_of (apply w e) q).left ≤ (guest_of (turned w e.pid e.turns) e.pid).left
  pub most : (guest_of (turned w e.pid e.turns) e.pid).left < 16 * ((guest_of (apply w e) q).left + 1)
  pub others : (guest_of (apply w e) q).left + (guest_of (apply w e) e.pid).left ≡ (guest_of (turned w e.pid e.turns) e.pid).left

abbrev pub ForksSplit : Type 0
ForksSplit = (w : World) (e : Entry) (q : ℕ) → IsValid w.state → Fits w e → Contains (born e.act) q → IsForkedOff w e q

-- And so it is at an entry by which another program begins in its process, with these argument data and this canary.
pub record IsFreshAfter (w : World) (e : Entry) (argdata elf canary : List ℕ) : Type 0 where
  pub memory : (guest_of (apply w e) e.pid).memory ≡ start_pages (image elf) argdata canary e.pid e.tid
  pub thread : get (guest_of (apply w e) e.pid).regs e.tid ≡ Some (first_registers (image elf).entry)
  pub alone : (u : ℕ) → u ≢ e.tid → get (guest_of (apply w e) e.pid).regs u ≡ None
  pub turns : (guest_of (apply w e) e.pid).left ≡ (guest_of (turned w e.pid e.turns) e.pid).left

abbrev pub ProgramsStartFresh : Type 0
ProgramsStartFresh =
    (w : World) (e : Entry) (fd : ℕ) (argdata fds : List ℕ) (reply : Reply) (elf canary : List ℕ) → Fits w e
    → e.act ≡ act.Call (ProcExec fd argdata fds) (answer.Reply reply) → reply.errno ≡ Success → reply.payload ≡ Image elf canary
    → IsLiveIn (apply w e) e.pid → IsFreshAfter w e argdata elf canary

-- ---- when acts are due

-- the last turn of the entry was its own thread's, and ended so
abbrev pub TookLastTurn : World → Entry → TurnEnd → Type 0
TookLastTurn w e end =
    (front : List ℕ) × (e.turns ≡ front ++ e.tid ∷ []) × (turn_end (turned_guest_by front (guest_of w e.pid)) e.tid ≡ end)

-- the turn of thread t, behind these of the entry, did all instructions that a turn has: it asked for nothing
abbrev pub IsQuiet : World → Entry → List ℕ → ℕ → Type 0
IsQuiet w e front t = turn_end (turned_guest_by front (guest_of w e.pid)) t ≡ Quantum

-- so did each of the entry's turns
abbrev pub AllQuiet : World → Entry → Type 0
AllQuiet w e = (front : List ℕ) (t : ℕ) (rest : List ℕ) → e.turns ≡ front ++ t ∷ rest → IsQuiet w e front t

-- Turns are of threads that run, and each was one that the process had left. No turn asks for anything but the last one of a call and of a trap, which is of
-- the entry's thread. A process expires where a thread of it runs and no turn is left. A thread wakes where it is ready. An idle jump is of process 0 and
-- thread 0, which stand for none, and takes no turns; no thread runs before it, and none is ready.
pub record ActsAreDue : Type 0 where
  pub turns : (w : World) (e : Entry) → Fits w e → AllByRecursion (λ t. thread_of w.state e.pid t ≡ Some Runnable) e.turns
  pub left : (w : World) (e : Entry) → Fits w e
      → length e.turns + (guest_of (turned w e.pid e.turns) e.pid).left ≡ (guest_of w e.pid).left
  pub quiet : (w : World) (e : Entry) (front : List ℕ) (t u : ℕ) (rest : List ℕ) → Fits w e → e.turns ≡ front ++ t ∷ u ∷ rest → IsQuiet w e front t
  pub call : (w : World) (e : Entry) (call : Call) (given : Answer) → Fits w e → e.act ≡ act.Call call given → TookLastTurn w e Ecall
  pub trap : (w : World) (e : Entry) (signal : Signal) → Fits w e → e.act ≡ act.Trap signal → TookLastTurn w e (Trap signal)
  pub expiry : (w : World) (e : Entry) → Fits w e → e.act ≡ act.Expire
      → AllQuiet w e × ((guest_of (turned w e.pid e.turns) e.pid).left ≡ 0) × (thread_of w.state e.pid e.tid ≡ Some Runnable)
  pub wake : (w : World) (e : Entry) (call : Call) (given : WakeIn) (answered : Answer) → Fits w e → e.act ≡ act.Wake call given answered
      → AllQuiet w e × (is_ready w.constants w.state e.pid e.tid ≡ true)
  pub idle : (w : World) (e : Entry) → Fits w e → e.act ≡ act.Idle → (e.pid ≡ 0) × (e.tid ≡ 0) × (e.turns ≡ [])
  pub waits : (w : World) (e : Entry) (p t : ℕ) (thread : Thread) → Fits w e → e.act ≡ act.Idle → thread_of w.state p t ≡ Some thread
      → IsParked thread × (is_ready w.constants w.state p t ≡ false)
