-- A kernel's state together with its processes' memories, registers and turns, and how an entry changes them.
use Rattle.std.specs.Prelude.{ℕ, ◌+◌, ◌-◌, ◌/◌, Bool, true, false, List, [], ◌∷◌, Option, None, Some, if◌then◌else◌}
use Rattle.std.specs.Ordering.{nat_cmp}
use Rattle.std.specs.FinMap.{FinMap, empty, get, insert, remove}
use Rattle.abi_types.specs.declared.reply.Answer.{Answer}
use Rattle.abi_types.specs.declared.reply.Answer.TheVariants as answer
use Rattle.abi_types.specs.declared.call.Call.{Call}
use Rattle.abi_types.specs.declared.call.Call.TheVariants.{ProcExec, ProcFork, ThreadCreate}
use Rattle.abi_types.specs.declared.reply.Payload.{Payload}
use Rattle.abi_types.specs.declared.reply.Payload.TheVariants.{Image}
use Rattle.abi_types.specs.declared.constants.Constants.{Constants}
use Rattle.abi_base.specs.declared.errno.Errno.{Errno}
use Rattle.abi_base.specs.declared.errno.Errno.TheVariants.{Nomem}
use Rattle.abi_base.specs.declared.signal.Signal.TheVariants.{Xcpu}
use Rattle.abi_types.specs.declared.status.Status.TheVariants.{Killed}
use Rattle.abi_types.specs.declared.thread.Stage.{Stage}
use Rattle.abi_types.specs.declared.thread.Thread.{Thread}
use Rattle.abi_types.specs.declared.thread.Thread.TheVariants.{Waits}
use Rattle.abi_types.specs.declared.wake.WakeIn.{WakeIn}
use Rattle.abi_types.specs.declared.wake.WakeIn.TheVariants as wake
use Rattle.abi_types.specs.declared.who.Who.{Who}
use Rattle.abi_base.specs.Registers.{Registers, start_registers}
use Rattle.guest_memory.specs.Page.{Pages}
use Rattle.run_types.specs.declared.history.Act.{Act}
use Rattle.run_types.specs.declared.history.Act.TheVariants as act
use Rattle.run_types.specs.declared.history.Entry.{Entry}
use Rattle.run_types.specs.declared.launch.Launch.{Launch}
use Rattle.kernel_model.specs.Deadlines.{idle_state}
use Rattle.kernel_model.specs.Start.{start_state}
use Rattle.kernel_model.specs.State.{State, thread_of}
use Rattle.kernel_model.specs.Step.{failed, step_state, end_state}
use Rattle.kernel_model.specs.Threads.{child_told, ends_caller, is_success}
use Rattle.kernel_model.specs.Waits.{resumed}
use Rattle.kernel_model.specs.Wakes.{woken}
use Rattle.rv_interp.specs.declared.turns.TurnEnd.{TurnEnd}
use Rattle.rv_interp.specs.Turns.{Turn, turn_of}
use Rattle.call_codec.specs.Processes.{child_registers, restart_pages, restart_registers}
use Rattle.call_codec.specs.Start.{canary, first_registers, start_pages, thread_registers}
use Rattle.call_codec.specs.Put.{answered_memory, answered_of}

-- a process's memory, the registers of its threads, and the turns that it has left
pub record Guest : Type 0 where
  pub memory : Pages
  pub regs : FinMap nat_cmp Registers
  pub left : ℕ

-- what stays the same for the whole run, a kernel's state, and its processes' guests
pub record World : Type 0 where
  pub constants : Constants
  pub state : State
  pub guests : FinMap nat_cmp Guest

-- ---- the start

abbrev pub first_guest : Launch → Guest
first_guest launch = record {
  memory = start_pages launch.elf launch.argdata (canary launch.constants.key 0 0) 0 1;
  regs = insert empty 1 (first_registers launch.elf.entry);
  left = launch.turns;
}

-- the world that a launch starts from: process 0 with thread 1
unfoldable pub start_world : Launch → World
start_world launch = record { constants = launch.constants; state = start_state launch.tree launch.grants launch.stdin; guests = insert empty 0 (first_guest launch) }

-- ---- a guest of a world, and its registers; what isn't there is empty

abbrev pub no_guest : Guest
no_guest = record { memory = empty; regs = empty; left = 0 }

abbrev pub or_no_guest : Option Guest → Guest
or_no_guest None = no_guest
or_no_guest (Some guest) = guest

abbrev pub guest_of : World → ℕ → Guest
guest_of w p = or_no_guest (get w.guests p)

abbrev pub or_no_registers : Option Registers → Registers
or_no_registers None = start_registers 0
or_no_registers (Some r) = r

abbrev pub registers_of : Guest → ℕ → Registers
registers_of guest t = or_no_registers (get guest.regs t)

-- the guest with a thread's registers set
abbrev pub with_registers : Guest → ℕ → Registers → Guest
with_registers guest t r = record guest { regs = insert guest.regs t r }

abbrev pub with_guest : World → ℕ → Guest → World
with_guest w p guest = record w { guests = insert w.guests p guest }

-- ---- turns

-- what a turn of the thread does
abbrev pub thread_turn : Guest → ℕ → Turn
thread_turn guest t = turn_of guest.memory (registers_of guest t)

-- a turn takes one of the process's turns and leaves its memory and its thread's registers as the machine does
abbrev pub turned_guest : Guest → ℕ → Guest
turned_guest guest t = record {
  memory = (thread_turn guest t).memory;
  regs = insert guest.regs t (thread_turn guest t).regs;
  left = guest.left - 1;
}

-- how a turn of the thread ends
abbrev pub turn_end : Guest → ℕ → TurnEnd
turn_end guest t = (thread_turn guest t).end

-- turns of these threads, one after another
abbrev pub turned_guest_by : List ℕ → Guest → Guest
turned_guest_by [] guest = guest
turned_guest_by (t ∷ ts) guest = turned_guest_by ts (turned_guest guest t)

-- turns change their own process's guest alone
abbrev pub turned : World → ℕ → List ℕ → World
turned w p ts = with_guest w p (turned_guest_by ts (guest_of w p))

-- ---- acts

-- a reply of lack of memory leaves only the clock moved, and every other reply what the call does
abbrev pub by_errno : Errno → State → State → State
by_errno Nomem lacking done = lacking
by_errno _ lacking done = done

-- the kernel's state after a call that was answered so: where its thread waits, what the call does leaves it so
unfoldable pub called_state : Constants → State → Who → Call → Answer → State
called_state constants S who call (answer.Parked writes) = step_state constants S who call
called_state constants S who call (answer.Reply reply) = by_errno reply.errno (failed S who) (step_state constants S who call)

-- The kernel's state after a wake that was answered so. Its call is done in the state in which the thread runs, with the word that its lock
-- has now; where that or the places of the call's output could not be written any more, the thread runs and nothing is done.
abbrev pub woken_state : Constants → State → Who → Call → WakeIn → Answer → State
woken_state constants S who call wake.Fault answered = failed (resumed S who) who
woken_state constants S who call (wake.Plain word) answered = called_state constants (resumed S who) who (woken call (wake.Plain word)) answered

-- the registers of threads after a call that was answered so: a thread that it made has those with which it begins
abbrev pub made_regs : FinMap nat_cmp Registers → Call → Answer → FinMap nat_cmp Registers
made_regs regs (ThreadCreate attributes) (answer.Reply reply) =
    if is_success reply.errno then insert regs reply.r1 (thread_registers attributes reply.r1) else regs
made_regs regs call given = regs

-- a thread that has ended has none
abbrev pub left_regs : Bool → ℕ → FinMap nat_cmp Registers → FinMap nat_cmp Registers
left_regs true t regs = remove regs t
left_regs false t regs = regs

-- those of the threads of a process after a call of its thread t, whose own are as the answer says
abbrev pub called_regs : FinMap nat_cmp Registers → ℕ → Call → Answer → FinMap nat_cmp Registers
called_regs regs t call given = left_regs (ends_caller call given) t (made_regs regs call given)

-- the guest after a call of its thread that was answered so
abbrev pub called_guest : Guest → ℕ → Call → Answer → Guest
called_guest guest t call given = record {
  memory = answered_memory guest.memory (registers_of guest t) call given;
  regs = called_regs (insert guest.regs t (answered_of (registers_of guest t) call given)) t call given;
  left = guest.left;
}

-- ---- another program, and children

-- the guest in which another program begins, by thread t of process p, with this argument data: no other thread has registers
abbrev pub begun_guest : Guest → ℕ → ℕ → List ℕ → Payload → Guest
begun_guest guest p t argdata (Image elf canary) = record {
  memory = restart_pages elf argdata canary p t;
  regs = insert empty t (restart_registers elf);
  left = guest.left;
}
begun_guest guest p t argdata payload = guest

-- how many of its turns a process gives to a child: a sixteenth of those that it has left
abbrev pub share : ℕ → ℕ
share left = left / 16

-- the guest without the turns that it gives to a child, if it has made one
abbrev pub less_share : Option ℕ → Guest → Guest
less_share None guest = guest
less_share (Some child) guest = record guest { left = guest.left - share guest.left }

-- The child's guest, by that of its parent whose thread t forks. Its memory is the parent's. Its thread goes on behind the ECALL as the
-- parent's does, but its results are that it has no descriptor of a child, and its own number.
abbrev pub child_guest : Guest → ℕ → Guest
child_guest guest t = record {
  memory = guest.memory;
  regs = insert empty t (child_registers (registers_of guest t) t);
  left = share guest.left;
}

abbrev pub with_child : Option ℕ → Guest → FinMap nat_cmp Guest → FinMap nat_cmp Guest
with_child None guest guests = guests
with_child (Some child) guest guests = insert guests child guest

-- the guest of process p after a call of its thread that was answered so
abbrev pub answered_guest : ℕ → Guest → ℕ → Call → Answer → Guest
answered_guest p guest t (ProcExec fd bytes fds) (answer.Reply reply) =
    if is_success reply.errno then begun_guest guest p t bytes reply.payload else called_guest guest t (ProcExec fd bytes fds) (answer.Reply reply)
answered_guest p guest t (ProcFork left) given = less_share (child_told (ProcFork left) given) (called_guest guest t (ProcFork left) given)
answered_guest p guest t call given = called_guest guest t call given

-- The world after an act of a thread. A call in which the thread waits leaves its registers, and a wake is answered as the call is that
-- its thread waits in: where the thread waits on for its lock, words are written, and its registers stay. An idle jump moves the clock alone.
abbrev pub acted : World → Who → Act → World
acted w who (act.Call call given) = record w {
  state = called_state w.constants w.state who call given;
  guests = with_child (child_told call given) (child_guest (guest_of w who.pid) who.tid)
      (insert w.guests who.pid (answered_guest who.pid (guest_of w who.pid) who.tid call given));
}
acted w who (act.Wake call given answered) = record w {
  state = woken_state w.constants w.state who call given answered;
  guests = insert w.guests who.pid (called_guest (guest_of w who.pid) who.tid call answered);
}
acted w who (act.Trap signal) = record w { state = end_state w.state who.pid (Killed signal) }
acted w who act.Expire = record w { state = end_state w.state who.pid (Killed Xcpu) }
acted w who act.Idle = record w { state = idle_state w.state }

-- the moment at which the call was made that a thread waits in; where it waits in none, this moment
abbrev pub made_since : ℕ → Option Thread → ℕ
made_since now (Some (Waits call since until stage)) = since
made_since now _ = now

-- how far the wait of a thread has come; where it doesn't wait there is nothing to say
abbrev pub come_to : Option Thread → Option Stage
come_to (Some (Waits call since until stage)) = Some stage
come_to _ = None

-- A thread of a process that does an act in this state: where it waits, its call was made when it says, and its wait has come as far as it
-- says; where it doesn't, its call is made at the moment after this entry's 1000 nanoseconds.
abbrev pub thread_at : State → ℕ → ℕ → Who
thread_at S p t = record {
  pid = p;
  tid = t;
  since = made_since (S.clock + 1000) (thread_of S p t);
  stage = come_to (thread_of S p t);
}

-- who an entry is of
abbrev pub who_of : State → Entry → Who
who_of S e = thread_at S e.pid e.tid

-- the world after an entry: its turns, and then its act
unfoldable pub apply : World → Entry → World
apply w e = acted (turned w e.pid e.turns) (who_of w.state e) e.act

-- the world after these entries, one after another
unfoldable pub apply_all : World → List Entry → World
apply_all w [] = w
apply_all w (e ∷ es) = apply_all (apply w e) es

-- the world of a launch and a history
unfoldable pub world : Launch → List Entry → World
world launch history = apply_all (start_world launch) history
