-- What a thread asks the locked kernel for, and which acts answer that.
use Rattle.std.specs.Prelude.{◌≡◌, ℕ, List, IsSome}
use Rattle.std.specs.FinMap.{get}
use Rattle.abi_types.specs.declared.reply.Answer.{Answer}
use Rattle.abi_types.specs.declared.call.Call.{Call}
use Rattle.abi_types.specs.declared.call.Call.TheVariants.{ProcFork}
use Rattle.abi_types.specs.declared.thread.Thread.{Thread}
use Rattle.abi_types.specs.declared.wake.WakeIn.{WakeIn}
use Rattle.run_types.specs.declared.history.Act.{Act}
use Rattle.run_types.specs.declared.history.Act.TheVariants as act
use Rattle.kernel_model.specs.Waits.{IsParked}
use Rattle.kernel_model.specs.Wakes.{HasThread}
use Rattle.run_model.specs.Legal.{AreWhole, Asks as AsksAct}
use Rattle.run_model.specs.World.{World, Guest, guest_of, thread_at, turned_guest_by}
use Rattle.kernel_cell.specs.Results.{act_of}
use Rattle.kernel_cell.specs.declared.results.Asked.{Asked}
use Rattle.kernel_cell.specs.declared.results.Asked.TheVariants as asked
use Rattle.kernel_cell.specs.declared.results.Body.{Body}
use Rattle.kernel_cell.specs.declared.results.EndBy.{EndBy}

-- what thread t of process p asks for by an act, after these turns of the process
abbrev pub AsksFor : World → ℕ → ℕ → List ℕ → Act → Type 0
AsksFor w p t turns a = AsksAct w.state (thread_at w.state p t) (guest_of w p) turns a

-- The guest is the process's as the world has it after these turns, the thread's registers are there, and the call is the one that
-- the thread asks for by them.
pub record AsksCall (w : World) (p t : ℕ) (turns : List ℕ) (guest : Guest) (call : Call) : Type 0 where
  pub guest_is : guest ≡ turned_guest_by turns (guest_of w p)
  pub registers : IsSome (get guest.regs t)
  pub asks : (given : Answer) → AsksFor w p t turns (act.Call call given)

-- the call makes no child, whatever it is answered
abbrev pub HasNoChild : Call → Type 0
HasNoChild (ProcFork left) = ⊥
HasNoChild call = Unit {0}

-- the process has this thread, and it waits in a call
pub record Waiting (w : World) (p t : ℕ) : Type 0 where
  pub thread : Thread
  pub there : HasThread w.state p t thread
  pub waits : IsParked thread

-- The guest is the process's as the world has it after these turns, which are whole, the thread's registers are there, and the thread
-- waits in a call.
pub record AsksWake (w : World) (p t : ℕ) (turns : List ℕ) (guest : Guest) : Type 0 where
  pub guest_is : guest ≡ turned_guest_by turns (guest_of w p)
  pub registers : IsSome (get guest.regs t)
  pub whole : AreWhole w.state p (guest_of w p) turns
  pub waits : Waiting w p t

abbrev pub AsksEnd : World → ℕ → ℕ → List ℕ → EndBy → Type 0
AsksEnd w p t turns how = AsksFor w p t turns (act_of how)

-- thread t of process p, which has this body, asks for that
abbrev pub Asks : World → ℕ → ℕ → Body → Asked → Type 0
Asks w p t body (asked.Calls call) = AsksCall w p t body.turns body.guest call × HasNoChild call
Asks w p t body asked.Wakes = AsksWake w p t body.turns body.guest
Asks w p t body (asked.Ends how) = AsksEnd w p t body.turns how

-- the act answers what was asked for
abbrev pub Answers : Asked → Act → Type 0
Answers (asked.Calls call) a = (given : Answer) × (a ≡ act.Call call given)
Answers asked.Wakes a = (call : Call) × (given : WakeIn) × (answered : Answer) × (a ≡ act.Wake call given answered)
Answers (asked.Ends how) a = a ≡ act_of how

-- it is a wake
abbrev pub IsWake : Asked → Type 0
IsWake asked.Wakes = Unit {0}
IsWake what = ⊥
