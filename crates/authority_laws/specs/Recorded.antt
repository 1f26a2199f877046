-- The ledger of a launch and a history, carried forward from entry to entry. It is read from the launch and the recorded
-- entries, and of the state after an entry only which opens its process made last and who is live: no table comes in.
use Rattle.std.specs.Prelude.{◌≡◌, ◌⊎◌, ℕ, List, [], ◌∷◌, ◌++◌, Option, None}
use Rattle.abi_base.specs.declared.errno.Errno.TheVariants.{Success}
use Rattle.abi_types.specs.declared.call.Call.{Call}
use Rattle.abi_types.specs.declared.reply.Answer.TheVariants as answer
use Rattle.abi_types.specs.declared.reply.Reply.{Reply}
use Rattle.abi_types.specs.declared.wake.WakeIn.{WakeIn}
use Rattle.run_types.specs.declared.history.Act.{Act}
use Rattle.run_types.specs.declared.history.Act.TheVariants as act
use Rattle.run_types.specs.declared.history.Entry.{Entry}
use Rattle.run_types.specs.declared.launch.Launch.{Launch}
use Rattle.run_model.specs.World.{World, apply, start_world, world}
use Rattle.authority_laws.specs.Ledger.{Row, no_row, Sends, Ledger, After, after_of, with_row, with_sends, with_child, of_live, launch_ledger, answered_row, answered_sends, answered_child}

-- What a process holds after an act of its thread: a wake is answered as its call is, a process that ended holds nothing, and an
-- idle jump leaves what each process held.
abbrev pub acted_row : After → Row → Act → Row
acted_row after row (act.Call call given) = answered_row after row call given
acted_row after row (act.Wake call given answered) = answered_row after row call answered
acted_row after row (act.Trap signal) = no_row
acted_row after row act.Expire = no_row
acted_row after row act.Idle = row

-- the process that an act made: a wake is answered as its call is
abbrev pub acted_child : After → Act → Option ℕ
acted_child after (act.Call call given) = answered_child after call given
acted_child after (act.Wake call given answered) = answered_child after call answered
acted_child after _ = None

-- what the sends carried after an act of a process that held this before: a wake is answered as its call is
abbrev pub acted_sends : After → Row → Sends → Act → Sends
acted_sends after row sent (act.Call call given) = answered_sends after row sent call given
acted_sends after row sent (act.Wake call given answered) = answered_sends after row sent call answered
acted_sends after row sent _ = sent

-- The ledger after an entry, by what the state after it shows: the entry's process holds what its act leaves it, and the process
-- that it made holds what the entry's process held before it. Who isn't live after it holds nothing. What was sent stays as it was.
abbrev pub noted : After → Ledger → Entry → Ledger
noted after l e =
    with_sends
    (of_live after.live (with_row (with_child (acted_child after e.act) (l.held e.pid) l) e.pid (acted_row after (l.held e.pid) e.act)))
    (acted_sends after (l.held e.pid) l.sent e.act)

-- what the worlds before and after an entry show
abbrev pub after_in : World → World → Entry → After
after_in before w e = after_of before.state w.state e.pid

-- the ledger after these entries, one after another from this world on
unfoldable pub noted_all : World → Ledger → List Entry → Ledger
noted_all w l [] = l
noted_all w l (e ∷ es) = noted_all (apply w e) (noted (after_in w (apply w e) e) l e) es

-- the ledger of a launch and a history
unfoldable pub ledger : Launch → List Entry → Ledger
ledger launch history = noted_all (start_world launch) (launch_ledger launch.tree launch.grants) history

-- ---- at one entry, behind these in front of it

-- what the worlds before and after it show
abbrev pub after_at : Launch → List Entry → Entry → After
after_at launch front e = after_in (world launch front) (world launch (front ++ e ∷ [])) e

-- the process that the entry made
abbrev pub child_at : Launch → List Entry → Entry → Option ℕ
child_at launch front e = acted_child (after_at launch front e) e.act

-- what the entry's process holds before it
abbrev pub held_before : Launch → List Entry → Entry → Row
held_before launch front e = (ledger launch front).held e.pid

-- what the entry's process holds after it
abbrev pub held_after : Launch → List Entry → Entry → Row
held_after launch front e = (ledger launch (front ++ e ∷ [])).held e.pid

-- the act is this call, which has this reply, or the wake of a thread that waited in it
abbrev pub Answers : Act → Call → Reply → Type 0
Answers a call reply = (a ≡ act.Call call (answer.Reply reply)) ⊎ ((given : WakeIn) × (a ≡ act.Wake call given (answer.Reply reply)))

abbrev pub Replies : Entry → Call → Reply → Type 0
Replies e call reply = Answers e.act call reply

-- the entry is this call, at once or after its thread waited in it, which succeeded with this reply
pub record Succeeds (e : Entry) (call : Call) (reply : Reply) : Type 0 where
  pub is : Replies e call reply
  pub success : reply.errno ≡ Success
