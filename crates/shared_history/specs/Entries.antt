-- The entries that the kernel's calls make.
use Rattle.std.specs.Prelude.{ℕ, List, [], Option, None, Some}
use Rattle.abi_types.specs.declared.reply.Answer.{Answer}
use Rattle.abi_types.specs.declared.call.Call.{Call}
use Rattle.abi_types.specs.declared.wake.WakeIn.{WakeIn}
use Rattle.run_types.specs.declared.history.Act.{Act}
use Rattle.run_types.specs.declared.history.Act.TheVariants as act
use Rattle.run_types.specs.declared.history.Entry.{Entry}
use Rattle.shared_history.specs.declared.entries.EntryHead.{EntryHead}

-- the head of an entry of thread t of process p up to this moment, after these turns
abbrev pub head_of : ℕ → ℕ → ℕ → List ℕ → EntryHead
head_of moment p t turns = record { moment = moment; pid = p; tid = t; turns = turns }

-- the entry with this head and this act
abbrev pub entry_of : EntryHead → Act → Entry
entry_of head a = record { moment = head.moment; pid = head.pid; tid = head.tid; turns = head.turns; act = a }

-- the act by which a thread's call is answered so: the call itself, or the wake of a thread that waited in it, which was given this
abbrev pub act_of : Call → Option WakeIn → Answer → Act
act_of call None answered = act.Call call answered
act_of call (Some given) answered = act.Wake call given answered

-- the entry of such an act
abbrev pub answered_call : EntryHead → Call → Option WakeIn → Answer → Entry
answered_call head call given answered = entry_of head (act_of call given answered)

-- the entry of an idle jump, which is no process's
abbrev pub idled : ℕ → Entry
idled moment = entry_of (head_of moment 0 0 []) act.Idle
