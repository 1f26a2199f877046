-- The lines of a report on the entries of a history.
use Rattle.std.specs.Prelude.{ℕ, ◌++◌, List, [], ◌∷◌, codes, length}
use Rattle.std.specs.Fmt.{decimal}
use Rattle.std.specs.List.{flat_map}
use Rattle.abi_base.specs.Errno.{name_of}
use Rattle.abi_types.specs.declared.reply.Answer.{Answer}
use Rattle.abi_types.specs.declared.reply.Answer.TheVariants.{Parked, Reply}
use Rattle.abi_types.specs.declared.call.Call.{Call}
use Rattle.run_types.specs.declared.history.Act.{Act}
use Rattle.run_types.specs.declared.history.Act.TheVariants as act
use Rattle.run_types.specs.declared.history.Entry.{Entry}
use Rattle.run_report.specs.CallNames.{call_name}
use Rattle.run_report.specs.Denials.{thread_text}

-- the name of the error, and the two numbers that the call gave; where its thread waits there are none
abbrev pub answer_text : Answer → List ℕ
answer_text (Parked writes) = codes "PARKED 0 0"
answer_text (Reply reply) = name_of reply.errno ++ (codes " " ++ (decimal reply.r1 ++ (codes " " ++ decimal reply.r2)))

-- the word of an act, its call and the answer
abbrev pub call_text : List ℕ → Call → Answer → List ℕ
call_text word call answer = word ++ (codes " " ++ (call_name call ++ (codes " " ++ answer_text answer)))

-- what an entry did
abbrev pub act_text : Act → List ℕ
act_text (act.Call call answer) = call_text (codes "call") call answer
act_text (act.Wake call given answer) = call_text (codes "wake") call answer
act_text (act.Trap signal) = codes "trap - - 0 0"
act_text act.Expire = codes "expire - - 0 0"
act_text act.Idle = codes "idle - - 0 0"

-- The line of an entry: the moment after it, its process and thread, how many turns its process took since the process's
-- last entry, and what it did.
abbrev pub entry_text : Entry → List ℕ
entry_text entry =
    decimal entry.moment ++ (codes " " ++ (thread_text entry.pid entry.tid ++ (codes " " ++ (decimal (length entry.turns) ++ (codes " " ++ (act_text entry.act ++ 10 ∷ []))))))

-- the lines of the entries in the history's order, under a line with their number
unfoldable pub history_text : List Entry → List ℕ
history_text history = codes "== history " ++ (decimal (length history) ++ (10 ∷ flat_map entry_text history))
