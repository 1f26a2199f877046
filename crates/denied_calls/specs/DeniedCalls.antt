-- The denied calls of a history.
use Rattle.std.specs.Prelude.{ℕ, List, Option, None, option_map}
use Rattle.std.specs.List.{filter_map}
use Rattle.abi_types.specs.Numbers.{number_of_call}
use Rattle.abi_types.specs.declared.call.Call.{Call}
use Rattle.abi_types.specs.declared.reply.Answer.{Answer}
use Rattle.abi_types.specs.declared.reply.Answer.TheVariants as answer
use Rattle.run_types.specs.declared.history.Act.{Act}
use Rattle.run_types.specs.declared.history.Act.TheVariants as act
use Rattle.run_types.specs.declared.history.Entry.{Entry}
use Rattle.denied_calls.specs.declared.denied_call.DeniedCall.{DeniedCall}

-- the call that the answer denies to a process's thread, if it is a denial; where the thread waits nothing is denied
abbrev pub denied_by : ℕ → ℕ → Call → Answer → Option DeniedCall
denied_by pid tid call (answer.Parked writes) = None
denied_by pid tid call (answer.Reply reply) = option_map (λ denial. record { pid = pid; tid = tid; number = number_of_call call; denial = denial }) reply.denial

-- the call that an act's answer denies
abbrev pub denied_act : ℕ → ℕ → Act → Option DeniedCall
denied_act pid tid (act.Call call given) = denied_by pid tid call given
denied_act pid tid (act.Wake call given answered) = denied_by pid tid call answered
denied_act pid tid (act.Trap signal) = None
denied_act pid tid act.Expire = None
denied_act pid tid act.Idle = None

abbrev pub denied_entry : Entry → Option DeniedCall
denied_entry e = denied_act e.pid e.tid e.act

-- the denied calls of a history, in its order
abbrev pub denied_calls : List Entry → List DeniedCall
denied_calls history = filter_map denied_entry history
