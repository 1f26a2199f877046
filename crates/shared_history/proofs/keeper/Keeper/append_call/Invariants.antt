use Rattle.shared_history.specs.Entries.{answered_call}
use Rattle.shared_history.proofs.keeper.Keeper.append_call.Given as goal

abbrev pub ghosts-append_call_as : goal.ghosts-append_call_as
ghosts-append_call_as g a = record { entry = answered_call a.head.now a.call.now a.given a.answer.now }
