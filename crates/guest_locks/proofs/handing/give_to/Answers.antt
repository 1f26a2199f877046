use Rattle.std.proofs.Common.{◌≡◌, sym, ap, subst, ◌∙◌}
use Rattle.std.specs.FinMap.{insert}
use Rattle.kernel_model.specs.Families.Locks.{given}
use Rattle.kernel_model.specs.State.{Threads}
use Rattle.guest_locks.specs.Handing.{given_at}
use Rattle.guest_locks.specs.Told.{TellsOf}
use Rattle.guest_locks.proofs.Changing.{changed_one}
use Rattle.guest_locks.proofs.Telling.{tells_one}
use Rattle.guest_locks.proofs.handing.give_to.Goals as goal
use Rattle.guest_locks.proofs.handing.give_to.Goals.{After-add}

threads_are : (c : After-add) → insert c.args.threads.now c.args.tid c.give.new.thread ≡ given_at c.args.tid c.args.threads.now
threads_are c =
    ap (insert c.args.threads.now c.args.tid) c.give.ensures
    ∙ changed_one given c.args.threads.now c.args.tid c.get_mut.result.now (sym c.get_mut.ensures.value)

pub returns-clause-threads : goal.returns-clause-threads
returns-clause-threads c = threads_are (goal.at.returns-clause-threads c).After-add

pub returns-clause-told : goal.returns-clause-told
returns-clause-told c =
    subst (λ (new : Threads). TellsOf c.args.threads.now new c.args.told.now c.add.new.self) (sym (threads_are (goal.at.returns-clause-told c).After-add))
    (tells_one given c.args.threads.now c.args.tid c.args.told.now c.add.new.self c.add.ensures.told c.add.ensures.kept)
