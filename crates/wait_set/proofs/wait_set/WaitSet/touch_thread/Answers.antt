use Rattle.std.proofs.Common.{sym, ap, ◌∙◌}
use Rattle.std.specs.FinMap.{get}
use Rattle.wait_set.specs.Waits.{WaitMap, touched}
use Rattle.wait_set.proofs.Tying.{some_entry, put_at}
use Rattle.wait_set.proofs.wait_set.WaitSet.touch_thread.Goals as goal

pub returns-then-contains : goal.returns-then-contains
returns-then-contains c = λ k.
    let entry = some_entry c.args.self.now c.args.thread (sym c.contains.ensures ∙ c.if-contains.true) in
    ap (λ (w : WaitMap). get w k) (c.leave.ensures entry.0 entry.1) ∙ put_at touched c.args.self.now c.args.thread entry.0 entry.1 k
