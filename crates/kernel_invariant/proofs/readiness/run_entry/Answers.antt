use Rattle.std.proofs.Common.{sym, ◌∙◌}
use Rattle.std.specs.FinMap.{get}
use Rattle.wait_set.specs.Waits.{running}
use Rattle.kernel_invariant.proofs.HeldEntries.{put_at, there_is}
use Rattle.kernel_invariant.proofs.readiness.run_entry.Goals as goal

pub returns-then-contains : goal.returns-then-contains
returns-then-contains c =
    let there = there_is (get c.args.waits.now c.args.key) (sym c.contains.ensures ∙ c.if-contains.true) in
    put_at c.args.key running c.args.waits.now c.run.new.self there.0 there.1 (c.run.ensures there.0 there.1)
