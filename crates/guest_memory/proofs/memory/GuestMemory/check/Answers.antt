use Rattle.std.proofs.Common.{◌≤◌, length, arith}
use Rattle.std.proofs.lemmas.Result.{err_from_is_err_and}
use Rattle.guest_memory.proofs.Runs.{had_none, ok_more, fault_more}
use Rattle.guest_memory.proofs.memory.GuestMemory.check.Goals as goal

pub loop-done-init : goal.loop-done-init
loop-done-init c = record { within = omega arith; had = had_none c.args.access c.args.self.now c.args.at }

pub returns-in_err-run-clause-fault : goal.returns-in_err-run-clause-fault
returns-in_err-run-clause-fault c =
    let p = err_from_is_err_and c.from_residual.result c.from_residual.ensures.1 in
    rw (p.1, p.2) (fault_more c.args.access c.args.self.now c.args.at c.loop-done.done c.args.count c.in_err-run.field-0.0 c.ranges.at.fits c.loop-done.invariant.had c.in_err-run.ensures.run c.loop-done-test.true)

pub loop-done-preserved : goal.loop-done-preserved
loop-done-preserved c =
    let part : c.min-done.result ≤ length c.in_ok-run.run'.now = omega (arith, c.min-done.ensures) in
    record {
      within = omega (arith, c.min-done.ensures);
      had = ok_more c.args.access c.args.self.now c.args.at c.loop-done.done c.min-done.result c.in_ok-run.run'.now c.ranges.at.fits c.loop-done.invariant.had c.in_ok-run.ensures.run c.in_ok-run.ensures.len part;
    }
