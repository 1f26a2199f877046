use Rattle.std.proofs.Common.{Ok, ap, sym, ◌∙◌, ◌≤◌, length, arith}
use Rattle.guest_memory.specs.declared.access.Access.TheVariants.{Read}
use Rattle.guest_memory.specs.Words.{number_in}
use Rattle.guest_memory.proofs.Runs.{run_bytes}
use Rattle.guest_memory.proofs.memory.GuestMemory.load_by_hint.Goals as goal

pub returns-clause-exact : goal.returns-clause-exact
returns-clause-exact c =
    sym (ap Ok c.number_in_run.ensures.exact
    ∙ sym (ap number_in (run_bytes Read c.args.self.now c.args.at c.args.n c.in_ok-run.run'.now c.in_ok-run.ensures.run c.in_ok-run.ensures.len c.ranges.at.fits (omega (arith, c.if-run-n.false)))))
