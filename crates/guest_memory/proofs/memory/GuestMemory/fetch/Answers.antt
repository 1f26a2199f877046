use Rattle.std.proofs.Common.{Ok, ap, sym, ◌∙◌}
use Rattle.guest_memory.specs.declared.access.Access.TheVariants.{Exec}
use Rattle.guest_memory.specs.Words.{number_in}
use Rattle.guest_memory.proofs.Runs.{run_bytes}
use Rattle.guest_memory.proofs.Numbers.{number_of_four}
use Rattle.guest_memory.proofs.memory.GuestMemory.fetch.Goals as goal

pub returns-then-run-ge4-clause-exact : goal.returns-then-run-ge4-clause-exact
returns-then-run-ge4-clause-exact c =
    ap Ok (c.from_le_bytes.ensures ∙ number_of_four c.in-Some.run'.now c.if-run-ge4.true)
    ∙ sym (ap number_in (run_bytes Exec c.args.self.now c.args.at 4 c.in-Some.run'.now c.in-Some.ensures.run c.in-Some.ensures.len c.ranges.at.fits c.if-run-ge4.true))
