use Rattle.std.proofs.Common.{ap, ◌∙◌}
use Rattle.std.specs.Ordering.{nat_cmp}
use Rattle.std.specs.FinMap.{FinMap, remove}
use Rattle.kernel_model.specs.State.{ProcessState}
use Rattle.maps.specs.Maps.{remove-inserted}
use Rattle.process_calls.proofs.forks.put_own.Goals as goal

pub returns-in-Err-clause-same_processes : goal.returns-in-Err-clause-same_processes
returns-in-Err-clause-same_processes c =
    c.remove.ensures.new ∙ ap (λ (m : FinMap nat_cmp ProcessState). remove m c.args.child) c.in_ok-insert.ensures.ok
    ∙ remove-inserted c.args.processes.now c.args.child c.args.own c.requires
