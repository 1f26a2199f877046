use Rattle.std.proofs.Common.{rules}
use Rattle.abi_layout.specs.Events.{event_layout, event_values}
use Rattle.abi_layout.proofs.Bytes.{laid_out}
use Rattle.abi_layout.proofs.Proper.{event_proper}
use Rattle.abi_layout.proofs.events.write_event.Goals as goal

pub returns : goal.returns
returns c =
    let event = c.args.event.now in
    laid_out (event_layout event.kind) (event_values event) _ (cc) (event_proper event.kind) (search rules)
