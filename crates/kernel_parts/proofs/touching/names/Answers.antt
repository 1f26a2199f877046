use Rattle.std.proofs.Common.{sym, ap, ◌∙◌}
use Rattle.std.specs.List.{list_any}
use Rattle.abi_types.specs.declared.call.Call.{Call}
use Rattle.kernel_parts.specs.Touching.{looks_for, subscribes}
use Rattle.kernel_parts.proofs.Looks.{poll_looks, other_looks}
use Rattle.kernel_parts.proofs.touching.names.Goals as goal

pub returns-in-Poll : goal.returns-in-Poll
returns-in-Poll c =
    c.polls.ensures ∙ ap (λ s. list_any (subscribes c.args.fd) s) c.as_slice-in-Poll.ensures ∙ poll_looks c.args.fd c.in-Poll.subscriptions
    ∙ ap (λ (k : Call). looks_for c.args.fd k) (sym c.in-Poll.is)

pub returns-in_default : goal.returns-in_default
returns-in_default c = other_looks c.args.fd c.args.call.now c.in_default.not-FdRead c.in_default.not-FdWrite c.in_default.not-SockRecv c.in_default.not-SockSend c.in_default.not-Poll
