use Rattle.std.proofs.Common.{sym, subst}
use Rattle.abi_types.specs.Families.{call_of_socket}
use Rattle.abi_types.specs.declared.family.SocketCall.{SocketCall}
use Rattle.kernel_model.specs.Calls.{takes_memory}
use Rattle.channel_calls.specs.Calls.{socket_outcome}
use Rattle.channel_calls.specs.Done.{IsSocketDone}
use Rattle.channel_calls.proofs.calls.on_socket.Goals as goal

pub returns-in-SockRecv-clause-done : goal.returns-in-SockRecv-clause-done
returns-in-SockRecv-clause-done c = λ p.
    let t = c.args.table.now in
    let channels = c.args.channels.now in
    subst (λ (call : SocketCall). IsSocketDone (takes_memory (call_of_socket call)) (socket_outcome p t channels c.args.kind.now (call_of_socket call))
    t c.receive.new.table channels c.receive.new.channels c.receive.result) (sym c.in-SockRecv.is) (c.receive.ensures.done p)
