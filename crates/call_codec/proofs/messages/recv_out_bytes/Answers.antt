use Rattle.std.proofs.Common.{ℕ, ◌<◌, get_or, rules}
use Rattle.call_codec.proofs.Layouts.{received_is}
use Rattle.call_codec.proofs.messages.recv_out_bytes.Goals as goal

pub returns : goal.returns
returns c =
    let small : (k : ℕ) → get_or c.write_recv_out.result k 0 < 256 = λ k. search rules in
    received_is c.args.out.now c.write_recv_out.result small c.write_recv_out.ensures
