use Rattle.std.proofs.Common.{ℕ, ◌<◌, get_or, rules}
use Rattle.call_codec.proofs.Layouts.{sent_is}
use Rattle.call_codec.proofs.messages.send_out_bytes.Goals as goal

pub returns : goal.returns
returns c =
    let small : (k : ℕ) → get_or c.write_send_out.result k 0 < 256 = λ k. search rules in
    sent_is c.args.out.now c.write_send_out.result small c.write_send_out.ensures
