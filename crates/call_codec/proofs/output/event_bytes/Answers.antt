use Rattle.std.proofs.Common.{ℕ, ◌<◌, get_or, rules}
use Rattle.call_codec.proofs.Layouts.{event_is}
use Rattle.call_codec.proofs.output.event_bytes.Goals as goal

pub returns : goal.returns
returns c =
    let small : (k : ℕ) → get_or c.write_event.result k 0 < 256 = λ k. search rules in
    event_is c.args.event.now c.write_event.result small c.write_event.ensures
