use Rattle.std.proofs.Common.{◌*◌, length, IsOk, sym, ◌∙◌}
use Rattle.codec_arguments.specs.Bytes.{writable}
use Rattle.call_codec.specs.Output.{events_bytes}
use Rattle.call_codec.proofs.Events.{events_length, had_room, no_write, whole_write}
use Rattle.call_codec.proofs.output.put_events.Goals as goal

pub returns-then-is_ok : goal.returns-then-is_ok
returns-then-is_ok c =
    let m = c.args.memory.now in
    let may : IsOk (writable m c.args.at (32 * length c.args.events.now)) = cc in
    c.put_each_event.ensures
    ∙ sym (whole_write m c.args.at (32 * length c.args.events.now) (events_bytes c.args.events.now) (events_length c.args.events.now) (had_room m c.args.at (32 * length c.args.events.now) may))

pub returns-else-is_ok : goal.returns-else-is_ok
returns-else-is_ok c =
    sym (no_write c.args.memory.now c.args.at (32 * length c.args.events.now) (events_bytes c.args.events.now) (events_length c.args.events.now) (λ may. absurd (cc)))
