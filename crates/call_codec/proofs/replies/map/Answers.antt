use Rattle.std.proofs.Common.{sym, ap, ◌∙◌}
use Rattle.call_codec.specs.MemoryCalls.{with_mapping}
use Rattle.guest_memory.specs.Room.{without_each}
use Rattle.call_codec.proofs.replies.map.Goals as goal

pub returns-in-At : goal.returns-in-At
returns-in-At c =
    c.map_at.ensures
    ∙ ap (λ place. with_mapping (without_each c.args.room c.args.memory.now) place c.args.pages c.args.prot c.args.bytes.now) (sym c.in-At.is)
