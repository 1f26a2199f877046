use Rattle.std.proofs.Common.{take, refl}
use Rattle.call_codec.proofs.Mappings.{cut_to, mapped_with}
use Rattle.guest_memory.specs.Room.{without_each}
use Rattle.call_codec.proofs.replies.map_at.Goals as goal

pub returns : goal.returns
returns c =
    let part = cut_to c.args.bytes.now c.min-count.result c.args.pages c.min-count.ensures in
    mapped_with (without_each c.args.room c.args.memory.now) c.map_fixed.new.self c.write_bytes.new.self c.protect.new.self c.args.at c.args.pages
    c.args.bytes.now (take c.min-count.result c.args.bytes.now) _ c.args.prot c.write_bytes.result c.protect.result c.requires.place refl part
    c.map_fixed.ensures c.write_bytes.ensures.ok c.write_bytes.ensures.fault c.protect.ensures.ok c.protect.ensures.fault
