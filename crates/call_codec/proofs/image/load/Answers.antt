use Rattle.std.proofs.Common.{ap, subst, sym}
use Rattle.elf_image.specs.declared.elf.Segment.{Segment}
use Rattle.guest_memory.specs.Mapping.{MayMap}
use Rattle.guest_memory.specs.Page.{Pages}
use Rattle.call_codec.specs.Image.{first_page, page_count, with_segments}
use Rattle.call_codec.proofs.Rooms.{HasRoom, fit_room, next_room}
use Rattle.call_codec.proofs.image.load.Goals as goal

pub loop-segment-init : goal.loop-segment-init
loop-segment-init c = record {
  all = ap (λ (m : Pages). with_segments m c.args.segments.now) c.new-memory.ensures;
  room = subst (λ (m : Pages). HasRoom m c.args.segments.now) (sym c.new-memory.ensures) (fit_room c.args.segments.now c.requires);
}

pub map_segment-requires-clause-room : goal.map_segment-requires-clause-room
map_segment-requires-clause-room c =
    let m = c.loop-segment.memory in
    let next = next_room m c.args.segments.now c.loop-segment.segment-index c.segment-item.result c.loop-segment-test.true c.loop-segment.invariant.room in
    subst (λ (s : Segment). MayMap m (first_page s) (page_count s)) (sym c.segment-item.is) next.1
