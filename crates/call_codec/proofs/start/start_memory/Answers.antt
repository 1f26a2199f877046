use Rattle.std.proofs.Common.{◌≡◌, subst, sym}
use Rattle.std.specs.FinMap.{empty}
use Rattle.guest_memory.specs.Page.{Pages}
use Rattle.call_codec.specs.Image.{FitTogether, with_segment, with_segments}
use Rattle.call_codec.proofs.SoundStarts.{block_has_room, image_fits, stack_has_room}
use Rattle.call_codec.proofs.Starts.{ok_before, started}
use Rattle.call_codec.proofs.start.start_memory.Goals as goal

pub load-requires : goal.load-requires
load-requires c = subst FitTogether (sym c.as_slice.ensures) (image_fits c.args.elf.now c.requires.sound)

pub map_segment-requires-clause-room : goal.map_segment-requires-clause-room
map_segment-requires-clause-room c =
    let loaded : c.in_ok-memory.memory ≡ with_segments empty c.as_slice.result.now =
    ok_before c.load.result c.map_err.result c.in_ok-memory.memory (λ (m : Pages). m ≡ with_segments empty c.as_slice.result.now) _ c.in_ok-memory.was
    c.map_err.ensures.cases c.map_err.ensures.variant c.load.ensures.ok in
    stack_has_room c.args.elf.now c.args.argdata.now c.args.canary.now c.args.pid c.args.tid c.requires c.in_ok-memory.memory c.as_slice.result.now c.stack-stack.result
    c.as_slice.ensures loaded c.stack-stack.ensures

pub map_segment-requires-2-clause-room : goal.map_segment-requires-2-clause-room
map_segment-requires-2-clause-room c =
    let loaded : c.in_ok-memory.memory ≡ with_segments empty c.as_slice.result.now =
    ok_before c.load.result c.map_err.result c.in_ok-memory.memory (λ (m : Pages). m ≡ with_segments empty c.as_slice.result.now) _ c.in_ok-memory.was
    c.map_err.ensures.cases c.map_err.ensures.variant c.load.ensures.ok in
    let second : c.map_segment.new.memory ≡ with_segment c.in_ok-memory.memory c.stack-stack.result =
    ok_before c.map_segment.result c.map_err-2.result c.in_ok-map_err.field-0 (λ _. c.map_segment.new.memory ≡ with_segment c.in_ok-memory.memory c.stack-stack.result) _
    c.in_ok-map_err.was c.map_err-2.ensures.cases c.map_err-2.ensures.variant c.map_segment.ensures.ok in
    block_has_room c.args.elf.now c.args.argdata.now c.args.canary.now c.args.pid c.args.tid c.requires c.in_ok-memory.memory c.as_slice.result.now c.stack-stack.result
    c.as_slice.ensures loaded c.stack-stack.ensures c.map_segment.new.memory c.start_block-block.result c.in_ok-block_bytes.field-0 second
    c.in_ok-block_bytes.ensures c.start_block-block.ensures

pub returns-clause-memory : goal.returns-clause-memory
returns-clause-memory c =
    let loaded : c.in_ok-memory.memory ≡ with_segments empty c.as_slice.result.now =
    ok_before c.load.result c.map_err.result c.in_ok-memory.memory (λ (m : Pages). m ≡ with_segments empty c.as_slice.result.now) _ c.in_ok-memory.was
    c.map_err.ensures.cases c.map_err.ensures.variant c.load.ensures.ok in
    let second : c.map_segment.new.memory ≡ with_segment c.in_ok-memory.memory c.stack-stack.result =
    ok_before c.map_segment.result c.map_err-2.result c.in_ok-map_err.field-0 (λ _. c.map_segment.new.memory ≡ with_segment c.in_ok-memory.memory c.stack-stack.result) _
    c.in_ok-map_err.was c.map_err-2.ensures.cases c.map_err-2.ensures.variant c.map_segment.ensures.ok in
    let third : c.map_segment-2.new.memory ≡ with_segment c.map_segment.new.memory c.start_block-block.result =
    ok_before c.map_segment-2.result c.map_err-3.result c.in_ok-map_err-2.field-0 (λ _. c.map_segment-2.new.memory ≡ with_segment c.map_segment.new.memory c.start_block-block.result) _
    c.in_ok-map_err-2.was c.map_err-3.ensures.cases c.map_err-3.ensures.variant c.map_segment-2.ensures.ok in
    started c.args.elf.now c.args.argdata.now c.args.canary.now c.args.pid c.args.tid c.in_ok-memory.memory c.map_segment.new.memory c.map_segment-2.new.memory c.as_slice.result.now c.stack-stack.result c.start_block-block.result
    c.in_ok-block_bytes.field-0 c.as_slice.ensures loaded c.stack-stack.ensures second c.in_ok-block_bytes.ensures c.start_block-block.ensures third
