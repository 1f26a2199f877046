use Rattle.std.proofs.Common.{◌∙◌, sym, length, arith}
use Rattle.elf_image.proofs.Loadable.{loadable}
use Rattle.elf_image.proofs.placing.segments.Goals as goal

pub segment-requires-clause-file : goal.segment-requires-clause-file
segment-requires-clause-file c =
    let headers = c.args.headers.now in
    let place =
    loadable c.args.base (length c.args.bytes.now) headers c.loop-i.i c.requires (omega arith)
    (sym c.is_load.ensures ∙ c.if-is_load.true) in
    place.file

pub segment-requires-clause-placed : goal.segment-requires-clause-placed
segment-requires-clause-placed c =
    let headers = c.args.headers.now in
    let place =
    loadable c.args.base (length c.args.bytes.now) headers c.loop-i.i c.requires (omega arith)
    (sym c.is_load.ensures ∙ c.if-is_load.true) in
    let high = place.high in
    omega arith
