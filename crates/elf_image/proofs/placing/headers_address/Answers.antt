use Rattle.std.proofs.Common.{◌∙◌, ◌≡◌, true, sym, arith}
use Rattle.std.proofs.lemmas.Bool.{and_parts}
use Rattle.elf_image.specs.Image.{holds_range}
use Rattle.elf_image.specs.Segments.{nth_header}
use Rattle.elf_image.proofs.Loadable.{loadable, in_memory}
use Rattle.elf_image.proofs.placing.headers_address.Goals as goal

pub address_in-requires-clause-placed : goal.address_in-requires-clause-placed
address_in-requires-clause-placed c =
    let headers = c.args.headers.now in
    let header = nth_header headers c.loop-i.i in
    let holds : holds_range c.args.from c.args.to header ≡ true = sym c.holds_range.ensures ∙ c.if-holds_range.true in
    let place =
    loadable c.args.base c.args.size headers c.loop-i.i c.requires.loadable (omega arith) (and_parts _ _ holds).0 in
    in_memory c.args.base c.args.size c.args.from c.args.to header place holds c.requires.order
