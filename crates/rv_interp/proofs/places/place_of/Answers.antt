use Rattle.std.proofs.Common.{◌%◌, ap, ◌∙◌}
use Rattle.rv_interp.proofs.PlaceLaws.{found_place}
use Rattle.rv_interp.proofs.places.place_of.Goals as goal

pub returns-clause-place : goal.returns-clause-place
returns-clause-place c =
    found_place c.args.base c.offset_of-offset.result c.requires.base (ap (λ n. n % 4) c.offset_of-offset.ensures ∙ c.requires.pc)
    ∙ c.offset_of-offset.ensures
