use Rattle.std.proofs.Common.{◌∙◌}
use Rattle.path_lookup.proofs.Names.{name_read}
use Rattle.path_lookup.proofs.frames.next_place.Goals as goal

pub returns-clause-read : goal.returns-clause-read
returns-clause-read c =
    c.skip_slashes-from.ensures.same ∙ c.end_of_name.ensures.same
    ∙ name_read c.args.text.now c.skip_slashes-from.result c.end_of_name.result c.end_of_name.ensures.from c.end_of_name.ensures.within c.skip_slashes-from.ensures.other c.end_of_name.ensures.slash
