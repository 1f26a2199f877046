use Rattle.std.proofs.Common.{sym, ◌∙◌}
use Rattle.maps.proofs.OrderedNames.{there_at, is_some-value_at}
use Rattle.maps.proofs.name_map.is_at.Goals as goal

pub returns-in-Some : goal.returns-in-Some
returns-in-Some g c =
    c.is_same.ensures ∙ sym (is_some-value_at c.args.name.now (c.in-Some.found.now, c.in-Some.field-0-1.now))
    ∙ there_at c.args.tree.now c.args.name.now _ _ c.requires.ordered c.requires.place c.in-Some.ensures.entry

pub returns-in-None : goal.returns-in-None
returns-in-None g c = there_at c.args.tree.now c.args.name.now _ _ c.requires.ordered c.requires.place c.in-None.ensures.entry
