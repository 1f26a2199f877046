-- A fault leaves the channel, and so the map.
use Rattle.std.proofs.Common.{sym, ap, ◌∙◌}
use Rattle.std.specs.FinMap.{insert}
use Rattle.maps.specs.Maps.{insert_self}
use Rattle.channel_calls.proofs.Results.{on_err}
use Rattle.channel_calls.proofs.kept.Channels.push_to.Goals as goal

pub returns-clause-same : goal.returns-clause-same
returns-clause-same c =
    on_err c.push.result
    (λ same. ap (λ channel. insert c.self.inside.by_number c.id.inside.0 channel) same ∙ insert_self _ _ _ (sym c.get_mut.ensures.value) ∙ c.self.view_is)
    c.push.ensures.same
