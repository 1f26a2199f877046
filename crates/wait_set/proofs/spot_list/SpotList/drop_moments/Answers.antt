use Rattle.std.proofs.Common.{List, ap, ◌∙◌, rules}
use Rattle.std.specs.List.{filter}
use Rattle.std.proofs.lemmas.Fn.{filter_same}
use Rattle.wait_set.specs.declared.spot.Spot.{Spot}
use Rattle.wait_set.specs.Waits.{lasts}
use Rattle.wait_set.proofs.spot_list.SpotList.drop_moments.Goals as goal

pub returns : goal.returns
returns c = filter_same _ lasts _ (λ x b after call. search rules) _ _ c.retain.ensures.filtered ∙ ap (λ (xs : List Spot). filter lasts xs) c.self.view_is
