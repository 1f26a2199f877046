use Rattle.std.proofs.Common.{◌==◌, rules}
use Rattle.std.proofs.lemmas.Map.Made.{filter_same_pairs}
use Rattle.maps.proofs.NumberEntries.{retained_of}
use Rattle.maps.proofs.num_map.NumMap.keep_only.Goals as goal

pub returns : goal.returns
returns g c =
    retained_of (λ k. k == c.args.key) _ _ _ c.self.view_is
    (filter_same_pairs _ (λ e. e.0 == c.args.key) _ (λ k v b w after call. search rules) _ _ c.retain.ensures.filtered)
