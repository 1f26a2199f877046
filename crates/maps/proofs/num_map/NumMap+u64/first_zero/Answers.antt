use Rattle.std.proofs.Common.{◌==◌, rules}
use Rattle.maps.proofs.num_map.NumMap+u64.first_zero.Goals as goal

pub returns : goal.returns
returns c = c.first_where.ensures (λ n. n == 0) (λ v b h. search rules)
