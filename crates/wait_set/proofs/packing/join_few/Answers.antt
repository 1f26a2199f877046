use Rattle.std.proofs.Common.{◌+◌, ◌<◌, List, ℕ, length, ap, ◌∙◌, arith}
use Rattle.std.specs.List.{concat}
use Rattle.wait_set.proofs.Packed.{list_joined}
use Rattle.wait_set.proofs.packing.join_few.Goals as goal

pub returns-then-len-le-FEW-clause-same : goal.returns-then-len-le-FEW-clause-same
returns-then-len-le-FEW-clause-same c =
    let inner : c.args.index + 1 < length c.args.blocks.now.used = omega arith in
    ap (λ (ys : List (List ℕ)). concat ys) c.join.ensures.used ∙ list_joined c.args.blocks.now.used c.args.index inner
