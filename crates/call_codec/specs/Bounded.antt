-- What a launch keeps that can be started.
use Rattle.std.specs.Prelude.{◌^◌, ◌≤◌}
use Rattle.tree_model.specs.Grants.{MayBegin}
use Rattle.call_codec.specs.Start.{MayStart, canary}
use Rattle.run_types.specs.declared.launch.Launch.{Launch}

-- What a launch of the launcher keeps besides: it may begin with its tree and its grants, a program can start with its image and
-- argument data, it begins at most 2^62 nanoseconds after 1970, and it has at most 1,000,000,000 turns.
pub record IsBounded (launch : Launch) : Type 0 where
  pub begins : MayBegin launch.tree launch.grants
  pub start : MayStart launch.elf launch.argdata (canary launch.constants.key 0 0)
  pub epoch : launch.constants.epoch ≤ 2 ^ 62
  pub turns : launch.turns ≤ 1000000000
