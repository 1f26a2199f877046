use Rattle.std.proofs.Common.{◌≡◌}
use Rattle.rv_interp.specs.Cache.{RegionIsTrue}
use Rattle.rv_interp.proofs.regions.Region.decode_from.Given as goal

abbrev pub invariant-loop-index : goal.invariant-loop-index
invariant-loop-index l = record {
  slots : RegionIsTrue l.fn.mem l.fn.self → RegionIsTrue l.mem l.self;
  same : l.mem ≡ l.fn.mem;
}
