use Rattle.std.proofs.Common.{◌≡◌, ◌-◌, length, take}
use Rattle.codec_arguments.specs.Ranges.{ranges_at}
use Rattle.codec_arguments.proofs.Gathering.{after_read}
use Rattle.codec_arguments.proofs.ranges.fill_ranges.Given as goal

-- the ranges so far, and those that are left, are all
abbrev pub invariant-loop-range : goal.invariant-loop-range
invariant-loop-range l =
    after_read (take l.range-index l.ranges) (ranges_at l.memory l.next (length l.fn.ranges - l.range-index)) ≡ ranges_at l.memory l.at (length l.fn.ranges)
