use Rattle.std.proofs.Common.{◌≡◌, ◌≤◌, drop}
use Rattle.std.specs.Result.{result_ok}
use Rattle.codec_arguments.specs.declared.ranges.TheConstants.{MOST_TRANSFERRED}
use Rattle.codec_arguments.specs.Ranges.{gathered}
use Rattle.codec_arguments.proofs.Gathering.{after_front}
use Rattle.codec_arguments.proofs.ranges.gather.Given as goal

-- the bytes so far, and those of the ranges that are left, are all
abbrev pub invariant-loop-range : goal.invariant-loop-range
invariant-loop-range l = record {
  all : after_front l.bytes (result_ok (gathered l.memory l.room (drop l.range-index l.ranges))) ≡ result_ok (gathered l.memory MOST_TRANSFERRED l.ranges);
  room : l.room ≤ MOST_TRANSFERRED;
}
