use Rattle.std.proofs.Common.{◌≡◌, ◌≤◌, length}
use Rattle.launch_scalars.specs.Quoted.{put, quoted}
use Rattle.launch_scalars.proofs.quoted.quoted_content.Given as goal

abbrev pub invariant-loop-content : goal.invariant-loop-content
invariant-loop-content l = record {
  same : put l.content.items (quoted l.quote l.rest) ≡ quoted l.quote l.bytes;
  no_longer : length l.rest ≤ length l.bytes;
}

abbrev pub decreases-loop-content : goal.decreases-loop-content
decreases-loop-content l = length l.rest
