use Rattle.readiness_laws.proofs.laws.entries_tell_who_is_ready.Goals as goal
use Rattle.readiness_laws.proofs.NextReady.{mark_tells, marks_are_exact, next_is_ready, next_moment_is_least}
use Rattle.readiness_laws.proofs.Tested.{tested_is_watched}
use Rattle.readiness_laws.proofs.Watched.{changed_is_watched, touched_is_watched}

pub returns : goal.returns
returns c = record {
  changed = changed_is_watched;
  touched = touched_is_watched;
  tested = tested_is_watched;
  exact = marks_are_exact;
  next = next_is_ready;
  mark = mark_tells;
  least = next_moment_is_least;
}
