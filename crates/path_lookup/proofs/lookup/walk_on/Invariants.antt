use Rattle.std.proofs.Common.{◌≡◌, ◌≤◌, ◌-◌}
use Rattle.arrayvec.specs.ArrayVec.{array_vec_len}
use Rattle.path_lookup.specs.Walk.{walk_within}
use Rattle.path_lookup.specs.Walking.{IsReady, left_of, parents_of}
use Rattle.path_lookup.proofs.lookup.walk_on.Given as goal

abbrev pub invariant-loop-treated : goal.invariant-loop-treated
invariant-loop-treated g l =
    let find = g.D.Dirs.finds l.dirs in
    record {
      ready : IsReady l.walker;
      room : array_vec_len l.walker.above ≤ l._treated;
      same : walk_within find l.mode (1024 - l._treated) l.walker.links l.walker.top (parents_of l.walker) (left_of l.walker)
          ≡ walk_within find l.mode 1024 l.initial.walker.links l.initial.walker.top (parents_of l.initial.walker) (left_of l.initial.walker);
    }
