use Rattle.std.proofs.Common.{◌-◌, ◌+◌, sym, ◌∙◌, arith}
use Rattle.path_lookup.proofs.Turns.{step_next, step_last}
use Rattle.path_lookup.specs.Walk.{walk_within}
use Rattle.path_lookup.specs.Walking.{left_of, parents_of}
use Rattle.path_lookup.proofs.lookup.walk_on.Goals as goal

pub returns-in-Done : goal.returns-in-Done
returns-in-Done g c =
    let find = g.D.Dirs.finds c.args.dirs.now in
    let w = c.loop-treated.walker in
    let i = c.loop-treated._treated in
    c.in-Done.ensures.led (walk_within find c.args.mode (1024 - (i + 1)))
    ∙ sym (step_next find c.args.mode 1024 i w.links w.top (parents_of w) (left_of w) (omega arith)) ∙ c.loop-treated.invariant.same

pub loop-treated-preserved : goal.loop-treated-preserved
loop-treated-preserved g c =
    let find = g.D.Dirs.finds c.args.dirs.now in
    let w = c.loop-treated.walker in
    let i = c.loop-treated._treated in
    record {
      ready = c.turn.ensures.ready;
      room = omega arith;
      same = c.in-On.ensures.led (walk_within find c.args.mode (1024 - (i + 1)))
          ∙ sym (step_next find c.args.mode 1024 i w.links w.top (parents_of w) (left_of w) (omega arith)) ∙ c.loop-treated.invariant.same;
    }

pub returns : goal.returns
returns g c =
    let find = g.D.Dirs.finds c.args.dirs.now in
    let w = c.loop-treated.walker in
    c.spent.ensures ∙ sym (step_last find c.args.mode 1024 c.loop-treated._treated w.links w.top (parents_of w) (left_of w) (omega arith)) ∙ c.loop-treated.invariant.same
