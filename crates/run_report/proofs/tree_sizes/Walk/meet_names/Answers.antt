use Rattle.std.proofs.Common.{◌≡◌, sym, arith}
use Rattle.std.specs.FinMap.{len}
use Rattle.tree_model.specs.Facts.{links_of_named}
use Rattle.tree_model.specs.Tree.{names_of}
use Rattle.run_report.proofs.Walks.{named_at, names_met, next_met, next_none}
use Rattle.run_report.proofs.tree_sizes.Walk.meet_names.Goals as goal
use Rattle.run_report.proofs.tree_sizes.Walk.meet_names.Goals.{in-Some+in_ok-meet, in_default}

pub loop-place-preserved : goal.loop-place-preserved
loop-place-preserved c =
    elim c.match-name_at.branch [
      | in-Some+in_ok-meet w ↦
          let t = c.args.tree.now in
          let entry = w.in-Some.entry in
          let named = named_at t c.args.dir c.loop-place.place entry.0.now entry.1 (sym w.in-Some.ensures) in
          let linked = links_of_named t w.meet.ensures.tree c.args.dir entry.0.now entry.1 named in
          rw w.self-is (next_met t c.args.dir c.args.self.now c.loop-place.place c.loop-place.self w.meet.new.self entry.0.now entry.1
          (sym w.in-Some.ensures) (w.in_ok-meet.ensures.met (λ bare. omega (arith, linked, bare))) (w.in_ok-meet.ensures.grows (λ bare. omega (arith, linked, bare)))
          c.loop-place.invariant)
      | in_default w ↦
          rw w.self-is (next_none c.args.tree.now c.args.dir c.args.self.now c.loop-place.place c.loop-place.self (sym w.in_default.ensures) c.loop-place.invariant)
    ]

pub returns-clause-met : goal.returns-clause-met
returns-clause-met c = c.loop-place.invariant.grows.met

pub returns-clause-closed : goal.returns-clause-closed
returns-clause-closed c closed =
    let all : c.loop-place.place ≡ len (names_of c.args.tree.now c.args.dir) = omega (arith, c.names_len-place-end.ensures.names) in
    names_met c.args.tree.now c.args.dir c.args.self.now c.loop-place.place c.loop-place.self all c.loop-place.invariant closed
