use Rattle.process_cell.proofs.Ties.{has_registers_running, tied_turn}
use Rattle.process_cell.proofs.process.Process.turn.Goals as goal

pub turn-end-requires-clause-thread : goal.turn-end-requires-clause-thread
turn-end-requires-clause-thread g c =
    let v = c.self.inside in
    has_registers_running g.J.Naming.launch v.pass c.args.tid v.body v.phase c.args.self.now c.self.invariant.1 c.self.view_is c.requires.runs

pub invariant_of-self-2 : goal.invariant_of-self-2
invariant_of-self-2 g c =
    let v = c.self.inside in (
      c.self.invariant.0,
      tied_turn g.J.Naming.launch v.pass c.args.tid v.body c.push.new.self c.turn-end.new.self v.phase _ c.turn-end.result c.args.self.now
          c.self.invariant.1 c.self.view_is c.requires.runs c.requires.left c.in_ok-push.ensures.ok c.turn-end.ensures.guest c.turn-end.ensures.end
          c.phase_after_turn-self-inside.ensures,
    )
