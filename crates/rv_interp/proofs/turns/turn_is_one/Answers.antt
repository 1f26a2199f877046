use Rattle.rv_interp.proofs.TurnLaws.{only, is_turn}
use Rattle.rv_interp.proofs.turns.turn_is_one.Goals as goal

pub returns-clause-is_turn : goal.returns-clause-is_turn
returns-clause-is_turn c = is_turn

pub returns-clause-only : goal.returns-clause-only
returns-clause-only c = only
