use Rattle.run_model.proofs.Asks as asks
use Rattle.run_model.proofs.laws.asks_stay.Goals as goal

pub returns : goal.returns
returns c = asks.asks_stay
