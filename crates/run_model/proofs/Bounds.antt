-- A legal history of a launch that can be started is short, and so its clock is early.
use Rattle.std.proofs.Common.{◌+◌, ◌*◌, ◌^◌, ◌<◌, ◌≤◌, List, length, arith}
use Rattle.run_types.specs.declared.history.Entry.{Entry}
use Rattle.run_types.specs.declared.launch.Launch.{Launch}
use Rattle.call_codec.specs.Bounded.{IsBounded}
use Rattle.run_model.specs.Legal.{Legal}
use Rattle.run_model.specs.World.{world}
use Rattle.run_model.proofs.Potentials.{history_is_short}
use Rattle.run_model.proofs.Worlds.{clock_counts}

pub early : (launch : Launch) (history : List Entry) → IsBounded launch → Legal launch history → (world launch history).state.clock < 2 ^ 63
early launch history bounded legal =
    let moment : (world launch history).state.clock ≤ 2 ^ 62 + 1000 * length history = (clock_counts launch history legal).1 in
    let entries : length history ≤ 6 * launch.turns + 2 = history_is_short launch history bounded.begins legal in
    omega (arith, moment, entries, bounded.turns)

pub short : (launch : Launch) (history : List Entry) → IsBounded launch → Legal launch history → length history < 2 ^ 63
short launch history bounded legal =
    let entries : length history ≤ 6 * launch.turns + 2 = history_is_short launch history bounded.begins legal in
    omega (arith, entries, bounded.turns)
