use Rattle.std.proofs.Common.{◌≡◌, drop}
use Rattle.input_output.specs.Memory.{given}
use Rattle.input_output.proofs.inputs.Inputs.find.Given as goal

abbrev pub invariant-loop-input : goal.invariant-loop-input
invariant-loop-input l = given (drop l.input-index l.self) l.name ≡ given l.self l.name
