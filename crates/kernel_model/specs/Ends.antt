-- Which processes still live.
use Rattle.std.specs.Prelude.{◌≡◌, ◌≢◌, ℕ, Some}
use Rattle.std.specs.FinMap.{get}
use Rattle.abi_types.specs.declared.status.Status.TheVariants.{Live}
use Rattle.kernel_model.specs.State.{State}

-- no process is live
abbrev pub NoneLive : State → Type 0
NoneLive S = (p : ℕ) → get S.statuses p ≢ Some Live

-- some process is live
abbrev pub SomeLive : State → Type 0
SomeLive S = (p : ℕ) × (get S.statuses p ≡ Some Live)
