-- Which processes live.
use Rattle.std.specs.Prelude.{Bool, true, false, is_some}
use Rattle.maps.specs.Maps.{least_key}
use Rattle.abi_types.specs.declared.status.Status.{Status}
use Rattle.abi_types.specs.declared.status.Status.TheVariants.{Live, Exit, Killed}
use Rattle.kernel_model.specs.State.{State}

-- whether the status is that of a live process
abbrev pub is_live : Status → Bool
is_live Live = true
is_live (Exit code) = false
is_live (Killed signal) = false

-- whether some process is live
abbrev pub any_live : State → Bool
any_live S = is_some (least_key (λ _ status. is_live status) S.statuses)
