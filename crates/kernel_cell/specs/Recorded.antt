-- What stands behind the lock: a kernel, its history, and what is kept of it in memory.
use Rattle.std.specs.Prelude.{◌≡◌, Bool, List}
use Rattle.abi_types.specs.declared.constants.Constants.{Constants}
use Rattle.run_types.specs.declared.history.Entry.{Entry}
use Rattle.run_types.specs.declared.launch.Launch.{Launch}
use Rattle.kernel_model.specs.State.{State}
use Rattle.call_codec.specs.Bounded.{IsBounded}
use Rattle.run_model.specs.Legal.{Legal}
use Rattle.run_model.specs.World.{world}
use Rattle.shared_history.specs.Kept.{IsKeptOf}
use Rattle.shared_history.specs.declared.kept.Kept.{Kept}
use Rattle.kernel_cell.specs.declared.locked.Locked.{Locked}

-- The history is a legal one of the launch, and the kernel's state is its world's. In memory is what is to be kept of it.
pub record IsRecorded (launch : Launch) (all : Bool) (log : List Entry) (kernel : State) (constants : Constants) (kept : Kept) : Type 0 where
  pub bounded : IsBounded launch
  pub legal : Legal launch log
  pub state : kernel ≡ (world launch log).state
  pub constants_are : constants ≡ launch.constants
  pub kept_is : IsKeptOf all log kept

-- what stands behind the lock is recorded so
abbrev pub IsInOrder : {J : Type 0} → Launch → Bool → Locked J → Type 0
IsInOrder launch all locked = IsRecorded launch all locked.keeper.log locked.kernel locked.constants locked.kept
