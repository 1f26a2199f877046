-- Whether a thread is ready hangs on the spots alone at which it stands: the statement that is the contract of `readiness_is_local`.
use Rattle.std.specs.Prelude.{◌≡◌, ⊤, ℕ}
use Rattle.std.specs.FinMap.{get}
use Rattle.std.specs.List.{AllByRecursion}
use Rattle.abi_types.specs.declared.constants.Constants.{Constants}
use Rattle.kernel_model.specs.State.{State, thread_of}
use Rattle.kernel_model.specs.Waits.{HasDeadline, MayWait}
use Rattle.kernel_model.specs.Wakes.{is_ready}
use Rattle.readiness_laws.specs.Spots.{Spot, AreSame, bare, on_open, on_table, on_thread, spots}

-- A thread is as ready in one state as in another where its spots are the same, be it there, running or waiting, as long as it waits in a call in
-- which it may and until its call's deadline.
abbrev pub ReadinessIsLocal : Type 0
ReadinessIsLocal =
    (constants : Constants) (S T : State) (p t : ℕ) → MayWait (thread_of S p t) → HasDeadline constants (thread_of S p t) → AreSame S T (spots S p t)
    → is_ready constants S p t ≡ is_ready constants T p t

-- A change leaves where those stand that stand at the spot: what a thread does, a table, and what an open is of are the same. What a channel has, how a
-- process stands, the flags of an open and the time move nobody.
abbrev pub LeavesPlaces : State → State → Spot → Type 0
LeavesPlaces S T (on_table p) = get S.tables p ≡ get T.tables p
LeavesPlaces S T (on_open o) = bare (get S.opens o) ≡ bare (get T.opens o)
LeavesPlaces S T (on_thread p t) = thread_of S p t ≡ thread_of T p t
LeavesPlaces S T spot = ⊤

-- A thread whose spots a change leaves so stands at the same ones.
abbrev pub PlacesStay : Type 0
PlacesStay = (S T : State) (p t : ℕ) → AllByRecursion (LeavesPlaces S T) (spots S p t) → spots T p t ≡ spots S p t
