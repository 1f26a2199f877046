-- The statements that are the contracts of the functions of src/laws.rt, and that no other file has.
use Rattle.std.specs.Prelude.{◌≡◌, ◌^◌, ◌<◌, ℕ, true, List, IsSome}
use Rattle.std.specs.FinMap.{get}
use Rattle.abi_types.specs.declared.call.Call.{Call}
use Rattle.abi_types.specs.declared.descriptor.Descriptor.{Descriptor}
use Rattle.abi_types.specs.declared.needed.Needed.{Needed}
use Rattle.abi_types.specs.declared.who.Who.{Who}
use Rattle.run_types.specs.declared.history.Entry.{Entry}
use Rattle.run_types.specs.declared.launch.Launch.{Launch}
use Rattle.kernel_model.specs.State.{State, AgreeOn, at_names, has_part, tree_of}
use Rattle.kernel_model.specs.Step.{sight}
use Rattle.tree_model.specs.Grants.{MayBegin}
use Rattle.tree_model.specs.Tree.{HasName}
use Rattle.run_model.specs.Legal.{Legal}
use Rattle.confinement_laws.specs.Headline.{IsConfinedHistory, LacksExactly}

-- each name that the call sees is of a node that is there
abbrev pub NamesHaveNodes : State → Who → Call → Type 0
NamesHaveNodes S who call =
    (d : ℕ) (name : List ℕ) (n : ℕ) → has_part (sight S who call) (at_names d) ≡ true → HasName (tree_of S) d name n → IsSome (get S.nodes n)

-- A call that sees a part sees it whatever else there is: where another state has the same of all that it sees, it sees the same there. Each
-- name that it sees is of a node that is there, as it is in every valid state: else the other state may have that node.
abbrev pub SightIsDecided : Type 0
SightIsDecided = (S U : State) (who : Who) (call : Call) → NamesHaveNodes S who call → AgreeOn S U (sight S who call) → sight S who call ≡ sight U who call

-- What is missing of a descriptor whose rights are words of 64 bits are exactly the rights that are needed and that it lacks, unless it has
-- others that stand for them.
abbrev pub MissingIsExact : Type 0
MissingIsExact = (d : Descriptor) (row : Needed) → d.base.0 < 2 ^ 64 → d.inheriting.0 < 2 ^ 64 → LacksExactly d row

-- Each legal history of a launch with proper grants is confined.
abbrev pub LegalIsConfinedHistory : Type 0
LegalIsConfinedHistory = (launch : Launch) (history : List Entry) → MayBegin launch.tree launch.grants → Legal launch history → IsConfinedHistory launch history
