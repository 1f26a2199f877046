-- Two launches that differ in nothing that a grant leads to have the same histories.
use Rattle.std.specs.Prelude.{◌≡◌, ℕ, List, IsSome}
use Rattle.std.specs.FinMap.{get, len}
use Rattle.run_types.specs.declared.history.Entry.{Entry}
use Rattle.run_types.specs.declared.launch.Launch.{Launch}
use Rattle.tree_model.specs.Grants.{MayBegin}
use Rattle.run_model.specs.Ends.{Ended, Stalled}
use Rattle.run_model.specs.Legal.{Legal}
use Rattle.run_model.specs.World.{World, world}
use Rattle.confinement_laws.specs.Leading.{IsLedTo, any}

-- Both launches have the same program, argument data, grants, standard input, constants and turns. Their file trees have as many nodes,
-- and the same of each node to which a grant leads, and of the names in it. All else of the trees may differ.
pub record DifferBeyondGrants (one other : Launch) : Type 0 where
  pub elf : one.elf ≡ other.elf
  pub argdata : one.argdata ≡ other.argdata
  pub grants : one.grants ≡ other.grants
  pub stdin : one.stdin ≡ other.stdin
  pub constants : one.constants ≡ other.constants
  pub turns : one.turns ≡ other.turns
  pub many : len one.tree.nodes ≡ len other.tree.nodes
  pub nodes : (n : ℕ) → IsLedTo any one n → get one.tree.nodes n ≡ get other.tree.nodes n
  pub names : (n : ℕ) → IsLedTo any one n → get one.tree.names n ≡ get other.tree.names n

-- the node is one that the launch begins with, and no grant leads to it
abbrev pub IsBeyond : Launch → ℕ → Type 0
IsBeyond launch n = IsSome (get launch.tree.nodes n) × ¬ IsLedTo any launch n

-- Both worlds have the same processes with the same memories, registers, turns and descriptors, the same opens, streams and channels, and the
-- same moment; and of the file tree the same but for what is beyond the grants.
pub record IsSameButBeyond (one other : Launch) (v w : World) : Type 0 where
  pub constants : v.constants ≡ w.constants
  pub guests : v.guests ≡ w.guests
  pub clock : v.state.clock ≡ w.state.clock
  pub tables : v.state.tables ≡ w.state.tables
  pub processes : v.state.processes ≡ w.state.processes
  pub statuses : v.state.statuses ≡ w.state.statuses
  pub opens : v.state.opens ≡ w.state.opens
  pub terms : v.state.terms ≡ w.state.terms
  pub chans : v.state.chans ≡ w.state.chans
  pub nodes : (n : ℕ) → ¬ IsBeyond one n → ¬ IsBeyond other n → get v.state.nodes n ≡ get w.state.nodes n
  pub names : (n : ℕ) → ¬ IsBeyond one n → ¬ IsBeyond other n → get v.state.names n ≡ get w.state.names n

-- A history of the one launch is one of the other, with a world that is the same but for what is beyond the grants; and where the run is ended or
-- stalled after it in the one, it is so in the other.
pub record RunsAlike (one other : Launch) (history : List Entry) : Type 0 where
  pub legal : Legal other history
  pub same : IsSameButBeyond one other (world one history) (world other history)
  pub ended : Ended one history → Ended other history
  pub stalled : Stalled one history → Stalled other history

abbrev pub LaunchesRunAlike : Type 0
LaunchesRunAlike =
    (one other : Launch) (history : List Entry) → MayBegin one.tree one.grants → MayBegin other.tree other.grants → DifferBeyondGrants one other
    → Legal one history → RunsAlike one other history
