-- Why the inputs of a run were not read, or describe no launch.
use Rattle.std.specs.Prelude.{◌≡◌, ◌≤◌, ℕ, ⊤, List, [], length, Option, None, Some, Contains}
use Rattle.input_output.specs.Source.{InputContent, IsLongerThan, IsWhole}
use Rattle.command_line.specs.Settings.{Settings}
use Rattle.launch_reading.specs.Launch.{Described, refuses, input_limit, standard_input, IsKnownAs}
use Rattle.launch_reading.specs.Refusal.{too_long_line, program_line, tree_line, launch_line}
use Rattle.launch_reading.specs.declared.inputs.Inputs.{Inputs}
use Rattle.launch_reading.specs.declared.refusal.LaunchRefusal.{LaunchRefusal}
use Rattle.launch_reading.specs.declared.refusal.LaunchRefusal.TheVariants.{Words, Input, TooLong, Program, Tree, LaunchText, Memory}

-- why the input of this name was not read: a read failed, so that a fault was counted; it is longer than an input may
-- be; or memory runs out
abbrev pub IsUnread : List ℕ → InputContent → Type 0 → LaunchRefusal → Type 0
IsUnread name content rose (Input n) = (n.now ≡ name) × rose
IsUnread name content rose (TooLong n) = (n.now ≡ name) × IsLongerThan input_limit content
IsUnread name content rose Memory = ⊤
IsUnread name content rose _ = ⊥

-- the same of an input that may not be asked for
abbrev pub IsUnreadOf : Option (List ℕ) → (List ℕ → InputContent) → Type 0 → LaunchRefusal → Type 0
IsUnreadOf None content rose refusal = ⊥
IsUnreadOf (Some name) content rose refusal = IsUnread name (content name) rose refusal

-- what was read of an input: all of it, and nothing of one that is not asked for
abbrev pub IsReadAs : Option (List ℕ) → (List ℕ → InputContent) → List ℕ → Type 0
IsReadAs None content bytes = bytes ≡ []
IsReadAs (Some name) content bytes = IsWhole (content name) bytes × (length bytes ≤ input_limit)

-- what was read of the inputs of these settings
pub record AreRead (settings : Settings) (content : List ℕ → InputContent) (inputs : Inputs) : Type 0 where
  pub program : IsReadAs (Some settings.program) content inputs.program
  pub text : IsReadAs (Some standard_input) content inputs.text
  pub tree : IsReadAs settings.tree content inputs.tree
  pub stdin : IsReadAs settings.stdin content inputs.stdin

-- why a program, a tree document and a launch text give no launch
abbrev pub IsNoLaunch : Described → LaunchRefusal → Type 0
IsNoLaunch described (Program found) = described ≡ refuses 67 (program_line found)
IsNoLaunch described (Tree byte) = described ≡ refuses 68 (tree_line byte)
IsNoLaunch described (LaunchText fault) = described ≡ refuses 65 (launch_line fault)
IsNoLaunch described Memory = ⊤
IsNoLaunch described _ = ⊥

-- why inputs of these names give no launch, of which this is described: one could not be read, so that a fault was
-- counted; one is too long, or the program, the tree document or the launch text is refused, where anything is known as it
-- is described; or memory runs out
abbrev pub IsNoLaunchOf : List (List ℕ) → Described → Type 0 → LaunchRefusal → Type 0
IsNoLaunchOf names described rose (Input n) = Contains names n.now × rose
IsNoLaunchOf names described rose (TooLong n) = Contains names n.now × IsKnownAs described (refuses 66 (too_long_line n.now))
IsNoLaunchOf names described rose (Program found) = IsKnownAs described (refuses 67 (program_line found))
IsNoLaunchOf names described rose (Tree byte) = IsKnownAs described (refuses 68 (tree_line byte))
IsNoLaunchOf names described rose (LaunchText fault) = IsKnownAs described (refuses 65 (launch_line fault))
IsNoLaunchOf names described rose Memory = ⊤
IsNoLaunchOf names described rose Words = ⊥
