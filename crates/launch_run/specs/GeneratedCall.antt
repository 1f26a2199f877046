-- What the top call of a generated run answers and writes. Nothing is read: its words give two numbers, and the program, the launch text and
-- the tree document are generated.
use Rattle.std.specs.Prelude.{ℕ, ◌≡◌, ◌≤◌, ◌⊎◌, true, List, [], ◌∷◌, codes, length, replicate, Option, None, Some}
use Rattle.input_output.specs.Memory.{content_steadily}
use Rattle.input_output.specs.Source.{InputContent, Rose}
use Rattle.input_output.specs.declared.inputs.Input.{Input}
use Rattle.command_line.specs.Settings.{Settings}
use Rattle.command_line.specs.declared.generating.GenerateSettings.{GenerateSettings}
use Rattle.guest_kit.specs.Generated.{IsGenerated}
use Rattle.guest_kit.specs.declared.generated.Generated.{Generated}
use Rattle.launch_reading.specs.Launch.{Described, refuses, input_limit, inputs_describe}
use Rattle.launch_reading.specs.Refusal.{memory_line, words_line}
use Rattle.book_report.specs.Growth.{Growth, Wrote}
use Rattle.book_report.specs.Shown.{record_summary}
use Rattle.launch_run.specs.TopCall.{IsTopEnd}
use Rattle.launch_run.specs.declared.top.TopEnd.{TopEnd}
use Rattle.launch_run.specs.declared.top.TopEnd.TheVariants.{Refused}
use Rattle.launch_reading.specs.declared.refusal.LaunchRefusal.TheVariants.{Words, Memory}

-- the settings of a run of these numbers
abbrev pub settings_for : GenerateSettings → Settings
settings_for numbers = record {
  program = codes "program";
  tree = Some (codes "tree");
  stdin = None;
  workers = numbers.workers;
  turns = 100000000;
  key = replicate 32 0;
  epoch = 0;
  history = true;
}

-- what is generated, by the names of the inputs
abbrev pub generated_inputs : Generated → List Input
generated_inputs g =
    record { name = codes "tree"; bytes = g.tree } ∷ record { name = codes "-"; bytes = g.launch } ∷ record { name = codes "program"; bytes = g.program } ∷ []

-- what is known of each input
abbrev pub generated_content : Generated → List ℕ → InputContent
generated_content g name = content_steadily (generated_inputs g) name

-- what is described by what is generated
abbrev pub generated_describe : GenerateSettings → Generated → Described
generated_describe numbers g = inputs_describe (settings_for numbers) (generated_content g)

-- no input is longer than one may be
pub record AreShort (g : Generated) : Type 0 where
  pub program : length g.program ≤ input_limit
  pub launch : length g.launch ≤ input_limit
  pub tree : length g.tree ≤ input_limit

-- these inputs may be generated for so many child processes
pub record IsSourceFor (processes : ℕ) (inputs : List Input) : Type 0 where
  pub generated : Generated
  pub is : IsGenerated processes generated
  pub short : AreShort generated
  pub inputs_are : inputs ≡ generated_inputs generated

-- P holds of the settings of a run of these numbers, and of what is described by what is generated for them; or, where words give no numbers,
-- of no settings, and of the refusal of these words
abbrev pub OfGenerated : Option GenerateSettings → (Option Settings → Described → Type 0) → Type 0
OfGenerated None P = P None (refuses 2 words_line)
OfGenerated (Some numbers) P = (g : Generated) × IsGenerated numbers.processes g × P (Some (settings_for numbers)) (generated_describe numbers g)

-- the number of child processes that words give, and 0 where they give none
abbrev pub processes_in : Option GenerateSettings → ℕ
processes_in None = 0
processes_in (Some numbers) = numbers.processes

-- the call refused, for lack of memory, to generate or to read what was generated
abbrev pub IsUngenerated : Growth → TopEnd → Type 0
IsUngenerated growth end = (end ≡ Refused Memory) × Wrote growth memory_line

-- a run of these numbers and of what was generated
pub record IsGeneratedRun (numbers : GenerateSettings) (growth : Growth) (end : TopEnd) : Type 0 where
  pub generated : Generated
  pub is : IsGenerated numbers.processes generated
  pub short : AreShort generated
  pub ends : IsTopEnd (Some (settings_for numbers)) (generated_content generated) (Rose 0 0) (record_summary numbers.processes) growth end

-- how the call ended
abbrev pub IsGeneratedEnd : Option GenerateSettings → Growth → TopEnd → Type 0
IsGeneratedEnd None growth end = (end ≡ Refused Words) × Wrote growth words_line
IsGeneratedEnd (Some numbers) growth end = IsUngenerated growth end ⊎ IsGeneratedRun numbers growth end

-- one of the statuses that the call may answer: no input is read from outside, so none is refused for that
abbrev pub IsGeneratedStatus : ℕ → Type 0
IsGeneratedStatus status =
    (status ≡ 0) ⊎ (status ≡ 1) ⊎ (status ≡ 2) ⊎ (status ≡ 65) ⊎ (status ≡ 67) ⊎ (status ≡ 68) ⊎ (status ≡ 69) ⊎ (status ≡ 70) ⊎ (status ≡ 71)
