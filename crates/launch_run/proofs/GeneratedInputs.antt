-- What is described by what is generated: no input is refused.
use Rattle.std.proofs.Common.{◌≡◌, ◌≤◌, ℕ, List, [], false, cond, length, nat_lt, inl, inr, ap, subst, ◌∙◌, arith, codes}
use Rattle.std.specs.Prelude.{Option, None, Some, Result, Ok, Err, IfOk, OnOk}
use Rattle.std.proofs.lemmas.Bool.Decides.{nat_tests}
use Rattle.input_output.specs.Memory.{content_steadily}
use Rattle.input_output.specs.Source.{Content, Rose}
use Rattle.input_output.specs.declared.inputs.Input.{Input}
use Rattle.elf_image.specs.Checks.{fault_of}
use Rattle.elf_image.specs.declared.fault.ElfFault.{ElfFault}
use Rattle.command_line.specs.Settings.{Settings}
use Rattle.command_line.specs.declared.generating.GenerateSettings.{GenerateSettings}
use Rattle.tree_document.specs.Meaning.{meaning}
use Rattle.tree_model.specs.Tree.{Tree}
use Rattle.guest_kit.specs.Generated.{IsGenerated}
use Rattle.guest_kit.specs.declared.generated.Generated.{Generated}
use Rattle.launch_reading.specs.Launch.{Described, unknown, refuses, describes, described_at, described_by, described_optional, described_text, described_tree, described_with, input_limit, standard_input, times_of, IsKnownAs}
use Rattle.launch_reading.specs.LaunchText.{TextPlan, planned_text}
use Rattle.launch_reading.specs.Refusal.{too_long_line}
use Rattle.launch_reading.specs.declared.inputs.Inputs.{Inputs}
use Rattle.book_report.specs.Growth.{Growth}
use Rattle.book_report.specs.Shown.{record_summary}
use Rattle.launch_run.specs.TopCall.{IsTopEnd}
use Rattle.launch_run.specs.GeneratedCall.{AreShort, IsGeneratedRun, IsSourceFor, generated_content, generated_describe, generated_inputs, settings_for}
use Rattle.launch_run.specs.declared.top.TopEnd.{TopEnd}

-- a source that never fails counts no fault
pub no_rise : Rose 0 0 → ⊥
no_rise (inl more) = omega arith
no_rise (inr last) = omega arith

-- the status of a refusal that is described
abbrev described_status : Described → ℕ
described_status unknown = 0
described_status (refuses status line) = status
described_status (describes launch) = 0

not_66_text : (settings : Settings) (inputs : Inputs) (tree : Tree) (plan : TextPlan) (line : List ℕ)
    → IsKnownAs (described_text settings inputs tree plan) (refuses 66 line) → ⊥
not_66_text settings inputs tree (Ok planned) line is = let same : ◌≡◌ {A = ℕ} 0 66 = ap described_status is in omega arith
not_66_text settings inputs tree (Err fault) line is = let same : ◌≡◌ {A = ℕ} 65 66 = ap described_status is in omega arith

not_66_tree : (settings : Settings) (inputs : Inputs) (read : Result Tree ℕ) (line : List ℕ) → IsKnownAs (described_tree settings inputs read) (refuses 66 line) → ⊥
not_66_tree settings inputs (Ok tree) line is = not_66_text settings inputs tree (planned_text tree inputs.text) line is
not_66_tree settings inputs (Err byte) line is = let same : ◌≡◌ {A = ℕ} 68 66 = ap described_status is in omega arith

not_66_at : (settings : Settings) (inputs : Inputs) (found : Option ElfFault) (line : List ℕ) → IsKnownAs (described_at settings inputs found) (refuses 66 line) → ⊥
not_66_at settings inputs None line is = not_66_tree settings inputs (meaning (times_of settings) inputs.tree) line is
not_66_at settings inputs (Some fault) line is = let same : ◌≡◌ {A = ℕ} 67 66 = ap described_status is in omega arith

not_66 : (settings : Settings) (inputs : Inputs) (line : List ℕ) → IsKnownAs (described_by settings inputs) (refuses 66 line) → ⊥
unfolding described_by
not_66 settings inputs line is = not_66_at settings inputs (fault_of inputs.program) line is

not_longer : (limit size : ℕ) → size ≤ limit → nat_lt limit size ≡ false
not_longer limit size short = grind (arith, nat_tests)

read_short : (name bytes : List ℕ) (next : List ℕ → Described) → length bytes ≤ input_limit → described_with name (Content bytes) next ≡ next bytes
read_short name bytes next short = ap (λ b. cond b (refuses 66 (too_long_line name)) (next bytes)) (not_longer input_limit (length bytes) short)

module _ (numbers : GenerateSettings) (g : Generated) (short : AreShort g) where
  described_is : generated_describe numbers g
      ≡ described_by (settings_for numbers) (record { program = g.program; text = g.launch; tree = g.tree; stdin = [] })
  described_is =
      read_short (codes "program") g.program
      (λ program. described_optional (Some standard_input) (generated_content g) (λ text. described_optional (Some (codes "tree")) (generated_content g) (λ tree.
      described_by (settings_for numbers) (record { program = program; text = text; tree = tree; stdin = [] })))) short.program
      ∙ read_short standard_input g.launch
      (λ text. described_optional (Some (codes "tree")) (generated_content g) (λ tree.
      described_by (settings_for numbers) (record { program = g.program; text = text; tree = tree; stdin = [] }))) short.launch
      ∙ read_short (codes "tree") g.tree (λ tree. described_by (settings_for numbers) (record { program = g.program; text = g.launch; tree = tree; stdin = [] })) short.tree

  -- no input is described as one that can't be read or is too long
  pub no_input_refused : (line : List ℕ) → IsKnownAs (generated_describe numbers g) (refuses 66 line) → ⊥
  no_input_refused line is =
      not_66 (settings_for numbers) (record { program = g.program; text = g.launch; tree = g.tree; stdin = [] }) line
      (subst (λ (d : Described). IsKnownAs d (refuses 66 line)) described_is is)

-- inputs that were generated
pub source_for : {E : Type 0} (processes : ℕ) (g : Generated) → IsGenerated processes g → (r : Result (List Input) E) → IfOk r (λ inputs. inputs ≡ generated_inputs g)
    → OnOk r (AreShort g) → IfOk r (IsSourceFor processes)
source_for processes g is (Ok inputs) same short = record { generated = g; is = is; short = short; inputs_are = same }
source_for processes g is (Err error) same short = tt

-- a run of inputs that were generated
pub run_of : (numbers : GenerateSettings) (inputs : List Input) → IsSourceFor numbers.processes inputs → (settings : Settings) → settings ≡ settings_for numbers
    → (growth : Growth) (end : TopEnd)
    → IsTopEnd (Some settings) (content_steadily inputs) (Rose 0 0) (record_summary numbers.processes) growth end → IsGeneratedRun numbers growth end
run_of numbers inputs source settings same growth end ends = record {
  generated = source.generated;
  is = source.is;
  short = source.short;
  ends =
      subst (λ (s : Settings). IsTopEnd (Some s) (generated_content source.generated) (Rose 0 0) (record_summary numbers.processes) growth end) same
      (subst (λ (all : List Input). IsTopEnd (Some settings) (content_steadily all) (Rose 0 0) (record_summary numbers.processes) growth end)
      source.inputs_are ends);
}
