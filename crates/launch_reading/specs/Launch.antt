-- What words and inputs describe: a launch, or the first refusal.
use Rattle.std.specs.Prelude.{◌≡◌, ◌≤◌, ◌++◌, ℕ, ◌⊎◌, ⊤, Bool, false, List, [], ◌∷◌, cond, length, nat_lt, Option, None, Some, Result, Ok, Err}
use Rattle.std.specs.Option.{option_to_list}
use Rattle.input_output.specs.Source.{InputContent, Unknown, Lacking, Content}
use Rattle.input_output.specs.declared.whole.TheConstants.{INPUT_LIMIT}
use Rattle.elf_image.specs.Checks.{fault_of}
use Rattle.elf_image.specs.Image.{image}
use Rattle.elf_image.specs.declared.fault.ElfFault.{ElfFault}
use Rattle.run_types.specs.declared.launch.Launch.{Launch}
use Rattle.abi_base.specs.declared.grant.Grant.{Grant}
use Rattle.abi_types.specs.declared.node.Times.{Times}
use Rattle.command_line.specs.Settings.{Settings}
use Rattle.command_line.specs.Reading.{words_of}
use Rattle.tree_model.specs.Tree.{Tree}
use Rattle.tree_document.specs.Meaning.{meaning}
use Rattle.launch_reading.specs.LaunchText.{TextPlan, planned_text}
use Rattle.launch_reading.specs.Refusal.{words_line, input_line, too_long_line, program_line, tree_line, launch_line, line_of, status_of}
use Rattle.launch_reading.specs.declared.inputs.Inputs.{Inputs}
use Rattle.launch_reading.specs.declared.refusal.LaunchRefusal.{LaunchRefusal}
use Rattle.launch_reading.specs.declared.refusal.LaunchRefusal.TheVariants.{Input, TooLong, Memory}

-- What is described: a launch; a refusal with its status and its line; or nothing that could be compared, where the
-- source does not show an input.
pub data Described : Type 0 where
  unknown : Described
  refuses : ℕ → List ℕ → Described
  describes : Launch → Described

-- the most bytes that an input may have
abbrev pub input_limit : ℕ
input_limit = INPUT_LIMIT

-- the times of all nodes that a launch begins with
abbrev pub times_of : Settings → Times
times_of settings = record { atim = settings.epoch; mtim = settings.epoch; ctim = settings.epoch }

-- the launch of these settings and inputs, with a file tree, under what the launch text gives
abbrev pub launch_with : Settings → Inputs → Tree → List ℕ × List Grant → Launch
launch_with settings inputs tree planned = record {
  elf = image inputs.program;
  argdata = planned.0;
  grants = planned.1;
  tree = tree;
  stdin = inputs.stdin;
  constants = record { key = settings.key; epoch = settings.epoch };
  turns = settings.turns;
}

abbrev pub described_text : Settings → Inputs → Tree → TextPlan → Described
described_text settings inputs tree (Ok planned) = describes (launch_with settings inputs tree planned)
described_text settings inputs tree (Err fault) = refuses 65 (launch_line fault)

-- what the inputs describe, where the tree document means this tree, or is faulty at this byte
abbrev pub described_tree : Settings → Inputs → Result Tree ℕ → Described
described_tree settings inputs (Ok tree) = described_text settings inputs tree (planned_text tree inputs.text)
described_tree settings inputs (Err byte) = refuses 68 (tree_line byte)

-- what the inputs describe, where this is the program's first fault, if it has one
abbrev pub described_at : Settings → Inputs → Option ElfFault → Described
described_at settings inputs (Some fault) = refuses 67 (program_line fault)
described_at settings inputs None = described_tree settings inputs (meaning (times_of settings) inputs.tree)

-- what the contents of the inputs describe: first the program is looked at, then the tree document, then the launch text
unfoldable pub described_by : Settings → Inputs → Described
described_by settings inputs = described_at settings inputs (fault_of inputs.program)

-- what an input describes of which this is known, where what its bytes describe is given
abbrev pub described_with : List ℕ → InputContent → (List ℕ → Described) → Described
described_with name Unknown next = unknown
described_with name Lacking next = refuses 66 (input_line name)
described_with name (Content bytes) next = cond (nat_lt input_limit (length bytes)) (refuses 66 (too_long_line name)) (next bytes)

-- the same of an input that may not be asked for, and is empty then
abbrev pub described_optional : Option (List ℕ) → (List ℕ → InputContent) → (List ℕ → Described) → Described
described_optional None content next = next []
described_optional (Some name) content next = described_with name (content name) next

-- the name of standard input, which has the launch text
abbrev pub standard_input : List ℕ
standard_input = 45 ∷ []

-- what the inputs of these settings describe, which are looked at in this order
abbrev pub inputs_describe : Settings → (List ℕ → InputContent) → Described
inputs_describe settings content =
    described_optional (Some settings.program) content (λ program.
    described_optional (Some standard_input) content (λ text.
    described_optional settings.tree content (λ tree.
    described_optional settings.stdin content (λ stdin.
    described_by settings (record { program = program; text = text; tree = tree; stdin = stdin })))))

-- what words describe that give these settings, or none
abbrev pub words_describe : Option Settings → (List ℕ → InputContent) → Described
words_describe None content = refuses 2 words_line
words_describe (Some settings) content = inputs_describe settings content

-- What words describe, where this is known of each input: first the words are looked at, then the inputs in their order,
-- then the program, the tree document and the launch text.
abbrev pub launch_of : List (List ℕ) → (List ℕ → InputContent) → Described
launch_of words content = words_describe (words_of words) content

-- the names of the inputs of settings, in their order
abbrev pub settings_inputs : Settings → List (List ℕ)
settings_inputs settings = settings.program ∷ standard_input ∷ (option_to_list settings.tree ++ option_to_list settings.stdin)

-- the inputs of words that give these settings, or none
abbrev pub inputs_with : Option Settings → List (List ℕ)
inputs_with None = []
inputs_with (Some settings) = settings_inputs settings

-- the names of the inputs that the words ask for, in their order
abbrev pub inputs_of : List (List ℕ) → List (List ℕ)
inputs_of words = inputs_with (words_of words)

-- whether the settings that words give, or none, ask for the history
abbrev pub history_with : Option Settings → Bool
history_with None = false
history_with (Some settings) = settings.history

-- whether the words ask for the history
abbrev pub asks_history : List (List ℕ) → Bool
asks_history words = history_with (words_of words)

-- this is what is described, where anything is known of it
abbrev pub IsKnownAs : Described → Described → Type 0
IsKnownAs unknown answer = ⊤
IsKnownAs (refuses status line) answer = refuses status line ≡ answer
IsKnownAs (describes launch) answer = describes launch ≡ answer

-- a launch of these settings: the image of a program without fault, the tree that a tree document means, what a launch text
-- without fault gives by this tree, and the settings' key, epoch and turns
pub record IsBuiltLaunch (settings : Settings) (launch : Launch) : Type 0 where
  pub program : List ℕ
  pub document : List ℕ
  pub text : List ℕ
  pub sound : fault_of program ≡ None
  pub elf : launch.elf ≡ image program
  pub short : length document ≤ input_limit
  pub tree : meaning (times_of settings) document ≡ Ok launch.tree
  pub planned : planned_text launch.tree text ≡ Ok (launch.argdata, launch.grants)
  pub key : launch.constants.key ≡ settings.key
  pub epoch : launch.constants.epoch ≡ settings.epoch
  pub turns : launch.turns ≡ settings.turns

-- the same of words that give these settings
abbrev pub IsBuiltBy : Option Settings → Launch → Type 0
IsBuiltBy None launch = ⊥
IsBuiltBy (Some settings) launch = IsBuiltLaunch settings launch

-- the refusal is of an input that could not be read, with such a name
abbrev pub IfInput : LaunchRefusal → (List ℕ → Type 0) → Type 0
IfInput (Input name) P = P name.now
IfInput _ P = ⊤

-- the refusal is of an input that is too long, with such a name
abbrev pub IfTooLong : LaunchRefusal → (List ℕ → Type 0) → Type 0
IfTooLong (TooLong name) P = P name.now
IfTooLong _ P = ⊤

-- the refusal is of what the words and the inputs describe: it is no fault of reading and no lack of memory
abbrev pub IsOfTexts : LaunchRefusal → Type 0
IsOfTexts (Input name) = ⊥
IsOfTexts Memory = ⊥
IsOfTexts _ = ⊤

-- the refusal that is described, or lack of memory
abbrev pub IsRefusedAs : ℕ → List ℕ → Result Launch LaunchRefusal → Type 0
IsRefusedAs status line (Ok launch) = ⊥
IsRefusedAs status line (Err refusal) = (refusal ≡ Memory) ⊎ ((status_of refusal ≡ status) × (line_of refusal ≡ line))

-- What is answered is what is described, where anything is known of it, or lack of memory.
abbrev pub AnswersDescribed : Described → Result Launch LaunchRefusal → Type 0
AnswersDescribed unknown result = ⊤
AnswersDescribed (refuses status line) result = IsRefusedAs status line result
AnswersDescribed (describes launch) result = (result ≡ Ok launch) ⊎ (result ≡ Err Memory)
