-- What was read and refused, and what is described.
use Rattle.std.proofs.Common.{◌≡◌, ◌≤◌, ℕ, false, cond, List, [], ◌∷◌, ◌++◌, length, sym, refl, subst, arith, suc, inl, inr}
use Rattle.std.specs.Prelude.{nat_lt, Option, None, Some, Result, Ok, Err, IfOk, IfErr, Contains}
use Rattle.std.specs.Option.{option_to_list}
use Rattle.std.proofs.lemmas.List.{append-nil}
use Rattle.std.proofs.lemmas.Bool.{le-ltb, lt-ltb}
use Rattle.input_output.specs.Source.{InputContent, Unknown, Lacking, Content, IsWhole, IsLongerThan}
use Rattle.elf_image.specs.Checks.{fault_of}
use Rattle.elf_image.specs.declared.fault.ElfFault.{ElfFault}
use Rattle.run_types.specs.declared.launch.Launch.{Launch}
use Rattle.command_line.specs.Settings.{Settings}
use Rattle.launch_reading.specs.Inputs.{AreRead, IsReadAs, IsUnread, IsUnreadOf, IsNoLaunch, IsNoLaunchOf}
use Rattle.launch_reading.specs.Launch.{Described, unknown, refuses, describes, input_limit, standard_input, launch_with, times_of, described_text, described_tree, described_at, described_by, described_with, described_optional, inputs_describe, settings_inputs, IsKnownAs, IsBuiltLaunch, AnswersDescribed}
use Rattle.launch_reading.specs.LaunchText.{TextPlan, planned_text}
use Rattle.tree_model.specs.Tree.{Tree as FileTree}
use Rattle.tree_document.specs.Meaning.{meaning}
use Rattle.launch_reading.specs.Refusal.{too_long_line}
use Rattle.launch_reading.specs.declared.inputs.Inputs.{Inputs}
use Rattle.launch_reading.specs.declared.refusal.LaunchRefusal.{LaunchRefusal}
use Rattle.launch_reading.specs.declared.refusal.LaunchRefusal.TheVariants.{Words, Input, TooLong, Program, Tree, LaunchText, Memory}

-- what is described is known as such
known_as : (s answer : Described) → s ≡ answer → IsKnownAs s answer
known_as unknown answer e = tt
known_as (refuses status line) answer e = e
known_as (describes launch) answer e = e

-- an input that was read describes what its bytes describe
input_read : (name : List ℕ) (t : InputContent) (next : List ℕ → Described) (bytes : List ℕ) (answer : Described) → IsWhole t bytes →
    length bytes ≤ input_limit → IsKnownAs (next bytes) answer → IsKnownAs (described_with name t next) answer
input_read name Unknown next bytes answer whole fits known = tt
input_read name Lacking next bytes answer whole fits known = absurd whole
input_read name (Content all) next bytes answer whole fits known =
    let short : nat_lt input_limit (length all) ≡ false = le-ltb _ _ (subst (λ xs. length xs ≤ input_limit) whole fits) in
    subst (λ b. IsKnownAs (cond b (refuses 66 (too_long_line name)) (next all)) answer) (sym short)
    (subst (λ xs. IsKnownAs (next xs) answer) whole known)

optional_read : (o : Option (List ℕ)) (content : List ℕ → InputContent) (next : List ℕ → Described) (bytes : List ℕ) (answer : Described) →
    IsReadAs o content bytes → IsKnownAs (next bytes) answer → IsKnownAs (described_optional o content next) answer
optional_read None content next bytes answer read h = subst (λ xs. IsKnownAs (next xs) answer) read h
optional_read (Some name) content next bytes answer read h = input_read name (content name) next bytes answer read.0 read.1 h

-- an input that is too long is refused
input_long : (name : List ℕ) (t : InputContent) (next : List ℕ → Described) → IsLongerThan input_limit t →
    IsKnownAs (described_with name t next) (refuses 66 (too_long_line name))
input_long name Unknown next long = tt
input_long name Lacking next long = absurd long
input_long name (Content all) next long =
    subst (λ b. IsKnownAs (cond b (refuses 66 (too_long_line name)) (next all)) (refuses 66 (too_long_line name))) (sym (lt-ltb _ _ long)) refl

-- what a source shows stays
pub read_as_known : (o : Option (List ℕ)) (content later : List ℕ → InputContent) (bytes : List ℕ) → ((n : List ℕ) → later n ≡ content n) → IsReadAs o later bytes → IsReadAs o content bytes
read_as_known None content later bytes stays read = read
read_as_known (Some name) content later bytes stays read = (subst (λ t. IsWhole t bytes) (stays name) read.0, read.1)

unread_known : (name : List ℕ) (content later : List ℕ → InputContent) (rose early : Type 0) (r : LaunchRefusal) → ((n : List ℕ) → later n ≡ content n) → (rose → early) →
    IsUnread name (later name) rose r → IsUnread name (content name) early r
unread_known name content later rose early Words stays since h = h
unread_known name content later rose early (Input n) stays since h = (h.0, since h.1)
unread_known name content later rose early (TooLong n) stays since h = (h.0, subst (IsLongerThan input_limit) (stays name) h.1)
unread_known name content later rose early (Program found) stays since h = h
unread_known name content later rose early (Tree byte) stays since h = h
unread_known name content later rose early (LaunchText fault) stays since h = h
unread_known name content later rose early Memory stays since h = h

pub optional_unread_known : (o : Option (List ℕ)) (content later : List ℕ → InputContent) (rose early : Type 0) (r : LaunchRefusal) → ((n : List ℕ) → later n ≡ content n) → (rose → early) →
    IsUnreadOf o later rose r → IsUnreadOf o content early r
optional_unread_known None content later rose early r stays since h = h
optional_unread_known (Some name) content later rose early r stays since h = unread_known name content later rose early r stays since h

-- an input was not read
unread_here : (o : Option (List ℕ)) (content : List ℕ → InputContent) (next : List ℕ → Described) (rest : List (List ℕ)) (rose : Type 0) (r : LaunchRefusal) →
    IsUnreadOf o content rose r → IsNoLaunchOf (option_to_list o ++ rest) (described_optional o content next) rose r
unread_here None content next rest rose r h = absurd h
unread_here (Some name) content next rest rose Words h = absurd h
unread_here (Some name) content next rest rose (Input n) h = ((0, omega arith, sym h.0), h.1)
unread_here (Some name) content next rest rose (TooLong n) h = (
  (0, omega arith, sym h.0),
  subst (λ m. IsKnownAs (described_with name (content name) next) (refuses 66 (too_long_line m))) (sym h.0) (input_long name (content name) next h.1),
)
unread_here (Some name) content next rest rose (Program found) h = absurd h
unread_here (Some name) content next rest rose (Tree byte) h = absurd h
unread_here (Some name) content next rest rose (LaunchText fault) h = absurd h
unread_here (Some name) content next rest rose Memory h = tt

-- a name of the others is one of all
behind_names : (o : Option (List ℕ)) (rest : List (List ℕ)) (n : List ℕ) → Contains rest n → Contains (option_to_list o ++ rest) n
behind_names None rest n h = h
behind_names (Some name) rest n h = (suc h.0, omega (arith, h.1), h.2)

-- an input was read, and one behind it gives no launch
unread_behind : (o : Option (List ℕ)) (content : List ℕ → InputContent) (next : List ℕ → Described) (bytes : List ℕ) (rest : List (List ℕ)) (rose : Type 0) (r : LaunchRefusal) →
    IsReadAs o content bytes → IsNoLaunchOf rest (next bytes) rose r → IsNoLaunchOf (option_to_list o ++ rest) (described_optional o content next) rose r
unread_behind o content next bytes rest rose Words read h = h
unread_behind o content next bytes rest rose (Input n) read h = (behind_names o rest n.now h.0, h.1)
unread_behind o content next bytes rest rose (TooLong n) read h = (behind_names o rest n.now h.0, optional_read o content next bytes _ read h.1)
unread_behind o content next bytes rest rose (Program found) read h = optional_read o content next bytes _ read h
unread_behind o content next bytes rest rose (Tree byte) read h = optional_read o content next bytes _ read h
unread_behind o content next bytes rest rose (LaunchText fault) read h = optional_read o content next bytes _ read h
unread_behind o content next bytes rest rose Memory read h = tt

-- what is described once these inputs were read
abbrev after_tree : Settings → List ℕ → List ℕ → List ℕ → List ℕ → Described
after_tree settings program text tree stdin = described_by settings (record { program = program; text = text; tree = tree; stdin = stdin })

abbrev after_text : Settings → (List ℕ → InputContent) → List ℕ → List ℕ → List ℕ → Described
after_text settings content program text tree = described_optional settings.stdin content (after_tree settings program text tree)

abbrev after_program : Settings → (List ℕ → InputContent) → List ℕ → List ℕ → Described
after_program settings content program text = described_optional settings.tree content (after_text settings content program text)

abbrev after_nothing : Settings → (List ℕ → InputContent) → List ℕ → Described
after_nothing settings content program = described_optional (Some standard_input) content (after_program settings content program)

-- an input was not read, where those before it were
module _ (settings : Settings) (content : List ℕ → InputContent) (rose : Type 0) (r : LaunchRefusal) (program : List ℕ) (read : IsReadAs (Some settings.program) content program) where
  pub text_unread : IsUnreadOf (Some standard_input) content rose r → IsNoLaunchOf (settings_inputs settings) (inputs_describe settings content) rose r
  text_unread h =
      unread_behind (Some settings.program) content (after_nothing settings content) program (standard_input ∷ (option_to_list settings.tree ++ option_to_list settings.stdin)) rose r read
      (unread_here (Some standard_input) content (after_program settings content program) (option_to_list settings.tree ++ option_to_list settings.stdin) rose r h)

  module _ (text : List ℕ) (text_read : IsReadAs (Some standard_input) content text) where
    behind_text : IsNoLaunchOf (option_to_list settings.tree ++ option_to_list settings.stdin) (after_program settings content program text) rose r →
        IsNoLaunchOf (settings_inputs settings) (inputs_describe settings content) rose r
    behind_text h =
        unread_behind (Some settings.program) content (after_nothing settings content) program (standard_input ∷ (option_to_list settings.tree ++ option_to_list settings.stdin)) rose r read
        (unread_behind (Some standard_input) content (after_program settings content program) text (option_to_list settings.tree ++ option_to_list settings.stdin) rose r text_read h)

    pub tree_unread : IsUnreadOf settings.tree content rose r → IsNoLaunchOf (settings_inputs settings) (inputs_describe settings content) rose r
    tree_unread h = behind_text (unread_here settings.tree content (after_text settings content program text) (option_to_list settings.stdin) rose r h)

    pub stdin_unread : (tree : List ℕ) → IsReadAs settings.tree content tree → IsUnreadOf settings.stdin content rose r →
        IsNoLaunchOf (settings_inputs settings) (inputs_describe settings content) rose r
    stdin_unread tree tree_read h =
        behind_text
        (unread_behind settings.tree content (after_text settings content program text) tree (option_to_list settings.stdin) rose r tree_read
        (subst (λ names. IsNoLaunchOf names (after_text settings content program text tree) rose r) (append-nil (option_to_list settings.stdin))
        (unread_here settings.stdin content (after_tree settings program text tree) [] rose r h)))

-- all inputs were read
pub all_read : (settings : Settings) (content : List ℕ → InputContent) (inputs : Inputs) (answer : Described) → AreRead settings content inputs →
    described_by settings inputs ≡ answer → IsKnownAs (inputs_describe settings content) answer
all_read settings content inputs answer read e =
    optional_read (Some settings.program) content (after_nothing settings content) inputs.program answer read.program
    (optional_read (Some standard_input) content (after_program settings content inputs.program) inputs.text answer read.text
    (optional_read settings.tree content (after_text settings content inputs.program inputs.text) inputs.tree answer read.tree
    (optional_read settings.stdin content (after_tree settings inputs.program inputs.text inputs.tree) inputs.stdin answer read.stdin
    (known_as (described_by settings inputs) answer e))))

-- the launch is the one that is described
pub launch_known : (settings : Settings) (content : List ℕ → InputContent) (inputs : Inputs) (r : Result Launch LaunchRefusal) → AreRead settings content inputs →
    IfOk r (λ launch. described_by settings inputs ≡ describes launch) → IfOk r (λ launch. IsKnownAs (inputs_describe settings content) (describes launch))
launch_known settings content inputs (Ok launch) read e = all_read settings content inputs (describes launch) read e
launch_known settings content inputs (Err refusal) read e = tt

-- the refusal is the one that is described
refusal_is_known : (names : List (List ℕ)) (settings : Settings) (content : List ℕ → InputContent) (inputs : Inputs) (rose : Type 0) (r : LaunchRefusal) → AreRead settings content inputs →
    IsNoLaunch (described_by settings inputs) r → IsNoLaunchOf names (inputs_describe settings content) rose r
refusal_is_known names settings content inputs rose Words read e = absurd e
refusal_is_known names settings content inputs rose (Input n) read e = absurd e
refusal_is_known names settings content inputs rose (TooLong n) read e = absurd e
refusal_is_known names settings content inputs rose (Program found) read e = all_read settings content inputs _ read e
refusal_is_known names settings content inputs rose (Tree byte) read e = all_read settings content inputs _ read e
refusal_is_known names settings content inputs rose (LaunchText fault) read e = all_read settings content inputs _ read e
refusal_is_known names settings content inputs rose Memory read e = tt

pub refusal_known : (settings : Settings) (content : List ℕ → InputContent) (inputs : Inputs) (rose : Type 0) (r : Result Launch LaunchRefusal) → AreRead settings content inputs →
    IfErr r (IsNoLaunch (described_by settings inputs)) → IfErr r (IsNoLaunchOf (settings_inputs settings) (inputs_describe settings content) rose)
refusal_known settings content inputs rose (Ok launch) read e = tt
refusal_known settings content inputs rose (Err refusal) read e = refusal_is_known (settings_inputs settings) settings content inputs rose refusal read e

-- what describes a launch describes one of a tree document and a launch text without fault
module _ (settings : Settings) (inputs : Inputs) (short : length inputs.tree ≤ input_limit) where
  built_with : (tree : FileTree) (planned : TextPlan) (launch : Launch) → fault_of inputs.program ≡ None → meaning (times_of settings) inputs.tree ≡ Ok tree →
      planned_text tree inputs.text ≡ planned → described_text settings inputs tree planned ≡ describes launch → IsBuiltLaunch settings launch
  built_with tree (Err fault) launch sound means is e = cc
  built_with tree (Ok planned) launch sound means is e =
      let same : launch_with settings inputs tree planned ≡ launch = cc in
      subst (IsBuiltLaunch settings) same (record {
        program = inputs.program;
        document = inputs.tree;
        text = inputs.text;
        sound = sound;
        elf = refl;
        short = short;
        tree = means;
        planned = is;
        key = refl;
        epoch = refl;
        turns = refl;
      })

  built_tree : (read : Result FileTree ℕ) (launch : Launch) → fault_of inputs.program ≡ None → meaning (times_of settings) inputs.tree ≡ read →
      described_tree settings inputs read ≡ describes launch → IsBuiltLaunch settings launch
  built_tree (Ok tree) launch sound means e = built_with tree (planned_text tree inputs.text) launch sound means refl e
  built_tree (Err byte) launch sound means e = cc

  built_at : (found : Option ElfFault) (launch : Launch) → fault_of inputs.program ≡ found → described_at settings inputs found ≡ describes launch → IsBuiltLaunch settings launch
  built_at (Some fault) launch is e = cc
  built_at None launch is e = built_tree (meaning (times_of settings) inputs.tree) launch is refl e

  pub built : (r : Result Launch LaunchRefusal) → IfOk r (λ launch. described_by settings inputs ≡ describes launch) → IfOk r (IsBuiltLaunch settings)
  unfolding described_by
  built (Ok launch) e = built_at (fault_of inputs.program) launch refl e
  built (Err refusal) e = tt

-- an input that was read is no longer than an input may be
pub read_short : (o : Option (List ℕ)) (content : List ℕ → InputContent) (bytes : List ℕ) → IsReadAs o content bytes → length bytes ≤ input_limit
read_short None content bytes read = subst (λ xs. length xs ≤ input_limit) (sym read) (omega arith)
read_short (Some name) content bytes read = read.1

-- what is answered is what is described
refusal_answers : (names : List (List ℕ)) (described : Described) (rose : Type 0) (r : LaunchRefusal) → ¬ rose → IsNoLaunchOf names described rose r → AnswersDescribed described (Err r)
refusal_answers names unknown rose r calm h = tt
refusal_answers names (refuses status line) rose Words calm h = absurd h
refusal_answers names (refuses status line) rose (Input n) calm h = absurd (calm h.1)
refusal_answers names (refuses status line) rose (TooLong n) calm h = inr (cc, cc)
refusal_answers names (refuses status line) rose (Program found) calm h = inr (cc, cc)
refusal_answers names (refuses status line) rose (Tree byte) calm h = inr (cc, cc)
refusal_answers names (refuses status line) rose (LaunchText fault) calm h = inr (cc, cc)
refusal_answers names (refuses status line) rose Memory calm h = inl refl
refusal_answers names (describes launch) rose Words calm h = absurd h
refusal_answers names (describes launch) rose (Input n) calm h = absurd (calm h.1)
refusal_answers names (describes launch) rose (TooLong n) calm h = absurd (cc)
refusal_answers names (describes launch) rose (Program found) calm h = absurd (cc)
refusal_answers names (describes launch) rose (Tree byte) calm h = absurd (cc)
refusal_answers names (describes launch) rose (LaunchText fault) calm h = absurd (cc)
refusal_answers names (describes launch) rose Memory calm h = inr refl

launch_answers : (described : Described) (launch : Launch) → IsKnownAs described (describes launch) → AnswersDescribed described (Ok launch)
launch_answers unknown launch h = tt
launch_answers (refuses status line) launch h = cc
launch_answers (describes other) launch h = inl (cc)

pub answers : (names : List (List ℕ)) (described : Described) (rose : Type 0) (r : Result Launch LaunchRefusal) → IfOk r (λ launch. IsKnownAs described (describes launch)) →
    IfErr r (IsNoLaunchOf names described rose) → ¬ rose → AnswersDescribed described r
answers names described rose (Ok launch) known refused calm = launch_answers described launch known
answers names described rose (Err refusal) known refused calm = refusal_answers names described rose refusal calm refused
