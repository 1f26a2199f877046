-- The lines of a text: which label each defines, what it stands for, and how many bytes it takes. 32 is the space, 58 the
-- colon.
use Rattle.std.specs.Prelude.{ℕ, ◌≡◌, ◌+◌, ◌%◌, ◌==◌, Bool, false, cond, List, [], ◌∷◌, ◌++◌, length, map, take, Option, None, Some, option_map, is_some, is_none, unwrap_or}
use Rattle.abi_base.specs.declared.address_space.TheConstants.{INSTRUCTION_ALIGNMENT}
use Rattle.rv_asm.specs.declared.assembly.AsmFault.{AsmFault}
use Rattle.rv_asm.specs.declared.assembly.AsmFault.TheVariants.{Line, NoMemory}
use Rattle.rv_syntax.specs.declared.form.Form.{Form}
use Rattle.rv_syntax.specs.Chain.{◌>>=◌}
use Rattle.rv_asm.specs.Directives.{directive_of}
use Rattle.rv_syntax.specs.Forms.{is_directive}
use Rattle.rv_asm.specs.Instructions.{code_of}
use Rattle.rv_asm.specs.Items.{Item, Bytes, AreBytesOf}
use Rattle.rv_syntax.specs.Mnemonics.{form_of}
use Rattle.rv_syntax.specs.Names.{lookup, is_name}
use Rattle.rv_asm.specs.Sizes.{size_in}
use Rattle.rv_syntax.specs.Text.{lines_of, split_at, trim, without_comment, has_control}

-- ---- the parts of a line

-- a line without its comment and its outer spaces
abbrev pub bare_of : List ℕ → List ℕ
bare_of line = trim (without_comment false line)

-- two parts, of which the first may be a label
abbrev pub named : List ℕ × List ℕ → Option (List ℕ × List ℕ)
named parts = cond (is_name parts.0) (Some parts) None

-- a label that a line begins with, and what stands behind its colon
unfoldable pub labelled_of : List ℕ → Option (List ℕ × List ℕ)
labelled_of bare = split_at 58 bare >>= named

-- the label that a line defines; a line that is outside the grammar may define one too
abbrev pub label_of : List ℕ → Option (List ℕ)
label_of line = option_map (λ parts. parts.0) (labelled_of (bare_of line))

-- what stands in a line besides its label
abbrev pub content_behind : List ℕ → Option (List ℕ × List ℕ) → List ℕ
content_behind bare None = bare
content_behind bare (Some parts) = trim parts.1

abbrev pub content_of : List ℕ → List ℕ
content_of line = content_behind (bare_of line) (labelled_of (bare_of line))

-- a mnemonic and its operands, which stand behind the first space
abbrev pub operation_in : List ℕ → Option (List ℕ × List ℕ) → List ℕ × List ℕ
operation_in content None = (content, [])
operation_in content (Some parts) = (parts.0, trim parts.1)

abbrev pub operation_of : List ℕ → List ℕ × List ℕ
operation_of content = operation_in content (split_at 32 content)

-- ---- sizes

-- how many bytes a line with this content takes; none, where its mnemonic is none
unfoldable pub size_of_content : List ℕ → ℕ
size_of_content content =
    let operation = operation_of content in
    size_in (form_of operation.0) operation.1

-- how many bytes a line takes
abbrev pub size_of : List ℕ → ℕ
size_of line = size_of_content (content_of line)

-- ---- what lines stand for

-- what a form at this address stands for
unfoldable pub item_at : List (List ℕ × Option ℕ) → ℕ → List ℕ → Form → Option Item
item_at labels here text form =
    cond (is_directive form) (directive_of form text)
    (cond (here % INSTRUCTION_ALIGNMENT == 0) (code_of form labels here text)
    None)

-- what a line's content stands for; an empty one stands for no bytes
unfoldable pub item_of : List (List ℕ × Option ℕ) → ℕ → List ℕ → Option Item
item_of labels here content =
    let operation = operation_of content in
    cond (length content == 0) (Some (Bytes [])) (form_of operation.0 >>= item_at labels here operation.1)

-- whether a label is among these
abbrev pub is_defined : List (List ℕ × Option ℕ) → Option (List ℕ) → Bool
is_defined labels None = false
is_defined labels (Some name) = is_some (lookup labels name)

-- What a line stands for, where the first labels are those of the whole text and the second those of the lines before it;
-- nothing, where it is outside the grammar. Its comment may have control characters.
unfoldable pub line_item : List (List ℕ × Option ℕ) → List (List ℕ × Option ℕ) → ℕ → List ℕ → Option Item
line_item labels before here line =
    cond (has_control (without_comment false line)) None
    (cond (is_defined before (label_of line)) None
    (item_of labels here (content_of line)))

-- ---- a text

-- the labels up to a line and with the line's own, which is at this address
abbrev pub with_label : List (List ℕ × Option ℕ) → ℕ → Option (List ℕ) → List (List ℕ × Option ℕ)
with_label before here None = before
with_label before here (Some name) = before ++ (name, Some here) ∷ []

-- the labels after lines, with their addresses; the first line is at this address
abbrev pub labels_after : List (List ℕ × Option ℕ) → ℕ → List (List ℕ) → List (List ℕ × Option ℕ)
labels_after before here [] = before
labels_after before here (line ∷ lines) = labels_after (with_label before here (label_of line)) (here + size_of line) lines

-- the labels of a text
abbrev pub labels_of : List (List ℕ) → List (List ℕ × Option ℕ)
labels_of lines = labels_after [] 0 lines

-- the number of the first line that is outside the grammar, where the first line has number n
abbrev pub fault_from : List (List ℕ × Option ℕ) → List (List ℕ × Option ℕ) → ℕ → ℕ → List (List ℕ) → Option ℕ
fault_from labels before here n [] = None
fault_from labels before here n (line ∷ lines) =
    cond (is_none (line_item labels before here line)) (Some n)
    (fault_from labels (with_label before here (label_of line)) (here + size_of line) (n + 1) lines)

-- labels without their addresses: they are defined, and have no distance
abbrev pub unplaced : List (List ℕ × Option ℕ) → List (List ℕ × Option ℕ)
unplaced labels = map (λ row. (row.0, None)) labels

-- how many lines stand before the first one that is outside the grammar wherever labels are
abbrev pub first_broken : List (List ℕ) → Option ℕ
first_broken lines = fault_from (unplaced (labels_of lines)) [] 0 0 lines

-- the labels up to the line of this index and with its own; those behind it have no address
abbrev pub labels_up_to : List (List ℕ) → ℕ → List (List ℕ × Option ℕ)
labels_up_to lines i = labels_of (take (i + 1) lines) ++ unplaced (labels_of lines)

-- The number of the first line that is outside the grammar. Where the line of an index is outside wherever labels are, it is
-- that one, or one before it that can't hold the distance of a label. A label behind it has none, and no line before it is
-- outside for such a label.
abbrev pub fault_with : List (List ℕ) → Option ℕ → Option ℕ
fault_with lines None = fault_from (labels_of lines) [] 0 1 lines
fault_with lines (Some i) = Some (unwrap_or (fault_from (labels_up_to lines i) [] 0 0 (take i lines)) i + 1)

-- the number of the first line of a text that is outside the grammar; nothing, where all are inside
abbrev pub first_fault : List ℕ → Option ℕ
first_fault text = fault_with (lines_of text) (first_broken (lines_of text))

-- bytes of lines: those of the first line, which are as many as its size says, and then those of the others
abbrev pub AreBytesFrom : List (List ℕ × Option ℕ) → List (List ℕ × Option ℕ) → ℕ → List (List ℕ) → List ℕ → Type 0
AreBytesFrom labels before here [] out = out ≡ []
AreBytesFrom labels before here (line ∷ lines) out =
    (item : Item) × (first : List ℕ) × (rest : List ℕ)
    × (line_item labels before here line ≡ Some item) × AreBytesOf item first × (length first ≡ size_of line) × (out ≡ first ++ rest)
    × AreBytesFrom labels (with_label before here (label_of line)) (here + size_of line) lines rest

-- bytes of a text: those of all its lines, in their order
abbrev pub Assembles : List ℕ → List ℕ → Type 0
Assembles text out = AreBytesFrom (labels_of (lines_of text)) [] 0 (lines_of text) out

-- what a fault says of the first line that is outside the grammar; that memory ran out says nothing of it
abbrev pub IsFaultOf : AsmFault → Option ℕ → Type 0
IsFaultOf (Line n) first = first ≡ Some n
IsFaultOf NoMemory first = Unit {0}
