-- Documents of launch files as texts.
use Rattle.std.specs.Prelude.{ℕ, ◌≡◌, false, List, Ok}
use Rattle.launch_values.specs.Documents.{IsDocument}
use Rattle.launch_values.specs.Shape.{Shape}
use Rattle.launch_yaml.specs.Document.{parse_at}
use Rattle.launch_yaml.specs.Renumbering.{renumber}
use Rattle.launch_laws.specs.Printed.{printed, IsEncodable, IsPrintable, HasFlowNames}

-- the document, with each line the first
abbrev pub on_line_one : Shape → Shape
on_line_one = renumber (λ n. 1)

-- a document's text is read as the document
abbrev pub PrintedReadsBack : Type 0
PrintedReadsBack = (x : Shape) → IsPrintable x → parse_at (printed x) ≡ Ok (on_line_one x)

-- Each document that a text is can be encoded, with names of tags that can stand on rows.
abbrev pub ReadIsEncodable : Type 0
ReadIsEncodable = (text : List ℕ) (x : Shape) → parse_at text ≡ Ok x → IsDocument x × IsEncodable false x

-- Each document that a text is can be printed, where the names of the tags inside its maps and sequences can stand in a flow
-- value. They may have stood on rows, where a comma, a bracket and a brace end no name.
abbrev pub ReadIsPrintable : Type 0
ReadIsPrintable = (text : List ℕ) (x : Shape) → parse_at text ≡ Ok x → HasFlowNames x → IsPrintable x
