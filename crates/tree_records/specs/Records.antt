-- The records of a tree document, and the text that encodes each.
--     Record, path_of r      a record;  its path
--     IsLinkText text, IsRecord r      what may be a symlink's text;  what may be a record by itself
--     encoded r      the text of a record
use Rattle.std.specs.Prelude.{ℕ, ◌<◌, ◌≤◌, List, [], ◌∷◌, ◌++◌, length, codes}
use Rattle.std.specs.Fmt.{decimal}
use Rattle.std.specs.List.{AllByRecursion}
use Rattle.std.specs.Str.{IsUtf8}
use Rattle.tree_model.specs.declared.limits.TheConstants.{MOST_FILE_BYTES}
use Rattle.tree_records.specs.declared.limits.TheConstants.{MOST_TEXT_BYTES}
use Rattle.tree_records.specs.Escapes.{escaped}
use Rattle.tree_records.specs.Paths.{Path, path_bytes, IsPath}

-- A record makes a directory, a file with its bytes, a symlink with its text, or one more name of the file that an earlier
-- record made at a path.
pub data Record : Type 0 where
  dir : Path → Record
  file : Path → List ℕ → Record
  link : Path → List ℕ → Record
  hard : Path → Path → Record

-- the path at which the record makes a name
abbrev pub path_of : Record → Path
path_of (dir p) = p
path_of (file p bytes) = p
path_of (link p text) = p
path_of (hard p target) = p

-- what may be a symlink's text: UTF-8, not empty, not too long, and without zero bytes
pub record IsLinkText (text : List ℕ) : Type 0 where
  pub utf8 : IsUtf8 text
  pub some : 0 < length text
  pub no_zero : AllByRecursion (λ b. 0 < b) text
  pub short : length text ≤ MOST_TEXT_BYTES

-- what may be a record, whatever stands before it
abbrev pub IsRecord : Record → Type 0
IsRecord (dir p) = IsPath p
IsRecord (file p bytes) = IsPath p × (length bytes ≤ MOST_FILE_BYTES)
IsRecord (link p text) = IsPath p × IsLinkText text
IsRecord (hard p target) = IsPath p × IsPath target

-- a line with a word and a path
abbrev pub line : List ℕ → List ℕ → List ℕ
line word path = word ++ (32 ∷ (escaped path ++ 10 ∷ []))

-- a line with a word, the length of the content, and a path; then the content as a line
abbrev pub line_with : List ℕ → List ℕ → List ℕ → List ℕ
line_with word path content = word ++ (32 ∷ (decimal (length content) ++ (32 ∷ (escaped path ++ (10 ∷ (content ++ 10 ∷ []))))))

-- the text of each kind of record, by the bytes of its path and its content
abbrev pub dir_text : List ℕ → List ℕ
dir_text path = line (codes "dir") path

abbrev pub file_text : List ℕ → List ℕ → List ℕ
file_text path bytes = line_with (codes "file") path bytes

abbrev pub link_text : List ℕ → List ℕ → List ℕ
link_text path text = line_with (codes "link") path text

abbrev pub hard_text : List ℕ → List ℕ → List ℕ
hard_text path target = line_with (codes "hard") path (escaped target)

-- the text of a record
abbrev pub encoded : Record → List ℕ
encoded (dir p) = dir_text (path_bytes p)
encoded (file p bytes) = file_text (path_bytes p) bytes
encoded (link p text) = link_text (path_bytes p) text
encoded (hard p target) = hard_text (path_bytes p) (path_bytes target)
