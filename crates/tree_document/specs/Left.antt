-- What is left to print of a tree, while its directories are gone through.
--     rows_of t path es      the rows of names in the directory of a path
--     rows_left t frames      the rows of the names that are left of directories, the last one first
--     steps_left t frames      how many steps they take at most
--     IsPrinted t bytes number known rows      what was printed, how many records, and what is known of it, once these rows are
--     IsGoing t bytes number known frames      what was printed, and what is left, are all rows
use Rattle.std.specs.Prelude.{◌≡◌, ℕ, ◌+◌, ◌-◌, ◌*◌, ◌≤◌, length, true, List, [], ◌∷◌, ◌++◌, Option, None, Some}
use Rattle.std.specs.FinMap.{FinMap, get, insert, len}
use Rattle.std.specs.List.{flat_map}
use Rattle.std.specs.Ordering.{nat_cmp}
use Rattle.tree_model.specs.Changes.{is_file}
use Rattle.tree_model.specs.Climbing.{depth}
use Rattle.tree_model.specs.Tree.{Tree}
use Rattle.tree_document.specs.declared.printing.Frame.{Frame}
use Rattle.tree_document.specs.Printing.{Row, below_path, first_in, listed, listing, rows_text}

abbrev pub Entries : Type 0
Entries = List (List ℕ × ℕ)

-- how long a chain of names from the node on may be
abbrev pub reach : Tree → ℕ → ℕ
reach t n = len t.nodes - depth t n

-- the rows of names in the directory of a path, and of what is below them
abbrev pub rows_of : Tree → List ℕ → Entries → List Row
rows_of t path es = flat_map (λ e. (below_path path e.0, e.1) ∷ listed (reach t e.1) t (below_path path e.0) e.1) es

-- the rows that are left, of the last directory first
abbrev pub rows_left : Tree → List Frame → List Row
rows_left t [] = []
rows_left t (frame ∷ frames) = rows_left t frames ++ rows_of t frame.path.items frame.names

-- a step prints a row, or is done with a directory
abbrev pub steps_left : Tree → List Frame → ℕ
steps_left t frames = 2 * length (rows_left t frames) + length frames

-- the paths of first names, by the numbers of the files
abbrev pub Firsts : Type 0
Firsts = FinMap nat_cmp (List ℕ)

abbrev pub with_first_in : Firsts → ℕ → List ℕ → Option (List ℕ) → Firsts
with_first_in firsts n path None = insert firsts n path
with_first_in firsts n path (Some first) = firsts

-- with a path of the file, unless there is an earlier one
abbrev pub with_first : Firsts → ℕ → List ℕ → Firsts
with_first firsts n path = with_first_in firsts n path (get firsts n)

-- these rows are printed and counted, and the first path of each file among them is known; no row is printed as nothing
pub record IsPrinted (t : Tree) (bytes : List ℕ) (number : ℕ) (known : Firsts) (rows : List Row) : Type 0 where
  pub text : bytes ≡ rows_text t [] rows
  pub counted : number ≡ length rows
  pub few : number ≤ length bytes
  pub firsts : (n : ℕ) → is_file t n ≡ true → get known n ≡ first_in rows n

-- some rows are printed, and the others are left
pub record IsGoing (t : Tree) (bytes : List ℕ) (number : ℕ) (known : Firsts) (frames : List Frame) : Type 0 where
  pub rows : List Row
  pub printed : IsPrinted t bytes number known rows
  pub left : listing t ≡ rows ++ rows_left t frames
