-- Parts of a text. 32 is the space, 34 the quotation mark, 35 the sign `#`.
use Rattle.std.specs.Prelude.{ℕ, ◌+◌, ◌==◌, ◌&&◌, ◌||◌, nat_lt, not, Bool, cond, List, [], ◌∷◌, reverse, take, drop, Option, option_map, position}
use Rattle.std.specs.List.{list_any, slice_split}

-- the lines of a text, between its line feeds
abbrev pub lines_of : List ℕ → List (List ℕ)
lines_of text = slice_split (λ b. b == 10) text

-- what stands before the first such byte, and what stands behind it; nothing, where there is none
abbrev pub split_at : ℕ → List ℕ → Option (List ℕ × List ℕ)
split_at byte text = option_map (λ i. (take i text, drop (i + 1) text)) (position (λ b. b == byte) text)

-- a text without the spaces that it begins with
abbrev pub trim_start : List ℕ → List ℕ
trim_start [] = []
trim_start (b ∷ bs) = cond (b == 32) (trim_start bs) (b ∷ bs)

-- a text without the spaces that it ends with
abbrev pub trim_end : List ℕ → List ℕ
trim_end text = reverse (trim_start (reverse text))

-- a text without its outer spaces
abbrev pub trim : List ℕ → List ℕ
trim text = trim_end (trim_start text)

-- a line without its comment, which begins with the first `#` outside quotation marks; the first argument says whether
-- the line's front ends inside them
abbrev pub without_comment : Bool → List ℕ → List ℕ
without_comment quoted [] = []
without_comment quoted (b ∷ bs) =
    cond (b == 35 && not quoted) [] (b ∷ without_comment (cond (b == 34) (not quoted) quoted) bs)

-- whether a byte is a control character
abbrev pub is_control : ℕ → Bool
is_control b = nat_lt b 32 || b == 127

-- whether a line has a control character
abbrev pub has_control : List ℕ → Bool
has_control line = list_any is_control line
