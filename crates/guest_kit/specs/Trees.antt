-- The tree document of a workload of n children: what it is as a whole.
use Rattle.std.specs.Prelude.{ℕ, ◌+◌, ◌*◌, ◌/◌, ◌%◌, List, [], ◌∷◌, ◌++◌, map, codes}
use Rattle.std.specs.Fmt.{decimal}
use Rattle.std.specs.List.{flat_map, range_with_len}

-- three decimal digits of a number below 1000
abbrev pub three_digits : ℕ → List ℕ
three_digits n = (48 + n / 100) ∷ (48 + n / 10 % 10) ∷ (48 + n % 10) ∷ []

-- how many bytes file i has
abbrev pub content_length : ℕ → ℕ
content_length i = 32 * (i + 1)

-- byte k of file i
abbrev pub content_byte : ℕ → ℕ → ℕ → ℕ
content_byte n i k = (7 * k + 13 * i + n) % 251

-- the bytes of file i
abbrev pub content : ℕ → ℕ → List ℕ
content n i = map (content_byte n i) (range_with_len 0 (content_length i))

-- the record of file i, which is `in/f` and three digits
abbrev pub file_text : ℕ → ℕ → List ℕ
file_text n i =
    codes "file " ++ (decimal (content_length i) ++ (codes " in/f" ++ (three_digits i ++ (10 ∷ (content n i ++ 10 ∷ [])))))

-- the document: a directory, its files from file 0 on, and an empty directory
unfoldable pub tree_text : ℕ → List ℕ
tree_text n = codes "dir in\n" ++ (flat_map (file_text n) (range_with_len 0 n) ++ codes "dir out\n")
