-- The record at the front of a text, read piece by piece.
--     split_once byte bytes      what stands before and behind the first such byte
--     number_at digits      the number of decimal digits, without leading zeros, as far as lengths go
--     content_at n bytes      n bytes before a line feed, and what stands behind that
--     unescaped text, path_at text      the bytes, and the path, that a text writes
--     record_at bytes      the record, and what stands behind it
use Rattle.std.specs.Prelude.{ℕ, zero, suc, ◌+◌, ◌-◌, ◌*◌, ◌==◌, ◌&&◌, ◌||◌, not, nat_lt, nat_le, nat_eq, Bool, if◌then◌else◌, List, [], ◌∷◌, length, take, drop, codes, slice_index, Option, Some, None, option_map}
use Rattle.std.specs.List.{list_all, slice_split}
use Rattle.std.specs.Str.{is_utf8}
use lib.Pointwise.{pointwise}
use Rattle.lists.specs.Options.{◌>>=◌}
use Rattle.tree_model.specs.declared.limits.TheConstants.{MOST_FILE_BYTES}
use Rattle.tree_records.specs.declared.limits.TheConstants.{MOST_NAME_BYTES, MOST_PATH_BYTES, MOST_TEXT_BYTES}
use Rattle.tree_records.specs.Escapes.{is_escaped}
use Rattle.tree_records.specs.Paths.{Path}
use Rattle.tree_records.specs.Records.{Record, dir, file, link, hard}

-- ---- pieces

-- what stands before the first such byte, and what stands behind it
abbrev pub split_once : ℕ → List ℕ → Option (List ℕ × List ℕ)
split_once byte [] = None
split_once byte (b ∷ bs) = if b == byte then Some ([], bs) else option_map (λ s. (b ∷ s.0, s.1)) (split_once byte bs)

abbrev pub is_digit : ℕ → Bool
is_digit b = not (nat_lt b 48) && nat_lt b 58

-- the number that decimal digits make behind a number; none of it may be longer than a file
abbrev pub number_behind : ℕ → List ℕ → Option ℕ
number_behind n [] = Some n
number_behind n (b ∷ bs) =
    if is_digit b && nat_le (10 * n + (b - 48)) MOST_FILE_BYTES then number_behind (10 * n + (b - 48)) bs else None

-- the number of decimal digits, without leading zeros
abbrev pub number_at : List ℕ → Option ℕ
number_at [] = None
number_at (b ∷ bs) = if (b == 48) && not (length bs == 0) then None else number_behind 0 (b ∷ bs)

-- n bytes before a line feed, and what stands behind that
abbrev pub content_at : ℕ → List ℕ → Option (List ℕ × List ℕ)
content_at n bytes = if nat_lt n (length bytes) && (slice_index bytes n == 10) then Some (take n bytes, drop (n + 1) bytes) else None

-- ---- paths

-- what a hexadecimal digit stands for, where letters are upper-case
abbrev pub digit_of : ℕ → Option ℕ
digit_of b = if is_digit b then Some (b - 48) else if not (nat_lt b 65) && nat_lt b 71 then Some (b - 55) else None

-- the byte of an escape, and what stands behind it
abbrev pub escape_at : List ℕ → Option (ℕ × List ℕ)
escape_at [] = None
escape_at (h ∷ []) = None
escape_at (h ∷ l ∷ bs) = digit_of h >>= λ high. digit_of l >>= λ low. if is_escaped (16 * high + low) then Some (16 * high + low, bs) else None

-- the byte that is written at the front, and what stands behind it
abbrev pub byte_at : List ℕ → Option (ℕ × List ℕ)
byte_at [] = None
byte_at (b ∷ bs) = if b == 37 then escape_at bs else if is_escaped b then None else Some (b, bs)

-- the bytes that a text writes; each takes a byte of the text at least, so the fuel is enough if it is the length
abbrev pub unescaped_within : ℕ → List ℕ → Option (List ℕ)
unescaped_within fuel [] = Some []
unescaped_within zero (b ∷ bs) = None
unescaped_within (suc fuel) (b ∷ bs) = byte_at (b ∷ bs) >>= λ first. unescaped_within fuel first.1 >>= λ more. Some (first.0 ∷ more)

unfoldable pub unescaped : List ℕ → Option (List ℕ)
unescaped text = unescaped_within (length text) text

-- the names of a directory itself and of the one above
abbrev pub is_dots : List ℕ → Bool
is_dots name = pointwise nat_eq name (codes ".") || pointwise nat_eq name (codes "..")

-- bytes that are not none, and not more than so many
abbrev pub is_sized : List ℕ → ℕ → Bool
is_sized bytes most = not (length bytes == 0) && nat_le (length bytes) most

abbrev pub is_name : List ℕ → Bool
is_name name = is_sized name MOST_NAME_BYTES && not (is_dots name) && list_all (λ b. nat_lt 0 b) name

-- the names between slashes
abbrev pub names_in : List ℕ → Path
names_in bytes = slice_split (λ b. b == 47) bytes

-- whether bytes are those of a path
abbrev pub are_path : List ℕ → Bool
are_path bytes = is_sized bytes MOST_PATH_BYTES && is_utf8 bytes && list_all is_name (names_in bytes)

-- the path that a text writes
unfoldable pub path_at : List ℕ → Option Path
path_at text = unescaped text >>= λ bytes. if are_path bytes then Some (names_in bytes) else None

-- ---- records

-- whether bytes may be a symlink's text
abbrev pub is_link_text : List ℕ → Bool
is_link_text text = is_sized text MOST_TEXT_BYTES && is_utf8 text && list_all (λ b. nat_lt 0 b) text

abbrev pub is_word : List ℕ → List ℕ → Bool
is_word word bytes = pointwise nat_eq bytes word

-- the record of a word, a path and a content
abbrev pub record_of : List ℕ → Path → List ℕ → Option Record
record_of word p content =
    if is_word (codes "file") word then Some (file p content)
    else if is_word (codes "link") word && is_link_text content then Some (link p content)
    else if is_word (codes "hard") word then option_map (λ target. hard p target) (path_at content)
    else None

-- the record of a word, what follows it in its line, and what stands behind the line, where it has a content
unfoldable pub record_with_content : List ℕ → List ℕ → List ℕ → Option (Record × List ℕ)
record_with_content word arguments behind =
    split_once 32 arguments >>= λ size. number_at size.0 >>= λ n. content_at n behind >>= λ content.
    path_at size.1 >>= λ p. record_of word p content.0 >>= λ r. Some (r, content.1)

-- the record of a word, what follows it in its line, and what stands behind the line
abbrev pub record_with : List ℕ → List ℕ → List ℕ → Option (Record × List ℕ)
record_with word arguments behind =
    if is_word (codes "dir") word then option_map (λ p. (dir p, behind)) (path_at arguments) else record_with_content word arguments behind

-- the record at the front, and what stands behind it
unfoldable pub record_at : List ℕ → Option (Record × List ℕ)
record_at bytes = split_once 10 bytes >>= λ head. split_once 32 head.0 >>= λ word. record_with word.0 word.1 head.1
