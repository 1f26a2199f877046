-- The values that options may have.
use Rattle.std.specs.Prelude.{ℕ, ◌==◌, ◌&&◌, not, Bool, List, length, codes, nat_le, Option, Some, None}
use Rattle.std.specs.Prelude.{if◌then◌else◌, option_and_then}
use Rattle.std.specs.Result.{result_ok}
use Rattle.std.specs.Char.{is_ascii_digit}
use Rattle.std.specs.List.{list_all}
use Rattle.std.specs.Str.{bytes_eq}
use Rattle.std.specs.Str.Parse.{digits_value}
use Rattle.hex.specs.Hex.{decode_sized}

abbrev pub Word : Type 0
Word = List ℕ

-- a file's name: it is neither empty nor `-`, which stands for standard input
abbrev pub is_file : Word → Bool
is_file word = not (length word == 0) && not (bytes_eq word (codes "-"))

abbrev pub file_of : Word → Option Word
file_of word = if is_file word then Some word else None

-- 1 to 19 decimal digits
abbrev pub is_decimal : Word → Bool
is_decimal word = not (length word == 0) && nat_le (length word) 19 && list_all is_ascii_digit word

-- the number that they write
abbrev pub decimal_of : Word → Option ℕ
decimal_of word = if is_decimal word then Some (digits_value 10 word) else None

-- a number from `least` to `most`
abbrev pub within : ℕ → ℕ → ℕ → Option ℕ
within least most n = if nat_le least n && nat_le n most then Some n else None

abbrev pub number_of : ℕ → ℕ → Word → Option ℕ
number_of least most word = option_and_then (within least most) (decimal_of word)

-- the 32 bytes that 64 hexadecimal digits write, in either case
abbrev pub key_of : Word → Option (List ℕ)
key_of word = result_ok (decode_sized word 32)
