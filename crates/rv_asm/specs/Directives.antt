-- The bytes that each directive says; nothing, where its operand is not the directive's. 34 is the quotation mark, 92 the
-- backslash.
use Rattle.std.specs.Prelude.{ℕ, ◌==◌, ◌&&◌, ◌||◌, not, Bool, cond, List, length, replicate, Option, None, Some, ℤ, pos, negsuc, unsigned_abs}
use Rattle.std.specs.Int.{Width, w8, w32, w64, cast_unsigned, to_le_bytes, is_in_range}
use Rattle.std.specs.List.{list_all}
use Rattle.rv_syntax.specs.declared.form.Form.{Form}
use Rattle.rv_syntax.specs.declared.form.Form.TheVariants.{Byte, Word, Dword, Zero, Ascii}
use Rattle.rv_syntax.specs.Chain.{◌>>=◌}
use Rattle.rv_asm.specs.Items.{Item, Bytes}
use Rattle.rv_syntax.specs.Numbers.{number_within}
use Rattle.rv_syntax.specs.Text.{split_at}

-- a number from the first bound to the second in so many bits, little-endian, and in two's complement if it is negative
abbrev pub number_bytes : Width → ℤ → ℤ → List ℕ → Option Item
number_bytes width low high text = number_within low high text >>= λ n. Some (Bytes (to_le_bytes width (cast_unsigned width n)))

unfoldable pub byte_of : List ℕ → Option Item
byte_of text = number_bytes w8 (negsuc 0x7f) (pos 0xff) text

unfoldable pub word_of : List ℕ → Option Item
word_of text = number_bytes w32 (negsuc 0x7fffffff) (pos 0xffffffff) text

unfoldable pub dword_of : List ℕ → Option Item
dword_of text = number_bytes w64 (negsuc 0x7fffffffffffffff) (pos 0xffffffffffffffff) text

-- how many zeros a text asks for
unfoldable pub zeros_of : List ℕ → Option ℕ
zeros_of text = number_within (pos 0) (pos 0x10000) text >>= λ n. Some (unsigned_abs n)

-- whether a text between quotation marks may have this byte
abbrev pub is_printable : ℕ → Bool
is_printable b = is_in_range 0x20 0x7e b && not (b == 34 || b == 92)

-- what stands between quotation marks that are a text's first and last byte
unfoldable pub quoted_of : List ℕ → Option (List ℕ)
quoted_of text = do
  front ← split_at 34 text
  parts ← split_at 34 front.1
  cond (length front.0 == 0 && length parts.1 == 0 && list_all is_printable parts.0) (Some parts.0) None

-- zeros, and the bytes of a text
abbrev pub zeros : ℕ → Option Item
zeros n = Some (Bytes (replicate n 0))

abbrev pub bytes : List ℕ → Option Item
bytes text = Some (Bytes text)

-- the bytes of a directive; nothing for a form that is none
abbrev pub directive_of : Form → List ℕ → Option Item
directive_of Byte text = byte_of text
directive_of Word text = word_of text
directive_of Dword text = dword_of text
directive_of Zero text = zeros_of text >>= zeros
directive_of Ascii text = quoted_of text >>= bytes
directive_of _ text = None
