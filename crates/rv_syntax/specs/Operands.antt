-- The operands behind a mnemonic. 40 and 41 are the parentheses, 44 is the comma.
use Rattle.std.specs.Prelude.{ℕ, ◌==◌, cond, List, length, Option, None, Some, option_map, ℤ, pos, negsuc, ◌-ℤ◌}
use Rattle.rv_syntax.specs.Chain.{◌>>=◌}
use Rattle.rv_syntax.specs.Names.{lookup}
use Rattle.rv_words.specs.Words.{is_even}
use Rattle.rv_syntax.specs.Numbers.{number_of, number_within, within}
use Rattle.rv_syntax.specs.Registers.{register_of}
use Rattle.rv_syntax.specs.Text.{split_at, trim}

-- two operands: what stands before the first comma and what stands behind it, each without outer spaces
unfoldable pub pair_of : List ℕ → Option (List ℕ × List ℕ)
pair_of text = option_map (λ parts. (trim parts.0, trim parts.1)) (split_at 44 text)

-- three operands
unfoldable pub triple_of : List ℕ → Option (List ℕ × List ℕ × List ℕ)
triple_of text = split_at 44 text >>= λ parts. option_map (λ pair. (trim parts.0, pair.0, pair.1)) (pair_of parts.1)

-- the register before a closing parenthesis that ends the text
unfoldable pub closed_register_of : List ℕ → Option ℕ
closed_register_of text = split_at 41 text >>= λ parts. cond (length parts.1 == 0) (register_of parts.0) None

-- the number and the register of `N(rs1)`, where the number has 12 bits
unfoldable pub memory_of : List ℕ → Option (ℤ × ℕ)
memory_of text = do
  parts ← split_at 40 text
  offset ← number_within (negsuc 2047) (pos 2047) parts.0
  register ← closed_register_of parts.1
  Some (offset, register)

-- the register of `(rs1)`
unfoldable pub address_register_of : List ℕ → Option ℕ
address_register_of text = split_at 40 text >>= λ parts. cond (length parts.0 == 0) (closed_register_of parts.1) None

-- How far a label is from the instruction. One without an address has no distance: 0, which each instruction can hold,
-- stands for it.
abbrev pub from_here : ℕ → Option ℕ → ℤ
from_here here None = pos 0
from_here here (Some address) = pos address -ℤ pos here

-- the distance of a label that is defined, or the number that stands in a label's place
abbrev pub distance_at : ℕ → List ℕ → Option (Option ℕ) → Option ℤ
distance_at here text None = number_of text
distance_at here text (Some address) = Some (from_here here address)

-- the distance that a target stands for: that of a label, or a number
unfoldable pub distance_of : List (List ℕ × Option ℕ) → ℕ → List ℕ → Option ℤ
distance_of labels here text = distance_at here text (lookup labels text)

-- a number that is even
abbrev pub even : ℤ → Option ℤ
even n = cond (is_even n) (Some n) None

-- the even distance, from the first bound to the second, that a target stands for
unfoldable pub target_of : ℤ → ℤ → List (List ℕ × Option ℕ) → ℕ → List ℕ → Option ℤ
target_of low high labels here text = distance_of labels here text >>= within low high >>= even

-- the distance of a label, if it is one that two signed immediates, of 32 bits and a multiple of 4096, and of 12 bits,
-- add up to
unfoldable pub label_distance_of : List (List ℕ × Option ℕ) → ℕ → List ℕ → Option ℤ
label_distance_of labels here name = lookup labels name >>= λ address. within (negsuc 0x800007ff) (pos 0x7ffff7ff) (from_here here address)
