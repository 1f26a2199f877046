-- What a line stands for, and which bytes are of it.
use Rattle.std.specs.Prelude.{ℕ, ◌≡◌, ◌<◌, ◌/◌, ◌%◌, ◌^◌, List, ◌++◌, Option, None, Some, ℤ}
use Rattle.std.specs.Int.{w32, to_le_bytes}
use Rattle.rv_code.specs.declared.instr.Instr.{Instr}
use Rattle.rv_code.specs.Decoding.{decode_of}
use Rattle.rv_words.specs.Words.{ArePairOf}

-- What is asked of a word that decoding doesn't see: nothing; bits 26 and 25, aq and rl, of an atomic instruction; or the
-- whole word.
pub data Unseen : Type 0 where
  Nothing : Unseen
  Bits : ℕ → Unseen
  Whole : ℕ → Unseen

abbrev pub HasUnseen : Unseen → ℕ → Type 0
HasUnseen Nothing word = Unit {0}
HasUnseen (Bits order) word = word / 2 ^ 25 % 4 ≡ order
HasUnseen (Whole whole) word = word ≡ whole

-- What a line stands for: these bytes; an instruction; or the two instructions that put the address of a label, which
-- lies at this distance, into a register.
pub data Item : Type 0 where
  Bytes : List ℕ → Item
  Instruction : Instr → Unseen → Item
  Address : ℕ → ℤ → Item

-- a word that is decoded to the instruction, and has what is asked of it that decoding does not see
abbrev pub IsWordOf : Instr → Unseen → ℕ → Type 0
IsWordOf i unseen word = (word < 2 ^ 32) × (decode_of word ≡ Some i) × HasUnseen unseen word

-- the bytes of what a line stands for; those of a word are little-endian
abbrev pub AreBytesOf : Item → List ℕ → Type 0
AreBytesOf (Bytes bytes) out = out ≡ bytes
AreBytesOf (Instruction i unseen) out = (word : ℕ) × IsWordOf i unseen word × (out ≡ to_le_bytes w32 word)
AreBytesOf (Address rd distance) out =
    (first : ℕ) × (second : ℕ) × ArePairOf rd distance first second × (out ≡ to_le_bytes w32 first ++ to_le_bytes w32 second)

-- A word is of what a line stands for, and there is no word where the line is outside the grammar.
abbrev pub WordIs : Option ℕ → Option Item → Type 0
WordIs None None = Unit {0}
WordIs (Some word) (Some (Instruction i unseen)) = IsWordOf i unseen word
WordIs _ _ = ⊥

-- The same of two words.
abbrev pub PairIs : Option (ℕ × ℕ) → Option Item → Type 0
PairIs None None = Unit {0}
PairIs (Some words) (Some (Address rd distance)) = ArePairOf rd distance words.0 words.1
PairIs _ _ = ⊥
