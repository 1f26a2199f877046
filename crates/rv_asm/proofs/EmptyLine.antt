-- An empty line takes no bytes.
use Rattle.std.proofs.Common.{◌≡◌, ℕ, ◌==◌, true, List, [], ◌∷◌, length, refl, eqb-true, arith}
use Rattle.rv_asm.specs.Lines.{size_of_content}
use Rattle.rv_syntax.specs.Mnemonics.{form_of, atomic_of}

none : 0 ≡ size_of_content []
unfolding size_of_content form_of atomic_of
none = refl

pub empty_size : (content : List ℕ) → (length content == 0) ≡ true → 0 ≡ size_of_content content
empty_size [] h = none
empty_size (b ∷ bs) h = let none : length (b ∷ bs) ≡ 0 = eqb-true (length (b ∷ bs)) 0 h in absurd (omega arith)
