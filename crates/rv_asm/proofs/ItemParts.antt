-- Two words of `la`.
use Rattle.std.proofs.Common.{◌≡◌, ℕ, Option, Some, ℤ, sym, subst}
use Rattle.rv_words.specs.Words.{ArePairOf}
use Rattle.rv_asm.specs.Items.{Item, Address, PairIs}

pub pair_is : (s : Option Item) (rd : ℕ) (d e : ℤ) (words : ℕ × ℕ) → s ≡ Some (Address rd d) → e ≡ d → ArePairOf rd e words.0 words.1 → PairIs (Some words) s
pair_is s rd d e words is same pair = subst (PairIs (Some words)) (sym is) (subst (λ z. ArePairOf rd z words.0 words.1) same pair)
