-- The first of several checks that finds a fault.
use Rattle.std.proofs.Common.{◌≡◌, ℕ, zero, suc, ◌<◌, List, [], ◌∷◌, Option, Some, None, refl, arith}
use Rattle.elf_image.specs.Checks.{or_next}
use Rattle.elf_image.specs.declared.fault.ElfFault.{ElfFault}

-- the first fault that one of the checks found
abbrev pub first : List (Option ElfFault) → Option ElfFault
first [] = None
first (x ∷ xs) = or_next x (first xs)

-- what the n-th check found
abbrev pub nth : List (Option ElfFault) → ℕ → Option ElfFault
nth [] n = None
nth (x ∷ xs) zero = x
nth (x ∷ xs) (suc n) = nth xs n

pub or_next-assoc : (a b c : Option ElfFault) → or_next (or_next a b) c ≡ or_next a (or_next b c)
or_next-assoc None b c = refl
or_next-assoc (Some f) b c = refl

pub or_next-none : (a : Option ElfFault) → or_next a None ≡ a
or_next-none None = refl
or_next-none (Some f) = refl

-- the check that found the first fault, and that those before it found none
pub record IsAt (xs : List (Option ElfFault)) (found : ElfFault) (n : ℕ) : Type 0 where
  pub here : nth xs n ≡ Some found
  pub before : (m : ℕ) → m < n → nth xs m ≡ None

at_none : (xs : List (Option ElfFault)) (found : ElfFault) (n : ℕ) → IsAt xs found n → IsAt (None ∷ xs) found (suc n)
at_none xs found n at = record { here = at.here; before = before_none } where
  before_none : (m : ℕ) → m < suc n → nth (None ∷ xs) m ≡ None
  before_none zero below = refl
  before_none (suc m) below = at.before m (omega arith)

pub first_at : (xs : List (Option ElfFault)) (found : ElfFault) → first xs ≡ Some found → (n : ℕ) × IsAt xs found n
first_at [] found e = absurd (cc)
first_at (Some f ∷ xs) found e = (zero, record { here = e; before = λ m below. absurd (omega arith) })
first_at (None ∷ xs) found e =
    let (n, at) = first_at xs found e in
    (suc n, at_none xs found n at)

pub first_none : (xs : List (Option ElfFault)) → first xs ≡ None → (n : ℕ) → nth xs n ≡ None
first_none [] e n = refl
first_none (Some f ∷ xs) e n = absurd (cc)
first_none (None ∷ xs) e zero = refl
first_none (None ∷ xs) e (suc n) = first_none xs e n

pub first_of : (xs : List (Option ElfFault)) (found : ElfFault) (n : ℕ) → IsAt xs found n → first xs ≡ Some found
first_of [] found n at = at.here
first_of (Some f ∷ xs) found zero at = at.here
first_of (Some f ∷ xs) found (suc n) at = let none = at.before zero (omega arith) in absurd (cc)
first_of (None ∷ xs) found zero at = let here = at.here in absurd (cc)
first_of (None ∷ xs) found (suc n) at =
    first_of xs found n (record { here = at.here; before = λ m below. at.before (suc m) (omega arith) })
