-- What a listing of names says.
use Rattle.std.specs.Prelude.{ℕ, List}
use Rattle.std.specs.Borrow.{Bor}

-- a name and its node, as contracts speak of them
abbrev pub shown : Bor (List ℕ) × ℕ → List ℕ × ℕ
shown e = (e.0.now, e.1)
