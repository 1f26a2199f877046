-- The bytes of a file, and what writing and sizing make of them.
--     padded bytes n      zeros behind the bytes, up to n of them
--     resized bytes n      the bytes cut at n, or zeros behind them up to n
--     written bytes at new      the bytes with these from this place on; a gap before them is zeros
--     fits at new      as many of the new bytes as a file has room for from there on
use Rattle.std.specs.Prelude.{ℕ, ◌+◌, ◌-◌, ◌&&◌, not, nat_le, Bool, List, [], ◌∷◌, ◌++◌, take, drop, length, replicate}
use Rattle.tree_model.specs.declared.limits.TheConstants.{MOST_FILE_BYTES}

-- zeros behind the bytes, up to n of them
abbrev pub padded : List ℕ → ℕ → List ℕ
padded bytes n = bytes ++ replicate (n - length bytes) 0

-- the bytes cut at n, or zeros behind them up to n
abbrev pub resized : List ℕ → ℕ → List ℕ
resized bytes n = take n (padded bytes n)

-- the bytes with these from this place on; a gap before them is zeros; what stands behind them stays
abbrev pub written : List ℕ → ℕ → List ℕ → List ℕ
written bytes at new = take at (padded bytes at) ++ (new ++ drop (at + length new) bytes)

-- as many of the new bytes as a file has room for from there on
abbrev pub fitting : ℕ → List ℕ → List ℕ
fitting at new = take (MOST_FILE_BYTES - at) new

-- what a write of these bytes makes of a file: none change it not at all
abbrev pub after_write : List ℕ → ℕ → List ℕ → List ℕ
after_write bytes at [] = bytes
after_write bytes at (b ∷ new) = written bytes at (fitting at (b ∷ new))

-- whether some bytes are to be written, and a file has no room there for any
abbrev pub is_beyond : ℕ → List ℕ → Bool
is_beyond at new = not (nat_le (length new) 0) && nat_le MOST_FILE_BYTES at

-- n bytes from this place on, or as many as there are
abbrev pub read_bytes : List ℕ → ℕ → ℕ → List ℕ
read_bytes bytes at n = take n (drop at bytes)
