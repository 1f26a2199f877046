-- Ranges of pages, by the number of the first page and how many there are.
use Rattle.std.specs.Prelude.{◌≡◌, ℕ, ◌+◌, ◌/◌, ◌%◌, ◌<◌, ◌≤◌, Bool, true, ◌&&◌, nat_le, nat_lt}
use Rattle.abi_base.specs.declared.address_space.TheConstants.{PAGE_SIZE}

-- whether the number is one of k numbers from n on
abbrev pub in_range : ℕ → ℕ → ℕ → Bool
in_range n k q = nat_le n q && nat_lt q (n + k)

-- the address is a page's
abbrev pub IsPageAddress : ℕ → Type 0
IsPageAddress a = a % PAGE_SIZE ≡ 0

-- the first of the k pages from n on for which this holds has its first byte at the address
pub record IsFirstPage (P : ℕ → Type 0) (n k a : ℕ) : Type 0 where
  pub place : IsPageAddress a
  pub within : in_range n k (a / PAGE_SIZE) ≡ true
  pub holds : P (a / PAGE_SIZE)
  pub before : (q : ℕ) → n ≤ q → q < a / PAGE_SIZE → P q → ⊥

-- the first of the k numbers from n on for which this holds
pub record IsFirstNumber (P : ℕ → Type 0) (n k q : ℕ) : Type 0 where
  pub within : in_range n k q ≡ true
  pub holds : P q
  pub before : (r : ℕ) → n ≤ r → r < q → P r → ⊥
