-- A process's descriptors by number, and the words of the contracts on them.
--     Table, table_code      a process's descriptors by number, and their code
--     IsTable m      each number is one that a descriptor may have
--     IsLowestFree m n, IsFull m      the lowest free number;  whether none is free
--     lowest_unique, lowest_unless_full      there is one lowest free number, and where the table is full none
--     holds_all, lowered      whether a descriptor has these rights;  the table where it has exactly these
--     first_absent, IsPicked      the first number of a list that has no descriptor;  a table by a list's places
--     picked_unique      there is one such table
use Rattle.std.proofs.Common.{◌≡◌, ℕ, ◌<◌, ◌&&◌, not, Bool, false, inl, inr, List, find, slice_get, Option, None, Some, option_and_then, sym, ◌∙◌, arith}
use Rattle.std.proofs.lemmas.Bool.Decides.{leb_tells}
use Rattle.std.specs.Ordering.{nat_cmp}
use Rattle.std.specs.Coded.{Coded, coded_ℕ}
use Rattle.std.specs.FinMap.{FinMap, code, get, insert, len, contains_key}
use Rattle.maps.specs.Maps.{same_numbers}
use Rattle.abi_base.specs.declared.limits.TheConstants.{MOST_DESCRIPTORS}
use Rattle.abi_base.specs.declared.rights.Rights.{Rights}
use Rattle.abi_base.specs.Rights.{has_all}
use Rattle.abi_types.specs.declared.descriptor.Descriptor.{Descriptor}
use Rattle.abi_types.specs.contracts.descriptor.Descriptor as descriptor
use Rattle.fd_table.specs.Sizes.{KeysBelow, TakesBelow, none_there, len_less}

-- a process's descriptors by number
abbrev pub Table : Type 0
Table = FinMap nat_cmp Descriptor

abbrev pub table_code : Coded Table
table_code = code coded_ℕ descriptor.the_row.coded

-- each number with a descriptor is one that a descriptor may have
abbrev pub IsTable : Table → Type 0
IsTable m = KeysBelow MOST_DESCRIPTORS m

-- n is the lowest number that a descriptor may have and none has
abbrev pub IsLowestFree : Table → ℕ → Type 0
IsLowestFree m n = (n < MOST_DESCRIPTORS) × (get m n ≡ None) × TakesBelow n m

-- there are as many descriptors as there may be
abbrev pub IsFull : Table → Type 0
IsFull m = len m ≡ MOST_DESCRIPTORS

-- whether there is a descriptor, and it has each of these rights
abbrev pub holds_all : Option Descriptor → Rights → Rights → Bool
holds_all None base inheriting = false
holds_all (Some d) base inheriting = has_all d.base.0 base.0 && has_all d.inheriting.0 inheriting.0

-- the table where the descriptor of this number, if there is one, has exactly these rights
abbrev pub lowered_at : Option Descriptor → Table → ℕ → Rights → Rights → Table
lowered_at None m fd base inheriting = m
lowered_at (Some d) m fd base inheriting = insert m fd (record d { base = base; inheriting = inheriting })

abbrev pub lowered : Table → ℕ → Rights → Rights → Table
lowered m fd base inheriting = lowered_at (get m fd) m fd base inheriting

-- the first number of the list that has no descriptor
abbrev pub first_absent : Table → List ℕ → Option ℕ
first_absent m fds = find (λ fd. not (contains_key m fd)) fds

-- the second table has, at each place of the list, the first's descriptor of the number there, and nothing else
abbrev pub IsPicked : Table → List ℕ → Table → Type 0
IsPicked m fds made = (place : ℕ) → get made place ≡ option_and_then (get m) (slice_get fds place)

pub lowest_unique : (m : Table) (n k : ℕ) → IsLowestFree m n → IsLowestFree m k → n ≡ k
lowest_unique m n k one other =
    elim (leb_tells n k) [
      | inr above ↦ absurd (none_there (get m k) other.1 (one.2 k above.1))
      | inl most ↦ elim (leb_tells k n) [
        | inr below ↦ absurd (none_there (get m n) one.1 (other.2 n below.1))
        | inl least ↦ let up = most.1 in let down = least.1 in omega arith
      ]
    ]

pub lowest_unless_full : (m : Table) (n : ℕ) → IsTable m → IsLowestFree m n → IsFull m → ⊥
lowest_unless_full m n table lowest full = let fewer = len_less MOST_DESCRIPTORS m n table lowest.0 lowest.1 in omega (arith, full)

pub picked_unique : (m : Table) (fds : List ℕ) (made other : Table) → IsPicked m fds made → IsPicked m fds other → made ≡ other
picked_unique m fds made other one two = same_numbers made other (λ k. one k ∙ sym (two k))
