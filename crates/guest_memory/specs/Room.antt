-- Room for a mapping: the pages that its range lacks are added before it is made.
use Rattle.std.specs.Prelude.{◌≡◌, ℕ, List, [], ◌∷◌, false, cond, Option, Some, None}
use Rattle.std.specs.FinMap.{get, remove}
use Rattle.abi_base.specs.declared.prot.Prot.{Prot}
use Rattle.guest_memory.specs.Page.{Page, Pages, zero_page}
use Rattle.guest_memory.specs.Ranges.{in_range}

-- the memory without the pages of these numbers
abbrev pub without_each : List ℕ → Pages → Pages
without_each [] m = m
without_each (q ∷ qs) m = without_each qs (remove m q)

-- neither read nor write nor execute
abbrev pub no_rights : Prot
no_rights = record { read = false; write = false; exec = false }

-- the page, or one of zeros without rights where there is none
abbrev pub or_added : Option Page → Page
or_added None = zero_page no_rights
or_added (Some p) = p

-- each of the k pages from n on that isn't there is added in the second memory, and all others are the same
abbrev pub AreAdded : Pages → ℕ → ℕ → Pages → Type 0
AreAdded m n k after = (q : ℕ) → get after q ≡ cond (in_range n k q) (Some (or_added (get m q))) (get m q)

-- The pages of these numbers are the room for k pages from n on: they were added to the memory without them, which lacked them.
abbrev pub AreRoom : List ℕ → ℕ → ℕ → Pages → Type 0
AreRoom numbers n k m = AreAdded (without_each numbers m) n k m
