-- The changes of a memory's pages and the tests of them as functions: what the relations of Mapping.antt determine.
use Rattle.std.specs.Prelude.{◌≡◌, ◌↔◌, ℕ, zero, suc, ◌+◌, ◌*◌, Bool, true, ◌&&◌, not, cond, nat_le, Option, Some, None, is_some, is_none, option_map}
use Rattle.std.specs.FinMap.{get, insert, retain_keys}
use Rattle.abi_base.specs.declared.address_space.TheConstants.{PAGE_SIZE}
use Rattle.abi_base.specs.declared.prot.Prot.{Prot}
use Rattle.guest_memory.specs.Page.{Page, Pages, zero_page, with_prot}
use Rattle.guest_memory.specs.Ranges.{in_range}
use Rattle.guest_memory.specs.Mapping.{AreThere, AreMapped, AreUnmapped, AreProtected, IsLowestGap, HasNoGap}

-- the memory without the k pages from n on
abbrev pub without_pages : Pages → ℕ → ℕ → Pages
without_pages m n k = retain_keys m (λ q. not (in_range n k q))

-- the memory with other rights at the page q, given the page there, if there is one
abbrev pub protect_at : Pages → ℕ → Prot → Option Page → Pages
protect_at m q prot None = m
protect_at m q prot (Some p) = insert m q (with_prot prot p)

-- the memory with these rights at each of the k pages from n on that is there
unfoldable pub protected : Pages → ℕ → ℕ → Prot → Pages
protected m n zero prot = m
protected m n (suc k) prot = protect_at (protected m n k prot) (n + k) prot (get (protected m n k prot) (n + k))

-- the memory with pages of zeros with these rights at the k numbers from n on
unfoldable pub mapped : Pages → ℕ → ℕ → Prot → Pages
mapped m n zero prot = m
mapped m n (suc k) prot = insert (mapped m n k prot) (n + k) (zero_page prot)

-- whether each of the k pages from n on is there
unfoldable pub all_there : Pages → ℕ → ℕ → Bool
all_there m n zero = true
all_there m n (suc k) = is_some (get m n) && all_there m (suc n) k

-- whether none of the k pages from n on is there
unfoldable pub none_there : Pages → ℕ → ℕ → Bool
none_there m n zero = true
none_there m n (suc k) = is_none (get m n) && none_there m (suc n) k

-- The first of f numbers from n on from which k pages are free and end at 0x3e00000 or below, the number of the page at
-- which the part for mappings without a place of their own ends.
unfoldable pub gap_from : Pages → ℕ → ℕ → ℕ → Option ℕ
gap_from m k zero n = None
gap_from m k (suc f) n = cond (nat_le (n + k) 0x3e00000 && none_there m n k) (Some n) (gap_from m k f (suc n))

-- the address of the lowest gap of k pages; 0x1e00001 is how many numbers there are from 0x2000000 up to 0x3e00000
unfoldable pub lowest_gap : Pages → ℕ → Option ℕ
lowest_gap m k = option_map (λ n. n * PAGE_SIZE) (gap_from m k 0x1e00001 0x2000000)

-- ---- what the functions have to do with the relations

-- a memory in which pages were unmapped is the one without them
abbrev pub UnmappedIsFunction : Type 0
UnmappedIsFunction = (m after : Pages) (n k : ℕ) → AreUnmapped m n k after → after ≡ without_pages m n k

-- a memory in which pages were mapped is the one with them
abbrev pub MappedIsFunction : Type 0
MappedIsFunction = (m after : Pages) (n k : ℕ) (prot : Prot) → AreMapped m n k prot after → after ≡ mapped m n k prot

-- a memory in which pages got rights is the one where they have them
abbrev pub ProtectedIsFunction : Type 0
ProtectedIsFunction =
    (m after : Pages) (n k : ℕ) (prot : Prot) → AreProtected m n k prot after → after ≡ protected m n k prot

-- the test says whether the pages are there
abbrev pub ThereIsTested : Type 0
ThereIsTested = (m : Pages) (n k : ℕ) → (all_there m n k ≡ true) ↔ AreThere m n k

-- the lowest gap is found
abbrev pub LowestGapIsFound : Type 0
LowestGapIsFound = (m : Pages) (k a : ℕ) → IsLowestGap m k a → lowest_gap m k ≡ Some a

-- where there is no gap, none is found
abbrev pub NoGapIsFound : Type 0
NoGapIsFound = (m : Pages) (k : ℕ) → HasNoGap m k → lowest_gap m k ≡ None
