-- Which pages a guest's memory has.
use Rattle.std.specs.Prelude.{◌≡◌, ℕ, ◌+◌, ◌*◌, ◌/◌, ◌<◌, ◌≤◌, true, false, cond, Some, None, IsSome, option_map}
use Rattle.std.specs.FinMap.{get, len}
use Rattle.abi_base.specs.declared.address_space.TheConstants.{PAGE_LIMIT, PAGE_SIZE}
use Rattle.abi_base.specs.declared.prot.Prot.{Prot}
use Rattle.guest_memory.specs.declared.fault.MemFault.{MemFault}
use Rattle.guest_memory.specs.declared.fault.MemFault.TheVariants.{NotMapped, NoRight, PageLimit, Overlaps, NoMemory}
use Rattle.guest_memory.specs.Page.{Page, Pages, zero_page, with_prot}
use Rattle.guest_memory.specs.Ranges.{in_range, IsPageAddress, IsFirstPage}

-- the most pages of a memory
abbrev pub page_limit : ℕ
page_limit = PAGE_LIMIT

-- none of the k pages from n on is there
abbrev pub AreFree : Pages → ℕ → ℕ → Type 0
AreFree m n k = (q : ℕ) → in_range n k q ≡ true → get m q ≡ None

-- none of the k pages from n on can be executed
abbrev pub NoneExecutable : Pages → ℕ → ℕ → Type 0
NoneExecutable m n k = (q : ℕ) (p : Page) → in_range n k q ≡ true → get m q ≡ Some p → p.prot.exec ≡ false

-- each of the k pages from n on is there
abbrev pub AreThere : Pages → ℕ → ℕ → Type 0
AreThere m n k = (q : ℕ) → in_range n k q ≡ true → IsSome (get m q)

-- the k pages from n on are of zeros with these rights in the second memory, and all others are the same
abbrev pub AreMapped : Pages → ℕ → ℕ → Prot → Pages → Type 0
AreMapped m n k prot after = (q : ℕ) → get after q ≡ cond (in_range n k q) (Some (zero_page prot)) (get m q)

-- the k pages from n on are not there in the second memory, and all others are the same
abbrev pub AreUnmapped : Pages → ℕ → ℕ → Pages → Type 0
AreUnmapped m n k after = (q : ℕ) → get after q ≡ cond (in_range n k q) None (get m q)

-- the k pages from n on have these rights in the second memory, with the bytes that they had, and all others are the same
abbrev pub AreProtected : Pages → ℕ → ℕ → Prot → Pages → Type 0
AreProtected m n k prot after = (q : ℕ) → get after q ≡ cond (in_range n k q) (option_map (with_prot prot) (get m q)) (get m q)

-- all pages but the k from n on are the same in the second memory
abbrev pub AreSameOutside : Pages → ℕ → ℕ → Pages → Type 0
AreSameOutside m n k after = (q : ℕ) → in_range n k q ≡ false → get after q ≡ get m q

-- a memory with k pages from n on more can be had
pub record MayMap (m : Pages) (n k : ℕ) : Type 0 where
  pub free : AreFree m n k
  pub fits : len m + k ≤ PAGE_LIMIT

-- Why k pages from n on aren't mapped: the first of them that is there already; else that there would be too many; and
-- lack of memory only where neither is so.
abbrev pub MapFails : Pages → ℕ → ℕ → MemFault → Type 0
MapFails m n k (Overlaps a) = IsFirstPage (λ q. IsSome (get m q)) n k a
MapFails m n k PageLimit = AreFree m n k × (PAGE_LIMIT < len m + k)
MapFails m n k NoMemory = MayMap m n k
MapFails m n k (NotMapped a) = ⊥
MapFails m n k (NoRight a) = ⊥

-- why k pages from n on aren't protected: the first of them that isn't there
abbrev pub ProtectFails : Pages → ℕ → ℕ → MemFault → Type 0
ProtectFails m n k (NotMapped a) = IsFirstPage (λ q. get m q ≡ None) n k a
ProtectFails m n k (NoRight a) = ⊥
ProtectFails m n k PageLimit = ⊥
ProtectFails m n k (Overlaps a) = ⊥
ProtectFails m n k NoMemory = ⊥

-- k pages from the address on are free, and lie where a mapping without a place of its own may lie
pub record IsGap (m : Pages) (k a : ℕ) : Type 0 where
  pub place : IsPageAddress a
  pub low : 0x2000000000 ≤ a
  pub high : a + PAGE_SIZE * k ≤ 0x3e00000000
  pub free : AreFree m (a / PAGE_SIZE) k

-- the lowest gap of k pages
pub record IsLowestGap (m : Pages) (k a : ℕ) : Type 0 where
  pub gap : IsGap m k a
  pub lowest : (b : ℕ) → IsGap m k b → a ≤ b

-- there is no gap of k pages
abbrev pub HasNoGap : Pages → ℕ → Type 0
HasNoGap m k = (b : ℕ) → IsGap m k b → ⊥
