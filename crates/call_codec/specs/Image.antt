-- The memory that segments make.
use Rattle.std.specs.Prelude.{◌≡◌, ◌≤◌, ℕ, zero, suc, ◌+◌, ◌-◌, ◌*◌, ◌/◌, ◌%◌, List, [], ◌∷◌, ◌++◌, length, replicate, take, drop, true}
use Rattle.abi_base.specs.declared.address_space.TheConstants.{GUEST_BEGIN, GUEST_END, PAGE_LIMIT, PAGE_SIZE}
use Rattle.std.specs.FinMap.{insert}
use Rattle.std.specs.List.{All, AllPairs, sum_by}
use Rattle.abi_base.specs.declared.prot.Prot.{Prot}
use Rattle.guest_memory.specs.Page.{Page, Pages}
use Rattle.guest_memory.specs.Ranges.{in_range}
use Rattle.elf_image.specs.declared.elf.Segment.{Segment}

-- the number of a segment's first page
abbrev pub first_page : Segment → ℕ
first_page segment = segment.at / PAGE_SIZE

-- how many pages a segment's memory touches
abbrev pub page_count : Segment → ℕ
page_count segment = (segment.at % PAGE_SIZE + segment.length + (PAGE_SIZE - 1)) / PAGE_SIZE

-- a segment's file bytes, with the zeros before them in their first page
abbrev pub content : Segment → List ℕ
content segment = replicate (segment.at % PAGE_SIZE) 0 ++ segment.bytes

-- a page with bytes from a place in it on, and zeros around them
abbrev pub page_with : ℕ → List ℕ → Prot → Page
page_with place bytes prot = record { bytes = take PAGE_SIZE (replicate place 0 ++ (bytes ++ replicate PAGE_SIZE 0)); prot = prot }

-- the page of a segment with this place among its pages: its part of the file bytes, and zeros around them
abbrev pub page_of : Segment → ℕ → Page
page_of segment index = record { bytes = take PAGE_SIZE (drop (PAGE_SIZE * index) (content segment) ++ replicate PAGE_SIZE 0); prot = segment.prot }

-- the memory with the first of a segment's pages, so many of them
abbrev pub with_pages : Pages → Segment → ℕ → Pages
with_pages m segment zero = m
with_pages m segment (suc index) = insert (with_pages m segment index) (first_page segment + index) (page_of segment index)

-- the memory with a segment's pages
unfoldable pub with_segment : Pages → Segment → Pages
with_segment m segment = with_pages m segment (page_count segment)

-- the memory with the pages of segments, one after another
abbrev pub with_segments : Pages → List Segment → Pages
with_segments m [] = m
with_segments m (segment ∷ segments) = with_segments (with_segment m segment) segments

-- a segment that lies in the guest's part of the address space, with no more bytes of the file than of memory
pub record IsPlaced (segment : Segment) : Type 0 where
  pub low : GUEST_BEGIN ≤ segment.at
  pub high : segment.at + segment.length ≤ GUEST_END
  pub fits : length segment.bytes ≤ segment.length

-- no page is touched by each of the two segments
abbrev pub ShareNoPage : Segment → Segment → Type 0
ShareNoPage one other =
    (q : ℕ) → in_range (first_page one) (page_count one) q ≡ true → in_range (first_page other) (page_count other) q ≡ true → ⊥

-- segments that one memory can have: each is placed, no two share a page, and a memory may have that many pages
pub record FitTogether (segments : List Segment) : Type 0 where
  pub placed : All IsPlaced segments
  pub apart : AllPairs ShareNoPage segments
  pub few : sum_by page_count segments ≤ PAGE_LIMIT
