-- The memory that segments make.
--     written      what a write left
--     is_written, is_there, page_mapped      a page that is mapped, written and protected
--     first_part, later_part      the part of a segment's bytes that its pages have
use Rattle.std.proofs.Common.{◌≡◌, ℕ, zero, suc, ◌+◌, ◌-◌, ◌*◌, ◌/◌, ◌%◌, ◌^◌, ◌<◌, ◌≤◌, ◌≢◌, ◌⊎◌, inl, inr, true, false, cond, List, [], ◌++◌, min, length, replicate, take, drop, Some, option_map, Result, Ok, Err, sym, ap, ◌∙◌, arith, append_assoc}
use Rattle.std.proofs.lemmas.List.{drop-replicate, length-replicate, take-replicate, take-append-le, take_all, drop_all, length-drop, length-take-le}
use Rattle.std.proofs.Math.Seq.{take-append-add, drop-append-add}
use Rattle.std.specs.FinMap.{get, insert}
use Rattle.abi_base.specs.declared.prot.Prot.{Prot}
use Rattle.guest_memory.specs.declared.access.Access.TheVariants.{Write}
use Rattle.guest_memory.specs.declared.fault.MemFault.{MemFault}
use Rattle.guest_memory.specs.Bytes.{bytes_from}
use Rattle.guest_memory.specs.Mapping.{AreMapped, AreProtected, ProtectFails}
use Rattle.guest_memory.specs.Page.{Page, Pages, zero_page, with_prot}
use Rattle.guest_memory.specs.Ranges.{in_range}
use Rattle.guest_memory.specs.Written.{set_bytes, write_of, written_over}
use Rattle.guest_memory.proofs.PageRanges.{is_inside, is_outside}
use Rattle.guest_memory.proofs.Runs.{in_page}
use Rattle.guest_memory.proofs.Writes.{set_in_page, with_bytes}
use Rattle.maps.specs.Maps.{get-insert-same, get-insert-other, same_around}
use Rattle.elf_image.specs.declared.elf.Segment.{Segment}
use Rattle.call_codec.specs.Image.{content, page_count, page_of, page_with, with_pages, with_segment}
use Rattle.call_codec.proofs.Rooms.{not_unprotected}

abbrev zeros : List ℕ
zeros = replicate 4096 0

-- ---- bytes with zeros after them

-- what is left of bytes and zeros, where the bytes fit
fill_is : (k : ℕ) (xs : List ℕ) → k ≤ 4096 → length xs ≤ k → take k (xs ++ zeros) ≡ xs ++ replicate (k - length xs) 0
fill_is k xs small fits =
    let split : k ≡ length xs + (k - length xs) = omega arith in
    ap (λ (n : ℕ). take n (xs ++ zeros)) split
    ∙ take-append-add xs zeros (k - length xs)
    ∙ ap (λ (zs : List ℕ). xs ++ zs) (take-replicate (k - length xs) 4096 0 (omega arith))

-- no more of the bytes is wanted than is taken
fill_some : (k : ℕ) (xs : List ℕ) → (length xs ≤ k) ⊎ (k < length xs) → take k (take (min (length xs) k) xs ++ zeros) ≡ take k (xs ++ zeros)
fill_some k xs (inl all) =
    let same : min (length xs) k ≡ length xs = omega arith in
    ap (λ (n : ℕ). take k (take n xs ++ zeros)) same ∙ ap (λ (ys : List ℕ). take k (ys ++ zeros)) (take_all (length xs) xs (omega arith))
fill_some k xs (inr more) =
    let same : min (length xs) k ≡ k = omega arith in
    let long : length (take k xs) ≡ k = length-take-le k xs (omega arith) in
    ap (λ (n : ℕ). take k (take n xs ++ zeros)) same
    ∙ take-append-le k (take k xs) zeros (omega (arith, long))
    ∙ take_all k (take k xs) (omega (arith, long))
    ∙ sym (take-append-le k xs zeros (omega arith))

either : (a b : ℕ) → (a ≤ b) ⊎ (b < a)
either zero b = inl (omega arith)
either (suc a) zero = inr (omega arith)
either (suc a) (suc b) = elim (either a b) [ inl h ↦ inl (omega (arith, h)) | inr h ↦ inr (omega (arith, h)) ]

pub fill_cut : (k : ℕ) (xs : List ℕ) → take k (take (min (length xs) k) xs ++ zeros) ≡ take k (xs ++ zeros)
fill_cut k xs = fill_some k xs (either (length xs) k)

-- bytes behind zeros
behind : (p : ℕ) (ys : List ℕ) → p ≤ 4096 → take 4096 (replicate p 0 ++ ys) ≡ replicate p 0 ++ take (4096 - p) ys
behind p ys fits =
    let split : 4096 ≡ length (replicate {A = ℕ} p 0) + (4096 - p) = omega (arith, length-replicate {A = ℕ} p 0) in
    ap (λ (n : ℕ). take n (replicate p 0 ++ ys)) split ∙ take-append-add (replicate p 0) ys (4096 - p)

-- ---- one page

-- what a write that was done left
pub written : (m n : Pages) (a : ℕ) (bs : List ℕ) (r : Result (List ℕ) MemFault) → written_over m a bs r ≡ Ok n → n ≡ set_bytes m a bs
written m n a bs (Ok before) e = cc
written m n a bs (Err fault) e = absurd (cc)

-- a page of zeros with bytes put in it
filled : (p : ℕ) (bs : List ℕ) → p + length bs ≤ 4096 → take p zeros ++ (bs ++ drop (p + length bs) zeros) ≡ take 4096 (replicate p 0 ++ (bs ++ zeros))
filled p bs fits =
    let rest : 4096 - (p + length bs) ≡ 4096 - p - length bs = omega arith in
    ap (λ (ys : List ℕ). ys ++ (bs ++ drop (p + length bs) zeros)) (take-replicate p 4096 0 (omega arith))
    ∙ ap (λ (ys : List ℕ). replicate p 0 ++ (bs ++ ys)) (drop-replicate (p + length bs) 4096 0 ∙ ap (λ (n : ℕ). replicate n 0) rest)
    ∙ ap (λ (ys : List ℕ). replicate p 0 ++ ys) (sym (fill_is (4096 - p) bs (omega arith) (omega arith)))
    ∙ sym (behind p (bs ++ zeros) (omega arith))

-- bytes that can be read over are written
not_refused : (m : Pages) (a : ℕ) (bs before : List ℕ) (r : Result (List ℕ) MemFault) (fault : MemFault) → r ≡ Ok before → written_over m a bs r ≡ Err fault → ⊥
not_refused m a bs before (Ok xs) fault had e = cc
not_refused m a bs before (Err other) fault had e = cc

module _ (m0 m1 : Pages) (a p : ℕ) (bs : List ℕ) (filling : Prot) (place : a % 4096 ≡ 0) (small : a + 4096 < 2 ^ 64) (inside : p < 4096) (fits : p + length bs ≤ 4096)
    (mapped : AreMapped m0 (a / 4096) 1 filling m1) where
  here : in_range (a / 4096) 1 (a / 4096) ≡ true
  here = is_inside (a / 4096) 1 (a / 4096) (omega arith) (omega arith)

  elsewhere : (q : ℕ) → q ≢ a / 4096 → in_range (a / 4096) 1 q ≡ false
  elsewhere q other = is_outside (a / 4096) 1 q (λ low high. other (omega arith))

  same_page : (a + p) / 4096 ≡ a / 4096
  same_page = omega (arith, place, inside)

  same_place : (a + p) % 4096 ≡ p
  same_place = omega (arith, place, inside)

  mapped_here : get m1 (a / 4096) ≡ Some (zero_page filling)
  mapped_here = mapped (a / 4096) ∙ ap (λ b. cond b (Some (zero_page filling)) (get m0 (a / 4096))) here

  -- a page that was mapped can be written
  pub is_written : filling.write ≡ true → (fault : MemFault) → write_of m1 (a + p) bs ≡ Err fault → ⊥
  is_written right fault refused =
      not_refused m1 (a + p) bs _ (bytes_from Write m1 (a + p) (length bs)) fault
      (in_page Write m1 (zero_page filling) (length bs) (a + p) (ap (get m1) same_page ∙ mapped_here) right (length-replicate {A = ℕ} 4096 0) (omega (arith, small, inside)) (omega (arith, same_place, fits)))
      refused

  is_filled : (m2 : Pages) → write_of m1 (a + p) bs ≡ Ok m2 → m2 ≡ insert m1 (a / 4096) (page_with p bs filling)
  is_filled m2 wrote =
      written m1 m2 (a + p) bs (bytes_from Write m1 (a + p) (length bs)) wrote
      ∙ set_in_page bs m1 (zero_page filling) (a + p) (ap (get m1) same_page ∙ mapped_here) (length-replicate {A = ℕ} 4096 0) (omega (arith, small, inside)) (omega (arith, same_place, fits))
      ∙ ap (λ (q : ℕ). insert m1 q (with_bytes (zero_page filling) (take ((a + p) % 4096) zeros ++ (bs ++ drop ((a + p) % 4096 + length bs) zeros)))) same_page
      ∙ ap (λ (i : ℕ). insert m1 (a / 4096) (with_bytes (zero_page filling) (take i zeros ++ (bs ++ drop (i + length bs) zeros)))) same_place
      ∙ ap (λ (ys : List ℕ). insert m1 (a / 4096) (with_bytes (zero_page filling) ys)) (filled p bs fits)

  -- and then it can be given other rights
  pub is_there : (m2 : Pages) (fault : MemFault) → write_of m1 (a + p) bs ≡ Ok m2 → ProtectFails m2 (a / 4096) 1 fault → ⊥
  is_there m2 fault wrote refused =
      not_unprotected m2 (a / 4096) (page_with p bs filling) fault
      (ap (λ (m : Pages). get m (a / 4096)) (is_filled m2 wrote) ∙ get-insert-same m1 (a / 4096) (page_with p bs filling)) refused

  module _ (m2 m3 : Pages) (prot : Prot) (wrote : write_of m1 (a + p) bs ≡ Ok m2) (protected : AreProtected m2 (a / 4096) 1 prot m3) where
    at_page : get m3 (a / 4096) ≡ get (insert m0 (a / 4096) (page_with p bs prot)) (a / 4096)
    at_page =
        protected (a / 4096)
        ∙ ap (λ b. cond b (option_map (with_prot prot) (get m2 (a / 4096))) (get m2 (a / 4096))) here
        ∙ ap (λ (m : Pages). option_map (with_prot prot) (get m (a / 4096))) (is_filled m2 wrote)
        ∙ ap (option_map (with_prot prot)) (get-insert-same m1 (a / 4096) (page_with p bs filling))
        ∙ sym (get-insert-same m0 (a / 4096) (page_with p bs prot))

    at_others : (q : ℕ) → q ≢ a / 4096 → get m3 q ≡ get (insert m0 (a / 4096) (page_with p bs prot)) q
    at_others q other =
        protected q
        ∙ ap (λ b. cond b (option_map (with_prot prot) (get m2 q)) (get m2 q)) (elsewhere q other)
        ∙ ap (λ (m : Pages). get m q) (is_filled m2 wrote)
        ∙ get-insert-other m1 (a / 4096) (page_with p bs filling) q other
        ∙ mapped q
        ∙ ap (λ b. cond b (Some (zero_page filling)) (get m0 q)) (elsewhere q other)
        ∙ sym (get-insert-other m0 (a / 4096) (page_with p bs prot) q other)

    pub page_mapped : m3 ≡ insert m0 (a / 4096) (page_with p bs prot)
    page_mapped = same_around m3 (insert m0 (a / 4096) (page_with p bs prot)) (a / 4096) at_page at_others

-- ---- a segment's pages

-- the first page has the first bytes
pub first_part : (b : ℕ) (xs : List ℕ) → b ≤ 4096 → take 4096 (replicate b 0 ++ (take (min (length xs) (4096 - b)) xs ++ zeros)) ≡ take 4096 ((replicate b 0 ++ xs) ++ zeros)
first_part b xs fits =
    behind b (take (min (length xs) (4096 - b)) xs ++ zeros) fits
    ∙ ap (λ (ys : List ℕ). replicate b 0 ++ ys) (fill_cut (4096 - b) xs)
    ∙ sym (behind b (xs ++ zeros) fits)
    ∙ ap (take 4096) (sym (append_assoc (replicate b 0) xs zeros))

-- a part that may lie behind the last byte
piece : (m s e : ℕ) (xs : List ℕ) → (length xs ≤ m) ⊎ (m < length xs) → s ≡ min (length xs) m → e ≡ min (length xs) (s + 4096) → take (e - s) (drop s xs) ≡ take (min (length (drop m xs)) 4096) (drop m xs)
piece m s e xs (inl all) start end =
    let none : drop m xs ≡ [] = drop_all m xs all in
    ap (λ (ys : List ℕ). take (e - s) ys) (drop_all s xs (omega (arith, start)))
    ∙ take_all (e - s) [] (omega arith)
    ∙ sym (ap (λ (ys : List ℕ). take (min (length ys) 4096) ys) none)
piece m s e xs (inr more) start end =
    let same : s ≡ m = omega (arith, start) in
    let count : e - s ≡ min (length (drop m xs)) 4096 = omega (arith, end, start, length-drop m xs) in
    ap (λ (n : ℕ). take n (drop s xs)) count ∙ ap (λ (n : ℕ). take (min (length (drop m xs)) 4096) (drop n xs)) same

-- a later page has the bytes that are left, as far as there are any
pub later_part : (b m s e : ℕ) (xs : List ℕ) → s ≡ min (length xs) m → e ≡ min (length xs) (s + 4096) → take 4096 (take (e - s) (drop s xs) ++ zeros) ≡ take 4096 (drop (b + m) (replicate b 0 ++ xs) ++ zeros)
later_part b m s e xs start end =
    let skip : b + m ≡ length (replicate {A = ℕ} b 0) + m = omega (arith, length-replicate {A = ℕ} b 0) in
    ap (λ (ys : List ℕ). take 4096 (ys ++ zeros)) (piece m s e xs (either (length xs) m) start end)
    ∙ fill_cut 4096 (drop m xs)
    ∙ ap (λ (ys : List ℕ). take 4096 (ys ++ zeros)) (sym (ap (λ (n : ℕ). drop n (replicate b 0 ++ xs)) skip ∙ drop-append-add (replicate b 0) xs m))

-- the number of a page of a segment
page_number : (at index : ℕ) → (at - at % 4096 + index * 4096) / 4096 ≡ at / 4096 + index
page_number at index = omega arith

pub first_page_is : (m : Pages) (segment : Segment) (index end : ℕ) → index ≡ 0 → end ≡ min (length segment.bytes) (4096 - segment.at % 4096)
    → insert m ((segment.at - segment.at % 4096 + index * 4096) / 4096) (page_with (segment.at % 4096) (take end segment.bytes) segment.prot)
    ≡ insert m (segment.at / 4096 + index) (page_of segment index)
first_page_is m segment index end none part =
    let start : 0 ≡ 4096 * index = omega (arith, none) in
    ap (λ (q : ℕ). insert m q (page_with (segment.at % 4096) (take end segment.bytes) segment.prot)) (page_number segment.at index)
    ∙ ap (λ (e : ℕ). insert m (segment.at / 4096 + index) (page_with (segment.at % 4096) (take e segment.bytes) segment.prot)) part
    ∙ ap (λ (ys : List ℕ). let p : Page = record { bytes = ys; prot = segment.prot } in insert m (segment.at / 4096 + index) p) (first_part (segment.at % 4096) segment.bytes (omega arith))
    ∙ ap (λ (i : ℕ). let p : Page = record { bytes = take 4096 (drop i (content segment) ++ zeros); prot = segment.prot } in insert m (segment.at / 4096 + index) p) start

pub later_page_is : (m : Pages) (segment : Segment) (index s e : ℕ) → (index ≡ 0 → ⊥) → s ≡ min (length segment.bytes) (index * 4096 - segment.at % 4096) → e ≡ min (length segment.bytes) (s + 4096)
    → insert m ((segment.at - segment.at % 4096 + index * 4096) / 4096) (page_with 0 (take (e - s) (drop s segment.bytes)) segment.prot)
    ≡ insert m (segment.at / 4096 + index) (page_of segment index)
later_page_is m segment index s e some start end =
    let skip : segment.at % 4096 + (index * 4096 - segment.at % 4096) ≡ 4096 * index = omega (arith, some) in
    ap (λ (q : ℕ). insert m q (page_with 0 (take (e - s) (drop s segment.bytes)) segment.prot)) (page_number segment.at index)
    ∙ ap (λ (ys : List ℕ). let p : Page = record { bytes = ys; prot = segment.prot } in insert m (segment.at / 4096 + index) p) (later_part (segment.at % 4096) (index * 4096 - segment.at % 4096) s e segment.bytes start end)
    ∙ ap (λ (i : ℕ). let p : Page = record { bytes = take 4096 (drop i (content segment) ++ zeros); prot = segment.prot } in insert m (segment.at / 4096 + index) p) skip

-- the memory with all pages of a segment
pub whole_segment : (m n : Pages) (segment : Segment) (count index : ℕ) → count ≡ page_count segment → index ≡ count → n ≡ with_pages m segment index → n ≡ with_segment m segment
unfolding with_segment
whole_segment m n segment count index all end mapped = mapped ∙ ap (with_pages m segment) (end ∙ all)

pub one_more : (m n : Pages) (segment : Segment) (index : ℕ) → n ≡ with_pages m segment index → insert n (segment.at / 4096 + index) (page_of segment index) ≡ with_pages m segment (index + 1)
one_more m n segment index mapped =
    let next : suc index ≡ index + 1 = omega arith in
    ap (λ (x : Pages). insert x (segment.at / 4096 + index) (page_of segment index)) mapped ∙ ap (with_pages m segment) next
