-- What the relations of Mapping.antt say is what the functions of Changes.antt give.
--     are_unmapped, are_mapped, are_protected      what the functions give is so related
--     unmapped_is, mapped_is, protected_is      and nothing else is
--     there_is, free_is      what the tests say
--     lowest_gap_is, no_gap_is, gap_of_lowest      the lowest gap
--     without_none, without_one, without_free, len-without_one      pages that go, one by one
--     counted_none, counted_next, counted_all      pages that are counted
use Rattle.std.proofs.Common.{◌≡◌, ◌≢◌, ◌↔◌, ℕ, zero, suc, ◌+◌, ◌-◌, ◌*◌, ◌/◌, ◌%◌, ◌<◌, ◌≤◌, Bool, true, false, cond, ◌&&◌, not, inl, inr, Option, Some, None, IsSome, is_some, is_none, option_map, nat_le, refl, sym, ap, subst, ◌∙◌, arith}
use Rattle.std.proofs.lemmas.Bool.{le-leb, leb-true}
use Rattle.std.proofs.lemmas.Bool.Decides.{eqb_tells}
use Rattle.std.specs.FinMap.{get, insert, remove, len}
use Rattle.maps.specs.Maps.{get-retain, get-remove-same, get-remove-other, get-insert-same, get-insert-other, same_numbers, len-removed}
use Rattle.abi_base.specs.declared.prot.Prot.{Prot}
use Rattle.guest_memory.specs.Page.{Page, Pages, zero_page, with_prot}
use Rattle.guest_memory.specs.Ranges.{in_range, IsFirstNumber}
use Rattle.guest_memory.specs.Mapping.{AreFree, AreThere, AreMapped, AreUnmapped, AreProtected, IsGap, IsLowestGap, HasNoGap}
use Rattle.guest_memory.specs.Changes.{without_pages, protect_at, protected, mapped, all_there, none_there, gap_from, lowest_gap}
use Rattle.guest_memory.proofs.PageRanges.{AreChanged, none_changed, one_more_changed, end_outside, changed_outside, inside, is_inside, is_outside, there_none, both_true, first_true, second_true, not_both, no_page_unless, some_of}

-- ---- changes

-- what two memories are that are changed alike
changed_alike : (f : Option Page → Option Page) (m : Pages) (n k : ℕ) (a b : Pages) → AreChanged f m n k a
    → AreChanged f m n k b → a ≡ b
changed_alike f m n k a b h i = same_numbers a b (λ q. h q ∙ sym (i q))

pub are_unmapped : (m : Pages) (n k : ℕ) → AreUnmapped m n k (without_pages m n k)
are_unmapped m n k q =
    get-retain m (λ r. not (in_range n k r)) q
    ∙ elim (in_range n k q) as (λ b. cond (not b) (get m q) None ≡ cond b None (get m q)) [ true ↦ refl | false ↦ refl ]

pub unmapped_is : (m after : Pages) (n k : ℕ) → AreUnmapped m n k after → after ≡ without_pages m n k
unmapped_is m after n k h = changed_alike (λ _. None) m n k after (without_pages m n k) h (are_unmapped m n k)

pub are_mapped : (k : ℕ) (m : Pages) (n : ℕ) (prot : Prot) → AreMapped m n k prot (mapped m n k prot)
unfolding mapped
are_mapped zero m n prot = none_changed (λ _. Some (zero_page prot)) m n
are_mapped (suc j) m n prot =
    one_more_changed (λ _. Some (zero_page prot)) m (mapped m n j prot) (insert (mapped m n j prot) (n + j) (zero_page prot)) n j
    (are_mapped j m n prot) (get-insert-same (mapped m n j prot) (n + j) (zero_page prot))
    (λ q other. get-insert-other (mapped m n j prot) (n + j) (zero_page prot) q other)

pub mapped_is : (m after : Pages) (n k : ℕ) (prot : Prot) → AreMapped m n k prot after → after ≡ mapped m n k prot
mapped_is m after n k prot h =
    changed_alike (λ _. Some (zero_page prot)) m n k after (mapped m n k prot) h (are_mapped k m n prot)

protect_at-same : (m : Pages) (q : ℕ) (prot : Prot) (o : Option Page) → get m q ≡ o
    → get (protect_at m q prot o) q ≡ option_map (with_prot prot) o
protect_at-same m q prot None is = is
protect_at-same m q prot (Some p) is = get-insert-same m q (with_prot prot p)

protect_at-other : (m : Pages) (k : ℕ) (prot : Prot) (o : Option Page) (q : ℕ) → q ≢ k
    → get (protect_at m k prot o) q ≡ get m q
protect_at-other m k prot None q other = refl
protect_at-other m k prot (Some p) q other = get-insert-other m k (with_prot prot p) q other

pub are_protected : (k : ℕ) (m : Pages) (n : ℕ) (prot : Prot) → AreProtected m n k prot (protected m n k prot)
unfolding protected
are_protected zero m n prot = none_changed (option_map (with_prot prot)) m n
are_protected (suc j) m n prot =
    let before : AreProtected m n j prot (protected m n j prot) = are_protected j m n prot in
    one_more_changed (option_map (with_prot prot)) m (protected m n j prot)
    (protect_at (protected m n j prot) (n + j) prot (get (protected m n j prot) (n + j))) n j before
    (protect_at-same (protected m n j prot) (n + j) prot (get (protected m n j prot) (n + j)) refl
    ∙ ap (option_map (with_prot prot))
    (changed_outside (option_map (with_prot prot)) m n j (protected m n j prot) before (n + j) (end_outside n j)))
    (λ q other. protect_at-other (protected m n j prot) (n + j) prot (get (protected m n j prot) (n + j)) q other)

pub protected_is : (m after : Pages) (n k : ℕ) (prot : Prot) → AreProtected m n k prot after
    → after ≡ protected m n k prot
protected_is m after n k prot h =
    changed_alike (option_map (with_prot prot)) m n k after (protected m n k prot) h (are_protected k m n prot)

-- ---- tests

-- a range's numbers are the first and those of the rest
rest_inside : (n k q : ℕ) → q ≢ n → in_range n (suc k) q ≡ true → in_range (suc n) k q ≡ true
rest_inside n k q other within =
    let place = inside n (suc k) q within in is_inside (suc n) k q (omega (arith, place.0)) (omega (arith, place.1))

inside_rest : (n k q : ℕ) → in_range (suc n) k q ≡ true → in_range n (suc k) q ≡ true
inside_rest n k q within =
    let place = inside (suc n) k q within in is_inside n (suc k) q (omega (arith, place.0)) (omega (arith, place.1))

first_inside : (n k : ℕ) → in_range n (suc k) n ≡ true
first_inside n k = is_inside n (suc k) n (omega arith) (omega arith)

pub are_there : (k : ℕ) (m : Pages) (n : ℕ) → all_there m n k ≡ true → AreThere m n k
unfolding all_there
are_there zero m n h q within = there_none m n q within
are_there (suc k) m n h q within =
    elim (eqb_tells q n) [
      | inl same ↦ subst (λ r. IsSome (get m r)) (sym same.1) (first_true (is_some (get m n)) (all_there m (suc n) k) h)
      | inr other ↦ are_there k m (suc n) (second_true (is_some (get m n)) (all_there m (suc n) k) h) q
          (rest_inside n k q other.1 within)
    ]

pub test_there : (k : ℕ) (m : Pages) (n : ℕ) → AreThere m n k → all_there m n k ≡ true
unfolding all_there
test_there zero m n h = refl
test_there (suc k) m n h =
    both_true (is_some (get m n)) (all_there m (suc n) k) (h n (first_inside n k))
    (test_there k m (suc n) (λ q within. h q (inside_rest n k q within)))

pub there_is : (m : Pages) (n k : ℕ) → (all_there m n k ≡ true) ↔ AreThere m n k
there_is m n k = (are_there k m n, test_there k m n)

none_of_test : (o : Option Page) → is_none o ≡ true → o ≡ None
none_of_test None h = refl
none_of_test (Some p) h = absurd (cc)

pub are_free : (k : ℕ) (m : Pages) (n : ℕ) → none_there m n k ≡ true → AreFree m n k
unfolding none_there
are_free zero m n h q within = let place = inside n 0 q within in absurd (omega (arith, place.0, place.1))
are_free (suc k) m n h q within =
    elim (eqb_tells q n) [
      | inl same ↦ ap (get m) same.1 ∙ none_of_test (get m n) (first_true (is_none (get m n)) (none_there m (suc n) k) h)
      | inr other ↦ are_free k m (suc n) (second_true (is_none (get m n)) (none_there m (suc n) k) h) q
          (rest_inside n k q other.1 within)
    ]

pub test_free : (k : ℕ) (m : Pages) (n : ℕ) → AreFree m n k → none_there m n k ≡ true
unfolding none_there
test_free zero m n h = refl
test_free (suc k) m n h =
    both_true (is_none (get m n)) (none_there m (suc n) k) (ap is_none (h n (first_inside n k)))
    (test_free k m (suc n) (λ q within. h q (inside_rest n k q within)))

pub free_is : (m : Pages) (n k : ℕ) → (none_there m n k ≡ true) ↔ AreFree m n k
free_is m n k = (are_free k m n, test_free k m n)

-- ---- the lowest gap

-- k pages from n on are free, and end where the part for them ends or below
record FitsAt (m : Pages) (k n : ℕ) : Type 0 where
  high : n + k ≤ 0x3e00000
  free : AreFree m n k

-- the test of a number
abbrev is_gap_at : Pages → ℕ → ℕ → Bool
is_gap_at m k n = nat_le (n + k) 0x3e00000 && none_there m n k

some_same : (a b : ℕ) → Some a ≡ Some b → a ≡ b
some_same a b h = cc

test_gap : (m : Pages) (k n : ℕ) → FitsAt m k n → is_gap_at m k n ≡ true
test_gap m k n fits =
    both_true (nat_le (n + k) 0x3e00000) (none_there m n k) (le-leb (n + k) 0x3e00000 fits.high) (test_free k m n fits.free)

gap_of_test : (m : Pages) (k n : ℕ) → is_gap_at m k n ≡ true → FitsAt m k n
gap_of_test m k n h =
    record {
      high = leb-true (n + k) 0x3e00000 (first_true (nat_le (n + k) 0x3e00000) (none_there m n k) h);
      free = are_free k m n (second_true (nat_le (n + k) 0x3e00000) (none_there m n k) h);
    }

no_gap_test : (m : Pages) (k n : ℕ) → (FitsAt m k n → ⊥) → is_gap_at m k n ≡ false
no_gap_test m k n h =
    elim (is_gap_at m k n) as (λ b. is_gap_at m k n ≡ b → b ≡ false)
    [ true ↦ λ e. absurd (h (gap_of_test m k n e)) | false ↦ λ e. refl ] refl

gap_here : (f : ℕ) (m : Pages) (k n : ℕ) → is_gap_at m k n ≡ true → gap_from m k (suc f) n ≡ Some n
unfolding gap_from
gap_here f m k n h = ap (λ b. cond b (Some n) (gap_from m k f (suc n))) h

gap_later : (f : ℕ) (m : Pages) (k n : ℕ) → is_gap_at m k n ≡ false → gap_from m k (suc f) n ≡ gap_from m k f (suc n)
unfolding gap_from
gap_later f m k n h = ap (λ b. cond b (Some n) (gap_from m k f (suc n))) h

gap_out : (m : Pages) (k n : ℕ) → gap_from m k 0 n ≡ None
unfolding gap_from
gap_out m k n = refl

first_gap : (f : ℕ) (m : Pages) (k n b : ℕ) → n ≤ b → b < n + f → FitsAt m k b
    → ((c : ℕ) → n ≤ c → c < b → FitsAt m k c → ⊥) → gap_from m k f n ≡ Some b
first_gap zero m k n b low high fits before = absurd (omega arith)
first_gap (suc f) m k n b low high fits before =
    elim (eqb_tells n b) [
      | inl same ↦ gap_here f m k n (test_gap m k n (subst (FitsAt m k) (sym same.1) fits)) ∙ ap Some same.1
      | inr other ↦ let not_here = other.1 in
          gap_later f m k n (no_gap_test m k n (before n (omega arith) (omega arith)))
          ∙ first_gap f m k (suc n) b (omega arith) (omega arith) fits (λ c up below. before c (omega arith) below)
    ]

without_gap : (f : ℕ) (m : Pages) (k n : ℕ) → ((c : ℕ) → n ≤ c → FitsAt m k c → ⊥) → gap_from m k f n ≡ None
without_gap zero m k n none = gap_out m k n
without_gap (suc f) m k n none =
    gap_later f m k n (no_gap_test m k n (none n (omega arith)))
    ∙ without_gap f m k (suc n) (λ c up. none c (omega arith))

whole_page : (c : ℕ) → c * 4096 / 4096 ≡ c
whole_page c = omega arith

gap_at : (m : Pages) (k c : ℕ) → 0x2000000 ≤ c → FitsAt m k c → IsGap m k (c * 4096)
gap_at m k c low fits =
    let high = fits.high in
    record {
      place = omega arith;
      low = omega arith;
      high = omega arith;
      free = subst (λ n. AreFree m n k) (sym (whole_page c)) fits.free;
    }

lowest_gap-some : (m : Pages) (k n : ℕ) → gap_from m k 0x1e00001 0x2000000 ≡ Some n → lowest_gap m k ≡ Some (n * 4096)
unfolding lowest_gap
lowest_gap-some m k n h = ap (option_map (λ x. x * 4096)) h

lowest_gap-none : (m : Pages) (k : ℕ) → gap_from m k 0x1e00001 0x2000000 ≡ None → lowest_gap m k ≡ None
unfolding lowest_gap
lowest_gap-none m k h = ap (option_map (λ x. x * 4096)) h

pub lowest_gap_is : (m : Pages) (k a : ℕ) → IsLowestGap m k a → lowest_gap m k ≡ Some a
lowest_gap_is m k a h =
    let place : a % 4096 ≡ 0 = h.gap.place in
    let low = h.gap.low in
    let high = h.gap.high in
    let address : a / 4096 * 4096 ≡ a = omega arith in
    lowest_gap-some m k (a / 4096)
    (first_gap 0x1e00001 m k 0x2000000 (a / 4096) (omega arith) (omega arith)
    (record { high = omega arith; free = h.gap.free })
    (λ c up below fits. let least = h.lowest (c * 4096) (gap_at m k c up fits) in omega arith))
    ∙ ap Some address

pub no_gap_is : (m : Pages) (k : ℕ) → HasNoGap m k → lowest_gap m k ≡ None
no_gap_is m k none =
    lowest_gap-none m k (without_gap 0x1e00001 m k 0x2000000 (λ c up fits. none (c * 4096) (gap_at m k c up fits)))

-- a gap that is found is there
found_gap : (f : ℕ) (m : Pages) (k n b : ℕ) → gap_from m k f n ≡ Some b → (n ≤ b) × FitsAt m k b
found_gap zero m k n b h = let none : None ≡ Some b = sym (gap_out m k n) ∙ h in absurd (cc)
found_gap (suc f) m k n b h =
    elim (is_gap_at m k n) as (λ t. is_gap_at m k n ≡ t → (n ≤ b) × FitsAt m k b) [
      | true ↦ λ e.
          let same : n ≡ b = some_same n b (sym (gap_here f m k n e) ∙ h) in
          (omega arith, subst (FitsAt m k) same (gap_of_test m k n e))
      | false ↦ λ e.
          let later = found_gap f m k (suc n) b (sym (gap_later f m k n e) ∙ h) in
          (omega (arith, later.0), later.1)
    ] refl

gap_of_page : (m : Pages) (k a : ℕ) (page : Option ℕ) → gap_from m k 0x1e00001 0x2000000 ≡ page → lowest_gap m k ≡ Some a → IsGap m k a
gap_of_page m k a None e h = let none : None ≡ Some a = sym (lowest_gap-none m k e) ∙ h in absurd (cc)
gap_of_page m k a (Some n) e h =
    let found = found_gap 0x1e00001 m k 0x2000000 n e in
    subst (IsGap m k) (some_same (n * 4096) a (sym (lowest_gap-some m k n e) ∙ h)) (gap_at m k n found.0 found.1)

pub gap_of_lowest : (m : Pages) (k a : ℕ) → lowest_gap m k ≡ Some a → IsGap m k a
gap_of_lowest m k a h = gap_of_page m k a (gap_from m k 0x1e00001 0x2000000) refl h

-- ---- pages that go, one by one

pub without_none : (m : Pages) (n : ℕ) → without_pages m n 0 ≡ m
without_none m n = sym (unmapped_is m m n 0 (none_changed (λ _. None) m n))

pub without_one : (m : Pages) (n j : ℕ) → without_pages m n (suc j) ≡ remove (without_pages m n j) (n + j)
without_one m n j =
    sym (unmapped_is m (remove (without_pages m n j) (n + j)) n (suc j)
    (one_more_changed (λ _. None) m (without_pages m n j) (remove (without_pages m n j) (n + j)) n j (are_unmapped m n j)
    (get-remove-same (without_pages m n j) (n + j)) (λ q other. get-remove-other (without_pages m n j) (n + j) q other)))

gone_or_free : (m : Pages) (n j i q : ℕ) → AreFree m (n + j) i → in_range n (j + i) q ≡ true
    → get (without_pages m n j) q ≡ None
gone_or_free m n j i q free within =
    let place = inside n (j + i) q within in
    elim (in_range n j q) as (λ b. in_range n j q ≡ b → get (without_pages m n j) q ≡ None) [
      | true ↦ λ e. are_unmapped m n j q ∙ ap (λ b. cond b None (get m q)) e
      | false ↦ λ e.
          let not_low : q < n + j → ⊥ = λ low. not_both (in_range n j q) (is_inside n j q place.0 low) e in
          are_unmapped m n j q ∙ ap (λ b. cond b None (get m q)) e
          ∙ free q (is_inside (n + j) i q (omega (arith, not_low)) (omega (arith, place.1)))
    ] refl

-- pages that are free change nothing
pub without_free : (m : Pages) (n j i : ℕ) → AreFree m (n + j) i → without_pages m n (j + i) ≡ without_pages m n j
without_free m n j i free =
    sym (unmapped_is m (without_pages m n j) n (j + i) (λ q.
    elim (in_range n (j + i) q) as (λ b. in_range n (j + i) q ≡ b → get (without_pages m n j) q ≡ cond b None (get m q)) [
      | true ↦ λ e. gone_or_free m n j i q free e
      | false ↦ λ e. changed_outside (λ _. None) m n j (without_pages m n j) (are_unmapped m n j) q
          (is_outside n j q (λ low high. not_both (in_range n (j + i) q) (is_inside n (j + i) q low (omega arith)) e))
    ] refl))

pub len-without_one : (m : Pages) (n j : ℕ) → IsSome (get m (n + j))
    → len (without_pages m n (suc j)) + 1 ≡ len (without_pages m n j)
len-without_one m n j there =
    let page = some_of (get m (n + j)) there in
    let same = changed_outside (λ _. None) m n j (without_pages m n j) (are_unmapped m n j) (n + j) (end_outside n j) in
    ap (λ (x : Pages). len x + 1) (without_one m n j) ∙ len-removed (without_pages m n j) (n + j) page.0 (same ∙ page.1)

-- ---- pages that are counted

-- the pages from n on, counted up to the number from, and then the next that is there
pub counted_next : (m : Pages) (n from k q : ℕ) → n ≤ from → IsFirstNumber (λ r. IsSome (get m r)) from k q
    → len (without_pages m n (q + 1 - n)) + 1 ≡ len (without_pages m n (from - n))
counted_next m n from k q low h =
    let place = inside from k q h.within in
    let low_q = place.0 in
    let start : n + (from - n) ≡ from = omega arith in
    let between : from - n + (q - from) ≡ q - n = omega arith in
    let here : n + (q - n) ≡ q = omega arith in
    let next : q + 1 - n ≡ suc (q - n) = omega arith in
    let free : AreFree m (n + (from - n)) (q - from) = λ r within.
    let at = inside (n + (from - n)) (q - from) r within in
    no_page_unless (get m r) (h.before r (omega (arith, start, at.0)) (omega (arith, start, at.1))) in
    ap (λ j. len (without_pages m n j) + 1) next
    ∙ len-without_one m n (q - n) (subst (λ r. IsSome (get m r)) (sym here) h.holds)
    ∙ ap (λ j. len (without_pages m n j)) (sym between)
    ∙ ap (λ (x : Pages). len x) (without_free m n (from - n) (q - from) free)

-- the pages from n on, counted up to the number from, and then no more
pub counted_all : (m : Pages) (n from k : ℕ) → n ≤ from → from ≤ n + k → AreFree m from (n + k - from)
    → without_pages m n k ≡ without_pages m n (from - n)
counted_all m n from k low high free =
    let start : n + (from - n) ≡ from = omega arith in
    let between : from - n + (n + k - from) ≡ k = omega arith in
    ap (without_pages m n) (sym between)
    ∙ without_free m n (from - n) (n + k - from) (subst (λ r. AreFree m r (n + k - from)) (sym start) free)

-- no page is counted yet
pub counted_none : (m : Pages) (n : ℕ) → 0 + len (without_pages m n (n - n)) ≡ len m
counted_none m n =
    let first : n - n ≡ 0 = omega arith in
    let same = ap (λ j. len (without_pages m n j)) first ∙ ap (λ (x : Pages). len x) (without_none m n) in
    omega arith
