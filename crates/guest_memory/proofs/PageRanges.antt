-- Ranges of pages, and what a change of the pages of one makes of a map.
--     inside, is_inside, is_outside      which numbers lie in a range
--     none_changed, one_more_changed      a change of the pages of a range, page by page
--     first_absent_of, first_page_of, free_before, free_of_none      the first page of a range that is there, or isn't
--     mapped_len, unmapped_len, protected_len      how many pages there are afterwards
use Rattle.std.proofs.Common.{◌≡◌, ◌≢◌, ℕ, zero, suc, ◌+◌, ◌<◌, ◌≤◌, Bool, true, false, cond, ◌&&◌, inl, inr, Option, Some, None, IsSome, is_some, option_map, nat_le, nat_lt, refl, sym, ap, subst, ◌∙◌, add-one, arith}
use Rattle.std.proofs.lemmas.Bool.{le-leb, lt-ltb, leb-true, ltb-true}
use Rattle.std.proofs.lemmas.Bool.Decides.{eqb_tells}
use Rattle.std.specs.FinMap.{get, insert, remove, len}
use Rattle.maps.specs.Maps.{get-insert-same, get-insert-other, get-remove-same, get-remove-other, same_numbers, len-insert_new, len-insert_again, len-removed, remove_absent, passes, least_key, least_key-entry, least_key-least, least_key-none}
use Rattle.abi_base.specs.declared.prot.Prot.{Prot}
use Rattle.guest_memory.specs.Page.{Page, Pages, zero_page, with_prot}
use Rattle.guest_memory.specs.Ranges.{in_range, IsFirstNumber}
use Rattle.guest_memory.specs.Mapping.{AreFree, AreThere, AreMapped, AreUnmapped, AreProtected, AreSameOutside}

-- ---- which numbers lie in a range

pub both_true : (a b : Bool) → a ≡ true → b ≡ true → (a && b) ≡ true
both_true true b e f = f
both_true false b e f = e

pub first_true : (a b : Bool) → (a && b) ≡ true → a ≡ true
first_true true b h = refl
first_true false b h = h

pub second_true : (a b : Bool) → (a && b) ≡ true → b ≡ true
second_true true b h = h
second_true false b h = absurd (cc)

pub not_both : (b : Bool) → b ≡ true → b ≡ false → ⊥
not_both b e f = cc

pub inside : (n k q : ℕ) → in_range n k q ≡ true → (n ≤ q) × (q < n + k)
inside n k q h = (
  leb-true n q (first_true (nat_le n q) (nat_lt q (n + k)) h),
  ltb-true q (n + k)
      (second_true (nat_le n q) (nat_lt q (n + k)) h),
)

pub is_inside : (n k q : ℕ) → n ≤ q → q < n + k → in_range n k q ≡ true
is_inside n k q low high = both_true (nat_le n q) (nat_lt q (n + k)) (le-leb n q low) (lt-ltb q (n + k) high)

pub is_outside : (n k q : ℕ) → (n ≤ q → q < n + k → ⊥) → in_range n k q ≡ false
is_outside n k q h =
    elim (in_range n k q) as (λ b. in_range n k q ≡ b → b ≡ false) [
      | true ↦ λ e. let place = inside n k q e in absurd (h place.0 place.1)
      | false ↦ λ e. refl
    ] refl

one_more : (n j q : ℕ) → q ≢ n + j → in_range n (suc j) q ≡ in_range n j q
one_more n j q other =
    elim (in_range n j q) as (λ b. in_range n j q ≡ b → in_range n (suc j) q ≡ b) [
      | true ↦ λ e. let place = inside n j q e in is_inside n (suc j) q place.0 (omega (arith, place.1))
      | false ↦ λ e. is_outside n (suc j) q
          (λ low high. not_both (in_range n j q) (is_inside n j q low (omega arith)) e)
    ] refl

last_inside : (n j : ℕ) → in_range n (suc j) (n + j) ≡ true
last_inside n j = is_inside n (suc j) (n + j) (omega arith) (omega arith)

pub end_outside : (n j : ℕ) → in_range n j (n + j) ≡ false
end_outside n j = is_outside n j (n + j) (λ low high. omega arith)

-- ---- a change of each page of a range

-- the pages of the range are changed by f, and all others are the same
abbrev pub AreChanged : (Option Page → Option Page) → Pages → ℕ → ℕ → Pages → Type 0
AreChanged f m n k after = (q : ℕ) → get after q ≡ cond (in_range n k q) (f (get m q)) (get m q)

pub none_changed : (f : Option Page → Option Page) (m : Pages) (n : ℕ) → AreChanged f m n 0 m
none_changed f m n q = sym (ap (λ b. cond b (f (get m q)) (get m q)) (is_outside n 0 q (λ low high. omega arith)))

pub changed_outside : (f : Option Page → Option Page) (m : Pages) (n k : ℕ) (after : Pages) → AreChanged f m n k after
    → (q : ℕ) → in_range n k q ≡ false → get after q ≡ get m q
changed_outside f m n k after h q out = h q ∙ ap (λ b. cond b (f (get m q)) (get m q)) out

changed_inside : (f : Option Page → Option Page) (m : Pages) (n k : ℕ) (after : Pages) → AreChanged f m n k after
    → (q : ℕ) → in_range n k q ≡ true → get after q ≡ f (get m q)
changed_inside f m n k after h q within = h q ∙ ap (λ b. cond b (f (get m q)) (get m q)) within

-- one page more
pub one_more_changed : (f : Option Page → Option Page) (m now next : Pages) (n j : ℕ) → AreChanged f m n j now
    → get next (n + j) ≡ f (get m (n + j)) → ((q : ℕ) → q ≢ n + j → get next q ≡ get now q)
    → AreChanged f m n (suc j) next
one_more_changed f m now next n j h here others q =
    elim (eqb_tells q (n + j)) [
      | inl same ↦ subst (λ r. get next r ≡ cond (in_range n (suc j) r) (f (get m r)) (get m r)) (sym same.1)
          (here ∙ sym (ap (λ b. cond b (f (get m (n + j))) (get m (n + j))) (last_inside n j)))
      | inr other ↦ others q other.1 ∙ h q ∙ sym (ap (λ b. cond b (f (get m q)) (get m q)) (one_more n j q other.1))
    ]

-- one page less
one_less_changed : (f : Option Page → Option Page) (m before after : Pages) (n j : ℕ) → AreChanged f m n (suc j) after
    → get before (n + j) ≡ get m (n + j) → ((q : ℕ) → q ≢ n + j → get before q ≡ get after q)
    → AreChanged f m n j before
one_less_changed f m before after n j h here others q =
    elim (eqb_tells q (n + j)) [
      | inl same ↦ subst (λ r. get before r ≡ cond (in_range n j r) (f (get m r)) (get m r)) (sym same.1)
          (here ∙ sym (ap (λ b. cond b (f (get m (n + j))) (get m (n + j))) (end_outside n j)))
      | inr other ↦ others q other.1 ∙ h q ∙ ap (λ b. cond b (f (get m q)) (get m q)) (one_more n j q other.1)
    ]

-- no page of the range
nothing_changed : (f : Option Page → Option Page) (m after : Pages) (n : ℕ) → AreChanged f m n 0 after → after ≡ m
nothing_changed f m after n h = same_numbers after m (λ q. h q ∙ sym (none_changed f m n q))

-- ---- pages of zeros

-- the next page of a range that is free, after those before it were mapped
pub next_free : (m now : Pages) (n j k : ℕ) (prot : Prot) → AreFree m n k → AreMapped m n j prot now → j < k → get now (n + j) ≡ None
next_free m now n j k prot free h lt =
    changed_outside (λ _. Some (zero_page prot)) m n j now h (n + j) (end_outside n j) ∙ free (n + j) (is_inside n k (n + j) (omega arith) (omega arith))

pub mapped_more : (m now : Pages) (n j : ℕ) (prot : Prot) → AreMapped m n j prot now
    → AreMapped m n (j + 1) prot (insert now (n + j) (zero_page prot))
mapped_more m now n j prot h =
    subst (λ k. AreMapped m n k prot (insert now (n + j) (zero_page prot))) (sym (add-one j))
    (one_more_changed (λ _. Some (zero_page prot)) m now (insert now (n + j) (zero_page prot)) n j h
    (get-insert-same now (n + j) (zero_page prot)) (λ q other. get-insert-other now (n + j) (zero_page prot) q other))

pub mapped_len : (k : ℕ) (m after : Pages) (n : ℕ) (prot : Prot) → AreFree m n k → AreMapped m n k prot after
    → len after ≡ len m + k
mapped_len zero m after n prot free h =
    let same = ap (λ (x : Pages). len x) (nothing_changed (λ _. Some (zero_page prot)) m after n h) in omega arith
mapped_len (suc j) m after n prot free h =
    let before : AreMapped m n j prot (remove after (n + j)) =
    one_less_changed (λ _. Some (zero_page prot)) m (remove after (n + j)) after n j h
    (get-remove-same after (n + j) ∙ sym (free (n + j) (last_inside n j)))
    (λ q other. get-remove-other after (n + j) q other) in
    let rest = mapped_len j m (remove after (n + j)) n prot
    (λ q within. free q (is_inside n (suc j) q (inside n j q within).0 (omega (arith, (inside n j q within).1))))
    before in
    let last = len-removed after (n + j) (zero_page prot)
    (changed_inside (λ _. Some (zero_page prot)) m n (suc j) after h (n + j) (last_inside n j)) in
    omega arith

-- ---- pages that go

-- pages that were free go again
pub unmapped_again : (m now after : Pages) (n k : ℕ) → AreFree m n k → AreSameOutside m n k now
    → AreUnmapped now n k after → after ≡ m
unmapped_again m now after n k free same h =
    same_numbers after m (λ q. elim (in_range n k q) as (λ b. in_range n k q ≡ b → get after q ≡ get m q) [
      | true ↦ λ e. changed_inside (λ _. None) now n k after h q e ∙ sym (free q e)
      | false ↦ λ e. changed_outside (λ _. None) now n k after h q e ∙ same q e
    ] refl)

pub same_outside_removed : (m now : Pages) (n k number : ℕ) → AreSameOutside m n k now → in_range n k number ≡ true
    → AreSameOutside m n k (remove now number)
same_outside_removed m now n k number same within q out =
    get-remove-other now number q (λ is. not_both (in_range n k q) (ap (in_range n k) is ∙ within) out) ∙ same q out

pub some_of : (o : Option Page) → IsSome o → (p : Page) × (o ≡ Some p)
some_of None h = absurd (cc)
some_of (Some p) h = (p, refl)

pub removed_less : (m : Pages) (number : ℕ) → IsSome (get m number) → len (remove m number) < len m
removed_less m number there = let page = some_of
    (get m number) there in let less = len-removed m number page.0 page.1 in omega arith

-- a map with the entry of another at k
abbrev with_entry : Pages → ℕ → Option Page → Pages
with_entry m k None = remove m k
with_entry m k (Some p) = insert m k p

with_entry-same : (m : Pages) (k : ℕ) (o : Option Page) → get (with_entry m k o) k ≡ o
with_entry-same m k None = get-remove-same m k
with_entry-same m k (Some p) = get-insert-same m k p

with_entry-other : (m : Pages) (k : ℕ) (o : Option Page) (q : ℕ) → q ≢ k → get (with_entry m k o) q ≡ get m q
with_entry-other m k None q other = get-remove-other m k q other
with_entry-other m k (Some p) q other = get-insert-other m k p q other

with_entry-new : (m : Pages) (k : ℕ) (o : Option Page) → get m k ≡ None → len m ≤ len (with_entry m k o)
with_entry-new m k None absent = let same = ap (λ (x : Pages). len x) (remove_absent m k absent) in omega arith
with_entry-new m k (Some p) absent = let more = len-insert_new m k p absent in omega arith

with_entry-again : (m : Pages) (k : ℕ) (o : Option Page) → IsSome (get m k) → IsSome o
    → len (with_entry m k o) ≡ len m
with_entry-again m k None there some = absurd (cc)
with_entry-again m k (Some p) there some = len-insert_again m k p there

before_last : (f : Option Page → Option Page) (m after : Pages) (n j : ℕ) → AreChanged f m n (suc j) after
    → AreChanged f m n j (with_entry after (n + j) (get m (n + j)))
before_last f m after n j h =
    one_less_changed f m (with_entry after (n + j) (get m (n + j))) after n j h
    (with_entry-same after (n + j) (get m (n + j)))
    (λ q other. with_entry-other after (n + j) (get m (n + j)) q other)

pub unmapped_len : (k : ℕ) (m after : Pages) (n : ℕ) → AreUnmapped m n k after → len after ≤ len m
unmapped_len zero m after n h =
    let same = ap (λ (x : Pages). len x) (nothing_changed (λ _. None) m after n h) in omega arith
unmapped_len (suc j) m after n h =
    let rest = unmapped_len j m (with_entry after (n + j) (get m (n + j))) n
    (before_last (λ _. None) m after n j h) in
    let last = with_entry-new after (n + j) (get m (n + j))
    (changed_inside (λ _. None) m n (suc j) after h (n + j) (last_inside n j)) in
    omega arith

-- ---- pages with other rights

-- the next page is as it was
protected_next : (m now : Pages) (n j : ℕ) (prot : Prot) → AreProtected m n j prot now
    → get now (n + j) ≡ get m (n + j)
protected_next m now n j prot h = changed_outside (option_map (with_prot prot)) m n j now h (n + j) (end_outside n j)

pub protected_more : (m now : Pages) (n j : ℕ) (prot : Prot) (p : Page) → AreProtected m n j prot now
    → Some p ≡ get now (n + j)
    → AreProtected m n (j + 1) prot (insert now (n + j) (with_prot prot p))
protected_more m now n j prot p h is =
    subst (λ k. AreProtected m n k prot (insert now (n + j) (with_prot prot p))) (sym (add-one j))
    (one_more_changed (option_map (with_prot prot)) m now (insert now (n + j) (with_prot prot p)) n j h
    (get-insert-same now (n + j) (with_prot prot p) ∙ ap (option_map (with_prot prot))
    (is ∙ protected_next m now n j prot h))
    (λ q other. get-insert-other now (n + j) (with_prot prot p) q other))

mapped_some : (g : Page → Page) (o : Option Page) → IsSome o → IsSome (option_map g o)
mapped_some g None h = h
mapped_some g (Some p) h = refl

pub protected_len : (k : ℕ) (m after : Pages) (n : ℕ) (prot : Prot) → AreThere m n k → AreProtected m n k prot after
    → len after ≡ len m
protected_len zero m after n prot there h = ap (λ (x : Pages). len x)
    (nothing_changed (option_map (with_prot prot)) m after n h)
protected_len (suc j) m after n prot there h =
    let rest = protected_len j m (with_entry after (n + j) (get m (n + j))) n prot
    (λ q within. there q (is_inside n (suc j) q (inside n j q within).0 (omega (arith, (inside n j q within).1))))
    (before_last (option_map (with_prot prot)) m after n j h) in
    let had = there (n + j) (last_inside n j) in
    let has = subst IsSome
    (sym (changed_inside (option_map (with_prot prot)) m n (suc j) after h (n + j) (last_inside n j)))
    (mapped_some (with_prot prot) (get m (n + j)) had) in
    sym (with_entry-again after (n + j) (get m (n + j)) has had) ∙ rest

-- ---- the first page of a range

pub there_none : (m : Pages) (n : ℕ) → AreThere m n 0
there_none m n q within = let place = inside n 0 q within in absurd (omega (arith, place.0, place.1))

pub there_more : (m : Pages) (n j : ℕ) → AreThere m n j → IsSome (get m (n + j)) → AreThere m n (j + 1)
there_more m n j h here q within =
    elim (eqb_tells q (n + j)) [
      | inl same ↦ subst (λ r. IsSome (get m r)) (sym same.1) here
      | inr other ↦ h q (sym (one_more n j q other.1) ∙ ap (λ k. in_range n k q) (sym (add-one j)) ∙ within)
    ]

pub is_none : (o : Option Page) → false ≡ is_some o → o ≡ None
is_none None h = refl
is_none (Some p) h = absurd (cc)

not_none : (o : Option Page) → IsSome o → o ≡ None → ⊥
not_none None h e = cc
not_none (Some p) h e = cc

pub first_absent_of : (m : Pages) (n j k : ℕ) → AreThere m n j → get m (n + j) ≡ None → j < k
    → IsFirstNumber (λ q. get m q ≡ None) n k (n + j)
first_absent_of m n j k there absent less =
    record {
      within = is_inside n k (n + j) (omega arith) (omega arith);
      holds = absent;
      before = λ r low below none. not_none (get m r) (there r (is_inside n j r low below)) none;
    }

pub no_page_unless : (o : Option Page) → (IsSome o → ⊥) → o ≡ None
no_page_unless None h = refl
no_page_unless (Some p) h = absurd (h refl)

pub passes_from : (n q : ℕ) (o : Option Page) → n ≤ q → IsSome o → passes (λ r _. nat_le n r) q o ≡ true
passes_from n q None low h = h
passes_from n q (Some p) low h = le-leb n q low

pub first_page_of : (m : Pages) (n k q : ℕ) → Some q ≡ least_key (λ r _. nat_le n r) m → q < n + k
    → IsFirstNumber (λ r. IsSome (get m r)) n k q
first_page_of m n k q is below =
    let entry = least_key-entry (λ r _. nat_le n r) m q (sym is) in
    record {
      within = is_inside n k q (leb-true n q entry.2) below;
      holds = ap is_some entry.1;
      before = λ r low less there. let least = least_key-least (λ s _. nat_le n s) m q (sym is) r
          (passes_from n r (get m r) low there) in omega arith;
    }

pub free_before : (m : Pages) (n k q : ℕ) → Some q ≡ least_key (λ r _. nat_le n r) m → n + k ≤ q → AreFree m n k
free_before m n k q is beyond r within =
    let place = inside n k r within in
    no_page_unless (get m r)
    (λ there. let least = least_key-least (λ s _. nat_le n s) m q (sym is) r
    (passes_from n r (get m r) place.0 there) in omega (arith, place.1))

pub free_of_none : (m : Pages) (n k : ℕ) → None ≡ least_key (λ r _. nat_le n r) m → AreFree m n k
free_of_none m n k is r within =
    no_page_unless (get m r)
    (λ there. not_both (passes (λ s _. nat_le n s) r (get m r))
    (passes_from n r (get m r) (inside n k r within).0 there)
    (least_key-none (λ s _. nat_le n s) m (sym is) r))
