-- Pages that are added with a list of their numbers, and pages of zeros in place of others.
--     without_each-more, listed_page, listed_absent, same_without      the pages of a list's numbers
--     reset_there      a page of the range while those before it are made pages of zeros
--     mapped_filled, keeps_fixed      pages of zeros in place of those that are there
--     keeps_without_each, keeps_added      room keeps the limits of a memory
--     room_there, mapped_in_room, room_keeps_code      what room is to the memory without it
use Rattle.std.proofs.Common.{◌≡◌, ℕ, ◌+◌, ◌*◌, ◌<◌, ◌≤◌, Bool, true, false, cond, inl, inr, List, [], ◌∷◌, ◌++◌, take, length, get_or, Option, Some, None, IsSome, is_some, refl, sym, ap, subst, ◌∙◌, arith, true≢false}
use Rattle.std.proofs.lemmas.Bool.Decides.{eqb_tells}
use Rattle.std.proofs.lemmas.List.{take_more}
use Rattle.std.specs.FinMap.{get, insert, remove, len}
use Rattle.maps.specs.Closure.{len_same}
use Rattle.maps.specs.Maps.{get-remove-same, get-remove-other, same_numbers, remove_absent, remove-inserted}
use Rattle.abi_base.specs.declared.prot.Prot.{Prot}
use Rattle.guest_memory.specs.Page.{Page, Pages, zero_page}
use Rattle.guest_memory.specs.Ranges.{in_range}
use Rattle.guest_memory.specs.Mapping.{AreThere, AreFree, AreMapped, AreSameOutside}
use Rattle.guest_memory.specs.Changes.{mapped, without_pages}
use Rattle.guest_memory.specs.Room.{without_each, no_rights, or_added, AreAdded, AreRoom}
use Rattle.guest_memory.specs.Limits.{KeepsLimits}
use Rattle.guest_memory.specs.Written.{KeepsCode}
use Rattle.guest_memory.proofs.PageRanges.{is_inside, end_outside, changed_outside, none_changed, one_more_changed, mapped_len}
use Rattle.guest_memory.proofs.Changes.{are_mapped, are_unmapped}
use Rattle.guest_memory.proofs.KeptLimits.{PageKeeps, either, keeps, kept, keeps_mapped, keeps_unmapped, same_some, zero_keeps}

-- ---- the pages of a list's numbers

-- two pages go in either order
remove-remove : (m : Pages) (j k : ℕ) → remove (remove m j) k ≡ remove (remove m k) j
remove-remove m j k =
    same_numbers (remove (remove m j) k) (remove (remove m k) j) (λ q. elim (eqb_tells q k) [
      | inl is ↦ elim (eqb_tells q j) [
        | inl same ↦
            ap (get (remove (remove m j) k)) is.1 ∙ get-remove-same (remove m j) k
            ∙ sym (ap (get (remove (remove m k) j)) same.1 ∙ get-remove-same (remove m k) j)
        | inr other ↦
            ap (get (remove (remove m j) k)) is.1 ∙ get-remove-same (remove m j) k
            ∙ sym (get-remove-other (remove m k) j q other.1 ∙ ap (get (remove m k)) is.1 ∙ get-remove-same m k)
      ]
      | inr far ↦ elim (eqb_tells q j) [
        | inl same ↦
            get-remove-other (remove m j) k q far.1 ∙ ap (get (remove m j)) same.1 ∙ get-remove-same m j
            ∙ sym (ap (get (remove (remove m k) j)) same.1 ∙ get-remove-same (remove m k) j)
        | inr other ↦
            get-remove-other (remove m j) k q far.1 ∙ get-remove-other m j q other.1
            ∙ sym (get-remove-other (remove m k) j q other.1 ∙ get-remove-other m k q far.1)
      ]
    ])

-- the last number's page goes first
without_each-first : (qs : List ℕ) (q : ℕ) (m : Pages) → without_each (qs ++ q ∷ []) m ≡ without_each qs (remove m q)
without_each-first [] q m = refl
without_each-first (r ∷ qs) q m =
    without_each-first qs q (remove m r) ∙ ap (without_each qs) (remove-remove m r q)

-- or last
without_each-last : (qs : List ℕ) (q : ℕ) (m : Pages) → without_each (qs ++ q ∷ []) m ≡ remove (without_each qs m) q
without_each-last [] q m = refl
without_each-last (r ∷ qs) q m = without_each-last qs q (remove m r)

pub without_each-more : (qs : List ℕ) (i : ℕ) (m : Pages) → i < length qs
    → remove (without_each (take i qs) m) (get_or qs i 0) ≡ without_each (take (i + 1) qs) m
without_each-more qs i m less =
    sym (ap (λ rs. without_each rs m) (take_more qs i 0 less) ∙ without_each-last (take i qs) (get_or qs i 0) m)

-- a page that is there now, as the list says
pub listed_page : (qs : List ℕ) (q : ℕ) (m : Pages) (p : Page) → get m q ≡ None
    → without_each (qs ++ q ∷ []) (insert m q p) ≡ without_each qs m
listed_page qs q m p absent =
    without_each-first qs q (insert m q p) ∙ ap (without_each qs) (remove-inserted m q p absent)

-- a number whose page isn't there
pub listed_absent : (qs : List ℕ) (q : ℕ) (m : Pages) → get m q ≡ None
    → without_each (qs ++ q ∷ []) m ≡ without_each qs m
listed_absent qs q m absent = without_each-first qs q m ∙ ap (without_each qs) (remove_absent m q absent)

-- a page that is there without those of the list was there
kept_apart : (m : Pages) (k q : ℕ) (p : Page) → get (remove m k) q ≡ Some p → get m q ≡ Some p
kept_apart m k q p there = elim (eqb_tells q k) [
  | inl same ↦
      let gone : None ≡ Some p = sym (get-remove-same m k) ∙ ap (get (remove m k)) (sym same.1) ∙ there in absurd (cc)
  | inr other ↦ sym (get-remove-other m k q other.1) ∙ there
]

pub same_without : (qs : List ℕ) (m : Pages) (q : ℕ) (p : Page) → get (without_each qs m) q ≡ Some p → get m q ≡ Some p
same_without [] m q p there = there
same_without (k ∷ qs) m q p there = kept_apart m k q p (same_without qs (remove m k) q p there)

-- ---- pages of zeros in place of others

-- the next page is there as it was
pub reset_there : (m now : Pages) (n j k : ℕ) (prot : Prot) → AreThere m n k → AreMapped m n j prot now → j < k
    → IsSome (get now (n + j))
reset_there m now n j k prot there h less =
    subst IsSome (sym (changed_outside (λ _. Some (zero_page prot)) m n j now h (n + j) (end_outside n j)))
    (there (n + j) (is_inside n k (n + j) (omega arith) (omega arith)))

-- the pages of a memory in which others were added at first
pub mapped_filled : (m filled after : Pages) (n k : ℕ) (prot : Prot) → AreSameOutside m n k filled
    → AreMapped filled n k prot after → AreMapped m n k prot after
mapped_filled m filled after n k prot same h q =
    h q
    ∙ elim (in_range n k q) as
    (λ b. in_range n k q ≡ b
    → cond b (Some (zero_page prot)) (get filled q) ≡ cond b (Some (zero_page prot)) (get m q))
    [ true ↦ λ e. refl | false ↦ λ e. same q e ] refl

without_free : (m : Pages) (n k : ℕ) → AreFree (without_pages m n k) n k
without_free m n k q within = are_unmapped m n k q ∙ ap (λ b. cond b None (get m q)) within

-- it is the same to take the pages away first
mapped_without : (m after : Pages) (n k : ℕ) (prot : Prot) → AreMapped m n k prot after
    → AreMapped (without_pages m n k) n k prot after
mapped_without m after n k prot h =
    mapped_filled (without_pages m n k) m after n k prot
    (λ q out. sym (changed_outside (λ _. None) m n k (without_pages m n k) (are_unmapped m n k) q out)) h

pub keeps_fixed : (m after : Pages) (n k : ℕ) (prot : Prot) → KeepsLimits m → len (without_pages m n k) + k ≤ 65536
    → AreMapped m n k prot after → 0x10000 ≤ 4096 * n → 4096 * (n + k) ≤ 0x4000000000 → KeepsLimits after
keeps_fixed m after n k prot old room h low high =
    keeps_mapped (without_pages m n k) after n k prot
    (keeps_unmapped m (without_pages m n k) n k old (are_unmapped m n k))
    (record { free = without_free m n k; fits = room }) (mapped_without m after n k prot h) low high

-- ---- room

keeps_removed : (m : Pages) (q : ℕ) → KeepsLimits m → KeepsLimits (remove m q)
keeps_removed m q old =
    let here : q + 0 ≡ q = omega arith in
    subst (λ r. KeepsLimits (remove m r)) here
    (keeps_unmapped m (remove m (q + 0)) q 1 old
    (one_more_changed (λ _. None) m m (remove m (q + 0)) q 0 (none_changed (λ _. None) m q) (get-remove-same m (q + 0))
    (λ r other. get-remove-other m (q + 0) r other)))

pub keeps_without_each : (qs : List ℕ) (m : Pages) → KeepsLimits m → KeepsLimits (without_each qs m)
keeps_without_each [] m old = old
keeps_without_each (q ∷ qs) m old = keeps_without_each qs (remove m q) (keeps_removed m q old)

-- a range to which pages were added has as many as one that was mapped
same_keys : (b : Bool) (o : Option Page) → is_some (cond b (Some (or_added o)) o) ≡ is_some (cond b (Some (zero_page no_rights)) o)
same_keys true o = refl
same_keys false o = refl

added_len : (m after : Pages) (n k : ℕ) → AreAdded m n k after → len after ≡ len (without_pages m n k) + k
added_len m after n k h =
    let zeros = mapped m n k no_rights in
    len_same after zeros (λ q.
    ap is_some (h q) ∙ same_keys (in_range n k q) (get m q) ∙ sym (ap is_some (are_mapped k m n no_rights q)))
    ∙ mapped_len k (without_pages m n k) zeros n no_rights (without_free m n k)
    (mapped_without m zeros n k no_rights (are_mapped k m n no_rights))

added_keeps : (m : Pages) (n k q : ℕ) (o : Option Page) (p : Page) → KeepsLimits m → get m q ≡ o → 0x10000 ≤ 4096 * n
    → 4096 * (n + k) ≤ 0x4000000000 → in_range n k q ≡ true → Some (or_added o) ≡ Some p → PageKeeps q p
added_keeps m n k q None p old there low high within is =
    subst (PageKeeps q) (same_some (zero_page no_rights) p is) (zero_keeps n k q no_rights low high within)
added_keeps m n k q (Some was) p old there low high within is = subst (PageKeeps q) (same_some was p is) (kept m old q was there)

pub keeps_added : (m after : Pages) (n k : ℕ) → KeepsLimits m → len (without_pages m n k) + k ≤ 65536 → AreAdded m n k after
    → 0x10000 ≤ 4096 * n → 4096 * (n + k) ≤ 0x4000000000 → KeepsLimits after
keeps_added m after n k old few h low high =
    let count = added_len m after n k h in
    keeps after (omega (arith, few)) (λ q p e.
    either (in_range n k q) (Some (or_added (get m q))) (get m q) q p
    (λ within is. added_keeps m n k q (get m q) p old refl low high within is) (kept m old q p) (sym (h q) ∙ e))

pub room_there : (numbers : List ℕ) (n k : ℕ) (m : Pages) → AreRoom numbers n k m → AreThere m n k
room_there numbers n k m h q within =
    let was = get (without_each numbers m) q in
    subst IsSome (sym (h q ∙ ap (λ b. cond b (Some (or_added was)) was) within)) refl

-- what is mapped with room is mapped in the memory before it
pub mapped_in_room : (numbers : List ℕ) (m after : Pages) (n k : ℕ) (prot : Prot) → AreRoom numbers n k m → AreMapped m n k prot after
    → AreMapped (without_each numbers m) n k prot after
mapped_in_room numbers m after n k prot h zeros =
    mapped_filled (without_each numbers m) m after n k prot
    (λ q out. changed_outside (λ o. Some (or_added o)) (without_each numbers m) n k m h q out) zeros

-- a page that can be executed is no room
not_added : (b : Bool) (o : Option Page) (p : Page) → cond b (Some (or_added o)) o ≡ Some p → p.prot.exec ≡ true → o ≡ Some p
not_added true None p e exec =
    absurd (true≢false (sym exec ∙ ap (λ (x : Page). x.prot.exec) (sym (same_some (zero_page no_rights) p e))))
not_added true (Some was) p e exec = e
not_added false o p e exec = e

pub room_keeps_code : (numbers : List ℕ) (n k : ℕ) (m : Pages) → AreRoom numbers n k m → KeepsCode m (without_each numbers m)
room_keeps_code numbers n k m h q p there locked exec =
    not_added (in_range n k q) (get (without_each numbers m) q) p (sym (h q) ∙ there) exec
