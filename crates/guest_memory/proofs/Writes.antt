-- Bytes that are written, a page at a time.
--     set_none, set_first      no byte that is set, and one before others
--     set-append, set_more      bytes that are set are the first of them and then the others
--     set_in_page, set_some_in_page      bytes that are set in one page are one change of the page
--     rights_kept, ok_after, there_after      after bytes were set, the same pages are there with the same rights, and the same bytes can be had
--     limits_kept, limits_empty, unwritable_kept      what a write keeps
--     page_there      the page of a byte that can be had is there
--     write_ok, write_fault      what a write ends in
use Rattle.std.proofs.Common.{◌≡◌, ℕ, zero, suc, ◌+◌, ◌/◌, ◌%◌, ◌-◌, ◌^◌, ◌*◌, ◌<◌, ◌≤◌, Bool, true, false, inl, inr, List, [], ◌∷◌, ◌++◌, length, take, drop, get_or, if◌then◌else◌, Option, Some, None, IsSome, Result, Ok, Err, IsOk, option_map, refl, sym, ap, subst, ◌∙◌, arith, length-append, length-drop, append_assoc}
use Rattle.std.proofs.Math.Seq.{sets, take-add}
use Rattle.std.proofs.lemmas.List.{length-take-le}
use Rattle.std.proofs.lemmas.List.Edits.{sets-eq}
use Rattle.std.proofs.lemmas.Bool.Decides.{eqb_tells}
use Rattle.std.specs.FinMap.{get, insert, empty, get-empty, len-empty}
use Rattle.std.specs.Ordering.{nat_cmp}
use Rattle.abi_base.specs.declared.prot.Prot.{Prot}
use Rattle.maps.specs.Maps.{get-insert-same, get-insert-other, insert-again, insert_self, len-insert_again}
use Rattle.guest_memory.specs.declared.access.Access.{Access}
use Rattle.guest_memory.specs.declared.access.Access.TheVariants.{Write}
use Rattle.guest_memory.specs.declared.fault.MemFault.{MemFault}
use Rattle.guest_memory.specs.declared.fault.MemFault.TheVariants.{NoRight}
use Rattle.guest_memory.specs.Access.{allows}
use Rattle.guest_memory.specs.Page.{Page, Pages}
use Rattle.guest_memory.specs.Limits.{KeepsLimits}
use Rattle.guest_memory.specs.Bytes.{byte_in, byte_at, in_front, bytes_from}
use Rattle.guest_memory.specs.Written.{KeepsUnwritable, with_byte, set_byte_in, set_byte, set_bytes, written_over, write_of}
use Rattle.guest_memory.proofs.Runs.{first}

pub set_none : (m : Pages) (a : ℕ) → set_bytes m a [] ≡ m
unfolding set_bytes
set_none m a = refl

pub set_first : (m : Pages) (a b : ℕ) (bs : List ℕ) → set_bytes m a (b ∷ bs) ≡ set_bytes (set_byte m a b) ((a + 1) % 2 ^ 64) bs
unfolding set_bytes
set_first m a b bs = refl

pub set-append : (ys zs : List ℕ) (m : Pages) (a : ℕ) → a < 2 ^ 64 → set_bytes m a (ys ++ zs) ≡ set_bytes (set_bytes m a ys) ((a + length ys) % 2 ^ 64) zs
set-append [] zs m a small =
    let here : (a + 0) % 2 ^ 64 ≡ a = omega arith in
    ap (λ n. set_bytes n a zs) (sym (set_none m a)) ∙ ap (λ c. set_bytes (set_bytes m a []) c zs) (sym here)
set-append (b ∷ ys) zs m a small =
    let there : ((a + 1) % 2 ^ 64 + length ys) % 2 ^ 64 ≡ (a + suc (length ys)) % 2 ^ 64 = omega arith in
    set_first m a b (ys ++ zs)
    ∙ set-append ys zs (set_byte m a b) ((a + 1) % 2 ^ 64) (omega arith)
    ∙ ap (λ n. set_bytes n (((a + 1) % 2 ^ 64 + length ys) % 2 ^ 64) zs) (sym (set_first m a b ys))
    ∙ ap (λ c. set_bytes (set_bytes m a (b ∷ ys)) c zs) there

-- ---- in one page

-- the page with other bytes
abbrev pub with_bytes : Page → List ℕ → Page
with_bytes p bytes = record p { bytes = bytes }

set_there : (m : Pages) (a b : ℕ) (p : Page) → get m (a / 4096) ≡ Some p → set_byte m a b ≡ insert m (a / 4096) (with_byte p (a % 4096) b)
set_there m a b p there = ap (set_byte_in m a b) there

set_each : (bs : List ℕ) (m : Pages) (p : Page) (a : ℕ) → get m (a / 4096) ≡ Some p → a < 2 ^ 64 → a % 4096 + length bs ≤ 4096 → set_bytes m a bs ≡ insert m (a / 4096) (with_bytes p (sets p.bytes (a % 4096) bs))
set_each [] m p a there small fits = set_none m a ∙ sym (insert_self m (a / 4096) p there)
set_each (b ∷ []) m p a there small fits =
    set_first m a b [] ∙ set_none (set_byte m a b) ((a + 1) % 2 ^ 64) ∙ set_there m a b p there
set_each (b ∷ c ∷ bs) m p a there small fits =
    let next : (a + 1) % 2 ^ 64 ≡ a + 1 = omega arith in
    let place : (a + 1) % 4096 ≡ suc (a % 4096) = omega arith in
    let page : (a + 1) / 4096 ≡ a / 4096 = omega arith in
    let q : Page = with_byte p (a % 4096) b in
    let n : Pages = insert m (a / 4096) q in
    let found : get n ((a + 1) / 4096) ≡ Some q = ap (get n) page ∙ get-insert-same m (a / 4096) q in
    set_first m a b (c ∷ bs)
    ∙ ap (λ d. set_bytes (set_byte m a b) d (c ∷ bs)) next
    ∙ ap (λ o. set_bytes o (a + 1) (c ∷ bs)) (set_there m a b p there)
    ∙ set_each (c ∷ bs) n q (a + 1) found (omega arith) (omega arith)
    ∙ ap (λ k. insert n k (with_bytes q (sets q.bytes ((a + 1) % 4096) (c ∷ bs)))) page
    ∙ ap (λ i. insert n (a / 4096) (with_bytes q (sets q.bytes i (c ∷ bs)))) place
    ∙ insert-again m (a / 4096) q (with_bytes q (sets q.bytes (suc (a % 4096)) (c ∷ bs)))

pub set_in_page : (bs : List ℕ) (m : Pages) (p : Page) (a : ℕ) → get m (a / 4096) ≡ Some p → length p.bytes ≡ 4096 → a < 2 ^ 64 → a % 4096 + length bs ≤ 4096
    → set_bytes m a bs ≡ insert m (a / 4096) (with_bytes p (take (a % 4096) p.bytes ++ (bs ++ drop (a % 4096 + length bs) p.bytes)))
set_in_page bs m p a there whole small fits =
    set_each bs m p a there small fits ∙ ap (λ ys. insert m (a / 4096) (with_bytes p ys)) (sets-eq bs p.bytes (a % 4096) (omega arith) ∙ append_assoc (take (a % 4096) p.bytes) bs (drop (a % 4096 + length bs) p.bytes))

-- ---- what stays

-- the rights of the page of a number, if it is there
abbrev pub rights : Pages → ℕ → Option Prot
rights m q = option_map (λ p. p.prot) (get m q)

abbrev pub SameRights : Pages → Pages → Type 0
SameRights m n = (q : ℕ) → rights m q ≡ rights n q

pub rights-insert : (m : Pages) (k : ℕ) (p r : Page) → get m k ≡ Some p → p.prot ≡ r.prot → SameRights m (insert m k r)
rights-insert m k p r there same q = elim (eqb_tells q k) [
  | inl h ↦ ap (rights m) h.1 ∙ ap (option_map (λ x. x.prot)) there ∙ ap Some same ∙ sym (ap (option_map (λ x. x.prot)) (get-insert-same m k r)) ∙ sym (ap (rights (insert m k r)) h.1)
  | inr h ↦ ap (option_map (λ x. x.prot)) (sym (get-insert-other m k r q h.1))
]

rights_in : (m : Pages) (a b : ℕ) (o : Option Page) → get m (a / 4096) ≡ o → SameRights m (set_byte_in m a b o)
rights_in m a b None there q = refl
rights_in m a b (Some p) there q = rights-insert m (a / 4096) p (with_byte p (a % 4096) b) there refl q

pub rights_kept : (bs : List ℕ) (m : Pages) (a : ℕ) → SameRights m (set_bytes m a bs)
rights_kept [] m a q = ap (λ n. rights n q) (sym (set_none m a))
rights_kept (b ∷ bs) m a q =
    rights_in m a b (get m (a / 4096)) refl q ∙ rights_kept bs (set_byte m a b) ((a + 1) % 2 ^ 64) q ∙ ap (λ n. rights n q) (sym (set_first m a b bs))

allowed_in : (x : Access) (a : ℕ) (p r : Page) (b : Bool) → allows p.prot x ≡ b → p.prot ≡ r.prot
    → IsOk (if b then Ok (get_or p.bytes (a % 4096) 0) else Err (NoRight a)) → IsOk (byte_in x a (Some r))
allowed_in x a p r true e same h = subst (λ b. IsOk (if b then Ok (get_or r.bytes (a % 4096) 0) else Err (NoRight a))) (sym e ∙ ap (λ t. allows t x) same) refl
allowed_in x a p r false e same h = absurd (cc)

ok_in : (x : Access) (a : ℕ) (o s : Option Page) → option_map (λ p. p.prot) o ≡ option_map (λ p. p.prot) s → IsOk (byte_in x a o) → IsOk (byte_in x a s)
ok_in x a None s e h = absurd (cc)
ok_in x a (Some p) None e h = absurd (cc)
ok_in x a (Some p) (Some r) e h = allowed_in x a p r (allows p.prot x) refl (cc) h

front_ok : (b : Result ℕ MemFault) (r : Result (List ℕ) MemFault) → IsOk (in_front b r) → IsOk b × IsOk r
front_ok (Ok b) (Ok bs) h = (refl, refl)
front_ok (Ok b) (Err fault) h = absurd (cc)
front_ok (Err fault) r h = absurd (cc)

ok_front : (b : Result ℕ MemFault) (r : Result (List ℕ) MemFault) → IsOk b → IsOk r → IsOk (in_front b r)
ok_front (Ok b) (Ok bs) h i = refl
ok_front (Ok b) (Err fault) h i = absurd (cc)
ok_front (Err fault) r h i = absurd (cc)

pub ok_after : (x : Access) (m n : Pages) → SameRights m n → (k a : ℕ) → IsOk (bytes_from x m a k) → IsOk (bytes_from x n a k)
unfolding bytes_from
ok_after x m n same zero a h = refl
ok_after x m n same (suc k) a h =
    let both : IsOk (byte_at x m a) × IsOk (bytes_from x m ((a + 1) % 2 ^ 64) k) = front_ok (byte_at x m a) (bytes_from x m ((a + 1) % 2 ^ 64) k) h in
    ok_front (byte_at x n a) (bytes_from x n ((a + 1) % 2 ^ 64) k) (ok_in x a (get m (a / 4096)) (get n (a / 4096)) (same (a / 4096)) both.0) (ok_after x m n same k ((a + 1) % 2 ^ 64) both.1)

-- a page's change that keeps its rights and size keeps what a memory keeps
limits_at : (m : Pages) (k : ℕ) (p r : Page) → KeepsLimits m → get m k ≡ Some p → length r.bytes ≡ 4096 → (q : ℕ) (s : Page) → get (insert m k r) q ≡ Some s
    → (0x10000 ≤ 4096 * q) × (4096 * q < 0x4000000000) × (length s.bytes ≡ 4096)
limits_at m k p r h there whole q s e = elim (eqb_tells q k) [
  | inl i ↦
      let is : Some r ≡ Some s = sym (get-insert-same m k r) ∙ ap (get (insert m k r)) (sym i.1) ∙ e in
      let same : r ≡ s = cc in
      let here : get m q ≡ Some p = ap (get m) i.1 ∙ there in
      (h.low q p here, h.high q p here, subst (λ (t : Page). length t.bytes ≡ 4096) same whole)
  | inr i ↦
      let here : get m q ≡ Some s = sym (get-insert-other m k r q i.1) ∙ e in
      (h.low q s here, h.high q s here, h.whole q s here)
]

pub limits_kept : (m : Pages) (k : ℕ) (p r : Page) → KeepsLimits m → get m k ≡ Some p → length r.bytes ≡ 4096 → KeepsLimits (insert m k r)
limits_kept m k p r h there whole = record {
  count = omega (arith, h.count, len-insert_again m k r (subst IsSome (sym there) refl));
  low = λ q s e. (limits_at m k p r h there whole q s e).0;
  high = λ q s e. (limits_at m k p r h there whole q s e).1;
  whole = λ q s e. (limits_at m k p r h there whole q s e).2;
}

not_allowed : (a : ℕ) (p : Page) → p.prot.write ≡ false → IsOk (byte_in Write a (Some p)) → ⊥
not_allowed a p e h = let no = subst (λ b. IsOk (if b then Ok (get_or p.bytes (a % 4096) 0) else Err (NoRight a))) e h in cc

-- a byte that may be written is in a page that may be written
unwritable_in : (m : Pages) (a b : ℕ) (o : Option Page) → get m (a / 4096) ≡ o → IsOk (byte_in Write a o) → KeepsUnwritable m (set_byte_in m a b o)
unwritable_in m a b None there h q p e locked = e
unwritable_in m a b (Some r) there h q p e locked = elim (eqb_tells q (a / 4096)) [
  | inl i ↦
      let is : Some r ≡ Some p = sym there ∙ ap (get m) (sym i.1) ∙ e in
      let same : p ≡ r = cc in
      let none : r.prot.write ≡ false = subst (λ (t : Page). t.prot.write ≡ false) same locked in
      absurd (not_allowed a r none h)
  | inr i ↦ get-insert-other m (a / 4096) (with_byte r (a % 4096) b) q i.1 ∙ e
]

pub unwritable_kept : (bs : List ℕ) (m : Pages) (a : ℕ) → IsOk (bytes_from Write m a (length bs)) → KeepsUnwritable m (set_bytes m a bs)
unwritable_kept [] m a h q p e locked = ap (λ (n : Pages). get n q) (set_none m a) ∙ e
unwritable_kept (b ∷ bs) m a h q p e locked =
    let both : IsOk (byte_at Write m a) × IsOk (bytes_from Write m ((a + 1) % 2 ^ 64) (length bs)) =
    front_ok (byte_at Write m a) (bytes_from Write m ((a + 1) % 2 ^ 64) (length bs)) (subst IsOk (first Write m a (length bs)) h) in
    let after : get (set_byte m a b) q ≡ Some p = unwritable_in m a b (get m (a / 4096)) refl both.0 q p e locked in
    ap (λ (n : Pages). get n q) (set_first m a b bs)
    ∙ unwritable_kept bs (set_byte m a b) ((a + 1) % 2 ^ 64) (ok_after Write m (set_byte m a b) (rights_in m a b (get m (a / 4096)) refl) (length bs) ((a + 1) % 2 ^ 64) both.1) q p after locked

none_is : {X : Type 0} (x : X) → None ≡ Some x → ⊥
none_is x e = cc

no_page : (q : ℕ) (p : Page) → get {R = nat_cmp} empty q ≡ Some p → ⊥
no_page q p e = none_is p (sym (get-empty nat_cmp q) ∙ e)

pub limits_empty : KeepsLimits empty
limits_empty = record {
  count = omega (arith, len-empty nat_cmp Page);
  low = λ q p e. absurd (no_page q p e);
  high = λ q p e. absurd (no_page q p e);
  whole = λ q p e. absurd (no_page q p e);
}

-- ---- one page's part of a write

-- a place among bytes that can be had is in a page that is there
page_in : (x : Access) (a : ℕ) (o : Option Page) → IsOk (byte_in x a o) → IsSome o
page_in x a None h = absurd (cc)
page_in x a (Some p) h = refl

pub page_there : (x : Access) (m : Pages) (a done n : ℕ) → a < 2 ^ 64 → IsOk (bytes_from x m a n) → done < n → IsSome (get m ((a + done) % 2 ^ 64 / 4096))
page_there x m a zero zero small h below = absurd (omega arith)
page_there x m a (suc done) zero small h below = absurd (omega arith)
page_there x m a zero (suc n) small h below =
    let here : (a + 0) % 2 ^ 64 ≡ a = omega arith in
    let both : IsOk (byte_at x m a) × IsOk (bytes_from x m ((a + 1) % 2 ^ 64) n) = front_ok (byte_at x m a) (bytes_from x m ((a + 1) % 2 ^ 64) n) (subst IsOk (first x m a n) h) in
    subst (λ c. IsSome (get m (c / 4096))) (sym here) (page_in x a (get m (a / 4096)) both.0)
page_there x m a (suc done) (suc n) small h below =
    let there : ((a + 1) % 2 ^ 64 + done) % 2 ^ 64 ≡ (a + suc done) % 2 ^ 64 = omega arith in
    let both : IsOk (byte_at x m a) × IsOk (bytes_from x m ((a + 1) % 2 ^ 64) n) = front_ok (byte_at x m a) (bytes_from x m ((a + 1) % 2 ^ 64) n) (subst IsOk (first x m a n) h) in
    subst (λ c. IsSome (get m (c / 4096))) there (page_there x m ((a + 1) % 2 ^ 64) done n (omega arith) both.1 (omega arith))

some_by_rights : (o s : Option Page) → option_map (λ p. p.prot) o ≡ option_map (λ p. p.prot) s → IsSome o → IsSome s
some_by_rights None s e h = absurd (cc)
some_by_rights (Some p) None e h = absurd (cc)
some_by_rights (Some p) (Some r) e h = refl

pub there_after : (m : Pages) (a q : ℕ) (bs : List ℕ) → IsSome (get m q) → IsSome (get (set_bytes m a bs) q)
there_after m a q bs h = some_by_rights (get m q) (get (set_bytes m a bs) q) (rights_kept bs m a q) h

pub length_written : (xs : List ℕ) (i : ℕ) (ys : List ℕ) → length xs ≡ 4096 → i + length ys ≤ 4096 → length (take i xs ++ (ys ++ drop (i + length ys) xs)) ≡ 4096
length_written xs i ys whole fits =
    omega (arith, length-append (take i xs) (ys ++ drop (i + length ys) xs), length-append ys (drop (i + length ys) xs), length-take-le i xs (omega arith), length-drop (i + length ys) xs)

-- the first bytes are written, and then the next of them
pub set_more : (m n : Pages) (a done k : ℕ) (bs part : List ℕ) → a < 2 ^ 64 → done + k ≤ length bs → n ≡ set_bytes m a (take done bs) → part ≡ take k (drop done bs)
    → set_bytes n ((a + done) % 2 ^ 64) part ≡ set_bytes m a (take (done + k) bs)
set_more m n a done k bs part small fits before is =
    let count : length (take done bs) ≡ done = length-take-le done bs (omega arith) in
    ap (λ ys. set_bytes n ((a + done) % 2 ^ 64) ys) is
    ∙ ap (λ o. set_bytes o ((a + done) % 2 ^ 64) (take k (drop done bs))) before
    ∙ ap (λ i. set_bytes (set_bytes m a (take done bs)) ((a + i) % 2 ^ 64) (take k (drop done bs))) (sym count)
    ∙ sym (set-append (take done bs) (take k (drop done bs)) m a small)
    ∙ ap (set_bytes m a) (sym (take-add done k bs))

pub part_of : (bs : List ℕ) (done k : ℕ) → take (done + k - done) (drop done bs) ≡ take k (drop done bs)
part_of bs done k = let same : done + k - done ≡ k = omega arith in ap (λ i. take i (drop done bs)) same

pub write_ok : (m : Pages) (a n : ℕ) (bs before : List ℕ) → length bs ≡ n → bytes_from Write m a n ≡ Ok before → write_of m a bs ≡ Ok (set_bytes m a bs)
write_ok m a n bs before count e = ap (λ k. written_over m a bs (bytes_from Write m a k)) count ∙ ap (written_over m a bs) e

pub write_fault : (m : Pages) (a n : ℕ) (bs : List ℕ) (fault : MemFault) → length bs ≡ n → bytes_from Write m a n ≡ Err fault → write_of m a bs ≡ Err fault
write_fault m a n bs fault count e = ap (λ k. written_over m a bs (bytes_from Write m a k)) count ∙ ap (written_over m a bs) e

-- the same where the number of bytes is known
pub length_written_some : (xs : List ℕ) (i n : ℕ) (ys : List ℕ) → length xs ≡ 4096 → length ys ≡ n → i + n ≤ 4096 → length (take i xs ++ (ys ++ drop (i + n) xs)) ≡ 4096
length_written_some xs i n ys whole count fits =
    ap (λ k. length (take i xs ++ (ys ++ drop (i + k) xs))) (sym count) ∙ length_written xs i ys whole (omega arith)

pub set_some_in_page : (bs : List ℕ) (m : Pages) (p : Page) (a n : ℕ) → get m (a / 4096) ≡ Some p → length p.bytes ≡ 4096 → length bs ≡ n → a < 2 ^ 64 → a % 4096 + n ≤ 4096
    → set_bytes m a bs ≡ insert m (a / 4096) (with_bytes p (take (a % 4096) p.bytes ++ (bs ++ drop (a % 4096 + n) p.bytes)))
set_some_in_page bs m p a n there whole count small fits =
    set_in_page bs m p a there whole small (omega arith)
    ∙ ap (λ k. insert m (a / 4096) (with_bytes p (take (a % 4096) p.bytes ++ (bs ++ drop (a % 4096 + k) p.bytes)))) count
