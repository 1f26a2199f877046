-- What mem_map leaves of the memory.
--     cut_to      as many bytes as there is room for
--     mapped_with      pages that were mapped, written and given their rights are the mapping
--     mapping_filled      the pages of a mapping have its bytes, and zeros behind them
use Rattle.std.proofs.Common.{◌≡◌, ◌≢◌, ℕ, zero, suc, ◌+◌, ◌*◌, ◌/◌, ◌%◌, ◌^◌, ◌<◌, ◌≤◌, inl, inr, ◌⊎◌, Bool, true, false, cond, List, [], ◌∷◌, length, min, get_or, get_or-set_same, get_or-set_other, get_or-take, take, replicate, Option, Some, None, IsSome, option_map, Result, Ok, Err, IsOk, OnOk, IfErr, refl, sym, ap, subst, ◌∙◌, arith}
use Rattle.std.proofs.Math.ListN.{length-set}
use Rattle.std.proofs.lemmas.Bool.Decides.{eqb_tells, leb_tells}
use Rattle.std.proofs.lemmas.List.{get_or_past, get_or-replicate, length-replicate, length-take, take_min}
use Rattle.std.specs.FinMap.{get}
use Rattle.maps.specs.Maps.{get-insert-same, get-insert-other}
use Rattle.abi_base.specs.declared.prot.Prot.{Prot}
use Rattle.abi_types.specs.declared.call.Call.TheVariants.{MemMap}
use Rattle.abi_types.specs.declared.place.Place.TheVariants.{At}
use Rattle.guest_memory.specs.declared.access.Access.TheVariants.{Write}
use Rattle.guest_memory.specs.declared.fault.MemFault.{MemFault}
use Rattle.guest_memory.specs.declared.fault.MemFault.TheVariants.{NoRight}
use Rattle.guest_memory.specs.Bytes.{byte_at, byte_in, bytes_from}
use Rattle.guest_memory.specs.Changes.{mapped, protected}
use Rattle.guest_memory.specs.Mapping.{AreMapped, AreProtected, AreThere, ProtectFails}
use Rattle.guest_memory.specs.Page.{Page, Pages, zero_page, with_prot}
use Rattle.guest_memory.specs.Ranges.{in_range}
use Rattle.guest_memory.specs.Written.{set_byte, set_byte_in, set_bytes, with_byte, write_of, written_over}
use Rattle.guest_memory.proofs.Changes.{are_mapped, protected_is}
use Rattle.guest_memory.proofs.PageRanges.{is_inside, not_both}
use Rattle.guest_memory.proofs.Writes.{rights_kept, there_after}
use Rattle.call_codec.specs.MemoryCalls.{with_mapping, MayMapAt}
use Rattle.call_codec.specs.OutputLaws.{standing, AreFilled, MappingIsFilled}
use Rattle.call_codec.proofs.Images.{written}
use Rattle.call_codec.proofs.Outputs.{ok_front}
use Rattle.call_codec.proofs.Puts.{call_suits, is_protected}

-- ---- one byte that is set

get_set_same : (m : Pages) (a b : ℕ) (o : Option Page) → get m (a / 4096) ≡ o
    → get (set_byte_in m a b o) (a / 4096) ≡ option_map (λ p. with_byte p (a % 4096) b) o
get_set_same m a b None there = there
get_set_same m a b (Some p) there = get-insert-same m (a / 4096) (with_byte p (a % 4096) b)

get_set_other : (m : Pages) (a b q : ℕ) (o : Option Page) → q ≢ a / 4096 → get (set_byte_in m a b o) q ≡ get m q
get_set_other m a b q None other = refl
get_set_other m a b q (Some p) other = get-insert-other m (a / 4096) (with_byte p (a % 4096) b) q other

-- ---- bytes and rights are set in either order

either_order : (b : Bool) (prot : Prot) (i x : ℕ) (o : Option Page)
    → option_map (λ p. with_byte p i x) (cond b (option_map (with_prot prot) o) o)
    ≡ cond b (option_map (with_prot prot) (option_map (λ p. with_byte p i x) o)) (option_map (λ p. with_byte p i x) o)
either_order true prot i x None = refl
either_order true prot i x (Some p) = refl
either_order false prot i x o = refl

-- a page with other rights, if its number is one of the range
abbrev given : ℕ → ℕ → Prot → ℕ → Option Page → Option Page
given n k prot q o = cond (in_range n k q) (option_map (with_prot prot) o) o

byte_protected : (m after : Pages) (n k : ℕ) (prot : Prot) (a x : ℕ) → AreProtected m n k prot after
    → AreProtected (set_byte m a x) n k prot (set_byte after a x)
byte_protected m after n k prot a x h q = elim (eqb_tells q (a / 4096)) [
  | inl same ↦
      subst (λ (i : ℕ). get (set_byte after a x) i ≡ given n k prot i (get (set_byte m a x) i)) (sym same.1)
      (get_set_same after a x (get after (a / 4096)) refl
      ∙ ap (option_map (λ p. with_byte p (a % 4096) x)) (h (a / 4096))
      ∙ either_order (in_range n k (a / 4096)) prot (a % 4096) x (get m (a / 4096))
      ∙ sym (ap (given n k prot (a / 4096)) (get_set_same m a x (get m (a / 4096)) refl)))
  | inr other ↦
      get_set_other after a x q (get after (a / 4096)) other.1
      ∙ h q
      ∙ sym (ap (given n k prot q) (get_set_other m a x q (get m (a / 4096)) other.1))
]

bytes_protected : (bs : List ℕ) (m after : Pages) (n k : ℕ) (prot : Prot) (a : ℕ) → AreProtected m n k prot after
    → AreProtected (set_bytes m a bs) n k prot (set_bytes after a bs)
unfolding set_bytes
bytes_protected [] m after n k prot a h = h
bytes_protected (b ∷ bs) m after n k prot a h =
    bytes_protected bs (set_byte m a b) (set_byte after a b) n k prot ((a + 1) % 2 ^ 64) (byte_protected m after n k prot a b h)

other_rights : (b : Bool) (filling prot : Prot) (o : Option Page) → cond b (Some (zero_page prot)) o
    ≡ cond b (option_map (with_prot prot) (cond b (Some (zero_page filling)) o)) (cond b (Some (zero_page filling)) o)
other_rights true filling prot o = refl
other_rights false filling prot o = refl

zeros_protected : (m first : Pages) (n k : ℕ) (filling prot : Prot) → AreMapped m n k filling first → AreProtected first n k prot (mapped m n k prot)
zeros_protected m first n k filling prot h q =
    are_mapped k m n prot q ∙ other_rights (in_range n k q) filling prot (get m q) ∙ sym (ap (given n k prot q) (h q))

-- ---- pages that were mapped can be written

-- bytes can be written where each can
all_writable : (m : Pages) (j a : ℕ) → a + j ≤ 0x4000000000 → ((c : ℕ) → a ≤ c → c < a + j → IsOk (byte_at Write m c)) → IsOk (bytes_from Write m a j)
unfolding bytes_from
all_writable m zero a small each = refl
all_writable m (suc j) a small each =
    let next : (a + 1) % 2 ^ 64 ≡ a + 1 = omega arith in
    let rest = all_writable m j (a + 1) (omega arith) (λ c low high. each c (omega arith) (omega arith)) in
    ok_front (byte_at Write m a) (bytes_from Write m ((a + 1) % 2 ^ 64) j) (each a (omega arith) (omega arith))
    (subst (λ (c : ℕ). IsOk (bytes_from Write m c j)) (sym next) rest)

zero_writable : (filling : Prot) (c : ℕ) → filling.write ≡ true → IsOk (byte_in Write c (Some (zero_page filling)))
zero_writable filling c right =
    let read : Bool → Result ℕ MemFault = λ t. cond t (Ok (get_or (replicate 4096 0) (c % 4096) 0)) (Err (NoRight c)) in
    subst (λ (t : Bool). IsOk (read t)) (sym right) refl

no_fault : (m : Pages) (a : ℕ) (bs : List ℕ) (before : Result (List ℕ) MemFault) (fault : MemFault) → IsOk before → written_over m a bs before ≡ Err fault → ⊥
no_fault m a bs (Ok before) fault h e = cc
no_fault m a bs (Err other) fault h e = cc

module _ (m first : Pages) (a k : ℕ) (filling : Prot) (page : a % 4096 ≡ 0) (high : a + 4096 * k ≤ 0x4000000000)
    (zeros : AreMapped m (a / 4096) k filling first) where
  zero_there : (q : ℕ) → in_range (a / 4096) k q ≡ true → get first q ≡ Some (zero_page filling)
  zero_there q within = zeros q ∙ ap (λ (b : Bool). cond b (Some (zero_page filling)) (get m q)) within

  there_first : AreThere first (a / 4096) k
  there_first q within = subst IsSome (sym (zero_there q within)) refl

  in_pages : (c : ℕ) → a ≤ c → c < a + 4096 * k → in_range (a / 4096) k (c / 4096) ≡ true
  in_pages c low below = is_inside (a / 4096) k (c / 4096) (omega (arith, low)) (omega (arith, page, below))

  can_be_written : (bs : List ℕ) → length bs ≤ 4096 * k → filling.write ≡ true → IsOk (bytes_from Write first a (length bs))
  can_be_written bs fits right = all_writable first (length bs) a (omega (arith, fits, high)) (λ c low below.
      subst (λ (o : Option Page). IsOk (byte_in Write c o)) (sym (zero_there (c / 4096) (in_pages c low (omega (arith, below, fits)))))
      (zero_writable filling c right))

  wrote_all : (result : Result Unit MemFault) (now : Pages) (bs : List ℕ) → length bs ≤ 4096 * k → filling.write ≡ true
      → OnOk result (write_of first a bs ≡ Ok now) → IfErr result (λ fault. write_of first a bs ≡ Err fault) → now ≡ set_bytes first a bs
  wrote_all (Ok done) now bs fits right ok err = written first now a bs (bytes_from Write first a (length bs)) ok
  wrote_all (Err fault) now bs fits right ok err =
      absurd (no_fault first a bs (bytes_from Write first a (length bs)) fault (can_be_written bs fits right) err)

  there_now : (bs : List ℕ) → AreThere (set_bytes first a bs) (a / 4096) k
  there_now bs q within = there_after first a q bs (there_first q within)

  is_mapping : (bs : List ℕ) (prot : Prot) → set_bytes (mapped m (a / 4096) k prot) a bs ≡ protected (set_bytes first a bs) (a / 4096) k prot
  is_mapping bs prot =
      protected_is (set_bytes first a bs) (set_bytes (mapped m (a / 4096) k prot) a bs) (a / 4096) k prot
      (bytes_protected bs first (mapped m (a / 4096) k prot) (a / 4096) k prot a (zeros_protected m first (a / 4096) k filling prot zeros))

-- as many of the bytes as k pages have room for
pub cut_to : (bytes : List ℕ) (count k : ℕ) → count ≡ min (length bytes) (k * 4096) → take count bytes ≡ take (4096 * k) bytes
cut_to bytes count k is =
    let swapped : count ≡ min (4096 * k) (length bytes) = omega (arith, is) in
    ap (λ (n : ℕ). take n bytes) swapped ∙ take_min (4096 * k) bytes

-- pages that were mapped, written and given their rights are the mapping
pub mapped_with : (m first now after : Pages) (a k : ℕ) (bytes part : List ℕ) (filling prot : Prot) (wrote gave : Result Unit MemFault) → MayMapAt m a k
    → filling.write ≡ true → part ≡ take (4096 * k) bytes → AreMapped m (a / 4096) k filling first
    → OnOk wrote (write_of first a part ≡ Ok now) → IfErr wrote (λ fault. write_of first a part ≡ Err fault)
    → OnOk gave (AreProtected now (a / 4096) k prot after) → IfErr gave (ProtectFails now (a / 4096) k) → after ≡ with_mapping m (At a) k prot bytes
mapped_with m first now after a k bytes part filling prot wrote gave may right is zeros ok err gave_ok gave_err =
    let short : length part ≤ 4096 * k = let count = ap (λ (ys : List ℕ). length ys) is ∙ length-take (4096 * k) bytes in omega (arith, count) in
    let set : now ≡ set_bytes first a part = wrote_all m first a k filling may.page may.high zeros wrote now part short right ok err in
    let there : AreThere now (a / 4096) k =
    subst (λ (n : Pages). AreThere n (a / 4096) k) (sym set) (there_now m first a k filling may.page may.high zeros part) in
    is_protected gave now after (a / 4096) k prot there gave_ok gave_err
    ∙ ap (λ (n : Pages). protected n (a / 4096) k prot) set
    ∙ sym (is_mapping m first a k filling may.page may.high zeros part prot)
    ∙ ap (set_bytes (mapped m (a / 4096) k prot) a) is

-- ---- what stands in a mapping

-- the page of a number is there with 4096 bytes
abbrev IsWhole : Pages → ℕ → Type 0
IsWhole m q = (p : Page) × (get m q ≡ Some p) × (length p.bytes ≡ 4096)

abbrev byte_of : ℕ → Page → ℕ
byte_of c p = get_or p.bytes (c % 4096) 0

stands_set : (m : Pages) (a b : ℕ) → IsWhole m (a / 4096) → standing (set_byte m a b) a ≡ Some b
stands_set m a b whole =
    ap (option_map (byte_of a)) (get_set_same m a b (get m (a / 4096)) refl ∙ ap (option_map (λ p. with_byte p (a % 4096) b)) whole.1)
    ∙ ap Some (get_or-set_same whole.0.bytes (a % 4096) b 0 (omega (arith, whole.2)))

kept_in_page : (o : Option Page) (i j b : ℕ) → j ≢ i
    → option_map (λ p. get_or p.bytes j 0) (option_map (λ p. with_byte p i b) o) ≡ option_map (λ p. get_or p.bytes j 0) o
kept_in_page None i j b other = refl
kept_in_page (Some p) i j b other = ap Some (get_or-set_other p.bytes i j b 0 other)

stands_kept : (m : Pages) (a b c : ℕ) → c ≢ a → standing (set_byte m a b) c ≡ standing m c
stands_kept m a b c other = elim (eqb_tells (c / 4096) (a / 4096)) [
  | inl same ↦
      let places : c % 4096 ≢ a % 4096 = omega (arith, same.1) in
      ap (λ (q : ℕ). option_map (byte_of c) (get (set_byte m a b) q)) same.1
      ∙ ap (option_map (byte_of c)) (get_set_same m a b (get m (a / 4096)) refl)
      ∙ kept_in_page (get m (a / 4096)) (a % 4096) (c % 4096) b places
      ∙ ap (λ (q : ℕ). option_map (byte_of c) (get m q)) (sym same.1)
  | inr apart ↦ ap (option_map (byte_of c)) (get_set_other m a b (c / 4096) (get m (a / 4096)) apart.1)
]

whole_kept : (m : Pages) (a b q : ℕ) → IsWhole m q → IsWhole (set_byte m a b) q
whole_kept m a b q whole = elim (eqb_tells q (a / 4096)) [
  | inl same ↦
      let here : get m (a / 4096) ≡ Some whole.0 = ap (get m) (sym same.1) ∙ whole.1 in (
        with_byte whole.0 (a % 4096) b,
        ap (get (set_byte m a b)) same.1 ∙ get_set_same m a b (get m (a / 4096)) refl ∙ ap (option_map (λ p. with_byte p (a % 4096) b)) here,
        length-set whole.0.bytes (a % 4096) b ∙ whole.2,
      )
  | inr other ↦ (whole.0, get_set_other m a b q (get m (a / 4096)) other.1 ∙ whole.1, whole.2)
]

-- what stands where no byte is set
stands_beside : (bs : List ℕ) (m : Pages) (a c : ℕ) → a + length bs ≤ 0x4000000000 → (c < a) ⊎ (a + length bs ≤ c)
    → standing (set_bytes m a bs) c ≡ standing m c
unfolding set_bytes
stands_beside [] m a c small beside = refl
stands_beside (b ∷ bs) m a c small beside =
    let next : (a + 1) % 2 ^ 64 ≡ a + 1 = omega arith in
    ap (λ (d : ℕ). standing (set_bytes (set_byte m a b) d bs) c) next
    ∙ stands_beside bs (set_byte m a b) (a + 1) c (omega arith) (one_less beside)
    ∙ stands_kept m a b c (apart beside)
  where
    one_less : (c < a) ⊎ (a + suc (length bs) ≤ c) → (c < a + 1) ⊎ (a + 1 + length bs ≤ c)
    one_less (inl low) = inl (omega (arith, low))
    one_less (inr past) = inr (omega (arith, past))

    apart : (c < a) ⊎ (a + suc (length bs) ≤ c) → c ≢ a
    apart (inl low) same = absurd (omega (arith, low, same))
    apart (inr past) same = absurd (omega (arith, past, same))

-- each byte that is set stands at its address
stands_each : (bs : List ℕ) (m : Pages) (a i : ℕ) → a + length bs ≤ 0x4000000000 → i < length bs
    → ((c : ℕ) → a ≤ c → c < a + length bs → IsWhole m (c / 4096))
    → standing (set_bytes m a bs) (a + i) ≡ Some (get_or bs i 0)
unfolding set_bytes
stands_each [] m a i small within whole = absurd (omega arith)
stands_each (b ∷ bs) m a zero small within whole =
    let next : (a + 1) % 2 ^ 64 ≡ a + 1 = omega arith in
    let here : a + 0 ≡ a = omega arith in
    ap (standing (set_bytes m a (b ∷ bs))) here
    ∙ ap (λ (d : ℕ). standing (set_bytes (set_byte m a b) d bs) a) next
    ∙ stands_beside bs (set_byte m a b) (a + 1) a (omega arith) (inl (omega arith))
    ∙ stands_set m a b (whole a (omega arith) (omega arith))
stands_each (b ∷ bs) m a (suc i) small within whole =
    let next : (a + 1) % 2 ^ 64 ≡ a + 1 = omega arith in
    let there : a + suc i ≡ a + 1 + i = omega arith in
    ap (standing (set_bytes m a (b ∷ bs))) there
    ∙ ap (λ (d : ℕ). standing (set_bytes (set_byte m a b) d bs) (a + 1 + i)) next
    ∙ stands_each bs (set_byte m a b) (a + 1) i (omega arith) (omega arith) (λ c low below. whole_kept m a b (c / 4096) (whole c (omega arith) (omega arith)))

-- the page of a number is the same where no byte of it is set
same_beside : (bs : List ℕ) (m : Pages) (a q : ℕ) → a + length bs ≤ 0x4000000000
    → (q < a / 4096) ⊎ (a + length bs ≤ 4096 * q) → get (set_bytes m a bs) q ≡ get m q
unfolding set_bytes
same_beside [] m a q small beside = refl
same_beside (b ∷ bs) m a q small beside =
    let next : (a + 1) % 2 ^ 64 ≡ a + 1 = omega arith in
    ap (λ (d : ℕ). get (set_bytes (set_byte m a b) d bs) q) next
    ∙ same_beside bs (set_byte m a b) (a + 1) q (omega arith) (one_less beside)
    ∙ get_set_other m a b q (get m (a / 4096)) (apart beside)
  where
    one_less : (q < a / 4096) ⊎ (a + suc (length bs) ≤ 4096 * q) → (q < (a + 1) / 4096) ⊎ (a + 1 + length bs ≤ 4096 * q)
    one_less (inl low) = inl (omega (arith, low))
    one_less (inr past) = inr (omega (arith, past))

    apart : (q < a / 4096) ⊎ (a + suc (length bs) ≤ 4096 * q) → q ≢ a / 4096
    apart (inl low) same = absurd (omega (arith, low, same))
    apart (inr past) same = absurd (omega (arith, past, same))

module _ (m : Pages) (a k : ℕ) (prot : Prot) (bytes : List ℕ) (page : a % 4096 ≡ 0) (high : a + 4096 * k ≤ 0x4000000000) where
  abbrev part : List ℕ
  part = take (4096 * k) bytes

  abbrev blank : Pages
  blank = mapped m (a / 4096) k prot

  short : length part ≤ 4096 * k
  short = let count = length-take (4096 * k) bytes in omega (arith, count)

  blank_there : (q : ℕ) → in_range (a / 4096) k q ≡ true → get blank q ≡ Some (zero_page prot)
  blank_there q within = zero_there m blank a k prot page high (are_mapped k m (a / 4096) prot) q within

  whole_there : (c : ℕ) → a ≤ c → c < a + 4096 * k → IsWhole blank (c / 4096)
  whole_there c low below = (
    zero_page prot,
    blank_there (c / 4096) (in_pages m blank a k prot page high (are_mapped k m (a / 4096) prot) c low below),
    length-replicate {A = ℕ} 4096 0,
  )

  blank_stands : (i : ℕ) → i < 4096 * k → standing blank (a + i) ≡ Some 0
  blank_stands i within =
      let among : in_range (a / 4096) k ((a + i) / 4096) ≡ true =
      in_pages m blank a k prot page high (are_mapped k m (a / 4096) prot) (a + i) (omega arith) (omega (arith, within)) in
      ap (option_map (byte_of (a + i))) (blank_there ((a + i) / 4096) among)
      ∙ ap Some (get_or-replicate 4096 ((a + i) % 4096) 0 0 (omega arith))

  stands : (i : ℕ) → i < 4096 * k → standing (set_bytes blank a part) (a + i) ≡ Some (get_or bytes i 0)
  stands i within = elim (leb_tells (length part) i) [
    | inl past ↦
        stands_beside part blank a (a + i) (omega (arith, short, high)) (inr (omega (arith, past.1)))
        ∙ blank_stands i within
        ∙ ap Some (sym (get_or_past part i 0 past.1) ∙ get_or-take (4096 * k) bytes i 0 within)
    | inr among ↦
        stands_each part blank a i (omega (arith, short, high)) among.1 (λ c low below. whole_there c low (omega (arith, below, short)))
        ∙ ap Some (get_or-take (4096 * k) bytes i 0 within)
  ]

  rights : (q : ℕ) → in_range (a / 4096) k q ≡ true → option_map (λ p. p.prot) (get (set_bytes blank a part) q) ≡ Some prot
  rights q within = sym (rights_kept part blank a q) ∙ ap (option_map (λ p. p.prot)) (blank_there q within)

  beside_pages : (q : ℕ) → in_range (a / 4096) k q ≡ false → (q < a / 4096) ⊎ (a + length part ≤ 4096 * q)
  beside_pages q out = elim (leb_tells (a / 4096) q) [
    | inl low ↦ elim (leb_tells (a / 4096 + k) q) [
      | inl past ↦ inr (omega (arith, past.1, short, page))
      | inr below ↦ absurd (not_both (in_range (a / 4096) k q) (is_inside (a / 4096) k q low.1 below.1) out)
    ]
    | inr under ↦ inl under.1
  ]

  others : (q : ℕ) → in_range (a / 4096) k q ≡ false → get (set_bytes blank a part) q ≡ get m q
  others q out =
      same_beside part blank a q (omega (arith, short, high)) (beside_pages q out)
      ∙ are_mapped k m (a / 4096) prot q
      ∙ ap (λ (b : Bool). cond b (Some (zero_page prot)) (get m q)) out

  are_filled : AreFilled m a k prot bytes (set_bytes blank a part)
  are_filled = record { rights = rights; stands = stands; others = others }

pub mapping_filled : MappingIsFilled
mapping_filled m r left a size prot flags fd offset payload encoded =
    let may = call_suits m r left (MemMap (At a) size prot flags fd offset) (sym encoded) in
    are_filled m a _ _ _ may.page may.high
