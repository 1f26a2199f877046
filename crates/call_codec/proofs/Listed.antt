-- The calls about memory answer the first condition of their lists that holds.
use Rattle.std.proofs.Common.{Decides, ◌≡◌, ◌≢◌, ℕ, ◌+◌, ◌*◌, ◌/◌, ◌%◌, ◌^◌, ◌<◌, ◌≤◌, ◌==◌, ◌&&◌, ◌||◌, not, inl, inr, Bool, true, false, cond, nat_le, nat_lt, is_none, Option, Some, None, Ok, refl, sym, subst, arith}
use Rattle.std.proofs.lemmas.Bool.{leb-true, le-leb, eqb-true, eq-eqb}
use Rattle.std.proofs.lemmas.Bool.Decides.{Decides-like, Decides-not, Decides-and, Decides-ltb, not_from_Decides, eqb_tells, leb_tells}
use Rattle.std.specs.FinMap.{len}
use Rattle.abi_types.specs.declared.call.Call.TheVariants.{MemMap}
use Rattle.abi_types.specs.declared.call_number.CallNumber.TheVariants as number
use Rattle.abi_types.specs.declared.place.Place.TheVariants as place
use Rattle.abi_types.specs.declared.place.Place.TheVariants.{At}
use Rattle.abi_base.specs.declared.address_space.TheConstants.{GUEST_BEGIN, GUEST_END, PAGE_LIMIT}
use Rattle.abi_base.specs.declared.errno.Errno.{Errno}
use Rattle.abi_base.specs.declared.errno.Errno.TheVariants.{Success, Fault, Inval, Nobufs, Notsup}
use Rattle.guest_memory.specs.Changes.{all_there, lowest_gap, without_pages}
use Rattle.guest_memory.specs.Page.{Pages}
use Rattle.guest_memory.proofs.Changes.{there_is}
use Rattle.codec_arguments.specs.Arguments.{argument, low}
use Rattle.codec_arguments.specs.Reading.{◌>>=◌, refuse_when}
use Rattle.call_codec.specs.Arguments.{or_refused}
use Rattle.call_codec.specs.MemoryCalls.{has_bits, is_aligned, pages_in, place_in}
use Rattle.call_codec.specs.Refusals.{Conditions, success, when, AnswersFirst, errno_of, IsMisaligned, LacksPages, Holds, room_conditions, AdviseIsListed, MapIsListed, ProtectIsListed, SyncIsListed, UnmapIsListed}

-- a condition that a test decides answers where the test is true, and else the others do
tested : {P : Type 0} (b : Bool) (errno answered : Errno) (others : Conditions) → Decides b P → AnswersFirst others answered
    → AnswersFirst (when P errno others) (cond b errno answered)
tested true errno answered others d h = inl (d.0 refl, refl)
tested false errno answered others d h = inr (not_from_Decides false d refl, h)

aligned : (a : ℕ) → Decides (not (is_aligned a)) (IsMisaligned a)
aligned a = Decides-not (is_aligned a) (eqb-true (a % 4096) 0, eq-eqb (a % 4096) 0)

lacking : (m : Pages) (a bytes : ℕ) → Decides (not (all_there m (a / 4096) (pages_in bytes))) (LacksPages m a bytes)
lacking m a bytes = Decides-not (all_there m (a / 4096) (pages_in bytes)) (there_is m (a / 4096) (pages_in bytes))

above : (n limit : ℕ) → Decides (not (nat_le n limit)) (limit < n)
above n limit =
    Decides-like (not (nat_le n limit)) (λ outside. not_within outside) (λ more within. absurd_order more within)
    (Decides-not (nat_le n limit) (leb-true n limit, le-leb n limit))
  where
    not_within : ¬ (n ≤ limit) → limit < n
    not_within outside = elim (leb_tells n limit) [ inl at ↦ absurd (outside at.1) | inr at ↦ at.1 ]

    absurd_order : limit < n → n ≤ limit → ⊥
    absurd_order more within = omega (arith, more, within)

none : (n : ℕ) → Decides (not (nat_lt 0 n)) (n ≡ 0)
none n =
    Decides-like (not (nat_lt 0 n)) (λ empty. is_nothing empty) (λ is some. no_some is some) (Decides-not (nat_lt 0 n) (Decides-ltb 0 n))
  where
    is_nothing : ¬ (0 < n) → n ≡ 0
    is_nothing empty = elim (eqb_tells n 0) [ inl at ↦ at.1 | inr at ↦ absurd (empty (let apart : n ≢ 0 = at.1 in omega (arith, apart))) ]

    no_some : n ≡ 0 → 0 < n → ⊥
    no_some is some = omega (arith, is, some)

itself : (b : Bool) → Decides b (b ≡ true)
itself b = (λ e. e, λ e. e)

-- ---- mem_advise

advise_flat : (x y z t : Bool) → cond (x && y && z) (cond t Success Fault) Inval
    ≡ cond (not x) Inval (cond (not y) Inval (cond (not z) Inval (cond (not t) Fault Success)))
advise_flat true true true true = refl
advise_flat true true true false = refl
advise_flat true true false t = refl
advise_flat true false z t = refl
advise_flat false y z t = refl

pub advise_listed : AdviseIsListed
advise_listed m r =
    let a = argument r 0 in let bytes = argument r 1 in let advice = low (argument r 2) in
    let last = when (LacksPages m a bytes) Fault success in
    let third = when (IsMisaligned a) Inval last in
    let second = when (6 < advice) Inval third in
    let there = all_there m (a / 4096) (pages_in bytes) in
    subst (AnswersFirst (when (advice ≡ 0) Inval second)) (sym (advise_flat (nat_lt 0 advice) (nat_le advice 6) (is_aligned a) there))
    (tested (not (nat_lt 0 advice)) Inval _ second (none advice)
    (tested (not (nat_le advice 6)) Inval _ third (above advice 6)
    (tested (not (is_aligned a)) Inval _ last (aligned a)
    (tested (not there) Fault Success success (lacking m a bytes) refl))))

-- ---- mem_protect

protect_flat : (x al w t : Bool) → cond (x || not al) Inval (cond w Notsup (cond t Success Fault))
    ≡ cond x Inval (cond (not al) Inval (cond w Notsup (cond (not t) Fault Success)))
protect_flat true al w t = refl
protect_flat false false w t = refl
protect_flat false true true t = refl
protect_flat false true false true = refl
protect_flat false true false false = refl

pub protect_listed : ProtectIsListed
protect_listed m r =
    let a = argument r 0 in let bytes = argument r 1 in let prot = low (argument r 2) in
    let last = when (LacksPages m a bytes) Fault success in
    let third = when (Holds prot 3) Notsup last in
    let second = when (IsMisaligned a) Inval third in
    let there = all_there m (a / 4096) (pages_in bytes) in
    subst (AnswersFirst (when (7 < prot) Inval second)) (sym (protect_flat (nat_lt 7 prot) (is_aligned a) (has_bits prot 3) there))
    (tested (nat_lt 7 prot) Inval _ second (Decides-ltb 7 prot)
    (tested (not (is_aligned a)) Inval _ third (aligned a)
    (tested (has_bits prot 3) Notsup _ last (itself (has_bits prot 3))
    (tested (not there) Fault Success success (lacking m a bytes) refl))))

-- ---- mem_sync

sync_flat : (k p q al t : Bool) → cond (k && cond p (not q) q && al) (cond t Success Fault) Inval
    ≡ cond (not k) Inval (cond (p && q) Inval (cond (not p && not q) Inval (cond (not al) Inval (cond (not t) Fault Success))))
sync_flat false p q al t = refl
sync_flat true true true al t = refl
sync_flat true false false al t = refl
sync_flat true true false false t = refl
sync_flat true true false true true = refl
sync_flat true true false true false = refl
sync_flat true false true false t = refl
sync_flat true false true true true = refl
sync_flat true false true true false = refl

pub sync_listed : SyncIsListed
sync_listed m r =
    let a = argument r 0 in let bytes = argument r 1 in let flags = low (argument r 2) in
    let p = has_bits flags 1 in let q = has_bits flags 4 in
    let last = when (LacksPages m a bytes) Fault success in
    let fourth = when (IsMisaligned a) Inval last in
    let third = when ((¬ Holds flags 1) × (¬ Holds flags 4)) Inval fourth in
    let second = when (Holds flags 1 × Holds flags 4) Inval third in
    let there = all_there m (a / 4096) (pages_in bytes) in
    subst (AnswersFirst (when (7 < flags) Inval second)) (sym (sync_flat (nat_le flags 7) p q (is_aligned a) there))
    (tested (not (nat_le flags 7)) Inval _ second (above flags 7)
    (tested (p && q) Inval _ third (Decides-and p q (itself p) (itself q))
    (tested (not p && not q) Inval _ fourth (Decides-and (not p) (not q) (Decides-not p (itself p)) (Decides-not q (itself q)))
    (tested (not (is_aligned a)) Inval _ last (aligned a)
    (tested (not there) Fault Success success (lacking m a bytes) refl)))))

-- ---- mem_unmap

unmap_flat : (al s f : Bool) → cond (al && (s && f)) Success Inval
    ≡ cond (not al) Inval (cond (not s) Inval (cond (not f) Inval Success))
unmap_flat false s f = refl
unmap_flat true false f = refl
unmap_flat true true false = refl
unmap_flat true true true = refl

pub unmap_listed : UnmapIsListed
unmap_listed r =
    let a = argument r 0 in let bytes = argument r 1 in
    let last = when (2 ^ 64 < a + bytes) Inval success in
    let second = when (bytes ≡ 0) Inval last in
    subst (AnswersFirst (when (IsMisaligned a) Inval second)) (sym (unmap_flat (is_aligned a) (nat_lt 0 bytes) (nat_le (a + bytes) (2 ^ 64))))
    (tested (not (is_aligned a)) Inval _ second (aligned a)
    (tested (not (nat_lt 0 bytes)) Inval _ last (none bytes)
    (tested (not (nat_le (a + bytes) (2 ^ 64))) Inval Success success (above (a + bytes) (2 ^ 64)) refl)))

-- ---- mem_map

no_gap : (gap : Option ℕ) → Decides (is_none gap) (gap ≡ None)
no_gap None = (λ e. refl, λ e. refl)
no_gap (Some a) = (λ e. cc, λ e. cc)

-- what mem_map answers, by its tests: the flags PRIVATE, SHARED and FIXED are p, q and f
abbrev map_answer : (p7 f15 b0 p q ao w f al g1 g2 r1 r2 : Bool) → Option ℕ → Errno
map_answer p7 f15 b0 p q ao w f al g1 g2 r1 r2 gap =
    cond p7 Inval (cond f15 Inval (cond b0 Inval (cond (p && q) Inval (cond (not p && not q) Inval
    (cond (not ao) Inval (cond q Notsup (cond w Notsup (cond (f && not al) Inval (cond (f && not g1) Inval (cond (f && not g2) Inval
    (cond (f && not r1) Nobufs (cond (not f && not r2) Nobufs (cond (not f && is_none gap) Nobufs Success)))))))))))))

map_flat : (p7 f15 b0 p q ao w f al g1 g2 r1 r2 : Bool) (gap : Option ℕ) (a bytes prot flags fd offset : ℕ)
    → errno_of (or_refused number.MemMap (
    (refuse_when (p7 || f15 || b0) Inval >>= λ _. refuse_when (not (cond p (not q) q)) Inval >>= λ _. refuse_when (not ao) Inval >>= λ _.
    refuse_when q Notsup >>= λ _. refuse_when w Notsup >>= λ _. refuse_when (f && not (al && (g1 && g2))) Inval) >>= λ _.
    Ok (MemMap (cond f (cond r1 (At a) (place.Refused Nobufs)) (cond r2 (place_in gap) (place.Refused Nobufs))) bytes prot flags fd offset)))
    ≡ map_answer p7 f15 b0 p q ao w f al g1 g2 r1 r2 gap
map_flat true f15 b0 p q ao w f al g1 g2 r1 r2 gap a bytes prot flags fd offset = refl
map_flat false true b0 p q ao w f al g1 g2 r1 r2 gap a bytes prot flags fd offset = refl
map_flat false false true p q ao w f al g1 g2 r1 r2 gap a bytes prot flags fd offset = refl
map_flat false false false true true ao w f al g1 g2 r1 r2 gap a bytes prot flags fd offset = refl
map_flat false false false false false ao w f al g1 g2 r1 r2 gap a bytes prot flags fd offset = refl
map_flat false false false true false false w f al g1 g2 r1 r2 gap a bytes prot flags fd offset = refl
map_flat false false false true false true true f al g1 g2 r1 r2 gap a bytes prot flags fd offset = refl
map_flat false false false true false true false false al g1 g2 r1 false gap a bytes prot flags fd offset = refl
map_flat false false false true false true false false al g1 g2 r1 true None a bytes prot flags fd offset = refl
map_flat false false false true false true false false al g1 g2 r1 true (Some at) a bytes prot flags fd offset = refl
map_flat false false false true false true false true false g1 g2 r1 r2 gap a bytes prot flags fd offset = refl
map_flat false false false true false true false true true false g2 r1 r2 gap a bytes prot flags fd offset = refl
map_flat false false false true false true false true true true false r1 r2 gap a bytes prot flags fd offset = refl
map_flat false false false true false true false true true true true false r2 gap a bytes prot flags fd offset = refl
map_flat false false false true false true false true true true true true r2 gap a bytes prot flags fd offset = refl
map_flat false false false false true false w f al g1 g2 r1 r2 gap a bytes prot flags fd offset = refl
map_flat false false false false true true w f al g1 g2 r1 r2 gap a bytes prot flags fd offset = refl

room_listed : (m : Pages) (a flags k : ℕ) → let f = has_bits flags 2 in
    AnswersFirst (room_conditions m a flags k)
    (cond (f && not (nat_le (len (without_pages m (a / 4096) k) + k) PAGE_LIMIT)) Nobufs
    (cond (not f && not (nat_le (len m + k) PAGE_LIMIT)) Nobufs (cond (not f && is_none (lowest_gap m k)) Nobufs Success)))
room_listed m a flags k =
    let f = has_bits flags 2 in
    let last = when ((¬ Holds flags 2) × (lowest_gap m k ≡ None)) Nobufs success in
    let second = when ((¬ Holds flags 2) × (PAGE_LIMIT < len m + k)) Nobufs last in
    let fixed_room = len (without_pages m (a / 4096) k) + k in
    tested (f && not (nat_le fixed_room PAGE_LIMIT)) Nobufs _ second (Decides-and f (not (nat_le fixed_room PAGE_LIMIT)) (itself f) (above fixed_room PAGE_LIMIT))
    (tested (not f && not (nat_le (len m + k) PAGE_LIMIT)) Nobufs _ last
    (Decides-and (not f) (not (nat_le (len m + k) PAGE_LIMIT)) (Decides-not f (itself f)) (above (len m + k) PAGE_LIMIT))
    (tested (not f && is_none (lowest_gap m k)) Nobufs Success success
    (Decides-and (not f) (is_none (lowest_gap m k)) (Decides-not f (itself f)) (no_gap (lowest_gap m k))) refl))

pub map_listed : MapIsListed
map_listed m r =
    let a = argument r 0 in let bytes = argument r 1 in let prot = low (argument r 2) in let flags = low (argument r 3) in
    let offset = argument r 5 in let k = pages_in bytes in
    let p = has_bits flags 4 in let q = has_bits flags 8 in let f = has_bits flags 2 in
    let last = room_conditions m a flags k in
    let eleventh = when (Holds flags 2 × (GUEST_END < a + 4096 * k)) Inval last in
    let tenth = when (Holds flags 2 × (a < GUEST_BEGIN)) Inval eleventh in
    let ninth = when (Holds flags 2 × IsMisaligned a) Inval tenth in
    let eighth = when (Holds prot 3) Notsup ninth in
    let seventh = when (Holds flags 8) Notsup eighth in
    let sixth = when (IsMisaligned offset) Inval seventh in
    let fifth = when ((¬ Holds flags 4) × (¬ Holds flags 8)) Inval sixth in
    let fourth = when (Holds flags 4 × Holds flags 8) Inval fifth in
    let third = when (bytes ≡ 0) Inval fourth in
    let second = when (15 < flags) Inval third in
    let fixed_room = nat_le (len (without_pages m (a / 4096) k) + k) PAGE_LIMIT in
    let gap_room = nat_le (len m + k) PAGE_LIMIT in
    let answered = map_flat (nat_lt 7 prot) (nat_lt 15 flags) (bytes == 0) p q (is_aligned offset) (has_bits prot 3) f (is_aligned a)
    (nat_le GUEST_BEGIN a) (nat_le (a + 4096 * k) GUEST_END) fixed_room gap_room (lowest_gap m k)
    a bytes prot flags (low (argument r 4)) offset in
    subst (AnswersFirst (when (7 < prot) Inval second)) (sym answered)
    (tested (nat_lt 7 prot) Inval _ second (Decides-ltb 7 prot)
    (tested (nat_lt 15 flags) Inval _ third (Decides-ltb 15 flags)
    (tested (bytes == 0) Inval _ fourth (eqb-true bytes 0, eq-eqb bytes 0)
    (tested (p && q) Inval _ fifth (Decides-and p q (itself p) (itself q))
    (tested (not p && not q) Inval _ sixth (Decides-and (not p) (not q) (Decides-not p (itself p)) (Decides-not q (itself q)))
    (tested (not (is_aligned offset)) Inval _ seventh (aligned offset)
    (tested q Notsup _ eighth (itself q)
    (tested (has_bits prot 3) Notsup _ ninth (itself (has_bits prot 3))
    (tested (f && not (is_aligned a)) Inval _ tenth (Decides-and f (not (is_aligned a)) (itself f) (aligned a))
    (tested (f && not (nat_le GUEST_BEGIN a)) Inval _ eleventh (Decides-and f (not (nat_le GUEST_BEGIN a)) (itself f) (above GUEST_BEGIN a))
    (tested (f && not (nat_le (a + 4096 * k) GUEST_END)) Inval _ last
    (Decides-and f (not (nat_le (a + 4096 * k) GUEST_END)) (itself f) (above (a + 4096 * k) GUEST_END))
    (room_listed m a flags k))))))))))))
