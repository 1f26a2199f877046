-- Bytes in a row, one by one.
use Rattle.std.proofs.Common.{◌≡◌, ℕ, zero, suc, ◌+◌, ◌%◌, ◌^◌, ◌<◌, List, ◌∷◌, get_or, Result, Ok, Err, IsOk, MatchResult, refl, sym, ap, subst, ◌∙◌, arith}
use Rattle.guest_memory.specs.declared.access.Access.{Access}
use Rattle.guest_memory.specs.declared.fault.MemFault.{MemFault}
use Rattle.guest_memory.specs.Page.{Pages}
use Rattle.guest_memory.specs.Bytes.{AreBytes, BytesAreEach, IsFirstFault, byte_at, bytes_from, in_front}

-- the byte at the address itself
byte_here : (x : Access) (m : Pages) (a : ℕ) (b : Result ℕ MemFault) → a < 2 ^ 64 → byte_at x m a ≡ b → byte_at x m ((a + 0) % 2 ^ 64) ≡ b
byte_here x m a b small e = let here : (a + 0) % 2 ^ 64 ≡ a = omega arith in ap (byte_at x m) here ∙ e

-- a byte after the next address is one further from the address
further : (x : Access) (m : Pages) (a k : ℕ) → byte_at x m ((a + suc k) % 2 ^ 64) ≡ byte_at x m (((a + 1) % 2 ^ 64 + k) % 2 ^ 64)
further x m a k = let same : (a + suc k) % 2 ^ 64 ≡ ((a + 1) % 2 ^ 64 + k) % 2 ^ 64 = omega arith in ap (byte_at x m) same

each_in_front : (x : Access) (m : Pages) (a n b : ℕ) (bs : List ℕ) → a < 2 ^ 64 → byte_at x m a ≡ Ok b → AreBytes x m ((a + 1) % 2 ^ 64) n bs → (k : ℕ) → k < suc n → byte_at x m ((a + k) % 2 ^ 64) ≡ Ok (get_or (b ∷ bs) k 0)
each_in_front x m a n b bs small e h zero below = byte_here x m a (Ok b) small e
each_in_front x m a n b bs small e h (suc k) below = further x m a k ∙ h.each k (omega arith)

before_in_front : (x : Access) (m : Pages) (a n b : ℕ) (fault : MemFault) → a < 2 ^ 64 → byte_at x m a ≡ Ok b → (h : IsFirstFault x m ((a + 1) % 2 ^ 64) n fault) → (k : ℕ) → k < suc h.place → IsOk (byte_at x m ((a + k) % 2 ^ 64))
before_in_front x m a n b fault small e h zero below = subst IsOk (sym (byte_here x m a (Ok b) small e)) refl
before_in_front x m a n b fault small e h (suc k) below = subst IsOk (sym (further x m a k)) (h.before k (omega arith))

each_of : (x : Access) (m : Pages) (a n : ℕ) (b : Result ℕ MemFault) (r : Result (List ℕ) MemFault) → a < 2 ^ 64 → byte_at x m a ≡ b
    → MatchResult r (AreBytes x m ((a + 1) % 2 ^ 64) n) (IsFirstFault x m ((a + 1) % 2 ^ 64) n) → MatchResult (in_front b r) (AreBytes x m a (suc n)) (IsFirstFault x m a (suc n))
each_of x m a n (Ok b) (Ok bs) small e h = record { count = ap suc h.count; each = each_in_front x m a n b bs small e h }
each_of x m a n (Ok b) (Err fault) small e h =
    record { place = suc h.place; within = omega (arith, h.within); before = before_in_front x m a n b fault small e h; there = further x m a h.place ∙ h.there }
each_of x m a n (Err fault) r small e h =
    record { place = 0; within = omega arith; before = λ k below. absurd (omega arith); there = byte_here x m a (Err fault) small e }

pub bytes_each : BytesAreEach
unfolding bytes_from
bytes_each x m a zero small = record { count = refl; each = λ k below. absurd (omega arith) }
bytes_each x m a (suc n) small = each_of x m a n (byte_at x m a) (bytes_from x m ((a + 1) % 2 ^ 64) n) small refl (bytes_each x m ((a + 1) % 2 ^ 64) n (omega arith))
