-- Bytes that are written, one by one.
use Rattle.std.proofs.Common.{◌≡◌, ◌≢◌, ℕ, zero, suc, ◌+◌, ◌/◌, ◌%◌, ◌^◌, ◌<◌, Bool, true, false, inl, inr, List, [], ◌∷◌, length, get_or, get_or-set_same, get_or-set_other, if◌then◌else◌, Option, Some, None, Result, Ok, Err, option_map, refl, sym, ap, subst, ◌∙◌, arith}
use Rattle.std.proofs.Math.ListN.{set, length-set}
use Rattle.std.proofs.lemmas.Bool.Decides.{eqb_tells}
use Rattle.std.specs.FinMap.{get, insert}
use Rattle.maps.specs.Maps.{get-insert-same, get-insert-other}
use Rattle.guest_memory.specs.declared.access.Access.{Access}
use Rattle.guest_memory.specs.declared.fault.MemFault.{MemFault}
use Rattle.guest_memory.specs.declared.fault.MemFault.TheVariants.{NoRight}
use Rattle.guest_memory.specs.Access.{allows}
use Rattle.guest_memory.specs.Page.{Page, Pages}
use Rattle.guest_memory.specs.Limits.{KeepsLimits}
use Rattle.guest_memory.specs.Bytes.{byte_in, byte_at, bytes_from}
use Rattle.guest_memory.specs.Written.{AreWritten, WrittenAreEach, with_byte, set_byte_in, set_byte, set_bytes, written_over}
use Rattle.guest_memory.specs.declared.access.Access.TheVariants.{Write}
use Rattle.guest_memory.proofs.Writes.{limits_kept, rights_kept, set_first, set_none}

-- ---- one byte

limits_in : (m : Pages) (a b : ℕ) (o : Option Page) → get m (a / 4096) ≡ o → KeepsLimits m → KeepsLimits (set_byte_in m a b o)
limits_in m a b None there h = h
limits_in m a b (Some p) there h =
    limits_kept m (a / 4096) p (with_byte p (a % 4096) b) h there (length-set p.bytes (a % 4096) b ∙ h.whole (a / 4096) p there)

same_by_rights : (x : Access) (a b d : ℕ) (bytes : List ℕ) (t : Bool) → a % 4096 < length bytes → (if t then Ok (get_or bytes (a % 4096) 0) else Err (NoRight a)) ≡ Ok d
    → (if t then Ok (get_or (set bytes (a % 4096) b) (a % 4096) 0) else Err (NoRight a)) ≡ Ok b
same_by_rights x a b d bytes true inside e = ap Ok (get_or-set_same bytes (a % 4096) b 0 inside)
same_by_rights x a b d bytes false inside e = absurd (cc)

byte_set_in : (x : Access) (m : Pages) (a b d : ℕ) (o : Option Page) → get m (a / 4096) ≡ o → KeepsLimits m → byte_in x a o ≡ Ok d → byte_at x (set_byte_in m a b o) a ≡ Ok b
byte_set_in x m a b d None there h e = absurd (cc)
byte_set_in x m a b d (Some p) there h e =
    let inside : a % 4096 < length p.bytes = omega (arith, h.whole (a / 4096) p there) in
    ap (byte_in x a) (get-insert-same m (a / 4096) (with_byte p (a % 4096) b)) ∙ same_by_rights x a b d p.bytes (allows p.prot x) inside e

byte_kept_in : (x : Access) (m : Pages) (a b c : ℕ) (o : Option Page) → get m (a / 4096) ≡ o → c ≢ a → byte_at x (set_byte_in m a b o) c ≡ byte_at x m c
byte_kept_in x m a b c None there other = refl
byte_kept_in x m a b c (Some p) there other = elim (eqb_tells (c / 4096) (a / 4096)) [
  | inl h ↦
      let places : c % 4096 ≢ a % 4096 = omega (arith, h.1) in
      ap (λ q. byte_in x c (get (insert m (a / 4096) (with_byte p (a % 4096) b)) q)) h.1
      ∙ ap (byte_in x c) (get-insert-same m (a / 4096) (with_byte p (a % 4096) b))
      ∙ ap (λ d. if allows p.prot x then Ok d else Err (NoRight c)) (get_or-set_other p.bytes (a % 4096) (c % 4096) b 0 places)
      ∙ ap (byte_in x c) (sym there)
      ∙ ap (λ q. byte_in x c (get m q)) (sym h.1)
  | inr h ↦ ap (byte_in x c) (get-insert-other m (a / 4096) (with_byte p (a % 4096) b) (c / 4096) h.1)
]

byte_set : (x : Access) (m : Pages) (a b d : ℕ) → KeepsLimits m → byte_at x m a ≡ Ok d → byte_at x (set_byte m a b) a ≡ Ok b
byte_set x m a b d h e = byte_set_in x m a b d (get m (a / 4096)) refl h e

byte_kept : (x : Access) (m : Pages) (a b c : ℕ) → c ≢ a → byte_at x (set_byte m a b) c ≡ byte_at x m c
byte_kept x m a b c other = byte_kept_in x m a b c (get m (a / 4096)) refl other

-- ---- all bytes

refused_by : (a : ℕ) (fault : MemFault) (t : Bool) (d e : ℕ) → (if t then Ok d else Err (NoRight a)) ≡ Err fault → (if t then Ok e else Err (NoRight a)) ≡ Err fault
refused_by a fault true d e h = absurd (cc)
refused_by a fault false d e h = h

refused_in : (x : Access) (a : ℕ) (fault : MemFault) (o s : Option Page) → option_map (λ p. p.prot) o ≡ option_map (λ p. p.prot) s → byte_in x a o ≡ Err fault → byte_in x a s ≡ Err fault
refused_in x a fault None None e h = h
refused_in x a fault None (Some r) e h = absurd (cc)
refused_in x a fault (Some p) None e h = absurd (cc)
refused_in x a fault (Some p) (Some r) e h =
    let same : p.prot ≡ r.prot = cc in
    ap (λ t. if allows t x then Ok (get_or r.bytes (a % 4096) 0) else Err (NoRight a)) (sym same)
    ∙ refused_by a fault (allows p.prot x) (get_or p.bytes (a % 4096) 0) (get_or r.bytes (a % 4096) 0) h

others_kept : (bs : List ℕ) (x : Access) (m : Pages) (a c : ℕ) → a < 2 ^ 64 → c < 2 ^ 64 → ((k : ℕ) → k < length bs → (a + k) % 2 ^ 64 ≢ c) → byte_at x (set_bytes m a bs) c ≡ byte_at x m c
others_kept [] x m a c small below other = ap (λ n. byte_at x n c) (set_none m a)
others_kept (b ∷ bs) x m a c small below other =
    let here : (a + 0) % 2 ^ 64 ≡ a = omega arith in
    ap (λ n. byte_at x n c) (set_first m a b bs)
    ∙ others_kept bs x (set_byte m a b) ((a + 1) % 2 ^ 64) c (omega arith) below
    (λ k h e. other (suc k) (omega arith) (let same : (a + suc k) % 2 ^ 64 ≡ ((a + 1) % 2 ^ 64 + k) % 2 ^ 64 = omega arith in same ∙ e))
    ∙ byte_kept x m a b c (λ e. other 0 (omega arith) (here ∙ sym e))

written_there : (bs : List ℕ) (x : Access) (m : Pages) (a k before : ℕ) → KeepsLimits m → a < 2 ^ 64 → length bs < 2 ^ 64 → k < length bs
    → byte_at x m ((a + k) % 2 ^ 64) ≡ Ok before → byte_at x (set_bytes m a bs) ((a + k) % 2 ^ 64) ≡ Ok (get_or bs k 0)
written_there [] x m a k before h small few within e = absurd (omega arith)
written_there (b ∷ bs) x m a zero before h small few within e =
    let here : (a + 0) % 2 ^ 64 ≡ a = omega arith in
    ap (byte_at x (set_bytes m a (b ∷ bs))) here
    ∙ ap (λ n. byte_at x n a) (set_first m a b bs)
    ∙ others_kept bs x (set_byte m a b) ((a + 1) % 2 ^ 64) a (omega arith) small (λ k i same. absurd (omega arith))
    ∙ byte_set x m a b before h (ap (byte_at x m) (sym here) ∙ e)
written_there (b ∷ bs) x m a (suc k) before h small few within e =
    let there : (a + suc k) % 2 ^ 64 ≡ ((a + 1) % 2 ^ 64 + k) % 2 ^ 64 = omega arith in
    let other : ((a + 1) % 2 ^ 64 + k) % 2 ^ 64 ≢ a = λ same. omega arith in
    ap (byte_at x (set_bytes m a (b ∷ bs))) there
    ∙ ap (λ n. byte_at x n (((a + 1) % 2 ^ 64 + k) % 2 ^ 64)) (set_first m a b bs)
    ∙ written_there bs x (set_byte m a b) ((a + 1) % 2 ^ 64) k before (limits_in m a b (get m (a / 4096)) refl h) (omega arith) (omega arith) (omega arith)
    (byte_kept x m a b (((a + 1) % 2 ^ 64 + k) % 2 ^ 64) other ∙ ap (byte_at x m) (sym there) ∙ e)

set_each : (m : Pages) (a : ℕ) (bs : List ℕ) → KeepsLimits m → a < 2 ^ 64 → length bs < 2 ^ 64 → AreWritten m a bs (set_bytes m a bs)
set_each m a bs h small few = record {
  written = λ x k before within e. written_there bs x m a k before h small few within e;
  refused = λ x c fault e. refused_in x c fault (get m (c / 4096)) (get (set_bytes m a bs) (c / 4096)) (rights_kept bs m a (c / 4096)) e;
  others = λ x c below other. others_kept bs x m a c small below other;
}

written_is : (m n : Pages) (a : ℕ) (bs : List ℕ) (r : Result (List ℕ) MemFault) → written_over m a bs r ≡ Ok n → n ≡ set_bytes m a bs
written_is m n a bs (Ok before) e = cc
written_is m n a bs (Err fault) e = absurd (cc)

pub written_each : WrittenAreEach
written_each m n a bs h small few e =
    subst (AreWritten m a bs) (sym (written_is m n a bs (bytes_from Write m a (length bs)) e)) (set_each m a bs h small few)
