-- Events that are written one behind the other.
--     events_length      how many bytes they have
--     events_left, no_event_left      after the first of those that are left was written, and after the last
--     whole_write, no_write      a write of bytes that may be written, and one of bytes that may not
--     too_many      more bytes than there are addresses may not be written
use Rattle.std.proofs.Common.{◌≡◌, ℕ, ◌+◌, ◌-◌, ◌*◌, ◌%◌, ◌^◌, ◌<◌, ◌≤◌, suc, List, [], ◌∷◌, drop, drop-cons, get_or, length, length-append, Option, Some, None, Result, Ok, Err, IsOk, MatchResult, refl, sym, ap, subst, ◌∙◌, arith}
use Rattle.std.proofs.lemmas.List.{drop_all}
use Rattle.std.specs.FinMap.{get}
use Rattle.abi_base.specs.declared.errno.Errno.TheVariants.{Fault}
use Rattle.abi_structures.specs.declared.events.Event.{Event}
use Rattle.guest_memory.specs.declared.access.Access.TheVariants.{Write}
use Rattle.guest_memory.specs.declared.fault.MemFault.{MemFault}
use Rattle.guest_memory.specs.Bytes.{AreBytes, IsFirstFault, byte_at, byte_in, bytes_from}
use Rattle.guest_memory.specs.Limits.{KeepsLimits}
use Rattle.guest_memory.specs.Page.{Page, Pages}
use Rattle.guest_memory.specs.Written.{set_bytes, written_over}
use Rattle.guest_memory.proofs.EachByte.{bytes_each}
use Rattle.guest_memory.proofs.Runs.{bytes-append, joined}
use Rattle.guest_memory.proofs.Writes.{ok_after, rights_kept, set-append, set_none}
use Rattle.codec_arguments.specs.Bytes.{writable}
use Rattle.codec_arguments.specs.Reading.{◌>>=◌, or_fault}
use Rattle.call_codec.specs.Output.{event_bytes, events_bytes, or_unwritten, with_bytes}
use Rattle.call_codec.proofs.Layouts.{event_length}

pub events_length : (events : List Event) → length (events_bytes events) ≡ 32 * length events
events_length [] = refl
events_length (event ∷ events) =
    let rest = events_length events in
    let all = length-append (event_bytes event) (events_bytes events) in
    omega (arith, rest, all, event_length event)

-- ---- one write

made_whole : (m : Pages) (a : ℕ) (bytes : List ℕ) (before : Result (List ℕ) MemFault) → IsOk before → or_unwritten m (written_over m a bytes before) ≡ set_bytes m a bytes
made_whole m a bytes (Ok before) h = refl
made_whole m a bytes (Err fault) h = absurd (cc)

pub whole_write : (m : Pages) (a n : ℕ) (bytes : List ℕ) → length bytes ≡ n → IsOk (bytes_from Write m a n) → with_bytes m a bytes ≡ set_bytes m a bytes
whole_write m a n bytes all h =
    made_whole m a bytes (bytes_from Write m a (length bytes)) (subst (λ (k : ℕ). IsOk (bytes_from Write m a k)) (sym all) h)

not_made : (m : Pages) (a : ℕ) (bytes : List ℕ) (before : Result (List ℕ) MemFault) → ((found : List ℕ) → before ≡ Ok found → ⊥)
    → or_unwritten m (written_over m a bytes before) ≡ m
not_made m a bytes (Ok before) h = absurd (h before refl)
not_made m a bytes (Err fault) h = refl

-- ---- events

pub both_ok : (first rest : Result (List ℕ) MemFault) → IsOk (joined first rest) → IsOk first × IsOk rest
both_ok (Ok xs) (Ok ys) h = (refl, refl)
both_ok (Ok xs) (Err fault) h = absurd (cc)
both_ok (Err fault) rest h = absurd (cc)

-- the bytes of the first event and those of the others may be written
split_room : (m : Pages) (a n : ℕ) → a < 2 ^ 64 → 0 < n → IsOk (bytes_from Write m a (32 * n))
    → IsOk (bytes_from Write m a 32) × IsOk (bytes_from Write m ((a + 32) % 2 ^ 64) (32 * (n - 1)))
split_room m a n small some h =
    let count : 32 * n ≡ 32 + 32 * (n - 1) = omega (arith, some) in
    both_ok (bytes_from Write m a 32) (bytes_from Write m ((a + 32) % 2 ^ 64) (32 * (n - 1)))
    (subst IsOk (ap (bytes_from Write m a) count ∙ bytes-append Write m 32 (32 * (n - 1)) a small) h)

-- what is left to write, and the room for it, after the first event was written
pub record IsLeft (m after : Pages) (a n : ℕ) (event : Event) (events : List Event) : Type 0 where
  pub same : set_bytes after ((a + 32) % 2 ^ 64) (events_bytes events) ≡ set_bytes m a (events_bytes (event ∷ events))
  pub room : IsOk (bytes_from Write after ((a + 32) % 2 ^ 64) (32 * (n - 1)))

left_after : (m : Pages) (a n : ℕ) (event : Event) (events : List Event) → a < 2 ^ 64 → 0 < n → IsOk (bytes_from Write m a (32 * n))
    → IsLeft m (set_bytes m a (event_bytes event)) a n event events
left_after m a n event events small some h =
    let after = set_bytes m a (event_bytes event) in
    let next : (a + length (event_bytes event)) % 2 ^ 64 ≡ (a + 32) % 2 ^ 64 = ap (λ (k : ℕ). (a + k) % 2 ^ 64) (event_length event) in
    record {
      same =
          sym (set-append (event_bytes event) (events_bytes events) m a small
          ∙ ap (λ (b : ℕ). set_bytes after b (events_bytes events)) next);
      room = ok_after Write m after (rights_kept (event_bytes event) m a) (32 * (n - 1)) ((a + 32) % 2 ^ 64) (split_room m a n small some h).1;
    }

next_event : (m after : Pages) (a n : ℕ) (event : Event) (events : List Event) → a < 2 ^ 64 → 0 < n → IsOk (bytes_from Write m a (32 * n))
    → after ≡ with_bytes m a (event_bytes event) → IsLeft m after a n event events
next_event m after a n event events small some h is =
    let whole = whole_write m a 32 (event_bytes event) (event_length event) (split_room m a n small some h).0 in
    subst (λ (n' : Pages). IsLeft m n' a n event events) (sym (is ∙ whole)) (left_after m a n event events small some h)

-- the same by the place of the event among all
pub events_left : (m after goal : Pages) (a i : ℕ) (events : List Event) (d : Event) (bytes : List ℕ) → a < 2 ^ 64 → i < length events
    → bytes ≡ event_bytes (get_or events i d) → after ≡ with_bytes m a bytes → set_bytes m a (events_bytes (drop i events)) ≡ goal
    → IsOk (bytes_from Write m a (32 * (length events - i)))
    → (set_bytes after ((a + 32) % 2 ^ 64) (events_bytes (drop (i + 1) events)) ≡ goal)
    × IsOk (bytes_from Write after ((a + 32) % 2 ^ 64) (32 * (length events - (i + 1))))
events_left m after goal a i events d bytes small below this wrote all room =
    let event = get_or events i d in
    let next : suc i ≡ i + 1 = omega arith in
    let count : length events - i - 1 ≡ length events - (i + 1) = omega arith in
    let some : 0 < length events - i = omega (arith, below) in
    let split = drop-cons events i d below ∙ ap (λ (k : ℕ). event ∷ drop k events) next in
    let left =
    next_event m after a (length events - i) event (drop (i + 1) events) small some room (wrote ∙ ap (with_bytes m a) this) in (
      left.same ∙ sym (ap (λ (es : List Event). set_bytes m a (events_bytes es)) split) ∙ all,
      subst (λ (k : ℕ). IsOk (bytes_from Write after ((a + 32) % 2 ^ 64) (32 * k))) count left.room,
    )

-- none is left
pub no_event_left : (m : Pages) (a i : ℕ) (events : List Event) → length events ≤ i → set_bytes m a (events_bytes (drop i events)) ≡ m
no_event_left m a i events past =
    ap (λ (es : List Event). set_bytes m a (events_bytes es)) (drop_all i events past) ∙ set_none m a

-- ---- rooms

had : (before : Result (List ℕ) MemFault) → IsOk (or_fault before >>= λ bytes. Ok (tt {0})) → IsOk before
had (Ok bytes) h = refl
had (Err fault) h = absurd (cc)

pub had_room : (m : Pages) (a n : ℕ) → IsOk (writable m a n) → IsOk (bytes_from Write m a n)
had_room m a n h = had (bytes_from Write m a n) h

has : (before : Result (List ℕ) MemFault) (found : List ℕ) → before ≡ Ok found → IsOk (or_fault before >>= λ bytes. Ok (tt {0}))
has (Ok bytes) found e = refl
has (Err fault) found e = absurd (cc)

pub no_write : (m : Pages) (a n : ℕ) (bytes : List ℕ) → length bytes ≡ n → (IsOk (writable m a n) → ⊥) → with_bytes m a bytes ≡ m
no_write m a n bytes all refused =
    not_made m a bytes (bytes_from Write m a (length bytes))
    (λ found is. refused (has (bytes_from Write m a n) found (sym (ap (bytes_from Write m a) all) ∙ is)))

-- no memory has a byte at the address 0
none_at_zero : (m : Pages) → KeepsLimits m → (page : Option Page) (b : ℕ) → get m 0 ≡ page → byte_in Write 0 page ≡ Ok b → ⊥
none_at_zero m limits None b is e = cc
none_at_zero m limits (Some page) b is e = let low = limits.low 0 page is in absurd (omega (arith, low))

not_all : (m : Pages) (a n : ℕ) (found : Result (List ℕ) MemFault) → KeepsLimits m → a < 2 ^ 64 → 2 ^ 64 ≤ n
    → MatchResult found (AreBytes Write m a n) (IsFirstFault Write m a n) → (or_fault found >>= λ bytes. Ok (tt {0})) ≡ Err Fault
not_all m a n (Ok bytes) limits small many each =
    let k = (2 ^ 64 - a) % 2 ^ 64 in
    let here : (a + k) % 2 ^ 64 ≡ 0 = omega (arith, small) in
    absurd (none_at_zero m limits (get m 0) _ refl (sym (ap (byte_at Write m) here) ∙ each.each k (omega (arith, many))))
not_all m a n (Err fault) limits small many each = refl

pub too_many : (m : Pages) (a n : ℕ) → KeepsLimits m → a < 2 ^ 64 → 2 ^ 64 ≤ n → writable m a n ≡ Err Fault
too_many m a n limits small many = not_all m a n (bytes_from Write m a n) limits small many (bytes_each Write m a n small)
