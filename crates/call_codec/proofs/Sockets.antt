-- The places of what comes or goes by a socket.
--     has_enough, room_given      there is room for as much as was asked
--     message_encoded, message_places      the places of a message, where sock_recv is encoded, and where they were looked at
--     message_given      these are places that may be had
--     takes_message, takes_sent      a message and how much was sent are written there
--     sent_encoded      where sock_send is encoded, how much is sent has its place
use Rattle.std.proofs.Common.{◌≡◌, ℕ, zero, suc, ◌+◌, ◌*◌, ◌%◌, ◌^◌, ◌<◌, ◌≤◌, min, nat_lt, List, [], ◌∷◌, take, drop, length, Ok, IsOk, refl, sym, ap, subst, ◌∙◌, arith}
use Rattle.std.proofs.lemmas.Bool.{le-leb, le-ltb, ltb-false}
use Rattle.std.specs.Int.{w32, to_le_bytes}
use Rattle.abi_base.specs.declared.errno.Errno.TheVariants.{Fault, Inval}
use Rattle.abi_base.specs.Registers.{Registers}
use Rattle.abi_structures.specs.declared.structures.Iovec.{Iovec}
use Rattle.abi_structures.specs.declared.structures.RecvIn.{RecvIn}
use Rattle.abi_types.specs.declared.call.Call.TheVariants.{SockRecv, SockSend}
use Rattle.codec_arguments.specs.Arguments.{argument}
use Rattle.codec_arguments.specs.Bytes.{writable}
use Rattle.codec_arguments.specs.Ranges.{room_in}
use Rattle.codec_arguments.specs.Structures.{recv_in_at, send_in_at}
use Rattle.codec_arguments.specs.declared.ranges.TheConstants.{MOST_IOVECS, MOST_TRANSFERRED}
use Rattle.codec_calls.specs.Flags.{has_unknown}
use Rattle.codec_calls.specs.SocketCalls.{received_room, sock_recv_of, sock_send_of}
use Rattle.codec_calls.specs.declared.socket_calls.TheConstants.{MOST_SENT_DESCRIPTORS, RECEIVE_FLAGS}
use Rattle.guest_memory.specs.declared.access.Access.TheVariants.{Write}
use Rattle.guest_memory.specs.Bytes.{byte_at, bytes_from}
use Rattle.guest_memory.specs.Page.{Pages}
use Rattle.guest_memory.proofs.Runs.{bytes-append, first}
use Rattle.guest_memory.proofs.Writes.{SameRights, ok_after}
use Rattle.call_codec.specs.Given.{has_message, has_room}
use Rattle.call_codec.specs.Output.{iovecs_in, message_ranges, received_of, recv_out_bytes, scattered, send_out_bytes, with_bytes, with_descriptors}
use Rattle.call_codec.specs.OutputLaws.{AreNumbersWritten, AreWrittenInto, IsMessageWritten, TakesMessage, TakesSent}
use Rattle.call_codec.proofs.Events.{both_ok}
use Rattle.call_codec.proofs.Layouts.{received_length, sent_length}
use Rattle.call_codec.proofs.Outputs.{among_ok, front_ok, had_ok, ok_front, same_after, write_made, written_into}
use Rattle.call_codec.proofs.Readings.{not_refused, passed, test_false}

-- ---- room

pub has_enough : (asked room : ℕ) → asked ≤ room → has_room asked room ≡ Ok tt
has_enough asked room less = rw (le-ltb room asked less) refl

pub room_given : (asked room : ℕ) (x : Unit {0}) → has_room asked room ≡ Ok x → asked ≤ room
room_given asked room x e = ltb-false room asked (test_false (nat_lt room asked) Fault x e)

-- ---- the places of a message

-- there are places for so many bytes and descriptors
pub record HasPlaces (m : Pages) (r : Registers) (most fds : ℕ) : Type 0 where
  pub places : RecvIn
  pub found : recv_in_at m (argument r 1) ≡ Ok places
  pub room : ℕ
  pub ranges : room_in m places.iovs (iovecs_in places) ≡ Ok room
  pub enough : most ≤ room
  pub numbers : writable m places.fds (4 * min places.fds_count MOST_SENT_DESCRIPTORS) ≡ Ok tt
  pub few : fds ≤ places.fds_count
  pub sum : writable m (argument r 2) 24 ≡ Ok tt

pub message_places : (m : Pages) (r : Registers) (most fds : ℕ) (x : Unit {0}) → has_message m r most fds ≡ Ok x → HasPlaces m r most fds
message_places m r most fds x e =
    let found = passed (recv_in_at m (argument r 1)) _ x e in
    let places = found.0 in
    let room = passed (room_in m places.iovs (iovecs_in places)) _ x found.2 in
    let enough = passed (has_room most room.0) _ x room.2 in
    let numbers = passed (writable m places.fds (4 * min places.fds_count MOST_SENT_DESCRIPTORS)) _ x enough.2 in
    let few = passed (has_room fds places.fds_count) _ x numbers.2 in
    record {
      places = places;
      found = found.1;
      room = room.0;
      ranges = room.1;
      enough = room_given most room.0 enough.0 enough.1;
      numbers = numbers.1;
      few = room_given fds places.fds_count few.0 few.1;
      sum = few.2;
    }

pub message_given : (m : Pages) (r : Registers) (most fds : ℕ) → HasPlaces m r most fds → has_message m r most fds ≡ Ok tt
message_given m r most fds has =
    rw has.found (rw has.ranges (rw (has_enough most has.room has.enough) (rw has.numbers (rw (has_enough fds has.places.fds_count has.few) has.sum))))

-- an array that isn't refused is read whole
whole_array : (count : ℕ) → count ≤ MOST_IOVECS → min count MOST_IOVECS ≡ count
whole_array count few = omega arith

room_read : (m : Pages) (places : RecvIn) (most : ℕ) → places.iovs_count ≤ MOST_IOVECS → received_room m places ≡ Ok most
    → room_in m places.iovs (iovecs_in places) ≡ Ok most
room_read m places most few e =
    let read : received_room m places ≡ room_in m places.iovs places.iovs_count = rw (le-leb places.iovs_count MOST_IOVECS few) refl in
    ap (room_in m places.iovs) (whole_array places.iovs_count few) ∙ sym read ∙ e

pub message_encoded : (m : Pages) (r : Registers) (fd most fds flags : ℕ) → sock_recv_of m r ≡ Ok (SockRecv fd most fds flags) → HasPlaces m r most fds
message_encoded m r fd most fds flags is =
    let call = SockRecv fd most fds flags in
    let found = passed (recv_in_at m (argument r 1)) _ call is in
    let places = found.0 in
    let sum = passed (writable m (argument r 2) 24) _ call found.2 in
    let room = passed (received_room m places) _ call sum.2 in
    let numbers = passed (writable m places.fds (4 * min places.fds_count MOST_SENT_DESCRIPTORS)) _ call room.2 in
    let few = not_refused (nat_lt MOST_IOVECS places.iovs_count) Inval _ call numbers.2 in
    let known = not_refused (has_unknown places.flags RECEIVE_FLAGS) Inval _ call few.1 in
    let same : room.0 ≡ most = cc known.1 in
    let count : places.fds_count ≡ fds = cc known.1 in
    record {
      places = places;
      found = found.1;
      room = room.0;
      ranges = room_read m places room.0 (ltb-false MOST_IOVECS places.iovs_count few.0) room.1;
      enough = omega (arith, same);
      numbers = numbers.1;
      few = omega (arith, count);
      sum = sum.1;
    }

-- ---- a message

same_scattered : (ranges : List Iovec) (m : Pages) (bytes : List ℕ) → SameRights m (scattered m ranges bytes)
same_scattered [] m bytes q = refl
same_scattered (range ∷ ranges) m bytes q =
    same_after m range.address (take range.length bytes) q
    ∙ same_scattered ranges (with_bytes m range.address (take range.length bytes)) (drop range.length bytes) q

same_descriptors : (fds : List ℕ) (m : Pages) (a : ℕ) → SameRights m (with_descriptors m a fds)
same_descriptors [] m a q = refl
same_descriptors (fd ∷ fds) m a q =
    same_after m a (to_le_bytes w32 fd) q
    ∙ same_descriptors fds (with_bytes m a (to_le_bytes w32 fd)) ((a + 4) % 2 ^ 64) q

-- the bytes of the first number and those of the others may be written
split_room : (m : Pages) (a n : ℕ) → IsOk (bytes_from Write m a (4 * suc n))
    → IsOk (bytes_from Write m a 4) × IsOk (bytes_from Write m ((a + 4) % 2 ^ 64) (4 * n))
split_room m a n h =
    let count : 4 * suc n ≡ suc (3 + 4 * n) = omega arith in
    let next : ℕ = (a + 1) % 2 ^ 64 in
    let small : next < 2 ^ 64 = omega arith in
    let place : (next + 3) % 2 ^ 64 ≡ (a + 4) % 2 ^ 64 = omega arith in
    let both =
    front_ok (byte_at Write m a) (bytes_from Write m next (3 + 4 * n)) (subst IsOk (ap (bytes_from Write m a) count ∙ first Write m a (3 + 4 * n)) h) in
    let parts =
    both_ok (bytes_from Write m next 3) (bytes_from Write m ((next + 3) % 2 ^ 64) (4 * n)) (subst IsOk (bytes-append Write m 3 (4 * n) next small) both.1) in (
      subst IsOk (sym (first Write m a 3)) (ok_front (byte_at Write m a) (bytes_from Write m next 3) both.0 parts.0),
      subst (λ (b : ℕ). IsOk (bytes_from Write m b (4 * n))) place parts.1,
    )

numbers_written : (fds : List ℕ) (before m : Pages) (a n : ℕ) → SameRights before m → length fds ≤ n → IsOk (bytes_from Write before a (4 * n))
    → AreNumbersWritten m a fds
numbers_written [] before m a n same less h = tt
numbers_written (fd ∷ fds) before m a zero same less h = absurd (omega arith)
numbers_written (fd ∷ fds) before m a (suc n) same less h =
    let split = split_room before a n h in (
      write_made m a 4 (to_le_bytes w32 fd) (omega arith) (ok_after Write before m same 4 a split.0),
      numbers_written fds before (with_bytes m a (to_le_bytes w32 fd)) ((a + 4) % 2 ^ 64) n
          (λ q. same q ∙ same_after m a (to_le_bytes w32 fd) q) (omega (arith, less)) split.1,
    )

-- so many bytes from an address on may be written
may_write : (m : Pages) (a n : ℕ) → writable m a n ≡ Ok tt → IsOk (bytes_from Write m a n)
may_write m a n e = had_ok (bytes_from Write m a n) tt e

message_made : (m : Pages) (r : Registers) (most most_fds : ℕ) (has : HasPlaces m r most most_fds) (ranges : List Iovec)
    → ((bytes : List ℕ) → length bytes ≤ has.room → AreWrittenInto m ranges bytes) → (bytes fds : List ℕ) (flags : ℕ) → length bytes ≤ most
    → length fds ≤ min most_fds MOST_SENT_DESCRIPTORS → IsMessageWritten m (argument r 2) has.places ranges bytes fds flags
message_made m r most most_fds has ranges take_bytes bytes fds flags less few =
    let places = has.places in
    let first = scattered m ranges bytes in
    let second = with_descriptors first places.fds fds in
    let room = min places.fds_count MOST_SENT_DESCRIPTORS in
    let size = received_length (received_of bytes fds flags) in
    let fits : length fds ≤ room = omega (arith, few, has.few) in
    let same : SameRights m second = λ q. same_scattered ranges m bytes q ∙ same_descriptors fds first places.fds q in
    record {
      content = take_bytes bytes (omega (arith, less, has.enough));
      numbers = numbers_written fds m first places.fds room (same_scattered ranges m bytes) fits (may_write m places.fds (4 * room) has.numbers);
      size = size;
      sum =
          write_made second (argument r 2) 24 (recv_out_bytes (received_of bytes fds flags)) (omega (arith, size))
          (ok_after Write m second same 24 (argument r 2) (may_write m (argument r 2) 24 has.sum));
    }

pub takes_message : (m : Pages) (r : Registers) (most fds : ℕ) → HasPlaces m r most fds → TakesMessage m r most fds
takes_message m r most fds has =
    let read = among_ok m (message_ranges m has.places) has.room has.ranges in
    record {
      places = has.places;
      found = has.found;
      ranges = read.0;
      read = read.1;
      written =
          message_made m r most fds has read.0
          (λ bytes less. written_into read.0 m m MOST_TRANSFERRED has.room bytes (λ q. refl) read.2 less);
    }

-- ---- how much was sent

pub takes_sent : (m : Pages) (r : Registers) (x : Unit {0}) → writable m (argument r 2) 8 ≡ Ok x → TakesSent m r
takes_sent m r x e count =
    let size = sent_length (record { datalen = count }) in
    (size, write_made m (argument r 2) 8 (send_out_bytes (record { datalen = count })) (omega (arith, size)) (had_ok (bytes_from Write m (argument r 2) 8) x e))

pub sent_encoded : (m : Pages) (r : Registers) (fd : ℕ) (bytes fds : List ℕ) (flags : ℕ) → sock_send_of m r ≡ Ok (SockSend fd bytes fds flags)
    → writable m (argument r 2) 8 ≡ Ok tt
sent_encoded m r fd bytes fds flags is =
    let found = passed (send_in_at m (argument r 1)) _ (SockSend fd bytes fds flags) is in
    let sum = passed (writable m (argument r 2) 8) _ (SockSend fd bytes fds flags) found.2 in
    sum.1
