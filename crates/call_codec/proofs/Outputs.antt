-- The output of a call that registers and memory encode is written whole.
--     write_made, same_after      one write is made, and leaves each page's rights
--     written_into, among_ok, takes_bytes      ranges that have room take as many bytes
--     read_written, pread_written      the bytes of a read
--     state_written      a descriptor's state
--     entries_written, link_written      a directory's entries, the text of a symlink
--     open_state_written, found_state_written      a file's state
use Rattle.std.proofs.Common.{◌≡◌, ℕ, zero, suc, ◌+◌, ◌-◌, ◌%◌, ◌^◌, ◌≤◌, min, List, [], ◌∷◌, take, drop, length, length-drop, length-take, Result, Ok, Err, IsOk, refl, sym, ap, subst, ◌∙◌, arith}
use Rattle.abi_base.specs.declared.errno.Errno.TheVariants.{Inval}
use Rattle.abi_base.specs.Registers.{Registers}
use Rattle.abi_structures.specs.declared.structures.Iovec.{Iovec}
use Rattle.abi_types.specs.declared.call.Call.TheVariants.{FdPread, FdRead, FdStatGet, FileReaddir, FileReadlink, FileStatFget, FileStatGet}
use Rattle.abi_types.specs.declared.call.Lookup.{Lookup}
use Rattle.guest_memory.specs.declared.access.Access.TheVariants.{Write}
use Rattle.guest_memory.specs.declared.fault.MemFault.{MemFault}
use Rattle.guest_memory.specs.Bytes.{byte_at, bytes_from, in_front}
use Rattle.guest_memory.specs.Page.{Pages}
use Rattle.guest_memory.specs.Written.{write_of, written_over}
use Rattle.guest_memory.proofs.Writes.{SameRights, ok_after, rights_kept}
use Rattle.codec_arguments.specs.Arguments.{argument}
use Rattle.codec_arguments.specs.Bytes.{path_in, writable}
use Rattle.codec_arguments.specs.Ranges.{counted, ranges_at, room_among, room_in, room_of}
use Rattle.codec_arguments.specs.Reading.{◌>>=◌, or_fault}
use Rattle.codec_arguments.specs.declared.ranges.TheConstants.{MOST_TRANSFERRED}
use Rattle.call_codec.specs.Arguments.{read_of}
use Rattle.call_codec.specs.Output.{fdstat_bytes, filestat_bytes, or_unwritten, with_bytes}
use Rattle.call_codec.specs.OutputLaws.{AreWrittenInto, TakesBytes, TakesFileState, TakesUpTo, EntriesAreWritten, FoundStateIsWritten, LinkIsWritten, OpenStateIsWritten, PreadIsWritten, ReadIsWritten, StateIsWritten}
use Rattle.call_codec.proofs.Layouts.{fdstat_length, filestat_length}
use Rattle.call_codec.proofs.Puts.{call_suits}
use Rattle.call_codec.proofs.Readings.{not_refused, passed}
use Rattle.codec_calls.specs.DescriptorCalls.{fd_pread_of, fd_read_of, fd_stat_get_of, has_many, is_beyond}
use Rattle.codec_files.specs.ByPath.{file_readlink_of, looks_unknown}
use Rattle.codec_files.specs.ByNode.{file_readdir_of, file_stat_fget_of, file_stat_get_of}

-- ---- one write

pub front_ok : (b : Result ℕ MemFault) (rest : Result (List ℕ) MemFault) → IsOk (in_front b rest) → IsOk b × IsOk rest
front_ok (Ok b) (Ok bs) h = (refl, refl)
front_ok (Ok b) (Err fault) h = absurd (cc)
front_ok (Err fault) rest h = absurd (cc)

pub ok_front : (b : Result ℕ MemFault) (rest : Result (List ℕ) MemFault) → IsOk b → IsOk rest → IsOk (in_front b rest)
ok_front (Ok b) (Ok bs) h k = refl
ok_front (Ok b) (Err fault) h k = absurd (cc)
ok_front (Err fault) rest h k = absurd (cc)

-- fewer bytes from the same address on may be written too
fewer : (m : Pages) (a n k : ℕ) → k ≤ n → IsOk (bytes_from Write m a n) → IsOk (bytes_from Write m a k)
unfolding bytes_from
fewer m a n zero less h = refl
fewer m a zero (suc k) less h = absurd (omega arith)
fewer m a (suc n) (suc k) less h =
    let both = front_ok (byte_at Write m a) (bytes_from Write m ((a + 1) % 2 ^ 64) n) h in
    ok_front (byte_at Write m a) (bytes_from Write m ((a + 1) % 2 ^ 64) k) both.0 (fewer m ((a + 1) % 2 ^ 64) n k (omega arith) both.1)

made : (m : Pages) (a : ℕ) (bytes : List ℕ) (before : Result (List ℕ) MemFault) → IsOk before → IsOk (written_over m a bytes before)
made m a bytes (Ok before) h = refl
made m a bytes (Err fault) h = absurd (cc)

-- bytes in the place of ones that may be written are written
pub write_made : (m : Pages) (a n : ℕ) (bytes : List ℕ) → length bytes ≤ n → IsOk (bytes_from Write m a n) → IsOk (write_of m a bytes)
write_made m a n bytes less h = made m a bytes (bytes_from Write m a (length bytes)) (fewer m a n (length bytes) less h)

same_over : (m : Pages) (a : ℕ) (bytes : List ℕ) (before : Result (List ℕ) MemFault) → SameRights m (or_unwritten m (written_over m a bytes before))
same_over m a bytes (Ok before) = rights_kept bytes m a
same_over m a bytes (Err fault) = λ q. refl

-- a write leaves each page's rights
pub same_after : (m : Pages) (a : ℕ) (bytes : List ℕ) → SameRights m (with_bytes m a bytes)
same_after m a bytes = same_over m a bytes (bytes_from Write m a (length bytes))

-- ---- writes into ranges

counted_split : (n : ℕ) (before : Result (List ℕ) MemFault) (others : Result ℕ MemFault) (all : ℕ) → counted n before others ≡ Ok all
    → IsOk before × ((rest : ℕ) × (others ≡ Ok rest) × (all ≡ n + rest))
counted_split n (Ok before) (Ok rest) all e = (refl, (rest, refl, (cc)))
counted_split n (Ok before) (Err fault) all e = absurd (cc)
counted_split n (Err fault) others all e = absurd (cc)

-- ranges have at most as many bytes as there is room for
room_within : (m : Pages) (ranges : List Iovec) (room n : ℕ) → room_of m room ranges ≡ Ok n → n ≤ room
room_within m [] room n e = let none : 0 ≡ n = cc in omega (arith, none)
room_within m (range ∷ ranges) room n e =
    let split = counted_split (min range.length room) (bytes_from Write m range.address (min range.length room)) (room_of m (room - min range.length room) ranges) n e in
    let rest = room_within m ranges (room - min range.length room) split.1.0 split.1.1 in
    omega (arith, rest, split.1.2)

none_left : (bytes : List ℕ) → length bytes ≤ 0 → bytes ≡ []
none_left [] less = refl
none_left (b ∷ bytes) less = absurd (omega arith)

-- as many bytes as the ranges had room for are written into them
pub written_into : (ranges : List Iovec) (first m : Pages) (room n : ℕ) (bytes : List ℕ) → SameRights first m → room_of first room ranges ≡ Ok n → length bytes ≤ n
    → AreWrittenInto m ranges bytes
written_into [] first m room n bytes same e less = let none : 0 ≡ n = cc in none_left bytes (omega (arith, none))
written_into (range ∷ ranges) first m room n bytes same e less =
    let k = min range.length room in
    let split = counted_split k (bytes_from Write first range.address k) (room_of first (room - k) ranges) n e in
    let within = room_within first ranges (room - k) split.1.0 split.1.1 in
    let here : length (take range.length bytes) ≤ k = simp length-take (omega (arith, within, split.1.2)) in
    let left : length (drop range.length bytes) ≤ split.1.0 = simp length-drop (omega (arith, within, split.1.2)) in (
      write_made m range.address k (take range.length bytes) here (ok_after Write first m same k range.address split.0),
      written_into ranges first (with_bytes m range.address (take range.length bytes)) (room - k) split.1.0 (drop range.length bytes)
          (λ q. same q ∙ same_after m range.address (take range.length bytes) q) split.1.1 left,
    )

-- ---- reads

pub among_ok : (m : Pages) (found : Result (List Iovec) MemFault) (most : ℕ) → or_fault (room_among m found) ≡ Ok most
    → (ranges : List Iovec) × (found ≡ Ok ranges) × (room_of m MOST_TRANSFERRED ranges ≡ Ok most)
among_ok m (Ok ranges) most e = (ranges, refl, counted_ok (room_of m MOST_TRANSFERRED ranges) e)
  where
    counted_ok : (room : Result ℕ MemFault) → or_fault room ≡ Ok most → room ≡ Ok most
    counted_ok (Ok n) h = let same : n ≡ most = cc in ap Ok same
    counted_ok (Err fault) h = absurd (cc)
among_ok m (Err fault) most e = absurd (cc)

pub takes_bytes : (m : Pages) (r : Registers) (most : ℕ) → room_in m (argument r 1) (argument r 2) ≡ Ok most → TakesBytes m r most
takes_bytes m r most e =
    let found = among_ok m (ranges_at m (argument r 1) (argument r 2)) most e in
    (found.0, found.1, λ bytes less. written_into found.0 m m MOST_TRANSFERRED most bytes (λ q. refl) found.2 less)

pub read_room : (m : Pages) (r : Registers) (fd most : ℕ) → fd_read_of m r ≡ Ok (FdRead fd most) → room_in m (argument r 1) (argument r 2) ≡ Ok most
read_room m r fd most is =
    let few = not_refused (has_many (argument r 2)) Inval _ (FdRead fd most) is in
    let room = passed (room_in m (argument r 1) (argument r 2)) _ (FdRead fd most) few.1 in
    let same : room.0 ≡ most = cc room.2 in room.1 ∙ ap Ok same

pread_room : (m : Pages) (r : Registers) (fd most offset : ℕ) → fd_pread_of m r ≡ Ok (FdPread fd most offset) → room_in m (argument r 1) (argument r 2) ≡ Ok most
pread_room m r fd most offset is =
    let few = not_refused (has_many (argument r 2)) Inval _ (FdPread fd most offset) is in
    let within = not_refused (is_beyond (argument r 3)) Inval _ (FdPread fd most offset) few.1 in
    let room = passed (room_in m (argument r 1) (argument r 2)) _ (FdPread fd most offset) within.1 in
    let same : room.0 ≡ most = cc room.2 in room.1 ∙ ap Ok same

pub read_written : ReadIsWritten
unfolding read_of
read_written m r left fd most encoded = takes_bytes m r most (read_room m r fd most (call_suits m r left (FdRead fd most) (sym encoded)))

pub pread_written : PreadIsWritten
unfolding read_of
pread_written m r left fd most offset encoded = takes_bytes m r most (pread_room m r fd most offset (call_suits m r left (FdPread fd most offset) (sym encoded)))

-- ---- a descriptor's state

pub had_ok : (found : Result (List ℕ) MemFault) (x : Unit {0}) → (or_fault found >>= λ before. Ok tt) ≡ Ok x → IsOk found
had_ok (Ok bytes) x e = refl
had_ok (Err fault) x e = absurd (cc)

state_room : (m : Pages) (r : Registers) (fd : ℕ) → fd_stat_get_of m r ≡ Ok (FdStatGet fd) → IsOk (bytes_from Write m (argument r 1) 24)
state_room m r fd is =
    let room = passed (writable m (argument r 1) 24) _ (FdStatGet fd) is in
    had_ok (bytes_from Write m (argument r 1) 24) room.0 room.1

pub state_written : StateIsWritten
unfolding read_of
state_written m r left fd stat encoded =
    write_made m (argument r 1) 24 (fdstat_bytes stat) (let all = fdstat_length stat in omega (arith, all)) (state_room m r fd (call_suits m r left (FdStatGet fd) (sym encoded)))

-- ---- a directory's entries, and a symlink's text

-- so many bytes from an address on may be written
abbrev IsWritable : Pages → ℕ → ℕ → Type 0
IsWritable m a n = IsOk (bytes_from Write m a n)

room_writable : (m : Pages) (a n room : ℕ) (x : Unit {0}) → writable m a (min n MOST_TRANSFERRED) ≡ Ok x → n ≡ room → IsWritable m a (min room MOST_TRANSFERRED)
room_writable m a n room x e same = subst (λ k. IsWritable m a (min k MOST_TRANSFERRED)) same (had_ok (bytes_from Write m a (min n MOST_TRANSFERRED)) x e)

takes_up_to : (m : Pages) (a room : ℕ) → IsWritable m a (min room MOST_TRANSFERRED) → TakesUpTo m a room
takes_up_to m a room has bytes less = write_made m a (min room MOST_TRANSFERRED) bytes less has

entries_room : (m : Pages) (r : Registers) (fd room cookie : ℕ) → file_readdir_of m r ≡ Ok (FileReaddir fd room cookie)
    → IsWritable m (argument r 1) (min room MOST_TRANSFERRED)
entries_room m r fd room cookie is =
    let has = passed (writable m (argument r 1) (min (argument r 2) MOST_TRANSFERRED)) _ (FileReaddir fd room cookie) is in
    let same : argument r 2 ≡ room = cc has.2 in
    room_writable m (argument r 1) (argument r 2) room has.0 has.1 same

link_room : (m : Pages) (r : Registers) (fd : ℕ) (path : List ℕ) (room : ℕ) → file_readlink_of m r ≡ Ok (FileReadlink fd path room)
    → IsWritable m (argument r 3) (min room MOST_TRANSFERRED)
link_room m r fd path room is =
    let read = passed (path_in m (argument r 1) (argument r 2)) _ (FileReadlink fd path room) is in
    let has = passed (writable m (argument r 3) (min (argument r 4) MOST_TRANSFERRED)) _ (FileReadlink fd path room) read.2 in
    let same : argument r 4 ≡ room = cc has.2 in
    room_writable m (argument r 3) (argument r 4) room has.0 has.1 same

pub entries_written : EntriesAreWritten
unfolding read_of
entries_written m r left fd room cookie encoded =
    takes_up_to m (argument r 1) room (entries_room m r fd room cookie (call_suits m r left (FileReaddir fd room cookie) (sym encoded)))

pub link_written : LinkIsWritten
unfolding read_of
link_written m r left fd path room encoded =
    takes_up_to m (argument r 3) room (link_room m r fd path room (call_suits m r left (FileReadlink fd path room) (sym encoded)))

-- ---- a file's state

takes_file_state : (m : Pages) (a : ℕ) → IsWritable m a 56 → TakesFileState m a
takes_file_state m a has stat =
    let all = filestat_length stat in (all, write_made m a 56 (filestat_bytes stat) (omega (arith, all)) has)

open_room : (m : Pages) (r : Registers) (fd : ℕ) → file_stat_fget_of m r ≡ Ok (FileStatFget fd) → IsWritable m (argument r 1) 56
open_room m r fd is =
    let has = passed (writable m (argument r 1) 56) _ (FileStatFget fd) is in
    had_ok (bytes_from Write m (argument r 1) 56) has.0 has.1

found_room : (m : Pages) (r : Registers) (lookup : Lookup) (path : List ℕ) → file_stat_get_of m r ≡ Ok (FileStatGet lookup path)
    → IsWritable m (argument r 3) 56
found_room m r lookup path is =
    let known = not_refused (looks_unknown (argument r 0)) Inval _ (FileStatGet lookup path) is in
    let read = passed (path_in m (argument r 1) (argument r 2)) _ (FileStatGet lookup path) known.1 in
    let has = passed (writable m (argument r 3) 56) _ (FileStatGet lookup path) read.2 in
    had_ok (bytes_from Write m (argument r 3) 56) has.0 has.1

pub open_state_written : OpenStateIsWritten
unfolding read_of
open_state_written m r left fd encoded = takes_file_state m (argument r 1) (open_room m r fd (call_suits m r left (FileStatFget fd) (sym encoded)))

pub found_state_written : FoundStateIsWritten
unfolding read_of
found_state_written m r left lookup path encoded =
    takes_file_state m (argument r 3) (found_room m r lookup path (call_suits m r left (FileStatGet lookup path) (sym encoded)))
