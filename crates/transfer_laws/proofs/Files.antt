-- What reads, writes and seeks of files give and leave.
use Rattle.std.proofs.Common.{◌≡◌, ◌≢◌, inl, inr, ℕ, ◌+◌, ◌-◌, ◌*◌, ◌/◌, ◌<◌, ◌≤◌, ◌==◌, ◌^◌, ◌&&◌, Bool, true, false, not, List, [], ◌∷◌, length, take, drop, Option, Some, None, refl, sym, ap, ◌∙◌, arith, IsSome, ◌%◌}
use Rattle.std.proofs.lemmas.Bool.Decides.{eqb_tells, leb_tells}
use Rattle.std.proofs.lemmas.Bool.{lt-leb, lt-ltb, le-ltb}
use Rattle.std.proofs.lemmas.Nat.{and_mask}
use Rattle.std.specs.FinMap.{get}
use Rattle.std.specs.Prelude.{bit_and, nat_le, nat_lt, if◌then◌else◌}
use Rattle.abi_base.specs.declared.errno.Errno.TheVariants.{Fbig}
use Rattle.abi_base.specs.declared.rights.TheConstants.Rights.{FD_SEEK, FD_TELL}
use Rattle.abi_types.specs.declared.call.Call.{Call}
use Rattle.abi_types.specs.declared.call.Call.TheVariants.{FdPread, FdPwrite, FdRead, FdSeek, FdWrite, MemMap}
use Rattle.abi_types.specs.declared.constants.Constants.{Constants}
use Rattle.abi_types.specs.declared.node.Node.{Node}
use Rattle.abi_types.specs.declared.node.NodeKind.TheVariants as kind
use Rattle.abi_types.specs.declared.open_kind.OpenKind.{OpenKind}
use Rattle.abi_types.specs.declared.open_kind.OpenKind.TheVariants.{File}
use Rattle.abi_types.specs.declared.place.Place.TheVariants.{At}
use Rattle.abi_types.specs.declared.reply.Answer.{Answer}
use Rattle.abi_types.specs.declared.reply.Answer.TheVariants as answer
use Rattle.abi_types.specs.declared.who.Who.{Who}
use Rattle.maps.specs.Maps.{get-insert-same}
use Rattle.tree_model.specs.Changes.{bytes_in, bytes_of, bytes_of_kind, with_bytes, with_bytes_in, with_times_in, put_node}
use Rattle.tree_model.specs.Files.{fitting, is_beyond, written}
use Rattle.kernel_model.specs.Need as needs
use Rattle.kernel_model.specs.Families.ClockCalls.{real_time}
use Rattle.kernel_model.specs.Families.FileBytes.{overwrites, page_bytes, read_at, write_at, write_bytes, written_count}
use Rattle.kernel_model.specs.Families.FileChanges.{modified, retimed, retimed_in}
use Rattle.kernel_model.specs.Families.FileMeaning.{on_open, open_of}
use Rattle.kernel_model.specs.Families.FileOffsets.{as_offset, offset_from, seek_to, sought, stays, with_offset, write_from, write_place}
use Rattle.kernel_model.specs.Families.MemoryCalls.{map_open, map_row, map_zeros, mapping, placed, placed_with}
use Rattle.kernel_model.specs.Families.OpenMeaning.{at_descriptor}
use Rattle.kernel_model.specs.Families.StreamCalls.{read_open, seek_open, seek_row, write_open}
use Rattle.kernel_model.specs.Meaning.{Meaning}
use Rattle.kernel_model.specs.Outcome.{Outcome, replies}
use Rattle.kernel_model.specs.Rows.{base_row, either_row}
use Rattle.kernel_model.specs.Reply.{content, refused, success}
use Rattle.kernel_model.specs.Families.TreeUpdates.{node_update}
use Rattle.kernel_model.specs.State.{State, Table, Tree, tree_of}
use Rattle.kernel_model.proofs.Tests.{and_false, not_true}
use Rattle.kernel_model.specs.Step.{outcome, tick}
use Rattle.kernel_model.specs.View.{whole}
use Rattle.transfer_laws.specs.FileLaws.{ArePages, FilesAreRead, FilesAreWritten, IsFileWith, IsFrom, IsSought, IsWrittenAt, SeeksMove, changed_node}
use Rattle.transfer_laws.specs.TouchLaws.{HasFile}
use Rattle.transfer_laws.proofs.FileBytes.{is_written, piece_is}
use Rattle.transfer_laws.proofs.Outcomes.{answer_by, outcome_allowed, state_by}

-- ---- what stands behind the descriptor

module _ (S : State) (who : Who) (call : Call) (fd o node : ℕ) (has : HasFile S who call fd o node) where
  -- what is done by the number of the open and what that is
  by_open : (f : ℕ → Option OpenKind → Outcome) → at_descriptor f (whole (tick S)) (get has.table fd) ≡ f o (Some (File node has.offset has.flags))
  by_open f =
      ap (at_descriptor f (whole (tick S))) has.there ∙ ap (λ n. f n (get S.opens n)) has.names ∙ ap (f o) has.opened

  by_kind : (f : Option OpenKind → Outcome) → f (open_of (whole (tick S)) (get has.table fd)) ≡ f (Some (File node has.offset has.flags))
  by_kind f = ap (λ d. f (open_of (whole (tick S)) d)) has.there ∙ ap (λ n. f (get S.opens n)) has.names ∙ ap f has.opened

bytes_are : (S : State) (node : ℕ) (bytes : List ℕ) → IsFileWith S node bytes → bytes_of (tree_of S) node ≡ bytes
bytes_are S node bytes file = ap bytes_in file.there ∙ ap bytes_of_kind file.is

-- the meaning of a mapping, by the bit that says whether it is of zeros
abbrev mapped_by : ℕ → ℕ → ℕ → ℕ → ℕ → ℕ → Meaning
mapped_by bit address size prot fd place =
    if bit == 1 then map_zeros (At address) else on_open (map_row fd prot) (mapping (At address) size place)

-- ---- reads

-- what a read at the open's offset comes to, by the file's bytes
abbrev read_as : ℕ → ℕ → ℕ → ℕ → ℕ → List ℕ → Outcome
read_as o node offset flags n bytes = with_offset o (record {
  outcome = replies (content (take n (drop offset bytes)));
  moved = Some (File node (offset + length (take n (drop offset bytes))) flags);
})

-- how many pages a mapping has
pages_of : (size : ℕ) → (pages : ℕ) × ArePages size pages × (page_bytes size ≡ pages * 4096)
unfolding page_bytes
pages_of size = ((size + 4095) / 4096, (omega (arith), omega (arith)), refl)

abbrev mapped_answer : ℕ → List ℕ → Answer
mapped_answer address bytes = answer.Reply (placed_with (At address) bytes)

map_outcome : (constants : Constants) (S : State) (who : Who) (address size prot flags fd place o node : ℕ) (bytes : List ℕ) → bit_and flags 1 ≡ 0
    → HasFile S who (MemMap (At address) size prot flags fd place) fd o node → IsFileWith S node bytes
    → outcome constants S who (MemMap (At address) size prot flags fd place)
    ≡ replies (placed_with (At address) (take (page_bytes size) (drop place bytes)))
map_outcome constants S who address size prot flags fd place o node bytes plain has file =
    outcome_allowed constants S who (MemMap (At address) size prot flags fd place) has.table has.own has.allowed
    ∙ ap (λ bit. (mapped_by bit address size prot fd place).effect constants (whole (tick S)) who has.table) plain
    ∙ by_kind S who (MemMap (At address) size prot flags fd place) fd o node has (map_open (At address) size place (tree_of S))
    ∙ ap (λ b. replies (placed_with (At address) (take (page_bytes size) (drop place b)))) (bytes_are S node bytes file)

-- ANON is a bit that is set or not
one_bit : (flags : ℕ) → bit_and flags 1 ≢ 0 → bit_and flags 1 ≡ 1
one_bit flags set = let is : bit_and flags 1 ≡ flags % 2 = and_mask flags 1 in omega (arith, is, set)

some_table : (o : Option Table) → IsSome o → (table : Table) × (o ≡ Some table)
some_table None there = absurd (not_true there)
some_table (Some table) there = (table, refl)

zeros_outcome : (constants : Constants) (S : State) (who : Who) (address size prot flags fd place : ℕ) → bit_and flags 1 ≢ 0 → IsSome (get S.tables who.pid)
    → outcome constants S who (MemMap (At address) size prot flags fd place) ≡ replies (placed (At address))
zeros_outcome constants S who address size prot flags fd place anonymous own =
    let table = some_table (get S.tables who.pid) own in
    let bit : bit_and flags 1 ≡ 1 = one_bit flags anonymous in
    outcome_allowed constants S who (MemMap (At address) size prot flags fd place) table.0 table.1
    (ap (λ k. needs.refusal table.0 (mapped_by k address size prot fd place).named (mapped_by k address size prot fd place).need) bit)
    ∙ ap (λ k. (mapped_by k address size prot fd place).effect constants (whole (tick S)) who table.0) bit

pub files_are_read : FilesAreRead
files_are_read = record {
  preads = λ constants S who fd n place o node bytes has file.
      let is = outcome_allowed constants S who (FdPread fd n place) has.table has.own has.allowed
      ∙ by_kind S who (FdPread fd n place) fd o node has (read_at n place (tree_of S))
      ∙ ap (λ b. replies (content (take n (drop place b)))) (bytes_are S node bytes file) in
      (take n (drop place bytes), piece_is place n bytes, answer_by constants S who (FdPread fd n place) _ is, state_by constants S who (FdPread fd n place) _ is);
  reads = λ constants S who fd n o node bytes has file.
      let is = outcome_allowed constants S who (FdRead fd n) has.table has.own has.allowed
      ∙ by_open S who (FdRead fd n) fd o node has (read_open (whole (tick S)) n)
      ∙ ap (λ b. read_as o node has.offset has.flags n b) (bytes_are S node bytes file) in
      (take n (drop has.offset bytes), piece_is has.offset n bytes, answer_by constants S who (FdRead fd n) _ is, state_by constants S who (FdRead fd n) _ is);
  maps = λ constants S who address size prot flags fd place o node bytes plain has file.
      let is = map_outcome constants S who address size prot flags fd place o node bytes plain has file in
      let pages = pages_of size in (
        pages.0,
        take (pages.0 * 4096) (drop place bytes),
        pages.1,
        piece_is place (pages.0 * 4096) bytes,
        answer_by constants S who (MemMap (At address) size prot flags fd place) _ is ∙ ap (λ k. mapped_answer address (take k (drop place bytes))) pages.2,
        state_by constants S who (MemMap (At address) size prot flags fd place) _ is,
      );
  zeros = λ constants S who address size prot flags fd place anonymous own.
      let is = zeros_outcome constants S who address size prot flags fd place anonymous own in
      (answer_by constants S who (MemMap (At address) size prot flags fd place) _ is, state_by constants S who (MemMap (At address) size prot flags fd place) _ is);
}

-- ---- writes

has_room : (place b : ℕ) (bytes : List ℕ) → place < 67108864 → is_beyond place (b ∷ bytes) ≡ false
has_room place b bytes room =
    ap (λ full. not (nat_le (length (b ∷ bytes)) 0) && full) (lt-leb 67108864 place room) ∙ and_false (not (nat_le (length (b ∷ bytes)) 0))

-- the tree after a write, by the node that was there
node_written : (S : State) (node now place : ℕ) (bytes old : List ℕ) (file : IsFileWith S node old)
    → get (retimed (with_bytes (tree_of S) node bytes) node (modified now)).nodes node ≡ Some (changed_node file.was bytes now)
node_written S node now place bytes old file =
    let new : Node = record file.was { kind = kind.File bytes } in
    let t : Tree = put_node (tree_of S) node new in
    ap (λ o. get (retimed (with_bytes_in (tree_of S) node bytes o) node (modified now)).nodes node) file.there
    ∙ ap (λ o. get (retimed_in t node (modified now) o).nodes node) (get-insert-same S.nodes node new)
    ∙ ap (λ o. get (with_times_in t node (modified now file.was.times) o).nodes node) (get-insert-same S.nodes node new)
    ∙ get-insert-same t.nodes node (changed_node file.was bytes now)

-- what a write comes to that finds room, by the bytes that were there and by the node after it
abbrev written_outcome : ℕ → ℕ → List ℕ → Option Node → Outcome
written_outcome node place bytes new = record { answer = answer.Reply (success (written_count place bytes) 0); updates = node_update node new }

overwrites_is : (S : State) (node now place b : ℕ) (bytes old : List ℕ) (file : IsFileWith S node old)
    → overwrites (tree_of S) node now place (b ∷ bytes)
    ≡ written_outcome node place (b ∷ bytes) (Some (changed_node file.was (written old place (fitting place (b ∷ bytes))) now))
overwrites_is S node now place b bytes old file =
    ap (written_outcome node place (b ∷ bytes))
    (ap (λ was. get (retimed (with_bytes (tree_of S) node (written was place (fitting place (b ∷ bytes)))) node (modified now)).nodes node) (bytes_are S node old file)
    ∙ node_written S node now place (written old place (fitting place (b ∷ bytes))) old file)

write_is : (S : State) (node now place b : ℕ) (bytes old : List ℕ) (file : IsFileWith S node old) → place < 67108864
    → write_bytes (tree_of S) node now place (b ∷ bytes)
    ≡ written_outcome node place (b ∷ bytes) (Some (changed_node file.was (written old place (fitting place (b ∷ bytes))) now))
write_is S node now place b bytes old file room =
    ap (λ full. if full then replies (refused Fbig) else overwrites (tree_of S) node now place (b ∷ bytes)) (has_room place b bytes room)
    ∙ overwrites_is S node now place b bytes old file

place_is : (S : State) (node flags offset place : ℕ) (old : List ℕ) → IsFileWith S node old → IsWrittenAt flags offset old place
    → write_place (tree_of S) node offset flags ≡ place
place_is S node flags offset place old file (inl plain) =
    ap (λ bit. if bit == 0 then offset else length (bytes_of (tree_of S) node)) plain.0 ∙ sym plain.1
place_is S node flags offset place old file (inr end) =
    elim (eqb_tells (bit_and flags 1) 0) [
      | inl is ↦ absurd (end.0 is.1)
      | inr other ↦ ap (λ b. if b then offset else length (bytes_of (tree_of S) node)) other.0 ∙ ap length (bytes_are S node old file) ∙ sym end.1
    ]

-- a write at the open's place, by whether there is room and by what it comes to
abbrev moved_by : ℕ → ℕ → ℕ → ℕ → List ℕ → Bool → Outcome → Outcome
moved_by o node flags place bytes full comes = with_offset o (if full then stays (refused Fbig) else record {
  outcome = comes;
  moved = Some (File node (place + written_count place bytes) flags);
})

pub files_are_written : FilesAreWritten
files_are_written = record {
  pwrites = λ constants S who fd b place o node bytes old has file room.
      let now : ℕ = real_time constants (tick S).clock in
      let is = outcome_allowed constants S who (FdPwrite fd (b ∷ bytes) place) has.table has.own has.allowed
      ∙ by_kind S who (FdPwrite fd (b ∷ bytes) place) fd o node has (write_at (b ∷ bytes) place now (tree_of S))
      ∙ write_is S node now place b bytes old file room in (
        written old place (fitting place (b ∷ bytes)),
        written_count place (b ∷ bytes),
        is_written place (b ∷ bytes) old,
        answer_by constants S who (FdPwrite fd (b ∷ bytes) place) _ is,
        state_by constants S who (FdPwrite fd (b ∷ bytes) place) _ is,
      );
  writes = λ constants S who fd b place o node bytes old has file at room.
      let now : ℕ = real_time constants (tick S).clock in
      let is = outcome_allowed constants S who (FdWrite fd (b ∷ bytes)) has.table has.own has.allowed
      ∙ by_open S who (FdWrite fd (b ∷ bytes)) fd o node has (write_open now (whole (tick S)) (b ∷ bytes))
      ∙ ap (λ k. with_offset o (write_from (tree_of S) node has.flags now k (b ∷ bytes))) (place_is S node has.flags has.offset place old file at)
      ∙ ap (λ full. moved_by o node has.flags place (b ∷ bytes) full (overwrites (tree_of S) node now place (b ∷ bytes))) (has_room place b bytes room)
      ∙ ap (moved_by o node has.flags place (b ∷ bytes) false) (overwrites_is S node now place b bytes old file) in (
        written old place (fitting place (b ∷ bytes)),
        written_count place (b ∷ bytes),
        is_written place (b ∷ bytes) old,
        answer_by constants S who (FdWrite fd (b ∷ bytes)) _ is,
        state_by constants S who (FdWrite fd (b ∷ bytes)) _ is,
      );
  pwrites_none = λ constants S who fd place o node has.
      let is = outcome_allowed constants S who (FdPwrite fd [] place) has.table has.own has.allowed
      ∙ by_kind S who (FdPwrite fd [] place) fd o node has (write_at [] place (real_time constants (tick S).clock) (tree_of S)) in
      (answer_by constants S who (FdPwrite fd [] place) _ is, state_by constants S who (FdPwrite fd [] place) _ is);
  writes_none = λ constants S who fd o node has.
      let is = outcome_allowed constants S who (FdWrite fd []) has.table has.own has.allowed
      ∙ by_open S who (FdWrite fd []) fd o node has (write_open (real_time constants (tick S).clock) (whole (tick S)) []) in
      (answer_by constants S who (FdWrite fd []) _ is, state_by constants S who (FdWrite fd []) _ is);
}

-- ---- seeks

-- the test of a number against 2^63, and of a sum against 2^64
offset_is : (n : ℕ) → n < 2 ^ 63 → as_offset n ≡ Some n
unfolding as_offset
offset_is n small = ap (λ b. if b then Some n else None) (lt-ltb n (2 ^ 63) small)

from_is : (start bits place : ℕ) → IsFrom start bits place → offset_from start bits ≡ Some place
unfolding offset_from
from_is start bits place from =
    elim (leb_tells (2 ^ 63) bits) [
      | inl back ↦ (
          let far : 2 ^ 63 ≤ bits = back.1 in
          let sum : place + 2 ^ 64 ≡ start + bits = from.back far in
          ap (λ b. if b then as_offset (start + bits) else if nat_lt (start + bits) (2 ^ 64) then None else as_offset (start + bits - 2 ^ 64)) (le-ltb bits (2 ^ 63) far)
          ∙ ap (λ b. if b then None else as_offset (start + bits - 2 ^ 64)) (le-ltb (start + bits) (2 ^ 64) (omega (arith, sum)))
          ∙ ap as_offset (let n : start + bits - 2 ^ 64 ≡ place = omega (arith, sum) in n) ∙ offset_is place from.small)
      | inr forward ↦ (
          let near : bits < 2 ^ 63 = forward.1 in
          ap (λ b. if b then as_offset (start + bits) else if nat_lt (start + bits) (2 ^ 64) then None else as_offset (start + bits - 2 ^ 64)) (lt-ltb bits (2 ^ 63) near)
          ∙ ap as_offset (sym (from.forward near)) ∙ offset_is place from.small)
    ]

sought_is : (S : State) (node offset bits whence place : ℕ) (bytes : List ℕ) → IsFileWith S node bytes → IsSought bits whence offset bytes place
    → sought (tree_of S) node offset bits whence ≡ Some place
sought_is S node offset bits whence place bytes file (inl here) = ap (sought (tree_of S) node offset bits) here.0 ∙ from_is offset bits place here.1
sought_is S node offset bits whence place bytes file (inr (inl end)) =
    ap (sought (tree_of S) node offset bits) end.0 ∙ ap (λ b. offset_from (length b) bits) (bytes_are S node bytes file) ∙ from_is (length bytes) bits place end.1
sought_is S node offset bits whence place bytes file (inr (inr given)) =
    ap (sought (tree_of S) node offset bits) given.0 ∙ offset_is bits given.2 ∙ ap (λ n. Some n) (sym given.1)

-- whichever right it needs, it needs it of its descriptor
seek_fd : (fd bits whence : ℕ) → (seek_row fd bits whence).fd ≡ fd
seek_fd fd bits whence =
    elim ((bits == 0) && (whence == 1)) as (λ b. (if b then either_row fd FD_TELL FD_SEEK else base_row fd FD_SEEK).fd ≡ fd) [ true ↦ refl | false ↦ refl ]

pub seeks_move : SeeksMove
seeks_move constants S who fd bits whence o node place bytes has file leads =
    let is = outcome_allowed constants S who (FdSeek fd bits whence) has.table has.own has.allowed
    ∙ ap (λ n. at_descriptor (seek_open (whole (tick S)) bits whence) (whole (tick S)) (get has.table n)) (seek_fd fd bits whence)
    ∙ by_open S who (FdSeek fd bits whence) fd o node has (seek_open (whole (tick S)) bits whence)
    ∙ ap (λ p. with_offset o (seek_to node has.flags p)) (sought_is S node has.offset bits whence place bytes file leads) in
    (answer_by constants S who (FdSeek fd bits whence) _ is, state_by constants S who (FdSeek fd bits whence) _ is)
