-- How each call treats the file tree.
--     treats      each call needs a right by which trees are changed, touches nothing of the tree, or leaves it
--     changed_is_written      what a call says that it may change of the tree is behind a descriptor with such a right
--     tree_is_written      so is what it touches and doesn't make
use Rattle.std.proofs.Common.{◌≡◌, ◌⊎◌, inl, inr, ℕ, ◌<◌, ◌==◌, max, not, Bool, true, false, cond, List, [], ◌∷◌, ◌++◌, take, drop, Option, Some, None, refl, sym, ap, ◌∙◌, arith}
use Rattle.std.proofs.lemmas.Nat.Bits.{bit_at-lt, bit_at_or}
use Rattle.std.specs.FinMap.{empty, get, insert}
use Rattle.std.specs.Int.{bit_at}
use Rattle.std.specs.Int.RustNames.{bit_and, bit_or}
use Rattle.std.specs.Prelude.{nat_lt}
use Rattle.abi_base.specs.Rights.{Has}
use Rattle.abi_base.specs.declared.rights.Rights.{Rights}
use Rattle.abi_base.specs.declared.rights.TheConstants.Rights.{FD_READ, FD_SEEK, FD_WRITE, FILE_ALLOCATE, FILE_CREATE_DIRECTORY, FILE_CREATE_FILE, FILE_LINK_SOURCE, FILE_LINK_TARGET, FILE_OPEN, FILE_RENAME_SOURCE, FILE_RENAME_TARGET, FILE_STAT_FPUT_SIZE, FILE_STAT_FPUT_TIMES, FILE_STAT_PUT_TIMES, FILE_SYMLINK, FILE_UNLINK, NONE, SOCK_SHUTDOWN}
use Rattle.abi_structures.specs.declared.events.Subscription.{Subscription}
use Rattle.abi_structures.specs.declared.structures.FdStat.{FdStat}
use Rattle.abi_structures.specs.declared.structures.FileStat.{FileStat}
use Rattle.abi_types.specs.Families.{is_anonymous}
use Rattle.abi_types.specs.declared.call.Call.{Call}
use Rattle.abi_types.specs.declared.call.Call.TheVariants as call
use Rattle.abi_types.specs.declared.call.Lookup.{Lookup}
use Rattle.abi_types.specs.declared.descriptor.Descriptor.{Descriptor}
use Rattle.abi_types.specs.declared.needed.Needed.{Needed}
use Rattle.abi_types.specs.declared.node.Node.{Node}
use Rattle.abi_types.specs.declared.open_kind.OpenKind.{OpenKind}
use Rattle.abi_types.specs.declared.open_kind.OpenKind.TheVariants.{File, Directory, End, Terminal, Process}
use Rattle.abi_types.specs.declared.place.Place.{Place}
use Rattle.abi_types.specs.declared.reply.Answer.{Answer}
use Rattle.abi_types.specs.declared.reply.Answer.TheVariants as answer
use Rattle.abi_types.specs.declared.thread.Thread.{Thread}
use Rattle.abi_types.specs.declared.who.Who.{Who}
use Rattle.maps.specs.Maps.{get-insert-other, get-insert-same, same_numbers}
use Rattle.tree_model.specs.Entries.{here_or_other}
use Rattle.tree_model.specs.declared.limits.TheConstants.{MOST_FILE_BYTES}
use Rattle.kernel_model.specs.Calls.{meaning_of, refusal}
use Rattle.kernel_model.specs.Families.ChannelCalls.{both_parts, received_part, sent_part}
use Rattle.kernel_model.specs.Families.ClockCalls.{real_time}
use Rattle.kernel_model.specs.Families.DescriptorCalls.{open_part}
use Rattle.kernel_model.specs.Families.FileChanges.{asked_size, becomes, becomes_in, put_open, put_size, put_stat, put_times, retimed, sized, times_put}
use Rattle.kernel_model.specs.Families.FileMeaning.{on_open, open_of}
use Rattle.kernel_model.specs.Families.FilePaths.{Walked, found_part, walked}
use Rattle.kernel_model.specs.Families.MemoryCalls.{map_row, map_zeros, mapping}
use Rattle.kernel_model.specs.Families.OpenMeaning.{OpenMeaning, by_open, moved_part, touched_at}
use Rattle.kernel_model.specs.Families.Opening.{absent_parts, open_mode, parts_where}
use Rattle.kernel_model.specs.Families.Polls.{begins_with_lock, poll_by}
use Rattle.kernel_model.specs.Families.SocketCalls.{receiving, sending, shutting}
use Rattle.kernel_model.specs.Families.StreamCalls.{reading, seek_row, seeking, stream_part}
use Rattle.kernel_model.specs.Outcome.{Outcome}
use Rattle.kernel_model.specs.Proper.{IsIn}
use Rattle.kernel_model.specs.Rows.{base_row, both}
use Rattle.kernel_model.specs.Sight.{channel_part}
use Rattle.kernel_model.specs.State.{State, Table, Part, Tree, at_names, at_node, has_part, put_all, tree_of}
use Rattle.kernel_model.specs.Step.{outcome, tick}
use Rattle.kernel_model.specs.View.{whole}
use Rattle.kernel_model.specs.Waits.{waits_if}
use Rattle.kernel_model.proofs.Outcomes.{outcome_holds}
use Rattle.kernel_model.proofs.Tests.{not_true}
use Rattle.confinement_laws.specs.Leading.{IsWriting, writing_rights}
use Rattle.confinement_laws.specs.Untouched.{IsOfTree, IsWrittenBy, LeavesTree, TreeIsWrittenByRight}
use Rattle.confinement_laws.proofs.Writing.{HasNoTree, IsWritingRow, NoTree, Treats, beside, both_beside, by_right, by_rows, changed_is_seen, leaves, no_tree_part, touched_is_changed}

-- ---- rows with a right by which trees are changed

-- a row that needs one such right
base_writes : (fd : ℕ) (right : Rights) (k : ℕ) → IsIn right writing_rights → Has right.0 k → IsWritingRow (base_row fd right)
base_writes fd right k listed has = record { k = k; writing = (right, listed, has); needs = inl has }

create_is_writing : IsWriting 10
create_is_writing = (FILE_CREATE_FILE, (take 3 writing_rights, drop 4 writing_rights, refl), refl)

size_is_writing : IsWriting 20
size_is_writing = (FILE_STAT_FPUT_SIZE, (take 8 writing_rights, drop 9 writing_rights, refl), refl)

times_are_writing : IsWriting 21
times_are_writing = (FILE_STAT_FPUT_TIMES, (take 9 writing_rights, drop 10 writing_rights, refl), refl)

pwrite_writes : (fd : ℕ) → IsWritingRow (base_row fd (both FD_WRITE FD_SEEK))
pwrite_writes fd = record { k = 6; writing = (FD_WRITE, (take 0 writing_rights, drop 1 writing_rights, refl), refl); needs = inl refl }

-- a right that the second of two sets has both have
most_one : (x : ℕ) → x < 2 → max x 1 ≡ 1
most_one x small = omega (arith, small)

second_has : (first second k : ℕ) → Has second k → Has (bit_or first second) k
second_has first second k has =
    bit_at_or first second k ∙ ap (max (bit_at first k)) has ∙ most_one (bit_at first k) (bit_at-lt first k)

-- ---- calls that touch nothing of the tree

pub moved_beside : (moves : Bool) (o : ℕ) → HasNoTree (moved_part moves o)
moved_beside false o n = (refl, refl)
moved_beside true o n = (refl, refl)

pub open_beside : (d : Option Descriptor) → HasNoTree (open_part d)
open_beside None n = (refl, refl)
open_beside (Some d) n = (refl, refl)

pub channel_beside : (c : Option ℕ) → HasNoTree (channel_part c)
channel_beside None n = (refl, refl)
channel_beside (Some c) n = (refl, refl)

pub stream_beside : (kind : Option OpenKind) → HasNoTree (stream_part kind)
stream_beside None n = (refl, refl)
stream_beside (Some (Terminal which flags)) n = (refl, refl)
stream_beside (Some (File node offset flags)) n = (refl, refl)
stream_beside (Some (Directory node flags)) n = (refl, refl)
stream_beside (Some (End reads writes flags form)) n = channel_beside reads n
stream_beside (Some (Process p object)) n = (refl, refl)

pub sent_beside : (kind : Option OpenKind) → HasNoTree (sent_part kind)
sent_beside None n = (refl, refl)
sent_beside (Some (Terminal which flags)) n = (refl, refl)
sent_beside (Some (File node offset flags)) n = (refl, refl)
sent_beside (Some (Directory node flags)) n = (refl, refl)
sent_beside (Some (End reads writes flags form)) n = channel_beside writes n
sent_beside (Some (Process p object)) n = (refl, refl)

pub received_beside : (kind : Option OpenKind) → HasNoTree (received_part kind)
received_beside None n = (refl, refl)
received_beside (Some (Terminal which flags)) n = (refl, refl)
received_beside (Some (File node offset flags)) n = (refl, refl)
received_beside (Some (Directory node flags)) n = (refl, refl)
received_beside (Some (End reads writes flags form)) n = channel_beside reads n
received_beside (Some (Process p object)) n = (refl, refl)

pub shut_beside : (kind : Option OpenKind) → HasNoTree (both_parts kind)
shut_beside None n = (refl, refl)
shut_beside (Some (Terminal which flags)) n = (refl, refl)
shut_beside (Some (File node offset flags)) n = (refl, refl)
shut_beside (Some (Directory node flags)) n = (refl, refl)
shut_beside (Some (End reads writes flags form)) n =
    both_beside (channel_part reads) (channel_part writes) (channel_beside reads) (channel_beside writes) n
shut_beside (Some (Process p object)) n = (refl, refl)

touched_beside : (m : OpenMeaning) → ((kind : Option OpenKind) → HasNoTree (m.touched kind)) → (S : State) (d : Option Descriptor)
    → HasNoTree (touched_at m S d)
touched_beside m others S None n = (refl, refl)
touched_beside m others S (Some d) n =
    both_beside (moved_part (m.moves (get S.opens d.id)) d.id) (m.touched (get S.opens d.id)) (moved_beside (m.moves (get S.opens d.id)) d.id)
    (others (get S.opens d.id)) n

pub on_open_beside : (row : Needed) (m : OpenMeaning) → ((kind : Option OpenKind) → HasNoTree (m.touched kind)) → NoTree (by_open row m)
on_open_beside row m others S table = touched_beside m others S (get table row.fd)

pub map_beside : (anonymous : Bool) (place : Place) (row : Needed) (length offset : ℕ)
    → NoTree (cond anonymous (map_zeros place) (on_open row (mapping place length offset)))
map_beside true place row length offset S table n = (refl, refl)
map_beside false place row length offset S table n = (refl, refl)

pub poll_beside : (of_lock : Bool) (subscriptions : List Subscription) → NoTree (poll_by of_lock subscriptions)
poll_beside true [] S table n = (refl, refl)
poll_beside true (first ∷ rest) S table n = (refl, refl)
poll_beside false subscriptions S table n = (refl, refl)

-- ---- a file_stat_fput that sets no size and no time

-- a tree in which a node becomes what it was
same_node : (U : State) (n : ℕ) (o : Option Node) → get U.nodes n ≡ o → tree_of (put_all (becomes n o).updates U) ≡ tree_of U
same_node U n None is = refl
same_node U n (Some node) is =
    let nodes : insert U.nodes n node ≡ U.nodes =
    same_numbers _ _ (λ q. here_or_other (λ k. get (insert U.nodes n node) k ≡ get U.nodes k) n q (get-insert-same U.nodes n node ∙ sym is)
    (λ other. get-insert-other U.nodes n node q other)) in
    λ i. record { nodes = nodes i; names = U.names }

node_stays : (U : State) (n : ℕ) (t : Tree) → t ≡ tree_of U → tree_of (put_all (becomes_in n t).updates U) ≡ tree_of U
node_stays U n t same = ap (λ w. tree_of (put_all (becomes_in n w).updates U)) same ∙ same_node U n (get U.nodes n) refl

either_stays : (b : Bool) (U : State) (first second : Outcome) → tree_of (put_all first.updates U) ≡ tree_of U → tree_of (put_all second.updates U) ≡ tree_of U
    → tree_of (put_all (cond b first second).updates U) ≡ tree_of U
either_stays true U first second one other = one
either_stays false U first second one other = other

pub waits_tree : (a : Answer) (who : Who) (thread : Thread) (S : State) → tree_of (waits_if a who thread S) ≡ tree_of S
waits_tree (answer.Parked writes) who thread S = refl
waits_tree (answer.Reply reply) who thread S = refl

module _ (fd : ℕ) (stat : FileStat) (flags : ℕ) where
  module _ (no_size : (bit_and flags 16 == 0) ≡ true) (no_time : (bit_and flags 15 == 0) ≡ true) where
    times_stay : (now : ℕ) (t : Tree) (n : ℕ) → put_times flags stat now t n ≡ t
    times_stay now t n = ap (λ b. cond b t (retimed t n (times_put flags stat now))) no_time

    size_stays : (now : ℕ) (t : Tree) (n : ℕ) → put_size flags stat now t n ≡ t
    size_stays now t n = ap (λ b. cond (not b) (sized t n now stat.size) t) no_size

    stat_stays : (now : ℕ) (t : Tree) (n : ℕ) → put_stat flags stat now t n ≡ t
    stat_stays now t n = times_stay now (put_size flags stat now t n) n ∙ size_stays now t n

    put_stays : (now : ℕ) (U : State) (kind : Option OpenKind) → tree_of (put_all (put_open flags stat now (tree_of U) kind).updates U) ≡ tree_of U
    put_stays now U None = refl
    put_stays now U (Some (File n offset open_flags)) =
        either_stays (nat_lt MOST_FILE_BYTES (asked_size flags stat)) U _ (becomes_in n (put_stat flags stat now (tree_of U) n)) refl
        (node_stays U n (put_stat flags stat now (tree_of U) n) (stat_stays now (tree_of U) n))
    put_stays now U (Some (Directory n open_flags)) =
        either_stays (not (bit_and flags 16 == 0)) U _ (becomes_in n (put_times flags stat now (tree_of U) n)) refl
        (node_stays U n (put_times flags stat now (tree_of U) n) (times_stay now (tree_of U) n))
    put_stays now U (Some (End reads writes open_flags form)) = refl
    put_stays now U (Some (Terminal which open_flags)) = refl
    put_stays now U (Some (Process p object)) = refl

    fput_leaves : (S : State) (who : Who) → LeavesTree S who (call.FileStatFput fd stat flags)
    fput_leaves S who constants =
        let fput : Call = call.FileStatFput fd stat flags in
        let o : Outcome = outcome constants S who fput in
        waits_tree o.answer who _ (put_all o.updates (tick S))
        ∙ outcome_holds (λ (x : Outcome). tree_of (put_all x.updates (tick S)) ≡ tree_of S) constants S who fput (λ reply _. refl)
        (λ table own. put_stays (real_time constants (tick S).clock) (tick S) (open_of (whole (tick S)) (get table fd)))

  -- the rights to set a size and times, where these tests say that none is set
  abbrev put_rights : Bool → Bool → ℕ
  put_rights no_size no_time = (both (cond no_size NONE FILE_STAT_FPUT_SIZE) (cond no_time NONE FILE_STAT_FPUT_TIMES)).0

  size_needed : (no_time : Bool) → Has (put_rights false no_time) 20
  size_needed true = refl
  size_needed false = refl

  time_needed : (no_size : Bool) → Has (put_rights no_size false) 21
  time_needed true = refl
  time_needed false = refl

  fput_treats : Treats (call.FileStatFput fd stat flags)
  fput_treats =
      elim (bit_and flags 16 == 0) as (λ b. (bit_and flags 16 == 0) ≡ b → Treats (call.FileStatFput fd stat flags)) [
        | false ↦ λ size. by_right tt (
          record {
            k = 20;
            writing = size_is_writing;
            needs = inl (ap (λ b. bit_at (put_rights b (bit_and flags 15 == 0)) 20) size ∙ size_needed (bit_and flags 15 == 0));
          },
          tt,
        )
        | true ↦ λ no_size. elim (bit_and flags 15 == 0) as (λ b. (bit_and flags 15 == 0) ≡ b → Treats (call.FileStatFput fd stat flags)) [
          | false ↦ λ time. by_right tt (
            record {
              k = 21;
              writing = times_are_writing;
              needs = inl (ap (λ b. bit_at (put_rights (bit_and flags 16 == 0) b) 21) time ∙ time_needed (bit_and flags 16 == 0));
            },
            tt,
          )
          | true ↦ λ no_time. leaves (fput_leaves no_size no_time)
        ] refl
      ] refl

-- ---- file_open: with CREAT it needs the right to make files, with TRUNC that to set a size

module _ (lookup : Lookup) (path : List ℕ) (oflags : ℕ) (stat : FdStat) where
  module _ (no_creat : (bit_and oflags 1 == 0) ≡ true) (no_trunc : (bit_and oflags 8 == 0) ≡ true) where
    nothing_opened : (S : State) (table : Table) → (meaning_of (call.FileOpen lookup path oflags stat)).touched S table ≡ []
    nothing_opened S table =
        let w : Walked = walked (tree_of S) (open_mode oflags lookup.flags) path (open_of (whole S) (get table lookup.fd)) in
        λ i. parts_where (not (no_creat i)) (absent_parts w) ++ parts_where (not (no_trunc i)) (found_part w)

    open_leaves : NoTree (meaning_of (call.FileOpen lookup path oflags stat))
    open_leaves S table n =
        (ap (λ parts. has_part parts (at_node n)) (nothing_opened S table), ap (λ parts. has_part parts (at_names n)) (nothing_opened S table))

  open_treats : Treats (call.FileOpen lookup path oflags stat)
  open_treats =
      elim (bit_and oflags 1 == 0) as (λ b. (bit_and oflags 1 == 0) ≡ b → Treats (call.FileOpen lookup path oflags stat)) [
        | false ↦ λ creat. by_right tt (
          record {
            k = 10;
            writing = create_is_writing;
            needs = inl (ap (λ b. bit_at (both FILE_OPEN (cond b NONE FILE_CREATE_FILE)).0 10) creat);
          },
          tt,
        )
        | true ↦ λ no_creat. elim (bit_and oflags 8 == 0) as (λ b. (bit_and oflags 8 == 0) ≡ b → Treats (call.FileOpen lookup path oflags stat)) [
          | false ↦ λ trunc. by_right tt (
            record {
              k = 20;
              writing = size_is_writing;
              needs = inr (ap (λ b. bit_at (both (both stat.base stat.inheriting) (cond b NONE FILE_STAT_FPUT_SIZE)).0 20) trunc
                  ∙ second_has (both stat.base stat.inheriting).0 FILE_STAT_FPUT_SIZE.0 20 refl);
            },
            tt,
          )
          | true ↦ λ no_trunc. beside (open_leaves no_creat no_trunc)
        ] refl
      ] refl

-- ---- each call

treats : (call : Call) → Treats call
treats (call.FdWrite fd bytes) = by_right tt (base_writes fd FD_WRITE 6 (take 0 writing_rights, drop 1 writing_rights, refl) refl, tt)
treats (call.FdPwrite fd bytes offset) = by_right tt (pwrite_writes fd, tt)
treats (call.FileAllocate fd offset length) = by_right tt (base_writes fd FILE_ALLOCATE 8 (take 1 writing_rights, drop 2 writing_rights, refl) refl, tt)
treats (call.FileCreate fd path kind) = by_right tt (base_writes fd FILE_CREATE_DIRECTORY 9 (take 2 writing_rights, drop 3 writing_rights, refl) refl, tt)
treats (call.FileLink lookup path new_fd new_path) =
    by_right tt (
      base_writes lookup.fd FILE_LINK_SOURCE 12 (take 4 writing_rights, drop 5 writing_rights, refl) refl,
      (base_writes new_fd FILE_LINK_TARGET 13 (take 5 writing_rights, drop 6 writing_rights, refl) refl, tt),
    )
treats (call.FileOpen lookup path oflags stat) = open_treats lookup path oflags stat
treats (call.FileRename fd path new_fd new_path) =
    by_right tt (
      base_writes fd FILE_RENAME_SOURCE 17 (take 6 writing_rights, drop 7 writing_rights, refl) refl,
      (base_writes new_fd FILE_RENAME_TARGET 18 (take 7 writing_rights, drop 8 writing_rights, refl) refl, tt),
    )
treats (call.FileStatFput fd stat flags) = fput_treats fd stat flags
treats (call.FileStatPut lookup path stat flags) =
    by_right tt (base_writes lookup.fd FILE_STAT_PUT_TIMES 23 (take 10 writing_rights, drop 11 writing_rights, refl) refl, tt)
treats (call.FileSymlink text fd path) = by_right tt (base_writes fd FILE_SYMLINK 24 (take 11 writing_rights, drop 12 writing_rights, refl) refl, tt)
treats (call.FileUnlink fd path flags) = by_right tt (base_writes fd FILE_UNLINK 25 (take 12 writing_rights, drop 13 writing_rights, refl) refl, tt)
treats (call.FdRead fd length) = beside (on_open_beside (base_row fd FD_READ) (reading length) stream_beside)
treats (call.FdSeek fd offset whence) = beside (on_open_beside (seek_row fd offset whence) (seeking offset whence) (λ kind n. (refl, refl)))
treats (call.FdStatPut fd stat flags) = beside (λ S table. open_beside (get table fd))
treats (call.MemMap place length prot flags fd offset) = beside (map_beside (is_anonymous flags) place (map_row fd prot) length offset)
treats (call.Poll subscriptions) = beside (poll_beside (begins_with_lock subscriptions) subscriptions)
treats (call.SockRecv fd length fds flags) = beside (on_open_beside (base_row fd FD_READ) (receiving 0 empty length fds flags) received_beside)
treats (call.SockSend fd bytes fds flags) = beside (on_open_beside (base_row fd FD_WRITE) (sending bytes []) sent_beside)
treats (call.SockShutdown fd how) = beside (on_open_beside (base_row fd SOCK_SHUTDOWN) (shutting how) shut_beside)
treats _ = beside (λ S table n. (refl, refl))

-- ---- what is touched

by_treats : (S : State) (who : Who) (call : Call) (table : Table) (q : Part) → get S.tables who.pid ≡ Some table → refusal table call ≡ None → IsOfTree q
    → has_part ((meaning_of call).touched S table) q ≡ true → Treats call → IsWrittenBy S who call q ⊎ LeavesTree S who call
by_treats S who call table q own free of h (by_right some all) = inl (by_rows S who call q of some all (changed_is_seen S who call table own free q h))
by_treats S who call table q own free of h (beside none) = absurd (not_true (sym (no_tree_part ((meaning_of call).touched S table) q of (none S table)) ∙ h))
by_treats S who call table q own free of h (leaves all) = inr (all S who)

-- what a call may change of the tree is behind a descriptor of which it needs a right by which trees are changed, or it leaves the tree
pub changed_is_written : (S : State) (who : Who) (call : Call) (table : Table) (q : Part) → get S.tables who.pid ≡ Some table → refusal table call ≡ None
    → IsOfTree q → has_part ((meaning_of call).touched S table) q ≡ true → IsWrittenBy S who call q ⊎ LeavesTree S who call
changed_is_written S who call table q own free of h = by_treats S who call table q own free of h (treats call)

pub tree_is_written : TreeIsWrittenByRight
tree_is_written S who call q of touched unmade =
    let may = touched_is_changed S who call q of touched unmade in
    changed_is_written S who call may.table q may.own may.free of may.part
