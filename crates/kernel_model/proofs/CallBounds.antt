-- What no call of a kind does.
--     names_alone      calls on descriptors alone see nothing behind them
--     readers_keep_tree      a call that reads touches no file or directory, and no name
--     never_lack      calls that take no memory have their own answer
use Rattle.std.proofs.Common.{◌≡◌, ℕ, ◌||◌, Bool, true, false, cond, List, [], ◌++◌, Option, Some, None, Result, Ok, Err, refl, sym, ap, subst, ◌∙◌}
use Rattle.std.specs.FinMap.{get}
use Rattle.abi_types.specs.Numbers.{number_of_call}
use Rattle.abi_types.specs.declared.call.Call.{Call}
use Rattle.abi_types.specs.declared.call.Call.TheVariants as call
use Rattle.abi_types.specs.declared.call_number.CallNumber.{CallNumber}
use Rattle.abi_types.specs.Families.{is_anonymous}
use Rattle.abi_types.specs.declared.descriptor.Descriptor.{Descriptor}
use Rattle.abi_types.specs.declared.needed.Needed.{Needed}
use Rattle.abi_types.specs.declared.open_kind.OpenKind.{OpenKind}
use Rattle.abi_types.specs.declared.open_kind.OpenKind.TheVariants.{File, Directory, End, Terminal, Process}
use Rattle.abi_types.specs.declared.place.Place.{Place}
use Rattle.abi_types.specs.declared.reply.Reply.{Reply}
use Rattle.abi_types.specs.declared.who.Who.{Who}
use Rattle.kernel_model.specs.CallBounds.{NamesAlone, NeverLack, ReadersKeepTree, never_lacks, reads}
use Rattle.kernel_model.specs.Calls.{meaning_of, refusal, takes_memory}
use Rattle.kernel_model.specs.Families.FileMeaning.{on_open}
use Rattle.kernel_model.specs.Families.MemoryCalls.{map_row, map_zeros, mapping}
use Rattle.kernel_model.specs.Families.Numbers.{new_parts}
use Rattle.kernel_model.specs.OwnChanges.{born_of, child_parts, made_parts}
use Rattle.kernel_model.specs.Families.OpenMeaning.{OpenMeaning, by_open, moved_part, touched_at}
use Rattle.kernel_model.specs.Families.StreamCalls.{reading, seeking, stream_part}
use Rattle.kernel_model.specs.Meaning.{Meaning}
use Rattle.kernel_model.specs.Sight.{process_parts}
use Rattle.kernel_model.specs.State.{State, Table, Part, at_node, at_names, has_part}
use Rattle.kernel_model.specs.Step.{changed, made_by, made_on, touch, unless_refused}
use Rattle.kernel_model.proofs.Parts.{has_of_both}
use Rattle.kernel_model.proofs.Refusals.{no_memory_is_exact}
use Rattle.kernel_model.proofs.Tests.{not_true}

pub names_alone : NamesAlone
names_alone = record { close = λ fd. refl; dup = λ fd. refl; replace = λ from to. refl }

-- ---- memory

-- a property of a call's number, where it has one
abbrev OfNumber : (CallNumber → Bool) → Result CallNumber ℕ → Type 0
OfNumber P (Ok number) = P number ≡ true
OfNumber P (Err number) = ⊥

of_number : (P : CallNumber → Bool) (call : Call) (number : CallNumber) → number_of_call call ≡ Ok number → P number ≡ true → OfNumber P (number_of_call call)
of_number P call number is holds = subst (OfNumber P) (sym is) holds

-- each call of these takes no memory; the first lines are of those that may
takes_none : (call : Call) → OfNumber never_lacks (number_of_call call) → takes_memory call ≡ false
takes_none (call.Poll subscriptions) listed = absurd (not_true listed)
takes_none (call.FdDup fd) listed = absurd (not_true listed)
takes_none (call.FdPread fd length offset) listed = absurd (not_true listed)
takes_none (call.FdPwrite fd bytes offset) listed = absurd (not_true listed)
takes_none (call.FdRead fd length) listed = absurd (not_true listed)
takes_none (call.FdWrite fd bytes) listed = absurd (not_true listed)
takes_none (call.FileAllocate fd offset length) listed = absurd (not_true listed)
takes_none (call.FileCreate fd path kind) listed = absurd (not_true listed)
takes_none (call.FileLink lookup path new_fd new_path) listed = absurd (not_true listed)
takes_none (call.FileOpen lookup path oflags stat) listed = absurd (not_true listed)
takes_none (call.FileReaddir fd length cookie) listed = absurd (not_true listed)
takes_none (call.FileReadlink fd path length) listed = absurd (not_true listed)
takes_none (call.FileRename fd path new_fd new_path) listed = absurd (not_true listed)
takes_none (call.FileStatFget fd) listed = absurd (not_true listed)
takes_none (call.FileStatFput fd stat flags) listed = absurd (not_true listed)
takes_none (call.FileStatGet lookup path) listed = absurd (not_true listed)
takes_none (call.FileSymlink text fd path) listed = absurd (not_true listed)
takes_none (call.FileUnlink fd path flags) listed = absurd (not_true listed)
takes_none (call.RandomGet length) listed = absurd (not_true listed)
takes_none (call.ThreadCreate attributes) listed = absurd (not_true listed)
takes_none (call.MemMap place length prot flags fd offset) listed = absurd (not_true listed)
takes_none (call.FdCreate2 kind) listed = absurd (not_true listed)
takes_none (call.SockRecv fd length fds flags) listed = absurd (not_true listed)
takes_none (call.SockSend fd bytes fds flags) listed = absurd (not_true listed)
takes_none (call.ProcFork left) listed = absurd (not_true listed)
takes_none (call.ProcExec fd bytes fds) listed = absurd (not_true listed)
takes_none _ listed = refl

pub never_lack : NeverLack
never_lack constants S who call number given T is listed =
    no_memory_is_exact constants S who call given T (takes_none call (of_number never_lacks call number is listed))

-- ---- the tree

-- a part that neither list has
neither : (xs ys : List Part) (q : Part) → has_part xs q ≡ false → has_part ys q ≡ false → has_part (xs ++ ys) q ≡ false
neither xs ys q first second = has_of_both xs ys q ∙ ap (λ b. b || has_part ys q) first ∙ second

-- a file, a directory or the names in one
data IsOfTree : Part → Type 0 where
  node : (n : ℕ) → IsOfTree (at_node n)
  names : (n : ℕ) → IsOfTree (at_names n)

-- a call of this meaning makes no object, and touches none of these
record KeepsTree (m : Meaning) : Type 0 where
  makes : m.numbers ≡ 0
  leaves : (S : State) (table : Table) (q : Part) → IsOfTree q → has_part (m.touched S table) q ≡ false

-- a call that touches nothing
nothing_touched : (m : Meaning) → m.numbers ≡ 0 → ((S : State) (table : Table) → m.touched S table ≡ []) → KeepsTree m
nothing_touched m none all = record {
  makes = none;
  leaves = λ S table q of. ap (λ parts. has_part parts q) (all S table);
}

stream_left : (q : Part) → IsOfTree q → (kind : Option OpenKind) → has_part (stream_part kind) q ≡ false
stream_left q of None = refl
stream_left q (node n) (Some (Terminal which flags)) = refl
stream_left q (names n) (Some (Terminal which flags)) = refl
stream_left q of (Some (File n offset flags)) = refl
stream_left q of (Some (Directory n flags)) = refl
stream_left q of (Some (End None writes flags form)) = refl
stream_left q (node n) (Some (End (Some c) writes flags form)) = refl
stream_left q (names n) (Some (End (Some c) writes flags form)) = refl
stream_left q of (Some (Process p object)) = refl

-- the open of a descriptor, whether it may move or not
moved_left : (q : Part) → IsOfTree q → (moves : Bool) (o : ℕ) → has_part (moved_part moves o) q ≡ false
moved_left q of false o = refl
moved_left q (node n) true o = refl
moved_left q (names n) true o = refl

touched_left : (m : OpenMeaning) (q : Part) → IsOfTree q → ((kind : Option OpenKind) → has_part (m.touched kind) q ≡ false) → (S : State) (d : Option Descriptor)
    → has_part (touched_at m S d) q ≡ false
touched_left m q of beside S None = refl
touched_left m q of beside S (Some d) =
    neither (moved_part (m.moves (get S.opens d.id)) d.id) (m.touched (get S.opens d.id)) q (moved_left q of (m.moves (get S.opens d.id)) d.id)
    (beside (get S.opens d.id))

-- one that works on an open, and touches beside it no part of the tree
on_open_keeps : (row : Needed) (m : OpenMeaning) → ((q : Part) → IsOfTree q → (kind : Option OpenKind) → has_part (m.touched kind) q ≡ false)
    → KeepsTree (by_open row m)
on_open_keeps row m beside = record {
  makes = refl;
  leaves = λ S table q of. touched_left m q of (beside q of) S (get table row.fd);
}

map_keeps : (anonymous : Bool) (place : Place) (row : Needed) (length offset : ℕ)
    → KeepsTree (cond anonymous (map_zeros place) (on_open row (mapping place length offset)))
map_keeps true place row length offset = nothing_touched _ refl (λ S table. refl)
map_keeps false place row length offset = nothing_touched _ refl (λ S table. refl)

keeps_tree : (call : Call) → OfNumber reads (number_of_call call) → KeepsTree (meaning_of call)
keeps_tree (call.FdRead fd length) listed = on_open_keeps _ (reading length) stream_left
keeps_tree (call.FdSeek fd offset whence) listed = on_open_keeps _ (seeking offset whence) (λ q of kind. refl)
keeps_tree (call.MemMap place length prot flags fd offset) listed = map_keeps (is_anonymous flags) place (map_row fd prot) length offset
keeps_tree (call.FdDatasync fd) listed = nothing_touched _ refl (λ S table. refl)
keeps_tree (call.FdPread fd length offset) listed = nothing_touched _ refl (λ S table. refl)
keeps_tree (call.FdStatGet fd) listed = nothing_touched _ refl (λ S table. refl)
keeps_tree (call.FdSync fd) listed = nothing_touched _ refl (λ S table. refl)
keeps_tree (call.FileAdvise fd offset length advice) listed = nothing_touched _ refl (λ S table. refl)
keeps_tree (call.FileReaddir fd length cookie) listed = nothing_touched _ refl (λ S table. refl)
keeps_tree (call.FileReadlink fd path length) listed = nothing_touched _ refl (λ S table. refl)
keeps_tree (call.FileStatFget fd) listed = nothing_touched _ refl (λ S table. refl)
keeps_tree (call.FileStatGet lookup path) listed = nothing_touched _ refl (λ S table. refl)
keeps_tree (call.Memory number errno) listed = nothing_touched _ refl (λ S table. refl)
keeps_tree (call.Refused number errno) listed = nothing_touched _ refl (λ S table. refl)
keeps_tree (call.Unknown number) listed = absurd listed
keeps_tree _ listed = absurd (not_true listed)

child_left : (q : Part) → IsOfTree q → (child : Option ℕ) → has_part (child_parts child) q ≡ false
child_left q of None = refl
child_left q (node n) (Some child) = refl
child_left q (names n) (Some child) = refl

own_left : (p : ℕ) (q : Part) → IsOfTree q → has_part (process_parts p) q ≡ false
own_left p q (node n) = refl
own_left p q (names n) = refl

unless_left : (r : Option Reply) (parts : List Part) (q : Part) → has_part parts q ≡ false → has_part (unless_refused r parts) q ≡ false
unless_left None parts q h = h
unless_left (Some reply) parts q h = refl

changed_left : (S : State) (who : Who) (call : Call) (q : Part) → IsOfTree q → KeepsTree (meaning_of call) → (t : Option Table)
    → has_part (made_on S who call t ++ changed S call t) q ≡ false
changed_left S who call q of keeps None = refl
changed_left S who call q of keeps (Some table) =
    neither (made_on S who call (Some table)) (changed S call (Some table)) q
    (unless_left (refusal table call) (made_parts (meaning_of call).own who.pid (meaning_of call).numbers (get S.processes who.pid)) q
    (neither (child_parts (born_of (meaning_of call).own who.pid (get S.processes who.pid)))
    (new_parts who.pid (meaning_of call).numbers (get S.processes who.pid)) q
    (child_left q of (born_of (meaning_of call).own who.pid (get S.processes who.pid)))
    (ap (λ count. has_part (new_parts who.pid count (get S.processes who.pid)) q) keeps.makes)))
    (unless_left (refusal table call) ((meaning_of call).touched S table) q (keeps.leaves S table q of))

part_left : (S : State) (who : Who) (call : Call) (q : Part) → IsOfTree q → KeepsTree (meaning_of call) → has_part (touch S who call) q ≡ false
unfolding touch
part_left S who call q of keeps =
    neither (process_parts who.pid) (made_by S who call ++ changed S call (get S.tables who.pid)) q (own_left who.pid q of)
    (changed_left S who call q of keeps (get S.tables who.pid))

pub readers_keep_tree : ReadersKeepTree
readers_keep_tree S who call number n is listed =
    let keeps = keeps_tree call (of_number reads call number is listed) in
    (part_left S who call (at_node n) (node n) keeps, part_left S who call (at_names n) (names n) keeps)
