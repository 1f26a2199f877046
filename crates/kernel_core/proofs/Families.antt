-- What a call means, by the part of the kernel that does it.
--     file_on, offset_on, entries_on      the descriptors of a view are those on whose opens its call works
--     change_does, poll_does, zeros_does, answered_does, unbuilt_does      what such a call does
--     change_replaces      a number that is replaced is there
--     all_named      where a call isn't refused each descriptor that it names is there
use Rattle.std.proofs.Common.{◌≡◌, Bool, true, false, cond, List, [], Option, None, Some, refl, sym, ap, ◌∷◌}
use Rattle.abi_base.specs.declared.errno.Errno.{Errno}
use Rattle.abi_base.specs.declared.errno.Errno.TheVariants.{Badf, Nosys, Success}
use Rattle.abi_structures.specs.declared.events.Subscription.{Subscription}
use Rattle.std.specs.FinMap.{get}
use Rattle.abi_types.specs.Families.{HasFile, answer_of, call_of_change, call_of_entry, call_of_file, call_of_offset, fd_of_file, fd_of_offset, fds_of_entry, is_anonymous, is_unbuilt, zeros_of}
use Rattle.abi_types.specs.declared.call.Call.{Call}
use Rattle.abi_types.specs.declared.call.Call.TheVariants as call
use Rattle.abi_types.specs.declared.constants.Constants.{Constants}
use Rattle.abi_types.specs.declared.family.DescriptorChange.{DescriptorChange}
use Rattle.abi_types.specs.declared.family.DescriptorChange.TheVariants.{Close, Dup, Replace, StatPut}
use Rattle.abi_types.specs.declared.family.EntryCall.{EntryCall}
use Rattle.abi_types.specs.declared.family.EntryCall.TheVariants as entry
use Rattle.abi_types.specs.declared.family.FileCall.{FileCall}
use Rattle.abi_types.specs.declared.family.FileCall.TheVariants as file
use Rattle.abi_types.specs.declared.family.OffsetCall.{OffsetCall}
use Rattle.abi_types.specs.declared.family.OffsetCall.TheVariants as offset
use Rattle.abi_types.specs.declared.place.Place.{Place}
use Rattle.abi_types.specs.declared.reply.Reply.{Reply}
use Rattle.abi_types.specs.declared.who.Who.{Who}
use Rattle.fd_calls.specs.Calls.{offset_fd}
use Rattle.kernel_model.specs.Calls.{meaning_of, named, refusal, takes_memory}
use Rattle.kernel_model.specs.Families.EntryCalls.{entry_fds}
use Rattle.kernel_model.specs.Families.FileCalls.{file_fd}
use Rattle.kernel_model.specs.Families.LockCalls.{waited_outcome}
use Rattle.kernel_model.specs.Families.MemoryCalls.{map_zeros, placed}
use Rattle.kernel_model.specs.Families.Polls.{begins_with_lock, events_now, is_of_lock, poll_by}
use Rattle.kernel_model.specs.Laws.{HasAll}
use Rattle.kernel_model.specs.Meaning.{Meaning}
use Rattle.kernel_model.specs.Need.{some_absent}
use Rattle.kernel_model.specs.Outcome.{Outcome, replies}
use Rattle.kernel_model.specs.Reply.{refused}
use Rattle.kernel_model.specs.State.{State, Table}
use Rattle.kernel_model.specs.View.{View, whole}
use Rattle.kernel_model.proofs.Lacks.{all_present}
use Rattle.kernel_model.proofs.Tests.{none_is_no, not_true, same_some}
use Rattle.kernel_model.proofs.Polls.{told_holds}
use Rattle.kernel_parts.specs.Changes.{HasReplaced, change_outcome}
use Rattle.poll_set.specs.Polls.{poll_outcome, sight}
use Rattle.poll_set.proofs.PollReads.{poll_reads, poll_takes_memory}
use Rattle.kernel_invariant.proofs.Changes.{put_is}

-- ---- the descriptors of a view

pub file_on : (v : FileCall) → HasFile v → file_fd (call_of_file v) ≡ Some (fd_of_file v)
file_on (file.FdPread fd length offset) has = refl
file_on (file.FdPwrite fd bytes offset) has = refl
file_on (file.FileAllocate fd offset length) has = refl
file_on (file.FileReaddir fd length cookie) has = refl
file_on (file.FileReadlink fd path length) has = refl
file_on (file.FileStatFget fd) has = refl
file_on (file.FileStatFput fd stat flags) has = refl
file_on (file.FileStatGet lookup path) has = refl
file_on (file.FileStatPut lookup path stat flags) has = refl
file_on (file.MemMap place length prot flags fd offset) has = ap (λ b. cond b None (Some fd)) has

pub offset_on : (v : OffsetCall) → offset_fd (call_of_offset v) ≡ Some (fd_of_offset v)
offset_on (offset.FdRead fd length) = refl
offset_on (offset.FdSeek fd offset whence) = refl
offset_on (offset.FdWrite fd bytes) = refl

pub entries_on : (v : EntryCall) → entry_fds (call_of_entry v) ≡ Some (fds_of_entry v)
entries_on (entry.FileCreate fd path kind) = refl
entries_on (entry.FileLink lookup path new_fd new_path) = refl
entries_on (entry.FileRename fd path new_fd new_path) = refl
entries_on (entry.FileSymlink text fd path) = refl
entries_on (entry.FileUnlink fd path flags) = refl

-- ---- changes of descriptors

pub change_does : (constants : Constants) (S : State) (who : Who) (table : Table) (v : DescriptorChange)
    → (meaning_of (call_of_change v)).effect constants (whole S) who table ≡ change_outcome who.pid S.opens table v
change_does constants S who table (Close fd) = refl
change_does constants S who table (Dup fd) = refl
change_does constants S who table (Replace from to) = refl
change_does constants S who table (StatPut fd stat flags) = put_is S who.pid table fd stat flags

pub change_replaces : (table : Table) (v : DescriptorChange) → HasAll table (named (call_of_change v)) → HasReplaced table v
change_replaces table (Close fd) all = tt
change_replaces table (Dup fd) all = tt
change_replaces table (Replace from to) all = all.1.0
change_replaces table (StatPut fd stat flags) all = tt

-- ---- calls that need no view

zeros_by : (b : Bool) (at place : Place) (m : Meaning) (constants : Constants) (v : View) (who : Who) (table : Table) → cond b (Some at) None ≡ Some place
    → (cond b (map_zeros at) m).effect constants v who table ≡ replies (placed place)
zeros_by true at place m constants v who table is = ap (λ p. replies (placed p)) (same_some at place is)
zeros_by false at place m constants v who table is = absurd (none_is_no place is)

pub zeros_does : (c : Call) (place : Place) (constants : Constants) (v : View) (who : Who) (table : Table) → zeros_of c ≡ Some place
    → (meaning_of c).effect constants v who table ≡ replies (placed place)
zeros_does (call.MemMap at length prot flags fd offset) place constants v who table is =
    zeros_by (is_anonymous flags) at place _ constants v who table is
zeros_does other place constants v who table is = absurd (none_is_no place is)

replied_with : (errno given : Errno) → Some errno ≡ Some given → replies (refused errno) ≡ replies (refused given)
replied_with errno given is = ap (λ e. replies (refused e)) (same_some errno given is)

pub answered_does : (c : Call) (errno : Errno) (constants : Constants) (v : View) (who : Who) (table : Table) → answer_of c ≡ Some errno
    → (meaning_of c).effect constants v who table ≡ replies (refused errno)
answered_does (call.FdDatasync fd) errno constants v who table is = replied_with Success errno is
answered_does (call.FdSync fd) errno constants v who table is = replied_with Success errno is
answered_does (call.FileAdvise fd offset length advice) errno constants v who table is = replied_with Success errno is
answered_does call.ThreadYield errno constants v who table is = replied_with Success errno is
answered_does (call.Memory number had) errno constants v who table is = replied_with had errno is
answered_does (call.Refused number had) errno constants v who table is = replied_with had errno is
answered_does (call.Unknown number) errno constants v who table is = replied_with Nosys errno is
answered_does other errno constants v who table is = absurd (none_is_no errno is)

pub unbuilt_does : (c : Call) (constants : Constants) (v : View) (who : Who) (table : Table) → is_unbuilt c ≡ true
    → (meaning_of c).effect constants v who table ≡ replies (refused Nosys)
unbuilt_does (call.FdCreate1 kind) constants v who table is = refl
unbuilt_does other constants v who table is = absurd (cc)

-- ---- polls

-- what a poll comes to in a state
abbrev pub poll_in : Constants → State → Who → Table → List Subscription → Outcome
poll_in constants S who table subscriptions = poll_outcome constants S.opens S.chans S.statuses S.clock table who.since subscriptions

-- one that doesn't begin with a lock or a condition variable
pub poll_does : (constants : Constants) (S : State) (who : Who) (table : Table) (subscriptions : List Subscription) → begins_with_lock subscriptions ≡ false
    → (meaning_of (call.Poll subscriptions)).effect constants (whole S) who table ≡ poll_in constants S who table subscriptions
poll_does constants S who table subscriptions is = poll_reads S constants who table subscriptions is

pub poll_sets_nothing : (constants : Constants) (S : State) (who : Who) (table : Table) (subscriptions : List Subscription)
    → (poll_in constants S who table subscriptions).updates ≡ []
poll_sets_nothing constants S who table subscriptions =
    told_holds (λ o. o.updates ≡ []) (events_now constants (sight S.opens S.chans S.statuses S.clock) who.since table subscriptions) (λ event more. refl) refl

pub poll_may_lack : (subscriptions : List Subscription) → takes_memory (call.Poll subscriptions) ≡ true
poll_may_lack subscriptions = poll_takes_memory subscriptions

-- one that does, by its first subscription
lock_poll_by : (lock : Bool) (first : Subscription) (rest : List Subscription) (constants : Constants) (S : State) (who : Who) (table : Table) → lock ≡ true
    → (poll_by lock (first ∷ rest)).effect constants (whole S) who table
    ≡ waited_outcome first.userdata first.what who.pid who.tid who.stage (get S.processes who.pid)
lock_poll_by true first rest constants S who table is = refl
lock_poll_by false first rest constants S who table is = absurd (not_true is)

pub lock_poll_does : (constants : Constants) (S : State) (who : Who) (table : Table) (first : Subscription) (rest : List Subscription) → is_of_lock first.what ≡ true
    → (meaning_of (call.Poll (first ∷ rest))).effect constants (whole S) who table
    ≡ waited_outcome first.userdata first.what who.pid who.tid who.stage (get S.processes who.pid)
lock_poll_does constants S who table first rest is = lock_poll_by (is_of_lock first.what) first rest constants S who table is

-- ---- refusals

present_by : (absent : Bool) (x : Reply) (o : Option Reply) → cond absent (Some x) o ≡ None → absent ≡ false
present_by true x o none = absurd (none_is_no x (sym none))
present_by false x o none = refl

-- where a call isn't refused each descriptor that it names is there
pub all_named : (table : Table) (c : Call) → refusal table c ≡ None → HasAll table (named c)
all_named table c none = all_present table (named c) (present_by (some_absent table (named c)) (refused Badf) _ none)
