-- What each call leaves of its process's table is what its line of `granted_row` says.
use Rattle.std.proofs.Common.{◌≡◌, ◌≢◌, ℕ, ◌+◌, ◌==◌, not, Bool, true, false, cond, List, [], ◌∷◌, ◌++◌, Option, Some, None, refl, sym, ap, subst, ◌∙◌}
use Rattle.std.specs.Prelude.{bit_and, option_map}
use Rattle.std.specs.FinMap.{get, insert, remove}
use Rattle.abi_base.specs.declared.errno.Errno.{Errno}
use Rattle.abi_base.specs.declared.errno.Errno.TheVariants.{Success, Again, Badf, Inval, Mfile, Nosys, Notsup, Perm}
use Rattle.abi_structures.specs.declared.structures.FdStat.{FdStat}
use Rattle.abi_structures.specs.declared.structures.ThreadAttr.{ThreadAttr}
use Rattle.abi_types.specs.declared.reply.Answer.{Answer}
use Rattle.abi_types.specs.declared.reply.Answer.TheVariants as answer
use Rattle.abi_base.specs.declared.rights.TheConstants.Rights.{SOCK_SHUTDOWN}
use Rattle.abi_types.specs.declared.call.Call.{Call}
use Rattle.abi_types.specs.declared.call.Call.TheVariants as call
use Rattle.abi_types.specs.declared.call.Call.TheVariants.{FdClose, FdDup, FdReplace, FdStatGet, FdStatPut, FileOpen, MemMap, ProcExit}
use Rattle.abi_types.specs.declared.call.Lookup.{Lookup}
use Rattle.abi_types.specs.declared.reply.Reply.{Reply}
use Rattle.abi_types.specs.declared.constants.Constants.{Constants}
use Rattle.abi_types.specs.declared.descriptor.Descriptor.{Descriptor}
use Rattle.abi_types.specs.declared.needed.Needed.{Needed}
use Rattle.abi_types.specs.declared.node.NodeKind.TheVariants.{Link}
use Rattle.abi_types.specs.declared.open_kind.OpenKind.{OpenKind}
use Rattle.abi_types.specs.declared.place.Place.{Place}
use Rattle.abi_types.specs.declared.who.Who.{Who}
use Rattle.maps.specs.Maps.{get-insert-same, get-insert-other, get-remove-same}
use Rattle.kernel_model.specs.Calls.{meaning_of, refusal_of}
use Rattle.kernel_model.specs.Families.DescriptorCalls.{with_table, lowest_free, dup_at, dup_of, replaced_by, stat_open, stat_get, with_flags, lowered_to, stat_set, stat_put}
use Rattle.kernel_model.specs.Families.ClockCalls.{drawn_if, real_time, time_of}
use Rattle.kernel_model.specs.Families.FileCalls.{file_meaning, file_fd}
use Rattle.kernel_model.specs.Families.FileMeaning.{on_open, open_of}
use Rattle.kernel_model.specs.Families.FilePaths.{walked}
use Rattle.kernel_model.specs.Meaning.{Meaning}
use Rattle.kernel_model.specs.Families.NameMaking.{making, making_unless, text_error}
use Rattle.kernel_model.specs.Families.NameMeaning.{NameOutcome, outcome_of}
use Rattle.kernel_model.specs.Families.Numbers.{next_object}
use Rattle.kernel_model.specs.Families.Opening.{open_mode, open_walked}
use Rattle.kernel_model.specs.Outcome.{Outcome, parks, replies}
use Rattle.kernel_model.specs.Reply.{refused, success}
use Rattle.kernel_model.specs.State.{State, ProcessState, Table, put_all, put_one, set_open, set_process, set_table}
use Rattle.abi_structures.specs.declared.events.Subscription.{Subscription}
use Rattle.kernel_model.specs.Families.Polls.{events_reply}
use Rattle.kernel_model.proofs.Polls.{poll_holds}
use Rattle.kernel_model.specs.Families.LockCalls.{sleeps_in, tells, word_reply}
use Rattle.kernel_model.specs.Families.Locks.{signalled_own, signalled_word, unlocked_own}
use Rattle.kernel_model.proofs.LockCalls.{signal_holds, unlock_holds}
use Rattle.kernel_model.specs.Families.ProcessCalls.{made_if}
use Rattle.kernel_model.specs.OwnChanges.{without_thread}
use Rattle.kernel_model.proofs.ClockCalls.{drawn_holds}
use Rattle.kernel_model.proofs.ThreadCalls.{left_holds, made_holds}
use Rattle.kernel_model.specs.Families.StreamCalls.{reading, seeking, writing}
use Rattle.abi_types.specs.Families.{is_anonymous}
use Rattle.kernel_model.specs.Families.MemoryCalls.{map_row, map_zeros, mapping}
use Rattle.kernel_model.specs.Families.OpenMeaning.{OpenMeaning, at_descriptor, by_open}
use Rattle.kernel_model.specs.Rows.{base_row}
use Rattle.kernel_model.specs.View.{View, whole}
use Rattle.kernel_model.proofs.FileCalls.{on_open_of}
use Rattle.kernel_model.proofs.FileMeanings.{tree_tables}
use Rattle.kernel_model.proofs.FilePaths.{walked_plainly}
use Rattle.kernel_model.proofs.NameProper.{outcome_tables}
use Rattle.kernel_model.proofs.OpenMeanings.{OpensWell, apart_descriptor, apart_tables}
use Rattle.kernel_model.proofs.Refusals.{refusal_is_other}
use Rattle.kernel_model.specs.Families.ChannelCalls.{picked, receive_open, send_open}
use Rattle.kernel_model.specs.Families.SocketCalls.{create, made_of, shutting}
use Rattle.kernel_model.proofs.SocketCalls.{send_apart, shut_opens_well}
use Rattle.kernel_model.proofs.StreamCalls.{read_opens_well, seek_opens_well, write_opens_well}
use Rattle.abi_base.specs.declared.signal.Signal.{Signal}
use Rattle.kernel_model.specs.Families.ForkCalls.{child_descriptor, child_kind, child_number, child_open, child_process, fork_at, fork_updates, listed}
use Rattle.kernel_model.specs.Families.Numbers.{made_more, object_of}
use Rattle.kernel_model.specs.Families.ProcessCalls.{Raised, stops, passes, ends, raise_as, raise_of, raised_by, signal_of}
use Rattle.kernel_model.specs.ForkLaws.{nth_held}
use Rattle.kernel_model.specs.OwnChanges.{is_success, with_next_child}
use Rattle.kernel_model.specs.State.{counts_in}
use Rattle.kernel_model.proofs.Births.{CanFork, fork_holds, forks, may_is}
use Rattle.kernel_model.proofs.ChildLaws.{child_apart}
use Rattle.kernel_model.proofs.ExecCalls.{exec_at_holds, listed_at}
use Rattle.kernel_model.proofs.Tests.{not_true}
use Rattle.authority_laws.specs.Ledger.{Row, no_row, has_thread, After, after_of, with_held, lowered_row, granted_row, by_success, answered_row, new_held, new_held_of, raised_as, raised_row, recently_made}
use Rattle.authority_laws.proofs.Openings.{open_reported, walk_by_error}
use Rattle.authority_laws.proofs.Sockets.{pair_reported, receive_reported}
use Rattle.authority_laws.proofs.Rows.{LeavesRow, row_in, row_of, row_dropped, row_inserted, row_removed, by_error, by_either, refused_reported, badf_is_error, mfile_is_error, nosys_is_error, again_is_error, perm_is_error}

-- each outcome of the call of a process with this table, once it is not refused, is such
abbrev IsReported : Call → Type 0
IsReported call =
    (constants : Constants) (S : State) (v : View) (who : Who) (table : Table) → get S.tables who.pid ≡ Some table → v ≡ whole S
    → LeavesRow S who.pid call ((meaning_of call).effect constants v who table)

-- ---- calls that change no table, and that have no line of their own

abbrev KeepsTables : State → Outcome → Type 0
KeepsTables S o = (put_all o.updates S).tables ≡ S.tables

abbrev GrantsNothing : Call → Type 0
GrantsNothing call = (after : After) (row : Row) (reply : Reply) → granted_row after row call reply ≡ row

same_answered : (after : After) (row : Row) (call : Call) (given : Answer) → GrantsNothing call → row ≡ answered_row after row call given
same_answered after row call (answer.Parked writes) nothing = refl
same_answered after row call (answer.Reply reply) nothing =
    sym (ap (λ granted. by_success reply.errno granted row) (nothing after row reply) ∙ by_either reply.errno row)

kept : (S : State) (p : ℕ) (call : Call) (o : Outcome) → GrantsNothing call → KeepsTables S o → LeavesRow S p call o
kept S p call o nothing same =
    ap (λ tables. row_in (get tables p)) same ∙ same_answered (after_of S (put_all o.updates S) p) (row_of S p) call o.answer nothing

-- a call that may make another open of that of a descriptor
moved_reported : (called : Call) (m : OpenMeaning) (row : Needed) → OpensWell m → GrantsNothing called → meaning_of called ≡ by_open row m → IsReported called
moved_reported called m row well nothing means constants S v who table there seen =
    let o : Outcome = (by_open row m).effect constants v who table in
    subst (λ (x : Meaning). LeavesRow S who.pid called (x.effect constants v who table)) (sym means)
    (kept S who.pid called o nothing
    (apart_tables o.updates S (apart_descriptor m well (real_time constants v.clock) v (get table row.fd))))

stat_open_kept : (S : State) (d : Descriptor) (kind : Option OpenKind) → KeepsTables S (stat_open d kind)
stat_open_kept S d None = refl
stat_open_kept S d (Some kind) = refl

stat_kept : (S : State) (v : View) (d : Option Descriptor) → KeepsTables S (stat_get v d)
stat_kept S v None = refl
stat_kept S v (Some d) = stat_open_kept S d (v.opened d.id)

fd_stat_get_reported : (fd : ℕ) → IsReported (FdStatGet fd)
fd_stat_get_reported fd constants S v who table there seen =
    kept S who.pid (FdStatGet fd) (stat_get v (get table fd)) (λ after row reply. refl) (stat_kept S v (get table fd))

-- a call that succeeds, and does no more
nothing_reported : (call : Call) → GrantsNothing call
    → ((constants : Constants) (v : View) (who : Who) (table : Table) → (meaning_of call).effect constants v who table ≡ replies (success 0 0)) → IsReported call
nothing_reported call nothing is constants S v who table there seen =
    subst (LeavesRow S who.pid call) (sym (is constants v who table)) (kept S who.pid call (replies (success 0 0)) nothing refl)

-- a call that works on the open of a descriptor: it changes the file tree alone
file_reported : (called : Call) (fd : ℕ) → GrantsNothing called → file_fd called ≡ Some fd → IsReported called
file_reported called fd nothing is constants S v who table there seen =
    let on = on_open_of called fd is in
    let o : Outcome = (on_open on.row (file_meaning called)).effect constants v who table in
    subst (λ (m : Meaning). LeavesRow S who.pid called (m.effect constants v who table)) (sym on.means)
    (kept S who.pid called o nothing
    (tree_tables o.updates S (on.well.tree (real_time constants v.clock) v.branch (open_of v (get table on.row.fd)))))

-- mem_map: with zeros it changes nothing, and else it works on an open
zeros_kept : (S : State) (constants : Constants) (v : View) (who : Who) (table : Table) (place : Place)
    → KeepsTables S ((map_zeros place).effect constants v who table)
zeros_kept S constants v who table place = refl

mem_map_reported : (place : Place) (length prot flags fd offset : ℕ) → IsReported (MemMap place length prot flags fd offset)
mem_map_reported place length prot flags fd offset =
    elim (is_anonymous flags) as (λ b. is_anonymous flags ≡ b → IsReported (MemMap place length prot flags fd offset)) [
      | true ↦ λ is constants S v who table there seen.
          subst (λ (m : Meaning). LeavesRow S who.pid (MemMap place length prot flags fd offset) (m.effect constants v who table))
          (sym (ap (λ b. cond b (map_zeros place) (on_open (map_row fd prot) (mapping place length offset))) is))
          (kept S who.pid (MemMap place length prot flags fd offset) ((map_zeros place).effect constants v who table) (λ after row reply. refl)
          (zeros_kept S constants v who table place))
      | false ↦ λ is.
          file_reported (MemMap place length prot flags fd offset) fd (λ after row reply. refl) (ap (λ b. cond b None (Some fd)) is)
    ] refl

-- a call that makes, moves or takes away names: it changes the tree and what its process has made alone
named_reported : (call : Call) → GrantsNothing call
    → ((constants : Constants) (v : View) (who : Who) (table : Table) → (new_nodes : ℕ) × (own : Option ProcessState) × (comes : NameOutcome)
    × ((meaning_of call).effect constants v who table ≡ outcome_of who.pid own new_nodes comes)) → IsReported call
named_reported call nothing is constants S v who table there seen =
    let comes = is constants v who table in
    subst (LeavesRow S who.pid call) (sym comes.3)
    (kept S who.pid call (outcome_of who.pid comes.1 comes.0 comes.2) nothing (outcome_tables S who.pid comes.0 comes.1 comes.2))

-- file_open
file_open_reported : (lookup : Lookup) (path : List ℕ) (oflags : ℕ) (stat : FdStat) → IsReported (FileOpen lookup path oflags stat)
file_open_reported lookup path oflags stat constants S v who table there seen =
    open_reported S who.pid table lookup path oflags stat there (v.process who.pid) (lowest_free table)
    (open_walked oflags stat.flags path (real_time constants v.clock) (next_object who.pid (v.process who.pid) 1) v.branch
    (walked v.branch (open_mode oflags lookup.flags) path (open_of v (get table lookup.fd))))
    (walk_by_error oflags stat.flags path (real_time constants v.clock) (next_object who.pid (v.process who.pid) 1) v.branch
    (walked v.branch (open_mode oflags lookup.flags) path (open_of v (get table lookup.fd)))
    (walked_plainly v.branch (open_mode oflags lookup.flags) path (open_of v (get table lookup.fd))))

-- a call that answers this error, and nothing else
decided_reported : (call : Call) (errno : Errno) (S : State) (p : ℕ) → GrantsNothing call → LeavesRow S p call (replies (refused errno))
decided_reported call errno S p nothing = kept S p call (replies (refused errno)) nothing refl

-- the call that isn't offered, whatever its line says of a success
unbuilt_reported : (call : Call)
    → ((constants : Constants) (v : View) (who : Who) (table : Table) → (meaning_of call).effect constants v who table ≡ replies (refused Nosys)) → IsReported call
unbuilt_reported call is constants S v who table there seen =
    subst (LeavesRow S who.pid call) (sym (is constants v who table)) (refused_reported S who.pid call Nosys nosys_is_error)

-- a poll has its events, or its thread waits, and may hand on a lock
poll_reported : (subscriptions : List Subscription) → IsReported (call.Poll subscriptions)
poll_reported subscriptions constants S v who table there seen =
    poll_holds (LeavesRow S who.pid (call.Poll subscriptions)) (record {
      told = λ event more. kept S who.pid (call.Poll subscriptions) (replies (events_reply (event ∷ more))) (λ after row reply. refl) refl;
      tells = λ userdata what errno writes.
          kept S who.pid (call.Poll subscriptions) (tells userdata what errno writes) (λ after row reply. refl) refl;
      waits = λ writes _. kept S who.pid (call.Poll subscriptions) (parks writes) (λ after row reply. refl) refl;
      sleeps = λ p condvar lock own.
          kept S who.pid (call.Poll subscriptions) (sleeps_in p condvar lock (Some own)) (λ after row reply. refl) refl;
    }) subscriptions constants v who table

-- ---- calls that change their process's table

proc_exit_reported : (code : ℕ) → IsReported (ProcExit code)
proc_exit_reported code constants S v who table there seen = row_dropped S.tables who.pid

-- a table that has what the call's line says
set_reported : (S : State) (p : ℕ) (call : Call) (table new : Table) (result : ℕ) → get S.tables p ≡ Some table
    → ((after : After) → row_in (Some new) ≡ granted_row after (row_in (Some table)) call (success result 0)) → LeavesRow S p call (with_table p result new)
set_reported S p call table new result there is =
    let after : After = after_of S (put_one (set_table p new) S) p in
    ap row_in (get-insert-same S.tables p new) ∙ is after ∙ ap (λ row. granted_row after row call (success result 0)) (sym (ap row_in there))

fd_close_reported : (fd : ℕ) → IsReported (FdClose fd)
fd_close_reported fd constants S v who table there seen = set_reported S who.pid (FdClose fd) table (remove table fd) 0 there (λ after. row_removed table fd)

-- fd_dup
number_reported : (S : State) (p fd : ℕ) (table : Table) (d : Descriptor) (number : Option ℕ) → get S.tables p ≡ Some table → get table fd ≡ Some d
    → LeavesRow S p (FdDup fd) (dup_at p table d number)
number_reported S p fd table d None there here = refused_reported S p (FdDup fd) Mfile mfile_is_error
number_reported S p fd table d (Some number) there here =
    set_reported S p (FdDup fd) table (insert table number d) number there
    (λ after. row_inserted table number d ∙ ap (with_held (row_in (Some table)) number) (sym here))

dup_reported : (S : State) (p fd : ℕ) (table : Table) (o : Option Descriptor) → get S.tables p ≡ Some table → get table fd ≡ o
    → LeavesRow S p (FdDup fd) (dup_of p table o)
dup_reported S p fd table None there here = refused_reported S p (FdDup fd) Badf badf_is_error
dup_reported S p fd table (Some d) there here = number_reported S p fd table d (lowest_free table) there here

fd_dup_reported : (fd : ℕ) → IsReported (FdDup fd)
fd_dup_reported fd constants S v who table there seen = dup_reported S who.pid fd table (get table fd) there refl

-- fd_replace
replaced_reported : (S : State) (p from to : ℕ) (table : Table) (o : Option Descriptor) → get S.tables p ≡ Some table → get table from ≡ o
    → LeavesRow S p (FdReplace from to) (replaced_by p table to o)
replaced_reported S p from to table None there here = refused_reported S p (FdReplace from to) Badf badf_is_error
replaced_reported S p from to table (Some d) there here =
    set_reported S p (FdReplace from to) table (insert table to d) 0 there
    (λ after. row_inserted table to d ∙ ap (with_held (row_in (Some table)) to) (sym here))

fd_replace_reported : (from to : ℕ) → IsReported (FdReplace from to)
fd_replace_reported from to constants S v who table there seen = replaced_reported S who.pid from to table (get table from) there refl

-- fd_stat_put: what the updates leave, of which the second alone sets the table
updates_leave : (S : State) (p o : ℕ) (kind : OpenKind) (new : Table) (no_flags no_rights : Bool)
    → row_of (put_all (cond no_flags [] (set_open o kind ∷ []) ++ cond no_rights [] (set_table p new ∷ [])) S) p
    ≡ cond no_rights (row_of S p) (row_in (Some new))
updates_leave S p o kind new true true = refl
updates_leave S p o kind new true false = ap row_in (get-insert-same S.tables p new)
updates_leave S p o kind new false true = refl
updates_leave S p o kind new false false = ap row_in (get-insert-same S.tables p new)

lowered_is : (table : Table) (fd : ℕ) (stat : FdStat) (d : Descriptor) → get table fd ≡ Some d
    → row_in (Some (insert table fd (lowered_to d stat))) ≡ lowered_row (row_in (Some table)) fd stat
lowered_is table fd stat d here =
    row_inserted table fd (lowered_to d stat)
    ∙ ap (λ o. with_held (row_in (Some table)) fd (option_map (λ (x : Descriptor). lowered_to x stat) o)) (sym here)

set_stat_reported : (S : State) (p : ℕ) (table : Table) (fd : ℕ) (stat : FdStat) (flags : ℕ) (d : Descriptor) (kind : Option OpenKind) → get S.tables p ≡ Some table
    → get table fd ≡ Some d → LeavesRow S p (FdStatPut fd stat flags) (stat_set p table fd stat flags d kind)
set_stat_reported S p table fd stat flags d None there here = refused_reported S p (FdStatPut fd stat flags) Badf badf_is_error
set_stat_reported S p table fd stat flags d (Some kind) there here =
    updates_leave S p d.id (with_flags kind stat.flags) (insert table fd (lowered_to d stat)) (bit_and flags 1 == 0) (bit_and flags 2 == 0)
    ∙ ap (cond (bit_and flags 2 == 0) (row_of S p)) (lowered_is table fd stat d here ∙ ap (λ row. lowered_row row fd stat) (sym (ap row_in there)))

put_reported : (S : State) (v : View) (p : ℕ) (table : Table) (fd : ℕ) (stat : FdStat) (flags : ℕ) (o : Option Descriptor) → get S.tables p ≡ Some table
    → get table fd ≡ o → LeavesRow S p (FdStatPut fd stat flags) (stat_put v p table fd stat flags o)
put_reported S v p table fd stat flags None there here = refused_reported S p (FdStatPut fd stat flags) Badf badf_is_error
put_reported S v p table fd stat flags (Some d) there here = set_stat_reported S p table fd stat flags d (v.opened d.id) there here

fd_stat_put_reported : (fd : ℕ) (stat : FdStat) (flags : ℕ) → IsReported (FdStatPut fd stat flags)
fd_stat_put_reported fd stat flags constants S v who table there seen = put_reported S v who.pid table fd stat flags (get table fd) there refl

-- ---- threads and random bytes

random_reported : (length : ℕ) → IsReported (call.RandomGet length)
random_reported length constants S v who table there seen =
    drawn_holds (LeavesRow S who.pid (call.RandomGet length)) constants who.pid (v.process who.pid) length
    (refused_reported S who.pid (call.RandomGet length) Again again_is_error)
    (λ own _. kept S who.pid (call.RandomGet length) (drawn_if true constants who.pid own length) (λ after row reply. refl) refl)

create_reported : (attributes : ThreadAttr) → IsReported (call.ThreadCreate attributes)
create_reported attributes constants S v who table there seen =
    made_holds (LeavesRow S who.pid (call.ThreadCreate attributes)) who.pid who.tid (v.process who.pid)
    (refused_reported S who.pid (call.ThreadCreate attributes) Again again_is_error)
    (λ own _ _. kept S who.pid (call.ThreadCreate attributes) (made_if true who.pid own) (λ after row reply. refl) refl)

-- thread_exit: the process ends with its last thread, and else it has one left
exit_reported : (lock word scope : ℕ) → IsReported (call.ThreadExit lock word scope)
exit_reported lock word scope constants S v who table there seen =
    let row : Row = row_of S who.pid in
    left_holds (LeavesRow S who.pid (call.ThreadExit lock word scope)) who.pid who.tid lock word (v.process who.pid)
    (refused_reported S who.pid (call.ThreadExit lock word scope) Perm perm_is_error)
    (λ new own _ _ last. row_dropped S.tables who.pid
    ∙ sym (ap (λ o. cond (has_thread o) row no_row) (get-remove-same S.processes who.pid)))
    (λ new own _ _ more. sym (ap (λ o. cond (has_thread o) row no_row)
    (get-insert-same S.processes who.pid (without_thread who.tid (unlocked_own lock word who.tid own)))
    ∙ ap (λ b. cond (not b) row no_row) more))

-- ---- locks and condition variables

unlock_reported : (lock word scope : ℕ) → IsReported (call.LockUnlock lock word scope)
unlock_reported lock word scope constants S v who table there seen =
    unlock_holds (LeavesRow S who.pid (call.LockUnlock lock word scope)) who.pid who.tid lock word (v.process who.pid)
    (refused_reported S who.pid (call.LockUnlock lock word scope) Perm perm_is_error)
    (λ own new _. kept S who.pid (call.LockUnlock lock word scope)
    (record { answer = answer.Reply (word_reply lock new); updates = set_process who.pid (unlocked_own lock word who.tid own) ∷ [] })
    (λ after row reply. refl) refl)

signal_wakes_reported : (condvar word scope n : ℕ) → IsReported (call.CondvarSignal condvar word scope n)
signal_wakes_reported condvar word scope n constants S v who table there seen =
    signal_holds (LeavesRow S who.pid (call.CondvarSignal condvar word scope n)) who.pid condvar n (v.process who.pid)
    (λ _. kept S who.pid (call.CondvarSignal condvar word scope n) (replies (success 0 0)) (λ after row reply. refl) refl)
    (λ own _. kept S who.pid (call.CondvarSignal condvar word scope n)
    (record {
      answer = answer.Reply (word_reply condvar (signalled_word n condvar own.threads));
      updates = set_process who.pid (signalled_own condvar n own) ∷ [];
    })
    (λ after row reply. refl) refl)

-- ---- processes

error_not_success : (errno : Errno) → is_success errno ≡ false → errno ≢ Success
error_not_success errno isnt is = not_true (sym isnt ∙ ap is_success is)

-- proc_exec: under each number stands what was listed there
exec_reported : (fd : ℕ) (bytes fds : List ℕ) → IsReported (call.ProcExec fd bytes fds)
exec_reported fd bytes fds constants S v who table there seen =
    exec_at_holds constants.key who.pid who.tid (listed table fds) v (LeavesRow S who.pid (call.ProcExec fd bytes fds))
    (λ errno here other. refused_reported S who.pid (call.ProcExec fd bytes fds) errno (error_not_success errno other)) (get table fd)
    (λ x node own is program has.
    ap row_in (get-insert-same S.tables who.pid (listed table fds)) ∙ (λ i n. listed_at table fds n i)
    ∙ ap (λ row. nth_held row fds) (sym (ap row_in there)))

-- proc_fork: the open of the child, which is the last that was made, stands under the result
forked_reported : (S : State) (p t : ℕ) (table : Table) (left fd : ℕ) (own : ProcessState) → get S.tables p ≡ Some table → get S.processes p ≡ Some own
    → CanFork left p t own → LeavesRow S p (call.ProcFork left) (forks p t own table fd)
forked_reported S p t table left fd own there has can =
    let c = child_number p own in
    let o = child_open p own in
    let d = child_descriptor p own in
    let new = made_more 2 (with_next_child own) in
    let apart : p ≢ c = λ is. child_apart own.depth p (own.counts.forks + 1) (may_is own can.bears) (sym is) in
    let U : State = put_all (fork_updates p t own table fd) S in
    let objects : (counts_in (get U.processes p)).objects ≡ own.counts.objects + 2 =
    ap (λ x. (counts_in x).objects) (get-insert-other (insert S.processes p new) c (child_process t own) p apart ∙ get-insert-same S.processes p new) in
    let made : new_held (recently_made U p 0) ≡ Some d =
    ap (λ k. new_held_of (object_of p k) (get U.opens (object_of p k))) objects ∙ ap (new_held_of o) (get-insert-same S.opens o (child_kind p own)) in
    ap row_in (get-insert-same (insert S.tables c table) p (insert table fd d)) ∙ row_inserted table fd d
    ∙ (λ i. with_held (sym (ap row_in there) i) fd (sym made i))

fork_reported : (left : ℕ) → IsReported (call.ProcFork left)
fork_reported left constants S v who table there seen =
    subst (λ u. LeavesRow S who.pid (call.ProcFork left) (fork_at left who.pid who.tid (u.process who.pid) table (lowest_free table))) (sym seen)
    (fork_holds left who.pid who.tid (get S.processes who.pid) table (lowest_free table) (LeavesRow S who.pid (call.ProcFork left))
    (λ errno here other. refused_reported S who.pid (call.ProcFork left) errno (error_not_success errno other))
    (λ fd own free has can. forked_reported S who.pid who.tid table left fd own there has can))

-- proc_raise: where the process ends it holds nothing
kind_reported : (S : State) (p : ℕ) (number : ℕ) (signal : Signal) → signal_of number ≡ Some signal → (kind : Raised)
    → raised_by signal ≡ kind → LeavesRow S p (call.ProcRaise number) (raise_as kind p signal)
kind_reported S p number signal is stops by = refused_reported S p (call.ProcRaise number) Notsup (λ e. cc)
kind_reported S p number signal is passes by =
    sym (ap (λ o. raised_row o (row_of S p)) is ∙ ap (λ kind. raised_as kind (row_of S p)) by)
kind_reported S p number signal is ends by =
    row_dropped S.tables p ∙ sym (ap (λ o. raised_row o (row_of S p)) is ∙ ap (λ kind. raised_as kind (row_of S p)) by)

signal_reported : (S : State) (p : ℕ) (number : ℕ) (o : Option Signal) → signal_of number ≡ o
    → LeavesRow S p (call.ProcRaise number) (raise_of p o)
signal_reported S p number None is = refused_reported S p (call.ProcRaise number) Inval (λ e. cc)
signal_reported S p number (Some signal) is = kind_reported S p number signal is (raised_by signal) refl

raise_reported : (number : ℕ) → IsReported (call.ProcRaise number)
raise_reported number constants S v who table there seen = signal_reported S who.pid number (signal_of number) refl

-- ---- all of them

pub reported : (call : Call) → IsReported call
reported (call.ClockResGet clock) = λ constants S v who table there seen.
    kept S who.pid (call.ClockResGet clock) (replies (success 1000 0)) (λ after row reply. refl) refl
reported (call.ClockTimeGet clock precision) = λ constants S v who table there seen.
    kept S who.pid (call.ClockTimeGet clock precision) (replies (success (time_of constants clock v.clock) 0)) (λ after row reply. refl) refl
reported (call.CondvarSignal condvar word scope n) = signal_wakes_reported condvar word scope n
reported (call.FdClose fd) = fd_close_reported fd
reported (call.FdCreate1 kind) = unbuilt_reported (call.FdCreate1 kind) (λ constants v who table. refl)
reported (call.FdCreate2 kind) = λ constants S v who table there seen.
    subst (λ u. LeavesRow S who.pid (call.FdCreate2 kind) (create (made_of kind) who.pid who.tid (u.process who.pid) table)) (sym seen)
    (pair_reported kind S who.pid who.tid table there)
reported (call.FdDatasync fd) = nothing_reported (call.FdDatasync fd) (λ after row reply. refl) (λ constants v who table. refl)
reported (call.FdDup fd) = fd_dup_reported fd
reported (call.FdPread fd length offset) = file_reported (call.FdPread fd length offset) fd (λ after row reply. refl) refl
reported (call.FdPwrite fd bytes offset) = file_reported (call.FdPwrite fd bytes offset) fd (λ after row reply. refl) refl
reported (call.FdRead fd length) = moved_reported (call.FdRead fd length) (reading length) _ (read_opens_well length) (λ after row reply. refl) refl
reported (call.FdReplace from to) = fd_replace_reported from to
reported (call.FdSeek fd offset whence) =
    moved_reported (call.FdSeek fd offset whence) (seeking offset whence) _ (seek_opens_well offset whence) (λ after row reply. refl) refl
reported (call.FdStatGet fd) = fd_stat_get_reported fd
reported (call.FdStatPut fd stat flags) = fd_stat_put_reported fd stat flags
reported (call.FdSync fd) = nothing_reported (call.FdSync fd) (λ after row reply. refl) (λ constants v who table. refl)
reported (call.FdWrite fd bytes) = moved_reported (call.FdWrite fd bytes) (writing bytes) _ (write_opens_well bytes) (λ after row reply. refl) refl
reported (call.FileAdvise fd offset length advice) = nothing_reported (call.FileAdvise fd offset length advice) (λ after row reply. refl) (λ constants v who table. refl)
reported (call.FileAllocate fd offset length) = file_reported (call.FileAllocate fd offset length) fd (λ after row reply. refl) refl
reported (call.FileCreate fd path kind) =
    named_reported (call.FileCreate fd path kind) (λ after row reply. refl) (λ constants v who table. (1, v.process who.pid, _, refl))
reported (call.FileLink lookup path new_fd new_path) =
    named_reported (call.FileLink lookup path new_fd new_path) (λ after row reply. refl) (λ constants v who table. (0, v.process who.pid, _, refl))
reported (call.FileOpen lookup path oflags stat) = file_open_reported lookup path oflags stat
reported (call.FileReaddir fd length cookie) = file_reported (call.FileReaddir fd length cookie) fd (λ after row reply. refl) refl
reported (call.FileReadlink fd path length) = file_reported (call.FileReadlink fd path length) fd (λ after row reply. refl) refl
reported (call.FileRename fd path new_fd new_path) =
    named_reported (call.FileRename fd path new_fd new_path) (λ after row reply. refl) (λ constants v who table. (0, v.process who.pid, _, refl))
reported (call.FileStatFget fd) = file_reported (call.FileStatFget fd) fd (λ after row reply. refl) refl
reported (call.FileStatFput fd stat flags) = file_reported (call.FileStatFput fd stat flags) fd (λ after row reply. refl) refl
reported (call.FileStatGet lookup path) = file_reported (call.FileStatGet lookup path) lookup.fd (λ after row reply. refl) refl
reported (call.FileStatPut lookup path stat flags) = file_reported (call.FileStatPut lookup path stat flags) lookup.fd (λ after row reply. refl) refl
reported (call.FileSymlink text fd path) =
    named_reported (call.FileSymlink text fd path) (λ after row reply. refl)
    (λ constants v who table. ((making_unless (text_error text) (making (Link text) path)).new_nodes, v.process who.pid, _, refl))
reported (call.FileUnlink fd path flags) =
    named_reported (call.FileUnlink fd path flags) (λ after row reply. refl) (λ constants v who table. (0, v.process who.pid, _, refl))
reported (call.LockUnlock lock word scope) = unlock_reported lock word scope
reported (call.MemMap place length prot flags fd offset) = mem_map_reported place length prot flags fd offset
reported (call.Memory number errno) = λ constants S v who table there seen. decided_reported (call.Memory number errno) errno S who.pid (λ after row reply. refl)
reported (call.Poll subscriptions) = poll_reported subscriptions
reported (call.ProcExec fd bytes fds) = exec_reported fd bytes fds
reported (call.ProcExit code) = proc_exit_reported code
reported (call.ProcFork left) = fork_reported left
reported (call.ProcRaise signal) = raise_reported signal
reported (call.RandomGet length) = random_reported length
reported (call.SockRecv fd length fds flags) = λ constants S v who table there seen.
    subst (λ u. LeavesRow S who.pid (call.SockRecv fd length fds flags) (at_descriptor (λ o. receive_open who.pid table u length fds flags) u (get table fd)))
    (sym seen)
    (receive_reported S who.pid table fd length fds flags there (get table fd) refl)
reported (call.SockSend fd bytes fds flags) = λ constants S v who table there seen.
    kept S who.pid (call.SockSend fd bytes fds flags) (at_descriptor (λ o. send_open v bytes (picked table fds)) v (get table fd)) (λ after row reply. refl)
    (apart_tables (at_descriptor (λ o. send_open v bytes (picked table fds)) v (get table fd)).updates S (send_apart bytes (picked table fds) v (get table fd)))
reported (call.SockShutdown fd how) =
    moved_reported (call.SockShutdown fd how) (shutting how) (base_row fd SOCK_SHUTDOWN) (shut_opens_well how) (λ after row reply. refl) refl
reported (call.ThreadCreate attributes) = create_reported attributes
reported (call.ThreadExit lock word scope) = exit_reported lock word scope
reported call.ThreadYield = nothing_reported call.ThreadYield (λ after row reply. refl) (λ constants v who table. refl)
reported (call.Refused number errno) = λ constants S v who table there seen. decided_reported (call.Refused number errno) errno S who.pid (λ after row reply. refl)
reported (call.Unknown number) = λ constants S v who table there seen. decided_reported (call.Unknown number) Nosys S who.pid (λ after row reply. refl)

-- ---- refusals for lack of a descriptor or of rights

pub refusal_reported : (S : State) (p : ℕ) (call : Call) (t : Option Table) (reply : Reply) → refusal_of call t ≡ Some reply
    → LeavesRow S p call (replies reply)
refusal_reported S p call t reply is =
    sym (by_error reply.errno (granted_row (after_of S S p) (row_of S p) call reply) (row_of S p) (refusal_is_other Success (λ e. cc) (λ e. cc) call t reply is))
