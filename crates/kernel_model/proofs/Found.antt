-- In a valid state BADF comes only where a descriptor is absent.
--     found      each call, where the descriptors that it names are there with the rights that it needs
--     absent_among      a descriptor among these that is absent
--     badf_is_absent      the law
use Rattle.std.proofs.Common.{◌≡◌, ◌≢◌, ◌⊎◌, inl, inr, ℕ, ◌||◌, not, Bool, true, false, cond, List, [], ◌∷◌, Option, Some, None, is_some, refl, sym, ap, ◌∙◌}
use Rattle.std.specs.FinMap.{get}
use Rattle.abi_base.specs.declared.errno.Errno.{Errno}
use Rattle.abi_base.specs.declared.errno.Errno.TheVariants.{Badf, Nomem, Notcapable}
use Rattle.abi_types.specs.declared.call.Call.{Call}
use Rattle.abi_types.specs.declared.call.Call.TheVariants as call
use Rattle.abi_types.specs.declared.constants.Constants.{Constants}
use Rattle.abi_types.specs.declared.descriptor.Denial.{Denial}
use Rattle.abi_types.specs.declared.reply.Answer.{Answer}
use Rattle.abi_types.specs.declared.reply.Answer.TheVariants as answer
use Rattle.abi_types.specs.declared.reply.Reply.{Reply}
use Rattle.abi_types.specs.declared.who.Who.{Who}
use Rattle.kernel_model.specs.CallBounds.{BadfIsAbsent, IsAbsentIn, IsBadfBefore}
use Rattle.kernel_model.specs.Calls.{meaning_of, named, need, refusal, refusal_of}
use Rattle.kernel_model.specs.Families.DescriptorCalls.{lowest_free}
use Rattle.kernel_model.specs.Families.ProcessCalls.{signal_of}
use Rattle.kernel_model.specs.Families.SocketCalls.{made_of}
use Rattle.kernel_model.specs.Laws.{HasAll}
use Rattle.kernel_model.specs.Need.{denied_by, first_lack, some_absent}
use Rattle.kernel_model.specs.Outcome.{Outcome, WhereReply}
use Rattle.kernel_model.specs.Proper.{IsIn}
use Rattle.kernel_model.specs.Reply.{denied, refused}
use Rattle.kernel_model.specs.State.{State, Table}
use Rattle.kernel_model.specs.Step.{outcome, step_answer, tick}
use Rattle.kernel_model.specs.View.{whole}
use Rattle.kernel_model.specs.Valid.{IsNearlyValid}
use Rattle.kernel_model.proofs.FoundFiles.{fd_close_found, fd_dup_found, fd_pread_found, fd_pwrite_found, fd_replace_found, fd_stat_get_found, fd_stat_put_found, file_allocate_found, file_readdir_found, file_readlink_found, file_stat_fget_found, file_stat_fput_found, file_stat_get_found, file_stat_put_found}
use Rattle.kernel_model.proofs.FoundNames.{file_create_found, file_link_found, file_open_found, file_rename_found, file_symlink_found, file_unlink_found}
use Rattle.kernel_model.proofs.FoundOpens.{NeverBadf, OnlyWhere}
use Rattle.kernel_model.proofs.LockCalls.{signal_holds, unlock_holds}
use Rattle.kernel_model.proofs.Polls.{poll_holds}
use Rattle.kernel_model.proofs.FoundSockets.{created_found, sock_recv_found, sock_send_found, sock_shutdown_found}
use Rattle.kernel_model.proofs.FoundStreams.{fd_read_found, fd_seek_found, fd_write_found, mem_map_found}
use Rattle.kernel_model.proofs.ClockCalls.{drawn_holds}
use Rattle.kernel_model.proofs.Lacks.{all_present}
use Rattle.kernel_model.proofs.Births.{fork_errors, fork_holds}
use Rattle.kernel_model.proofs.FoundProcesses.{proc_exec_found}
use Rattle.kernel_model.proofs.Lists.{in_all, in_more}
use Rattle.kernel_model.proofs.ProcessCalls.{raise_errors, raise_holds}
use Rattle.kernel_model.proofs.Outcomes.{outcome_by_cases}
use Rattle.kernel_model.proofs.PairCalls.{create_holds}
use Rattle.kernel_model.proofs.Reaches.{all_met}
use Rattle.kernel_model.proofs.Refusals.{same_reply, where_reply}
use Rattle.kernel_model.proofs.Tests.{none_is_no, not_true, same_some}
use Rattle.kernel_model.proofs.ThreadCalls.{left_holds, made_holds}

-- ---- each call

module _ (S : State) (nearly : IsNearlyValid S) where
  -- each call; the last line is of those whose errors do not depend on what is there
  found : (call : Call) → NeverBadf (IsBadfBefore call) S (meaning_of call)
  found (call.FdClose fd) = fd_close_found S nearly fd
  found (call.FdDup fd) = fd_dup_found S nearly fd
  found (call.FdPread fd length offset) = fd_pread_found S nearly fd length offset
  found (call.FdPwrite fd bytes offset) = fd_pwrite_found S nearly fd bytes offset
  found (call.FdRead fd length) = fd_read_found S nearly fd length
  found (call.FdReplace from to) = fd_replace_found S nearly from to
  found (call.FdSeek fd offset whence) = fd_seek_found S nearly fd offset whence
  found (call.FdStatGet fd) = fd_stat_get_found S nearly fd
  found (call.FdStatPut fd stat flags) = fd_stat_put_found S nearly fd stat flags
  found (call.FdWrite fd bytes) = fd_write_found S nearly fd bytes
  found (call.FileAllocate fd offset length) = file_allocate_found S nearly fd offset length
  found (call.FileCreate fd path kind) = file_create_found S nearly fd path
  found (call.FileLink lookup path new_fd new_path) = file_link_found S nearly lookup path new_fd new_path
  found (call.FileOpen lookup path oflags stat) = file_open_found S nearly lookup path oflags stat
  found (call.FileReaddir fd length cookie) = file_readdir_found S nearly fd length cookie
  found (call.FileReadlink fd path length) = file_readlink_found S nearly fd path length
  found (call.FileRename fd path new_fd new_path) = file_rename_found S nearly fd path new_fd new_path
  found (call.FileStatFget fd) = file_stat_fget_found S nearly fd
  found (call.FileStatFput fd stat flags) = file_stat_fput_found S nearly fd stat flags
  found (call.FileStatGet lookup path) = file_stat_get_found S nearly lookup path
  found (call.FileStatPut lookup path stat flags) = file_stat_put_found S nearly lookup path stat flags
  found (call.FileSymlink text fd path) = file_symlink_found S nearly text fd path
  found (call.FileUnlink fd path flags) = file_unlink_found S nearly fd path flags
  found (call.MemMap place length prot flags fd offset) = mem_map_found S nearly place length prot flags fd offset
  found (call.Memory number errno) = λ constants who table own all met e. e
  found (call.Poll subscriptions) = λ constants who table own all met.
      poll_holds (OnlyWhere (IsBadfBefore (call.Poll subscriptions)))
      (record { told = λ event more e. cc; tells = λ userdata what errno writes e. cc; waits = λ writes awake. tt; sleeps = λ p condvar lock x. tt })
      subscriptions constants (whole (tick S)) who table
  found (call.CondvarSignal condvar word scope n) = λ constants who table own all met.
      signal_holds (OnlyWhere (IsBadfBefore (call.CondvarSignal condvar word scope n))) who.pid condvar n (get S.processes who.pid) (λ _ e. cc) (λ x there e. cc)
  found (call.LockUnlock lock word scope) = λ constants who table own all met.
      unlock_holds (OnlyWhere (IsBadfBefore (call.LockUnlock lock word scope))) who.pid who.tid lock word (get S.processes who.pid) (λ e. cc)
      (λ x new there e. cc)
  found (call.RandomGet length) = λ constants who table own all met.
      drawn_holds (OnlyWhere (IsBadfBefore (call.RandomGet length))) constants who.pid (get S.processes who.pid) length (λ e. cc) (λ x _ e. cc)
  found (call.Refused number errno) = λ constants who table own all met e. e
  found (call.ThreadCreate attributes) = λ constants who table own all met.
      made_holds (OnlyWhere (IsBadfBefore (call.ThreadCreate attributes))) who.pid who.tid (get S.processes who.pid) (λ e. cc) (λ x _ _ e. cc)
  found (call.ThreadExit lock word scope) = λ constants who table own all met.
      left_holds (OnlyWhere (IsBadfBefore (call.ThreadExit lock word scope))) who.pid who.tid lock word (get S.processes who.pid) (λ e. cc)
      (λ new x _ _ _ e. cc) (λ new x _ _ _ e. cc)
  found (call.FdCreate2 kind) = λ constants who table own all met.
      create_holds who.pid who.tid (get S.processes who.pid) table (OnlyWhere (IsBadfBefore (call.FdCreate2 kind)))
      (created_found (IsBadfBefore (call.FdCreate2 kind)))
      (made_of kind) (λ made is first second x one two there some can e. cc)
  found (call.SockRecv fd length fds flags) = sock_recv_found S nearly fd length fds flags
  found (call.SockSend fd bytes fds flags) = sock_send_found S nearly fd bytes fds
  found (call.SockShutdown fd how) = sock_shutdown_found S nearly fd how
  found (call.ProcExec fd bytes fds) = proc_exec_found S nearly fd fds
  found (call.ProcFork left) = λ constants who table own all met.
      fork_holds left who.pid who.tid (get S.processes who.pid) table (lowest_free table) (OnlyWhere (IsBadfBefore (call.ProcFork left)))
      (λ errno here other. forked_found errno here) (λ fd x free there can e. cc) where
        forked_found : (errno : Errno) → IsIn errno fork_errors → errno ≡ Badf → ⊥
        forked_found errno here = in_all (λ x. x ≡ Badf → ⊥) errno fork_errors ((λ e. cc), ((λ e. cc), tt)) here
  found (call.ProcRaise signal) = λ constants who table own all met.
      raise_holds (OnlyWhere (IsBadfBefore (call.ProcRaise signal))) who.pid (λ errno here. raised_found errno here) (λ e. cc)
      (λ found e. cc) (signal_of signal) where
        raised_found : (errno : Errno) → IsIn errno raise_errors → errno ≡ Badf → ⊥
        raised_found errno here = in_all (λ x. x ≡ Badf → ⊥) errno raise_errors ((λ e. cc), ((λ e. cc), tt)) here
  found _ = λ constants who table own all met e. cc

-- ---- refusals

denied_other : Notcapable ≢ Badf
denied_other e = cc

nomem_other : Nomem ≢ Badf
nomem_other e = cc

-- a descriptor among these that is absent
abbrev IsOneAbsent : Table → List ℕ → Type 0
IsOneAbsent table fds = (fd : ℕ) × IsIn fd fds × (get table fd ≡ None)

absent_later : (table : Table) (first : ℕ) (fds : List ℕ) → IsOneAbsent table fds → IsOneAbsent table (first ∷ fds)
absent_later table first fds one = (one.0, in_more one.0 first fds one.1, one.2)

absent_among : (table : Table) (fds : List ℕ) → some_absent table fds ≡ true → IsOneAbsent table fds
absent_among table [] absent = absurd (not_true absent)
absent_among table (fd ∷ fds) absent =
    elim (get table fd) as (λ o. get table fd ≡ o → (not (is_some o) || some_absent table fds) ≡ true → IsOneAbsent table (fd ∷ fds)) [
      | None ↦ λ none _. (fd, ([], fds, refl), none)
      | Some d ↦ λ there later. absent_later table fd fds (absent_among table fds later)
    ] refl absent

-- a refusal by BADF is for a descriptor that is absent
refused_absent : (table : Table) (call : Call) (absent : Bool) (lack : Option Denial) (reply : Reply) → some_absent table (named call) ≡ absent
    → cond absent (Some (refused Badf)) (denied_by lack) ≡ Some reply → reply.errno ≡ Badf → IsOneAbsent table (named call)
refused_absent table call true lack reply absent is badf = absent_among table (named call) absent
refused_absent table call false None reply absent is badf = absurd (none_is_no reply is)
refused_absent table call false (Some denial) reply absent is badf =
    let same : denied denial ≡ reply = same_some (denied denial) reply is in
    absurd (denied_other (ap (λ (r : Reply). r.errno) same ∙ badf))

refusal_absent : (S : State) (who : Who) (call : Call) (t : Option Table) (reply : Reply) → get S.tables who.pid ≡ t → refusal_of call t ≡ Some reply
    → reply.errno ≡ Badf → IsAbsentIn S who call
refusal_absent S who call None reply own is badf = inl own
refusal_absent S who call (Some table) reply own is badf =
    let one = refused_absent table call (some_absent table (named call)) (first_lack table (need call)) reply refl is badf in
    inr (table, one.0, own, one.1, one.2)

-- where there is no refusal each descriptor that the call names is there
all_there : (table : Table) (call : Call) → refusal table call ≡ None → HasAll table (named call)
all_there table call none =
    all_present table (named call)
    (elim (some_absent table (named call)) as (λ b. cond b (Some (refused Badf)) (denied_by (first_lack table (need call))) ≡ None → b ≡ false) [
      | true ↦ λ is. absurd (none_is_no (refused Badf) (sym is))
      | false ↦ λ _. refl
    ] none)

-- ---- the law

-- what holds of the reply where it is BADF
abbrev Absent : State → Who → Call → Outcome → Type 0
Absent S who call o = OnlyWhere (IsAbsentIn S who call ⊎ IsBadfBefore call) o

weaker : (Q R : Type 0) (given : Answer) → (Q → R) → WhereReply (λ (reply : Reply). reply.errno ≡ Badf → Q) given
    → WhereReply (λ (reply : Reply). reply.errno ≡ Badf → R) given
weaker Q R (answer.Parked writes) more holds = tt
weaker Q R (answer.Reply reply) more holds = λ badf. more (holds badf)

outcome_absent : (constants : Constants) (S : State) (who : Who) (call : Call) → IsNearlyValid S → Absent S who call (outcome constants S who call)
outcome_absent constants S who call nearly =
    outcome_by_cases (Absent S who call) constants S who call
    (λ reply refuses badf. inl (refusal_absent S who call (get S.tables who.pid) reply refl refuses badf))
    (λ table own unrefused.
    weaker (IsBadfBefore call) (IsAbsentIn S who call ⊎ IsBadfBefore call) _ inr
    (found S nearly call constants who table own (all_there table call unrefused) (all_met call table unrefused)))

pub badf_is_absent : BadfIsAbsent
badf_is_absent constants S who call reply T valid (inl done) badf =
    where_reply (λ r. r.errno ≡ Badf → IsAbsentIn S who call ⊎ IsBadfBefore call) (step_answer constants S who call) reply
    (outcome_absent constants S who call valid.nearly) (sym done.0) badf
badf_is_absent constants S who call reply T valid (inr lacking) badf =
    absurd (nomem_other (sym (ap (λ (r : Reply). r.errno) (same_reply reply (refused Nomem) lacking.1)) ∙ badf))
