use Rattle.std.proofs.Common.{◌≡◌, ℕ, Bool, List, Some, None, Result, Ok, refl, sym, ap, subst, ◌∙◌}
use Rattle.std.specs.FinMap.{get}
use Rattle.std.specs.declared.alloc.AllocError.{AllocError}
use Rattle.abi_types.specs.Families.{HasFile, IsOf, call_of_change, call_of_entry, call_of_file, call_of_offset, call_of_open, call_of_socket}
use Rattle.abi_types.specs.declared.call.Call.{Call}
use Rattle.abi_types.specs.declared.call.Call.TheVariants as call
use Rattle.abi_types.specs.declared.reply.Answer.{Answer}
use Rattle.abi_types.specs.declared.reply.Answer.TheVariants as answer
use Rattle.abi_types.specs.declared.reply.Reply.{Reply}
use Rattle.kernel_model.specs.Calls.{meaning_of, named, refusal, takes_memory}
use Rattle.kernel_model.specs.Families.DescriptorCalls.{stat_get}
use Rattle.kernel_model.specs.Laws.{HasAll}
use Rattle.kernel_model.specs.Outcome.{Outcome, replies}
use Rattle.kernel_model.specs.Release.{release}
use Rattle.kernel_model.specs.State.{State, Table, put_all}
use Rattle.kernel_model.specs.Step.{outcome_by}
use Rattle.kernel_model.specs.Valid.{IsValid}
use Rattle.kernel_model.specs.View.{whole}
use Rattle.kernel_model.proofs.Valids.{release_valid, same_value}
use Rattle.poll_set.proofs.PollReads.{poll_by_stage}
use Rattle.kernel_model.specs.Done.{IsDone}
use Rattle.kernel_core.proofs.Acts.{act_allowed, allowed_by, refused_by, stat_get_sets_nothing}
use Rattle.kernel_invariant.proofs.Channels.{socket_does}
use Rattle.kernel_core.proofs.Done.{done_as, replied}
use Rattle.kernel_core.proofs.EntryCalls.{entries_does, first_is_named}
use Rattle.kernel_core.proofs.Families.{all_named, answered_does, change_does, change_replaces, entries_on, file_on, offset_on, unbuilt_does, zeros_does}
use Rattle.kernel_core.proofs.FileCalls.{file_does}
use Rattle.kernel_core.proofs.OffsetCalls.{offset_does}
use Rattle.kernel_core.proofs.OpenCalls.{open_does}
use Rattle.kernel_core.proofs.kernel.Kernel.dispatch.Goals as goal
use Rattle.kernel_core.proofs.kernel.Kernel.dispatch.Goals.{After-family}

-- the process has a table, by which the call isn't refused
found : (c : After-family) → (table : Table) × (get c.args.self.now.tables c.args.who.now.pid ≡ Some table) × (refusal table c.args.call.now ≡ None)
found c =
    allowed_by c.args.call.now (get c.args.self.now.tables c.args.who.now.pid)
    (sym c.refusal_of.ensures.refusal ∙ c.in_default.is)

valid : (c : After-family) → IsValid c.args.self.now
valid c = c.refusal_of.ensures.valid

-- what is said of the call
abbrev Done : After-family → State → Result Answer AllocError → Type 0
Done c T r =
    IsDone (takes_memory c.args.call.now) (outcome_by c.args.constants.now (whole c.args.self.now) c.args.who.now c.args.call.now) c.args.self.now T r

pub returns-in-Some : goal.returns-in-Some
returns-in-Some c =
    let S = c.args.self.now in
    let reply = c.in-Some.reply in
    replied (outcome_by c.args.constants.now (whole S) c.args.who.now c.args.call.now) S reply c.refusal_of.ensures.valid
    (refused_by c.args.constants.now S c.args.who.now c.args.call.now reply (sym c.refusal_of.ensures.refusal ∙ c.in-Some.is))

-- a call that isn't refused, and comes to this, is done as its part of the kernel does it
done : (c : After-family) (T : State) (r : Result Answer AllocError) (called : Call) (o : Outcome) → c.args.call.now ≡ called
    → (meaning_of called).effect c.args.constants.now (whole c.args.self.now) c.args.who.now (found c).0 ≡ o
    → IsDone (takes_memory called) o c.args.self.now T r → Done c T r
done c T r called o same does did =
    let constants = c.args.constants.now in
    let S = c.args.self.now in
    let who = c.args.who.now in
    let call = c.args.call.now in
    let is : outcome_by constants (whole S) who call ≡ o =
    act_allowed constants S who call (found c).0 (found c).1 (found c).2
    ∙ ap (λ (it : Call). (meaning_of it).effect constants (whole S) who (found c).0) same ∙ does in
    subst (λ (takes : Bool). IsDone takes (outcome_by constants (whole S) who call) S T r) (sym (ap takes_memory same))
    (done_as (takes_memory called) o (outcome_by constants (whole S) who call) S T r (sym is) did)

-- where it comes to a reply alone nothing changes
answers : (c : After-family) (called : Call) (reply : Reply) → c.args.call.now ≡ called
    → (meaning_of called).effect c.args.constants.now (whole c.args.self.now) c.args.who.now (found c).0 ≡ replies reply
    → Done c c.args.self.now (Ok (answer.Reply reply))
answers c called reply same does =
    done c c.args.self.now (Ok (answer.Reply reply)) called (replies reply) same does (replied (replies reply) c.args.self.now reply (valid c) refl)

-- each descriptor that a call names is there that isn't refused
present : (c : After-family) (called : Call) (table : Table) → c.args.call.now ≡ called
    → get c.args.self.now.tables c.args.who.now.pid ≡ Some table → HasAll table (named called)
present c called table same here =
    subst (λ (it : Call). HasAll table (named it)) same
    (subst (λ (t : Table). HasAll t (named c.args.call.now)) (same_value _ _ _ (found c).1 here)
    (all_named (found c).0 c.args.call.now (found c).2))

-- ---- the process's descriptors

pub change_descriptors-requires-clause-replaced : goal.change_descriptors-requires-clause-replaced
unfolding IsOf
change_descriptors-requires-clause-replaced c = λ table here.
    let change = c.in-Descriptors.change in
    change_replaces table change
    (present (goal.at.change_descriptors-requires-clause-replaced c).After-family (call_of_change change) table
    (subst (IsOf c.args.call.now) c.in-Descriptors.is c.family.ensures) here)

pub returns-in-Descriptors : goal.returns-in-Descriptors
unfolding IsOf
returns-in-Descriptors c =
    let a = (goal.at.returns-in-Descriptors c).After-family in
    let change = c.in-Descriptors.change in
    done a c.change_descriptors.new.self c.change_descriptors.result (call_of_change change) _
    (subst (IsOf c.args.call.now) c.in-Descriptors.is c.family.ensures)
    (change_does c.args.constants.now c.args.self.now c.args.who.now (found a).0 change) (c.change_descriptors.ensures (found a).0 (found a).1)

pub returns-in-DescriptorState : goal.returns-in-DescriptorState
unfolding IsOf
returns-in-DescriptorState c =
    let a = (goal.at.returns-in-DescriptorState c).After-family in
    let S = c.args.self.now in
    let fd = c.in-DescriptorState.fd in
    let held = get (found a).0 fd in
    done a S (Ok (answer.Reply c.fd_stat_get.result)) (call.FdStatGet fd) (stat_get (whole S) held)
    (subst (IsOf c.args.call.now) c.in-DescriptorState.is c.family.ensures) refl
    (c.fd_stat_get.ensures (found a).0 (found a).1, sym (ap (λ us. release (put_all us S)) (stat_get_sets_nothing (whole S) held) ∙ release_valid S (valid a)))

-- ---- files and directories

pub file_call-requires-clause-on : goal.file_call-requires-clause-on
unfolding IsOf
file_call-requires-clause-on c =
    let view = c.in-File.view in
    let of : (c.args.call.now ≡ call_of_file view) × HasFile view = subst (IsOf c.args.call.now) c.in-File.is c.family.ensures in
    file_on view of.1 ∙ ap Some (sym c.fd.ensures)

pub returns-in-File : goal.returns-in-File
unfolding IsOf
returns-in-File c =
    let a = (goal.at.returns-in-File c).After-family in
    let view = c.in-File.view in
    let of : (c.args.call.now ≡ call_of_file view) × HasFile view = subst (IsOf c.args.call.now) c.in-File.is c.family.ensures in
    done a c.file_call.new.self c.file_call.result (call_of_file view) _ of.0
    (file_does c.args.constants.now c.args.self.now c.args.who.now (found a).0 (call_of_file view) c.fd.result (file_on view of.1 ∙ ap Some (sym c.fd.ensures)))
    (c.file_call.ensures (found a).0 (found a).1)

pub returns-in-Offset : goal.returns-in-Offset
unfolding IsOf
returns-in-Offset c =
    let a = (goal.at.returns-in-Offset c).After-family in
    let view = c.in-Offset.view in
    done a c.offset_call.new.self c.offset_call.result (call_of_offset view) _
    (subst (IsOf c.args.call.now) c.in-Offset.is c.family.ensures)
    (offset_does c.args.constants.now c.args.self.now c.args.who.now (found a).0 (call_of_offset view) c.fd-in-Offset.result (offset_on view ∙ ap Some (sym c.fd-in-Offset.ensures)))
    (c.offset_call.ensures (found a).0 (found a).1)

-- ---- entries of directories

pub entry_call-requires-clause-named : goal.entry_call-requires-clause-named
unfolding IsOf
entry_call-requires-clause-named c = λ table here.
    let view = c.in-Entries.view in
    let fds = c.fds-fd.result in
    first_is_named table (call_of_entry view) fds.0 fds.1 (entries_on view ∙ ap Some (sym c.fds-fd.ensures))
    (present (goal.at.entry_call-requires-clause-named c).After-family (call_of_entry view) table
    (subst (IsOf c.args.call.now) c.in-Entries.is c.family.ensures) here)

pub returns-in-Entries : goal.returns-in-Entries
unfolding IsOf
returns-in-Entries c =
    let a = (goal.at.returns-in-Entries c).After-family in
    let view = c.in-Entries.view in
    let fds = c.fds-fd.result in
    done a c.entry_call.new.self c.entry_call.result (call_of_entry view) _
    (subst (IsOf c.args.call.now) c.in-Entries.is c.family.ensures)
    (entries_does c.args.constants.now c.args.self.now c.args.who.now (found a).0 (call_of_entry view) fds.0 fds.1 (entries_on view ∙ ap Some (sym c.fds-fd.ensures)))
    (c.entry_call.ensures (found a).0 (found a).1)

-- ---- opens

pub returns-in-Open : goal.returns-in-Open
unfolding IsOf
returns-in-Open c =
    let a = (goal.at.returns-in-Open c).After-family in
    let view = c.in-Open.view in
    done a c.file_open.new.self c.file_open.result (call_of_open view) _
    (subst (IsOf c.args.call.now) c.in-Open.is c.family.ensures)
    (open_does c.args.constants.now c.args.self.now c.args.who.now (found a).0 view.lookup view.path.now view.oflags view.stat)
    (c.file_open.ensures (found a).0 (found a).1)

-- ---- ends of channels, and sockets

pub fd_create2-requires-clause-valid : goal.fd_create2-requires-clause-valid
fd_create2-requires-clause-valid c = valid (goal.at.fd_create2-requires-clause-valid c).After-family

pub returns-in-Ends : goal.returns-in-Ends
unfolding IsOf
returns-in-Ends c =
    let a = (goal.at.returns-in-Ends c).After-family in
    let kind = c.in-Ends.kind in
    done a c.fd_create2.new.self c.fd_create2.result (call.FdCreate2 kind) _
    (subst (IsOf c.args.call.now) c.in-Ends.is c.family.ensures) refl (c.fd_create2.ensures (found a).0 (found a).1)

pub returns-in-Socket : goal.returns-in-Socket
unfolding IsOf
returns-in-Socket c =
    let a = (goal.at.returns-in-Socket c).After-family in
    let view = c.in-Socket.view in
    done a c.socket_call.new.self c.socket_call.result (call_of_socket view) _
    (subst (IsOf c.args.call.now) c.in-Socket.is c.family.ensures)
    (socket_does c.args.constants.now c.args.self.now c.args.who.now (found a).0 view) (c.socket_call.ensures (found a).0 (found a).1)

-- ---- what the process has of its own

pub returns-in-Random : goal.returns-in-Random
unfolding IsOf
returns-in-Random c =
    let a = (goal.at.returns-in-Random c).After-family in
    let length = c.in-Random.length in
    done a c.random_get.new.self c.random_get.result (call.RandomGet length) _
    (subst (IsOf c.args.call.now) c.in-Random.is c.family.ensures) refl c.random_get.ensures

pub returns-in-NewThread : goal.returns-in-NewThread
unfolding IsOf
returns-in-NewThread c =
    let a = (goal.at.returns-in-NewThread c).After-family in
    let attributes = c.in-NewThread.field-0 in
    done a c.thread_create.new.self c.thread_create.result (call.ThreadCreate attributes) _
    (subst (IsOf c.args.call.now) c.in-NewThread.is c.family.ensures) refl c.thread_create.ensures

pub thread_exit-requires-clause-valid : goal.thread_exit-requires-clause-valid
thread_exit-requires-clause-valid c = valid (goal.at.thread_exit-requires-clause-valid c).After-family

pub returns-in-ThreadExit : goal.returns-in-ThreadExit
unfolding IsOf
returns-in-ThreadExit c =
    let a = (goal.at.returns-in-ThreadExit c).After-family in
    let e = c.in-ThreadExit in
    done a c.thread_exit.new.self (Ok (answer.Reply c.thread_exit.result)) (call.ThreadExit e.lock e.word e.scope) _
    (subst (IsOf c.args.call.now) e.is c.family.ensures) refl c.thread_exit.ensures

pub returns-in-Unlock : goal.returns-in-Unlock
unfolding IsOf
returns-in-Unlock c =
    let a = (goal.at.returns-in-Unlock c).After-family in
    let u = c.in-Unlock in
    done a c.lock_unlock.new.self (Ok c.lock_unlock.result) (call.LockUnlock u.lock u.word u.scope) _
    (subst (IsOf c.args.call.now) u.is c.family.ensures) refl c.lock_unlock.ensures

pub returns-in-Signal : goal.returns-in-Signal
unfolding IsOf
returns-in-Signal c =
    let a = (goal.at.returns-in-Signal c).After-family in
    let s = c.in-Signal in
    done a c.condvar_signal.new.self (Ok c.condvar_signal.result) (call.CondvarSignal s.condvar s.word s.scope s.n) _
    (subst (IsOf c.args.call.now) s.is c.family.ensures) refl c.condvar_signal.ensures

-- ---- calls that change nothing, and the end of the process

pub returns-in-ClockResolution : goal.returns-in-ClockResolution
unfolding IsOf
returns-in-ClockResolution c =
    answers (goal.at.returns-in-ClockResolution c).After-family (call.ClockResGet c.in-ClockResolution.clock) c.success-in-ClockResolution.result
    (subst (IsOf c.args.call.now) c.in-ClockResolution.is c.family.ensures)
    (ap replies (sym c.success-in-ClockResolution.ensures))

pub returns-in-ClockTime : goal.returns-in-ClockTime
unfolding IsOf
returns-in-ClockTime c =
    let clock = c.in-ClockTime.clock in
    let precision = c.in-ClockTime.precision in
    answers (goal.at.returns-in-ClockTime c).After-family (call.ClockTimeGet clock precision) c.clock_time.result
    (subst (IsOf c.args.call.now) c.in-ClockTime.is c.family.ensures) (ap replies (sym c.clock_time.ensures))

pub returns-in-Zeros : goal.returns-in-Zeros
unfolding IsOf
returns-in-Zeros c =
    answers (goal.at.returns-in-Zeros c).After-family c.args.call.now c.placed.result refl
    (zeros_does c.args.call.now c.in-Zeros.place c.args.constants.now (whole c.args.self.now) c.args.who.now (found (goal.at.returns-in-Zeros c).After-family).0
    (subst (IsOf c.args.call.now) c.in-Zeros.is c.family.ensures) ∙ ap replies (sym c.placed.ensures))

pub returns-in-Answered : goal.returns-in-Answered
unfolding IsOf
returns-in-Answered c =
    answers (goal.at.returns-in-Answered c).After-family c.args.call.now c.refused.result refl
    (answered_does c.args.call.now c.in-Answered.errno c.args.constants.now (whole c.args.self.now) c.args.who.now (found (goal.at.returns-in-Answered c).After-family).0
    (subst (IsOf c.args.call.now) c.in-Answered.is c.family.ensures) ∙ ap replies (sym c.refused.ensures))

pub returns-in-NotBuilt : goal.returns-in-NotBuilt
unfolding IsOf
returns-in-NotBuilt c =
    answers (goal.at.returns-in-NotBuilt c).After-family c.args.call.now c.refused-in-NotBuilt.result refl
    (unbuilt_does c.args.call.now c.args.constants.now (whole c.args.self.now) c.args.who.now (found (goal.at.returns-in-NotBuilt c).After-family).0
    (subst (IsOf c.args.call.now) c.in-NotBuilt.is c.family.ensures) ∙ ap replies (sym c.refused-in-NotBuilt.ensures))

-- the first subscription is of no lock and no condition variable
pub plain_poll-requires : goal.plain_poll-requires
unfolding IsOf
plain_poll-requires c =
    let subscriptions = c.in-Poll.subscriptions.now in
    let same : c.args.call.now ≡ call.Poll subscriptions = subst (IsOf c.args.call.now) c.in-Poll.is c.family.ensures in
    record { plain = sym (poll_by_stage subscriptions) ∙ ap (λ (it : Call). (meaning_of it).by_stage) (sym same) ∙ c.requires.events }

pub returns-in-Poll : goal.returns-in-Poll
unfolding IsOf
returns-in-Poll c =
    let a = (goal.at.returns-in-Poll c).After-family in
    let subscriptions = c.in-Poll.subscriptions.now in
    done a c.args.self.now c.plain_poll.result (call.Poll subscriptions) _ (subst (IsOf c.args.call.now) c.in-Poll.is c.family.ensures) refl
    (c.plain_poll.ensures (found a).0 (found a).1)

pub returns-in-Exit : goal.returns-in-Exit
unfolding IsOf
returns-in-Exit c =
    done (goal.at.returns-in-Exit c).After-family c.end_process.new.self (Ok (answer.Reply c.success.result)) (call.ProcExit c.in-Exit.code) _
    (subst (IsOf c.args.call.now) c.in-Exit.is c.family.ensures) refl (ap answer.Reply c.success.ensures, c.end_process.ensures)

-- ---- children, programs and signals

pub proc_fork-requires-clause-valid : goal.proc_fork-requires-clause-valid
proc_fork-requires-clause-valid c = valid (goal.at.proc_fork-requires-clause-valid c).After-family

pub returns-in-Fork : goal.returns-in-Fork
unfolding IsOf
returns-in-Fork c =
    let a = (goal.at.returns-in-Fork c).After-family in
    done a c.proc_fork.new.self c.proc_fork.result (call.ProcFork c.in-Fork.left) _
    (subst (IsOf c.args.call.now) c.in-Fork.is c.family.ensures) refl (c.proc_fork.ensures (found a).0 (found a).1)

pub proc_exec-requires-clause-valid : goal.proc_exec-requires-clause-valid
proc_exec-requires-clause-valid c = valid (goal.at.proc_exec-requires-clause-valid c).After-family

pub returns-in-Exec : goal.returns-in-Exec
unfolding IsOf
returns-in-Exec c =
    let a = (goal.at.returns-in-Exec c).After-family in
    let e = c.in-Exec in
    let same : (bytes : List ℕ) × (c.args.call.now ≡ call.ProcExec e.fd bytes e.fds.now) = subst (IsOf c.args.call.now) e.is c.family.ensures in
    done a c.proc_exec.new.self c.proc_exec.result (call.ProcExec e.fd same.0 e.fds.now) _ same.1 refl
    (c.proc_exec.ensures (found a).0 (found a).1)

pub proc_raise-requires-clause-valid : goal.proc_raise-requires-clause-valid
proc_raise-requires-clause-valid c = valid (goal.at.proc_raise-requires-clause-valid c).After-family

pub returns-in-Raise : goal.returns-in-Raise
unfolding IsOf
returns-in-Raise c =
    let a = (goal.at.returns-in-Raise c).After-family in
    done a c.proc_raise.new.self (Ok (answer.Reply c.proc_raise.result)) (call.ProcRaise c.in-Raise.signal) _
    (subst (IsOf c.args.call.now) c.in-Raise.is c.family.ensures) refl c.proc_raise.ensures

-- ---- what the parts of the kernel ask for

pub change_descriptors-requires-clause-there : goal.change_descriptors-requires-clause-there
change_descriptors-requires-clause-there c = c.requires.there

pub file_call-requires-clause-early : goal.file_call-requires-clause-early
file_call-requires-clause-early c = c.requires.early

pub offset_call-requires-clause-early : goal.offset_call-requires-clause-early
offset_call-requires-clause-early c = c.requires.early

pub entry_call-requires-clause-there : goal.entry_call-requires-clause-there
entry_call-requires-clause-there c = c.requires.there

pub entry_call-requires-clause-early : goal.entry_call-requires-clause-early
entry_call-requires-clause-early c = c.requires.early

pub file_open-requires-clause-there : goal.file_open-requires-clause-there
file_open-requires-clause-there c = c.requires.there

pub file_open-requires-clause-early : goal.file_open-requires-clause-early
file_open-requires-clause-early c = c.requires.early

pub fd_create2-requires-clause-there : goal.fd_create2-requires-clause-there
fd_create2-requires-clause-there c = c.requires.there

pub proc_fork-requires-clause-there : goal.proc_fork-requires-clause-there
proc_fork-requires-clause-there c = c.requires.there

pub proc_exec-requires-clause-there : goal.proc_exec-requires-clause-there
proc_exec-requires-clause-there c = c.requires.there

pub proc_raise-requires-clause-there : goal.proc_raise-requires-clause-there
proc_raise-requires-clause-there c = c.requires.there

pub thread_exit-requires-clause-there : goal.thread_exit-requires-clause-there
thread_exit-requires-clause-there c = c.requires.there

pub lock_unlock-requires : goal.lock_unlock-requires
lock_unlock-requires c = record { there = c.requires.there }

pub condvar_signal-requires : goal.condvar_signal-requires
condvar_signal-requires c = record { there = c.requires.there }

pub thread_create-requires : goal.thread_create-requires
thread_create-requires c = record { there = c.requires.there }

pub socket_call-requires : goal.socket_call-requires
socket_call-requires c = record { there = c.requires.there }

pub random_get-requires : goal.random_get-requires
random_get-requires c = record { there = c.requires.there }

pub end_process-requires-clause-live : goal.end_process-requires-clause-live
end_process-requires-clause-live c = c.requires.there
