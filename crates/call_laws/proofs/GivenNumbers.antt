-- The numbers that calls give are the lowest.
use Rattle.std.proofs.Common.{◌≡◌, ◌⊎◌, ℕ, ◌+◌, Bool, true, false, cond, List, [], ◌∷◌, Option, Some, None, refl, sym, ap, subst, ◌∙◌}
use Rattle.std.specs.Prelude.{take, ⊤}
use Rattle.std.specs.FinMap.{get, insert}
use Rattle.std.specs.List.{AllByRecursion, list_any}
use Rattle.abi_base.specs.declared.errno.Errno.{Errno}
use Rattle.abi_base.specs.declared.errno.Errno.TheVariants.{Again, Badf, Fault, Mfile, Nosys}
use Rattle.abi_structures.specs.declared.structures.FdStat.{FdStat}
use Rattle.abi_types.specs.declared.call.Call.TheVariants.{FdCreate1, FdCreate2, FdDup, FileOpen, Poll, ProcFork, SockRecv}
use Rattle.abi_types.specs.declared.call.Call.{Call}
use Rattle.abi_types.specs.declared.call.Lookup.{Lookup}
use Rattle.abi_types.specs.declared.constants.Constants.{Constants}
use Rattle.abi_types.specs.declared.descriptor.Descriptor.{Descriptor}
use Rattle.abi_types.specs.declared.reply.Answer.TheVariants as answer
use Rattle.abi_types.specs.declared.reply.Reply.{Reply}
use Rattle.abi_types.specs.declared.reply.WordWrites.TheVariants.{Zero}
use Rattle.abi_types.specs.declared.wake.WakeIn.TheVariants as wake
use Rattle.abi_types.specs.declared.who.Who.{Who}
use Rattle.kernel_model.specs.Channels.{pull}
use Rattle.kernel_model.specs.Families.ChannelCalls.{Installed, install, receive_open, received_reply}
use Rattle.kernel_model.specs.Families.ClockCalls.{real_time}
use Rattle.kernel_model.specs.Families.DescriptorCalls.{dup_at, dup_of, lowest_free}
use Rattle.kernel_model.specs.Families.FileMeaning.{open_of}
use Rattle.kernel_model.specs.Families.FilePaths.{Walked, Ends, Fails, LeadsOutside, walked}
use Rattle.kernel_model.specs.Families.ForkCalls.{child_number, fork_at, forked_reply}
use Rattle.kernel_model.specs.Families.Locks.{with_word}
use Rattle.kernel_model.specs.Families.Numbers.{can_number, next_object}
use Rattle.kernel_model.specs.Families.Opening.{Opened, NotOpened, OpenedOutside, Opens, open_at, open_mode, open_walked, opened_outcome}
use Rattle.kernel_model.specs.Families.OpenMeaning.{at_descriptor}
use Rattle.kernel_model.specs.Families.SocketCalls.{Pair, create, made_of, with_first, first_end, first_number, end_descriptor}
use Rattle.kernel_model.specs.Outcome.{replies}
use Rattle.kernel_model.specs.OwnChanges.{is_success}
use Rattle.kernel_model.specs.Proper.{IsIn}
use Rattle.kernel_model.specs.Reply.{refused, success}
use Rattle.kernel_model.specs.State.{ProcessState, State, Table, Update, tree_of}
use Rattle.kernel_model.specs.Step.{tick}
use Rattle.kernel_model.specs.View.{View, whole}
use Rattle.kernel_model.specs.Waits.{resumed}
use Rattle.kernel_model.proofs.Births.{fork_holds}
use Rattle.kernel_model.proofs.FilePaths.{FailsPlainly, walked_plainly}
use Rattle.kernel_model.proofs.Lists.{in_all}
use Rattle.kernel_model.proofs.Opened.{OpensPlainly, open_errors, opens_plainly, path_among}
use Rattle.kernel_model.proofs.PairCalls.{create_errors, create_holds}
use Rattle.kernel_model.proofs.Parking.{parked_is_no_reply}
use Rattle.kernel_model.proofs.Refusals.{same_reply}
use Rattle.kernel_model.proofs.SocketCalls.{installed_from, receive_errors, receive_holds}
use Rattle.kernel_model.proofs.Tests.{either_false, not_true, same_some}
use Rattle.kernel_model.proofs.ThreadLaws.{fails}
use Rattle.call_laws.specs.NumberLaws.{AreLowest, GivesLowest, IsTaken, WakesGiveLowest, given_numbers, received_numbers}
use Rattle.call_laws.proofs.Numbers.{all_alike, alike, lowest_number, taken_after, taken_before}
use Rattle.call_laws.proofs.Replies.{WhereDone, reply_by}

-- the numbers that a reply has, in a table
abbrev Gives : Table → Call → Reply → Type 0
Gives table call reply = AreLowest (IsTaken table) (given_numbers call reply)

-- the first result is the lowest number
abbrev FirstIsLowest : Table → Reply → Type 0
FirstIsLowest table reply = AreLowest (IsTaken table) (reply.r1 ∷ [])

first_is : (table : Table) (n : ℕ) (sent reply : Reply) → lowest_free table ≡ Some n → sent.r1 ≡ n → answer.Reply reply ≡ answer.Reply sent → FirstIsLowest table reply
first_is table n sent reply free result is =
    subst (λ k. AreLowest (IsTaken table) (k ∷ [])) (sym (ap (λ (r : Reply). r.r1) (same_reply reply sent is) ∙ result)) (lowest_number table n free, tt)

-- ---- fd_dup

dup_at_gives : (p : ℕ) (table : Table) (d : Descriptor) (free : Option ℕ) → lowest_free table ≡ free → WhereDone (FirstIsLowest table) (dup_at p table d free)
dup_at_gives p table d None low reply is done = fails Mfile reply refl is done
dup_at_gives p table d (Some n) low reply is done = first_is table n (success n 0) reply low refl is

dup_gives : (p : ℕ) (table : Table) (o : Option Descriptor) → WhereDone (FirstIsLowest table) (dup_of p table o)
dup_gives p table None reply is done = fails Badf reply refl is done
dup_gives p table (Some d) reply is done = dup_at_gives p table d (lowest_free table) refl reply is done

-- ---- file_open

-- what it opens, by what it sees
abbrev opens_what : Constants → View → Who → Table → Lookup → List ℕ → ℕ → FdStat → Opened
opens_what constants v who table lookup path oflags stat =
    open_walked oflags stat.flags path (real_time constants v.clock) (next_object who.pid (v.process who.pid) 1) v.branch
    (walked v.branch (open_mode oflags lookup.flags) path (open_of v (get table lookup.fd)))

fails_of : (errors : List Errno) → list_any is_success errors ≡ false → AllByRecursion (λ errno. is_success errno ≡ false) errors
fails_of [] none = tt
fails_of (errno ∷ errors) none = let both = either_false (is_success errno) (list_any is_success errors) none in (both.0, fails_of errors both.1)

-- none of these errors is that there is none
pub one_fails : (errno : Errno) (errors : List Errno) → list_any is_success errors ≡ false → IsIn errno errors → is_success errno ≡ false
one_fails errno errors none here = in_all (λ e. is_success e ≡ false) errno errors (fails_of errors none) here

abbrev IsNoSuccess : Opened → Type 0
IsNoSuccess (NotOpened errno) = is_success errno ≡ false
IsNoSuccess _ = ⊤

plain_fails : (o : Opened) → OpensPlainly o → IsNoSuccess o
plain_fails (NotOpened errno) plain = one_fails errno open_errors refl plain
plain_fails (OpenedOutside component) plain = tt
plain_fails (Opens kind c new_nodes) plain = tt

walk_fails : (oflags flags : ℕ) (path : List ℕ) (now new : ℕ) (S : State) (w : Walked) → FailsPlainly w
    → IsNoSuccess (open_walked oflags flags path now new (whole S).branch w)
walk_fails oflags flags path now new S (Ends end) plain =
    plain_fails (open_walked oflags flags path now new (whole S).branch (Ends end)) (opens_plainly oflags flags path now new (whole S).branch end)
walk_fails oflags flags path now new S (Fails errno) plain = one_fails errno open_errors refl (path_among errno plain)
walk_fails oflags flags path now new S (LeadsOutside component) plain = tt

module _ (p : ℕ) (own : Option ProcessState) (table : Table) (stat : FdStat) where
  made_gives : (fd : ℕ) (b : Bool) (us : List Update) → lowest_free table ≡ Some fd
      → WhereDone (FirstIsLowest table) (cond b (record { answer = answer.Reply (success fd 0); updates = us }) (replies (refused Again)))
  made_gives fd true us low reply is done = first_is table fd (success fd 0) reply low refl is
  made_gives fd false us low reply is done = fails Again reply refl is done

  opened_gives : (fd : ℕ) (o : Opened) → lowest_free table ≡ Some fd → IsNoSuccess o → WhereDone (FirstIsLowest table) (opened_outcome p own table stat fd o)
  opened_gives fd (NotOpened errno) low errs reply is done = fails errno reply errs is done
  opened_gives fd (OpenedOutside component) low errs reply is done =
      absurd (not_true (ap (λ (r : Reply). is_success r.errno) (sym (same_reply reply _ is)) ∙ ap is_success done))
  opened_gives fd (Opens kind c new_nodes) low errs reply is done = made_gives fd (can_number p (new_nodes + 1) own) _ low reply is done

  open_gives : (free : Option ℕ) (o : Opened) → lowest_free table ≡ free → IsNoSuccess o → WhereDone (FirstIsLowest table) (open_at p own table stat o free)
  open_gives None o low errs reply is done = fails Mfile reply refl is done
  open_gives (Some fd) o low errs reply is done = opened_gives fd o low errs reply is done

-- ---- sock_recv

install_gives : (ds : List Descriptor) (table : Table) (installed : Installed) → install table ds ≡ Some installed → AreLowest (IsTaken table) installed.fds
install_gives [] table installed is =
    subst (λ (x : Installed). AreLowest (IsTaken table) x.fds) (same_some (record { fds = []; table = table }) installed is) tt
install_gives (d ∷ ds) table installed is =
    let from = installed_from (lowest_free table) (λ number. install (insert table number d) ds) installed is in
    subst (λ (x : Installed). AreLowest (IsTaken table) x.fds) from.4 (
      lowest_number table from.0 from.2,
      all_alike (IsTaken (insert table from.0 d)) (λ m. (m ≡ from.0) ⊎ IsTaken table m) from.1.fds (λ k. taken_before table from.0 k d) (λ k. taken_after table from.0 k d)
          (install_gives ds (insert table from.0 d) from.1 from.3),
    )

received_gives : (table : Table) (bytes fds : List ℕ) (flags : ℕ) (reply : Reply) → AreLowest (IsTaken table) fds
    → answer.Reply reply ≡ answer.Reply (received_reply bytes fds flags) → AreLowest (IsTaken table) (received_numbers reply.payload)
received_gives table bytes fds flags reply low is =
    subst (λ (r : Reply). AreLowest (IsTaken table) (received_numbers r.payload)) (sym (same_reply reply (received_reply bytes fds flags) is)) low

abbrev ReceivesLowest : Table → Reply → Type 0
ReceivesLowest table reply = AreLowest (IsTaken table) (received_numbers reply.payload)

receive_gives : (p : ℕ) (table : Table) (v : View) (n room flags : ℕ) (o : Option Descriptor)
    → WhereDone (ReceivesLowest table) (at_descriptor (λ o. receive_open p table v n room flags) v o)
receive_gives p table v n room flags None reply is done = fails Badf reply refl is done
receive_gives p table v n room flags (Some d) reply is done =
    receive_holds p table v n room flags (WhereDone (ReceivesLowest table))
    (λ errno here given e success. fails errno given (one_fails errno receive_errors refl here) e success)
    (λ given e success. absurd (parked_is_no_reply (answer.Parked Zero) given refl (sym e)))
    (λ bytes given e success. received_gives table bytes [] 0 given tt e) (v.opened d.id)
    (λ c w mode form channel installed _ _ made given e success.
    received_gives table _ installed.fds _ given (install_gives (take room (pull n channel).carried) table installed made) e) reply is done

-- ---- proc_fork

fork_gives : (left p t : ℕ) (table : Table) (own : Option ProcessState) → WhereDone (FirstIsLowest table) (fork_at left p t own table (lowest_free table))
fork_gives left p t table own =
    fork_holds left p t own table (lowest_free table) (WhereDone (FirstIsLowest table)) (λ errno here isnt reply is done. fails errno reply isnt is done)
    (λ fd parent free there can reply is done. first_is table fd (forked_reply fd (child_number p parent)) reply free refl is)

-- ---- fd_create2

abbrev TwoAreLowest : Table → Reply → Type 0
TwoAreLowest table reply = AreLowest (IsTaken table) (reply.r1 ∷ reply.r2 ∷ [])

create_gives : (made : Option Pair) (p t : ℕ) (own : Option ProcessState) (table : Table) → WhereDone (TwoAreLowest table) (create made p t own table)
create_gives made p t own table =
    create_holds p t own table (WhereDone (TwoAreLowest table))
    (λ errno here reply is done. fails errno reply (one_fails errno create_errors refl here) is done) made
    (λ m _ first second parent one two there some can reply is done.
    let d = end_descriptor (first_number m p own) (first_end m p own) in
    subst (λ (r : Reply). TwoAreLowest table r) (sym (same_reply reply (success first second) is)) (
      lowest_number table first one,
      (
        alike (IsTaken (with_first m p own table first)) (λ k. (k ≡ first) ⊎ IsTaken table k) second (λ k. taken_before table first k d)
            (λ k. taken_after table first k d) (lowest_number (with_first m p own table first) second two),
        tt,
      ),
    ))

-- ---- all calls

pub gives_lowest : GivesLowest
gives_lowest constants S who (FdCreate1 kind) reply T table own step done =
    reply_by (FirstIsLowest table) constants S who (FdCreate1 kind) table own (λ _ given is success. fails Nosys given refl is success) reply T step done
gives_lowest constants S who (FdCreate2 kind) reply T table own step done =
    reply_by (TwoAreLowest table) constants S who (FdCreate2 kind) table own (λ _. create_gives (made_of kind) who.pid who.tid (get S.processes who.pid) table)
    reply T step done
gives_lowest constants S who (FdDup fd) reply T table own step done =
    reply_by (FirstIsLowest table) constants S who (FdDup fd) table own (λ _. dup_gives who.pid table (get table fd)) reply T step done
gives_lowest constants S who (FileOpen lookup path oflags stat) reply T table own step done =
    reply_by (FirstIsLowest table) constants S who (FileOpen lookup path oflags stat) table own
    (λ _. open_gives who.pid (get S.processes who.pid) table stat (lowest_free table) (opens_what constants (whole (tick S)) who table lookup path oflags stat) refl
    (walk_fails oflags stat.flags path _ _ (tick S) (walked (tree_of (tick S)) (open_mode oflags lookup.flags) path (open_of (whole (tick S)) (get table lookup.fd)))
    (walked_plainly (tree_of (tick S)) (open_mode oflags lookup.flags) path (open_of (whole (tick S)) (get table lookup.fd))))) reply T step done
gives_lowest constants S who (ProcFork left) reply T table own step done =
    reply_by (FirstIsLowest table) constants S who (ProcFork left) table own (λ _. fork_gives left who.pid who.tid table (get S.processes who.pid)) reply T step done
gives_lowest constants S who (SockRecv fd length room flags) reply T table own step done =
    reply_by (ReceivesLowest table) constants S who (SockRecv fd length room flags) table own
    (λ _. receive_gives who.pid table (whole (tick S)) length room flags (get table fd)) reply T step done
gives_lowest constants S who call reply T table own step done = tt

-- ---- wakes

-- a call with another word for its lock gives the same
worded : (word : ℕ) (call : Call) (reply : Reply) → given_numbers (with_word word call) reply ≡ given_numbers call reply
worded word (Poll []) reply = refl
worded word (Poll (first ∷ rest)) reply = refl
worded word call reply = refl

pub wakes_give_lowest : WakesGiveLowest
wakes_give_lowest constants S who call wake.Fault reply T table own woken done = fails Fault reply refl woken.0 done
wakes_give_lowest constants S who call (wake.Plain word) reply T table own woken done =
    subst (AreLowest (IsTaken table)) (worded word call reply) (gives_lowest constants (resumed S who) who (with_word word call) reply T table own woken.0 done)
