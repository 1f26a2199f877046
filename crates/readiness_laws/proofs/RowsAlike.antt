-- Tables that are alike in the rows that a call names.
--     over_alike      the call is as over by the one as by the other
--     rows_looked, rows_call      what it looks at is the same
--     ready_by_rows      and a thread that waits in it is as ready
use Rattle.std.proofs.Common.{◌≡◌, ℕ, ◌||◌, ◌&&◌, Bool, true, false, not, List, [], ◌∷◌, ◌++◌, Option, None, Some, is_some, refl, sym, ap, subst, ◌∙◌}
use Rattle.std.proofs.lemmas.Bool.{eq-eqb}
use Rattle.std.specs.Prelude.{if◌then◌else◌, nat_eq, take}
use Rattle.std.specs.Ordering.{nat_cmp}
use Rattle.std.specs.FinMap.{FinMap, get}
use Rattle.std.specs.List.{AllByRecursion}
use Rattle.abi_structures.specs.declared.events.Subscription.{Subscription}
use Rattle.abi_structures.specs.declared.events.What.{What}
use Rattle.abi_structures.specs.declared.events.What.TheVariants.{Clock, Condvar, FdRead, FdWrite, LockRdlock, LockWrlock, ProcTerminate}
use Rattle.abi_types.specs.declared.call.Call.{Call}
use Rattle.abi_types.specs.declared.call.Call.TheVariants as call
use Rattle.abi_types.specs.declared.constants.Constants.{Constants}
use Rattle.abi_types.specs.declared.needed.Needed.{Needed}
use Rattle.abi_types.specs.declared.open_kind.OpenKind.{OpenKind}
use Rattle.abi_types.specs.declared.open_kind.OpenKind.TheVariants.{File, Directory, End, Terminal, Process}
use Rattle.abi_types.specs.declared.who.Who.{Who}
use Rattle.maps.specs.Closure.{member}
use Rattle.kernel_model.specs.Calls.{meaning_of, named, need, refusal}
use Rattle.kernel_model.specs.Channels.{Channel, Pulled, pull}
use Rattle.kernel_model.specs.Families.ChannelCalls.{Installed, install, is_nonblocking, must_wait_by, added, peeks, picked, received_if, received_with, receive_from, taken_if, send_open, truncated}
use Rattle.kernel_model.specs.Families.Polls.{and_event, event_now, events_now, read_event, terminate_event, told_or_waits, write_event}
use Rattle.kernel_model.specs.Families.WaitCalls.{fds_of, wait_row, wait_rows}
use Rattle.kernel_model.specs.Families.FileMeaning.{on_open, open_of}
use Rattle.kernel_model.specs.Families.MemoryCalls.{map_row, map_zeros, mapping}
use Rattle.abi_types.specs.Families.{is_anonymous}
use Rattle.kernel_model.specs.Need as needs
use Rattle.kernel_model.specs.Need.{denied_by, either_lack, first_lack, lack_at, some_absent}
use Rattle.kernel_model.specs.Outcome.{Outcome, is_parked}
use Rattle.kernel_model.specs.Reply.{refused}
use Rattle.abi_base.specs.declared.errno.Errno.TheVariants.{Badf}
use Rattle.abi_types.specs.declared.thread.Stage.{Stage}
use Rattle.abi_types.specs.declared.thread.Thread.TheVariants.{Waits}
use Rattle.kernel_model.specs.Deadlines.{is_due}
use Rattle.kernel_model.specs.State.{State, Table, no_state, thread_of}
use Rattle.kernel_model.specs.Step.{unless}
use Rattle.kernel_model.specs.View.{View, whole}
use Rattle.kernel_model.specs.Waits.{may_wait}
use Rattle.kernel_model.specs.Wakes.{goes_on_at, is_done_now, is_ready, is_ready_as}
use Rattle.kernel_model.proofs.Tests.{not_true}
use Rattle.kernel_parts.specs.Entries.{open_in}
use Rattle.kernel_parts.specs.Waiting.{end_at, is_over, socket_at}
use Rattle.kernel_parts.proofs.NoPolls.{either_meaning}
use Rattle.kernel_parts.proofs.Polling.{over_is}
use Rattle.kernel_parts.proofs.Parked.{effect_parks, parks}
use Rattle.poll_set.specs.Polls.{sight}
use Rattle.readiness_laws.specs.PlaceLaws.{row_in}
use Rattle.readiness_laws.specs.Spots.{Look, call_spots, descriptor_spots, look_spots, looks_of, on_table, polled, polled_by, table_spots}
use Rattle.readiness_laws.specs.WatchedChanges.{RowsStay, all_stay, named_stay}
use Rattle.readiness_laws.proofs.Locality.{unless_alike}

module _ (a b : Table) where
  -- the number is of the same descriptor in both
  abbrev pub Alike : ℕ → Type 0
  Alike fd = get b fd ≡ get a fd

  later : (c d : Bool) → d ≡ true → (c || d) ≡ true
  later true d h = refl
  later false d h = h

  pub each_alike : (fds : List ℕ) → ((fd : ℕ) → member fd fds ≡ true → Alike fd) → AllByRecursion Alike fds
  each_alike [] same = tt
  each_alike (fd ∷ fds) same = (
    same fd (ap (λ c. c || member fd fds) (eq-eqb fd fd refl)),
    each_alike fds (λ other among. same other (later (nat_eq other fd) (member other fds) among)),
  )

  -- ---- refusals

  absent_alike : (fds : List ℕ) → AllByRecursion Alike fds → some_absent b fds ≡ some_absent a fds
  absent_alike [] all = refl
  absent_alike (fd ∷ fds) all = λ i. not (is_some (all.0 i)) || absent_alike fds all.1 i

  lack_alike : (rows : List Needed) → AllByRecursion Alike (fds_of rows) → first_lack b rows ≡ first_lack a rows
  lack_alike [] all = refl
  lack_alike (row ∷ rows) all = λ i. either_lack (lack_at (all.0 i) row) (lack_alike rows all.1 i)

  refusal_alike : (fds : List ℕ) (rows : List Needed) → AllByRecursion Alike fds → AllByRecursion Alike (fds_of rows)
      → needs.refusal b fds rows ≡ needs.refusal a fds rows
  refusal_alike fds rows all needed = λ i. if absent_alike fds all i then Some (refused Badf) else denied_by (lack_alike rows needed i)

  -- ---- what calls look at

  picked_alike : (fds : List ℕ) → AllByRecursion Alike fds → picked b fds ≡ picked a fds
  picked_alike [] all = refl
  picked_alike (fd ∷ fds) all = λ i. added (all.0 i) (picked_alike fds all.1 i)

  module _ (constants : Constants) (v : View) (since : ℕ) where
    event_alike : (userdata : ℕ) (what : What) (rows : List Needed) → AllByRecursion Alike (fds_of (wait_row what rows))
        → (event_now constants v since b userdata what ≡ event_now constants v since a userdata what) × AllByRecursion Alike (fds_of rows)
    event_alike userdata (FdRead fd) rows all = (ap (λ d. read_event userdata v (open_of v d)) all.0, all.1)
    event_alike userdata (FdWrite fd) rows all = (ap (λ d. write_event userdata v (open_of v d)) all.0, all.1)
    event_alike userdata (ProcTerminate fd) rows all = (ap (λ d. terminate_event userdata v (open_of v d)) all.0, all.1)
    event_alike userdata (Clock clock timeout precision flags) rows all = (refl, all)
    event_alike userdata (Condvar condvar condvar_word lock lock_word condvar_scope lock_scope) rows all = (refl, all)
    event_alike userdata (LockRdlock lock word scope) rows all = (refl, all)
    event_alike userdata (LockWrlock lock word scope) rows all = (refl, all)

    events_alike : (subs : List Subscription) → AllByRecursion Alike (fds_of (wait_rows subs)) → events_now constants v since b subs ≡ events_now constants v since a subs
    events_alike [] all = refl
    events_alike (s ∷ rest) all =
        let first = event_alike s.userdata s.what (wait_rows rest) all in λ i. and_event (first.0 i) (events_alike rest first.1 i)

  -- a receive waits or not whatever numbers are free
  put_alike : (p c : ℕ) (bytes : List ℕ) (flags : ℕ) (rest : Channel) (first second : Option Installed)
      → is_parked (received_with p c bytes flags rest first).answer ≡ is_parked (received_with p c bytes flags rest second).answer
  put_alike p c bytes flags rest None None = refl
  put_alike p c bytes flags rest None (Some second) = refl
  put_alike p c bytes flags rest (Some first) None = refl
  put_alike p c bytes flags rest (Some first) (Some second) = refl

  taken_alike : (p c room : ℕ) (looks : Bool) (pulled : Pulled)
      → is_parked (taken_if looks p b room c pulled).answer ≡ is_parked (taken_if looks p a room c pulled).answer
  taken_alike p c room true pulled = refl
  taken_alike p c room false pulled =
      put_alike p c pulled.bytes (truncated room pulled.carried) pulled.rest (install b (take room pulled.carried)) (install a (take room pulled.carried))

  received_alike : (p c room : ℕ) (must nonblocking looks : Bool) (pulled : Pulled)
      → is_parked (received_if must nonblocking looks p b room c pulled).answer ≡ is_parked (received_if must nonblocking looks p a room c pulled).answer
  received_alike p c room true nonblocking looks pulled = refl
  received_alike p c room false nonblocking looks pulled = taken_alike p c room looks pulled

  receive_from_alike : (p n room flags c : ℕ) (nonblocking : Bool) (channel : Option Channel)
      → is_parked (receive_from p b n room flags nonblocking c channel).answer ≡ is_parked (receive_from p a n room flags nonblocking c channel).answer
  receive_from_alike p n room flags c nonblocking None = refl
  receive_from_alike p n room flags c nonblocking (Some channel) =
      received_alike p c room (must_wait_by flags n channel) nonblocking (peeks flags) (pull n channel)

  receive_alike : (fd n room flags : ℕ) (chans : FinMap nat_cmp Channel) (kind : Option OpenKind)
      → is_parked (socket_at 0 b chans kind (call.SockRecv fd n room flags)).answer ≡ is_parked (socket_at 0 a chans kind (call.SockRecv fd n room flags)).answer
  receive_alike fd n room flags chans None = refl
  receive_alike fd n room flags chans (Some (File node offset mode)) = refl
  receive_alike fd n room flags chans (Some (Directory node mode)) = refl
  receive_alike fd n room flags chans (Some (End None writes mode form)) = refl
  receive_alike fd n room flags chans (Some (End (Some r) None mode form)) = refl
  receive_alike fd n room flags chans (Some (End (Some r) (Some w) mode form)) = receive_from_alike 0 n room flags r (is_nonblocking mode) (get chans r)
  receive_alike fd n room flags chans (Some (Terminal which mode)) = refl
  receive_alike fd n room flags chans (Some (Process q object)) = refl

  send_alike : (fd : ℕ) (bytes fds : List ℕ) (flags : ℕ) (chans : FinMap nat_cmp Channel) (kind : Option OpenKind) → picked b fds ≡ picked a fds
      → is_parked (socket_at 0 b chans kind (call.SockSend fd bytes fds flags)).answer ≡ is_parked (socket_at 0 a chans kind (call.SockSend fd bytes fds flags)).answer
  send_alike fd bytes fds flags chans None same = refl
  send_alike fd bytes fds flags chans (Some kind) same = ap (λ carried. is_parked (send_open (whole (record no_state { chans = chans })) bytes carried (Some kind)).answer) same

  module _ (constants : Constants) (S : State) (since : ℕ) where
    parks_alike : (c : Call) → AllByRecursion Alike (named c)
        → parks constants S.opens S.chans S.statuses S.clock b since c ≡ parks constants S.opens S.chans S.statuses S.clock a since c
    parks_alike (call.Poll subs) all =
        ap (λ events. is_parked (told_or_waits events).answer) (events_alike constants (sight S.opens S.chans S.statuses S.clock) since subs all)
    parks_alike (call.FdRead fd n) all = ap (λ d. is_parked (end_at S.chans (open_in S.opens d) (call.FdRead fd n)).answer) all.0
    parks_alike (call.FdWrite fd bytes) all = ap (λ d. is_parked (end_at S.chans (open_in S.opens d) (call.FdWrite fd bytes)).answer) all.0
    parks_alike (call.SockRecv fd n room flags) all =
        ap (λ d. is_parked (socket_at 0 b S.chans (open_in S.opens d) (call.SockRecv fd n room flags)).answer) all.0
        ∙ receive_alike fd n room flags S.chans (open_in S.opens (get a fd))
    parks_alike (call.SockSend fd bytes fds flags) all =
        ap (λ d. is_parked (socket_at 0 b S.chans (open_in S.opens d) (call.SockSend fd bytes fds flags)).answer) all.0
        ∙ send_alike fd bytes fds flags S.chans (open_in S.opens (get a fd)) (picked_alike fds all.1)
    parks_alike _ all = refl

    -- what each call that may wait needs is of descriptors that it names
    needed_alike : (c : Call) → may_wait c ≡ true → AllByRecursion Alike (named c) → AllByRecursion Alike (fds_of (need c))
    needed_alike (call.Poll subs) may all = all
    needed_alike (call.FdRead fd n) may all = all
    needed_alike (call.FdWrite fd bytes) may all = all
    needed_alike (call.SockRecv fd n room flags) may all = all
    needed_alike (call.SockSend fd bytes fds flags) may all = (all.0, tt)
    needed_alike (call.MemMap place length prot flags fd offset) may all =
        absurd (not_true (sym (either_meaning (λ m. m.may_wait ≡ false) (is_anonymous flags) (map_zeros place) (on_open (map_row fd prot) (mapping place length offset)) refl refl) ∙ may))
    needed_alike _ may all = absurd (not_true may)

    abbrev looked : State
    looked = record no_state { clock = S.clock; opens = S.opens; chans = S.chans; statuses = S.statuses }

    pub over_alike : (c : Call) → may_wait c ≡ true → (meaning_of c).by_stage ≡ false → AllByRecursion Alike (named c)
        → is_over constants S.opens S.chans S.statuses S.clock (Some b) since c ≡ is_over constants S.opens S.chans S.statuses S.clock (Some a) since c
    over_alike c may plain all =
        let who : Who = record { pid = 0; tid = 0; since = since; stage = None } in
        let effect : Table → Outcome = λ table. (meaning_of c).effect constants (whole looked) who table in
        let same : is_parked (effect b).answer ≡ is_parked (effect a).answer =
        effect_parks constants looked who b c plain ∙ parks_alike c all ∙ sym (effect_parks constants looked who a c plain) in
        ap not
        (ap (λ r. is_parked (unless r (effect b)).answer) (refusal_alike (named c) (need c) all (needed_alike c may all))
        ∙ unless_alike (refusal a c) (effect b) (effect a) same)

-- ---- where a call looks

module _ (N : ℕ → Type 0) where
  polled_named : (what : What) (looks : List Look) (rows : List Needed) → AllByRecursion N (fds_of (wait_row what rows))
      → (AllByRecursion N (fds_of rows) → AllByRecursion (λ (look : Look). N look.fd) looks) → AllByRecursion (λ (look : Look). N look.fd) (polled_by what looks)
  polled_named (FdRead fd) looks rows all rest = (all.0, rest all.1)
  polled_named (FdWrite fd) looks rows all rest = (all.0, rest all.1)
  polled_named (ProcTerminate fd) looks rows all rest = (all.0, rest all.1)
  polled_named (Clock clock timeout precision flags) looks rows all rest = rest all
  polled_named (Condvar condvar condvar_word lock lock_word condvar_scope lock_scope) looks rows all rest = rest all
  polled_named (LockRdlock lock word scope) looks rows all rest = rest all
  polled_named (LockWrlock lock word scope) looks rows all rest = rest all

  each_polled : (subs : List Subscription) → AllByRecursion N (fds_of (wait_rows subs)) → AllByRecursion (λ (look : Look). N look.fd) (polled subs)
  each_polled [] all = tt
  each_polled (s ∷ rest) all = polled_named s.what (polled rest) (wait_rows rest) all (each_polled rest)

  -- it looks at numbers alone that it names
  pub looks_named : (c : Call) → AllByRecursion N (named c) → AllByRecursion (λ (look : Look). N look.fd) (looks_of c)
  looks_named (call.Poll subs) all = each_polled subs all
  looks_named (call.FdRead fd n) all = (all.0, tt)
  looks_named (call.FdWrite fd bytes) all = (all.0, tt)
  looks_named (call.SockRecv fd n room flags) all = (all.0, tt)
  looks_named (call.SockSend fd bytes fds flags) all = (all.0, tt)
  looks_named _ all = tt

look_alike : (opens : FinMap nat_cmp OpenKind) (a b : Table) (looks : List Look) → AllByRecursion (λ (look : Look). Alike a b look.fd) looks
    → look_spots opens b looks ≡ look_spots opens a looks
look_alike opens a b [] all = refl
look_alike opens a b (look ∷ looks) all = λ i. descriptor_spots opens look (all.0 i) ++ look_alike opens a b looks all.1 i

named_alike : (a b : Table) (c : Call) → may_wait c ≡ true → ((fd : ℕ) → (may_wait c && member fd (named c)) ≡ true → get b fd ≡ get a fd)
    → AllByRecursion (Alike a b) (named c)
named_alike a b c may same = each_alike a b (named c) (λ fd among. same fd (ap (λ d. d && member fd (named c)) may ∙ among))

module _ (S : State) (tables : FinMap nat_cmp Table) (p : ℕ) (c : Call) (may : may_wait c ≡ true) where
  abbrev with_tables : State
  with_tables = record S { tables = tables }

  -- the numbers at which it looks are of the same descriptors
  pub rows_looked : RowsStay (get S.tables p) (get tables p) c
      → AllByRecursion (λ (look : Look). row_in (get tables p) look.fd ≡ row_in (get S.tables p) look.fd) (looks_of c)
  rows_looked (all_stay same) = looks_named (λ n. row_in (get tables p) n ≡ row_in (get S.tables p) n) c (any (named c)) where
    any : (fds : List ℕ) → AllByRecursion (λ n. row_in (get tables p) n ≡ row_in (get S.tables p) n) fds
    any [] = tt
    any (fd ∷ fds) = (ap (λ o. row_in o fd) same, any fds)
  rows_looked (named_stay a b before after same) =
      subst (λ o. AllByRecursion (λ (look : Look). row_in o look.fd ≡ row_in (get S.tables p) look.fd) (looks_of c)) (sym after)
      (subst (λ o. AllByRecursion (λ (look : Look). row_in (Some b) look.fd ≡ row_in o look.fd) (looks_of c)) (sym before)
      (looks_named (Alike a b) c (named_alike a b c may same)))

  pub rows_call : (by_stage : Bool) → RowsStay (get S.tables p) (get tables p) c → call_spots by_stage with_tables p c ≡ call_spots by_stage S p c
  rows_call true rows = refl
  rows_call false (all_stay same) = ap (λ o. on_table p ∷ table_spots S.opens o (looks_of c)) same
  rows_call false (named_stay a b before after same) =
      ap (λ o. on_table p ∷ table_spots S.opens o (looks_of c)) after
      ∙ ap (λ those. on_table p ∷ those) (look_alike S.opens a b (looks_of c) (looks_named (Alike a b) c (named_alike a b c may same)))
      ∙ sym (ap (λ o. on_table p ∷ table_spots S.opens o (looks_of c)) before)

  module _ (constants : Constants) where
    rows_over : (since : ℕ) → (meaning_of c).by_stage ≡ false → RowsStay (get S.tables p) (get tables p) c
        → is_over constants S.opens S.chans S.statuses S.clock (get S.tables p) since c ≡ is_over constants S.opens S.chans S.statuses S.clock (get tables p) since c
    rows_over since plain (all_stay same) = sym (ap (λ o. is_over constants S.opens S.chans S.statuses S.clock o since c) same)
    rows_over since plain (named_stay a b before after same) =
        ap (λ o. is_over constants S.opens S.chans S.statuses S.clock o since c) before
        ∙ sym (over_alike a b constants S since c may plain (named_alike a b c may same))
        ∙ sym (ap (λ o. is_over constants S.opens S.chans S.statuses S.clock o since c) after)

    pub ready_by_rows : (t since : ℕ) (until : Option ℕ) (stage : Stage) → thread_of S p t ≡ Some (Waits c since until stage)
        → RowsStay (get S.tables p) (get tables p) c → is_ready constants S p t ≡ is_ready constants with_tables p t
    ready_by_rows t since until stage waits rows =
        let who : Who = record { pid = p; tid = t; since = since; stage = Some stage } in
        ap (is_ready_as constants S p t) waits
        ∙ elim (meaning_of c).by_stage as (λ b. (meaning_of c).by_stage ≡ b
        → (if b then goes_on_at stage (is_due S.clock until) else is_done_now constants S who c)
        ≡ (if b then goes_on_at stage (is_due S.clock until) else is_done_now constants with_tables who c)) [
          | true ↦ λ _. refl
          | false ↦ λ plain. sym (over_is constants S who c plain) ∙ rows_over since plain rows ∙ over_is constants with_tables who c plain
        ] refl
        ∙ sym (ap (is_ready_as constants with_tables p t) waits)
