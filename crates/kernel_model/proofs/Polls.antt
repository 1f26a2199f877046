-- The meaning of each poll is proper.
--     told_holds, poll_holds, poll_errors      what holds of each outcome of a poll, and that it has no errors of its own
--     parked_events, absent_and      it waits where no subscription has an event
--     events_seen      the events are the same by what it sees alone
--     sooner_is, due_of_sooner, due_events      where the soonest deadline has come there is an event
--     poll_is_proper      it is proper
use Rattle.std.proofs.Common.{◌≡◌, ◌⊎◌, ℕ, ◌≤◌, ◌&&◌, ◌||◌, Bool, true, false, min, not, inl, inr, List, [], ◌∷◌, ◌++◌, Option, None, Some, refl, sym, ap, ◌∙◌, arith}
use Rattle.std.proofs.Math.Nat.{min-eq_left, min-eq_right}
use Rattle.std.proofs.lemmas.Bool.{eq-eqb, ltb-false, ltb-true}
use Rattle.std.specs.Prelude.{nat_lt, if◌then◌else◌}
use Rattle.std.specs.FinMap.{get}
use Rattle.abi_base.specs.declared.errno.Errno.{Errno}
use Rattle.abi_structures.specs.declared.events.Event.{Event}
use Rattle.abi_structures.specs.declared.events.EventType.TheVariants as type
use Rattle.abi_structures.specs.declared.events.Subscription.{Subscription}
use Rattle.abi_structures.specs.declared.events.What.{What}
use Rattle.abi_structures.specs.declared.events.What.TheVariants.{Clock, Condvar, FdRead, FdWrite, LockRdlock, LockWrlock, ProcTerminate}
use Rattle.abi_types.specs.declared.constants.Constants.{Constants}
use Rattle.abi_types.specs.declared.descriptor.Descriptor.{Descriptor}
use Rattle.abi_types.specs.declared.needed.Needed.{Needed}
use Rattle.abi_types.specs.declared.open_kind.OpenKind.{OpenKind}
use Rattle.abi_types.specs.declared.open_kind.OpenKind.TheVariants.{File, Directory, End, Terminal, Process}
use Rattle.abi_types.specs.declared.reply.Answer.TheVariants as answer
use Rattle.abi_types.specs.declared.reply.WordWrites.{WordWrites}
use Rattle.abi_types.specs.declared.reply.WordWrites.TheVariants.{Zero}
use Rattle.abi_types.specs.declared.who.Who.{Who}
use Rattle.kernel_model.specs.Deadlines.{is_due, soon}
use Rattle.kernel_model.specs.Families.FileMeaning.{open_of}
use Rattle.kernel_model.specs.Families.LockCalls.{sleeps_in, tells}
use Rattle.kernel_model.specs.Families.Polls.{and_event, begins_with_lock, bytes_event, deadline_in, end_event, event_now, event_of, events_now, events_poll, events_reply, has_come, has_no_reader, has_no_writer, lock_poll_of, poll, poll_by, read_event, reading_event, sooner, soonest, terminate_event, told_or_waits, write_event, writing_event}
use Rattle.kernel_model.specs.Families.WaitCalls.{clock_deadline, fds_of, wait_row, wait_rows}
use Rattle.kernel_model.specs.Outcome.{Outcome, is_parked, parks, replies}
use Rattle.kernel_model.specs.OwnChanges.{LeavesOwn, begins_to_sleep, keeps_own}
use Rattle.kernel_model.specs.Proper.{IsDeniedOutside, IsPatient, IsProper, IsUnset, OrWaits, AllCarryOn, nothing_set}
use Rattle.kernel_model.specs.Sight.{behind, channel_part, process_parts, reached, reached_by}
use Rattle.kernel_model.specs.State.{Part, ProcessState, State, Table, at_chan, at_open, at_proc, at_status, has_part, put_all}
use Rattle.kernel_model.specs.Step.{tick}
use Rattle.kernel_model.specs.Valid.{IsNearlyValid}
use Rattle.kernel_model.specs.View.{View, only, restrict, whole}
use Rattle.kernel_model.proofs.Answering.{each_row_is_proper}
use Rattle.kernel_model.proofs.Deadlines.{due_later}
use Rattle.kernel_model.proofs.LockPolls.{lock_poll_is_proper, rows_of, waited_holds}
use Rattle.kernel_model.proofs.Parts.{has_left, has_right, own_stays}
use Rattle.kernel_model.proofs.Tests.{not_true}

-- ---- what it comes to

pub told_holds : (P : Outcome → Type 0) (events : List Event) → ((event : Event) (more : List Event) → P (replies (events_reply (event ∷ more))))
    → P (parks Zero) → P (told_or_waits events)
told_holds P [] told waits = waits
told_holds P (event ∷ more) told waits = told event more

-- whether there is no event
abbrev pub is_absent : Option Event → Bool
is_absent None = true
is_absent (Some event) = false

abbrev pub are_absent : List Event → Bool
are_absent [] = true
are_absent (event ∷ events) = false

pub parked_events : (events : List Event) → is_parked (told_or_waits events).answer ≡ are_absent events
parked_events [] = refl
parked_events (event ∷ events) = refl

pub absent_and : (e : Option Event) (events : List Event) → are_absent (and_event e events) ≡ (is_absent e && are_absent events)
absent_and None events = refl
absent_and (Some event) events = refl

-- ---- what it sees

only_seen : {X : Type 0} (b : Bool) (x : Option X) → b ≡ true → only b x ≡ x
only_seen b x h = ap (λ a. only a x) h

module _ (S : State) (parts : List Part) where
  -- all of these are among the parts
  abbrev Has : List Part → Type 0
  Has these = (q : Part) → has_part these q ≡ true → has_part parts q ≡ true

  channel_seen : (c : ℕ) (more : List Part) → Has (at_chan c ∷ more) → (restrict S parts).channel c ≡ get S.chans c
  channel_seen c more all = only_seen (has_part parts (at_chan c)) (get S.chans c) (all (at_chan c) (ap (λ b. b || has_part more (at_chan c)) (eq-eqb c c refl)))

  status_seen : (p : ℕ) → Has (at_status p ∷ []) → (restrict S parts).status p ≡ get S.statuses p
  status_seen p all = only_seen (has_part parts (at_status p)) (get S.statuses p) (all (at_status p) (ap (λ b. b || false) (eq-eqb p p refl)))

  of_second_channel : (reads : Option ℕ) (c : ℕ) → Has (channel_part reads ++ channel_part (Some c)) → Has (at_chan c ∷ [])
  of_second_channel reads c all q h = all q (has_right (channel_part reads) (at_chan c ∷ []) q h)

  read_seen : (userdata : ℕ) (kind : Option OpenKind) → Has (behind S kind)
      → read_event userdata (restrict S parts) kind ≡ read_event userdata (whole S) kind
  read_seen userdata None all = refl
  read_seen userdata (Some (File node offset flags)) all = refl
  read_seen userdata (Some (Directory node flags)) all = refl
  read_seen userdata (Some (End (Some c) writes flags form)) all = ap (reading_event userdata) (channel_seen c (channel_part writes) all)
  read_seen userdata (Some (End None (Some c) flags form)) all =
      ap (λ x. Some (bytes_event userdata type.FdRead 0 (has_no_reader x))) (channel_seen c [] all)
  read_seen userdata (Some (End None None flags form)) all = refl
  read_seen userdata (Some (Terminal which flags)) all = refl
  read_seen userdata (Some (Process p object)) all = refl

  write_seen : (userdata : ℕ) (kind : Option OpenKind) → Has (behind S kind)
      → write_event userdata (restrict S parts) kind ≡ write_event userdata (whole S) kind
  write_seen userdata None all = refl
  write_seen userdata (Some (File node offset flags)) all = refl
  write_seen userdata (Some (Directory node flags)) all = refl
  write_seen userdata (Some (End reads (Some c) flags form)) all = ap (writing_event userdata) (channel_seen c [] (of_second_channel reads c all))
  write_seen userdata (Some (End (Some c) None flags form)) all =
      ap (λ x. Some (bytes_event userdata type.FdWrite 0 (has_no_writer x))) (channel_seen c [] all)
  write_seen userdata (Some (End None None flags form)) all = refl
  write_seen userdata (Some (Terminal which flags)) all = refl
  write_seen userdata (Some (Process p object)) all = refl

  terminate_seen : (userdata : ℕ) (kind : Option OpenKind) → Has (behind S kind)
      → terminate_event userdata (restrict S parts) kind ≡ terminate_event userdata (whole S) kind
  terminate_seen userdata (Some (Process p object)) all = ap (end_event userdata) (status_seen p all)
  terminate_seen userdata None all = refl
  terminate_seen userdata (Some (File node offset flags)) all = refl
  terminate_seen userdata (Some (Directory node flags)) all = refl
  terminate_seen userdata (Some (End reads writes flags form)) all = refl
  terminate_seen userdata (Some (Terminal which flags)) all = refl

  -- what hangs on the open of a descriptor, and on what stands behind it
  open_seen : (f : View → Option OpenKind → Option Event)
      → ((kind : Option OpenKind) → Has (behind S kind) → f (restrict S parts) kind ≡ f (whole S) kind) → f (restrict S parts) None ≡ f (whole S) None
      → (d : Option Descriptor) → Has (reached_by S d) → f (restrict S parts) (open_of (restrict S parts) d) ≡ f (whole S) (open_of (whole S) d)
  open_seen f same none None all = none
  open_seen f same none (Some d) all =
      ap (f (restrict S parts)) (only_seen (has_part parts (at_open d.id)) (get S.opens d.id)
      (all (at_open d.id) (ap (λ b. b || has_part (behind S (get S.opens d.id)) (at_open d.id)) (eq-eqb d.id d.id refl))))
      ∙ same (get S.opens d.id) (λ q h. all q (has_right (at_open d.id ∷ []) (behind S (get S.opens d.id)) q h))

  event_seen : (constants : Constants) (since : ℕ) (table : Table) (userdata : ℕ) (what : What) (rows : List Needed)
      → Has (reached S table (fds_of (wait_row what rows)))
      → event_now constants (restrict S parts) since table userdata what ≡ event_now constants (whole S) since table userdata what
  event_seen constants since table userdata (Clock clock timeout precision flags) rows all = refl
  event_seen constants since table userdata (FdRead fd) rows all =
      open_seen (read_event userdata) (read_seen userdata) refl (get table fd)
      (λ q h. all q (has_left (reached_by S (get table fd)) (reached S table (fds_of rows)) q h))
  event_seen constants since table userdata (FdWrite fd) rows all =
      open_seen (write_event userdata) (write_seen userdata) refl (get table fd)
      (λ q h. all q (has_left (reached_by S (get table fd)) (reached S table (fds_of rows)) q h))
  event_seen constants since table userdata (ProcTerminate fd) rows all =
      open_seen (terminate_event userdata) (terminate_seen userdata) refl (get table fd)
      (λ q h. all q (has_left (reached_by S (get table fd)) (reached S table (fds_of rows)) q h))
  event_seen constants since table userdata (Condvar condvar condvar_word lock lock_word condvar_scope lock_scope) rows all = refl
  event_seen constants since table userdata (LockRdlock lock word scope) rows all = refl
  event_seen constants since table userdata (LockWrlock lock word scope) rows all = refl

  -- the parts of the other subscriptions are there too
  others_seen : (table : Table) (what : What) (rows : List Needed) → Has (reached S table (fds_of (wait_row what rows))) → Has (reached S table (fds_of rows))
  others_seen table (FdRead fd) rows all q h = all q (has_right (reached_by S (get table fd)) (reached S table (fds_of rows)) q h)
  others_seen table (FdWrite fd) rows all q h = all q (has_right (reached_by S (get table fd)) (reached S table (fds_of rows)) q h)
  others_seen table (ProcTerminate fd) rows all q h = all q (has_right (reached_by S (get table fd)) (reached S table (fds_of rows)) q h)
  others_seen table other rows all q h = all q h

  pub events_seen : (constants : Constants) (since : ℕ) (table : Table) (subscriptions : List Subscription)
      → Has (reached S table (fds_of (wait_rows subscriptions)))
      → events_now constants (restrict S parts) since table subscriptions ≡ events_now constants (whole S) since table subscriptions
  events_seen constants since table [] all = refl
  events_seen constants since table (s ∷ rest) all =
      ap (λ e. and_event e (events_now constants (restrict S parts) since table rest)) (event_seen constants since table s.userdata s.what (wait_rows rest) all)
      ∙ ap (and_event (event_now constants (whole S) since table s.userdata s.what))
      (events_seen constants since table rest (others_seen table s.what (wait_rows rest) all))

-- ---- moments

not_not : (b : Bool) → not b ≡ true → b ≡ false
not_not true h = absurd (not_true h)
not_not false h = refl

both_true : (a b : Bool) → (a && b) ≡ true → (a ≡ true) × (b ≡ true)
both_true true b h = (refl, h)
both_true false b h = absurd (not_true h)

-- a deadline that hasn't come had not come before
before_due : (a b : Bool) → (a ≡ true → b ≡ true) → b ≡ false → a ≡ false
before_due true b more h = absurd (not_true (sym h ∙ more refl))
before_due false b more h = refl

absent_if : (b : Bool) (event : Event) → is_absent (if b then Some event else None) ≡ not b
absent_if true event = refl
absent_if false event = refl

module _ (constants : Constants) (v : View) (since : ℕ) (table : Table) where
  -- what isn't ready was not ready before, of all that hangs on time alone
  event_earlier : (before : ℕ) (userdata : ℕ) (what : What) → before ≤ v.clock → is_absent (event_now constants v since table userdata what) ≡ true
      → is_absent (event_now constants (record v { clock = before }) since table userdata what) ≡ true
  event_earlier before userdata (Clock clock timeout precision flags) earlier absent =
      let until = soon (Some (clock_deadline constants since clock timeout flags)) in
      let later : is_due v.clock until ≡ false =
      not_not (is_due v.clock until) (sym (absent_if (is_due v.clock until) (event_of userdata type.Clock)) ∙ absent) in
      absent_if (is_due before until) (event_of userdata type.Clock)
      ∙ ap not (before_due (is_due before until) (is_due v.clock until) (due_later before v.clock until earlier) later)
  event_earlier before userdata (FdRead fd) earlier absent = absent
  event_earlier before userdata (FdWrite fd) earlier absent = absent
  event_earlier before userdata (ProcTerminate fd) earlier absent = absent
  event_earlier before userdata (Condvar condvar condvar_word lock lock_word condvar_scope lock_scope) earlier absent = refl
  event_earlier before userdata (LockRdlock lock word scope) earlier absent = refl
  event_earlier before userdata (LockWrlock lock word scope) earlier absent = refl

  events_earlier : (before : ℕ) (subscriptions : List Subscription) → before ≤ v.clock
      → are_absent (events_now constants v since table subscriptions) ≡ true
      → are_absent (events_now constants (record v { clock = before }) since table subscriptions) ≡ true
  events_earlier before [] earlier absent = refl
  events_earlier before (s ∷ rest) earlier absent =
      let now = event_now constants v since table s.userdata s.what in
      let was = event_now constants (record v { clock = before }) since table s.userdata s.what in
      let both = both_true (is_absent now) (are_absent (events_now constants v since table rest))
      (sym (absent_and now (events_now constants v since table rest)) ∙ absent) in
      absent_and was (events_now constants (record v { clock = before }) since table rest)
      ∙ ap (λ b. b && are_absent (events_now constants (record v { clock = before }) since table rest)) (event_earlier before s.userdata s.what earlier both.0)
      ∙ events_earlier before rest earlier both.1

-- the least of two is one of them
least_is : (m n : ℕ) → (min m n ≡ m) ⊎ (min m n ≡ n)
least_is m n =
    elim (nat_lt n m) as (λ b. nat_lt n m ≡ b → (min m n ≡ m) ⊎ (min m n ≡ n)) [
      | true ↦ λ e. let less = ltb-true n m e in inr (min-eq_right (omega (arith, less)))
      | false ↦ λ e. inl (min-eq_left (ltb-false n m e))
    ] refl

pub sooner_is : (a b : Option ℕ) → (sooner a b ≡ a) ⊎ (sooner a b ≡ b)
sooner_is None b = inr refl
sooner_is (Some m) None = inl refl
sooner_is (Some m) (Some n) = elim (least_is m n) [ inl is ↦ inl (ap Some is) | inr is ↦ inr (ap Some is) ]

-- where the sooner of two deadlines has come, one of them has
pub due_of_sooner : (now : ℕ) (a b : Option ℕ) → is_due now (soon (sooner a b)) ≡ true → (is_due now (soon a) ≡ true) ⊎ (is_due now (soon b) ≡ true)
due_of_sooner now a b due =
    elim (sooner_is a b) [
      | inl is ↦ inl (sym (ap (λ d. is_due now (soon d)) is) ∙ due)
      | inr is ↦ inr (sym (ap (λ d. is_due now (soon d)) is) ∙ due)
    ]

module _ (constants : Constants) (v : View) (since : ℕ) (table : Table) where
  due_event : (userdata : ℕ) (what : What) → is_due v.clock (soon (deadline_in constants since what)) ≡ true
      → is_absent (event_now constants v since table userdata what) ≡ false
  due_event userdata (Clock clock timeout precision flags) due =
      absent_if (has_come constants v.clock since clock timeout flags) (event_of userdata type.Clock) ∙ ap not due
  due_event userdata other due = absurd (not_true due)

  and_false_left : (a b : Bool) → a ≡ false → (a && b) ≡ false
  and_false_left a b h = ap (λ x. x && b) h

  and_false_right : (a b : Bool) → b ≡ false → (a && b) ≡ false
  and_false_right true b h = h
  and_false_right false b h = refl

  pub due_events : (subscriptions : List Subscription) → is_due v.clock (soon (soonest constants since subscriptions)) ≡ true
      → are_absent (events_now constants v since table subscriptions) ≡ false
  due_events [] due = absurd (not_true due)
  due_events (s ∷ rest) due =
      let now = event_now constants v since table s.userdata s.what in
      let more = events_now constants v since table rest in
      absent_and now more
      ∙ elim (due_of_sooner v.clock (deadline_in constants since s.what) (soonest constants since rest) due) [
        | inl one ↦ and_false_left (is_absent now) (are_absent more) (due_event s.userdata s.what one)
        | inr others ↦ and_false_right (is_absent now) (are_absent more) (due_events rest others)
      ]

-- ---- polls that are built

events_poll_is_patient : (subscriptions : List Subscription) → IsPatient (rows_of (events_poll subscriptions) subscriptions)
events_poll_is_patient subscriptions = record {
  patient = λ constants v who table before earlier waits.
      parked_events (events_now constants (record v { clock = before }) who.since table subscriptions)
      ∙ events_earlier constants v who.since table before subscriptions earlier
      (sym (parked_events (events_now constants v who.since table subscriptions)) ∙ waits);
  due = λ _ constants v who table come.
      parked_events (events_now constants v who.since table subscriptions) ∙ due_events constants v who.since table subscriptions come;
  inside = λ v table. refl;
  keeps = refl;
}

events_poll_is_proper : (subscriptions : List Subscription) → IsProper (rows_of (events_poll subscriptions) subscriptions)
events_poll_is_proper subscriptions = record {
  names = (each_row_is_proper (wait_rows subscriptions)).names;
  sees = (each_row_is_proper (wait_rows subscriptions)).sees;
  reads = λ constants S who table.
      let parts = reached S table (fds_of (wait_rows subscriptions)) in
      ap told_or_waits (events_seen S (process_parts who.pid ++ parts) constants who.since table subscriptions
      (λ q h. has_right (process_parts who.pid) parts q h));
  walks = λ S who table. refl;
  sets = λ constants S who table part h.
      told_holds (λ o. IsUnset o part) (events_now constants (whole (tick S)) who.since table subscriptions) (λ event more. refl) refl;
  touched = λ S table part h. absurd (not_true h);
  plain = λ constants v who table.
      told_holds (λ o. OrWaits true who.pid (v.process who.pid) o (IsDeniedOutside [] None o)) (events_now constants v who.since table subscriptions)
      (λ event more. inr (refl, inl refl)) (inl (refl, nothing_set refl refl));
  waits = λ _. events_poll_is_patient subscriptions;
  lacks = λ _. tt;
  others = λ constants v who table q apart _.
      told_holds (λ o. IsUnset o (at_proc q) × IsUnset o (at_status q)) (events_now constants v who.since table subscriptions)
      (λ event more. (refl, refl)) (refl, refl);
  own = λ constants S who table.
      told_holds (λ o. LeavesOwn keeps_own who.pid who.tid o.answer S (put_all o.updates S)) (events_now constants (whole S) who.since table subscriptions)
      (λ event more. inl (own_stays (get S.processes who.pid))) (inl (own_stays (get S.processes who.pid)));
  allows = λ constants S who table. tt;
  carries = λ constants S who table nearly.
      told_holds (AllCarryOn S (table, [], false)) (events_now constants (whole S) who.since table subscriptions) (λ event more. tt) tt;
  valid = λ constants S who table there nearly.
      told_holds (λ o. IsNearlyValid (put_all o.updates S)) (events_now constants (whole S) who.since table subscriptions) (λ event more. nearly) nearly;
}

-- ---- poll

poll_by_is_proper : (lock : Bool) (subscriptions : List Subscription) → IsProper (rows_of (poll_by lock subscriptions) subscriptions)
poll_by_is_proper true [] = events_poll_is_proper []
poll_by_is_proper true (first ∷ rest) = lock_poll_is_proper first rest
poll_by_is_proper false subscriptions = events_poll_is_proper subscriptions

pub poll_is_proper : (subscriptions : List Subscription) → IsProper (poll subscriptions)
poll_is_proper subscriptions = poll_by_is_proper (begins_with_lock subscriptions) subscriptions

-- ---- what holds of each poll

-- what a poll may come to: events are told, or one is with words written; the thread waits with words written, or it begins to wait at a
-- condition variable
pub record HoldsOfPolls (P : Outcome → Type 0) : Type 0 where
  pub told : (event : Event) (more : List Event) → P (replies (events_reply (event ∷ more)))
  pub tells : (userdata : ℕ) (what : What) (errno : Errno) (writes : WordWrites) → P (tells userdata what errno writes)
  pub waits : (writes : WordWrites) → begins_to_sleep (answer.Parked writes) ≡ false → P (parks writes)
  pub sleeps : (p condvar lock : ℕ) (own : ProcessState) → P (sleeps_in p condvar lock (Some own))

lock_holds : (P : Outcome → Type 0) → HoldsOfPolls P → (subscriptions : List Subscription) (constants : Constants) (v : View) (who : Who) (table : Table)
    → P ((lock_poll_of subscriptions).effect constants v who table)
lock_holds P holds [] constants v who table = holds.waits Zero refl
lock_holds P holds (first ∷ rest) constants v who table =
    waited_holds P first.userdata first.what who.pid who.tid who.stage (v.process who.pid) (holds.tells first.userdata first.what) holds.waits
    (λ condvar _ lock _ _ _ own _ _. holds.sleeps who.pid condvar lock own)

by_holds : (P : Outcome → Type 0) → HoldsOfPolls P → (lock : Bool) (subscriptions : List Subscription) (constants : Constants) (v : View) (who : Who)
    (table : Table) → P ((poll_by lock subscriptions).effect constants v who table)
by_holds P holds true subscriptions constants v who table = lock_holds P holds subscriptions constants v who table
by_holds P holds false subscriptions constants v who table =
    told_holds P (events_now constants v who.since table subscriptions) holds.told (holds.waits Zero refl)

pub poll_holds : (P : Outcome → Type 0) → HoldsOfPolls P → (subscriptions : List Subscription) (constants : Constants) (v : View) (who : Who) (table : Table)
    → P ((poll subscriptions).effect constants v who table)
poll_holds P holds subscriptions constants v who table =
    by_holds P holds (begins_with_lock subscriptions) subscriptions constants v who table

-- it has no errors of its own
by_errors : (lock : Bool) (subscriptions : List Subscription) → (poll_by lock subscriptions).errors ≡ []
by_errors true [] = refl
by_errors true (first ∷ rest) = refl
by_errors false subscriptions = refl

pub poll_errors : (subscriptions : List Subscription) → (poll subscriptions).errors ≡ []
poll_errors subscriptions = by_errors (begins_with_lock subscriptions) subscriptions
