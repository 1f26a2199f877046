-- The event of each subscription of a poll, by the state that it sees.
--     events_told      the events of a poll are those of its subscriptions that are ready
--     none_is_lost, none_is_more      each of these has its event, and each event is of one of these
use Rattle.std.proofs.Common.{◌≡◌, ◌≢◌, ◌⊎◌, inl, inr, ℕ, ◌-◌, ◌^◌, ◌<◌, ◌≤◌, ◌==◌, ◌&&◌, not, Bool, true, false, List, [], ◌∷◌, length, Option, Some, None, refl, sym, ap, subst, ◌∙◌, arith}
use Rattle.std.proofs.lemmas.Bool.Decides.{eqb_tells}
use Rattle.std.proofs.lemmas.List.{length-append}
use Rattle.std.specs.Int.{bit_at}
use Rattle.std.specs.Prelude.{⊤, if◌then◌else◌}
use Rattle.std.specs.FinMap.{get}
use Rattle.std.specs.List.{AllByRecursion}
use Rattle.abi_base.specs.Rights.{Has}
use Rattle.abi_base.specs.declared.rights.Rights.{Rights}
use Rattle.abi_base.specs.declared.rights.TheConstants.Rights.{POLL_FD_READWRITE, POLL_PROC_TERMINATE}
use Rattle.abi_structures.specs.Events.{number_of as type_number, type_of}
use Rattle.abi_structures.specs.declared.events.Event.{Event}
use Rattle.abi_structures.specs.declared.events.EventType.{EventType}
use Rattle.abi_structures.specs.declared.events.EventType.TheVariants as type
use Rattle.abi_structures.specs.declared.events.Subscription.{Subscription}
use Rattle.abi_structures.specs.declared.events.What.{What}
use Rattle.abi_structures.specs.declared.events.What.TheVariants.{Clock, Condvar, FdRead, FdWrite, LockRdlock, LockWrlock, ProcTerminate}
use Rattle.abi_types.specs.OpenTypes.{rights_of}
use Rattle.abi_types.specs.declared.constants.Constants.{Constants}
use Rattle.abi_types.specs.declared.descriptor.Descriptor.{Descriptor}
use Rattle.abi_types.specs.declared.needed.Needed.{Needed}
use Rattle.abi_types.specs.declared.open_kind.OpenKind.{OpenKind}
use Rattle.abi_types.specs.declared.open_kind.OpenKind.TheVariants.{File, Directory, End, Terminal, Process}
use Rattle.abi_types.specs.declared.open_type.OpenType.TheVariants as open_type
use Rattle.abi_types.specs.declared.status.Status.{Status}
use Rattle.abi_types.specs.declared.status.Status.TheVariants.{Live, Exit, Killed}
use Rattle.tree_model.specs.Faults.{some_there}
use Rattle.kernel_model.specs.Channels.{Channel, HasByte, IsChannel, Send, SideState, Gone, Open, Shut, bytes_of, is_empty, is_hung, is_open, must_wait, room}
use Rattle.kernel_model.specs.Deadlines.{is_due, soon}
use Rattle.kernel_model.specs.Families.FileMeaning.{open_of}
use Rattle.kernel_model.specs.Families.Polls.{and_event, bytes_event, end_event, event_now, event_of, events_now, hangup, has_no_reader, has_no_writer, read_event, reading_event, terminate_event, write_event, writing_event}
use Rattle.kernel_model.specs.Families.WaitCalls.{clock_deadline, wait_row, wait_rows}
use Rattle.kernel_model.specs.Fits.{fits}
use Rattle.kernel_model.specs.Laws.{IsMet}
use Rattle.kernel_model.specs.PollLaws.{AreTold, HangsUpWhere, IsEventOf, IsHungUp, IsOfEnded, IsReadable, IsReady, IsWritable, NoneIsLost, NoneIsMore, OnChannel, OnOpen, Tells, TellsBytes, TellsOfEnd, TellsOfRead, TellsOfWrite, passes_over, tells_none, tells_ready}
use Rattle.kernel_model.specs.Proper.{IsIn}
use Rattle.kernel_model.specs.Rows.{base_row}
use Rattle.kernel_model.specs.State.{ProcessState, State, Table}
use Rattle.kernel_model.specs.Valid.{HasBehind, IsNearlyValid}
use Rattle.kernel_model.specs.View.{View, whole}
use Rattle.kernel_model.proofs.FoundOpens.{IsGranted, granted_base, no_end, no_stream, open_there, zero_or_one}
use Rattle.kernel_model.proofs.Lists.{all_weaker, in_all, in_more}
use Rattle.kernel_model.proofs.PollTimes.{come_is, due_only, due_where}
use Rattle.kernel_model.proofs.Tests.{not_true, same_some}

-- ---- sides

opened : (side : SideState) → is_open side ≡ true → side ≡ Open
opened Open h = refl
opened Shut h = absurd (not_true h)
opened Gone h = absurd (not_true h)

closed : (side : SideState) → is_open side ≡ false → side ≢ Open
closed side h e = not_true (sym h ∙ ap is_open e)

-- whether nothing can come any more
hung_up : (reader writer : Bool) → not (reader && writer) ≡ true → (writer ≡ false) ⊎ (reader ≡ false)
hung_up true true h = absurd (not_true h)
hung_up true false h = inl refl
hung_up false writer h = inr refl

both_open : (reader writer : Bool) → not (reader && writer) ≡ false → (reader ≡ true) × (writer ≡ true)
both_open true true h = (refl, refl)
both_open true false h = absurd (not_true (sym h))
both_open false writer h = absurd (not_true (sym h))

is_hung_up : (channel : Channel) → is_hung channel ≡ true → IsHungUp channel
is_hung_up channel h =
    elim (hung_up (is_open channel.reader) (is_open channel.writer) h) [
      | inl written ↦ inl (closed channel.writer written)
      | inr read ↦ inr (closed channel.reader read)
    ]

not_hung_up : (channel : Channel) → is_hung channel ≡ false → ¬ IsHungUp channel
not_hung_up channel h hung =
    let both = both_open (is_open channel.reader) (is_open channel.writer) h in
    elim hung [ inl written ↦ written (opened channel.writer both.1) | inr read ↦ read (opened channel.reader both.0) ]

hangup_is : (P : Type 0) (b : Bool) → (b ≡ true → P) → (b ≡ false → ¬ P) → HangsUpWhere P (hangup b)
hangup_is P true has lacks = inl (has refl, refl)
hangup_is P false has lacks = inr (lacks refl, refl)

hangup_closed : (side : SideState) → HangsUpWhere (side ≢ Open) (hangup (not (is_open side)))
hangup_closed Open = inr ((λ h. h refl), refl)
hangup_closed Shut = inl ((λ e. cc), refl)
hangup_closed Gone = inl ((λ e. cc), refl)

-- ---- channels

-- where a read doesn't wait bytes wait, or nothing more comes; and where it does neither is so
goes_on : (waiting : List Send) (hung : Bool) → AllByRecursion HasByte waiting → (is_empty waiting && not hung) ≡ false
    → (0 < length (bytes_of waiting)) ⊎ (hung ≡ true)
goes_on [] true all h = inr refl
goes_on [] false all h = absurd (not_true (sym h))
goes_on (send ∷ rest) hung all h =
    let some = all.0 in let both = length-append send.bytes (bytes_of rest) in inl (omega (arith, some, both))

waits_for : (waiting : List Send) (hung : Bool) → (is_empty waiting && not hung) ≡ true → (length (bytes_of waiting) ≡ 0) × (hung ≡ false)
waits_for [] true h = absurd (not_true h)
waits_for [] false h = (refl, refl)
waits_for (send ∷ rest) hung h = absurd (not_true h)

fits_one : (n : ℕ) (open_reader : Bool) → ((65536 - n == 0) && open_reader) ≡ false → (n < 65536) ⊎ (open_reader ≡ false)
fits_one n open_reader h =
    elim (eqb_tells (65536 - n) 0) [
      | inl is ↦ inr (sym (ap (λ b. b && open_reader) is.0) ∙ h)
      | inr other ↦ let some = other.1 in inl (omega (arith, some))
    ]

is_full : (n : ℕ) (open_reader : Bool) → ((65536 - n == 0) && open_reader) ≡ true → (65536 ≤ n) × (open_reader ≡ true)
is_full n open_reader h =
    elim (eqb_tells (65536 - n) 0) [
      | inl is ↦ (let none = is.1 in omega (arith, none), sym (ap (λ b. b && open_reader) is.0) ∙ h)
      | inr other ↦ absurd (not_true (sym (ap (λ b. b && open_reader) other.0) ∙ h))
    ]

-- ---- one subscription

-- it has this event where it is ready, and none where it isn't
abbrev IsOne : Type 0 → (Event → Type 0) → Option Event → Type 0
IsOne ready tells None = ¬ ready
IsOne ready tells (Some event) = ready × tells event

module _ (constants : Constants) (S : State) (nearly : IsNearlyValid S) (p : ℕ) (table : Table) (own : get S.tables p ≡ Some table) (since now : ℕ)
    (early : now < 2 ^ 62) (process : ℕ → Option ProcessState) where
  -- what is seen of the state at this moment
  abbrev seen : View
  seen = record (whole S) { clock = now; process = process }

  abbrev subscribed : ℕ → What → Subscription
  subscribed userdata what = record { userdata = userdata; what = what }

  abbrev IsToldOf : ℕ → What → Option Event → Type 0
  IsToldOf userdata what told = IsOne (IsReady constants S table since now what) (IsEventOf S table (subscribed userdata what)) told

  same_channel : (c : ℕ) (channel other : Channel) → get S.chans c ≡ Some channel → get S.chans c ≡ Some other → channel ≡ other
  same_channel c channel other one two = same_some channel other (sym one ∙ two)

  -- ---- clocks

  clock_told : (userdata clock timeout precision flags : ℕ)
      → IsToldOf userdata (Clock clock timeout precision flags)
      (event_now constants seen since table userdata (Clock clock timeout precision flags))
  clock_told userdata clock timeout precision flags =
      let d = clock_deadline constants since clock timeout flags in
      let come = come_is constants since clock timeout flags now in
      elim (is_due now (soon (Some d))) as (λ b. is_due now (soon (Some d)) ≡ b
      → IsToldOf userdata (Clock clock timeout precision flags) (if b then Some (event_of userdata type.Clock) else None)) [
        | true ↦ λ e. (
          come.1 (due_only d now e),
          record {
            userdata = refl;
            kind = refl;
            error = refl;
            tells = record { count = refl; hangup = inr ((λ h. h), refl); signal = refl; code = refl };
          },
        )
        | false ↦ λ e. λ has. not_true (sym e ∙ due_where d now (come.0 has) early)
      ] refl

  -- ---- opens

  -- the open that a descriptor leads to
  record Leads (fd : ℕ) (kind : OpenKind) : Type 0 where
    opens : (d : Descriptor) × (get table fd ≡ Some d) × (get S.opens d.id ≡ Some kind)
    behind : HasBehind S kind

  same_open : (fd : ℕ) (kind other : OpenKind) → Leads fd kind → (d : Descriptor) × (get table fd ≡ Some d) × (get S.opens d.id ≡ Some other)
      → kind ≡ other
  same_open fd kind other leads there =
      let same : leads.opens.0 ≡ there.0 = same_some leads.opens.0 there.0 (sym leads.opens.1 ∙ there.1) in
      same_some kind other (sym leads.opens.2 ∙ ap (λ (d : Descriptor). get S.opens d.id) same ∙ there.2)

  -- what is said of the open says as much of the subscription
  open_told : (ready : OpenKind → Type 0) (tells : Event → OpenKind → Type 0) (fd : ℕ) (kind : OpenKind) (told : Option Event) → Leads fd kind
      → IsOne (ready kind) (λ event. tells event kind) told
      → IsOne (OnOpen S table fd ready) (λ event. OnOpen S table fd (tells event)) told
  open_told ready tells fd kind None leads lacks = λ has. lacks (subst ready (sym (same_open fd kind has.0 leads has.1)) has.2)
  open_told ready tells fd kind (Some event) leads has = ((kind, leads.opens, has.0), (kind, leads.opens, has.1))

  -- and so it does of a channel that is there
  channel_told : (c : ℕ) (channel : Channel) → get S.chans c ≡ Some channel → (ready : Channel → Type 0) (tells : Event → Channel → Type 0)
      (told : Option Event) → IsOne (ready channel) (λ event. tells event channel) told
      → IsOne (OnChannel S c ready) (λ event. OnChannel S c (tells event)) told
  channel_told c channel there ready tells None lacks = λ has. lacks (subst ready (same_channel c has.0 channel has.1 there) has.2)
  channel_told c channel there ready tells (Some event) has = ((channel, there, has.0), (channel, there, has.1))

  -- ---- ends that are read

  reads_told : (userdata : ℕ) (channel : Channel) → IsChannel channel
      → IsOne ((0 < length (bytes_of channel.waiting)) ⊎ IsHungUp channel) (TellsBytes (length (bytes_of channel.waiting)) (IsHungUp channel))
      (reading_event userdata (Some channel))
  reads_told userdata channel sound =
      elim (must_wait 1 channel) as (λ b. must_wait 1 channel ≡ b
      → IsOne ((0 < length (bytes_of channel.waiting)) ⊎ IsHungUp channel) (TellsBytes (length (bytes_of channel.waiting)) (IsHungUp channel))
      (if b then None else Some (bytes_event userdata type.FdRead (length (bytes_of channel.waiting)) (is_hung channel)))) [
        | true ↦ λ e. λ ready. (
            let waits = waits_for channel.waiting (is_hung channel) e in
            elim ready [
              | inl some ↦ let none = waits.0 in omega (arith, none, some)
              | inr hung ↦ not_hung_up channel waits.1 hung
            ])
        | false ↦ λ e. (
          elim (goes_on channel.waiting (is_hung channel) sound.whole e) [
            | inl some ↦ inl some
            | inr hung ↦ inr (is_hung_up channel hung)
          ],
          record {
            count = refl;
            hangup = hangup_is (IsHungUp channel) (is_hung channel) (is_hung_up channel) (not_hung_up channel);
            signal = refl;
            code = refl;
          },
        )
      ] refl

  nothing_told : (userdata : ℕ) (kind : EventType) → TellsBytes 0 ⊥ (bytes_event userdata kind 0 false)
  nothing_told userdata kind = record { count = refl; hangup = inr ((λ h. h), refl); signal = refl; code = refl }

  read_told : (userdata : ℕ) (kind : OpenKind) → HasBehind S kind
      → IsOne (IsReadable S kind) (λ event. TellsOfRead S event kind) (read_event userdata seen (Some kind))
  read_told userdata (File node offset flags) behind = (tt, nothing_told userdata type.FdRead)
  read_told userdata (Directory node flags) behind = (tt, nothing_told userdata type.FdRead)
  read_told userdata (End (Some c) writes flags form) behind =
      let channel : Channel = behind.1.0 in
      subst (λ x. IsOne (IsReadable S (End (Some c) writes flags form)) (λ event. TellsOfRead S event (End (Some c) writes flags form)) (reading_event userdata x))
      (sym behind.1.1)
      (channel_told c channel behind.1.1 (λ x. (0 < length (bytes_of x.waiting)) ⊎ IsHungUp x)
      (λ event x. TellsBytes (length (bytes_of x.waiting)) (IsHungUp x) event) (reading_event userdata (Some channel))
      (reads_told userdata channel (nearly.channels c channel behind.1.1).sound))
  read_told userdata (End None (Some c) flags form) behind =
      let channel : Channel = behind.2.0 in
      subst (λ x. IsOne ⊤ (λ event. TellsOfRead S event (End None (Some c) flags form)) (Some (bytes_event userdata type.FdRead 0 (has_no_reader x))))
      (sym behind.2.1)
      (tt, (channel, behind.2.1, record { count = refl; hangup = hangup_closed channel.reader; signal = refl; code = refl }))
  read_told userdata (End None None flags form) behind = absurd (not_true behind.0)
  read_told userdata (Terminal which flags) behind = (tt, nothing_told userdata type.FdRead)
  read_told userdata (Process q object) behind = (tt, nothing_told userdata type.FdRead)

  -- ---- ends that are written

  writes_told : (userdata : ℕ) (channel : Channel)
      → IsOne ((length (bytes_of channel.waiting) < 65536) ⊎ (channel.reader ≢ Open))
      (TellsBytes (65536 - length (bytes_of channel.waiting)) (channel.reader ≢ Open)) (writing_event userdata (Some channel))
  writes_told userdata channel =
      let n = length (bytes_of channel.waiting) in
      elim ((room channel == 0) && is_open channel.reader) as (λ b. ((room channel == 0) && is_open channel.reader) ≡ b
      → IsOne ((n < 65536) ⊎ (channel.reader ≢ Open)) (TellsBytes (65536 - n) (channel.reader ≢ Open))
      (if b then None else Some (bytes_event userdata type.FdWrite (room channel) (not (is_open channel.reader))))) [
        | true ↦ λ e. λ ready. (
            let full = is_full n (is_open channel.reader) e in
            elim ready [
              | inl some ↦ let most = full.0 in omega (arith, most, some)
              | inr shut ↦ shut (opened channel.reader full.1)
            ])
        | false ↦ λ e. (
          elim (fits_one n (is_open channel.reader) e) [
            | inl some ↦ inl some
            | inr shut ↦ inr (closed channel.reader shut)
          ],
          record { count = refl; hangup = hangup_closed channel.reader; signal = refl; code = refl },
        )
      ] refl

  write_told : (userdata : ℕ) (kind : OpenKind) → HasBehind S kind
      → IsOne (IsWritable S kind) (λ event. TellsOfWrite S event kind) (write_event userdata seen (Some kind))
  write_told userdata (File node offset flags) behind = (tt, nothing_told userdata type.FdWrite)
  write_told userdata (Directory node flags) behind = (tt, nothing_told userdata type.FdWrite)
  write_told userdata (End reads (Some c) flags form) behind =
      let channel : Channel = behind.2.0 in
      subst (λ x. IsOne (IsWritable S (End reads (Some c) flags form)) (λ event. TellsOfWrite S event (End reads (Some c) flags form)) (writing_event userdata x))
      (sym behind.2.1)
      (channel_told c channel behind.2.1 (λ x. (length (bytes_of x.waiting) < 65536) ⊎ (x.reader ≢ Open))
      (λ event x. TellsBytes (65536 - length (bytes_of x.waiting)) (x.reader ≢ Open) event) (writing_event userdata (Some channel))
      (writes_told userdata channel))
  write_told userdata (End (Some c) None flags form) behind =
      let channel : Channel = behind.1.0 in
      subst (λ x. IsOne ⊤ (λ event. TellsOfWrite S event (End (Some c) None flags form)) (Some (bytes_event userdata type.FdWrite 0 (has_no_writer x))))
      (sym behind.1.1)
      (tt, (channel, behind.1.1, record { count = refl; hangup = hangup_closed channel.writer; signal = refl; code = refl }))
  write_told userdata (End None None flags form) behind = absurd (not_true behind.0)
  write_told userdata (Terminal which flags) behind = (tt, nothing_told userdata type.FdWrite)
  write_told userdata (Process q object) behind = (tt, nothing_told userdata type.FdWrite)

  -- ---- processes

  status_told : (userdata q object : ℕ) (status : Status) → get S.statuses q ≡ Some status
      → IsOne (IsOfEnded S (Process q object)) (λ event. TellsOfEnd S event (Process q object)) (end_event userdata (Some status))
  status_told userdata q object Live there = λ ended. ended.2 (same_some ended.0 Live (sym ended.1 ∙ there))
  status_told userdata q object (Exit code) there = (
    (Exit code, there, λ e. cc),
    (Exit code, there, record { nbytes = refl; flags = refl; signal_is = refl; code_is = refl }),
  )
  status_told userdata q object (Killed signal) there = (
    (Killed signal, there, λ e. cc),
    (Killed signal, there, record { nbytes = refl; flags = refl; signal_is = refl; code_is = refl }),
  )

  -- only an open of a process may be waited for so
  end_told : (userdata : ℕ) (kind : OpenKind) → HasBehind S kind → Has (fits kind) 30
      → IsOne (IsOfEnded S kind) (λ event. TellsOfEnd S event kind) (terminate_event userdata seen (Some kind))
  end_told userdata (File node offset flags) behind has = absurd (zero_or_one (bit_at (rights_of open_type.File) 30) refl has)
  end_told userdata (Directory node flags) behind has = absurd (zero_or_one (bit_at (rights_of open_type.Directory) 30) refl has)
  end_told userdata (End reads writes flags form) behind has = absurd (no_end reads writes 30 refl refl refl has)
  end_told userdata (Terminal which flags) behind has = absurd (no_stream which 30 refl refl has)
  end_told userdata (Process q object) behind has =
      let found = some_there (get S.statuses q) behind.0 in
      subst (λ x. IsOne (IsOfEnded S (Process q object)) (λ event. TellsOfEnd S event (Process q object)) (end_event userdata x)) (sym found.1)
      (status_told userdata q object found.0 found.1)

  -- ---- whose event it is

  -- where there is an event it has this number and this type, and no error
  abbrev Names : ℕ → EventType → Option Event → Type 0
  Names userdata kind None = ⊤
  Names userdata kind (Some event) = (event.userdata ≡ userdata) × (event.kind ≡ type_number kind) × (event.error ≡ 0)

  names_unless : (userdata : ℕ) (kind : EventType) (b : Bool) (nbytes : ℕ) (hung : Bool)
      → Names userdata kind (if b then None else Some (bytes_event userdata kind nbytes hung))
  names_unless userdata kind true nbytes hung = tt
  names_unless userdata kind false nbytes hung = (refl, refl, refl)

  reading_names : (userdata : ℕ) (o : Option Channel) → Names userdata type.FdRead (reading_event userdata o)
  reading_names userdata None = (refl, refl, refl)
  reading_names userdata (Some channel) =
      names_unless userdata type.FdRead (must_wait 1 channel) (length (bytes_of channel.waiting)) (is_hung channel)

  read_names : (userdata : ℕ) (kind : OpenKind) → Names userdata type.FdRead (read_event userdata seen (Some kind))
  read_names userdata (File node offset flags) = (refl, refl, refl)
  read_names userdata (Directory node flags) = (refl, refl, refl)
  read_names userdata (End (Some c) writes flags form) = reading_names userdata (get S.chans c)
  read_names userdata (End None (Some c) flags form) = (refl, refl, refl)
  read_names userdata (End None None flags form) = (refl, refl, refl)
  read_names userdata (Terminal which flags) = (refl, refl, refl)
  read_names userdata (Process q object) = (refl, refl, refl)

  writing_names : (userdata : ℕ) (o : Option Channel) → Names userdata type.FdWrite (writing_event userdata o)
  writing_names userdata None = (refl, refl, refl)
  writing_names userdata (Some channel) =
      names_unless userdata type.FdWrite ((room channel == 0) && is_open channel.reader) (room channel) (not (is_open channel.reader))

  write_names : (userdata : ℕ) (kind : OpenKind) → Names userdata type.FdWrite (write_event userdata seen (Some kind))
  write_names userdata (File node offset flags) = (refl, refl, refl)
  write_names userdata (Directory node flags) = (refl, refl, refl)
  write_names userdata (End reads (Some c) flags form) = writing_names userdata (get S.chans c)
  write_names userdata (End (Some c) None flags form) = (refl, refl, refl)
  write_names userdata (End None None flags form) = (refl, refl, refl)
  write_names userdata (Terminal which flags) = (refl, refl, refl)
  write_names userdata (Process q object) = (refl, refl, refl)

  ended_names : (userdata : ℕ) (o : Option Status) → Names userdata type.ProcTerminate (end_event userdata o)
  ended_names userdata None = (refl, refl, refl)
  ended_names userdata (Some Live) = tt
  ended_names userdata (Some (Exit code)) = (refl, refl, refl)
  ended_names userdata (Some (Killed signal)) = (refl, refl, refl)

  end_names : (userdata : ℕ) (kind : OpenKind) → Names userdata type.ProcTerminate (terminate_event userdata seen (Some kind))
  end_names userdata (Process q object) = ended_names userdata (get S.statuses q)
  end_names userdata (File node offset flags) = (refl, refl, refl)
  end_names userdata (Directory node flags) = (refl, refl, refl)
  end_names userdata (End reads writes flags form) = (refl, refl, refl)
  end_names userdata (Terminal which flags) = (refl, refl, refl)

  -- the event is the subscription's
  named_told : (userdata : ℕ) (what : What) (told : Option Event) → Names userdata (type_of what) told
      → IsOne (IsReady constants S table since now what) (λ event. Tells S table event what) told → IsToldOf userdata what told
  named_told userdata what None names lacks = lacks
  named_told userdata what (Some event) names has =
      (has.0, record { userdata = names.0; kind = names.1; error = names.2; tells = has.1 })

  -- ---- each subscription

  -- what is found where a descriptor is there with the right
  record Found (fd : ℕ) (rights : Rights) : Type 0 where
    kind : OpenKind
    is : open_of seen (get table fd) ≡ Some kind
    leads : Leads fd kind
    granted : IsGranted S (base_row fd rights) kind

  found : (fd : ℕ) (rights : Rights) → IsMet table (base_row fd rights) → Found fd rights
  found fd rights met =
      let there = open_there S nearly p fd table met.0 own met.1 in
      let behind = nearly.behind met.0.id there.0 there.1 in
      record {
        kind = there.0;
        is = ap (open_of seen) met.1 ∙ there.1;
        leads = record { opens = (met.0, met.1, there.1); behind = behind };
        granted = record { d = met.0; rights = there.2; has = met.2; behind = behind };
      }

  event_told : (userdata : ℕ) (what : What) (rows : List Needed) → AllByRecursion (IsMet table) (wait_row what rows)
      → IsToldOf userdata what (event_now constants seen since table userdata what)
  event_told userdata (Clock clock timeout precision flags) rows met = clock_told userdata clock timeout precision flags
  event_told userdata (FdRead fd) rows met =
      let f = found fd POLL_FD_READWRITE met.0 in
      subst (λ o. IsToldOf userdata (FdRead fd) (read_event userdata seen o)) (sym f.is)
      (named_told userdata (FdRead fd) (read_event userdata seen (Some f.kind)) (read_names userdata f.kind)
      (open_told (IsReadable S) (TellsOfRead S) fd f.kind (read_event userdata seen (Some f.kind)) f.leads (read_told userdata f.kind f.leads.behind)))
  event_told userdata (FdWrite fd) rows met =
      let f = found fd POLL_FD_READWRITE met.0 in
      subst (λ o. IsToldOf userdata (FdWrite fd) (write_event userdata seen o)) (sym f.is)
      (named_told userdata (FdWrite fd) (write_event userdata seen (Some f.kind)) (write_names userdata f.kind)
      (open_told (IsWritable S) (TellsOfWrite S) fd f.kind (write_event userdata seen (Some f.kind)) f.leads (write_told userdata f.kind f.leads.behind)))
  event_told userdata (ProcTerminate fd) rows met =
      let f = found fd POLL_PROC_TERMINATE met.0 in
      subst (λ o. IsToldOf userdata (ProcTerminate fd) (terminate_event userdata seen o)) (sym f.is)
      (named_told userdata (ProcTerminate fd) (terminate_event userdata seen (Some f.kind)) (end_names userdata f.kind)
      (open_told (IsOfEnded S) (TellsOfEnd S) fd f.kind (terminate_event userdata seen (Some f.kind)) f.leads
      (end_told userdata f.kind f.leads.behind (granted_base f.granted 30 (omega arith) refl refl))))
  event_told userdata (Condvar condvar condvar_word lock lock_word condvar_scope lock_scope) rows met = λ h. h
  event_told userdata (LockRdlock lock word scope) rows met = λ h. h
  event_told userdata (LockWrlock lock word scope) rows met = λ h. h

  others_met : (what : What) (rows : List Needed) → AllByRecursion (IsMet table) (wait_row what rows) → AllByRecursion (IsMet table) rows
  others_met (FdRead fd) rows met = met.1
  others_met (FdWrite fd) rows met = met.1
  others_met (ProcTerminate fd) rows met = met.1
  others_met (Clock clock timeout precision flags) rows met = met
  others_met (Condvar condvar condvar_word lock lock_word condvar_scope lock_scope) rows met = met
  others_met (LockRdlock lock word scope) rows met = met
  others_met (LockWrlock lock word scope) rows met = met

  told_more : (s : Subscription) (rest : List Subscription) (told : Option Event) (events : List Event)
      → IsOne (IsReady constants S table since now s.what) (IsEventOf S table s) told → AreTold constants S table since now rest events
      → AreTold constants S table since now (s ∷ rest) (and_event told events)
  told_more s rest None events lacks more = passes_over s rest events lacks more
  told_more s rest (Some event) events has more = tells_ready s rest event events has.0 has.1 more

  pub events_told : (subscriptions : List Subscription) → AllByRecursion (IsMet table) (wait_rows subscriptions)
      → AreTold constants S table since now subscriptions (events_now constants seen since table subscriptions)
  events_told [] met = tells_none
  events_told (s ∷ rest) met =
      told_more s rest (event_now constants seen since table s.userdata s.what) (events_now constants seen since table rest)
      (event_told s.userdata s.what (wait_rows rest) met) (events_told rest (others_met s.what (wait_rows rest) met))

-- ---- all of them

module _ (constants : Constants) (S : State) (table : Table) (since now : ℕ) where
  -- the subscription is ready, and has an event of these
  abbrev HasItsEvent : List Event → Subscription → Type 0
  HasItsEvent events s = IsReady constants S table since now s.what → (event : Event) × IsIn event events × IsEventOf S table s event

  its_event_more : (event : Event) (events : List Event) (s : Subscription) → HasItsEvent events s → HasItsEvent (event ∷ events) s
  its_event_more event events s has ready = let its = has ready in (its.0, in_more its.0 event events its.1, its.2)

  all_have : (subscriptions : List Subscription) (events : List Event) → AreTold constants S table since now subscriptions events
      → AllByRecursion (HasItsEvent events) subscriptions
  all_have _ _ tells_none = tt
  all_have _ _ (tells_ready s rest event events ready is more) = (
    λ _. (event, ([], events, refl), is),
    all_weaker (HasItsEvent events) (HasItsEvent (event ∷ events)) (its_event_more event events) rest (all_have rest events more),
  )
  all_have _ _ (passes_over s rest events lacks more) = ((λ ready. absurd (lacks ready)), all_have rest events more)

  -- the event is of a subscription of these that is ready
  abbrev IsOfOne : List Subscription → Event → Type 0
  IsOfOne subscriptions event =
      (s : Subscription) × IsIn s subscriptions × IsReady constants S table since now s.what × IsEventOf S table s event

  of_more : (first : Subscription) (rest : List Subscription) (event : Event) → IsOfOne rest event → IsOfOne (first ∷ rest) event
  of_more first rest event of = (of.0, in_more of.0 first rest of.1, of.2, of.3)

  all_are : (subscriptions : List Subscription) (events : List Event) → AreTold constants S table since now subscriptions events
      → AllByRecursion (IsOfOne subscriptions) events
  all_are _ _ tells_none = tt
  all_are _ _ (tells_ready s rest event events ready is more) = (
    (s, ([], rest, refl), ready, is),
    all_weaker (IsOfOne rest) (IsOfOne (s ∷ rest)) (of_more s rest) events (all_are rest events more),
  )
  all_are _ _ (passes_over s rest events lacks more) =
      all_weaker (IsOfOne rest) (IsOfOne (s ∷ rest)) (of_more s rest) events (all_are rest events more)

pub none_is_lost : NoneIsLost
none_is_lost constants S table since now subscriptions events s told here =
    in_all (HasItsEvent constants S table since now events) s subscriptions (all_have constants S table since now subscriptions events told) here

pub none_is_more : NoneIsMore
none_is_more constants S table since now subscriptions events event told here =
    in_all (IsOfOne constants S table since now subscriptions) event events (all_are constants S table since now subscriptions events told) here
