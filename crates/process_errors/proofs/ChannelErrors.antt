-- What reads and writes of ends of channels, sock_send and sock_shutdown come to.
use Rattle.std.proofs.Common.{◌≡◌, ◌≢◌, ◌⊎◌, inl, inr, ℕ, suc, ◌+◌, ◌<◌, ◌==◌, ◌&&◌, not, Bool, true, false, List, [], ◌∷◌, length, Option, Some, None, IsSome, is_some, cond, refl, sym, ap, subst, ◌∙◌, arith}
use Rattle.std.proofs.lemmas.Bool.{eq-eqb, lt-leb, le-leb}
use Rattle.std.proofs.lemmas.Bool.Decides.{eqb_tells}
use Rattle.std.proofs.lemmas.List.{length-append}
use Rattle.std.specs.Prelude.{nat_le}
use Rattle.std.specs.FinMap.{get}
use Rattle.std.specs.List.{AllByRecursion}
use Rattle.abi_base.specs.declared.errno.Errno.TheVariants.{Badf, Notsock}
use Rattle.abi_types.specs.declared.call.Call.TheVariants.{FdRead, FdWrite, SockSend, SockShutdown}
use Rattle.abi_types.specs.declared.chan_kind.ChanKind.{ChanKind}
use Rattle.abi_types.specs.declared.constants.Constants.{Constants}
use Rattle.abi_types.specs.declared.descriptor.Denial.{Denial}
use Rattle.abi_types.specs.declared.descriptor.Descriptor.{Descriptor}
use Rattle.abi_types.specs.declared.open_kind.OpenKind.{OpenKind}
use Rattle.abi_types.specs.declared.open_kind.OpenKind.TheVariants.{File, Directory, End, Terminal, Process}
use Rattle.abi_types.specs.declared.reply.Answer.{Answer}
use Rattle.abi_types.specs.declared.reply.Answer.TheVariants as answer
use Rattle.abi_types.specs.declared.reply.Reply.{Reply}
use Rattle.abi_types.specs.declared.who.Who.{Who}
use Rattle.kernel_model.specs.Calls.{need}
use Rattle.kernel_model.specs.ChannelLaws.{AnswersSend, HasEnd}
use Rattle.kernel_model.specs.Channels.{Channel, HasByte, IsChannel, Send, bytes_of, carried_of, has_room, must_wait, room}
use Rattle.kernel_model.specs.Families.ChannelCalls.{added, picked, send_open, shut_open, written_reply}
use Rattle.kernel_model.specs.Families.ClockCalls.{real_time}
use Rattle.kernel_model.specs.Families.OpenMeaning.{at_descriptor}
use Rattle.kernel_model.specs.Families.StreamCalls.{write_open}
use Rattle.kernel_model.specs.Laws.{HasAll}
use Rattle.kernel_model.specs.Need.{denied_by, first_lack, some_absent}
use Rattle.kernel_model.specs.Reply.{refused}
use Rattle.kernel_model.specs.State.{ProcessState, State, Table}
use Rattle.kernel_model.specs.Step.{step_answer, tick}
use Rattle.kernel_model.specs.View.{View, whole}
use Rattle.kernel_model.proofs.ChannelLaws.{reads_answer, reads_wait, sends_answer, writes_answer}
use Rattle.kernel_model.proofs.Lacks.{all_present}
use Rattle.kernel_model.proofs.Reaches.{all_met}
use Rattle.kernel_model.proofs.Tests.{none_is_no, not_true}
use Rattle.process_errors.specs.ChannelErrors.{FindsNothing, IsFull, IsSocket, PutComesTo, ReadIsListed, SendComesTo, SendIsListed, ShutComesTo, ShutIsListed, TakeComesTo, WriteIsListed, awaits_byte, awaits_room, hung, no_byte, no_room, no_socket, nothing, put, sent, shut, taken, to_channel}
use Rattle.process_errors.specs.Verdicts.{Verdict, verdict_of, IsOpenOn, IsUnrefused}
use Rattle.process_errors.proofs.Ends.{IsOther, hung_is, open_is, opened_on, patient_is, sides_or, socket_or, sound_channel, waits_or, writer_there}
use Rattle.process_errors.proofs.Tables.{answer_is, below, listed}

-- ---- room

zero_is : (n : ℕ) → n ≡ 0 → not (n == 0) ≡ false
zero_is n is = ap not (eq-eqb n 0 is)

some_is : (n : ℕ) → 0 < n → not (n == 0) ≡ true
some_is n some = elim (eqb_tells n 0) [ inl none ↦ (let is = none.1 in absurd (omega (arith, is, some))) | inr other ↦ ap not other.0 ]

and_false : (a b : Bool) → (a ≡ false) ⊎ (b ≡ false) → (a && b) ≡ false
and_false true b (inl isnt) = absurd (not_true (sym isnt))
and_false true b (inr isnt) = isnt
and_false false b some = refl

module _ (count : ℕ) (channel : Channel) where
  full_is : IsFull count channel → has_room count channel ≡ false
  full_is full =
      and_false (not (room channel == 0)) (nat_le (length (carried_of channel.waiting) + count) 64) (elim full [
        | inl bytes ↦ inl (zero_is (room channel) (omega (arith, bytes)))
        | inr carried ↦ inr (lt-leb (length (carried_of channel.waiting) + count) 64 carried)
      ])

  room_is : ¬ IsFull count channel → has_room count channel ≡ true
  room_is isnt = λ i. bytes i && carried i where
    bytes : not (room channel == 0) ≡ true
    bytes =
        elim (below (length (bytes_of channel.waiting)) 65536) [
          | inl few ↦ some_is (room channel) (omega (arith, few))
          | inr many ↦ absurd (isnt (inl many))
        ]

    carried : nat_le (length (carried_of channel.waiting) + count) 64 ≡ true
    carried =
        elim (below 64 (length (carried_of channel.waiting) + count)) [
          | inl many ↦ absurd (isnt (inr many))
          | inr few ↦ le-leb (length (carried_of channel.waiting) + count) 64 few
        ]

  full_or : IsFull count channel ⊎ (¬ IsFull count channel)
  full_or =
      elim (below (length (bytes_of channel.waiting)) 65536) [
        | inr many ↦ inl (inl many)
        | inl few ↦ elim (below 64 (length (carried_of channel.waiting) + count)) [
          | inl more ↦ inl (inr more)
          | inr less ↦ inr (λ full. elim full [ inl many ↦ omega (arith, few, many) | inr more ↦ omega (arith, less, more) ])
        ]
      ]

-- ---- writes

module _ (reply : ℕ → Reply) (size count mode : ℕ) (channel : Channel) where
  put_sound : (is : Answer) → (size ≡ 0 → is ≡ answer.Reply (reply 0)) → (0 < size → AnswersSend reply size count mode channel is)
      → (given : Answer) → PutComesTo reply size count mode channel given → given ≡ is
  put_sound is none some given (nothing zero_size) = sym (none zero_size)
  put_sound is none some given (hung bytes closed) = sym ((some bytes).0 (hung_is channel closed))
  put_sound is none some given (no_room bytes opened full quick) = sym ((some bytes).2 (open_is channel opened) (full_is count channel full) quick)
  put_sound is none some given (awaits_room bytes opened full patient) =
      sym ((some bytes).1 (open_is channel opened) (full_is count channel full) (patient_is mode patient))
  put_sound is none some given (put bytes opened fits) = sym ((some bytes).3 (open_is channel opened) (room_is count channel fits))

  put_some : (given : Answer) × PutComesTo reply size count mode channel given
  put_some =
      elim (below 0 size) [
        | inr none ↦ (_, nothing (omega (arith, none)))
        | inl bytes ↦ elim (sides_or channel) [
          | inr closed ↦ (_, hung bytes closed)
          | inl opened ↦ elim (full_or count channel) [
            | inr fits ↦ (_, put bytes opened fits)
            | inl full ↦ elim (waits_or mode) [
              | inl quick ↦ (_, no_room bytes opened full quick)
              | inr patient ↦ (_, awaits_room bytes opened full (λ quick. quick patient))
            ]
          ]
        ]
      ]

module _ (constants : Constants) (S : State) (who : Who) (fd : ℕ) (table : Table) (own : ProcessState) (reads : Option ℕ) (w mode : ℕ) (form : ChanKind)
    (channel : Channel) (opened : IsOpenOn S table fd (End reads (Some w) mode form)) (there : get S.chans w ≡ Some channel) where
  write_none : (bytes : List ℕ) → IsUnrefused S who (FdWrite fd bytes) table own → length bytes ≡ 0
      → step_answer constants S who (FdWrite fd bytes) ≡ answer.Reply (written_reply 0)
  write_none [] unrefused none =
      answer_is constants S who (FdWrite fd []) table own unrefused
      ∙ ap (λ d. (at_descriptor (write_open (real_time constants (tick S).clock) (whole (tick S)) []) (whole (tick S)) d).answer) opened.1
      ∙ ap (λ kind. (write_open (real_time constants (tick S).clock) (whole (tick S)) [] opened.0.id kind).answer) opened.2
  write_none (b ∷ bytes) unrefused none = absurd (omega (arith, none))

  write_some : (bytes : List ℕ) → IsUnrefused S who (FdWrite fd bytes) table own → 0 < length bytes
      → AnswersSend written_reply (length bytes) 0 mode channel (step_answer constants S who (FdWrite fd bytes))
  write_some [] unrefused some = absurd (omega (arith, some))
  write_some (b ∷ bytes) unrefused some =
      writes_answer constants S who fd b bytes reads w mode channel
      (record { table = table; own = unrefused.had; allowed = unrefused.allowed; d = opened.0; there = opened.1; form = form; opened = opened.2 }) there

pub write_is_listed : WriteIsListed
write_is_listed constants S who fd bytes table own reads w mode form channel given unrefused opened there =
    listed (PutComesTo written_reply (length bytes) 0 mode channel) (step_answer constants S who (FdWrite fd bytes))
    (put_sound written_reply (length bytes) 0 mode channel (step_answer constants S who (FdWrite fd bytes))
    (write_none constants S who fd table own reads w mode form channel opened there bytes unrefused)
    (write_some constants S who fd table own reads w mode form channel opened there bytes unrefused))
    (put_some written_reply (length bytes) 0 mode channel) given

-- ---- sends

-- each number that is listed has a descriptor
picked_all : (table : Table) (fds : List ℕ) → HasAll table fds → length (picked table fds) ≡ length fds
picked_all table [] all = refl
picked_all table (fd ∷ fds) all = by (get table fd) refl all.0 (picked_all table fds all.1) where
  by : (o : Option Descriptor) → get table fd ≡ o → IsSome (get table fd) → length (picked table fds) ≡ length fds
      → length (picked table (fd ∷ fds)) ≡ suc (length fds)
  by None none some more = absurd (not_true (sym (ap (λ x. is_some x) none) ∙ some))
  by (Some d) there some more = ap (λ x. length (added x (picked table fds))) there ∙ ap suc more

present : (absent : Bool) (lack : Option Denial) → cond absent (Some (refused Badf)) (denied_by lack) ≡ None → absent ≡ false
present true lack h = absurd (none_is_no (refused Badf) (sym h))
present false lack h = refl

module _ (constants : Constants) (S : State) (who : Who) (fd : ℕ) (bytes fds : List ℕ) (flags : ℕ) (table : Table) (own : ProcessState)
    (unrefused : IsUnrefused S who (SockSend fd bytes fds flags) table own) where
  all_there : HasAll table (fd ∷ fds)
  all_there =
      all_present table (fd ∷ fds)
      (present (some_absent table (fd ∷ fds)) (first_lack table (need (SockSend fd bytes fds flags))) unrefused.allowed)

  sent_as : (kind : OpenKind) → IsOpenOn S table fd kind
      → (send_open (whole (tick S)) bytes (picked table fds) (Some kind)).answer ≡ step_answer constants S who (SockSend fd bytes fds flags)
  sent_as kind opened =
      sym (answer_is constants S who (SockSend fd bytes fds flags) table own unrefused
      ∙ ap (λ d. (at_descriptor (λ o. send_open (whole (tick S)) bytes (picked table fds)) (whole (tick S)) d).answer) opened.1
      ∙ ap (λ kind. (send_open (whole (tick S)) bytes (picked table fds) kind).answer) opened.2)

send_other : (v : View) (bytes : List ℕ) (carried : List Descriptor) (kind : OpenKind) → IsOther kind
    → answer.Reply (refused Notsock) ≡ (send_open v bytes carried (Some kind)).answer
send_other v bytes carried (File node offset flags) other = refl
send_other v bytes carried (Directory node flags) other = refl
send_other v bytes carried (End None writes mode form) other = refl
send_other v bytes carried (End (Some r) None mode form) other = refl
send_other v bytes carried (End (Some r) (Some w) mode form) other = absurd (other r w mode form refl)
send_other v bytes carried (Terminal which flags) other = refl
send_other v bytes carried (Process p object) other = refl

module _ (constants : Constants) (S : State) (who : Who) (fd : ℕ) (fds : List ℕ) (flags : ℕ) (table : Table) (own : ProcessState) where
  send_none : (bytes : List ℕ) → IsUnrefused S who (SockSend fd bytes fds flags) table own → (r w mode : ℕ) → IsSocket S table fd r w mode
      → length bytes ≡ 0 → step_answer constants S who (SockSend fd bytes fds flags) ≡ answer.Reply (sent 0)
  send_none [] unrefused r w mode socket none =
      sym (sent_as constants S who fd [] fds flags table own unrefused (End (Some r) (Some w) mode socket.0) socket.1)
  send_none (b ∷ bytes) unrefused r w mode socket none = absurd (omega (arith, none))

  send_some : (bytes : List ℕ) → IsUnrefused S who (SockSend fd bytes fds flags) table own → (r w mode : ℕ) (channel : Channel) → IsSocket S table fd r w mode
      → get S.chans w ≡ Some channel → 0 < length bytes
      → AnswersSend sent (length bytes) (length fds) mode channel (step_answer constants S who (SockSend fd bytes fds flags))
  send_some [] unrefused r w mode channel socket there some = absurd (omega (arith, some))
  send_some (b ∷ bytes) unrefused r w mode channel socket there some =
      subst (λ n. AnswersSend sent (length (b ∷ bytes)) n mode channel (step_answer constants S who (SockSend fd (b ∷ bytes) fds flags)))
      (picked_all table fds (all_there constants S who fd (b ∷ bytes) fds flags table own unrefused).1)
      (sends_answer constants S who fd b bytes fds flags r w mode channel
      (record { table = table; own = unrefused.had; allowed = unrefused.allowed; d = socket.1.0; there = socket.1.1; form = socket.0; opened = socket.1.2 }) there)

module _ (constants : Constants) (S : State) (who : Who) (fd : ℕ) (bytes fds : List ℕ) (flags : ℕ) (table : Table) (own : ProcessState)
    (unrefused : IsUnrefused S who (SockSend fd bytes fds flags) table own) where
  send_sound : (given : Answer) → SendComesTo S table fd (length bytes) (length fds) given
      → given ≡ step_answer constants S who (SockSend fd bytes fds flags)
  send_sound given (no_socket other) =
      send_other (whole (tick S)) bytes (picked table fds) other.0 other.2
      ∙ sent_as constants S who fd bytes fds flags table own unrefused other.0 other.1
  send_sound given (to_channel r w mode channel g socket there line) =
      put_sound sent (length bytes) (length fds) mode channel (step_answer constants S who (SockSend fd bytes fds flags))
      (send_none constants S who fd fds flags table own bytes unrefused r w mode socket)
      (send_some constants S who fd fds flags table own bytes unrefused r w mode channel socket there) g line

  send_line : (given : Answer) × SendComesTo S table fd (length bytes) (length fds) given
  send_line =
      let met = (all_met (SockSend fd bytes fds flags) table unrefused.allowed).0 in
      let found = opened_on S unrefused.valid who.pid fd table met.0 unrefused.had met.1 in
      elim (socket_or found.0) [
        | inr other ↦ (_, no_socket (found.0, found.1, other))
        | inl is ↦ (
            let socket : IsSocket S table fd is.0 is.1 is.2 = (is.3, subst (IsOpenOn S table fd) is.4 found.1) in
            let channel = writer_there S unrefused.valid table fd (Some is.0) is.1 is.2 is.3 socket.1 in
            let line = put_some sent (length bytes) (length fds) is.2 channel.0 in
            (line.0, to_channel is.0 is.1 is.2 channel.0 line.0 socket channel.1 line.1))
      ]

pub send_is_listed : SendIsListed
send_is_listed constants S who fd bytes fds flags table own given unrefused =
    listed (SendComesTo S table fd (length bytes) (length fds)) (step_answer constants S who (SockSend fd bytes fds flags))
    (send_sound constants S who fd bytes fds flags table own unrefused) (send_line constants S who fd bytes fds flags table own unrefused) given

-- ---- shutting

shut_other : (v : View) (how : ℕ) (kind : OpenKind) → IsOther kind → answer.Reply (refused Notsock) ≡ (shut_open v how (Some kind)).answer
shut_other v how (File node offset flags) other = refl
shut_other v how (Directory node flags) other = refl
shut_other v how (End None writes mode form) other = refl
shut_other v how (End (Some r) None mode form) other = refl
shut_other v how (End (Some r) (Some w) mode form) other = absurd (other r w mode form refl)
shut_other v how (Terminal which flags) other = refl
shut_other v how (Process p object) other = refl

module _ (constants : Constants) (S : State) (who : Who) (fd how : ℕ) (table : Table) (own : ProcessState)
    (unrefused : IsUnrefused S who (SockShutdown fd how) table own) where
  shut_as : (kind : OpenKind) → IsOpenOn S table fd kind
      → (shut_open (whole (tick S)) how (Some kind)).answer ≡ step_answer constants S who (SockShutdown fd how)
  shut_as kind opened =
      sym (answer_is constants S who (SockShutdown fd how) table own unrefused
      ∙ ap (λ d. (at_descriptor (λ o. shut_open (whole (tick S)) how) (whole (tick S)) d).answer) opened.1
      ∙ ap (λ kind. (shut_open (whole (tick S)) how kind).answer) opened.2)

  shut_sound : (given : Answer) → ShutComesTo S table fd given → given ≡ step_answer constants S who (SockShutdown fd how)
  shut_sound given (no_socket other) = shut_other (whole (tick S)) how other.0 other.2 ∙ shut_as other.0 other.1
  shut_sound given (shut r w mode socket) = shut_as (End (Some r) (Some w) mode socket.0) socket.1

  shut_some : (given : Answer) × ShutComesTo S table fd given
  shut_some =
      let met = (all_met (SockShutdown fd how) table unrefused.allowed).0 in
      let found = opened_on S unrefused.valid who.pid fd table met.0 unrefused.had met.1 in
      elim (socket_or found.0) [
        | inr other ↦ (_, no_socket (found.0, found.1, other))
        | inl is ↦ (_, shut is.0 is.1 is.2 (is.3, subst (IsOpenOn S table fd) is.4 found.1))
      ]

pub shut_is_listed : ShutIsListed
shut_is_listed constants S who fd how table own given unrefused =
    listed (ShutComesTo S table fd) (step_answer constants S who (SockShutdown fd how)) (shut_sound constants S who fd how table own unrefused)
    (shut_some constants S who fd how table own unrefused) given

-- ---- reads

-- where each send has a byte and no byte waits, no send does
pub none_wait : (waiting : List Send) → AllByRecursion HasByte waiting → length (bytes_of waiting) ≡ 0 → waiting ≡ []
none_wait [] whole none = refl
none_wait (send ∷ rest) whole none =
    let some : 0 < length send.bytes = whole.0 in
    let both = length-append send.bytes (bytes_of rest) in
    absurd (omega (arith, some, both, none))

module _ (n : ℕ) (channel : Channel) (sound : IsChannel channel) where
  pub nothing_is : FindsNothing n channel → must_wait n channel ≡ true
  nothing_is finds =
      let asks = finds.0 in
      (reads_wait n channel).1 ((λ is. omega (arith, is, asks)), none_wait channel.waiting sound.whole finds.1, finds.2.0, finds.2.1)

  pub something_is : must_wait n channel ≡ true → FindsNothing n channel
  something_is waits =
      let is = (reads_wait n channel).0 waits in
      (positive n is.0, ap (λ sends. length (bytes_of sends)) is.1, (is.2, is.3)) where
        positive : (k : ℕ) → k ≢ 0 → 0 < k
        positive k other = elim (below 0 k) [ inl some ↦ some | inr none ↦ absurd (other (omega (arith, none))) ]

  pub nothing_or : FindsNothing n channel ⊎ (¬ FindsNothing n channel)
  nothing_or =
      elim (must_wait n channel) as (λ b. must_wait n channel ≡ b → FindsNothing n channel ⊎ (¬ FindsNothing n channel)) [
        | true ↦ λ is. inl (something_is is)
        | false ↦ λ isnt. inr (λ finds. not_true (sym isnt ∙ nothing_is finds))
      ] refl

  goes_on : ¬ FindsNothing n channel → must_wait n channel ≡ false
  goes_on isnt =
      elim (must_wait n channel) as (λ b. must_wait n channel ≡ b → b ≡ false) [
        | true ↦ λ is. absurd (isnt (something_is is))
        | false ↦ λ _. refl
      ] refl

module _ (constants : Constants) (S : State) (who : Who) (fd n : ℕ) (table : Table) (own : ProcessState) (r : ℕ) (writes : Option ℕ) (mode : ℕ)
    (form : ChanKind) (channel : Channel) (unrefused : IsUnrefused S who (FdRead fd n) table own)
    (opened : IsOpenOn S table fd (End (Some r) writes mode form)) (there : get S.chans r ≡ Some channel) where
  read_has : HasEnd S who (FdRead fd n) fd (Some r) writes mode
  read_has =
      record { table = table; own = unrefused.had; allowed = unrefused.allowed; d = opened.0; there = opened.1; form = form; opened = opened.2 }

  read_sound : (verdict : Verdict) → TakeComesTo n mode channel verdict → verdict ≡ verdict_of (step_answer constants S who (FdRead fd n))
  read_sound verdict (no_byte finds quick) =
      sym (ap verdict_of ((reads_answer constants S who fd n r mode writes channel read_has there).1
      (nothing_is n channel (sound_channel S unrefused.valid r channel there) finds) quick))
  read_sound verdict (awaits_byte finds patient) =
      sym (ap verdict_of ((reads_answer constants S who fd n r mode writes channel read_has there).0
      (nothing_is n channel (sound_channel S unrefused.valid r channel there) finds) (patient_is mode patient)))
  read_sound verdict (taken isnt) =
      sym (ap verdict_of ((reads_answer constants S who fd n r mode writes channel read_has there).2
      (goes_on n channel (sound_channel S unrefused.valid r channel there) isnt)))

  read_some : (verdict : Verdict) × TakeComesTo n mode channel verdict
  read_some =
      elim (nothing_or n channel (sound_channel S unrefused.valid r channel there)) [
        | inr isnt ↦ (_, taken isnt)
        | inl finds ↦ elim (waits_or mode) [
          | inl quick ↦ (_, no_byte finds quick)
          | inr patient ↦ (_, awaits_byte finds (λ quick. quick patient))
        ]
      ]

pub read_is_listed : ReadIsListed
read_is_listed constants S who fd n table own r writes mode form channel verdict unrefused opened there =
    listed (TakeComesTo n mode channel) (verdict_of (step_answer constants S who (FdRead fd n)))
    (read_sound constants S who fd n table own r writes mode form channel unrefused opened there)
    (read_some constants S who fd n table own r writes mode form channel unrefused opened there) verdict
