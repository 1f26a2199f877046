-- What a wake is given, and what becomes of the output of the call in which the thread waited.
--     events_written, words_written      the events and the words of a poll that is encoded
--     message_written, sent_written      the message of a sock_recv that is encoded, and how much such a sock_send sent
--     given_at_call      what is given to a thread whose registers and memory encode the call
--     woken_read, woken_events, woken_message, woken_sent, woken_word      the output, where a word is given
use Rattle.std.proofs.Common.{◌≡◌, ℕ, ◌*◌, ◌≤◌, inl, inr, List, [], ◌∷◌, length, None, Result, Ok, Err, IsOk, refl, sym, ap, subst, ◌∙◌, arith}
use Rattle.std.specs.Int.{w32, to_le_bytes}
use Rattle.abi_base.specs.declared.errno.Errno.{Errno}
use Rattle.abi_base.specs.Registers.{Registers}
use Rattle.abi_structures.specs.declared.events.Subscription.{Subscription}
use Rattle.abi_structures.specs.declared.events.What.{What}
use Rattle.abi_structures.specs.declared.events.What.TheVariants as what
use Rattle.abi_types.specs.declared.call.Call.TheVariants.{FdRead, Poll, SockRecv, SockSend}
use Rattle.abi_types.specs.declared.call_number.CallNumber.TheVariants as number
use Rattle.abi_types.specs.declared.reply.WordWrites.{WordWrites}
use Rattle.abi_types.specs.declared.reply.WordWrites.TheVariants as words
use Rattle.abi_types.specs.declared.wake.WakeIn.TheVariants.{Plain}
use Rattle.guest_memory.specs.declared.access.Access.TheVariants.{Write}
use Rattle.guest_memory.specs.Bytes.{bytes_from}
use Rattle.guest_memory.specs.Page.{Pages}
use Rattle.guest_memory.specs.Written.{write_of}
use Rattle.guest_memory.proofs.Writes.{SameRights, ok_after}
use Rattle.codec_arguments.specs.Arguments.{argument}
use Rattle.codec_arguments.specs.Bytes.{number_in, word_at, writable}
use Rattle.codec_arguments.specs.Ranges.{room_in}
use Rattle.codec_calls.specs.DescriptorCalls.{fd_read_of}
use Rattle.call_codec.specs.Arguments.{encoded_call, read_of}
use Rattle.call_codec.specs.Given.{awaited_word, first_lock, given_from, has_places, has_room, lock_awaited, word_or_zero}
use Rattle.call_codec.specs.GivenLaws.{GivenAtCall, WokenEventsAreWritten, WokenMessageIsWritten, WokenReadIsWritten, WokenSentIsWritten, WokenWordIsWritten, first_word}
use Rattle.call_codec.specs.Output.{event_bytes, events_bytes, with_word, with_words}
use Rattle.call_codec.specs.OutputLaws.{AreWordsOf, AreWordsWritten, EventsAreWritten, HasWord, MessageIsWritten, SentIsWritten, TakesEvents, WordsAreWritten}
use Rattle.call_codec.proofs.Encoded.{encoded_read}
use Rattle.call_codec.proofs.Events.{events_length}
use Rattle.call_codec.proofs.Layouts.{event_length}
use Rattle.call_codec.proofs.Outputs.{had_ok, read_room, same_after, takes_bytes, write_made}
use Rattle.call_codec.proofs.Polls.{FirstStands, IsPoll, WordsStand, poll_is_read}
use Rattle.call_codec.proofs.Readings.{goes_on, passed}
use Rattle.call_codec.proofs.Sockets.{has_enough, message_encoded, message_given, message_places, room_given, sent_encoded, takes_message, takes_sent}

-- ---- words

-- a word at an address is written, where its bytes may be
pub word_written : (m : Pages) (a word : ℕ) → IsOk (bytes_from Write m a 4) → IsOk (write_of m a (to_le_bytes w32 word))
word_written m a word may = write_made m a 4 (to_le_bytes w32 word) (omega arith) may

pub word_room : (m : Pages) (a word : ℕ) → word_at m a ≡ Ok word → IsOk (bytes_from Write m a 4)
word_room m a word stands =
    let may = passed (writable m a 4) (λ x. number_in m a) word stands in had_ok (bytes_from Write m a 4) may.0 may.1

same_words : (m : Pages) (writes : WordWrites) → SameRights m (with_words m writes)
same_words m words.Zero = λ q. refl
same_words m (words.One write) = same_after m write.address (to_le_bytes w32 write.word)
same_words m (words.Two first second) = λ q.
    same_after m first.address (to_le_bytes w32 first.word) q
    ∙ same_after (with_word m first) second.address (to_le_bytes w32 second.word) q

named_room : (m : Pages) (waited : What) (a : ℕ) → WordsStand m waited → HasWord waited a → IsOk (bytes_from Write m a 4)
named_room m (what.Condvar condvar condvar_word lock lock_word condvar_scope lock_scope) a stands (inl same) =
    subst (λ (b : ℕ). IsOk (bytes_from Write m b 4)) (sym same) (word_room m condvar condvar_word stands.0)
named_room m (what.Condvar condvar condvar_word lock lock_word condvar_scope lock_scope) a stands (inr same) =
    subst (λ (b : ℕ). IsOk (bytes_from Write m b 4)) (sym same) (word_room m lock lock_word stands.1)
named_room m (what.LockRdlock lock word scope) a stands same =
    subst (λ (b : ℕ). IsOk (bytes_from Write m b 4)) (sym same) (word_room m lock word stands)
named_room m (what.LockWrlock lock word scope) a stands same =
    subst (λ (b : ℕ). IsOk (bytes_from Write m b 4)) (sym same) (word_room m lock word stands)
named_room m (what.Clock clock timeout precision flags) a stands none = absurd none
named_room m (what.FdRead fd) a stands none = absurd none
named_room m (what.FdWrite fd) a stands none = absurd none
named_room m (what.ProcTerminate fd) a stands none = absurd none

all_written : (m : Pages) (waited : What) (writes : WordWrites) → WordsStand m waited → AreWordsOf waited writes → AreWordsWritten m writes
all_written m waited words.Zero stands named = tt
all_written m waited (words.One write) stands named = word_written m write.address write.word (named_room m waited write.address stands named)
all_written m waited (words.Two first second) stands named =
    let after = with_word m first in (
      word_written m first.address first.word (named_room m waited first.address stands named.0),
      word_written after second.address second.word
          (ok_after Write m after (same_after m first.address (to_le_bytes w32 first.word)) 4 second.address (named_room m waited second.address stands named.1)),
    )

-- ---- events

takes_events : (m : Pages) (a places most : ℕ) → most ≤ places → IsOk (bytes_from Write m a (32 * places)) → TakesEvents m a most
takes_events m a places most less room = record {
  one = λ writes event some.
      let after = with_words m writes in
      let all = event_length event in (
        all,
        write_made after a (32 * places) (event_bytes event) (omega (arith, less, some, all)) (ok_after Write m after (same_words m writes) (32 * places) a room),
      );
  all = λ writes events few.
      let after = with_words m writes in
      let all = events_length events in (
        all,
        write_made after a (32 * places) (events_bytes events) (omega (arith, less, few, all)) (ok_after Write m after (same_words m writes) (32 * places) a room),
      );
}

-- ---- a poll that is encoded

encoded_poll : (m : Pages) (r : Registers) (left : ℕ) (subscriptions : List Subscription) → Poll subscriptions ≡ encoded_call m r left → IsPoll m r subscriptions
unfolding read_of
encoded_poll m r left subscriptions e = poll_is_read m r subscriptions (encoded_read m r left (Poll subscriptions) number.Poll e refl)

poll_room : (m : Pages) (r : Registers) (subscriptions : List Subscription) → IsPoll m r subscriptions → IsOk (bytes_from Write m (argument r 1) (32 * argument r 2))
poll_room m r subscriptions poll = had_ok (bytes_from Write m (argument r 1) (32 * argument r 2)) tt poll.places

pub events_written : EventsAreWritten
events_written m r left subscriptions e =
    let poll = encoded_poll m r left subscriptions (sym e) in
    let same = poll.count in
    takes_events m (argument r 1) (argument r 2) (length subscriptions) (omega (arith, same)) (poll_room m r subscriptions poll)

pub words_written : WordsAreWritten
words_written m r left first others writes e named =
    all_written m first.what writes (encoded_poll m r left (first ∷ others) (sym e)).words named

-- ---- a call on a socket that is encoded

pub message_written : MessageIsWritten
unfolding read_of
message_written m r left fd most fds flags e =
    takes_message m r most fds
    (message_encoded m r fd most fds flags (encoded_read m r left (SockRecv fd most fds flags) number.SockRecv (sym e) refl))

pub sent_written : SentIsWritten
unfolding read_of
sent_written m r left fd bytes fds flags e =
    takes_sent m r tt (sent_encoded m r fd bytes fds flags (encoded_read m r left (SockSend fd bytes fds flags) number.SockSend (sym e) refl))

-- ---- what is given where the call is encoded

word_stands : (m : Pages) (waited : What) → WordsStand m waited → word_or_zero m (first_lock (record { userdata = 0; what = waited } ∷ [])) ≡ Ok (first_word (record { userdata = 0; what = waited } ∷ []))
word_stands m (what.Condvar condvar condvar_word lock lock_word condvar_scope lock_scope) stands = stands.1
word_stands m (what.LockRdlock lock word scope) stands = stands
word_stands m (what.LockWrlock lock word scope) stands = stands
word_stands m (what.Clock clock timeout precision flags) stands = refl
word_stands m (what.FdRead fd) stands = refl
word_stands m (what.FdWrite fd) stands = refl
word_stands m (what.ProcTerminate fd) stands = refl

first_word_stands : (m : Pages) (subscriptions : List Subscription) → FirstStands m subscriptions → word_or_zero m (first_lock subscriptions) ≡ Ok (first_word subscriptions)
first_word_stands m [] stands = refl
first_word_stands m (first ∷ others) stands = word_stands m first.what stands

poll_given : (m : Pages) (r : Registers) (subscriptions : List Subscription) → IsPoll m r subscriptions → awaited_word m r (Poll subscriptions) ≡ Ok (first_word subscriptions)
poll_given m r subscriptions poll =
    let n = argument r 2 in
    let same = poll.count in
    let room = goes_on (has_room (length subscriptions) n) (λ x. writable m (argument r 1) (32 * n)) tt (has_enough (length subscriptions) n (omega (arith, same))) in
    goes_on (has_places m r (Poll subscriptions)) (λ x. word_or_zero m (first_lock subscriptions)) tt (room ∙ poll.places)
    ∙ first_word_stands m subscriptions poll.words

read_given : (m : Pages) (r : Registers) (fd most : ℕ) → fd_read_of m r ≡ Ok (FdRead fd most) → awaited_word m r (FdRead fd most) ≡ Ok 0
read_given m r fd most is =
    let room = goes_on (room_in m (argument r 1) (argument r 2)) (has_room most) most (read_room m r fd most is) in
    goes_on (has_places m r (FdRead fd most)) (λ x. word_or_zero m None) tt (room ∙ has_enough most most (omega arith))

pub given_at_call : GivenAtCall
unfolding read_of
given_at_call m r left (FdRead fd most) e = ap given_from (read_given m r fd most (encoded_read m r left (FdRead fd most) number.FdRead e refl))
given_at_call m r left (Poll subscriptions) e = ap given_from (poll_given m r subscriptions (encoded_poll m r left subscriptions e))
given_at_call m r left (SockRecv fd most fds flags) e =
    let is = message_given m r most fds (message_encoded m r fd most fds flags (encoded_read m r left (SockRecv fd most fds flags) number.SockRecv e refl)) in
    ap given_from (goes_on (has_places m r (SockRecv fd most fds flags)) (λ x. word_or_zero m None) tt is)
given_at_call m r left (SockSend fd bytes fds flags) e =
    let is = sent_encoded m r fd bytes fds flags (encoded_read m r left (SockSend fd bytes fds flags) number.SockSend e refl) in
    ap given_from (goes_on (has_places m r (SockSend fd bytes fds flags)) (λ x. word_or_zero m None) tt is)
given_at_call m r left call e = refl

-- ---- the output where a word is given

word_given : (found : Result ℕ Errno) (word : ℕ) → given_from found ≡ Plain word → found ≡ Ok word
word_given (Ok other) word e = let same : other ≡ word = cc e in ap Ok same
word_given (Err errno) word e = absurd (cc e)

pub woken_read : WokenReadIsWritten
woken_read m r fd most word given =
    let places = passed (has_places m r (FdRead fd most)) (λ x. word_or_zero m None) word (word_given (awaited_word m r (FdRead fd most)) word given) in
    let room = passed (room_in m (argument r 1) (argument r 2)) (has_room most) places.0 places.1 in
    let less = room_given most room.0 places.0 room.2 in
    let takes = takes_bytes m r room.0 room.1 in
    (takes.0, takes.1, λ bytes few. takes.2 bytes (omega (arith, few, less)))

pub woken_events : WokenEventsAreWritten
woken_events m r subscriptions word given =
    let n = argument r 2 in
    let places =
    passed (has_places m r (Poll subscriptions)) (λ x. word_or_zero m (first_lock subscriptions)) word
    (word_given (awaited_word m r (Poll subscriptions)) word given) in
    let room = passed (has_room (length subscriptions) n) (λ x. writable m (argument r 1) (32 * n)) places.0 places.1 in
    let less = room_given (length subscriptions) n room.0 room.1 in
    takes_events m (argument r 1) n (length subscriptions) less (had_ok (bytes_from Write m (argument r 1) (32 * n)) places.0 room.2)

pub woken_message : WokenMessageIsWritten
woken_message m r fd most fds flags word given =
    let call = SockRecv fd most fds flags in
    let places = passed (has_places m r call) (λ x. word_or_zero m None) word (word_given (awaited_word m r call) word given) in
    takes_message m r most fds (message_places m r most fds places.0 places.1)

pub woken_sent : WokenSentIsWritten
woken_sent m r fd bytes fds flags word given =
    let call = SockSend fd bytes fds flags in
    let places = passed (has_places m r call) (λ x. word_or_zero m None) word (word_given (awaited_word m r call) word given) in
    takes_sent m r places.0 places.1

pub woken_word : WokenWordIsWritten
woken_word m r call lock word becomes waits given =
    let places = passed (has_places m r call) (λ x. word_or_zero m (lock_awaited call)) word (word_given (awaited_word m r call) word given) in
    let stands : word_at m lock ≡ Ok word = sym (ap (word_or_zero m) waits) ∙ places.2 in
    word_written m lock becomes (word_room m lock word stands)
