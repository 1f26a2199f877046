-- What a poll says that was read.
--     poll_is_read      it has as many subscriptions as there is room for events, and the words of its lock and condition variable stand
use Rattle.std.proofs.Common.{◌≡◌, ℕ, zero, suc, ◌*◌, ◌%◌, ◌^◌, ◌+◌, ◌&&◌, not, nat_le, List, [], ◌∷◌, length, Option, Some, None, Result, Ok, Err, refl, sym, ap, subst, ◌∙◌}
use Rattle.abi_base.specs.declared.errno.Errno.{Errno}
use Rattle.abi_base.specs.declared.errno.Errno.TheVariants.{Inval}
use Rattle.abi_base.specs.Registers.{Registers}
use Rattle.abi_structures.specs.declared.events.Subscription.{Subscription}
use Rattle.abi_structures.specs.declared.events.What.{What}
use Rattle.abi_structures.specs.declared.events.What.TheVariants as what
use Rattle.abi_types.specs.declared.call.Call.TheVariants.{Poll}
use Rattle.codec_arguments.specs.Arguments.{argument}
use Rattle.codec_arguments.specs.Arrays.{array_at, in_front}
use Rattle.codec_arguments.specs.Bytes.{bytes_in, word_at, writable}
use Rattle.codec_poll.specs.Poll.{all_found, all_known, allowed, found_at, poll_of, subscription_of, with_words, worded}
use Rattle.codec_poll.specs.declared.polling.TheConstants.{MOST_SUBSCRIPTIONS}
use Rattle.guest_memory.specs.Page.{Pages}
use Rattle.call_codec.proofs.Readings.{not_refused, passed}

-- the words that were read stand at their addresses
abbrev pub WordsStand : Pages → What → Type 0
WordsStand m (what.Condvar condvar condvar_word lock lock_word condvar_scope lock_scope) = (word_at m condvar ≡ Ok condvar_word) × (word_at m lock ≡ Ok lock_word)
WordsStand m (what.LockRdlock lock word scope) = word_at m lock ≡ Ok word
WordsStand m (what.LockWrlock lock word scope) = word_at m lock ≡ Ok word
WordsStand m other = Unit {0}

-- those of the first subscription
abbrev pub FirstStands : Pages → List Subscription → Type 0
FirstStands m [] = Unit {0}
FirstStands m (first ∷ others) = WordsStand m first.what

pub record IsPoll (m : Pages) (r : Registers) (subscriptions : List Subscription) : Type 0 where
  pub count : length subscriptions ≡ argument r 2
  pub places : writable m (argument r 1) (32 * argument r 2) ≡ Ok tt
  pub words : FirstStands m subscriptions

-- ---- lists that were read

front_given : {X : Type 0} (first : Result X Errno) (rest : Result (List X) Errno) (all : List X) → in_front first rest ≡ Ok all
    → (x : X) × (xs : List X) × (first ≡ Ok x) × (rest ≡ Ok xs) × (all ≡ x ∷ xs)
front_given (Ok x) (Ok xs) all e = let same : x ∷ xs ≡ all = cc e in (x, xs, refl, refl, sym same)
front_given (Ok x) (Err errno) all e = absurd (cc e)
front_given (Err errno) rest all e = absurd (cc e)

pub array_length : {X : Type 0} (element : ℕ → Result X Errno) (width a n : ℕ) (all : List X) → array_at element width a n ≡ Ok all → length all ≡ n
unfolding array_at
array_length element width a zero all e = let same : [] ≡ all = cc e in sym (ap length same)
array_length element width a (suc n) all e =
    let front = front_given (element a) (array_at element width ((a + width) % 2 ^ 64) n) all e in
    let rest = array_length element width ((a + width) % 2 ^ 64) n front.1 front.3 in
    ap length front.4 ∙ ap suc rest

array_first : {X : Type 0} (element : ℕ → Result X Errno) (width a n : ℕ) (x : X) (xs : List X) → array_at element width a n ≡ Ok (x ∷ xs) → element a ≡ Ok x
unfolding array_at
array_first element width a zero x xs e = absurd (cc e)
array_first element width a (suc n) x xs e =
    let front = front_given (element a) (array_at element width ((a + width) % 2 ^ 64) n) (x ∷ xs) e in
    let same : front.0 ≡ x = cc (front.4) in
    front.2 ∙ ap Ok same

known_length : (found : List (Option Subscription)) (subscriptions : List Subscription) → all_known found ≡ Ok subscriptions → length subscriptions ≡ length found
known_length [] subscriptions e = let same : [] ≡ subscriptions = cc e in sym (ap length same)
known_length (None ∷ others) subscriptions e = absurd (cc e)
known_length (Some first ∷ others) subscriptions e =
    let front = front_given (Ok first) (all_known others) subscriptions e in
    ap length front.4 ∙ ap suc (known_length others front.1 front.3)

-- ---- words

words_read : (m : Pages) (waits waited : What) → worded m waits ≡ Ok waited → WordsStand m waited
words_read m (what.Condvar condvar condvar_word lock lock_word condvar_scope lock_scope) waited e =
    let first = passed (word_at m condvar) _ waited e in
    let second = passed (word_at m lock) _ waited first.2 in
    let same : what.Condvar condvar first.0 lock second.0 condvar_scope lock_scope ≡ waited = cc (second.2) in
    subst (WordsStand m) same (first.1, second.1)
words_read m (what.LockRdlock lock word scope) waited e =
    let found = passed (word_at m lock) _ waited e in
    let same : what.LockRdlock lock found.0 scope ≡ waited = cc (found.2) in
    subst (WordsStand m) same found.1
words_read m (what.LockWrlock lock word scope) waited e =
    let found = passed (word_at m lock) _ waited e in
    let same : what.LockWrlock lock found.0 scope ≡ waited = cc (found.2) in
    subst (WordsStand m) same found.1
words_read m (what.Clock clock timeout precision flags) waited e =
    let same : what.Clock clock timeout precision flags ≡ waited = cc e in subst (WordsStand m) same tt
words_read m (what.FdRead fd) waited e = let same : what.FdRead fd ≡ waited = cc e in subst (WordsStand m) same tt
words_read m (what.FdWrite fd) waited e = let same : what.FdWrite fd ≡ waited = cc e in subst (WordsStand m) same tt
words_read m (what.ProcTerminate fd) waited e = let same : what.ProcTerminate fd ≡ waited = cc e in subst (WordsStand m) same tt

words_found : (m : Pages) (spelled : Option Subscription) (s : Subscription) → with_words m spelled ≡ Ok (Some s) → WordsStand m s.what
words_found m None s e = absurd (cc e)
words_found m (Some waits) s e =
    let read = passed (worded m waits.what) _ (Some s) e in
    let same : read.0 ≡ s.what = cc (read.2) in
    subst (WordsStand m) same (words_read m waits.what read.0 read.1)

found_stands : (m : Pages) (a : ℕ) (s : Subscription) → found_at m a ≡ Ok (Some s) → WordsStand m s.what
found_stands m a s e =
    let read = passed (bytes_in m a 56) _ (Some s) e in words_found m (subscription_of read.0) s read.2

first_stands : (m : Pages) (a n : ℕ) (found : List (Option Subscription)) (subscriptions : List Subscription) → all_found m a n ≡ Ok found
    → all_known found ≡ Ok subscriptions → FirstStands m subscriptions
first_stands m a n [] subscriptions is e = let same : [] ≡ subscriptions = cc e in subst (FirstStands m) same tt
first_stands m a n (None ∷ others) subscriptions is e = absurd (cc e)
first_stands m a n (Some first ∷ others) subscriptions is e =
    let front = front_given (Ok first) (all_known others) subscriptions e in
    let same : first ≡ front.0 = cc (front.2) in
    let list : first ∷ front.1 ≡ subscriptions = ap (λ s. s ∷ front.1) same ∙ sym front.4 in
    subst (FirstStands m) list (found_stands m a first (array_first (found_at m) 56 a n (Some first) others is))

-- ---- the poll

pub poll_is_read : (m : Pages) (r : Registers) (subscriptions : List Subscription) → poll_of m r ≡ Ok (Poll subscriptions) → IsPoll m r subscriptions
poll_is_read m r subscriptions is =
    let few = not_refused (not (nat_le 1 (argument r 2) && nat_le (argument r 2) MOST_SUBSCRIPTIONS)) Inval _ (Poll subscriptions) is in
    let found = passed (all_found m (argument r 0) (argument r 2)) _ (Poll subscriptions) few.1 in
    let has = passed (writable m (argument r 1) (32 * argument r 2)) _ (Poll subscriptions) found.2 in
    let known = passed (all_known found.0) _ (Poll subscriptions) has.2 in
    let fine = passed (allowed known.0) _ (Poll subscriptions) known.2 in
    let same : known.0 ≡ subscriptions = cc (fine.2) in
    record {
      count =
          sym (ap length same) ∙ known_length found.0 known.0 known.1
          ∙ array_length (found_at m) 56 (argument r 0) (argument r 2) found.0 found.1;
      places = has.1;
      words = subst (FirstStands m) same (first_stands m (argument r 0) (argument r 2) found.0 known.0 found.1 known.1);
    }
