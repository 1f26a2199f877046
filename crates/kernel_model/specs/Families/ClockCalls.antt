-- Calls on clocks, and for random bytes.
use Rattle.std.specs.Prelude.{ℕ, ◌+◌, ◌^◌, ◌==◌, nat_lt, Bool, true, false, List, [], ◌∷◌, Option, None, Some, if◌then◌else◌}
use Rattle.clock_random.specs.Random.{random_bytes, words_of}
use Rattle.abi_base.specs.declared.errno.Errno.TheVariants.{Again}
use Rattle.abi_base.specs.declared.flags.TheConstants.{CLOCK_REALTIME}
use Rattle.abi_types.specs.declared.constants.Constants.{Constants}
use Rattle.abi_types.specs.declared.reply.Answer.TheVariants as answer
use Rattle.abi_types.specs.declared.reply.Payload.TheVariants.{Content}
use Rattle.abi_types.specs.declared.reply.Reply.{Reply}
use Rattle.kernel_model.specs.Meaning.{Meaning, answering}
use Rattle.kernel_model.specs.Outcome.{Outcome, replies}
use Rattle.kernel_model.specs.OwnChanges.{draws_words, drawn_more}
use Rattle.kernel_model.specs.Reply.{refused, success}
use Rattle.kernel_model.specs.State.{ProcessState, set_process}

-- ---- clocks

-- the time at a moment, in nanoseconds since 1970
abbrev pub real_time : Constants → ℕ → ℕ
real_time constants moment = moment + constants.epoch

-- whether the clock is REALTIME (3), the time since 1970
abbrev pub is_real : ℕ → Bool
is_real clock = clock == CLOCK_REALTIME

-- What a clock shows at a moment: REALTIME the time since 1970, and MONOTONIC (1) the moment. No program's call has another clock.
abbrev pub time_of : Constants → ℕ → ℕ → ℕ
time_of constants clock moment = if is_real clock then real_time constants moment else moment

-- each clock has a resolution of 1000 nanoseconds
abbrev pub clock_res_get : Meaning
clock_res_get = answering [] (success 1000 0)

abbrev pub clock_time_get : ℕ → Meaning
clock_time_get clock = record (answering [] (success 0 0)) { effect = λ constants v who table. replies (success (time_of constants clock v.clock) 0) }

-- ---- random bytes

-- the reply with these random bytes; their count is no result
abbrev pub random_reply : List ℕ → Reply
random_reply bytes = record (success 0 0) { payload = Content bytes }

-- Whether a process can draw so many words more: the count of all that it drew is less than 2^63. No run comes so far that it can't.
abbrev pub can_draw : ℕ → ProcessState → Bool
can_draw words own = nat_lt (own.counts.words + words) (2 ^ 63)

-- so many random bytes of the process, from the place in its stream that it has come to
abbrev pub drawn_if : Bool → Constants → ℕ → ProcessState → ℕ → Outcome
drawn_if true constants p own length = record {
  answer = answer.Reply (random_reply (random_bytes constants.key p own.counts.words length));
  updates = set_process p (drawn_more (words_of length) own) ∷ [];
}
drawn_if false constants p own length = replies (refused Again)

abbrev pub drawn_by : Constants → ℕ → Option ProcessState → ℕ → Outcome
drawn_by constants p None length = replies (refused Again)
drawn_by constants p (Some own) length = drawn_if (can_draw (words_of length) own) constants p own length

-- Random bytes: the next of the stream that has the process's number, by the run's key.
abbrev pub random_get : ℕ → Meaning
random_get length = record (answering (Again ∷ []) (success 0 0)) {
  effect = λ constants v who table. drawn_by constants who.pid (v.process who.pid) length;
  own = draws_words (words_of length);
  takes_memory = true;
}
