-- What is written to the standard streams and read from them: the statements that are the contract of `streams_keep_what_was_written`. What is said of
-- a read and a write is of the state before the release, by which what nothing holds any more ends.
use Rattle.std.specs.Prelude.{◌≡◌, ℕ, List, [], ◌++◌, length, min, None, Some}
use Rattle.std.specs.FinMap.{get, insert}
use Rattle.abi_base.specs.declared.grant.Grant.{Grant}
use Rattle.abi_types.specs.declared.call.Call.{Call}
use Rattle.abi_types.specs.declared.call.Call.TheVariants.{FdRead, FdWrite}
use Rattle.abi_types.specs.declared.constants.Constants.{Constants}
use Rattle.abi_types.specs.declared.descriptor.Descriptor.{Descriptor}
use Rattle.abi_types.specs.declared.open_kind.OpenKind.TheVariants.{Terminal}
use Rattle.abi_types.specs.declared.reply.Answer.{Answer}
use Rattle.abi_types.specs.declared.reply.Answer.TheVariants as answer
use Rattle.abi_types.specs.declared.status.Status.{Status}
use Rattle.abi_types.specs.declared.stream.Stream.{Stream}
use Rattle.abi_types.specs.declared.wake.WakeIn.{WakeIn}
use Rattle.abi_types.specs.declared.who.Who.{Who}
use Rattle.kernel_model.specs.Calls.{refusal}
use Rattle.kernel_model.specs.Reply.{content, success}
use Rattle.kernel_model.specs.Start.{start_state}
use Rattle.kernel_model.specs.State.{State, Table, Tree}
use Rattle.kernel_model.specs.Step.{IsStep, end_state, step_answer, unreleased}
use Rattle.kernel_model.specs.Wakes.{IsWake}
use Rattle.transfer_laws.specs.TransferLaws.{later}

-- ---- writes and reads

-- The process has a descriptor under this number that the call may use, and its open is of the standard stream that has this.
pub record HasStream (S : State) (who : Who) (call : Call) (fd which : ℕ) (stream : Stream) : Type 0 where
  pub table : Table
  pub own : get S.tables who.pid ≡ Some table
  pub allowed : refusal table call ≡ None
  pub d : Descriptor
  pub there : get table fd ≡ Some d
  pub flags : ℕ
  pub opened : get S.opens d.id ≡ Some (Terminal which flags)
  pub stream_there : get S.terms which ≡ Some stream

-- the state 1000 nanoseconds later with the stream so, else as it was
abbrev pub with_stream : State → ℕ → Stream → State
with_stream S which stream = record (later S) { terms = insert S.terms which stream }

-- An fd_write to a standard stream puts all of its bytes behind what was written there before, and answers how many they are.
abbrev pub WritesAppend : Type 0
WritesAppend =
    (constants : Constants) (S : State) (who : Who) (fd which : ℕ) (bytes : List ℕ) (stream : Stream) → HasStream S who (FdWrite fd bytes) fd which stream
    → (step_answer constants S who (FdWrite fd bytes) ≡ answer.Reply (success (length bytes) 0))
    × (unreleased constants S who (FdWrite fd bytes)
    ≡ with_stream S which (record { left = stream.left; written = stream.written ++ bytes }))

-- A read of at most n bytes takes these from the front of what can be read, and leaves these.
pub record TakesFirst (n : ℕ) (left taken rest : List ℕ) : Type 0 where
  pub first : left ≡ taken ++ rest
  pub count : length taken ≡ min n (length left)

-- An fd_read of a standard stream gives what comes first of what can be read, as much as it asks for, and leaves the rest.
abbrev pub ReadsTakeFirst : Type 0
ReadsTakeFirst =
    (constants : Constants) (S : State) (who : Who) (fd which n : ℕ) (stream : Stream) → HasStream S who (FdRead fd n) fd which stream
    → (taken rest : List ℕ) × TakesFirst n stream.left taken rest
    × (step_answer constants S who (FdRead fd n) ≡ answer.Reply (content taken))
    × (unreleased constants S who (FdRead fd n) ≡ with_stream S which (record { left = rest; written = stream.written }))

-- ---- steps

-- A stream goes on: what was written stays in front, and of what can be read nothing goes but from the front.
pub record GoesOnAs (was now : Stream) : Type 0 where
  pub more : List ℕ
  pub read : List ℕ
  pub keeps : now.written ≡ was.written ++ more
  pub takes : was.left ≡ read ++ now.left

-- So does each stream at each step.
abbrev pub StreamsGoOn : Type 0
StreamsGoOn =
    (constants : Constants) (S : State) (who : Who) (call : Call) (given : Answer) (T : State) (which : ℕ) (was : Stream)
    → IsStep constants S who call given T → get S.terms which ≡ Some was → (now : Stream) × GoesOnAs was now × (get T.terms which ≡ Some now)

-- So does it at each wake of a thread that waited in a call.
abbrev pub WakesGoOn : Type 0
WakesGoOn =
    (constants : Constants) (S : State) (who : Who) (call : Call) (given : WakeIn) (answered : Answer) (T : State) (which : ℕ) (was : Stream)
    → IsWake constants S who call given answered T → get S.terms which ≡ Some was → (now : Stream) × GoesOnAs was now × (get T.terms which ≡ Some now)

-- The end of a process from outside changes none.
abbrev pub EndsKeepStreams : Type 0
EndsKeepStreams = (S : State) (p : ℕ) (status : Status) (which : ℕ) → get (end_state S p status).terms which ≡ get S.terms which

-- ---- the beginning

-- A launch begins with the given bytes to be read from standard input (0), with nothing to be read from standard output (1) and from standard error
-- (2), and with nothing written to any.
pub record StreamsBegin : Type 0 where
  pub input : (tree : Tree) (grants : List Grant) (stdin : List ℕ)
      → get (start_state tree grants stdin).terms 0 ≡ Some (record { left = stdin; written = [] })
  pub output : (tree : Tree) (grants : List Grant) (stdin : List ℕ)
      → get (start_state tree grants stdin).terms 1 ≡ Some (record { left = []; written = [] })
  pub error : (tree : Tree) (grants : List Grant) (stdin : List ℕ)
      → get (start_state tree grants stdin).terms 2 ≡ Some (record { left = []; written = [] })
