-- What reads, writes and seeks of files give and leave: the statements that are the contract of `files_keep_what_is_written`. Each speaks of the state
-- before the release, by which what nothing holds any more ends.
use Rattle.std.specs.Prelude.{◌≡◌, ◌≢◌, ◌⊎◌, ℕ, ◌+◌, ◌-◌, ◌*◌, ◌^◌, ◌<◌, ◌≤◌, List, [], ◌∷◌, ◌++◌, length, min, replicate, bit_and, Some, IsSome}
use Rattle.std.specs.FinMap.{get, insert}
use Rattle.abi_types.specs.declared.call.Call.TheVariants.{FdPread, FdPwrite, FdRead, FdSeek, FdWrite, MemMap}
use Rattle.abi_types.specs.declared.constants.Constants.{Constants}
use Rattle.abi_types.specs.declared.node.Node.{Node}
use Rattle.abi_types.specs.declared.node.NodeKind.TheVariants as kind
use Rattle.abi_types.specs.declared.open_kind.OpenKind.TheVariants.{File}
use Rattle.abi_types.specs.declared.reply.Payload.TheVariants.{Content}
use Rattle.abi_types.specs.declared.place.Place.TheVariants.{At}
use Rattle.abi_types.specs.declared.reply.Answer.TheVariants as answer
use Rattle.abi_types.specs.declared.who.Who.{Who}
use Rattle.kernel_model.specs.Reply.{content, success}
use Rattle.kernel_model.specs.State.{State}
use Rattle.kernel_model.specs.Step.{step_answer, unreleased}
use Rattle.transfer_laws.specs.TouchLaws.{HasFile}
use Rattle.transfer_laws.specs.TransferLaws.{later}

-- the node is a file with these bytes
pub record IsFileWith (S : State) (node : ℕ) (bytes : List ℕ) : Type 0 where
  pub was : Node
  pub there : get S.nodes node ≡ Some was
  pub is : was.kind ≡ kind.File bytes

-- the state 1000 nanoseconds later, in which the open is at this place of its file, else as it was
abbrev pub with_place : State → ℕ → ℕ → ℕ → ℕ → State
with_place S o node place flags = record (later S) { opens = insert S.opens o (File node place flags) }

-- ---- reads

-- The piece is what a file with these bytes has from this place on: so many bytes, or as many as there are.
pub record IsPiece (place n : ℕ) (bytes piece : List ℕ) : Type 0 where
  pub front : List ℕ
  pub behind : List ℕ
  pub whole : bytes ≡ front ++ (piece ++ behind)
  pub begins : length front ≡ min place (length bytes)
  pub count : length piece ≡ min n (length bytes - place)

-- A mapping of this many bytes is of so many pages of 4096 bytes: as few as have room for them.
abbrev pub ArePages : ℕ → ℕ → Type 0
ArePages size pages = (size ≤ pages * 4096) × (pages * 4096 < size + 4096)

pub record FilesAreRead : Type 0 where
  -- A read at a place of its own gives the piece there, and moves nothing.
  pub preads : (constants : Constants) (S : State) (who : Who) (fd n place o node : ℕ) (bytes : List ℕ)
      → HasFile S who (FdPread fd n place) fd o node → IsFileWith S node bytes
      → (piece : List ℕ) × IsPiece place n bytes piece × (step_answer constants S who (FdPread fd n place) ≡ answer.Reply (content piece))
      × (unreleased constants S who (FdPread fd n place) ≡ later S)
  -- Any other gives the piece at the open's offset, which is behind it then.
  pub reads : (constants : Constants) (S : State) (who : Who) (fd n o node : ℕ) (bytes : List ℕ) (has : HasFile S who (FdRead fd n) fd o node)
      → IsFileWith S node bytes
      → (piece : List ℕ) × IsPiece has.offset n bytes piece × (step_answer constants S who (FdRead fd n) ≡ answer.Reply (content piece))
      × (unreleased constants S who (FdRead fd n) ≡ with_place S o node (has.offset + length piece) has.flags)
  -- A mapping without ANON (1) has in its pages what the file has from its place on.
  pub maps : (constants : Constants) (S : State) (who : Who) (address size prot flags fd place o node : ℕ) (bytes : List ℕ) → bit_and flags 1 ≡ 0
      → HasFile S who (MemMap (At address) size prot flags fd place) fd o node → IsFileWith S node bytes
      → (pages : ℕ) × (piece : List ℕ) × ArePages size pages × IsPiece place (pages * 4096) bytes piece
      × (step_answer constants S who (MemMap (At address) size prot flags fd place) ≡ answer.Reply (record (success address 0) { payload = Content piece }))
      × (unreleased constants S who (MemMap (At address) size prot flags fd place) ≡ later S)
  -- One with ANON is of zeros at its address, and looks at no descriptor.
  pub zeros : (constants : Constants) (S : State) (who : Who) (address size prot flags fd place : ℕ) → bit_and flags 1 ≢ 0 → IsSome (get S.tables who.pid)
      → (step_answer constants S who (MemMap (At address) size prot flags fd place) ≡ answer.Reply (success address 0))
      × (unreleased constants S who (MemMap (At address) size prot flags fd place) ≡ later S)

-- ---- writes

-- Of the bytes so many as a file of 67,108,864 bytes has room for from this place on stand there now. What was in front of it is there still, and
-- zeros up to it; of what was behind it as many bytes are gone as came.
pub record IsWritten (place : ℕ) (bytes was now : List ℕ) (count : ℕ) : Type 0 where
  pub sent : List ℕ
  pub unsent : List ℕ
  pub first : bytes ≡ sent ++ unsent
  pub sent_count : length sent ≡ min (length bytes) (67108864 - place)
  pub front : List ℕ
  pub gone : List ℕ
  pub behind : List ℕ
  pub before : was ≡ front ++ (gone ++ behind)
  pub front_count : length front ≡ min place (length was)
  pub gone_count : length gone ≡ min (length sent) (length was - place)
  pub after : now ≡ front ++ (replicate (place - length was) 0 ++ (sent ++ behind))
  pub told : count ≡ length sent

-- the file with these bytes, whose bytes and whose node were changed at this time
abbrev pub changed_node : Node → List ℕ → ℕ → Node
changed_node was bytes now = record was { kind = kind.File bytes; times = record was.times { mtim = now; ctim = now } }

-- the state's moment 1000 nanoseconds later, as the time since 1970
abbrev pub call_time : Constants → State → ℕ
call_time constants S = S.clock + 1000 + constants.epoch

-- where an open of a file with these bytes is written to: at its end with APPEND (1), and else at the open's offset
abbrev pub IsWrittenAt : ℕ → ℕ → List ℕ → ℕ → Type 0
IsWrittenAt flags offset bytes place = ((bit_and flags 1 ≡ 0) × (place ≡ offset)) ⊎ ((bit_and flags 1 ≢ 0) × (place ≡ length bytes))

pub record FilesAreWritten : Type 0 where
  -- A write at a place of its own moves nothing.
  pub pwrites : (constants : Constants) (S : State) (who : Who) (fd b place o node : ℕ) (bytes old : List ℕ)
      → HasFile S who (FdPwrite fd (b ∷ bytes) place) fd o node → (file : IsFileWith S node old) → place < 67108864
      → (new : List ℕ) × (count : ℕ) × IsWritten place (b ∷ bytes) old new count
      × (step_answer constants S who (FdPwrite fd (b ∷ bytes) place) ≡ answer.Reply (success count 0))
      × (unreleased constants S who (FdPwrite fd (b ∷ bytes) place)
      ≡ record (later S) { nodes = insert S.nodes node (changed_node file.was new (call_time constants S)) })
  -- After any other the open is behind what was written.
  pub writes : (constants : Constants) (S : State) (who : Who) (fd b place o node : ℕ) (bytes old : List ℕ)
      (has : HasFile S who (FdWrite fd (b ∷ bytes)) fd o node) → (file : IsFileWith S node old) → IsWrittenAt has.flags has.offset old place
      → place < 67108864
      → (new : List ℕ) × (count : ℕ) × IsWritten place (b ∷ bytes) old new count
      × (step_answer constants S who (FdWrite fd (b ∷ bytes)) ≡ answer.Reply (success count 0))
      × (unreleased constants S who (FdWrite fd (b ∷ bytes))
      ≡ record (with_place S o node (place + count) has.flags) { nodes = insert S.nodes node (changed_node file.was new (call_time constants S)) })
  -- Of no byte neither changes anything.
  pub pwrites_none : (constants : Constants) (S : State) (who : Who) (fd place o node : ℕ) → HasFile S who (FdPwrite fd [] place) fd o node
      → (step_answer constants S who (FdPwrite fd [] place) ≡ answer.Reply (success 0 0)) × (unreleased constants S who (FdPwrite fd [] place) ≡ later S)
  pub writes_none : (constants : Constants) (S : State) (who : Who) (fd o node : ℕ) → HasFile S who (FdWrite fd []) fd o node
      → (step_answer constants S who (FdWrite fd []) ≡ answer.Reply (success 0 0)) × (unreleased constants S who (FdWrite fd []) ≡ later S)

-- ---- seeks

-- The place is this far from the start, by the 64 bits of a signed number in two's complement, and is an offset, which is below 2^63.
pub record IsFrom (start bits place : ℕ) : Type 0 where
  pub small : place < 2 ^ 63
  pub forward : bits < 2 ^ 63 → place ≡ start + bits
  pub back : 2 ^ 63 ≤ bits → place + 2 ^ 64 ≡ start + bits

-- where a seek leads: from the open's offset (1), from the end of a file with these bytes (2), or to the place that is given (3)
abbrev pub IsSought : ℕ → ℕ → ℕ → List ℕ → ℕ → Type 0
IsSought bits whence offset bytes place =
    ((whence ≡ 1) × IsFrom offset bits place) ⊎ ((whence ≡ 2) × IsFrom (length bytes) bits place) ⊎ ((whence ≡ 3) × (place ≡ bits) × (bits < 2 ^ 63))

-- A seek answers the place where it leads, and the open is there then.
abbrev pub SeeksMove : Type 0
SeeksMove =
    (constants : Constants) (S : State) (who : Who) (fd bits whence o node place : ℕ) (bytes : List ℕ)
    (has : HasFile S who (FdSeek fd bits whence) fd o node) → IsFileWith S node bytes → IsSought bits whence has.offset bytes place
    → (step_answer constants S who (FdSeek fd bits whence) ≡ answer.Reply (success place 0))
    × (unreleased constants S who (FdSeek fd bits whence) ≡ with_place S o node place has.flags)
