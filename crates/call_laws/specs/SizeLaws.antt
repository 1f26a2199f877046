-- What calls make of a file's size, and of the times of a node: the statements that are the contract of `sizes_and_times_are_set` in src/laws.rt. Each
-- is of a call that is done, and of the state that it leaves before the release.
use Rattle.std.specs.Prelude.{◌≡◌, ◌≢◌, ℕ, ◌+◌, ◌-◌, ◌<◌, ◌≤◌, List, ◌++◌, length, min, replicate, bit_and, Some}
use Rattle.std.specs.FinMap.{get, insert}
use Rattle.abi_structures.specs.declared.structures.FileStat.{FileStat}
use Rattle.abi_types.specs.declared.call.Call.TheVariants.{FileAllocate, FileStatFput, FileStatPut}
use Rattle.abi_types.specs.declared.call.Lookup.{Lookup}
use Rattle.abi_types.specs.declared.constants.Constants.{Constants}
use Rattle.abi_types.specs.declared.descriptor.Descriptor.{Descriptor}
use Rattle.abi_types.specs.declared.node.Node.{Node}
use Rattle.abi_types.specs.declared.node.NodeKind.TheVariants as kind
use Rattle.abi_types.specs.declared.node.Times.{Times}
use Rattle.abi_types.specs.declared.open_kind.OpenKind.TheVariants.{File}
use Rattle.abi_types.specs.declared.who.Who.{Who}
use Rattle.kernel_model.specs.State.{State, Table}
use Rattle.kernel_model.specs.Step.{unreleased}
use Rattle.call_laws.specs.FileLaws.{IsAllowed, IsPath}
use Rattle.call_laws.specs.NameLaws.{IsOfDirectory, LeadsTo}

-- the number has a descriptor of this node, which is a file with these bytes
pub record IsOfFile (S : State) (table : Table) (fd n : ℕ) (was : Node) (bytes : List ℕ) : Type 0 where
  pub d : Descriptor
  pub there : get table fd ≡ Some d
  pub offset : ℕ
  pub flags : ℕ
  pub opened : get S.opens d.id ≡ Some (File n offset flags)
  pub node : get S.nodes n ≡ Some was
  pub is : was.kind ≡ kind.File bytes

-- The state 1000 nanoseconds later, in which the node is this one, else as it was; and that moment as the time since 1970.
abbrev pub with_node_later : State → ℕ → Node → State
with_node_later S n node = record S { clock = S.clock + 1000; nodes = insert S.nodes n node }

abbrev pub time_later : Constants → State → ℕ
time_later constants S = S.clock + 1000 + constants.epoch

-- ---- sizes

-- Of these bytes so many are left as the size has room for, and zeros fill the rest of it.
pub record IsSized (size : ℕ) (was now : List ℕ) : Type 0 where
  pub front : List ℕ
  pub gone : List ℕ
  pub before : was ≡ front ++ gone
  pub count : length front ≡ min size (length was)
  pub after : now ≡ front ++ replicate (size - length was) 0

-- a file has other bytes since this time
abbrev pub resized_node : Node → List ℕ → ℕ → Node
resized_node was bytes now = record was { kind = kind.File bytes; times = record was.times { mtim = now; ctim = now } }

-- ---- times

-- A time is this one where the first bit of the flags is set, the call's where the second is, and else what it was.
pub record IsChosen (flags given_bit now_bit value moment was time : ℕ) : Type 0 where
  pub given : bit_and flags given_bit ≢ 0 → time ≡ value
  pub set_now : bit_and flags given_bit ≡ 0 → bit_and flags now_bit ≢ 0 → time ≡ moment
  pub stays : bit_and flags given_bit ≡ 0 → bit_and flags now_bit ≡ 0 → time ≡ was

-- so it is with the time of the last access, and with that of the last change of the bytes; the node was changed by the call
pub record AreChosen (flags : ℕ) (stat : FileStat) (now : ℕ) (was times : Times) : Type 0 where
  pub accessed : IsChosen flags 1 2 stat.atim now was.atim times.atim
  pub modified : IsChosen flags 4 8 stat.mtim now was.mtim times.mtim
  pub changed : times.ctim ≡ now

pub record SizesAndTimesAreSet : Type 0 where
  -- file_allocate lets a file grow to this size, and cuts none
  pub grows : (constants : Constants) (S : State) (who : Who) (fd offset size n : ℕ) (was : Node) (bytes : List ℕ) (table : Table)
      → IsAllowed S who (FileAllocate fd offset size) table → IsOfFile S table fd n was bytes → length bytes < offset + size → offset + size ≤ 67108864
      → unreleased constants S who (FileAllocate fd offset size)
      ≡ with_node_later S n (resized_node was (bytes ++ replicate (offset + size - length bytes) 0) (time_later constants S))
  pub stays : (constants : Constants) (S : State) (who : Who) (fd offset size n : ℕ) (was : Node) (bytes : List ℕ) (table : Table)
      → IsAllowed S who (FileAllocate fd offset size) table → IsOfFile S table fd n was bytes → offset + size ≤ length bytes → offset + size ≤ 67108864
      → unreleased constants S who (FileAllocate fd offset size) ≡ with_node_later S n was
  -- file_stat_fput with SIZE (16) alone sets the size
  pub sizes : (constants : Constants) (S : State) (who : Who) (fd : ℕ) (stat : FileStat) (n : ℕ) (was : Node) (bytes : List ℕ) (table : Table)
      → IsAllowed S who (FileStatFput fd stat 16) table → IsOfFile S table fd n was bytes → stat.size ≢ length bytes → stat.size ≤ 67108864
      → (now : List ℕ) × IsSized stat.size bytes now
      × (unreleased constants S who (FileStatFput fd stat 16) ≡ with_node_later S n (resized_node was now (time_later constants S)))
  -- with SIZE and a flag of times it sets the size first, and then the times
  pub both : (constants : Constants) (S : State) (who : Who) (fd : ℕ) (stat : FileStat) (flags n : ℕ) (was : Node) (bytes : List ℕ) (table : Table)
      → IsAllowed S who (FileStatFput fd stat flags) table → IsOfFile S table fd n was bytes → bit_and flags 16 ≢ 0 → bit_and flags 15 ≢ 0
      → stat.size ≢ length bytes → stat.size ≤ 67108864
      → (now : List ℕ) × (times : Times) × IsSized stat.size bytes now
      × AreChosen flags stat (time_later constants S) (record was.times { mtim = time_later constants S; ctim = time_later constants S }) times
      × (unreleased constants S who (FileStatFput fd stat flags) ≡ with_node_later S n (record was { kind = kind.File now; times = times }))
  -- without it it sets the times by its flags, and so does file_stat_put
  pub times : (constants : Constants) (S : State) (who : Who) (fd : ℕ) (stat : FileStat) (flags n : ℕ) (was : Node) (bytes : List ℕ) (table : Table)
      → IsAllowed S who (FileStatFput fd stat flags) table → IsOfFile S table fd n was bytes → bit_and flags 16 ≡ 0 → bit_and flags 15 ≢ 0
      → (times : Times) × AreChosen flags stat (time_later constants S) was.times times
      × (unreleased constants S who (FileStatFput fd stat flags) ≡ with_node_later S n (record was { times = times }))
  pub directory : (constants : Constants) (S : State) (who : Who) (fd : ℕ) (stat : FileStat) (flags n : ℕ) (was : Node) (table : Table)
      → IsAllowed S who (FileStatFput fd stat flags) table → IsOfDirectory S table fd n → get S.nodes n ≡ Some was → bit_and flags 16 ≡ 0
      → bit_and flags 15 ≢ 0
      → (times : Times) × AreChosen flags stat (time_later constants S) was.times times
      × (unreleased constants S who (FileStatFput fd stat flags) ≡ with_node_later S n (record was { times = times }))
  pub times_of : (constants : Constants) (S : State) (who : Who) (lookup : Lookup) (path : List ℕ) (stat : FileStat) (flags n : ℕ) (was : Node) (table : Table)
      → IsAllowed S who (FileStatPut lookup path stat flags) table → IsPath path → LeadsTo S table lookup path n → get S.nodes n ≡ Some was
      → bit_and flags 15 ≢ 0
      → (times : Times) × AreChosen flags stat (time_later constants S) was.times times
      × (unreleased constants S who (FileStatPut lookup path stat flags) ≡ with_node_later S n (record was { times = times }))
