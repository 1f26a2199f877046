-- What a text means, computed.
--     is_allowed m r      whether a record may stand next
--     next_at m text      the record at the front, where one may stand next, and what stands behind it
--     meaning times bytes      the tree that the text means, or the byte at which the first faulty record begins
use Rattle.std.specs.Prelude.{ℕ, zero, suc, ◌-◌, ◌&&◌, Bool, false, if◌then◌else◌, List, [], ◌∷◌, length, Option, Some, None, is_none, is_some, Result, Ok, Err}
use Rattle.std.specs.FinMap.{get}
use Rattle.lists.specs.Options.{◌>>=◌}
use Rattle.abi_types.specs.declared.node.Times.{Times}
use Rattle.tree_model.specs.declared.limits.TheConstants.{ROOT}
use Rattle.tree_model.specs.Tree.{Tree}
use Rattle.tree_model.specs.Changes.{first_fault, link_faults, make_faults}
use Rattle.tree_records.specs.Paths.{Path, name_of, parent, path_bytes}
use Rattle.tree_records.specs.Reading.{record_at}
use Rattle.tree_records.specs.Records.{Record, dir, file, link, hard}
use Rattle.tree_document.specs.Building.{Making, node_at, start, with_record}

-- ---- whether a record may stand next

abbrev pub is_place_in : Tree → List ℕ → Option ℕ → Bool
is_place_in t name None = false
is_place_in t name (Some d) = is_none (first_fault (make_faults t d name))

-- whether a node may be made at the path
abbrev pub is_place : Tree → Path → Bool
is_place t p = is_place_in t (name_of p) (node_at t ROOT (parent p))

abbrev pub is_link_place_in : Tree → List ℕ → Option ℕ → Option ℕ → Bool
is_link_place_in t name None n = false
is_link_place_in t name (Some d) None = false
is_link_place_in t name (Some d) (Some n) = is_none (first_fault (link_faults t d name n))

-- whether the node of the target may have one more name, at the path
abbrev pub is_link_place : Tree → Path → Path → Bool
is_link_place t p target = is_link_place_in t (name_of p) (node_at t ROOT (parent p)) (node_at t ROOT target)

abbrev pub has_file : Making → Path → Bool
has_file m target = is_some (get m.files (path_bytes target))

abbrev pub is_allowed : Making → Record → Bool
is_allowed m (dir p) = is_place m.tree p
is_allowed m (file p bytes) = is_place m.tree p
is_allowed m (link p text) = is_place m.tree p
is_allowed m (hard p target) = has_file m target && is_link_place m.tree p target

-- ---- record by record

-- the record at the front, where one may stand next, and what stands behind it
abbrev pub next_at : Making → List ℕ → Option (Record × List ℕ)
next_at m text = record_at text >>= λ next. if is_allowed m next.0 then Some next else None

-- what is said from a record on, or this byte where there is none
abbrev pub from_next : ℕ → (Record × List ℕ → Result Tree ℕ) → Option (Record × List ℕ) → Result Tree ℕ
from_next byte from None = Err byte
from_next byte from (Some next) = from next

-- What the rest of a text of so many bytes means behind the records that made this. Each record takes a byte at least, so the
-- fuel is enough if it is the length of the rest.
abbrev pub meaning_within : ℕ → ℕ → Making → List ℕ → Result Tree ℕ
meaning_within fuel size m [] = Ok m.tree
meaning_within zero size m (b ∷ bs) = Err (size - length (b ∷ bs))
meaning_within (suc fuel) size m (b ∷ bs) =
    from_next (size - length (b ∷ bs)) (λ next. meaning_within fuel size (with_record m next.0) next.1) (next_at m (b ∷ bs))

-- the tree that a text means, whose nodes have these times, or the byte at which the first record begins that is none or may not
-- stand there
unfoldable pub meaning : Times → List ℕ → Result Tree ℕ
meaning times bytes = meaning_within (length bytes) (length bytes) (start times) bytes
