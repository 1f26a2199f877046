-- What a call does to its process's descriptors, and to the opens that they name.
use Rattle.std.specs.Prelude.{◌≡◌, ℕ, ◌+◌, Bool, true, List, [], ◌∷◌, Option, None, Some, IsSome, Result, Ok, Err}
use Rattle.std.specs.Ordering.{nat_cmp}
use Rattle.std.specs.FinMap.{FinMap, get, insert, remove}
use Rattle.std.specs.declared.alloc.AllocError.{AllocError}
use Rattle.abi_base.specs.declared.errno.Errno.TheVariants.{Badf}
use Rattle.abi_structures.specs.declared.structures.FdStat.{FdStat}
use Rattle.abi_types.specs.declared.descriptor.Descriptor.{Descriptor}
use Rattle.abi_types.specs.declared.family.DescriptorChange.{DescriptorChange}
use Rattle.abi_types.specs.declared.family.DescriptorChange.TheVariants.{Close, Dup, Replace, StatPut}
use Rattle.abi_types.specs.declared.open_kind.OpenKind.{OpenKind}
use Rattle.abi_types.specs.declared.reply.Answer.TheVariants as answer
use Rattle.abi_types.specs.declared.reply.Reply.{Reply}
use Rattle.maps.specs.Maps.{number}
use Rattle.object_store.specs.Objects.{Held}
use Rattle.kernel_model.specs.Families.DescriptorCalls.{dup_of, replaced_by, stat_set, with_table}
use Rattle.kernel_model.specs.Outcome.{Outcome, IsSuccess, replies}
use Rattle.kernel_model.specs.Release.{count_in}
use Rattle.kernel_model.specs.Reply.{refused}
use Rattle.kernel_model.specs.State.{Table, Update, set_table, set_open}

-- fd_stat_put by the opens
abbrev pub stat_put_at : ℕ → FinMap nat_cmp OpenKind → Table → ℕ → FdStat → ℕ → Option Descriptor → Outcome
stat_put_at p opens table fd stat flags None = replies (refused Badf)
stat_put_at p opens table fd stat flags (Some d) = stat_set p table fd stat flags d (get opens d.id)

-- what the change comes to, for process p
abbrev pub change_outcome : ℕ → FinMap nat_cmp OpenKind → Table → DescriptorChange → Outcome
change_outcome p opens table (Close fd) = with_table p 0 (remove table fd)
change_outcome p opens table (Dup fd) = dup_of p table (get table fd)
change_outcome p opens table (Replace from to) = replaced_by p table to (get table from)
change_outcome p opens table (StatPut fd stat flags) = stat_put_at p opens table fd stat flags (get table fd)

-- the table after these updates of it
abbrev pub table_after : Table → List Update → Table
table_after table [] = table
table_after table (set_table p new ∷ updates) = table_after new updates
table_after table (_ ∷ updates) = table_after table updates

-- the opens after these updates
abbrev pub opens_after : FinMap nat_cmp OpenKind → List Update → FinMap nat_cmp OpenKind
opens_after opens [] = opens
opens_after opens (set_open o kind ∷ updates) = opens_after (insert opens o kind) updates
opens_after opens (_ ∷ updates) = opens_after opens updates

-- the counts have changed as the holders in the table have
abbrev pub IsMoved : Table → Table → FinMap nat_cmp ℕ → FinMap nat_cmp ℕ → Type 0
IsMoved old new before after = (o : ℕ) → number (get after o) + count_in o old ≡ number (get before o) + count_in o new

-- a number that is replaced is there
abbrev pub HasReplaced : Table → DescriptorChange → Type 0
HasReplaced table (Replace from to) = IsSome (get table to)
HasReplaced table _ = Unit {0}

-- It comes to this reply, this table and these opens; or memory runs out, which it may in a call that takes some and would else succeed,
-- and the table and what is held stay.
abbrev pub IsChangeDone : Bool → Outcome → Table → Table → Held → Held → Result Reply AllocError → Type 0
IsChangeDone takes outcome table after held left (Ok reply) =
    (answer.Reply reply ≡ outcome.answer) × (after ≡ table_after table outcome.updates) × (left.kinds ≡ opens_after held.kinds outcome.updates)
IsChangeDone takes outcome table after held left (Err error) = (takes ≡ true) × IsSuccess outcome.answer × (after ≡ table) × (left ≡ held)
