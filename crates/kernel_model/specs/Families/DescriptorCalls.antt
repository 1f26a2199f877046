-- Calls on descriptors themselves.
use Rattle.std.specs.Prelude.{ℕ, zero, suc, ◌+◌, ◌==◌, true, false, bit_and, List, [], ◌∷◌, ◌++◌, Option, None, Some, if◌then◌else◌}
use Rattle.std.specs.FinMap.{contains_key, get, insert, remove}
use Rattle.abi_base.specs.declared.errno.Errno.TheVariants.{Badf, Mfile}
use Rattle.abi_base.specs.declared.limits.TheConstants.{MOST_DESCRIPTORS}
use Rattle.abi_base.specs.declared.rights.Rights.{Rights}
use Rattle.abi_base.specs.declared.rights.TheConstants.Rights.{FD_DATASYNC, FD_STAT_PUT_FLAGS, FD_SYNC}
use Rattle.abi_base.specs.Rights.{meet_of}
use Rattle.abi_base.specs.declared.flags.TheConstants.{FDSTAT_FLAGS, FDSTAT_RIGHTS, FILETYPE_CHARACTER_DEVICE, FILETYPE_DIRECTORY, FILETYPE_FIFO, FILETYPE_PROCESS, FILETYPE_REGULAR_FILE, FILETYPE_SOCKET_STREAM}
use Rattle.abi_structures.specs.declared.structures.FdStat.{FdStat}
use Rattle.abi_types.specs.declared.descriptor.Descriptor.{Descriptor}
use Rattle.abi_types.specs.declared.needed.Needed.{Needed}
use Rattle.abi_types.specs.declared.open_kind.OpenKind.{OpenKind}
use Rattle.abi_types.specs.declared.open_kind.OpenKind.TheVariants.{File, Directory, End, Terminal, Process}
use Rattle.abi_types.specs.declared.reply.Answer.TheVariants as answer
use Rattle.abi_types.specs.declared.reply.Payload.TheVariants as payload
use Rattle.kernel_model.specs.Meaning.{Meaning, answering}
use Rattle.kernel_model.specs.Outcome.{Outcome, replies}
use Rattle.kernel_model.specs.OwnChanges.{keeps_own}
use Rattle.kernel_model.specs.Reply.{refused, success}
use Rattle.kernel_model.specs.Rows.{asking_row, base_row, both, where_set}
use Rattle.kernel_model.specs.State.{Table, Part, Update, at_open, set_open, set_table}
use Rattle.kernel_model.specs.View.{View}

-- a call that is done with this result, and leaves its process this table
abbrev pub with_table : ℕ → ℕ → Table → Outcome
with_table p result table = record { answer = answer.Reply (success result 0); updates = set_table p table ∷ [] }

-- ---- fd_close

abbrev pub fd_close : ℕ → Meaning
fd_close fd = record {
  named = fd ∷ [];
  need = [];
  seen = [];
  effect = λ constants v who table. with_table who.pid 0 (remove table fd);
  outside = λ v table. None;
  touched = λ S table. [];
  numbers = 0;
  own = keeps_own;
  errors = [];
  takes_memory = false;
  may_wait = false;
  by_stage = false;
  deadline = λ constants since. None;
  sends = [];
}

-- ---- fd_datasync and fd_sync: what is written stands at once

-- a call that needs these base rights of one descriptor, and does no more
abbrev pub needing : ℕ → Rights → Meaning
needing fd base = record (answering [] (success 0 0)) { named = fd ∷ []; need = base_row fd base ∷ []; seen = fd ∷ [] }

abbrev pub fd_datasync : ℕ → Meaning
fd_datasync fd = needing fd FD_DATASYNC

abbrev pub fd_sync : ℕ → Meaning
fd_sync fd = needing fd FD_SYNC

-- ---- fd_dup

-- the lowest of n numbers from k on that has no descriptor
unfoldable pub free_from : Table → ℕ → ℕ → Option ℕ
free_from table zero k = None
free_from table (suc n) k = if contains_key table k then free_from table n (k + 1) else Some k

-- the lowest number that a descriptor may have and none has
abbrev pub lowest_free : Table → Option ℕ
lowest_free table = free_from table MOST_DESCRIPTORS 0

-- the descriptor under one more number, the lowest that is free; where each is taken it is MFILE
abbrev pub dup_at : ℕ → Table → Descriptor → Option ℕ → Outcome
dup_at p table d None = replies (refused Mfile)
dup_at p table d (Some number) = with_table p number (insert table number d)

abbrev pub dup_of : ℕ → Table → Option Descriptor → Outcome
dup_of p table None = replies (refused Badf)
dup_of p table (Some d) = dup_at p table d (lowest_free table)

abbrev pub fd_dup : ℕ → Meaning
fd_dup fd = record {
  named = fd ∷ [];
  need = [];
  seen = [];
  effect = λ constants v who table. dup_of who.pid table (get table fd);
  outside = λ v table. None;
  touched = λ S table. [];
  numbers = 0;
  own = keeps_own;
  errors = Badf ∷ Mfile ∷ [];
  takes_memory = true;
  may_wait = false;
  by_stage = false;
  deadline = λ constants since. None;
  sends = [];
}

-- ---- fd_replace

-- `to` becomes what `from` is
abbrev pub replaced_by : ℕ → Table → ℕ → Option Descriptor → Outcome
replaced_by p table to None = replies (refused Badf)
replaced_by p table to (Some d) = with_table p 0 (insert table to d)

abbrev pub fd_replace : ℕ → ℕ → Meaning
fd_replace from to = record {
  named = from ∷ to ∷ [];
  need = [];
  seen = [];
  effect = λ constants v who table. replaced_by who.pid table to (get table from);
  outside = λ v table. None;
  touched = λ S table. [];
  numbers = 0;
  own = keeps_own;
  errors = Badf ∷ [];
  takes_memory = false;
  may_wait = false;
  by_stage = false;
  deadline = λ constants since. None;
  sends = [];
}

-- ---- fd_stat_get

-- the number of an open's type
abbrev pub type_number : OpenKind → ℕ
type_number (File node offset flags) = FILETYPE_REGULAR_FILE
type_number (Directory node flags) = FILETYPE_DIRECTORY
type_number (End (Some reads) (Some writes) flags form) = FILETYPE_SOCKET_STREAM
type_number (End reads writes flags form) = FILETYPE_FIFO
type_number (Terminal which flags) = FILETYPE_CHARACTER_DEVICE
type_number (Process p object) = FILETYPE_PROCESS

-- an open's flags; a process has none
abbrev pub flags_of : OpenKind → ℕ
flags_of (File node offset flags) = flags
flags_of (Directory node flags) = flags
flags_of (End reads writes flags form) = flags
flags_of (Terminal which flags) = flags
flags_of (Process p object) = 0

-- what a descriptor of the open is and may do
abbrev pub stat_of : Descriptor → OpenKind → FdStat
stat_of d kind = record { kind = type_number kind; flags = flags_of kind; base = d.base; inheriting = d.inheriting }

abbrev pub stat_open : Descriptor → Option OpenKind → Outcome
stat_open d None = replies (refused Badf)
stat_open d (Some kind) = replies (record (success 0 0) { payload = payload.FdStat (stat_of d kind) })

abbrev pub stat_get : View → Option Descriptor → Outcome
stat_get v None = replies (refused Badf)
stat_get v (Some d) = stat_open d (v.opened d.id)

abbrev pub fd_stat_get : ℕ → Meaning
fd_stat_get fd = record {
  named = fd ∷ [];
  need = [];
  seen = fd ∷ [];
  effect = λ constants v who table. stat_get v (get table fd);
  outside = λ v table. None;
  touched = λ S table. [];
  numbers = 0;
  own = keeps_own;
  errors = Badf ∷ [];
  takes_memory = false;
  may_wait = false;
  by_stage = false;
  deadline = λ constants since. None;
  sends = [];
}

-- ---- fd_stat_put

-- flags are set by FD_STAT_PUT_FLAGS; rights are lowered to those asked, which the descriptor has
abbrev pub stat_put_row : ℕ → FdStat → ℕ → Needed
stat_put_row fd stat flags =
    asking_row fd (both (where_set flags FDSTAT_FLAGS FD_STAT_PUT_FLAGS) (where_set flags FDSTAT_RIGHTS stat.base)) (where_set flags FDSTAT_RIGHTS stat.inheriting)

-- the open with these flags
abbrev pub with_flags : OpenKind → ℕ → OpenKind
with_flags (File node offset flags) new = File node offset new
with_flags (Directory node flags) new = Directory node new
with_flags (End reads writes flags form) new = End reads writes new form
with_flags (Terminal which flags) new = Terminal which new
with_flags (Process p object) new = Process p object

-- the descriptor with those of its rights that are asked
abbrev pub lowered_to : Descriptor → FdStat → Descriptor
lowered_to d stat = record d {
  base = record { 0 = meet_of d.base.0 stat.base.0 };
  inheriting = record { 0 = meet_of d.inheriting.0 stat.inheriting.0 };
}

-- an update, where the flags have this bit
abbrev pub update_where : ℕ → ℕ → Update → List Update
update_where flags bit update = if bit_and flags bit == 0 then [] else update ∷ []

-- the open's flags are set, and the descriptor's rights are lowered
abbrev pub stat_set : ℕ → Table → ℕ → FdStat → ℕ → Descriptor → Option OpenKind → Outcome
stat_set p table fd stat flags d None = replies (refused Badf)
stat_set p table fd stat flags d (Some kind) = record {
  answer = answer.Reply (success 0 0);
  updates =
      update_where flags FDSTAT_FLAGS (set_open d.id (with_flags kind stat.flags))
      ++ update_where flags FDSTAT_RIGHTS (set_table p (insert table fd (lowered_to d stat)));
}

abbrev pub stat_put : View → ℕ → Table → ℕ → FdStat → ℕ → Option Descriptor → Outcome
stat_put v p table fd stat flags None = replies (refused Badf)
stat_put v p table fd stat flags (Some d) = stat_set p table fd stat flags d (v.opened d.id)

-- the open of a descriptor
abbrev pub open_part : Option Descriptor → List Part
open_part None = []
open_part (Some d) = at_open d.id ∷ []

abbrev pub fd_stat_put : ℕ → FdStat → ℕ → Meaning
fd_stat_put fd stat flags = record {
  named = fd ∷ [];
  need = stat_put_row fd stat flags ∷ [];
  seen = fd ∷ [];
  effect = λ constants v who table. stat_put v who.pid table fd stat flags (get table fd);
  outside = λ v table. None;
  touched = λ S table. open_part (get table fd);
  numbers = 0;
  own = keeps_own;
  errors = Badf ∷ [];
  takes_memory = false;
  may_wait = false;
  by_stage = false;
  deadline = λ constants since. None;
  sends = [];
}
