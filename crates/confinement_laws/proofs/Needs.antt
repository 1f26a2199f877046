-- Which right is needed by which call is what the list of the rights says.
--     either_has, first_has, second_has, set_has, has_set      what is in the rights of a row
--     IsListed c row, rows_listed      all that a row of the call has is listed; so is each row
--     Needs, Asks, is_needed, is_asked      what is listed stands in a row of the call
--     needs_are_listed      both
use Rattle.std.proofs.Common.{◌≡◌, ◌≢◌, ◌⊎◌, inl, inr, ℕ, ◌==◌, ◌&&◌, Bool, true, false, cond, List, [], ◌∷◌, ◌++◌, refl, sym, ap, subst, arith, max}
use Rattle.std.proofs.lemmas.Bool.Decides.{eqb_tells}
use Rattle.std.proofs.lemmas.Nat.Bits.{bit_at-zero, bit_at-lt, bit_at_or}
use Rattle.std.specs.Int.{bit_at}
use Rattle.std.specs.List.{AllByRecursion}
use Rattle.std.specs.Prelude.{bit_and, bit_or}
use Rattle.abi_base.specs.Rights.{Has}
use Rattle.abi_base.specs.declared.rights.Rights.{Rights}
use Rattle.abi_base.specs.declared.rights.TheConstants.Rights.{NONE, FD_DATASYNC, FD_READ, FD_SEEK, FD_STAT_PUT_FLAGS, FD_SYNC, FD_TELL, FD_WRITE, FILE_ADVISE, FILE_ALLOCATE, FILE_CREATE_DIRECTORY, FILE_CREATE_FILE, FILE_LINK_SOURCE, FILE_LINK_TARGET, FILE_OPEN, FILE_READDIR, FILE_READLINK, FILE_RENAME_SOURCE, FILE_RENAME_TARGET, FILE_STAT_FGET, FILE_STAT_FPUT_SIZE, FILE_STAT_FPUT_TIMES, FILE_STAT_GET, FILE_STAT_PUT_TIMES, FILE_SYMLINK, FILE_UNLINK, MEM_MAP, MEM_MAP_EXEC, POLL_FD_READWRITE, POLL_PROC_TERMINATE, PROC_EXEC, SOCK_SHUTDOWN}
use Rattle.abi_structures.specs.declared.events.Subscription.{Subscription}
use Rattle.abi_structures.specs.declared.events.What.{What}
use Rattle.abi_structures.specs.declared.events.What.TheVariants as what
use Rattle.abi_structures.specs.declared.structures.FdStat.{FdStat}
use Rattle.abi_structures.specs.declared.structures.FileStat.{FileStat}
use Rattle.abi_types.specs.Families.{is_anonymous}
use Rattle.abi_types.specs.declared.call.Call.{Call}
use Rattle.abi_types.specs.declared.call.Call.TheVariants as call
use Rattle.abi_types.specs.declared.call.Lookup.{Lookup}
use Rattle.abi_types.specs.declared.needed.Needed.{Needed}
use Rattle.abi_types.specs.declared.place.Place.{Place}
use Rattle.kernel_model.specs.Calls.{need}
use Rattle.kernel_model.specs.Families.DescriptorCalls.{stat_put_row}
use Rattle.kernel_model.specs.Families.FileMeaning.{on_open}
use Rattle.kernel_model.specs.Families.MemoryCalls.{map_row, map_zeros, mapping}
use Rattle.kernel_model.specs.Families.Opening.{open_row}
use Rattle.kernel_model.specs.Families.StreamCalls.{seek_row}
use Rattle.kernel_model.specs.Families.WaitCalls.{wait_row, wait_rows}
use Rattle.kernel_model.specs.Proper.{IsIn}
use Rattle.kernel_model.specs.Rows.{base_row, both, either_row, where_set}
use Rattle.kernel_model.proofs.Lists.{all_weaker, in_all, in_more}
use Rattle.confinement_laws.specs.Needs.{AllNeedsAreListed, AreSet, AsksRight, Awaits, NeedsAreListed, NeedsRight, OnlyTells}
use Rattle.confinement_laws.specs.Needs as listed

-- ---- rights

none_has : (k : ℕ) → Has 0 k → ⊥
none_has k has = let none : bit_at 0 k ≡ 0 = bit_at-zero k in omega (arith, none, has)

-- what is in the rights of both sets is in one of them
either_has : (a b : Rights) (k : ℕ) → Has (both a b).0 k → Has a.0 k ⊎ Has b.0 k
either_has a b k has =
    let each : bit_at (bit_or a.0 b.0) k ≡ max (bit_at a.0 k) (bit_at b.0 k) = bit_at_or a.0 b.0 k in
    elim (eqb_tells (bit_at a.0 k) 1) [
      | inl first ↦ inl first.1
      | inr other ↦ (
          let apart : bit_at a.0 k ≢ 1 = other.1 in
          inr (omega (arith, each, bit_at-lt a.0 k, bit_at-lt b.0 k, has, apart)))
    ]

first_has : (a b : Rights) (k : ℕ) → Has a.0 k → Has (both a b).0 k
first_has a b k has =
    let each : bit_at (bit_or a.0 b.0) k ≡ max (bit_at a.0 k) (bit_at b.0 k) = bit_at_or a.0 b.0 k in
    omega (arith, each, bit_at-lt b.0 k, has)

second_has : (a b : Rights) (k : ℕ) → Has b.0 k → Has (both a b).0 k
second_has a b k has =
    let each : bit_at (bit_or a.0 b.0) k ≡ max (bit_at a.0 k) (bit_at b.0 k) = bit_at_or a.0 b.0 k in
    omega (arith, each, bit_at-lt a.0 k, has)

-- rights that are needed with flags are there with these alone
set_has : (flags bits : ℕ) (right : Rights) (k : ℕ) → Has (where_set flags bits right).0 k → AreSet flags bits × Has right.0 k
set_has flags bits right k has =
    elim (eqb_tells (bit_and flags bits) 0) [
      | inl is ↦ absurd (none_has k (subst (λ b. Has (cond b NONE right).0 k) is.0 has))
      | inr other ↦ (other.1, subst (λ b. Has (cond b NONE right).0 k) other.0 has)
    ]

has_set : (flags bits : ℕ) (right : Rights) (k : ℕ) → AreSet flags bits → Has right.0 k → Has (where_set flags bits right).0 k
has_set flags bits right k set has =
    elim (eqb_tells (bit_and flags bits) 0) [
      | inl is ↦ absurd (set is.1)
      | inr other ↦ subst (λ b. Has (cond b NONE right).0 k) (sym other.0) has
    ]

-- ---- what stands in rows is listed

-- a right with this bit is listed: needed of the descriptor by the call, or asked of the rights that it passes on
abbrev NeededBy : Call → ℕ → ℕ → Type 0
NeededBy c fd k = (right : Rights) × NeedsRight right fd c × Has right.0 k

abbrev AskedBy : Call → ℕ → ℕ → Type 0
AskedBy c fd k = (right : Rights) × AsksRight right fd c × Has right.0 k

record IsListed (c : Call) (row : Needed) : Type 0 where
  base : (k : ℕ) → Has row.base.0 k → NeededBy c row.fd k
  inheriting : (k : ℕ) → Has row.inheriting.0 k → AskedBy c row.fd k
  instead : (row.instead ≡ NONE) ⊎ ((c ≡ call.FdSeek row.fd 0 1) × (row.base ≡ FD_TELL) × (row.instead ≡ FD_SEEK))

-- a row of base rights alone
base_listed : (c : Call) (fd : ℕ) (base : Rights) → ((k : ℕ) → Has base.0 k → NeededBy c fd k) → IsListed c (base_row fd base)
base_listed c fd base needs = record { base = needs; inheriting = λ k has. absurd (none_has k has); instead = inl refl }

-- and of one right
right_listed : (c : Call) (fd : ℕ) (right : Rights) → NeedsRight right fd c → IsListed c (base_row fd right)
right_listed c fd right needs = base_listed c fd right (λ k has. (right, needs, has))

-- of two rights
two_listed : (c : Call) (fd : ℕ) (a b : Rights) → NeedsRight a fd c → NeedsRight b fd c → IsListed c (base_row fd (both a b))
two_listed c fd a b one two =
    base_listed c fd (both a b) (λ k has. elim (either_has a b k has) [ inl is ↦ (a, one, is) | inr is ↦ (b, two, is) ])

tell_listed : (fd : ℕ) → IsListed (call.FdSeek fd 0 1) (seek_row fd 0 1)
tell_listed fd = record { base = λ k has. (FD_TELL, listed.tell fd, has); inheriting = λ k has. absurd (none_has k has); instead = inr (refl, refl, refl) }

move_listed : (fd offset whence : ℕ) → ((offset == 0) && (whence == 1)) ≡ false → ¬ OnlyTells offset whence
    → IsListed (call.FdSeek fd offset whence) (seek_row fd offset whence)
move_listed fd offset whence moves apart =
    let c = call.FdSeek fd offset whence in
    subst (λ b. IsListed c (cond b (either_row fd FD_TELL FD_SEEK) (base_row fd FD_SEEK))) (sym moves)
    (right_listed c fd FD_SEEK (listed.seek fd offset whence apart))

seek_listed : (fd offset whence : ℕ) → IsListed (call.FdSeek fd offset whence) (seek_row fd offset whence)
seek_listed fd offset whence =
    elim (eqb_tells offset 0) [
      | inl zero ↦ elim (eqb_tells whence 1) [
        | inl one ↦ (
            subst (λ n. IsListed (call.FdSeek fd n whence) (seek_row fd n whence)) (sym zero.1)
            (subst (λ n. IsListed (call.FdSeek fd 0 n) (seek_row fd 0 n)) (sym one.1) (tell_listed fd)))
        | inr other ↦ move_listed fd offset whence (λ i. (zero.0 i) && (other.0 i)) (λ tells. other.1 tells.1)
      ]
      | inr other ↦ move_listed fd offset whence (ap (λ b. b && (whence == 1)) other.0) (λ tells. other.1 tells.0)
    ]

put_listed : (fd : ℕ) (stat : FdStat) (flags : ℕ) → IsListed (call.FdStatPut fd stat flags) (stat_put_row fd stat flags)
put_listed fd stat flags = record {
  base = λ k has.
      elim (either_has (where_set flags 1 FD_STAT_PUT_FLAGS) (where_set flags 2 stat.base) k has) [
        | inl is ↦ (let set = set_has flags 1 FD_STAT_PUT_FLAGS k is in (FD_STAT_PUT_FLAGS, listed.put_flags fd stat flags set.0, set.1))
        | inr is ↦ (let set = set_has flags 2 stat.base k is in (stat.base, listed.put_rights fd stat flags set.0, set.1))
      ];
  inheriting = λ k has. let set = set_has flags 2 stat.inheriting k has in (stat.inheriting, listed.put_inheriting fd stat flags set.0, set.1);
  instead = inl refl;
}

fput_listed : (fd : ℕ) (stat : FileStat) (flags : ℕ)
    → IsListed (call.FileStatFput fd stat flags) (base_row fd (both (where_set flags 16 FILE_STAT_FPUT_SIZE) (where_set flags 15 FILE_STAT_FPUT_TIMES)))
fput_listed fd stat flags =
    let size = where_set flags 16 FILE_STAT_FPUT_SIZE in
    let times = where_set flags 15 FILE_STAT_FPUT_TIMES in
    base_listed (call.FileStatFput fd stat flags) fd (both size times) (λ k has.
    elim (either_has size times k has) [
      | inl is ↦ (let set = set_has flags 16 FILE_STAT_FPUT_SIZE k is in (FILE_STAT_FPUT_SIZE, listed.fput_size fd stat flags set.0, set.1))
      | inr is ↦ (let set = set_has flags 15 FILE_STAT_FPUT_TIMES k is in (FILE_STAT_FPUT_TIMES, listed.fput_times fd stat flags set.0, set.1))
    ])

open_listed : (lookup : Lookup) (path : List ℕ) (oflags : ℕ) (stat : FdStat)
    → IsListed (call.FileOpen lookup path oflags stat) (open_row lookup.fd oflags stat)
open_listed lookup path oflags stat = record {
  base = λ k has.
      elim (either_has FILE_OPEN (where_set oflags 1 FILE_CREATE_FILE) k has) [
        | inl is ↦ (FILE_OPEN, listed.opens lookup path oflags stat, is)
        | inr is ↦ (
            let set = set_has oflags 1 FILE_CREATE_FILE k is in
            (FILE_CREATE_FILE, listed.create_file lookup path oflags stat set.0, set.1))
      ];
  inheriting = λ k has.
      elim (either_has (both stat.base stat.inheriting) (where_set oflags 8 FILE_STAT_FPUT_SIZE) k has) [
        | inl asked ↦ elim (either_has stat.base stat.inheriting k asked) [
          | inl is ↦ (stat.base, listed.open_base lookup path oflags stat, is)
          | inr is ↦ (stat.inheriting, listed.open_inheriting lookup path oflags stat, is)
        ]
        | inr is ↦ (
            let set = set_has oflags 8 FILE_STAT_FPUT_SIZE k is in
            (FILE_STAT_FPUT_SIZE, listed.truncate lookup path oflags stat set.0, set.1))
      ];
  instead = inl refl;
}

map_row_listed : (place : Place) (length prot flags fd offset : ℕ) → is_anonymous flags ≡ false
    → IsListed (call.MemMap place length prot flags fd offset) (map_row fd prot)
map_row_listed place length prot flags fd offset is =
    base_listed (call.MemMap place length prot flags fd offset) fd (both (both MEM_MAP FD_READ) (where_set prot 1 MEM_MAP_EXEC)) (λ k has.
    elim (either_has (both MEM_MAP FD_READ) (where_set prot 1 MEM_MAP_EXEC) k has) [
      | inl two ↦ elim (either_has MEM_MAP FD_READ k two) [
        | inl here ↦ (MEM_MAP, listed.map place length prot flags fd offset is, here)
        | inr here ↦ (FD_READ, listed.map_bytes place length prot flags fd offset is, here)
      ]
      | inr here ↦ (
          let set = set_has prot 1 MEM_MAP_EXEC k here in
          (MEM_MAP_EXEC, listed.map_to_execute place length prot flags fd offset is set.0, set.1))
    ])

-- a mapping with ANON has no row
map_listed : (place : Place) (length prot flags fd offset : ℕ) (anonymous : Bool) → is_anonymous flags ≡ anonymous
    → AllByRecursion (IsListed (call.MemMap place length prot flags fd offset))
    ((cond anonymous (map_zeros place) (on_open (map_row fd prot) (mapping place length offset))).need)
map_listed place length prot flags fd offset true is = tt
map_listed place length prot flags fd offset false is =
    (map_row_listed place length prot flags fd offset is, tt)

module _ (all : List Subscription) where
  -- the row of what one subscription waits for, before others
  wait_listed : (w : What) (rows : List Needed) → Awaits all w → AllByRecursion (IsListed (call.Poll all)) rows
      → AllByRecursion (IsListed (call.Poll all)) (wait_row w rows)
  wait_listed (what.FdRead fd) rows waits others = (right_listed (call.Poll all) fd POLL_FD_READWRITE (listed.poll_read all fd waits), others)
  wait_listed (what.FdWrite fd) rows waits others = (right_listed (call.Poll all) fd POLL_FD_READWRITE (listed.poll_write all fd waits), others)
  wait_listed (what.ProcTerminate fd) rows waits others = (right_listed (call.Poll all) fd POLL_PROC_TERMINATE (listed.poll_end all fd waits), others)
  wait_listed w rows waits others = others

  waits_listed : (subscriptions : List Subscription) → AllByRecursion (λ s. IsIn s all) subscriptions
      → AllByRecursion (IsListed (call.Poll all)) (wait_rows subscriptions)
  waits_listed [] each = tt
  waits_listed (s ∷ rest) each = wait_listed s.what (wait_rows rest) (s, each.0, refl) (waits_listed rest each.1)

-- each item of a list is in it
each_in : {X : Type 0} (xs : List X) → AllByRecursion (λ x. IsIn x xs) xs
each_in [] = tt
each_in (x ∷ xs) = (([], xs, refl), all_weaker (λ y. IsIn y xs) (λ y. IsIn y (x ∷ xs)) (λ y is. in_more y x xs is) xs (each_in xs))

rows_listed : (c : Call) → AllByRecursion (IsListed c) (need c)
rows_listed (call.FdDatasync fd) = (right_listed (call.FdDatasync fd) fd FD_DATASYNC (listed.datasync fd), tt)
rows_listed (call.FdPread fd n at) = (two_listed (call.FdPread fd n at) fd FD_READ FD_SEEK (listed.pread fd n at) (listed.seek_to_read fd n at), tt)
rows_listed (call.FdPwrite fd bytes at) =
    (two_listed (call.FdPwrite fd bytes at) fd FD_WRITE FD_SEEK (listed.pwrite fd bytes at) (listed.seek_to_write fd bytes at), tt)
rows_listed (call.FdRead fd n) = (right_listed (call.FdRead fd n) fd FD_READ (listed.read fd n), tt)
rows_listed (call.FdSeek fd offset whence) = (seek_listed fd offset whence, tt)
rows_listed (call.FdStatPut fd stat flags) = (put_listed fd stat flags, tt)
rows_listed (call.FdSync fd) = (right_listed (call.FdSync fd) fd FD_SYNC (listed.sync fd), tt)
rows_listed (call.FdWrite fd bytes) = (right_listed (call.FdWrite fd bytes) fd FD_WRITE (listed.write fd bytes), tt)
rows_listed (call.FileAdvise fd offset length advice) =
    (right_listed (call.FileAdvise fd offset length advice) fd FILE_ADVISE (listed.advise fd offset length advice), tt)
rows_listed (call.FileAllocate fd offset length) =
    (right_listed (call.FileAllocate fd offset length) fd FILE_ALLOCATE (listed.allocate fd offset length), tt)
rows_listed (call.FileCreate fd path kind) =
    (right_listed (call.FileCreate fd path kind) fd FILE_CREATE_DIRECTORY (listed.create_directory fd path kind), tt)
rows_listed (call.FileLink lookup path fd new) = (
  right_listed (call.FileLink lookup path fd new) lookup.fd FILE_LINK_SOURCE (listed.link_source lookup path fd new),
  (right_listed (call.FileLink lookup path fd new) fd FILE_LINK_TARGET (listed.link_target lookup path fd new), tt),
)
rows_listed (call.FileOpen lookup path oflags stat) = (open_listed lookup path oflags stat, tt)
rows_listed (call.FileReaddir fd length cookie) =
    (right_listed (call.FileReaddir fd length cookie) fd FILE_READDIR (listed.readdir fd length cookie), tt)
rows_listed (call.FileReadlink fd path length) =
    (right_listed (call.FileReadlink fd path length) fd FILE_READLINK (listed.readlink fd path length), tt)
rows_listed (call.FileRename from path to new) = (
  right_listed (call.FileRename from path to new) from FILE_RENAME_SOURCE (listed.rename_source from path to new),
  (right_listed (call.FileRename from path to new) to FILE_RENAME_TARGET (listed.rename_target from path to new), tt),
)
rows_listed (call.FileStatFget fd) = (right_listed (call.FileStatFget fd) fd FILE_STAT_FGET (listed.stat_fget fd), tt)
rows_listed (call.FileStatFput fd stat flags) = (fput_listed fd stat flags, tt)
rows_listed (call.FileStatGet lookup path) = (right_listed (call.FileStatGet lookup path) lookup.fd FILE_STAT_GET (listed.stat_get lookup path), tt)
rows_listed (call.FileStatPut lookup path stat flags) =
    (right_listed (call.FileStatPut lookup path stat flags) lookup.fd FILE_STAT_PUT_TIMES (listed.put_times lookup path stat flags), tt)
rows_listed (call.FileSymlink text fd path) = (right_listed (call.FileSymlink text fd path) fd FILE_SYMLINK (listed.symlink text fd path), tt)
rows_listed (call.FileUnlink fd path flags) = (right_listed (call.FileUnlink fd path flags) fd FILE_UNLINK (listed.unlink fd path flags), tt)
rows_listed (call.MemMap place length prot flags fd offset) = map_listed place length prot flags fd offset (is_anonymous flags) refl
rows_listed (call.Poll subscriptions) = waits_listed subscriptions subscriptions (each_in subscriptions)
rows_listed (call.ProcExec fd bytes fds) = (right_listed (call.ProcExec fd bytes fds) fd PROC_EXEC (listed.exec fd bytes fds), tt)
rows_listed (call.SockRecv fd n room flags) = (right_listed (call.SockRecv fd n room flags) fd FD_READ (listed.receive fd n room flags), tt)
rows_listed (call.SockSend fd bytes fds flags) = (right_listed (call.SockSend fd bytes fds flags) fd FD_WRITE (listed.send fd bytes fds flags), tt)
rows_listed (call.SockShutdown fd how) = (right_listed (call.SockShutdown fd how) fd SOCK_SHUTDOWN (listed.shutdown fd how), tt)
rows_listed c = tt

is_listed : (c : Call) (row : Needed) → IsIn row (need c) → IsListed c row
is_listed c row is = in_all (IsListed c) row (need c) (rows_listed c) is

-- ---- what is listed stands in rows

-- a row of the call needs a right with this bit of the descriptor, or asks it of the rights that it passes on
abbrev Needs : Call → ℕ → ℕ → Type 0
Needs c fd k = (row : Needed) × IsIn row (need c) × (row.fd ≡ fd) × Has row.base.0 k

abbrev Asks : Call → ℕ → ℕ → Type 0
Asks c fd k = (row : Needed) × IsIn row (need c) × (row.fd ≡ fd) × Has row.inheriting.0 k

-- the call has this row of base rights alone
alone : (c : Call) (fd : ℕ) (base : Rights) → need c ≡ base_row fd base ∷ [] → (k : ℕ) → Has base.0 k → Needs c fd k
alone c fd base rows k has = (base_row fd base, ([], [], rows), refl, has)

seek_is_needed : (fd offset whence : ℕ) → ¬ OnlyTells offset whence → need (call.FdSeek fd offset whence) ≡ base_row fd FD_SEEK ∷ []
seek_is_needed fd offset whence apart =
    elim (eqb_tells offset 0) [
      | inl zero ↦ elim (eqb_tells whence 1) [
        | inl one ↦ absurd (apart (zero.1, one.1))
        | inr other ↦ ap (λ b. cond b (either_row fd FD_TELL FD_SEEK) (base_row fd FD_SEEK) ∷ []) (λ i. (zero.0 i) && (other.0 i))
      ]
      | inr other ↦ ap (λ b. cond (b && (whence == 1)) (either_row fd FD_TELL FD_SEEK) (base_row fd FD_SEEK) ∷ []) other.0
    ]

map_is_needed : (place : Place) (length prot flags fd offset : ℕ) → is_anonymous flags ≡ false
    → need (call.MemMap place length prot flags fd offset) ≡ map_row fd prot ∷ []
map_is_needed place length prot flags fd offset is =
    ap (λ b. (cond b (map_zeros place) (on_open (map_row fd prot) (mapping place length offset))).need) is

-- a row that stands among those of the others stands among those of all
behind_wait : (w : What) (row : Needed) (rows : List Needed) → IsIn row rows → IsIn row (wait_row w rows)
behind_wait (what.FdRead fd) row rows is = in_more row (base_row fd POLL_FD_READWRITE) rows is
behind_wait (what.FdWrite fd) row rows is = in_more row (base_row fd POLL_FD_READWRITE) rows is
behind_wait (what.ProcTerminate fd) row rows is = in_more row (base_row fd POLL_PROC_TERMINATE) rows is
behind_wait w row rows is = is

-- where what a subscription waits for has a row, the poll has it
row_in_wait : (row : Needed) (s : Subscription) → ((rows : List Needed) → IsIn row (wait_row s.what rows)) → (before after : List Subscription)
    → IsIn row (wait_rows (before ++ s ∷ after))
row_in_wait row s has [] after = has (wait_rows after)
row_in_wait row s has (x ∷ before) after = behind_wait x.what row (wait_rows (before ++ s ∷ after)) (row_in_wait row s has before after)

wait_is_needed : (subscriptions : List Subscription) (w : What) (fd : ℕ) (right : Rights) → Awaits subscriptions w
    → ((rows : List Needed) → IsIn (base_row fd right) (wait_row w rows)) → (k : ℕ) → Has right.0 k → Needs (call.Poll subscriptions) fd k
wait_is_needed subscriptions w fd right waits is k has = (
  base_row fd right,
  subst (λ all. IsIn (base_row fd right) (wait_rows all)) (sym waits.1.2)
      (row_in_wait (base_row fd right) waits.0 (λ rows. subst (λ v. IsIn (base_row fd right) (wait_row v rows)) (sym waits.2) (is rows)) waits.1.0 waits.1.1),
  refl,
  has,
)

is_needed : {right : Rights} {fd : ℕ} {c : Call} → NeedsRight right fd c → (k : ℕ) → Has right.0 k → Needs c fd k
is_needed (listed.datasync fd) = alone (call.FdDatasync fd) fd FD_DATASYNC refl
is_needed (listed.sync fd) = alone (call.FdSync fd) fd FD_SYNC refl
is_needed (listed.read fd n) = alone (call.FdRead fd n) fd FD_READ refl
is_needed (listed.pread fd n at) = λ k has. alone (call.FdPread fd n at) fd (both FD_READ FD_SEEK) refl k (first_has FD_READ FD_SEEK k has)
is_needed (listed.receive fd n room flags) = alone (call.SockRecv fd n room flags) fd FD_READ refl
is_needed (listed.map_bytes place length prot flags fd offset is) = λ k has.
    alone (call.MemMap place length prot flags fd offset) fd (both (both MEM_MAP FD_READ) (where_set prot 1 MEM_MAP_EXEC))
    (map_is_needed place length prot flags fd offset is) k
    (first_has (both MEM_MAP FD_READ) (where_set prot 1 MEM_MAP_EXEC) k (second_has MEM_MAP FD_READ k has))
is_needed (listed.write fd bytes) = alone (call.FdWrite fd bytes) fd FD_WRITE refl
is_needed (listed.pwrite fd bytes at) = λ k has. alone (call.FdPwrite fd bytes at) fd (both FD_WRITE FD_SEEK) refl k (first_has FD_WRITE FD_SEEK k has)
is_needed (listed.send fd bytes fds flags) = alone (call.SockSend fd bytes fds flags) fd FD_WRITE refl
is_needed (listed.seek fd offset whence apart) = alone (call.FdSeek fd offset whence) fd FD_SEEK (seek_is_needed fd offset whence apart)
is_needed (listed.seek_to_read fd n at) = λ k has. alone (call.FdPread fd n at) fd (both FD_READ FD_SEEK) refl k (second_has FD_READ FD_SEEK k has)
is_needed (listed.seek_to_write fd bytes at) = λ k has.
    alone (call.FdPwrite fd bytes at) fd (both FD_WRITE FD_SEEK) refl k (second_has FD_WRITE FD_SEEK k has)
is_needed (listed.tell fd) = λ k has. (either_row fd FD_TELL FD_SEEK, ([], [], refl), refl, has)
is_needed (listed.put_flags fd stat flags set) = λ k has. (
  stat_put_row fd stat flags,
  ([], [], refl),
  refl,
  first_has (where_set flags 1 FD_STAT_PUT_FLAGS) (where_set flags 2 stat.base) k (has_set flags 1 FD_STAT_PUT_FLAGS k set has),
)
is_needed (listed.put_rights fd stat flags set) = λ k has. (
  stat_put_row fd stat flags,
  ([], [], refl),
  refl,
  second_has (where_set flags 1 FD_STAT_PUT_FLAGS) (where_set flags 2 stat.base) k (has_set flags 2 stat.base k set has),
)
is_needed (listed.advise fd offset length advice) = alone (call.FileAdvise fd offset length advice) fd FILE_ADVISE refl
is_needed (listed.allocate fd offset length) = alone (call.FileAllocate fd offset length) fd FILE_ALLOCATE refl
is_needed (listed.create_directory fd path kind) = alone (call.FileCreate fd path kind) fd FILE_CREATE_DIRECTORY refl
is_needed (listed.create_file lookup path oflags stat set) = λ k has. (
  open_row lookup.fd oflags stat,
  ([], [], refl),
  refl,
  second_has FILE_OPEN (where_set oflags 1 FILE_CREATE_FILE) k (has_set oflags 1 FILE_CREATE_FILE k set has),
)
is_needed (listed.link_source lookup path fd new) = λ k has.
    (base_row lookup.fd FILE_LINK_SOURCE, ([], base_row fd FILE_LINK_TARGET ∷ [], refl), refl, has)
is_needed (listed.link_target lookup path fd new) = λ k has.
    (base_row fd FILE_LINK_TARGET, (base_row lookup.fd FILE_LINK_SOURCE ∷ [], [], refl), refl, has)
is_needed (listed.rename_source from path to new) = λ k has.
    (base_row from FILE_RENAME_SOURCE, ([], base_row to FILE_RENAME_TARGET ∷ [], refl), refl, has)
is_needed (listed.rename_target from path to new) = λ k has.
    (base_row to FILE_RENAME_TARGET, (base_row from FILE_RENAME_SOURCE ∷ [], [], refl), refl, has)
is_needed (listed.symlink text fd path) = alone (call.FileSymlink text fd path) fd FILE_SYMLINK refl
is_needed (listed.unlink fd path flags) = alone (call.FileUnlink fd path flags) fd FILE_UNLINK refl
is_needed (listed.opens lookup path oflags stat) = λ k has.
    (open_row lookup.fd oflags stat, ([], [], refl), refl, first_has FILE_OPEN (where_set oflags 1 FILE_CREATE_FILE) k has)
is_needed (listed.readdir fd length cookie) = alone (call.FileReaddir fd length cookie) fd FILE_READDIR refl
is_needed (listed.readlink fd path length) = alone (call.FileReadlink fd path length) fd FILE_READLINK refl
is_needed (listed.stat_fget fd) = alone (call.FileStatFget fd) fd FILE_STAT_FGET refl
is_needed (listed.stat_get lookup path) = alone (call.FileStatGet lookup path) lookup.fd FILE_STAT_GET refl
is_needed (listed.fput_size fd stat flags set) = λ k has.
    let size = where_set flags 16 FILE_STAT_FPUT_SIZE in
    let times = where_set flags 15 FILE_STAT_FPUT_TIMES in
    alone (call.FileStatFput fd stat flags) fd (both size times) refl k (first_has size times k (has_set flags 16 FILE_STAT_FPUT_SIZE k set has))
is_needed (listed.fput_times fd stat flags set) = λ k has.
    let size = where_set flags 16 FILE_STAT_FPUT_SIZE in
    let times = where_set flags 15 FILE_STAT_FPUT_TIMES in
    alone (call.FileStatFput fd stat flags) fd (both size times) refl k (second_has size times k (has_set flags 15 FILE_STAT_FPUT_TIMES k set has))
is_needed (listed.put_times lookup path stat flags) = alone (call.FileStatPut lookup path stat flags) lookup.fd FILE_STAT_PUT_TIMES refl
is_needed (listed.map place length prot flags fd offset is) = λ k has.
    alone (call.MemMap place length prot flags fd offset) fd (both (both MEM_MAP FD_READ) (where_set prot 1 MEM_MAP_EXEC))
    (map_is_needed place length prot flags fd offset is) k
    (first_has (both MEM_MAP FD_READ) (where_set prot 1 MEM_MAP_EXEC) k (first_has MEM_MAP FD_READ k has))
is_needed (listed.map_to_execute place length prot flags fd offset is set) = λ k has.
    alone (call.MemMap place length prot flags fd offset) fd (both (both MEM_MAP FD_READ) (where_set prot 1 MEM_MAP_EXEC))
    (map_is_needed place length prot flags fd offset is) k
    (second_has (both MEM_MAP FD_READ) (where_set prot 1 MEM_MAP_EXEC) k (has_set prot 1 MEM_MAP_EXEC k set has))
is_needed (listed.poll_read subscriptions fd waits) =
    wait_is_needed subscriptions (what.FdRead fd) fd POLL_FD_READWRITE waits (λ rows. ([], rows, refl))
is_needed (listed.poll_write subscriptions fd waits) =
    wait_is_needed subscriptions (what.FdWrite fd) fd POLL_FD_READWRITE waits (λ rows. ([], rows, refl))
is_needed (listed.poll_end subscriptions fd waits) =
    wait_is_needed subscriptions (what.ProcTerminate fd) fd POLL_PROC_TERMINATE waits (λ rows. ([], rows, refl))
is_needed (listed.exec fd bytes fds) = alone (call.ProcExec fd bytes fds) fd PROC_EXEC refl
is_needed (listed.shutdown fd how) = alone (call.SockShutdown fd how) fd SOCK_SHUTDOWN refl

is_asked : {right : Rights} {fd : ℕ} {c : Call} → AsksRight right fd c → (k : ℕ) → Has right.0 k → Asks c fd k
is_asked (listed.put_inheriting fd stat flags set) = λ k has.
    (stat_put_row fd stat flags, ([], [], refl), refl, has_set flags 2 stat.inheriting k set has)
is_asked (listed.open_base lookup path oflags stat) = λ k has. (
  open_row lookup.fd oflags stat,
  ([], [], refl),
  refl,
  first_has (both stat.base stat.inheriting) (where_set oflags 8 FILE_STAT_FPUT_SIZE) k (first_has stat.base stat.inheriting k has),
)
is_asked (listed.open_inheriting lookup path oflags stat) = λ k has. (
  open_row lookup.fd oflags stat,
  ([], [], refl),
  refl,
  first_has (both stat.base stat.inheriting) (where_set oflags 8 FILE_STAT_FPUT_SIZE) k (second_has stat.base stat.inheriting k has),
)
is_asked (listed.truncate lookup path oflags stat set) = λ k has. (
  open_row lookup.fd oflags stat,
  ([], [], refl),
  refl,
  second_has (both stat.base stat.inheriting) (where_set oflags 8 FILE_STAT_FPUT_SIZE) k (has_set oflags 8 FILE_STAT_FPUT_SIZE k set has),
)

-- ---- both

pub needs_are_listed : AllNeedsAreListed
needs_are_listed c = record {
  base = λ fd k. (
    (λ stands. subst (λ n. NeededBy c n k) stands.2 ((is_listed c stands.0 stands.1).base k stands.3)),
    (λ needs. is_needed needs.1 k needs.2),
  );
  inheriting = λ fd k. (
    (λ stands. subst (λ n. AskedBy c n k) stands.2 ((is_listed c stands.0 stands.1).inheriting k stands.3)),
    (λ asks. is_asked asks.1 k asks.2),
  );
  instead = λ row is. (is_listed c row is).instead;
}
