-- The numbers that a call in which a thread may wait names.
--     poll_looks      a poll names those of its subscriptions, and may wait
--     other_looks      in another call no thread waits
use Rattle.std.proofs.Common.{◌≡◌, ℕ, ◌&&◌, ◌||◌, Bool, true, false, cond, List, [], ◌∷◌, refl, sym, ap, ◌∙◌}
use Rattle.std.specs.Bool.{nat_eq}
use Rattle.std.specs.List.{list_any}
use Rattle.abi_structures.specs.declared.events.Subscription.{Subscription}
use Rattle.abi_structures.specs.declared.events.What.{What}
use Rattle.abi_structures.specs.declared.events.What.TheVariants as what
use Rattle.abi_types.specs.Families.{is_anonymous}
use Rattle.abi_types.specs.declared.call.Call.{Call}
use Rattle.abi_types.specs.declared.call.Call.TheVariants as call
use Rattle.abi_types.specs.declared.place.Place.{Place}
use Rattle.abi_types.specs.declared.needed.Needed.{Needed}
use Rattle.maps.specs.Closure.{member}
use Rattle.kernel_model.specs.Calls.{named}
use Rattle.kernel_model.specs.Families.MemoryCalls.{map_row, map_zeros, mapping}
use Rattle.kernel_model.specs.Families.FileMeaning.{on_open}
use Rattle.kernel_model.specs.Families.Polls.{begins_with_lock, poll_by}
use Rattle.kernel_model.specs.Families.WaitCalls.{fds_of, wait_row, wait_rows}
use Rattle.kernel_parts.specs.Touching.{looks_behind, looks_for, subscribes}

or_none : (a : Bool) → (a || false) ≡ a
or_none true = refl
or_none false = refl

row_looks : (fd : ℕ) (w : What) (rows : List Needed) → member fd (fds_of (wait_row w rows)) ≡ (looks_behind fd w || member fd (fds_of rows))
row_looks fd (what.FdRead own) rows = ap (λ b. b || member fd (fds_of rows)) (sym (or_none (nat_eq fd own)))
row_looks fd (what.FdWrite own) rows = ap (λ b. b || member fd (fds_of rows)) (sym (or_none (nat_eq fd own)))
row_looks fd (what.ProcTerminate own) rows = ap (λ b. b || member fd (fds_of rows)) (sym (or_none (nat_eq fd own)))
row_looks fd (what.Clock clock timeout precision flags) rows = refl
row_looks fd (what.Condvar condvar condvar_word lock lock_word condvar_scope lock_scope) rows = refl
row_looks fd (what.LockRdlock lock word scope) rows = refl
row_looks fd (what.LockWrlock lock word scope) rows = refl

rows_look : (fd : ℕ) (subscriptions : List Subscription) → list_any (subscribes fd) subscriptions ≡ member fd (fds_of (wait_rows subscriptions))
rows_look fd [] = refl
rows_look fd (s ∷ rest) = ap (λ b. looks_behind fd s.what || b) (rows_look fd rest) ∙ sym (row_looks fd s.what (wait_rows rest))

by_waits : (b : Bool) (subscriptions : List Subscription) → (poll_by b subscriptions).may_wait ≡ true
by_waits true [] = refl
by_waits true (first ∷ rest) = refl
by_waits false subscriptions = refl

pub poll_looks : (fd : ℕ) (subscriptions : List Subscription) → list_any (subscribes fd) subscriptions ≡ looks_for fd (call.Poll subscriptions)
poll_looks fd subscriptions =
    rows_look fd subscriptions ∙ sym (ap (λ b. b && member fd (fds_of (wait_rows subscriptions))) (by_waits (begins_with_lock subscriptions) subscriptions))

map_waits : (zeros : Bool) (place : Place) (length prot own offset : ℕ)
    → (cond zeros (map_zeros place) (on_open (map_row own prot) (mapping place length offset))).may_wait ≡ false
map_waits true place length prot own offset = refl
map_waits false place length prot own offset = refl

module _ (fd : ℕ) where
  pub other_looks : (c : Call) → ((own length : ℕ) → c ≡ call.FdRead own length → ⊥) → ((own : ℕ) (bytes : List ℕ) → c ≡ call.FdWrite own bytes → ⊥)
      → ((own length room flags : ℕ) → c ≡ call.SockRecv own length room flags → ⊥)
      → ((own : ℕ) (bytes fds : List ℕ) (flags : ℕ) → c ≡ call.SockSend own bytes fds flags → ⊥)
      → ((subscriptions : List Subscription) → c ≡ call.Poll subscriptions → ⊥) → false ≡ looks_for fd c
  other_looks (call.ClockResGet clock) a b d e f = refl
  other_looks (call.ClockTimeGet clock precision) a b d e f = refl
  other_looks (call.CondvarSignal condvar word scope n) a b d e f = refl
  other_looks (call.FdClose own) a b d e f = refl
  other_looks (call.FdCreate1 kind) a b d e f = refl
  other_looks (call.FdCreate2 kind) a b d e f = refl
  other_looks (call.FdDatasync own) a b d e f = refl
  other_looks (call.FdDup own) a b d e f = refl
  other_looks (call.FdPread own length offset) a b d e f = refl
  other_looks (call.FdPwrite own bytes offset) a b d e f = refl
  other_looks (call.FdRead own length) a b d e f = absurd (a own length refl)
  other_looks (call.FdReplace from to) a b d e f = refl
  other_looks (call.FdSeek own offset whence) a b d e f = refl
  other_looks (call.FdStatGet own) a b d e f = refl
  other_looks (call.FdStatPut own stat flags) a b d e f = refl
  other_looks (call.FdSync own) a b d e f = refl
  other_looks (call.FdWrite own bytes) a b d e f = absurd (b own bytes refl)
  other_looks (call.FileAdvise own offset length advice) a b d e f = refl
  other_looks (call.FileAllocate own offset length) a b d e f = refl
  other_looks (call.FileCreate own path kind) a b d e f = refl
  other_looks (call.FileLink lookup path new_fd new_path) a b d e f = refl
  other_looks (call.FileOpen lookup path oflags stat) a b d e f = refl
  other_looks (call.FileReaddir own length cookie) a b d e f = refl
  other_looks (call.FileReadlink own path length) a b d e f = refl
  other_looks (call.FileRename own path new_fd new_path) a b d e f = refl
  other_looks (call.FileStatFget own) a b d e f = refl
  other_looks (call.FileStatFput own stat flags) a b d e f = refl
  other_looks (call.FileStatGet lookup path) a b d e f = refl
  other_looks (call.FileStatPut lookup path stat flags) a b d e f = refl
  other_looks (call.FileSymlink text own path) a b d e f = refl
  other_looks (call.FileUnlink own path flags) a b d e f = refl
  other_looks (call.LockUnlock lock word scope) a b d e f = refl
  other_looks (call.MemMap place length prot flags own offset) a b d e f =
      sym (ap (λ w. w && member fd (named (call.MemMap place length prot flags own offset))) (map_waits (is_anonymous flags) place length prot own offset))
  other_looks (call.Memory number errno) a b d e f = refl
  other_looks (call.Poll subscriptions) a b d e f = absurd (f subscriptions refl)
  other_looks (call.ProcExec own bytes fds) a b d e f = refl
  other_looks (call.ProcExit code) a b d e f = refl
  other_looks (call.ProcFork left) a b d e f = refl
  other_looks (call.ProcRaise signal) a b d e f = refl
  other_looks (call.RandomGet length) a b d e f = refl
  other_looks (call.SockRecv own length room flags) a b d e f = absurd (d own length room flags refl)
  other_looks (call.SockSend own bytes fds flags) a b d e f = absurd (e own bytes fds flags refl)
  other_looks (call.SockShutdown own how) a b d e f = refl
  other_looks (call.ThreadCreate attributes) a b d e f = refl
  other_looks (call.ThreadExit lock word scope) a b d e f = refl
  other_looks call.ThreadYield a b d e f = refl
  other_looks (call.Refused number errno) a b d e f = refl
  other_looks (call.Unknown number) a b d e f = refl
