-- How an entry may change what its process holds.
use Rattle.std.proofs.Common.{◌≡◌, ℕ, ◌==◌, Bool, true, false, cond, Option, Some, None, refl, List, [], ◌∷◌}
use Rattle.std.specs.Prelude.{bit_and, option_map}
use Rattle.abi_base.proofs.Bits.{has-meet}
use Rattle.abi_base.specs.declared.errno.Errno.{Errno}
use Rattle.abi_base.specs.declared.errno.Errno.TheVariants.{Success}
use Rattle.abi_structures.specs.declared.structures.FdStat.{FdStat}
use Rattle.abi_types.specs.declared.reply.Answer.{Answer}
use Rattle.abi_types.specs.declared.reply.Answer.TheVariants as answer
use Rattle.abi_types.specs.declared.call.Call.{Call}
use Rattle.abi_types.specs.declared.call.Call.TheVariants.{FdClose, FdCreate2, FdDup, FdReplace, FdStatPut, FileOpen, ProcExec, ProcExit, ProcFork, ProcRaise, SockRecv, ThreadExit}
use Rattle.abi_types.specs.declared.reply.Reply.{Reply}
use Rattle.abi_types.specs.declared.descriptor.Descriptor.{Descriptor}
use Rattle.run_types.specs.declared.history.Act.{Act}
use Rattle.run_types.specs.declared.history.Act.TheVariants as act
use Rattle.abi_types.specs.declared.open_kind.OpenKind.{OpenKind}
use Rattle.kernel_model.specs.Families.DescriptorCalls.{lowered_to}
use Rattle.kernel_model.specs.Families.Opening.{opened_descriptor}
use Rattle.authority_laws.specs.Ledger.{Row, no_row, After, came_for, installed_fds, put_each, with_held, lowered_row, granted_row, by_success, answered_row}
use Rattle.authority_laws.specs.Origins.{IsNoMoreThan, Change, stays, ends, closes, copies, lowers, opens, makes, makes_both, lists, receives}
use Rattle.kernel_model.specs.Families.ProcessCalls.{signal_of}
use Rattle.authority_laws.proofs.Rows.{raised_cases}
use Rattle.authority_laws.specs.Recorded.{acted_row}

pub lowered_is_no_more : (d : Descriptor) (stat : FdStat) → IsNoMoreThan (lowered_to d stat) d
lowered_is_no_more d stat = record {
  id = refl;
  base = λ k has. ((has-meet d.base.0 stat.base.0 k).0 has).0;
  inheriting = λ k has. ((has-meet d.inheriting.0 stat.inheriting.0 k).0 has).0;
}

-- a number under which then stands what stood under another
copied_change : (after : After) (row : Row) (from to : ℕ) (o : Option Descriptor) → row from ≡ o → Change after row (with_held row to o)
copied_change after row from to None there = closes to refl
copied_change after row from to (Some d) there = copies from to d there refl

-- a number under which then stands what has those of its rights that are asked
lowered_change : (after : After) (row : Row) (n : ℕ) (stat : FdStat) (o : Option Descriptor) → row n ≡ o
    → Change after row (with_held row n (option_map (λ (x : Descriptor). lowered_to x stat) o))
lowered_change after row n stat None there = closes n refl
lowered_change after row n stat (Some x) there = lowers n (lowered_to x stat) x there (lowered_is_no_more x stat) refl

where_set_change : (after : After) (row : Row) (n : ℕ) (stat : FdStat) (no_rights : Bool) → Change after row (cond no_rights row (lowered_row row n stat))
where_set_change after row n stat true = stays refl
where_set_change after row n stat false = lowered_change after row n stat (row n) refl

-- a number under which then stands what was opened
opened_change : (after : After) (row : Row) (n : ℕ) (stat : FdStat) (o : Option OpenKind) → (after.made 0).kind ≡ o
    → Change after row (with_held row n (option_map (λ (kind : OpenKind). opened_descriptor (after.made 0).number kind stat) o))
opened_change after row n stat None there = closes n refl
opened_change after row n stat (Some kind) there = opens n kind stat there refl

where_ends_change : (after : After) (row : Row) (lasts : Bool) → Change after row (cond lasts row no_row)
where_ends_change after row true = stays refl
where_ends_change after row false = ends refl

-- numbers under which then stands what came for a socket, if there is one
put_none : (row : Row) (fds : List ℕ) → put_each row fds [] ≡ row
put_none row [] = refl
put_none row (n ∷ fds) = refl

received_change : (after : After) (row : Row) (fd : ℕ) (fds : List ℕ) (o : Option Descriptor) → row fd ≡ o → Change after row (put_each row fds (came_for after o))
received_change after row fd fds None there = stays (put_none row fds)
received_change after row fd fds (Some x) there = receives fd x fds there refl

-- each call that changes what its process holds has a line
granted_change : (after : After) (row : Row) (call : Call) (reply : Reply) → Change after row (granted_row after row call reply)
granted_change after row (FdClose fd) reply = closes fd refl
granted_change after row (FdCreate2 kind) reply = makes_both reply.r1 reply.r2 refl
granted_change after row (FdDup fd) reply = copied_change after row fd reply.r1 (row fd) refl
granted_change after row (FdReplace from to) reply = copied_change after row from to (row from) refl
granted_change after row (FdStatPut fd stat flags) reply = where_set_change after row fd stat (bit_and flags 2 == 0)
granted_change after row (FileOpen lookup path oflags stat) reply = opened_change after row reply.r1 stat (after.made 0).kind refl
granted_change after row (ProcExec fd bytes fds) reply = lists fds refl
granted_change after row (ProcExit code) reply = ends refl
granted_change after row (ProcFork left) reply = makes reply.r1 refl
granted_change after row (ProcRaise signal) reply = raised_cases (Change after row) (signal_of signal) row (stays refl) (ends refl)
granted_change after row (SockRecv fd length fds flags) reply = received_change after row fd (installed_fds reply.payload) (row fd) refl
granted_change after row (ThreadExit lock word scope) reply = where_ends_change after row after.threaded
granted_change after row _ reply = stays refl

either_change : (after : After) (errno : Errno) (granted row : Row) → Change after row granted → Change after row (by_success errno granted row)
either_change after Success granted row done = done
either_change after _ granted row done = stays refl

answered_change : (after : After) (row : Row) (call : Call) (given : Answer) → Change after row (answered_row after row call given)
answered_change after row call (answer.Parked writes) = stays refl
answered_change after row call (answer.Reply reply) =
    either_change after reply.errno (granted_row after row call reply) row (granted_change after row call reply)

pub acted_change : (after : After) (row : Row) (a : Act) → Change after row (acted_row after row a)
acted_change after row (act.Call call given) = answered_change after row call given
acted_change after row (act.Wake call given answered) = answered_change after row call answered
acted_change after row (act.Trap signal) = ends refl
acted_change after row act.Expire = ends refl
acted_change after row act.Idle = stays refl
