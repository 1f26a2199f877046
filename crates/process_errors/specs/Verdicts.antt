-- What the tables of this crate say of an answer, and of which calls they are.
--     Verdict, verdict_of, fails      what an answer comes to
--     IsUnrefused      a call of which a table says what it comes to
--     IsOpenOn      what a descriptor is open on
use Rattle.std.specs.Prelude.{◌≡◌, ℕ, None, Some, IsSome}
use Rattle.std.specs.FinMap.{get}
use Rattle.abi_base.specs.declared.errno.Errno.{Errno}
use Rattle.abi_base.specs.declared.errno.Errno.TheVariants.{Success}
use Rattle.abi_types.specs.declared.call.Call.{Call}
use Rattle.abi_types.specs.declared.descriptor.Descriptor.{Descriptor}
use Rattle.abi_types.specs.declared.open_kind.OpenKind.{OpenKind}
use Rattle.abi_types.specs.declared.reply.Answer.{Answer}
use Rattle.abi_types.specs.declared.reply.Answer.TheVariants as answer
use Rattle.abi_types.specs.declared.reply.Reply.{Reply}
use Rattle.abi_types.specs.declared.who.Who.{Who}
use Rattle.kernel_model.specs.Calls.{refusal}
use Rattle.kernel_model.specs.Reply.{refused}
use Rattle.kernel_model.specs.State.{ProcessState, State, Table}
use Rattle.kernel_model.specs.Valid.{IsValid}

-- What an answer comes to: the call is done, whatever it gives; its thread waits; or it has this reply, which is an error.
pub data Verdict : Type 0 where
  done : Verdict
  waits : Verdict
  errs : Reply → Verdict

abbrev pub by_errno : Errno → Reply → Verdict
by_errno Success reply = done
by_errno errno reply = errs reply

abbrev pub verdict_of : Answer → Verdict
verdict_of (answer.Parked writes) = waits
verdict_of (answer.Reply reply) = by_errno reply.errno reply

-- this error, and nothing beside it
abbrev pub fails : Errno → Verdict
fails errno = errs (refused errno)

-- A call of which a table says what it comes to: a thread of a process makes it in a valid state, the process has this table and this of its
-- own, and no descriptor that the call names is absent and no right missing. What it comes to else is said of all calls at once
-- (`AbsentIsBadf` and `LackIsDenied` of `kernel_model/specs/Laws.antt`), and so is lack of memory (`IsStep`).
pub record IsUnrefused (S : State) (who : Who) (call : Call) (table : Table) (own : ProcessState) : Type 0 where
  pub valid : IsValid S
  pub had : get S.tables who.pid ≡ Some table
  pub there : get S.processes who.pid ≡ Some own
  pub caller : IsSome (get own.threads who.tid)
  pub allowed : refusal table call ≡ None

-- the table has a descriptor under this number, whose open is this
abbrev pub IsOpenOn : State → Table → ℕ → OpenKind → Type 0
IsOpenOn S table fd kind = (d : Descriptor) × (get table fd ≡ Some d) × (get S.opens d.id ≡ Some kind)
