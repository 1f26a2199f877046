-- Tables of what a call answers: rows in the order in which they are looked at. A row has a condition, and the error that is the answer where it is the first
-- whose condition holds; where none holds the call succeeds.
use Rattle.std.specs.Prelude.{◌≡◌, ◌⊎◌, ℕ, Option, None, Some}
use Rattle.std.specs.FinMap.{get}
use Rattle.abi_base.specs.declared.errno.Errno.{Errno}
use Rattle.abi_base.specs.declared.errno.Errno.TheVariants.{Success}
use Rattle.abi_types.specs.declared.call.Call.{Call}
use Rattle.abi_types.specs.declared.constants.Constants.{Constants}
use Rattle.abi_types.specs.declared.descriptor.Denial.TheVariants.{Outside}
use Rattle.abi_types.specs.declared.descriptor.Descriptor.{Descriptor}
use Rattle.abi_types.specs.declared.open_kind.OpenKind.{OpenKind}
use Rattle.abi_types.specs.declared.reply.Answer.{Answer}
use Rattle.abi_types.specs.declared.reply.Answer.TheVariants as answer
use Rattle.abi_types.specs.declared.reply.Reply.{Reply}
use Rattle.abi_types.specs.declared.who.Who.{Who}
use Rattle.kernel_model.specs.Calls.{refusal}
use Rattle.kernel_model.specs.Outcome.{OnReply}
use Rattle.kernel_model.specs.Reply.{denied, refused}
use Rattle.kernel_model.specs.State.{State, Table}
use Rattle.kernel_model.specs.Step.{step_answer}

pub data Rows : Type 1 where
  -- no error any more: the call succeeds
  succeeds : Rows
  -- this error, whatever else
  refuses : Errno → Rows
  -- the denial of a path that leads outside its directory at this component
  leads_out : ℕ → Rows
  -- this error where the condition holds, and else what the rows behind it say
  row : Type 0 → Errno → Rows → Rows

-- an answer is as the rows say
abbrev pub Answers : Rows → Answer → Type 0
Answers succeeds given = OnReply (λ (reply : Reply). reply.errno ≡ Success) given
Answers (refuses errno) given = given ≡ answer.Reply (refused errno)
Answers (leads_out component) given = given ≡ answer.Reply (denied (Outside component))
Answers (row holds errno others) given = (holds × (given ≡ answer.Reply (refused errno))) ⊎ ((¬ holds) × Answers others given)

-- The process of a thread has each descriptor that the call names, with each right that the call needs of it. What it is refused without them other laws say.
pub record IsAllowed (S : State) (who : Who) (call : Call) : Type 0 where
  pub table : Table
  pub own : get S.tables who.pid ≡ Some table
  pub allowed : refusal table call ≡ None

-- what the descriptor with this number is of: an open of a kind, or one that isn't there, as of no descriptor in a valid state
abbrev pub IsOpenAt : State → Table → ℕ → Option OpenKind → Type 0
IsOpenAt S table fd kind = (d : Descriptor) × (get table fd ≡ Some d) × (get S.opens d.id ≡ kind)

-- The call, where it is allowed, answers as the rows say that its process and that one's table have.
abbrev pub IsListed : Call → (State → Who → Table → Rows) → Type 0
IsListed call rows =
    (constants : Constants) (S : State) (who : Who) (has : IsAllowed S who call) → Answers (rows S who has.table) (step_answer constants S who call)

-- The call by one descriptor answers as the rows say that its open has, where this holds of what that is of.
abbrev pub IsListedWhere : (Option OpenKind → Type 0) → Call → ℕ → (State → Who → Table → Option OpenKind → Rows) → Type 0
IsListedWhere IsOf call fd rows =
    (constants : Constants) (S : State) (who : Who) (kind : Option OpenKind) (has : IsAllowed S who call) → IsOpenAt S has.table fd kind → IsOf kind
    → Answers (rows S who has.table kind) (step_answer constants S who call)

-- so whatever it is of
abbrev pub IsListedBy : Call → ℕ → (State → Who → Table → Option OpenKind → Rows) → Type 0
IsListedBy = IsListedWhere (λ kind. Unit {0})

-- The call by two descriptors answers as the rows say that their opens have.
abbrev pub IsListedByTwo : Call → ℕ → ℕ → (State → Option OpenKind → Option OpenKind → Rows) → Type 0
IsListedByTwo call fd other_fd rows =
    (constants : Constants) (S : State) (who : Who) (kind other_kind : Option OpenKind) (has : IsAllowed S who call) → IsOpenAt S has.table fd kind
    → IsOpenAt S has.table other_fd other_kind → Answers (rows S kind other_kind) (step_answer constants S who call)
