-- What a call that succeeds shows of its process's descriptors.
--     has_table, met_of_success      its process has a table, in which its needs are met
--     may_open      a descriptor through which something is opened has the right to open
--     opened_inherits      what is opened through a descriptor that has the rights needed has no right but those which that passes on
--     act_is_within      so it is of each entry that fits
use Rattle.std.proofs.Common.{◌≡◌, ◌≢◌, inl, inr, ℕ, ◌-◌, ◌^◌, ◌<◌, ◌&&◌, ◌==◌, Bool, true, false, max, List, Option, Some, None, refl, sym, ap, subst, ◌∙◌, arith}
use Rattle.std.proofs.lemmas.Bool.{eqb-true}
use Rattle.std.proofs.lemmas.Bool.Decides.{eqb_tells}
use Rattle.std.proofs.lemmas.Nat.{and_le_l}
use Rattle.std.proofs.lemmas.Nat.Bits.{bit_at_above, bit_at-lt, bit_at_or}
use Rattle.std.specs.Int.{bit_at}
use Rattle.std.specs.Prelude.{bit_and, bit_or}
use Rattle.std.specs.FinMap.{get}
use Rattle.std.specs.List.{AllByRecursion}
use Rattle.abi_base.proofs.Bits.{has-meet}
use Rattle.abi_base.specs.Rights.{Has, minus_of}
use Rattle.abi_base.specs.declared.rights.TheConstants.Rights.{FILE_OPEN}
use Rattle.abi_base.specs.declared.errno.Errno.{Errno}
use Rattle.abi_base.specs.declared.errno.Errno.TheVariants.{Badf, Fault, Nomem, Success}
use Rattle.abi_structures.specs.declared.structures.FdStat.{FdStat}
use Rattle.abi_structures.specs.declared.events.Subscription.{Subscription}
use Rattle.abi_types.specs.declared.call.Call.{Call}
use Rattle.abi_types.specs.declared.call.Call.TheVariants.{FileOpen, Poll}
use Rattle.abi_types.specs.declared.call.Lookup.{Lookup}
use Rattle.abi_types.specs.declared.constants.Constants.{Constants}
use Rattle.abi_types.specs.declared.descriptor.Descriptor.{Descriptor}
use Rattle.abi_types.specs.declared.open_kind.OpenKind.{OpenKind}
use Rattle.abi_types.specs.declared.open_kind.OpenKind.TheVariants.{File, Directory, End, Terminal, Process}
use Rattle.abi_types.specs.declared.reply.Answer.{Answer}
use Rattle.abi_types.specs.declared.reply.Answer.TheVariants as answer
use Rattle.abi_types.specs.declared.reply.Reply.{Reply}
use Rattle.abi_types.specs.declared.wake.WakeIn.{WakeIn}
use Rattle.abi_types.specs.declared.wake.WakeIn.TheVariants as wake
use Rattle.abi_types.specs.declared.who.Who.{Who}
use Rattle.run_types.specs.declared.history.Act.{Act}
use Rattle.run_types.specs.declared.history.Act.TheVariants as act
use Rattle.run_types.specs.declared.history.Entry.{Entry}
use Rattle.kernel_model.specs.Calls.{need, refusal}
use Rattle.kernel_model.specs.Laws.{IsMet}
use Rattle.kernel_model.specs.Need.{has_needed, lack_base, lack_inheriting}
use Rattle.kernel_model.specs.Families.Opening.{open_row, opened_descriptor}
use Rattle.kernel_model.specs.Outcome.{Outcome}
use Rattle.kernel_model.specs.Reply.{refused}
use Rattle.kernel_model.specs.State.{State, Table}
use Rattle.kernel_model.specs.Step.{tick, outcome_on, step_answer, IsStep}
use Rattle.kernel_model.specs.Fits.{fits, fits_inheriting}
use Rattle.kernel_model.specs.Valid.{IsNamed, IsValid}
use Rattle.kernel_model.specs.View.{whole}
use Rattle.kernel_model.specs.Families.Locks.{with_word}
use Rattle.kernel_model.specs.Waits.{resumed}
use Rattle.kernel_model.specs.Wakes.{IsWake}
use Rattle.kernel_model.proofs.Waking.{resumed_valid}
use Rattle.kernel_model.proofs.FoundOpens.{fits_small, lacks_none}
use Rattle.kernel_model.proofs.Outcomes.{outcome_reads}
use Rattle.kernel_model.proofs.Reaches.{all_met}
use Rattle.kernel_model.proofs.Refusals.{refused_answer, refusal_is_other, same_reply}
use Rattle.kernel_model.proofs.Tests.{not_true}
use Rattle.run_model.specs.Legal.{FitsAct}
use Rattle.run_model.specs.World.{Guest, called_state, woken_state, who_of}
use Rattle.run_model.proofs.Words.{by_word}
use Rattle.authority_laws.specs.Ledger.{After, Ledger}
use Rattle.authority_laws.specs.Origins.{AreAmong, InheritsFrom, was_opened}
use Rattle.authority_laws.proofs.Origins.{ActIsWithin, AnswerIsWithin, OpensWithin}
use Rattle.authority_laws.proofs.Rows.{row_in, badf_is_error}
use Rattle.authority_laws.proofs.States.{HasRows}

-- ---- its process has a table

nomem_is_error : Nomem ≢ Success
nomem_is_error e = cc

fault_is_error : Fault ≢ Success
fault_is_error e = cc

pub no_success : {X : Type 0} (reply : Reply) (errno : Errno) → answer.Reply reply ≡ answer.Reply (refused errno) → errno ≢ Success → reply.errno ≡ Success → X
no_success reply errno is other success = absurd (other (sym (ap (λ (r : Reply). r.errno) (same_reply reply (refused errno) is)) ∙ success))

pub no_memory : {X : Type 0} (reply : Reply) → answer.Reply reply ≡ answer.Reply (refused Nomem) → reply.errno ≡ Success → X
no_memory reply is success = no_success reply Nomem is nomem_is_error success

without_table : (constants : Constants) (S : State) (who : Who) (call : Call) → get S.tables who.pid ≡ None
    → step_answer constants S who call ≡ answer.Reply (refused Badf)
without_table constants S who call own =
    ap (λ (o : Outcome). o.answer) (outcome_reads constants S who call ∙ ap (outcome_on constants (whole (tick S)) who call) own)

pub has_table : (constants : Constants) (S : State) (who : Who) (call : Call) (reply : Reply) (T : State) {X : Type 0}
    → IsStep constants S who call (answer.Reply reply) T → reply.errno ≡ Success → get S.tables who.pid ≡ None → X
has_table constants S who call reply T (inl done) success own =
    no_success reply Badf (done.0 ∙ without_table constants S who call own) badf_is_error success
has_table constants S who call reply T (inr lacking) success own = no_memory reply lacking.1 success

-- ---- in which its needs are met

not_refused : (constants : Constants) (S : State) (who : Who) (call : Call) (reply : Reply) (T : State) (table : Table)
    → IsStep constants S who call (answer.Reply reply) T → reply.errno ≡ Success → get S.tables who.pid ≡ Some table → refusal table call ≡ None
not_refused constants S who call reply T table step success own =
    elim (refusal table call) as (λ o. refusal table call ≡ o → o ≡ None) [
      | None ↦ λ _. refl
      | Some r ↦ λ is. absurd (refusal_is_other Success (λ e. cc) (λ e. cc) call (Some table) r is
          (sym (ap (λ (x : Reply). x.errno) (same_reply reply r (refused_answer constants S who call (answer.Reply reply) T table r step own is))) ∙ success))
    ] refl

pub met_of_success : (constants : Constants) (S : State) (who : Who) (call : Call) (reply : Reply) (T : State) (table : Table)
    → IsStep constants S who call (answer.Reply reply) T → reply.errno ≡ Success → get S.tables who.pid ≡ Some table
    → AllByRecursion (IsMet table) (need call)
met_of_success constants S who call reply T table step success own =
    all_met call table (not_refused constants S who call reply T table step success own)

-- ---- rights

both_hold : (a b : Bool) → (a && b) ≡ true → (a ≡ true) × (b ≡ true)
both_hold true b h = (refl, h)
both_hold false b h = absurd (not_true h)

-- rights of a type are numbered below 64
below_64 : (rights k : ℕ) → rights < 2 ^ 64 → Has rights k → k < 64
below_64 rights k small has =
    elim (eqb_tells (64 - k) 0) [
      | inl past ↦ (
          let above : 64 - k ≡ 0 = past.1 in
          let none : bit_at rights k ≡ 0 = bit_at_above rights 64 k small (omega (arith, above)) in
          absurd (omega (arith, none, has)))
      | inr within ↦ (let apart : 64 - k ≢ 0 = within.1 in omega (arith, apart))
    ]

first_has : (a b k : ℕ) → Has a k → Has (bit_or a b) k
first_has a b k has =
    let each : bit_at (bit_or a b) k ≡ max (bit_at a k) (bit_at b k) = bit_at_or a b k in
    omega (arith, each, bit_at-lt b k, has)

second_has : (a b k : ℕ) → Has b k → Has (bit_or a b) k
second_has a b k has =
    let each : bit_at (bit_or a b) k ≡ max (bit_at a k) (bit_at b k) = bit_at_or a b k in
    omega (arith, each, bit_at-lt a k, has)

inheriting_small : (kind : OpenKind) → fits_inheriting kind < 2 ^ 64
inheriting_small (File node offset flags) = omega arith
inheriting_small (Directory node flags) = omega arith
inheriting_small (End reads writes flags form) = omega arith
inheriting_small (Terminal which flags) = omega arith
inheriting_small (Process p object) = omega arith

named_small : (o : Option OpenKind) (x : Descriptor) → IsNamed o x → x.inheriting.0 < 2 ^ 64
named_small None x named = absurd named
named_small (Some kind) x named =
    let same : bit_and (fits_inheriting kind) x.inheriting.0 ≡ x.inheriting.0 = eqb-true _ _ named.1 in
    let most = and_le_l (fits_inheriting kind) x.inheriting.0 in
    let small = inheriting_small kind in
    omega (arith, same, most, small)

base_small : (o : Option OpenKind) (x : Descriptor) → IsNamed o x → x.base.0 < 2 ^ 64
base_small None x named = absurd named
base_small (Some kind) x named =
    let same : bit_and (fits kind) x.base.0 ≡ x.base.0 = eqb-true _ _ named.0 in
    let most = and_le_l (fits kind) x.base.0 in
    let small = fits_small kind in
    omega (arith, same, most, small)

-- a descriptor through which something is opened may open
may_open : (x : Descriptor) (fd oflags : ℕ) (stat : FdStat) → x.base.0 < 2 ^ 64 → has_needed x (open_row fd oflags stat) ≡ true
    → AreAmong FILE_OPEN.0 x.base.0
may_open x fd oflags stat small has k opens =
    let row = open_row fd oflags stat in
    let none : minus_of row.base.0 x.base.0 ≡ 0 = eqb-true _ _ (both_hold ((lack_base x row).0 == 0) ((lack_inheriting x row).0 == 0) has).0 in
    lacks_none row.base.0 x.base.0 k small (below_64 FILE_OPEN.0 k (omega arith) opens) none (first_has FILE_OPEN.0 _ k opens)

pub opened_inherits : (x : Descriptor) (fd oflags number : ℕ) (kind : OpenKind) (stat : FdStat) → x.inheriting.0 < 2 ^ 64
    → has_needed x (open_row fd oflags stat) ≡ true → InheritsFrom (opened_descriptor number kind stat) x
opened_inherits x fd oflags number kind stat small has =
    let row = open_row fd oflags stat in
    let none : minus_of row.inheriting.0 x.inheriting.0 ≡ 0 =
    eqb-true _ _ (both_hold ((lack_base x row).0 == 0) ((lack_inheriting x row).0 == 0) has).1 in
    let asked : ℕ = bit_or stat.base.0 stat.inheriting.0 in
    record {
      base = λ k held.
          let each = (has-meet (fits kind) stat.base.0 k).0 held in
          lacks_none row.inheriting.0 x.inheriting.0 k small (below_64 (fits kind) k (fits_small kind) each.0) none
          (first_has asked _ k (first_has stat.base.0 stat.inheriting.0 k each.1));
      inheriting = λ k held.
          let each = (has-meet (fits_inheriting kind) stat.inheriting.0 k).0 held in
          lacks_none row.inheriting.0 x.inheriting.0 k small (below_64 (fits_inheriting kind) k (inheriting_small kind) each.0) none
          (first_has asked _ k (second_has stat.base.0 stat.inheriting.0 k each.1));
    }

-- ---- file_open

-- the descriptor that a process held, through which it opened
pub record IsOpener (S : State) (p fd oflags : ℕ) (stat : FdStat) : Type 0 where
  pub x : Descriptor
  pub held : row_in (get S.tables p) fd ≡ Some x
  pub right : AreAmong FILE_OPEN.0 x.base.0
  pub inherits : (number : ℕ) (kind : OpenKind) → InheritsFrom (opened_descriptor number kind stat) x

opener_in : (constants : Constants) (S : State) (who : Who) (lookup : Lookup) (path : List ℕ) (oflags : ℕ) (stat : FdStat) (reply : Reply) (T : State)
    (t : Option Table) → IsStep constants S who (FileOpen lookup path oflags stat) (answer.Reply reply) T → reply.errno ≡ Success → IsValid S → get S.tables who.pid ≡ t
    → IsOpener S who.pid lookup.fd oflags stat
opener_in constants S who lookup path oflags stat reply T None step success valid own =
    has_table constants S who (FileOpen lookup path oflags stat) reply T step success own
opener_in constants S who lookup path oflags stat reply T (Some table) step success valid own =
    let met : IsMet table (open_row lookup.fd oflags stat) =
    (met_of_success constants S who (FileOpen lookup path oflags stat) reply T table step success own).0 in
    let named = valid.nearly.named who.pid lookup.fd table met.0 own met.1 in
    let small = named_small (get S.opens met.0.id) met.0 named in
    record {
      x = met.0;
      held = ap (λ o. row_in o lookup.fd) own ∙ met.1;
      right = may_open met.0 lookup.fd oflags stat (base_small (get S.opens met.0.id) met.0 named) met.2;
      inherits = λ number kind. opened_inherits met.0 lookup.fd oflags number kind stat small met.2;
    }

pub opener_is : (constants : Constants) (S : State) (who : Who) (lookup : Lookup) (path : List ℕ) (oflags : ℕ) (stat : FdStat) (reply : Reply) (T : State)
    → IsStep constants S who (FileOpen lookup path oflags stat) (answer.Reply reply) T → reply.errno ≡ Success → IsValid S
    → IsOpener S who.pid lookup.fd oflags stat
opener_is constants S who lookup path oflags stat reply T step success valid =
    opener_in constants S who lookup path oflags stat reply T (get S.tables who.pid) step success valid refl

-- ---- entries that fit

opens_within : (constants : Constants) (S : State) (who : Who) (after : After) (l : Ledger) (e : Entry) (call : Call) (reply : Reply) (T : State)
    → who.pid ≡ e.pid → IsStep constants S who call (answer.Reply reply) T → reply.errno ≡ Success → IsValid S → HasRows S l → OpensWithin after l e call
opens_within constants S who after l e (FileOpen lookup path oflags stat) reply T own step success valid rows =
    let by = opener_is constants S who lookup path oflags stat reply T step success valid in
    let held : row_in (get S.tables e.pid) lookup.fd ≡ Some by.x = subst (λ p. row_in (get S.tables p) lookup.fd ≡ Some by.x) own by.held in
    λ kind.
    was_opened lookup.fd by.x refl ((λ i. sym (rows e.pid) i lookup.fd) ∙ held) refl (by.inherits (after.made 0).number kind)
opens_within constants S who after l e call reply T own step success valid rows = tt

answer_is_within : (constants : Constants) (S : State) (who : Who) (after : After) (l : Ledger) (e : Entry) (call : Call) (given : Answer) (T : State)
    → who.pid ≡ e.pid → IsStep constants S who call given T → IsValid S → HasRows S l → AnswerIsWithin after l e call given
answer_is_within constants S who after l e call (answer.Parked writes) T own step valid rows = tt
answer_is_within constants S who after l e call (answer.Reply reply) T own step valid rows =
    λ success. opens_within constants S who after l e call reply T own step success valid rows

-- a refusal is no success
refused_within : (after : After) (l : Ledger) (e : Entry) (call : Call) (answered : Answer) → answered ≡ answer.Reply (refused Fault)
    → AnswerIsWithin after l e call answered
refused_within after l e call answered is = subst (AnswerIsWithin after l e call) (sym is) (λ success. absurd (fault_is_error success))

-- no poll opens anything
polls_within : (after : After) (l : Ledger) (e : Entry) (given : Answer) (one other : List Subscription) → AnswerIsWithin after l e (Poll one) given
    → AnswerIsWithin after l e (Poll other) given
polls_within after l e (answer.Parked writes) one other within = tt
polls_within after l e (answer.Reply reply) one other within = λ success. tt

wake_is_within : (constants : Constants) (S : State) (who : Who) (after : After) (l : Ledger) (e : Entry) (call : Call) (given : WakeIn) (answered : Answer)
    (T : State) → who.pid ≡ e.pid → IsWake constants S who call given answered T → IsValid S → HasRows S l → AnswerIsWithin after l e call answered
wake_is_within constants S who after l e call (wake.Plain word) answered T own is valid rows =
    by_word (λ c. AnswerIsWithin after l e c answered) (polls_within after l e answered) word call
    (answer_is_within constants (resumed S who) who after l e (with_word word call) answered T own is.0 (resumed_valid S who valid) rows)
wake_is_within constants S who after l e call wake.Fault answered T own is valid rows = refused_within after l e call answered is.0

pub act_is_within : (constants : Constants) (S : State) (guest : Guest) (ts : List ℕ) (after : After) (l : Ledger) (e : Entry) (a : Act)
    → FitsAct constants S (who_of S e) guest ts a → IsValid S → HasRows S l → ActIsWithin after l e a
act_is_within constants S guest ts after l e (act.Call call given) fits valid rows =
    answer_is_within constants S (who_of S e) after l e call given (called_state constants S (who_of S e) call given) refl fits.1 valid rows
act_is_within constants S guest ts after l e (act.Wake call given answered) fits valid rows =
    wake_is_within constants S (who_of S e) after l e call given answered (woken_state constants S (who_of S e) call given answered) refl fits.1.1 valid rows
act_is_within constants S guest ts after l e (act.Trap signal) fits valid rows = tt
act_is_within constants S guest ts after l e act.Expire fits valid rows = tt
act_is_within constants S guest ts after l e act.Idle fits valid rows = tt
