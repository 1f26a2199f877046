-- How answers are shown to be as rows say.
--     listed, listed_on, listed_at      a call, by what it does once it is allowed, and by its descriptor's open
--     by_row, by_none      the first row, by the test of its condition or by what isn't there
--     by_rows      several rows, each by its test
--     by_test      what a test chooses
use Rattle.std.proofs.Common.{◌≡◌, ℕ, suc, Bool, true, false, cond, not, List, [], ◌∷◌, ◌<◌, ◌≤◌, ◌⊎◌, Option, Some, None, is_none, inl, inr, refl, sym, ap, subst, ◌∙◌, arith}
use Rattle.std.proofs.lemmas.Bool.Decides.{leb_tells}
use Rattle.std.specs.Bool.{Decides}
use Rattle.std.specs.Prelude.{nat_le, nat_lt}
use Rattle.std.specs.FinMap.{get}
use Rattle.abi_base.specs.declared.errno.Errno.{Errno}
use Rattle.abi_types.specs.declared.call.Call.{Call}
use Rattle.abi_types.specs.declared.constants.Constants.{Constants}
use Rattle.abi_types.specs.declared.open_kind.OpenKind.{OpenKind}
use Rattle.abi_types.specs.declared.reply.Answer.{Answer}
use Rattle.abi_types.specs.declared.reply.Answer.TheVariants as answer
use Rattle.abi_types.specs.declared.who.Who.{Who}
use Rattle.kernel_model.specs.Calls.{meaning_of}
use Rattle.kernel_model.specs.Families.FileMeaning.{open_of}
use Rattle.kernel_model.specs.Families.OpenMeaning.{at_descriptor}
use Rattle.kernel_model.specs.Outcome.{Outcome}
use Rattle.kernel_model.specs.Reply.{refused}
use Rattle.kernel_model.specs.State.{State, Table}
use Rattle.kernel_model.specs.Step.{step_answer, tick, unless}
use Rattle.kernel_model.specs.View.{whole}
use Rattle.kernel_model.proofs.Outcomes.{outcome_of_table}
use Rattle.kernel_model.proofs.Tests.{none_is_no, not_true}
use Rattle.file_errors.specs.Tables.{Answers, IsAllowed, IsListed, IsListedByTwo, IsListedWhere, Rows, row}

-- ---- what a call does once it is allowed

pub allowed_answer : (constants : Constants) (S : State) (who : Who) (call : Call) (has : IsAllowed S who call)
    → step_answer constants S who call ≡ ((meaning_of call).effect constants (whole (tick S)) who has.table).answer
allowed_answer constants S who call has =
    ap (λ (o : Outcome). o.answer) (outcome_of_table constants S who call has.table has.own)
    ∙ ap (λ r. (unless r ((meaning_of call).effect constants (whole (tick S)) who has.table)).answer) has.allowed

pub listed : (call : Call) (rows : State → Who → Table → Rows)
    → ((constants : Constants) (S : State) (who : Who) (has : IsAllowed S who call)
    → Answers (rows S who has.table) ((meaning_of call).effect constants (whole (tick S)) who has.table).answer)
    → IsListed call rows
listed call rows each constants S who has =
    subst (Answers (rows S who has.table)) (sym (allowed_answer constants S who call has)) (each constants S who has)

-- ---- what it does by its descriptor's open

abbrev pub Whatever : Option OpenKind → Type 0
Whatever kind = Unit {0}

module _ (IsOf : Option OpenKind → Type 0) (call : Call) (fd : ℕ) (rows : State → Who → Table → Option OpenKind → Rows) where
  abbrev the_effect : Constants → State → Who → Table → Outcome
  the_effect constants S who table = (meaning_of call).effect constants (whole (tick S)) who table

  -- by what it is of alone
  pub listed_on : (f : Constants → State → Who → Table → Option OpenKind → Outcome)
      → ((constants : Constants) (S : State) (who : Who) (table : Table)
      → the_effect constants S who table ≡ f constants S who table (open_of (whole (tick S)) (get table fd)))
      → ((constants : Constants) (S : State) (who : Who) (table : Table) (kind : Option OpenKind) → IsOf kind
      → Answers (rows S who table kind) (f constants S who table kind).answer)
      → IsListedWhere IsOf call fd rows
  listed_on f does each constants S who kind has opened is =
      let it : step_answer constants S who call ≡ (f constants S who has.table kind).answer =
      allowed_answer constants S who call has
      ∙ ap (λ (o : Outcome). o.answer) (does constants S who has.table)
      ∙ ap (λ d. (f constants S who has.table (open_of (whole (tick S)) d)).answer) opened.1
      ∙ ap (λ k. (f constants S who has.table k).answer) opened.2 in
      subst (Answers (rows S who has.table kind)) (sym it) (each constants S who has.table kind is)

  -- and by its number
  pub listed_at : (f : Constants → State → Who → Table → ℕ → Option OpenKind → Outcome)
      → ((constants : Constants) (S : State) (who : Who) (table : Table)
      → the_effect constants S who table ≡ at_descriptor (f constants S who table) (whole (tick S)) (get table fd))
      → ((constants : Constants) (S : State) (who : Who) (table : Table) (o : ℕ) (kind : Option OpenKind) → IsOf kind
      → Answers (rows S who table kind) (f constants S who table o kind).answer)
      → IsListedWhere IsOf call fd rows
  listed_at f does each constants S who kind has opened is =
      let it : step_answer constants S who call ≡ (f constants S who has.table opened.0.id kind).answer =
      allowed_answer constants S who call has
      ∙ ap (λ (o : Outcome). o.answer) (does constants S who has.table)
      ∙ ap (λ d. (at_descriptor (f constants S who has.table) (whole (tick S)) d).answer) opened.1
      ∙ ap (λ k. (f constants S who has.table opened.0.id k).answer) opened.2 in
      subst (Answers (rows S who has.table kind)) (sym it) (each constants S who has.table opened.0.id kind is)

-- by what two descriptors are of
pub listed_by_two : (call : Call) (fd other_fd : ℕ) (rows : State → Option OpenKind → Option OpenKind → Rows)
    (f : Constants → State → Who → Table → Option OpenKind → Option OpenKind → Outcome)
    → ((constants : Constants) (S : State) (who : Who) (table : Table)
    → (meaning_of call).effect constants (whole (tick S)) who table
    ≡ f constants S who table (open_of (whole (tick S)) (get table fd)) (open_of (whole (tick S)) (get table other_fd)))
    → ((constants : Constants) (S : State) (who : Who) (table : Table) (kind other : Option OpenKind)
    → Answers (rows S kind other) (f constants S who table kind other).answer)
    → IsListedByTwo call fd other_fd rows
listed_by_two call fd other_fd rows f does each constants S who kind other has opened opened_too =
    let it : step_answer constants S who call ≡ (f constants S who has.table kind other).answer =
    allowed_answer constants S who call has
    ∙ ap (λ (o : Outcome). o.answer) (does constants S who has.table)
    ∙ ap (λ d. (f constants S who has.table (open_of (whole (tick S)) d) (open_of (whole (tick S)) (get has.table other_fd))).answer) opened.1
    ∙ ap (λ k. (f constants S who has.table k (open_of (whole (tick S)) (get has.table other_fd))).answer) opened.2
    ∙ ap (λ d. (f constants S who has.table kind (open_of (whole (tick S)) d)).answer) opened_too.1
    ∙ ap (λ k. (f constants S who has.table kind k).answer) opened_too.2 in
    subst (Answers (rows S kind other)) (sym it) (each constants S who has.table kind other)

-- ---- rows

-- the first row, where a test decides its condition
pub by_row : {X : Type 0} (f : X → Answer) (b : Bool) (x y : X) (holds : Type 0) (errno : Errno) (others : Rows) → Decides b holds
    → f x ≡ answer.Reply (refused errno) → ((¬ holds) → Answers others (f y)) → Answers (row holds errno others) (f (cond b x y))
by_row f true x y holds errno others decides is goes = inl (decides.0 refl, is)
by_row f false x y holds errno others decides is goes =
    let fails : ¬ holds = λ h. not_true (decides.1 h) in
    inr (fails, goes fails)

-- the first row, where its condition is that something isn't there
pub by_none : {X : Type 0} (f : Option X → Answer) (o : Option X) (errno : Errno) (others : Rows) → f None ≡ answer.Reply (refused errno)
    → ((x : X) → o ≡ Some x → Answers others (f (Some x))) → Answers (row (o ≡ None) errno others) (f o)
by_none f None errno others is goes = inl (refl, is)
by_none f (Some x) errno others is goes = inr (λ e. none_is_no x (sym e), goes x refl)

-- ---- tests

pub itself : (b : Bool) → Decides b (b ≡ true)
itself b = (λ e. e, λ e. e)

pub turned : (b : Bool) → Decides (not b) (b ≡ false)
turned true = (λ e. absurd (not_true e), λ e. absurd (not_true (sym e)))
turned false = (λ e. refl, λ e. refl)

pub absent : {X : Type 0} (o : Option X) → Decides (is_none o) (o ≡ None)
absent None = (λ e. refl, λ e. refl)
absent (Some x) = (λ e. absurd (not_true e), λ e. absurd (none_is_no x (sym e)))

pub lt_tells : (a b : ℕ) → ((nat_lt a b ≡ true) × (a < b)) ⊎ ((nat_lt a b ≡ false) × (b ≤ a))
lt_tells a b =
    elim (leb_tells (suc a) b) [
      | inl low ↦ inl (low.0, omega (arith, low.1))
      | inr high ↦ inr (high.0, omega (arith, high.1))
    ]

pub le_decides : (a b : ℕ) → Decides (nat_le a b) (a ≤ b)
le_decides a b =
    elim (leb_tells a b) [
      | inl low ↦ (λ e. low.1, λ h. low.0)
      | inr high ↦ (λ e. absurd (not_true (sym high.0 ∙ e)), λ h. absurd (omega (arith, h, high.1)))
    ]

-- what holds of both branches, each by what the test tells, holds of what it chooses
pub by_test : {A B : Type 0} {X : Type 0} (P : X → Type 0) (b : Bool) (x y : X) → ((b ≡ true) × A) ⊎ ((b ≡ false) × B) → (A → P x) → (B → P y) → P (cond b x y)
by_test P b x y (inl is) first second = subst (λ c. P (cond c x y)) (sym is.0) (first is.1)
by_test P b x y (inr isnt) first second = subst (λ c. P (cond c x y)) (sym isnt.0) (second isnt.1)

pub tells : {A : Type 0} (b : Bool) → Decides b A → ((b ≡ true) × A) ⊎ ((b ≡ false) × (¬ A))
tells true decides = inl (refl, decides.0 refl)
tells false decides = inr (refl, λ a. not_true (decides.1 a))

pub knows : (b : Bool) → ((b ≡ true) × (b ≡ true)) ⊎ ((b ≡ false) × (b ≡ false))
knows true = inl (refl, refl)
knows false = inr (refl, refl)

-- ---- several rows

-- a row with the test of its condition, and what is chosen where that holds
pub record Tested {X : Type 0} (f : X → Answer) : Type 1 where
  pub holds : Type 0
  pub errno : Errno
  pub test : Bool
  pub value : X
  pub decides : Decides test holds
  pub is : f value ≡ answer.Reply (refused errno)

abbrev pub tested : {X : Type 0} (f : X → Answer) (holds : Type 0) (errno : Errno) (test : Bool) (value : X) → Decides test holds
    → f value ≡ answer.Reply (refused errno) → Tested f
tested f holds errno test value decides is = record { holds = holds; errno = errno; test = test; value = value; decides = decides; is = is }

abbrev pub rows_of : {X : Type 0} (f : X → Answer) → List (Tested f) → Rows → Rows
rows_of f [] others = others
rows_of f (t ∷ ts) others = row t.holds t.errno (rows_of f ts others)

abbrev pub chosen_of : {X : Type 0} (f : X → Answer) → List (Tested f) → X → X
chosen_of f [] last = last
chosen_of f (t ∷ ts) last = cond t.test t.value (chosen_of f ts last)

pub by_rows : {X : Type 0} (f : X → Answer) (ts : List (Tested f)) (last : X) (others : Rows) → Answers others (f last)
    → Answers (rows_of f ts others) (f (chosen_of f ts last))
by_rows f [] last others goes = goes
by_rows f (t ∷ ts) last others goes =
    by_row f t.test t.value (chosen_of f ts last) t.holds t.errno (rows_of f ts others) t.decides t.is (λ _. by_rows f ts last others goes)
