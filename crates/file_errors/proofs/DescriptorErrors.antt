-- The errors of the calls on descriptors themselves are as listed.
use Rattle.std.proofs.Common.{◌≡◌, ℕ, zero, suc, ◌+◌, ◌<◌, ◌≤◌, ◌||◌, false, cond, not, Option, Some, None, IsSome, is_some, inl, inr, refl, sym, ap, subst, ◌∙◌, arith}
use Rattle.std.specs.FinMap.{contains_key, get}
use Rattle.std.proofs.lemmas.Bool.Decides.{eqb_tells}
use Rattle.abi_base.specs.declared.errno.Errno.TheVariants.{Badf, Mfile}
use Rattle.abi_structures.specs.declared.structures.FdStat.{FdStat}
use Rattle.abi_types.specs.declared.call.Call.TheVariants.{FdClose, FdDatasync, FdDup, FdReplace, FdStatGet, FdStatPut, FdSync, FileAdvise}
use Rattle.abi_types.specs.declared.descriptor.Descriptor.{Descriptor}
use Rattle.abi_types.specs.declared.reply.Answer.{Answer}
use Rattle.abi_types.specs.declared.reply.Answer.TheVariants as answer
use Rattle.abi_types.specs.declared.open_kind.OpenKind.{OpenKind}
use Rattle.kernel_model.specs.Calls.{refusal}
use Rattle.kernel_model.specs.Families.DescriptorCalls.{dup_at, dup_of, free_from, lowest_free, replaced_by, stat_get, stat_open, stat_put, stat_set}
use Rattle.kernel_model.specs.Reply.{refused}
use Rattle.kernel_model.specs.State.{Table}
use Rattle.kernel_model.specs.Step.{step_answer, tick}
use Rattle.kernel_model.specs.View.{whole}
use Rattle.kernel_model.proofs.DescriptorCalls.{free_is_absent}
use Rattle.kernel_model.proofs.Tests.{none_is_no, not_true, same_some}
use Rattle.file_errors.specs.DescriptorErrors.{DescriptorErrorsAreListed, IsFull, opened_rows}
use Rattle.file_errors.specs.Tables.{Answers, Rows, row, succeeds}
use Rattle.file_errors.proofs.Rows.{allowed_answer, listed}

-- ---- free numbers

-- a number that is given is below the limit
free_is_low : (table : Table) (n k m : ℕ) → free_from table n k ≡ Some m → m < k + n
unfolding free_from
free_is_low table zero k m is = absurd (none_is_no m is)
free_is_low table (suc n) k m is =
    elim (get table k) as (λ o. cond (is_some o) (free_from table n (k + 1)) (Some k) ≡ Some m → m < k + suc n) [
      | None ↦ λ h. omega (arith, same_some k m h)
      | Some d ↦ λ h. omega (arith, free_is_low table n (k + 1) m h)
    ] is

-- where none is given each has a descriptor
none_is_free : (table : Table) (n k : ℕ) → free_from table n k ≡ None → (m : ℕ) → k ≤ m → m < k + n → IsSome (get table m)
unfolding free_from
none_is_free table zero k none m low high = absurd (omega (arith, low, high))
none_is_free table (suc n) k none m low high =
    elim (get table k) as (λ o. get table k ≡ o → cond (is_some o) (free_from table n (k + 1)) (Some k) ≡ None → IsSome (get table m)) [
      | None ↦ λ here h. absurd (none_is_no k (sym h))
      | Some d ↦ λ here h.
          elim (eqb_tells k m) [
            | inl same ↦ subst (λ j. IsSome (get table j)) same.1 (subst IsSome (sym here) refl)
            | inr other ↦ none_is_free table n (k + 1) h m (omega (arith, other.1, low)) (omega (arith, high))
          ]
    ] refl none

-- a call that is MFILE where no number is free, and goes on with the lowest one
pub full_listed : (table : Table) (f : Option ℕ → Answer) (others : Rows) → f None ≡ answer.Reply (refused Mfile) → ((m : ℕ) → Answers others (f (Some m)))
    → (free : Option ℕ) → lowest_free table ≡ free → Answers (row (IsFull table) Mfile others) (f free)
full_listed table f others full goes None is = inl (λ k low. none_is_free table 1024 0 is k (omega arith) (omega (arith, low)), full)
full_listed table f others full goes (Some m) is =
    let none : get table m ≡ None = free_is_absent table 1024 0 m is in
    inr (λ each. not_true (subst IsSome none (each m (free_is_low table 1024 0 m is))), goes m)

-- ---- the calls

dup_listed : (table : Table) (p fd : ℕ) (o : Option Descriptor) → get table fd ≡ o → refusal table (FdDup fd) ≡ None
    → Answers (row (IsFull table) Mfile succeeds) (dup_of p table o).answer
dup_listed table p fd None there allowed =
    absurd (none_is_no (refused Badf) (sym allowed ∙ ap (λ (o : Option Descriptor). cond (not (is_some o) || false) (Some (refused Badf)) None) there))
dup_listed table p fd (Some d) there allowed = full_listed table (λ free. (dup_at p table d free).answer) succeeds refl (λ m. refl) (lowest_free table) refl

replace_listed : (table : Table) (p from to : ℕ) (o : Option Descriptor) → get table from ≡ o → refusal table (FdReplace from to) ≡ None
    → Answers succeeds (replaced_by p table to o).answer
replace_listed table p from to None there allowed =
    absurd (none_is_no (refused Badf)
    (sym allowed ∙ ap (λ (o : Option Descriptor). cond (not (is_some o) || (not (contains_key table to) || false)) (Some (refused Badf)) None) there))
replace_listed table p from to (Some d) there allowed = refl

stat_get_listed : (d : Descriptor) (kind : Option OpenKind) → Answers (opened_rows kind) (stat_open d kind).answer
stat_get_listed d None = refl
stat_get_listed d (Some kind) = refl

stat_put_listed : (p : ℕ) (table : Table) (fd : ℕ) (stat : FdStat) (flags : ℕ) (d : Descriptor) (kind : Option OpenKind)
    → Answers (opened_rows kind) (stat_set p table fd stat flags d kind).answer
stat_put_listed p table fd stat flags d None = refl
stat_put_listed p table fd stat flags d (Some kind) = refl

pub descriptor_errors_are_listed : DescriptorErrorsAreListed
descriptor_errors_are_listed = record {
  fd_close = λ fd. listed (FdClose fd) (λ S who table. succeeds) (λ constants S who has. refl);
  fd_datasync = λ fd. listed (FdDatasync fd) (λ S who table. succeeds) (λ constants S who has. refl);
  fd_sync = λ fd. listed (FdSync fd) (λ S who table. succeeds) (λ constants S who has. refl);
  file_advise = λ fd offset length advice. listed (FileAdvise fd offset length advice) (λ S who table. succeeds) (λ constants S who has. refl);
  fd_dup = λ fd.
      listed (FdDup fd) (λ S who table. row (IsFull table) Mfile succeeds)
      (λ constants S who has. dup_listed has.table who.pid fd (get has.table fd) refl has.allowed);
  fd_replace = λ from to.
      listed (FdReplace from to) (λ S who table. succeeds)
      (λ constants S who has. replace_listed has.table who.pid from to (get has.table from) refl has.allowed);
  fd_stat_get = λ fd constants S who kind has opened is.
      let it : step_answer constants S who (FdStatGet fd) ≡ (stat_open opened.0 kind).answer =
      allowed_answer constants S who (FdStatGet fd) has
      ∙ ap (λ d. (stat_get (whole (tick S)) d).answer) opened.1
      ∙ ap (λ k. (stat_open opened.0 k).answer) opened.2 in
      subst (Answers (opened_rows kind)) (sym it) (stat_get_listed opened.0 kind);
  fd_stat_put = λ fd stat flags constants S who kind has opened is.
      let it : step_answer constants S who (FdStatPut fd stat flags) ≡ (stat_set who.pid has.table fd stat flags opened.0 kind).answer =
      allowed_answer constants S who (FdStatPut fd stat flags) has
      ∙ ap (λ d. (stat_put (whole (tick S)) who.pid has.table fd stat flags d).answer) opened.1
      ∙ ap (λ k. (stat_set who.pid has.table fd stat flags opened.0 k).answer) opened.2 in
      subst (Answers (opened_rows kind)) (sym it) (stat_put_listed who.pid has.table fd stat flags opened.0 kind);
}
