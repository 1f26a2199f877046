-- The child that a call makes of its process.
--     may_is, next_is      what it takes that the process may have one more
--     child_is_absent      and it isn't there yet
--     fork_holds      what holds of each outcome of proc_fork
use Rattle.std.proofs.Common.{◌≡◌, ℕ, ◌+◌, ◌<◌, ◌&&◌, Bool, true, false, List, [], ◌∷◌, Option, Some, None, is_some, inl, inr, refl, ap, subst, arith}
use Rattle.std.proofs.lemmas.Bool.{ltb-true}
use Rattle.std.specs.Prelude.{nat_le, nat_lt, if◌then◌else◌}
use Rattle.std.specs.FinMap.{get}
use Rattle.abi_base.specs.declared.errno.Errno.{Errno}
use Rattle.abi_base.specs.declared.errno.Errno.TheVariants.{Again, Mfile}
use Rattle.abi_types.specs.declared.reply.Answer.TheVariants as answer
use Rattle.kernel_model.specs.ChildLaws.{IsUnmade}
use Rattle.kernel_model.specs.Families.Children.{child_of, MayHaveChild}
use Rattle.kernel_model.specs.Families.ForkCalls.{can_fork, child_number, fork_at, fork_if, fork_updates, forked_reply, least_turns}
use Rattle.kernel_model.specs.Families.Numbers.{can_number}
use Rattle.kernel_model.specs.Laws.{IsNotThere}
use Rattle.kernel_model.specs.Outcome.{Outcome, replies}
use Rattle.kernel_model.specs.OwnChanges.{OwnChange, keeps_own, makes_one, ends_one, draws_words, forks_one, begins_anew, lets_lock_go, signals_some, hands_lock_on, born_of, child_parts, is_success, may_bear, next_child}
use Rattle.kernel_model.specs.Proper.{IsIn}
use Rattle.kernel_model.specs.Reply.{refused}
use Rattle.kernel_model.specs.State.{State, ProcessState, Table, Part, at_proc, at_status, same_part, has_part}
use Rattle.kernel_model.specs.Valid.{IsNearlyValid}
use Rattle.kernel_model.proofs.ChildLaws.{child_is_unmade}
use Rattle.kernel_model.proofs.Parts.{same_part_is}
use Rattle.kernel_model.proofs.Tests.{either_true, not_true}

both_hold : (a b : Bool) → (a && b) ≡ true → (a ≡ true) × (b ≡ true)
both_hold true b h = (refl, h)
both_hold false b h = absurd (not_true h)

-- ---- one child more

pub may_is : (own : ProcessState) → may_bear own ≡ true → MayHaveChild own.depth (own.counts.forks + 1)
may_is own h =
    let both = both_hold (nat_lt own.depth 4) (nat_lt own.counts.forks 254) h in
    let few : own.counts.forks < 254 = ltb-true own.counts.forks 254 both.1 in
    (ltb-true own.depth 4 both.0, omega arith, omega (arith, few))

pub next_is : (p : ℕ) (own : ProcessState) → may_bear own ≡ true → next_child p (Some own) ≡ Some (child_number p own)
next_is p own h = ap (λ b. if b then Some (child_of p own.depth (own.counts.forks + 1)) else None) h

-- ---- it isn't there

unmade_parts : (S : State) (c : ℕ) (q : Part) → IsUnmade S c → has_part (child_parts (Some c)) q ≡ true → IsNotThere S q
unmade_parts S c q unmade h =
    elim (either_true (same_part (at_proc c) q) (has_part (at_status c ∷ []) q) h) [
      | inl is ↦ subst (IsNotThere S) (same_part_is (at_proc c) q is) (unmade.table, unmade.process)
      | inr rest ↦ elim (either_true (same_part (at_status c) q) false rest) [
        | inl is ↦ subst (IsNotThere S) (same_part_is (at_status c) q is) unmade.status
        | inr none ↦ absurd (not_true none)
      ]
    ]

next_is_absent : (S : State) (p : ℕ) (q : Part) → IsNearlyValid S → (o : Option ProcessState) → get S.processes p ≡ o
    → has_part (child_parts (next_child p o)) q ≡ true → IsNotThere S q
next_is_absent S p q v None there h = absurd (not_true h)
next_is_absent S p q v (Some own) there h =
    elim (may_bear own) as (λ b. may_bear own ≡ b
    → has_part (child_parts (if b then Some (child_of p own.depth (own.counts.forks + 1)) else None)) q ≡ true → IsNotThere S q) [
      | true ↦ λ may has. unmade_parts S (child_number p own) q (child_is_unmade S v p (own.counts.forks + 1) own there (may_is own may) (omega arith)) has
      | false ↦ λ _ has. absurd (not_true has)
    ] refl h

pub child_is_absent : (S : State) (p : ℕ) (change : OwnChange) (q : Part) → IsNearlyValid S
    → has_part (child_parts (born_of change p (get S.processes p))) q ≡ true → IsNotThere S q
child_is_absent S p keeps_own q v h = absurd (not_true h)
child_is_absent S p makes_one q v h = absurd (not_true h)
child_is_absent S p (ends_one lock word) q v h = absurd (not_true h)
child_is_absent S p (lets_lock_go lock word) q v h = absurd (not_true h)
child_is_absent S p (signals_some condvar n) q v h = absurd (not_true h)
child_is_absent S p (hands_lock_on lock) q v h = absurd (not_true h)
child_is_absent S p (draws_words words) q v h = absurd (not_true h)
child_is_absent S p (begins_anew words) q v h = absurd (not_true h)
child_is_absent S p forks_one q v h = next_is_absent S p q v (get S.processes p) refl h

-- ---- proc_fork

abbrev pub fork_errors : List Errno
fork_errors = Mfile ∷ Again ∷ []

-- what it takes that a thread can make a child
pub record CanFork (left p t : ℕ) (own : ProcessState) : Type 0 where
  pub turns : nat_le least_turns left ≡ true
  pub bears : may_bear own ≡ true
  pub some : is_some (get own.threads t) ≡ true
  pub number : can_number p 2 (Some own) ≡ true

can_is : (left p t : ℕ) (own : ProcessState) → can_fork left p t own ≡ true → CanFork left p t own
can_is left p t own can =
    let one = both_hold (nat_le least_turns left) (may_bear own && (is_some (get own.threads t) && can_number p 2 (Some own))) can in
    let two = both_hold (may_bear own) (is_some (get own.threads t) && can_number p 2 (Some own)) one.1 in
    let three = both_hold (is_some (get own.threads t)) (can_number p 2 (Some own)) two.1 in
    record { turns = one.0; bears = two.0; some = three.0; number = three.1 }

-- what it comes to where a child is made
abbrev pub forks : ℕ → ℕ → ProcessState → Table → ℕ → Outcome
forks p t own table fd = record { answer = answer.Reply (forked_reply fd (child_number p own)); updates = fork_updates p t own table fd }

pub fork_holds : (left p t : ℕ) (o : Option ProcessState) (table : Table) (free : Option ℕ) (P : Outcome → Type 0)
    → ((errno : Errno) → IsIn errno fork_errors → is_success errno ≡ false → P (replies (refused errno)))
    → ((fd : ℕ) (own : ProcessState) → free ≡ Some fd → o ≡ Some own → CanFork left p t own → P (forks p t own table fd))
    → P (fork_at left p t o table free)
fork_holds left p t o table None P refuses makes = refuses Mfile ([], Again ∷ [], refl) refl
fork_holds left p t None table (Some fd) P refuses makes = refuses Again (Mfile ∷ [], [], refl) refl
fork_holds left p t (Some own) table (Some fd) P refuses makes =
    elim (can_fork left p t own) as (λ b. can_fork left p t own ≡ b → P (fork_if b p t own table fd)) [
      | true ↦ λ can. makes fd own refl refl (can_is left p t own can)
      | false ↦ λ _. refuses Again (Mfile ∷ [], [], refl) refl
    ] refl
