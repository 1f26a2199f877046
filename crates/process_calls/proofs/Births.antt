-- A child that a process makes.
--     bears_if, numbers_if      what a process may that can make a child
--     before_last      the number of its object comes before that of its open
--     forks_full, forks_not      what proc_fork comes to where there is no number for the descriptor, and where no child can be made
--     with_child, counted_with      how often the tables name an open, with those of a child and with another of its parent
--     one_value, same_value      one value under a number
--     back_again, child_put, parent_put      maps in which something is put
--     grown_few, all_there      what can be held once more
use Rattle.std.proofs.Common.{◌≡◌, ◌≢◌, ℕ, ◌+◌, ◌-◌, ◌^◌, ◌<◌, ◌≤◌, cond, ◌&&◌, nat_le, Bool, true, false, Option, None, Some, IsSome, is_some, refl, sym, ap, subst, ◌∙◌, arith}
use Rattle.std.specs.Ordering.{nat_cmp}
use Rattle.std.specs.FinMap.{FinMap, get, insert}
use Rattle.abi_base.specs.declared.errno.Errno.TheVariants.{Again, Mfile}
use Rattle.abi_types.specs.declared.descriptor.Descriptor.{Descriptor}
use Rattle.abi_types.specs.declared.open_kind.OpenKind.{OpenKind}
use Rattle.fd_table.specs.Table.{IsFull, IsLowestFree, IsTable}
use Rattle.kernel_model.specs.Families.DescriptorCalls.{lowest_free}
use Rattle.kernel_model.specs.Families.ForkCalls.{can_fork, child_object, child_open, fork_at, fork_if, least_turns}
use Rattle.kernel_model.specs.Families.Numbers.{can_number}
use Rattle.kernel_model.specs.Outcome.{replies}
use Rattle.kernel_model.specs.OwnChanges.{may_bear}
use Rattle.kernel_model.specs.Release.{count_in, names_open}
use Rattle.kernel_model.specs.Reply.{refused}
use Rattle.kernel_model.specs.State.{ProcessState, Table}
use Rattle.kernel_parts.proofs.Lowest.{full_is_none, lowest_is}
use Rattle.kernel_parts.specs.Changes.{IsMoved}
use Rattle.process_calls.specs.Forks.{IsOpenOf}
use Rattle.maps.specs.Halves.{not_true}
use Rattle.maps.specs.Maps.{number, total, weight, get-insert-other, insert-again, insert-insert, insert_self, total-insert, total-insert_new}

-- ---- whether a child can be made

first_of : (a b : Bool) → (a && b) ≡ true → a ≡ true
first_of true b both = refl
first_of false b both = both

second_of : (a b : Bool) → (a && b) ≡ true → b ≡ true
second_of true b both = both
second_of false b both = absurd (not_true both)

module _ (left p t : ℕ) (own : ProcessState) (can : can_fork left p t own ≡ true) where
  rest : (may_bear own && (is_some (get own.threads t) && can_number p 2 (Some own))) ≡ true
  rest = second_of (nat_le least_turns left) _ can

  pub bears_if : may_bear own ≡ true
  bears_if = first_of (may_bear own) _ rest

  pub numbers_if : can_number p 2 (Some own) ≡ true
  numbers_if = second_of (is_some (get own.threads t)) _ (second_of (may_bear own) _ rest)

-- the number of the child's object comes before that of its open
pub before_last : (p : ℕ) (own : ProcessState) (last : ℕ) → last ≡ child_open p own → last - 1 ≡ child_object p own
before_last p own last is = omega (arith, is)

-- ---- what the call comes to

pub forks_full : (left p t : ℕ) (own : ProcessState) (table : Table) → IsTable table → IsFull table
    → fork_at left p t (Some own) table (lowest_free table) ≡ replies (refused Mfile)
forks_full left p t own table small full = ap (fork_at left p t (Some own) table) (full_is_none table small full)

pub forks_not : (left p t : ℕ) (own : ProcessState) (table : Table) (fd : ℕ) → IsLowestFree table fd → can_fork left p t own ≡ false
    → fork_at left p t (Some own) table (lowest_free table) ≡ replies (refused Again)
forks_not left p t own table fd lowest cannot =
    ap (fork_at left p t (Some own) table) (lowest_is table fd lowest) ∙ ap (λ b. fork_if b p t own table fd) cannot

-- ---- how often the tables name an open

pub with_child : (tables : FinMap nat_cmp Table) (p q : ℕ) (table new : Table) (o : ℕ) → get tables p ≡ Some table → get tables q ≡ None → q ≢ p
    → total (count_in o) (insert (insert tables q table) p new) ≡ total (count_in o) tables + count_in o new
with_child tables p q table new o there none other =
    let same : get (insert tables q table) p ≡ Some table = get-insert-other tables q table p (λ e. other (sym e)) ∙ there in
    let is = ap (weight (count_in o)) same in
    let sums = total-insert (count_in o) (insert tables q table) p new in
    let grown = total-insert_new (count_in o) tables q table none in
    omega (arith, is, sums, grown)

pub counted_with : (tables all : FinMap nat_cmp Table) (p q : ℕ) (table new : Table) (before after held : FinMap nat_cmp ℕ)
    → get tables p ≡ Some table → get tables q ≡ None → q ≢ p → all ≡ insert (insert tables q table) p new → IsMoved table new before after
    → ((o : ℕ) → number (get held o) ≡ number (get after o) + count_in o table)
    → (o : ℕ) → number (get held o) + total (count_in o) tables ≡ number (get before o) + total (count_in o) all
counted_with tables all p q table new before after held there none other all_are moved holds o =
    let sums = ap (total (count_in o)) all_are ∙ with_child tables p q table new o there none other in
    let changed = moved o in
    let more = holds o in
    omega (arith, sums, changed, more)

-- ---- one value under a number

abbrev from_some : {X : Type 0} → X → Option X → X
from_some d None = d
from_some d (Some x) = x

pub one_value : {X : Type 0} (o : Option X) (x y : X) → o ≡ Some x → o ≡ Some y → x ≡ y
one_value o x y is has = ap (from_some x) (sym is ∙ has)

pub same_value : {X : Type 0} (m : FinMap nat_cmp X) (k p : ℕ) (x y : X) → k ≡ p → Some x ≡ get m k → get m p ≡ Some y → x ≡ y
same_value m k p x y at is there = one_value (get m k) x y (sym is) (ap (get m) at ∙ there)

-- ---- maps in which something is put

module _ {X : Type 0} (m : FinMap nat_cmp X) where
  -- what was put is put back
  pub back_again : (p : ℕ) (x y : X) → get m p ≡ Some x → insert (insert m p y) p x ≡ m
  back_again p x y there = insert-again m p y x ∙ insert_self m p x there

  -- what the child has comes last, and once more
  pub child_put : (new : FinMap nat_cmp X) (p parent k q : ℕ) (x same y : X) → p ≡ parent → k ≡ q → same ≡ x → new ≡ insert (insert m p y) q x → q ≢ parent
      → insert new k same ≡ insert (insert m q x) parent y
  child_put new p parent k q x same y is at again new_is other =
      (λ i. insert (new_is i) (at i) (again i)) ∙ insert-again (insert m p y) q x x ∙ insert-insert m p q y x (λ e. other (e ∙ is))
      ∙ ap (λ n. insert (insert m q x) n y) is

  -- what the parent has comes last
  pub parent_put : (new : FinMap nat_cmp X) (p parent q : ℕ) (x child y last : X) → p ≡ parent → new ≡ insert m q x → x ≡ child → y ≡ last → q ≢ parent
      → insert new p y ≡ insert (insert m parent last) q child
  parent_put new p parent q x child y last is new_is child_is last_is other =
      (λ i. insert (new_is i) (is i) (last_is i)) ∙ insert-insert m q parent x last (λ e. other (sym e)) ∙ ap (insert (insert m parent last) q) child_is

-- ---- what is held once more

test_most : (b : Bool) → cond b 1 0 ≤ 1
test_most true = omega arith
test_most false = omega arith

pub grown_few : (table : Table) (fd : ℕ) (d : Descriptor) (before after : FinMap nat_cmp ℕ) → get table fd ≡ None → IsMoved table (insert table fd d) before after
    → ((o : ℕ) → number (get before o) < 2 ^ 62 + 2 ^ 61) → (o : ℕ) → number (get after o) ≤ 2 ^ 62 + 2 ^ 61
grown_few table fd d before after free moved few o =
    let grown = total-insert_new (names_open o) table fd d free in
    let one : names_open o d ≤ 1 = test_most _ in
    let sums = moved o in
    let less = few o in
    omega (arith, grown, one, sums, less)

pub all_there : (kinds : FinMap nat_cmp OpenKind) (counts : FinMap nat_cmp ℕ) (table : Table) → ((n : ℕ) → IsOpenOf kinds (get table n))
    → ((o : ℕ) → IsSome (get kinds o) → IsSome (get counts o)) → (n : ℕ) (d : Descriptor) → get table n ≡ Some d → IsSome (get counts d.id)
all_there kinds counts table opens counted n d here = counted d.id (subst (IsOpenOf kinds) here (opens n))
