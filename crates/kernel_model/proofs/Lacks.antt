-- The refusals by a table: which descriptor is absent, and which is the first that lacks a right.
--     present_all, all_present      whether some descriptor is absent, as a test and as a fact
--     absent_one      a descriptor that is not there
--     rows_there      where all that a call names are there, those of its rows are
--     first_lack_is, lack_is_first      the first row that is not met
use Rattle.std.proofs.Common.{◌≡◌, ℕ, ◌||◌, not, Bool, true, false, cond, T, List, [], ◌∷◌, ◌++◌, Option, Some, None, IsSome, is_some, refl, sym, ap, subst, ◌∙◌}
use Rattle.std.specs.List.{AllByRecursion}
use Rattle.std.specs.FinMap.{get, contains_key}
use Rattle.abi_types.specs.declared.call.Call.{Call}
use Rattle.abi_types.specs.declared.descriptor.Denial.{Denial}
use Rattle.abi_types.specs.declared.descriptor.Descriptor.{Descriptor}
use Rattle.abi_types.specs.declared.needed.Needed.{Needed}
use Rattle.kernel_model.specs.Calls.{named, need}
use Rattle.kernel_model.specs.Laws.{HasAll, IsMet, IsFirstLack}
use Rattle.kernel_model.specs.Need.{has_needed, missing, some_absent, lack_at, either_lack, first_lack}
use Rattle.kernel_model.specs.Proper.{IsIn}
use Rattle.kernel_model.specs.State.{Table}
use Rattle.kernel_model.proofs.Calls.{proper}
use Rattle.kernel_model.proofs.Lists.{in_all, all_weaker}
use Rattle.kernel_model.proofs.Tests.{either_false, none_is_no, not_false, or_true, same_some}

-- ---- absent descriptors

pub present_all : (table : Table) (fds : List ℕ) → HasAll table fds → some_absent table fds ≡ false
present_all table [] h = refl
present_all table (fd ∷ fds) h = ap (λ b. not b || some_absent table fds) h.0 ∙ present_all table fds h.1

pub all_present : (table : Table) (fds : List ℕ) → some_absent table fds ≡ false → HasAll table fds
all_present table [] h = tt
all_present table (fd ∷ fds) h =
    let both = either_false (not (contains_key table fd)) (some_absent table fds) h in
    (not_false (contains_key table fd) both.0, all_present table fds both.1)

-- a descriptor that is not there
pub absent_one : (table : Table) (fd : ℕ) (before after : List ℕ) → get table fd ≡ None → some_absent table (before ++ fd ∷ after) ≡ true
absent_one table fd [] after h = ap (λ o. not (is_some o) || some_absent table after) h
absent_one table fd (first ∷ before) after h =
    ap (λ b. not (contains_key table first) || b) (absent_one table fd before after h) ∙ or_true (not (contains_key table first))

-- each row's descriptor is there
abbrev pub HasRows : Table → List Needed → Type 0
HasRows table rows = AllByRecursion (λ row. IsSome (get table row.fd)) rows

-- where all that a call names are there, those of its rows are
pub rows_there : (call : Call) (table : Table) → HasAll table (named call) → HasRows table (need call)
rows_there call table all =
    all_weaker (λ (row : Needed). IsIn row.fd (named call)) (λ row. IsSome (get table row.fd))
    (λ row here. in_all (λ fd. IsSome (get table fd)) row.fd (named call) all here) (need call) (proper call).names

-- ---- the first that lacks a right

lack_named : (table : Table) (row : Needed) (d : Descriptor) (before after : List Needed) → AllByRecursion (IsMet table) before
    → get table row.fd ≡ Some d → has_needed d row ≡ false → first_lack table (before ++ row ∷ after) ≡ Some (missing d row)
lack_named table row d [] after met there lacks =
    ap (λ o. either_lack (lack_at o row) (first_lack table after)) there
    ∙ ap (λ b. either_lack (cond b None (Some (missing d row))) (first_lack table after)) lacks
lack_named table row d (first ∷ before) after met there lacks =
    ap (λ o. either_lack (lack_at o first) (first_lack table (before ++ row ∷ after))) met.0.1
    ∙ ap (λ b. either_lack (cond b None (Some (missing met.0.0 first))) (first_lack table (before ++ row ∷ after))) met.0.2
    ∙ lack_named table row d before after met.1 there lacks

pub first_lack_is : (table : Table) (rows : List Needed) (row : Needed) (d : Descriptor) → IsFirstLack table rows row d
    → first_lack table rows ≡ Some (missing d row)
first_lack_is table rows row d first =
    ap (first_lack table) first.splits ∙ lack_named table row d first.before first.after first.met first.there first.lacks

-- the first that lacks a right, and what it lacks
abbrev pub HasFirstLack : Table → List Needed → Denial → Type 0
HasFirstLack table rows denial = (row : Needed) × (d : Descriptor) × IsFirstLack table rows row d × (denial ≡ missing d row)

-- a row that is met comes before the first lack
after_met : (table : Table) (first : Needed) (rows : List Needed) (denial : Denial) → IsMet table first → HasFirstLack table rows denial
    → HasFirstLack table (first ∷ rows) denial
after_met table first rows denial met h = (
  h.0,
  h.1,
  record {
    before = first ∷ h.2.before;
    after = h.2.after;
    splits = ap (λ more. first ∷ more) h.2.splits;
    met = (met, h.2.met);
    there = h.2.there;
    lacks = h.2.lacks;
  },
  h.3,
)

-- the first row itself, or one after it
lack_among : (table : Table) (row : Needed) (rows : List Needed) (denial : Denial) (d : Descriptor) (b : Bool) → get table row.fd ≡ Some d → has_needed d row ≡ b
    → (first_lack table rows ≡ Some denial → HasFirstLack table rows denial)
    → either_lack (cond b None (Some (missing d row))) (first_lack table rows) ≡ Some denial → HasFirstLack table (row ∷ rows) denial
lack_among table row rows denial d true there met rest e = after_met table row rows denial (d, there, met) (rest e)
lack_among table row rows denial d false there lacks rest e =
    (row, d, record { before = []; after = rows; splits = refl; met = tt; there = there; lacks = lacks }, same_some denial (missing d row) (sym e))

lack_at_some : (table : Table) (row : Needed) (rows : List Needed) (denial : Denial) (o : Option Descriptor) → get table row.fd ≡ o → IsSome o
    → (first_lack table rows ≡ Some denial → HasFirstLack table rows denial)
    → either_lack (lack_at o row) (first_lack table rows) ≡ Some denial → HasFirstLack table (row ∷ rows) denial
lack_at_some table row rows denial None there some rest e = absurd (subst T (sym some) tt)
lack_at_some table row rows denial (Some d) there some rest e = lack_among table row rows denial d (has_needed d row) there refl rest e

pub lack_is_first : (table : Table) (rows : List Needed) (denial : Denial) → HasRows table rows → first_lack table rows ≡ Some denial
    → HasFirstLack table rows denial
lack_is_first table [] denial all e = absurd (none_is_no denial e)
lack_is_first table (row ∷ rows) denial all e =
    lack_at_some table row rows denial (get table row.fd) refl all.0 (lack_is_first table rows denial all.1) e
