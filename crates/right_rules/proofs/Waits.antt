-- What is needed of the descriptors that are waited for, one subscription after another.
use Rattle.std.proofs.Common.{◌≡◌, ℕ, suc, ◌+◌, ◌<◌, ◌||◌, not, if◌then◌else◌, List, ◌∷◌, ◌++◌, drop, get_or, length, Option, Some, None, is_some, refl, sym, ap, ◌∙◌, arith}
use Rattle.std.proofs.Math.Seq.{drop-cons}
use Rattle.std.specs.FinMap.{get}
use Rattle.abi_base.specs.declared.errno.Errno.TheVariants.{Badf}
use Rattle.abi_structures.specs.declared.events.Subscription.{Subscription}
use Rattle.abi_types.specs.declared.descriptor.Denial.{Denial}
use Rattle.abi_types.specs.declared.descriptor.Descriptor.{Descriptor}
use Rattle.abi_types.specs.declared.needed.Needed.{Needed}
use Rattle.abi_types.specs.declared.reply.Reply.{Reply}
use Rattle.kernel_model.specs.Need.{denied_by, either_lack, first_lack, lack_at, some_absent}
use Rattle.kernel_model.specs.Reply.{refused}
use Rattle.kernel_model.specs.State.{Table}
use Rattle.kernel_model.specs.Families.WaitCalls.{fds_of, wait_row, wait_rows}
use Rattle.right_rules.specs.Needs.{of_option}

-- the rows of the subscriptions from a place on
abbrev pub left_at : List Subscription → ℕ → List Needed
left_at subs i = wait_rows (drop i subs)

-- this is the row of the subscription at a place, if it has one
abbrev pub IsRowAt : List Subscription → ℕ → Subscription → Option Needed → Type 0
IsRowAt subs i d o = (rows : List Needed) → wait_row (get_or subs i d).what rows ≡ of_option o ++ rows

rows_from : (subs : List Subscription) (i : ℕ) (d : Subscription) (o : Option Needed) → i < length subs → IsRowAt subs i d o
    → left_at subs i ≡ of_option o ++ left_at subs (i + 1)
rows_from subs i d o within is =
    let next : suc i ≡ i + 1 = omega arith in
    ap wait_rows (drop-cons subs i d within ∙ ap (λ j. get_or subs i d ∷ drop j subs) next) ∙ is (left_at subs (i + 1))

-- a subscription without a row is passed over
pub none_here : {X : Type 0} (f : List Needed → X) (subs : List Subscription) (i : ℕ) (d : Subscription) (o : Option Needed) → i < length subs
    → IsRowAt subs i d o → o ≡ None → f (left_at subs (i + 1)) ≡ f (left_at subs i)
none_here f subs i d o within is none =
    sym (ap f (rows_from subs i d o within is) ∙ ap (λ p. f (of_option p ++ left_at subs (i + 1))) none)

-- a subscription with a row comes before the rows of those behind it
pub some_here : {X : Type 0} (f : List Needed → X) (subs : List Subscription) (i : ℕ) (d : Subscription) (o : Option Needed) (row : Needed) → i < length subs
    → IsRowAt subs i d o → o ≡ Some row → f (left_at subs i) ≡ f (row ∷ left_at subs (i + 1))
some_here f subs i d o row within is some =
    ap f (rows_from subs i d o within is) ∙ ap (λ p. f (of_option p ++ left_at subs (i + 1))) some

-- the refusal by rows behind those that have lacked this
abbrev pub refusal_after : Table → Option Denial → List Needed → Option Reply
refusal_after table lack rows = if some_absent table (fds_of rows) then Some (refused Badf) else denied_by (either_lack lack (first_lack table rows))

later_lack : (lack later rest : Option Denial) → either_lack (either_lack lack later) rest ≡ either_lack lack (either_lack later rest)
later_lack None later rest = refl
later_lack (Some denial) later rest = refl

-- a row whose descriptor is there
pub there_here : (table : Table) (lack : Option Denial) (row : Needed) (rows : List Needed) (held : Descriptor) → get table row.fd ≡ Some held
    → refusal_after table lack (row ∷ rows) ≡ refusal_after table (either_lack lack (lack_at (Some held) row)) rows
there_here table lack row rows held some =
    ap (λ o. if not (is_some o) || some_absent table (fds_of rows) then Some (refused Badf)
    else denied_by (either_lack lack (either_lack (lack_at o row) (first_lack table rows)))) some
    ∙ ap (λ o. if some_absent table (fds_of rows) then Some (refused Badf) else denied_by o) (sym (later_lack lack (lack_at (Some held) row) (first_lack table rows)))
