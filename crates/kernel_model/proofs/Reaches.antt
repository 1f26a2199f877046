-- What a call sees is the process's own or reached through descriptors that have the rights needed; what it touches it sees or
-- makes; and what it makes isn't there before.
use Rattle.std.proofs.Common.{◌≡◌, ◌⊎◌, inl, inr, ℕ, ◌||◌, Bool, true, false, cond, T, List, [], ◌∷◌, ◌++◌, Option, Some, None, IsSome, refl, sym, ap, subst, ◌∙◌}
use Rattle.std.specs.List.{AllByRecursion}
use Rattle.std.specs.FinMap.{get}
use Rattle.abi_types.specs.declared.call.Call.{Call}
use Rattle.abi_types.specs.declared.reply.Reply.{Reply}
use Rattle.abi_types.specs.declared.descriptor.Denial.{Denial}
use Rattle.abi_types.specs.declared.descriptor.Descriptor.{Descriptor}
use Rattle.abi_base.specs.declared.errno.Errno.TheVariants.{Badf}
use Rattle.abi_types.specs.declared.needed.Needed.{Needed}
use Rattle.abi_types.specs.declared.who.Who.{Who}
use Rattle.kernel_model.specs.Calls.{meaning_of, named, need, seen, refusal}
use Rattle.kernel_model.specs.Laws.{IsMet, IsNotThere, IsReached, IsReachedBy, IsReachedByName}
use Rattle.kernel_model.specs.Need.{has_needed, missing, some_absent, lack_at, either_lack, first_lack, denied_by}
use Rattle.kernel_model.specs.Families.Numbers.{can_number, new_parts}
use Rattle.kernel_model.specs.OwnChanges.{born_of, child_parts, made_parts}
use Rattle.kernel_model.proofs.Births.{child_is_absent}
use Rattle.kernel_model.specs.Proper.{IsIn, MaySee, NeedsOf}
use Rattle.kernel_model.specs.Reply.{refused, denied}
use Rattle.kernel_model.specs.Sight.{process_parts, reached_by, reached}
use Rattle.kernel_model.specs.State.{State, Table, Part, has_part}
use Rattle.kernel_model.specs.Step.{unless_refused, reach, sight, changed, made_by, made_on, touch}
use Rattle.kernel_model.specs.Valid.{IsNearlyValid, IsValid}
use Rattle.kernel_model.proofs.Calls.{proper}
use Rattle.kernel_model.proofs.Lacks.{all_present, HasRows, rows_there}
use Rattle.kernel_model.proofs.Lists.{in_all}
use Rattle.kernel_model.proofs.ObjectNumbers.{parts_are_absent}
use Rattle.kernel_model.proofs.Parts.{has_of_both}
use Rattle.kernel_model.proofs.Tests.{not_true, none_is_no, either_true, or_true}

-- ---- a call that is not refused has its needs met

no_lack : (lack rest : Option Denial) → either_lack lack rest ≡ None → (lack ≡ None) × (rest ≡ None)
no_lack None rest h = (refl, h)
no_lack (Some denial) rest h = absurd (none_is_no denial (sym h))

no_denial : (b : Bool) (denial : Denial) → cond b None (Some denial) ≡ None → b ≡ true
no_denial true denial h = refl
no_denial false denial h = absurd (none_is_no denial (sym h))

row_met : (table : Table) (row : Needed) (o : Option Descriptor) → get table row.fd ≡ o → IsSome o → lack_at o row ≡ None → IsMet table row
row_met table row None there some h = absurd (subst T (sym some) tt)
row_met table row (Some d) there some h = (d, there, no_denial (has_needed d row) (missing d row) h)

rows_met : (table : Table) (rows : List Needed) → HasRows table rows → first_lack table rows ≡ None → AllByRecursion (IsMet table) rows
rows_met table [] all h = tt
rows_met table (row ∷ rows) all h =
    let both = no_lack (lack_at (get table row.fd) row) (first_lack table rows) h in
    (row_met table row (get table row.fd) refl all.0 both.0, rows_met table rows all.1 both.1)

no_refusal : (absent : Bool) (lack : Option Denial) → cond absent (Some (refused Badf)) (denied_by lack) ≡ None → (absent ≡ false) × (lack ≡ None)
no_refusal true lack h = absurd (none_is_no (refused Badf) (sym h))
no_refusal false None h = (refl, refl)
no_refusal false (Some denial) h = absurd (none_is_no (denied denial) (sym h))

pub all_met : (call : Call) (table : Table) → refusal table call ≡ None → AllByRecursion (IsMet table) (need call)
all_met call table h =
    let both = no_refusal (some_absent table (named call)) (first_lack table (need call)) h in
    rows_met table (need call) (rows_there call table (all_present table (named call) both.0)) both.1

-- ---- what is reached

-- a part that a descriptor reaches, where the call needs a right of that descriptor and its rows are met
one_reached : (S : State) (table : Table) (rows : List Needed) (fd : ℕ) (q : Part) → AllByRecursion (IsMet table) rows → NeedsOf rows fd
    → has_part (reached_by S (get table fd)) q ≡ true → IsReached S table rows q
one_reached S table rows fd q met needs h =
    let has : IsMet table needs.0 = in_all (IsMet table) needs.0 rows met needs.1 in
    let at : get table fd ≡ Some has.0 = sym (ap (get table) needs.2) ∙ has.1 in
    record {
      row = needs.0;
      asked = needs.1;
      d = has.0;
      there = has.1;
      has = has.2;
      part = sym (ap (λ o. has_part (reached_by S o) q) at) ∙ h;
    }

-- a part that a descriptor reaches which is there, where the call needs no right and names it
named_reached : (S : State) (table : Table) (call : Call) (fd : ℕ) (q : Part) (o : Option Descriptor) → get table fd ≡ o → need call ≡ [] → IsIn fd (named call)
    → has_part (reached_by S o) q ≡ true → IsReachedByName S table call q
named_reached S table call fd q None there none asked h = absurd (not_true h)
named_reached S table call fd q (Some d) there none asked h =
    record { none = none; fd = fd; asked = asked; d = d; there = there; part = h }

may_reach : (S : State) (table : Table) (call : Call) (fd : ℕ) (q : Part) → AllByRecursion (IsMet table) (need call) → MaySee (meaning_of call) fd
    → has_part (reached_by S (get table fd)) q ≡ true → IsReached S table (need call) q ⊎ IsReachedByName S table call q
may_reach S table call fd q met (inl needs) h = inl (one_reached S table (need call) fd q met needs h)
may_reach S table call fd q met (inr named) h = inr (named_reached S table call fd q (get table fd) refl named.0 named.1 h)

reached_is : (S : State) (table : Table) (call : Call) (fds : List ℕ) (q : Part) → AllByRecursion (IsMet table) (need call)
    → AllByRecursion (MaySee (meaning_of call)) fds → has_part (reached S table fds) q ≡ true → IsReached S table (need call) q ⊎ IsReachedByName S table call q
reached_is S table call [] q met may h = absurd (not_true h)
reached_is S table call (fd ∷ fds) q met may h =
    elim (either_true (has_part (reached_by S (get table fd)) q) (has_part (reached S table fds) q)
    (sym (has_of_both (reached_by S (get table fd)) (reached S table fds) q) ∙ h)) [
      | inl here ↦ may_reach S table call fd q met may.0 here
      | inr later ↦ reached_is S table call fds q met may.1 later
    ]

unrefused : (r : Option Reply) (parts : List Part) (q : Part) → has_part (unless_refused r parts) q ≡ true → (r ≡ None) × (has_part parts q ≡ true)
unrefused None parts q h = (refl, h)
unrefused (Some reply) parts q h = absurd (not_true h)

reach_is : (S : State) (who : Who) (call : Call) (t : Option Table) (q : Part) → get S.tables who.pid ≡ t → has_part (reach S call t) q ≡ true
    → IsReachedBy S who call q
reach_is S who call None q there h = absurd (not_true h)
reach_is S who call (Some table) q there h =
    let both = unrefused (refusal table call) (reached S table (seen call)) q h in
    let met : AllByRecursion (IsMet table) (need call) = all_met call table both.0 in
    (table, there, met, reached_is S table call (seen call) q met (proper call).sees both.1)

pub sight_is_reached : (S : State) (who : Who) (call : Call) (q : Part) → has_part (sight S who call) q ≡ true
    → (has_part (process_parts who.pid) q ≡ true) ⊎ IsReachedBy S who call q
unfolding sight
sight_is_reached S who call q h =
    let rest = reach S call (get S.tables who.pid) in
    elim (either_true (has_part (process_parts who.pid) q) (has_part rest q) (sym (has_of_both (process_parts who.pid) rest q) ∙ h)) [
      | inl own ↦ inl own
      | inr beyond ↦ inr (reach_is S who call (get S.tables who.pid) q refl beyond)
    ]

-- ---- what is touched

-- parts of which all are among others, where the call is not refused
unless_more : (r : Option Reply) (xs ys : List Part) (q : Part) → (has_part xs q ≡ true → has_part ys q ≡ true)
    → has_part (unless_refused r xs) q ≡ true → has_part (unless_refused r ys) q ≡ true
unless_more None xs ys q more h = more h
unless_more (Some reply) xs ys q more h = h

either_of : (a b c : Bool) → (b ≡ true → c ≡ true) → (a || b) ≡ true → (a || c) ≡ true
either_of true b c more h = refl
either_of false b c more h = more h

changed_is_reached : (S : State) (call : Call) (t : Option Table) (q : Part) → has_part (changed S call t) q ≡ true → has_part (reach S call t) q ≡ true
changed_is_reached S call None q h = h
changed_is_reached S call (Some table) q h =
    unless_more (refusal table call) ((meaning_of call).touched S table) (reached S table (seen call)) q ((proper call).touched S table q) h

-- what is among three lists is among the second, or among the first and the third
around : (xs ys zs : List Part) (q : Part) → has_part (xs ++ (ys ++ zs)) q ≡ true → ((has_part xs q || has_part zs q) ≡ true) ⊎ (has_part ys q ≡ true)
around xs ys zs q h =
    elim (either_true (has_part xs q) (has_part (ys ++ zs) q) (sym (has_of_both xs (ys ++ zs) q) ∙ h)) [
      | inl first ↦ inl (ap (λ b. b || has_part zs q) first)
      | inr rest ↦ elim (either_true (has_part ys q) (has_part zs q) (sym (has_of_both ys zs q) ∙ rest)) [
        | inl second ↦ inr second
        | inr third ↦ inl (ap (λ b. has_part xs q || b) third ∙ or_true (has_part xs q))
      ]
    ]

pub touch_is_seen : (S : State) (who : Who) (call : Call) (q : Part) → has_part (touch S who call) q ≡ true
    → (has_part (sight S who call) q ≡ true) ⊎ (has_part (made_by S who call) q ≡ true)
unfolding sight touch
touch_is_seen S who call q h =
    let own = process_parts who.pid in
    let touched = changed S call (get S.tables who.pid) in
    let rest = reach S call (get S.tables who.pid) in
    elim (around own (made_by S who call) touched q h) [
      | inl seen ↦ inl (has_of_both own rest q
          ∙ either_of (has_part own q) (has_part touched q) (has_part rest q) (changed_is_reached S call (get S.tables who.pid) q) seen)
      | inr new_nodes ↦ inr new_nodes
    ]

-- ---- what is made

made_is_absent : (S : State) (who : Who) (call : Call) (t : Option Table) (q : Part) → IsNearlyValid S
    → can_number who.pid (meaning_of call).numbers (get S.processes who.pid) ≡ true → has_part (made_on S who call t) q ≡ true → IsNotThere S q
made_is_absent S who call None q v can h = absurd (not_true h)
made_is_absent S who call (Some table) q v can h =
    let change = (meaning_of call).own in
    let child = child_parts (born_of change who.pid (get S.processes who.pid)) in
    let objects = new_parts who.pid (meaning_of call).numbers (get S.processes who.pid) in
    let made = (unrefused (refusal table call) (made_parts change who.pid (meaning_of call).numbers (get S.processes who.pid)) q h).1 in
    elim (either_true (has_part child q) (has_part objects q) (sym (has_of_both child objects q) ∙ made)) [
      | inl born ↦ child_is_absent S who.pid change q v born
      | inr object ↦ parts_are_absent S who.pid (meaning_of call).numbers q v can object
    ]

pub made_is_new : (S : State) (who : Who) (call : Call) (q : Part) → IsValid S
    → can_number who.pid (meaning_of call).numbers (get S.processes who.pid) ≡ true → has_part (made_by S who call) q ≡ true → IsNotThere S q
made_is_new S who call q v can h = made_is_absent S who call (get S.tables who.pid) q v.nearly can h
