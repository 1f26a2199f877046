use Rattle.std.proofs.Common.{◌≡◌, ◌++◌, ◌+◌, ◌-◌, ◌<◌, ◌≤◌, set, Option, Some, None, MatchOption, length, sym, ap, subst, ◌∙◌, arith}
use Rattle.std.specs.FinMap.{get}
use Rattle.std.specs.Option.{option_to_list}
use Rattle.page_table.specs.Table.{IsTable}
use Rattle.page_table.proofs.SharedTables.{last_is_there, table_absent, table_cut, table_dropped, table_moved}
use Rattle.page_table.proofs.Tables.{length_all}
use Rattle.page_table.proofs.table.remove_slot.Goals as goal

at_none : {T A : Type 0} (B : T → Type 0) (o : Option T) → o ≡ None → MatchOption o A B → A
at_none B None e h = h
at_none B (Some x) e h = absurd (cc)

-- an own slot that the index leads to is there
no_slots : (c : goal.In_default-pop) → ⊥
no_slots c =
    let here : get c.args.index.now c.args.number ≡ Some c.in-Some.place = sym c.remove.ensures.value ∙ c.in-Some.is in
    let none = (at_none _ c.pop.result c.in_default-pop.is c.pop.ensures.cases).0 in
    let lt = (c.requires.indexed.placed c.args.number c.in-Some.place here).0 in
    let all = length_all c.args.shared.now c.args.slots.now.items in
    absurd (omega (arith, none, lt, all, c.if-place-shared.false, c.args.slots.now.ok.0))

pub returns-in_default-pop-clause-table : goal.returns-in_default-pop-clause-table
returns-in_default-pop-clause-table c = absurd (no_slots c)

pub returns-in_default-pop-clause-content : goal.returns-in_default-pop-clause-content
returns-in_default-pop-clause-content c = absurd (no_slots c)

pub returns-in_default-clause-table : goal.returns-in_default-clause-table
returns-in_default-clause-table c =
    (table_absent c.args.index.now c.remove.new.self c.args.shared.now c.args.slots.now.items _ c.args.number c.requires (sym c.remove.ensures.value ∙ c.in_default.is) c.remove.ensures.new).0

pub returns-in_default-clause-content : goal.returns-in_default-clause-content
returns-in_default-clause-content c =
    (table_absent c.args.index.now c.remove.new.self c.args.shared.now c.args.slots.now.items _ c.args.number c.requires (sym c.remove.ensures.value ∙ c.in_default.is) c.remove.ensures.new).1

pub returns-then-place-shared-clause-table : goal.returns-then-place-shared-clause-table
returns-then-place-shared-clause-table c =
    (table_dropped c.args.index.now c.remove.new.self c.args.shared.now c.args.slots.now.items _ c.args.number c.in-Some.place c.requires
    (sym c.remove.ensures.value ∙ c.in-Some.is) c.if-place-shared.true c.remove.ensures.new).0

pub returns-then-place-shared-clause-content : goal.returns-then-place-shared-clause-content
returns-then-place-shared-clause-content c =
    (table_dropped c.args.index.now c.remove.new.self c.args.shared.now c.args.slots.now.items _ c.args.number c.in-Some.place c.requires
    (sym c.remove.ensures.value ∙ c.in-Some.is) c.if-place-shared.true c.remove.ensures.new).1

pub replace-requires : goal.replace-requires
replace-requires c =
    let here : get c.args.index.now c.args.number ≡ Some c.in-Some.place = sym c.remove.ensures.value ∙ c.in-Some.is in
    let items = c.pop.ensures.items ∙ ap (λ o. c.pop.new.self.items ++ option_to_list o) c.in-Some-pop.is in
    let place : c.in-Some.place ≡ length c.args.shared.now + (c.in-Some.place - length c.args.shared.now) = omega (arith, c.if-place-shared.false) in
    let low : c.in-Some.place - length c.args.shared.now < length c.pop.new.self.items =
    omega (arith, c.if-own-len.true, c.len.ensures, c.pop.new.self.ok.0) in
    last_is_there c.args.index.now c.remove.new.self c.args.shared.now c.args.slots.now.items c.pop.new.self.items c.in-Some-pop.last _ c.args.number c.in-Some.place
    c.requires here items c.remove.ensures.new (omega (arith, place, low))

pub returns-then-own-len-clause-table : goal.returns-then-own-len-clause-table
returns-then-own-len-clause-table c =
    let here : get c.args.index.now c.args.number ≡ Some c.in-Some.place = sym c.remove.ensures.value ∙ c.in-Some.is in
    let items = c.pop.ensures.items ∙ ap (λ o. c.pop.new.self.items ++ option_to_list o) c.in-Some-pop.is in
    let place : c.in-Some.place ≡ length c.args.shared.now + (c.in-Some.place - length c.args.shared.now) = omega (arith, c.if-place-shared.false) in
    let low : c.in-Some.place - length c.args.shared.now < length c.pop.new.self.items =
    omega (arith, c.if-own-len.true, c.len.ensures, c.pop.new.self.ok.0) in
    let step =
    table_moved c.args.index.now c.remove.new.self c.args.shared.now c.args.slots.now.items c.pop.new.self.items c.in-Some-pop.last _ c.args.number
    c.in-Some.place c.requires here items c.remove.ensures.new c.replace.new.self (c.in-Some.place - length c.args.shared.now) place low c.replace.ensures.new in
    subst (IsTable c.replace.new.self c.args.shared.now (set c.pop.new.self.items (c.in-Some.place - length c.args.shared.now) c.in-Some-pop.last))
    (sym c.pop.ensures.capacity) step.0

pub returns-then-own-len-clause-content : goal.returns-then-own-len-clause-content
returns-then-own-len-clause-content c =
    let here : get c.args.index.now c.args.number ≡ Some c.in-Some.place = sym c.remove.ensures.value ∙ c.in-Some.is in
    let items = c.pop.ensures.items ∙ ap (λ o. c.pop.new.self.items ++ option_to_list o) c.in-Some-pop.is in
    let place : c.in-Some.place ≡ length c.args.shared.now + (c.in-Some.place - length c.args.shared.now) = omega (arith, c.if-place-shared.false) in
    let low : c.in-Some.place - length c.args.shared.now < length c.pop.new.self.items =
    omega (arith, c.if-own-len.true, c.len.ensures, c.pop.new.self.ok.0) in
    let step =
    table_moved c.args.index.now c.remove.new.self c.args.shared.now c.args.slots.now.items c.pop.new.self.items c.in-Some-pop.last _ c.args.number
    c.in-Some.place c.requires here items c.remove.ensures.new c.replace.new.self (c.in-Some.place - length c.args.shared.now) place low c.replace.ensures.new in
    step.1

pub returns-else-own-len-clause-table : goal.returns-else-own-len-clause-table
returns-else-own-len-clause-table c =
    let here : get c.args.index.now c.args.number ≡ Some c.in-Some.place = sym c.remove.ensures.value ∙ c.in-Some.is in
    let items = c.pop.ensures.items ∙ ap (λ o. c.pop.new.self.items ++ option_to_list o) c.in-Some-pop.is in
    let high : length c.args.shared.now + length c.pop.new.self.items ≤ c.in-Some.place =
    omega (arith, c.if-own-len.false, c.if-place-shared.false, c.len.ensures, c.pop.new.self.ok.0) in
    let step =
    table_cut c.args.index.now c.remove.new.self c.args.shared.now c.args.slots.now.items c.pop.new.self.items c.in-Some-pop.last _ c.args.number
    c.in-Some.place c.requires here items c.remove.ensures.new high in
    subst (IsTable c.remove.new.self c.args.shared.now c.pop.new.self.items) (sym c.pop.ensures.capacity) step.0

pub returns-else-own-len-clause-content : goal.returns-else-own-len-clause-content
returns-else-own-len-clause-content c =
    let here : get c.args.index.now c.args.number ≡ Some c.in-Some.place = sym c.remove.ensures.value ∙ c.in-Some.is in
    let items = c.pop.ensures.items ∙ ap (λ o. c.pop.new.self.items ++ option_to_list o) c.in-Some-pop.is in
    let high : length c.args.shared.now + length c.pop.new.self.items ≤ c.in-Some.place =
    omega (arith, c.if-own-len.false, c.if-place-shared.false, c.len.ensures, c.pop.new.self.ok.0) in
    let step =
    table_cut c.args.index.now c.remove.new.self c.args.shared.now c.args.slots.now.items c.pop.new.self.items c.in-Some-pop.last _ c.args.number
    c.in-Some.place c.requires here items c.remove.ensures.new high in
    step.1
