use Rattle.std.proofs.Common.{◌≡◌, Some, sym, ap, subst, ◌∙◌, arith}
use Rattle.std.specs.FinMap.{get}
use Rattle.std.specs.Option.{option_copied}
use Rattle.page_table.specs.Table.{IsTable}
use Rattle.page_table.proofs.SharedTables.{table_owned}
use Rattle.page_table.proofs.Tables.{own_fewer, read_is}
use Rattle.page_table.proofs.table.own_slot.Goals as goal

pub push_reserved-requires : goal.push_reserved-requires
push_reserved-requires c =
    let here : get c.args.index.now c.args.number ≡ Some c.unwrap-place.result.now = sym c.get.ensures.value ∙ ap option_copied c.unwrap-place.ensures in
    let fewer =
    own_fewer c.args.index.now c.args.shared.now c.args.slots.now.items c.args.number c.unwrap-place.result.now c.requires.table.indexed here
    c.if-place-shared.false in
    let enough = c.requires.table.room in
    omega (arith, fewer, enough, c.args.slots.now.ok.0)

pub returns-clause-table : goal.returns-clause-table
returns-clause-table c =
    let here : get c.args.index.now c.args.number ≡ Some c.unwrap-place.result.now = sym c.get.ensures.value ∙ ap option_copied c.unwrap-place.ensures in
    let read = read_is c.args.shared.now c.unwrap-place.result.now c.index-shared-place.result c.if-place-shared.false c.index-shared-place.is in
    let step =
    table_owned c.args.index.now c.replace.new.self c.args.shared.now c.args.slots.now.items c.push_reserved.new.self.items _ c.args.number
    c.unwrap-place.result.now c.len-own.result c.copy.result c.requires.table here c.if-place-shared.false (c.copy.ensures ∙ read)
    (c.len-own.ensures ∙ c.args.slots.now.ok.0) c.replace.ensures.new c.push_reserved.ensures.items in
    subst (IsTable c.replace.new.self c.args.shared.now c.push_reserved.new.self.items) (sym c.push_reserved.ensures.capacity) step.0

pub returns-clause-content : goal.returns-clause-content
returns-clause-content c =
    let here : get c.args.index.now c.args.number ≡ Some c.unwrap-place.result.now = sym c.get.ensures.value ∙ ap option_copied c.unwrap-place.ensures in
    let read = read_is c.args.shared.now c.unwrap-place.result.now c.index-shared-place.result c.if-place-shared.false c.index-shared-place.is in
    let step =
    table_owned c.args.index.now c.replace.new.self c.args.shared.now c.args.slots.now.items c.push_reserved.new.self.items _ c.args.number
    c.unwrap-place.result.now c.len-own.result c.copy.result c.requires.table here c.if-place-shared.false (c.copy.ensures ∙ read)
    (c.len-own.ensures ∙ c.args.slots.now.ok.0) c.replace.ensures.new c.push_reserved.ensures.items in
    step.1.0

pub returns-clause-place : goal.returns-clause-place
returns-clause-place c =
    let here : get c.args.index.now c.args.number ≡ Some c.unwrap-place.result.now = sym c.get.ensures.value ∙ ap option_copied c.unwrap-place.ensures in
    let read = read_is c.args.shared.now c.unwrap-place.result.now c.index-shared-place.result c.if-place-shared.false c.index-shared-place.is in
    let step =
    table_owned c.args.index.now c.replace.new.self c.args.shared.now c.args.slots.now.items c.push_reserved.new.self.items _ c.args.number
    c.unwrap-place.result.now c.len-own.result c.copy.result c.requires.table here c.if-place-shared.false (c.copy.ensures ∙ read)
    (c.len-own.ensures ∙ c.args.slots.now.ok.0) c.replace.ensures.new c.push_reserved.ensures.items in
    step.1.1
