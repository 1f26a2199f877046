use Rattle.std.proofs.Common.{◌≡◌, ◌+◌, ◌++◌, List, [], ◌∷◌, length, false, Result, Ok, Err, OnOk, refl, sym, ap, ◌∙◌, arith}
use Rattle.std.specs.Result.{is_err}
use Rattle.std.specs.Vec.{vec_capacity}
use Rattle.page_table.specs.declared.slots.Slot.{Slot}
use Rattle.page_table.proofs.SharedTables.{table_added}
use Rattle.page_table.proofs.Tables.{own_few}
use Rattle.page_table.proofs.table.insert_slot.Goals as goal

at_ok : {T E P : Type 0} (r : Result T E) → is_err r ≡ false → OnOk r P → P
at_ok (Ok x) e h = h
at_ok (Err x) e h = absurd (cc)

pub overflow_sub-len : goal.overflow_sub-len
overflow_sub-len c =
    let few = own_few c.args.index.now c.args.shared.now c.args.slots.now.items c.requires.table.indexed in
    omega (arith, few, c.len.ensures.len, c.len-own.ensures, c.args.slots.now.ok.0)

pub returns-clause-table : goal.returns-clause-table
returns-clause-table c =
    let few = own_few c.args.index.now c.args.shared.now c.args.slots.now.items c.requires.table.indexed in
    (table_added c.args.index.now c.insert.new.self c.args.shared.now c.args.slots.now.items c.push_reserved.new.self.items _ (vec_capacity c.push_reserved.new.self) c.args.number
    (length c.args.shared.now + c.len-own.result) (record { number = c.args.number; page = c.args.page }) c.requires.table c.requires.absent refl
    (ap (λ n. length c.args.shared.now + n) (c.len-own.ensures ∙ c.args.slots.now.ok.0))
    (at_ok c.insert.result (sym c.is_err.ensures.value ∙ c.if-is_err.false) c.insert.ensures.ok)
    (c.push_reserved.ensures.items ∙ ap (λ (xs : List Slot). xs ++ record { number = c.args.number; page = c.args.page } ∷ []) c.reserve.ensures.items)
    (omega (arith, few, c.in_ok-reserve.ensures.ok, c.reserve.ensures.len, c.push_reserved.ensures.capacity, c.len.ensures.len, c.len-own.ensures, c.args.slots.now.ok.0))).0

pub returns-clause-ok : goal.returns-clause-ok
returns-clause-ok c =
    let few = own_few c.args.index.now c.args.shared.now c.args.slots.now.items c.requires.table.indexed in
    (table_added c.args.index.now c.insert.new.self c.args.shared.now c.args.slots.now.items c.push_reserved.new.self.items _ (vec_capacity c.push_reserved.new.self) c.args.number
    (length c.args.shared.now + c.len-own.result) (record { number = c.args.number; page = c.args.page }) c.requires.table c.requires.absent refl
    (ap (λ n. length c.args.shared.now + n) (c.len-own.ensures ∙ c.args.slots.now.ok.0))
    (at_ok c.insert.result (sym c.is_err.ensures.value ∙ c.if-is_err.false) c.insert.ensures.ok)
    (c.push_reserved.ensures.items ∙ ap (λ (xs : List Slot). xs ++ record { number = c.args.number; page = c.args.page } ∷ []) c.reserve.ensures.items)
    (omega (arith, few, c.in_ok-reserve.ensures.ok, c.reserve.ensures.len, c.push_reserved.ensures.capacity, c.len.ensures.len, c.len-own.ensures, c.args.slots.now.ok.0))).1
