use Rattle.std.proofs.Common.{◌≡◌, ◌<◌, length, Some, sym, ap, ◌∙◌, arith}
use Rattle.std.specs.FinMap.{get, insert}
use Rattle.abi_base.specs.declared.prot.Prot.{Prot}
use Rattle.page_table.specs.declared.slots.Slot.{Slot}
use Rattle.page_table.specs.Page.{Pages}
use Rattle.page_table.specs.Table.{slot_at}
use Rattle.page_table.proofs.Tables.{by_own_hint, own_content_set, own_found, own_table_set, read_is}
use Rattle.page_table.proofs.table.PageTable.store_hinted.Goals as goal

pub invariant_of-self-2 : goal.invariant_of-self-2
invariant_of-self-2 c =
    let index = c.self.inside.index in
    let slots = c.self.inside.slots.items in
    let at = c.in-Some.at in
    let within : at < length slots = omega (arith, c.if-at-len.false, c.len.ensures, c.self.inside.slots.ok.0) in
    let read : c.index_mut-slot.result.now ≡ slot_at slots at = read_is slots at c.index_mut-slot.result.now within c.index_mut-slot.ensures.value in
    let number = ap (λ (s : Slot). s.number) (sym read) ∙ c.if-slot-number.false in
    own_table_set index c.self.inside.shared slots _ c.args.number at (record { number = c.index_mut-slot.result.now.number; page = c.store.new.self })
    c.self.invariant (ap (get index) (sym number) ∙ own_found index c.self.inside.shared slots at c.self.invariant.indexed within) c.if-slot-number.false

pub returns-clause-stored : goal.returns-clause-stored
returns-clause-stored c = λ _.
    let index = c.self.inside.index in
    let slots = c.self.inside.slots.items in
    let at = c.in-Some.at in
    let within : at < length slots = omega (arith, c.if-at-len.false, c.len.ensures, c.self.inside.slots.ok.0) in
    let read : c.index_mut-slot.result.now ≡ slot_at slots at = read_is slots at c.index_mut-slot.result.now within c.index_mut-slot.ensures.value in
    let number = ap (λ (s : Slot). s.number) (sym read) ∙ c.if-slot-number.false in
    record {
      page = c.index_mut-slot.result.now.page;
      there =
          ap (λ (m : Pages). get m c.args.number) (sym c.self.view_is) ∙ by_own_hint index c.self.inside.shared slots c.args.number at c.self.invariant.indexed within number
          ∙ ap (λ (s : Slot). Some s.page) (sym read);
      writable = ap (λ (p : Prot). p.write) (sym c.prot.ensures) ∙ c.if-not-prot.false;
      after_is =
          own_content_set index c.self.inside.shared slots _ c.args.number at (record { number = c.index_mut-slot.result.now.number; page = c.store.new.self })
          c.self.invariant (ap (get index) (sym number) ∙ own_found index c.self.inside.shared slots at c.self.invariant.indexed within) c.if-slot-number.false
          ∙ ap (λ (m : Pages). insert m c.args.number c.store.new.self) c.self.view_is ∙ ap (insert c.args.self.now c.args.number) c.store.ensures;
    }
