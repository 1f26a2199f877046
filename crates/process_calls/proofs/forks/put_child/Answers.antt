use Rattle.std.proofs.Common.{◌≡◌, ℕ, ◌+◌, ◌<◌, ◌^◌, None, Some, is_some, sym, ap, subst, ◌∙◌}
use Rattle.std.specs.Ordering.{nat_cmp}
use Rattle.std.specs.FinMap.{FinMap, get, insert, remove}
use Rattle.abi_types.specs.declared.descriptor.Descriptor.{Descriptor}
use Rattle.abi_types.specs.declared.open_kind.OpenKind.{OpenKind}
use Rattle.abi_types.specs.declared.open_kind.OpenKind.TheVariants as open_kind
use Rattle.kernel_model.specs.Families.ForkCalls.{child_descriptor, child_number, child_object, child_open}
use Rattle.kernel_model.specs.Families.Numbers.{made_more}
use Rattle.kernel_model.specs.Fits.{fits}
use Rattle.kernel_model.specs.OwnChanges.{may_bear, with_next_child}
use Rattle.kernel_model.specs.Release.{count_in}
use Rattle.kernel_model.specs.State.{ProcessState, Table}
use Rattle.kernel_parts.proofs.Counts.{number-back}
use Rattle.file_tree.proofs.Behind.{on_err}
use Rattle.kernel_parts.specs.Changes.{IsMoved}
use Rattle.maps.specs.Maps.{number, get-insert-other, get-insert-same, insert_self, remove-inserted}
use Rattle.object_store.specs.Objects.{Held}
use Rattle.process_calls.proofs.Births.{all_there, back_again, child_put, counted_with, grown_few, one_value, parent_put, same_value}
use Rattle.process_calls.proofs.forks.put_child.Goals as goal

pub returns-in_err-add_open-clause-same_tables : goal.returns-in_err-add_open-clause-same_tables
returns-in_err-add_open-clause-same_tables c =
    on_err c.from_residual-in_err-add_open.result (ap (λ (t : Table). insert c.args.tables.now c.key-parent.result t) c.in_err-add_open.ensures.same_table
    ∙ insert_self c.args.tables.now c.key-parent.result c.get_mut.result.now (sym c.get_mut.ensures.value))

pub put_parts-requires-clause-no_table : goal.put_parts-requires-clause-no_table
put_parts-requires-clause-no_table c =
    get-insert-other c.args.tables.now c.key-parent.result c.add_open.new.table c.args.plan.now.child (λ e. c.requires.may.other (e ∙ c.key-parent.ensures))
    ∙ c.requires.may.no_table

pub get_mut-requires-in-Err : goal.get_mut-requires-in-Err
get_mut-requires-in-Err c =
    ap is_some (ap (λ (m : FinMap nat_cmp Table). get m c.key-parent.result) c.in-Err.ensures.same_tables
    ∙ get-insert-same c.args.tables.now c.key-parent.result c.add_open.new.table)

pub returns-in-Err-clause-same_tables : goal.returns-in-Err-clause-same_tables
returns-in-Err-clause-same_tables c =
    let tables = c.args.tables.now in
    let p = c.key-parent.result in
    let plan = c.args.plan.now in
    let there : get tables plan.parent ≡ Some c.in_ok-table.table = c.in_ok-table.ensures.table in
    let here : get tables p ≡ Some c.in_ok-table.table = ap (get tables) c.key-parent.ensures ∙ there in
    let was : c.get_mut.result.now ≡ c.in_ok-table.table = one_value (get tables p) _ _ (sym c.get_mut.ensures.value) here in
    let now : c.get_mut-in-Err.result.now ≡ c.add_open.new.table =
    one_value (get c.put_parts.new.tables p) _ _ (sym c.get_mut-in-Err.ensures.value)
    (ap (λ (m : FinMap nat_cmp Table). get m p) c.in-Err.ensures.same_tables ∙ get-insert-same tables p c.add_open.new.table) in
    let free : get c.get_mut.result.now plan.fd ≡ None =
    ap (λ (t : Table). get t plan.fd) (was ∙ one_value (get tables plan.parent) _ _ there c.requires.may.has_table) ∙ c.requires.may.free.1 in
    let back : c.remove.new.self ≡ c.in_ok-table.table =
    c.remove.ensures.new ∙ ap (λ (t : Table). remove t plan.fd) (now ∙ c.in_ok-add_open.ensures.table)
    ∙ remove-inserted c.get_mut.result.now plan.fd _ free ∙ was in
    (λ i. insert (c.in-Err.ensures.same_tables i) p (back i)) ∙ back_again tables p c.in_ok-table.table c.add_open.new.table here

pub returns-in-Err-clause-same_kinds : goal.returns-in-Err-clause-same_kinds
returns-in-Err-clause-same_kinds c =
    let plan = c.args.plan.now in
    let kinds = c.args.objects.now.kinds in
    let given = c.descriptor_of-descriptor.result in
    let named : given.0.id ≡ plan.open = ap (λ (d : Descriptor). d.id) c.descriptor_of-descriptor.ensures.descriptor in
    ap (λ (h : Held). h.kinds) c.remove-in-Err.ensures.new
    ∙ ap (λ (m : FinMap nat_cmp OpenKind). remove m plan.open) (c.in_ok-add_open.ensures.kinds ∙ ap (λ (o : ℕ). insert kinds o given.1) named)
    ∙ remove-inserted kinds plan.open given.1 c.requires.may.no_open

pub returns-in-Err-clause-same_counts : goal.returns-in-Err-clause-same_counts
returns-in-Err-clause-same_counts c = λ o.
    let plan = c.args.plan.now in
    let table = c.get_mut.result.now in
    let d = c.descriptor_of-descriptor.result.0 in
    let before = c.args.objects.now.counts in
    let after = c.add_open.new.objects.counts in
    let named : d.id ≡ plan.open = ap (λ (e : Descriptor). e.id) c.descriptor_of-descriptor.ensures.descriptor in
    let was : table ≡ c.requires.may.table =
    same_value c.args.tables.now c.key-parent.result plan.parent _ _ c.key-parent.ensures c.get_mut.ensures.value c.requires.may.has_table in
    let free : get table plan.fd ≡ None = ap (λ (t : Table). get t plan.fd) was ∙ c.requires.may.free.1 in
    let unheld : number (get before d.id) ≡ 0 = ap (λ (k : ℕ). number (get before k)) named ∙ c.requires.unheld in
    let moved : IsMoved table (insert table plan.fd d) before after =
    subst (λ (t : Table). IsMoved table t before after) c.in_ok-add_open.ensures.table c.in_ok-add_open.ensures.counts in
    ap (λ (h : Held). number (get h.counts o)) c.remove-in-Err.ensures.new
    ∙ ap (λ (k : ℕ). number (get (remove after k) o)) (sym named)
    ∙ number-back table plan.fd d before after free unheld moved o

pub get_mut-requires-2 : goal.get_mut-requires-2
get_mut-requires-2 c =
    let q = c.args.plan.now.child in
    let child : get c.put_parts.new.tables q ≡ Some c.in_ok-table.table =
    ap (λ (m : FinMap nat_cmp Table). get m q) c.in_default.ensures.tables ∙ get-insert-same _ q c.in_ok-table.table in
    ap is_some (ap (get c.put_parts.new.tables) c.key.ensures ∙ child)

pub hold_all-requires-clause-there : goal.hold_all-requires-clause-there
hold_all-requires-clause-there c = λ n d here.
    let q = c.args.plan.now.child in
    let table = c.in_ok-table.table in
    let child : get c.put_parts.new.tables q ≡ Some table =
    ap (λ (m : FinMap nat_cmp Table). get m q) c.in_default.ensures.tables ∙ get-insert-same _ q table in
    let same : c.get_mut-2.result.now ≡ table = same_value c.put_parts.new.tables c.key.result q _ _ c.key.ensures c.get_mut-2.ensures.value child in
    c.in_ok-add_open.ensures.there d.id
    (all_there c.args.objects.now.kinds c.args.objects.now.counts table (λ k. c.requires.opens table k c.in_ok-table.ensures.table) c.requires.counted n d
    (ap (λ (t : Table). get t n) (sym same) ∙ here))

pub hold_all-requires-clause-few : goal.hold_all-requires-clause-few
hold_all-requires-clause-few c =
    let plan = c.args.plan.now in
    let table = c.get_mut.result.now in
    let d = c.descriptor_of-descriptor.result.0 in
    let before = c.args.objects.now.counts in
    let after = c.add_open.new.objects.counts in
    let was : table ≡ c.requires.may.table =
    same_value c.args.tables.now c.key-parent.result plan.parent _ _ c.key-parent.ensures c.get_mut.ensures.value c.requires.may.has_table in
    let free : get table plan.fd ≡ None = ap (λ (t : Table). get t plan.fd) was ∙ c.requires.may.free.1 in
    let moved : IsMoved table (insert table plan.fd d) before after =
    subst (λ (t : Table). IsMoved table t before after) c.in_ok-add_open.ensures.table c.in_ok-add_open.ensures.counts in
    grown_few table plan.fd d before after free moved c.requires.few

pub get_mut-own-requires : goal.get_mut-own-requires
get_mut-own-requires c =
    let plan = c.args.plan.now in
    let own : get c.put_parts.new.processes plan.parent ≡ Some c.requires.may.own =
    ap (λ (m : FinMap nat_cmp ProcessState). get m plan.parent) c.in_default.ensures.processes
    ∙ get-insert-other c.args.processes.now plan.child c.in_ok-table.own plan.parent (λ e. c.requires.may.other (sym e)) ∙ c.requires.may.has_own in
    ap is_some (ap (get c.put_parts.new.processes) c.key-parent.ensures ∙ own)

pub count_child-requires : goal.count_child-requires
count_child-requires c =
    let plan = c.args.plan.now in
    let own : get c.put_parts.new.processes plan.parent ≡ Some c.requires.may.own =
    ap (λ (m : FinMap nat_cmp ProcessState). get m plan.parent) c.in_default.ensures.processes
    ∙ get-insert-other c.args.processes.now plan.child c.in_ok-table.own plan.parent (λ e. c.requires.may.other (sym e)) ∙ c.requires.may.has_own in
    let is : c.get_mut-own.result.now ≡ c.requires.may.own =
    same_value c.put_parts.new.processes c.key-parent.result plan.parent _ _ c.key-parent.ensures c.get_mut-own.ensures.value own in
    ap may_bear is ∙ c.requires.may.bears

pub make-requires : goal.make-requires
make-requires c =
    let plan = c.args.plan.now in
    let own : get c.put_parts.new.processes plan.parent ≡ Some c.requires.may.own =
    ap (λ (m : FinMap nat_cmp ProcessState). get m plan.parent) c.in_default.ensures.processes
    ∙ get-insert-other c.args.processes.now plan.child c.in_ok-table.own plan.parent (λ e. c.requires.may.other (sym e)) ∙ c.requires.may.has_own in
    let is : c.get_mut-own.result.now ≡ c.requires.may.own =
    same_value c.put_parts.new.processes c.key-parent.result plan.parent _ _ c.key-parent.ensures c.get_mut-own.ensures.value own in
    let made : c.count_child.new.self.counts.objects ≡ c.requires.may.own.counts.objects =
    ap (λ (o : ProcessState). o.counts.objects) (c.count_child.ensures ∙ ap with_next_child is) in
    subst (λ (n : ℕ). n + 2 < 2 ^ 32) (sym made) c.requires.may.can_number

pub returns-clause-put : goal.returns-clause-put
returns-clause-put c =
    let plan = c.args.plan.now in
    let tables = c.args.tables.now in
    let processes = c.args.processes.now in
    let kinds = c.args.objects.now.kinds in
    let given = c.descriptor_of-descriptor.result in
    let named : given.0.id ≡ plan.open = ap (λ (d : Descriptor). d.id) c.descriptor_of-descriptor.ensures.descriptor in
    let child : get c.put_parts.new.tables plan.child ≡ Some c.in_ok-table.table =
    ap (λ (m : FinMap nat_cmp Table). get m plan.child) c.in_default.ensures.tables ∙ get-insert-same _ plan.child c.in_ok-table.table in
    let same : c.get_mut-2.result.now ≡ c.in_ok-table.table =
    same_value c.put_parts.new.tables c.key.result plan.child _ _ c.key.ensures c.get_mut-2.ensures.value child in
    let parent : get c.put_parts.new.processes plan.parent ≡ Some c.requires.may.own =
    ap (λ (m : FinMap nat_cmp ProcessState). get m plan.parent) c.in_default.ensures.processes
    ∙ get-insert-other processes plan.child c.in_ok-table.own plan.parent (λ e. c.requires.may.other (sym e)) ∙ c.requires.may.has_own in
    let is : c.get_mut-own.result.now ≡ c.requires.may.own =
    same_value c.put_parts.new.processes c.key-parent.result plan.parent _ _ c.key-parent.ensures c.get_mut-own.ensures.value parent in
    record {
      tables_are = λ table own has_table has_own.
          let was : c.get_mut.result.now ≡ table =
          same_value tables c.key-parent.result plan.parent _ _ c.key-parent.ensures c.get_mut.ensures.value has_table in
          let copied : c.in_ok-table.table ≡ table = one_value (get tables plan.parent) _ _ c.in_ok-table.ensures.table has_table in
          let one : c.requires.may.own ≡ own = one_value (get processes plan.parent) _ _ c.requires.may.has_own has_own in
          let open_is : plan.open ≡ child_open plan.parent own = c.requires.may.open_is ∙ ap (child_open plan.parent) one in
          let object_is : plan.object ≡ child_object plan.parent own = c.requires.may.object_is ∙ ap (child_object plan.parent) one in
          let child_is : plan.child ≡ child_number plan.parent own = c.requires.may.child_is ∙ ap (child_number plan.parent) one in
          let descriptor : given.0 ≡ child_descriptor plan.parent own =
          c.descriptor_of-descriptor.ensures.descriptor
          ∙ (λ i. record { id = open_is i; base = record { 0 = fits (open_kind.Process (child_is i) (object_is i)) }; inheriting = record { 0 = 0 } }) in
          let grown : c.add_open.new.table ≡ insert table plan.fd (child_descriptor plan.parent own) =
          c.in_ok-add_open.ensures.table ∙ (λ i. insert (was i) plan.fd (descriptor i)) in
          child_put tables c.put_parts.new.tables c.key-parent.result plan.parent c.key.result plan.child c.in_ok-table.table c.get_mut-2.result.now c.add_open.new.table
          c.key-parent.ensures c.key.ensures same c.in_default.ensures.tables c.requires.may.other
          ∙ (λ i. insert (insert tables plan.child (copied i)) plan.parent (grown i));
      processes_are = λ own has_own.
          let one : c.requires.may.own ≡ own = one_value (get processes plan.parent) _ _ c.requires.may.has_own has_own in
          let last : c.make.new.self ≡ made_more 2 (with_next_child own) =
          c.make.ensures ∙ ap (made_more 2) (c.count_child.ensures ∙ ap with_next_child (is ∙ one)) in
          parent_put processes c.put_parts.new.processes c.key-parent.result plan.parent plan.child c.in_ok-table.own _ c.make.new.self _
          c.key-parent.ensures c.in_default.ensures.processes (c.in_ok-table.ensures.own own has_own) last c.requires.may.other;
      statuses_are = c.in_default.ensures.statuses;
      kinds_are = c.hold_all.ensures.kinds ∙ c.in_ok-add_open.ensures.kinds ∙ (λ i. insert kinds (named i) (c.descriptor_of-descriptor.ensures.kind i));
    }

pub returns-clause-counts : goal.returns-clause-counts
returns-clause-counts c =
    let plan = c.args.plan.now in
    let tables = c.args.tables.now in
    let table = c.in_ok-table.table in
    let before = c.args.objects.now.counts in
    let after = c.add_open.new.objects.counts in
    let was : c.get_mut.result.now ≡ table =
    same_value tables c.key-parent.result plan.parent _ _ c.key-parent.ensures c.get_mut.ensures.value c.in_ok-table.ensures.table in
    let child : get c.put_parts.new.tables plan.child ≡ Some table =
    ap (λ (m : FinMap nat_cmp Table). get m plan.child) c.in_default.ensures.tables ∙ get-insert-same _ plan.child table in
    let same : c.get_mut-2.result.now ≡ table =
    same_value c.put_parts.new.tables c.key.result plan.child _ _ c.key.ensures c.get_mut-2.ensures.value child in
    counted_with tables _ plan.parent plan.child table c.add_open.new.table before after c.hold_all.new.objects.counts
    c.in_ok-table.ensures.table c.requires.may.no_table c.requires.may.other
    (child_put tables c.put_parts.new.tables c.key-parent.result plan.parent c.key.result plan.child table c.get_mut-2.result.now c.add_open.new.table
    c.key-parent.ensures c.key.ensures same c.in_default.ensures.tables c.requires.may.other)
    (subst (λ (t : Table). IsMoved t c.add_open.new.table before after) was c.in_ok-add_open.ensures.counts)
    (λ o. c.hold_all.ensures.counts o ∙ ap (λ (t : Table). number (get after o) + count_in o t) same)
