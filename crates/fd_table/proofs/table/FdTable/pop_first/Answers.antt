use Rattle.std.proofs.Common.{◌+◌, is_some, refl, subst, sym, ap, ◌∙◌}
use Rattle.std.specs.Ordering.{nat_cmp}
use Rattle.std.specs.FinMap.{get, len, get-empty}
use Rattle.maps.specs.Halves.{not_true}
use Rattle.maps.specs.Maps.{len-removed}
use Rattle.abi_base.specs.declared.limits.TheConstants.{MOST_DESCRIPTORS}
use Rattle.fd_table.specs.Marks.{IsKept}
use Rattle.fd_table.specs.Sizes.{below-remove, none_there}
use Rattle.fd_table.specs.Table.{Table}
use Rattle.fd_table.proofs.Marked.{empty_unless_marked, marked_remove}
use Rattle.fd_table.proofs.table.FdTable.pop_first.Goals as goal

pub returns-in_default-clause-none : goal.returns-in_default-clause-none
returns-in_default-clause-none c = (
  λ _. sym c.self.view_is ∙ empty_unless_marked c.self.inside.taken c.self.inside.slots c.self.invariant.marked c.self.invariant.table
      c.in_default.ensures.none,
  λ _. refl,
)

pub invariant_of-self : goal.invariant_of-self
invariant_of-self c =
    let m : Table = c.self.inside.slots in
    let number = c.in-Some.number in
    subst (λ (x : Table). IsKept x c.unmark.new.words) (sym c.remove.ensures.new) (record {
      table = below-remove MOST_DESCRIPTORS m number c.self.invariant.table;
      marked = marked_remove c.self.inside.taken c.unmark.new.words m number c.self.invariant.marked c.unmark.ensures.others c.unmark.ensures.same;
    })

pub returns-clause-none : goal.returns-clause-none
returns-clause-none c = (
  λ none. absurd (not_true (sym none)),
  λ e.
      let there = sym c.remove.ensures.value ∙ c.unwrap-descriptor.ensures in
      let gone = ap (λ (m : Table). get m c.in-Some.number) (c.self.view_is ∙ e) ∙ get-empty nat_cmp c.in-Some.number in
      absurd (none_there (get c.self.inside.slots c.in-Some.number) gone (ap is_some there)),
)

pub returns-clause-len : goal.returns-clause-len
returns-clause-len c =
    let m : Table = c.self.inside.slots in
    let there = sym c.remove.ensures.value ∙ c.unwrap-descriptor.ensures in
    ap (λ (x : Table). len x + 1) c.remove.ensures.new ∙ len-removed m c.in-Some.number _ there ∙ ap (λ (x : Table). len x) c.self.view_is
