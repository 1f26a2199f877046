use Rattle.std.proofs.Common.{◌≡◌, ◌+◌, ◌-◌, length, Some, subst, sym, ap, ◌∙◌, arith}
use Rattle.std.specs.Option.{option_map}
use Rattle.std.specs.List.{slice_get}
use Rattle.maps.specs.declared.name_tree.NameNode.{NameNode}
use Rattle.maps.specs.NameTrees.{row, IsCounted, entry_in, entries_in}
use Rattle.maps.specs.Placed.{revalued}
use Rattle.maps.proofs.Places.{slice_get-before, slice_get-between, slice_get-behind}
use Rattle.maps.proofs.Revalued.{revalued_before, revalued_here, revalued_after}
use Rattle.maps.proofs.name_tree.NameTree.+replace.Goals as goal
use Rattle.maps.proofs.name_tree.NameTree.+replace.Goals.{then-place-before, else-place-before+then-place-before-2, else-place-before+else-place-before-2}

pub invariant_of-self : goal.invariant_of-self
invariant_of-self g t c =
    let node = c.in-Full.node.value in
    let good = subst IsCounted c.in-Full.is c.self.invariant in
    let before : c.len-before.result ≡ length node.before = c.len-before.ensures ∙ ap (λ (n : NameNode g.row.V.Denot). length n.before) c.deref.ensures in
    elim c.if-place-before.branch [
      | then-place-before w ↦
          let low = w.if-place-before.true in
          rw w.self-inside-is (revalued_before node c.args.place c.args.value good _ _ w.deref_mut.ensures.value (omega (arith, before, low)) w.replace.ensures.new).0
      | else-place-before+then-place-before-2 w ↦
          let here = w.if-place-before-2.true in
          rw w.self-inside-is (revalued_here node c.args.place c.args.value good _ _ w.deref_mut-then-place-before-2.ensures.value (omega (arith, before, here)) w.replace-then-place-before-2.ensures.after).0
      | else-place-before+else-place-before-2 w ↦
          let high = w.if-place-before.false in
          let other = w.if-place-before-2.false in
          let at : c.args.place ≡ length node.before + 1 + (c.args.place - c.len-before.result - 1) = omega (arith, before, high, other) in
          rw w.self-inside-is (revalued_after node c.args.place c.args.value good _ _ _ w.deref_mut-else-place-before-2.ensures.value at w.replace-else-place-before-2.ensures.new).0
    ]

pub returns-clause-new : goal.returns-clause-new
returns-clause-new g t c =
    let node = c.in-Full.node.value in
    let good = subst IsCounted c.in-Full.is c.self.invariant in
    let is : entries_in node ≡ c.args.self.now = ap row (sym c.in-Full.is) ∙ c.self.view_is in
    let before : c.len-before.result ≡ length node.before = c.len-before.ensures ∙ ap (λ (n : NameNode g.row.V.Denot). length n.before) c.deref.ensures in
    elim c.if-place-before.branch [
      | then-place-before w ↦
          let low = w.if-place-before.true in
          rw w.self-inside-is ((revalued_before node c.args.place c.args.value good _ _ w.deref_mut.ensures.value (omega (arith, before, low)) w.replace.ensures.new).1 ∙ ap (revalued c.args.place c.args.value) is)
      | else-place-before+then-place-before-2 w ↦
          let here = w.if-place-before-2.true in
          rw w.self-inside-is ((revalued_here node c.args.place c.args.value good _ _ w.deref_mut-then-place-before-2.ensures.value (omega (arith, before, here)) w.replace-then-place-before-2.ensures.after).1 ∙ ap (revalued c.args.place c.args.value) is)
      | else-place-before+else-place-before-2 w ↦
          let high = w.if-place-before.false in
          let other = w.if-place-before-2.false in
          let at : c.args.place ≡ length node.before + 1 + (c.args.place - c.len-before.result - 1) = omega (arith, before, high, other) in
          rw w.self-inside-is ((revalued_after node c.args.place c.args.value good _ _ _ w.deref_mut-else-place-before-2.ensures.value at w.replace-else-place-before-2.ensures.new).1 ∙ ap (revalued c.args.place c.args.value) is)
    ]

pub returns-clause-old : goal.returns-clause-old
returns-clause-old g t c =
    let node = c.in-Full.node.value in
    let is : entries_in node ≡ c.args.self.now = ap row (sym c.in-Full.is) ∙ c.self.view_is in
    let whole = ap (λ es. option_map (λ e. e.1) (slice_get es c.args.place)) is in
    let before : c.len-before.result ≡ length node.before = c.len-before.ensures ∙ ap (λ (n : NameNode g.row.V.Denot). length n.before) c.deref.ensures in
    elim c.if-place-before.branch [
      | then-place-before w ↦
          let low = w.if-place-before.true in
          let part = slice_get-before c.args.place node.before (entry_in node) node.after (omega (arith, before, low)) in
          rw w.result-is (w.replace.ensures.old
          ∙ ap (λ (n : NameNode g.row.V.Denot). option_map (λ e. e.1) (slice_get n.before c.args.place)) w.deref_mut.ensures.value
          ∙ ap (option_map (λ e. e.1)) (sym part) ∙ whole)
      | else-place-before+then-place-before-2 w ↦
          let here = w.if-place-before-2.true in
          let part = slice_get-between c.args.place node.before (entry_in node) node.after (omega (arith, before, here)) in
          rw w.result-is (ap Some (w.replace-then-place-before-2.ensures.value ∙ ap (λ (n : NameNode g.row.V.Denot). n.value) w.deref_mut-then-place-before-2.ensures.value)
          ∙ ap (option_map (λ e. e.1)) (sym part) ∙ whole)
      | else-place-before+else-place-before-2 w ↦
          let high = w.if-place-before.false in
          let other = w.if-place-before-2.false in
          let at : c.args.place ≡ length node.before + 1 + (c.args.place - c.len-before.result - 1) = omega (arith, before, high, other) in
          let part = slice_get-behind c.args.place (c.args.place - c.len-before.result - 1) node.before (entry_in node) node.after at in
          rw w.result-is (w.replace-else-place-before-2.ensures.old
          ∙ ap (λ (n : NameNode g.row.V.Denot). option_map (λ e. e.1) (slice_get n.after (c.args.place - c.len-before.result - 1))) w.deref_mut-else-place-before-2.ensures.value
          ∙ ap (option_map (λ e. e.1)) (sym part) ∙ whole)
    ]
