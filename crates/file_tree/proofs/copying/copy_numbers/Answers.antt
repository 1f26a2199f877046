use Rattle.std.proofs.Common.{None, Some, sym, subst, arith}
use Rattle.file_tree.proofs.Copies.{CopiesUpTo, copies_none, copies_one, copies_all, next_there, next_from}
use Rattle.file_tree.proofs.copying.copy_numbers.Goals as goal

pub loop-number-init : goal.loop-number-init
loop-number-init c = subst (CopiesUpTo None c.args.numbers.now) (sym c.new-made.ensures) (copies_none c.args.numbers.now)

pub loop-number-smaller : goal.loop-number-smaller
loop-number-smaller c =
    let from = next_from c.loop-number.last c.args.numbers.now c.loop-number.made c.loop-number.invariant c.in-Some.number (sym c.in-Some.ensures) in
    omega (arith, from)

pub loop-number-preserved : goal.loop-number-preserved
loop-number-preserved c =
    let m = c.args.numbers.now in
    let next = sym c.in-Some.ensures in
    let there = next_there c.loop-number.last m c.loop-number.made c.loop-number.invariant c.in-Some.number next in
    subst (CopiesUpTo (Some c.in-Some.number) m) (sym c.in_ok-insert.ensures.ok)
    (copies_one c.loop-number.last m c.loop-number.made c.loop-number.invariant c.in-Some.number next tt there.1)

pub returns : goal.returns
returns c = copies_all c.loop-number.last c.args.numbers.now c.loop-number.made c.loop-number.invariant (sym c.in_default.ensures)
