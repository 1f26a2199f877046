use Rattle.std.proofs.Common.{◌<◌, ◌^◌, ◌∙◌, None, Some, sym, ap, subst, arith}
use Rattle.file_tree.proofs.Copies.{CopiesUpTo, copies_none, copies_one, copies_all, no_gap, next_from, next_new}
use Rattle.file_tree.proofs.copying.copy_slots.Goals as goal
use Rattle.file_tree.proofs.copying.copy_slots.Goals.{in-Some-get+in_ok-copy_slot+in_ok-insert, in_default-get}

pub loop-id-init : goal.loop-id-init
loop-id-init c = subst (CopiesUpTo None c.args.slots.now) (sym c.new-made.ensures) (copies_none c.args.slots.now)

pub insert-requires : goal.insert-requires
insert-requires c = next_new c.loop-id.last c.args.slots.now c.loop-id.made c.loop-id.invariant c.in-Some.id (sym c.in-Some.ensures.least)

pub loop-id-smaller : goal.loop-id-smaller
loop-id-smaller c =
    let from = next_from c.loop-id.last c.args.slots.now c.loop-id.made c.loop-id.invariant c.in-Some.id (sym c.in-Some.ensures.least) in
    let small : c.in-Some.id < 2 ^ 64 = c.in-Some.ensures.small in
    omega (arith, from, small)

pub loop-id-preserved : goal.loop-id-preserved
loop-id-preserved c =
    let m = c.args.slots.now in
    let id = c.in-Some.id in
    let next = sym c.in-Some.ensures.least in
    elim c.match-get.branch [
      | in-Some-get+in_ok-copy_slot+in_ok-insert w ↦
          subst (CopiesUpTo (Some id) m) (sym (w.made-is ∙ w.in_ok-insert.ensures.ok))
          (copies_one c.loop-id.last m c.loop-id.made c.loop-id.invariant id next _ (sym w.in-Some-get.ensures ∙ ap Some (sym w.in_ok-copy_slot.ensures)))
      | in_default-get w ↦ absurd (no_gap c.loop-id.last m c.loop-id.made c.loop-id.invariant id next w.in_default-get.ensures)
    ]

pub returns : goal.returns
returns c = copies_all c.loop-id.last c.args.slots.now c.loop-id.made c.loop-id.invariant (sym c.in_default.ensures.least)
