use Rattle.std.proofs.Common.{◌+◌, sym, subst, ◌∙◌, arith}
use Rattle.fd_table.proofs.Picks.{PicksBelow, wanted_at, picks_none, picks_one, picks_no_one, picks_all}
use Rattle.fd_table.proofs.table.FdTable.picked.Goals as goal
use Rattle.fd_table.proofs.table.FdTable.picked.Goals.{in-Some+in_ok-insert_at, in_default}

pub loop-place-init : goal.loop-place-init
loop-place-init c = subst (PicksBelow 0 c.args.self.now c.args.list.now) (sym c.new-made.ensures) (picks_none _ _)

pub loop-place-preserved : goal.loop-place-preserved
loop-place-preserved c =
    let m = c.args.self.now in
    let fds = c.args.list.now in
    let place = c.loop-place.place in
    let within = c.loop-place-test.true in
    elim c.match-get.branch [
      | in-Some+in_ok-insert_at w ↦
          subst (PicksBelow (place + 1) m fds) (sym (w.made-is ∙ w.in_ok-insert_at.ensures.ok))
          (picks_one place m fds c.loop-place.made w.in-Some.descriptor.now c.loop-place.invariant (wanted_at place m fds _ within w.in-Some.ensures))
      | in_default w ↦
          subst (PicksBelow (place + 1) m fds) (sym w.made-is)
          (picks_no_one place m fds c.loop-place.made c.loop-place.invariant (wanted_at place m fds _ within w.in_default.ensures))
    ]

pub returns : goal.returns
returns c =
    picks_all c.loop-place.place c.args.self.now c.args.list.now c.loop-place.made c.loop-place.invariant
    (omega (arith, c.loop-place-test.false, c.loop-place.auto.place-end))
