use Rattle.std.proofs.Common.{◌≡◌, arith}
use Rattle.run_report.proofs.NumberLines.{all_lines, lines_more}
use Rattle.run_report.proofs.counts.append_numbers.Goals as goal

pub loop-place-preserved : goal.loop-place-preserved
loop-place-preserved c = lines_more c.args.entries.now.items _ _ _ c.loop-place.place c.loop-place.invariant c.in_ok-append_number.ensures

pub returns : goal.returns
returns c =
    let last : c.loop-place.place ≡ 49 = omega arith in
    all_lines c.args.entries.now.items c.args.text.now c.loop-place.text c.loop-place.place last c.loop-place.invariant
