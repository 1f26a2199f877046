use Rattle.std.proofs.Common.{◌≡◌, ◌+◌, ◌-◌, ◌≤◌, ◌++◌, length, take, Ok, arith, ap, sym, ◌∙◌}
use Rattle.std.proofs.lemmas.List.{length-take-le}
use Rattle.std.proofs.lemmas.Slice.{take-put_mid}
use Rattle.std.proofs.lemmas.Result.{MatchResult-at_ok}
use Rattle.guest_memory.proofs.Runs.{length-put_mid, none, had_ok, had_more, never_faults}
use Rattle.guest_memory.proofs.memory.GuestMemory.copy_out.Goals as goal

pub loop-done-init : goal.loop-done-init
loop-done-init c = record { within = omega arith; had = none c.args.access c.args.self.now c.args.at }

pub unwrap-run-requires : goal.unwrap-run-requires
unwrap-run-requires c =
    never_faults c.args.access c.args.self.now c.args.at c.loop-done.done (length c.args.out.now) (λ run. run.now) c.run.result c.ranges.at.fits
    (had_ok c.args.access c.args.self.now c.args.at c.loop-done.done _ c.loop-done.invariant.had) c.requires (omega arith) c.run.ensures.run

pub loop-done-preserved : goal.loop-done-preserved
loop-done-preserved c =
    let run = MatchResult-at_ok _ _ c.unwrap-run.result c.unwrap-run.ensures c.run.ensures.run in
    let len = MatchResult-at_ok _ _ c.unwrap-run.result c.unwrap-run.ensures c.run.ensures.len in
    let part : c.min-part.result ≤ length c.unwrap-run.result.now = omega (arith, c.min-part.ensures) in
    let fits : c.loop-done.done + c.min-part.result ≤ length c.loop-done.out = omega (arith, c.min-part.ensures) in
    let taken : length c.copy_from_slice.new.self ≡ c.min-part.result = ap length c.copy_from_slice.ensures.after ∙ length-take-le c.min-part.result c.unwrap-run.result.now part in
    record {
      within = omega (arith, taken, length-take-le c.loop-done.done c.loop-done.out (omega arith), length-put_mid c.loop-done.done (c.loop-done.done + c.min-part.result - c.loop-done.done) c.loop-done.out c.copy_from_slice.new.self);
      had =
          had_more c.args.access c.args.self.now c.args.at c.loop-done.done c.min-part.result _ c.unwrap-run.result.now c.ranges.at.fits c.loop-done.invariant.had run len part
          ∙ ap (λ ys. Ok (take c.loop-done.done c.loop-done.out ++ ys)) (sym c.copy_from_slice.ensures.after)
          ∙ ap Ok (sym (take-put_mid c.loop-done.done (c.loop-done.done + c.min-part.result - c.loop-done.done) c.loop-done.out c.copy_from_slice.new.self (c.loop-done.done + c.min-part.result) (omega arith) (omega arith)));
    }
