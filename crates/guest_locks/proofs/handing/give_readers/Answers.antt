use Rattle.std.proofs.Common.{None, refl, sym, ap, ◌∙◌, arith, rules}
use Rattle.std.specs.Prelude.{if◌then◌else◌}
use Rattle.maps.specs.Maps.{least_key-entry, total}
use Rattle.kernel_model.specs.Families.Locks.{given}
use Rattle.guest_locks.specs.Handing.{given_before, reads_before}
use Rattle.guest_locks.proofs.Changing.{counts_at_most, none_counted, none_left, one_less, one_more}
use Rattle.guest_locks.proofs.Firsts.{key_there}
use Rattle.guest_locks.proofs.Handed.{given_off}
use Rattle.guest_locks.proofs.Telling.{tells_both, tells_none}
use Rattle.guest_locks.proofs.handing.give_readers.Goals as goal

pub loop-tid-init : goal.loop-tid-init
loop-tid-init c = (refl, omega arith, tells_none c.args.threads.now c.args.told.now)

pub give_to-requires : goal.give_to-requires
give_to-requires c =
    let reads = reads_before c.args.lock c.earliest_in-limit.result in
    let least = c.in-Some.ensures reads (λ v b h. search rules) in
    record { there = key_there (λ thread. None) c.loop-tid.threads (λ _ thread. reads thread) c.in-Some.tid (sym least) }

pub overflow_add-count : goal.overflow_add-count
overflow_add-count c =
    let most = counts_at_most (reads_before c.args.lock c.earliest_in-limit.result) c.args.threads.now in
    let few = c.requires.few.few in
    let sum = c.loop-tid.invariant.1 in
    omega (arith, most, few, sum)

pub loop-tid-smaller : goal.loop-tid-smaller
loop-tid-smaller c =
    let reads = reads_before c.args.lock c.earliest_in-limit.result in
    let least = c.in-Some.ensures reads (λ v b h. search rules) in
    let entry = least_key-entry (λ _ thread. reads thread) c.loop-tid.threads c.in-Some.tid (sym least) in
    let less = one_less reads given (given_off c.args.lock c.earliest_in-limit.result) c.loop-tid.threads c.in-Some.tid entry.0 entry.1 entry.2 in
    let same = ap (total (λ thread. if reads thread then 1 else 0)) c.give_to.ensures.threads in
    omega (arith, less, same)

pub loop-tid-preserved : goal.loop-tid-preserved
loop-tid-preserved c =
    let limit = c.earliest_in-limit.result in
    let reads = reads_before c.args.lock limit in
    let least = c.in-Some.ensures reads (λ v b h. search rules) in
    let entry = least_key-entry (λ _ thread. reads thread) c.loop-tid.threads c.in-Some.tid (sym least) in
    let less = one_less reads given (given_off c.args.lock limit) c.loop-tid.threads c.in-Some.tid entry.0 entry.1 entry.2 in
    let same = ap (total (λ thread. if reads thread then 1 else 0)) c.give_to.ensures.threads in
    let sum = c.loop-tid.invariant.1 in (
      ap (given_before c.args.lock limit) c.give_to.ensures.threads
          ∙ one_more reads given (given_off c.args.lock limit) c.loop-tid.threads c.in-Some.tid entry.0 entry.1 entry.2 ∙ c.loop-tid.invariant.0,
      omega (arith, less, same, sum),
      tells_both c.loop-tid.invariant.2 c.give_to.ensures.told,
    )

pub returns-clause-threads : goal.returns-clause-threads
returns-clause-threads c =
    let limit = c.earliest_in-limit.result in
    let reads = reads_before c.args.lock limit in
    let least = c.in_default.ensures reads (λ v b h. search rules) in
    sym (none_left reads given (given_off c.args.lock limit) c.loop-tid.threads (sym least))
    ∙ c.loop-tid.invariant.0 ∙ ap (λ until. given_before c.args.lock until c.args.threads.now) c.earliest_in-limit.ensures

pub returns-clause-count : goal.returns-clause-count
returns-clause-count c =
    let limit = c.earliest_in-limit.result in
    let reads = reads_before c.args.lock limit in
    let least = c.in_default.ensures reads (λ v b h. search rules) in
    let none = none_counted reads given (given_off c.args.lock limit) c.loop-tid.threads (sym least) in
    let sum = c.loop-tid.invariant.1 in
    let all = ap (λ until. total (λ thread. if reads_before c.args.lock until thread then 1 else 0) c.args.threads.now) c.earliest_in-limit.ensures in
    omega (arith, none, sum) ∙ all

pub returns-clause-few : goal.returns-clause-few
returns-clause-few c =
    let most = counts_at_most (reads_before c.args.lock c.earliest_in-limit.result) c.args.threads.now in
    let few = c.requires.few.few in
    let sum = c.loop-tid.invariant.1 in
    omega (arith, most, few, sum)

pub returns-clause-told : goal.returns-clause-told
returns-clause-told c = c.loop-tid.invariant.2
