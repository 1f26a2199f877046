use Rattle.std.proofs.Common.{◌≡◌, ◌&&◌, Some, ap, ◌∙◌, arith}
use Rattle.std.specs.Prelude.{nat_eq, option_copied}
use Rattle.std.specs.FinMap.{get}
use Rattle.maps.specs.Maps.{least_key}
use Rattle.tree_model.specs.Changes.{is_above}
use Rattle.kernel_model.specs.State.{ProcessState}
use Rattle.kernel_parts.specs.Keys.{is_own, key}
use Rattle.kernel_parts.specs.Touching.{spread_if, waits_on}
use Rattle.kernel_parts.proofs.Walks.{next_above}
use Rattle.kernel_parts.proofs.Concerned.{spread_all, spread_none, spread_on}
use Rattle.kernel_parts.proofs.touching.touch_number.Goals as goal

pub loop-number-init : goal.loop-number-init
loop-number-init c = spread_none c.args.pid c.args.fd c.args.own.now.threads c.args.waits.now

pub loop-number-smaller : goal.loop-number-smaller
loop-number-smaller c =
    let from = next_above c.own.inside.threads c.loop-number.last c.in-Some.number c.in-Some.ensures in
    omega (arith, from)

pub loop-number-preserved : goal.loop-number-preserved
loop-number-preserved c =
    let threads = c.args.own.now.threads in
    let next : Some c.in-Some.number ≡ least_key (λ n _. is_above c.loop-number.last n) threads =
    c.in-Some.ensures ∙ ap (λ (own : ProcessState). least_key (λ n _. is_above c.loop-number.last n) own.threads) c.own.view_is in
    let found : option_copied c.get.result ≡ get threads c.in-Some.number =
    c.get.ensures.value ∙ ap (λ (own : ProcessState). get own.threads c.in-Some.number) c.own.view_is in
    spread_on c.args.pid c.args.fd threads c.loop-number.last c.in-Some.number next c.args.waits.now c.loop-number.waits c.touch_if_named.new.waits c.loop-number.invariant
    (λ k. c.touch_if_named.ensures k
    ∙ ap (λ o. spread_if (nat_eq k (key c.args.pid c.in-Some.number) && (is_own c.args.pid k && waits_on c.args.fd o)) (get c.loop-number.waits k)) found)

pub returns : goal.returns
returns c =
    spread_all c.args.pid c.args.fd c.args.own.now.threads c.loop-number.last c.args.waits.now c.loop-number.waits
    (c.in_default.ensures ∙ ap (λ (own : ProcessState). least_key (λ n _. is_above c.loop-number.last n) own.threads) c.own.view_is) c.loop-number.invariant
