use Rattle.std.proofs.Common.{refl, sym, ap, subst, ◌∙◌, arith}
use Rattle.abi_types.specs.declared.open_kind.OpenKind.{OpenKind}
use Rattle.channels.specs.declared.side.Side.TheVariants.{Reader, Writer}
use Rattle.channel_calls.specs.Calls.{AllGoOn, Channels, channels_left}
use Rattle.channel_calls.specs.Leaving.{end_at}
use Rattle.channel_calls.proofs.Lefts.{both_left, left_go_on, other_left}
use Rattle.channel_calls.proofs.leaving.leave.Goals as goal

pub returns-in_default : goal.returns-in_default
returns-in_default c = record {
  channels = other_left c.args.kind.now c.args.channels.now c.requires.going c.in_default.not-End;
  going = c.requires.going;
  kinds = refl;
  counts = λ o. refl;
  few = λ few. few;
}

pub leave_side-requires-2-clause-going : goal.leave_side-requires-2-clause-going
leave_side-requires-2-clause-going c = subst (λ (m : Channels). AllGoOn m) (sym c.leave_side.ensures.channels) (left_go_on (end_at Reader c.in-End.reads) c.args.channels.now)

pub returns-clause-channels : goal.returns-clause-channels
returns-clause-channels c =
    c.leave_side-2.ensures.channels ∙ ap (λ (m : Channels). channels_left (end_at Writer c.in-End.writes) m) c.leave_side.ensures.channels
    ∙ both_left c.in-End.reads c.in-End.writes c.in-End.flags c.in-End.kind c.args.channels.now
    ∙ ap (λ (k : OpenKind). channels_left k c.args.channels.now) (sym c.in-End.is)

pub returns-clause-going : goal.returns-clause-going
returns-clause-going c = subst (λ (m : Channels). AllGoOn m) (sym c.leave_side-2.ensures.channels) (left_go_on (end_at Writer c.in-End.writes) c.leave_side.new.channels)

pub returns-clause-few : goal.returns-clause-few
returns-clause-few c = λ few o. omega (arith, few o, c.leave_side.ensures.fewer o, c.leave_side-2.ensures.fewer o)
