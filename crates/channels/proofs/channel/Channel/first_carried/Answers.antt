use Rattle.std.proofs.Common.{length, sym, ap, ◌∙◌, arith}
use Rattle.abi_types.specs.declared.descriptor.Descriptor.{Descriptor}
use Rattle.channels.proofs.Kept.{IsChannel-old, carried_read, copied_fds, few_first}
use Rattle.channels.proofs.Afters.{first_of_all}
use Rattle.channels.proofs.channel.Channel.first_carried.Goals as goal

pub copy_first-requires-clause-fits : goal.copy_first-requires-clause-fits
copy_first-requires-clause-fits c = omega (arith, c.carried_with-count.ensures, first_of_all c.args.asked c.args.self.now.waiting, c.requires)

pub copy_first-requires-clause-there : goal.copy_first-requires-clause-there
copy_first-requires-clause-there c = few_first c.self.inside.kind _ _ _ _ _ _ c.self.inside.writer _ _ c.self.invariant _ c.self.view_is c.args.asked c.carried_with-count.result c.carried_with-count.ensures

pub returns-clause-count : goal.returns-clause-count
returns-clause-count c = c.carried_with-count.ensures ∙ ap (length {A = Descriptor}) (sym (carried_read c.self.inside.kind _ _ _ _ _ _ c.self.inside.writer _ _ c.self.invariant _ c.self.view_is c.args.asked))

pub returns-clause-carried : goal.returns-clause-carried
returns-clause-carried c =
    copied_fds c.self.inside.kind _ _ _ _ _ _ c.self.inside.writer _ _ c.self.invariant _ c.self.view_is c.args.asked c.carried_with-count.result c.args.fds.now c.copy_first.new.out c.carried_with-count.ensures c.copy_first.ensures

pub returns-clause-may_be : goal.returns-clause-may_be
returns-clause-may_be c = IsChannel-old c.self.inside.kind _ _ _ _ _ _ c.self.inside.writer _ _ c.self.invariant _ c.self.view_is
