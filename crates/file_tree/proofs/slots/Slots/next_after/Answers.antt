use Rattle.std.proofs.Common.{◌∙◌}
use Rattle.tree_model.specs.Changes.{is_above}
use Rattle.file_tree.proofs.Keyed.{seen_least}
use Rattle.file_tree.proofs.slots.Slots.next_after.Goals as goal

pub returns-in_err-least-clause-least : goal.returns-in_err-least-clause-least
returns-in_err-least-clause-least c =
    c.from_residual.ensures ∙ c.in_err-least.ensures
    ∙ seen_least c.self.inside.slab c.self.inside.keys c.args.self.now c.self.view_is (λ n. is_above c.args.after n)

pub returns-clause-least : goal.returns-clause-least
returns-clause-least c = c.in_ok-least.ensures ∙ seen_least c.self.inside.slab c.self.inside.keys c.args.self.now c.self.view_is (λ n. is_above c.args.after n)
