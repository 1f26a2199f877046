use Rattle.std.proofs.Common.{refl, sym, ap, ◌∙◌}
use Rattle.kernel_core.specs.Kernel.{any_live}
use Rattle.kernel_core.specs.contracts.kernel.Kernel.{the_view}
use Rattle.kernel_core.proofs.Lives.{live_some, owns_as_lives, some_live}
use Rattle.kernel_core.proofs.kernel.Kernel.any_live.Goals as goal

pub returns-clause-value : goal.returns-clause-value
returns-clause-value c =
    owns_as_lives (the_view c.self.inside) c.self.invariant.kept.valid.nearly.owns c.is_empty.result c.is_empty.ensures.empty
    ∙ ap any_live c.self.view_is

pub returns-clause-live : goal.returns-clause-live
returns-clause-live c =
    let value =
    owns_as_lives (the_view c.self.inside) c.self.invariant.kept.valid.nearly.owns c.is_empty.result c.is_empty.ensures.empty
    ∙ ap any_live c.self.view_is in
    (λ h. some_live _ _ refl (sym value ∙ h), λ live. value ∙ live_some _ _ refl live.0 live.1)
