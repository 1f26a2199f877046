use Rattle.std.proofs.Common.{ℕ, sym, ap, ◌∙◌}
use Rattle.std.specs.FinMap as map
use Rattle.slab.specs.Slab.{get}
use Rattle.maps.specs.Closure.{len-changed}
use Rattle.file_tree.specs.Slots.{slot_or}
use Rattle.file_tree.proofs.slots.Slots.len.Goals as goal

pub returns-clause-len : goal.returns-clause-len
returns-clause-len c =
    c.len.ensures.len ∙ sym (len-changed (λ (_ : ℕ) (key : ℕ). slot_or (get c.self.inside.slab key)) c.self.inside.keys) ∙ ap map.len c.self.view_is
