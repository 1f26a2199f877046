use Rattle.std.proofs.Common.{not, ap, ◌∙◌, map}
use Rattle.std.specs.List.{list_any}
use Rattle.launch_values.specs.Keys.{same_key}
use Rattle.launch_values.specs.KeyViews.{content_of_key}
use Rattle.launch_values.proofs.KeyOrder.{found, inserted}
use Rattle.launch_values.proofs.keys.KeySet.insert.Goals as goal
use Rattle.launch_values.proofs.keys.KeySet.insert.Goals.{in-Ok, in-Err}

pub returns-clause-added : goal.returns-clause-added
returns-clause-added c =
    elim c.match-insert.branch [
      | in-Ok w ↦
          rw (w.result-is, ← c.self.view_is)
          (w.in-Ok.ensures.added ∙ ap not (found c.in_ok-of.field-0 _ ∙ ap (λ x. list_any (same_key x) (map content_of_key c.self.inside.keys.keys)) c.in_ok-of.ensures))
      | in-Err w ↦ rw w.result-is _
    ]

pub returns-clause-keys : goal.returns-clause-keys
returns-clause-keys c =
    elim c.match-insert.branch [
      | in-Ok w ↦
          rw (w.result-is, w.in-Ok.ensures.keys, ← c.self.view_is, ← c.in_ok-of.ensures) (λ k. inserted k c.in_ok-of.field-0 _)
      | in-Err w ↦ rw w.result-is _
    ]
