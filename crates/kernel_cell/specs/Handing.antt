-- The processes whose passes the keeper holds after a proc_fork, and the child's pass, which it hands out.
use Rattle.std.specs.Prelude.{◌≡◌, ℕ, List, ◌∷◌, Contains, Option, None, Some}
use Rattle.run_types.specs.declared.history.Entry.{Entry}
use Rattle.run_types.specs.declared.launch.Launch.{Launch}
use Rattle.run_model.specs.World.{Guest}
use Rattle.shared_history.specs.Keeper.{Keeping}
use Rattle.shared_history.specs.Passes.{Passing, IsSeen}
use Rattle.shared_history.specs.Rule.{tail_of}
use Rattle.kernel_cell.specs.declared.results.Came.{Came}
use Rattle.kernel_cell.specs.declared.results.Came.TheVariants as came

-- the processes that it holds then: the child too, where one was made
abbrev pub held_after : Came (Option (ℕ × Guest)) → List ℕ → List ℕ
held_after (came.Done (Some child)) held = child.0 ∷ held
held_after other held = held

-- the child's pass and guest, where the keeper, which has seen this history, hands out the pass
abbrev pub with_pass : List Entry → Came (Option (ℕ × Guest)) → Came (Option (Passing × Guest))
with_pass log (came.Done (Some child)) = came.Done (Some (record { pid = child.0; seen = log }, child.1))
with_pass log (came.Done None) = came.Done None
with_pass log came.NotReady = came.NotReady
with_pass log came.Gone = came.Gone
with_pass log came.NoMemory = came.NoMemory

-- The keeper may do that: it holds the child first, and no more behind, and the child was made.
abbrev pub MayHandOut : Launch → Keeping → Came (Option (ℕ × Guest)) → Type 0
MayHandOut launch keeper (came.Done (Some child)) =
    (keeper.held ≡ child.0 ∷ tail_of keeper.held) × ¬ Contains (tail_of keeper.held) child.0 × IsSeen launch child.0 keeper.log
MayHandOut launch keeper other = Unit {0}

-- the processes that it holds once it has
abbrev pub held_without : Came (Option (ℕ × Guest)) → List ℕ → List ℕ
held_without (came.Done (Some child)) held = tail_of held
held_without other held = held
