-- What a pass tells: its process, and a history that was seen.
use Rattle.std.specs.Prelude.{◌≡◌, ℕ, List, [], ◌∷◌}
use mathlib.Core.List.{IsPrefix}
use Rattle.atomic_table.specs.Seated.{TableId}
use Rattle.run_types.specs.declared.history.Entry.{Entry}
use Rattle.run_types.specs.declared.launch.Launch.{Launch}
use Rattle.run_model.specs.Legal.{Legal}
use Rattle.run_model.specs.Own.{own, Made}
use Rattle.run_model.specs.World.{world}
use Rattle.shared_history.specs.declared.rule.View.{View}
use Rattle.shared_history.specs.Rule.{pass_view}

pub record Passing : Type 0 where
  pub pid : ℕ
  pub seen : List Entry

-- the history is a legal one of the launch, and in its world process p was made
pub record IsSeen (launch : Launch) (p : ℕ) (seen : List Entry) : Type 0 where
  pub legal : Legal launch seen
  pub made : Made (world launch seen) p

-- the history came to be log, and what was added to it is of other processes than p
pub record Later (p : ℕ) (seen log : List Entry) : Type 0 where
  pub beginning : IsPrefix seen log
  pub same : own p seen ≡ own p log

-- what the view of a seat, if there is one, has seen
abbrev pub seen_of : List View → List Entry
seen_of [] = []
seen_of (v ∷ vs) = v.seen

-- a seat at this table with these views is the pass of process p
pub record IsPassOf (table : TableId) (launch : Launch) (p : ℕ) (at : TableId) (views : List View) : Type 0 where
  pub table_is : at ≡ table
  pub view : views ≡ pass_view p (seen_of views) ∷ []
  pub seen : IsSeen launch p (seen_of views)
