-- What the keeper of the history knows.
use Rattle.std.specs.Prelude.{◌≡◌, ℕ, List, []}
use Rattle.atomic_table.specs.Seated.{TableId}
use Rattle.atomic_table.specs.Table.{Me}
use Rattle.run_types.specs.declared.history.Entry.{Entry}
use Rattle.shared_history.specs.declared.rule.View.{View}
use Rattle.shared_history.specs.Rule.{keeper_view}

-- the history, and the processes whose passes the keeper holds
pub record Keeping : Type 0 where
  pub log : List Entry
  pub held : List ℕ

-- between two steps the keeper has seen the whole history
abbrev pub IsAtRest : Me Entry View → Type 0
IsAtRest me = me ≡ (keeper_view me.0.log me.0.held me.0.log, [])

-- a seat at this table that knows this is the keeper's
pub record IsKeeperOf (table at : TableId) (me : Me Entry View) : Type 0 where
  pub table_is : at ≡ table
  pub rest : IsAtRest me
