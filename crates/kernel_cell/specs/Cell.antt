-- A run that has begun and has no name yet, and the book of a run that is over.
use Rattle.std.specs.Prelude.{◌≡◌, Bool, []}
use Rattle.atomic_table.specs.Seated.{TableId}
use Rattle.atomic_table.specs.Table.{Me}
use Rattle.run_types.specs.declared.history.Entry.{Entry}
use Rattle.run_types.specs.declared.launch.Launch.{Launch}
use Rattle.kernel_model.specs.State.{State}
use Rattle.call_codec.specs.Bounded.{IsBounded}
use Rattle.run_model.specs.Legal.{Legal}
use Rattle.run_model.specs.World.{world}
use Rattle.shared_history.specs.Kept.{IsKeptOf}
use Rattle.shared_history.specs.Rule.{first_view}
use Rattle.kernel_cell.specs.declared.cell.Book.{Book}
use Rattle.shared_history.specs.declared.kept.Kept.{Kept}
use Rattle.shared_history.specs.declared.rule.View.{View}

-- A new table of passes with the launch as its key, and the seat of its keeper; a kernel at the launch's start; and nothing kept.
pub record HasBegun (launch : Launch) (table at : TableId) (key : Launch) (me : Me Entry View) (kernel : State) (kept : Kept) : Type 0 where
  pub bounded : IsBounded launch
  pub seat : at ≡ table
  pub word : table.words ≡ 1
  pub key_is : key ≡ launch
  pub first : me ≡ (first_view, [])
  pub state : kernel ≡ (world launch []).state
  pub none : IsKeptOf kept.all [] kept

-- The book is of a run of the launch: its history is legal, the kernel's state is its world's, and in memory are its denied calls, and
-- its entries or none of them.
pub record IsBookOf (launch : Launch) (all : Bool) (book : Book) : Type 0 where
  pub launch_is : book.launch ≡ launch
  pub legal : Legal launch book.history
  pub state : book.kernel ≡ (world launch book.history).state
  pub kept_is : IsKeptOf all book.history book.kept
