-- What the seats of the table of passes know, the rule that every state of the table keeps, and what each step tells.
use Rattle.std.specs.Prelude.{◌≡◌, ℕ, true, false, List, [], ◌∷◌, ◌++◌, length, Contains}
use mathlib.Core.List.{IsPrefix}
use mathlib.Core.Option.{some}
use lib.ListN.{get_elem?}
use Rattle.atomic_table.specs.Table.{State as TableState, Me}
use Rattle.run_types.specs.declared.history.Entry.{Entry}
use Rattle.run_types.specs.declared.launch.Launch.{Launch}
use Rattle.tree_model.specs.Grants.{MayBegin}
use Rattle.run_model.specs.Legal.{Legal}
use Rattle.run_model.specs.Own.{is_idle, own, born, Made}
use Rattle.run_model.specs.World.{world}
use Rattle.shared_history.specs.declared.rule.View.{View}

-- ---- views

-- the keeper's: the whole history, the processes that it holds, and what was seen for them
abbrev pub keeper_view : List Entry → List ℕ → List Entry → View
keeper_view log held seen = record { keeps = true; log = log; held = held; seen = seen }

-- a pass's: its process, and what was seen for it
abbrev pub pass_view : ℕ → List Entry → View
pass_view p seen = record { keeps = false; log = []; held = p ∷ []; seen = seen }

-- that of a seat which was taken in, and stands for nobody
abbrev pub spent_view : View
spent_view = record { keeps = false; log = []; held = []; seen = [] }

-- the keeper's at the start: no entry, and it holds process 0
abbrev pub first_view : View
first_view = keeper_view [] (0 ∷ []) []

-- ---- the rule

-- the seat stands for process p, no other seat does, and what was seen for p has all of p's entries
pub record Holds (launch : Launch) (log : List Entry) (owner : ℕ → ℕ) (seat : ℕ) (seen : List Entry) (p : ℕ) : Type 0 where
  pub owned : owner p ≡ seat
  pub same : own p seen ≡ own p log
  pub made : Made (world launch log) p

-- what the rule says of one seat's view, where log is the history and keeper the keeper's seat
pub record Fit (launch : Launch) (log : List Entry) (owner : ℕ → ℕ) (keeper seat : ℕ) (v : View) : Type 0 where
  pub keeper_knows : v.keeps ≡ true → (seat ≡ keeper) × (v.log ≡ log)
  pub beginning : IsPrefix v.seen log
  pub holds : (p : ℕ) → Contains v.held p → Holds launch log owner seat v.seen p

-- The launch may begin with its tree and its grants. The word is the number of entries of the history, which is legal; one seat at most
-- is the keeper's and knows the history; and owner says of each process that some seat stands for which seat that is.
pub record Stands (launch : Launch) (keeper : ℕ) (log : List Entry) (owner : ℕ → ℕ) (s : TableState Entry View) : Type 0 where
  pub proper : MayBegin launch.tree launch.grants
  pub words : s.words ≡ length log ∷ []
  pub legal : Legal launch log
  pub seats : (seat : ℕ) (v : View) → get_elem? s.views seat ≡ some v → Fit launch log owner keeper seat v

abbrev pub IsKept : Launch → TableState Entry View → Type 0
IsKept launch s = (keeper : ℕ) × (log : List Entry) × (owner : ℕ → ℕ) × Stands launch keeper log owner s

-- ---- steps

-- the keeper stands for the process of the entry, unless it is an idle jump
abbrev pub Covers : Entry → List ℕ → Type 0
Covers e held = is_idle e.act ≡ false → Contains held e.pid

-- the keeper added the entry, and holds the processes that it makes too
abbrev pub IsAppended : Entry → Me Entry View → Me Entry View → Type 0
IsAppended e v w = w ≡ (keeper_view (v.0.log ++ e ∷ []) (born e.act ++ v.0.held) (v.0.log ++ e ∷ []), v.1)

-- The keeper looked at the word, and has seen the whole history. What it had seen is a beginning of it that has all entries of
-- the processes that it holds.
pub record IsCompared (v w : Me Entry View) : Type 0 where
  pub all : w ≡ (keeper_view v.0.log v.0.held v.0.log, v.1)
  pub beginning : IsPrefix v.0.seen v.0.log
  pub same : (p : ℕ) → Contains v.0.held p → own p v.0.seen ≡ own p v.0.log

-- a seat that takes another in stands for the other's processes alone, and has seen what the other saw
abbrev pub joined : View → View → View
joined v w = record { keeps = v.keeps; log = v.log; held = w.held; seen = w.seen }

-- the processes behind the first
abbrev pub tail_of : List ℕ → List ℕ
tail_of [] = []
tail_of (p ∷ ps) = ps

-- the first process
abbrev pub head_of : List ℕ → ℕ
head_of [] = 0
head_of (p ∷ ps) = p

-- what is left of the keeper's view where a pass for its first process is handed out
abbrev pub without_first : View → View
without_first v = record { keeps = v.keeps; log = v.log; held = tail_of v.held; seen = v.seen }

-- that pass, which has seen the whole history
abbrev pub first_pass : View → View
first_pass v = pass_view (head_of v.held) v.log
