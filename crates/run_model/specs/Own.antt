-- Whose an entry is, which processes it makes, and what it leaves of the others.
use Rattle.std.specs.Prelude.{◌≡◌, ℕ, ◌==◌, ◌&&◌, Bool, true, false, not, List, [], ◌∷◌, filter, Contains, Option, None, Some, IsSome}
use Rattle.std.specs.FinMap.{get}
use Rattle.abi_types.specs.declared.status.Status.TheVariants.{Live}
use Rattle.run_types.specs.declared.history.Act.{Act}
use Rattle.run_types.specs.declared.history.Act.TheVariants as act
use Rattle.run_types.specs.declared.history.Entry.{Entry}
use Rattle.kernel_model.specs.Threads.{child_told}
use Rattle.run_model.specs.World.{World, guest_of}

-- whether the act is an idle jump, which no process does
abbrev pub is_idle : Act → Bool
is_idle act.Idle = true
is_idle _ = false

-- whether process p did the entry
abbrev pub is_own : ℕ → Entry → Bool
is_own p e = not (is_idle e.act) && (e.pid == p)

-- the entries that process p did, in their order
abbrev pub own : ℕ → List Entry → List Entry
own p history = filter (is_own p) history

-- the number, if there is one
abbrev pub one_of : Option ℕ → List ℕ
one_of None = []
one_of (Some p) = p ∷ []

-- the processes that an act makes: a call makes the child that its answer tells, and no wake makes one
abbrev pub born : Act → List ℕ
born (act.Call call given) = one_of (child_told call given)
born a = []

-- the process was made: it lives, or it has ended
abbrev pub Made : World → ℕ → Type 0
Made w p = IsSome (get w.state.statuses p)

-- the process is live
abbrev pub IsLiveIn : World → ℕ → Type 0
IsLiveIn w p = get w.state.statuses p ≡ Some Live

-- both worlds have the same of a process: its memory, registers and turns, its descriptors, what else is its own (its threads, what it has
-- made, and its depth), and its status
pub record Same (w v : World) (p : ℕ) : Type 0 where
  pub guest : guest_of w p ≡ guest_of v p
  pub table : get w.state.tables p ≡ get v.state.tables p
  pub rest : get w.state.processes p ≡ get v.state.processes p
  pub status : get w.state.statuses p ≡ get v.state.statuses p

-- What an act leaves of a process that did not do it, w being the world before its entry and v the world after it: the act makes
-- the process, or ends it, or leaves it as it was.
pub data IsLeft (w v : World) (a : Act) (p : ℕ) : Type 0 where
  is_born : Contains (born a) p → IsLeft w v a p
  is_ended : IsLiveIn w p → ¬ IsLiveIn v p → IsLeft w v a p
  stays : Same v w p → IsLeft w v a p
