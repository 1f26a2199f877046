-- What a run keeps of its history in memory.
use Rattle.std.specs.Prelude.{◌≡◌, ◌<◌, ◌++◌, Bool, true, false, List, [], ◌∷◌, Option, None, Some}
use Rattle.denied_calls.specs.DeniedCalls.{denied_calls}
use Rattle.denied_calls.specs.declared.denied_call.DeniedCall.{DeniedCall}
use Rattle.run_types.specs.declared.history.Entry.{Entry}
use Rattle.shared_history.specs.declared.kept.Kept.{Kept}

-- the entries of a history, where they are kept, and else none
abbrev pub kept_of : Bool → List Entry → List Entry
kept_of true log = log
kept_of false log = []

-- the one denied call, or none
abbrev pub listed : Option DeniedCall → List DeniedCall
listed None = []
listed (Some call) = call ∷ []

-- there is room for one more
pub record HasRoom (kept : Kept) : Type 0 where
  pub entries : kept.all ≡ true → 0 < kept.entries.room
  pub denied : 0 < kept.denied.room

-- in memory is what is to be kept of the history: its denied calls, and its entries or none
pub record IsKeptOf (all : Bool) (log : List Entry) (kept : Kept) : Type 0 where
  pub all_is : kept.all ≡ all
  pub entries_are : kept.entries.items ≡ kept_of all log
  pub denied_are : kept.denied.items ≡ denied_calls log

-- the entry was taken as it is to be kept
pub record Takes (e : Entry) (before after : Kept) : Type 0 where
  pub all_is : after.all ≡ before.all
  pub entries_are : after.entries.items ≡ before.entries.items ++ kept_of before.all (e ∷ [])
  pub denied_are : after.denied.items ≡ before.denied.items ++ denied_calls (e ∷ [])
