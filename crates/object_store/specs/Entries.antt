-- The opens as they are kept, beside the list of those that nothing holds.
use Rattle.std.specs.Prelude.{◌≡◌, ◌≢◌, ◌↔◌, ℕ, ◌==◌, ◌≤◌, List, length, Option, Some, None, slice_get, if◌then◌else◌}
use Rattle.std.specs.Ordering.{nat_cmp}
use Rattle.std.specs.FinMap.{FinMap, get, len}
use Rattle.abi_types.specs.declared.open_kind.OpenKind.{OpenKind}
use Rattle.maps.specs.Closure.{changed}
use Rattle.maps.specs.Maps.{total}
use Rattle.object_store.specs.Nodes.{AreCounted}
use Rattle.object_store.specs.Objects.{Held}
use Rattle.object_store.specs.declared.entry.Entry.{Entry}

-- what each open is
abbrev pub kinds_of : FinMap nat_cmp Entry → FinMap nat_cmp OpenKind
kinds_of entries = changed (λ _ e. e.kind) entries

-- how many hold each open
abbrev pub counts_of : FinMap nat_cmp Entry → FinMap nat_cmp ℕ
counts_of entries = changed (λ _ e. e.count) entries

-- what contracts see of the entries
abbrev pub held_of : FinMap nat_cmp Entry → Held
held_of entries = record { kinds = kinds_of entries; counts = counts_of entries }

-- where the list has an open, by its entry: nowhere while something holds it
abbrev pub place_of : Option Entry → Option ℕ
place_of None = None
place_of (Some e) = if e.count == 0 then Some e.place else None

-- the list has each open at the place that its entry gives, and nothing else
abbrev pub AreListed : FinMap nat_cmp Entry → List ℕ → Type 0
AreListed entries unheld = (o i : ℕ) → (place_of (get entries o) ≡ Some i) ↔ (slice_get unheld i ≡ Some o)

-- the same but for one place of the list, of which no entry gives
abbrev pub AreListedBut : ℕ → FinMap nat_cmp Entry → List ℕ → Type 0
AreListedBut place entries unheld = (o i : ℕ) → (place_of (get entries o) ≡ Some i) ↔ ((slice_get unheld i ≡ Some o) × (i ≢ place))

-- 1 at an open that nothing holds, else 0
abbrev pub unheld_one : ℕ → ℕ
unheld_one count = if count == 0 then 1 else 0

-- the list has exactly the opens that nothing holds, as many as there are, and room for all opens
pub record IsKept (entries : FinMap nat_cmp Entry) (unheld : List ℕ) (room : ℕ) : Type 0 where
  pub listed : AreListed entries unheld
  pub counted : total unheld_one (counts_of entries) ≡ length unheld
  pub roomy : len (counts_of entries) ≤ room

-- what is kept beside the entries agrees with them: the list of opens that nothing holds, and how many opens are of each node
pub record IsConsistent (entries : FinMap nat_cmp Entry) (unheld : List ℕ) (room : ℕ) (by_node : FinMap nat_cmp ℕ) : Type 0 where
  pub list : IsKept entries unheld room
  pub nodes : AreCounted (kinds_of entries) by_node
