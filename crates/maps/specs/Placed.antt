-- Lists of entries by places.
use Rattle.std.specs.Prelude.{ℕ, zero, suc, ◌<◌, ◌^◌, length, T, cond, List, [], ◌∷◌, ◌++◌, take, drop}
use Rattle.std.specs.Ordering.{is_lt}
use Rattle.std.specs.FinMap.{is_sorted}
use Rattle.maps.specs.Names.{Name, name_cmp}

-- the list with x at the place n, and what stood there and behind it after x
abbrev pub placed : {A : Type 0} → ℕ → A → List A → List A
placed n x xs = take n xs ++ x ∷ drop n xs

-- the entries, with the value v at the place n
abbrev pub revalued : {K X : Type 0} → ℕ → X → List (K × X) → List (K × X)
revalued n v [] = []
revalued zero v (e ∷ es) = (e.0, v) ∷ es
revalued (suc n) v (e ∷ es) = e ∷ revalued n v es

-- the names rise, and memory may hold so many
abbrev pub IsOrdered : {X : Type 0} → List (Name × X) → Type 0
IsOrdered es = T (is_sorted name_cmp es) × (length es < 2 ^ 63)

-- how many names at the front are below k
abbrev pub count_below : {X : Type 0} → Name → List (Name × X) → ℕ
count_below k [] = 0
count_below k (e ∷ es) = cond (is_lt (name_cmp e.0 k)) (suc (count_below k es)) 0
