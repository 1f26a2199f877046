-- A walk over the numbers of a map, one after another.
--     IsPast last k      the number was come to, where this is the last one
--     passed last      how many numbers at most were come to
--     past_all, past_next      what is left where there is no next number, and where there is one
--     next_there, next_above      the next number is the map's, and hasn't been come to
use Rattle.std.proofs.Common.{◌≡◌, ◌⊎◌, inl, inr, ℕ, ◌+◌, ◌≤◌, true, false, Option, Some, None, IsSome, is_some, refl, sym, ap, ◌∙◌, arith}
use Rattle.std.proofs.lemmas.Bool.{ltb-true, ltb-false}
use Rattle.std.specs.Prelude.{nat_lt}
use Rattle.std.specs.Ordering.{nat_cmp}
use Rattle.std.specs.FinMap.{FinMap, get}
use Rattle.maps.specs.Maps.{least_key, least_key-entry, least_key-least, least_key-none, passes}
use Rattle.tree_model.specs.Changes.{is_above}
use Rattle.kernel_model.proofs.Tests.{not_true}

-- the number was come to, where this is the last one
abbrev pub IsPast : Option ℕ → ℕ → Type 0
IsPast None k = ⊥
IsPast (Some last) k = k ≤ last

-- how many numbers at most were come to
abbrev pub passed : Option ℕ → ℕ
passed None = 0
passed (Some last) = last + 1

pub above_or_past : (last : Option ℕ) (k : ℕ) → (is_above last k ≡ true) ⊎ IsPast last k
above_or_past None k = inl refl
above_or_past (Some last) k =
    elim (nat_lt last k) as (λ b. nat_lt last k ≡ b → (nat_lt last k ≡ true) ⊎ (k ≤ last)) [
      | true ↦ λ e. inl e
      | false ↦ λ e. inr (ltb-false last k e)
    ] refl

above_passed : (last : Option ℕ) (k : ℕ) → is_above last k ≡ true → passed last ≤ k
above_passed None k above = omega arith
above_passed (Some last) k above = let less = ltb-true last k above in omega (arith, less)

module _ {X : Type 0} (m : FinMap nat_cmp X) (last : Option ℕ) where
  absent_by : (o : Option X) (k : ℕ) → is_above last k ≡ true → passes (λ q _. is_above last q) k o ≡ false → o ≡ None
  absent_by None k above fails = refl
  absent_by (Some x) k above fails = absurd (not_true (sym fails ∙ above))

  passes_by : (o : Option X) (k : ℕ) → is_above last k ≡ true → (o ≡ None) ⊎ (passes (λ q _. is_above last q) k o ≡ true)
  passes_by None k above = inl refl
  passes_by (Some x) k above = inr above

  -- there is no next number
  pub past_all : None ≡ least_key (λ q _. is_above last q) m → (k : ℕ) → IsPast last k ⊎ (get m k ≡ None)
  past_all none k =
      elim (above_or_past last k) [
        | inl above ↦ inr (absent_by (get m k) k above (least_key-none (λ q _. is_above last q) m (sym none) k))
        | inr past ↦ inl past
      ]

  -- the next number
  module _ (n : ℕ) (next : Some n ≡ least_key (λ q _. is_above last q) m) where
    pub next_there : IsSome (get m n)
    next_there = ap is_some (least_key-entry (λ q _. is_above last q) m n (sym next)).1

    pub next_above : passed last ≤ n
    next_above = above_passed last n (least_key-entry (λ q _. is_above last q) m n (sym next)).2

    pub past_next : (k : ℕ) → k ≤ n → IsPast last k ⊎ (k ≡ n) ⊎ (get m k ≡ None)
    past_next k most =
        elim (above_or_past last k) [
          | inl above ↦ elim (passes_by (get m k) k above) [
            | inl none ↦ inr (inr none)
            | inr here ↦ (let least : n ≤ k = least_key-least (λ q _. is_above last q) m n (sym next) k here in inr (inl (omega (arith, least, most))))
          ]
          | inr past ↦ inl past
        ]
