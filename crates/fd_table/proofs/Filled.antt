-- How the map of a list of places changes with the list.
--     filled_none      no place
--     filled_past, filled_within      behind the list there is nothing;  what is there stands within the list
--     filled_few      there are at most as many as there are places
--     filled_longer, filled_resized      more places where nothing stands
--     filled_at      what stands at a place
--     filled_set, filled_unset      something comes to a place;  what stands there goes
use Rattle.std.proofs.Common.{◌≡◌, ℕ, ◌<◌, ◌≤◌, Bool, true, false, cond, inl, inr, List, [], ◌++◌, length, get_or, set, take, replicate, Option, None, Some, IsSome, refl, sym, ap, ◌∙◌, arith}
use Rattle.std.proofs.lemmas.Bool.Decides.{leb_tells}
use Rattle.std.proofs.lemmas.List.{get_or-set_same, get_or-set_other, get_or_past, get_or_default, get_or-replicate, length-replicate, take_all, get_or_append_left, get_or-append_right}
use Rattle.std.specs.FinMap.{empty, get, insert, remove, len}
use Rattle.maps.specs.Maps.{get-insert-same, get-insert-other, get-remove-same, get-remove-other, same_around, same_numbers}
use Rattle.fd_table.specs.Sizes.{len_at_most, none_there}
use Rattle.fd_table.specs.Slots.{filled, get-filled}

module _ {X : Type 0} where
  pub filled_none : filled {X = X} [] ≡ empty
  unfolding filled
  filled_none = refl

  pub filled_past : (slots : List (Option X)) (k : ℕ) → length slots ≤ k → get (filled slots) k ≡ None
  filled_past slots k past = get-filled slots k ∙ get_or_past slots k None past

  pub filled_within : (slots : List (Option X)) (k : ℕ) → IsSome (get (filled slots) k) → k < length slots
  filled_within slots k there =
      elim (leb_tells (length slots) k) [
        | inl past ↦ absurd (none_there (get (filled slots) k) (filled_past slots k past.1) there)
        | inr within ↦ within.1
      ]

  pub filled_few : (slots : List (Option X)) → len (filled slots) ≤ length slots
  filled_few slots = len_at_most (length slots) (filled slots) (filled_within slots)

  nones : (o : Option X) (n k : ℕ) → get_or (replicate n o) k o ≡ o
  nones o n k =
      elim (leb_tells n k) [
        | inl past ↦ get_or_past (replicate n o) k o (let least = past.1 in let size = length-replicate n o in omega arith)
        | inr within ↦ get_or-replicate n k o o within.1
      ]

  pub filled_longer : (slots : List (Option X)) (n : ℕ) → filled (slots ++ replicate n None) ≡ filled slots
  filled_longer slots n =
      same_numbers _ _ (λ k. get-filled (slots ++ replicate n None) k ∙ elim (leb_tells (length slots) k) [
        | inl past ↦ get_or-append_right slots (replicate n None) (length slots) k None refl past.1 ∙ nones None n _ ∙ sym (filled_past slots k past.1)
        | inr within ↦ get_or_append_left slots (replicate n None) None k within.1 ∙ sym (get-filled slots k)
      ])

  -- as the answer tells whether the list was cut, or filled up, to n places
  pub filled_resized : (slots new : List (Option X)) (n more : ℕ) (b : Bool) → length slots ≤ n → new ≡ cond b (take n slots ++ replicate more None) slots
      → filled new ≡ filled slots
  filled_resized slots new n more true few is =
      ap (λ (l : List (Option X)). filled l) (is ∙ ap (λ l. l ++ replicate more None) (take_all n slots few)) ∙ filled_longer slots more
  filled_resized slots new n more false few is = ap (λ (l : List (Option X)). filled l) is

  module _ (slots : List (Option X)) (k : ℕ) (within : k < length slots) where
    pub filled_at : (o : Option X) → o ≡ get_or slots k o → o ≡ get (filled slots) k
    filled_at o is = is ∙ get_or_default slots k o None within ∙ sym (get-filled slots k)

    pub filled_set : (x : X) → filled (set slots k (Some x)) ≡ insert (filled slots) k x
    filled_set x =
        same_around _ _ k
        (get-filled _ k ∙ get_or-set_same slots k (Some x) None within ∙ sym (get-insert-same (filled slots) k x))
        (λ q other. get-filled _ q ∙ get_or-set_other slots k q (Some x) None other ∙ sym (get-filled slots q)
        ∙ sym (get-insert-other (filled slots) k x q other))

    pub filled_unset : filled (set slots k None) ≡ remove (filled slots) k
    filled_unset =
        same_around _ _ k
        (get-filled _ k ∙ get_or-set_same slots k None None within ∙ sym (get-remove-same (filled slots) k))
        (λ q other. get-filled _ q ∙ get_or-set_other slots k q None None other ∙ sym (get-filled slots q)
        ∙ sym (get-remove-other (filled slots) k q other))
