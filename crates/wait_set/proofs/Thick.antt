-- How lists stay packed as one is changed, made two, taken out, or made one with the next.
--     put_packed, split_packed, gone_packed      a number more; a list that is made two; an empty list that is taken out
--     joined_thick, joined_some      two lists that are made one, where they have few numbers
--     place_low, place_high      the place of a number in the two
use Rattle.std.proofs.Common.{◌≡◌, ◌≢◌, ◌⊎◌, ℕ, ◌+◌, ◌-◌, ◌<◌, ◌≤◌, List, [], ◌∷◌, ◌++◌, length, get_or, set, take, drop, append_assoc, inl, inr, refl, sym, ap, subst, ◌∙◌, arith}
use Rattle.std.specs.List.{insert, remove, concat}
use Rattle.std.proofs.lemmas.Bool.{cases_lt}
use Rattle.std.proofs.lemmas.Bool.Decides.{eqb_tells}
use Rattle.std.proofs.lemmas.List.{length-append, length-set, length-drop, take-set, take_more_set, drop-set-lt, get_or-set_same, get_or-set_other, take-append-drop}
use Rattle.std.proofs.lemmas.List.Edits.{length-insert, get_or-insert_below, get_or-insert_at, get_or-insert_above, length-remove, get_or-remove_below, get_or-remove_above}
use Rattle.maps.specs.Closure.{member}
use Rattle.wait_set.specs.Numbers.{IsAscending, IsPacked, IsPlace, IsJoined, HasSome, block, joined_at}
use Rattle.wait_set.proofs.Packed.{list_split, list_gone, length-take, drop_past, take_whole, first_low, first_high, took_ascends}

-- how many numbers the list at k has
abbrev pub size : List (List ℕ) → ℕ → ℕ
size bs k = length (block bs k)

-- ---- one list is changed

size_other : (bs : List (List ℕ)) (i k : ℕ) (x : List ℕ) → k ≢ i → size (set bs i x) k ≡ size bs k
size_other bs i k x other = ap (λ (ys : List ℕ). length ys) (get_or-set_other bs i k x [] other)

size_same : (bs : List (List ℕ)) (i : ℕ) (x : List ℕ) → i < length bs → size (set bs i x) i ≡ length x
size_same bs i x h = ap (λ (ys : List ℕ). length ys) (get_or-set_same bs i x [] h)

-- the list at i has at least as many
size_grown : (bs : List (List ℕ)) (i k : ℕ) (x : List ℕ) → i < length bs → size bs i ≤ length x → size bs k ≤ size (set bs i x) k
size_grown bs i k x h more =
    elim (eqb_tells k i) [
      | inl same ↦
          let here : size (set bs i x) k ≡ length x = ap (size (set bs i x)) same.1 ∙ size_same bs i x h in
          let was : size bs k ≡ size bs i = ap (size bs) same.1 in
          omega arith
      | inr other ↦ let here = size_other bs i k x other.1 in omega arith
    ]

pub put_packed : (bs : List (List ℕ)) (i : ℕ) (x : List ℕ) → IsPacked bs → i < length bs → size bs i ≤ length x → IsAscending (concat (set bs i x)) → IsPacked (set bs i x)
put_packed bs i x packed h more up =
    let count = length-set bs i x in
    record {
      ascending = up;
      some = λ k within. let was = packed.some k (omega arith) in let now = size_grown bs i k x h more in omega arith;
      many = λ k within.
          let was = packed.many k (omega arith) in
          let now = size_grown bs i k x h more in
          let next = size_grown bs i (k + 1) x h more in
          omega arith;
    }

-- ---- a list that is empty is taken out

-- where a list of one number got empty
gone_size : (bs : List (List ℕ)) (i k : ℕ) (x : List ℕ) → i < length bs → ((k < i) × (size (remove (set bs i x) i) k ≡ size bs k)) ⊎ ((i ≤ k) × (size (remove (set bs i x) i) k ≡ size bs (k + 1)))
gone_size bs i k x h =
    let count = length-set bs i x in
    elim (cases_lt k i) [
      | inl low ↦ inl (low, ap (λ (ys : List ℕ). length ys) (get_or-remove_below (set bs i x) i [] k low (omega arith)) ∙ size_other bs i k x (λ e. omega arith))
      | inr high ↦ inr (high, ap (λ (ys : List ℕ). length ys) (get_or-remove_above (set bs i x) i [] k high (omega arith)) ∙ size_other bs i (k + 1) x (λ e. omega arith))
    ]

pub gone_list : (bs : List (List ℕ)) (i : ℕ) (x : List ℕ) → i < length bs → length x ≡ 0 → concat (remove (set bs i x) i) ≡ concat (take i bs) ++ (x ++ concat (drop (i + 1) bs))
gone_list bs i x h none =
    list_gone (set bs i x) i
    ∙ ap (λ (ys : List (List ℕ)). concat ys ++ concat (drop (i + 1) (set bs i x))) (take-set bs i x)
    ∙ ap (λ (ys : List (List ℕ)). concat (take i bs) ++ concat ys) (drop-set-lt (i + 1) bs i x (omega arith))
    ∙ ap (λ ys. concat (take i bs) ++ ys) (empty x none)
  where
    empty : (x : List ℕ) → length x ≡ 0 → concat (drop (i + 1) bs) ≡ x ++ concat (drop (i + 1) bs)
    empty [] e = refl
    empty (y ∷ ys) e = absurd (omega arith)

pub gone_packed : (bs : List (List ℕ)) (i : ℕ) (x : List ℕ) → IsPacked bs → i < length bs → size bs i ≡ 1 → IsAscending (concat (remove (set bs i x) i)) → IsPacked (remove (set bs i x) i)
gone_packed bs i x packed h one up =
    let count = length-set bs i x in
    let fewer = length-remove (set bs i x) i (omega arith) in
    record {
      ascending = up;
      some = λ k within. elim (gone_size bs i k x h) [
        | inl low ↦ let was = packed.some k (omega arith) in omega (arith, low.1)
        | inr high ↦ let was = packed.some (k + 1) (omega arith) in omega (arith, high.1)
      ];
      many = λ k within. elim (gone_size bs i k x h) [
        | inl low ↦ elim (gone_size bs i (k + 1) x h) [
          | inl next ↦ let was = packed.many k (omega arith) in omega (arith, low.1, next.1)
          | inr next ↦
              let edge : k + 1 ≡ i = omega (arith, low.0, next.0) in
              let was = packed.many k (omega arith) in
              let here : size bs (k + 1) ≡ 1 = ap (size bs) edge ∙ one in
              let behind = packed.some (k + 1 + 1) (omega arith) in
              omega (arith, low.1, next.1)
        ]
        | inr high ↦ elim (gone_size bs i (k + 1) x h) [
          | inl next ↦ absurd (omega (arith, high.0, next.0))
          | inr next ↦ let was = packed.many (k + 1) (omega arith) in omega (arith, high.1, next.1)
        ]
      ];
    }

-- ---- two lists that are made one

pub joined_count : (bs : List (List ℕ)) (i : ℕ) → i + 1 < length bs → length (joined_at bs i) + 1 ≡ length bs
joined_count bs i h =
    let count = length-set (remove bs (i + 1)) i (block bs i ++ block bs (i + 1)) in
    let fewer = length-remove bs (i + 1) h in
    omega arith

joined_size : (bs : List (List ℕ)) (i k : ℕ) → i + 1 < length bs
    → ((k < i) × (size (joined_at bs i) k ≡ size bs k)) ⊎ (((k ≡ i) × (size (joined_at bs i) k ≡ size bs i + size bs (i + 1))) ⊎ ((i < k) × (size (joined_at bs i) k ≡ size bs (k + 1))))
joined_size bs i k h =
    let two = block bs i ++ block bs (i + 1) in
    let fewer = length-remove bs (i + 1) h in
    elim (cases_lt k i) [
      | inl low ↦ inl (low, size_other (remove bs (i + 1)) i k two (λ e. omega arith) ∙ ap (λ (ys : List ℕ). length ys) (get_or-remove_below bs (i + 1) [] k (omega arith) h))
      | inr high ↦ elim (cases_lt i k) [
        | inl above ↦
            inr (inr (above, size_other (remove bs (i + 1)) i k two (λ e. omega arith) ∙ ap (λ (ys : List ℕ). length ys) (get_or-remove_above bs (i + 1) [] k (omega arith) h)))
        | inr most ↦
            let same : k ≡ i = omega arith in
            inr (inl (same, ap (size (joined_at bs i)) same ∙ size_same (remove bs (i + 1)) i two (omega arith) ∙ length-append (block bs i) (block bs (i + 1))))
      ]
    ]

some_joined : (bs : List (List ℕ)) (i : ℕ) → i + 1 < length bs → HasSome bs → HasSome (joined_at bs i)
some_joined bs i h some k within =
    let count = joined_count bs i h in
    elim (joined_size bs i k h) [
      | inl low ↦ let was = some k (omega arith) in omega (arith, low.1)
      | inr (inl here) ↦ let was = some i (omega arith) in omega (arith, here.1)
      | inr (inr high) ↦ let was = some (k + 1) (omega arith) in omega (arith, high.1)
    ]

pub joined_some : (bs new : List (List ℕ)) (i : ℕ) → HasSome bs → IsJoined bs new i → HasSome new
joined_some bs new i some (inl stays) = subst HasSome (sym stays.0) some
joined_some bs new i some (inr joined) = subst HasSome (sym joined.0) (some_joined bs i joined.1 some)

-- it isn't shorter by more than one
pub joined_long : (bs new : List (List ℕ)) (i : ℕ) → IsJoined bs new i → length bs ≤ length new + 1
joined_long bs new i (inl stays) = let same = ap (λ (ys : List (List ℕ)). length ys) stays.0 in omega arith
joined_long bs new i (inr joined) = let same = ap (λ (ys : List (List ℕ)). length ys) joined.0 in let count = joined_count bs i joined.1 in omega arith

-- the one that may be joined with the next is still there
pub joined_within : (bs new : List (List ℕ)) (i : ℕ) → i < length bs → IsJoined bs new i → i < length new
joined_within bs new i h (inl stays) = let same = ap (λ (ys : List (List ℕ)). length ys) stays.0 in omega arith
joined_within bs new i h (inr joined) = let same = ap (λ (ys : List (List ℕ)). length ys) joined.0 in let count = joined_count bs i joined.1 in omega (arith, joined.1)

-- each two neighbours but those at i have enough, as far as S asks
module _ (S : ℕ → Type 0) (bs : List (List ℕ)) (i : ℕ) (later : (k : ℕ) → i ≤ k → S (k + 1))
    (many : (k : ℕ) → k + 1 < length bs → k ≢ i → S k → 33 ≤ size bs k + size bs (k + 1)) where
  thick_joined : i + 1 < length bs → (k : ℕ) → k + 1 < length (joined_at bs i) → S k → 33 ≤ size (joined_at bs i) k + size (joined_at bs i) (k + 1)
  thick_joined h k within so =
      let count = joined_count bs i h in
      elim (joined_size bs i k h) [
        | inl low ↦
            let was = many k (omega arith) (λ e. omega (arith, low.0)) so in
            elim (joined_size bs i (k + 1) h) [
              | inl next ↦ omega (arith, low.1, next.1)
              | inr (inl next) ↦ let here : size bs (k + 1) ≡ size bs i = ap (size bs) next.0 in omega (arith, low.1, next.1)
              | inr (inr next) ↦ absurd (omega (arith, low.0, next.0))
            ]
        | inr (inl here) ↦ elim (joined_size bs i (k + 1) h) [
          | inl next ↦ absurd (omega (arith, here.0, next.0))
          | inr (inl next) ↦ absurd (omega (arith, here.0, next.0))
          | inr (inr next) ↦
              let was = many (k + 1) (omega arith) (λ e. omega (arith, here.0)) (later k (omega (arith, here.0))) in
              let same : size bs (i + 1) ≡ size bs (k + 1) = ap (λ n. size bs (n + 1)) (sym here.0) in
              omega (arith, here.1, next.1)
        ]
        | inr (inr high) ↦
            let was = many (k + 1) (omega arith) (λ e. omega (arith, high.0)) (later k (omega (arith, high.0))) in
            elim (joined_size bs i (k + 1) h) [
              | inl next ↦ absurd (omega (arith, high.0, next.0))
              | inr (inl next) ↦ absurd (omega (arith, high.0, next.0))
              | inr (inr next) ↦ omega (arith, high.1, next.1)
            ]
      ]

  pub joined_thick : (new : List (List ℕ)) → IsJoined bs new i → (k : ℕ) → k + 1 < length new → S k → 33 ≤ size new k + size new (k + 1)
  joined_thick new (inl stays) k within so =
      let count = ap (λ (ys : List (List ℕ)). length ys) stays.0 in
      subst (λ (ys : List (List ℕ)). 33 ≤ size ys k + size ys (k + 1)) (sym stays.0)
      (elim (eqb_tells k i) [
        | inl same ↦ subst (λ n. 33 ≤ size bs n + size bs (n + 1)) (sym same.1) (stays.1 (let e = same.1 in omega arith))
        | inr other ↦ many k (omega arith) other.1 so
      ])
  joined_thick new (inr joined) k within so =
      let count = ap (λ (ys : List (List ℕ)). length ys) joined.0 in
      subst (λ (ys : List (List ℕ)). 33 ≤ size ys k + size ys (k + 1)) (sym joined.0) (thick_joined joined.1 k (omega arith) so)

-- ---- a number is taken out of a list that has more

pub took_many : (bs : List (List ℕ)) (i : ℕ) (x : List ℕ) → IsPacked bs → (k : ℕ) → k + 1 < length (set bs i x) → k ≢ i → k + 1 ≢ i → 33 ≤ size (set bs i x) k + size (set bs i x) (k + 1)
took_many bs i x packed k within other next =
    let count = length-set bs i x in
    let was = packed.many k (omega arith) in
    let one = size_other bs i k x other in
    let two = size_other bs i (k + 1) x next in
    omega arith

pub took_some : (bs : List (List ℕ)) (i : ℕ) (x : List ℕ) → IsPacked bs → i < length bs → 0 < length x → HasSome (set bs i x)
took_some bs i x packed h some k within =
    let count = length-set bs i x in
    elim (eqb_tells k i) [
      | inl same ↦ let here : size (set bs i x) k ≡ length x = ap (size (set bs i x)) same.1 ∙ size_same bs i x h in omega arith
      | inr other ↦ let was = packed.some k (omega arith) in let here = size_other bs i k x other.1 in omega arith
    ]

-- it was the only number of the list
pub took_gone : (bs : List (List ℕ)) (i place : ℕ) → IsPacked bs → i < length bs → place < size bs i → size (set bs i (remove (block bs i) place)) i ≡ 0
    → IsPacked (remove (set bs i (remove (block bs i) place)) i)
    × (concat (remove (set bs i (remove (block bs i) place)) i) ≡ concat (take i bs) ++ (remove (block bs i) place ++ concat (drop (i + 1) bs)))
took_gone bs i place packed h within none =
    let x = remove (block bs i) place in
    let fewer = length-remove (block bs i) place within in
    let here = size_same bs i x h in
    let is = gone_list bs i x h (omega arith) in
    (gone_packed bs i x packed h (omega arith) (subst IsAscending (sym is) (took_ascends bs i place packed h within)), is)

-- the two joins behind it
pub took_packed : (bs new last : List (List ℕ)) (i : ℕ) → HasSome bs → ((k : ℕ) → k + 1 < length bs → k ≢ i → k + 1 ≢ i → 33 ≤ size bs k + size bs (k + 1))
    → IsJoined bs new i → 0 < i → IsJoined new last (i - 1) → IsAscending (concat last) → IsPacked last
took_packed bs new last i some many first more second up =
    record {
      ascending = up;
      some = joined_some new last (i - 1) (joined_some bs new i some first) second;
      many = λ k within. joined_thick (λ _. Unit {0}) new (i - 1) (λ _ _. tt)
          (λ j h other _. joined_thick (λ n. n + 1 ≢ i) bs i (λ n high e. omega arith) (λ n inner apart so. many n inner apart so) new first j h (λ e. other (omega arith)))
          last second k within tt;
    }

pub took_first : (bs new : List (List ℕ)) → HasSome bs → ((k : ℕ) → k + 1 < length bs → k ≢ 0 → k + 1 ≢ 0 → 33 ≤ size bs k + size bs (k + 1))
    → IsJoined bs new 0 → IsAscending (concat new) → IsPacked new
took_first bs new some many first up =
    record {
      ascending = up;
      some = joined_some bs new 0 some first;
      many = λ k within. joined_thick (λ n. n + 1 ≢ 0) bs 0 (λ n high e. omega arith) (λ n inner apart so. many n inner apart so) new first k within (λ e. omega arith);
    }

-- ---- a list that is made two

module _ (bs : List (List ℕ)) (i : ℕ) (low high : List ℕ) (h : i < length bs) where
  abbrev pub halved : List (List ℕ)
  halved = insert (set bs i low) (i + 1) high

  pub halved_count : length halved ≡ length bs + 1
  halved_count = let count = length-set bs i low in length-insert (set bs i low) (i + 1) high (omega arith) ∙ ap (λ n. n + 1) count

  halved_size : (k : ℕ) → ((k < i) × (size halved k ≡ size bs k)) ⊎ (((k ≡ i) × (size halved k ≡ length low)) ⊎ (((k ≡ i + 1) × (size halved k ≡ length high)) ⊎ ((j : ℕ) × (k ≡ j + 1) × (i < j) × (size halved k ≡ size bs j))))
  halved_size k =
      let count = length-set bs i low in
      elim (cases_lt k i) [
        | inl below ↦ inl (below, ap (λ (ys : List ℕ). length ys) (get_or-insert_below (set bs i low) (i + 1) high [] k (omega arith) (omega arith)) ∙ size_other bs i k low (λ e. omega arith))
        | inr from ↦ elim (cases_lt i k) [
          | inl above ↦ elim (cases_lt (i + 1) k) [
            | inl beyond ↦
                let back : k ≡ (k - 1) + 1 = omega arith in
                inr (inr (inr (
                  k - 1,
                  back,
                  omega arith,
                  ap (size halved) back ∙ ap (λ (ys : List ℕ). length ys) (get_or-insert_above (set bs i low) (i + 1) high [] (k - 1) (omega arith) (omega arith))
                      ∙ size_other bs i (k - 1) low (λ e. omega arith),
                )))
            | inr most ↦
                let same : k ≡ i + 1 = omega arith in
                inr (inr (inl (same, ap (size halved) same ∙ ap (λ (ys : List ℕ). length ys) (get_or-insert_at (set bs i low) (i + 1) high [] (omega arith)))))
          ]
          | inr most ↦
              let same : k ≡ i = omega arith in
              inr (inl (same, ap (size halved) same ∙ ap (λ (ys : List ℕ). length ys) (get_or-insert_below (set bs i low) (i + 1) high [] i (omega arith) (omega arith)) ∙ size_same bs i low h))
        ]
      ]

  pub split_packed : IsPacked bs → 32 ≤ length low → 32 ≤ length high → IsAscending (concat halved) → IsPacked halved
  split_packed packed some_low some_high up =
      let count = halved_count in
      record {
        ascending = up;
        some = λ k within. elim (halved_size k) [
          | inl a ↦ let was = packed.some k (omega (arith, a.0)) in omega (arith, a.1)
          | inr (inl a) ↦ omega (arith, a.1)
          | inr (inr (inl a)) ↦ omega (arith, a.1)
          | inr (inr (inr a)) ↦ let was = packed.some a.0 (omega (arith, a.1)) in omega (arith, a.3)
        ];
        many = λ k within. elim (halved_size k) [
          | inl a ↦
              let was = packed.many k (omega (arith, a.0)) in
              let here = packed.some k (omega (arith, a.0)) in
              elim (halved_size (k + 1)) [
                | inl b ↦ omega (arith, a.1, b.1)
                | inr (inl b) ↦ omega (arith, a.1, b.1)
                | inr (inr (inl b)) ↦ omega (arith, a.1, b.1)
                | inr (inr (inr b)) ↦ absurd (omega (arith, a.0, b.1, b.2))
              ]
          | inr (inl a) ↦ elim (halved_size (k + 1)) [
            | inl b ↦ absurd (omega (arith, a.0, b.0))
            | inr (inl b) ↦ absurd (omega (arith, a.0, b.0))
            | inr (inr (inl b)) ↦ omega (arith, a.1, b.1)
            | inr (inr (inr b)) ↦ absurd (omega (arith, a.0, b.1, b.2))
          ]
          | inr (inr (inl a)) ↦ elim (halved_size (k + 1)) [
            | inl b ↦ absurd (omega (arith, a.0, b.0))
            | inr (inl b) ↦ absurd (omega (arith, a.0, b.0))
            | inr (inr (inl b)) ↦ absurd (omega (arith, a.0, b.0))
            | inr (inr (inr b)) ↦ let behind = packed.some b.0 (omega (arith, b.1)) in omega (arith, a.1, b.3)
          ]
          | inr (inr (inr a)) ↦ elim (halved_size (k + 1)) [
            | inl b ↦ absurd (omega (arith, a.1, a.2, b.0))
            | inr (inl b) ↦ absurd (omega (arith, a.1, a.2, b.0))
            | inr (inr (inl b)) ↦ absurd (omega (arith, a.1, a.2, b.0))
            | inr (inr (inr b)) ↦
                let next : b.0 ≡ a.0 + 1 = omega (arith, a.1, b.1) in
                let was = packed.many a.0 (omega (arith, a.1)) in
                let same : size bs b.0 ≡ size bs (a.0 + 1) = ap (size bs) next in
                omega (arith, a.3, b.3)
          ]
        ];
      }

  pub halved_low : block halved i ≡ low
  halved_low =
      let count = length-set bs i low in
      get_or-insert_below (set bs i low) (i + 1) high [] i (omega arith) (omega arith) ∙ get_or-set_same bs i low [] h

  pub halved_high : block halved (i + 1) ≡ high
  halved_high = let count = length-set bs i low in get_or-insert_at (set bs i low) (i + 1) high [] (omega arith)

  form : halved ≡ take i bs ++ (low ∷ high ∷ drop (i + 1) bs)
  form =
      ap (λ (ys : List (List ℕ)). ys ++ high ∷ drop (i + 1) (set bs i low)) (take_more_set bs i low h)
      ∙ ap (λ (ys : List (List ℕ)). (take i bs ++ low ∷ []) ++ high ∷ ys) (drop-set-lt (i + 1) bs i low (omega arith))
      ∙ append_assoc (take i bs) (low ∷ []) (high ∷ drop (i + 1) bs)

  take_form : take i halved ≡ take i bs
  take_form = ap (take i) form ∙ take_whole i (take i bs) (low ∷ high ∷ drop (i + 1) bs) (length-take i bs (omega arith))

  drop_form : drop (i + 1 + 1) halved ≡ drop (i + 1) bs
  drop_form =
      let two : i + 1 + 1 ≡ i + 2 = omega arith in
      ap (λ n. drop n halved) two ∙ ap (drop (i + 2)) form ∙ drop_past i 2 (take i bs) (low ∷ high ∷ drop (i + 1) bs) (length-take i bs (omega arith))

  pub place_low : (number : ℕ) → IsPlace bs number i → IsPacked halved → number < get_or high 0 0 → IsPlace halved number i
  place_low number at packed less =
      let count = halved_count in
      record {
        within = omega arith;
        low = λ u there. at.low u (ap (λ (ys : List (List ℕ)). member u (concat ys)) (sym take_form) ∙ there);
        high = λ u there.
            let first = first_high halved (i + 1) u packed (omega arith) there in
            let is : get_or (block halved (i + 1)) 0 0 ≡ get_or high 0 0 = ap (λ (ys : List ℕ). get_or ys 0 0) halved_high in
            omega arith;
      }

  pub place_high : (number : ℕ) → IsPlace bs number i → IsPacked halved → get_or high 0 0 ≤ number → IsPlace halved number (i + 1)
  place_high number at packed most =
      let count = halved_count in
      record {
        within = omega arith;
        low = λ u there.
            let first = first_low halved (i + 1) u packed (omega arith) there in
            let is : get_or (block halved (i + 1)) 0 0 ≡ get_or high 0 0 = ap (λ (ys : List ℕ). get_or ys 0 0) halved_high in
            omega arith;
        high = λ u there. at.high u (ap (λ (ys : List (List ℕ)). member u (concat ys)) (sym drop_form) ∙ there);
      }

-- the first n stay, and the others are another list
pub split_all : (bs : List (List ℕ)) (i n : ℕ) → IsPacked bs → i < length bs → 32 ≤ n → n + 32 ≤ size bs i
    → IsPacked (insert (set bs i (take n (block bs i))) (i + 1) (drop n (block bs i))) × (concat (insert (set bs i (take n (block bs i))) (i + 1) (drop n (block bs i))) ≡ concat bs)
split_all bs i n packed h first rest =
    let low = take n (block bs i) in
    let high = drop n (block bs i) in
    let same = list_split bs i low high h (take-append-drop n (block bs i)) in
    let one = length-take n (block bs i) (omega arith) in
    let two = length-drop n (block bs i) in
    (split_packed bs i low high h packed (omega arith) (omega arith) (subst IsAscending (sym same) packed.ascending), same)
