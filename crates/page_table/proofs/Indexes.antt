-- An index that is copied in the order of its numbers.
use Rattle.std.proofs.Common.{◌≡◌, Bool, true, false, ℕ, suc, ◌-◌, ◌^◌, ◌<◌, ◌≤◌, cond, inl, inr, Option, Some, None, IsSome, nat_le, nat_lt, refl, sym, ap, subst, ◌∙◌, arith}
use Rattle.std.proofs.lemmas.Bool.{lt-ltb, lt-leb, le-leb, leb-true}
use Rattle.std.proofs.lemmas.Bool.Decides.{eqb_tells, leb_tells}
use Rattle.std.specs.Ordering.{nat_cmp}
use Rattle.std.specs.FinMap.{get, insert, empty, get-empty}
use Rattle.maps.specs.Maps.{passes, get-insert-same, get-insert-other, same_numbers, least_key, least_key-entry, least_key-least, least_key-none}
use Rattle.page_table.proofs.Tables.{Index}

-- whether a number comes before the next one, or there is no next one
abbrev pub before : ℕ → Option ℕ → Bool
before q None = true
before q (Some n) = nat_lt q n

-- the entries before the next number are in the copy, and no others
abbrev pub IsCopied : Index → Index → Option ℕ → Type 0
IsCopied index made next = (q : ℕ) → get made q ≡ cond (before q next) (get index q) None

-- the next number is in the index
abbrev pub IsThere : Index → Option ℕ → Type 0
IsThere index next = (n : ℕ) → next ≡ Some n → IsSome (get index n)

-- how many numbers come from the next one on
abbrev pub behind_next : Option ℕ → ℕ
behind_next None = 0
behind_next (Some n) = 2 ^ 64 - n

not_both : (b : Bool) → b ≡ true → b ≡ false → ⊥
not_both b e f = absurd (cc)

passes_from : (from q i : ℕ) (o : Option ℕ) → from ≤ q → o ≡ Some i → passes (λ r _. nat_le from r) q o ≡ true
passes_from from q i o low e = ap (passes (λ r _. nat_le from r) q) e ∙ le-leb from q low

-- there is no entry from a number on before the next one
none_before : (index : Index) (from q : ℕ) (next : Option ℕ) → next ≡ least_key (λ r _. nat_le from r) index → from ≤ q → before q next ≡ true → get index q ≡ None
none_before index from q next is low early =
    elim (get index q) as (λ o. get index q ≡ o → o ≡ None) [
      | None ↦ λ e. refl
      | Some i ↦ λ e.
          let there = passes_from from q i (get index q) low e in
          elim next as (λ x. next ≡ x → Some i ≡ None) [
            | None ↦ λ f. absurd (not_both _ there (least_key-none (λ r _. nat_le from r) index (sym is ∙ f) q))
            | Some n ↦ λ f.
                let least = least_key-least (λ r _. nat_le from r) index n (sym is ∙ f) q there in
                absurd (not_both _ (ap (before q) (sym f) ∙ early) (lt-leb (suc q) n (omega (arith, least))))
          ] refl
    ] refl

pub next_there : (index : Index) (from : ℕ) (next : Option ℕ) → next ≡ least_key (λ r _. nat_le from r) index → IsThere index next
next_there index from next is n e =
    let entry = least_key-entry (λ r _. nat_le from r) index n (sym is ∙ e) in subst IsSome (sym entry.1) refl

pub copied_none : (index made : Index) (next : Option ℕ) → made ≡ empty → next ≡ least_key (λ r _. nat_le 0 r) index → IsCopied index made next
copied_none index made next is first q =
    ap (λ (x : Index). get x q) is ∙ get-empty {X = ℕ} nat_cmp q
    ∙ elim (before q next) as (λ b. before q next ≡ b → None ≡ cond b (get index q) None) [
      | true ↦ λ e. sym (none_before index 0 q next first (omega arith) e)
      | false ↦ λ e. refl
    ] refl

-- the next number is behind the one before
next_behind : (index : Index) (n : ℕ) (next : Option ℕ) → next ≡ least_key (λ r _. nat_lt n r) index → (m : ℕ) → next ≡ Some m → n < m
next_behind index n next is m e = let entry = least_key-entry (λ r _. nat_lt n r) index m (sym is ∙ e) in leb-true (suc n) m entry.2

early : (index : Index) (n q : ℕ) (next : Option ℕ) → next ≡ least_key (λ r _. nat_lt n r) index → q ≤ n → before q next ≡ true
early index n q next is low =
    elim next as (λ x. next ≡ x → before q x ≡ true) [
      | None ↦ λ e. refl
      | Some m ↦ λ e. let up = next_behind index n next is m e in lt-ltb q m (omega (arith, up, low))
    ] refl

pub copied_more : (index made : Index) (n i : ℕ) (next : Option ℕ) → get index n ≡ Some i → next ≡ least_key (λ r _. nat_lt n r) index
    → IsCopied index made (Some n) → IsCopied index (insert made n i) next
copied_more index made n i next here is h q =
    elim (eqb_tells q n) [
      | inl same ↦
          ap (get (insert made n i)) same.1 ∙ get-insert-same made n i ∙ sym here ∙ ap (get index) (sym same.1)
          ∙ sym (ap (λ b. cond b (get index q) None) (early index n q next is (let e = same.1 in omega (arith, e))))
      | inr other ↦
          get-insert-other made n i q other.1 ∙ h q
          ∙ elim (leb_tells n q) [
            | inl above ↦
                ap (λ b. cond b (get index q) None) (lt-leb (suc q) n (let low = above.1 in omega (arith, low)))
                ∙ elim (before q next) as (λ b. before q next ≡ b → None ≡ cond b (get index q) None) [
                  | true ↦ λ e. sym (none_before index (suc n) q next is (let low = above.1 in let not = other.1 in omega (arith, low, not)) e)
                  | false ↦ λ e. refl
                ] refl
            | inr under ↦
                ap (λ b. cond b (get index q) None) (lt-ltb q n (let low = under.1 in omega (arith, low)))
                ∙ sym (ap (λ b. cond b (get index q) None) (early index n q next is (let low = under.1 in omega (arith, low))))
          ]
    ]

pub copied_all : (index made : Index) (next : Option ℕ) → next ≡ None → IsCopied index made next → made ≡ index
copied_all index made next is h =
    same_numbers made index (λ q. h q ∙ ap (λ x. cond (before q x) (get index q) None) is)

pub fewer_behind : (index : Index) (n : ℕ) (next : Option ℕ) → n < 2 ^ 64 → next ≡ least_key (λ r _. nat_lt n r) index → behind_next next < behind_next (Some n)
fewer_behind index n next small is =
    elim next as (λ x. next ≡ x → behind_next x < behind_next (Some n)) [
      | None ↦ λ e. omega (arith, small)
      | Some m ↦ λ e. let up = next_behind index n next is m e in omega (arith, up, small)
    ] refl
