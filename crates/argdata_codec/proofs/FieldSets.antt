-- The fields of a container as sets of byte lists, from a turn on: what they need, and that there are some of each length.
use Rattle.std.proofs.Common.{◌≡◌, ℕ, zero, suc, ◌+◌, ◌-◌, ◌*◌, ◌<◌, ◌≤◌, ◌⊎◌, inl, inr, eqb, ltb, ◌||◌, List, [], ◌∷◌, ◌++◌, length, take, drop, Option, Some, refl, sym, ap, subst, ◌∙◌, arith, length-append, length-drop}
use Rattle.std.proofs.lemmas.Bool.{ltb-false}
use Rattle.argdata_codec.specs.declared.turn.Turn.{Turn}
use Rattle.argdata_codec.specs.declared.turn.Turn.TheVariants as turns
use Rattle.argdata_codec.specs.Shape.{Shape}
use Rattle.lists.specs.Options.{◌>>=◌}
use Rattle.argdata_codec.specs.Reading.{field_at, entry_at, items_of, pairs_of}
use Rattle.argdata_codec.specs.Places.{next_turn}
use Rattle.lists.proofs.Chosen.{chosen, none_some, some_is}
use Rattle.argdata_codec.proofs.Fields.{AreBytes, field_again}
use Rattle.lists.proofs.OptionSteps.{bind_some}
use Rattle.argdata_codec.proofs.Loops.{items_end, items_more, pairs_end, pairs_more}
use Rattle.argdata_codec.proofs.Begins.{IsRead, zeros, length_zeros, bytes_zeros, bytes_append}

-- the fields from a turn on, to the end of their container
abbrev pub Fields : (List ℕ → Option Shape) → Turn → List ℕ → Type 0
Fields value turns.Item bytes = IsRead (items_of value bytes)
Fields value turns.Key bytes = IsRead (pairs_of value bytes)
Fields value turns.Value bytes = IsRead (entry_at value bytes >>= λ v. pairs_of value v.1)

-- a field, of whose length these groups came before, and the fields behind it
abbrev pub Field : (List ℕ → Option Shape) → Turn → ℕ → List ℕ → Type 0
Field value turn groups bytes =
    (body : List ℕ) × (rest : List ℕ) × (field_at groups bytes ≡ Some (body, rest)) × IsRead (value body) × Fields value (next_turn turn) rest

-- the container may end at a turn
abbrev pub MayEnd : Turn → Type 0
MayEnd turns.Item = Unit {0}
MayEnd turns.Key = Unit {0}
MayEnd turns.Value = ⊥

-- the container's end, or a field
abbrev pub Rest : (List ℕ → Option Shape) → Turn → ℕ → List ℕ → Type 0
Rest value turn groups bytes = ((groups ≡ 0) × (bytes ≡ []) × MayEnd turn) ⊎ Field value turn groups bytes

-- ---- field by field

-- what follows a step that did not fail
bound : {A B : Type 0} (r : Option A) (f : A → Option B) (x : A) → r ≡ Some x → (r >>= f) ≡ f x
bound {A = A} r f x e = ap (λ (s : Option A). s >>= f) e

entry_read : (value : List ℕ → Option Shape) (bytes : List ℕ) (e : Shape × List ℕ) → entry_at value bytes ≡ Some e → (body : List ℕ) × (field_at 0 bytes ≡ Some (body, e.1)) × IsRead (value body)
entry_read value bytes e h =
    let f = bind_some (field_at 0 bytes) (λ f. value f.0 >>= λ x. Some (x, f.1)) e h in
    let v = bind_some (value f.0.0) (λ x. Some (x, f.0.1)) e f.2 in
    let same : f.0.1 ≡ e.1 = ap (λ (p : Shape × List ℕ). p.1) (some_is (v.0, f.0.1) e v.2) in
    (f.0.0, f.1 ∙ ap (λ (r : List ℕ). Some (f.0.0, r)) same, (v.0, v.1))

entry_made : (value : List ℕ → Option Shape) (bytes body rest : List ℕ) (x : Shape) → field_at 0 bytes ≡ Some (body, rest) → value body ≡ Some x → entry_at value bytes ≡ Some (x, rest)
entry_made value bytes body rest x h k = rw (h, k) refl

-- a length, its bytes and what comes behind have to be there
pub field_needs : (groups : ℕ) (bytes body rest : List ℕ) → field_at groups bytes ≡ Some (body, rest) → suc (128 * groups + length rest) ≤ length bytes
field_needs groups [] body rest e = absurd (none_some (body, rest) e)
field_needs groups (b ∷ bs) body rest e =
    let n = 128 * groups + b in
    elim (chosen (ltb b 128) _ _ _ e) [
      | inl p ↦ elim (chosen (eqb n 0 || ltb (length bs) n) _ _ _ p.1) [
        | inl q ↦ absurd (none_some (body, rest) q.1)
        | inr q ↦ omega (arith, field_needs n bs body rest q.1)
      ]
      | inr p ↦ elim (chosen (ltb (length bs) (n - 128)) _ _ _ p.1) [
        | inl q ↦ absurd (none_some (body, rest) q.1)
        | inr q ↦
            let same : drop (n - 128) bs ≡ rest = ap (λ (x : List ℕ × List ℕ). x.1) (some_is (take (n - 128) bs, drop (n - 128) bs) (body, rest) q.1) in
            omega (arith, ltb-false b 128 p.0, ltb-false (length bs) (n - 128) q.0, length-drop (n - 128) bs, ap length same)
      ]
    ]

field_some : (bytes body rest : List ℕ) → field_at 0 bytes ≡ Some (body, rest) → 0 < length bytes
field_some bytes body rest e = omega (arith, field_needs 0 bytes body rest e)

pub apart : (value : List ℕ → Option Shape) (turn : Turn) (bytes : List ℕ) → Fields value turn bytes → Rest value turn 0 bytes
apart value turns.Item [] h = inl (refl, refl, tt)
apart value turns.Item (b ∷ bs) h =
    let first = bind_some (entry_at value (b ∷ bs)) (λ e. items_of value e.1 >>= λ xs. Some (e.0 ∷ xs)) h.0 (sym (items_more value (b ∷ bs) (omega arith)) ∙ h.1) in
    let others = bind_some (items_of value first.0.1) (λ xs. Some (first.0.0 ∷ xs)) h.0 first.2 in
    let e = entry_read value (b ∷ bs) first.0 first.1 in
    inr (e.0, first.0.1, e.1, e.2, (others.0, others.1))
apart value turns.Key [] h = inl (refl, refl, tt)
apart value turns.Key (b ∷ bs) h =
    let first = bind_some (entry_at value (b ∷ bs)) (λ k. entry_at value k.1 >>= λ v. pairs_of value v.1 >>= λ ps. Some ((k.0, v.0) ∷ ps)) h.0 (sym (pairs_more value (b ∷ bs) (omega arith)) ∙ h.1) in
    let second = bind_some (entry_at value first.0.1) (λ v. pairs_of value v.1 >>= λ ps. Some ((first.0.0, v.0) ∷ ps)) h.0 first.2 in
    let others = bind_some (pairs_of value second.0.1) (λ ps. Some ((first.0.0, second.0.0) ∷ ps)) h.0 second.2 in
    let e = entry_read value (b ∷ bs) first.0 first.1 in
    inr (e.0, first.0.1, e.1, e.2, (others.0, bound (entry_at value first.0.1) (λ v. pairs_of value v.1) second.0 second.1 ∙ others.1))
apart value turns.Value bytes h =
    let first = bind_some (entry_at value bytes) (λ v. pairs_of value v.1) h.0 h.1 in
    let e = entry_read value bytes first.0 first.1 in
    inr (e.0, first.0.1, e.1, e.2, (h.0, first.2))

pub together : (value : List ℕ → Option Shape) (turn : Turn) (bytes : List ℕ) → Rest value turn 0 bytes → Fields value turn bytes
together value turns.Item bytes (inl c) = ([], ap (items_of value) c.1 ∙ items_end value)
together value turns.Key bytes (inl c) = ([], ap (pairs_of value) c.1 ∙ pairs_end value)
together value turns.Value bytes (inl c) = absurd c.2
together value turns.Item bytes (inr f) =
    let one = entry_made value bytes f.0 f.1 f.3.0 f.2 f.3.1 in
    (f.3.0 ∷ f.4.0, items_more value bytes (field_some bytes f.0 f.1 f.2) ∙ rw (one, f.4.1) refl)
together value turns.Key bytes (inr f) =
    let one = entry_made value bytes f.0 f.1 f.3.0 f.2 f.3.1 in
    let second = bind_some (entry_at value f.1) (λ v. pairs_of value v.1) f.4.0 f.4.1 in (
      (f.3.0, second.0.0) ∷ f.4.0,
      pairs_more value bytes (field_some bytes f.0 f.1 f.2)
          ∙ bound (entry_at value bytes) (λ k. entry_at value k.1 >>= λ v. pairs_of value v.1 >>= λ ps. Some ((k.0, v.0) ∷ ps)) (f.3.0, f.1) one
          ∙ bound (entry_at value f.1) (λ v. pairs_of value v.1 >>= λ ps. Some ((f.3.0, v.0) ∷ ps)) second.0 second.1
          ∙ bound (pairs_of value second.0.1) (λ ps. Some ((f.3.0, second.0.0) ∷ ps)) f.4.0 second.2,
    )
together value turns.Value bytes (inr f) =
    let one = entry_made value bytes f.0 f.1 f.3.0 f.2 f.3.1 in
    (f.4.0, rw one f.4.1)

-- ---- what fields need

-- fields from a turn on can be so many bytes
abbrev pub Starts : Turn → ℕ → Type 0
Starts turns.Item size = Unit {0}
Starts turns.Key size = size ≡ 1 → ⊥
Starts turns.Value size = 0 < size

value_starts : (value : List ℕ → Option Shape) (bytes : List ℕ) → Rest value turns.Value 0 bytes → 0 < length bytes
value_starts value bytes (inl c) = absurd c.2
value_starts value bytes (inr f) = field_some bytes f.0 f.1 f.2

key_starts : (value : List ℕ → Option Shape) (bytes : List ℕ) → Rest value turns.Key 0 bytes → length bytes ≡ 1 → ⊥
key_starts value bytes (inl c) one = omega (arith, one, ap length c.1)
key_starts value bytes (inr f) one = omega (arith, one, field_needs 0 bytes f.0 f.1 f.2, value_starts value f.1 (apart value turns.Value f.1 f.4))

pub fields_start : (value : List ℕ → Option Shape) (turn : Turn) (bytes : List ℕ) → Fields value turn bytes → Starts turn (length bytes)
fields_start value turns.Item bytes h = tt
fields_start value turns.Key bytes h = key_starts value bytes (apart value turns.Key bytes h)
fields_start value turns.Value bytes h = value_starts value bytes (apart value turns.Value bytes h)

-- ---- there are fields of each such length

-- a value of so many bytes
abbrev pub blank : ℕ → List ℕ
blank zero = []
blank (suc n) = 1 ∷ zeros n

pub length_blank : (n : ℕ) → length (blank n) ≡ n
length_blank zero = refl
length_blank (suc n) = ap suc (length_zeros n)

pub bytes_blank : (n : ℕ) → AreBytes (blank n)
bytes_blank zero = tt
bytes_blank (suc n) = (omega arith, bytes_zeros n)

-- each blank is read
abbrev pub Blanks : (List ℕ → Option Shape) → Type 0
Blanks value = (n : ℕ) → IsRead (value (blank n))

-- a field of a blank value, behind these groups
pub one_field : (value : List ℕ → Option Shape) → Blanks value → (turn : Turn) (groups low : ℕ) (rest : List ℕ) → low < 128 → Fields value (next_turn turn) rest
    → Field value turn groups ((128 + low) ∷ (blank (128 * groups + low) ++ rest))
one_field value reads turn groups low rest lt h =
    let size = 128 * groups + low in
    let len : length (blank size) ≡ size = length_blank size in
    let is : field_at groups ((128 + low) ∷ (blank size ++ rest)) ≡ Some (blank size, rest) =
    field_again groups ((128 + low) ∷ []) (blank size) rest (omega arith, omega (arith, lt), omega (arith, len)) in
    (blank size, rest, is, reads size, h)

-- a list of bytes that has a length
pub record Filled (L : List ℕ → Type 0) (size : ℕ) : Type 0 where
  pub bytes : List ℕ
  pub fits : AreBytes bytes
  pub are : L bytes
  pub length : length bytes ≡ size

filled_field : (value : List ℕ → Option Shape) → Blanks value → (turn : Turn) (low size : ℕ) → low < 128 → Filled (Fields value (next_turn turn)) size → Filled (Fields value turn) (suc (low + size))
filled_field value reads turn low size lt h = record {
  bytes = (128 + low) ∷ (blank (128 * 0 + low) ++ h.bytes);
  fits = (omega (arith, lt), bytes_append (blank (128 * 0 + low)) h.bytes (bytes_blank (128 * 0 + low)) h.fits);
  are = together value turn _ (inr (one_field value reads turn 0 low h.bytes lt h.are));
  length = omega (arith, length-append (blank (128 * 0 + low)) h.bytes, length_blank (128 * 0 + low), h.length);
}

fill_items : (value : List ℕ → Option Shape) → Blanks value → (size : ℕ) → Filled (Fields value turns.Item) size
fill_items value reads zero = record { bytes = []; fits = tt; are = ([], items_end value); length = refl }
fill_items value reads (suc size) = subst (Filled (Fields value turns.Item)) (omega arith) (filled_field value reads turns.Item 0 size (omega arith) (fill_items value reads size))

no_pairs : (value : List ℕ → Option Shape) → Filled (Fields value turns.Key) 0
no_pairs value = record { bytes = []; fits = tt; are = ([], pairs_end value); length = refl }

mutual
  fill_pairs : (value : List ℕ → Option Shape) → Blanks value → (size : ℕ) → (size ≡ 1 → ⊥) → Filled (Fields value turns.Key) size
  fill_pairs value reads zero h = no_pairs value
  fill_pairs value reads (suc zero) h = absurd (h refl)
  fill_pairs value reads (suc (suc size)) h = subst (Filled (Fields value turns.Key)) (omega arith) (filled_field value reads turns.Key 0 (suc size) (omega arith) (fill_value value reads (suc size) (omega arith)))

  fill_value : (value : List ℕ → Option Shape) → Blanks value → (size : ℕ) → 0 < size → Filled (Fields value turns.Value) size
  fill_value value reads zero h = absurd (omega (arith, h))
  fill_value value reads (suc zero) h = filled_field value reads turns.Value 0 0 (omega arith) (no_pairs value)
  fill_value value reads (suc (suc zero)) h = filled_field value reads turns.Value 1 0 (omega arith) (no_pairs value)
  fill_value value reads (suc (suc (suc size))) h =
      subst (Filled (Fields value turns.Value)) (omega arith) (filled_field value reads turns.Value 0 (suc (suc size)) (omega arith) (fill_pairs value reads (suc (suc size)) (λ e. omega (arith, e))))

pub fills : (value : List ℕ → Option Shape) → Blanks value → (turn : Turn) (size : ℕ) → Starts turn size → Filled (Fields value turn) size
fills value reads turns.Item size h = fill_items value reads size
fills value reads turns.Key size h = fill_pairs value reads size h
fills value reads turns.Value size h = fill_value value reads size h
