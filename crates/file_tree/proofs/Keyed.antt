-- How the slots by number change with the slab and the keys.
use Rattle.std.proofs.Common.{◌≡◌, ◌≢◌, ℕ, Bool, inl, inr, Option, Some, None, IsSome, is_some, option_map, refl, sym, ap, ◌∙◌}
use Rattle.std.proofs.lemmas.Bool.Decides.{eqb_tells}
use Rattle.std.proofs.lemmas.Option.{same_Some}
use Rattle.std.specs.Ordering.{nat_cmp}
use Rattle.std.specs.FinMap as map
use Rattle.std.specs.FinMap.{FinMap, get-empty}
use Rattle.slab.specs.Slab.{Slab, get, with_value, Updates}
use Rattle.slab.proofs.SlabLemmas.{Updates-with_value}
use Rattle.maps.specs.Closure.{get-changed, changed-empty}
use Rattle.maps.specs.Maps.{get-insert-same, get-insert-other, get-remove-same, get-remove-other, passes, least_key, least_same, same_around, remove_absent}
use Rattle.file_tree.specs.declared.slot.Slot.{Slot}
use Rattle.file_tree.specs.Slots.{slot_or, slots_of, IsKeyed}

abbrev pub Keys : Type 0
Keys = FinMap nat_cmp ℕ

-- ---- no slot

pub slots_empty : (slab : Slab Slot) (keys : Keys) → keys ≡ map.empty → slots_of slab keys ≡ map.empty
slots_empty slab keys none = ap (slots_of slab) none ∙ changed-empty (λ (_ : ℕ) (key : ℕ). slot_or (get slab key))

no_key : (keys : Keys) (n key : ℕ) → keys ≡ map.empty → map.get keys n ≢ Some key
no_key keys n key none there =
    let gone : map.get keys n ≡ None = ap (λ (m : Keys). map.get m n) none ∙ get-empty nat_cmp n in
    cc

pub keyed_empty : (slab : Slab Slot) (keys : Keys) → keys ≡ map.empty → IsKeyed slab keys
keyed_empty slab keys none = record {
  there = λ n key there. absurd (no_key keys n key none there);
  apart = λ n m key there also. absurd (no_key keys n key none there);
}

-- ---- what is found

-- what a number's slot is, by the key of the number
abbrev pub found : Slab Slot → Option ℕ → Option Slot
found slab None = None
found slab (Some key) = get slab key

or_slot : (o : Option Slot) → IsSome o → Some (slot_or o) ≡ o
or_slot None there = absurd (cc)
or_slot (Some s) there = refl

mapped : (slab : Slab Slot) (o : Option ℕ) → ((key : ℕ) → o ≡ Some key → IsSome (get slab key)) → option_map (λ key. slot_or (get slab key)) o ≡ found slab o
mapped slab None there = refl
mapped slab (Some key) there = or_slot (get slab key) (there key refl)

module _ (slab : Slab Slot) (keys : Keys) (keyed : IsKeyed slab keys) where
  pub slot_at : (n : ℕ) → map.get (slots_of slab keys) n ≡ found slab (map.get keys n)
  slot_at n = get-changed (λ (_ : ℕ) (key : ℕ). slot_or (get slab key)) keys n ∙ mapped slab (map.get keys n) (keyed.there n)

  -- a number with a slot has a key, and one without has none
  pub has_key : (n : ℕ) → IsSome (map.get (slots_of slab keys) n) → IsSome (map.get keys n)
  has_key n there =
      elim (map.get keys n) as (λ o. map.get (slots_of slab keys) n ≡ found slab o → IsSome o) [
        | None ↦ λ e. absurd (cc)
        | Some key ↦ λ e. refl
      ] (slot_at n)

  pub lacks_key : (n : ℕ) → map.get (slots_of slab keys) n ≡ None → map.get keys n ≡ None
  lacks_key n gone =
      elim (map.get keys n) as (λ o. map.get keys n ≡ o → o ≡ None) [
        | None ↦ λ e. refl
        | Some key ↦ λ e. let there = keyed.there n key e in let same = slot_at n ∙ ap (found slab) e in absurd (cc)
      ] refl
  -- ---- changes

-- what is found at each number, where the slots of the numbers other than n stay
same_found : (slab new : Slab Slot) (o : Option ℕ) → ((key : ℕ) → o ≡ Some key → get new key ≡ get slab key) → found new o ≡ found slab o
same_found slab new None same = refl
same_found slab new (Some key) same = same key refl

module _ (slab new : Slab Slot) (keys : Keys) (n key : ℕ) (slot : Option Slot) (keyed : IsKeyed slab keys) (updates : Updates slab new key slot) where
  -- a key that is the number's: no other number's slot changes
  others_apart : map.get keys n ≡ Some key → (q k : ℕ) → q ≢ n → map.get keys q ≡ Some k → get new k ≡ get slab k
  others_apart there q k other is = updates.others k (λ same. other (keyed.apart q n key (is ∙ ap Some same) there))

  -- a key without a slot: no number's slot changes
  others_free : get slab key ≡ None → (q k : ℕ) → map.get keys q ≡ Some k → get new k ≡ get slab k
  others_free free q k is =
      updates.others k (λ same. let there = keyed.there q k is in let none : get slab k ≡ None = ap (get slab) same ∙ free in absurd (cc))

-- another slot at a number's key
module _ (slab new : Slab Slot) (keys : Keys) (n key : ℕ) (s : Slot) (keyed : IsKeyed slab keys) (there : map.get keys n ≡ Some key) (updates : Updates slab new key (Some s)) where
  pub keyed_set : IsKeyed new keys
  keyed_set = record {
    there = λ q k is. elim (eqb_tells q n) [
      | inl same ↦ let one : k ≡ key = same_Some k key (sym is ∙ ap (map.get keys) same.1 ∙ there) in ap is_some (ap (get new) one ∙ updates.changed)
      | inr other ↦ ap is_some (others_apart slab new keys n key (Some s) keyed updates there q k other.1 is) ∙ keyed.there q k is
    ];
    apart = keyed.apart;
  }

  pub slots_set : slots_of new keys ≡ map.insert (slots_of slab keys) n s
  slots_set =
      same_around _ _ n
      (slot_at new keys keyed_set n ∙ ap (found new) there ∙ updates.changed ∙ sym (get-insert-same (slots_of slab keys) n s))
      (λ q other.
      slot_at new keys keyed_set q
      ∙ same_found slab new (map.get keys q) (λ k is. others_apart slab new keys n key (Some s) keyed updates there q k other is)
      ∙ sym (get-insert-other (slots_of slab keys) n s q other ∙ slot_at slab keys keyed q))

-- a slot at a new number, under a key that had none
module _ (slab new : Slab Slot) (keys more : Keys) (n key : ℕ) (s : Slot) (keyed : IsKeyed slab keys) (free : get slab key ≡ None) (gone : map.get keys n ≡ None) (updates : Updates slab new key (Some s)) (put : more ≡ map.insert keys n key) where
  key_of_new : map.get more n ≡ Some key
  key_of_new = ap (λ (m : Keys). map.get m n) put ∙ get-insert-same keys n key

  key_of_other : (q : ℕ) → q ≢ n → map.get more q ≡ map.get keys q
  key_of_other q other = ap (λ (m : Keys). map.get m q) put ∙ get-insert-other keys n key q other

  -- no other number has the key
  apart_new : (q : ℕ) → q ≢ n → map.get more q ≢ Some key
  apart_new q other is = let there = keyed.there q key (sym (key_of_other q other) ∙ is) in absurd (cc)

  pub keyed_put : IsKeyed new more
  keyed_put = record {
    there = λ q k is. elim (eqb_tells q n) [
      | inl same ↦ let one : k ≡ key = same_Some k key (sym is ∙ ap (map.get more) same.1 ∙ key_of_new) in ap is_some (ap (get new) one ∙ updates.changed)
      | inr other ↦
          let was = sym (key_of_other q other.1) ∙ is in
          ap is_some (others_free slab new keys n key (Some s) keyed updates free q k was) ∙ keyed.there q k was
    ];
    apart = λ q m k is also. elim (eqb_tells q n) [
      | inl same ↦ elim (eqb_tells m n) [
        | inl too ↦ same.1 ∙ sym too.1
        | inr other ↦
            let one : k ≡ key = same_Some k key (sym is ∙ ap (map.get more) same.1 ∙ key_of_new) in
            absurd (apart_new m other.1 (also ∙ ap Some one))
      ]
      | inr other ↦ elim (eqb_tells m n) [
        | inl too ↦
            let one : k ≡ key = same_Some k key (sym also ∙ ap (map.get more) too.1 ∙ key_of_new) in
            absurd (apart_new q other.1 (is ∙ ap Some one))
        | inr both ↦ keyed.apart q m k (sym (key_of_other q other.1) ∙ is) (sym (key_of_other m both.1) ∙ also)
      ]
    ];
  }

  pub slots_put : slots_of new more ≡ map.insert (slots_of slab keys) n s
  slots_put =
      same_around _ _ n
      (slot_at new more keyed_put n ∙ ap (found new) key_of_new ∙ updates.changed ∙ sym (get-insert-same (slots_of slab keys) n s))
      (λ q other.
      slot_at new more keyed_put q ∙ ap (found new) (key_of_other q other)
      ∙ same_found slab new (map.get keys q) (λ k is. others_free slab new keys n key (Some s) keyed updates free q k is)
      ∙ sym (get-insert-other (slots_of slab keys) n s q other ∙ slot_at slab keys keyed q))

-- a number's slot goes, and its key
module _ (slab new : Slab Slot) (keys less : Keys) (n key : ℕ) (keyed : IsKeyed slab keys) (there : map.get keys n ≡ Some key) (updates : Updates slab new key None) (gone : less ≡ map.remove keys n) where
  key_of_gone : map.get less n ≡ None
  key_of_gone = ap (λ (m : Keys). map.get m n) gone ∙ get-remove-same keys n

  key_of_left : (q : ℕ) → q ≢ n → map.get less q ≡ map.get keys q
  key_of_left q other = ap (λ (m : Keys). map.get m q) gone ∙ get-remove-other keys n q other

  -- a number that still has a key is another one
  is_left : (q k : ℕ) → map.get less q ≡ Some k → (q ≢ n) × (map.get keys q ≡ Some k)
  is_left q k is =
      elim (eqb_tells q n) [
        | inl same ↦ let none : map.get less q ≡ None = ap (map.get less) same.1 ∙ key_of_gone in absurd (cc)
        | inr other ↦ (other.1, sym (key_of_left q other.1) ∙ is)
      ]

  pub keyed_gone : IsKeyed new less
  keyed_gone = record {
    there = λ q k is.
        let was = is_left q k is in
        ap is_some (others_apart slab new keys n key None keyed updates there q k was.0 was.1) ∙ keyed.there q k was.1;
    apart = λ q m k is also. keyed.apart q m k (is_left q k is).1 (is_left m k also).1;
  }

  pub slots_gone : slots_of new less ≡ map.remove (slots_of slab keys) n
  slots_gone =
      same_around _ _ n
      (slot_at new less keyed_gone n ∙ ap (found new) key_of_gone ∙ sym (get-remove-same (slots_of slab keys) n))
      (λ q other.
      slot_at new less keyed_gone q ∙ ap (found new) (key_of_left q other)
      ∙ same_found slab new (map.get keys q) (λ k is. others_apart slab new keys n key None keyed updates there q k other is)
      ∙ sym (get-remove-other (slots_of slab keys) n q other ∙ slot_at slab keys keyed q))

-- room for more slots changes nothing
pub keyed_roomy : (slab roomy : Slab Slot) (keys : Keys) → roomy ≡ record slab { capacity = roomy.capacity } → IsKeyed slab keys → IsKeyed roomy keys
keyed_roomy slab roomy keys same keyed = record {
  there = λ n key is. (λ i. is_some (get (same i) key)) ∙ keyed.there n key is;
  apart = keyed.apart;
}

pub slots_roomy : (slab roomy : Slab Slot) (keys : Keys) → roomy ≡ record slab { capacity = roomy.capacity } → slots_of roomy keys ≡ slots_of slab keys
slots_roomy slab roomy keys same = λ i. slots_of (same i) keys

-- the least number with a slot is the least one with a key

passes_alike : {A B : Type 0} (test : ℕ → Bool) (f : A → B) (q : ℕ) (o : Option A) → passes (λ n _. test n) q o ≡ passes (λ n _. test n) q (option_map f o)
passes_alike test f q None = refl
passes_alike test f q (Some x) = refl

pub seen_least : (slab : Slab Slot) (keys : Keys) (m : FinMap nat_cmp Slot) → slots_of slab keys ≡ m → (test : ℕ → Bool)
    → least_key (λ n _. test n) keys ≡ least_key (λ n _. test n) m
seen_least slab keys m view test =
    least_same (λ n _. test n) (λ n _. test n) keys m (λ q.
    passes_alike test (λ key. slot_or (get slab key)) q (map.get keys q)
    ∙ ap (passes (λ n _. test n) q) (sym (get-changed (λ (_ : ℕ) (key : ℕ). slot_or (get slab key)) keys q) ∙ (λ i. map.get (view i) q)))

-- ---- what contracts see, where they see the slots as m and the number as n

module _ (slab : Slab Slot) (keys : Keys) (keyed : IsKeyed slab keys) (m : FinMap nat_cmp Slot) (view : slots_of slab keys ≡ m) (k n : ℕ) (id : k ≡ n) where
  pub seen : found slab (map.get keys k) ≡ map.get m n
  seen = sym (slot_at slab keys keyed k) ∙ (λ i. map.get (view i) (id i))

  pub seen_none : None ≡ map.get keys k → None ≡ map.get m n
  seen_none gone = ap (found slab) gone ∙ seen

  pub seen_some : (key : ℕ) → Some key ≡ map.get keys k → get slab key ≡ map.get m n
  seen_some key there = ap (found slab) there ∙ seen

  pub seen_key : IsSome (map.get m n) → IsSome (map.get keys k)
  seen_key there = has_key slab keys keyed k ((λ i. is_some (map.get (view i) (id i))) ∙ there)

  pub seen_free : map.get m n ≡ None → map.get keys k ≡ None
  seen_free gone = lacks_key slab keys keyed k ((λ i. map.get (view i) (id i)) ∙ gone)

  -- a slot is set in place
  pub seen_set : (key : ℕ) → Some key ≡ map.get keys k → (w : Slot) → slots_of (with_value slab key w) keys ≡ map.insert m n w
  seen_set key there w =
      slots_set slab _ keys k key w keyed (sym there) (Updates-with_value slab key w (keyed.there k key (sym there)))
      ∙ (λ i. map.insert (view i) (id i) w)

  -- one comes
  module _ (new : Slab Slot) (more : Keys) (key : ℕ) (s : Slot) (free : get slab key ≡ None) (gone : map.get m n ≡ None) (updates : Updates slab new key (Some s)) (put : more ≡ map.insert keys k key) where
    pub seen_keyed_put : IsKeyed new more
    seen_keyed_put = keyed_put slab new keys more k key s keyed free (seen_free gone) updates put

    pub seen_put : slots_of new more ≡ map.insert m n s
    seen_put = slots_put slab new keys more k key s keyed free (seen_free gone) updates put ∙ (λ i. map.insert (view i) (id i) s)

  -- one goes
  module _ (new : Slab Slot) (less : Keys) (key : ℕ) (there : Some key ≡ map.get keys k) (updates : Updates slab new key None) (gone : less ≡ map.remove keys k) where
    pub seen_keyed_gone : IsKeyed new less
    seen_keyed_gone = keyed_gone slab new keys less k key keyed (sym there) updates gone

    pub seen_gone : slots_of new less ≡ map.remove m n
    seen_gone = slots_gone slab new keys less k key keyed (sym there) updates gone ∙ (λ i. map.remove (view i) (id i))

  -- nothing goes where there is nothing
  module _ (less : Keys) (none : None ≡ map.get keys k) (gone : less ≡ map.remove keys k) where
    as_it_was : less ≡ keys
    as_it_was = gone ∙ remove_absent keys k (sym none)

    pub seen_keyed_same : IsKeyed slab less
    seen_keyed_same = rw as_it_was keyed

    pub seen_same : slots_of slab less ≡ map.remove m n
    seen_same = ap (slots_of slab) as_it_was ∙ view ∙ sym (remove_absent m n (sym (seen_none none)))
