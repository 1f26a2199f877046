-- A text has one meaning, or one first fault.
use Rattle.std.proofs.Common.{◌≡◌, ◌⊎◌, inl, inr, ℕ, List, [], ◌∷◌, ◌++◌, length, refl, sym, ap, subst, ◌∙◌, append_assoc, arith}
use Rattle.std.proofs.lemmas.List.{append-nil}
use Rattle.abi_types.specs.declared.node.Times.{Times}
use Rattle.tree_model.specs.Tree.{Tree}
use Rattle.tree_records.specs.Records.{Record, encoded}
use Rattle.tree_records.proofs.RecordTexts.{one_record, encoded_some}
use Rattle.tree_document.specs.Building.{Making, start, with_record}
use Rattle.tree_document.specs.Documents.{AreAllowed, IsFaultyAt, IsNoRecord, Means, document, with_records}

-- more records follow the first ones in a list, and their texts fill what is left of the first ones' text
record Longer (m : Making) (few many : List Record) (a b : List ℕ) : Type 0 where
  more : List Record
  is : many ≡ few ++ more
  allowed : AreAllowed (with_records m few) more
  text : a ≡ document more ++ b

longer_more : (m : Making) (r : Record) (few many : List Record) (a b : List ℕ) → Longer (with_record m r) few many a b → Longer m (r ∷ few) (r ∷ many) a b
longer_more m r few many a b h = record { more = h.more; is = ap (λ (rs : List Record). r ∷ rs) h.is; allowed = h.allowed; text = h.text }

-- of two lists of records whose texts begin alike, one begins the other
one_begins : (m : Making) (rs ss : List Record) (a b : List ℕ) → AreAllowed m rs → AreAllowed m ss → document rs ++ a ≡ document ss ++ b
    → Longer m rs ss a b ⊎ Longer m ss rs b a
one_begins m [] ss a b h k e = inl (record { more = ss; is = refl; allowed = k; text = e })
one_begins m (r ∷ rs) [] a b h k e = inr (record { more = r ∷ rs; is = refl; allowed = h; text = sym e })
one_begins m (r ∷ rs) (s ∷ ss) a b h k e =
    let both = one_record r s (document rs ++ a) (document ss ++ b) h.0 k.0
    (sym (append_assoc (encoded r) (document rs) a) ∙ e ∙ append_assoc (encoded s) (document ss) b) in
    let later = one_begins (with_record m r) rs ss a b h.2 (subst (λ (x : Record). AreAllowed (with_record m x) ss) (sym both.0) k.2) both.1 in
    subst (λ (x : Record). Longer m (r ∷ rs) (x ∷ ss) a b ⊎ Longer m (x ∷ ss) (r ∷ rs) b a) both.0
    (elim later [ inl one ↦ inl (longer_more m r rs ss a b one) | inr one ↦ inr (longer_more m r ss rs b a one) ])

-- what begins with no record has no more records in front
none_more : (m : Making) (more : List Record) (text rest : List ℕ) → IsNoRecord m text → AreAllowed m more → text ≡ document more ++ rest → (more ≡ []) × (text ≡ rest)
none_more m [] text rest none h e = (refl, e)
none_more m (r ∷ more) text rest none h e = absurd (none r (document more ++ rest) h.0 h.1 (e ∙ append_assoc (encoded r) (document more) rest))

-- nothing has no records
empty_more : (more : List Record) (rest : List ℕ) → [] ≡ document more ++ rest → (more ≡ []) × (rest ≡ [])
empty_more [] rest e = (refl, sym e)
empty_more (r ∷ more) rest e =
    let some = encoded_some r (document more ++ rest) in
    let size = ap length (e ∙ append_assoc (encoded r) (document more) rest) in
    absurd (omega arith)

same_records : (m : Making) (few many : List Record) (b : List ℕ) → Longer m few many [] b → many ≡ few
same_records m few many b h = h.is ∙ ap (λ (rs : List Record). few ++ rs) (empty_more h.more b h.text).0 ∙ append-nil few

pub one_tree : (times : Times) (bytes : List ℕ) (t u : Tree) → Means times bytes t → Means times bytes u → t ≡ u
one_tree times bytes t u h k =
    let texts = append-nil (document h.records) ∙ sym h.text ∙ k.text ∙ sym (append-nil (document k.records)) in
    let same : h.records ≡ k.records = elim (one_begins (start times) h.records k.records [] [] h.allowed k.allowed texts) [
      | inl one ↦ sym (same_records (start times) h.records k.records [] one)
      | inr one ↦ same_records (start times) k.records h.records [] one
    ] in
    h.tree ∙ ap (λ (rs : List Record). (with_records (start times) rs).tree) same ∙ sym k.tree

pub tree_or_fault : (times : Times) (bytes : List ℕ) (t : Tree) (byte : ℕ) → Means times bytes t → IsFaultyAt times bytes byte → ⊥
tree_or_fault times bytes t byte h k =
    elim (one_begins (start times) h.records k.before [] k.rest h.allowed k.allowed (append-nil (document h.records) ∙ sym h.text ∙ k.text)) [
      | inl one ↦ k.some (empty_more one.more k.rest one.text).1
      | inr one ↦ k.some (none_more (with_records (start times) k.before) one.more k.rest [] k.none one.allowed one.text).1
    ]

no_longer : (times : Times) (few many : List Record) (a b : List ℕ) → IsNoRecord (with_records (start times) few) a → Longer (start times) few many a b → length (document few) ≡ length (document many)
no_longer times few many a b none h =
    ap (λ (rs : List Record). length (document rs))
    (sym (h.is ∙ ap (λ (rs : List Record). few ++ rs) (none_more (with_records (start times) few) h.more a b none h.allowed h.text).0 ∙ append-nil few))

pub one_fault : (times : Times) (bytes : List ℕ) (a b : ℕ) → IsFaultyAt times bytes a → IsFaultyAt times bytes b → a ≡ b
one_fault times bytes a b h k =
    elim (one_begins (start times) h.before k.before h.rest k.rest h.allowed k.allowed (sym h.text ∙ k.text)) [
      | inl one ↦ h.place ∙ no_longer times h.before k.before h.rest k.rest h.none one ∙ sym k.place
      | inr one ↦ h.place ∙ sym (no_longer times k.before h.before k.rest h.rest k.none one) ∙ sym k.place
    ]
