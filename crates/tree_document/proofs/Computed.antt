-- What is computed of a text is what the text means, or where it is faulty.
use Rattle.std.proofs.Common.{◌≡◌, ℕ, zero, suc, ◌-◌, ◌≤◌, if◌then◌else◌, List, [], ◌∷◌, ◌++◌, length, Option, Some, None, Result, Ok, Err, inl, inr, refl, sym, ap, subst, ◌∙◌, arith}
use Rattle.lists.specs.Options.{◌>>=◌}
use Rattle.lists.proofs.Chosen.{chosen, none_some, some_is}
use Rattle.lists.proofs.OptionSteps.{bind_some}
use Rattle.abi_types.specs.declared.node.Times.{Times}
use Rattle.tree_model.specs.Tree.{Tree}
use Rattle.tree_records.specs.Reading.{record_at}
use Rattle.tree_records.specs.Records.{Record, IsRecord, encoded}
use Rattle.tree_records.proofs.RecordTexts.{record_again, record_found, encoded_some}
use Rattle.tree_document.specs.Building.{IsAllowed, Making, start, with_record}
use Rattle.tree_document.specs.Documents.{IsFaultyAt, IsNoRecord, Means}
use Rattle.tree_document.specs.Meaning.{from_next, is_allowed, meaning, meaning_within, next_at}
use Rattle.tree_document.proofs.Allowed.{allowed_from_test, test_from_allowed}
use Rattle.tree_document.proofs.Documents.{Behind, behind_end, behind_fault, behind_more, behind_start}
use Rattle.tree_document.proofs.Meanings.{one_fault, one_tree, tree_or_fault}

-- ---- the next record

abbrev if_allowed : Making → Option (Record × List ℕ) → Option (Record × List ℕ)
if_allowed m o = o >>= λ next. if is_allowed m next.0 then Some next else None

next_found : (m : Making) (text : List ℕ) (next : Record × List ℕ) → next_at m text ≡ Some next
    → IsRecord next.0 × IsAllowed m next.0 × (text ≡ encoded next.0 ++ next.1)
next_found m text next e =
    let read = bind_some (record_at text) (λ x. if is_allowed m x.0 then Some x else None) next e in
    elim (chosen (is_allowed m read.0.0) (Some read.0) None (Some next) read.2) [
      | inl here ↦
          let same = some_is read.0 next here.1 in
          let found = record_found text next.0 next.1 (read.1 ∙ ap (λ (x : Record × List ℕ). Some x) same) in
          (found.0, allowed_from_test m next.0 (sym (ap (λ (x : Record × List ℕ). is_allowed m x.0) same) ∙ here.0), found.1)
      | inr none ↦ absurd (none_some next none.1)
    ]

no_next : (m : Making) (text : List ℕ) → next_at m text ≡ None → IsNoRecord m text
no_next m text none r more fits here same =
    none_some (r, more)
    (sym none ∙ ap (if_allowed m) (ap record_at same ∙ record_again r more fits)
    ∙ ap (λ b. if b then Some (r, more) else None) (test_from_allowed m r here))

-- ---- the whole text

-- what is said of a text is so
abbrev IsSo : Times → List ℕ → Result Tree ℕ → Type 0
IsSo times bytes (Ok t) = Means times bytes t
IsSo times bytes (Err byte) = IsFaultyAt times bytes byte

module _ (times : Times) (bytes : List ℕ) where
  within_so : (fuel : ℕ) (m : Making) (text : List ℕ) → Behind times bytes text m → length text ≤ fuel
      → IsSo times bytes (meaning_within fuel (length bytes) m text)
  within_so fuel m [] h few = behind_end times bytes [] m h refl
  within_so zero m (b ∷ bs) h few = absurd (omega arith)
  within_so (suc fuel) m (b ∷ bs) h few =
      elim (next_at m (b ∷ bs)) as (λ o. next_at m (b ∷ bs) ≡ o
      → IsSo times bytes (from_next (length bytes - length (b ∷ bs)) (λ next. meaning_within fuel (length bytes) (with_record m next.0) next.1) o)) [
        | None ↦ λ none. behind_fault times bytes (b ∷ bs) m (length bytes - length (b ∷ bs)) h (omega arith) refl (no_next m (b ∷ bs) none)
        | Some next ↦ λ there.
            let found = next_found m (b ∷ bs) next there in
            let shorter = encoded_some next.0 next.1 in
            let size = ap length found.2 in
            within_so fuel (with_record m next.0) next.1
            (behind_more times bytes (b ∷ bs) next.1 m (with_record m next.0) next.0 h found.0 found.1 found.2 refl) (omega arith)
      ] refl

  meaning_so : IsSo times bytes (meaning times bytes)
  unfolding meaning
  meaning_so = within_so (length bytes) (start times) bytes (behind_start times bytes (start times) refl) (omega arith)

  pub means_from : (t : Tree) → meaning times bytes ≡ Ok t → Means times bytes t
  means_from t e = subst (IsSo times bytes) e meaning_so

  pub fault_from : (byte : ℕ) → meaning times bytes ≡ Err byte → IsFaultyAt times bytes byte
  fault_from byte e = subst (IsSo times bytes) e meaning_so

  pub meaning_of : (t : Tree) → Means times bytes t → meaning times bytes ≡ Ok t
  meaning_of t h =
      elim (meaning times bytes) as (λ r. IsSo times bytes r → r ≡ Ok t) [
        | Ok u ↦ λ so. ap (λ (x : Tree). Ok x) (one_tree times bytes u t so h)
        | Err byte ↦ λ so. absurd (tree_or_fault times bytes t byte h so)
      ] meaning_so

  pub meaning_at : (byte : ℕ) → IsFaultyAt times bytes byte → meaning times bytes ≡ Err byte
  meaning_at byte h =
      elim (meaning times bytes) as (λ r. IsSo times bytes r → r ≡ Err byte) [
        | Ok t ↦ λ so. absurd (tree_or_fault times bytes t byte so h)
        | Err other ↦ λ so. ap (λ (n : ℕ). Err n) (one_fault times bytes other byte so h)
      ] meaning_so
