-- The program's text assembles for each number of children, to as many bytes.
use Rattle.std.proofs.Common.{◌≡◌, ℕ, zero, suc, ◌+◌, ◌-◌, ◌≤◌, ◌<◌, Bool, true, ◌&&◌, nat_eq, inl, inr, List, [], ◌∷◌, length, Option, None, Some, refl, ap, ap₂, subst, ◌∙◌, arith, length-append, eqb-true}
use Rattle.std.proofs.lemmas.Bool.{and_parts, cases_lt}
use Rattle.std.proofs.lemmas.Bool.Decides.{Decides-below_and}
use Rattle.std.specs.Fmt.{digits}
use Rattle.std.specs.Option.{is_none}
use Rattle.rv_asm.specs.Instructions.{registers_of, immediate_of, offset_of, store_of, upper_of, branch_of, jump_of, plain_of}
use Rattle.rv_asm.specs.Lines.{Assembles, AreBytesFrom, first_fault, item_at, item_of, label_of, labelled_of, labels_of, line_item, size_of, size_of_content, with_label}
use Rattle.rv_syntax.specs.Mnemonics.{atomic_of, form_of}
use Rattle.rv_syntax.specs.Numbers.{number_of, number_within}
use Rattle.rv_syntax.specs.Operands.{closed_register_of, distance_of, memory_of, pair_of, target_of, triple_of}
use Rattle.rv_syntax.specs.Text.{lines_of}
use Rattle.guest_kit.specs.Programs.{program_text}

-- how many bytes lines take
abbrev lines_length : List (List ℕ) → ℕ
lines_length [] = 0
lines_length (line ∷ lines) = size_of line + lines_length lines

-- bytes of lines are so many
length_is : (labels before : List (List ℕ × Option ℕ)) (here : ℕ) (lines : List (List ℕ)) (out : List ℕ) → AreBytesFrom labels before here lines out → length out ≡ lines_length lines
length_is labels before here [] out h = ap length h
length_is labels before here (line ∷ lines) out h =
    ap length h.6 ∙ length-append h.1 h.2
    ∙ ap₂ (λ a b. a + b) h.5 (length_is labels (with_label before here (label_of line)) (here + size_of line) lines h.2 h.7)

-- whether the text for n children has no fault, and takes 968 bytes
abbrev is_whole : ℕ → Bool
is_whole n = is_none (first_fault (program_text n)) && nat_eq (lines_length (lines_of (program_text n))) 968

-- the same of so many numbers, from one on
abbrev are_whole : ℕ → ℕ → Bool
are_whole from zero = true
are_whole from (suc count) = is_whole (from + count) && are_whole from count

-- Each text is computed. A computation has a limit, so there are three.
computed_0 : are_whole 0 43 ≡ true
unfolding
    program_text labelled_of size_of_content item_at item_of line_item
    registers_of immediate_of offset_of store_of upper_of branch_of jump_of plain_of form_of atomic_of
    number_of number_within pair_of triple_of closed_register_of memory_of distance_of target_of digits
computed_0 = refl

computed_43 : are_whole 43 43 ≡ true
unfolding
    program_text labelled_of size_of_content item_at item_of line_item
    registers_of immediate_of offset_of store_of upper_of branch_of jump_of plain_of form_of atomic_of
    number_of number_within pair_of triple_of closed_register_of memory_of distance_of target_of digits
computed_43 = refl

computed_86 : are_whole 86 43 ≡ true
unfolding
    program_text labelled_of size_of_content item_at item_of line_item
    registers_of immediate_of offset_of store_of upper_of branch_of jump_of plain_of form_of atomic_of
    number_of number_within pair_of triple_of closed_register_of memory_of distance_of target_of digits
computed_86 = refl

one_whole : (from n : ℕ) → are_whole from 43 ≡ true → from ≤ n → n < from + 43 → is_whole n ≡ true
one_whole from n computed low high =
    let all = (Decides-below_and (λ k. is_whole (from + k)) (λ k. is_whole (from + k) ≡ true) (are_whole from) (λ k. (λ h. h, λ h. h)) refl (λ _. refl) 43).0 computed in
    let e : from + (n - from) ≡ n = omega arith in
    subst (λ k. is_whole k ≡ true) e (all (n - from) (omega arith))

whole : (n : ℕ) → n ≤ 128 → is_whole n ≡ true
whole n h =
    elim (cases_lt n 43) [
      | inl first ↦ one_whole 0 n computed_0 (omega arith) (omega arith)
      | inr other ↦ elim (cases_lt n 86) [
        | inl second ↦ one_whole 43 n computed_43 (omega arith) (omega arith)
        | inr third ↦ one_whole 86 n computed_86 (omega arith) (omega arith)
      ]
    ]

is_none-true : {A : Type 0} (o : Option A) → is_none o ≡ true → o ≡ None
is_none-true None h = refl
is_none-true (Some x) h = absurd (cc)

-- no line of the text is outside the grammar
pub no_fault : (n : ℕ) → n ≤ 128 → first_fault (program_text n) ≡ None
no_fault n h = is_none-true _ (and_parts _ _ (whole n h)).0

-- its code has so many bytes
pub code_length : (n : ℕ) (code : List ℕ) → n ≤ 128 → Assembles (program_text n) code → length code ≡ 968
code_length n code h assembled =
    let lines = lines_of (program_text n) in
    length_is (labels_of lines) [] 0 lines code assembled ∙ eqb-true _ _ (and_parts _ _ (whole n h)).1
