-- A word with these fields is decoded to this instruction.
use Rattle.std.proofs.Common.{◌≡◌, ℕ, ◌+◌, ◌*◌, ◌/◌, ◌%◌, ◌^◌, ◌<◌, ◌==◌, ◌||◌, Bool, true, false, cond, eqb-true, Option, None, Some, ◌⊎◌, inl, inr, ℤ, pos, negsuc, ◌-ℤ◌, unsigned_abs, nat_lt, refl, ap, ◌∙◌, arith, rules, IsTrue, subst}
use Rattle.std.proofs.lemmas.Int.{ints}
use Rattle.std.proofs.lemmas.Bool.Decides.{eqb_tells}
use Rattle.rv_code.specs.declared.instr.Instr.{Instr}
use Rattle.rv_code.specs.declared.instr.Op.{Op}
use Rattle.rv_code.specs.declared.instr.Op.TheVariants.{Lui, Auipc, Jal}
use Rattle.rv_code.specs.Decoding.{decode_of, funct3_of, funct7_of, immediate_of, word_immediate_of}
use Rattle.rv_code.specs.Formats.{rs2_of, format_r_of, format_i_of, shift_of, word_shift_of, format_s_of, format_b_of, format_u_of, format_j_of, bare_of, each}
use Rattle.rv_code.specs.Immediates.{signed_at, immediate_i_of, immediate_s_of, immediate_b_of, immediate_u_of, immediate_j_of}
use Rattle.rv_code.specs.Rows.{jump_row_of, branch_row_of, load_row_of, store_row_of, immediate_row_of, shift_row_of, word_immediate_row_of, word_shift_row_of, register_row_of, word_row_of, fence_row_of, atomic_row_of, system_row_of}
use Rattle.rv_words.specs.declared.fields.Fields.{Fields}
use Rattle.rv_words.specs.Encoding.{register_operation, immediate_operation, upper_operation}
use Rattle.rv_words.specs.Fields.{HasFields}
use Rattle.rv_words.specs.Words.{instr, is_even}

-- decoding, by an opcode
abbrev pub decoded_at : ℕ → ℕ → Option Instr
decoded_at o w =
    cond (o == 0x37) (Some (format_u_of w Lui))
    (cond (o == 0x17) (Some (format_u_of w Auipc))
    (cond (o == 0x6f) (Some (format_j_of w Jal))
    (cond (o == 0x67) (each (format_i_of w) (jump_row_of (funct3_of w)))
    (cond (o == 0x63) (each (format_b_of w) (branch_row_of (funct3_of w)))
    (cond (o == 0x03) (each (format_i_of w) (load_row_of (funct3_of w)))
    (cond (o == 0x23) (each (format_s_of w) (store_row_of (funct3_of w)))
    (cond (o == 0x13) (immediate_of w)
    (cond (o == 0x1b) (word_immediate_of w)
    (cond (o == 0x33) (each (format_r_of w) (register_row_of (funct7_of w) (funct3_of w)))
    (cond (o == 0x3b) (each (format_r_of w) (word_row_of (funct7_of w) (funct3_of w)))
    (cond (o == 0x2f) (each (format_r_of w) (atomic_row_of (funct3_of w) (w / 2 ^ 27) (rs2_of w)))
    (cond (o == 0x0f) (each bare_of (fence_row_of (funct3_of w)))
    (cond (o == 0x73) (each bare_of (system_row_of w))
    None)))))))))))))

at_opcode : (w o : ℕ) → w % 128 ≡ o → decode_of w ≡ decoded_at o w
unfolding decode_of
at_opcode w o e = ap (λ n. decoded_at n w) e

-- an instruction with these fields
same_instr : (op : Op) (a b c d e f : ℕ) (x y : ℤ) → a ≡ b → c ≡ d → e ≡ f → x ≡ y →
    ◌≡◌ {A = Instr} (record { op = op; rd = a; rs1 = c; rs2 = e; imm = x }) (record { op = op; rd = b; rs1 = d; rs2 = f; imm = y })
same_instr op a b c d e f x y p q r s = rw (p, q, r, s)

-- what the operation that is found makes
made : (g : Op → Instr) (o : Option Op) (op : Op) (i : Instr) → o ≡ Some op → g op ≡ i → each g o ≡ Some i
made g o op i e s = ap (each g) e ∙ ap (λ j. Some j) s

-- which branch of a choice by a number has the value
picked : {A : Type 0} (n m : ℕ) (x y z : A) → cond (n == m) x y ≡ z → ((n ≡ m) × (x ≡ z)) ⊎ (y ≡ z)
picked n m x y z h =
    elim (eqb_tells n m) [ inl e ↦ inl (e.1, subst (λ b. cond b x y ≡ z) e.0 h) | inr e ↦ inr (subst (λ b. cond b x y ≡ z) e.0 h) ]

-- the immediates, by the fields
immediate_i : (w : ℕ) (f : Fields) → HasFields w f → immediate_i_of w ≡ signed_at 2048 (f.funct7 * 32 + f.rs2)
immediate_i w f h = let field : w / 2 ^ 20 ≡ f.funct7 * 32 + f.rs2 = omega arith in ap (signed_at 2048) field

immediate_s : (w : ℕ) (f : Fields) → HasFields w f → immediate_s_of w ≡ signed_at 2048 (f.funct7 * 32 + f.rd)
immediate_s w f h = let field : w / 2 ^ 25 * 32 + w / 2 ^ 7 % 32 ≡ f.funct7 * 32 + f.rd = omega arith in ap (signed_at 2048) field

immediate_b : (w : ℕ) (f : Fields) → HasFields w f → immediate_b_of w ≡ signed_at 4096 (f.funct7 / 64 * 4096 + f.rd % 2 * 2048 + f.funct7 % 64 * 32 + f.rd / 2 * 2)
immediate_b w f h = let field : w / 2 ^ 31 * 4096 + w / 2 ^ 7 % 2 * 2048 + w / 2 ^ 25 % 64 * 32 + w / 2 ^ 8 % 16 * 2 ≡ f.funct7 / 64 * 4096 + f.rd % 2 * 2048 + f.funct7 % 64 * 32 + f.rd / 2 * 2 = omega arith in ap (signed_at 4096) field

immediate_u : (w : ℕ) (f : Fields) → HasFields w f → immediate_u_of w ≡ signed_at (2 ^ 31) ((f.funct7 * 2 ^ 13 + f.rs2 * 2 ^ 8 + f.rs1 * 2 ^ 3 + f.funct3) * 2 ^ 12)
immediate_u w f h = let field : w / 2 ^ 12 * 2 ^ 12 ≡ (f.funct7 * 2 ^ 13 + f.rs2 * 2 ^ 8 + f.rs1 * 2 ^ 3 + f.funct3) * 2 ^ 12 = omega arith in ap (signed_at (2 ^ 31)) field

immediate_j : (w : ℕ) (f : Fields) → HasFields w f → immediate_j_of w ≡ signed_at (2 ^ 20) (f.funct7 / 64 * 2 ^ 20 + (f.rs1 * 8 + f.funct3) * 2 ^ 12 + f.rs2 % 2 * 2 ^ 11 + (f.funct7 % 64 * 16 + f.rs2 / 2) * 2)
immediate_j w f h = let field : w / 2 ^ 31 * 2 ^ 20 + w / 2 ^ 12 % 256 * 2 ^ 12 + w / 2 ^ 20 % 2 * 2 ^ 11 + w / 2 ^ 21 % 1024 * 2 ≡ f.funct7 / 64 * 2 ^ 20 + (f.rs1 * 8 + f.funct3) * 2 ^ 12 + f.rs2 % 2 * 2 ^ 11 + (f.funct7 % 64 * 16 + f.rs2 / 2) * 2 = omega arith in ap (signed_at (2 ^ 20)) field

pub registers : (w : ℕ) (f : Fields) (op : Op) → HasFields w f → register_operation f.opcode f.funct3 f.funct7 ≡ Some op →
    decode_of w ≡ Some (record { op = op; rd = f.rd; rs1 = f.rs1; rs2 = f.rs2; imm = pos 0 })
registers w f op h found =
    elim (picked f.opcode 0x33 _ _ _ found) [
      | inl e ↦ at_opcode w 0x33 (h.opcode ∙ e.0)
          ∙ made (format_r_of w) _ op _ (ap (λ n. register_row_of n (funct3_of w)) h.funct7 ∙ ap (register_row_of f.funct7) h.funct3 ∙ e.1)
          (same_instr op _ _ _ _ _ _ _ _ h.rd h.rs1 h.rs2 refl)
      | inr rest ↦ elim (picked f.opcode 0x3b _ _ _ rest) [
        | inl e ↦ at_opcode w 0x3b (h.opcode ∙ e.0)
            ∙ made (format_r_of w) _ op _ (ap (λ n. word_row_of n (funct3_of w)) h.funct7 ∙ ap (word_row_of f.funct7) h.funct3 ∙ e.1)
            (same_instr op _ _ _ _ _ _ _ _ h.rd h.rs1 h.rs2 refl)
        | inr none ↦ absurd (cc)
      ]
    ]

-- an operation of a row that has shifts too, where it isn't one of them
by_choice : (b : Bool) (g : Op → Instr) (row : Option Op) (shift : Option Instr) (op : Op) (i : Instr) → cond b None row ≡ Some op → g op ≡ i → cond b shift (each g row) ≡ Some i
by_choice true g row shift op i e same = absurd (cc)
by_choice false g row shift op i e same = made g row op i e same

by_row : (n m : ℕ) (row_of : ℕ → Option Op) (shift : Option Instr) (w : ℕ) (op : Op) (i : Instr) → n ≡ m → cond (m == 1 || m == 5) None (row_of m) ≡ Some op → format_i_of w op ≡ i →
    cond (n == 1 || n == 5) shift (each (format_i_of w) (row_of n)) ≡ Some i
by_row n m row_of shift w op i e found same =
    by_choice (n == 1 || n == 5) (format_i_of w) (row_of n) shift op i (ap (λ k. cond (k == 1 || k == 5) None (row_of k)) e ∙ found) same

pub immediates : (w : ℕ) (f : Fields) (op : Op) (field : ℕ) (z : ℤ) → HasFields w f → immediate_operation f.opcode f.funct3 ≡ Some op → f.funct7 * 32 + f.rs2 ≡ field → signed_at 2048 field ≡ z →
    decode_of w ≡ Some (instr op f.rd f.rs1 0 z)
immediates w f op field z h found joined is =
    let same : format_i_of w op ≡ instr op f.rd f.rs1 0 z =
    same_instr op _ _ _ _ _ _ _ _ h.rd h.rs1 refl (immediate_i w f h ∙ ap (signed_at 2048) joined ∙ is) in
    elim (picked f.opcode 0x13 _ _ _ found) [
      | inl e ↦ at_opcode w 0x13 (h.opcode ∙ e.0) ∙ by_row (funct3_of w) f.funct3 immediate_row_of (each (shift_of w) (shift_row_of (w / 2 ^ 26) (funct3_of w))) w op _ h.funct3 e.1 same
      | inr rest ↦ elim (picked f.opcode 0x1b _ _ _ rest) [
        | inl e ↦ at_opcode w 0x1b (h.opcode ∙ e.0) ∙ by_row (funct3_of w) f.funct3 word_immediate_row_of (each (word_shift_of w) (word_shift_row_of (funct7_of w) (funct3_of w))) w op _ h.funct3 e.1 same
        | inr rest' ↦ elim (picked f.opcode 0x03 _ _ _ rest') [
          | inl e ↦ at_opcode w 0x03 (h.opcode ∙ e.0) ∙ made (format_i_of w) _ op _ (ap load_row_of h.funct3 ∙ e.1) same
          | inr rest'' ↦ elim (picked f.opcode 0x67 _ _ _ rest'') [
            | inl e ↦ at_opcode w 0x67 (h.opcode ∙ e.0) ∙ made (format_i_of w) _ op _ (ap jump_row_of h.funct3 ∙ e.1) same
            | inr none ↦ absurd (cc)
          ]
        ]
      ]
    ]

by_shift : (b : Bool) (g : Op → Instr) (row : Option Op) (other : Option Instr) (op : Op) (i : Instr) → b ≡ true → row ≡ Some op → g op ≡ i → cond b (each g row) other ≡ Some i
by_shift true g row other op i e found same = made g row op i found same
by_shift false g row other op i e found same = absurd (cc)

-- whether a funct3 is one of a shift
abbrev pub is_shift_row : ℕ → Bool
is_shift_row f3 = f3 == 1 || f3 == 5

pub shifts : (w : ℕ) (f : Fields) (op : Op) (high amount : ℕ) → HasFields w f → f.opcode ≡ 0x13 → IsTrue (is_shift_row f.funct3) → shift_row_of (high / 2) f.funct3 ≡ Some op
    → f.funct7 / 2 ≡ high / 2 → f.funct7 % 2 * 32 + f.rs2 ≡ amount → decode_of w ≡ Some (instr op f.rd f.rs1 0 (pos amount))
shifts w f op high amount h opcode shift found front joined =
    let b : is_shift_row (funct3_of w) ≡ true = ap is_shift_row h.funct3 ∙ search (shift, rules) in
    let highs : w / 2 ^ 26 ≡ high / 2 = omega arith in
    let amounts : w / 2 ^ 20 % 64 ≡ amount = omega arith in
    at_opcode w 0x13 (h.opcode ∙ opcode)
    ∙ by_shift _ (shift_of w) (shift_row_of (w / 2 ^ 26) (funct3_of w)) _ op _ b
    (ap (λ n. shift_row_of n (funct3_of w)) highs ∙ ap (shift_row_of (high / 2)) h.funct3 ∙ found)
    (same_instr op _ _ _ _ _ _ _ _ h.rd h.rs1 refl (ap pos amounts))

pub word_shifts : (w : ℕ) (f : Fields) (op : Op) → HasFields w f → f.opcode ≡ 0x1b → IsTrue (is_shift_row f.funct3) → word_shift_row_of f.funct7 f.funct3 ≡ Some op
    → decode_of w ≡ Some (instr op f.rd f.rs1 0 (pos f.rs2))
word_shifts w f op h opcode shift found =
    let b : is_shift_row (funct3_of w) ≡ true = ap is_shift_row h.funct3 ∙ search (shift, rules) in
    at_opcode w 0x1b (h.opcode ∙ opcode)
    ∙ by_shift _ (word_shift_of w) (word_shift_row_of (funct7_of w) (funct3_of w)) _ op _ b
    (ap (λ n. word_shift_row_of n (funct3_of w)) h.funct7 ∙ ap (word_shift_row_of f.funct7) h.funct3 ∙ found)
    (same_instr op _ _ _ _ _ _ _ _ h.rd h.rs1 refl (ap pos h.rs2))

pub stores : (w : ℕ) (f : Fields) (op : Op) (field : ℕ) (z : ℤ) → HasFields w f → f.opcode ≡ 0x23 → store_row_of f.funct3 ≡ Some op → f.funct7 * 32 + f.rd ≡ field → signed_at 2048 field ≡ z →
    decode_of w ≡ Some (instr op 0 f.rs1 f.rs2 z)
stores w f op field z h opcode found joined is =
    at_opcode w 0x23 (h.opcode ∙ opcode)
    ∙ made (format_s_of w) _ op _ (ap store_row_of h.funct3 ∙ found) (same_instr op _ _ _ _ _ _ _ _ refl h.rs1 h.rs2 (immediate_s w f h ∙ ap (signed_at 2048) joined ∙ is))

pub branches : (w : ℕ) (f : Fields) (op : Op) (field : ℕ) (z : ℤ) → HasFields w f → f.opcode ≡ 0x63 → branch_row_of f.funct3 ≡ Some op
    → f.funct7 / 64 * 4096 + f.rd % 2 * 2048 + f.funct7 % 64 * 32 + f.rd / 2 * 2 ≡ field → signed_at 4096 field ≡ z → decode_of w ≡ Some (instr op 0 f.rs1 f.rs2 z)
branches w f op field z h opcode found joined is =
    at_opcode w 0x63 (h.opcode ∙ opcode)
    ∙ made (format_b_of w) _ op _ (ap branch_row_of h.funct3 ∙ found) (same_instr op _ _ _ _ _ _ _ _ refl h.rs1 h.rs2 (immediate_b w f h ∙ ap (signed_at 4096) joined ∙ is))

pub uppers : (w : ℕ) (f : Fields) (op : Op) (n : ℕ) → HasFields w f → upper_operation f.opcode ≡ Some op → f.funct7 * 2 ^ 13 + f.rs2 * 2 ^ 8 + f.rs1 * 2 ^ 3 + f.funct3 ≡ n
    → decode_of w ≡ Some (instr op f.rd 0 0 (signed_at (2 ^ 31) (n * 2 ^ 12)))
uppers w f op n h found joined =
    let same : (o : Op) → format_u_of w o ≡ instr o f.rd 0 0 (signed_at (2 ^ 31) (n * 2 ^ 12)) =
    λ o. same_instr o _ _ _ _ _ _ _ _ h.rd refl refl (immediate_u w f h ∙ ap (λ m. signed_at (2 ^ 31) (m * 2 ^ 12)) joined) in
    elim (picked f.opcode 0x37 _ _ _ found) [
      | inl e ↦ at_opcode w 0x37 (h.opcode ∙ e.0) ∙ made (format_u_of w) (Some Lui) op _ e.1 (same op)
      | inr rest ↦ elim (picked f.opcode 0x17 _ _ _ rest) [
        | inl e ↦ at_opcode w 0x17 (h.opcode ∙ e.0) ∙ made (format_u_of w) (Some Auipc) op _ e.1 (same op)
        | inr none ↦ absurd (cc)
      ]
    ]

pub jumps : (w : ℕ) (f : Fields) (field : ℕ) (z : ℤ) → HasFields w f → f.opcode ≡ 0x6f
    → f.funct7 / 64 * 2 ^ 20 + (f.rs1 * 8 + f.funct3) * 2 ^ 12 + f.rs2 % 2 * 2 ^ 11 + (f.funct7 % 64 * 16 + f.rs2 / 2) * 2 ≡ field → signed_at (2 ^ 20) field ≡ z
    → decode_of w ≡ Some (instr Jal f.rd 0 0 z)
jumps w f field z h opcode joined is =
    at_opcode w 0x6f (h.opcode ∙ opcode)
    ∙ ap (λ i. Some i) (same_instr Jal _ _ _ _ _ _ _ _ h.rd refl refl (immediate_j w f h ∙ ap (signed_at (2 ^ 20)) joined ∙ is))

pub atomics : (w : ℕ) (f : Fields) (op : Op) → HasFields w f → f.opcode ≡ 0x2f → atomic_row_of f.funct3 (f.funct7 / 4) f.rs2 ≡ Some op
    → decode_of w ≡ Some (instr op f.rd f.rs1 f.rs2 (pos 0))
atomics w f op h opcode found =
    let high : w / 2 ^ 27 ≡ f.funct7 / 4 = omega arith in
    at_opcode w 0x2f (h.opcode ∙ opcode)
    ∙ made (format_r_of w) _ op _
    (ap (λ n. atomic_row_of n (w / 2 ^ 27) (rs2_of w)) h.funct3 ∙ ap (λ n. atomic_row_of f.funct3 n (rs2_of w)) high ∙ ap (atomic_row_of f.funct3 (f.funct7 / 4)) h.rs2 ∙ found)
    (same_instr op _ _ _ _ _ _ _ _ h.rd h.rs1 h.rs2 refl)

-- bits 26 and 25 of a word
pub order_of : (w : ℕ) (f : Fields) → HasFields w f → w / 2 ^ 25 % 4 ≡ f.funct7 % 4
order_of w f h = omega arith

-- the field of an even number is even
even_cases : (half n : ℕ) (z : ℤ) (b : Bool) → cond b (pos n) (pos n -ℤ pos (2 * half)) ≡ z → unsigned_abs z % 2 ≡ 0 → n % 2 ≡ 0
even_cases half n (pos k) true e even = let same : n ≡ k = omega (arith, ints) in omega arith
even_cases half n (pos k) false e even = let same : n ≡ k + 2 * half = omega (arith, ints) in omega arith
even_cases half n (negsuc k) true e even = absurd (cc)
even_cases half n (negsuc k) false e even = let same : n + (k + 1) ≡ 2 * half = omega (arith, ints) in omega arith

pub even_field : (half n : ℕ) (z : ℤ) → signed_at half n ≡ z → is_even z ≡ true → n % 2 ≡ 0
even_field half n z e even = even_cases half n z (nat_lt n half) e (eqb-true (unsigned_abs z % 2) 0 even)

-- the fields of branches and jumps, put together
pub branch_field : (n : ℕ) → n < 8192 → n % 2 ≡ 0 →
    (n / 4096 * 64 + n / 32 % 64) / 64 * 4096 + (n / 2 % 16 * 2 + n / 2048 % 2) % 2 * 2048 + (n / 4096 * 64 + n / 32 % 64) % 64 * 32 + (n / 2 % 16 * 2 + n / 2048 % 2) / 2 * 2 ≡ n
branch_field n small even =
    let a : (n / 4096 * 64 + n / 32 % 64) / 64 ≡ n / 4096 = omega arith in
    let b : (n / 2 % 16 * 2 + n / 2048 % 2) % 2 ≡ n / 2048 % 2 = omega arith in
    let d : (n / 4096 * 64 + n / 32 % 64) % 64 ≡ n / 32 % 64 = omega arith in
    let e : (n / 2 % 16 * 2 + n / 2048 % 2) / 2 ≡ n / 2 % 16 = omega arith in
    omega arith

pub jump_field : (n : ℕ) → n < 2 ^ 21 → n % 2 ≡ 0 →
    (n / 2 ^ 20 * 64 + n / 32 % 64) / 64 * 2 ^ 20 + (n / 32768 % 32 * 8 + n / 4096 % 8) * 2 ^ 12 + (n / 2 % 16 * 2 + n / 2048 % 2) % 2 * 2 ^ 11
    + ((n / 2 ^ 20 * 64 + n / 32 % 64) % 64 * 16 + (n / 2 % 16 * 2 + n / 2048 % 2) / 2) * 2 ≡ n
jump_field n small even =
    let a : (n / 2 ^ 20 * 64 + n / 32 % 64) / 64 ≡ n / 2 ^ 20 = omega arith in
    let b : (n / 2 % 16 * 2 + n / 2048 % 2) % 2 ≡ n / 2048 % 2 = omega arith in
    let d : (n / 2 ^ 20 * 64 + n / 32 % 64) % 64 ≡ n / 32 % 64 = omega arith in
    let e : (n / 2 % 16 * 2 + n / 2048 % 2) / 2 ≡ n / 2 % 16 = omega arith in
    let g : n / 32768 % 32 * 8 + n / 4096 % 8 ≡ n / 4096 % 256 = omega arith in
    omega arith
