-- Pages that two segments share.
use Rattle.std.proofs.Common.{◌≡◌, ℕ, ◌+◌, ◌*◌, ◌/◌, ◌<◌, ◌≤◌, inl, inr, nat_lt, sym, arith}
use Rattle.std.proofs.lemmas.Bool.{and_parts, and_from, cases_lt, lt-ltb, ltb-true}
use Rattle.std.specs.Bool.{Decides}
use Rattle.elf_image.specs.Checks.{share_page}
use Rattle.elf_image.specs.Segments.{SharePage, first_page, page_end, start_of, end_of}
use Rattle.elf_image.specs.declared.program_header.ProgramHeader.{ProgramHeader}

-- an address from s to before e in the page of t, which begins no earlier than the page of s, and ends behind e
at_page : (s e t : ℕ) → s < e → s / 4096 ≤ t / 4096 → t / 4096 < (e + 4095) / 4096 →
    (a : ℕ) × (s ≤ a) × (a < e) × (a / 4096 ≡ t / 4096)
at_page s e t order low high = elim (cases_lt (s / 4096) (t / 4096)) [
  | inl later ↦ (4096 * (t / 4096), omega arith, omega arith, omega arith)
  | inr same ↦ (s, omega arith, order, omega arith)
]

shared_first : (s e t u : ℕ) → s < e → t < u → s / 4096 < (u + 4095) / 4096 → t / 4096 < (e + 4095) / 4096 →
    (a b : ℕ) × (s ≤ a) × (a < e) × (t ≤ b) × (b < u) × (a / 4096 ≡ b / 4096)
shared_first s e t u first second one other = elim (cases_lt (s / 4096) (t / 4096)) [
  | inl later ↦
      let (a, from, to, page) = at_page s e t first (omega arith) other in
      (a, t, from, to, omega arith, second, page)
  | inr earlier ↦
      let (b, from, to, page) = at_page t u s second earlier one in
      (s, b, omega arith, first, from, to, sym page)
]

-- an address from s to before e in the page of one from t to before u
meet_of : (s e t u a b : ℕ) → s ≤ a → a < e → t ≤ b → b < u → a / 4096 ≡ b / 4096 →
    (s / 4096 < (u + 4095) / 4096) × (t / 4096 < (e + 4095) / 4096)
meet_of s e t u a b low high other_low other_high same = (omega arith, omega arith)

-- the test of segments that take memory decides whether they share a page
pub decides_share : (base : ℕ) (one other : ProgramHeader) → 0 < one.memory_size → 0 < other.memory_size →
    Decides (share_page base one other) (SharePage base one other)
decides_share base one other some some_other = (
  λ holds.
      let parts =
      and_parts (nat_lt (first_page base one) (page_end base other))
      (nat_lt (first_page base other) (page_end base one)) holds in
      let (a, b, low, high, other_low, other_high, same) =
      shared_first (start_of base one) (end_of base one) (start_of base other) (end_of base other) (omega arith)
      (omega arith)
      (ltb-true (first_page base one) (page_end base other) parts.0)
      (ltb-true (first_page base other) (page_end base one) parts.1) in
      (a, b, (low, high), (other_low, other_high), same),
  λ shares.
      let (a, b, (low, high), (other_low, other_high), same) = shares in
      let parts =
      meet_of (start_of base one) (end_of base one) (start_of base other) (end_of base other) a b low high other_low
      other_high same in
      and_from (nat_lt (first_page base one) (page_end base other)) (nat_lt (first_page base other) (page_end base one))
      (lt-ltb (first_page base one) (page_end base other) parts.0)
      (lt-ltb (first_page base other) (page_end base one) parts.1),
)
