-- The bytes of whole pages.
--     pages_taken      as many bytes as the pages have, but no more than there are
use Rattle.std.proofs.Common.{◌≡◌, ◌≤◌, ◌<◌, ℕ, ◌+◌, ◌-◌, ◌*◌, ◌/◌, ◌%◌, ◌^◌, min, List, length, take, drop, inl, inr, ap, sym, ◌∙◌, arith}
use Rattle.std.proofs.lemmas.Bool.Decides.{leb_tells}
use Rattle.std.proofs.lemmas.List.{length-drop, take_all}
use Rattle.tree_model.specs.Files.{read_bytes}
use Rattle.kernel_model.specs.Families.FileBytes.{page_bytes}

-- so many bytes, or as many as there are
bytes_bounded : (bytes : List ℕ) (at n : ℕ) → read_bytes bytes at (min n (length bytes)) ≡ read_bytes bytes at n
bytes_bounded bytes at n =
    let rest : List ℕ = drop at bytes in
    let few : length rest ≤ length bytes = let left = length-drop at bytes in omega (arith, left) in
    elim (leb_tells n (length bytes)) [
      | inl less ↦ (let is : min n (length bytes) ≡ n = let below : n ≤ length bytes = less.1 in omega (arith, below) in ap (λ k. take k rest) is)
      | inr more ↦ (
          let above : length bytes < n = more.1 in
          let is : min n (length bytes) ≡ length bytes = omega (arith, above) in
          ap (λ k. take k rest) is ∙ take_all (length bytes) rest few ∙ sym (take_all n rest (omega (arith, above, few))))
    ]

-- how many the pages have, by how many pages these are
pages_many : (n pages many size : ℕ) → pages ≡ n / 4096 + min 1 (n % 4096) → many ≡ min (pages * 4096) (2 ^ 64 - 1) → size < 2 ^ 64
    → min many size ≡ min (page_bytes n) size
unfolding page_bytes
pages_many n pages many size count bounded fits = omega (arith, count, bounded, fits)

pub pages_taken : (bytes : List ℕ) (at n pages many least : ℕ) (taken : List ℕ) → pages ≡ n / 4096 + min 1 (n % 4096)
    → many ≡ min (pages * 4096) (2 ^ 64 - 1) → length bytes < 2 ^ 64 → least ≡ min many (length bytes)
    → taken ≡ read_bytes bytes at least → taken ≡ read_bytes bytes at (page_bytes n)
pages_taken bytes at n pages many least taken count bounded fits few is =
    is ∙ ap (read_bytes bytes at) (few ∙ pages_many n pages many (length bytes) count bounded fits) ∙ bytes_bounded bytes at (page_bytes n)
