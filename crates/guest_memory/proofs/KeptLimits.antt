-- Each change of a memory keeps its limits.
use Rattle.std.proofs.Common.{◌≡◌, ℕ, ◌+◌, ◌*◌, ◌<◌, ◌≤◌, Bool, true, false, cond, Option, Some, None, option_map, length, refl, sym, subst, ◌∙◌, arith}
use Rattle.std.specs.FinMap.{get, len}
use Rattle.abi_base.specs.declared.prot.Prot.{Prot}
use Rattle.guest_memory.specs.Page.{Page, Pages, zero_page, with_prot}
use Rattle.guest_memory.specs.Ranges.{in_range}
use Rattle.guest_memory.specs.Mapping.{AreThere, AreMapped, AreUnmapped, AreProtected, MayMap}
use Rattle.guest_memory.specs.Limits.{KeepsLimits}
use Rattle.guest_memory.proofs.PageRanges.{inside, mapped_len, unmapped_len, protected_len}

-- a memory keeps its limits if it has few enough pages, and each of them keeps these
pub record PageKeeps (q : ℕ) (p : Page) : Type 0 where
  pub low : 0x10000 ≤ 4096 * q
  pub high : 4096 * q < 0x4000000000
  pub whole : length p.bytes ≡ 4096

pub keeps : (m : Pages) → len m ≤ 65536 → ((q : ℕ) (p : Page) → get m q ≡ Some p → PageKeeps q p) → KeepsLimits m
keeps m count each = record {
  count = count;
  low = λ q p e. (each q p e).low;
  high = λ q p e. (each q p e).high;
  whole = λ q p e.
      (each q p e).whole;
}

pub kept : (m : Pages) → KeepsLimits m → (q : ℕ) (p : Page) → get m q ≡ Some p → PageKeeps q p
kept m k q p e = record { low = k.low q p e; high = k.high q p e; whole = k.whole q p e }

pub zero_keeps : (n k q : ℕ) (prot : Prot) → 0x10000 ≤ 4096 * n → 4096 * (n + k) ≤ 0x4000000000 → in_range n k q ≡ true
    → PageKeeps q (zero_page prot)
zero_keeps n k q prot low high within = let place = inside n k q within in record
    { low = omega (arith, place.0); high = omega (arith, place.1); whole = refl }

-- in either case
pub either : (b : Bool) (o r : Option Page) (q : ℕ) (p : Page) → (b ≡ true → o ≡ Some p → PageKeeps q p)
    → (r ≡ Some p → PageKeeps q p) → cond b o r ≡ Some p → PageKeeps q p
either true o r q p changed other e = changed refl e
either false o r q p changed other e = other e

pub same_some : (a b : Page) → Some a ≡ Some b → a ≡ b
same_some a b e = cc

pub keeps_mapped : (m after : Pages) (n k : ℕ) (prot : Prot) → KeepsLimits m → MayMap m n k
    → AreMapped m n k prot after → 0x10000 ≤ 4096 * n → 4096 * (n + k) ≤ 0x4000000000 → KeepsLimits after
keeps_mapped m after n k prot old may h low high =
    let count = mapped_len k m after n prot may.free h in
    keeps after (omega (arith, may.fits)) (λ q p e.
    either (in_range n k q) (Some (zero_page prot)) (get m q) q p
    (λ within is. subst (PageKeeps q) (same_some (zero_page prot) p is) (zero_keeps n k q prot low high within))
    (kept m old q p) (sym (h q) ∙ e))

pub keeps_unmapped : (m after : Pages) (n k : ℕ) → KeepsLimits m → AreUnmapped m n k after → KeepsLimits after
keeps_unmapped m after n k old h =
    let count = unmapped_len k m after n h in
    keeps after (omega (arith, old.count)) (λ q p e.
    either (in_range n k q) None (get m q) q p (λ within is. absurd (cc)) (kept m old q p) (sym (h q) ∙ e))

with_prot_keeps : (m : Pages) (q : ℕ) (prot : Prot) (o : Option Page) (p : Page) → KeepsLimits m → get m q ≡ o
    → option_map (with_prot prot) o ≡ Some p → PageKeeps q p
with_prot_keeps m q prot None p old is e = absurd (cc)
with_prot_keeps m q prot (Some was) p old is e =
    let before = kept m old q was is in
    subst (PageKeeps q) (same_some (with_prot prot was) p e)
    (record { low = before.low; high = before.high; whole = before.whole })

pub keeps_protected : (m after : Pages) (n k : ℕ) (prot : Prot) → KeepsLimits m → AreThere m n k
    → AreProtected m n k prot after → KeepsLimits after
keeps_protected m after n k prot old there h =
    let count = protected_len k m after n prot there h in
    keeps after (omega (arith, old.count)) (λ q p e.
    either (in_range n k q) (option_map (with_prot prot) (get m q)) (get m q) q p
    (λ within is. with_prot_keeps m q prot (get m q) p old refl is) (kept m old q p) (sym (h q) ∙ e))
