-- Numbers of threads.
--     key_apart      different threads have different numbers
--     own_other      no number of another process's thread is a process's own
--     own_key      each of its own is but the greatest of all
--     own_from      a process's own is that of one of its threads
--     own_low, end_next      where the process isn't the last one they are all up to the next one's
--     own_apart      none of another process is
--     low_key      that of a thread whose number isn't the greatest isn't the greatest of all
use Rattle.std.proofs.Common.{◌≡◌, ◌≢◌, ℕ, ◌+◌, ◌-◌, ◌*◌, ◌^◌, ◌<◌, ◌≤◌, Bool, true, false, cond, ◌&&◌, nat_lt, nat_le, refl, sym, ap, ◌∙◌, arith, inl, inr}
use Rattle.std.proofs.lemmas.Bool.{lt-ltb, ltb-true, le-leb, leb-true}
use Rattle.std.proofs.lemmas.Bool.Decides.{leb_tells}
use Rattle.kernel_model.proofs.Tests.{not_true}
use Rattle.wait_set.specs.Next.{is_between}
use Rattle.kernel_parts.specs.Keys.{end_key, is_own, key}

both : (a b : Bool) → (a && b) ≡ true → (a ≡ true) × (b ≡ true)
both true b h = (refl, h)
both false b h = absurd (not_true h)

bounds : (first end k : ℕ) → is_between first end k ≡ true → (first ≤ k) × (k < end)
bounds first end k h = let two = both (nat_le first k) (nat_lt k end) h in (leb-true first k two.0, ltb-true k end two.1)

within : (first end k : ℕ) → first ≤ k → k < end → is_between first end k ≡ true
within first end k low high = ap (λ b. b && nat_lt k end) (le-leb first k low) ∙ lt-ltb k end high

end_is : (p : ℕ) → (end_key p ≤ p * 2 ^ 32 + 2 ^ 32) × ((k : ℕ) → k < p * 2 ^ 32 + 2 ^ 32 → k < 2 ^ 64 - 1 → k < end_key p)
end_is p =
    elim (nat_le (p * 2 ^ 32 + 2 ^ 32) (2 ^ 64 - 1)) as (λ b. nat_le (p * 2 ^ 32 + 2 ^ 32) (2 ^ 64 - 1) ≡ b
    → (cond b (p * 2 ^ 32 + 2 ^ 32) (2 ^ 64 - 1) ≤ p * 2 ^ 32 + 2 ^ 32)
    × ((k : ℕ) → k < p * 2 ^ 32 + 2 ^ 32 → k < 2 ^ 64 - 1 → k < cond b (p * 2 ^ 32 + 2 ^ 32) (2 ^ 64 - 1))) [
      | true ↦ λ _. (omega arith, λ k low high. low)
      | false ↦ λ no. (
        elim (leb_tells (p * 2 ^ 32 + 2 ^ 32) (2 ^ 64 - 1)) [
          | inl less ↦ absurd (not_true (sym no ∙ less.0))
          | inr more ↦ (let m = more.1 in omega arith)
        ],
        λ k low high. high,
      )
    ] refl

pub key_apart : (p q t u : ℕ) → t < 2 ^ 32 → u < 2 ^ 32 → key p t ≡ key q u → (p ≡ q) × (t ≡ u)
key_apart p q t u small few same = let first : p ≡ q = omega arith in (first, omega arith)

pub own_other : (p q t : ℕ) → t < 2 ^ 32 → is_own p (key q t) ≡ true → q ≡ p
own_other p q t small own = let at = bounds (key p 0) (end_key p) (key q t) own in let low = at.0 in let high = at.1 in let most = (end_is p).0 in omega arith

pub own_key : (p t : ℕ) → p < 2 ^ 32 → t < 2 ^ 32 → key p t ≢ 2 ^ 64 - 1 → is_own p (key p t) ≡ true
own_key p t few small apart = within (key p 0) (end_key p) (key p t) (omega arith) ((end_is p).1 (key p t) (omega arith) (omega arith))

pub own_from : (p k : ℕ) → is_own p k ≡ true → (t : ℕ) × (t < 2 ^ 32) × (k ≡ key p t)
own_from p k own =
    let at = bounds (key p 0) (end_key p) k own in
    let low = at.0 in
    let high = at.1 in
    let most = (end_is p).0 in
    (k - key p 0, omega arith, omega arith)

pub own_apart : (p q t : ℕ) → t < 2 ^ 32 → q ≢ p → is_own p (key q t) ≡ false
own_apart p q t small apart =
    elim (is_own p (key q t)) as (λ b. is_own p (key q t) ≡ b → b ≡ false) [ true ↦ λ own. absurd (apart (own_other p q t small own)) | false ↦ λ _. refl ] refl

pub low_key : (p t : ℕ) → p < 2 ^ 32 → t < 2 ^ 32 - 1 → key p t ≢ 2 ^ 64 - 1
low_key p t few small same = omega (arith, few, small, same)

pub own_low : (p t : ℕ) → p < 2 ^ 32 - 1 → t < 2 ^ 32 → is_own p (key p t) ≡ true
own_low p t few small = own_key p t (omega (arith, few)) small (λ same. omega (arith, few, small, same))

pub end_next : (p : ℕ) → p < 2 ^ 32 - 1 → end_key p ≡ key (p + 1) 0
end_next p few =
    elim (leb_tells (p * 2 ^ 32 + 2 ^ 32) (2 ^ 64 - 1)) [
      | inl less ↦ ap (λ b. cond b (p * 2 ^ 32 + 2 ^ 32) (2 ^ 64 - 1)) less.0 ∙ omega arith
      | inr more ↦ absurd (let m = more.1 in omega (arith, m, few))
    ]
