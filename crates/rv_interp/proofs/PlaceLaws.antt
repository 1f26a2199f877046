-- Places of code, and their addresses.
--     wrapped_address      the address of a place, by sums modulo 2^64
--     first_place      the first place
--     next_place      the place after one
--     target_place, target_rest      the place that lies so many bytes behind the first
--     near_target      a target that is named by its distance
--     back, found_place      the place of an address
use Rattle.std.proofs.Common.{◌≡◌, ℕ, ◌+◌, ◌*◌, ◌-◌, ◌/◌, ◌%◌, ◌^◌, ◌<◌, arith}
use Rattle.rv_interp.specs.Slots.{address_at}

pub wrapped_address : (base at : ℕ) → (base + at * 4 % 2 ^ 64) % 2 ^ 64 ≡ address_at base at
wrapped_address base at = omega arith

pub next_place : (base at : ℕ) → address_at base ((at + 1) % 2 ^ 64) ≡ (address_at base at + 4) % 2 ^ 64
next_place base at = omega arith

pub target_place : (base offset : ℕ) → offset % 4 ≡ 0 → address_at base (offset / 4) ≡ (base + offset) % 2 ^ 64
target_place base offset e = omega (arith, e)

pub target_rest : (base offset : ℕ) → base % 4 ≡ 0 → (base + offset) % 2 ^ 64 % 4 ≡ offset % 4
target_rest base offset e = omega (arith, e)

pub near_target : (base at u : ℕ) → (base + (at * 4 % 2 ^ 64 + u) % 2 ^ 64) % 2 ^ 64 ≡ (address_at base at + u) % 2 ^ 64
near_target base at u = omega arith

pub back : (base target : ℕ) → base < 2 ^ 64 → target < 2 ^ 64 → (base + (target + (2 ^ 64 - base)) % 2 ^ 64) % 2 ^ 64 ≡ target
back base target b t = omega (arith, b, t)

pub found_place : (base offset : ℕ) → base % 4 ≡ 0 → (base + offset) % 2 ^ 64 % 4 ≡ 0 → address_at base (offset / 4) ≡ (base + offset) % 2 ^ 64
found_place base offset b e = omega (arith, b, e)

pub first_place : (base : ℕ) → base < 2 ^ 64 → address_at base 0 ≡ base
first_place base b = omega (arith, b)

pub aligned_place : (base at : ℕ) → base % 4 ≡ 0 → address_at base at % 4 ≡ 0
aligned_place base at e = omega (arith, e)
