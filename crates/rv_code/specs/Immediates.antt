-- The immediates of the formats (RISC-V unprivileged manual, "Immediate Encoding Variants"), on numbers.
use Rattle.std.specs.Prelude.{ℕ, ◌+◌, ◌*◌, ◌/◌, ◌%◌, ◌^◌, cond, nat_lt, ℤ, pos, ◌-ℤ◌}

-- a field as a signed number in two's complement, of which numbers from half on are negative
abbrev pub signed_at : ℕ → ℕ → ℤ
signed_at half n = cond (nat_lt n half) (pos n) (pos n -ℤ pos (2 * half))

-- format I: bits 31 to 20
abbrev pub immediate_i_of : ℕ → ℤ
immediate_i_of w = signed_at 2048 (w / 2 ^ 20)

-- format S: bits 31 to 25, then bits 11 to 7
abbrev pub immediate_s_of : ℕ → ℤ
immediate_s_of w = signed_at 2048 (w / 2 ^ 25 * 32 + w / 2 ^ 7 % 32)

-- format B: bit 31, bit 7, bits 30 to 25, bits 11 to 8, and a zero
abbrev pub immediate_b_of : ℕ → ℤ
immediate_b_of w = signed_at 4096 (w / 2 ^ 31 * 4096 + w / 2 ^ 7 % 2 * 2048 + w / 2 ^ 25 % 64 * 32 + w / 2 ^ 8 % 16 * 2)

-- format U: bits 31 to 12 in their places, zeros below, sign-extended from 32 bits
abbrev pub immediate_u_of : ℕ → ℤ
immediate_u_of w = signed_at (2 ^ 31) (w / 2 ^ 12 * 2 ^ 12)

-- format J: bit 31, bits 19 to 12, bit 20, bits 30 to 21, and a zero
abbrev pub immediate_j_of : ℕ → ℤ
immediate_j_of w = signed_at (2 ^ 20) (w / 2 ^ 31 * 2 ^ 20 + w / 2 ^ 12 % 256 * 2 ^ 12 + w / 2 ^ 20 % 2 * 2 ^ 11 + w / 2 ^ 21 % 1024 * 2)
