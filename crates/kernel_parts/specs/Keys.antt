-- The numbers by which threads of all processes are told apart.
--     key p t      the number of thread t of process p
--     end_key p      the number behind those of a process's threads, as far as there is one
--     is_own p k      whether k is the number of a thread of the process: that of each below 2^32, but the greatest of all
use Rattle.std.specs.Prelude.{ℕ, Bool, ◌+◌, ◌-◌, ◌*◌, ◌^◌, nat_le, if◌then◌else◌}
use Rattle.wait_set.specs.Next.{is_between}

abbrev pub key : ℕ → ℕ → ℕ
key p t = p * 2 ^ 32 + t

abbrev pub end_key : ℕ → ℕ
end_key p = if nat_le (p * 2 ^ 32 + 2 ^ 32) (2 ^ 64 - 1) then p * 2 ^ 32 + 2 ^ 32 else 2 ^ 64 - 1

abbrev pub is_own : ℕ → ℕ → Bool
is_own p k = is_between (key p 0) (end_key p) k
