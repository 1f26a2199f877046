-- What every memory of a guest keeps.
use Rattle.std.specs.Prelude.{◌≡◌, ℕ, ◌*◌, ◌<◌, ◌≤◌, Some, length}
use Rattle.std.specs.FinMap.{get, len}
use Rattle.abi_base.specs.declared.address_space.TheConstants.{GUEST_BEGIN, GUEST_END, PAGE_LIMIT, PAGE_SIZE}
use Rattle.guest_memory.specs.Page.{Page, Pages}

-- A memory has at most 65,536 pages, each of 4096 bytes, all from the address 0x10000 up to 0x4000000000.
pub record KeepsLimits (m : Pages) : Type 0 where
  pub count : len m ≤ PAGE_LIMIT
  pub low : (q : ℕ) (p : Page) → get m q ≡ Some p → GUEST_BEGIN ≤ PAGE_SIZE * q
  pub high : (q : ℕ) (p : Page) → get m q ≡ Some p → PAGE_SIZE * q < GUEST_END
  pub whole : (q : ℕ) (p : Page) → get m q ≡ Some p → length p.bytes ≡ PAGE_SIZE
