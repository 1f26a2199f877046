-- Opens and the numbers of their holders.
use Rattle.std.specs.Prelude.{◌≡◌, ℕ, ◌==◌, not, Bool, is_some, refl}
use Rattle.std.specs.Ordering.{nat_cmp}
use Rattle.std.specs.FinMap.{FinMap, code, empty, get, retain_keys}
use Rattle.std.specs.Coded.{Coded, code_by, coded×, coded_ℕ}
use Rattle.abi_types.specs.declared.open_kind.OpenKind.{OpenKind}
use Rattle.abi_types.specs.contracts.open_kind.OpenKind as open_kind
use Rattle.maps.specs.Maps.{number}

-- what each open is, and how many hold it
pub record Held : Type 0 where
  pub kinds : FinMap nat_cmp OpenKind
  pub counts : FinMap nat_cmp ℕ

abbrev pub held_code : Coded Held
held_code =
    code_by (FinMap nat_cmp OpenKind × FinMap nat_cmp ℕ) (coded× (code coded_ℕ open_kind.the_row.coded) (code coded_ℕ coded_ℕ))
    (λ h. (h.kinds, h.counts)) (λ p. record { kinds = p.0; counts = p.1 }) (λ _. refl)

abbrev pub no_objects : Held
no_objects = record { kinds = empty; counts = empty }

-- whether something holds the open
abbrev pub is_held : FinMap nat_cmp ℕ → ℕ → Bool
is_held counts o = not (number (get counts o) == 0)

-- only what is held is left
abbrev pub unheld_removed : Held → Held
unheld_removed h = record { kinds = retain_keys h.kinds (is_held h.counts); counts = retain_keys h.counts (is_held h.counts) }

-- what is an open has a count of holders, and nothing else has one
abbrev pub HasCounts : FinMap nat_cmp OpenKind → FinMap nat_cmp ℕ → Type 0
HasCounts kinds counts = (o : ℕ) → is_some (get kinds o) ≡ is_some (get counts o)
