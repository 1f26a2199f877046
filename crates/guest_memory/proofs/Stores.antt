-- A number that is stored in one page.
--     stored_limits, stored_ok, stored_unwritable      what is so after it, where a test says that it was stored
use Rattle.std.proofs.Common.{◌≡◌, ℕ, ◌+◌, ◌/◌, ◌%◌, ◌^◌, ◌<◌, ◌≤◌, Bool, true, false, inl, inr, length, Some, Ok, IsTrue, IsFalse, refl, sym, ap, subst, ◌∙◌}
use Rattle.std.proofs.lemmas.Bool.Decides.{eqb_tells}
use Rattle.std.specs.FinMap.{get}
use Rattle.maps.specs.Maps.{get-insert-other}
use Rattle.guest_memory.specs.declared.access.Access.TheVariants.{Write}
use Rattle.guest_memory.specs.Limits.{KeepsLimits}
use Rattle.guest_memory.specs.Page.{Page, Pages}
use Rattle.page_table.specs.Table.{IsStored}
use Rattle.guest_memory.specs.Words.{bytes_of, store_of}
use Rattle.guest_memory.specs.Written.{KeepsUnwritable}
use Rattle.guest_memory.proofs.Numbers.{length-bytes_of}
use Rattle.guest_memory.proofs.Runs.{in_page}
use Rattle.guest_memory.proofs.Writes.{length_written_some, limits_kept, set_some_in_page, write_ok}

limits_after : (m n : Pages) (q place k v : ℕ) → KeepsLimits m → place + k ≤ 4096 → IsStored m q place k v n → KeepsLimits n
limits_after m n q place k v h fits s =
    subst KeepsLimits (sym s.after_is)
    (limits_kept m q s.page _ h s.there
    (length_written_some s.page.bytes place k (bytes_of k v) (h.whole q s.page s.there) (length-bytes_of k v) fits))

pub stored_limits : (m n : Pages) (q place k v : ℕ) (b : Bool) → KeepsLimits m → place + k ≤ 4096 → (IsTrue b → IsStored m q place k v n) → (IsFalse b → n ≡ m) → KeepsLimits n
stored_limits m n q place k v true h fits s same = limits_after m n q place k v h fits (s refl)
stored_limits m n q place k v false h fits s same = subst KeepsLimits (sym (same refl)) h

pub stored_ok : (m n : Pages) (a k v : ℕ) → KeepsLimits m → a < 2 ^ 64 → a % 4096 + k ≤ 4096 → IsStored m (a / 4096) (a % 4096) k v n → store_of m a k v ≡ Ok n
stored_ok m n a k v h small fits s =
    let whole : length s.page.bytes ≡ 4096 = h.whole (a / 4096) s.page s.there in
    write_ok m a k (bytes_of k v) _ (length-bytes_of k v) (in_page Write m s.page k a s.there s.writable whole small fits)
    ∙ ap Ok (set_some_in_page (bytes_of k v) m s.page a k s.there whole (length-bytes_of k v) small fits ∙ sym s.after_is)

not_writable : (p r : Page) → Some p ≡ Some r → p.prot.write ≡ true → r.prot.write ≡ false → ⊥
not_writable p r e may locked = cc

unwritable_after : (m n : Pages) (q place k v : ℕ) → IsStored m q place k v n → KeepsUnwritable m n
unwritable_after m n q place k v s r p e locked = elim (eqb_tells r q) [
  | inl same ↦ absurd (not_writable s.page p (sym s.there ∙ ap (get m) (sym same.1) ∙ e) s.writable locked)
  | inr other ↦ ap (λ (x : Pages). get x r) s.after_is ∙ get-insert-other m q _ r other.1 ∙ e
]

pub stored_unwritable : (m n : Pages) (q place k v : ℕ) (b : Bool) → (IsTrue b → IsStored m q place k v n) → (IsFalse b → n ≡ m) → KeepsUnwritable m n
stored_unwritable m n q place k v true s same = unwritable_after m n q place k v (s refl)
stored_unwritable m n q place k v false s same = λ r p e locked. ap (λ (x : Pages). get x r) (same refl) ∙ e
