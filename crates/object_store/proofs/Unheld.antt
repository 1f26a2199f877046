-- Which opens nothing holds, by the list, and what is left as they go.
use Rattle.std.proofs.Common.{◌≡◌, ◌≢◌, ◌↔◌, ℕ, ◌-◌, ◌<◌, true, false, List, [], ◌∷◌, length, slice_get, Option, Some, None, IsNone, IfSome, IfNone, is_some, refl, sym, ap, ◌∙◌, arith}
use Rattle.std.proofs.lemmas.Option.{same_Some, slice_get_within, slice_get-get_or}
use Rattle.std.specs.Ordering.{nat_cmp}
use Rattle.std.specs.FinMap.{FinMap, get, remove, len}
use Rattle.abi_types.specs.declared.open_kind.OpenKind.{OpenKind}
use Rattle.maps.specs.Maps.{len-removed}
use Rattle.object_store.specs.Entries.{place_of, counts_of, held_of, AreListed}
use Rattle.object_store.specs.Objects.{Held, HasCounts, unheld_removed}
use Rattle.object_store.specs.Removed.{unheld_removed-once, unheld_removed-none}
use Rattle.object_store.specs.declared.entry.Entry.{Entry}
use Rattle.object_store.proofs.Views.{count_at, count_absent}
use Rattle.object_store.proofs.Places.{listed_entry, place_unheld}

-- ---- the opens in the list

-- what stands in the list has no holder
pub reported_unheld : (m : FinMap nat_cmp Entry) (list : List ℕ) (o i : ℕ) → AreListed m list → slice_get list i ≡ Some o → get (counts_of m) o ≡ Some 0
reported_unheld m list o i reported is =
    let entry = listed_entry m list o i reported is in
    count_at m o entry.0 entry.1 ∙ ap Some entry.2

-- an open without a holder stands in the list
unheld_reported : (m : FinMap nat_cmp Entry) (list : List ℕ) (o : ℕ) (entry : Option Entry) → AreListed m list → get m o ≡ entry → get (counts_of m) o ≡ Some 0
    → (i : ℕ) × (slice_get list i ≡ Some o)
unheld_reported m list o None reported is zero = let none = count_absent m o is in absurd (cc)
unheld_reported m list o (Some e) reported is zero =
    let none : e.count ≡ 0 = same_Some _ _ (sym (count_at m o e is) ∙ zero) in
    (e.place, (reported o e.place).0 (ap place_of is ∙ place_unheld e none))

-- where the list is empty, each open has a holder
pub none_unheld : (m : FinMap nat_cmp Entry) (list : List ℕ) → AreListed m list → length list ≡ 0 → (o : ℕ) → get (counts_of m) o ≢ Some 0
none_unheld m list reported short o zero =
    let there = unheld_reported m list o (get m o) reported refl zero in
    let within = slice_get_within list there.0 o there.1 in
    omega (arith, short, within)

-- the last of the list is one, if there is one
last_none : (list : List ℕ) → slice_get list (length list - 1) ≡ None → length list ≡ 0
last_none [] none = refl
last_none (x ∷ xs) none =
    let last : slice_get (x ∷ xs) (length (x ∷ xs) - 1) ≡ Some _ = slice_get-get_or (x ∷ xs) (length (x ∷ xs) - 1) 0 (omega arith) in
    absurd (cc)

module _ (m : FinMap nat_cmp Entry) (list : List ℕ) (h : Held) (reported : AreListed m list) (view : held_of m ≡ h) where
  pub last_unheld : (last : Option ℕ) → last ≡ slice_get list (length list - 1) → IfSome last (λ o. get h.counts o ≡ Some 0)
  last_unheld None is = tt
  last_unheld (Some o) is = sym (λ i. get (view i).counts o) ∙ reported_unheld m list o (length list - 1) reported (sym is)

  pub no_last : (last : Option ℕ) → last ≡ slice_get list (length list - 1) → IsNone last ↔ ((o : ℕ) → get h.counts o ≢ Some 0)
  no_last None is = (λ _ o zero. none_unheld m list reported (last_none list (sym is)) o ((λ i. get (view i).counts o) ∙ zero), λ _. refl)
  no_last (Some o) is = (λ none. absurd (cc), λ held. absurd (held o (last_unheld (Some o) is)))

-- ---- one of them goes

-- fewer are left, and in the end the same
pub popped : (h new : Held) (gone : Option (ℕ × OpenKind)) → is_some gone ≡ true → IfSome gone (λ g. get h.counts g.0 ≡ Some 0)
    → IfSome gone (λ g. new ≡ record { kinds = remove h.kinds g.0; counts = remove h.counts g.0 })
    → (len new.counts < len h.counts) × (unheld_removed new ≡ unheld_removed h)
popped h new None some unheld is = absurd (cc)
popped h new (Some g) some unheld is =
    let one = len-removed h.counts g.0 0 unheld in
    let counts = ap (λ (x : Held). len x.counts) is in
    (omega (arith, one, counts), ap unheld_removed is ∙ unheld_removed-once h g.0 unheld)

pub none_popped : (h new : Held) (gone : Option (ℕ × OpenKind)) → is_some gone ≡ false → IfNone gone (new ≡ h) → HasCounts h.kinds h.counts
    → (IsNone gone → (o : ℕ) → get h.counts o ≢ Some 0) → new ≡ unheld_removed h
none_popped h new None none same all unheld = same ∙ sym (unheld_removed-none h all (unheld refl))
none_popped h new (Some g) none same all unheld = absurd (cc)
