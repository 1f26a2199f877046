-- What the two maps that contracts see answer, and how they change with the entries.
use Rattle.std.proofs.Common.{◌≡◌, ℕ, Option, Some, None, IsSome, is_some, option_map, refl, sym, ap, ◌∙◌, ◌<◌, arith}
use Rattle.std.specs.Ordering.{nat_cmp}
use Rattle.std.specs.FinMap.{FinMap, empty, get, insert, remove}
use Rattle.maps.specs.Closure.{get-changed, changed-empty, changed-insert, changed-remove}
use Rattle.maps.specs.Maps.{number, insert_self}
use Rattle.object_store.specs.Entries.{kinds_of, counts_of, held_of}
use Rattle.object_store.specs.Objects.{Held, HasCounts, no_objects}
use Rattle.object_store.specs.declared.entry.Entry.{Entry}

pub get-kinds : (m : FinMap nat_cmp Entry) (o : ℕ) → get (kinds_of m) o ≡ option_map (λ e. e.kind) (get m o)
get-kinds m o = get-changed (λ _ e. e.kind) m o

pub get-counts : (m : FinMap nat_cmp Entry) (o : ℕ) → get (counts_of m) o ≡ option_map (λ e. e.count) (get m o)
get-counts m o = get-changed (λ _ e. e.count) m o

-- at an entry
pub kind_at : (m : FinMap nat_cmp Entry) (o : ℕ) (e : Entry) → get m o ≡ Some e → get (kinds_of m) o ≡ Some e.kind
kind_at m o e there = get-kinds m o ∙ ap (option_map (λ (x : Entry). x.kind)) there

pub count_at : (m : FinMap nat_cmp Entry) (o : ℕ) (e : Entry) → get m o ≡ Some e → get (counts_of m) o ≡ Some e.count
count_at m o e there = get-counts m o ∙ ap (option_map (λ (x : Entry). x.count)) there

pub kind_absent : (m : FinMap nat_cmp Entry) (o : ℕ) → get m o ≡ None → get (kinds_of m) o ≡ None
kind_absent m o gone = get-kinds m o ∙ ap (option_map (λ (x : Entry). x.kind)) gone

pub count_absent : (m : FinMap nat_cmp Entry) (o : ℕ) → get m o ≡ None → get (counts_of m) o ≡ None
count_absent m o gone = get-counts m o ∙ ap (option_map (λ (x : Entry). x.count)) gone

-- what is in one of the maps is an entry
some_mapped : {A B : Type 0} (f : A → B) (o : Option A) → is_some (option_map f o) ≡ is_some o
some_mapped f None = refl
some_mapped f (Some x) = refl

pub some_kind : (m : FinMap nat_cmp Entry) (o : ℕ) → is_some (get (kinds_of m) o) ≡ is_some (get m o)
some_kind m o = ap is_some (get-kinds m o) ∙ some_mapped _ (get m o)

pub some_count : (m : FinMap nat_cmp Entry) (o : ℕ) → is_some (get (counts_of m) o) ≡ is_some (get m o)
some_count m o = ap is_some (get-counts m o) ∙ some_mapped _ (get m o)

pub has_counts : (m : FinMap nat_cmp Entry) → HasCounts (kinds_of m) (counts_of m)
has_counts m o = some_kind m o ∙ sym (some_count m o)

-- what is free in the map of kinds has no entry
none_of_same : {A B : Type 0} (f : A → B) (o : Option A) → option_map f o ≡ None → o ≡ None
none_of_same f None e = refl
none_of_same f (Some x) e = absurd (cc)

-- what has a holder has an entry
some_number : {A : Type 0} (f : A → ℕ) (o : Option A) (n : ℕ) → n ≡ number (option_map f o) → 0 < n → IsSome o
some_number f None n e some = absurd (omega (arith, e))
some_number f (Some x) n e some = refl

-- ---- the maps after a change

pub view_new : held_of empty ≡ no_objects
view_new = λ i. record { kinds = changed-empty (λ (_ : ℕ) (e : Entry). e.kind) i; counts = changed-empty (λ (_ : ℕ) (e : Entry). e.count) i }

pub kinds-insert : (m : FinMap nat_cmp Entry) (o : ℕ) (e : Entry) → kinds_of (insert m o e) ≡ insert (kinds_of m) o e.kind
kinds-insert m o e = changed-insert (λ _ x. x.kind) m o e

pub counts-insert : (m : FinMap nat_cmp Entry) (o : ℕ) (e : Entry) → counts_of (insert m o e) ≡ insert (counts_of m) o e.count
counts-insert m o e = changed-insert (λ _ x. x.count) m o e

pub kinds-remove : (m : FinMap nat_cmp Entry) (o : ℕ) → kinds_of (remove m o) ≡ remove (kinds_of m) o
kinds-remove m o = changed-remove (λ _ x. x.kind) m o

pub counts-remove : (m : FinMap nat_cmp Entry) (o : ℕ) → counts_of (remove m o) ≡ remove (counts_of m) o
counts-remove m o = changed-remove (λ _ x. x.count) m o

-- an entry that changes, with the same kind or with as many holders
pub kinds_stay : (m : FinMap nat_cmp Entry) (o : ℕ) (e new : Entry) → get m o ≡ Some e → new.kind ≡ e.kind → kinds_of (insert m o new) ≡ kinds_of m
kinds_stay m o e new there same = kinds-insert m o new ∙ insert_self (kinds_of m) o new.kind (kind_at m o e there ∙ ap Some (sym same))

pub counts_stay : (m : FinMap nat_cmp Entry) (o : ℕ) (e new : Entry) → get m o ≡ Some e → new.count ≡ e.count → counts_of (insert m o new) ≡ counts_of m
counts_stay m o e new there same = counts-insert m o new ∙ insert_self (counts_of m) o new.count (count_at m o e there ∙ ap Some (sym same))

-- ---- what contracts see, where they see the entries as h and the key as o

module _ (m : FinMap nat_cmp Entry) (k o : ℕ) (h : Held) (view : held_of m ≡ h) (id : k ≡ o) where
  pub seen_kind : (e : Entry) → Some e ≡ get m k → Some e.kind ≡ get h.kinds o
  seen_kind e there = sym (kind_at m k e (sym there)) ∙ (λ i. get (view i).kinds (id i))

  pub seen_no_kind : None ≡ get m k → None ≡ get h.kinds o
  seen_no_kind gone = sym (kind_absent m k (sym gone)) ∙ (λ i. get (view i).kinds (id i))

  pub seen_count : (e : Entry) → Some e ≡ get m k → e.count ≡ number (get h.counts o)
  seen_count e there = ap number (sym (count_at m k e (sym there))) ∙ (λ i. number (get (view i).counts (id i)))

  pub seen_no_count : None ≡ get m k → 0 ≡ number (get h.counts o)
  seen_no_count gone = ap number (sym (count_absent m k (sym gone))) ∙ (λ i. number (get (view i).counts (id i)))

  -- what contracts see there has an entry
  pub entry_of_kind : IsSome (get h.kinds o) → IsSome (get m k)
  entry_of_kind there = sym (some_kind m k) ∙ (λ i. is_some (get (view i).kinds (id i))) ∙ there

  pub entry_of_count : IsSome (get h.counts o) → IsSome (get m k)
  entry_of_count there = sym (some_count m k) ∙ (λ i. is_some (get (view i).counts (id i))) ∙ there

  pub entry_of_holder : 0 < number (get h.counts o) → IsSome (get m k)
  entry_of_holder some =
      some_number (λ (e : Entry). e.count) (get m k) (number (get h.counts o))
      (sym (λ i. number (get (view i).counts (id i))) ∙ ap number (get-counts m k)) some

  -- and what they see free has none
  pub entry_of_free : get h.kinds o ≡ None → get m k ≡ None
  entry_of_free free = none_of_same (λ (e : Entry). e.kind) (get m k) (sym (get-kinds m k) ∙ (λ i. get (view i).kinds (id i)) ∙ free)

  -- an entry that comes, one that gets another kind, one with more or fewer holders, and one that goes
  pub seen_put : (new : Entry) → held_of (insert m k new) ≡ record { kinds = insert h.kinds o new.kind; counts = insert h.counts o new.count }
  seen_put new =
      let kinds : kinds_of (insert m k new) ≡ insert h.kinds o new.kind = kinds-insert m k new ∙ (λ i. insert (view i).kinds (id i) new.kind) in
      let counts : counts_of (insert m k new) ≡ insert h.counts o new.count = counts-insert m k new ∙ (λ i. insert (view i).counts (id i) new.count) in
      λ i. record { kinds = kinds i; counts = counts i }

  pub seen_set : (e new : Entry) → Some e ≡ get m k → new.count ≡ e.count → held_of (insert m k new) ≡ record h { kinds = insert h.kinds o new.kind }
  seen_set e new there same =
      let kinds : kinds_of (insert m k new) ≡ insert h.kinds o new.kind = kinds-insert m k new ∙ (λ i. insert (view i).kinds (id i) new.kind) in
      let counts : counts_of (insert m k new) ≡ h.counts = counts_stay m k e new (sym there) same ∙ (λ i. (view i).counts) in
      λ i. record { kinds = kinds i; counts = counts i }

  pub seen_counted : (e new : Entry) (n : ℕ) → Some e ≡ get m k → new.kind ≡ e.kind → new.count ≡ n
      → held_of (insert m k new) ≡ record h { counts = insert h.counts o n }
  seen_counted e new n there same count =
      let kinds : kinds_of (insert m k new) ≡ h.kinds = kinds_stay m k e new (sym there) same ∙ (λ i. (view i).kinds) in
      let counts : counts_of (insert m k new) ≡ insert h.counts o n = counts-insert m k new ∙ (λ i. insert (view i).counts (id i) (count i)) in
      λ i. record { kinds = kinds i; counts = counts i }

  pub seen_remove : held_of (remove m k) ≡ record { kinds = remove h.kinds o; counts = remove h.counts o }
  seen_remove =
      let kinds : kinds_of (remove m k) ≡ remove h.kinds o = kinds-remove m k ∙ (λ i. remove (view i).kinds (id i)) in
      let counts : counts_of (remove m k) ≡ remove h.counts o = counts-remove m k ∙ (λ i. remove (view i).counts (id i)) in
      λ i. record { kinds = kinds i; counts = counts i }
