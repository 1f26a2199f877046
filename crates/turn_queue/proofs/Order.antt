-- Tickets in the order of their numbers.
--     ready_put      a ticket that comes stands behind the others
--     any_free      whether one is of a free process
--     may_take      the first one of a free process is taken out
use Rattle.std.proofs.Common.{◌≡◌, ◌≢◌, ℕ, ◌+◌, ◌<◌, ◌≤◌, Bool, true, false, cond, ◌||◌, T, List, [], ◌∷◌, ◌++◌, map, length, Option, None, Some, IsSome, is_some, Less, Equal, Greater, inl, inr, refl, sym, ap, subst, ◌∙◌, arith}
use Rattle.std.proofs.lemmas.Bool.Decides.{eqb_tells}
use Rattle.std.proofs.lemmas.List.Elements.{All-from_recursion}
use Rattle.std.specs.List.{AllByRecursion, list_any}
use Rattle.std.specs.Ordering.{nat_cmp, eq_by_cmp, is_eq, is_lt}
use Rattle.std.specs.Cmp.{nat_cmp_total, tied_itself, ranked}
use Rattle.std.specs.FinMap.{FinMap, empty, len-empty, len-entries, get, insert, remove, entries, values, find, put, is_sorted, entries_sorted, get-entries, entries-insert, nat_cmp-IsAntisymmetric}
use Rattle.std.specs.FinMap.Entries.{by_order, below_all}
use Rattle.maps.specs.Halves.{first_part, second_part}
use Rattle.maps.specs.Maps.{first_key, least_key, least_key-entry, put_back, get-remove-same}
use Rattle.turn_queue.specs.Numbered.{Numbered, TakesFirst, none_numbered, first_free, is_free, with_busy, with_last, without_number}
use Rattle.turn_queue.specs.Tickets.{MayTake, Tickets, none, with_ready}
use Rattle.turn_queue.proofs.Firsts.{not_None, same_Some}

tie_same : (k : ℕ) → eq_by_cmp nat_cmp k k ≡ true
tie_same k = ap is_eq (tied_itself nat_cmp_total k)

less_of : (a b : ℕ) → T (is_lt (nat_cmp a b)) → a < b
less_of a b =
    elim (nat_cmp a b) as (λ r. r ≡ nat_cmp a b → T (is_lt r) → a < b) [
      | Less ↦ λ e _. ranked a b Less e
      | Equal ↦ λ e h. absurd h
      | Greater ↦ λ e h. absurd h
    ] refl

module _ {X : Type 0} where
  abbrev seconds : List (ℕ × X) → List X
  seconds es = map (λ e. e.1) es

  -- each key is below n
  abbrev Below : ℕ → List (ℕ × X) → Type 0
  Below n es = AllByRecursion (λ e. e.0 < n) es

  -- where a new key goes
  record Splits (n : ℕ) (x : X) (es : List (ℕ × X)) : Type 0 where
    front : List (ℕ × X)
    back : List (ℕ × X)
    was : es ≡ front ++ back
    is : put nat_cmp n x es ≡ front ++ (n, x) ∷ back
    before : Below n front

  splits : (n : ℕ) (x : X) (es : List (ℕ × X)) → find nat_cmp n es ≡ None → Splits n x es
  splits n x [] none = record { front = []; back = []; was = refl; is = refl; before = tt }
  splits n x (e ∷ es) none =
      elim (nat_cmp n e.0) as (λ r. r ≡ nat_cmp n e.0 → cond (is_eq r) (Some e.1) (find nat_cmp n es) ≡ None → Splits n x (e ∷ es)) [
        | Less ↦ λ r _. record {
          front = [];
          back = e ∷ es;
          was = refl;
          is = ap (λ o. by_order o ((n, x) ∷ e ∷ es) ((e.0, x) ∷ es) (e ∷ put nat_cmp n x es)) (sym r);
          before = tt;
        }
        | Equal ↦ λ r some. absurd (not_None e.1 (sym some))
        | Greater ↦ λ r rest. let after = splits n x es rest in record {
          front = e ∷ after.front;
          back = after.back;
          was = ap (λ l. e ∷ l) after.was;
          is = ap (λ o. by_order o ((n, x) ∷ e ∷ es) ((e.0, x) ∷ es) (e ∷ put nat_cmp n x es)) (sym r) ∙ ap (λ l. e ∷ l) after.is;
          before = (ranked n e.0 Greater r, after.before);
        }
      ] refl none

  put_last : (n : ℕ) (x : X) (es : List (ℕ × X)) → Below n es → put nat_cmp n x es ≡ es ++ (n, x) ∷ []
  put_last n x [] below = refl
  put_last n x (e ∷ es) below =
      elim (nat_cmp n e.0) as (λ r. r ≡ nat_cmp n e.0 → by_order r ((n, x) ∷ e ∷ es) ((e.0, x) ∷ es) (e ∷ put nat_cmp n x es) ≡ e ∷ (es ++ (n, x) ∷ [])) [
        | Less ↦ λ r. let other : n < e.0 = ranked n e.0 Less r in let under : e.0 < n = below.0 in absurd (omega (arith, other, under))
        | Equal ↦ λ r. let same : n ≡ e.0 = ranked n e.0 Equal r in let under : e.0 < n = below.0 in absurd (omega (arith, same, under))
        | Greater ↦ λ r. ap (λ l. e ∷ l) (put_last n x es below.1)
      ] refl

  seconds_join : (es fs : List (ℕ × X)) → seconds (es ++ fs) ≡ seconds es ++ seconds fs
  seconds_join [] fs = refl
  seconds_join (e ∷ es) fs = ap (λ l. e.1 ∷ l) (seconds_join es fs)

  -- ---- keys that are found are those of entries

  find_other : (q : ℕ) (e : ℕ × X) (es : List (ℕ × X)) → q ≢ e.0 → find nat_cmp q (e ∷ es) ≡ find nat_cmp q es
  find_other q e es apart =
      elim (nat_cmp q e.0) as (λ r. r ≡ nat_cmp q e.0 → cond (is_eq r) (Some e.1) (find nat_cmp q es) ≡ find nat_cmp q es) [
        | Less ↦ λ _. refl
        | Equal ↦ λ r. absurd (apart (nat_cmp-IsAntisymmetric q e.0 (sym r)))
        | Greater ↦ λ _. refl
      ] refl

  above_of_found : (k : ℕ) (es : List (ℕ × X)) → Rattle.std.proofs.Common.T (below_all nat_cmp k es) → (q : ℕ) (x : X) → find nat_cmp q es ≡ Some x → k < q
  above_of_found k [] b q x there = absurd (not_None x there)
  above_of_found k (e ∷ es) b q x there =
      elim (eqb_tells q e.0) [
        | inl same ↦ let below = less_of k e.0 (first_part _ _ b) in let is = same.1 in omega (arith, below, is)
        | inr other ↦ above_of_found k es (second_part _ _ b) q x (sym (find_other q e es other.1) ∙ there)
      ]

  keys_below : (n : ℕ) (es : List (ℕ × X)) → Rattle.std.proofs.Common.T (is_sorted nat_cmp es) → ((q : ℕ) (x : X) → find nat_cmp q es ≡ Some x → q < n) → Below n es
  keys_below n [] s below = tt
  keys_below n (e ∷ es) s below = (
    below e.0 e.1 (ap (λ b. cond b (Some e.1) (find nat_cmp e.0 es)) (tie_same e.0)),
    keys_below n es (second_part _ _ s) (λ q x there.
        let above = above_of_found e.0 es (first_part _ _ s) q x there in
        below q x (find_other q e es (λ same. omega (arith, same, above)) ∙ there)),
  )

  -- ---- the first one that passes

  any_first : (f : X → Bool) (es : List (ℕ × X)) → is_some (first_key (λ _ x. f x) es) ≡ list_any f (seconds es)
  any_first f [] = refl
  any_first f (e ∷ es) =
      elim (f e.1) as (λ b. is_some (cond b (Some e.0) (first_key (λ _ x. f x) es)) ≡ (b || list_any f (seconds es))) [
        | true ↦ refl
        | false ↦ any_first f es
      ]

  none_passes : (f : X → Bool) (es : List (ℕ × X)) → first_key (λ _ x. f x) es ≡ None → AllByRecursion (λ x. f x ≡ false) (seconds es)
  none_passes f [] is = tt
  none_passes f (e ∷ es) is =
      elim (f e.1) as (λ b. f e.1 ≡ b → cond b (Some e.0) (first_key (λ _ x. f x) es) ≡ None → AllByRecursion (λ x. f x ≡ false) (seconds (e ∷ es))) [
        | true ↦ λ _ some. absurd (not_None e.0 (sym some))
        | false ↦ λ fails rest. (fails, none_passes f es rest)
      ] refl is

  front_fails : (f : X → Bool) (n : ℕ) (front back : List (ℕ × X)) → Below n front → first_key (λ _ x. f x) (front ++ back) ≡ Some n
      → AllByRecursion (λ x. f x ≡ false) (seconds front)
  front_fails f n [] back below is = tt
  front_fails f n (e ∷ es) back below is =
      elim (f e.1) as (λ b. f e.1 ≡ b → cond b (Some e.0) (first_key (λ _ x. f x) (es ++ back)) ≡ Some n → AllByRecursion (λ x. f x ≡ false) (seconds (e ∷ es))) [
        | true ↦ λ _ some. let same = same_Some _ _ some in let under : e.0 < n = below.0 in absurd (omega (arith, same, under))
        | false ↦ λ fails rest. (fails, front_fails f n es back below.1 rest)
      ] refl is

  pub values_put : (m : FinMap nat_cmp X) (n : ℕ) (x : X) → ((k : ℕ) (y : X) → get m k ≡ Some y → k < n) → values (insert m n x) ≡ values m ++ x ∷ []
  values_put m n x below =
      ap seconds (entries-insert nat_cmp_total m n x
      ∙ put_last n x (entries m) (keys_below n (entries m) (entries_sorted m) (λ q y there. below q y (get-entries m q ∙ there))))
      ∙ seconds_join (entries m) ((n, x) ∷ [])

  pub any_least : (f : X → Bool) (m : FinMap nat_cmp X) → is_some (least_key (λ _ x. f x) m) ≡ list_any f (values m)
  unfolding least_key
  any_least f m = any_first f (entries m)

  pub none_least : (f : X → Bool) (m : FinMap nat_cmp X) → least_key (λ _ x. f x) m ≡ None → AllByRecursion (λ x. f x ≡ false) (values m)
  unfolding least_key
  none_least f m is = none_passes f (entries m) is

  least_fails : (f : X → Bool) (m : FinMap nat_cmp X) (n : ℕ) (front back : List (ℕ × X)) → entries m ≡ front ++ back → Below n front
      → least_key (λ _ x. f x) m ≡ Some n → AllByRecursion (λ x. f x ≡ false) (seconds front)
  unfolding least_key
  least_fails f m n front back e below is = front_fails f n front back below (ap (first_key (λ _ x. f x)) (sym e) ∙ is)

  -- where the value at the least key that passes stands
  pub record Leads (f : X → Bool) (x : X) (was new : List X) : Type 0 where
    pub front : List X
    pub back : List X
    pub stood : was ≡ front ++ x ∷ back
    pub stands : new ≡ front ++ back
    pub fails : AllByRecursion (λ y. f y ≡ false) front

  pub taken : (f : X → Bool) (m : FinMap nat_cmp X) (n : ℕ) (x : X) → least_key (λ _ y. f y) m ≡ Some n → get m n ≡ Some x
      → Leads f x (values m) (values (remove m n))
  taken f m n x least there =
      let at = splits n x (entries (remove m n)) (sym (get-entries (remove m n) n) ∙ get-remove-same m n) in
      let whole : entries m ≡ at.front ++ (n, x) ∷ at.back =
      ap (λ (k : FinMap nat_cmp X). entries k) (sym (put_back m n x there)) ∙ entries-insert nat_cmp_total (remove m n) n x ∙ at.is in
      record {
        front = seconds at.front;
        back = seconds at.back;
        stood = ap seconds whole ∙ seconds_join at.front ((n, x) ∷ at.back);
        stands = ap seconds at.was ∙ seconds_join at.front at.back;
        fails = least_fails f m n at.front ((n, x) ∷ at.back) whole at.before least;
      }

abbrev pub listed : {T : Type 0} → FinMap nat_cmp T → Numbered T → Tickets T
listed parked all = record { ready = values all.tickets; parked = parked; busy = all.busy }

module _ {T : Type 0} (process : T → ℕ) where
  pub ready_put : (parked : FinMap nat_cmp T) (x : T) (old new : Numbered T) → ((n : ℕ) (y : T) → get old.tickets n ≡ Some y → n < old.next)
      → new ≡ with_last x old → listed parked new ≡ with_ready x (listed parked old)
  ready_put parked x old new below is =
      ap (listed parked) is
      ∙ ap (λ l. record { ready = l; parked = parked; busy = old.busy }) (values_put old.tickets old.next x below)

  pub any_free : (all : Numbered T) (o : Option ℕ) → o ≡ first_free process all → is_some o ≡ list_any (is_free process all.busy) (values all.tickets)
  any_free all o is = ap is_some is ∙ any_least (is_free process all.busy) all.tickets

  pub may_take : (parked : FinMap nat_cmp T) (o : Option T) (old new : Numbered T) → TakesFirst process o old new
      → MayTake process o (listed parked old) (listed parked new)
  may_take parked None old new takes =
      (All-from_recursion _ _ (none_least (is_free process old.busy) old.tickets takes.0), ap (listed parked) takes.1)
  may_take parked (Some x) old new takes =
      let leads = taken (is_free process old.busy) old.tickets takes.0 x takes.1 takes.2 in
      let entry = least_key-entry (λ _ y. is_free process old.busy y) old.tickets takes.0 takes.1 in
      let new_is : new ≡ without_number takes.0 (with_busy (process x) old) = takes.3 in
      record {
        front = leads.front;
        back = leads.back;
        was = leads.stood;
        is = ap (is_free process old.busy) (same_Some _ _ (sym takes.2 ∙ entry.1)) ∙ entry.2;
        first = All-from_recursion _ _ leads.fails;
        ready = ap (λ (t : Numbered T). values t.tickets) new_is ∙ leads.stands;
        parked = refl;
        busy = ap (λ (t : Numbered T). t.busy) new_is;
      }

no_values : {X : Type 0} (es : List (ℕ × X)) → length es ≡ 0 → map (λ e. e.1) es ≡ []
no_values [] e = refl
no_values (x ∷ es) e = absurd (omega arith)

pub ready_none : {T : Type 0} (parked : FinMap nat_cmp T) (all : Numbered T) → all ≡ none_numbered → parked ≡ empty → listed parked all ≡ none
ready_none {T} parked all none_ready none_parked =
    ap (λ (p : FinMap nat_cmp T). listed p all) none_parked
    ∙ ap (λ (q : Numbered T). listed empty q) none_ready
    ∙ ap (λ (l : List T). record { ready = l; parked = empty; busy = empty })
    (no_values (entries empty) (sym (len-entries (empty {X = T} {R = nat_cmp})) ∙ len-empty nat_cmp T))

-- whose process is busy then
pub taken_busy : {T : Type 0} (process : T → ℕ) (x : T) (old new : Numbered T) (o : Option T) → o ≡ Some x → TakesFirst process o old new
    → new.busy ≡ insert old.busy (process x) tt
taken_busy {T} process x old new o is takes =
    let first = subst (λ (t : Option T). TakesFirst process t old new) is takes in
    ap (λ (t : Numbered T). t.busy) first.3
