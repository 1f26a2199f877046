-- Sets of threads whose least one stands apart: `first` is it, and `rest` has the others.
--     least_none, least_down, least_more, least_fewer, least_left      the least one after a change
--     stood_again, stood_above, left_other, left_first      the set after a change
--     others_stay      others are left where the least one goes
use Rattle.std.proofs.Common.{◌≡◌, ◌≢◌, ◌↔◌, ℕ, ◌<◌, ◌≤◌, true, false, inl, inr, Option, Some, None, IsSome, is_some, refl, sym, ap, subst, ◌∙◌, arith}
use Rattle.std.specs.Option.{IfSome, IsNone}
use Rattle.std.specs.Ordering.{nat_cmp}
use Rattle.std.specs.FinMap.{get, empty, insert, remove, contains_key, get-empty}
use Rattle.std.proofs.lemmas.Bool.Decides.{eqb_tells}
use Rattle.maps.specs.Halves.{not_true}
use Rattle.maps.specs.Maps.{get-insert-same, get-insert-other, get-remove-same, get-remove-other, insert-again, insert-insert, remove-inserted, remove-insert_other, put_back}
use Rattle.wait_set.specs.Queued.{QueueSet, IsLeast}

none_in : (rest : QueueSet) (t : ℕ) → rest ≡ empty → contains_key rest t ≡ false
none_in rest t none = ap (λ (q : QueueSet). contains_key q t) none ∙ ap is_some (get-empty nat_cmp t)

pub least_none : (first : ℕ) (rest : QueueSet) → rest ≡ empty → IsLeast first rest
least_none first rest none = λ t at. absurd (not_true (sym (none_in rest t none) ∙ at))

-- an entry of the set with one more is that one or an old one
other_in : (rest : QueueSet) (k t : ℕ) → t ≢ k → contains_key (insert rest k tt) t ≡ true → contains_key rest t ≡ true
other_in rest k t other at = sym (ap is_some (get-insert-other rest k tt t other)) ∙ at

pub least_down : (first thread : ℕ) (rest : QueueSet) → IsLeast first rest → thread < first → IsLeast thread (insert rest first tt)
least_down first thread rest least less = λ t at.
    elim (eqb_tells t first) [
      | inl same ↦ let is = same.1 in omega arith
      | inr other ↦ let more = least t (other_in rest first t other.1 at) in omega arith
    ]

pub least_more : (first thread : ℕ) (rest : QueueSet) → IsLeast first rest → first < thread → IsLeast first (insert rest thread tt)
least_more first thread rest least less = λ t at.
    elim (eqb_tells t thread) [
      | inl same ↦ let is = same.1 in omega arith
      | inr other ↦ least t (other_in rest thread t other.1 at)
    ]

-- an entry of the set with one fewer is another one
kept_in : (rest : QueueSet) (k t : ℕ) → contains_key (remove rest k) t ≡ true → (t ≢ k) × (contains_key rest t ≡ true)
kept_in rest k t at =
    elim (eqb_tells t k) [
      | inl same ↦ absurd (not_true (sym (ap (λ q. is_some (get (remove rest k) q)) same.1 ∙ ap is_some (get-remove-same rest k)) ∙ at))
      | inr other ↦ (other.1, sym (ap is_some (get-remove-other rest k t other.1)) ∙ at)
    ]

pub least_fewer : (first thread : ℕ) (rest : QueueSet) → IsLeast first rest → IsLeast first (remove rest thread)
least_fewer first thread rest least = λ t at. least t (kept_in rest thread t at).1

pub least_left : (next : ℕ) (rest : QueueSet) → ((q : ℕ) → IsSome (get rest q) → next ≤ q) → IsLeast next (remove rest next)
least_left next rest least = λ t at.
    let kept = kept_in rest next t at in
    let most = least t kept.1 in
    let other = kept.0 in
    omega arith

first_absent : (first : ℕ) (rest : QueueSet) → IsLeast first rest → get rest first ≡ None
first_absent first rest least =
    elim (get rest first) as (λ o. get rest first ≡ o → o ≡ None) [
      | None ↦ λ _. refl
      | Some u ↦ λ at. let more = least first (ap is_some at) in absurd (omega arith)
    ] refl

-- ---- the set after a change

pub stood_again : (first thread : ℕ) (rest : QueueSet) → thread ≡ first → insert (insert rest first tt) thread tt ≡ insert rest first tt
stood_again first thread rest is = ap (λ k. insert (insert rest first tt) k tt) is ∙ insert-again rest first tt tt

pub stood_above : (first thread : ℕ) (rest : QueueSet) → first < thread → insert (insert rest thread tt) first tt ≡ insert (insert rest first tt) thread tt
stood_above first thread rest less = let other : first ≢ thread = omega arith in insert-insert rest thread first tt tt other

pub left_other : (first thread : ℕ) (rest : QueueSet) → thread ≢ first → insert (remove rest thread) first tt ≡ remove (insert rest first tt) thread
left_other first thread rest other = sym (remove-insert_other rest first thread tt other)

gone_first : (first thread : ℕ) (rest : QueueSet) → IsLeast first rest → thread ≡ first → remove (insert rest first tt) thread ≡ rest
gone_first first thread rest least is = ap (λ k. remove (insert rest first tt) k) is ∙ remove-inserted rest first tt (first_absent first rest least)

pub left_first : (first thread next : ℕ) (rest : QueueSet) → IsLeast first rest → thread ≡ first → get rest next ≡ Some tt
    → insert (remove rest next) next tt ≡ remove (insert rest first tt) thread
left_first first thread next rest least is at = put_back rest next tt at ∙ sym (gone_first first thread rest least is)

-- ---- whether there are others

pub other_stays : (first thread : ℕ) (rest : QueueSet) → first ≢ thread → remove (insert rest first tt) thread ≢ empty
other_stays first thread rest other = λ none.
    not_true
    (sym (none_in (remove (insert rest first tt) thread) first none)
    ∙ ap is_some (get-remove-other (insert rest first tt) thread first other ∙ get-insert-same rest first tt))

pub others_stay : (first thread : ℕ) (rest : QueueSet) → IsLeast first rest → thread ≡ first → remove (insert rest first tt) thread ≢ empty → rest ≢ empty
others_stay first thread rest least is more = λ none. more (gone_first first thread rest least is ∙ none)

pub only_one : (first thread : ℕ) (rest : QueueSet) → IsLeast first rest → thread ≡ first → rest ≢ empty → remove (insert rest first tt) thread ≢ empty
only_one first thread rest least is more = λ none. more (sym (gone_first first thread rest least is) ∙ none)

-- ---- what an answer holds

pub if_at : {A : Type 0} (r : Option A) (x : A) (P : A → Type 0) → r ≡ Some x → IfSome r P → P x
if_at {A = A} r x P is holds = let Q : Option A → Type 0 = λ o. IfSome o P in subst Q is holds

pub some_unless : {A : Type 0} (r : Option A) (E : Type 0) → (IsNone r ↔ E) → (E → ⊥) → IsSome r
some_unless None E iff out = absurd (out (iff.0 refl))
some_unless (Some x) E iff out = refl
