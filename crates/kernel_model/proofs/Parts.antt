-- Parts of states, and what updates leave of them.
use Rattle.std.proofs.Common.{◌≡◌, ◌≢◌, ℕ, ◌==◌, ◌||◌, Bool, true, false, T, List, [], ◌∷◌, ◌++◌, map, Some, inl, inr, Option, None, refl, sym, ap, subst, ◌∙◌, arith}
use Rattle.std.proofs.lemmas.Bool.Decides.{eqb_tells}
use Rattle.std.specs.Ordering.{nat_cmp}
use Rattle.std.specs.Option.{option_map}
use Rattle.std.specs.Prelude.{◌+◌}
use Rattle.std.specs.FinMap.{FinMap, get, insert, remove}
use Rattle.maps.specs.Maps.{get-insert-same, get-insert-other, get-remove-same, get-remove-other}
use Rattle.kernel_model.specs.Families.Numbers.{made_more}
use Rattle.kernel_model.specs.Outcome.{Outcome}
use Rattle.kernel_model.specs.OwnChanges.{IsChangedBy}
use Rattle.kernel_model.specs.Sight.{process_parts}
use Rattle.kernel_model.specs.State.{State, Part, at_clock, at_proc, at_status, at_open, at_node, at_names, at_term, at_chan, same_part, has_part, Agree, AgreeOn, Update, set_table, set_process, drop_own, set_status, set_open, set_node, set_names, set_term, set_chan, part_of, put_one, put_all, ProcessState}
use Rattle.kernel_model.proofs.Tests.{not_true, either_false, either_true, or_true}

-- ---- lists of parts

-- a part outside a list is no part of it
pub outside_cons : (part : Part) (parts : List Part) (q : Part) → has_part (part ∷ parts) q ≡ false → (same_part part q ≡ false) × (has_part parts q ≡ false)
outside_cons part parts q h = either_false (same_part part q) (has_part parts q) h

or_or : (a b c : Bool) → (a || (b || c)) ≡ ((a || b) || c)
or_or true b c = refl
or_or false b c = refl

pub has_of_both : (xs ys : List Part) (q : Part) → has_part (xs ++ ys) q ≡ (has_part xs q || has_part ys q)
has_of_both [] ys q = refl
has_of_both (x ∷ xs) ys q = ap (λ b. same_part x q || b) (has_of_both xs ys q) ∙ or_or (same_part x q) (has_part xs q) (has_part ys q)

-- a part outside both lists is outside each
pub of_first : (xs ys : List Part) (q : Part) → has_part (xs ++ ys) q ≡ false → has_part xs q ≡ false
of_first xs ys q h = (either_false (has_part xs q) (has_part ys q) (sym (has_of_both xs ys q) ∙ h)).0

pub of_second : (xs ys : List Part) (q : Part) → has_part (xs ++ ys) q ≡ false → has_part ys q ≡ false
of_second xs ys q h = (either_false (has_part xs q) (has_part ys q) (sym (has_of_both xs ys q) ∙ h)).1

-- what one list has both have
pub has_left : (xs ys : List Part) (q : Part) → has_part xs q ≡ true → has_part (xs ++ ys) q ≡ true
has_left xs ys q h = has_of_both xs ys q ∙ ap (λ b. b || has_part ys q) h

pub has_right : (xs ys : List Part) (q : Part) → has_part ys q ≡ true → has_part (xs ++ ys) q ≡ true
has_right xs ys q h = has_of_both xs ys q ∙ ap (λ b. has_part xs q || b) h ∙ or_true (has_part xs q)

-- a part that neither has
pub outside_both : (xs ys : List Part) (q : Part) → has_part (xs ++ ys) q ≡ false → (has_part xs q ≡ false) × (has_part ys q ≡ false)
outside_both xs ys q h = either_false (has_part xs q) (has_part ys q) (sym (has_of_both xs ys q) ∙ h)

-- a part that is neither the process's own nor among these
pub beyond_process : (p : ℕ) (parts : List Part) (q : Part) → has_part (process_parts p ++ parts) q ≡ false → (has_part (process_parts p) q ≡ false) × (has_part parts q ≡ false)
beyond_process p parts q h = outside_both (process_parts p) parts q h

-- ---- the same values

pub agree_self : (S : State) (q : Part) → Agree S S q
agree_self S (at_proc p) = (refl, refl)
agree_self S q = refl

pub agree_through : (S T U : State) (q : Part) → Agree S T q → Agree T U q → Agree S U q
agree_through S T U (at_proc p) a b = (a.0 ∙ b.0, a.1 ∙ b.1)
agree_through S T U q a b = a ∙ b

same_number : (a b : ℕ) → (a == b) ≡ true → a ≡ b
same_number a b h = elim (eqb_tells a b) [ inl is ↦ is.1 | inr other ↦ absurd (not_true (sym other.0 ∙ h)) ]

pub other_number : (a b : ℕ) → (a == b) ≡ false → b ≢ a
other_number a b h e = elim (eqb_tells a b) [ inl is ↦ not_true (sym h ∙ is.0) | inr other ↦ other.1 (sym e) ]

pub number_apart : (a b : ℕ) → b ≢ a → (a == b) ≡ false
number_apart a b n = elim (eqb_tells a b) [ inl is ↦ absurd (n (sym is.1)) | inr other ↦ other.0 ]

-- the same part is the same
pub same_part_is : (a b : Part) → same_part a b ≡ true → a ≡ b
same_part_is at_clock at_clock h = refl
same_part_is (at_proc p) (at_proc q) h = ap at_proc (same_number p q h)
same_part_is (at_status p) (at_status q) h = ap at_status (same_number p q h)
same_part_is (at_open o) (at_open r) h = ap at_open (same_number o r h)
same_part_is (at_node n) (at_node m) h = ap at_node (same_number n m h)
same_part_is (at_names n) (at_names m) h = ap at_names (same_number n m h)
same_part_is (at_term k) (at_term j) h = ap at_term (same_number k j h)
same_part_is (at_chan c) (at_chan e) h = ap at_chan (same_number c e h)
same_part_is a b h = absurd (not_true h)

-- states that agree on a list of parts agree on each part of it
pub agree_at : (S T : State) (parts : List Part) (q : Part) → AgreeOn S T parts → has_part parts q ≡ true → Agree S T q
agree_at S T [] q all h = absurd (not_true h)
agree_at S T (part ∷ parts) q all h =
    elim (either_true (same_part part q) (has_part parts q) h) [
      | inl here ↦ subst (λ r. Agree S T r) (same_part_is part q here) all.0
      | inr there ↦ agree_at S T parts q all.1 there
    ]

-- ---- updates

pub put_one_keeps : (u : Update) (S : State) (q : Part) → same_part (part_of u) q ≡ false → Agree (put_one u S) S q
put_one_keeps (set_table p t) S (at_proc q) h = (get-insert-other S.tables p t q (other_number p q h), refl)
put_one_keeps (set_process p own) S (at_proc q) h = (refl, get-insert-other S.processes p own q (other_number p q h))
put_one_keeps (drop_own p) S (at_proc q) h =
    (get-remove-other S.tables p q (other_number p q h), get-remove-other S.processes p q (other_number p q h))
put_one_keeps (set_status p s) S (at_status q) h = get-insert-other S.statuses p s q (other_number p q h)
put_one_keeps (set_open o kind) S (at_open r) h = get-insert-other S.opens o kind r (other_number o r h)
put_one_keeps (set_node n node) S (at_node m) h = get-insert-other S.nodes n node m (other_number n m h)
put_one_keeps (set_names n names) S (at_names m) h = get-insert-other S.names n names m (other_number n m h)
put_one_keeps (set_term k stream) S (at_term j) h = get-insert-other S.terms k stream j (other_number k j h)
put_one_keeps (set_chan c channel) S (at_chan e) h = get-insert-other S.chans c channel e (other_number c e h)
put_one_keeps u S q h = agree_self S q

-- a part that no update sets keeps its value
pub put_keeps : (us : List Update) (S : State) (q : Part) → has_part (map part_of us) q ≡ false → Agree (put_all us S) S q
put_keeps [] S q h = agree_self S q
put_keeps (u ∷ us) S q h =
    let apart = outside_cons (part_of u) (map part_of us) q h in
    agree_through (put_all us (put_one u S)) (put_one u S) S q (put_keeps us (put_one u S) q apart.1) (put_one_keeps u S q apart.0)

insert_alike : {X : Type 0} (m n : FinMap nat_cmp X) (k : ℕ) (x : X) (q : ℕ) → get m q ≡ get n q → get (insert m k x) q ≡ get (insert n k x) q
insert_alike m n k x q e =
    elim (eqb_tells q k) [
      | inl is ↦ subst (λ j. get (insert m k x) j ≡ get (insert n k x) j) (sym is.1) (get-insert-same m k x ∙ sym (get-insert-same n k x))
      | inr other ↦ get-insert-other m k x q other.1 ∙ e ∙ sym (get-insert-other n k x q other.1)
    ]

remove_alike : {X : Type 0} (m n : FinMap nat_cmp X) (k q : ℕ) → get m q ≡ get n q → get (remove m k) q ≡ get (remove n k) q
remove_alike m n k q e =
    elim (eqb_tells q k) [
      | inl is ↦ subst (λ j. get (remove m k) j ≡ get (remove n k) j) (sym is.1) (get-remove-same m k ∙ sym (get-remove-same n k))
      | inr other ↦ get-remove-other m k q other.1 ∙ e ∙ sym (get-remove-other n k q other.1)
    ]

pub put_one_same : (u : Update) (S T : State) (q : Part) → Agree S T q → Agree (put_one u S) (put_one u T) q
put_one_same (set_table p t) S T (at_proc q) h = (insert_alike S.tables T.tables p t q h.0, h.1)
put_one_same (set_process p own) S T (at_proc q) h = (h.0, insert_alike S.processes T.processes p own q h.1)
put_one_same (drop_own p) S T (at_proc q) h = (remove_alike S.tables T.tables p q h.0, remove_alike S.processes T.processes p q h.1)
put_one_same (set_status p s) S T (at_status q) h = insert_alike S.statuses T.statuses p s q h
put_one_same (set_open o kind) S T (at_open r) h = insert_alike S.opens T.opens o kind r h
put_one_same (set_node n node) S T (at_node m) h = insert_alike S.nodes T.nodes n node m h
put_one_same (set_names n names) S T (at_names m) h = insert_alike S.names T.names n names m h
put_one_same (set_term k stream) S T (at_term j) h = insert_alike S.terms T.terms k stream j h
put_one_same (set_chan c channel) S T (at_chan e) h = insert_alike S.chans T.chans c channel e h
put_one_same u S T q h = h

-- states that agree on a part still agree on it after the same updates
pub put_same : (us : List Update) (S T : State) (q : Part) → Agree S T q → Agree (put_all us S) (put_all us T) q
put_same [] S T q h = h
put_same (u ∷ us) S T q h = put_same us (put_one u S) (put_one u T) q (put_one_same u S T q h)

-- ---- what a process has of its own

more_none : (own : ProcessState) → made_more 0 own ≡ own
more_none own =
    let same : own.counts.objects + 0 ≡ own.counts.objects = omega arith in
    λ i. record own { counts = record own.counts { objects = same i } }

-- nothing of it has changed
pub own_stays : (o : Option ProcessState) → IsChangedBy (λ own. own) o o
own_stays None = (0, refl)
own_stays (Some own) = (0, ap Some (sym (more_none own)))

pub own_same : (before after : Option ProcessState) → after ≡ before → IsChangedBy (λ own. own) before after
own_same before after same = subst (IsChangedBy (λ own. own) before) (sym same) (own_stays before)

-- it has changed so, and no object was made
pub own_becomes : (f : ProcessState → ProcessState) (before after : Option ProcessState) (own : ProcessState) → before ≡ Some own → after ≡ Some (f own)
    → IsChangedBy f before after
own_becomes f before after own was is = (0, is ∙ ap Some (sym (more_none (f own))) ∙ sym (ap (option_map (λ x. made_more 0 (f x))) was))

-- after the outcome the process has what it had of its own, and perhaps more objects made
abbrev pub KeepsOwn : State → ℕ → Outcome → Type 0
KeepsOwn S p o = IsChangedBy (λ own. own) (get S.processes p) (get (put_all o.updates S).processes p)
