-- The list of opens without a holder, and the places in it that their entries give.
--
-- Here `P o` is the place that the entry of the open o gives, and `None` where the list is not to have the open.
use Rattle.std.proofs.Common.{◌≡◌, ◌≢◌, ◌↔◌, inl, inr, ℕ, ◌+◌, ◌-◌, ◌<◌, ◌≤◌, eq-eqb, cond, List, [], ◌∷◌, ◌++◌, length, get_or, Option, Some, None, IsSome, is_some, slice_get, refl, sym, ap, ◌∙◌, arith, length-append}
use Rattle.std.proofs.lemmas.Bool.Decides.{eqb_tells}
use Rattle.std.proofs.lemmas.List.{get_or_append_left, get_or-append_right}
use Rattle.std.proofs.lemmas.Option.{same_Some, slice_get_within, slice_get-get_or}
use Rattle.std.specs.Ordering.{nat_cmp}
use Rattle.std.specs.FinMap.{FinMap, empty, get, get-empty, insert, remove}
use Rattle.maps.specs.Maps.{get-insert-same, get-insert-other, get-remove-same, get-remove-other}
use Rattle.object_store.specs.Entries.{place_of, AreListed, AreListedBut}
use Rattle.object_store.specs.declared.entry.Entry.{Entry}

-- the list has each open at its place, and nothing else
abbrev pub Report : (ℕ → Option ℕ) → List ℕ → Type 0
Report P list = (o i : ℕ) → (P o ≡ Some i) ↔ (slice_get list i ≡ Some o)

abbrev pub ReportBut : ℕ → (ℕ → Option ℕ) → List ℕ → Type 0
ReportBut p P list = (o i : ℕ) → (P o ≡ Some i) ↔ ((slice_get list i ≡ Some o) × (i ≢ p))

-- ---- lists

below_end : (xs : List ℕ) (x i : ℕ) → i < length xs → slice_get (xs ++ x ∷ []) i ≡ slice_get xs i
below_end xs x i below =
    slice_get-get_or (xs ++ x ∷ []) i 0 (omega (arith, length-append xs (x ∷ []), below))
    ∙ ap Some (get_or_append_left xs (x ∷ []) 0 i below)
    ∙ sym (slice_get-get_or xs i 0 below)

at_end : (xs : List ℕ) (x i : ℕ) → i ≡ length xs → slice_get (xs ++ x ∷ []) i ≡ Some x
at_end xs x i end =
    slice_get-get_or (xs ++ x ∷ []) i 0 (omega (arith, length-append xs (x ∷ []), end))
    ∙ ap Some (get_or-append_right xs (x ∷ []) (length xs) i 0 refl (omega (arith, end)) ∙ ap (λ n. get_or (x ∷ []) n 0) (let zero : i - length xs ≡ 0 = omega (arith, end) in zero))

-- ---- places

-- where the same is given, the list may stay
pub report_same : (P Q : ℕ → Option ℕ) (list : List ℕ) → ((o : ℕ) → Q o ≡ P o) → Report P list → Report Q list
report_same P Q list same reported o i = (λ h. (reported o i).0 (sym (same o) ∙ h), λ h. same o ∙ (reported o i).1 h)

-- an open that comes to the end of the list
pub report_more : (P Q : ℕ → Option ℕ) (list : List ℕ) (k : ℕ) → P k ≡ None → Q k ≡ Some (length list) → ((o : ℕ) → o ≢ k → Q o ≡ P o)
    → Report P list → Report Q (list ++ k ∷ [])
report_more P Q list k absent new others reported o i =
    elim (eqb_tells o k) [
      | inl h ↦
          let here : Q o ≡ Some (length list) = ap Q h.1 ∙ new in
          let none : P o ≡ None = ap P h.1 ∙ absent in (
            λ is. at_end list k i (same_Some _ _ (sym is ∙ here)) ∙ ap Some (sym h.1),
            λ is.
                let most : i < length (list ++ k ∷ []) = slice_get_within _ i o is in
                let long = length-append list (k ∷ []) in
                elim (eqb_tells i (length list)) [
                  | inl end ↦ here ∙ ap Some (sym end.1)
                  | inr n ↦
                      let below : i < length list = omega (arith, most, long, n.1) in
                      let was : P o ≡ Some i = (reported o i).1 (sym (below_end list k i below) ∙ is) in
                      absurd (cc)
                ],
          )
      | inr h ↦ (
        λ is.
            let was : slice_get list i ≡ Some o = (reported o i).0 (sym (others o h.1) ∙ is) in
            below_end list k i (slice_get_within list i o was) ∙ was,
        λ is.
            let most : i < length (list ++ k ∷ []) = slice_get_within _ i o is in
            let long = length-append list (k ∷ []) in
            elim (eqb_tells i (length list)) [
              | inl end ↦ absurd (h.1 (same_Some _ _ (sym is ∙ at_end list k i end.1)))
              | inr n ↦
                  let below : i < length list = omega (arith, most, long, n.1) in
                  others o h.1 ∙ (reported o i).1 (sym (below_end list k i below) ∙ is)
            ],
      )
    ]

-- an open that gives no place any more
pub report_less : (P Q : ℕ → Option ℕ) (list : List ℕ) (k p : ℕ) → P k ≡ Some p → Q k ≡ None → ((o : ℕ) → o ≢ k → Q o ≡ P o)
    → Report P list → ReportBut p Q list
report_less P Q list k p was gone others reported o i =
    elim (eqb_tells o k) [
      | inl h ↦
          let none : Q o ≡ None = ap Q h.1 ∙ gone in
          let own : P o ≡ Some p = ap P h.1 ∙ was in (
            λ is. absurd (cc),
            λ is. let there : P o ≡ Some i = (reported o i).1 is.0 in absurd (is.1 (same_Some _ _ (sym there ∙ own))),
          )
      | inr h ↦ (
        λ is.
            let there : slice_get list i ≡ Some o = (reported o i).0 (sym (others o h.1) ∙ is) in
            (there, λ e. h.1 (same_Some _ _ (sym there ∙ ap (slice_get list) e ∙ (reported k p).0 was))),
        λ is. others o h.1 ∙ (reported o i).1 is.0,
      )
    ]

-- the last place of the list is the one that goes
pub report_cut : (P : ℕ → Option ℕ) (list short : List ℕ) (p : ℕ) → length short + 1 ≡ length list → p ≡ length short
    → ((i : ℕ) → i < length short → slice_get short i ≡ slice_get list i) → ReportBut p P list → Report P short
report_cut P list short p long last below reported o i = (
  λ is.
      let there : slice_get list i ≡ Some o = ((reported o i).0 is).0 in
      let other : i ≢ p = ((reported o i).0 is).1 in
      let within : i < length list = slice_get_within list i o there in
      below i (omega (arith, within, long, last, other)) ∙ there,
  λ is.
      let within : i < length short = slice_get_within short i o is in
      (reported o i).1 (sym (below i within) ∙ is, λ e. omega (arith, within, last, e)),
)

-- the open at the end of the list comes to the place that goes
pub report_moved : (P Q : ℕ → Option ℕ) (list short : List ℕ) (p k : ℕ) → length short + 1 ≡ length list → p < length short
    → slice_get list (length short) ≡ Some k → slice_get short p ≡ Some k
    → ((i : ℕ) → i ≢ p → i < length short → slice_get short i ≡ slice_get list i)
    → Q k ≡ Some p → ((o : ℕ) → o ≢ k → Q o ≡ P o) → ReportBut p P list → Report Q short
report_moved P Q list short p k long within last filled below new others reported o i =
    let was : P k ≡ Some (length short) = (reported k (length short)).1 (last, λ e. omega (arith, within, e)) in
    elim (eqb_tells o k) [
      | inl h ↦
          let here : Q o ≡ Some p = ap Q h.1 ∙ new in (
            λ is. ap (slice_get short) (same_Some _ _ (sym is ∙ here)) ∙ filled ∙ ap Some (sym h.1),
            λ is. elim (eqb_tells i p) [
              | inl e ↦ here ∙ ap Some (sym e.1)
              | inr n ↦
                  let most : i < length short = slice_get_within short i o is in
                  let old : P o ≡ Some i = (reported o i).1 (sym (below i n.1 most) ∙ is, n.1) in
                  let same : i ≡ length short = same_Some _ _ (sym old ∙ ap P h.1 ∙ was) in
                  absurd (omega (arith, most, same))
            ],
          )
      | inr h ↦ (
        λ is.
            let old = (reported o i).0 (sym (others o h.1) ∙ is) in
            let most : i < length list = slice_get_within list i o old.0 in
            let inner : i ≢ length short = λ e. h.1 (same_Some _ _ (sym old.0 ∙ ap (slice_get list) e ∙ last)) in
            below i old.1 (omega (arith, most, long, inner)) ∙ old.0,
        λ is. elim (eqb_tells i p) [
          | inl e ↦ absurd (h.1 (same_Some _ _ (sym is ∙ ap (slice_get short) e.1 ∙ filled)))
          | inr n ↦
              let most : i < length short = slice_get_within short i o is in
              others o h.1 ∙ (reported o i).1 (sym (below i n.1 most) ∙ is, n.1)
        ],
      )
    ]

-- ---- entries

pub place_unheld : (e : Entry) → e.count ≡ 0 → place_of (Some e) ≡ Some e.place
place_unheld e none = ap (λ b. cond b (Some e.place) None) (eq-eqb e.count 0 none)

pub place_held : (e : Entry) → 0 < e.count → place_of (Some e) ≡ None
place_held e some = elim (eqb_tells e.count 0) [
  | inl h ↦ absurd (omega (arith, some, h.1))
  | inr h ↦ ap (λ b. cond b (Some e.place) None) h.0
]

pub listed_empty : AreListed empty []
listed_empty o i = (
  λ is. let none : place_of (get empty o) ≡ None = ap place_of (get-empty nat_cmp o) in absurd (cc),
  λ is. absurd (cc),
)

-- an entry that changes and gives the same
pub listed_stay : (m : FinMap nat_cmp Entry) (list : List ℕ) (k : ℕ) (e new : Entry) → get m k ≡ Some e → place_of (Some new) ≡ place_of (Some e)
    → AreListed m list → AreListed (insert m k new) list
listed_stay m list k e new there same =
    report_same (λ o. place_of (get m o)) (λ o. place_of (get (insert m k new) o)) list
    (λ o. elim (eqb_tells o k) [
      | inl h ↦ ap (λ x. place_of (get (insert m k new) x)) h.1 ∙ ap place_of (get-insert-same m k new) ∙ same ∙ sym (ap place_of there) ∙ ap (λ x. place_of (get m x)) (sym h.1)
      | inr h ↦ ap place_of (get-insert-other m k new o h.1)
    ])

-- an entry that comes to the end of the list
pub listed_push : (m : FinMap nat_cmp Entry) (list : List ℕ) (k : ℕ) (new : Entry) → place_of (get m k) ≡ None → new.count ≡ 0 → new.place ≡ length list
    → AreListed m list → AreListed (insert m k new) (list ++ k ∷ [])
listed_push m list k new absent none last =
    report_more (λ o. place_of (get m o)) (λ o. place_of (get (insert m k new) o)) list k absent
    (ap place_of (get-insert-same m k new) ∙ place_unheld new none ∙ ap Some last)
    (λ o other. ap place_of (get-insert-other m k new o other))

-- an entry that gets its first holder
pub listed_held : (m : FinMap nat_cmp Entry) (list : List ℕ) (k : ℕ) (e new : Entry) → get m k ≡ Some e → e.count ≡ 0 → 0 < new.count
    → AreListed m list → AreListedBut e.place (insert m k new) list
listed_held m list k e new there none some =
    report_less (λ o. place_of (get m o)) (λ o. place_of (get (insert m k new) o)) list k e.place
    (ap place_of there ∙ place_unheld e none)
    (ap place_of (get-insert-same m k new) ∙ place_held new some)
    (λ o other. ap place_of (get-insert-other m k new o other))

-- an entry without a holder that goes
pub listed_gone : (m : FinMap nat_cmp Entry) (list : List ℕ) (k : ℕ) (e : Entry) → get m k ≡ Some e → e.count ≡ 0
    → AreListed m list → AreListedBut e.place (remove m k) list
listed_gone m list k e there none =
    report_less (λ o. place_of (get m o)) (λ o. place_of (get (remove m k) o)) list k e.place
    (ap place_of there ∙ place_unheld e none)
    (ap place_of (get-remove-same m k))
    (λ o other. ap place_of (get-remove-other m k o other))

-- a held entry that goes
pub listed_without : (m : FinMap nat_cmp Entry) (list : List ℕ) (k : ℕ) → place_of (get m k) ≡ None → AreListed m list → AreListed (remove m k) list
listed_without m list k absent =
    report_same (λ o. place_of (get m o)) (λ o. place_of (get (remove m k) o)) list
    (λ o. elim (eqb_tells o k) [
      | inl h ↦ ap (λ x. place_of (get (remove m k) x)) h.1 ∙ ap place_of (get-remove-same m k) ∙ sym absent ∙ ap (λ x. place_of (get m x)) (sym h.1)
      | inr h ↦ ap place_of (get-remove-other m k o h.1)
    ])

-- the place that an entry without a holder gives is one of the list
pub place_within : (m : FinMap nat_cmp Entry) (list : List ℕ) (k : ℕ) (e : Entry) → get m k ≡ Some e → e.count ≡ 0 → AreListed m list → e.place < length list
place_within m list k e there none reported = slice_get_within list e.place k ((reported k e.place).0 (ap place_of there ∙ place_unheld e none))

-- what stands in the list has an entry, which has no holder and gives the place
reported_entry : (o : Option Entry) (i : ℕ) → place_of o ≡ Some i → (e : Entry) × (o ≡ Some e) × (e.count ≡ 0) × (e.place ≡ i)
reported_entry None i is = absurd (cc)
reported_entry (Some e) i is = elim (eqb_tells e.count 0) [
  | inl h ↦ (e, refl, h.1, same_Some _ _ (sym (place_unheld e h.1) ∙ is))
  | inr h ↦ let none : place_of (Some e) ≡ None = ap (λ b. cond b (Some e.place) None) h.0 in absurd (cc)
]

pub listed_entry : (m : FinMap nat_cmp Entry) (list : List ℕ) (o i : ℕ) → AreListed m list → slice_get list i ≡ Some o
    → (e : Entry) × (get m o ≡ Some e) × (e.count ≡ 0) × (e.place ≡ i)
listed_entry m list o i reported is = reported_entry (get m o) i ((reported o i).1 is)

pub listed_entry_but : (p : ℕ) (m : FinMap nat_cmp Entry) (list : List ℕ) (o i : ℕ) → AreListedBut p m list → slice_get list i ≡ Some o → i ≢ p
    → (e : Entry) × (get m o ≡ Some e) × (e.count ≡ 0) × (e.place ≡ i)
listed_entry_but p m list o i reported is other = reported_entry (get m o) i ((reported o i).1 (is, other))

-- the open at the end of the list has one, and goes with it
pub listed_last : (m : FinMap nat_cmp Entry) (list : List ℕ) (k : ℕ) → AreListed m (list ++ k ∷ [])
    → (e : Entry) × (get m k ≡ Some e) × (e.count ≡ 0) × (e.place ≡ length list)
listed_last m list k reported = listed_entry m (list ++ k ∷ []) k (length list) reported (at_end list k (length list) refl)

pub listed_popped : (m : FinMap nat_cmp Entry) (list : List ℕ) (k : ℕ) → AreListed m (list ++ k ∷ []) → AreListed (remove m k) list
listed_popped m list k reported =
    let entry = listed_last m list k reported in
    let e = entry.0 in
    report_cut (λ o. place_of (get (remove m k) o)) (list ++ k ∷ []) list e.place (omega (arith, length-append list (k ∷ []))) entry.3
    (λ i below. sym (below_end list k i below))
    (listed_gone m (list ++ k ∷ []) k e entry.1 entry.2 reported)

-- ---- after `swap_remove`

-- every other place has what it had, where the list is n long
abbrev pub Others : ℕ → ℕ → List ℕ → List ℕ → Type 0
Others n p list short = (i d : ℕ) → i ≢ p → i + 1 < n → get_or short i d ≡ get_or list i d

-- the last place went
pub listed_cut : (m : FinMap nat_cmp Entry) (list short : List ℕ) (n p : ℕ) → n ≡ length list → length short + 1 ≡ n → length short ≤ p → p < n
    → Others n p list short → AreListedBut p m list → AreListed m short
listed_cut m list short n p size long most least same =
    report_cut (λ o. place_of (get m o)) list short p (long ∙ size) (omega (arith, most, least, long))
    (λ i below.
    slice_get-get_or short i 0 below
    ∙ ap Some (same i 0 (λ e. omega (arith, e, below, most)) (omega (arith, below, long)))
    ∙ sym (slice_get-get_or list i 0 (omega (arith, below, long, size))))

module _ (m : FinMap nat_cmp Entry) (list short : List ℕ) (n p k : ℕ) (size : n ≡ length list) (long : length short + 1 ≡ n) (within : p < length short)
    (filled : slice_get short p ≡ Some k) (from_end : (d : ℕ) → p + 1 < n → get_or short p d ≡ get_or list (n - 1) d) (reported : AreListedBut p m list) where
  -- the open that came to the place is the last one of the list
  moved_last : slice_get list (length short) ≡ Some k
  moved_last =
      let end : length short ≡ n - 1 = omega (arith, long) in
      slice_get-get_or list (length short) 0 (omega (arith, long, size))
      ∙ ap Some (ap (λ j. get_or list j 0) end ∙ sym (from_end 0 (omega (arith, within, long))))
      ∙ sym (slice_get-get_or short p 0 within)
      ∙ filled

  -- it has an entry
  pub moved_entry : (e : Entry) × (get m k ≡ Some e) × (e.count ≡ 0) × (e.place ≡ length short)
  moved_entry = listed_entry_but p m list k (length short) reported moved_last (λ e. omega (arith, e, within))

  pub moved_there : IsSome (get m k)
  moved_there = ap is_some moved_entry.1

  -- which is given the place
  pub listed_moved : (e new : Entry) → Others n p list short → get m k ≡ Some e → new.count ≡ e.count → new.place ≡ p → AreListed (insert m k new) short
  listed_moved e new same there count place =
      let same_entry : moved_entry.0 ≡ e = same_Some _ _ (sym moved_entry.1 ∙ there) in
      let none : new.count ≡ 0 = count ∙ ap (λ (x : Entry). x.count) (sym same_entry) ∙ moved_entry.2 in
      report_moved (λ o. place_of (get m o)) (λ o. place_of (get (insert m k new) o)) list short p k (long ∙ size) within moved_last filled
      (λ i other below.
      slice_get-get_or short i 0 below
      ∙ ap Some (same i 0 other (omega (arith, below, long)))
      ∙ sym (slice_get-get_or list i 0 (omega (arith, below, long, size))))
      (ap place_of (get-insert-same m k new) ∙ place_unheld new none ∙ ap Some place)
      (λ o other. ap place_of (get-insert-other m k new o other))
      reported
