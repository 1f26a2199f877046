-- Which seat stands for which process, as passes are taken in and handed out; and members of lists of processes.
use Rattle.std.proofs.Common.{◌≡◌, ◌≢◌, ◌⊎◌, ℕ, zero, suc, Bool, true, false, cond, eqb, List, [], ◌∷◌, Contains, inl, inr, refl, sym, ap, subst, ◌∙◌, arith, eq-eqb, ne_eqb, ⊎_elim}

-- ---- members

pub contains_first : (p : ℕ) (ps : List ℕ) → Contains (p ∷ ps) p
contains_first p ps = (0, omega arith, refl)

pub contains_later : (p : ℕ) (ps : List ℕ) (q : ℕ) → Contains ps q → Contains (p ∷ ps) q
contains_later p ps q there = (suc there.0, omega (arith, there.1), there.2)

pub contains_none : (q : ℕ) → Contains [] q → ⊥
contains_none q there = omega (arith, there.1)

pub contains_cases : (p : ℕ) (ps : List ℕ) (q : ℕ) → Contains (p ∷ ps) q → (q ≡ p) ⊎ Contains ps q
contains_cases p ps q (zero, below, same) = inl (sym same)
contains_cases p ps q (suc k, below, same) = inr (k, omega (arith, below), same)

pub contains_one : (p q : ℕ) → Contains (p ∷ []) q → q ≡ p
contains_one p q there = ⊎_elim (λ same. same) (λ none. absurd (contains_none q none)) (contains_cases p [] q there)

-- ---- owners

-- the owners after process p went to this seat
abbrev pub owner_for : (ℕ → ℕ) → ℕ → ℕ → ℕ → ℕ
owner_for owner p seat q = cond (eqb q p) seat (owner q)

pub owner_same : (owner : ℕ → ℕ) (p seat q : ℕ) → q ≡ p → owner_for owner p seat q ≡ seat
owner_same owner p seat q same = ap (λ b. cond b seat (owner q)) (eq-eqb q p same)

pub owner_other : (owner : ℕ → ℕ) (p seat q : ℕ) → q ≢ p → owner_for owner p seat q ≡ owner q
owner_other owner p seat q other = ap (λ b. cond b seat (owner q)) (ne_eqb q p other)

-- the owners after each of these processes went to this seat
abbrev pub owner_for_all : (ℕ → ℕ) → List ℕ → ℕ → ℕ → ℕ
owner_for_all owner [] seat = owner
owner_for_all owner (p ∷ ps) seat = owner_for (owner_for_all owner ps seat) p seat

-- a process that was the seat's stays the seat's
owner_kept : (owner : ℕ → ℕ) (p seat q : ℕ) → owner q ≡ seat → owner_for owner p seat q ≡ seat
owner_kept owner p seat q owned = ap (λ n. cond (eqb q p) seat n) owned ∙ both (eqb q p)
  where
    both : (b : Bool) → cond b seat seat ≡ seat
    both true = refl
    both false = refl

-- each of them is the seat's
pub owner_all_there : (owner : ℕ → ℕ) (ps : List ℕ) (seat q : ℕ) → Contains ps q → owner_for_all owner ps seat q ≡ seat
owner_all_there owner [] seat q there = absurd (contains_none q there)
owner_all_there owner (p ∷ ps) seat q there =
    ⊎_elim
    (λ same. owner_same (owner_for_all owner ps seat) p seat q same)
    (λ later. owner_kept (owner_for_all owner ps seat) p seat q (owner_all_there owner ps seat q later))
    (contains_cases p ps q there)

-- every other keeps its seat
pub owner_all_other : (owner : ℕ → ℕ) (ps : List ℕ) (seat q : ℕ) → (Contains ps q → ⊥) → owner_for_all owner ps seat q ≡ owner q
owner_all_other owner [] seat q none = refl
owner_all_other owner (p ∷ ps) seat q none =
    owner_other (owner_for_all owner ps seat) p seat q (λ same. none (subst (Contains (p ∷ ps)) (sym same) (contains_first p ps)))
    ∙ owner_all_other owner ps seat q (λ there. none (contains_later p ps q there))

-- a process that was the seat's stays the seat's
pub owner_all_kept : (owner : ℕ → ℕ) (ps : List ℕ) (seat q : ℕ) → owner q ≡ seat → owner_for_all owner ps seat q ≡ seat
owner_all_kept owner [] seat q owned = owned
owner_all_kept owner (p ∷ ps) seat q owned = owner_kept (owner_for_all owner ps seat) p seat q (owner_all_kept owner ps seat q owned)
