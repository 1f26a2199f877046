-- Laws of turns.
--     does-none, does-more, does-both      no instruction, one more, and some and then others
--     does-within, does-one-within      the same, by how many of a turn are left
--     only, is_turn      a turn is `turn_of`, and the other way round
--     stopped, finished, stopped-within, finished-within      how a turn ends
use Rattle.std.proofs.Common.{◌≡◌, ℕ, zero, suc, ◌+◌, ◌-◌, ◌<◌, ◌≤◌, Some, refl, sym, ap, subst, ◌∙◌, arith}
use Rattle.rv_interp.specs.declared.execution.Outcome.{Outcome}
use Rattle.rv_interp.specs.declared.execution.Outcome.TheVariants as outcome
use Rattle.rv_interp.specs.declared.turns.TurnEnd.{TurnEnd}
use Rattle.rv_interp.specs.declared.turns.TurnEnd.TheVariants as turn_end
use Rattle.rv_interp.specs.Machine.{Machine, Step, machine}
use Rattle.rv_interp.specs.Instructions.{step_of}
use Rattle.rv_interp.specs.Turns.{Does, StopsAt, stop_of, IsTurn, fresh, Course, go_on, turn_within, without_reservation, turn_of, TurnOfIsTurn, TurnIsOne}
use Rattle.rv_interp.proofs.Stops.{stop_unchanged}

-- ---- instructions in a row

pub does-none : (s : Machine) → Does 0 s s
unfolding Does
does-none s = refl

pub does-more : (n : ℕ) (s t u : Machine) → Does n s t → step_of t ≡ record { outcome = outcome.Done; after = u } → Does (suc n) s u
unfolding Does
does-more zero s t u d e = (u, ap step_of d ∙ e, refl)
does-more (suc n) s t u d e = (d.0, d.1, does-more n d.0 t u d.2 e)

pub does-both : (a b : ℕ) (s t u : Machine) → Does a s t → Does b t u → Does (a + b) s u
unfolding Does
does-both zero b s t u d e =
    let count : b ≡ 0 + b = omega arith in
    subst (λ n. Does n s u) count (subst (λ x. Does b x u) (sym d) e)
does-both (suc a) b s t u d e =
    let count : suc (a + b) ≡ suc a + b = omega arith in
    subst (λ n. Does n s u) count (let more : Does (suc (a + b)) s u = (d.0, d.1, does-both a b d.0 t u d.2 e) in more)

-- of a turn's instructions so many are left, after some more
pub does-within : (left k : ℕ) (s t u : Machine) → Does (4096 - left) s t → Does k t u → k ≤ left → left ≤ 4096 → Does (4096 - (left - k)) s u
does-within left k s t u d e h w =
    let count : 4096 - left + k ≡ 4096 - (left - k) = omega (arith, h, w) in
    subst (λ n. Does n s u) count (does-both (4096 - left) k s t u d e)

pub does-one-within : (left : ℕ) (s t u : Machine) → Does (4096 - left) s t → step_of t ≡ record { outcome = outcome.Done; after = u } → 0 < left → left ≤ 4096 → Does (4096 - (left - 1)) s u
does-one-within left s t u d e h w =
    let count : suc (4096 - left) ≡ 4096 - (left - 1) = omega (arith, h, w) in
    subst (λ n. Does n s u) count (does-more (4096 - left) s t u d e)

does_all : (n : ℕ) (s t : Machine) → Does n s t → turn_within n s ≡ record { end = turn_end.Quantum; after = t }
unfolding Does turn_within
does_all zero s t d = ap (λ (x : Machine). let c : Course = record { end = turn_end.Quantum; after = x } in c) d
does_all (suc n) s t d = ap (λ (u : Step). go_on (turn_within n) u.outcome u.after) d.1 ∙ does_all n d.0 t d.2

stop_not_done : (end : TurnEnd) (o : Outcome) → stop_of end ≡ Some o → o ≡ outcome.Done → ⊥
stop_not_done turn_end.Quantum o e d = cc
stop_not_done turn_end.Ecall o e d = cc
stop_not_done (turn_end.Trap signal) o e d = cc

same_some : (a b : Outcome) → Some a ≡ Some b → a ≡ b
same_some a b e = cc

go_stop : (rest : Machine → Course) (end : TurnEnd) (o : Outcome) (s : Machine) → stop_of end ≡ Some o → go_on rest o s ≡ record { end = end; after = s }
go_stop rest turn_end.Quantum o s e = absurd (cc)
go_stop rest turn_end.Ecall o s e = ap (λ x. go_on rest x s) (sym (same_some _ _ e))
go_stop rest (turn_end.Trap signal) o s e = ap (λ x. go_on rest x s) (sym (same_some _ _ e))

does_stop : (n k : ℕ) (s t : Machine) (end : TurnEnd) (o : Outcome) → Does n s t → n < k → step_of t ≡ record { outcome = o; after = t } → stop_of end ≡ Some o → turn_within k s ≡ record { end = end; after = t }
unfolding Does turn_within
does_stop n zero s t end o d h e f = absurd (omega arith)
does_stop zero (suc k) s t end o d h e f = ap (λ (u : Step). go_on (turn_within k) u.outcome u.after) (ap step_of d ∙ e) ∙ go_stop (turn_within k) end o t f
does_stop (suc n) (suc k) s t end o d h e f = ap (λ (u : Step). go_on (turn_within k) u.outcome u.after) d.1 ∙ does_stop n k d.0 t end o d.2 (omega arith) e f

-- ---- a turn

only_by : (s : Machine) (end : TurnEnd) (t : Machine) → IsTurn s end t → turn_within 4096 s ≡ record { end = end; after = t }
only_by s turn_end.Quantum t h = does_all 4096 s t (h.quantum refl)
only_by s turn_end.Ecall t h =
    let at : StopsAt s outcome.Ecall t = h.stops outcome.Ecall refl in
    does_stop at.0 4096 s t turn_end.Ecall outcome.Ecall at.2 at.1 at.3 refl
only_by s (turn_end.Trap signal) t h =
    let at : StopsAt s (outcome.Trap signal) t = h.stops (outcome.Trap signal) refl in
    does_stop at.0 4096 s t (turn_end.Trap signal) (outcome.Trap signal) at.2 at.1 at.3 refl

pub only : TurnIsOne
unfolding turn_of
only m r end n s h = ap without_reservation (only_by (fresh m r) end (machine s n h.0) h.1)

-- how at most n instructions end
record IsWithin (n : ℕ) (s : Machine) (c : Course) : Type 0 where
  all : c.end ≡ turn_end.Quantum → Does n s c.after
  stops : (o : Outcome) → stop_of c.end ≡ Some o → (k : ℕ) × (k < n) × Does k s c.after × (step_of c.after ≡ record { outcome = o; after = c.after })

one_first : (n : ℕ) (s t : Machine) (c : Course) → step_of s ≡ record { outcome = outcome.Done; after = t } → IsWithin n t c → IsWithin (suc n) s c
unfolding Does
one_first n s t c e h =
    record {
      all = λ q. (t, e, h.all q);
      stops = λ o f. let at = h.stops o f in (suc at.0, omega arith, (t, e, at.2), at.3);
    }

stop_first : (n : ℕ) (s t : Machine) (end : TurnEnd) (o : Outcome) → stop_of end ≡ Some o → step_of s ≡ record { outcome = o; after = t } → IsWithin (suc n) s (record { end = end; after = t })
unfolding Does
stop_first n s t end o f e =
    let same : s ≡ t = stop_unchanged s o t e (stop_not_done end o f) in
    record {
      all = λ q. absurd (cc);
      stops = λ p g. (0, omega arith, same, ap step_of (sym same) ∙ e ∙ ap (λ (x : Outcome). let u : Step = record { outcome = x; after = t } in u) (same_some o p (sym f ∙ g)));
    }

step_first : (n : ℕ) (s : Machine) (o : Outcome) (t : Machine) → step_of s ≡ record { outcome = o; after = t } → ((x : Machine) → IsWithin n x (turn_within n x)) → IsWithin (suc n) s (go_on (turn_within n) o t)
step_first n s outcome.Done t e h = one_first n s t (turn_within n t) e (h t)
step_first n s outcome.Ecall t e h = stop_first n s t turn_end.Ecall outcome.Ecall refl e
step_first n s (outcome.Trap signal) t e h = stop_first n s t (turn_end.Trap signal) (outcome.Trap signal) refl e

within : (n : ℕ) (s : Machine) → IsWithin n s (turn_within n s)
unfolding Does turn_within
within zero s = record { all = λ q. refl; stops = λ o f. absurd (cc) }
within (suc n) s = step_first n s (step_of s).outcome (step_of s).after refl (within n)

pub is_turn : TurnOfIsTurn
unfolding turn_of
is_turn m r =
    let h = within 4096 (fresh m r) in
    ((turn_within 4096 (fresh m r)).after.held, record { quantum = h.all; stops = h.stops })

-- a turn that ends at an instruction after some that were done
pub stopped : (n : ℕ) (s t u : Machine) (end : TurnEnd) (o : Outcome) → stop_of end ≡ Some o → Does n s t → n < 4096 → step_of t ≡ record { outcome = o; after = u } → IsTurn s end u
stopped n s t u end o f d h e =
    let same : t ≡ u = stop_unchanged t o u e (stop_not_done end o f) in
    record {
      quantum = λ q. absurd (cc);
      stops = λ p g.
          (n, h, subst (Does n s) same d, ap step_of (sym same) ∙ e ∙ ap (λ (x : Outcome). let v : Step = record { outcome = x; after = u } in v) (same_some o p (sym f ∙ g)));
    }

-- a turn of as many instructions as a turn may have
pub finished : (n : ℕ) (s t : Machine) → n ≡ 4096 → Does n s t → IsTurn s turn_end.Quantum t
finished n s t e d = record { quantum = λ q. subst (λ k. Does k s t) e d; stops = λ o f. absurd (cc) }

-- the same, by how many instructions of the turn were left, of which some more were done
pub stopped-within : (left k : ℕ) (s t u v : Machine) (end : TurnEnd) (o : Outcome) → stop_of end ≡ Some o → Does (4096 - left) s t → Does k t u → k < left → left ≤ 4096
    → step_of u ≡ record { outcome = o; after = v } → IsTurn s end v
stopped-within left k s t u v end o f d e h w stop = stopped (4096 - left + k) s u v end o f (does-both (4096 - left) k s t u d e) (omega (arith, h, w)) stop

pub finished-within : (left k : ℕ) (s t u : Machine) → Does (4096 - left) s t → Does k t u → left - k ≡ 0 → k ≤ left → left ≤ 4096 → IsTurn s turn_end.Quantum u
finished-within left k s t u d e none h w = finished (4096 - left + k) s u (omega (arith, none, h, w)) (does-both (4096 - left) k s t u d e)
