-- What is done to entries.
--     kept_self, kept_follows      nothing, and one after another
--     both_self, mapped_kept, touched_kept, spread_kept      of one entry
--     kept_entry, kept_none      an entry was there, or none was
--     touch_keeps, spread_keeps      threads are left to be tested, and are spread
--     changed_entry      an entry of a set that was changed
--     not_touched      one that isn't left to be tested wasn't among those that were touched
use Rattle.std.proofs.Common.{◌≡◌, ℕ, Bool, true, false, cond, Option, None, Some, refl, sym, ap, subst, ◌∙◌}
use Rattle.std.specs.Option.{option_map}
use Rattle.std.specs.FinMap.{get}
use Rattle.maps.specs.Closure.{get-changed}
use Rattle.kernel_model.proofs.Tests.{none_is_no, not_true, same_some}
use Rattle.kernel_parts.specs.Touched.{IsKept}
use Rattle.kernel_parts.proofs.Touched.{is_kept_follows, is_kept_self}
use Rattle.wait_set.specs.declared.waiting.Waiting.{Waiting}
use Rattle.wait_set.specs.Waits.{WaitMap, so_changed, spread_out, touched, where_so}
use Rattle.readiness_laws.specs.WatchedChanges.{AreKept, BothKept}

-- ---- entries that are kept

pub both_self : (o : Option Waiting) → BothKept o o
both_self None = tt
both_self (Some w) = is_kept_self w

both_follow : (a b c : Option Waiting) → BothKept a b → BothKept b c → BothKept a c
both_follow None None None one two = tt
both_follow None None (Some w) one two = two
both_follow None (Some v) c one two = absurd one
both_follow (Some v) None c one two = absurd one
both_follow (Some v) (Some w) None one two = two
both_follow (Some v) (Some w) (Some x) one two = is_kept_follows v w x one two

pub kept_self : (V : WaitMap) → AreKept V V
kept_self V = record { each = λ k. both_self (get V k) }

pub kept_follows : (V W X : WaitMap) → AreKept V W → AreKept W X → AreKept V X
kept_follows V W X one two = record { each = λ k. both_follow (get V k) (get W k) (get X k) (one.each k) (two.each k) }

was_entry : (o : Option Waiting) (w : Waiting) → BothKept o (Some w) → (v : Waiting) × (o ≡ Some v) × IsKept v w
was_entry None w both = absurd both
was_entry (Some v) w both = (v, refl, both)

was_none : (o : Option Waiting) → BothKept o None → o ≡ None
was_none None both = refl
was_none (Some v) both = absurd both

pub kept_entry : (V W : WaitMap) → AreKept V W → (k : ℕ) (w : Waiting) → get W k ≡ Some w → (v : Waiting) × (get V k ≡ Some v) × IsKept v w
kept_entry V W kept k w there = was_entry (get V k) w (subst (BothKept (get V k)) there (kept.each k))

pub kept_none : (V W : WaitMap) → AreKept V W → (k : ℕ) → get W k ≡ None → get V k ≡ None
kept_none V W kept k none = was_none (get V k) (subst (BothKept (get V k)) none (kept.each k))

-- an entry that isn't left is the one that there was
pub kept_same : (V W : WaitMap) → AreKept V W → (k : ℕ) (w : Waiting) → get W k ≡ Some w → w.left ≡ false → get V k ≡ Some w
kept_same V W kept k w there done = let was = kept_entry V W kept k w there in was.1 ∙ ap Some (sym (was.2.same done))

-- ---- threads that are left to be tested, or spread

mapped_entry : (f : Waiting → Waiting) (o : Option Waiting) (w : Waiting) → option_map f o ≡ Some w → (v : Waiting) × (o ≡ Some v) × (w ≡ f v)
mapped_entry f None w is = absurd (none_is_no w is)
mapped_entry f (Some v) w is = (v, refl, sym (same_some (f v) w is))

pub changed_entry : (p : Waiting → Bool) (f : ℕ → Waiting → Waiting) (V : WaitMap) (k : ℕ) (w : Waiting) → get (where_so p f V) k ≡ Some w
    → (v : Waiting) × (get V k ≡ Some v) × (w ≡ cond (p v) (f k v) v)
changed_entry p f V k w there = mapped_entry (so_changed p f k) (get V k) w (sym (get-changed (so_changed p f) V k) ∙ there)

pub touched_kept : (v : Waiting) → IsKept v (touched v)
touched_kept v = record { spots = refl; same = λ h. absurd (not_true (sym h)); everywhere = λ h. h; runs = refl }

by_test : (b : Bool) (v : Waiting) → IsKept v (cond b (touched v) v)
by_test true v = touched_kept v
by_test false v = is_kept_self v

pub mapped_kept : (f : Waiting → Waiting) → ((v : Waiting) → IsKept v (f v)) → (o : Option Waiting) → BothKept o (option_map f o)
mapped_kept f kept None = tt
mapped_kept f kept (Some v) = kept v

pub touch_keeps : (p : Waiting → Bool) (V : WaitMap) → AreKept V (where_so p (λ _ s. touched s) V)
touch_keeps p V = record {
  each = λ k.
      subst (BothKept (get V k)) (sym (get-changed (so_changed p (λ _ s. touched s)) V k))
      (mapped_kept (so_changed p (λ _ s. touched s) k) (λ v. by_test (p v) v) (get V k));
}

left_by_test : (b : Bool) (v : Waiting) → (cond b (touched v) v).left ≡ false → b ≡ false
left_by_test true v done = absurd (not_true (sym done))
left_by_test false v done = refl

-- one that isn't left to be tested wasn't touched, and is the same
pub not_touched : (p : Waiting → Bool) (V : WaitMap) (k : ℕ) (w : Waiting) → get (where_so p (λ _ s. touched s) V) k ≡ Some w → w.left ≡ false → p w ≡ false
not_touched p V k w there done =
    let was = changed_entry p (λ _ s. touched s) V k w there in
    let fails = left_by_test (p was.0) was.0 (ap (λ (x : Waiting). x.left) (sym was.2) ∙ done) in
    ap p (was.2 ∙ ap (λ b. cond b (touched was.0) was.0) fails) ∙ fails

-- the threads of a process
pub spread_kept : (v : Waiting) → IsKept v (spread_out v)
spread_kept v = record { spots = refl; same = λ h. absurd (not_true (sym h)); everywhere = λ h. absurd (not_true (sym h)); runs = refl }

spread_or_not : (b : Bool) (o : Option Waiting) → BothKept o (cond b (option_map spread_out o) o)
spread_or_not true o = mapped_kept spread_out spread_kept o
spread_or_not false o = both_self o

-- the entries whose numbers pass the test are spread
abbrev pub AreSpreadOut : (ℕ → Bool) → WaitMap → WaitMap → Type 0
AreSpreadOut test V W = (k : ℕ) → get W k ≡ cond (test k) (option_map spread_out (get V k)) (get V k)

pub spread_keeps : (test : ℕ → Bool) (V W : WaitMap) → AreSpreadOut test V W → AreKept V W
spread_keeps test V W is = record { each = λ k. subst (BothKept (get V k)) (sym (is k)) (spread_or_not (test k) (get V k)) }
