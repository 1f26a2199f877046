-- What becomes of the entries of waiting threads.
--     is_touched_self      where nothing has ended
--     is_touched_follows      one after another
use Rattle.std.proofs.Common.{◌≡◌, ℕ, ◌^◌, ◌<◌, false, Option, None, Some, IsSome, refl, sym, ap, subst, ◌∙◌}
use Rattle.std.specs.FinMap.{get}
use Rattle.abi_types.specs.declared.descriptor.Descriptor.{Descriptor}
use Rattle.abi_types.specs.declared.thread.Thread.{Thread}
use Rattle.kernel_model.specs.State.{State, Table, thread_of}
use Rattle.kernel_model.proofs.Tests.{none_is_no, not_true}
use Rattle.wait_set.specs.declared.waiting.Waiting.{Waiting}
use Rattle.wait_set.specs.Waits.{WaitMap}
use Rattle.kernel_parts.specs.Keys.{key}
use Rattle.kernel_parts.specs.Touched.{DoesTheSame, IsKept, IsTouched, IsTouchedFollows}

pub is_kept_self : (w : Waiting) → IsKept w w
is_kept_self w = record { spots = refl; same = λ _. refl; everywhere = λ h. h; runs = refl }

pub is_kept_follows : (v w x : Waiting) → IsKept v w → IsKept w x → IsKept v x
is_kept_follows v w x one two = record {
  spots = two.spots ∙ one.spots;
  same = λ h. two.same h ∙ one.same (ap (λ (y : Waiting). y.left) (sym (two.same h)) ∙ h);
  everywhere = λ h. one.everywhere (two.everywhere h);
  runs = two.runs ∙ one.runs;
}

none_has : (o : Option Waiting) → o ≡ None → IsSome o → {A : Type 0} → A
none_has None is some = absurd (not_true some)
none_has (Some w) is some = absurd (none_is_no w (sym is))

pub is_touched_self : (S : State) (V : WaitMap) → IsTouched S S V V
is_touched_self S V = record {
  kept = λ k w there. (w, there, is_kept_self w);
  gone = λ p t small none some. none_has (get V (key p t)) none some;
  stay = λ p t w small there. record { thread = refl; table = refl };
  channels = λ k c w there done stands. refl;
  ends = λ k q w there done stands. refl;
  rows = λ p n table d own there. (own, refl);
  threads = λ p t thread there. there;
  clock = refl;
}

-- where a thread isn't, none was that is the same
gone_stays : (S T : State) → ((p t : ℕ) (thread : Thread) → thread_of T p t ≡ Some thread → thread_of S p t ≡ Some thread) → (p t : ℕ) → thread_of S p t ≡ None
    → thread_of T p t ≡ None
gone_stays S T threads p t none =
    elim (thread_of T p t) as (λ o. thread_of T p t ≡ o → o ≡ None) [
      | None ↦ λ _. refl
      | Some thread ↦ λ is. absurd (none_is_no thread (sym none ∙ threads p t thread is))
    ] refl

module _ (S T U : State) (V W X : WaitMap) (one : IsTouched S T V W) (two : IsTouched T U W X) where
  -- an entry that isn't left wasn't before either, and stood where it stands
  was : (k : ℕ) (x : Waiting) → get X k ≡ Some x → x.left ≡ false → get W k ≡ Some x
  was k x there done = let w = two.kept k x there in w.1 ∙ ap Some (sym (w.2.same done))

  gone : (p t : ℕ) → t < 2 ^ 32 → get X (key p t) ≡ None → IsSome (get V (key p t)) → thread_of U p t ≡ None
  gone p t small none some =
      elim (get W (key p t)) as (λ o. get W (key p t) ≡ o → thread_of U p t ≡ None) [
        | None ↦ λ is. gone_stays T U two.threads p t (one.gone p t small is some)
        | Some w ↦ λ is. two.gone p t small none (subst IsSome (sym is) refl)
      ] refl

  stay : (p t : ℕ) (x : Waiting) → t < 2 ^ 32 → get X (key p t) ≡ Some x → DoesTheSame S U p t
  stay p t x small there =
      let w = two.kept (key p t) x there in
      let first = one.stay p t w.0 small w.1 in
      let second = two.stay p t x small there in
      record { thread = second.thread ∙ first.thread; table = second.table ∙ first.table }

  kept : (k : ℕ) (x : Waiting) → get X k ≡ Some x → (v : Waiting) × (get V k ≡ Some v) × IsKept v x
  kept k x there =
      let w = two.kept k x there in
      let v = one.kept k w.0 w.1 in
      (v.0, v.1, is_kept_follows v.0 w.0 x v.2 w.2)

  rows : (p n : ℕ) (table : Table) (d : Descriptor) → get U.tables p ≡ Some table → get table n ≡ Some d
      → (get S.tables p ≡ Some table) × (get U.opens d.id ≡ get S.opens d.id)
  rows p n table d own there =
      let second = two.rows p n table d own there in
      let first = one.rows p n table d second.0 there in
      (first.0, second.1 ∙ first.1)

  follows : IsTouched S U V X
  follows = record {
    kept = kept;
    gone = gone;
    stay = stay;
    channels = λ k c x there done at. two.channels k c x there done at ∙ one.channels k c x (was k x there done) done at;
    ends = λ k q x there done at. two.ends k q x there done at ∙ one.ends k q x (was k x there done) done at;
    rows = rows;
    threads = λ p t thread there. one.threads p t thread (two.threads p t thread there);
    clock = two.clock ∙ one.clock;
  }

pub is_touched_follows : IsTouchedFollows
is_touched_follows = follows
