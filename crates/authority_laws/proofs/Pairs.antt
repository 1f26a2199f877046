-- The ends that fd_create2 makes weren't there before it.
--     step_counts      a process has made three objects more at least
--     made_by_create      what stands under a result is an end that was made
use Rattle.std.proofs.Common.{◌≡◌, ℕ, ◌+◌, ◌-◌, ◌<◌, ◌≤◌, ◌^◌, Bool, true, false, cond, Option, Some, None, inl, inr, refl, sym, ap, subst, arith}
use Rattle.std.proofs.lemmas.Nat.Bits.{bit_at_above}
use Rattle.std.specs.Int.{bit_at}
use Rattle.std.specs.FinMap.{get}
use Rattle.abi_base.specs.declared.errno.Errno.TheVariants.{Success}
use Rattle.abi_types.specs.declared.call.Call.TheVariants.{FdCreate2}
use Rattle.abi_types.specs.declared.constants.Constants.{Constants}
use Rattle.abi_types.specs.declared.counts.Counts.{Counts}
use Rattle.abi_types.specs.declared.descriptor.Descriptor.{Descriptor}
use Rattle.abi_types.specs.declared.open_kind.OpenKind.{OpenKind}
use Rattle.abi_types.specs.declared.reply.Answer.TheVariants as answer
use Rattle.abi_types.specs.declared.reply.Reply.{Reply}
use Rattle.abi_types.specs.declared.status.Status.TheVariants.{Live}
use Rattle.abi_types.specs.declared.who.Who.{Who}
use Rattle.maps.specs.Maps.{get-insert-same}
use Rattle.kernel_model.specs.Families.Numbers.{can_number, made_more, object_of}
use Rattle.kernel_model.specs.Families.SocketCalls.{Pair, pipe, pair, count_of, create, create_updates, made_of}
use Rattle.kernel_model.specs.Outcome.{Outcome, OnReply}
use Rattle.kernel_model.specs.Release.{release}
use Rattle.kernel_model.specs.State.{State, ProcessState, Table, counts_in, put_all}
use Rattle.kernel_model.specs.Step.{outcome, step_answer, tick, unreleased, IsStep}
use Rattle.kernel_model.specs.Valid.{IsValid}
use Rattle.kernel_model.proofs.ObjectNumbers.{numbers_fit}
use Rattle.kernel_model.proofs.Outcomes.{outcome_holds}
use Rattle.kernel_model.proofs.PairCalls.{create_holds}
use Rattle.kernel_model.proofs.Parking.{replied_leaves}
use Rattle.kernel_model.proofs.Refusals.{on_reply, refusal_is_other}
use Rattle.kernel_model.proofs.Tests.{none_is_no, same_some}
use Rattle.kernel_model.proofs.Touches.{live_spared}
use Rattle.kernel_model.proofs.Valids.{left_counts, owner_makes}
use Rattle.authority_laws.specs.Ledger.{is_new, new_descriptor, new_held, new_held_of, recently_made}
use Rattle.authority_laws.specs.Origins.{PassesOnNothing}
use Rattle.authority_laws.specs.Traces.{IsMade}
use Rattle.authority_laws.proofs.Sockets.{create_is_error}
use Rattle.authority_laws.proofs.Successes.{no_memory}

-- ---- what the process has made

-- from the first state to the second the process, which is there in the first, has made three objects more at least, whose numbers fit
pub record Counted (S U : State) (p : ℕ) : Type 0 where
  pub own : ProcessState
  pub there : get S.processes p ≡ Some own
  pub small : p < 0xffffffff
  pub more : (counts_in (get S.processes p)).objects + 3 ≤ (counts_in (get U.processes p)).objects
  pub fits : (counts_in (get U.processes p)).objects < 2 ^ 32

abbrev CountsMore : State → ℕ → Outcome → Type 0
CountsMore S p o = OnReply (λ (reply : Reply). reply.errno ≡ Success → Counted S (put_all o.updates S) p) o.answer

pair_counts : (S : State) (p : ℕ) (own : ProcessState) (table : Table) (first second : ℕ) (made : Pair) → get S.processes p ≡ Some own
    → can_number p (count_of made) (Some own) ≡ true → Counted S (put_all (create_updates made p (Some own) table first second) S) p
pair_counts S p own table first second pipe there can =
    let fit = numbers_fit p 2 (Some own) can in
    let before : (counts_in (get S.processes p)).objects ≡ own.counts.objects = ap (λ o. (counts_in o).objects) there in
    let now : (counts_in (get (put_all (create_updates pipe p (Some own) table first second) S).processes p)).objects ≡ own.counts.objects + 3 =
    ap (λ o. (counts_in o).objects) (get-insert-same S.processes p (made_more 3 own)) in
    let most = fit.1 in
    record { own = own; there = there; small = fit.0; more = omega (arith, before, now); fits = omega (arith, now, most) }
pair_counts S p own table first second pair there can =
    let fit = numbers_fit p 3 (Some own) can in
    let before : (counts_in (get S.processes p)).objects ≡ own.counts.objects = ap (λ o. (counts_in o).objects) there in
    let now : (counts_in (get (put_all (create_updates pair p (Some own) table first second) S).processes p)).objects ≡ own.counts.objects + 4 =
    ap (λ o. (counts_in o).objects) (get-insert-same S.processes p (made_more 4 own)) in
    let most = fit.1 in
    record { own = own; there = there; small = fit.0; more = omega (arith, before, now); fits = omega (arith, now, most) }

create_counts : (kind : ℕ) (S : State) (p t : ℕ) (table : Table) → CountsMore S p (create (made_of kind) p t (get S.processes p) table)
create_counts kind S p t table =
    create_holds p t (get S.processes p) table (CountsMore S p) (λ errno here success. absurd (create_is_error errno here success)) (made_of kind)
    (λ made is first second own one two there some can success.
    subst (λ o. Counted S (put_all (create_updates made p o table first second) S) p) (sym there) (pair_counts S p own table first second made there can))

outcome_counts : (constants : Constants) (S : State) (who : Who) (kind : ℕ) → CountsMore (tick S) who.pid (outcome constants S who (FdCreate2 kind))
outcome_counts constants S who kind =
    outcome_holds (CountsMore (tick S) who.pid) constants S who (FdCreate2 kind)
    (λ reply is success. absurd (refusal_is_other Success (λ e. cc) (λ e. cc) (FdCreate2 kind) (get S.tables who.pid) reply is success))
    (λ table own. create_counts kind (tick S) who.pid who.tid table)

pub step_counts : (constants : Constants) (S : State) (who : Who) (kind : ℕ) (reply : Reply) (T : State)
    → IsStep constants S who (FdCreate2 kind) (answer.Reply reply) T → reply.errno ≡ Success → get T.statuses who.pid ≡ Some Live → Counted S T who.pid
step_counts constants S who kind reply T (inl done) success live =
    let call = FdCreate2 kind in
    let V : State = put_all (outcome constants S who call).updates (tick S) in
    let set : Counted (tick S) V who.pid =
    on_reply (λ (r : Reply). r.errno ≡ Success → Counted (tick S) V who.pid) (step_answer constants S who call) reply (outcome_counts constants S who kind)
    (sym done.0) success in
    let U : State = unreleased constants S who call in
    let moved : Counted (tick S) U who.pid = subst (λ (X : State). Counted (tick S) X who.pid) (sym (replied_leaves constants S who call reply (sym done.0))) set in
    let left : counts_in (get (release U).processes who.pid) ≡ counts_in (get U.processes who.pid) =
    left_counts U who.pid (live_spared U who.pid (subst (λ (X : State). get X.statuses who.pid ≡ Some Live) done.1 live)) in
    let more = moved.more in
    let fits = moved.fits in
    let same : (counts_in (get (release U).processes who.pid)).objects ≡ (counts_in (get U.processes who.pid)).objects =
    ap (λ (c : Counts). c.objects) left in
    subst (λ (X : State). Counted S X who.pid) (sym done.1)
    (record { own = moved.own; there = moved.there; small = moved.small; more = omega (arith, more, same); fits = omega (arith, fits, same) })
step_counts constants S who kind reply T (inr lacking) success live = no_memory reply lacking.1 success

-- ---- an end that was made

-- an open that is made of no descriptor passes on nothing
new_passes : (number : ℕ) (kind : OpenKind) → PassesOnNothing (new_descriptor number kind)
new_passes number kind k has =
    let none : bit_at 0 k ≡ 0 = bit_at_above 0 0 k (omega arith) (omega arith) in
    omega (arith, none, has)

new_by : (S U : State) (number : ℕ) (kind : OpenKind) (new : Bool) (d : Descriptor) → is_new kind ≡ new → get S.opens number ≡ None
    → get U.opens number ≡ Some kind → cond new (Some (new_descriptor number kind)) None ≡ Some d → IsMade S U d
new_by S U number kind false d new absent there here = absurd (none_is_no d here)
new_by S U number kind true d new absent there here =
    subst (IsMade S U) (same_some (new_descriptor number kind) d here)
    (record { kind = kind; absent = absent; opened = there; new = new; passes = new_passes number kind })

pub held_by : (S U : State) (number : ℕ) (o : Option OpenKind) (d : Descriptor) → get U.opens number ≡ o → get S.opens number ≡ None → new_held_of number o ≡ Some d
    → IsMade S U d
held_by S U number None d there absent here = absurd (none_is_no d here)
held_by S U number (Some kind) d there absent here = new_by S U number kind (is_new kind) d refl absent there here

module _ (S U : State) (p : ℕ) (valid : IsValid S) (counted : Counted S U p) where
  counted_before : (counts_in (get S.processes p)).objects ≡ counted.own.counts.objects
  counted_before = ap (λ o. (counts_in o).objects) counted.there

  -- the last object and the one before it weren't there
  last_absent : get S.opens (object_of p (counts_in (get U.processes p)).objects) ≡ None
  last_absent =
      let more = counted.more in
      let before = counted_before in
      let last : ℕ = (counts_in (get U.processes p)).objects in
      valid.nearly.made p last counted.small (owner_makes S p last counted.own valid.nearly counted.there (omega (arith, more, before))) counted.fits

  next_absent : get S.opens (object_of p ((counts_in (get U.processes p)).objects - 1)) ≡ None
  next_absent =
      let more = counted.more in
      let fits = counted.fits in
      let before = counted_before in
      let next : ℕ = (counts_in (get U.processes p)).objects - 1 in
      valid.nearly.made p next counted.small (owner_makes S p next counted.own valid.nearly counted.there (omega (arith, more, before))) (omega (arith, fits))

  pub last_is_made : (d : Descriptor) → new_held (recently_made U p 0) ≡ Some d → IsMade S U d
  last_is_made d here = held_by S U (object_of p (counts_in (get U.processes p)).objects) _ d refl last_absent here

  pub next_is_made : (d : Descriptor) → new_held (recently_made U p 1) ≡ Some d → IsMade S U d
  next_is_made d here = held_by S U (object_of p ((counts_in (get U.processes p)).objects - 1)) _ d refl next_absent here
