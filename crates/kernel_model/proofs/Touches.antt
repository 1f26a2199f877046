-- A call changes nothing outside what it touches and what the release after it ends.
use Rattle.std.proofs.Common.{◌≡◌, ◌≢◌, ◌||◌, inl, inr, ℕ, ◌+◌, Bool, true, false, not, cond, T, [], ◌∷◌, ◌++◌, map, Option, Some, None, refl, sym, ap, subst, ◌∙◌, arith}
use Rattle.std.specs.Prelude.{if◌then◌else◌}
use Rattle.std.specs.FinMap.{get}
use Rattle.std.specs.Option.{option_map}
use Rattle.abi_base.specs.declared.signal.Signal.TheVariants.{Kill}
use Rattle.abi_types.specs.declared.reply.Answer.{Answer}
use Rattle.abi_types.specs.declared.call.Call.{Call}
use Rattle.abi_types.specs.declared.reply.Reply.{Reply}
use Rattle.abi_types.specs.declared.constants.Constants.{Constants}
use Rattle.abi_types.specs.declared.status.Status.{Status}
use Rattle.abi_types.specs.declared.status.Status.TheVariants.{Live, Killed}
use Rattle.abi_types.specs.declared.who.Who.{Who}
use Rattle.kernel_model.specs.Calls.{meaning_of, refusal}
use Rattle.kernel_model.specs.OwnChanges.{made_parts}
use Rattle.kernel_model.specs.Laws.{IsLeftBy}
use Rattle.kernel_model.specs.Outcome.{Outcome}
use Rattle.kernel_model.specs.Families.ProcessCalls.{end_updates}
use Rattle.kernel_model.specs.Proper.{IsUnset}
use Rattle.tree_model.specs.Retained.{retained-no_node, retained-no_table, retained-node, retained-table}
use Rattle.kernel_model.specs.Release.{ends, is_channel_kept, kept_channel, loses_reader, loses_writer, is_killed, is_node_kept, is_released, own_left, release, status_left, without_ended, IsEnded}
use Rattle.kernel_model.specs.Channels.{Channel, channel_left, is_over}
use Rattle.kernel_model.specs.Sight.{process_parts}
use Rattle.kernel_model.specs.State.{State, Table, tree_of, Part, at_clock, at_proc, at_status, at_open, at_node, at_names, at_chan, same_part, has_part, Agree, part_of, put_all}
use Rattle.kernel_model.specs.Step.{tick, unless_refused, changed, made_by, made_on, touch, unless, outcome_on, outcome, unreleased, step_answer, step_state, IsStep, IsUntouched, end_unreleased, end_state}
use Rattle.kernel_model.specs.View.{whole}
use Rattle.kernel_model.specs.Waits.{waiting}
use Rattle.kernel_model.proofs.Calls.{proper}
use Rattle.kernel_model.proofs.Channels.{channel_released}
use Rattle.kernel_model.proofs.Ends.{killed_by, same_channel, process_after, process_spared, status_after, status_spared, table_after, table_spared}
use Rattle.kernel_model.proofs.Outcomes.{outcome_reads}
use Rattle.kernel_model.proofs.Parts.{outside_cons, agree_through, put_keeps}
use Rattle.kernel_model.proofs.ProcessCalls.{end_unset}
use Rattle.kernel_model.proofs.Tests.{either_false, not_false, not_true}
use Rattle.kernel_model.proofs.Threading.{waits_keeps}
use Rattle.kernel_model.proofs.Valids.{get_released, released_stays}

-- ---- what a call sets

unless_unset : (constants : Constants) (S : State) (who : Who) (table : Table) (call : Call) (r : Option Reply) (q : Part)
    → has_part (process_parts who.pid
    ++ (unless_refused r (made_parts (meaning_of call).own who.pid (meaning_of call).numbers (get S.processes who.pid)) ++ unless_refused r ((meaning_of call).touched S table))) q ≡ false
    → IsUnset (unless r ((meaning_of call).effect constants (whole (tick S)) who table)) q
unless_unset constants S who table call (Some reply) q h = refl
unless_unset constants S who table call None q h = (proper call).sets constants S who table q h

act_unset : (constants : Constants) (S : State) (who : Who) (call : Call) (t : Option Table) (q : Part)
    → has_part (process_parts who.pid ++ (made_on S who call t ++ changed S call t)) q ≡ false → IsUnset (outcome_on constants (whole (tick S)) who call t) q
act_unset constants S who call None q h = refl
act_unset constants S who call (Some table) q h = unless_unset constants S who table call (refusal table call) q h

-- a call sets no part outside what it touches
pub sets_touched : (constants : Constants) (S : State) (who : Who) (call : Call) (q : Part) → has_part (touch S who call) q ≡ false
    → has_part (map part_of (outcome constants S who call).updates) q ≡ false
unfolding touch
sets_touched constants S who call q h =
    subst (λ (o : Outcome). IsUnset o q) (sym (outcome_reads constants S who call)) (act_unset constants S who call (get S.tables who.pid) q h)

-- ---- the clock and the release

not_true_is : (b : Bool) → not b ≡ true → b ≡ false
not_true_is true h = absurd (not_true h)
not_true_is false h = refl

pub killed_is_not_live : Some (Killed Kill) ≢ Some Live
killed_is_not_live e = cc

pub tick_keeps : (S : State) (q : Part) → same_part at_clock q ≡ false → Agree (tick S) S q
tick_keeps S at_clock h = absurd (subst T h tt)
tick_keeps S (at_proc p) h = (refl, refl)
tick_keeps S q h = refl

-- a part that the release does not end stays
pub release_keeps : (S : State) (q : Part) → is_released S q ≡ false → Agree (release S) S q
release_keeps S (at_proc p) h = (table_spared S (ends S) p h, process_spared S (ends S) p h)
release_keeps S (at_status p) h = status_spared S (ends S) p h
release_keeps S (at_open o) h = released_stays S o h
release_keeps S (at_node n) h = retained-node (tree_of S) (is_node_kept (without_ended S)) n (not_false _ h)
release_keeps S (at_names n) h = retained-table (tree_of S) (is_node_kept (without_ended S)) n (not_false _ h)
release_keeps S (at_chan c) h =
    let stays = either_false (loses_reader S (ends S) c) (loses_writer S (ends S) c || not (is_channel_kept (get S.chans c))) h in
    let writer = either_false (loses_writer S (ends S) c) (not (is_channel_kept (get S.chans c))) stays.1 in
    channel_released S c ∙ (λ i. kept_channel (option_map (channel_left (stays.0 i) (writer.0 i)) (get S.chans c)))
    ∙ ap kept_channel (same_channel (get S.chans c)) ∙ ap (λ b. cond b (get S.chans c) None) (not_false (is_channel_kept (get S.chans c)) writer.1)
release_keeps S q h = refl

-- what becomes of a part that the release ends
pub release_ends : (S : State) (q : Part) → is_released S q ≡ true → IsEnded S (release S) q
release_ends S (at_proc p) h = (
  table_after S (ends S) p ∙ ap (λ b. own_left b (get S.tables p)) h,
  process_after S (ends S) p ∙ ap (λ b. own_left b (get S.processes p)) h,
)
release_ends S (at_status p) h =
    let by = killed_by S (ends S) p h in (
      by.3,
      status_after S (ends S) p ∙ ap (λ b. option_map (status_left b) (get S.statuses p)) h ∙ ap (option_map (status_left true)) by.3,
    )
release_ends S (at_open o) h = get_released S o ∙ ap (λ b. cond (not b) (get S.opens o) None) h
release_ends S (at_node n) h = retained-no_node (tree_of S) (is_node_kept (without_ended S)) n (not_true_is _ h)
release_ends S (at_names n) h = retained-no_table (tree_of S) (is_node_kept (without_ended S)) n (not_true_is _ h)
release_ends S (at_chan c) h = (loses_reader S (ends S) c, loses_writer S (ends S) c, channel_released S c)
release_ends S q h = absurd (not_true h)

pub release_keeps_or_ends : (S : State) (q : Part) → (is_released S q ≡ false → Agree (release S) S q) × (is_released S q ≡ true → IsEnded S (release S) q)
release_keeps_or_ends S q = (release_keeps S q, release_ends S q)

false_is_no : {X : Type 0} → false ≡ true → X
false_is_no e = absurd (not_true e)

is_left_by : (reader writer : Bool) (channel : Channel) → IsLeftBy reader writer channel (channel_left reader writer channel)
is_left_by true true channel = record {
  reader_gone = λ _. (refl, refl);
  reader_stays = λ e. false_is_no (sym e);
  writer_gone = λ _. refl;
  writer_stays = λ e. false_is_no (sym e);
  sends = omega arith;
}
is_left_by true false channel = record {
  reader_gone = λ _. (refl, refl);
  reader_stays = λ e. false_is_no (sym e);
  writer_gone = λ e. false_is_no e;
  writer_stays = λ _. refl;
  sends = omega arith;
}
is_left_by false true channel = record {
  reader_gone = λ e. false_is_no e;
  reader_stays = λ _. (refl, refl);
  writer_gone = λ _. refl;
  writer_stays = λ e. false_is_no (sym e);
  sends = refl;
}
is_left_by false false channel = record {
  reader_gone = λ e. false_is_no e;
  reader_stays = λ _. (refl, refl);
  writer_gone = λ e. false_is_no e;
  writer_stays = λ _. refl;
  sends = refl;
}

turned : (b : Bool) (x : Option Channel) → cond (not b) x None ≡ cond b None x
turned true x = refl
turned false x = refl

pub channels_are_left : (S : State) (c : ℕ) (before : Channel) → get S.chans c ≡ Some before
    → (after : Channel) × IsLeftBy (loses_reader S (ends S) c) (loses_writer S (ends S) c) before after
    × (get (release S).chans c ≡ (if is_over after then None else Some after))
channels_are_left S c before there = (
  channel_left (loses_reader S (ends S) c) (loses_writer S (ends S) c) before,
  is_left_by (loses_reader S (ends S) c) (loses_writer S (ends S) c) before,
  channel_released S c ∙ ap (λ o. kept_channel (option_map (channel_left (loses_reader S (ends S) c) (loses_writer S (ends S) c)) o)) there
      ∙ turned (is_over (channel_left (loses_reader S (ends S) c) (loses_writer S (ends S) c) before)) _,
)

-- a process whose status is that it lives still was not killed
pub live_spared : (S : State) (p : ℕ) → get (release S).statuses p ≡ Some Live → is_killed S (ends S) p ≡ false
live_spared S p live =
    elim (is_killed S (ends S) p) as (λ b. is_killed S (ends S) p ≡ b → b ≡ false) [
      | true ↦ λ e. absurd (killed_is_not_live (sym (release_ends S (at_status p) e).1 ∙ live))
      | false ↦ λ e. refl
    ] refl

-- ---- steps

pub outside_clock : (S : State) (who : Who) (call : Call) (q : Part) → has_part (touch S who call) q ≡ false → same_part at_clock q ≡ false
unfolding touch
outside_clock S who call q h = (outside_cons at_clock (at_proc who.pid ∷ at_status who.pid ∷ (made_by S who call ++ changed S call (get S.tables who.pid))) q h).0

pub outside_own : (S : State) (who : Who) (call : Call) (q : Part) → has_part (touch S who call) q ≡ false → same_part (at_proc who.pid) q ≡ false
unfolding touch
outside_own S who call q h =
    let rest = made_by S who call ++ changed S call (get S.tables who.pid) in
    let beyond = outside_cons at_clock (at_proc who.pid ∷ at_status who.pid ∷ rest) q h in
    (outside_cons (at_proc who.pid) (at_status who.pid ∷ rest) q beyond.1).0

step_keeps : (constants : Constants) (S : State) (who : Who) (call : Call) (q : Part) → IsUntouched constants S who call q
    → Agree (step_state constants S who call) S q
step_keeps constants S who call q h =
    agree_through (step_state constants S who call) (unreleased constants S who call) S q (release_keeps (unreleased constants S who call) q h.1)
    (agree_through (unreleased constants S who call) (put_all (outcome constants S who call).updates (tick S)) S q
    (waits_keeps (step_answer constants S who call) who (waiting constants call who (S.clock + 1000)) (put_all (outcome constants S who call).updates (tick S)) q
    (outside_own S who call q h.0))
    (agree_through (put_all (outcome constants S who call).updates (tick S)) (tick S) S q
    (put_keeps (outcome constants S who call).updates (tick S) q (sets_touched constants S who call q h.0))
    (tick_keeps S q (outside_clock S who call q h.0))))

pub others_stay : (constants : Constants) (S : State) (who : Who) (call : Call) (given : Answer) (T : State) (q : Part)
    → IsStep constants S who call given T → IsUntouched constants S who call q → Agree T S q
others_stay constants S who call given T q (inl done) h = subst (λ U. Agree U S q) (sym done.1) (step_keeps constants S who call q h)
others_stay constants S who call given T q (inr lacking) h = subst (λ U. Agree U S q) (sym lacking.2) (tick_keeps S q (outside_clock S who call q h.0))

-- the end of a process from outside
pub end_is : (S : State) (p : ℕ) (status : Status) → end_state S p status ≡ release (end_unreleased S p status)
unfolding end_state
end_is S p status = refl

pub end_keeps : (S : State) (p : ℕ) (status : Status) (q : Part) → has_part (process_parts p) q ≡ false
    → is_released (end_unreleased S p status) q ≡ false → Agree (end_state S p status) S q
unfolding end_state
end_keeps S p status q outside stays =
    agree_through (end_state S p status) (end_unreleased S p status) S q (release_keeps (end_unreleased S p status) q stays)
    (agree_through (end_unreleased S p status) (tick S) S q (put_keeps (end_updates p status) (tick S) q (end_unset p status q outside))
    (tick_keeps S q (outside_cons at_clock (at_proc p ∷ at_status p ∷ []) q outside).0))
