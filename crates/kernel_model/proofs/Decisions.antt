-- What a call sees decides its outcome, and the values after the step of all that it sees.
use Rattle.std.proofs.Common.{◌≡◌, ℕ, ◌+◌, ◌||◌, not, Bool, true, false, cond, T, List, [], ◌∷◌, Option, None, refl, sym, ap, subst, ◌∙◌}
use Rattle.std.proofs.lemmas.Bool.{eq-eqb}
use Rattle.std.specs.Ordering.{nat_cmp}
use Rattle.std.specs.FinMap.{FinMap, get, retain_keys}
use Rattle.std.specs.Option.{option_map}
use Rattle.maps.specs.Maps.{get-retain, same_numbers}
use Rattle.abi_types.specs.declared.call.Call.{Call}
use Rattle.abi_types.specs.declared.constants.Constants.{Constants}
use Rattle.abi_types.specs.declared.who.Who.{Who}
use Rattle.kernel_model.specs.Outcome.{Outcome}
use Rattle.kernel_model.specs.Laws.{HasSameSight, EndsSame, EndsAlike}
use Rattle.kernel_model.specs.Channels.{channel_left}
use Rattle.kernel_model.specs.Release.{ends, is_node_kept, kept_channel, own_left, release, status_left, without_ended}
use Rattle.kernel_model.specs.State.{State, Part, at_clock, at_proc, at_status, at_open, at_node, at_names, at_term, at_chan, same_part, has_part, Agree, AgreeOn, put_all}
use Rattle.kernel_model.specs.Step.{tick, sight, outcome_by, outcome, unreleased, step_answer, step_state}
use Rattle.kernel_model.specs.View.{only, restrict}
use Rattle.kernel_model.specs.Waits.{waiting, waits_if}
use Rattle.kernel_model.proofs.Channels.{channel_released}
use Rattle.kernel_model.proofs.Ends.{process_after, status_after, table_after}
use Rattle.kernel_model.proofs.Parts.{agree_at, put_same}
use Rattle.kernel_model.proofs.Threading.{waits_alike}
use Rattle.kernel_model.proofs.Valids.{get_released}
use Rattle.kernel_model.proofs.Tests.{not_true, or_true}

only_alike : {X : Type 0} (b : Bool) (x y : Option X) → (b ≡ true → x ≡ y) → only b x ≡ only b y
only_alike true x y h = h refl
only_alike false x y h = refl

-- the entries that pass are the same where the maps agree on those keys
retained_alike : {X : Type 0} (m n : FinMap nat_cmp X) (p : ℕ → Bool) → ((q : ℕ) → p q ≡ true → get m q ≡ get n q) → retain_keys m p ≡ retain_keys n p
retained_alike m n p alike =
    same_numbers _ _ (λ q. get-retain m p q ∙ only_alike (p q) (get m q) (get n q) (alike q) ∙ sym (get-retain n p q))

-- what is seen of two states is the same where they agree on the parts seen
pub restrict_alike : (S T : State) (parts : List Part) → S.clock ≡ T.clock → AgreeOn S T parts → restrict S parts ≡ restrict T parts
restrict_alike S T parts now all =
    λ i. record {
      clock = now i;
      table = λ p. only_alike (has_part parts (at_proc p)) (get S.tables p) (get T.tables p) (λ h. (agree_at S T parts (at_proc p) all h).0) i;
      process = λ p. only_alike (has_part parts (at_proc p)) (get S.processes p) (get T.processes p) (λ h. (agree_at S T parts (at_proc p) all h).1) i;
      status = λ p. only_alike (has_part parts (at_status p)) (get S.statuses p) (get T.statuses p) (λ h. agree_at S T parts (at_status p) all h) i;
      opened = λ o. only_alike (has_part parts (at_open o)) (get S.opens o) (get T.opens o) (λ h. agree_at S T parts (at_open o) all h) i;
      branch = record {
        nodes = retained_alike S.nodes T.nodes (λ n. has_part parts (at_node n)) (λ n h. agree_at S T parts (at_node n) all h) i;
        names = retained_alike S.names T.names (λ n. has_part parts (at_names n)) (λ n h. agree_at S T parts (at_names n) all h) i;
      };
      term = λ k. only_alike (has_part parts (at_term k)) (get S.terms k) (get T.terms k) (λ h. agree_at S T parts (at_term k) all h) i;
      channel = λ c. only_alike (has_part parts (at_chan c)) (get S.chans c) (get T.chans c) (λ h. agree_at S T parts (at_chan c) all h) i;
    }

tick_alike : (S T : State) (q : Part) → Agree S T q → Agree (tick S) (tick T) q
tick_alike S T at_clock h = ap (λ n. n + 1000) h
tick_alike S T q h = h

pub ticks_alike : (S T : State) (parts : List Part) → AgreeOn S T parts → AgreeOn (tick S) (tick T) parts
ticks_alike S T [] h = tt
ticks_alike S T (part ∷ parts) h = (tick_alike S T part h.0, ticks_alike S T parts h.1)

-- the clock is the first of the parts that a call sees
pub sees_clock : (S T : State) (who : Who) (call : Call) → AgreeOn S T (sight S who call) → S.clock ≡ T.clock
unfolding sight
sees_clock S T who call same = same.0

pub sight_decides : (constants : Constants) (S T : State) (who : Who) (call : Call) → HasSameSight S T who call
    → outcome constants S who call ≡ outcome constants T who call
unfolding outcome
sight_decides constants S T who call same =
    ap (λ v. outcome_by constants v who call)
    (restrict_alike (tick S) (tick T) (sight S who call) (ap (λ n. n + 1000) (sees_clock S T who call same.1)) (ticks_alike S T (sight S who call) same.1))
    ∙ ap (λ parts. outcome_by constants (restrict (tick T) parts) who call) same.0

-- ---- after the step

-- two states that agree on a part, where the same updates are put into both
unreleased_alike : (constants : Constants) (S T : State) (who : Who) (call : Call) (q : Part) → S.clock ≡ T.clock → outcome constants S who call ≡ outcome constants T who call
    → Agree S T q → Agree (unreleased constants S who call) (unreleased constants T who call) q
unreleased_alike constants S T who call q clock same h =
    let thread = waiting constants call who (S.clock + 1000) in
    subst (λ n. Agree (unreleased constants S who call)
    (waits_if (outcome constants T who call).answer who (waiting constants call who (n + 1000)) (put_all (outcome constants T who call).updates (tick T))) q) clock
    (subst (λ (o : Outcome). Agree (unreleased constants S who call) (waits_if o.answer who thread (put_all o.updates (tick T))) q) same
    (waits_alike (outcome constants S who call).answer who thread (put_all (outcome constants S who call).updates (tick S))
    (put_all (outcome constants S who call).updates (tick T)) q
    (put_same (outcome constants S who call).updates (tick S) (tick T) q (tick_alike S T q h))))

same_test : (a b : Bool) → not a ≡ not b → a ≡ b
same_test true true e = refl
same_test true false e = absurd (not_true e)
same_test false true e = absurd (not_true (sym e))
same_test false false e = refl

pub release_alike : (S T : State) (q : Part) → Agree S T q → EndsSame S T q → Agree (release S) (release T) q
release_alike S T (at_proc p) h alike = (
  table_after S (ends S) p ∙ (λ i. own_left (alike i) (h.0 i)) ∙ sym (table_after T (ends T) p),
  process_after S (ends S) p ∙ (λ i. own_left (alike i) (h.1 i)) ∙ sym (process_after T (ends T) p),
)
release_alike S T (at_status p) h alike =
    status_after S (ends S) p ∙ (λ i. option_map (status_left (alike i)) (h i)) ∙ sym (status_after T (ends T) p)
release_alike S T (at_open o) h alike =
    get_released S o ∙ (λ i. cond (not (alike i)) (h i) None) ∙ sym (get_released T o)
release_alike S T (at_node n) h alike =
    get-retain S.nodes (is_node_kept (without_ended S)) n
    ∙ (λ i. cond (same_test _ _ alike i) (h i) None) ∙ sym (get-retain T.nodes (is_node_kept (without_ended T)) n)
release_alike S T (at_names n) h alike =
    get-retain S.names (is_node_kept (without_ended S)) n
    ∙ (λ i. cond (same_test _ _ alike i) (h i) None) ∙ sym (get-retain T.names (is_node_kept (without_ended T)) n)
release_alike S T (at_chan c) h alike =
    channel_released S c ∙ (λ i. kept_channel (option_map (channel_left (alike.0 i) (alike.1 i)) (h i))) ∙ sym (channel_released T c)
release_alike S T q h alike = h

same_itself : (q : Part) → same_part q q ≡ true
same_itself at_clock = refl
same_itself (at_proc p) = eq-eqb p p refl
same_itself (at_status p) = eq-eqb p p refl
same_itself (at_open o) = eq-eqb o o refl
same_itself (at_node n) = eq-eqb n n refl
same_itself (at_names n) = eq-eqb n n refl
same_itself (at_term k) = eq-eqb k k refl
same_itself (at_chan c) = eq-eqb c c refl

-- each part of a list
each_part : (S T : State) (parts : List Part) → ((q : Part) → has_part parts q ≡ true → Agree S T q) → AgreeOn S T parts
each_part S T [] h = tt
each_part S T (part ∷ parts) h = (
  h part (ap (λ b. b || has_part parts part) (same_itself part)),
  each_part S T parts (λ q there. h q (ap (λ b. same_part part q || b) there ∙ or_true (same_part part q))),
)

pub step_decided : (constants : Constants) (S T : State) (who : Who) (call : Call) → HasSameSight S T who call
    → (step_answer constants S who call ≡ step_answer constants T who call)
    × (EndsAlike (unreleased constants S who call) (unreleased constants T who call) (sight S who call)
    → AgreeOn (step_state constants S who call) (step_state constants T who call) (sight S who call))
step_decided constants S T who call same =
    let alike : outcome constants S who call ≡ outcome constants T who call = sight_decides constants S T who call same in (
      ap (λ (o : Outcome). o.answer) alike,
      λ ends. each_part (step_state constants S who call) (step_state constants T who call) (sight S who call) (λ q there.
          release_alike (unreleased constants S who call) (unreleased constants T who call) q
          (unreleased_alike constants S T who call q (sees_clock S T who call same.1) alike (agree_at S T (sight S who call) q same.1 there))
          (ends q there)),
    )
