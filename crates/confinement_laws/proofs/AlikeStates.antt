-- States that have the same of all but some nodes of the file tree and the names in these.
--     IsKept, AgreeKept      a part that isn't left out;  both states have the same of each such part
--     bare, bare_alike      a state without its file tree, which is the same of both
--     tick_kept, resumed_kept, release_kept, called_kept, end_kept, idle_kept      what each step leaves is the same again
use Rattle.std.proofs.Common.{◌≡◌, ℕ, ◌+◌, ◌==◌, ◌||◌, not, refl, ap, subst}
use Rattle.std.specs.Prelude.{⊤, nat_lt}
use Rattle.std.specs.FinMap.{get, empty, retain_keys}
use Rattle.abi_base.specs.declared.errno.Errno.{Errno}
use Rattle.abi_base.specs.declared.errno.Errno.TheVariants.{Nomem}
use Rattle.abi_types.specs.declared.call.Call.{Call}
use Rattle.abi_types.specs.declared.constants.Constants.{Constants}
use Rattle.abi_types.specs.declared.reply.Answer.{Answer}
use Rattle.abi_types.specs.declared.reply.Answer.TheVariants as answer
use Rattle.abi_types.specs.declared.status.Status.{Status}
use Rattle.abi_types.specs.declared.thread.Thread.TheVariants.{Runnable}
use Rattle.abi_types.specs.declared.who.Who.{Who}
use Rattle.maps.specs.Closure.{member}
use Rattle.maps.specs.Maps.{same_numbers}
use Rattle.tree_model.specs.declared.limits.TheConstants.{ROOT}
use Rattle.tree_model.specs.Opens.{opens_of_node}
use Rattle.tree_model.specs.Tree.{links_in}
use Rattle.kernel_model.specs.Deadlines.{idle_state, jumped_to, least_deadline}
use Rattle.kernel_model.specs.Families.ProcessCalls.{end_updates}
use Rattle.kernel_model.specs.Laws.{EndsSame}
use Rattle.kernel_model.specs.Release.{ends, is_killed, is_node_kept, loses_reader, loses_writer, release, without_ended}
use Rattle.kernel_model.specs.State.{State, Part, at_clock, at_proc, at_status, at_open, at_node, at_names, at_term, at_chan, Agree, put_all}
use Rattle.kernel_model.specs.Step.{tick, outcome, unreleased, step_state, failed, end_unreleased, end_state}
use Rattle.kernel_model.specs.Waits.{resumed, waiting, waits_if}
use Rattle.kernel_model.proofs.Decisions.{release_alike}
use Rattle.kernel_model.proofs.Parts.{put_same}
use Rattle.kernel_model.proofs.Threading.{waits_alike, with_alike}
use Rattle.run_model.specs.World.{by_errno, called_state}

-- the part is no node but one of these, nor the names in one
abbrev pub IsKept : (ℕ → Type 0) → Part → Type 0
IsKept Within (at_node n) = Within n
IsKept Within (at_names n) = Within n
IsKept Within _ = ⊤

-- both states have the same of each such part
abbrev pub AgreeKept : (ℕ → Type 0) → State → State → Type 0
AgreeKept Within S U = (q : Part) → IsKept Within q → Agree S U q

-- ---- all but the file tree

-- the state with no file tree
abbrev pub bare : State → State
bare S = record S { nodes = empty; names = empty }

pub bare_alike : (Within : ℕ → Type 0) (S U : State) → AgreeKept Within S U → bare S ≡ bare U
bare_alike Within S U same =
    λ i. record {
      clock = same at_clock tt i;
      tables = same_numbers S.tables U.tables (λ p. (same (at_proc p) tt).0) i;
      processes = same_numbers S.processes U.processes (λ p. (same (at_proc p) tt).1) i;
      statuses = same_numbers S.statuses U.statuses (λ p. same (at_status p) tt) i;
      opens = same_numbers S.opens U.opens (λ o. same (at_open o) tt) i;
      nodes = empty;
      names = empty;
      terms = same_numbers S.terms U.terms (λ k. same (at_term k) tt) i;
      chans = same_numbers S.chans U.chans (λ c. same (at_chan c) tt) i;
    }

-- ---- the release

-- which opens end doesn't hang on the file tree
ends_alike : (S U : State) → bare S ≡ bare U → ends S ≡ ends U
unfolding ends
ends_alike S U same = ap ends same

-- whether a node stays hangs on itself and the opens alone
node_stays_alike : (S U : State) (n : ℕ) → bare S ≡ bare U → get S.nodes n ≡ get U.nodes n → is_node_kept (without_ended S) n ≡ is_node_kept (without_ended U) n
node_stays_alike S U n same node =
    let gone : ends S ≡ ends U = ends_alike S U same in
    λ i. (n == ROOT) || (nat_lt 0 (links_in (node i)) || nat_lt 0 (opens_of_node (retain_keys (same i).opens (λ o. not (member o (gone i)))) n))

module _ (Within : ℕ → Type 0) where
  ends_kept : (S U : State) → AgreeKept Within S U → (q : Part) → IsKept Within q → EndsSame S U q
  ends_kept S U same at_clock kept = refl
  ends_kept S U same (at_proc p) kept =
      let all : bare S ≡ bare U = bare_alike Within S U same in
      let gone : ends S ≡ ends U = ends_alike S U all in
      λ i. is_killed (all i) (gone i) p
  ends_kept S U same (at_status p) kept =
      let all : bare S ≡ bare U = bare_alike Within S U same in
      let gone : ends S ≡ ends U = ends_alike S U all in
      λ i. is_killed (all i) (gone i) p
  ends_kept S U same (at_open o) kept = ap (member o) (ends_alike S U (bare_alike Within S U same))
  ends_kept S U same (at_node n) kept = ap not (node_stays_alike S U n (bare_alike Within S U same) (same (at_node n) kept))
  ends_kept S U same (at_names n) kept = ap not (node_stays_alike S U n (bare_alike Within S U same) (same (at_node n) kept))
  ends_kept S U same (at_term k) kept = refl
  ends_kept S U same (at_chan c) kept =
      let all : bare S ≡ bare U = bare_alike Within S U same in
      let gone : ends S ≡ ends U = ends_alike S U all in
      (λ i. loses_reader (all i) (gone i) c, λ i. loses_writer (all i) (gone i) c)

  pub release_kept : (S U : State) → AgreeKept Within S U → AgreeKept Within (release S) (release U)
  release_kept S U same q kept = release_alike S U q (same q kept) (ends_kept S U same q kept)

  -- ---- calls

  pub tick_kept : (S U : State) → AgreeKept Within S U → AgreeKept Within (tick S) (tick U)
  tick_kept S U same at_clock kept = ap (λ n. n + 1000) (same at_clock tt)
  tick_kept S U same q kept = same q kept

  pub resumed_kept : (S U : State) (who : Who) → AgreeKept Within S U → AgreeKept Within (resumed S who) (resumed U who)
  resumed_kept S U who same q kept = with_alike S U who.pid who.tid Runnable q (same q kept)

  unreleased_kept : (constants : Constants) (S U : State) (who : Who) (call : Call) → AgreeKept Within S U
      → outcome constants S who call ≡ outcome constants U who call → AgreeKept Within (unreleased constants S who call) (unreleased constants U who call)
  unreleased_kept constants S U who call same alike q kept =
      let o = outcome constants S who call in
      let clock : S.clock ≡ U.clock = same at_clock tt in
      subst (λ X. Agree (unreleased constants S who call) X q)
      (λ i. waits_if (alike i).answer who (waiting constants call who (clock i + 1000)) (put_all (alike i).updates (tick U)))
      (waits_alike o.answer who (waiting constants call who (S.clock + 1000)) (put_all o.updates (tick S)) (put_all o.updates (tick U)) q
      (put_same o.updates (tick S) (tick U) q (tick_kept S U same q kept)))

  step_kept : (constants : Constants) (S U : State) (who : Who) (call : Call) → AgreeKept Within S U
      → outcome constants S who call ≡ outcome constants U who call → AgreeKept Within (step_state constants S who call) (step_state constants U who call)
  step_kept constants S U who call same alike =
      release_kept (unreleased constants S who call) (unreleased constants U who call) (unreleased_kept constants S U who call same alike)

  either_kept : (errno : Errno) (S T U V : State) → AgreeKept Within S U → AgreeKept Within T V → AgreeKept Within (by_errno errno S T) (by_errno errno U V)
  either_kept Nomem S T U V lacking done = lacking
  either_kept _ S T U V lacking done = done

  -- after a call that does the same in both states, and was answered so
  pub called_kept : (constants : Constants) (S U : State) (who : Who) (call : Call) (given : Answer) → AgreeKept Within S U
      → outcome constants S who call ≡ outcome constants U who call
      → AgreeKept Within (called_state constants S who call given) (called_state constants U who call given)
  unfolding called_state
  called_kept constants S U who call (answer.Parked writes) same alike = step_kept constants S U who call same alike
  called_kept constants S U who call (answer.Reply reply) same alike =
      either_kept reply.errno (failed S who) (step_state constants S who call) (failed U who) (step_state constants U who call)
      (tick_kept S U same) (step_kept constants S U who call same alike)

  -- ---- the end of a process from outside, and idle jumps

  ended_kept : (S U : State) (p : ℕ) (status : Status) → AgreeKept Within S U → AgreeKept Within (end_unreleased S p status) (end_unreleased U p status)
  ended_kept S U p status same q kept =
      put_same (end_updates p status) (tick S) (tick U) q (tick_kept S U same q kept)

  pub end_kept : (S U : State) (p : ℕ) (status : Status) → AgreeKept Within S U → AgreeKept Within (end_state S p status) (end_state U p status)
  unfolding end_state
  end_kept S U p status same = release_kept (end_unreleased S p status) (end_unreleased U p status) (ended_kept S U p status same)

  pub idle_kept : (S U : State) → AgreeKept Within S U → AgreeKept Within (idle_state S) (idle_state U)
  idle_kept S U same at_clock kept =
      let all : bare S ≡ bare U = bare_alike Within S U same in
      λ i. jumped_to (all i).clock (least_deadline (all i))
  idle_kept S U same q kept = same q kept
