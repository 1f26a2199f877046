-- Opens that nothing holds go one after another, and with them the processes that they are of and the nodes that are no longer used.
--     covered, left_holders, none_dropped      what a process holds, and the holders that are left once it has no table
--     one_fewer      one open less
--     without_process, without_end, without_other      what the state is without one more open, of a process, an end or anything else
--     kept, carried_kept      channels without those that are over: nothing waits in these
--     kept_left      a channel that is over is so whichever side goes yet
--     IsGoing, going_starts      between two turns of the loop, and before the first
--     after_process, after_end, after_none, after_node      an open of a process has gone, an end, one of no node, or one of a node
--     in_the_end      in the end the state is the release's
--     release_besides      what the release doesn't look at stays
use Rattle.std.proofs.Common.{◌≡◌, ◌≢◌, ℕ, ◌+◌, ◌<◌, ◌≤◌, ◌==◌, ◌||◌, ◌&&◌, not, Bool, true, false, cond, List, [], ◌∷◌, Option, Some, None, IsSome, is_some, inl, inr, refl, sym, ap, subst, ◌∙◌, arith}
use Rattle.std.proofs.lemmas.Bool.{eq-eqb}
use Rattle.std.proofs.lemmas.Bool.Decides.{eqb_tells}
use Rattle.std.specs.Ordering.{nat_cmp}
use Rattle.std.specs.Option.{option_map}
use Rattle.std.specs.FinMap.{FinMap, get, insert, len, remove, retain_keys}
use Rattle.abi_types.specs.declared.chan_kind.ChanKind.{ChanKind}
use Rattle.abi_types.specs.declared.open_kind.OpenKind.{OpenKind}
use Rattle.abi_types.specs.declared.open_kind.OpenKind.TheVariants.{File, Directory, End, Terminal, Process}
use Rattle.abi_types.specs.declared.status.Status.{Status}
use Rattle.abi_types.specs.declared.status.Status.TheVariants.{Killed}
use Rattle.abi_types.specs.declared.stream.Stream.{Stream}
use Rattle.abi_base.specs.declared.signal.Signal.TheVariants.{Kill}
use Rattle.maps.specs.Closure.{member, changed, get-changed}
use Rattle.maps.specs.Maps.{number, total, total_at_least, total_same, total-remove, weight, get-insert-same, get-insert-other, get-remove-same, get-remove-other, get-retain, len-removed, same_numbers}
use Rattle.object_store.specs.Objects.{Held, HasCounts}
use Rattle.tree_model.specs.Changes.{forgotten}
use Rattle.tree_model.specs.Counts.{one_for-other}
use Rattle.tree_model.specs.Opens.{is_used, one_of_node}
use Rattle.tree_model.specs.Releasing.{IsReleasing, releasing_end, releasing_next, releasing_other, releasing_start}
use Rattle.tree_model.specs.Retained.{retained}
use Rattle.tree_model.specs.Tree.{Tree, IsTree, one_for}
use Rattle.channel_calls.specs.Calls.{AllGoOn, AreCarried, AreFew, Channels, carriers_in, channels_left}
use Rattle.kernel_model.specs.Channels.{Channel, Send, channel_left, is_empty, is_gone, is_over}
use Rattle.kernel_model.specs.Release.{count_in, count_sent, carried_in, holders, carriers, is_of_process, is_reader, is_writer, lives, is_killed, is_channel_kept, kept_channel, status_left, without, ends, without_ended, without_nodes, without_over, release, AllAreHeld, LetsGo, starts, goes}
use Rattle.kernel_model.specs.State.{State, Table, ProcessState}
use Rattle.kernel_model.proofs.Ending.{ended_last, ends_in_any_order}
use Rattle.kernel_model.proofs.Ends.{channel_after, process_spared, same_channel, same_status, status_spared, table_spared}
use Rattle.kernel_model.proofs.Tests.{not_true, or_false}
use Rattle.kernel_model.proofs.Valids.{dropped_holders}
use Rattle.kernel_parts.specs.Released.{IsKilledIn, state_by}

-- ---- holders

pub covered : (tables : FinMap nat_cmp Table) (p : ℕ) (table : Table) → get tables p ≡ Some table → (o : ℕ) → count_in o table ≤ total (count_in o) tables
covered tables p table there o = total_at_least (count_in o) tables p table there

pub left_holders : (tables : FinMap nat_cmp Table) (p : ℕ) (table : Table) (before after : FinMap nat_cmp ℕ) → get tables p ≡ Some table
    → ((o : ℕ) → number (get after o) + count_in o table ≡ number (get before o))
    → (o : ℕ) → number (get after o) + total (count_in o) tables ≡ number (get before o) + total (count_in o) (remove tables p)
left_holders tables p table before after there less o =
    let dropped = dropped_holders tables p o table there in
    omega (arith, dropped, less o)

pub none_dropped : (tables : FinMap nat_cmp Table) (p o n : ℕ) → get tables p ≡ None → n + total (count_in o) tables ≡ n + total (count_in o) (remove tables p)
none_dropped tables p o n none =
    let nothing : weight (count_in o) (get tables p) ≡ 0 = ap (weight (count_in o)) none in
    let sums = total-remove (count_in o) tables p in
    omega (arith, nothing, sums)

pub one_fewer : (kinds new : FinMap nat_cmp OpenKind) (o : ℕ) (kind : OpenKind) → get kinds o ≡ Some kind → new ≡ remove kinds o → len new < len kinds
one_fewer kinds new o kind there is =
    let less = len-removed kinds o kind there in
    let same = ap (λ (m : FinMap nat_cmp OpenKind). len m) is in
    omega (arith, less, same)

-- ---- the state without one more open

-- a map in which one value is another, if this test says so
put_left : {X : Type 0} (m : FinMap nat_cmp X) (f : Bool → X → X) (value : X) (p : ℕ) (b : Bool) (killed : ℕ → Bool) → killed p ≡ b
    → ((q : ℕ) → q ≢ p → killed q ≡ false) → ((o : Option X) → option_map (f false) o ≡ o) → (b ≡ true → option_map (f true) (get m p) ≡ Some value)
    → cond b (insert m p value) m ≡ changed (λ q. f (killed q)) m
put_left {X} m f value p b killed here others keeps gives = same_numbers _ _ (λ q. at b q refl ∙ sym (get-changed (λ r. f (killed r)) m q)) where
  at : (c : Bool) (q : ℕ) → b ≡ c → get (cond c (insert m p value) m) q ≡ option_map (f (killed q)) (get m q)
  at true q is =
      elim (eqb_tells q p) [
        | inl same ↦ subst (λ r. get (insert m p value) r ≡ option_map (f (killed r)) (get m r)) (sym same.1)
            (get-insert-same m p value ∙ sym (gives is) ∙ sym (ap (λ k. option_map (f k) (get m p)) (here ∙ is)))
        | inr other ↦ get-insert-other m p value q other.1 ∙ sym (keeps (get m q)) ∙ sym (ap (λ k. option_map (f k) (get m q)) (others q other.1))
      ]
  at false q is =
      elim (eqb_tells q p) [
        | inl same ↦ sym (keeps (get m q)) ∙ sym (ap (λ k. option_map (f k) (get m q)) (ap killed same.1 ∙ here ∙ is))
        | inr other ↦ sym (keeps (get m q)) ∙ sym (ap (λ k. option_map (f k) (get m q)) (others q other.1))
      ]

-- a map from which one is taken away, if this test says so
drop_left : {X : Type 0} (m : FinMap nat_cmp X) (p : ℕ) (b : Bool) (killed : ℕ → Bool) → killed p ≡ b → ((q : ℕ) → q ≢ p → killed q ≡ false)
    → cond b (remove m p) m ≡ retain_keys m (λ q. not (killed q))
drop_left {X} m p b killed here others = same_numbers _ _ (λ q. at b q refl ∙ sym (get-retain m (λ r. not (killed r)) q)) where
  at : (c : Bool) (q : ℕ) → b ≡ c → get (cond c (remove m p) m) q ≡ cond (not (killed q)) (get m q) None
  at true q is =
      elim (eqb_tells q p) [
        | inl same ↦ subst (λ r. get (remove m p) r ≡ cond (not (killed r)) (get m r) None) (sym same.1)
            (get-remove-same m p ∙ sym (ap (λ k. cond (not k) (get m p) None) (here ∙ is)))
        | inr other ↦ get-remove-other m p q other.1 ∙ sym (ap (λ k. cond (not k) (get m q) None) (others q other.1))
      ]
  at false q is =
      elim (eqb_tells q p) [
        | inl same ↦ sym (ap (λ k. cond (not k) (get m q) None) (ap killed same.1 ∙ here ∙ is))
        | inr other ↦ sym (ap (λ k. cond (not k) (get m q) None) (others q other.1))
      ]

lives_some : (status : Option Status) → lives status ≡ true → is_some status ≡ true
lives_some None h = absurd (not_true h)
lives_some (Some status) h = refl

killed : (status : Option Status) → is_some status ≡ true → option_map (status_left true) status ≡ Some (Killed Kill)
killed None h = absurd (not_true h)
killed (Some status) h = refl

removed : (kinds : FinMap nat_cmp OpenKind) (o : ℕ) (r : ℕ) → get (remove kinds o) r ≡ cond (not (member r (o ∷ []))) (get kinds r) None
removed kinds o r =
    elim (eqb_tells r o) [
      | inl same ↦ ap (get (remove kinds o)) same.1 ∙ get-remove-same kinds o ∙ sym (ap (λ b. cond (not (b || false)) (get kinds r) None) same.0)
      | inr other ↦ get-remove-other kinds o r other.1 ∙ sym (ap (λ b. cond (not (b || false)) (get kinds r) None) other.0)
    ]

-- the open is no end of channels
abbrev pub IsNoEnd : OpenKind → Type 0
IsNoEnd kind = (reads writes : Option ℕ) (flags : ℕ) (form : ChanKind) → kind ≢ End reads writes flags form

no_side : (kind : OpenKind) (c : ℕ) → IsNoEnd kind → (is_reader c (Some kind) ≡ false) × (is_writer c (Some kind) ≡ false)
no_side (File node offset flags) c n = (refl, refl)
no_side (Directory node flags) c n = (refl, refl)
no_side (End reads writes flags form) c n = absurd (n reads writes flags form refl)
no_side (Terminal which flags) c n = (refl, refl)
no_side (Process p object) c n = (refl, refl)

-- the channels once that open has ended, where those that are over stay
abbrev sides_left : OpenKind → FinMap nat_cmp Channel → FinMap nat_cmp Channel
sides_left kind channels = changed (λ c. channel_left (is_reader c (Some kind)) (is_writer c (Some kind))) channels

module _ (C : State) (o : ℕ) where
  opens_then : remove C.opens o ≡ (without (o ∷ []) C).opens
  opens_then = same_numbers _ _ (λ r. removed C.opens o r ∙ sym (get-retain C.opens (λ q. not (member q (o ∷ []))) r))

  module _ (kind : OpenKind) (at : get C.opens o ≡ Some kind) where
    loses_then : (c : ℕ) → option_map (channel_left (is_reader c (Some kind)) (is_writer c (Some kind))) (get C.chans c)
        ≡ get (without (o ∷ []) C).chans c
    loses_then c =
        (λ i. option_map (channel_left (sym (or_false (is_reader c (Some kind))) i) (sym (or_false (is_writer c (Some kind))) i)) (get C.chans c))
        ∙ (λ i. option_map (channel_left (is_reader c (sym at i) || false) (is_writer c (sym at i) || false)) (get C.chans c))
        ∙ sym (channel_after C (o ∷ []) c)

    sides_then : sides_left kind C.chans ≡ (without (o ∷ []) C).chans
    sides_then = same_numbers _ _ (λ c. get-changed (λ d. channel_left (is_reader d (Some kind)) (is_writer d (Some kind))) C.chans c ∙ loses_then c)

    chans_then : IsNoEnd kind → C.chans ≡ (without (o ∷ []) C).chans
    chans_then none =
        same_numbers _ _ (λ c. sym (same_channel (get C.chans c))
        ∙ (λ i. option_map (channel_left (sym (no_side kind c none).0 i) (sym (no_side kind c none).1 i)) (get C.chans c)) ∙ loses_then c)

  -- an open of a process goes
  pub without_process : (p object : ℕ) (tables : FinMap nat_cmp Table) (processes : FinMap nat_cmp ProcessState) (statuses : FinMap nat_cmp Status)
      → get C.opens o ≡ Some (Process p object) → IsKilledIn p C.tables C.processes C.statuses tables processes statuses
      → record C { tables = tables; processes = processes; statuses = statuses; opens = remove C.opens o } ≡ without (o ∷ []) C
  without_process p object tables processes statuses there is =
      let b : Bool = lives (get C.statuses p) in
      let kills : (q : ℕ) → is_killed C (o ∷ []) q ≡ (((p == q) || false) && lives (get C.statuses q)) =
      λ q. ap (λ kind. (is_of_process q kind || false) && lives (get C.statuses q)) there in
      let here : is_killed C (o ∷ []) p ≡ b = kills p ∙ ap (λ c. (c || false) && b) (eq-eqb p p refl) in
      let others : (q : ℕ) → q ≢ p → is_killed C (o ∷ []) q ≡ false =
      λ q apart. kills q ∙ ap (λ c. (c || false) && lives (get C.statuses q)) (other_number p q apart) in
      let some : b ≡ true → is_some (get C.statuses p) ≡ true = lives_some (get C.statuses p) in
      let chans : C.chans ≡ (without (o ∷ []) C).chans = chans_then (Process p object) there (λ reads writes flags form e. cc) in
      let first : tables ≡ (without (o ∷ []) C).tables =
      is.left_tables ∙ drop_left C.tables p b (is_killed C (o ∷ [])) here others in
      let second : processes ≡ (without (o ∷ []) C).processes =
      is.left_processes ∙ drop_left C.processes p b (is_killed C (o ∷ [])) here others in
      let third : statuses ≡ (without (o ∷ []) C).statuses =
      is.left_statuses ∙ put_left C.statuses status_left (Killed Kill) p b (is_killed C (o ∷ [])) here others same_status
      (λ alive. killed (get C.statuses p) (some alive)) in
      λ i. record C { tables = first i; processes = second i; statuses = third i; opens = opens_then i; chans = chans i }
    where
      other_number : (a c : ℕ) → c ≢ a → (a == c) ≡ false
      other_number a c apart = elim (eqb_tells a c) [ inl same ↦ absurd (apart (sym same.1)) | inr other ↦ other.0 ]

  -- an open that is of no process goes
  goes_alone : (kind : OpenKind) (chans : FinMap nat_cmp Channel) → get C.opens o ≡ Some kind → ((p object : ℕ) → kind ≢ Process p object)
      → chans ≡ (without (o ∷ []) C).chans → record C { opens = remove C.opens o; chans = chans } ≡ without (o ∷ []) C
  goes_alone kind chans there apart left =
      let none : (q : ℕ) → is_killed C (o ∷ []) q ≡ false =
      λ q. ap (λ k. (is_of_process q k || false) && lives (get C.statuses q)) there
      ∙ ap (λ b. (b || false) && lives (get C.statuses q)) (no_process kind q apart) in
      let first : C.tables ≡ (without (o ∷ []) C).tables = same_numbers _ _ (λ q. sym (table_spared C (o ∷ []) q (none q))) in
      let second : C.processes ≡ (without (o ∷ []) C).processes = same_numbers _ _ (λ q. sym (process_spared C (o ∷ []) q (none q))) in
      let third : C.statuses ≡ (without (o ∷ []) C).statuses = same_numbers _ _ (λ q. sym (status_spared C (o ∷ []) q (none q))) in
      λ i. record C { tables = first i; processes = second i; statuses = third i; opens = opens_then i; chans = left i }
    where
      no_process : (k : OpenKind) (q : ℕ) → ((p object : ℕ) → k ≢ Process p object) → is_of_process q (Some k) ≡ false
      no_process (File node offset flags) q n = refl
      no_process (Directory node flags) q n = refl
      no_process (End reads writes flags form) q n = refl
      no_process (Terminal which flags) q n = refl
      no_process (Process p object) q n = absurd (n p object refl)

  -- an end goes
  pub without_end : (kind : OpenKind) → get C.opens o ≡ Some kind → ((p object : ℕ) → kind ≢ Process p object)
      → record C { opens = remove C.opens o; chans = sides_left kind C.chans } ≡ without (o ∷ []) C
  without_end kind there apart = goes_alone kind (sides_left kind C.chans) there apart (sides_then kind there)

  -- another open goes
  pub without_other : (kind : OpenKind) → get C.opens o ≡ Some kind → ((p object : ℕ) → kind ≢ Process p object) → IsNoEnd kind
      → record C { opens = remove C.opens o } ≡ without (o ∷ []) C
  without_other kind there apart no_end = goes_alone kind C.chans there apart (chans_then kind there no_end)

-- ---- channels that are over

-- the channels without those that are over
abbrev pub kept : Channels → Channels
kept channels = retain_keys channels (λ c. is_channel_kept (get channels c))

get-kept : (channels : Channels) (c : ℕ) → get (kept channels) c ≡ kept_channel (get channels c)
get-kept channels c = get-retain channels (λ d. is_channel_kept (get channels d)) c

all_kept : (channels : Channels) → AllGoOn channels → channels ≡ kept channels
all_kept channels going =
    same_numbers _ _ (λ c. ap (λ b. cond b (get channels c) None) (sym (going c)) ∙ sym (get-kept channels c))

both_true : (a b : Bool) → (a && b) ≡ true → (a ≡ true) × (b ≡ true)
both_true true b h = (refl, h)
both_true false b h = absurd (not_true h)

-- nothing waits in one that is over
nothing_waits : (o : ℕ) (sends : List Send) → is_empty sends ≡ true → count_sent o sends ≡ 0
nothing_waits o [] h = refl
nothing_waits o (send ∷ sends) h = absurd (not_true h)

kept_weight : (o : ℕ) (channel : Option Channel) → weight (carried_in o) channel ≡ weight (carried_in o) (kept_channel channel)
kept_weight o None = refl
kept_weight o (Some channel) =
    elim (is_over channel) as (λ b. is_over channel ≡ b → carried_in o channel ≡ weight (carried_in o) (cond (not b) (Some channel) None)) [
      | true ↦ λ over. nothing_waits o channel.waiting
          (both_true (is_gone channel.writer) (is_empty channel.waiting)
          (both_true (is_gone channel.reader) (is_gone channel.writer && is_empty channel.waiting) over).1).1
      | false ↦ λ _. refl
    ] refl

pub carried_kept : (o : ℕ) (channels : Channels) → carriers_in o channels ≡ carriers_in o (kept channels)
carried_kept o channels =
    total_same (carried_in o) (carried_in o) channels (kept channels) (λ c. kept_weight o (get channels c) ∙ ap (weight (carried_in o)) (sym (get-kept channels c)))

-- one that is over stays so whichever side goes yet
over_still : (reader writer : Bool) (channel : Channel) → is_over channel ≡ true → is_over (channel_left reader writer channel) ≡ true
over_still true true channel h = refl
over_still true false channel h =
    let rest = both_true (is_gone channel.reader) (is_gone channel.writer && is_empty channel.waiting) h in
    ap (λ b. b && true) (both_true (is_gone channel.writer) (is_empty channel.waiting) rest.1).0
over_still false true channel h =
    let rest = both_true (is_gone channel.reader) (is_gone channel.writer && is_empty channel.waiting) h in
    (λ i. rest.0 i && (both_true (is_gone channel.writer) (is_empty channel.waiting) rest.1).1 i)
over_still false false channel h = h

kept_before : (reader writer : Bool) (channel : Option Channel)
    → kept_channel (option_map (channel_left reader writer) (kept_channel channel)) ≡ kept_channel (option_map (channel_left reader writer) channel)
kept_before reader writer None = refl
kept_before reader writer (Some channel) =
    elim (is_over channel) as (λ b. is_over channel ≡ b
    → kept_channel (option_map (channel_left reader writer) (cond (not b) (Some channel) None)) ≡ kept_channel (Some (channel_left reader writer channel))) [
      | true ↦ λ over. ap (λ b. cond (not b) (Some (channel_left reader writer channel)) None) (sym (over_still reader writer channel over))
      | false ↦ λ _. refl
    ] refl

pub kept_left : (kind : OpenKind) (channels : Channels) → channels_left kind (kept channels) ≡ kept (sides_left kind channels)
kept_left kind channels =
    let left : (c : ℕ) → Channel → Channel = λ c. channel_left (is_reader c (Some kind)) (is_writer c (Some kind)) in
    same_numbers _ _ (λ c.
    get-kept (sides_left kind (kept channels)) c
    ∙ ap kept_channel (get-changed left (kept channels) c ∙ ap (option_map (left c)) (get-kept channels c))
    ∙ kept_before (is_reader c (Some kind)) (is_writer c (Some kind)) (get channels c)
    ∙ ap kept_channel (sym (get-changed left channels c)) ∙ sym (get-kept (sides_left kind channels) c))

-- ---- the loop

-- Some opens have gone, with all that goes with them, and the nodes that are no longer used. Channels that are over have gone already:
-- `all` has them yet.
pub record IsGoing (first : State) (old : Tree) (tables : FinMap nat_cmp Table) (processes : FinMap nat_cmp ProcessState) (statuses : FinMap nat_cmp Status)
    (channels : Channels) (h : Held) (t : Tree) : Type 0 where
  pub all : Channels
  pub goes_on : LetsGo first (state_by tables processes statuses h.kinds all old)
  pub left : channels ≡ kept all
  pub going : AllGoOn channels
  pub few : AreFew first.chans → AreFew channels
  pub counted : (o : ℕ) → number (get h.counts o) ≡ total (count_in o) tables + carriers_in o channels
  pub between : IsReleasing (without_ended first).opens old h.kinds t
  pub tree : IsTree t

pub going_starts : (tables : FinMap nat_cmp Table) (processes : FinMap nat_cmp ProcessState) (statuses : FinMap nat_cmp Status) (channels : Channels) (h : Held)
    (t : Tree) → IsTree t → ((n : ℕ) → IsSome (get t.nodes n) → is_used h.kinds t n ≡ true)
    → ((o : ℕ) → number (get h.counts o) ≡ total (count_in o) tables + carriers_in o channels)
    → AllGoOn channels
    → IsGoing (state_by tables processes statuses h.kinds channels t) t tables processes statuses channels h t
going_starts tables processes statuses channels h t tree used counted going =
    let S : State = state_by tables processes statuses h.kinds channels t in
    record {
      all = channels;
      goes_on = starts;
      left = all_kept channels going;
      going = going;
      few = λ few. few;
      counted = counted;
      between = releasing_start (without_ended S).opens h.kinds t (ended_last S S starts) used;
      tree = tree;
    }

-- an open is of one node alone
pub of_no_other : (kind : OpenKind) (node : ℕ) → ((n : ℕ) → one_of_node n kind ≡ one_for n node) → (m : ℕ) → m ≢ node → one_of_node m kind ≡ 0
of_no_other kind node is m other = is m ∙ one_for-other m node (λ same. other (sym same))

module _ (first : State) (old t : Tree) (tables : FinMap nat_cmp Table) (processes : FinMap nat_cmp ProcessState) (statuses : FinMap nat_cmp Status)
    (channels : Channels) (h new : Held) (o : ℕ) (kind : OpenKind) (unheld : get h.counts o ≡ Some 0) (there : get h.kinds o ≡ Some kind)
    (is : new ≡ record { kinds = remove h.kinds o; counts = remove h.counts o }) (going : IsGoing first old tables processes statuses channels h t) where
  kinds_are : new.kinds ≡ remove h.kinds o
  kinds_are = ap (λ (x : Held). x.kinds) is

  -- one open less
  pub fewer : len new.kinds < len h.kinds
  fewer = one_fewer h.kinds new.kinds o kind there kinds_are

  -- the holders of each open are still counted
  counts_at : (q : ℕ) → number (get (remove h.counts o) q) ≡ number (get h.counts q)
  counts_at q =
      elim (eqb_tells q o) [
        | inl same ↦ ap number (ap (get (remove h.counts o)) same.1 ∙ get-remove-same h.counts o) ∙ sym (ap number (ap (get h.counts) same.1 ∙ unheld))
        | inr other ↦ ap number (get-remove-other h.counts o q other.1)
      ]

  pub still_counted : (q : ℕ) → number (get new.counts q) ≡ total (count_in q) tables + carriers_in q channels
  still_counted q = ap (λ (x : Held). number (get x.counts q)) is ∙ counts_at q ∙ going.counted q

  pub tables_covered : (q : ℕ) → total (count_in q) tables ≤ number (get new.counts q)
  tables_covered q = let counted = still_counted q in omega (arith, counted)

  pub channels_covered : (q : ℕ) → carriers_in q channels ≤ number (get new.counts q)
  channels_covered q = let counted = still_counted q in omega (arith, counted)

  abbrev now : State
  now = state_by tables processes statuses h.kinds going.all old

  carried : (q : ℕ) → carriers now q ≡ carriers_in q channels
  carried q = carried_kept q going.all ∙ ap (carriers_in q) (sym going.left)

  none_holds : holders now o + carriers now o ≡ 0
  none_holds = ap (λ n. holders now o + n) (carried o) ∙ sym (going.counted o) ∙ ap number unheld

  next : LetsGo first (without (o ∷ []) now)
  next = goes now o going.goes_on (ap is_some there) none_holds

  -- what is left in the end is left now
  within : (after : State) → LetsGo first after → (r : ℕ) (k : OpenKind) → get (without_ended first).opens r ≡ Some k → get after.opens r ≡ Some k
  within after by r k last = ended_last first after by r k last

  -- what the parts are once an open of a process has gone
  pub after_process : (p object : ℕ) (new_tables : FinMap nat_cmp Table) (new_processes : FinMap nat_cmp ProcessState) (new_statuses : FinMap nat_cmp Status) (killed : Held)
      → kind ≡ Process p object → killed.kinds ≡ new.kinds
      → ((q : ℕ) → number (get killed.counts q) + total (count_in q) tables ≡ number (get new.counts q) + total (count_in q) new_tables)
      → IsKilledIn p tables processes statuses new_tables new_processes new_statuses → IsGoing first old new_tables new_processes new_statuses channels killed t
  after_process p object new_tables new_processes new_statuses killed of kinds counts parts =
      let left : killed.kinds ≡ remove h.kinds o = kinds ∙ kinds_are in
      let state = without_process now o p object new_tables new_processes new_statuses (there ∙ ap Some of) parts in
      let by : LetsGo first (state_by new_tables new_processes new_statuses (remove h.kinds o) going.all old) = subst (LetsGo first) (sym state) next in
      record {
        all = going.all;
        goes_on = subst (λ (m : FinMap nat_cmp OpenKind). LetsGo first (state_by new_tables new_processes new_statuses m going.all old)) (sym left) by;
        left = going.left;
        going = going.going;
        few = going.few;
        counted = λ q. (let before = still_counted q in let moved = counts q in omega (arith, before, moved));
        between = subst (λ (m : FinMap nat_cmp OpenKind). IsReleasing (without_ended first).opens old m t) (sym left)
            (releasing_other (without_ended first).opens old h.kinds t o kind there (λ n. ap (one_of_node n) of)
            (within (state_by new_tables new_processes new_statuses (remove h.kinds o) going.all old) by) going.between);
        tree = going.tree;
      }

  -- an end has gone
  pub after_end : (reads writes : Option ℕ) (flags : ℕ) (form : ChanKind) (new_channels : Channels) (hung : Held) → kind ≡ End reads writes flags form → hung.kinds ≡ new.kinds
      → new_channels ≡ channels_left kind channels → AllGoOn new_channels → AreCarried channels new_channels new.counts hung.counts
      → (AreFew channels → AreFew new_channels) → IsGoing first old tables processes statuses new_channels hung t
  after_end reads writes flags form new_channels hung of kinds are going_on counts few =
      let left : hung.kinds ≡ remove h.kinds o = kinds ∙ kinds_are in
      let state = without_end now o kind there (λ p object e. no_process p object (sym of ∙ e)) in
      let by : LetsGo first (state_by tables processes statuses (remove h.kinds o) (sides_left kind going.all) old) = subst (LetsGo first) (sym state) next in
      record {
        all = sides_left kind going.all;
        goes_on = subst (λ (m : FinMap nat_cmp OpenKind). LetsGo first (state_by tables processes statuses m (sides_left kind going.all) old)) (sym left) by;
        left = are ∙ ap (channels_left kind) going.left ∙ kept_left kind going.all;
        going = going_on;
        few = λ before. few (going.few before);
        counted = λ q. (let before = still_counted q in let moved = counts q in omega (arith, before, moved));
        between = subst (λ (m : FinMap nat_cmp OpenKind). IsReleasing (without_ended first).opens old m t) (sym left)
            (releasing_other (without_ended first).opens old h.kinds t o kind there (λ n. ap (one_of_node n) of)
            (within (state_by tables processes statuses (remove h.kinds o) (sides_left kind going.all) old) by) going.between);
        tree = going.tree;
      }
    where
      no_process : (p object : ℕ) → End reads writes flags form ≢ Process p object
      no_process p object e = cc

  other_goes : ((p object : ℕ) → kind ≢ Process p object) → IsNoEnd kind → LetsGo first (state_by tables processes statuses (remove h.kinds o) going.all old)
  other_goes apart no_end = subst (LetsGo first) (sym (without_other now o kind there apart no_end)) next

  -- an open of no node has gone
  pub after_none : ((p object : ℕ) → kind ≢ Process p object) → IsNoEnd kind → ((n : ℕ) → one_of_node n kind ≡ 0) → IsGoing first old tables processes statuses channels new t
  after_none apart no_end none =
      let by = other_goes apart no_end in
      record {
        all = going.all;
        goes_on = subst (λ (m : FinMap nat_cmp OpenKind). LetsGo first (state_by tables processes statuses m going.all old)) (sym kinds_are) by;
        left = going.left;
        going = going.going;
        few = going.few;
        counted = still_counted;
        between = subst (λ (m : FinMap nat_cmp OpenKind). IsReleasing (without_ended first).opens old m t) (sym kinds_are)
            (releasing_other (without_ended first).opens old h.kinds t o kind there none
            (within (state_by tables processes statuses (remove h.kinds o) going.all old) by) going.between);
        tree = going.tree;
      }

  -- an open of a node has gone, and the node where it isn't used
  pub after_node : (n : ℕ) (u : Tree) → ((p object : ℕ) → kind ≢ Process p object) → IsNoEnd kind → ((m : ℕ) → m ≢ n → one_of_node m kind ≡ 0)
      → (is_used new.kinds t n ≡ true → u ≡ t) → (get t.nodes n ≡ None → u ≡ t)
      → (is_used new.kinds t n ≡ false → IsSome (get t.nodes n) → u ≡ forgotten t n) → IsTree u → IsGoing first old tables processes statuses channels new u
  after_node n u apart no_end others used absent unused tree =
      let by = other_goes apart no_end in
      record {
        all = going.all;
        goes_on = subst (λ (m : FinMap nat_cmp OpenKind). LetsGo first (state_by tables processes statuses m going.all old)) (sym kinds_are) by;
        left = going.left;
        going = going.going;
        few = going.few;
        counted = still_counted;
        between = subst (λ (m : FinMap nat_cmp OpenKind). IsReleasing (without_ended first).opens old m u) (sym kinds_are)
            (releasing_next (without_ended first).opens old h.kinds t u o n kind there others
            (within (state_by tables processes statuses (remove h.kinds o) going.all old) by)
            (λ e. used (ap (λ (m : FinMap nat_cmp OpenKind). is_used m t n) kinds_are ∙ e)) absent
            (λ e. unused (ap (λ (m : FinMap nat_cmp OpenKind). is_used m t n) kinds_are ∙ e)) going.between);
        tree = tree;
      }

-- ---- in the end

more_than_none : (n : Option ℕ) → IsSome n → n ≢ Some 0 → 0 < number n
more_than_none None some apart = absurd (not_true some)
more_than_none (Some n) some apart = let other : n ≢ 0 = λ e. apart (ap Some e) in omega arith

pub in_the_end : (first : State) (old t : Tree) (tables : FinMap nat_cmp Table) (processes : FinMap nat_cmp ProcessState) (statuses : FinMap nat_cmp Status)
    (channels : Channels) (h : Held) → IsGoing first old tables processes statuses channels h t → HasCounts h.kinds h.counts
    → ((o : ℕ) → get h.counts o ≢ Some 0) → state_by tables processes statuses h.kinds channels t ≡ release first
in_the_end first old t tables processes statuses channels h going has none =
    let now : State = state_by tables processes statuses h.kinds going.all old in
    let held : AllAreHeld now =
    λ o there.
    let some = more_than_none (get h.counts o) (sym (has o) ∙ there) (none o) in
    let carried : carriers now o ≡ carriers_in o channels = carried_kept o going.all ∙ ap (carriers_in o) (sym going.left) in
    let counted : number (get h.counts o) ≡ holders now o + carriers now o = going.counted o ∙ ap (λ n. holders now o + n) (sym carried) in
    omega (arith, some, counted) in
    let last : now ≡ without_ended first = ends_in_any_order first now going.goes_on held in
    let opens : (without_ended first).opens ≡ h.kinds = ap (λ (S : State). S.opens) (sym last) in
    let tree : t ≡ retained old (is_used h.kinds old) =
    releasing_end h.kinds old t going.tree (subst (λ (m : FinMap nat_cmp OpenKind). IsReleasing m old h.kinds t) opens going.between) in
    ap (λ m. state_by tables processes statuses h.kinds m t) going.left
    ∙ ap (state_by tables processes statuses h.kinds (kept going.all)) tree ∙ ap (λ S. without_over (without_nodes S)) last

-- what the release doesn't look at stays
pub release_besides : (S : State) (clock : ℕ) (terms : FinMap nat_cmp Stream)
    → release (record S { clock = clock; terms = terms }) ≡ record (release S) { clock = clock; terms = terms }
unfolding ends
release_besides S clock terms = refl
