-- Those that are left as something ends.
--     none_at, no_end, both_ends      those that stand at a channel, or at those of an end
--     process_ends      a process has ended
--     popped      an open has gone that nothing holds
--     end_left      an end has left its channels
--     no_last_kept      the greatest number stays nobody's
--     goes_alone, goes_killing, goes_leaving      what one turn of the loop does, after all before it
use Rattle.std.proofs.Common.{◌≡◌, ◌≢◌, ℕ, ◌+◌, ◌-◌, ◌^◌, ◌<◌, ◌||◌, Bool, true, false, cond, Option, None, Some, IsSome, inl, inr, refl, sym, ap, subst, ◌∙◌, arith}
use Rattle.std.proofs.lemmas.Bool.{eq-eqb}
use Rattle.std.proofs.lemmas.Bool.Decides.{eqb_tells}
use Rattle.std.specs.Bool.{nat_eq}
use Rattle.std.specs.Ordering.{nat_cmp}
use Rattle.std.specs.Option.{option_map}
use Rattle.std.specs.FinMap.{FinMap, get, insert, remove}
use Rattle.abi_types.specs.declared.chan_kind.ChanKind.{ChanKind}
use Rattle.abi_types.specs.declared.descriptor.Descriptor.{Descriptor}
use Rattle.abi_types.specs.declared.open_kind.OpenKind.{OpenKind}
use Rattle.abi_types.specs.declared.open_kind.OpenKind.TheVariants.{File, Directory, End, Terminal, Process}
use Rattle.abi_types.specs.declared.status.Status.{Status}
use Rattle.abi_types.specs.declared.thread.Thread.{Thread}
use Rattle.channel_calls.specs.Calls.{AllGoOn, Channels, carriers_in, channels_left}
use Rattle.channel_calls.proofs.Lefts.{left_at_key}
use Rattle.maps.specs.Closure.{get-changed}
use Rattle.object_store.specs.Objects.{Held}
use Rattle.maps.specs.Maps.{number, total, total_at_least, get-insert-other, get-remove-same, get-remove-other, same_numbers}
use Rattle.kernel_model.specs.Channels.{Channel, channel_left}
use Rattle.kernel_model.specs.Release.{count_in, is_reader, is_writer, kept_channel, names_open}
use Rattle.kernel_model.specs.State.{State, Table, ProcessState, Tree, thread_in, thread_of}
use Rattle.kernel_model.proofs.Ends.{same_channel}
use Rattle.kernel_model.proofs.Tests.{none_is_no, not_true}
use Rattle.wait_set.specs.declared.spot.Spot.TheVariants as spot
use Rattle.wait_set.specs.declared.waiting.Waiting.{Waiting}
use Rattle.wait_set.specs.Waits.{WaitMap, flag, so_changed, stands, touched, where_so}
use Rattle.kernel_parts.specs.Keys.{is_own, key}
use Rattle.kernel_parts.specs.Released.{state_by}
use Rattle.kernel_parts.specs.Touched.{DoesTheSame, IsKept, IsTouched}
use Rattle.kernel_parts.specs.Touching.{HasEach, HasNoLast, left_if, stands_at, stands_at_end, gone_if}
use Rattle.kernel_parts.proofs.ThreadKeys.{own_key, own_other}
use Rattle.kernel_parts.proofs.Touched.{is_kept_self, is_touched_follows}

-- ---- those that are left

-- each entry was there, and is left now if so
abbrev pub AreLeft : (Waiting → Bool) → WaitMap → WaitMap → Type 0
AreLeft f V W = (k : ℕ) (w : Waiting) → get W k ≡ Some w → (v : Waiting) × (get V k ≡ Some v) × (w ≡ cond (f v) (touched v) v)

some_is : (b : Bool) (v w : Waiting) → cond b (Some (touched v)) (Some v) ≡ Some w → w ≡ cond b (touched v) v
some_is true v w h = cc
some_is false v w h = cc

pub where_left : (f : Waiting → Bool) (V W : WaitMap) → W ≡ where_so f (λ _ w. touched w) V → AreLeft f V W
where_left f V W is k w there =
    elim (get V k) as (λ o. option_map (so_changed f (λ _ x. touched x) k) o ≡ Some w → (v : Waiting) × (o ≡ Some v) × (w ≡ cond (f v) (touched v) v)) [
      | None ↦ λ h. absurd (none_is_no w h)
      | Some v ↦ λ h. (v, refl, cc)
    ] (sym (get-changed (so_changed f (λ _ x. touched x)) V k) ∙ ap (λ (m : WaitMap). get m k) (sym is) ∙ there)

module _ (f : Waiting → Bool) (v w : Waiting) (is : w ≡ cond (f v) (touched v) v) where
  pub left_kept : IsKept v w
  left_kept =
      elim (f v) as (λ b. w ≡ cond b (touched v) v → IsKept v w) [
        | true ↦ λ e. subst (IsKept v) (sym e) (record { spots = refl; same = λ h. absurd (not_true (sym h)); everywhere = λ h. h; runs = refl })
        | false ↦ λ e. subst (IsKept v) (sym e) (is_kept_self v)
      ] is

  -- one that isn't left is none of those
  pub left_aside : w.left ≡ false → f w ≡ false
  left_aside done =
      elim (f v) as (λ b. f v ≡ b → w ≡ cond b (touched v) v → f w ≡ false) [
        | true ↦ λ _ e. absurd (not_true (sym done ∙ ap (λ (x : Waiting). x.left) e))
        | false ↦ λ none e. ap f e ∙ none
      ] refl is

-- ---- those at an end

-- the map with none left
none_so : (f : Waiting → Bool) (V : WaitMap) → ((w : Waiting) → f w ≡ false) → V ≡ where_so f (λ _ w. touched w) V
none_so f V none =
    same_numbers V (where_so f (λ _ w. touched w) V) (λ k. sym (get-changed (so_changed f (λ _ w. touched w)) V k
    ∙ elim (get V k) as (λ o. option_map (so_changed f (λ _ w. touched w) k) o ≡ o) [
      | None ↦ refl
      | Some v ↦ ap (λ b. Some (cond b (touched v) v)) (none v)
    ]))

pub none_at : (id : Option ℕ) (V : WaitMap) → ((c : ℕ) → id ≡ Some c → ⊥) → V ≡ where_so (stands_at id) (λ _ w. touched w) V
none_at None V none = none_so (stands_at None) V (λ w. refl)
none_at (Some c) V none = absurd (none c refl)

pub no_end : (kind : OpenKind) (V : WaitMap) → ((reads writes : Option ℕ) (flags : ℕ) (form : ChanKind) → kind ≡ End reads writes flags form → ⊥)
    → V ≡ where_so (stands_at_end kind) (λ _ w. touched w) V
no_end (File node offset flags) V none = none_so (stands_at_end (File node offset flags)) V (λ w. refl)
no_end (Directory node flags) V none = none_so (stands_at_end (Directory node flags)) V (λ w. refl)
no_end (End reads writes flags form) V none = absurd (none reads writes flags form refl)
no_end (Terminal which flags) V none = none_so (stands_at_end (Terminal which flags)) V (λ w. refl)
no_end (Process p object) V none = none_so (stands_at_end (Process p object)) V (λ w. refl)

at_touched : (id : Option ℕ) (w : Waiting) → stands_at id (touched w) ≡ stands_at id w
at_touched None w = refl
at_touched (Some c) w = refl

-- those that are at one of two are left one after another
twice : (a b : Bool) (g : Waiting → Bool) (v : Waiting) → g (touched v) ≡ g v → g v ≡ b
    → cond (g (cond a (touched v) v)) (touched (cond a (touched v) v)) (cond a (touched v) v) ≡ cond (a || b) (touched v) v
twice true b g v same is = elim (g (touched v)) as (λ x. cond x (touched v) (touched v) ≡ touched v) [ true ↦ refl | false ↦ refl ]
twice false b g v same is = ap (λ x. cond x (touched v) v) is

pub both_ends : (reads writes : Option ℕ) (flags : ℕ) (form : ChanKind) (V : WaitMap)
    → where_so (stands_at writes) (λ _ w. touched w) (where_so (stands_at reads) (λ _ w. touched w) V) ≡ where_so (stands_at_end (End reads writes flags form)) (λ _ w. touched w) V
both_ends reads writes flags form V =
    same_numbers _ _ (λ k.
    get-changed (so_changed (stands_at writes) (λ _ w. touched w)) (where_so (stands_at reads) (λ _ w. touched w) V) k
    ∙ ap (option_map (so_changed (stands_at writes) (λ _ w. touched w) k)) (get-changed (so_changed (stands_at reads) (λ _ w. touched w)) V k)
    ∙ at_key k (get V k)
    ∙ sym (get-changed (so_changed (stands_at_end (End reads writes flags form)) (λ _ w. touched w)) V k)) where
      at_key : (k : ℕ) (o : Option Waiting)
          → option_map (so_changed (stands_at writes) (λ _ w. touched w) k) (option_map (so_changed (stands_at reads) (λ _ w. touched w) k) o)
          ≡ option_map (so_changed (stands_at_end (End reads writes flags form)) (λ _ w. touched w) k) o
      at_key k None = refl
      at_key k (Some v) = ap Some (twice (stands_at reads v) (stands_at writes v) (stands_at writes) v (at_touched writes v) refl)

-- ---- a process ends

was : (f : Waiting → Bool) (own : Bool) (o : Option Waiting) (w : Waiting) → gone_if own (left_if (flag f o) o) ≡ Some w
    → (own ≡ false) × ((v : Waiting) × (o ≡ Some v) × (w ≡ cond (f v) (touched v) v))
was f true o w h = absurd (none_is_no w h)
was f false None w h = absurd (none_is_no w h)
was f false (Some v) w h = (refl, (v, refl, some_is (f v) v w h))

-- where an entry is gone it was one's own
went : (f : Waiting → Bool) (own : Bool) (o : Option Waiting) → gone_if own (left_if (flag f o) o) ≡ None → IsSome o → own ≡ true
went f true o h some = refl
went f false None h some = absurd (not_true some)
went f false (Some v) h some =
    elim (f v) as (λ b. cond b (Some (touched v)) (Some v) ≡ None → false ≡ true) [
      | true ↦ λ e. absurd (none_is_no (touched v) (sym e))
      | false ↦ λ e. absurd (none_is_no v (sym e))
    ] h

module _ (S T : State) (V W : WaitMap) (p : ℕ) (status : Status) (small : p < 2 ^ 32) (last : HasNoLast V) (tables : T.tables ≡ remove S.tables p)
    (processes : T.processes ≡ remove S.processes p) (statuses : T.statuses ≡ insert S.statuses p status)
    (opens : T.opens ≡ S.opens) (chans : T.chans ≡ S.chans) (clock : T.clock ≡ S.clock)
    (entries : HasEach (λ k entry. gone_if (is_own p k) (left_if (flag (stands (spot.Ended p)) entry) entry)) V W) where
  abbrev f : Waiting → Bool
  f = stands (spot.Ended p)

  before : (k : ℕ) (w : Waiting) → get W k ≡ Some w → (is_own p k ≡ false) × ((v : Waiting) × (get V k ≡ Some v) × (w ≡ cond (f v) (touched v) v))
  before k w there = was f (is_own p k) (get V k) w (sym (entries k) ∙ there)

  none_now : (t : ℕ) → thread_of T p t ≡ None
  none_now t =
      ap (λ (m : FinMap nat_cmp ProcessState). thread_in (option_map (λ (own : ProcessState). own.threads) (get m p)) t) processes
      ∙ ap (λ o. thread_in (option_map (λ (own : ProcessState). own.threads) o) t) (get-remove-same S.processes p)

  thread_kept : (q t : ℕ) → q ≢ p → thread_of T q t ≡ thread_of S q t
  thread_kept q t apart =
      ap (λ (m : FinMap nat_cmp ProcessState). thread_in (option_map (λ (own : ProcessState). own.threads) (get m q)) t) processes
      ∙ ap (λ o. thread_in (option_map (λ (own : ProcessState). own.threads) o) t) (get-remove-other S.processes p q apart)

  table_kept : (q : ℕ) → q ≢ p → get T.tables q ≡ get S.tables q
  table_kept q apart = ap (λ (m : FinMap nat_cmp Table). get m q) tables ∙ get-remove-other S.tables p q apart

  -- whoever has an entry still is of another process
  other : (q t : ℕ) (w : Waiting) → t < 2 ^ 32 → get W (key q t) ≡ Some w → q ≢ p
  other q t w few there same =
      let at = before (key q t) w there in
      let spared : is_own p (key p t) ≡ false = subst (λ r. is_own p (key r t) ≡ false) same at.0 in
      let apart : key p t ≢ 2 ^ 64 - 1 =
      λ e. none_is_no at.1.0 (sym last ∙ ap (get V) (sym e ∙ ap (λ r. key r t) (sym same)) ∙ at.1.1) in
      not_true (sym spared ∙ own_key p t small few apart)

  stay : (q t : ℕ) (w : Waiting) → t < 2 ^ 32 → get W (key q t) ≡ Some w → DoesTheSame S T q t
  stay q t w few there = let apart = other q t w few there in record { thread = thread_kept q t apart; table = table_kept q apart }

  gone : (q t : ℕ) → t < 2 ^ 32 → get W (key q t) ≡ None → IsSome (get V (key q t)) → thread_of T q t ≡ None
  gone q t few none some =
      let own = went f (is_own p (key q t)) (get V (key q t)) (sym (entries (key q t)) ∙ none) some in
      subst (λ r. thread_of T r t ≡ None) (sym (own_other p q t few own)) (none_now t)

  ends : (k q : ℕ) (w : Waiting) → get W k ≡ Some w → w.left ≡ false → stands (spot.Ended q) w ≡ true → get T.statuses q ≡ get S.statuses q
  ends k q w there done at =
      let b = before k w there in
      let aside = left_aside f b.1.0 w b.1.2 done in
      let apart : q ≢ p = λ same. not_true (sym aside ∙ ap (λ r. stands (spot.Ended r) w) (sym same) ∙ at) in
      ap (λ (m : FinMap nat_cmp Status). get m q) statuses ∙ get-insert-other S.statuses p status q apart

  rows : (q n : ℕ) (table : Table) (d : Descriptor) → get T.tables q ≡ Some table → get table n ≡ Some d
      → (get S.tables q ≡ Some table) × (get T.opens d.id ≡ get S.opens d.id)
  rows q n table d own there =
      elim (eqb_tells q p) [
        | inl same ↦ absurd (none_is_no table (sym (nothing_left same.1) ∙ own))
        | inr apart ↦ (sym (table_kept q apart.1) ∙ own, ap (λ (m : FinMap nat_cmp OpenKind). get m d.id) opens)
      ]
    where
      nothing_left : q ≡ p → get T.tables q ≡ None
      nothing_left same = ap (get T.tables) same ∙ ap (λ (m : FinMap nat_cmp Table). get m p) tables ∙ get-remove-same S.tables p

  threads : (q t : ℕ) (thread : Thread) → thread_of T q t ≡ Some thread → thread_of S q t ≡ Some thread
  threads q t thread there =
      elim (eqb_tells q p) [
        | inl same ↦ absurd (none_is_no thread (sym (none_now t) ∙ ap (λ r. thread_of T r t) (sym same.1) ∙ there))
        | inr apart ↦ sym (thread_kept q t apart.1) ∙ there
      ]

  pub process_ends : IsTouched S T V W
  process_ends = record {
    kept = λ k w there. (let b = before k w there in (b.1.0, b.1.1, left_kept f b.1.0 w b.1.2));
    gone = gone;
    stay = stay;
    channels = λ k c w there done at. ap (λ (m : FinMap nat_cmp Channel). get m c) chans;
    ends = ends;
    rows = rows;
    threads = threads;
    clock = clock;
  }

-- ---- an open goes that nothing holds

unnamed : (o n : ℕ) (table : Table) (d : Descriptor) → count_in o table ≡ 0 → get table n ≡ Some d → d.id ≢ o
unnamed o n table d none there same =
    let least = total_at_least (names_open o) table n d there in
    let one : names_open o d ≡ 1 = ap (λ b. cond b 1 0) (eq-eqb d.id o same) in
    omega (arith, least, one, none)

module _ (tables : FinMap nat_cmp Table) (processes : FinMap nat_cmp ProcessState) (statuses : FinMap nat_cmp Status) (channels : FinMap nat_cmp Channel)
    (kinds : FinMap nat_cmp OpenKind) (o : ℕ) where
  pub popped : (t u : Tree) (W : WaitMap) → total (count_in o) tables ≡ 0
      → IsTouched (state_by tables processes statuses kinds channels t) (state_by tables processes statuses (remove kinds o) channels u) W W
  popped t u W none = record {
    kept = λ k w there. (w, there, is_kept_self w);
    gone = λ p r small gone some. absurd (not_true (subst IsSome gone some));
    stay = λ p r w small there. record { thread = refl; table = refl };
    channels = λ k c w there done at. refl;
    ends = λ k q w there done at. refl;
    rows = λ p n table d own there. (
      own,
      get-remove-other kinds o d.id
          (unnamed o n table d (let least = total_at_least (count_in o) tables p table own in omega (arith, least, none)) there),
    );
    threads = λ p r thread there. there;
    clock = refl;
  }

  -- ---- an end leaves its channels

  pub end_left : (kind : OpenKind) (new : FinMap nat_cmp Channel) (t : Tree) (V W : WaitMap) → new ≡ channels_left kind channels → AllGoOn channels
      → W ≡ where_so (stands_at_end kind) (λ _ w. touched w) V
      → IsTouched (state_by tables processes statuses kinds channels t) (state_by tables processes statuses kinds new t) V W
  end_left kind new t V W are going is = record {
    kept = λ k w there. (let b = before k w there in (b.0, b.1, left_kept (stands_at_end kind) b.0 w b.2));
    gone = λ p r small gone some. absurd (lost (key p r) gone some);
    stay = λ p r w small there. record { thread = refl; table = refl };
    channels = channels_same;
    ends = λ k q w there done at. refl;
    rows = λ p n table d own there. (own, refl);
    threads = λ p r thread there. there;
    clock = refl;
  }
    where
      before : AreLeft (stands_at_end kind) V W
      before = where_left (stands_at_end kind) V W is

      lost : (k : ℕ) → get W k ≡ None → IsSome (get V k) → ⊥
      lost k gone some =
          elim (get V k) as (λ x. IsSome x → option_map (so_changed (stands_at_end kind) (λ _ y. touched y) k) x ≡ None → ⊥) [
            | None ↦ λ none _. not_true none
            | Some v ↦ λ _ e. none_is_no (so_changed (stands_at_end kind) (λ _ y. touched y) k v) (sym e)
          ] some (sym (get-changed (so_changed (stands_at_end kind) (λ _ x. touched x)) V k) ∙ ap (λ (m : WaitMap). get m k) (sym is) ∙ gone)

      channels_same : (k c : ℕ) (w : Waiting) → get W k ≡ Some w → w.left ≡ false → stands (spot.Channel c) w ≡ true → get new c ≡ get channels c
      channels_same k c w there done at =
          let b = before k w there in
          let aside = left_aside (stands_at_end kind) b.0 w b.2 done in
          let none = no_side kind c w aside at in
          ap (λ (m : FinMap nat_cmp Channel). get m c) are ∙ left_at_key kind channels c ∙ ap (λ x. kept_channel (option_map (channel_left x (is_writer c (Some kind))) (get channels c))) none.0
          ∙ ap (λ x. kept_channel (option_map (channel_left false x) (get channels c))) none.1
          ∙ ap kept_channel (same_channel (get channels c)) ∙ ap (λ x. cond x (get channels c) None) (going c)
        where
          first_false : (a b : Bool) → (a || b) ≡ false → (a ≡ false) × (b ≡ false)
          first_false true b h = absurd (not_true (sym h))
          first_false false b h = (refl, h)

          -- who isn't at the channel, and is at that one
          apart : (i : Option ℕ) (w : Waiting) (c : ℕ) → stands_at i w ≡ false → stands (spot.Channel c) w ≡ true → (r : ℕ) → i ≡ Some r → nat_eq r c ≡ false
          apart i w c away at r same =
              elim (eqb_tells r c) [
                | inl e ↦ absurd (not_true (sym away ∙ ap (λ x. stands_at x w) (same ∙ ap Some e.1) ∙ at))
                | inr e ↦ e.0
              ]

          no_side : (kind : OpenKind) (c : ℕ) (w : Waiting) → stands_at_end kind w ≡ false → stands (spot.Channel c) w ≡ true
              → (is_reader c (Some kind) ≡ false) × (is_writer c (Some kind) ≡ false)
          no_side (File node offset flags) c w away at = (refl, refl)
          no_side (Directory node flags) c w away at = (refl, refl)
          no_side (Terminal which flags) c w away at = (refl, refl)
          no_side (Process p object) c w away at = (refl, refl)
          no_side (End None None flags form) c w away at = (refl, refl)
          no_side (End (Some r) None flags form) c w away at = (apart (Some r) w c (first_false (stands_at (Some r) w) false away).0 at r refl, refl)
          no_side (End None (Some x) flags form) c w away at = (refl, apart (Some x) w c away at x refl)
          no_side (End (Some r) (Some x) flags form) c w away at =
              let two = first_false (stands_at (Some r) w) (stands_at (Some x) w) away in
              (apart (Some r) w c two.0 at r refl, apart (Some x) w c two.1 at x refl)

-- ---- the greatest number

-- where something has ended no entry has it that hadn't
pub no_last_kept : (S T : State) (V W : WaitMap) → IsTouched S T V W → HasNoLast V → HasNoLast W
no_last_kept S T V W by last =
    elim (get W (2 ^ 64 - 1)) as (λ x. get W (2 ^ 64 - 1) ≡ x → x ≡ None) [
      | None ↦ λ _. refl
      | Some w ↦ λ there. (let v = by.kept (2 ^ 64 - 1) w there in absurd (none_is_no v.0 (sym last ∙ v.1)))
    ] refl

-- ---- the loop

-- what has gone on from the beginning to where the open o is popped, which nothing holds
module _ (first : State) (tables : FinMap nat_cmp Table) (processes : FinMap nat_cmp ProcessState) (statuses : FinMap nat_cmp Status)
    (channels : Channels) (h new : Held) (t : Tree) (V W : WaitMap) (o : ℕ) (unheld : get h.counts o ≡ Some 0)
    (is : new ≡ record { kinds = remove h.kinds o; counts = remove h.counts o })
    (counted : number (get h.counts o) ≡ total (count_in o) tables + carriers_in o channels)
    (before : HasNoLast V → IsTouched first (state_by tables processes statuses h.kinds channels t) V W) where
  none_names : total (count_in o) tables ≡ 0
  none_names = let none = ap number unheld in omega (arith, none, counted)

  -- it goes, and perhaps a node
  pub goes_alone : (u : Tree) → HasNoLast V → IsTouched first (state_by tables processes statuses new.kinds channels u) V W
  goes_alone u last =
      subst (λ (x : Held). IsTouched first (state_by tables processes statuses x.kinds channels u) V W) (sym is)
      (is_touched_follows first (state_by tables processes statuses h.kinds channels t) (state_by tables processes statuses (remove h.kinds o) channels u) V W W
      (before last) (popped tables processes statuses channels h.kinds o t u W none_names))

  -- a process is killed then
  pub goes_killing : (new_tables : FinMap nat_cmp Table) (new_processes : FinMap nat_cmp ProcessState) (new_statuses : FinMap nat_cmp Status) (killed : Held)
      (X : WaitMap)
      → ((chans : FinMap nat_cmp Channel) (u : Tree) → HasNoLast W
      → IsTouched (state_by tables processes statuses new.kinds chans u) (state_by new_tables new_processes new_statuses killed.kinds chans u) W X)
      → HasNoLast V → IsTouched first (state_by new_tables new_processes new_statuses killed.kinds channels t) V X
  goes_killing new_tables new_processes new_statuses killed X then last =
      is_touched_follows first (state_by tables processes statuses new.kinds channels t) (state_by new_tables new_processes new_statuses killed.kinds channels t)
      V W X (goes_alone t last) (then channels t (no_last_kept first (state_by tables processes statuses h.kinds channels t) V W (before last) last))

  -- an end leaves its channels then
  pub goes_leaving : (kind : OpenKind) (new_channels : Channels) (hung : Held) (X : WaitMap) → hung.kinds ≡ new.kinds → new_channels ≡ channels_left kind channels
      → AllGoOn channels → X ≡ where_so (stands_at_end kind) (λ _ w. touched w) W
      → HasNoLast V → IsTouched first (state_by tables processes statuses hung.kinds new_channels t) V X
  goes_leaving kind new_channels hung X kinds are going so last =
      subst (λ (m : FinMap nat_cmp OpenKind). IsTouched first (state_by tables processes statuses m new_channels t) V X) (sym kinds)
      (is_touched_follows first (state_by tables processes statuses new.kinds channels t) (state_by tables processes statuses new.kinds new_channels t)
      V W X (goes_alone t last) (end_left tables processes statuses channels new.kinds o kind new_channels t W X are going so))

-- ---- a process's entries go, and others are left

pub removed_then_left : (f : Waiting → Bool) (own : ℕ → Bool) (V W X : WaitMap) → HasEach (λ k. gone_if (own k)) V W → X ≡ where_so f (λ _ w. touched w) W
    → HasEach (λ k entry. gone_if (own k) (left_if (flag f entry) entry)) V X
removed_then_left f own V W X gone is k =
    ap (λ (m : WaitMap). get m k) is ∙ get-changed (so_changed f (λ _ w. touched w)) W k ∙ ap (option_map (so_changed f (λ _ w. touched w) k)) (gone k)
    ∙ at_key (own k) (get V k) where
      at_key : (b : Bool) (o : Option Waiting) → option_map (so_changed f (λ _ w. touched w) k) (gone_if b o) ≡ gone_if b (left_if (flag f o) o)
      at_key true o = refl
      at_key false None = refl
      at_key false (Some v) = elim (f v) as (λ b. Some (cond b (touched v) v) ≡ cond b (Some (touched v)) (Some v)) [ true ↦ refl | false ↦ refl ]
