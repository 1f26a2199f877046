-- The entries of waiting threads as numbers of a process come to stand for something else.
--     own_spread      a process's own threads are spread
--     table_is_held      the table of a process has changed, and its threads are spread or none of them waits, or it is the same
--     received_is_held      descriptors came, or the table is the same
--     number_is_held      one number stands for something else, and those are spread that wait on it
--     more_is_held, flags_are_held      more are left;  the flags of an open have changed, and those that stand at its channels are left
--     change_is_held      a change of a process's descriptors
use Rattle.std.proofs.Common.{◌≡◌, ◌≢◌, ◌⊎◌, ℕ, ◌-◌, ◌^◌, ◌<◌, ◌==◌, ◌&&◌, ◌||◌, bit_and, Bool, true, false, cond, inl, inr, List, [], ◌∷◌, ◌++◌, Option, None, Some, refl, sym, ap, subst, ◌∙◌}
use Rattle.std.proofs.lemmas.Bool.Decides.{eqb_tells}
use Rattle.std.specs.Ordering.{nat_cmp}
use Rattle.std.specs.Option.{option_map}
use Rattle.std.specs.FinMap.{FinMap, get, insert}
use Rattle.abi_structures.specs.declared.structures.FdStat.{FdStat}
use Rattle.abi_types.specs.declared.call.Call.{Call}
use Rattle.abi_types.specs.declared.descriptor.Descriptor.{Descriptor}
use Rattle.abi_types.specs.declared.family.DescriptorChange.{DescriptorChange}
use Rattle.abi_types.specs.declared.family.DescriptorChange.TheVariants.{Close, Dup, Replace, StatPut}
use Rattle.abi_types.specs.declared.open_kind.OpenKind.{OpenKind}
use Rattle.abi_types.specs.declared.open_kind.OpenKind.TheVariants.{File, Directory, End, Terminal, Process}
use Rattle.abi_types.specs.declared.thread.Stage.{Stage}
use Rattle.abi_types.specs.declared.thread.Thread.TheVariants.{Waits}
use Rattle.kernel_model.specs.Families.DescriptorCalls.{dup_at, dup_of, lowered_to, lowest_free, replaced_by, stat_set, with_flags}
use Rattle.kernel_model.specs.Release.{is_reader, is_writer}
use Rattle.kernel_model.specs.State.{ProcessState, State, Table, Update, set_open, set_table, thread_in, thread_of}
use Rattle.kernel_model.proofs.Tests.{none_is_no, not_true, same_some}
use Rattle.kernel_parts.specs.Changes.{change_outcome, opens_after, stat_put_at, table_after}
use Rattle.kernel_parts.specs.Entries.{open_by}
use Rattle.kernel_parts.specs.Keys.{is_own, key}
use Rattle.kernel_parts.specs.Touching.{HasEach, HasNoLast, looks_for, spread_if, stands_at_end, waits_on}
use Rattle.kernel_parts.proofs.Concerned.{concerned_own}
use Rattle.kernel_parts.proofs.ThreadKeys.{own_key}
use Rattle.maps.specs.Maps.{get-insert-other, get-insert-same, get-remove-other}
use Rattle.wait_set.specs.declared.spot.Spot.TheVariants as spot
use Rattle.wait_set.specs.declared.waiting.Waiting.{Waiting}
use Rattle.wait_set.specs.Waits.{WaitMap, spread_out, touched, where_so}
use Rattle.readiness_laws.specs.Spots.{bare, never_waits}
use Rattle.readiness_laws.specs.Watched.{looked_at}
use Rattle.readiness_laws.specs.WatchedChanges.{AreIdle, AreKept, AreLeftAt, AreSpread, RowsStay, all_stay, named_stay}
use Rattle.readiness_laws.proofs.WatchedSets.{not_touched, spread_keeps, touch_keeps}
use Rattle.readiness_laws.proofs.WatchedTables.{opens_are_watched, own_rows, tables_are_watched}
use Rattle.readiness_laws.proofs.WatchedTimes.{kept_is_watched}
use Rattle.kernel_invariant.specs.Held.{AreHeld}
use Rattle.kernel_invariant.specs.Readiness.{is_concerned_by, is_concerned_in, left_at_open, number_changed, open_changed, AreLeftBy}
use Rattle.kernel_invariant.proofs.HeldChannels.{stands_there}
use Rattle.kernel_invariant.proofs.HeldTimes.{no_last_kept}

-- ---- threads that are spread

spread_has : (o : Option Waiting) (w : Waiting) → option_map spread_out o ≡ Some w → (w.everywhere && w.left) ≡ true
spread_has None w is = absurd (none_is_no w is)
spread_has (Some v) w is = ap (λ (x : Waiting). x.everywhere && x.left) (sym (same_some (spread_out v) w is))

-- no entry has the greatest number, which is_own leaves out
pub has_own : (p t : ℕ) (w : Waiting) (W : WaitMap) → p < 2 ^ 32 → t < 2 ^ 32 → HasNoLast W → get W (key p t) ≡ Some w → is_own p (key p t) ≡ true
has_own p t w W few small last there = own_key p t few small (λ same. none_is_no w (sym last ∙ ap (get W) (sym same) ∙ there))

pub own_spread : (p : ℕ) (V W : WaitMap) → p < 2 ^ 32 → HasEach (λ k. spread_if (is_own p k)) V W → HasNoLast W → AreSpread p W
own_spread p V W few each last = record {
  spread = λ t w small there.
      spread_has (get V (key p t)) w
      (sym (ap (λ b. spread_if b (get V (key p t))) (has_own p t w W few small last there)) ∙ sym (each (key p t)) ∙ there);
}

-- ---- the table of one process

pub table_is_held : (S : State) (p : ℕ) (new : Table) (V W : WaitMap) → AreHeld (looked_at S) V → AreKept V W
    → (get (insert S.tables p new) p ≡ get S.tables p) ⊎ (AreSpread p W ⊎ AreIdle S p) → AreHeld (looked_at (record S { tables = insert S.tables p new })) W
table_is_held S p new V W held kept how =
    let tables = insert S.tables p new in
    record {
      watched = tables_are_watched S tables V W held.watched kept (own_rows S tables W (λ q. elim (eqb_tells q p) [
        | inl same ↦ subst (λ k. (get tables k ≡ get S.tables k) ⊎ (AreSpread k W ⊎ AreIdle S k)) (sym same.1)
            how
        | inr other ↦ inl (get-insert-other S.tables p new q other.1)
      ]));
      last = no_last_kept V W kept held.last;
    }

pub received_is_held : (S : State) (p : ℕ) (table new : Table) (V W : WaitMap) (so : Bool) → get S.tables p ≡ Some table → p < 2 ^ 32 → (so ≡ false → new ≡ table)
    → HasEach (λ k. spread_if (so && is_own p k)) V W → AreHeld (looked_at S) V → AreHeld (looked_at (record S { tables = insert S.tables p new })) W
received_is_held S p table new V W true there few same each held =
    let kept : AreKept V W = spread_keeps (is_own p) V W each in
    table_is_held S p new V W held kept (inr (inl (own_spread p V W few each (no_last_kept V W kept held.last))))
received_is_held S p table new V W false there few same each held =
    table_is_held S p new V W held (spread_keeps (λ k. false) V W each) (inl (get-insert-same S.tables p new ∙ ap Some (same refl) ∙ sym there))

-- ---- one number of a process

waits_on_it : (p n t : ℕ) (own : Option ProcessState) (call : Call) (since : ℕ) (until : Option ℕ) (stage : Stage) → p < 2 ^ 32 → t < 2 ^ 32 → key p t ≢ 2 ^ 64 - 1
    → thread_in (option_map (λ (o : ProcessState). o.threads) own) t ≡ Some (Waits call since until stage) → looks_for n call ≡ true
    → is_concerned_in p n own (key p t) ≡ true
waits_on_it p n t None call since until stage few small apart waits names = absurd (none_is_no (Waits call since until stage) waits)
waits_on_it p n t (Some own) call since until stage few small apart waits names =
    concerned_own p n t own.threads few small apart ∙ ap (waits_on n) waits ∙ names

-- all other numbers stand for what they stood for, and those of the process's threads are spread that wait on this one
module _ (S : State) (p : ℕ) (old new : Table) (number : Option ℕ) (V W : WaitMap) (there : get S.tables p ≡ Some old) (few : p < 2 ^ 32)
    (others : (n : ℕ) → (number ≡ Some n → ⊥) → get new n ≡ get old n)
    (each : HasEach (λ k. spread_if (is_concerned_by p number (get S.processes p) k)) V W) (held : AreHeld (looked_at S) V) where
  kept_by_number : AreKept V W
  kept_by_number = spread_keeps (λ k. is_concerned_by p number (get S.processes p) k) V W each

  last_by_number : HasNoLast W
  last_by_number = no_last_kept V W kept_by_number held.last

  not_named : (t n : ℕ) (w : Waiting) (call : Call) (since : ℕ) (until : Option ℕ) (stage : Stage) → t < 2 ^ 32 → get W (key p t) ≡ Some w
      → (w.everywhere && w.left) ≡ false → thread_of S p t ≡ Some (Waits call since until stage) → looks_for n call ≡ true → number ≡ Some n → ⊥
  not_named t n w call since until stage small at unless waits names is =
      let apart : key p t ≢ 2 ^ 64 - 1 = λ same. none_is_no w (sym last_by_number ∙ ap (get W) (sym same) ∙ at) in
      let so : is_concerned_by p number (get S.processes p) (key p t) ≡ true =
      ap (λ o. is_concerned_by p o (get S.processes p) (key p t)) is ∙ waits_on_it p n t (get S.processes p) call since until stage few small apart waits names in
      not_true (sym unless ∙ spread_has (get V (key p t)) w (sym (ap (λ b. spread_if b (get V (key p t))) so) ∙ sym (each (key p t)) ∙ at))

  pub number_is_held : AreHeld (looked_at (record S { tables = insert S.tables p new })) W
  number_is_held =
      let tables = insert S.tables p new in
      record {
        watched = tables_are_watched S tables V W held.watched kept_by_number (λ q t w call since until stage small at unless waits. elim (eqb_tells q p) [
          | inr other ↦ all_stay (get-insert-other S.tables p new q other.1)
          | inl same ↦ subst (λ k. RowsStay (get S.tables k) (get tables k) call) (sym same.1)
              (named_stay old new there (get-insert-same S.tables p new) (λ n names.
              others n (not_named t n w call since until stage small (subst (λ k. get W (key k t) ≡ Some w) same.1 at) unless
              (subst (λ k. thread_of S k t ≡ Some (Waits call since until stage)) same.1 waits) names)))
        ]);
        last = last_by_number;
      }

-- ---- the flags of an open

-- more are left to be tested
pub more_is_held : (S : State) (V W : WaitMap) → AreKept V W → AreHeld (looked_at S) V → AreHeld (looked_at S) W
more_is_held S V W kept held = record {
  watched = kept_is_watched S V W held.watched kept;
  last = no_last_kept V W kept held.last;
}

left_so : (w : Waiting) (b : Bool) → b ≡ true → (w.left ≡ false → b ≡ false) → w.left ≡ true
left_so w b so leads =
    elim w.left as (λ l. w.left ≡ l → l ≡ true) [ true ↦ λ _. refl | false ↦ λ done. absurd (not_true (sym (leads done) ∙ so)) ] refl

same_bare : (kind : OpenKind) (flags : ℕ) → bare (Some (with_flags kind flags)) ≡ bare (Some kind)
same_bare (File node offset old) flags = refl
same_bare (Directory node old) flags = refl
same_bare (End reads writes old form) flags = refl
same_bare (Terminal which old) flags = refl
same_bare (Process q object) flags = refl

module _ (S : State) (o : ℕ) (kind : OpenKind) (flags : ℕ) (V : WaitMap) (there : get S.opens o ≡ Some kind) (held : AreHeld (looked_at S) V) where
  abbrev those_at : WaitMap
  those_at = where_so (stands_at_end kind) (λ _ w. touched w) V

  abbrev flagged : FinMap nat_cmp OpenKind
  flagged = insert S.opens o (with_flags kind flags)

  at_open : (id : ℕ) (P : Option OpenKind → Option OpenKind → Type 0) → P (Some (with_flags kind flags)) (Some kind) → P (get S.opens id) (get S.opens id)
      → P (get flagged id) (get S.opens id)
  at_open id P here other =
      elim (eqb_tells id o) [
        | inl same ↦ subst (λ k. P (get flagged k) (get S.opens k)) (sym same.1)
            (subst (λ x. P x (get S.opens o)) (sym (get-insert-same S.opens o (with_flags kind flags))) (subst (P (Some (with_flags kind flags))) (sym there) here))
        | inr apart ↦ subst (λ x. P x (get S.opens id)) (sym (get-insert-other S.opens o (with_flags kind flags) id apart.1)) other
      ]

  at_channel : (c : ℕ) → (is_reader c (Some kind) || is_writer c (Some kind)) ≡ true → AreLeftAt (spot.Channel c) those_at
  at_channel c of = record {
    left = λ k w at stands. left_so w (stands_at_end kind w) (stands_there c w stands kind of) (not_touched (stands_at_end kind) V k w at);
  }

  pub flags_are_held : AreHeld (looked_at (record S { opens = flagged })) those_at
  flags_are_held =
      let kept : AreKept V those_at = touch_keeps (stands_at_end kind) V in
      record {
        watched = opens_are_watched S flagged V those_at held.watched kept
            (λ p n d row. at_open d.id (λ new old. bare new ≡ bare old) (same_bare kind flags) refl)
            (λ p n c d row. at_open d.id (λ new old. (is_reader c old || is_writer c old) ≡ true → (never_waits new ≡ never_waits old) ⊎ AreLeftAt (spot.Channel c) those_at)
            (λ of. inr (at_channel c of)) (λ _. inl refl));
        last = no_last_kept V those_at kept held.last;
      }

-- ---- a change of a process's descriptors

either_other : (p o fd n : ℕ) (kind : OpenKind) (table : Table) (d : Descriptor) (a b : Bool) → (Some fd ≡ Some n → ⊥)
    → get (table_after table (cond a [] (set_open o kind ∷ []) ++ cond b [] (set_table p (insert table fd d) ∷ []))) n ≡ get table n
either_other p o fd n kind table d true true apart = refl
either_other p o fd n kind table d true false apart = get-insert-other table fd d n (λ same. apart (ap Some (sym same)))
either_other p o fd n kind table d false true apart = refl
either_other p o fd n kind table d false false apart = get-insert-other table fd d n (λ same. apart (ap Some (sym same)))

set_other : (p fd n : ℕ) (table : Table) (stat : FdStat) (flags : ℕ) (d : Descriptor) (o : Option OpenKind) → (Some fd ≡ Some n → ⊥)
    → get (table_after table (stat_set p table fd stat flags d o).updates) n ≡ get table n
set_other p fd n table stat flags d None apart = refl
set_other p fd n table stat flags d (Some kind) apart =
    either_other p d.id fd n (with_flags kind stat.flags) table (lowered_to d stat) (bit_and flags 1 == 0) (bit_and flags 2 == 0) apart

put_other : (p fd n : ℕ) (opens : FinMap nat_cmp OpenKind) (table : Table) (stat : FdStat) (flags : ℕ) (o : Option Descriptor) → (Some fd ≡ Some n → ⊥)
    → get (table_after table (stat_put_at p opens table fd stat flags o).updates) n ≡ get table n
put_other p fd n opens table stat flags None apart = refl
put_other p fd n opens table stat flags (Some d) apart = set_other p fd n table stat flags d (get opens d.id) apart

dup_other : (p n : ℕ) (table : Table) (d : Descriptor) (free : Option ℕ) → (free ≡ Some n → ⊥) → get (table_after table (dup_at p table d free).updates) n ≡ get table n
dup_other p n table d None apart = refl
dup_other p n table d (Some number) apart = get-insert-other table number d n (λ same. apart (ap Some (sym same)))

dups_other : (p n : ℕ) (table : Table) (o : Option Descriptor) → (lowest_free table ≡ Some n → ⊥) → get (table_after table (dup_of p table o).updates) n ≡ get table n
dups_other p n table None apart = refl
dups_other p n table (Some d) apart = dup_other p n table d (lowest_free table) apart

replaced_other : (p to n : ℕ) (table : Table) (o : Option Descriptor) → (Some to ≡ Some n → ⊥) → get (table_after table (replaced_by p table to o).updates) n ≡ get table n
replaced_other p to n table None apart = refl
replaced_other p to n table (Some d) apart = get-insert-other table to d n (λ same. apart (ap Some (sym same)))

change_other : (p : ℕ) (opens : FinMap nat_cmp OpenKind) (table : Table) (change : DescriptorChange) (n : ℕ) → (number_changed (Some table) change ≡ Some n → ⊥)
    → get (table_after table (change_outcome p opens table change).updates) n ≡ get table n
change_other p opens table (Close fd) n apart = get-remove-other table fd n (λ same. apart (ap Some (sym same)))
change_other p opens table (Dup fd) n apart = dups_other p n table (get table fd) apart
change_other p opens table (Replace from to) n apart = replaced_other p to n table (get table from) apart
change_other p opens table (StatPut fd stat flags) n apart = put_other p fd n opens table stat flags (get table fd) apart

dup_opens : (p : ℕ) (opens : FinMap nat_cmp OpenKind) (table : Table) (d : Descriptor) (free : Option ℕ) → opens_after opens (dup_at p table d free).updates ≡ opens
dup_opens p opens table d None = refl
dup_opens p opens table d (Some number) = refl

dups_opens : (p : ℕ) (opens : FinMap nat_cmp OpenKind) (table : Table) (o : Option Descriptor) → opens_after opens (dup_of p table o).updates ≡ opens
dups_opens p opens table None = refl
dups_opens p opens table (Some d) = dup_opens p opens table d (lowest_free table)

replaced_opens : (p to : ℕ) (opens : FinMap nat_cmp OpenKind) (table : Table) (o : Option Descriptor) → opens_after opens (replaced_by p table to o).updates ≡ opens
replaced_opens p to opens table None = refl
replaced_opens p to opens table (Some d) = refl

module _ (S : State) (p : ℕ) (table : Table) (V : WaitMap) (held : AreHeld (looked_at S) V) where
  abbrev With : List Update → WaitMap → Type 0
  With us W = AreHeld (looked_at (record S { opens = opens_after S.opens us })) W

  same_opens : (us : List Update) (W : WaitMap) → opens_after S.opens us ≡ S.opens → W ≡ V → With us W
  same_opens us W stay same =
      subst (λ opens. AreHeld (looked_at (record S { opens = opens })) W) (sym stay) (subst (AreHeld (looked_at S)) (sym same) held)

  either_held : (o : ℕ) (kind : OpenKind) (flags : ℕ) (new : Table) (a b : Bool) → get S.opens o ≡ Some kind
      → With (cond a [] (set_open o (with_flags kind flags) ∷ []) ++ cond b [] (set_table p new ∷ [])) (where_so (stands_at_end kind) (λ _ w. touched w) V)
  either_held o kind flags new true true there = more_is_held S V _ (touch_keeps (stands_at_end kind) V) held
  either_held o kind flags new true false there = more_is_held S V _ (touch_keeps (stands_at_end kind) V) held
  either_held o kind flags new false true there = flags_are_held S o kind flags V there held
  either_held o kind flags new false false there = flags_are_held S o kind flags V there held

  set_held : (fd : ℕ) (stat : FdStat) (flags : ℕ) (d : Descriptor) (o : Option OpenKind) (W : WaitMap) → get S.opens d.id ≡ o
      → W ≡ left_at_open (option_map (λ (found : Descriptor × OpenKind). found.1) (option_map (λ kind. (d, kind)) o)) V → With (stat_set p table fd stat flags d o).updates W
  set_held fd stat flags d None W there same = same_opens [] W refl same
  set_held fd stat flags d (Some kind) W there same =
      subst (With (stat_set p table fd stat flags d (Some kind)).updates) (sym same)
      (either_held d.id kind stat.flags (insert table fd (lowered_to d stat)) (bit_and flags 1 == 0) (bit_and flags 2 == 0) there)

  put_held : (fd : ℕ) (stat : FdStat) (flags : ℕ) (o : Option Descriptor) (W : WaitMap)
      → W ≡ left_at_open (option_map (λ (found : Descriptor × OpenKind). found.1) (open_by S.opens o)) V → With (stat_put_at p S.opens table fd stat flags o).updates W
  put_held fd stat flags None W same = same_opens [] W refl same
  put_held fd stat flags (Some d) W same = set_held fd stat flags d (get S.opens d.id) W refl same

  opens_are_held : (change : DescriptorChange) (W : WaitMap) → W ≡ left_at_open (open_changed S.opens (Some table) change) V
      → With (change_outcome p S.opens table change).updates W
  opens_are_held (Close fd) W same = same_opens (change_outcome p S.opens table (Close fd)).updates W refl same
  opens_are_held (Dup fd) W same = same_opens (dup_of p table (get table fd)).updates W (dups_opens p S.opens table (get table fd)) same
  opens_are_held (Replace from to) W same = same_opens (replaced_by p table to (get table from)).updates W (replaced_opens p to S.opens table (get table from)) same
  opens_are_held (StatPut fd stat flags) W same = put_held fd stat flags (get table fd) W same

pub change_is_held : (S : State) (p : ℕ) (table : Table) (change : DescriptorChange) (V W : WaitMap) → get S.tables p ≡ Some table → p < 2 ^ 32
    → AreLeftBy p (get S.processes p) (number_changed (Some table) change) (open_changed S.opens (Some table) change) V W → AreHeld (looked_at S) V
    → AreHeld (looked_at (record S {
      tables = insert S.tables p (table_after table (change_outcome p S.opens table change).updates);
      opens = opens_after S.opens (change_outcome p S.opens table change).updates;
    })) W
change_is_held S p table change V W there few left held =
    let new = table_after table (change_outcome p S.opens table change).updates in
    opens_are_held (record S { tables = insert S.tables p new }) p table left.0
    (number_is_held S p table new (number_changed (Some table) change) V left.0 there few (change_other p S.opens table change) left.1 held) change W left.2
