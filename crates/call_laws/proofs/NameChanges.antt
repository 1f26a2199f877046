-- What calls on names come to that are done, and the trees that they leave.
use Rattle.std.proofs.Common.{◌≡◌, ◌≢◌, ◌⊎◌, inl, inr, ℕ, ◌+◌, ◌==◌, Bool, true, false, cond, List, ◌++◌, Ok, Option, Some, None, refl, sym, ap, subst, ◌∙◌, arith}
use Rattle.std.proofs.lemmas.Bool.Decides.{eqb_tells}
use Rattle.std.specs.FinMap.{get}
use Rattle.std.specs.List.{list_any}
use Rattle.std.specs.Prelude.{bit_and}
use Rattle.abi_base.specs.declared.errno.Errno.{Errno}
use Rattle.abi_base.specs.declared.errno.Errno.TheVariants.{Again, Inval, Noent}
use Rattle.abi_types.specs.declared.call.Call.{Call}
use Rattle.abi_types.specs.declared.call.Lookup.{Lookup}
use Rattle.abi_types.specs.declared.constants.Constants.{Constants}
use Rattle.abi_types.specs.declared.open_kind.OpenKind.{OpenKind}
use Rattle.abi_types.specs.declared.open_kind.OpenKind.TheVariants.{Directory}
use Rattle.abi_types.specs.declared.reply.Answer.TheVariants as answer
use Rattle.abi_types.specs.declared.descriptor.Denial.TheVariants.{Outside}
use Rattle.abi_types.specs.declared.reply.Reply.{Reply}
use Rattle.abi_types.specs.declared.who.Who.{Who}
use Rattle.path_lookup.specs.Walk.{walk_of}
use Rattle.path_lookup.specs.declared.ends.End.TheVariants as end
use Rattle.path_lookup.specs.declared.ends.WalkMode.{WalkMode}
use Rattle.path_lookup.specs.declared.ends.WalkMode.TheVariants.{Follow, NoFollow}
use Rattle.tree_model.specs.Changes.{is_absent}
use Rattle.tree_model.specs.Finds.{finds}
use Rattle.tree_model.specs.declared.fault.TreeFault.{TreeFault}
use Rattle.kernel_model.specs.Families.ClockCalls.{real_time}
use Rattle.kernel_model.specs.Families.FileMeaning.{open_of}
use Rattle.kernel_model.specs.Families.FilePaths.{lookup_mode, path_error, walked, walked_unless}
use Rattle.kernel_model.specs.Families.LastNames.{StandsIn, IsNone, is_dots, last_name, last_of, name_at}
use Rattle.kernel_model.specs.Families.NameMeaning.{NameMeaning, NameOutcome, Refuses, LeadsOut, Changes, at_name, outcome_of, unless_fault}
use Rattle.kernel_model.specs.Families.NameMoving.{at_found}
use Rattle.kernel_model.specs.Families.NameRemoving.{unless_lost}
use Rattle.kernel_model.specs.Families.Numbers.{can_number, next_object, process_updates}
use Rattle.kernel_model.specs.Families.TreeUpdates.{Change, change_updates}
use Rattle.kernel_model.specs.Outcome.{Outcome, replies}
use Rattle.kernel_model.specs.OwnChanges.{is_success}
use Rattle.kernel_model.specs.Reply.{denied, refused, success}
use Rattle.kernel_model.specs.State.{State, Table, Tree, put_all, tree_of}
use Rattle.kernel_model.specs.Step.{outcome, step_answer, tick, unreleased}
use Rattle.kernel_model.specs.Valid.{IsValid}
use Rattle.kernel_model.specs.View.{whole}
use Rattle.kernel_model.specs.Waits.{waiting, waits_if}
use Rattle.kernel_model.proofs.NameMeanings.{IsBehind, IsGood, IsPlainly, NamesWell}
use Rattle.kernel_model.proofs.ObjectNumbers.{next_is_absent}
use Rattle.kernel_model.proofs.Refusals.{same_reply}
use Rattle.kernel_model.proofs.Tests.{not_true}
use Rattle.kernel_model.proofs.TreeUpdates.{put_counted}
use Rattle.kernel_model.proofs.Valids.{tick_valid}
use Rattle.call_laws.proofs.GivenNumbers.{one_fails}
use Rattle.call_laws.specs.NameLaws.{EndsAt, IsOfDirectory, LeadsTo}

-- ---- what changes the tree isn't refused

abbrev IsChange : NameOutcome → Type 0
IsChange (Refuses errno) = ⊥
IsChange (LeadsOut component) = ⊥
IsChange (Changes c) = Unit {0}

abbrev IsRefused : NameOutcome → Type 0
IsRefused (Refuses errno) = Unit {0}
IsRefused (LeadsOut component) = ⊥
IsRefused (Changes c) = ⊥

-- what is done, by this change
abbrev pub Comes : NameOutcome → Change → Type 0
Comes comes c = comes ≡ Changes c

pub none_changes : (errno : Errno) (c : Change) → Comes (Refuses errno) c → ⊥
none_changes errno c is = subst IsChange (sym is) tt

no_lead : (component : ℕ) (c : Change) → Comes (LeadsOut component) c → ⊥
no_lead component c is = subst IsChange (sym is) tt

abbrev change_in : Change → NameOutcome → Change
change_in c (Refuses errno) = c
change_in c (LeadsOut component) = c
change_in c (Changes d) = d

pub same_change : (c d : Change) → Comes (Changes d) c → d ≡ c
same_change c d is = ap (change_in c) is

pub fault_none : (error : TreeFault → Errno) (o : Option TreeFault) (comes : NameOutcome) (c : Change) → Comes (unless_fault error o comes) c
    → (o ≡ None) × Comes comes c
fault_none error None comes c is = (refl, is)
fault_none error (Some fault) comes c is = absurd (none_changes (error fault) c is)

pub lost_none : (t : Tree) (o : Option ℕ) (comes : NameOutcome) (c : Change) → Comes (unless_lost t o comes) c → Comes comes c
lost_none t None comes c is = is
lost_none t (Some n) comes c is =
    elim (is_absent t n) as (λ b. Comes (cond b (Refuses Noent) comes) c → Comes comes c) [ true ↦ λ e. absurd (none_changes Noent c e) | false ↦ λ e. e ] is

-- ---- paths

module _ (S : State) (table : Table) where
  pub opens_directory : (fd start : ℕ) (is : IsOfDirectory S table fd start) → open_of (whole (tick S)) (get table fd) ≡ Some (Directory start is.flags)
  opens_directory fd start is = ap (open_of (whole (tick S))) is.there ∙ is.opened

  by_bytes : (goes : ℕ → List ℕ → NameOutcome) (path : List ℕ) (d from len : ℕ) (c : Change) (o : Option Errno)
      → Comes (at_name goes (last_of path (walked_unless o (Ok (end.Last d from len))))) c → Comes (goes d (name_at path from len)) c
  by_bytes goes path d from len c (Some errno) is = absurd (none_changes errno c is)
  by_bytes goes path d from len c None is =
      elim (is_dots (name_at path from len)) as (λ b. Comes (at_name goes (cond b (IsNone Inval) (StandsIn d (name_at path from len)))) c
      → Comes (goes d (name_at path from len)) c) [ true ↦ λ e. absurd (none_changes Inval c e) | false ↦ λ e. e ] is

  -- what is done with the last name of a path is done at the place where that ends
  pub at_end : (goes : ℕ → List ℕ → NameOutcome) (fd : ℕ) (path : List ℕ) (d : ℕ) (name : List ℕ) (c : Change) → EndsAt S table fd path d name
      → Comes (at_name goes (last_name (tree_of S) path (open_of (whole (tick S)) (get table fd)))) c → Comes (goes d name) c
  at_end goes fd path d name c at is =
      subst (λ n. Comes (goes d n) c) (sym at.last)
      (by_bytes goes path d at.from at.len c (path_error path)
      (sym (ap (λ kind. at_name goes (last_name (tree_of S) path kind)) (opens_directory fd at.start at.begins)
      ∙ ap (λ w. at_name goes (last_of path (walked_unless (path_error path) w))) at.ends) ∙ is))

  found_bytes : (goes : ℕ → NameOutcome) (n : ℕ) (c : Change) (o : Option Errno) → Comes (at_found goes (walked_unless o (Ok (end.Found n)))) c → Comes (goes n) c
  found_bytes goes n c (Some errno) is = absurd (none_changes errno c is)
  found_bytes goes n c None is = is

  pub mode_is : (flags : ℕ) (mode : WalkMode) → ((bit_and flags 1 ≡ 0) × (mode ≡ NoFollow)) ⊎ ((bit_and flags 1 ≢ 0) × (mode ≡ Follow)) → lookup_mode flags ≡ mode
  mode_is flags mode (inl plain) = ap (λ n. cond (n == 0) NoFollow Follow) plain.0 ∙ sym plain.1
  mode_is flags mode (inr follows) =
      elim (eqb_tells (bit_and flags 1) 0) [
        | inl is ↦ absurd (follows.0 is.1)
        | inr other ↦ ap (λ b. cond b NoFollow Follow) other.0 ∙ sym follows.1
      ]

  -- and with the node where a path leads it is done with that
  pub at_node : (goes : ℕ → NameOutcome) (lookup : Lookup) (path : List ℕ) (n : ℕ) (c : Change) → LeadsTo S table lookup path n
      → Comes (at_found goes (walked (tree_of S) (lookup_mode lookup.flags) path (open_of (whole (tick S)) (get table lookup.fd)))) c → Comes (goes n) c
  at_node goes lookup path n c to is =
      found_bytes goes n c (path_error path)
      (sym (ap (λ kind. at_found goes (walked (tree_of S) (lookup_mode lookup.flags) path kind)) (opens_directory lookup.fd to.start to.begins)
      ∙ ap (λ mode. at_found goes (walked_unless (path_error path) (walk_of (finds (tree_of S)) mode to.start path))) (mode_is lookup.flags to.mode to.follows)
      ∙ ap (λ w. at_found goes (walked_unless (path_error path) w)) to.ends) ∙ is)

-- ---- the tree after it

-- a call that has a reply leaves what it sets
left_by : (constants : Constants) (S : State) (who : Who) (call : Call) → step_answer constants S who call ≡ answer.Reply (success 0 0)
    → unreleased constants S who call ≡ put_all (outcome constants S who call).updates (tick S)
left_by constants S who call done =
    ap (λ a. waits_if a who (waiting constants call who (S.clock + 1000)) (put_all (outcome constants S who call).updates (tick S))) done

no_lead_refuses : (errno : Errno) (component : ℕ) → Refuses errno ≡ LeadsOut component → ⊥
no_lead_refuses errno component is = subst IsRefused is tt

module _ (constants : Constants) (S : State) (who : Who) (call : Call) (m : NameMeaning) (well : NamesWell m) (few : list_any is_success m.errors ≡ false)
    (here there : Option OpenKind) (behind_here : IsBehind (tick S) here) (behind_there : IsBehind (tick S) there) (valid : IsValid S) where
  abbrev now : ℕ
  now = real_time constants (S.clock + 1000)

  abbrev new : ℕ
  new = next_object who.pid (get S.processes who.pid) 1

  abbrev pub comes : NameOutcome
  comes = m.effect now new (tree_of S) here there

  -- what is changed, and the tree that is left
  pub record IsChanged : Type 0 where
    pub change : Change
    pub is : Comes comes change
    pub leaves : tree_of (unreleased constants S who call) ≡ change.tree
    pub absent : m.new_nodes ≢ 0 → get S.nodes new ≡ None

  abbrev out : NameOutcome → Outcome
  out c = outcome_of who.pid (get S.processes who.pid) m.new_nodes c

  abbrev after : Outcome → State
  after o = put_all o.updates (tick S)

  fresh : can_number who.pid m.new_nodes (get S.processes who.pid) ≡ true → m.new_nodes ≢ 0 → get S.nodes new ≡ None
  fresh can some =
      (next_is_absent (tick S) who.pid 1 m.new_nodes (tick_valid S valid).nearly (omega arith) (omega (arith, some)) can).1

  not_done : (errno : Errno) → is_success errno ≡ false → answer.Reply (refused errno) ≡ answer.Reply (success 0 0) → ⊥
  not_done errno fails is = not_true (sym fails ∙ ap (λ (r : Reply). is_success r.errno) (same_reply (refused errno) (success 0 0) is))

  by_number : (c : Change) → Comes comes c → (b : Bool) → can_number who.pid m.new_nodes (get S.processes who.pid) ≡ b
      → (out (Changes c)).answer ≡ answer.Reply (success 0 0) → tree_of (after (out (Changes c))) ≡ tree_of (unreleased constants S who call) → IsChanged
  by_number c is false can done left =
      absurd (not_done Again refl (sym (ap (λ b. (cond b (record { answer = answer.Reply (success 0 0); updates = process_updates who.pid m.new_nodes (get S.processes who.pid) ++ change_updates c }) (replies (refused Again))).answer) can) ∙ done))
  by_number c is true can done left =
      let good : IsGood (tree_of S) new m.new_nodes (Changes c) =
      subst (IsGood (tree_of S) new m.new_nodes) is (well.good now new (tick S) here there behind_here behind_there (tick_valid S valid).nearly.tree (fresh can)) in
      record {
        change = c;
        is = is;
        leaves = sym left
            ∙ ap (λ b. tree_of (after (cond b (record { answer = answer.Reply (success 0 0); updates = process_updates who.pid m.new_nodes (get S.processes who.pid) ++ change_updates c }) (replies (refused Again))))) can
            ∙ ap tree_of (put_counted (tick S) who.pid m.new_nodes new m.new_nodes c can good (λ _. refl) (omega arith) (tick_valid S valid).nearly);
        absent = fresh can;
      }

  by_outside : (errno : Errno) (o : Option ℕ) → IsPlainly m.errors o (Refuses errno) → is_success errno ≡ false
  by_outside errno None among = one_fails errno m.errors few among
  by_outside errno (Some component) leads = absurd (no_lead_refuses errno component leads)

  by_comes : (c : NameOutcome) → comes ≡ c → (out c).answer ≡ answer.Reply (success 0 0) → tree_of (after (out c)) ≡ tree_of (unreleased constants S who call)
      → IsChanged
  by_comes (Refuses errno) is done left =
      absurd (not_done errno (by_outside errno (m.outside (tree_of S) here there)
      (subst (IsPlainly m.errors (m.outside (tree_of S) here there)) is (well.plain now new (tree_of S) here there))) done)
  by_comes (LeadsOut component) is done left = absurd (not_true (ap (λ (r : Reply). is_success r.errno) (same_reply (denied (Outside component)) (success 0 0) done)))
  by_comes (Changes c) is done left = by_number c is (can_number who.pid m.new_nodes (get S.processes who.pid)) refl done left

  pub changed : outcome constants S who call ≡ out comes → step_answer constants S who call ≡ answer.Reply (success 0 0) → IsChanged
  changed is done =
      by_comes comes refl (ap (λ (o : Outcome). o.answer) (sym is) ∙ done)
      (ap tree_of (sym (ap (λ (o : Outcome). put_all o.updates (tick S)) is)) ∙ sym (ap tree_of (left_by constants S who call done)))
