-- A history leaves each open of what it is of.
--     traced_stays      the open of a traced descriptor is of what it was of when it came
--     files_come_from_grants      the trace of a descriptor of a file, a directory or a standard stream begins with a grant
use Rattle.std.proofs.Common.{◌≡◌, ℕ, true, List, [], ◌∷◌, ◌++◌, Some, refl, sym, subst, ◌∙◌}
use Rattle.std.specs.FinMap.{get}
use Rattle.tree_model.specs.Grants.{MayBegin}
use Rattle.abi_types.specs.declared.descriptor.Descriptor.{Descriptor}
use Rattle.abi_types.specs.declared.open_kind.OpenKind.{OpenKind}
use Rattle.abi_types.specs.declared.open_kind.OpenKind.TheVariants.{File, Directory, End, Terminal, Process}
use Rattle.run_types.specs.declared.history.Entry.{Entry}
use Rattle.run_types.specs.declared.launch.Launch.{Launch}
use Rattle.kernel_model.specs.OpenLaws.{IsOfSame}
use Rattle.kernel_model.specs.State.{State}
use Rattle.kernel_model.proofs.OpenTargets.{of_same_itself, of_same_through}
use Rattle.kernel_model.proofs.Tests.{not_true, same_some}
use Rattle.run_model.specs.Legal.{Legal}
use Rattle.run_model.specs.World.{world}
use Rattle.run_model.proofs.Histories.{legal_front}
use Rattle.run_model.proofs.Worlds.{world_is_valid}
use Rattle.authority_laws.specs.Laws.{FilesComeFromGrants, TracedStays}
use Rattle.authority_laws.specs.Ledger.{is_new}
use Rattle.authority_laws.specs.Recorded.{ledger}
use Rattle.authority_laws.specs.Traces.{IsOfLaunch, IsSentEarlier, IsStillOf, IsWithin, Traced, first_open, of_grant, root}
use Rattle.authority_laws.specs.Traces as way
use Rattle.authority_laws.proofs.Histories.{ledger_reports}
use Rattle.authority_laws.proofs.OpenStays.{named_open, opens_stay}
use Rattle.authority_laws.proofs.Traces.{traced_is_within_root}

-- ---- what is traced

-- what is of the same as an open of the launch is one of the launch
launch_of_same : (a b : OpenKind) → IsOfSame a b → IsOfLaunch b → IsOfLaunch a
launch_of_same (File n offset flags) b same of = tt
launch_of_same (Directory n flags) b same of = tt
launch_of_same (Terminal which flags) b same of = tt
launch_of_same (End reads writes flags form) (End other_reads other_writes other_flags other_form) same of = of
launch_of_same (Process q object) (Process r other) same of = of
launch_of_same a b same of = absurd same

new_is_not_of_launch : (kind : OpenKind) → is_new kind ≡ true → IsOfLaunch kind → ⊥
new_is_not_of_launch (File n offset flags) new of = not_true new
new_is_not_of_launch (Directory n flags) new of = not_true new
new_is_not_of_launch (Terminal which flags) new of = not_true new
new_is_not_of_launch kind new of = absurd of

-- the entries in front of that of a send are a legal history
sent_early : (launch : Launch) (front : List Entry) (e : Entry) (c : ℕ) (d : Descriptor) (s : IsSentEarlier launch front c d)
    → Legal launch (front ++ e ∷ []) → Legal launch s.early
sent_early launch front e c d s legal =
    legal_front launch s.early (s.sender ∷ s.between) (subst (Legal launch) s.is (legal_front launch front (e ∷ []) legal))

module _ (launch : Launch) (begins : MayBegin launch.tree launch.grants) where
  -- the open of what is held is there
  pub held_open : (history : List Entry) (p n : ℕ) (d : Descriptor) → Legal launch history → (ledger launch history).held p n ≡ Some d
      → (kind : OpenKind) × (get (world launch history).state.opens d.id ≡ Some kind)
  held_open history p n d legal held =
      let at = (ledger_reports launch history begins legal).held p n d held in
      let S : State = (world launch history).state in
      named_open d (get S.opens d.id) ((world_is_valid launch history begins legal).nearly.named p n at.1 d at.2 at.3)

  -- an open that is still of something, and that a held descriptor names after one more entry, is still of it
  goes_on : (front : List Entry) (e : Entry) (p n : ℕ) (d : Descriptor) (first : OpenKind) → Legal launch (front ++ e ∷ [])
      → IsStillOf (world launch front).state d.id first → (ledger launch (front ++ e ∷ [])).held p n ≡ Some d
      → IsStillOf (world launch (front ++ e ∷ [])).state d.id first
  goes_on front e p n d first legal was held =
      let now = held_open (front ++ e ∷ []) p n d legal held in
      (now.0, now.1, of_same_through first was.0 now.0 was.2 (opens_stay launch front e [] begins legal d.id was.0 now.0 was.1 now.1))

  stays : (history : List Entry) (p n : ℕ) (d : Descriptor) (trace : Traced launch history p n d) → Legal launch history
      → IsStillOf (world launch history).state d.id (first_open launch history p n d trace)
  stays history p n d (way.granted k grant is) legal = (is.kind, is.opened, of_same_itself is.kind)
  stays history p n d (way.kept front e q m x before here) legal =
      goes_on front e q m x (first_open launch front q m x before) legal (stays front q m x before (legal_front launch front (e ∷ []) legal)) here
  stays history p n d (way.copied front e from to copies c before) legal =
      goes_on front e e.pid to c.d (first_open launch front e.pid from c.d before) legal
      (stays front e.pid from c.d before (legal_front launch front (e ∷ []) legal)) c.copy
  stays history p n d (way.lowered front e m stat lowers l before) legal =
      let first : OpenKind = first_open launch front e.pid m l.x before in
      goes_on front e e.pid m l.d first legal
      (subst (λ o. IsStillOf (world launch front).state o first) (sym l.id) (stays front e.pid m l.x before (legal_front launch front (e ∷ []) legal)))
      l.stands
  stays history p n d (way.opened front e fd to stat opens o before) legal = (o.kind, o.opened, of_same_itself o.kind)
  stays history p n d (way.inherited front e q m x child before here) legal =
      goes_on front e q m x (first_open launch front e.pid m x before) legal (stays front e.pid m x before (legal_front launch front (e ∷ []) legal)) here
  stays history p n d (way.listed front e k m x lists before here) legal =
      goes_on front e e.pid k x (first_open launch front e.pid m x before) legal (stays front e.pid m x before (legal_front launch front (e ∷ []) legal)) here
  stays history p n d (way.made front e m x makes is here) legal = (is.kind, is.opened, of_same_itself is.kind)
  stays history p n d (way.received front e m c x receives s before here) legal =
      let first : OpenKind = first_open launch s.early s.sender.pid s.m x before in
      let was = stays s.early s.sender.pid s.m x before (sent_early launch front e c x s legal) in
      let now = s.stays was.0 was.1 in
      goes_on front e e.pid m x first legal (now.0, now.1, of_same_through first was.0 now.0 was.2 now.2) here

  -- the trace of what was of a file, a directory or a standard stream when it came begins with a grant
  from_grant : (history : List Entry) (p n : ℕ) (d : Descriptor) (trace : Traced launch history p n d) → Legal launch history
      → IsOfLaunch (first_open launch history p n d trace) → (k : ℕ) × (root launch history p n d trace ≡ of_grant k)
  from_grant history p n d (way.granted k grant is) legal of = (k, refl)
  from_grant history p n d (way.kept front e q m x before here) legal of = from_grant front q m x before (legal_front launch front (e ∷ []) legal) of
  from_grant history p n d (way.copied front e from to copies c before) legal of =
      from_grant front e.pid from c.d before (legal_front launch front (e ∷ []) legal) of
  from_grant history p n d (way.lowered front e m stat lowers l before) legal of =
      from_grant front e.pid m l.x before (legal_front launch front (e ∷ []) legal) of
  from_grant history p n d (way.opened front e fd to stat opens o before) legal of =
      let earlier = legal_front launch front (e ∷ []) legal in
      let first : OpenKind = first_open launch front e.pid fd o.x before in
      let was = stays front e.pid fd o.x before earlier in
      let directory : OpenKind = Directory o.start o.flags in
      let same : was.0 ≡ directory = same_some was.0 directory (sym was.1 ∙ o.directory) in
      from_grant front e.pid fd o.x before earlier (launch_of_same first directory (subst (IsOfSame first) same was.2) tt)
  from_grant history p n d (way.inherited front e q m x child before here) legal of =
      from_grant front e.pid m x before (legal_front launch front (e ∷ []) legal) of
  from_grant history p n d (way.listed front e k m x lists before here) legal of =
      from_grant front e.pid m x before (legal_front launch front (e ∷ []) legal) of
  from_grant history p n d (way.made front e m x makes is here) legal of = absurd (new_is_not_of_launch is.kind is.new of)
  from_grant history p n d (way.received front e m c x receives s before here) legal of =
      from_grant s.early s.sender.pid s.m x before (sent_early launch front e c x s legal) of

pub files_come_from_grants : FilesComeFromGrants
files_come_from_grants launch history begins legal p n d trace kind there of =
    let first : OpenKind = first_open launch history p n d trace in
    let was = stays launch begins history p n d trace legal in
    let same : was.0 ≡ kind = same_some was.0 kind (sym was.1 ∙ there) in
    let grant = from_grant launch begins history p n d trace legal (launch_of_same first kind (subst (IsOfSame first) same was.2) of) in
    (grant.0, grant.1, subst (λ r. IsWithin launch r first d) grant.1 (traced_is_within_root launch history p n d trace))

pub traced_stays : TracedStays
traced_stays launch history begins legal p n d trace = stays launch begins history p n d trace legal
