-- What stands behind the lock after a proc_fork.
--     told_there, unborn_there      the child that the answer tells, and that there is none where the kernel makes none
--     fork_held      the processes that the keeper holds then
--     fork_came      what came of the call
use Rattle.std.proofs.Common.{◌≡◌, ℕ, Bool, false, List, [], ◌∷◌, ◌++◌, Contains, Option, None, Some, IsSome, refl, sym, ap, subst, ◌∙◌}
use Rattle.std.specs.FinMap.{get}
use Rattle.std.specs.Prelude.{IfSome, IsNone}
use Rattle.std.specs.Option.{option_zip}
use Rattle.abi_types.specs.declared.call.Call.{Call}
use Rattle.abi_types.specs.declared.call.Call.TheVariants.{ProcFork}
use Rattle.abi_types.specs.declared.constants.Constants.{Constants}
use Rattle.abi_types.specs.declared.reply.Answer.{Answer}
use Rattle.abi_types.specs.declared.status.Status.TheVariants.{Live}
use Rattle.abi_base.specs.Registers.{Registers}
use Rattle.guest_memory.specs.Page.{Pages}
use Rattle.call_codec.specs.Arguments.{args_of}
use Rattle.call_codec.proofs.ProcessLaws.{fork_turns}
use Rattle.run_types.specs.declared.history.Act.{Act}
use Rattle.run_types.specs.declared.history.Act.TheVariants as act
use Rattle.run_types.specs.declared.history.Entry.{Entry}
use Rattle.run_types.specs.declared.launch.Launch.{Launch}
use Rattle.kernel_core.specs.Waiting.{caller}
use Rattle.kernel_model.specs.State.{State}
use Rattle.kernel_model.specs.Step.{IsStep}
use Rattle.kernel_model.specs.Threads.{child_told, ends_caller, ends_others, makes_thread}
use Rattle.guest_process.specs.Children.{IsFork}
use Rattle.run_model.specs.Legal.{Fits, Legal}
use Rattle.run_model.specs.Own.{born, one_of, IsLiveIn}
use Rattle.run_model.specs.OwnLaws.{HasOneThread}
use Rattle.run_model.specs.World.{World, Guest, world, answered_guest, child_guest, guest_of, registers_of}
use Rattle.run_model.proofs.Births.{one_contains}
use Rattle.run_model.proofs.Histories.{guest_turned, legal_more, world_more}
use Rattle.run_model.proofs.Own.{child_did_nothing, child_has_thread}
use Rattle.run_model.proofs.Worlds.{born_guest}
use Rattle.shared_history.specs.Entries.{answered_call, head_of}
use Rattle.shared_history.specs.declared.entries.EntryHead.{EntryHead}
use Rattle.shared_history.specs.declared.kept.Kept.{Kept}
use Rattle.kernel_cell.specs.Acting.{GoesOn, HasForked, IsChild, IsForkedOn, KeepsBut}
use Rattle.kernel_cell.specs.Asking.{AsksCall}
use Rattle.kernel_cell.specs.Handing.{held_after}
use Rattle.kernel_cell.specs.Results.{Threads}
use Rattle.kernel_cell.specs.Recorded.{IsRecorded}
use Rattle.kernel_cell.specs.declared.results.Came.TheVariants as came
use Rattle.kernel_cell.proofs.EntryEffects.{call_encoded, fork_lives, fork_replies}
use Rattle.kernel_cell.proofs.RecordedSteps.{call_entered, call_fits, entered_is, goes_call, keeps_call, step_there, valid_there}

-- a proc_fork neither makes a thread nor ends one
fork_plain : (call : Call) (given : Answer) → IsFork call
    → (ends_caller call given ≡ false) × (makes_thread call given ≡ false) × (ends_others call given ≡ false)
fork_plain (ProcFork left) given fork = (refl, refl, refl)
fork_plain _ given fork = absurd fork

-- one that registers encode is asked for with the turns that are left
fork_asks : (call : Call) → IsFork call → (m : Pages) (r : Registers) (left : ℕ) → call ≡ args_of m r left → call ≡ ProcFork left
fork_asks (ProcFork turns) fork m r left encoded = ap ProcFork (fork_turns m r left turns (sym encoded))
fork_asks _ fork m r left encoded = absurd fork

module _ (launch : Launch) (log : List Entry) (p t : ℕ) (turns : List ℕ) (call : Call) (guest : Guest) (a : AsksCall (world launch log) p t turns guest call)
    (fork : IsFork call) where
  fork_is : call ≡ ProcFork guest.left
  fork_is = fork_asks call fork guest.memory (registers_of guest t) guest.left (call_encoded (world launch log) p t turns guest call a)

  pub told_there : (child : Option ℕ) (given : Answer) → ((left : ℕ) → child ≡ child_told (ProcFork left) given) → child ≡ child_told call given
  told_there child given told = told guest.left ∙ ap (λ (x : Call). child_told x given) (sym fork_is)

  pub unborn_there : (constants : Constants) (S : State) (begun : Option Guest) (given : Answer) (T : State)
      → (IsNone begun → (c : Constants) (g : Answer) (U : State) → IsStep c S (caller S p t) (ProcFork guest.left) g U
      → child_told (ProcFork guest.left) g ≡ None)
      → IsStep constants S (caller S p t) call given T → IsNone begun → child_told call given ≡ None
  unborn_there constants S begun given T never step none =
      ap (λ (x : Call). child_told x given) fork_is
      ∙ never none constants given T (subst (λ (x : Call). IsStep constants S (caller S p t) x given T) fork_is step)

-- the keeper holds the child too, if there is one
pub fork_held : (call : Call) (given : Answer) (p : ℕ) (child : Option ℕ) (begun : Option Guest) → child ≡ child_told call given
    → (IsNone begun → child_told call given ≡ None) → one_of (child_told call given) ++ p ∷ [] ≡ held_after (came.Done (option_zip child begun)) (p ∷ [])
fork_held call given p None begun told none = ap (λ o. one_of o ++ p ∷ []) (sym told)
fork_held call given p (Some child) (Some begun) told none = ap (λ o. one_of o ++ p ∷ []) (sym told)
fork_held call given p (Some child) None told none =
    let wrong : Some child ≡ None = told ∙ none refl in
    absurd (cc)

module _ {launch : Launch} {all : Bool} {log : List Entry} {before : State} {constants : Constants} {kept : Kept}
    (r : IsRecorded launch all log before constants kept) {p t : ℕ} {turns : List ℕ} {call : Call} {guest : Guest}
    (a : AsksCall (world launch log) p t turns guest call) (fork : IsFork call) (given : Answer) (kernel : State) (head : EntryHead)
    (head_is : head ≡ head_of kernel.clock p t turns) (step : IsStep constants before (caller before p t) call given kernel)
    (live : IsLiveIn (world launch log) p) (after : List Entry) (last : after ≡ log ++ answered_call head call None given ∷ []) where
  abbrev w : World
  w = world launch log

  abbrev e : Entry
  e = answered_call (head_of kernel.clock p t turns) call None given

  fits : Fits w e
  fits = call_fits r a given kernel (head_of kernel.clock p t turns) refl step live

  legal : Legal launch (log ++ e ∷ [])
  legal = legal_more launch log e r.legal fits

  last_here : after ≡ log ++ e ∷ []
  last_here = last ∙ ap (λ (h : EntryHead). log ++ answered_call h call None given ∷ []) head_is

  -- the child that was made
  is_child : (child : ℕ) (begun : Guest) → child_told call given ≡ Some child → begun ≡ child_guest guest t → IsChild launch after t child begun
  is_child child begun told begun_is =
      let born_there : Contains (born e.act) child = one_contains (child_told call given) child told in
      let more = world_more launch log e in
      let valid = valid_there r in
      let one = subst (λ (v : World). HasOneThread v child t) (sym more) (child_has_thread w e child valid fits born_there) in
      subst (λ (h : List Entry). IsChild launch h t child begun) (sym last_here) (record {
        seen = record { legal = legal; made = subst IsSome (sym one.live) refl };
        none = child_did_nothing launch log e child r.bounded.begins legal born_there;
        goes_on = record {
          live = one.live;
          runnable = one.runs;
          guest_is = begun_is ∙ ap (λ (g : Guest). child_guest g t) (a.guest_is ∙ sym (guest_turned w p turns)) ∙ sym (born_guest w e child born_there)
              ∙ ap (λ (v : World). guest_of v child) (sym more);
        };
        alone = one.alone;
      })

  module _ (guest' : Guest) (is : guest' ≡ answered_guest p guest t call given) where
    there : IsStep launch.constants w.state (caller w.state p t) call given kernel
    there = step_there r a given kernel head head_is step live

    on : get kernel.statuses p ≡ Some Live
    on = fork_lives launch.constants w.state (caller w.state p t) call given kernel fork (valid_there r) there live

    plain : (ends_caller call given ≡ false) × (makes_thread call given ≡ false) × (ends_others call given ≡ false)
    plain = fork_plain call given fork

    goes : GoesOn launch after p t guest'
    goes =
        goes_call r a given kernel head head_is step live after last guest' is on
        (fork_replies launch.constants w.state (caller w.state p t) call given kernel fork there) plain.0

    keeps : KeepsBut launch log after p t
    keeps = keeps_call r a given kernel head head_is step live after last guest' is on plain.1 plain.2

    forked_by : (child : Option ℕ) (begun : Option Guest) → child ≡ child_told call given → IfSome begun (λ g. g ≡ child_guest guest t)
        → (IsNone begun → child_told call given ≡ None)
        → HasForked launch log p t after guest' (act.Call call given) (option_zip child begun)
    forked_by None begun told some none = (goes, keeps, sym told)
    forked_by (Some child) (Some begun) told some none = (goes, keeps, sym told, is_child child begun (sym told) some)
    forked_by (Some child) None told some none =
        let wrong : Some child ≡ None = told ∙ none refl in
        absurd (cc)

    pub fork_came : (child : Option ℕ) (begun : Option Guest) (threads : Threads) (none : List ℕ) → child ≡ child_told call given
        → IfSome begun (λ g. g ≡ child_guest guest t) → (IsNone begun → child_told call given ≡ None) → none ≡ []
        → IsForkedOn launch log p t (record { guest = guest; threads = threads; turns = turns }) call (record { guest = guest'; threads = threads; turns = none }) after
        (came.Done (option_zip child begun))
    fork_came child begun threads none told some never empty = record {
      came = (
        call_entered r a given kernel head head_is step live after last,
        subst (λ (x : Act). HasForked launch log p t after guest' x (option_zip child begun)) (sym (entered_is r a given kernel head head_is step live after last))
            (forked_by child begun told some never),
      );
      kept = (empty, refl);
    }
