-- What a process holds after an entry is no more than what it held before it, and what is passed on stays within a grant.
use Rattle.std.proofs.Common.{◌≡◌, ◌⊎◌, inl, inr, ℕ, zero, suc, ◌==◌, Bool, true, false, cond, List, ◌&&◌, ◌∷◌, ◌++◌, [], Option, Some, None, refl, sym, subst, ◌∙◌, arith}
use Rattle.std.proofs.lemmas.Bool.Decides.{eqb_tells}
use Rattle.std.proofs.lemmas.List.{append_assoc}
use Rattle.std.proofs.lemmas.Nat.Bits.{bit_at_above}
use Rattle.std.specs.Int.{bit_at}
use Rattle.std.specs.List.{AllByRecursion}
use Rattle.std.specs.Prelude.{⊤, bit_and, option_map}
use Rattle.abi_base.specs.declared.errno.Errno.{Errno}
use Rattle.abi_base.specs.declared.errno.Errno.TheVariants.{Success}
use Rattle.abi_base.specs.declared.grant.Grant.{Grant}
use Rattle.abi_structures.specs.declared.structures.FdStat.{FdStat}
use Rattle.abi_types.specs.declared.call.Call.{Call}
use Rattle.abi_types.specs.declared.call.Call.TheVariants.{FdClose, FdCreate2, FdDup, FdReplace, FdStatPut, FdWrite, FileOpen, ProcExec, ProcExit, ProcFork, ProcRaise, SockRecv, SockSend, ThreadExit}
use Rattle.abi_types.specs.declared.descriptor.Descriptor.{Descriptor}
use Rattle.abi_types.specs.declared.open_kind.OpenKind.{OpenKind}
use Rattle.abi_types.specs.declared.reply.Answer.{Answer}
use Rattle.abi_types.specs.declared.reply.Answer.TheVariants as answer
use Rattle.abi_types.specs.declared.reply.Reply.{Reply}
use Rattle.run_types.specs.declared.history.Act.{Act}
use Rattle.run_types.specs.declared.history.Act.TheVariants as act
use Rattle.run_types.specs.declared.history.Entry.{Entry}
use Rattle.kernel_model.specs.Families.DescriptorCalls.{lowered_to}
use Rattle.kernel_model.specs.Families.Opening.{opened_descriptor}
use Rattle.kernel_model.specs.Proper.{IsIn}
use Rattle.kernel_model.specs.Start.{granted_descriptor}
use Rattle.kernel_model.specs.State.{Tree}
use Rattle.kernel_model.proofs.Lists.{in_all}
use Rattle.kernel_model.proofs.Tests.{none_is_no, same_some}
use Rattle.kernel_model.specs.Families.ProcessCalls.{signal_of}
use Rattle.kernel_model.specs.ForkLaws.{nth_held}
use Rattle.authority_laws.proofs.Rows.{raised_cases}
use Rattle.authority_laws.specs.Ledger.{Row, no_row, Sends, with_held, Ledger, After, added, came_for, channel_of, installed_fds, put_each, picked, with_sent, granted_sends, answered_sends, with_row, with_child, of_live, lowered_row, opened_held, is_new, new_descriptor, new_held, new_held_of, granted_row, by_success, answered_row}
use Rattle.authority_laws.specs.Origins.{Origin, was_held, was_made, was_received, ComesFrom, IsNoMoreThan, InheritsFrom, PassesOnNothing, ComesFromGrant}
use Rattle.authority_laws.specs.Recorded.{acted_child, acted_row, acted_sends, noted}
use Rattle.authority_laws.proofs.Changes.{lowered_is_no_more}

-- ---- no more than

pub itself : (d : Descriptor) → IsNoMoreThan d d
itself d = record { id = refl; base = λ k has. has; inheriting = λ k has. has }

no_more_still : (d x y : Descriptor) → IsNoMoreThan d x → IsNoMoreThan x y → IsNoMoreThan d y
no_more_still d x y first then =
    record { id = first.id ∙ then.id; base = λ k has. then.base k (first.base k has); inheriting = λ k has. then.inheriting k (first.inheriting k has) }

-- ---- where descriptors come from

-- an open that is made of no descriptor passes on nothing
new_passes : (number : ℕ) (kind : OpenKind) → PassesOnNothing (new_descriptor number kind)
new_passes number kind k has =
    let none : bit_at 0 k ≡ 0 = bit_at_above 0 0 k (omega arith) (omega arith) in
    omega (arith, none, has)

module _ (after : After) (l : Ledger) (e : Entry) where
  -- each descriptor of the row has its origin in what was held, where the entry's process holds it
  abbrev RowComesFrom : Row → Type 0
  RowComesFrom row = (n : ℕ) (d : Descriptor) → row n ≡ Some d → Origin after l e e.pid d

  nothing_from : RowComesFrom no_row
  nothing_from n d here = absurd (none_is_no d here)

  own_from : RowComesFrom (l.held e.pid)
  own_from n d here = was_held e.pid n d (inl refl) here (itself d)

  -- where what stands under one number comes from there
  number_from : (row : Row) (n : ℕ) (o : Option Descriptor) → RowComesFrom row → ((d : Descriptor) → o ≡ Some d → Origin after l e e.pid d)
      → RowComesFrom (with_held row n o)
  number_from row n o others from m =
      elim (eqb_tells m n) [
        | inl is ↦ subst (λ b. (d : Descriptor) → cond b o (row m) ≡ Some d → Origin after l e e.pid d) (sym is.0) from
        | inr other ↦ subst (λ b. (d : Descriptor) → cond b o (row m) ≡ Some d → Origin after l e e.pid d) (sym other.0) (others m)
      ]

  copied_from : (from to : ℕ) → RowComesFrom (with_held (l.held e.pid) to (l.held e.pid from))
  copied_from from to = number_from (l.held e.pid) to (l.held e.pid from) own_from (own_from from)

  lowered_from : (n : ℕ) (stat : FdStat) (o : Option Descriptor) → l.held e.pid n ≡ o → (d : Descriptor)
      → option_map (λ (x : Descriptor). lowered_to x stat) o ≡ Some d → Origin after l e e.pid d
  lowered_from n stat None there d is = absurd (none_is_no d is)
  lowered_from n stat (Some x) there d is =
      was_held e.pid n x (inl refl) there (subst (λ z. IsNoMoreThan z x) (same_some (lowered_to x stat) d is) (lowered_is_no_more x stat))

  where_set_from : (n : ℕ) (stat : FdStat) (no_rights : Bool) → RowComesFrom (cond no_rights (l.held e.pid) (lowered_row (l.held e.pid) n stat))
  where_set_from n stat true = own_from
  where_set_from n stat false =
      number_from (l.held e.pid) n (option_map (λ (x : Descriptor). lowered_to x stat) (l.held e.pid n)) own_from
      (λ d is. lowered_from n stat (l.held e.pid n) refl d is)

  -- what is made of no descriptor
  made_from : (k : ℕ) (o : Option OpenKind) → (after.made k).kind ≡ o → (d : Descriptor) → new_held_of (after.made k).number o ≡ Some d
      → Origin after l e e.pid d
  made_from k None is d here = absurd (none_is_no d here)
  made_from k (Some kind) is d here =
      let made : Descriptor = new_descriptor (after.made k).number kind in
      elim (is_new kind) as (λ b. is_new kind ≡ b → cond b (Some made) None ≡ Some d → Origin after l e e.pid d) [
        | true ↦ λ new same.
            subst (Origin after l e e.pid) (same_some made d same)
            (was_made k kind refl refl is new (new_passes (after.made k).number kind))
        | false ↦ λ _ none. absurd (none_is_no d none)
      ] refl here

  -- what is opened comes from what is held, where the call opens
  abbrev pub OpensWithin : Call → Type 0
  OpensWithin (FileOpen lookup path oflags stat) = (kind : OpenKind) → Origin after l e e.pid (opened_descriptor (after.made 0).number kind stat)
  OpensWithin _ = ⊤

  opened_from : (stat : FdStat) → ((kind : OpenKind) → Origin after l e e.pid (opened_descriptor (after.made 0).number kind stat)) → (o : Option OpenKind)
      (d : Descriptor) → option_map (λ (kind : OpenKind). opened_descriptor (after.made 0).number kind stat) o ≡ Some d → Origin after l e e.pid d
  opened_from stat within None d is = absurd (none_is_no d is)
  opened_from stat within (Some kind) d is =
      subst (Origin after l e e.pid) (same_some (opened_descriptor (after.made 0).number kind stat) d is) (within kind)

  where_ends_from : (lasts : Bool) → RowComesFrom (cond lasts (l.held e.pid) no_row)
  where_ends_from true = own_from
  where_ends_from false = nothing_from

  -- what stands under numbers comes from there where what is put there does
  each_from : (row : Row) (fds : List ℕ) (ds : List Descriptor) → RowComesFrom row → AllByRecursion (λ (d : Descriptor). Origin after l e e.pid d) ds
      → RowComesFrom (put_each row fds ds)
  each_from row [] ds others all = others
  each_from row (n ∷ fds) [] others all = others
  each_from row (n ∷ fds) (d ∷ ds) others all =
      each_from (with_held row n (Some d)) fds ds
      (number_from row n (Some d) others (λ x is. subst (Origin after l e e.pid) (same_some d x is) all.0)) all.1

  -- what came for the open of a descriptor that was held
  all_came : (m : ℕ) (x : Descriptor) → l.held e.pid m ≡ Some x → (before ds : List Descriptor) → after.came x.id ≡ before ++ ds
      → AllByRecursion (λ (d : Descriptor). Origin after l e e.pid d) ds
  all_came m x held before [] is = tt
  all_came m x held before (d ∷ ds) is = (
    was_received m x refl held (before, ds, is),
    all_came m x held (before ++ d ∷ []) ds (is ∙ sym (append_assoc before (d ∷ []) ds)),
  )

  received_from : (fd : ℕ) (fds : List ℕ) (o : Option Descriptor) → l.held e.pid fd ≡ o → RowComesFrom (put_each (l.held e.pid) fds (came_for after o))
  received_from fd fds None there = each_from (l.held e.pid) fds [] own_from tt
  received_from fd fds (Some x) there = each_from (l.held e.pid) fds (after.came x.id) own_from (all_came fd x there [] (after.came x.id) refl)

  -- what is listed was held
  listed_from : (fds : List ℕ) → RowComesFrom (nth_held (l.held e.pid) fds)
  listed_from [] n d here = absurd (none_is_no d here)
  listed_from (fd ∷ fds) zero d here = own_from fd d here
  listed_from (fd ∷ fds) (suc n) d here = listed_from fds n d here

  granted_from : (call : Call) (reply : Reply) → OpensWithin call → RowComesFrom (granted_row after (l.held e.pid) call reply)
  granted_from (FdClose fd) reply within = number_from (l.held e.pid) fd None own_from (λ d here. absurd (none_is_no d here))
  granted_from (FdCreate2 kind) reply within =
      number_from (with_held (l.held e.pid) reply.r1 (new_held (after.made 1))) reply.r2 (new_held (after.made 0))
      (number_from (l.held e.pid) reply.r1 (new_held (after.made 1)) own_from (made_from 1 (after.made 1).kind refl))
      (made_from 0 (after.made 0).kind refl)
  granted_from (FdDup fd) reply within = copied_from fd reply.r1
  granted_from (FdReplace from to) reply within = copied_from from to
  granted_from (FdStatPut fd stat flags) reply within = where_set_from fd stat (bit_and flags 2 == 0)
  granted_from (FileOpen lookup path oflags stat) reply within =
      number_from (l.held e.pid) reply.r1 (opened_held (after.made 0) stat) own_from (opened_from stat within (after.made 0).kind)
  granted_from (ProcExec fd bytes fds) reply within = listed_from fds
  granted_from (ProcExit code) reply within = nothing_from
  granted_from (ProcFork left) reply within =
      number_from (l.held e.pid) reply.r1 (new_held (after.made 0)) own_from (made_from 0 (after.made 0).kind refl)
  granted_from (ProcRaise signal) reply within = raised_cases RowComesFrom (signal_of signal) (l.held e.pid) own_from nothing_from
  granted_from (SockRecv fd length fds flags) reply within = received_from fd (installed_fds reply.payload) (l.held e.pid fd) refl
  granted_from (ThreadExit lock word scope) reply within = where_ends_from after.threaded
  granted_from _ reply within = own_from

  success_from : (errno : Errno) (granted : Row) → (errno ≡ Success → RowComesFrom granted) → RowComesFrom (by_success errno granted (l.held e.pid))
  success_from Success granted from = from refl
  success_from _ granted from = own_from

  -- so it is where the call succeeded
  abbrev pub AnswerIsWithin : Call → Answer → Type 0
  AnswerIsWithin call (answer.Parked writes) = ⊤
  AnswerIsWithin call (answer.Reply reply) = reply.errno ≡ Success → OpensWithin call

  answered_from : (call : Call) (given : Answer) → AnswerIsWithin call given → RowComesFrom (answered_row after (l.held e.pid) call given)
  answered_from call (answer.Parked writes) within = own_from
  answered_from call (answer.Reply reply) within =
      success_from reply.errno (granted_row after (l.held e.pid) call reply) (λ success. granted_from call reply (within success))

  abbrev pub ActIsWithin : Act → Type 0
  ActIsWithin (act.Call call given) = AnswerIsWithin call given
  ActIsWithin (act.Wake call given answered) = AnswerIsWithin call answered
  ActIsWithin _ = ⊤

  acted_from : (a : Act) → ActIsWithin a → RowComesFrom (acted_row after (l.held e.pid) a)
  acted_from (act.Call call given) within = answered_from call given within
  acted_from (act.Wake call given answered) within = answered_from call answered within
  acted_from (act.Trap signal) within = nothing_from
  acted_from act.Expire within = nothing_from
  acted_from act.Idle within = own_from

  -- where one process's row is another, which comes from there
  row_from : (m : Ledger) (p : ℕ) (row : Row) → ComesFrom after e l m → ((n : ℕ) (d : Descriptor) → row n ≡ Some d → Origin after l e p d)
      → ComesFrom after e l (with_row m p row)
  row_from m p row others from q =
      elim (eqb_tells q p) [
        | inl is ↦ subst (λ b. (n : ℕ) (d : Descriptor) → cond b row (m.held q) n ≡ Some d → Origin after l e q d) (sym is.0)
            (subst (λ x. (n : ℕ) (d : Descriptor) → row n ≡ Some d → Origin after l e x d) (sym is.1) from)
        | inr other ↦ subst (λ b. (n : ℕ) (d : Descriptor) → cond b row (m.held q) n ≡ Some d → Origin after l e q d) (sym other.0) (others q)
      ]

  -- the process that the entry made holds what the entry's process held
  child_from : (child : Option ℕ) → acted_child after e.act ≡ child → ComesFrom after e l (with_child child (l.held e.pid) l)
  child_from None is = λ q n d here. was_held q n d (inl refl) here (itself d)
  child_from (Some c) is =
      row_from l c (l.held e.pid) (λ q n d here. was_held q n d (inl refl) here (itself d)) (λ n d here. was_held e.pid n d (inr (refl, is)) here (itself d))

  live_from : (m : Ledger) → ComesFrom after e l m → ComesFrom after e l (of_live after.live m)
  live_from m from q n d here =
      elim (after.live q) as (λ b. cond b (m.held q) no_row n ≡ Some d → Origin after l e q d) [
        | true ↦ λ there. from q n d there
        | false ↦ λ none. absurd (none_is_no d none)
      ] here

  -- what is held after an entry has its origin in what was held before it
  pub noted_from : ActIsWithin e.act → ComesFrom after e l (noted after l e)
  noted_from within =
      let child : Option ℕ = acted_child after e.act in
      let row : Row = acted_row after (l.held e.pid) e.act in
      live_from (with_row (with_child child (l.held e.pid) l) e.pid row)
      (row_from (with_child child (l.held e.pid) l) e.pid row (child_from child refl) (acted_from e.act within))

-- ---- what is sent

-- the descriptor stands in the row
abbrev StandsIn : Row → Descriptor → Type 0
StandsIn row d = (n : ℕ) × (row n ≡ Some d)

added_stand : (row : Row) (n : ℕ) (o : Option Descriptor) (ds : List Descriptor) → row n ≡ o → AllByRecursion (StandsIn row) ds
    → AllByRecursion (StandsIn row) (added o ds)
added_stand row n None ds there all = all
added_stand row n (Some d) ds there all = ((n, there), all)

picked_stand : (row : Row) (fds : List ℕ) → AllByRecursion (StandsIn row) (picked row fds)
picked_stand row [] = tt
picked_stand row (fd ∷ fds) = added_stand row fd (row fd) (picked row fds) refl (picked_stand row fds)

module _ (after : After) (row : Row) (sent : Sends) where
  -- what each send carries it carried, or it stands in the row
  abbrev SentFrom : Sends → Type 0
  SentFrom then = (c j : ℕ) (d : Descriptor) → IsIn d (then c j) → IsIn d (sent c j) ⊎ StandsIn row d

  carried_from : (carried other : List Descriptor) (here : Bool) (d : Descriptor) → AllByRecursion (StandsIn row) carried
      → IsIn d (cond here carried other) → IsIn d other ⊎ StandsIn row d
  carried_from carried other true d all is = inr (in_all (StandsIn row) d carried all is)
  carried_from carried other false d all is = inl is

  channel_from : (channel : Option ℕ) (fds : List ℕ) → SentFrom (with_sent after channel (picked row fds) sent)
  channel_from None fds = λ c j d is. inl is
  channel_from (Some k) fds = λ c j d is.
      carried_from (picked row fds) (sent c j) (c == k && j == after.sends k) d (picked_stand row fds) is

  granted_sent : (call : Call) → SentFrom (granted_sends after row sent call)
  granted_sent (FdWrite fd (b ∷ bytes)) = channel_from (channel_of after (row fd)) []
  granted_sent (SockSend fd (b ∷ bytes) fds flags) = channel_from (channel_of after (row fd)) fds
  granted_sent _ = λ c j d is. inl is

  success_sent : (errno : Errno) (then : Sends) → SentFrom then → SentFrom (by_success errno then sent)
  success_sent Success then from = from
  success_sent _ then from = λ c j d is. inl is

  answered_sent : (call : Call) (given : Answer) → SentFrom (answered_sends after row sent call given)
  answered_sent call (answer.Parked writes) = λ c j d is. inl is
  answered_sent call (answer.Reply reply) = success_sent reply.errno (granted_sends after row sent call) (granted_sent call)

  pub acted_sent : (a : Act) → SentFrom (acted_sends after row sent a)
  acted_sent (act.Call call given) = answered_sent call given
  acted_sent (act.Wake call given answered) = answered_sent call answered
  acted_sent _ = λ c j d is. inl is

-- ---- grants

inherits_still : (d x y : Descriptor) → IsNoMoreThan d x → InheritsFrom x y → InheritsFrom d y
inherits_still d x y less from =
    record { base = λ k has. from.base k (less.base k has); inheriting = λ k has. from.inheriting k (less.inheriting k has) }

inherits_of_less : (d x y : Descriptor) → InheritsFrom d x → IsNoMoreThan x y → InheritsFrom d y
inherits_of_less d x y from less =
    record { base = λ k has. less.inheriting k (from.base k has); inheriting = λ k has. less.inheriting k (from.inheriting k has) }

inherits_twice : (d x y : Descriptor) → InheritsFrom d x → InheritsFrom x y → InheritsFrom d y
inherits_twice d x y first second =
    record { base = λ k has. second.inheriting k (first.base k has); inheriting = λ k has. second.inheriting k (first.inheriting k has) }

module _ (tree : Tree) (grants : List Grant) (number : ℕ) (d x : Descriptor) where
  pub no_more_than_granted : IsNoMoreThan d x → ComesFromGrant tree grants number x → ComesFromGrant tree grants number d
  no_more_than_granted less by =
      let g : Descriptor = granted_descriptor tree number by.grant in
      record {
        grant = by.grant;
        listed = by.listed;
        comes = elim by.comes [ inl more ↦ inl (no_more_still d x g less more) | inr from ↦ inr (inherits_still d x g less from) ];
      }

  pub inherits_of_granted : InheritsFrom d x → ComesFromGrant tree grants number x → ComesFromGrant tree grants number d
  inherits_of_granted from by =
      let g : Descriptor = granted_descriptor tree number by.grant in
      record {
        grant = by.grant;
        listed = by.listed;
        comes = elim by.comes [ inl more ↦ inr (inherits_of_less d x g from more) | inr farther ↦ inr (inherits_twice d x g from farther) ];
      }
