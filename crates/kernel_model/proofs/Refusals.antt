-- Why a call is refused: the denial of the first descriptor that lacks a right, that lack of memory stands in place of no
-- error, and that an error changes nothing.
use Rattle.std.proofs.Common.{◌≡◌, ◌≢◌, ◌⊎◌, ℕ, ◌+◌, Bool, true, false, cond, T, List, [], Option, Some, None, IsSome, is_some, inl, inr, refl, sym, ap, subst, ◌∙◌}
use Rattle.std.specs.List.{AllByRecursion}
use Rattle.std.specs.FinMap.{get}
use Rattle.abi_types.specs.declared.reply.Answer.{Answer}
use Rattle.abi_types.specs.declared.reply.Answer.TheVariants as answer
use Rattle.abi_types.specs.declared.call.Call.{Call}
use Rattle.abi_types.specs.declared.reply.Reply.{Reply}
use Rattle.abi_types.specs.declared.constants.Constants.{Constants}
use Rattle.abi_types.specs.declared.descriptor.Denial.{Denial}
use Rattle.abi_types.specs.declared.descriptor.Denial.TheVariants.{Outside}
use Rattle.abi_types.specs.declared.descriptor.Descriptor.{Descriptor}
use Rattle.abi_base.specs.declared.errno.Errno.{Errno}
use Rattle.abi_base.specs.declared.errno.Errno.TheVariants.{Success, Badf, Nomem, Notcapable}
use Rattle.abi_types.specs.declared.needed.Needed.{Needed}
use Rattle.abi_types.specs.declared.who.Who.{Who}
use Rattle.kernel_model.specs.Calls.{meaning_of, named, need, errors_of, takes_memory, refusal, refusal_of}
use Rattle.kernel_model.specs.Laws.{HasAll, IsFirstLack, IsOfFirstLack, IsOfPath, IsNotDeniedEarly, IsListed}
use Rattle.kernel_model.specs.Need.{missing, some_absent, first_lack, denied_by}
use Rattle.kernel_model.specs.Outcome.{Outcome, OnReply, WhereReply, IsSuccess, is_parked, replies}
use Rattle.kernel_model.specs.Proper.{IsIn, IsDeniedOutside}
use Rattle.kernel_model.specs.Release.{release}
use Rattle.kernel_model.specs.Reply.{refused, denied}
use Rattle.kernel_model.specs.State.{State, Table, put_all}
use Rattle.kernel_model.specs.Step.{tick, unless, component_unless, outside_on, outside, outcome, step_answer, step_state, failed, MayLackMemory, IsStep}
use Rattle.kernel_model.specs.Valid.{IsValid}
use Rattle.kernel_model.specs.View.{whole}
use Rattle.kernel_model.specs.Waits.{may_wait, waiting, waits_if}
use Rattle.kernel_model.proofs.Calls.{proper}
use Rattle.kernel_model.proofs.Lacks.{present_all, all_present, absent_one, rows_there, first_lack_is, lack_is_first}
use Rattle.kernel_model.proofs.Lists.{in_all}
use Rattle.kernel_model.proofs.Outcomes.{outcome_of_table, outcome_by_cases, outside_reads, outside_of_table}
use Rattle.kernel_model.proofs.Parking.{denied_where_outside, parked_is_no_reply, waits_or_replies}
use Rattle.kernel_model.proofs.Valids.{release_valid, tick_valid}
use Rattle.kernel_model.proofs.Tests.{none_is_no, not_true, same_some}

-- ---- denied calls

-- the refusal where some descriptor lacks a right
refused_of_lack : (call : Call) (table : Table) (row : Needed) (d : Descriptor) → HasAll table (named call) → IsFirstLack table (need call) row d
    → refusal table call ≡ Some (denied (missing d row))
refused_of_lack call table row d all first =
    ap (λ b. cond b (Some (refused Badf)) (denied_by (first_lack table (need call)))) (present_all table (named call) all)
    ∙ ap denied_by (first_lack_is table (need call) row d first)

-- a call that is refused for lack of a descriptor or of a right answers so
refused_step_answer : (constants : Constants) (S : State) (who : Who) (call : Call) (table : Table) (reply : Reply) → get S.tables who.pid ≡ Some table
    → refusal table call ≡ Some reply → step_answer constants S who call ≡ answer.Reply reply
refused_step_answer constants S who call table reply own refuses =
    ap (λ (o : Outcome). o.answer)
    (outcome_of_table constants S who call table own
    ∙ ap (λ r. unless r ((meaning_of call).effect constants (whole (tick S)) who table)) refuses)

pub first_lack_is_named : (constants : Constants) (S : State) (who : Who) (call : Call) (table : Table) (row : Needed) (d : Descriptor)
    → get S.tables who.pid ≡ Some table → HasAll table (named call) → IsFirstLack table (need call) row d
    → step_answer constants S who call ≡ answer.Reply (denied (missing d row))
first_lack_is_named constants S who call table row d own all first =
    refused_step_answer constants S who call table (denied (missing d row)) own (refused_of_lack call table row d all first)

-- ---- whence a reply is

pub same_reply : (a b : Reply) → answer.Reply a ≡ answer.Reply b → a ≡ b
same_reply a b e = cc

-- what holds of a reply in an answer
pub on_reply : (P : Reply → Type 0) (given : Answer) (reply : Reply) → OnReply P given → given ≡ answer.Reply reply → P reply
on_reply P (answer.Parked writes) reply h e = absurd h
on_reply P (answer.Reply r) reply h e = subst P (same_reply r reply e) h

pub where_reply : (P : Reply → Type 0) (given : Answer) (reply : Reply) → WhereReply P given → given ≡ answer.Reply reply → P reply
where_reply P (answer.Parked writes) reply h e = absurd (parked_is_no_reply (answer.Parked writes) reply refl e)
where_reply P (answer.Reply r) reply h e = subst P (same_reply r reply e) h

where_parked : (P : Reply → Type 0) (given : Answer) → is_parked given ≡ true → WhereReply P given
where_parked P (answer.Parked writes) parked = tt
where_parked P (answer.Reply reply) parked = absurd (not_true parked)

-- the reply is the denial of a path that leads outside
abbrev IsPathDenial : State → Who → Call → Reply → Type 0
IsPathDenial S who call reply = (component : ℕ) × (outside S who call ≡ Some component) × (reply ≡ denied (Outside component))

-- the reply denies nothing, and is a success, or one of the call's errors with nothing set
abbrev IsPlainReply : Call → Outcome → Reply → Type 0
IsPlainReply call o reply = (reply.denial ≡ None) × ((reply.errno ≡ Success) ⊎ ((o.updates ≡ []) × IsIn reply.errno (errors_of call)))

-- the reply is the refusal, the denial of a path, or plain
abbrev IsFrom : State → Who → Call → Outcome → Reply → Type 0
IsFrom S who call o reply =
    ((refusal_of call (get S.tables who.pid) ≡ Some reply) × (o.updates ≡ []))
    ⊎ (IsPathDenial S who call reply × (o.updates ≡ [])) ⊎ IsPlainReply call o reply

plain_from : (S : State) (who : Who) (call : Call) (o : Outcome) (a : Answer) → OnReply (IsPlainReply call o) a → WhereReply (IsFrom S who call o) a
plain_from S who call o (answer.Parked writes) h = tt
plain_from S who call o (answer.Reply reply) h = inr (inr h)

own_from : (S : State) (who : Who) (call : Call) (o : Outcome) (component : Option ℕ) → outside S who call ≡ component
    → IsDeniedOutside (errors_of call) component o → WhereReply (IsFrom S who call o) o.answer
own_from S who call o None leads plain = plain_from S who call o o.answer plain
own_from S who call o (Some component) leads denies =
    subst (λ (x : Outcome). WhereReply (IsFrom S who call x) x.answer) (sym denies) (inr (inl ((component, leads, refl), refl)))

outcome_from : (constants : Constants) (S : State) (who : Who) (call : Call)
    → WhereReply (IsFrom S who call (outcome constants S who call)) (step_answer constants S who call)
outcome_from constants S who call =
    outcome_by_cases (λ (o : Outcome). WhereReply (IsFrom S who call o) o.answer) constants S who call (λ reply refuses. inl (refuses, refl))
    (λ table own unrefused.
    let o = (meaning_of call).effect constants (whole (tick S)) who table in
    let leads = (meaning_of call).outside (whole (tick S)) table in
    waits_or_replies (may_wait call) who.pid (get S.processes who.pid) o (IsDeniedOutside (errors_of call) leads o) (WhereReply (IsFrom S who call o) o.answer)
    ((proper call).plain constants (whole (tick S)) who table) (where_parked (IsFrom S who call o) o.answer)
    (own_from S who call o leads (outside_of_table S who call table own unrefused)))

reply_from : (constants : Constants) (S : State) (who : Who) (call : Call) (reply : Reply) → step_answer constants S who call ≡ answer.Reply reply
    → IsFrom S who call (outcome constants S who call) reply
reply_from constants S who call reply is =
    where_reply (IsFrom S who call (outcome constants S who call)) (step_answer constants S who call) reply (outcome_from constants S who call) is

-- ---- a path that leads outside is denied

unrefused_path : (call : Call) (table : Table) (component : ℕ) (own : Option ℕ) (r : Option Reply) → component_unless r own ≡ Some component
    → (r ≡ None) × (own ≡ Some component)
unrefused_path call table component own None leads = (refl, leads)
unrefused_path call table component own (Some reply) leads = absurd (none_is_no component leads)

denied_outside : (errors : List Errno) (component : ℕ) (leads : Option ℕ) (o : Outcome) → leads ≡ Some component → IsDeniedOutside errors leads o
    → o ≡ replies (denied (Outside component))
denied_outside errors component leads o is h = subst (λ c. IsDeniedOutside errors c o) is h

path_denied_on : (constants : Constants) (S : State) (who : Who) (call : Call) (component : ℕ) (t : Option Table) → get S.tables who.pid ≡ t
    → outside_on (whole (tick S)) call t ≡ Some component → step_answer constants S who call ≡ answer.Reply (denied (Outside component))
path_denied_on constants S who call component None own leads = absurd (none_is_no component leads)
path_denied_on constants S who call component (Some table) own leads =
    let m = meaning_of call in
    let both = unrefused_path call table component (m.outside (whole (tick S)) table) (refusal table call) leads in
    ap (λ (o : Outcome). o.answer)
    (outcome_of_table constants S who call table own ∙ ap (λ r. unless r (m.effect constants (whole (tick S)) who table)) both.0
    ∙ denied_outside m.errors component (m.outside (whole (tick S)) table) (m.effect constants (whole (tick S)) who table) both.1
    (denied_where_outside m (proper call) constants (whole (tick S)) who table component both.1))

pub outside_is_denied : (constants : Constants) (S : State) (who : Who) (call : Call) (component : ℕ) → outside S who call ≡ Some component
    → step_answer constants S who call ≡ answer.Reply (denied (Outside component))
outside_is_denied constants S who call component leads =
    path_denied_on constants S who call component (get S.tables who.pid) refl (sym (outside_reads S who call) ∙ leads)

-- ---- a denial is of the first lack

-- a refusal that denies comes of a first lack, where no descriptor that the call names is absent
denial_of : (absent : Bool) (lack : Option Denial) (reply : Reply) (denial : Denial) → cond absent (Some (refused Badf)) (denied_by lack) ≡ Some reply
    → reply.denial ≡ Some denial → (absent ≡ false) × (lack ≡ Some denial)
denial_of true lack reply denial is denies =
    absurd (none_is_no denial (ap (λ (r : Reply). r.denial) (same_some (refused Badf) reply is) ∙ denies))
denial_of false None reply denial is denies = absurd (none_is_no reply is)
denial_of false (Some x) reply denial is denies = (refl, ap (λ (r : Reply). r.denial) (same_some (denied x) reply is) ∙ denies)

denial_on : (S : State) (who : Who) (call : Call) (reply : Reply) (denial : Denial) (t : Option Table) → get S.tables who.pid ≡ t
    → refusal_of call t ≡ Some reply → reply.denial ≡ Some denial → IsOfFirstLack S who call denial
denial_on S who call reply denial None own is denies =
    absurd (none_is_no denial (ap (λ (r : Reply). r.denial) (same_some (refused Badf) reply is) ∙ denies))
denial_on S who call reply denial (Some table) own is denies =
    let found = denial_of (some_absent table (named call)) (first_lack table (need call)) reply denial is denies in
    let all : HasAll table (named call) = all_present table (named call) found.0 in
    let first = lack_is_first table (need call) denial (rows_there call table all) found.1 in
    record { table = table; row = first.0; d = first.1; own = own; all = all; first = first.2; names = first.3 }

path_denial : (S : State) (who : Who) (call : Call) (reply : Reply) (denial : Denial) → IsPathDenial S who call reply → reply.denial ≡ Some denial
    → IsOfPath S who call denial
path_denial S who call reply denial path denies =
    (path.0, path.1, same_some denial (Outside path.0) (sym denies ∙ ap (λ (r : Reply). r.denial) path.2))

pub denial_is_of_first_lack : (constants : Constants) (S : State) (who : Who) (call : Call) (reply : Reply) (denial : Denial)
    → step_answer constants S who call ≡ answer.Reply reply → reply.denial ≡ Some denial → IsOfFirstLack S who call denial ⊎ IsOfPath S who call denial
denial_is_of_first_lack constants S who call reply denial is denies =
    elim (reply_from constants S who call reply is) [
      | inl refuses ↦ inl (denial_on S who call reply denial (get S.tables who.pid) refl refuses.0 denies)
      | inr (inl path) ↦ inr (path_denial S who call reply denial path.0 denies)
      | inr (inr plain) ↦ absurd (none_is_no denial (sym plain.0 ∙ denies))
    ]

-- a step's answer has a denial only of the first lack, or of a path
pub step_denial : (constants : Constants) (S : State) (who : Who) (call : Call) (given : Answer) (T : State) (reply : Reply) (denial : Denial)
    → IsStep constants S who call given T → given ≡ answer.Reply reply → reply.denial ≡ Some denial
    → IsOfFirstLack S who call denial ⊎ IsOfPath S who call denial
step_denial constants S who call given T reply denial (inl done) is denies =
    denial_is_of_first_lack constants S who call reply denial (sym done.0 ∙ is) denies
step_denial constants S who call given T reply denial (inr lacking) is denies =
    absurd (none_is_no denial (ap (λ (r : Reply). r.denial) (same_reply (refused Nomem) reply (sym lacking.1 ∙ is)) ∙ denies))

-- ---- what a refusal is

-- BADF, or a denial
abbrev IsRefusal : Reply → Type 0
IsRefusal reply = (reply ≡ refused Badf) ⊎ ((denial : Denial) × (reply ≡ denied denial))

refusal_by : (absent : Bool) (lack : Option Denial) (reply : Reply) → cond absent (Some (refused Badf)) (denied_by lack) ≡ Some reply → IsRefusal reply
refusal_by true lack reply is = inl (sym (same_some (refused Badf) reply is))
refusal_by false None reply is = absurd (none_is_no reply is)
refusal_by false (Some denial) reply is = inr (denial, sym (same_some (denied denial) reply is))

refusal_is : (call : Call) (t : Option Table) (reply : Reply) → refusal_of call t ≡ Some reply → IsRefusal reply
refusal_is call None reply is = inl (sym (same_some (refused Badf) reply is))
refusal_is call (Some table) reply is = refusal_by (some_absent table (named call)) (first_lack table (need call)) reply is

-- no refusal answers any other error
pub refusal_is_other : (errno : Errno) → Badf ≢ errno → Notcapable ≢ errno → (call : Call) (t : Option Table) (reply : Reply) → refusal_of call t ≡ Some reply
    → reply.errno ≢ errno
refusal_is_other errno badf notcapable call t reply is e =
    elim (refusal_is call t reply is) [
      | inl absent ↦ badf (sym (ap (λ (r : Reply). r.errno) absent) ∙ e)
      | inr lacks ↦ notcapable (sym (ap (λ (r : Reply). r.errno) lacks.1) ∙ e)
    ]

-- ---- lack of memory

success_reply : (given : Answer) (reply : Reply) → IsSuccess given → given ≡ answer.Reply reply → reply.errno ≡ Success
success_reply (answer.Parked writes) reply success is = absurd (parked_is_no_reply (answer.Parked writes) reply refl is)
success_reply (answer.Reply r) reply success is = ap (λ (r : Reply). r.errno) (sym (same_reply r reply is)) ∙ success

-- lack of memory stands in place of no error
pub errors_are_exact : (constants : Constants) (S : State) (who : Who) (call : Call) (reply : Reply) (given : Answer) (T : State)
    → step_answer constants S who call ≡ answer.Reply reply → reply.errno ≢ Success → IsStep constants S who call given T
    → (given ≡ answer.Reply reply) × (T ≡ step_state constants S who call)
errors_are_exact constants S who call reply given T is other (inl done) = (done.0 ∙ is, done.1)
errors_are_exact constants S who call reply given T is other (inr lacking) =
    absurd (other (success_reply (step_answer constants S who call) reply lacking.0.1 is))

-- no call that may lack memory is refused
pub lacks_unrefused : (constants : Constants) (S : State) (who : Who) (call : Call) → MayLackMemory constants S who call
    → refusal_of call (get S.tables who.pid) ≡ None
lacks_unrefused constants S who call lacks =
    outcome_by_cases (λ (o : Outcome). IsSuccess o.answer → refusal_of call (get S.tables who.pid) ≡ None) constants S who call
    (λ reply refuses success. absurd (refusal_is_other Success (λ e. cc) (λ e. cc) call (get S.tables who.pid) reply refuses success))
    (λ table own unrefused success. ap (refusal_of call) own ∙ unrefused) lacks.1

-- the answer of a call that is refused is the refusal
pub refused_answer : (constants : Constants) (S : State) (who : Who) (call : Call) (given : Answer) (T : State) (table : Table) (reply : Reply)
    → IsStep constants S who call given T → get S.tables who.pid ≡ Some table → refusal table call ≡ Some reply → given ≡ answer.Reply reply
refused_answer constants S who call given T table reply step own refuses =
    (errors_are_exact constants S who call reply given T (refused_step_answer constants S who call table reply own refuses)
    (refusal_is_other Success (λ e. cc) (λ e. cc) call (Some table) reply refuses) step).0

-- of a path that leads outside it is the denial
pub leaving_is_denied : (constants : Constants) (S : State) (who : Who) (call : Call) (given : Answer) (T : State) (component : ℕ)
    → IsStep constants S who call given T → outside S who call ≡ Some component → given ≡ answer.Reply (denied (Outside component))
leaving_is_denied constants S who call given T component step leads =
    (errors_are_exact constants S who call (denied (Outside component)) given T (outside_is_denied constants S who call component leads) (λ e. cc) step).0

pub lack_is_denied : (constants : Constants) (S : State) (who : Who) (call : Call) (given : Answer) (T : State) (table : Table) (row : Needed) (d : Descriptor)
    → IsStep constants S who call given T → get S.tables who.pid ≡ Some table → HasAll table (named call) → IsFirstLack table (need call) row d
    → given ≡ answer.Reply (denied (missing d row))
lack_is_denied constants S who call given T table row d step own all first =
    refused_answer constants S who call given T table (denied (missing d row)) step own (refused_of_lack call table row d all first)

pub absent_is_badf : (constants : Constants) (S : State) (who : Who) (call : Call) (given : Answer) (T : State) (table : Table) (fd : ℕ)
    → IsStep constants S who call given T → get S.tables who.pid ≡ Some table → IsIn fd (named call) → get table fd ≡ None
    → given ≡ answer.Reply (refused Badf)
absent_is_badf constants S who call given T table fd step own here absent =
    refused_answer constants S who call given T table (refused Badf) step own
    (ap (λ b. cond b (Some (refused Badf)) (denied_by (first_lack table (need call))))
    (ap (some_absent table) here.2 ∙ absent_one table fd here.0 here.1 absent))

true_is_other : (b : Bool) → b ≡ false → b ≡ true → ⊥
true_is_other true f t = subst T f tt
true_is_other false f t = subst T (sym t) tt

pub no_memory_is_exact : (constants : Constants) (S : State) (who : Who) (call : Call) (given : Answer) (T : State) → takes_memory call ≡ false
    → IsStep constants S who call given T → (given ≡ step_answer constants S who call) × (T ≡ step_state constants S who call)
no_memory_is_exact constants S who call given T none (inl done) = done
no_memory_is_exact constants S who call given T none (inr lacking) = absurd (true_is_other (takes_memory call) none lacking.0.0)

pub replies_are_listed : (constants : Constants) (S : State) (who : Who) (call : Call) (reply : Reply) (T : State)
    → IsStep constants S who call (answer.Reply reply) T → IsListed constants S who call reply
replies_are_listed constants S who call reply T (inl done) =
    elim (reply_from constants S who call reply (sym done.0)) [
      | inl refuses ↦ inr (inl refuses.0)
      | inr (inl path) ↦ inr (inr (inl path.0))
      | inr (inr plain) ↦ elim plain.1 [ inl success ↦ inl success | inr error ↦ inr (inr (inr (inl error.1))) ]
    ]
replies_are_listed constants S who call reply T (inr lacking) =
    inr (inr (inr (inr (lacking.0, same_reply reply (refused Nomem) lacking.1))))

-- ---- NOTCAPABLE

badf_is_other : Badf ≢ Notcapable
badf_is_other e = cc

success_is_other : Success ≢ Notcapable
success_is_other e = cc

-- a refusal with NOTCAPABLE says what is missing
notcapable_on : (call : Call) (t : Option Table) (reply : Reply) → refusal_of call t ≡ Some reply → reply.errno ≡ Notcapable → IsSome reply.denial
notcapable_on call t reply is errno =
    elim (refusal_is call t reply is) [
      | inl absent ↦ absurd (badf_is_other (sym (ap (λ (r : Reply). r.errno) absent) ∙ errno))
      | inr lacks ↦ ap (λ (r : Reply). is_some r.denial) lacks.1
    ]

pub notcapable_is_denied : (constants : Constants) (S : State) (who : Who) (call : Call) (reply : Reply) → IsNotDeniedEarly call
    → step_answer constants S who call ≡ answer.Reply reply → reply.errno ≡ Notcapable → IsSome reply.denial
notcapable_is_denied constants S who call reply early is errno =
    elim (reply_from constants S who call reply is) [
      | inl refuses ↦ notcapable_on call (get S.tables who.pid) reply refuses.0 errno
      | inr (inl path) ↦ ap (λ (r : Reply). is_some r.denial) path.0.2
      | inr (inr plain) ↦ elim plain.1 [
        | inl success ↦ absurd (success_is_other (sym success ∙ errno))
        | inr error ↦ absurd (in_all (λ e. e ≢ Notcapable) reply.errno (errors_of call) early error.1 errno)
      ]
    ]

nomem_is_other : Nomem ≢ Notcapable
nomem_is_other e = cc

-- a step's answer with NOTCAPABLE says what is missing
pub step_reported : (constants : Constants) (S : State) (who : Who) (call : Call) (given : Answer) (T : State) (reply : Reply) → IsNotDeniedEarly call
    → IsStep constants S who call given T → given ≡ answer.Reply reply → reply.errno ≡ Notcapable → IsSome reply.denial
step_reported constants S who call given T reply early (inl done) is lacks =
    notcapable_is_denied constants S who call reply early (sym done.0 ∙ is) lacks
step_reported constants S who call given T reply early (inr lacking) is lacks =
    absurd (nomem_is_other (ap (λ (r : Reply). r.errno) (same_reply (refused Nomem) reply (sym lacking.1 ∙ is)) ∙ lacks))

-- ---- no answer but the allowed one is lack of memory

success_is_no_lack : Success ≢ Nomem
success_is_no_lack e = cc

notcapable_is_no_lack : Notcapable ≢ Nomem
notcapable_is_no_lack e = cc

-- none of the errors that the call answers of its own is lack of memory
abbrev pub IsNoLackOf : Call → Type 0
IsNoLackOf call = AllByRecursion (λ errno. errno ≢ Nomem) (errors_of call)

pub reply_no_lack : (constants : Constants) (S : State) (who : Who) (call : Call) (reply : Reply) → IsNoLackOf call
    → step_answer constants S who call ≡ answer.Reply reply → reply.errno ≢ Nomem
reply_no_lack constants S who call reply none is errno =
    elim (reply_from constants S who call reply is) [
      | inl refuses ↦ refusal_is_other Nomem (λ e. cc) (λ e. cc) call (get S.tables who.pid) reply refuses.0 errno
      | inr (inl path) ↦ notcapable_is_no_lack (sym (ap (λ (r : Reply). r.errno) path.0.2) ∙ errno)
      | inr (inr plain) ↦ elim plain.1 [
        | inl success ↦ success_is_no_lack (sym success ∙ errno)
        | inr error ↦ in_all (λ e. e ≢ Nomem) reply.errno (errors_of call) none error.1 errno
      ]
    ]

-- ---- an error changes nothing

pub sets_nothing_at_error : (constants : Constants) (S : State) (who : Who) (call : Call) (reply : Reply) → step_answer constants S who call ≡ answer.Reply reply
    → reply.errno ≢ Success → (outcome constants S who call).updates ≡ []
sets_nothing_at_error constants S who call reply is other =
    elim (reply_from constants S who call reply is) [
      | inl refuses ↦ refuses.1
      | inr (inl path) ↦ path.1
      | inr (inr plain) ↦ elim plain.1 [ inl success ↦ absurd (other success) | inr error ↦ error.0 ]
    ]

failed_step : (constants : Constants) (S : State) (who : Who) (call : Call) (reply : Reply) → IsValid S → step_answer constants S who call ≡ answer.Reply reply
    → reply.errno ≢ Success → step_state constants S who call ≡ failed S who
failed_step constants S who call reply valid is other =
    ap (λ a. release (waits_if a who (waiting constants call who (S.clock + 1000)) (put_all (outcome constants S who call).updates (tick S)))) is
    ∙ ap (λ us. release (put_all us (tick S))) (sets_nothing_at_error constants S who call reply is other) ∙ release_valid (tick S) (tick_valid S valid)

pub error_keeps : (constants : Constants) (S : State) (who : Who) (call : Call) (reply : Reply) (T : State)
    → IsStep constants S who call (answer.Reply reply) T → IsValid S → reply.errno ≢ Success → T ≡ failed S who
error_keeps constants S who call reply T (inl done) valid other = done.1 ∙ failed_step constants S who call reply valid (sym done.0) other
error_keeps constants S who call reply T (inr lacking) valid other = lacking.2
