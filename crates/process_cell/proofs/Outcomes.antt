-- What the kernel tells of what a thread asked for is what contracts see of the process afterwards.
--     left_after_call, left_by_birth, left_after_wake      the turns that are left
--     plain_call, plain_wake, plain_end, asked_tells      what contracts see after a call, a wake or an end from outside
--     born_some, born_none, none_tells, child_tells      after a proc_fork, without a child and with one
use Rattle.std.proofs.Common.{◌≡◌, ◌≢◌, ℕ, Bool, true, false, List, [], ◌∷◌, ◌++◌, ◌-◌, Option, None, Some, if◌then◌else◌, refl, sym, ap, subst, ◌∙◌}
use Rattle.std.specs.FinMap.{get, insert, remove}
use Rattle.abi_types.specs.declared.reply.Answer.{Answer}
use Rattle.abi_types.specs.declared.call.Call.{Call}
use Rattle.abi_types.specs.declared.call.Call.TheVariants.{ProcExec, ProcFork}
use Rattle.abi_types.specs.declared.reply.Answer.TheVariants as answer
use Rattle.abi_types.specs.declared.reply.Payload.{Payload}
use Rattle.abi_types.specs.declared.reply.Payload.TheVariants.{Image}
use Rattle.abi_types.specs.declared.wake.WakeIn.{WakeIn}
use Rattle.run_types.specs.declared.history.Act.{Act}
use Rattle.run_types.specs.declared.history.Act.TheVariants as act
use Rattle.run_types.specs.declared.history.Entry.{Entry}
use Rattle.run_types.specs.declared.launch.Launch.{Launch}
use Rattle.maps.specs.Maps.{get-insert-same, get-insert-other, same_around}
use Rattle.kernel_model.specs.State.{thread_of}
use Rattle.kernel_model.specs.Threads.{child_told, is_success}
use Rattle.kernel_model.proofs.Tests.{none_is_no, not_true}
use Rattle.tree_model.specs.Grants.{MayBegin}
use Rattle.run_model.specs.Own.{own}
use Rattle.run_model.specs.World.{World, Guest, world, apply, turned, or_no_guest, guest_of, thread_at, turned_guest_by, answered_guest, begun_guest, called_guest, less_share, share}
use Rattle.run_model.proofs.Histories.{world_more, apply_is, guest_turned}
use Rattle.run_model.proofs.Births.{one_contains}
use Rattle.run_model.proofs.Registers.{call_guest}
use Rattle.run_model.proofs.Worlds.{born_guest}
use Rattle.shared_history.specs.Entries.{head_of, entry_of, answered_call}
use Rattle.shared_history.specs.Passes.{IsSeen, Later, Passing}
use Rattle.kernel_cell.specs.Acting.{Became, Entered, HasForked, IsActed, IsForkedOn, IsNotReady, MayCome, by_number, child_of, going_on}
use Rattle.kernel_cell.specs.Acting as Acting
use Rattle.kernel_cell.specs.Results.{act_of}
use Rattle.kernel_cell.specs.Asking.{Answers, HasNoChild, IsWake}
use Rattle.kernel_cell.specs.Results.{Threads, with_made}
use Rattle.kernel_cell.specs.declared.results.After.{After}
use Rattle.kernel_cell.specs.declared.results.After.TheVariants as to
use Rattle.kernel_cell.specs.declared.results.Asked.{Asked}
use Rattle.kernel_cell.specs.declared.results.Asked.TheVariants as asked
use Rattle.kernel_cell.specs.declared.results.Body.{Body}
use Rattle.kernel_cell.specs.declared.results.Came.{Came}
use Rattle.kernel_cell.specs.declared.results.Came.TheVariants as came
use Rattle.kernel_cell.specs.declared.results.Doing.{Doing}
use Rattle.kernel_cell.specs.declared.results.Doing.TheVariants as doing
use Rattle.kernel_cell.specs.declared.results.EndBy.{EndBy}
use Rattle.kernel_cell.specs.declared.results.EndBy.TheVariants as end_by
use Rattle.kernel_cell.proofs.PassOutcomes.{own_entered}
use Rattle.process_cell.specs.Phases.{alone, is_yield, phase_after, threads_after}
use Rattle.process_cell.specs.Process.{Stands, standing_of}
use Rattle.process_cell.specs.Standing.{Standing}
use Rattle.process_cell.specs.Steps.{Becomes, Enters, EntersFork, IsAsked, IsForked, asks_way, born, running, waiting}
use Rattle.process_cell.specs.declared.results.Phase.{Phase}
use Rattle.process_cell.specs.declared.results.Phase.TheVariants as phase
use Rattle.process_cell.proofs.Ties.{does_none, settled, stands_then}

-- ---- the turns that a call and a wake leave

-- the guest of a process after its thread's call, which makes no child with its number
guest_after_call : (w : World) (moment p t : ℕ) (turns : List ℕ) (call : Call) (answered : Answer) → child_told call answered ≢ Some p
    → guest_of (apply w (answered_call (head_of moment p t turns) call None answered)) p ≡ answered_guest p (turned_guest_by turns (guest_of w p)) t call answered
guest_after_call w moment p t turns call answered other =
    ap (λ (v : World). guest_of v p) (apply_is w (answered_call (head_of moment p t turns) call None answered))
    ∙ call_guest (turned w p turns) (thread_at w.state p t) call answered other
    ∙ ap (λ (g : Guest). answered_guest p g t call answered) (guest_turned w p turns)

guest_after_wake : (w : World) (moment p t : ℕ) (turns : List ℕ) (call : Call) (given : WakeIn) (answered : Answer)
    → guest_of (apply w (answered_call (head_of moment p t turns) call (Some given) answered)) p
    ≡ called_guest (turned_guest_by turns (guest_of w p)) t call answered
guest_after_wake w moment p t turns call given answered =
    ap (λ (v : World). guest_of v p) (apply_is w (answered_call (head_of moment p t turns) call (Some given) answered))
    ∙ ap or_no_guest (get-insert-same (turned w p turns).guests p _)
    ∙ ap (λ (g : Guest). called_guest g t call answered) (guest_turned w p turns)

exec_left : (done : Bool) (a b : Guest) (n : ℕ) → a.left ≡ n → b.left ≡ n → (if done then a else b).left ≡ n
exec_left true a b n first second = first
exec_left false a b n first second = second

begun_left : (guest : Guest) (p t : ℕ) (bytes : List ℕ) (payload : Payload) → (begun_guest guest p t bytes payload).left ≡ guest.left
begun_left guest p t bytes (Image elf canary) = refl
begun_left guest p t bytes payload = refl

less_left : (child : Option ℕ) (a b : Guest) → a.left ≡ b.left → (less_share child a).left ≡ (less_share child b).left
less_left None a b same = same
less_left (Some child) a b same = ap (λ (n : ℕ). n - share n) same

-- a call leaves its process the turns that it gives to no child
answered_left : (p : ℕ) (guest : Guest) (t : ℕ) (call : Call) (given : Answer)
    → (answered_guest p guest t call given).left ≡ (less_share (child_told call given) guest).left
answered_left p guest t (ProcExec fd bytes fds) (answer.Parked writes) = refl
answered_left p guest t (ProcExec fd bytes fds) (answer.Reply reply) =
    exec_left (is_success reply.errno) (begun_guest guest p t bytes reply.payload) (called_guest guest t (ProcExec fd bytes fds) (answer.Reply reply)) guest.left
    (begun_left guest p t bytes reply.payload) refl
answered_left p guest t (ProcFork left) given =
    less_left (child_told (ProcFork left) given) (called_guest guest t (ProcFork left) given) guest refl
answered_left p guest t call given = refl

-- a call that makes no child, or a wake
abbrev pub IsPlain : Asked → Type 0
IsPlain (asked.Calls call) = HasNoChild call
IsPlain asked.Wakes = Unit {0}
IsPlain (asked.Ends how) = ⊥

-- a call that is no proc_fork makes no child
tells_none : (call : Call) (given : Answer) → HasNoChild call → child_told call given ≡ None
tells_none (ProcFork left) given plain = absurd plain
tells_none call given plain = refl

module _ (launch : Launch) (log after : List Entry) (p t : ℕ) (turns : List ℕ) (what : Asked) (entered : Entered launch log p t turns what after) (was : Guest)
    (was_is : was ≡ turned_guest_by turns (guest_of (world launch log) p)) where
  abbrev w : World
  w = world launch log

  -- the world after the entry
  after_is : (a : Act) → entered.act ≡ a → world launch after ≡ apply w (entry_of (head_of entered.moment p t turns) a)
  after_is a is =
      ap (world launch) entered.last
      ∙ world_more launch log (entry_of (head_of entered.moment p t turns) entered.act)
      ∙ ap (λ (x : Act). apply w (entry_of (head_of entered.moment p t turns) x)) is

  left_after_call : (call : Call) (given : Answer) (guest : Guest) → entered.act ≡ act.Call call given → guest ≡ guest_of (world launch after) p
      → child_told call given ≢ Some p → guest.left ≡ (less_share (child_told call given) was).left
  left_after_call call given guest is guest_is other =
      ap (λ (g : Guest). g.left) guest_is
      ∙ ap (λ (y : World). (guest_of y p).left) (after_is (act.Call call given) is)
      ∙ ap (λ (g : Guest). g.left) (guest_after_call w entered.moment p t turns call given other)
      ∙ answered_left p (turned_guest_by turns (guest_of w p)) t call given
      ∙ sym (ap (λ (g : Guest). (less_share (child_told call given) g).left) was_is)

  -- a child has a sixteenth of what was left
  left_by_birth : (call : Call) (given : Answer) (q : ℕ) (child : Guest) → entered.act ≡ act.Call call given → child ≡ guest_of (world launch after) q
      → child_told call given ≡ Some q → child.left ≡ share was.left
  left_by_birth call given q child is child_is told =
      ap (λ (g : Guest). g.left) child_is
      ∙ ap (λ (y : World). (guest_of y q).left) (after_is (act.Call call given) is)
      ∙ ap (λ (g : Guest). g.left) (born_guest w (answered_call (head_of entered.moment p t turns) call None given) q (one_contains (child_told call given) q told))
      ∙ ap (λ (g : Guest). share g.left) (guest_turned w p turns)
      ∙ sym (ap (λ (g : Guest). share g.left) was_is)

  left_after_wake : (call : Call) (given : WakeIn) (answered : Answer) (guest : Guest) → entered.act ≡ act.Wake call given answered
      → guest ≡ guest_of (world launch after) p → guest.left ≡ was.left
  left_after_wake call given answered guest is guest_is =
      ap (λ (g : Guest). g.left) guest_is
      ∙ ap (λ (y : World). (guest_of y p).left) (after_is (act.Wake call given answered) is)
      ∙ ap (λ (g : Guest). g.left) (guest_after_wake w entered.moment p t turns call given answered)
      ∙ sym (ap (λ (g : Guest). g.left) was_is)

  -- where the process lives on without a child all turns stay
  left_kept : IsPlain what → (guest : Guest) → guest ≡ guest_of (world launch after) p → guest.left ≡ was.left
  left_kept plain guest guest_is = left_by what plain entered.answers
    where
      left_by : (asks : Asked) → IsPlain asks → Answers asks entered.act → guest.left ≡ was.left
      left_by (asked.Calls call) none answers =
          left_after_call call answers.0 guest answers.1 guest_is (λ own. none_is_no p (sym (tells_none call answers.0 none) ∙ own))
          ∙ ap (λ (o : Option ℕ). (less_share o was).left) (tells_none call answers.0 none)
      left_by asked.Wakes none answers = left_after_wake answers.0 answers.1 answers.2 guest answers.3 guest_is
      left_by (asked.Ends how) none answers = absurd none

-- ---- threads

no_end : (es : List Entry) (e : Entry) → es ++ e ∷ [] ≢ []
no_end [] e is = absurd (cc is)
no_end (x ∷ es) e is = absurd (cc is)

-- what a thread does that asks so
abbrev pub doing_of : Asked → Doing
doing_of asked.Wakes = doing.Waits
doing_of what = doing.Runs

-- a thread does what it did
put_same : (threads : Threads) (t : ℕ) (what : Doing) → get threads t ≡ Some what → insert threads t what ≡ threads
put_same threads t what is =
    same_around (insert threads t what) threads t (get-insert-same threads t what ∙ sym is) (λ q apart. get-insert-other threads t what q apart)

module _ (t : ℕ) (threads threads' : Threads) where
  runs_so : (what : Asked) → MayCome what to.Runs → get threads t ≡ Some (doing_of what) → threads' ≡ threads
      → insert threads' t doing.Runs ≡ running what t threads
  runs_so (asked.Calls call) may does is = ap (λ (m : Threads). insert m t doing.Runs) is ∙ put_same threads t doing.Runs does
  runs_so asked.Wakes may does is = ap (λ (m : Threads). insert m t doing.Runs) is
  runs_so (asked.Ends how) may does is = absurd may

  waits_so : (what : Asked) → MayCome what to.Waits → get threads t ≡ Some (doing_of what) → threads' ≡ threads
      → insert threads' t doing.Waits ≡ waiting what t threads
  waits_so (asked.Calls call) may does is = ap (λ (m : Threads). insert m t doing.Waits) is
  waits_so asked.Wakes may does is = ap (λ (m : Threads). insert m t doing.Waits) is ∙ put_same threads t doing.Waits does
  waits_so (asked.Ends how) may does is = absurd may

-- ---- a call, a wake and an end from outside

-- the thread gives way where what it asked for asks for that
abbrev pub GivesWay : Asked → Bool → Type 0
GivesWay (asked.Calls call) gives = is_yield call ≡ true → gives ≡ true
GivesWay asked.Wakes gives = gives ≡ true
GivesWay (asked.Ends how) gives = Unit {0}

end_keeps_way : (how : EndBy) → asks_way (act_of how) ≡ false
end_keeps_way (end_by.Trap signal) = refl
end_keeps_way end_by.Expire = refl

gives_so : (what : Asked) (a : Act) (gives : Bool) → Answers what a → GivesWay what gives → asks_way a ≡ true → gives ≡ true
gives_so (asked.Calls call) a gives answers way asks = way (sym (ap asks_way answers.1) ∙ asks)
gives_so asked.Wakes a gives answers way asks = way
gives_so (asked.Ends how) a gives answers way asks = absurd (not_true (sym (ap asks_way answers ∙ end_keeps_way how) ∙ asks))

-- a call that is no proc_fork
pub plain_call : (call : Call) → HasNoChild call → (other : Call) → asked.Calls call ≡ asked.Calls other → HasNoChild other
plain_call call none other is = let same : call ≡ other = cc is in subst HasNoChild same none

pub plain_wake : (other : Call) → asked.Wakes ≡ asked.Calls other → HasNoChild other
plain_wake other is = absurd (cc is)

pub plain_end : (how : EndBy) (other : Call) → asked.Ends how ≡ asked.Calls other → HasNoChild other
plain_end how other is = absurd (cc is)

-- an end from outside ends
ends_only : (how : EndBy) (x : After) → MayCome (asked.Ends how) x → x ≡ to.Ended
ends_only how to.Runs may = absurd may
ends_only how (to.Starts u) may = absurd may
ends_only how to.Waits may = absurd may
ends_only how to.Leaves may = absurd may
ends_only how to.Begins may = absurd may
ends_only how to.Lost may = absurd may
ends_only how to.Ended may = refl

module _ (launch : Launch) (begins : MayBegin launch.tree launch.grants) (v w : Passing) (t : ℕ) (body body' : Body) (now : Phase)
    (stands : Stands (world launch v.seen) v.pid body.threads body.turns body.guest) where
  abbrev before : Standing
  before = standing_of v body now

  abbrev left_as : Came After → Standing
  left_as result = standing_of w (settled body' t result) (phase_after result)

  own_none : (log : List Entry) → w.pid ≡ v.pid → w.seen ≡ log → Later v.pid v.seen log → own w.pid w.seen ≡ own v.pid v.seen
  own_none log pid same later = (λ i. own (pid i) (same i)) ∙ sym later.same

  pub enters : (what : Asked) (log : List Entry) (after : Standing) → after.own ≡ own w.pid w.seen → after.turns ≡ [] → w.pid ≡ v.pid → Later v.pid v.seen log
      → Entered launch log v.pid t body.turns what w.seen → Enters t before what after
  enters what log after mine none pid later entered = record {
    act = entered.act;
    answers = entered.answers;
    moment = entered.moment;
    own = mine ∙ ap (λ (p : ℕ). own p w.seen) pid ∙ own_entered launch log w.seen v.pid t body.turns what entered
        ∙ ap (λ (es : List Entry). es ++ entry_of (head_of entered.moment v.pid t body.turns) entered.act ∷ []) (sym later.same);
    turns = none;
  }

  module _ (what : Asked) (does : get body.threads t ≡ Some (doing_of what)) where
    became_by : IsPlain what → (log : List Entry) → IsSeen launch v.pid w.seen → Later v.pid v.seen log → Entered launch log v.pid t body.turns what w.seen
        → (a : Act) (x : After) → MayCome what x → Became launch log v.pid t w.seen body'.guest a x → body'.threads ≡ with_made x body.threads
        → Becomes t what before (left_as (came.Done x)) a x
    became_by plain log seen later entered a x may became is = by x may became is
      where
        at : Stands (world launch log) v.pid body.threads body.turns body.guest
        at = stands_then launch begins v w t body body' stands log seen later what entered

        left : body'.guest ≡ guest_of (world launch w.seen) v.pid → body'.guest.left ≡ body.guest.left
        left guest_is = left_kept launch log w.seen v.pid t body.turns what entered body.guest at.guest_is plain body'.guest guest_is

        by : (y : After) → MayCome what y → Became launch log v.pid t w.seen body'.guest a y → body'.threads ≡ with_made y body.threads
            → Becomes t what before (left_as (came.Done y)) a y
        by to.Runs may became is = record { lives = refl; left = left became.0.guest_is; threads_are = runs_so t body.threads body'.threads what may does is }
        by (to.Starts u) may became is = (
          record { lives = refl; left = left became.0.guest_is; threads_are = is },
          does_none (get body.threads u) (thread_of (world launch log).state v.pid u) (at.are u) became.1.absent,
        )
        by to.Waits may became is = record { lives = refl; left = left became.0.guest_is; threads_are = waits_so t body.threads body'.threads what may does is }
        by to.Leaves may became is = record { lives = refl; left = left became.0.guest_is; threads_are = ap (λ (m : Threads). remove m t) is }
        by to.Begins may became is = record { lives = refl; left = left became.0.guest_is; threads_are = refl }
        by to.Lost may became is = (refl, became)
        by to.Ended may became is = refl

  -- what became of it, where it may be the end of the process from outside
  became_so : (what : Asked) → get body.threads t ≡ Some (doing_of what) → (plain : (call : Call) → what ≡ asked.Calls call → HasNoChild call) → (log : List Entry)
      → IsSeen launch v.pid w.seen → Later v.pid v.seen log → Entered launch log v.pid t body.turns what w.seen
      → (a : Act) (x : After) → MayCome what x → Became launch log v.pid t w.seen body'.guest a x → body'.threads ≡ with_made x body.threads
      → Becomes t what before (left_as (came.Done x)) a x
  became_so (asked.Calls call) does plain log seen later entered a x may became is =
      became_by (asked.Calls call) does (plain call refl) log seen later entered a x may became is
  became_so asked.Wakes does plain log seen later entered a x may became is = became_by asked.Wakes does tt log seen later entered a x may became is
  became_so (asked.Ends how) does plain log seen later entered a x may became is =
      subst (λ (y : After). Becomes t (asked.Ends how) before (left_as (came.Done y)) a y) (sym (ends_only how x may)) refl

  asked_by : (what : Asked) (result : Came After) (gives : Bool) → get body.threads t ≡ Some (doing_of what) → (IsWake what → now ≡ phase.Lives)
      → ((call : Call) → what ≡ asked.Calls call → HasNoChild call) → GivesWay what gives → IsActed launch v t body what body' w result
      → IsAsked launch t what before (left_as result) result gives
  unfolding enters
  asked_by what (came.Done x) gives does lives plain way told =
      let on = told.happens.came in
      let kept = told.happens.kept in (
        enters what told.log (left_as (came.Done x)) refl kept.0 told.pid told.later on.0,
        on.1.0,
        became_so what does plain told.log told.seen told.later on.0 on.0.act x on.1.0 on.1.1 kept.1,
        gives_so what on.0.act gives on.0.answers way,
      )
  asked_by asked.Wakes came.NotReady gives does lives plain way told = (
    (λ i. record {
      pid = told.pid i;
      phase = sym (lives tt) i;
      threads = (told.happens.kept i).threads;
      left = (told.happens.kept i).guest.left;
      turns = (told.happens.kept i).turns;
      seen = w.seen;
      own = own_none told.log told.pid told.happens.came.0 told.later i;
    }),
    subst (λ (x : ℕ × List Entry). IsNotReady launch x.1 x.0 t) (λ i. (sym told.pid i, sym told.happens.came.0 i)) told.happens.came.1,
    tt,
  )
  asked_by (asked.Calls call) came.NotReady gives does lives plain way told = absurd told.happens.came.2
  asked_by (asked.Ends how) came.NotReady gives does lives plain way told = absurd told.happens.came.2
  asked_by what came.Gone gives does lives plain way told = (refl, own_none told.log told.pid told.happens.came.0 told.later)
  asked_by what came.NoMemory gives does lives plain way told = (refl, own_none told.log told.pid told.happens.came.0 told.later)

  pub asked_tells : (what : Asked) (result : Came After) (gives : Bool) (threads' : Threads) (later : Phase) (old : Standing) → get body.threads t ≡ Some (doing_of what)
      → (IsWake what → now ≡ phase.Lives) → ((call : Call) → what ≡ asked.Calls call → HasNoChild call) → GivesWay what gives
      → IsActed launch v t body what body' w result → threads' ≡ threads_after body'.threads t result → later ≡ phase_after result → before ≡ old
      → IsAsked launch t what old (standing_of w (record body' { threads = threads' }) later) result gives
  asked_tells what result gives threads' later old does lives plain way told threads_are phase_is is =
      subst (λ (x : Standing × Threads × Phase). IsAsked launch t what x.0 (standing_of w (record body' { threads = x.1 }) x.2) result gives)
      (λ i. (is i, sym threads_are i, sym phase_is i)) (asked_by what result gives does lives plain way told)

-- ---- a proc_fork

-- what a guest asks for by it
abbrev forking : Guest → Asked
forking guest = asked.Calls (ProcFork guest.left)

-- a child came of it, or none
pub born_some : (result : Came (Option (Passing × Guest))) (child : Passing × Guest) → born result ≡ Some child → result ≡ came.Done (Some child)
born_some (came.Done made) child is = ap came.Done is
born_some came.NotReady child is = absurd (cc is)
born_some came.Gone child is = absurd (cc is)
born_some came.NoMemory child is = absurd (cc is)

-- no child came of it
abbrev pub HasNone : Came (Option (Passing × Guest)) → Type 0
HasNone (came.Done (Some child)) = ⊥
HasNone other = Unit {0}

pub born_none : (result : Came (Option (Passing × Guest))) → born result ≡ None → HasNone result
born_none (came.Done None) is = tt
born_none (came.Done (Some child)) is = absurd (cc is)
born_none came.NotReady is = tt
born_none came.Gone is = tt
born_none came.NoMemory is = tt

module _ (launch : Launch) (begins : MayBegin launch.tree launch.grants) (v w : Passing) (t : ℕ) (body body' : Body) (now : Phase)
    (stands : Stands (world launch v.seen) v.pid body.threads body.turns body.guest) (runs : get body.threads t ≡ Some doing.Runs) where
  abbrev parent : Standing
  parent = standing_of v body now

  abbrev forked : Came (Option (Passing × Guest)) → Standing
  forked result = standing_of w (settled body' t (going_on result)) (phase_after (going_on result))

  threads_stay : body'.threads ≡ body.threads → insert body'.threads t doing.Runs ≡ body.threads
  threads_stay same = ap (λ (m : Threads). insert m t doing.Runs) same ∙ put_same body.threads t doing.Runs runs

  enters_fork : (result : Came (Option (Passing × Guest))) (log : List Entry) (child : Option ℕ) → body'.turns ≡ [] → w.pid ≡ v.pid → Later v.pid v.seen log
      → (entered : Entered launch log v.pid t body.turns (forking body.guest) w.seen) → child_of entered.act ≡ child → EntersFork t parent (forked result) child
  unfolding enters
  enters_fork result log child none pid later entered tells =
      record { entry = enters launch begins v w t body body' now stands (forking body.guest) log (forked result) refl none pid later entered; tells = tells }

  none_by : (result : Came (Option (Passing × Guest))) (gives : Bool) → Acting.IsForked launch v t body (ProcFork body.guest.left) body' w result → HasNone result
      → IsForked t parent (forked result) (going_on result) gives None
  none_by (came.Done (Some child)) gives told none = absurd none
  none_by (came.Done None) gives told none =
      let on = told.happens.0.came in
      let kept = told.happens.0.kept in
      let at = stands_then launch begins v w t body body' stands told.log told.seen told.later (forking body.guest) on.0 in (
        record {
          lives = refl;
          left = left_after_call launch told.log w.seen v.pid t body.turns (forking body.guest) on.0 body.guest at.guest_is (ProcFork body.guest.left)
              on.0.answers.0 body'.guest on.0.answers.1 on.1.0.guest_is
              (λ own. none_is_no v.pid (sym on.1.2 ∙ ap child_of on.0.answers.1 ∙ own))
              ∙ ap (λ (o : Option ℕ). (less_share o body.guest).left) (sym (ap child_of on.0.answers.1) ∙ on.1.2);
          threads_are = threads_stay kept.1;
        },
        enters_fork (came.Done None) told.log None kept.0 told.pid told.later on.0 on.1.2,
      )
  none_by came.NotReady gives told none = absurd told.happens.0.came.2
  none_by came.Gone gives told none =
      (refl, own_none launch begins v w t body body' now stands told.log told.pid told.happens.0.came.0 told.later)
  none_by came.NoMemory gives told none =
      (refl, own_none launch begins v w t body body' now stands told.log told.pid told.happens.0.came.0 told.later)

  -- the child is another process, since no entry is of it
  is_other : (log : List Entry) (what : Asked) → Entered launch log v.pid t body.turns what w.seen → (q : ℕ) → own q w.seen ≡ [] → Some q ≢ Some v.pid
  is_other log what entered q none same =
      let there : q ≡ v.pid = cc same in
      no_end (own v.pid log) _
      (sym (own_entered launch log w.seen v.pid t body.turns what entered) ∙ ap (λ (p : ℕ). own p w.seen) (sym there) ∙ none)

  child_by : (pass : Passing) (begun : Guest) → Acting.IsForked launch v t body (ProcFork body.guest.left) body' w (came.Done (Some (pass, begun)))
      → IsForked t parent (forked (came.Done (Some (pass, begun)))) (came.Done to.Runs) true
      (Some (standing_of pass (record { guest = begun; threads = alone t; turns = [] }) phase.Lives))
  child_by pass begun told =
      let on = told.happens.0.came in
      let kept = told.happens.0.kept in
      let what = forking body.guest in
      let at = stands_then launch begins v w t body body' stands told.log told.seen told.later what on.0 in
      let tells : child_told (ProcFork body.guest.left) on.0.answers.0 ≡ Some pass.pid = sym (ap child_of on.0.answers.1) ∙ on.1.2 in (
        record {
          lives = refl;
          left = left_after_call launch told.log w.seen v.pid t body.turns what on.0 body.guest at.guest_is (ProcFork body.guest.left) on.0.answers.0 body'.guest
              on.0.answers.1 on.1.0.guest_is (λ own. is_other told.log what on.0 pass.pid on.1.3.none (sym tells ∙ own))
              ∙ ap (λ (o : Option ℕ). (less_share o body.guest).left) tells;
          threads_are = threads_stay kept.1;
        },
        enters_fork (came.Done (Some (pass, begun))) told.log (Some pass.pid) kept.0 told.pid told.later on.0 on.1.2,
        record {
          lives = refl;
          threads_are = refl;
          left = left_by_birth launch told.log w.seen v.pid t body.turns what on.0 body.guest at.guest_is (ProcFork body.guest.left) on.0.answers.0 pass.pid begun
              on.0.answers.1 on.1.3.goes_on.guest_is tells;
          turns = refl;
          seen = told.happens.1;
          none = ap (own pass.pid) told.happens.1 ∙ on.1.3.none;
        },
        refl,
      )

  module _ (threads' : Threads) (later : Phase) (old : Standing) (ran : Came After) (result : Came (Option (Passing × Guest)))
      (told : Acting.IsForked launch v t body (ProcFork body.guest.left) body' w result) (ran_is : ran ≡ going_on result) (threads_are : threads' ≡ threads_after body'.threads t ran)
      (phase_is : later ≡ phase_after ran) (is : parent ≡ old) where
    forked_so : (gives : Bool) (child : Option Standing) → IsForked t parent (forked result) (going_on result) gives child
        → IsForked t old (standing_of w (record body' { threads = threads' }) later) ran gives child
    forked_so gives child so =
        subst (λ (x : Standing × Threads × Phase × Came After). IsForked t x.0 (standing_of w (record body' { threads = x.1 }) x.2) x.3 gives child)
        (λ i. (is i, sym (threads_are ∙ ap (threads_after body'.threads t) ran_is) i, sym (phase_is ∙ ap phase_after ran_is) i, sym ran_is i)) so

    pub none_tells : (gives : Bool) → HasNone result → IsForked t old (standing_of w (record body' { threads = threads' }) later) ran gives None
    none_tells gives none = forked_so gives None (none_by result gives told none)

  module _ (threads' : Threads) (later : Phase) (old : Standing) (ran : Came After) (result : Came (Option (Passing × Guest)))
      (told : Acting.IsForked launch v t body (ProcFork body.guest.left) body' w result) (ran_is : ran ≡ going_on result) (threads_are : threads' ≡ threads_after body'.threads t ran)
      (phase_is : later ≡ phase_after ran) (is : parent ≡ old) where
    pub child_tells : (pass : Passing) (begun : Guest) (one : Threads) (noted : List ℕ) (gives : Bool) → result ≡ came.Done (Some (pass, begun)) → one ≡ alone t
        → noted ≡ [] → gives ≡ true
        → IsForked t old (standing_of w (record body' { threads = threads' }) later) ran gives
        (Some (standing_of pass (record { guest = begun; threads = one; turns = noted }) phase.Lives))
    child_tells pass begun one noted gives made one_is noted_is way =
        subst (λ (x : Threads × List ℕ × Bool). IsForked t old (standing_of w (record body' { threads = threads' }) later) ran x.2
        (Some (standing_of pass (record { guest = begun; threads = x.0; turns = x.1 }) phase.Lives))) (λ i. (sym one_is i, sym noted_is i, sym way i))
        (forked_so threads' later old ran (came.Done (Some (pass, begun)))
        (subst (Acting.IsForked launch v t body (ProcFork body.guest.left) body' w) made told) (ran_is ∙ ap going_on made) threads_are phase_is is true
        (Some (standing_of pass (record { guest = begun; threads = alone t; turns = [] }) phase.Lives))
        (child_by pass begun (subst (Acting.IsForked launch v t body (ProcFork body.guest.left) body' w) made told)))
