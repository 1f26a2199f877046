-- What a pass has seen after a call on the locked kernel.
--     made_since, asks_there      what was so when the pass was last here is so still
--     first_held, held_then, fork_hands      the processes that the keeper holds
--     answers_busy, own_entered      an entry of the process is its own
--     asks_here, asks_call_here, is_seen, seen_here, acted_here      what happened to the history is what the pass has seen
--     seen_since, after_look      a look
use Rattle.std.proofs.Common.{◌≡◌, ℕ, ◌+◌, Bool, false, not, ◌&&◌, List, [], ◌∷◌, ◌++◌, Contains, Option, None, Some, IsTrue, ◌↔◌, refl, sym, ap, subst, ◌∙◌, eqb, eq-eqb, arith, length, length-append}
use Rattle.std.specs.FinMap.{get}
use Rattle.abi_types.specs.declared.status.Status.TheVariants.{Live}
use Rattle.abi_types.specs.declared.call.Call.{Call}
use Rattle.abi_types.specs.declared.thread.Thread.TheVariants.{Waits}
use Rattle.run_types.specs.declared.history.Act.{Act}
use Rattle.run_types.specs.declared.history.Act.TheVariants as act
use Rattle.run_types.specs.declared.history.Entry.{Entry}
use Rattle.run_types.specs.declared.launch.Launch.{Launch}
use Rattle.tree_model.specs.Grants.{MayBegin}
use Rattle.kernel_model.specs.State.{State, thread_in}
use Rattle.run_model.specs.Legal.{AreWhole, Asks as AsksAct, Legal}
use Rattle.run_model.specs.Own.{is_idle, own, Made, IsLiveIn, Same}
use Rattle.run_model.specs.World.{Guest, come_to, made_since as since_made, thread_at, world, guest_of, turned_guest_by}
use Rattle.run_model.proofs.Asks.{asks_stay, whole_there}
use Rattle.run_model.proofs.Own.{made_later, same_threads, left_alone}
use Rattle.shared_history.specs.Entries.{head_of, entry_of}
use Rattle.shared_history.specs.Passes.{Passing, IsSeen, Later}
use Rattle.shared_history.specs.Rule.{tail_of}
use Rattle.shared_history.proofs.Histories.{own_more}
use Rattle.shared_history.proofs.Owners.{contains_none, contains_one}
use Rattle.kernel_cell.specs.Acting.{Entered, HasSeen, IsActedOn, IsCame, IsForkedOn, Looked, Seen, by_number}
use Rattle.kernel_cell.specs.Asking.{Answers, Asks, AsksCall, AsksFor, AsksWake}
use Rattle.kernel_cell.specs.Results.{act_of}
use Rattle.kernel_cell.specs.Handing.{held_after, held_without, with_pass, MayHandOut}
use Rattle.kernel_cell.specs.declared.results.After.{After}
use Rattle.kernel_cell.specs.declared.results.Asked.{Asked}
use Rattle.kernel_cell.specs.declared.results.Asked.TheVariants as asked
use Rattle.kernel_cell.specs.declared.results.Body.{Body}
use Rattle.kernel_cell.specs.declared.results.EndBy.{EndBy}
use Rattle.kernel_cell.specs.declared.results.EndBy.TheVariants as end_by
use Rattle.kernel_cell.specs.declared.results.Came.{Came}
use Rattle.kernel_cell.specs.declared.results.Came.TheVariants as came

-- ---- the history since the pass was last here

module _ (launch : Launch) (p : ℕ) (seen log : List Entry) (legal : Legal launch log) (later : Later p seen log) where
  -- the process that was made is made
  pub made_since : Made (world launch seen) p → Made (world launch log) p
  made_since made =
      subst (λ (h : List Entry). Made (world launch h) p) later.beginning.1
      (made_later launch seen later.beginning.0 p (subst (Legal launch) (sym later.beginning.1) legal) made)

  -- the process is what it was, if it is live
  same_since : MayBegin launch.tree launch.grants → Made (world launch seen) p → IsLiveIn (world launch log) p → Same (world launch log) (world launch seen) p
  same_since begins made live = left_alone launch seen later.beginning.0 log p begins legal (sym later.beginning.1) later.same made live

-- the moment since which a thread does an act, and how far its wait has come, matter where it waits, and there the call that it waits in says them
asks_at : (S T : State) (p t : ℕ) (guest : Guest) (turns : List ℕ) (a : Act) → AsksAct T (thread_at S p t) guest turns a → AsksAct T (thread_at T p t) guest turns a
asks_at S T p t guest turns (act.Call call given) asks = asks
asks_at S T p t guest turns (act.Wake call given answered) asks = (
  asks.0,
  (
    asks.1.0,
    asks.1.1,
    ap come_to asks.1.3,
    asks.1.3 ∙ ap (λ (x : ℕ). Some (Waits call x asks.1.0 asks.1.1)) (sym (ap (since_made (T.clock + 1000)) asks.1.3)),
  ),
  asks.2,
)
asks_at S T p t guest turns (act.Trap signal) asks = asks
asks_at S T p t guest turns act.Expire asks = asks
asks_at S T p t guest turns act.Idle asks = asks

-- what a thread of it asks for it asks for still
pub asks_since : (launch : Launch) → MayBegin launch.tree launch.grants → (p t : ℕ) (seen log : List Entry) (turns : List ℕ) (a : Act) → Legal launch log → Later p seen log
    → Made (world launch seen) p → AsksFor (world launch seen) p t turns a → IsLiveIn (world launch log) p → AsksFor (world launch log) p t turns a
asks_since launch begins p t seen log turns a legal later made asks live =
    let same = same_since launch p seen log legal later begins made live in
    let threads = same_threads (world launch log) (world launch seen) p same in
    asks_at (world launch seen).state (world launch log).state p t (guest_of (world launch log) p) turns a
    (asks_stay (world launch seen) (world launch log) (thread_at (world launch seen).state p t) turns a same.guest threads asks)

pub asks_call_since : (launch : Launch) → MayBegin launch.tree launch.grants → (p t : ℕ) (seen log : List Entry) (turns : List ℕ) (guest : Guest) (call : Call)
    → Legal launch log → Later p seen log → Made (world launch seen) p → AsksCall (world launch seen) p t turns guest call → IsLiveIn (world launch log) p
    → AsksCall (world launch log) p t turns guest call
asks_call_since launch begins p t seen log turns guest call legal later made a live = record {
  guest_is = a.guest_is ∙ ap (turned_guest_by turns) (sym (same_since launch p seen log legal later begins made live).guest);
  registers = a.registers;
  asks = λ given. asks_since launch begins p t seen log turns (act.Call call given) legal later made (a.asks given) live;
}

pub asks_wake_since : (launch : Launch) → MayBegin launch.tree launch.grants → (p t : ℕ) (seen log : List Entry) (turns : List ℕ) (guest : Guest) → Legal launch log
    → Later p seen log
    → Made (world launch seen) p → AsksWake (world launch seen) p t turns guest → IsLiveIn (world launch log) p → AsksWake (world launch log) p t turns guest
asks_wake_since launch begins p t seen log turns guest legal later made a live =
    let same = same_since launch p seen log legal later begins made live in
    let threads = same_threads (world launch log) (world launch seen) p same in
    record {
      guest_is = a.guest_is ∙ ap (turned_guest_by turns) (sym same.guest);
      registers = a.registers;
      whole = subst (λ (g : Guest). AreWhole (world launch log).state p g turns) (sym same.guest)
          (whole_there (world launch seen).state (world launch log).state p threads (guest_of (world launch seen) p) turns a.whole);
      waits = record { thread = a.waits.thread; there = ap (λ o. thread_in o t) threads ∙ a.waits.there; waits = a.waits.waits };
    }

-- what thread t of the pass's process asks for it asks for still
pub asks_there : (launch : Launch) → MayBegin launch.tree launch.grants → (v : Passing) (t : ℕ) (body : Body) (what : Asked) (log : List Entry) → Legal launch log
    → Later v.pid v.seen log → IsSeen launch v.pid v.seen → Asks (world launch v.seen) v.pid t body what → IsLiveIn (world launch log) v.pid
    → Asks (world launch log) v.pid t body what
asks_there launch begins v t body (asked.Calls call) log legal later was asks live =
    (asks_call_since launch begins v.pid t v.seen log body.turns body.guest call legal later was.made asks.0 live, asks.1)
asks_there launch begins v t body asked.Wakes log legal later was asks live =
    asks_wake_since launch begins v.pid t v.seen log body.turns body.guest legal later was.made asks live
asks_there launch begins v t body (asked.Ends how) log legal later was asks live =
    asks_since launch begins v.pid t v.seen log body.turns (act_of how) legal later was.made asks live

-- ---- the processes that the keeper holds

pub first_held : (held : List ℕ) (p : ℕ) → held ≡ p ∷ [] → held ≡ p ∷ tail_of held
first_held held p one = one ∙ ap (λ ps. p ∷ tail_of ps) (sym one)

pub none_behind : (held : List ℕ) (p : ℕ) → held ≡ p ∷ [] → Contains (tail_of held) p → ⊥
none_behind held p one there = contains_none p (subst (λ ps. Contains (tail_of ps) p) one there)

-- those that it holds once a child's pass was handed out
pub held_then : (held : List ℕ) (p : ℕ) (result : Came (Option (ℕ × Guest))) → held ≡ held_after result (p ∷ []) → held_without result held ≡ p ∷ []
held_then held p (came.Done (Some child)) is = ap tail_of is
held_then held p (came.Done None) is = is
held_then held p came.NotReady is = is
held_then held p came.Gone is = is
held_then held p came.NoMemory is = is

-- a list with one more has some
more_is_some : (xs : List Entry) (e : Entry) → xs ++ e ∷ [] ≡ [] → ⊥
more_is_some xs e none = omega (arith, length-append xs (e ∷ []), ap (λ (es : List Entry). length es) none)

-- an entry that answers what a thread asked for is no idle jump, and so its process's own
end_is_busy : (how : EndBy) → is_idle (act_of how) ≡ false
end_is_busy (end_by.Trap signal) = refl
end_is_busy end_by.Expire = refl

pub answers_busy : (what : Asked) (a : Act) → Answers what a → is_idle a ≡ false
answers_busy (asked.Calls call) a answers = ap is_idle answers.1
answers_busy asked.Wakes a answers = ap is_idle answers.3
answers_busy (asked.Ends how) a answers = ap is_idle answers ∙ end_is_busy how

pub own_entered : (launch : Launch) (log after : List Entry) (p t : ℕ) (turns : List ℕ) (what : Asked) (entered : Entered launch log p t turns what after)
    → own p after ≡ own p log ++ entry_of (head_of entered.moment p t turns) entered.act ∷ []
own_entered launch log after p t turns what entered =
    ap (own p) entered.last
    ∙ own_more p log (entry_of (head_of entered.moment p t turns) entered.act)
    (ap (λ b. not b && eqb p p) (answers_busy what entered.act entered.answers) ∙ eq-eqb p p refl)

-- the keeper may hand out the child's pass
pub fork_hands : (launch : Launch) (log after : List Entry) (p t : ℕ) (body : Body) (call : Call) (body' : Body) (held : List ℕ) (result : Came (Option (ℕ × Guest)))
    → IsForkedOn launch log p t body call body' after result → held ≡ held_after result (p ∷ [])
    → MayHandOut launch (record { log = after; held = held }) result
fork_hands launch log after p t body call body' held (came.Done (Some child)) on is = (
  is ∙ ap (λ ps. child.0 ∷ tail_of ps) (sym is),
  (λ there. apart (contains_one p child.0 (subst (λ ps. Contains (tail_of ps) child.0) is there))),
  on.came.1.3.seen,
)
  where
    apart : child.0 ≡ p → ⊥
    apart same = more_is_some (own p log) _ (sym (own_entered launch log after p t body.turns (asked.Calls call) on.came.0)
        ∙ ap (λ q. own q after) (sym same) ∙ on.came.1.3.none)
fork_hands launch log after p t body call body' held (came.Done None) on is = tt
fork_hands launch log after p t body call body' held came.NotReady on is = tt
fork_hands launch log after p t body call body' held came.Gone on is = tt
fork_hands launch log after p t body call body' held came.NoMemory on is = tt

-- ---- what the pass has seen

-- a process that was made stays made
pub made_here : {T : Type 0} (launch : Launch) (log after : List Entry) (p t : ℕ) (turns : List ℕ) (what : Asked) (became : Act → T → Type 0) (result : Came T)
    → IsCame launch log p t turns what became after result → Legal launch after → (q : ℕ) → Made (world launch log) q → Made (world launch after) q
made_here launch log after p t turns what became (came.Done x) on legal q made =
    let e = entry_of (head_of on.0.moment p t turns) on.0.act in
    subst (λ (h : List Entry). Made (world launch h) q) (sym on.0.last)
    (made_later launch log (e ∷ []) q (subst (Legal launch) on.0.last legal) made)
made_here launch log after p t turns what became came.NotReady on legal q made = subst (λ (h : List Entry). Made (world launch h) q) (sym on.0) made
made_here launch log after p t turns what became came.Gone on legal q made = subst (λ (h : List Entry). Made (world launch h) q) (sym on.0) made
made_here launch log after p t turns what became came.NoMemory on legal q made = subst (λ (h : List Entry). Made (world launch h) q) (sym on.0) made

-- the process of the pass was made in the history that is handed out
pub seen_after : {T : Type 0} (launch : Launch) (v : Passing) (log after : List Entry) (t : ℕ) (turns : List ℕ) (what : Asked) (became : Act → T → Type 0) (result : Came T)
    → IsSeen launch v.pid v.seen → Legal launch log → Later v.pid v.seen log → Legal launch after
    → IsCame launch log v.pid t turns what became after result → IsSeen launch v.pid after
seen_after launch v log after t turns what became result was legal later more on = record {
  legal = more;
  made = made_here launch log after v.pid t turns what became result on more v.pid (made_since launch v.pid v.seen log legal later was.made);
}

pub seen_it : (launch : Launch) (v w : Passing) (log after : List Entry) (happened : List Entry → List Entry → Type 0) → Later v.pid v.seen log
    → w ≡ record { pid = v.pid; seen = after } → IsSeen launch v.pid after → happened log after → Seen launch v w happened
seen_it launch v w log after happened later is seen happens =
    subst (λ (x : Passing). Seen launch v x happened) (sym is) (record { pid = refl; seen = seen; log = log; later = later; happens = happens })

-- what the keeper said of the pass u that it took in, which contracts see as v
module _ (launch : Launch) (begins : MayBegin launch.tree launch.grants) (u v : Passing) (t : ℕ) (log here : List Entry) (is : u ≡ v) (same : here ≡ log)
    (legal : Legal launch log) (was : IsSeen launch u.pid u.seen) (later : Later u.pid u.seen log) where
  -- what was asked for is asked for still
  pub asks_here : (body : Body) (what : Asked) → Asks (world launch v.seen) v.pid t body what → IsLiveIn (world launch here) u.pid
      → Asks (world launch here) u.pid t body what
  asks_here body what asks live =
      subst (λ (h : List Entry). Asks (world launch h) u.pid t body what) (sym same)
      (asks_there launch begins u t body what log legal later was (subst (λ (x : Passing). Asks (world launch x.seen) x.pid t body what) (sym is) asks)
      (subst (λ (h : List Entry). IsLiveIn (world launch h) u.pid) same live))

  pub asks_call_here : (turns : List ℕ) (guest : Guest) (call : Call) → AsksCall (world launch v.seen) v.pid t turns guest call → IsLiveIn (world launch here) u.pid
      → AsksCall (world launch here) u.pid t turns guest call
  asks_call_here turns guest call asks live =
      subst (λ (h : List Entry). AsksCall (world launch h) u.pid t turns guest call) (sym same)
      (asks_call_since launch begins u.pid t u.seen log turns guest call legal later was.made
      (subst (λ (x : Passing). AsksCall (world launch x.seen) x.pid t turns guest call) (sym is) asks)
      (subst (λ (h : List Entry). IsLiveIn (world launch h) u.pid) same live))

  pub is_seen : {T : Type 0} (after : List Entry) (turns : List ℕ) (what : Asked) (became : Act → T → Type 0) (result : Came T) → Legal launch after
      → IsCame launch here u.pid t turns what became after result → IsSeen launch u.pid after
  is_seen after turns what became result more on =
      seen_after launch u log after t turns what became result was legal later more
      (subst (λ (h : List Entry). IsCame launch h u.pid t turns what became after result) same on)

  pub seen_here : (w : Passing) (after : List Entry) (happened : Passing → List Entry → List Entry → Type 0) → w ≡ record { pid = u.pid; seen = after }
      → IsSeen launch u.pid after → happened u here after → Seen launch v w (happened v)
  seen_here w after happened handed seen on =
      subst (λ (x : Passing). Seen launch x w (happened x)) is
      (seen_it launch u w log after (happened u) later handed seen (subst (λ (h : List Entry). happened u h after) same on))

  -- the same of the whole history
  pub acted_here : (after : List Entry) (body : Body) (what : Asked) (body' : Body) (result : Came After) → IsActedOn launch here u.pid t body what body' after result
      → IsActedOn launch log v.pid t body what body' after result
  acted_here after body what body' result on =
      subst (λ (x : List Entry × Passing). IsActedOn launch x.0 x.1.pid t body what body' after result) (λ i. (same i, is i)) on

-- what comes of a proc_fork with the child's number comes of it with the pass that the keeper hands out
numbered : (log : List Entry) (result : Came (Option (ℕ × Guest))) → by_number (with_pass log result) ≡ result
numbered log (came.Done (Some child)) = refl
numbered log (came.Done None) = refl
numbered log came.NotReady = refl
numbered log came.Gone = refl
numbered log came.NoMemory = refl

seen_by_child : (log : List Entry) (result : Came (Option (ℕ × Guest))) → HasSeen log (with_pass log result)
seen_by_child log (came.Done (Some child)) = refl
seen_by_child log (came.Done None) = tt
seen_by_child log came.NotReady = tt
seen_by_child log came.Gone = tt
seen_by_child log came.NoMemory = tt

pub fork_seen : (launch : Launch) (log after : List Entry) (p t : ℕ) (body : Body) (call : Call) (body' : Body) (result : Came (Option (ℕ × Guest)))
    (handed : Came (Option (Passing × Guest))) → IsForkedOn launch log p t body call body' after result → handed ≡ with_pass after result
    → IsForkedOn launch log p t body call body' after (by_number handed) × HasSeen after handed
fork_seen launch log after p t body call body' result handed on is =
    subst (λ (x : Came (Option (Passing × Guest))). IsForkedOn launch log p t body call body' after (by_number x) × HasSeen after x) (sym is)
    (subst (IsForkedOn launch log p t body call body' after) (sym (numbered after result)) on, seen_by_child after result)

-- ---- a look

pub seen_since : (launch : Launch) (v : Passing) (log : List Entry) → Legal launch log → IsSeen launch v.pid v.seen → Later v.pid v.seen log → IsSeen launch v.pid log
seen_since launch v log legal was later = record { legal = legal; made = made_since launch v.pid v.seen log legal later was.made }

-- the kernel's state is that of the history that is seen then
pub after_look : (launch : Launch) (u v w : Passing) (log : List Entry) (kernel : State) (lives : Bool) → u ≡ v → Legal launch log
    → IsSeen launch u.pid u.seen → Later u.pid u.seen log → w ≡ record { pid = u.pid; seen = log } → kernel ≡ (world launch log).state
    → (IsTrue lives ↔ (get kernel.statuses u.pid ≡ Some Live)) → Looked launch v w lives
after_look launch u v w log kernel lives same legal was later is state tells =
    subst (λ (x : Passing × Passing). Looked launch x.0 x.1 lives) (λ i. (same i, sym is i)) (record {
      pid = refl;
      seen = seen_since launch u log legal was later;
      later = later;
      live = subst (λ (S : State). IsTrue lives ↔ (get S.statuses u.pid ≡ Some Live)) state tells;
    })
