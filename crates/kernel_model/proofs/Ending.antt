-- The opens that end may be taken away one after another, in any order: while something holds nothing of an open it may go, with what
-- ends with it, and where nothing is left to go the state is the one without the opens that end.
--     without_one_more      one more open goes from the state without some
--     without_same      the state is the same without opens of which both lists have the same
--     one_more_ends      an open that nothing holds without some of those that end is one of those that end
--     all_have_ended      where each open that is left is held, all have ended that do
--     ends_in_any_order      so it is in whatever order they end
--     ended_last      an open that is left in the end is there all along
use Rattle.std.proofs.Common.{◌≡◌, ℕ, ◌+◌, ◌==◌, ◌||◌, ◌&&◌, not, Bool, true, false, cond, length, List, [], ◌∷◌, Option, Some, None, IsSome, is_some, inl, inr, refl, sym, ap, subst, ◌∙◌, arith}
use Rattle.std.proofs.lemmas.Bool.{eqb-true}
use Rattle.std.specs.Bool.{nat_eq}
use Rattle.std.specs.List.{list_any}
use Rattle.std.specs.Option.{option_map}
use Rattle.std.specs.FinMap.{get}
use Rattle.abi_types.specs.declared.open_kind.OpenKind.{OpenKind}
use Rattle.abi_types.specs.declared.status.Status.{Status}
use Rattle.abi_types.specs.declared.status.Status.TheVariants.{Live, Exit, Killed}
use Rattle.maps.specs.Closure.{member, IsSubset}
use Rattle.maps.specs.Maps.{get-retain, same_numbers}
use Rattle.kernel_model.specs.Channels.{Channel, Gone, without_reader, without_writer, channel_left}
use Rattle.kernel_model.specs.Release.{holders, carriers, is_of_process, is_reader, is_writer, lives, is_killed, loses_reader, loses_writer, own_left, status_left, without, ends, without_ended, AllAreHeld, LetsGo, starts, goes}
use Rattle.kernel_model.specs.State.{State}
use Rattle.kernel_model.proofs.Ends.{any_more, carriers_fewer, channel_after, ends_are_least, ends_closed, holders_fewer, process_after, status_after, table_after, without_none}
use Rattle.kernel_model.proofs.Tests.{either_true, not_true, or_false}

-- ---- an open that has not gone yet

open_left : (S : State) (gone : List ℕ) (o : ℕ) → member o gone ≡ false → get (without gone S).opens o ≡ get S.opens o
open_left S gone o absent = get-retain S.opens (λ r. not (member r gone)) o ∙ ap (λ b. cond (not b) (get S.opens o) None) absent

was_by : (gone : Bool) (before : Option OpenKind) → IsSome (cond (not gone) before None) → (gone ≡ false) × IsSome before
was_by true before there = absurd (not_true there)
was_by false before there = (refl, there)

was_there : (S : State) (gone : List ℕ) (o : ℕ) → IsSome (get (without gone S).opens o) → (member o gone ≡ false) × IsSome (get S.opens o)
was_there S gone o there =
    was_by (member o gone) (get S.opens o) (subst IsSome (get-retain S.opens (λ r. not (member r gone)) o) there)

kept_twice : (a b : Bool) (x : Option OpenKind) → cond (not (a || false)) (cond (not b) x None) None ≡ cond (not (a || b)) x None
kept_twice true b x = refl
kept_twice false b x = refl

-- ---- two lists of opens of which both have the same

any_same : (f : ℕ → Bool) (xs ys : List ℕ) → IsSubset xs ys → IsSubset ys xs → list_any f xs ≡ list_any f ys
any_same f xs ys more less =
    elim (list_any f xs) as (λ b. list_any f xs ≡ b → b ≡ list_any f ys) [
      | true ↦ λ e. sym (any_more f xs ys more e)
      | false ↦ λ e. elim (list_any f ys) as (λ b. list_any f ys ≡ b → false ≡ b) [
        | true ↦ λ h. sym e ∙ any_more f ys xs less h
        | false ↦ λ h. refl
      ] refl
    ] refl

member_same : (xs ys : List ℕ) → IsSubset xs ys → IsSubset ys xs → (o : ℕ) → member o xs ≡ member o ys
member_same xs ys more less o =
    elim (member o xs) as (λ b. member o xs ≡ b → b ≡ member o ys) [
      | true ↦ λ e. sym (more o e)
      | false ↦ λ e. elim (member o ys) as (λ b. member o ys ≡ b → false ≡ b) [ true ↦ λ h. sym e ∙ less o h | false ↦ λ h. refl ] refl
    ] refl

pub without_same : (S : State) (xs ys : List ℕ) → IsSubset xs ys → IsSubset ys xs → without xs S ≡ without ys S
without_same S xs ys more less =
    let killed : (p : ℕ) → is_killed S xs p ≡ is_killed S ys p =
    λ p. ap (λ b. b && lives (get S.statuses p)) (any_same (λ o. is_of_process p (get S.opens o)) xs ys more less) in
    let reader : (c : ℕ) → loses_reader S xs c ≡ loses_reader S ys c = λ c. any_same (λ o. is_reader c (get S.opens o)) xs ys more less in
    let writer : (c : ℕ) → loses_writer S xs c ≡ loses_writer S ys c = λ c. any_same (λ o. is_writer c (get S.opens o)) xs ys more less in
    let tables : (without xs S).tables ≡ (without ys S).tables =
    same_numbers _ _ (λ p. table_after S xs p ∙ (λ i. own_left (killed p i) (get S.tables p)) ∙ sym (table_after S ys p)) in
    let processes : (without xs S).processes ≡ (without ys S).processes =
    same_numbers _ _ (λ p. process_after S xs p ∙ (λ i. own_left (killed p i) (get S.processes p)) ∙ sym (process_after S ys p)) in
    let statuses : (without xs S).statuses ≡ (without ys S).statuses =
    same_numbers _ _ (λ p. status_after S xs p ∙ (λ i. option_map (status_left (killed p i)) (get S.statuses p)) ∙ sym (status_after S ys p)) in
    let opens : (without xs S).opens ≡ (without ys S).opens =
    same_numbers _ _ (λ o.
    get-retain S.opens (λ r. not (member r xs)) o ∙ (λ i. cond (not (member_same xs ys more less o i)) (get S.opens o) None)
    ∙ sym (get-retain S.opens (λ r. not (member r ys)) o)) in
    let chans : (without xs S).chans ≡ (without ys S).chans =
    same_numbers _ _ (λ c.
    channel_after S xs c ∙ (λ i. option_map (channel_left (reader c i) (writer c i)) (get S.chans c)) ∙ sym (channel_after S ys c)) in
    λ i. record S { tables = tables i; processes = processes i; statuses = statuses i; opens = opens i; chans = chans i }

-- ---- one more open goes

-- a process is killed by one more open where it was not killed before
abbrev killed_by_next : Bool → Bool → Option Status → Bool
killed_by_next of_it before status = (of_it || false) && lives (option_map (status_left (before && lives status)) status)

killed_both : (of_it before : Bool) (status : Option Status)
    → (killed_by_next of_it before status || (before && lives status)) ≡ ((of_it || before) && lives status)
killed_both false before status = refl
killed_both true true None = refl
killed_both true true (Some Live) = refl
killed_both true true (Some (Exit code)) = refl
killed_both true true (Some (Killed signal)) = refl
killed_both true false None = refl
killed_both true false (Some Live) = refl
killed_both true false (Some (Exit code)) = refl
killed_both true false (Some (Killed signal)) = refl

own_twice : {X : Type 0} (a b : Bool) (own : Option X) → own_left a (own_left b own) ≡ own_left (a || b) own
own_twice true b own = refl
own_twice false b own = refl

status_twice : (a b : Bool) (status : Option Status) → option_map (status_left a) (option_map (status_left b) status) ≡ option_map (status_left (a || b)) status
status_twice a b None = refl
status_twice true true (Some status) = refl
status_twice true false (Some status) = refl
status_twice false b (Some status) = refl

-- the two sides of a channel go in either order
sides_apart : (w r : Bool) (channel : Channel) → without_reader r (without_writer w channel) ≡ without_writer w (without_reader r channel)
sides_apart true true channel = refl
sides_apart true false channel = refl
sides_apart false true channel = refl
sides_apart false false channel = refl

none_more : (n : ℕ) → n + 0 ≡ n
none_more n = omega arith

reader_twice : (a b : Bool) (channel : Channel) → without_reader a (without_reader b channel) ≡ without_reader (a || b) channel
reader_twice true true channel =
    λ i. record channel { left = none_more (channel.left + length channel.waiting) i; waiting = []; reader = Gone }
reader_twice true false channel = refl
reader_twice false b channel = refl

writer_twice : (a b : Bool) (channel : Channel) → without_writer a (without_writer b channel) ≡ without_writer (a || b) channel
writer_twice true true channel = refl
writer_twice true false channel = refl
writer_twice false b channel = refl

left_twice : (r w before_r before_w : Bool) (channel : Channel)
    → channel_left r w (channel_left before_r before_w channel) ≡ channel_left (r || before_r) (w || before_w) channel
left_twice r w before_r before_w channel =
    ap (without_writer w) (sides_apart before_w r (without_reader before_r channel))
    ∙ ap (λ (x : Channel). without_writer w (without_writer before_w x)) (reader_twice r before_r channel)
    ∙ writer_twice w before_w (without_reader (r || before_r) channel)

channel_twice : (r w before_r before_w : Bool) (channel : Option Channel)
    → option_map (channel_left r w) (option_map (channel_left before_r before_w) channel) ≡ option_map (channel_left (r || before_r) (w || before_w)) channel
channel_twice r w before_r before_w None = refl
channel_twice r w before_r before_w (Some channel) = ap Some (left_twice r w before_r before_w channel)

module _ (S : State) (gone : List ℕ) (o : ℕ) (absent : member o gone ≡ false) where
  killed_then : (p : ℕ) → (is_killed (without gone S) (o ∷ []) p || is_killed S gone p) ≡ is_killed S (o ∷ gone) p
  killed_then p =
      (λ i. ((is_of_process p (open_left S gone o absent i) || false) && lives (status_after S gone p i)) || is_killed S gone p)
      ∙ killed_both (is_of_process p (get S.opens o)) (list_any (λ r. is_of_process p (get S.opens r)) gone) (get S.statuses p)

  reader_then : (c : ℕ) → (loses_reader (without gone S) (o ∷ []) c || loses_reader S gone c) ≡ loses_reader S (o ∷ gone) c
  reader_then c = λ i. or_false (is_reader c (open_left S gone o absent i)) i || loses_reader S gone c

  writer_then : (c : ℕ) → (loses_writer (without gone S) (o ∷ []) c || loses_writer S gone c) ≡ loses_writer S (o ∷ gone) c
  writer_then c = λ i. or_false (is_writer c (open_left S gone o absent i)) i || loses_writer S gone c

  open_then : (r : ℕ) → get (without (o ∷ []) (without gone S)).opens r ≡ get (without (o ∷ gone) S).opens r
  open_then r =
      get-retain (without gone S).opens (λ q. not (member q (o ∷ []))) r
      ∙ ap (λ x. cond (not (member r (o ∷ []))) x None) (get-retain S.opens (λ q. not (member q gone)) r)
      ∙ kept_twice (r == o) (member r gone) (get S.opens r)
      ∙ sym (get-retain S.opens (λ q. not (member q (o ∷ gone))) r)

  pub without_one_more : without (o ∷ []) (without gone S) ≡ without (o ∷ gone) S
  without_one_more =
      let next : State = without gone S in
      let tables : (without (o ∷ []) next).tables ≡ (without (o ∷ gone) S).tables =
      same_numbers _ _ (λ p.
      table_after next (o ∷ []) p ∙ ap (own_left (is_killed next (o ∷ []) p)) (table_after S gone p)
      ∙ own_twice (is_killed next (o ∷ []) p) (is_killed S gone p) (get S.tables p)
      ∙ (λ i. own_left (killed_then p i) (get S.tables p)) ∙ sym (table_after S (o ∷ gone) p)) in
      let processes : (without (o ∷ []) next).processes ≡ (without (o ∷ gone) S).processes =
      same_numbers _ _ (λ p.
      process_after next (o ∷ []) p ∙ ap (own_left (is_killed next (o ∷ []) p)) (process_after S gone p)
      ∙ own_twice (is_killed next (o ∷ []) p) (is_killed S gone p) (get S.processes p)
      ∙ (λ i. own_left (killed_then p i) (get S.processes p)) ∙ sym (process_after S (o ∷ gone) p)) in
      let statuses : (without (o ∷ []) next).statuses ≡ (without (o ∷ gone) S).statuses =
      same_numbers _ _ (λ p.
      status_after next (o ∷ []) p ∙ ap (option_map (status_left (is_killed next (o ∷ []) p))) (status_after S gone p)
      ∙ status_twice (is_killed next (o ∷ []) p) (is_killed S gone p) (get S.statuses p)
      ∙ (λ i. option_map (status_left (killed_then p i)) (get S.statuses p)) ∙ sym (status_after S (o ∷ gone) p)) in
      let opens : (without (o ∷ []) next).opens ≡ (without (o ∷ gone) S).opens = same_numbers _ _ open_then in
      let chans : (without (o ∷ []) next).chans ≡ (without (o ∷ gone) S).chans =
      same_numbers _ _ (λ c.
      channel_after next (o ∷ []) c
      ∙ ap (option_map (channel_left (loses_reader next (o ∷ []) c) (loses_writer next (o ∷ []) c))) (channel_after S gone c)
      ∙ channel_twice (loses_reader next (o ∷ []) c) (loses_writer next (o ∷ []) c) (loses_reader S gone c) (loses_writer S gone c) (get S.chans c)
      ∙ (λ i. option_map (channel_left (reader_then c i) (writer_then c i)) (get S.chans c)) ∙ sym (channel_after S (o ∷ gone) c)) in
      λ i. record S { tables = tables i; processes = processes i; statuses = statuses i; opens = opens i; chans = chans i }

-- ---- in the end

-- an open that is left without some of those that end, and that nothing holds there, is one of those that end
pub one_more_ends : (S : State) (gone : List ℕ) (o : ℕ) → IsSubset gone (ends S) → IsSome (get (without gone S).opens o)
    → holders (without gone S) o + carriers (without gone S) o ≡ 0 → (member o gone ≡ false) × (member o (ends S) ≡ true)
one_more_ends S gone o inside there none =
    let fewer = holders_fewer S gone (ends S) inside o in
    let less = carriers_fewer S gone (ends S) inside o in
    let was = was_there S gone o there in
    (was.0, ends_closed S o was.1 (omega (arith, fewer, less, none)))

-- where each open that is left is held, all have gone that end
pub all_have_ended : (S : State) (gone : List ℕ) → IsSubset gone (ends S)
    → AllAreHeld (without gone S) → without gone S ≡ without_ended S
all_have_ended S gone inside held =
    without_same S gone (ends S) inside (λ o ends_too.
    (ends_are_least S).least (λ r. member r gone) (λ r there some part none. (
    elim (member r gone) as (λ b. member r gone ≡ b → b ≡ true) [
      | true ↦ λ e. refl
      | false ↦ λ e. (
          let fewer = holders_fewer S some gone part r in
          let less = carriers_fewer S some gone part r in
          let left : IsSome (get (without gone S).opens r) = ap is_some (open_left S gone r e) ∙ there in
          let still = held r left in
          absurd (omega (arith, fewer, less, still, none)))
    ] refl)) o ends_too)

-- ---- in any order

-- what has gone, as a set of those that end
record HasGone (S T : State) : Type 0 where
  gone : List ℕ
  inside : IsSubset gone (ends S)
  is : T ≡ without gone S

first_or_later : (o : ℕ) (gone : List ℕ) (has : ℕ → Bool) → has o ≡ true → ((r : ℕ) → member r gone ≡ true → has r ≡ true)
    → (r : ℕ) → member r (o ∷ gone) ≡ true → has r ≡ true
first_or_later o gone has here later r h =
    elim (either_true (nat_eq r o) (member r gone) h) [
      | inl same ↦ subst (λ q. has q ≡ true) (sym (eqb-true r o same)) here
      | inr there ↦ later r there
    ]

goes_on : (S T : State) (o : ℕ) → HasGone S T → IsSome (get T.opens o) → holders T o + carriers T o ≡ 0 → HasGone S (without (o ∷ []) T)
goes_on S T o has there none =
    let more = one_more_ends S has.gone o has.inside (subst (λ (U : State). IsSome (get U.opens o)) has.is there)
    (subst (λ (U : State). holders U o + carriers U o ≡ 0) has.is none) in
    record {
      gone = o ∷ has.gone;
      inside = first_or_later o has.gone (λ r. member r (ends S)) more.1 has.inside;
      is = ap (without (o ∷ [])) has.is ∙ without_one_more S has.gone o more.0;
    }

has_gone : (S T : State) → LetsGo S T → HasGone S T
has_gone S T starts = record { gone = []; inside = λ o h. absurd (not_true h); is = sym (without_none S) }
has_gone S T (goes U o before there none) = goes_on S U o (has_gone S U before) there none

pub ends_in_any_order : (S T : State) → LetsGo S T → AllAreHeld T → T ≡ without_ended S
ends_in_any_order S T by held =
    let has = has_gone S T by in
    has.is ∙ all_have_ended S has.gone has.inside (subst AllAreHeld has.is held)

-- an open that is left in the end is there all along
pub ended_last : (S T : State) → LetsGo S T → (o : ℕ) (kind : OpenKind) → get (without_ended S).opens o ≡ Some kind → get T.opens o ≡ Some kind
ended_last S T by o kind there =
    let has = has_gone S T by in
    let was = was_there S (ends S) o (ap is_some there) in
    let apart : member o has.gone ≡ false =
    elim (member o has.gone) as (λ b. member o has.gone ≡ b → b ≡ false) [
      | true ↦ λ e. sym (has.inside o e) ∙ was.0
      | false ↦ λ e. refl
    ] refl in
    ap (λ (U : State). get U.opens o) has.is ∙ open_left S has.gone o apart ∙ sym (open_left S (ends S) o was.0) ∙ there
