-- What ends: the least set of opens that has each open which nothing holds once the set has ended, and with them the processes that
-- these are of and the sides of channels that they are.
--     any_member, any_of_member      some item of a list passes a test exactly where one passes it that is a member
--     killed_more      what some opens kill, more opens kill too
--     table_after, process_after, status_after      what a process has once some opens have ended
--     table_spared, process_spared, status_spared      the same of a process that they don't kill
--     killed_by, kills, killed_by_last_open      a process is killed exactly where it lives and one of the opens is of it
--     channel_after, channel_spared      what becomes of a channel, and of one that they are no end of
--     reader_lost_by, writer_lost_by      a channel loses a side exactly where one of the opens is that end of it
--     holders_fewer, carriers_fewer      more opens leave no open with more holders or carriers
--     without_none      without the end of any open the state is what it was
--     ends_none      where each open is held none ends
use Rattle.std.proofs.Common.{◌≡◌, ◌↔◌, ℕ, ◌+◌, ◌<◌, ◌≤◌, ◌==◌, ◌||◌, ◌&&◌, not, Bool, true, false, cond, List, [], ◌∷◌, Option, Some, None, IsSome, inl, inr, refl, sym, ap, subst, ◌∙◌, arith}
use Rattle.std.proofs.lemmas.Bool.{eqb-true, eq-eqb}
use Rattle.std.proofs.lemmas.Bool.Decides.{eqb_tells}
use Rattle.std.specs.Bool.{nat_eq}
use Rattle.std.specs.List.{list_any}
use Rattle.std.specs.Option.{option_map}
use Rattle.std.specs.FinMap.{get}
use Rattle.abi_types.specs.declared.chan_kind.ChanKind.{ChanKind}
use Rattle.abi_types.specs.declared.open_kind.OpenKind.{OpenKind}
use Rattle.abi_types.specs.declared.open_kind.OpenKind.TheVariants.{File, Directory, End, Terminal, Process}
use Rattle.abi_types.specs.declared.status.Status.{Status}
use Rattle.abi_types.specs.declared.status.Status.TheVariants.{Live, Exit, Killed}
use Rattle.maps.specs.Closure.{member, IsSubset, closure_closed, closure_ready, closure_least, closure_none, get-changed, total_below}
use Rattle.maps.specs.Maps.{weight, get-retain, same_numbers}
use Rattle.kernel_model.specs.Channels.{Channel, channel_left}
use Rattle.kernel_model.specs.Release.{count_in, holders, carried_in, carriers, is_reader, is_writer, loses_reader, loses_writer, is_of_process, lives, is_killed, own_left, status_left, without, is_unheld, ends, IsEnd}
use Rattle.kernel_model.specs.State.{State, Table}
use Rattle.kernel_model.proofs.Tests.{not_true, either_false, either_true, or_true}

-- ---- lists of numbers

pub any_member : (f : ℕ → Bool) (xs : List ℕ) → list_any f xs ≡ true → (x : ℕ) × (member x xs ≡ true) × (f x ≡ true)
any_member f [] h = absurd (not_true h)
any_member f (x ∷ xs) h =
    elim (either_true (f x) (list_any f xs) h) [
      | inl here ↦ (x, ap (λ b. b || member x xs) (eq-eqb x x refl), here)
      | inr there ↦ (let rest = any_member f xs there in (rest.0, ap (λ b. nat_eq rest.0 x || b) rest.1 ∙ or_true (nat_eq rest.0 x), rest.2))
    ]

pub any_of_member : (f : ℕ → Bool) (xs : List ℕ) (x : ℕ) → member x xs ≡ true → f x ≡ true → list_any f xs ≡ true
any_of_member f [] x h is = absurd (not_true h)
any_of_member f (y ∷ ys) x h is =
    elim (either_true (nat_eq x y) (member x ys) h) [
      | inl same ↦ ap (λ b. b || list_any f ys) (subst (λ j. f j ≡ true) (eqb-true x y same) is)
      | inr there ↦ ap (λ b. f y || b) (any_of_member f ys x there is) ∙ or_true (f y)
    ]

-- ---- who is killed

both_more : (a b l : Bool) → (a ≡ true → b ≡ true) → (a && l) ≡ true → (b && l) ≡ true
both_more true b l h e = ap (λ c. c && l) (h refl) ∙ e
both_more false b l h e = absurd (not_true e)

pub killed_more : (S : State) (few many : List ℕ) → IsSubset few many → (p : ℕ) → is_killed S few p ≡ true → is_killed S many p ≡ true
killed_more S few many more p =
    let of_it = λ (o : ℕ). is_of_process p (get S.opens o) in
    both_more (list_any of_it few) (list_any of_it many) (lives (get S.statuses p)) (λ some.
    let one = any_member of_it few some in
    any_of_member of_it many one.0 (more one.0 one.1) one.2)

is_of : (p : ℕ) (kind : Option OpenKind) → is_of_process p kind ≡ true → (object : ℕ) × (kind ≡ Some (Process p object))
is_of p None h = absurd (not_true h)
is_of p (Some (File node offset flags)) h = absurd (not_true h)
is_of p (Some (Directory node flags)) h = absurd (not_true h)
is_of p (Some (End reads writes flags form)) h = absurd (not_true h)
is_of p (Some (Terminal which flags)) h = absurd (not_true h)
is_of p (Some (Process q object)) h = (object, ap (λ r. Some (Process r object)) (eqb-true q p h))

is_live : (status : Option Status) → lives status ≡ true → status ≡ Some Live
is_live None h = absurd (not_true h)
is_live (Some Live) h = refl
is_live (Some (Exit code)) h = absurd (not_true h)
is_live (Some (Killed signal)) h = absurd (not_true h)

both_true : (a b : Bool) → (a && b) ≡ true → (a ≡ true) × (b ≡ true)
both_true true b h = (refl, h)
both_true false b h = absurd (not_true h)

pub killed_by : (S : State) (ended : List ℕ) (p : ℕ) → is_killed S ended p ≡ true
    → (o : ℕ) × (member o ended ≡ true) × ((object : ℕ) × (get S.opens o ≡ Some (Process p object))) × (get S.statuses p ≡ Some Live)
killed_by S ended p h =
    let of_it = λ (o : ℕ). is_of_process p (get S.opens o) in
    let both = both_true (list_any of_it ended) (lives (get S.statuses p)) h in
    let one = any_member of_it ended both.0 in
    (one.0, one.1, is_of p (get S.opens one.0) one.2, is_live (get S.statuses p) both.1)

both_are : (a b : Bool) → a ≡ true → b ≡ true → (a && b) ≡ true
both_are a b x y = λ i. x i && y i

pub kills : (S : State) (ended : List ℕ) (p o object : ℕ) → get S.statuses p ≡ Some Live → member o ended ≡ true
    → get S.opens o ≡ Some (Process p object) → is_killed S ended p ≡ true
kills S ended p o object live there is =
    let of_it = λ (r : ℕ). is_of_process p (get S.opens r) in
    both_are (list_any of_it ended) (lives (get S.statuses p)) (any_of_member of_it ended o there (ap (is_of_process p) is ∙ eq-eqb p p refl)) (ap lives live)

pub killed_by_last_open : (S : State) (p : ℕ)
    → (is_killed S (ends S) p ≡ true)
    ↔ ((get S.statuses p ≡ Some Live) × ((o : ℕ) × (member o (ends S) ≡ true) × (object : ℕ) × (get S.opens o ≡ Some (Process p object))))
killed_by_last_open S p = (
  λ killed. let by = killed_by S (ends S) p killed in (by.3, (by.0, by.1, by.2.0, by.2.1)),
  λ by. kills S (ends S) p by.1.0 by.1.2 by.0 by.1.1 by.1.3,
)

-- ---- which channels lose a side

pub any_more : (f : ℕ → Bool) (few many : List ℕ) → IsSubset few many → list_any f few ≡ true → list_any f many ≡ true
any_more f few many more some = let one = any_member f few some in any_of_member f many one.0 (more one.0 one.1) one.2

-- the open is an end that reads the channel, or one that writes it
abbrev IsReaderOf : ℕ → Option OpenKind → Type 0
IsReaderOf c kind = (writes : Option ℕ) × (flags : ℕ) × (form : ChanKind) × (kind ≡ Some (End (Some c) writes flags form))

abbrev IsWriterOf : ℕ → Option OpenKind → Type 0
IsWriterOf c kind = (reads : Option ℕ) × (flags : ℕ) × (form : ChanKind) × (kind ≡ Some (End reads (Some c) flags form))

reads_it : (c : ℕ) (kind : Option OpenKind) → is_reader c kind ≡ true → IsReaderOf c kind
reads_it c (Some (End (Some r) writes flags form)) h = (writes, flags, form, ap (λ q. Some (End (Some q) writes flags form)) (eqb-true r c h))
reads_it c kind h = absurd (not_true h)

writes_it : (c : ℕ) (kind : Option OpenKind) → is_writer c kind ≡ true → IsWriterOf c kind
writes_it c (Some (End reads (Some w) flags form)) h = (reads, flags, form, ap (λ q. Some (End reads (Some q) flags form)) (eqb-true w c h))
writes_it c kind h = absurd (not_true h)

pub reader_lost_by : (S : State) (c : ℕ)
    → (loses_reader S (ends S) c ≡ true)
    ↔ ((o : ℕ) × (member o (ends S) ≡ true) × (writes : Option ℕ) × (flags : ℕ) × (form : ChanKind) × (get S.opens o ≡ Some (End (Some c) writes flags form)))
reader_lost_by S c =
    let reads = λ (o : ℕ). is_reader c (get S.opens o) in (
      λ lost. let one = any_member reads (ends S) lost in let by = reads_it c (get S.opens one.0) one.2 in (one.0, one.1, by.0, by.1, by.2, by.3),
      λ by. any_of_member reads (ends S) by.0 by.1 (ap (is_reader c) by.5 ∙ eq-eqb c c refl),
    )

pub writer_lost_by : (S : State) (c : ℕ)
    → (loses_writer S (ends S) c ≡ true)
    ↔ ((o : ℕ) × (member o (ends S) ≡ true) × (reads : Option ℕ) × (flags : ℕ) × (form : ChanKind) × (get S.opens o ≡ Some (End reads (Some c) flags form)))
writer_lost_by S c =
    let writes = λ (o : ℕ). is_writer c (get S.opens o) in (
      λ lost. let one = any_member writes (ends S) lost in let by = writes_it c (get S.opens one.0) one.2 in (one.0, one.1, by.0, by.1, by.2, by.3),
      λ by. any_of_member writes (ends S) by.0 by.1 (ap (is_writer c) by.5 ∙ eq-eqb c c refl),
    )

pub channel_after : (S : State) (ended : List ℕ) (c : ℕ)
    → get (without ended S).chans c ≡ option_map (channel_left (loses_reader S ended c) (loses_writer S ended c)) (get S.chans c)
channel_after S ended c = get-changed (λ e. channel_left (loses_reader S ended e) (loses_writer S ended e)) S.chans c

pub same_channel : (channel : Option Channel) → option_map (channel_left false false) channel ≡ channel
same_channel None = refl
same_channel (Some channel) = refl

pub channel_spared : (S : State) (ended : List ℕ) (c : ℕ) → (loses_reader S ended c || loses_writer S ended c) ≡ false
    → get (without ended S).chans c ≡ get S.chans c
channel_spared S ended c h =
    let neither = either_false (loses_reader S ended c) (loses_writer S ended c) h in
    channel_after S ended c ∙ (λ i. option_map (channel_left (neither.0 i) (neither.1 i)) (get S.chans c)) ∙ same_channel (get S.chans c)

-- ---- what a process has once some opens have ended

left_is : {X : Type 0} (killed : Bool) (own : Option X) → cond (not killed) own None ≡ own_left killed own
left_is true own = refl
left_is false own = refl

pub table_after : (S : State) (ended : List ℕ) (p : ℕ) → get (without ended S).tables p ≡ own_left (is_killed S ended p) (get S.tables p)
table_after S ended p = get-retain S.tables (λ q. not (is_killed S ended q)) p ∙ left_is (is_killed S ended p) (get S.tables p)

pub process_after : (S : State) (ended : List ℕ) (p : ℕ) → get (without ended S).processes p ≡ own_left (is_killed S ended p) (get S.processes p)
process_after S ended p = get-retain S.processes (λ q. not (is_killed S ended q)) p ∙ left_is (is_killed S ended p) (get S.processes p)

pub status_after : (S : State) (ended : List ℕ) (p : ℕ) → get (without ended S).statuses p ≡ option_map (status_left (is_killed S ended p)) (get S.statuses p)
status_after S ended p = get-changed (λ q. status_left (is_killed S ended q)) S.statuses p

pub same_status : (status : Option Status) → option_map (status_left false) status ≡ status
same_status None = refl
same_status (Some status) = refl

pub table_spared : (S : State) (ended : List ℕ) (p : ℕ) → is_killed S ended p ≡ false → get (without ended S).tables p ≡ get S.tables p
table_spared S ended p h = table_after S ended p ∙ ap (λ b. own_left b (get S.tables p)) h

pub process_spared : (S : State) (ended : List ℕ) (p : ℕ) → is_killed S ended p ≡ false → get (without ended S).processes p ≡ get S.processes p
process_spared S ended p h = process_after S ended p ∙ ap (λ b. own_left b (get S.processes p)) h

pub status_spared : (S : State) (ended : List ℕ) (p : ℕ) → is_killed S ended p ≡ false → get (without ended S).statuses p ≡ get S.statuses p
status_spared S ended p h = status_after S ended p ∙ ap (λ b. option_map (status_left b) (get S.statuses p)) h ∙ same_status (get S.statuses p)

-- ---- holders

lighter : (o : ℕ) (few many : Bool) (t : Option Table) → (few ≡ true → many ≡ true)
    → weight (count_in o) (own_left many t) ≤ weight (count_in o) (own_left few t)
lighter o few true t h = omega arith
lighter o false false t h = omega arith
lighter o true false t h = absurd (not_true (h refl))

pub holders_fewer : (S : State) (few many : List ℕ) → IsSubset few many → (o : ℕ) → holders (without many S) o ≤ holders (without few S) o
holders_fewer S few many more o =
    total_below (count_in o) (count_in o) (without many S).tables (without few S).tables (λ q.
    subst (λ t. weight (count_in o) t ≤ weight (count_in o) (get (without few S).tables q)) (sym (table_after S many q))
    (subst (λ t. weight (count_in o) (own_left (is_killed S many q) (get S.tables q)) ≤ weight (count_in o) t) (sym (table_after S few q))
    (lighter o (is_killed S few q) (is_killed S many q) (get S.tables q) (killed_more S few many more q))))

-- what waits in a channel waits there until its reader has gone
carried_left : (o : ℕ) (reader writer : Bool) (channel : Channel) → carried_in o (channel_left reader writer channel) ≡ cond reader 0 (carried_in o channel)
carried_left o true true channel = refl
carried_left o true false channel = refl
carried_left o false true channel = refl
carried_left o false false channel = refl

fewer_carried : (n : ℕ) (few many : Bool) → (few ≡ true → many ≡ true) → cond many 0 n ≤ cond few 0 n
fewer_carried n few true h = omega arith
fewer_carried n false false h = omega arith
fewer_carried n true false h = absurd (not_true (h refl))

lighter_channel : (o : ℕ) (few many few_writer many_writer : Bool) (channel : Option Channel) → (few ≡ true → many ≡ true)
    → weight (carried_in o) (option_map (channel_left many many_writer) channel) ≤ weight (carried_in o) (option_map (channel_left few few_writer) channel)
lighter_channel o few many few_writer many_writer None h = omega arith
lighter_channel o few many few_writer many_writer (Some channel) h =
    let left = carried_left o many many_writer channel in
    let right = carried_left o few few_writer channel in
    let below = fewer_carried (carried_in o channel) few many h in
    omega (arith, left, right, below)

pub carriers_fewer : (S : State) (few many : List ℕ) → IsSubset few many → (o : ℕ) → carriers (without many S) o ≤ carriers (without few S) o
carriers_fewer S few many more o =
    total_below (carried_in o) (carried_in o) (without many S).chans (without few S).chans (λ c.
    subst (λ x. weight (carried_in o) x ≤ weight (carried_in o) (get (without few S).chans c)) (sym (channel_after S many c))
    (subst (λ x. weight (carried_in o) (option_map (channel_left (loses_reader S many c) (loses_writer S many c)) (get S.chans c)) ≤ weight (carried_in o) x)
    (sym (channel_after S few c))
    (lighter_channel o (loses_reader S few c) (loses_reader S many c) (loses_writer S few c) (loses_writer S many c) (get S.chans c)
    (any_more (λ r. is_reader c (get S.opens r)) few many more))))

zero_is : (n : ℕ) → (n == 0) ≡ true → n ≡ 0
zero_is n h = eqb-true n 0 h

is_zero : (n : ℕ) → n ≡ 0 → (n == 0) ≡ true
is_zero n h = eq-eqb n 0 h

-- the more opens have ended, the fewer are held
unheld_more : (S : State) (few many : List ℕ) → IsSubset few many → (o : ℕ) → is_unheld S few o ≡ true → is_unheld S many o ≡ true
unheld_more S few many more o h =
    let none : holders (without few S) o + carriers (without few S) o ≡ 0 = zero_is _ h in
    let below : holders (without many S) o ≤ holders (without few S) o = holders_fewer S few many more o in
    let fewer : carriers (without many S) o ≤ carriers (without few S) o = carriers_fewer S few many more o in
    is_zero _ (omega arith)

-- ---- the set that ends

nothing_has : (o : ℕ) → member o [] ≡ true → false ≡ true
nothing_has o h = h

pub ends_closed : (S : State) (o : ℕ) → IsSome (get S.opens o) → holders (without (ends S) S) o + carriers (without (ends S) S) o ≡ 0 → member o (ends S) ≡ true
unfolding ends
ends_closed S o there none = closure_closed (is_unheld S) S.opens [] o there (is_zero _ none)

none_of_both : (a b : ℕ) → a + b ≡ 0 → (a ≡ 0) × (b ≡ 0)
none_of_both a b h = (omega (arith, h), omega (arith, h))

pub ends_unheld : (S : State) (o : ℕ) → member o (ends S) ≡ true
    → IsSome (get S.opens o) × (holders (without (ends S) S) o ≡ 0) × (carriers (without (ends S) S) o ≡ 0)
unfolding ends
ends_unheld S o h =
    let both = closure_ready (is_unheld S) (unheld_more S) S.opens [] o h refl in
    let none = none_of_both _ _ (zero_is _ both.1) in
    (both.0, none.0, none.1)

ends_least : (S : State) (has : ℕ → Bool)
    → ((o : ℕ) → IsSome (get S.opens o) → (some : List ℕ) → ((r : ℕ) → member r some ≡ true → has r ≡ true)
    → holders (without some S) o + carriers (without some S) o ≡ 0 → has o ≡ true)
    → (o : ℕ) → member o (ends S) ≡ true → has o ≡ true
unfolding ends
ends_least S has closed o h =
    closure_least (is_unheld S) has S.opens [] (λ q bare. absurd (not_true (nothing_has q bare)))
    (λ k there some inside ready. closed k there some inside (zero_is _ ready)) o h

pub ends_are_least : (S : State) → IsEnd S (ends S)
ends_are_least S = record { closed = ends_closed S; unheld = ends_unheld S; least = ends_least S }

-- ---- where nothing ends

pub without_none : (S : State) → without [] S ≡ S
without_none S =
    let tables : (without [] S).tables ≡ S.tables = same_numbers _ _ (λ p. table_spared S [] p refl) in
    let processes : (without [] S).processes ≡ S.processes = same_numbers _ _ (λ p. process_spared S [] p refl) in
    let statuses : (without [] S).statuses ≡ S.statuses = same_numbers _ _ (λ p. status_spared S [] p refl) in
    let opens : (without [] S).opens ≡ S.opens = same_numbers _ _ (λ o. get-retain S.opens (λ _. true) o) in
    let chans : (without [] S).chans ≡ S.chans = same_numbers _ _ (λ c. channel_spared S [] c refl) in
    λ i. record S { tables = tables i; processes = processes i; statuses = statuses i; opens = opens i; chans = chans i }

pub ends_none : (S : State) → ((o : ℕ) → IsSome (get S.opens o) → 0 < holders S o + carriers S o) → ends S ≡ []
unfolding ends
ends_none S held =
    closure_none (is_unheld S) S.opens [] (λ o there.
    elim (eqb_tells (holders (without [] S) o + carriers (without [] S) o) 0) [
      | inl is ↦ (
          let none : holders S o + carriers S o ≡ 0 = ap (λ (T : State). holders T o + carriers T o) (sym (without_none S)) ∙ is.1 in
          let some : 0 < holders S o + carriers S o = held o there in
          absurd (omega arith))
      | inr other ↦ other.0
    ])
