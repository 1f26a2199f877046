-- The channels that an end leaves.
--     left_at_key      what becomes of a channel
--     left_go_on      none that is left is over
--     nothing_left, other_left      an open that is no end of a channel that there is leaves all as it is
--     side_left, side_over      one side of a channel is left, and the channel goes where it is over
--     both_left      both sides, one after the other
--     carriers_left, carriers_over, released_few      the carriers then
use Rattle.std.proofs.Common.{◌≡◌, ◌≢◌, ℕ, ◌+◌, ◌≤◌, ◌&&◌, not, Bool, true, false, cond, List, [], ◌∷◌, length, Option, None, Some, refl, sym, ap, subst, inl, inr, ◌∙◌, arith}
use Rattle.std.proofs.lemmas.Bool.{eq-eqb}
use Rattle.std.proofs.lemmas.Bool.Decides.{eqb_tells}
use Rattle.std.specs.FinMap.{get, insert, remove}
use Rattle.std.specs.Option.{option_map}
use Rattle.abi_types.specs.declared.chan_kind.ChanKind.{ChanKind}
use Rattle.abi_types.specs.declared.chan_kind.ChanKind.TheVariants as chan_kind
use Rattle.abi_types.specs.declared.open_kind.OpenKind.{OpenKind}
use Rattle.abi_types.specs.declared.open_kind.OpenKind.TheVariants.{File, Directory, End, Terminal, Process}
use Rattle.channels.specs.declared.side.Side.{Side}
use Rattle.channels.specs.declared.side.Side.TheVariants.{Reader, Writer}
use Rattle.channels.specs.Channels.{left_at, released_at}
use Rattle.channel_calls.specs.Calls.{AllGoOn, Channels, carriers_in, channels_left}
use Rattle.channel_calls.specs.Leaving.{end_at}
use Rattle.maps.specs.Closure.{changed, get-changed}
use Rattle.maps.specs.Maps.{get-insert-same, get-insert-other, get-remove-same, get-remove-other, get-retain, same_numbers, total-remove, weight}
use Rattle.kernel_model.specs.Channels.{Channel, Send, IsChannel, most_carried, channel_left, is_empty, is_gone, is_over}
use Rattle.kernel_model.specs.Release.{carried_in, count_carried, count_sent, is_channel_kept, is_reader, is_writer, kept_channel}
use Rattle.kernel_model.proofs.Channels.{count_all}
use Rattle.kernel_model.proofs.Tests.{not_true}
use Rattle.channel_calls.proofs.Takes.{carriers_changed}

-- ---- one channel

pub left_at_key : (kind : OpenKind) (m : Channels) (q : ℕ)
    → get (channels_left kind m) q ≡ kept_channel (option_map (channel_left (is_reader q (Some kind)) (is_writer q (Some kind))) (get m q))
left_at_key kind m q =
    get-retain left (λ c. is_channel_kept (get left c)) q ∙ ap kept_channel (get-changed (λ c. channel_left (is_reader c (Some kind)) (is_writer c (Some kind))) m q) where
      left : Channels
      left = changed (λ c. channel_left (is_reader c (Some kind)) (is_writer c (Some kind))) m

kept_goes_on : (x : Option Channel) → is_channel_kept (kept_channel x) ≡ true
kept_goes_on None = refl
kept_goes_on (Some channel) =
    elim (is_over channel) as (λ b. is_over channel ≡ b → is_channel_kept (cond (not b) (Some channel) None) ≡ true) [
      | true ↦ λ _. refl
      | false ↦ λ e. ap not e
    ] refl

pub left_go_on : (kind : OpenKind) (m : Channels) → AllGoOn (channels_left kind m)
left_go_on kind m c =
    ap is_channel_kept (left_at_key kind m c) ∙ kept_goes_on (option_map (channel_left (is_reader c (Some kind)) (is_writer c (Some kind))) (get m c))

-- a channel that goes on, and of which no side is left
same_kept : (x : Option Channel) (reader writer : Bool) → is_channel_kept x ≡ true → reader ≡ false → writer ≡ false
    → kept_channel (option_map (channel_left reader writer) x) ≡ x
same_kept x reader writer goes no_reader no_writer =
    ap (λ b. kept_channel (option_map (channel_left b writer) x)) no_reader ∙ ap (λ b. kept_channel (option_map (channel_left false b) x)) no_writer ∙ plain x goes where
      plain : (y : Option Channel) → is_channel_kept y ≡ true → kept_channel (option_map (channel_left false false) y) ≡ y
      plain None h = refl
      plain (Some channel) h = ap (λ b. cond b (Some channel) None) h

-- ---- none

-- no channel has this end
abbrev HasNone : OpenKind → ℕ → Type 0
HasNone kind q = (is_reader q (Some kind) ≡ false) × (is_writer q (Some kind) ≡ false)

none_left_by : (kind : OpenKind) (m : Channels) → AllGoOn m → ((q : ℕ) → HasNone kind q) → m ≡ channels_left kind m
none_left_by kind m goes none =
    same_numbers m (channels_left kind m) (λ q. sym (left_at_key kind m q ∙ same_kept (get m q) (is_reader q (Some kind)) (is_writer q (Some kind)) (goes q) (none q).0 (none q).1))

pub nothing_left : (which : Side) (m : Channels) → AllGoOn m → m ≡ channels_left (end_at which None) m
nothing_left Reader m goes = none_left_by (End None None 0 chan_kind.Stream) m goes (λ q. (refl, refl))
nothing_left Writer m goes = none_left_by (End None None 0 chan_kind.Stream) m goes (λ q. (refl, refl))

pub other_left : (kind : OpenKind) (m : Channels) → AllGoOn m → ((reads writes : Option ℕ) (flags : ℕ) (form : ChanKind) → kind ≡ End reads writes flags form → ⊥)
    → m ≡ channels_left kind m
other_left (File node offset flags) m goes other = none_left_by (File node offset flags) m goes (λ q. (refl, refl))
other_left (Directory node flags) m goes other = none_left_by (Directory node flags) m goes (λ q. (refl, refl))
other_left (End reads writes flags form) m goes other = absurd (other reads writes flags form refl)
other_left (Terminal which flags) m goes other = none_left_by (Terminal which flags) m goes (λ q. (refl, refl))
other_left (Process p object) m goes other = none_left_by (Process p object) m goes (λ q. (refl, refl))

-- ---- one side

elsewhere : (which : Side) (c q : ℕ) → q ≢ c → (is_reader q (Some (end_at which (Some c))) ≡ false) × (is_writer q (Some (end_at which (Some c))) ≡ false)
elsewhere Reader c q other = elim (eqb_tells c q) [ inl same ↦ absurd (other (sym same.1)) | inr apart ↦ (apart.0, refl) ]
elsewhere Writer c q other = elim (eqb_tells c q) [ inl same ↦ absurd (other (sym same.1)) | inr apart ↦ (refl, apart.0) ]

here : (which : Side) (c : ℕ) (x : Channel)
    → channel_left (is_reader c (Some (end_at which (Some c)))) (is_writer c (Some (end_at which (Some c)))) x ≡ left_at which x
here Reader c x = ap (λ b. channel_left b false x) (eq-eqb c c refl)
here Writer c x = ap (λ b. channel_left false b x) (eq-eqb c c refl)

pub absent_left : (which : Side) (c : ℕ) (m : Channels) → AllGoOn m → get m c ≡ None → m ≡ channels_left (end_at which (Some c)) m
absent_left which c m goes none = same_numbers m (channels_left (end_at which (Some c)) m) (λ q. sym (left_at_key (end_at which (Some c)) m q ∙ at q)) where
  at : (q : ℕ) → kept_channel (option_map (channel_left (is_reader q (Some (end_at which (Some c)))) (is_writer q (Some (end_at which (Some c))))) (get m q)) ≡ get m q
  at q = elim (eqb_tells q c) [
    | inl same ↦ (
        let gone : get m q ≡ None = ap (get m) same.1 ∙ none in
        ap (λ x. kept_channel (option_map (channel_left (is_reader q (Some (end_at which (Some c)))) (is_writer q (Some (end_at which (Some c))))) x)) gone ∙ sym gone)
    | inr other ↦ same_kept (get m q) _ _ (goes q) (elsewhere which c q other.1).0 (elsewhere which c q other.1).1
  ]

module _ (which : Side) (c : ℕ) (m : Channels) (channel : Channel) (goes : AllGoOn m) (there : get m c ≡ Some channel) where
  left_here : get (channels_left (end_at which (Some c)) m) c ≡ cond (not (is_over (left_at which channel))) (Some (left_at which channel)) None
  left_here =
      left_at_key (end_at which (Some c)) m c
      ∙ ap (λ x. kept_channel (option_map (channel_left (is_reader c (Some (end_at which (Some c)))) (is_writer c (Some (end_at which (Some c))))) x)) there
      ∙ ap (λ x. kept_channel (Some x)) (here which c channel)

  left_there : (q : ℕ) → q ≢ c → get (channels_left (end_at which (Some c)) m) q ≡ get m q
  left_there q other =
      left_at_key (end_at which (Some c)) m q ∙ same_kept (get m q) _ _ (goes q) (elsewhere which c q other).0 (elsewhere which c q other).1

  pub side_left : is_over (left_at which channel) ≡ false → insert m c (left_at which channel) ≡ channels_left (end_at which (Some c)) m
  side_left on = same_numbers _ _ (λ q. elim (eqb_tells q c) [
    | inl same ↦ subst (λ k. get (insert m c (left_at which channel)) k ≡ get (channels_left (end_at which (Some c)) m) k) (sym same.1)
        (get-insert-same m c (left_at which channel) ∙ sym (left_here ∙ ap (λ b. cond (not b) (Some (left_at which channel)) None) on))
    | inr other ↦ get-insert-other m c (left_at which channel) q other.1 ∙ sym (left_there q other.1)
  ])

  pub side_over : is_over (left_at which channel) ≡ true → remove (insert m c (left_at which channel)) c ≡ channels_left (end_at which (Some c)) m
  side_over over = same_numbers _ _ (λ q. elim (eqb_tells q c) [
    | inl same ↦ subst (λ k. get (remove (insert m c (left_at which channel)) c) k ≡ get (channels_left (end_at which (Some c)) m) k) (sym same.1)
        (get-remove-same (insert m c (left_at which channel)) c ∙ sym (left_here ∙ ap (λ b. cond (not b) (Some (left_at which channel)) None) over))
    | inr other ↦ get-remove-other (insert m c (left_at which channel)) c q other.1 ∙ get-insert-other m c (left_at which channel) q other.1 ∙ sym (left_there q other.1)
  ])

-- ---- both sides

both_true : (a b : Bool) → (a && b) ≡ true → (a ≡ true) × (b ≡ true)
both_true true b h = (refl, h)
both_true false b h = absurd (not_true h)

-- a channel that is over is so without its writer too
still_over : (writer : Bool) (x : Channel) → is_over x ≡ true → is_over (channel_left false writer x) ≡ true
still_over false x over = over
still_over true x over =
    let first = both_true (is_gone x.reader) (is_gone x.writer && is_empty x.waiting) over in
    let second = both_true (is_gone x.writer) (is_empty x.waiting) first.1 in
    ap (λ b. b && is_empty x.waiting) first.0 ∙ second.1

two_steps : (reader writer : Bool) (x : Channel) → channel_left false writer (channel_left reader false x) ≡ channel_left reader writer x
two_steps true writer x = refl
two_steps false writer x = refl

one_after_other : (reader writer : Bool) (x : Option Channel)
    → kept_channel (option_map (channel_left false writer) (kept_channel (option_map (channel_left reader false) x))) ≡ kept_channel (option_map (channel_left reader writer) x)
one_after_other reader writer None = refl
one_after_other reader writer (Some x) =
    elim (is_over (channel_left reader false x)) as (λ b. is_over (channel_left reader false x) ≡ b
    → kept_channel (option_map (channel_left false writer) (cond (not b) (Some (channel_left reader false x)) None)) ≡ kept_channel (Some (channel_left reader writer x))) [
      | true ↦ λ over. sym (ap (λ b. cond (not b) (Some (channel_left reader writer x)) None)
          (ap is_over (sym (two_steps reader writer x)) ∙ still_over writer (channel_left reader false x) over))
      | false ↦ λ on. ap (λ y. kept_channel (Some y)) (two_steps reader writer x)
    ] refl

reader_only : (q : ℕ) (reads writes : Option ℕ) (flags : ℕ) (form : ChanKind) → is_reader q (Some (End reads None 0 chan_kind.Stream)) ≡ is_reader q (Some (End reads writes flags form))
reader_only q None writes flags form = refl
reader_only q (Some c) writes flags form = refl

writer_only : (q : ℕ) (reads writes : Option ℕ) (flags : ℕ) (form : ChanKind) → is_writer q (Some (End None writes 0 chan_kind.Stream)) ≡ is_writer q (Some (End reads writes flags form))
writer_only q reads None flags form = refl
writer_only q reads (Some c) flags form = refl

no_writer : (q : ℕ) (reads : Option ℕ) → is_writer q (Some (End reads None 0 chan_kind.Stream)) ≡ false
no_writer q reads = refl

no_reader : (q : ℕ) (writes : Option ℕ) → is_reader q (Some (End None writes 0 chan_kind.Stream)) ≡ false
no_reader q writes = refl

pub both_left : (reads writes : Option ℕ) (flags : ℕ) (form : ChanKind) (m : Channels)
    → channels_left (end_at Writer writes) (channels_left (end_at Reader reads) m) ≡ channels_left (End reads writes flags form) m
both_left reads writes flags form m = same_numbers _ _ (λ q.
    left_at_key (End None writes 0 chan_kind.Stream) (channels_left (End reads None 0 chan_kind.Stream) m) q
    ∙ ap (λ x. kept_channel (option_map (channel_left (is_reader q (Some (End None writes 0 chan_kind.Stream))) (is_writer q (Some (End None writes 0 chan_kind.Stream)))) x)) (left_at_key (End reads None 0 chan_kind.Stream) m q)
    ∙ ap (λ b. kept_channel (option_map (channel_left b (is_writer q (Some (End None writes 0 chan_kind.Stream)))) (kept_channel (option_map (channel_left (is_reader q (Some (End reads None 0 chan_kind.Stream))) (is_writer q (Some (End reads None 0 chan_kind.Stream)))) (get m q))))) (no_reader q writes)
    ∙ ap (λ b. kept_channel (option_map (channel_left false (is_writer q (Some (End None writes 0 chan_kind.Stream)))) (kept_channel (option_map (channel_left (is_reader q (Some (End reads None 0 chan_kind.Stream))) b) (get m q))))) (no_writer q reads)
    ∙ one_after_other (is_reader q (Some (End reads None 0 chan_kind.Stream))) (is_writer q (Some (End None writes 0 chan_kind.Stream))) (get m q)
    ∙ ap (λ b. kept_channel (option_map (channel_left b (is_writer q (Some (End None writes 0 chan_kind.Stream)))) (get m q))) (reader_only q reads writes flags form)
    ∙ ap (λ b. kept_channel (option_map (channel_left (is_reader q (Some (End reads writes flags form))) b) (get m q))) (writer_only q reads writes flags form)
    ∙ sym (left_at_key (End reads writes flags form) m q))

-- ---- carriers

released_counts : (o : ℕ) (which : Side) (x : Channel) → carried_in o (left_at which x) + count_carried o (released_at which x) ≡ carried_in o x
released_counts o Reader x = let all = count_all o x.waiting in omega (arith, all)
released_counts o Writer x = omega arith

pub carriers_left : (o : ℕ) (which : Side) (c : ℕ) (m : Channels) (x : Channel) → get m c ≡ Some x
    → carriers_in o (insert m c (left_at which x)) + count_carried o (released_at which x) ≡ carriers_in o m
carriers_left o which c m x there =
    let change = carriers_changed o m c x (left_at which x) there in
    let out = released_counts o which x in
    omega (arith, change, out)

empty_weighs_none : (o : ℕ) (sends : List Send) → is_empty sends ≡ true → count_sent o sends ≡ 0
empty_weighs_none o [] h = refl
empty_weighs_none o (send ∷ sends) h = absurd (not_true h)

pub carriers_over : (o c : ℕ) (m : Channels) (x : Channel) → get m c ≡ Some x → is_over x ≡ true → carriers_in o (remove m c) ≡ carriers_in o m
carriers_over o c m x there over =
    let second = both_true (is_gone x.writer) (is_empty x.waiting) (both_true (is_gone x.reader) (is_gone x.writer && is_empty x.waiting) over).1 in
    let none = empty_weighs_none o x.waiting second.1 in
    let less = ap (λ y. carriers_in o (remove m c) + weight (carried_in o) y) (sym there) ∙ total-remove (carried_in o) m c in
    omega (arith, none, less)

-- no more descriptors come out of a channel than may wait in one
pub released_few : (which : Side) (x : Channel) → IsChannel x → length (released_at which x) ≤ most_carried
released_few Reader x is = is.carried
released_few Writer x is = omega arith
