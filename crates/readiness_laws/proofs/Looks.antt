-- What a call looks at while its thread waits is at the spots where the thread stands.
--     seen_at      what is seen of a state
--     read_looks, write_looks, receive_looks, send_looks      whether calls on ends wait
--     told_looks      whether there is something to tell a poll of
use Rattle.std.proofs.Common.{◌≡◌, ℕ, ◌||◌, Bool, true, false, List, [], ◌∷◌, Option, None, Some, is_some, refl, sym, ap, subst, ◌∙◌}
use Rattle.std.specs.Prelude.{if◌then◌else◌}
use Rattle.std.specs.Ordering.{nat_cmp}
use Rattle.std.specs.FinMap.{FinMap, get}
use Rattle.abi_structures.specs.declared.events.Event.{Event}
use Rattle.abi_structures.specs.declared.events.EventType.TheVariants as type
use Rattle.abi_structures.specs.declared.events.Subscription.{Subscription}
use Rattle.abi_structures.specs.declared.events.What.{What}
use Rattle.abi_structures.specs.declared.events.What.TheVariants.{Clock, Condvar, FdRead, FdWrite, LockRdlock, LockWrlock, ProcTerminate}
use Rattle.abi_types.specs.declared.call.Call.TheVariants as call
use Rattle.abi_types.specs.declared.constants.Constants.{Constants}
use Rattle.abi_types.specs.declared.descriptor.Descriptor.{Descriptor}
use Rattle.abi_types.specs.declared.open_kind.OpenKind.{OpenKind}
use Rattle.abi_types.specs.declared.open_kind.OpenKind.TheVariants.{File, Directory, End, Terminal, Process}
use Rattle.kernel_model.specs.Channels.{Channel}
use Rattle.kernel_model.specs.Deadlines.{is_due, soon}
use Rattle.kernel_model.specs.Families.ChannelCalls.{picked, read_from, receive_from, send_to, sent_reply, written_reply}
use Rattle.kernel_model.specs.Families.FileMeaning.{open_of}
use Rattle.kernel_model.specs.Families.Polls.{and_event, deadline_in, end_event, event_now, event_of, events_now, read_event, reading_event, soonest, terminate_event, write_event, writing_event}
use Rattle.kernel_model.specs.Outcome.{is_parked}
use Rattle.kernel_model.specs.State.{State, Table}
use Rattle.kernel_model.specs.View.{View}
use Rattle.kernel_parts.specs.Entries.{open_in}
use Rattle.kernel_parts.specs.Waiting.{end_at, socket_at}
use Rattle.poll_set.specs.Polls as polls
use Rattle.poll_set.specs.Polls.{is_told}
use Rattle.readiness_laws.specs.Spots.{Look, Purpose, Spot, AreSame, bare, behind_spots, descriptor_spots, look_spots, looks_of, never_waits, polled, polled_by, to_await, to_read, to_write, with_flags}
use Rattle.readiness_laws.proofs.Moments.{sooner_first, sooner_rest}
use Rattle.readiness_laws.proofs.Standing.{first_same, second_same}

abbrev pub seen_at : State → View
seen_at S = polls.sight S.opens S.chans S.statuses S.clock

abbrev look : ℕ → Bool → Purpose → Look
look fd counts purpose = record { fd = fd; flags = counts; purpose = purpose }

abbrev Chans : Type 0
Chans = FinMap nat_cmp Channel

-- ---- whether calls on ends wait, by what the open is of and whether nobody waits of it

abbrev read_waits : ℕ → Chans → Bool → Option OpenKind → Bool
read_waits n chans never (Some (End (Some c) writes flags form)) = is_parked (read_from n never c (get chans c)).answer
read_waits n chans never other = false

read_by : (fd n : ℕ) (chans : Chans) (kind : Option OpenKind)
    → is_parked (end_at chans kind (call.FdRead fd n)).answer ≡ read_waits n chans (never_waits kind) (bare kind)
read_by fd n chans None = refl
read_by fd n chans (Some (File node offset flags)) = refl
read_by fd n chans (Some (Directory node flags)) = refl
read_by fd n chans (Some (End None writes flags form)) = refl
read_by fd n chans (Some (End (Some c) writes flags form)) = refl
read_by fd n chans (Some (Terminal which flags)) = refl
read_by fd n chans (Some (Process p object)) = refl

abbrev write_waits : List ℕ → Chans → Bool → Option OpenKind → Bool
write_waits [] chans never kind = false
write_waits (b ∷ bytes) chans never (Some (End reads (Some c) flags form)) = is_parked (send_to written_reply never (b ∷ bytes) [] c (get chans c)).answer
write_waits (b ∷ bytes) chans never other = false

write_by : (fd : ℕ) (bytes : List ℕ) (chans : Chans) (kind : Option OpenKind)
    → is_parked (end_at chans kind (call.FdWrite fd bytes)).answer ≡ write_waits bytes chans (never_waits kind) (bare kind)
write_by fd [] chans None = refl
write_by fd [] chans (Some (File node offset flags)) = refl
write_by fd [] chans (Some (Directory node flags)) = refl
write_by fd [] chans (Some (End reads writes flags form)) = refl
write_by fd [] chans (Some (Terminal which flags)) = refl
write_by fd [] chans (Some (Process p object)) = refl
write_by fd (b ∷ bytes) chans None = refl
write_by fd (b ∷ bytes) chans (Some (File node offset flags)) = refl
write_by fd (b ∷ bytes) chans (Some (Directory node flags)) = refl
write_by fd (b ∷ bytes) chans (Some (End reads None flags form)) = refl
write_by fd (b ∷ bytes) chans (Some (End reads (Some c) flags form)) = refl
write_by fd (b ∷ bytes) chans (Some (Terminal which flags)) = refl
write_by fd (b ∷ bytes) chans (Some (Process p object)) = refl

abbrev receive_waits : Table → ℕ → ℕ → ℕ → Chans → Bool → Option OpenKind → Bool
receive_waits table n room mode chans never (Some (End (Some r) (Some w) flags form)) = is_parked (receive_from 0 table n room mode never r (get chans r)).answer
receive_waits table n room mode chans never other = false

receive_by : (table : Table) (fd n room mode : ℕ) (chans : Chans) (kind : Option OpenKind)
    → is_parked (socket_at 0 table chans kind (call.SockRecv fd n room mode)).answer ≡ receive_waits table n room mode chans (never_waits kind) (bare kind)
receive_by table fd n room mode chans None = refl
receive_by table fd n room mode chans (Some (File node offset flags)) = refl
receive_by table fd n room mode chans (Some (Directory node flags)) = refl
receive_by table fd n room mode chans (Some (End None writes flags form)) = refl
receive_by table fd n room mode chans (Some (End (Some r) None flags form)) = refl
receive_by table fd n room mode chans (Some (End (Some r) (Some w) flags form)) = refl
receive_by table fd n room mode chans (Some (Terminal which flags)) = refl
receive_by table fd n room mode chans (Some (Process p object)) = refl

abbrev send_waits : Table → List ℕ → List ℕ → Chans → Bool → Option OpenKind → Bool
send_waits table [] fds chans never kind = false
send_waits table (b ∷ bytes) fds chans never (Some (End (Some r) (Some w) flags form)) =
    is_parked (send_to sent_reply never (b ∷ bytes) (picked table fds) w (get chans w)).answer
send_waits table (b ∷ bytes) fds chans never other = false

send_end : (table : Table) (fd : ℕ) (bytes fds : List ℕ) (mode : ℕ) (chans : Chans) (r w flags : ℕ) (form : _)
    → is_parked (socket_at 0 table chans (Some (End (Some r) (Some w) flags form)) (call.SockSend fd bytes fds mode)).answer
    ≡ send_waits table bytes fds chans (never_waits (Some (End (Some r) (Some w) flags form))) (bare (Some (End (Some r) (Some w) flags form)))
send_end table fd [] fds mode chans r w flags form = refl
send_end table fd (b ∷ bytes) fds mode chans r w flags form = refl

-- what isn't a socket sends nothing
no_socket : (table : Table) (bytes fds : List ℕ) (chans : Chans) (never : Bool) (kind : Option OpenKind)
    → ((b : ℕ) (more : List ℕ) → send_waits table (b ∷ more) fds chans never kind ≡ false) → false ≡ send_waits table bytes fds chans never kind
no_socket table [] fds chans never kind none = refl
no_socket table (b ∷ bytes) fds chans never kind none = sym (none b bytes)

send_by : (table : Table) (fd : ℕ) (bytes fds : List ℕ) (mode : ℕ) (chans : Chans) (kind : Option OpenKind)
    → is_parked (socket_at 0 table chans kind (call.SockSend fd bytes fds mode)).answer ≡ send_waits table bytes fds chans (never_waits kind) (bare kind)
send_by table fd bytes fds mode chans None = no_socket table bytes fds chans false None (λ b more. refl)
send_by table fd bytes fds mode chans (Some (File node offset flags)) = no_socket table bytes fds chans false (Some (File node 0 0)) (λ b more. refl)
send_by table fd bytes fds mode chans (Some (Directory node flags)) = no_socket table bytes fds chans false (Some (Directory node 0)) (λ b more. refl)
send_by table fd bytes fds mode chans (Some (End None writes flags form)) =
    no_socket table bytes fds chans (never_waits (Some (End None writes flags form))) (Some (End None writes 0 form)) (λ b more. refl)
send_by table fd bytes fds mode chans (Some (End (Some r) None flags form)) =
    no_socket table bytes fds chans (never_waits (Some (End (Some r) None flags form))) (Some (End (Some r) None 0 form)) (λ b more. refl)
send_by table fd bytes fds mode chans (Some (End (Some r) (Some w) flags form)) = send_end table fd bytes fds mode chans r w flags form
send_by table fd bytes fds mode chans (Some (Terminal which flags)) = no_socket table bytes fds chans false (Some (Terminal which 0)) (λ b more. refl)
send_by table fd bytes fds mode chans (Some (Process p object)) = no_socket table bytes fds chans false (Some (Process p object)) (λ b more. refl)

-- ---- whether a subscription is told something

abbrev reading_tells : ℕ → View → Option OpenKind → Bool
reading_tells userdata v (Some (End (Some c) writes flags form)) = is_some (reading_event userdata (v.channel c))
reading_tells userdata v other = true

reading_by : (userdata : ℕ) (v : View) (kind : Option OpenKind) → is_some (read_event userdata v kind) ≡ reading_tells userdata v (bare kind)
reading_by userdata v None = refl
reading_by userdata v (Some (File node offset flags)) = refl
reading_by userdata v (Some (Directory node flags)) = refl
reading_by userdata v (Some (End None None flags form)) = refl
reading_by userdata v (Some (End None (Some c) flags form)) = refl
reading_by userdata v (Some (End (Some c) writes flags form)) = refl
reading_by userdata v (Some (Terminal which flags)) = refl
reading_by userdata v (Some (Process p object)) = refl

abbrev writing_tells : ℕ → View → Option OpenKind → Bool
writing_tells userdata v (Some (End reads (Some c) flags form)) = is_some (writing_event userdata (v.channel c))
writing_tells userdata v other = true

writing_by : (userdata : ℕ) (v : View) (kind : Option OpenKind) → is_some (write_event userdata v kind) ≡ writing_tells userdata v (bare kind)
writing_by userdata v None = refl
writing_by userdata v (Some (File node offset flags)) = refl
writing_by userdata v (Some (Directory node flags)) = refl
writing_by userdata v (Some (End None None flags form)) = refl
writing_by userdata v (Some (End (Some c) None flags form)) = refl
writing_by userdata v (Some (End reads (Some c) flags form)) = refl
writing_by userdata v (Some (Terminal which flags)) = refl
writing_by userdata v (Some (Process p object)) = refl

abbrev ending_tells : ℕ → View → Option OpenKind → Bool
ending_tells userdata v (Some (Process p object)) = is_some (end_event userdata (v.status p))
ending_tells userdata v other = true

ending_by : (userdata : ℕ) (v : View) (kind : Option OpenKind) → is_some (terminate_event userdata v kind) ≡ ending_tells userdata v (bare kind)
ending_by userdata v None = refl
ending_by userdata v (Some (File node offset flags)) = refl
ending_by userdata v (Some (Directory node flags)) = refl
ending_by userdata v (Some (End reads writes flags form)) = refl
ending_by userdata v (Some (Terminal which flags)) = refl
ending_by userdata v (Some (Process p object)) = refl

-- an event before others
told_first : (event : Option Event) (events : List Event) → is_told (and_event event events) ≡ (is_some event || is_told events)
told_first None events = refl
told_first (Some event) events = refl

some_spot : (spot : Spot) (rest : List Spot) → spot ∷ rest ≡ [] → ⊥
some_spot spot rest is = cc

module _ (S T : State) where
  -- ---- by the channels and statuses behind an open

  read_same : (n : ℕ) (never : Bool) (kind : Option OpenKind) → AreSame S T (behind_spots to_read kind)
      → read_waits n S.chans never (bare kind) ≡ read_waits n T.chans never (bare kind)
  read_same n never None all = refl
  read_same n never (Some (File node offset flags)) all = refl
  read_same n never (Some (Directory node flags)) all = refl
  read_same n never (Some (End None writes flags form)) all = refl
  read_same n never (Some (End (Some c) writes flags form)) all = ap (λ o. is_parked (read_from n never c o).answer) all.0
  read_same n never (Some (Terminal which flags)) all = refl
  read_same n never (Some (Process p object)) all = refl

  write_same : (bytes : List ℕ) (never : Bool) (kind : Option OpenKind) → AreSame S T (behind_spots to_write kind)
      → write_waits bytes S.chans never (bare kind) ≡ write_waits bytes T.chans never (bare kind)
  write_same [] never kind all = refl
  write_same (b ∷ bytes) never None all = refl
  write_same (b ∷ bytes) never (Some (File node offset flags)) all = refl
  write_same (b ∷ bytes) never (Some (Directory node flags)) all = refl
  write_same (b ∷ bytes) never (Some (End reads None flags form)) all = refl
  write_same (b ∷ bytes) never (Some (End reads (Some c) flags form)) all = ap (λ o. is_parked (send_to written_reply never (b ∷ bytes) [] c o).answer) all.0
  write_same (b ∷ bytes) never (Some (Terminal which flags)) all = refl
  write_same (b ∷ bytes) never (Some (Process p object)) all = refl

  receive_same : (table : Table) (n room mode : ℕ) (never : Bool) (kind : Option OpenKind) → AreSame S T (behind_spots to_read kind)
      → receive_waits table n room mode S.chans never (bare kind) ≡ receive_waits table n room mode T.chans never (bare kind)
  receive_same table n room mode never None all = refl
  receive_same table n room mode never (Some (File node offset flags)) all = refl
  receive_same table n room mode never (Some (Directory node flags)) all = refl
  receive_same table n room mode never (Some (End None writes flags form)) all = refl
  receive_same table n room mode never (Some (End (Some r) None flags form)) all = refl
  receive_same table n room mode never (Some (End (Some r) (Some w) flags form)) all = ap (λ o. is_parked (receive_from 0 table n room mode never r o).answer) all.0
  receive_same table n room mode never (Some (Terminal which flags)) all = refl
  receive_same table n room mode never (Some (Process p object)) all = refl

  send_same : (table : Table) (bytes fds : List ℕ) (never : Bool) (kind : Option OpenKind) → AreSame S T (behind_spots to_write kind)
      → send_waits table bytes fds S.chans never (bare kind) ≡ send_waits table bytes fds T.chans never (bare kind)
  send_same table [] fds never kind all = refl
  send_same table (b ∷ bytes) fds never None all = refl
  send_same table (b ∷ bytes) fds never (Some (File node offset flags)) all = refl
  send_same table (b ∷ bytes) fds never (Some (Directory node flags)) all = refl
  send_same table (b ∷ bytes) fds never (Some (End None writes flags form)) all = refl
  send_same table (b ∷ bytes) fds never (Some (End (Some r) None flags form)) all = refl
  send_same table (b ∷ bytes) fds never (Some (End (Some r) (Some w) flags form)) all =
      ap (λ o. is_parked (send_to sent_reply never (b ∷ bytes) (picked table fds) w o).answer) all.0
  send_same table (b ∷ bytes) fds never (Some (Terminal which flags)) all = refl
  send_same table (b ∷ bytes) fds never (Some (Process p object)) all = refl

  -- ---- where nothing stands behind an open its flags are of no account

  read_idle : (n : ℕ) (never now : Bool) (kind : Option OpenKind) → behind_spots to_read kind ≡ []
      → read_waits n T.chans never (bare kind) ≡ read_waits n T.chans now (bare kind)
  read_idle n never now None none = refl
  read_idle n never now (Some (File node offset flags)) none = refl
  read_idle n never now (Some (Directory node flags)) none = refl
  read_idle n never now (Some (End None writes flags form)) none = refl
  read_idle n never now (Some (End (Some c) writes flags form)) none = absurd (some_spot _ _ none)
  read_idle n never now (Some (Terminal which flags)) none = refl
  read_idle n never now (Some (Process p object)) none = refl

  write_idle : (bytes : List ℕ) (never now : Bool) (kind : Option OpenKind) → behind_spots to_write kind ≡ []
      → write_waits bytes T.chans never (bare kind) ≡ write_waits bytes T.chans now (bare kind)
  write_idle [] never now kind none = refl
  write_idle (b ∷ bytes) never now None none = refl
  write_idle (b ∷ bytes) never now (Some (File node offset flags)) none = refl
  write_idle (b ∷ bytes) never now (Some (Directory node flags)) none = refl
  write_idle (b ∷ bytes) never now (Some (End reads None flags form)) none = refl
  write_idle (b ∷ bytes) never now (Some (End reads (Some c) flags form)) none = absurd (some_spot _ _ none)
  write_idle (b ∷ bytes) never now (Some (Terminal which flags)) none = refl
  write_idle (b ∷ bytes) never now (Some (Process p object)) none = refl

  receive_idle : (table : Table) (n room mode : ℕ) (never now : Bool) (kind : Option OpenKind) → behind_spots to_read kind ≡ []
      → receive_waits table n room mode T.chans never (bare kind) ≡ receive_waits table n room mode T.chans now (bare kind)
  receive_idle table n room mode never now None none = refl
  receive_idle table n room mode never now (Some (File node offset flags)) none = refl
  receive_idle table n room mode never now (Some (Directory node flags)) none = refl
  receive_idle table n room mode never now (Some (End None writes flags form)) none = refl
  receive_idle table n room mode never now (Some (End (Some r) writes flags form)) none = absurd (some_spot _ _ none)
  receive_idle table n room mode never now (Some (Terminal which flags)) none = refl
  receive_idle table n room mode never now (Some (Process p object)) none = refl

  send_idle : (table : Table) (bytes fds : List ℕ) (never now : Bool) (kind : Option OpenKind) → behind_spots to_write kind ≡ []
      → send_waits table bytes fds T.chans never (bare kind) ≡ send_waits table bytes fds T.chans now (bare kind)
  send_idle table [] fds never now kind none = refl
  send_idle table (b ∷ bytes) fds never now None none = refl
  send_idle table (b ∷ bytes) fds never now (Some (File node offset flags)) none = refl
  send_idle table (b ∷ bytes) fds never now (Some (Directory node flags)) none = refl
  send_idle table (b ∷ bytes) fds never now (Some (End None None flags form)) none = refl
  send_idle table (b ∷ bytes) fds never now (Some (End (Some r) None flags form)) none = refl
  send_idle table (b ∷ bytes) fds never now (Some (End reads (Some w) flags form)) none = absurd (some_spot _ _ none)
  send_idle table (b ∷ bytes) fds never now (Some (Terminal which flags)) none = refl
  send_idle table (b ∷ bytes) fds never now (Some (Process p object)) none = refl

  reading_same : (userdata : ℕ) (kind : Option OpenKind) → AreSame S T (behind_spots to_read kind)
      → reading_tells userdata (seen_at S) (bare kind) ≡ reading_tells userdata (seen_at T) (bare kind)
  reading_same userdata None all = refl
  reading_same userdata (Some (File node offset flags)) all = refl
  reading_same userdata (Some (Directory node flags)) all = refl
  reading_same userdata (Some (End None writes flags form)) all = refl
  reading_same userdata (Some (End (Some c) writes flags form)) all = ap (λ o. is_some (reading_event userdata o)) all.0
  reading_same userdata (Some (Terminal which flags)) all = refl
  reading_same userdata (Some (Process p object)) all = refl

  writing_same : (userdata : ℕ) (kind : Option OpenKind) → AreSame S T (behind_spots to_write kind)
      → writing_tells userdata (seen_at S) (bare kind) ≡ writing_tells userdata (seen_at T) (bare kind)
  writing_same userdata None all = refl
  writing_same userdata (Some (File node offset flags)) all = refl
  writing_same userdata (Some (Directory node flags)) all = refl
  writing_same userdata (Some (End reads None flags form)) all = refl
  writing_same userdata (Some (End reads (Some c) flags form)) all = ap (λ o. is_some (writing_event userdata o)) all.0
  writing_same userdata (Some (Terminal which flags)) all = refl
  writing_same userdata (Some (Process p object)) all = refl

  ending_same : (userdata : ℕ) (kind : Option OpenKind) → AreSame S T (behind_spots to_await kind)
      → ending_tells userdata (seen_at S) (bare kind) ≡ ending_tells userdata (seen_at T) (bare kind)
  ending_same userdata None all = refl
  ending_same userdata (Some (File node offset flags)) all = refl
  ending_same userdata (Some (Directory node flags)) all = refl
  ending_same userdata (Some (End reads writes flags form)) all = refl
  ending_same userdata (Some (Terminal which flags)) all = refl
  ending_same userdata (Some (Process p object)) all = ap (λ o. is_some (end_event userdata o)) all.0

  -- ---- by the descriptor of a call

  -- by what its open is of, whether nobody waits of that, and what stands behind it
  module _ (f : State → Bool → Option OpenKind → Bool) (g : State → Option OpenKind → Bool)
      (by : (U : State) (kind : Option OpenKind) → g U kind ≡ f U (never_waits kind) (bare kind)) where
    waits_through : (fd : ℕ) (purpose : Purpose)
        → ((never : Bool) (kind : Option OpenKind) → AreSame S T (behind_spots purpose kind) → f S never (bare kind) ≡ f T never (bare kind))
        → ((never now : Bool) (kind : Option OpenKind) → behind_spots purpose kind ≡ [] → f T never (bare kind) ≡ f T now (bare kind))
        → (d : Option Descriptor) → AreSame S T (descriptor_spots S.opens (look fd true purpose) d) → g S (open_in S.opens d) ≡ g T (open_in T.opens d)
    waits_through fd purpose same idle None all = by S None ∙ same false None (none_behind purpose) ∙ sym (by T None) where
      none_behind : (s : Purpose) → AreSame S T (behind_spots s None)
      none_behind to_read = tt
      none_behind to_write = tt
      none_behind to_await = tt
    waits_through fd purpose same idle (Some d) all =
        by S (get S.opens d.id)
        ∙ by_flags (behind_spots purpose (get S.opens d.id)) refl all.1
        ∙ ap (f T (never_waits (get T.opens d.id))) all.0 ∙ sym (by T (get T.opens d.id)) where
          by_flags : (those : List Spot) → behind_spots purpose (get S.opens d.id) ≡ those → AreSame S T (with_flags true d.id those)
              → f S (never_waits (get S.opens d.id)) (bare (get S.opens d.id)) ≡ f T (never_waits (get T.opens d.id)) (bare (get S.opens d.id))
          by_flags [] is same_flags =
              same (never_waits (get S.opens d.id)) (get S.opens d.id) (subst (AreSame S T) (sym is) tt)
              ∙ idle (never_waits (get S.opens d.id)) (never_waits (get T.opens d.id)) (get S.opens d.id) is
          by_flags (spot ∷ rest) is same_flags =
              same (never_waits (get S.opens d.id)) (get S.opens d.id) (subst (AreSame S T) (sym is) same_flags.1)
              ∙ ap (λ never. f T never (bare (get S.opens d.id))) same_flags.0

  module _ (table : Table) (fd : ℕ) where
    pub read_looks : (n : ℕ) → AreSame S T (look_spots S.opens table (looks_of (call.FdRead fd n)))
        → is_parked (end_at S.chans (open_in S.opens (get table fd)) (call.FdRead fd n)).answer
        ≡ is_parked (end_at T.chans (open_in T.opens (get table fd)) (call.FdRead fd n)).answer
    read_looks n all =
        waits_through (λ U never kind. read_waits n U.chans never kind) (λ U kind. is_parked (end_at U.chans kind (call.FdRead fd n)).answer)
        (λ U. read_by fd n U.chans)
        fd to_read (read_same n) (read_idle n) (get table fd) (first_same S T (descriptor_spots S.opens (look fd true to_read) (get table fd)) [] all)

    pub write_looks : (bytes : List ℕ) → AreSame S T (look_spots S.opens table (looks_of (call.FdWrite fd bytes)))
        → is_parked (end_at S.chans (open_in S.opens (get table fd)) (call.FdWrite fd bytes)).answer
        ≡ is_parked (end_at T.chans (open_in T.opens (get table fd)) (call.FdWrite fd bytes)).answer
    write_looks bytes all =
        waits_through (λ U never kind. write_waits bytes U.chans never kind) (λ U kind. is_parked (end_at U.chans kind (call.FdWrite fd bytes)).answer)
        (λ U. write_by fd bytes U.chans) fd to_write (write_same bytes) (write_idle bytes) (get table fd)
        (first_same S T (descriptor_spots S.opens (look fd true to_write) (get table fd)) [] all)

    pub receive_looks : (n room mode : ℕ) → AreSame S T (look_spots S.opens table (looks_of (call.SockRecv fd n room mode)))
        → is_parked (socket_at 0 table S.chans (open_in S.opens (get table fd)) (call.SockRecv fd n room mode)).answer
        ≡ is_parked (socket_at 0 table T.chans (open_in T.opens (get table fd)) (call.SockRecv fd n room mode)).answer
    receive_looks n room mode all =
        waits_through (λ U never kind. receive_waits table n room mode U.chans never kind)
        (λ U kind. is_parked (socket_at 0 table U.chans kind (call.SockRecv fd n room mode)).answer) (λ U. receive_by table fd n room mode U.chans)
        fd to_read (receive_same table n room mode) (receive_idle table n room mode) (get table fd)
        (first_same S T (descriptor_spots S.opens (look fd true to_read) (get table fd)) [] all)

    pub send_looks : (bytes fds : List ℕ) (mode : ℕ) → AreSame S T (look_spots S.opens table (looks_of (call.SockSend fd bytes fds mode)))
        → is_parked (socket_at 0 table S.chans (open_in S.opens (get table fd)) (call.SockSend fd bytes fds mode)).answer
        ≡ is_parked (socket_at 0 table T.chans (open_in T.opens (get table fd)) (call.SockSend fd bytes fds mode)).answer
    send_looks bytes fds mode all =
        waits_through (λ U never kind. send_waits table bytes fds U.chans never kind)
        (λ U kind. is_parked (socket_at 0 table U.chans kind (call.SockSend fd bytes fds mode)).answer) (λ U. send_by table fd bytes fds mode U.chans)
        fd to_write (send_same table bytes fds) (send_idle table bytes fds) (get table fd)
        (first_same S T (descriptor_spots S.opens (look fd true to_write) (get table fd)) [] all)

  -- ---- polls

  module _ (f : View → Option OpenKind → Bool) (g : View → Option OpenKind → Option Event)
      (by : (v : View) (kind : Option OpenKind) → is_some (g v kind) ≡ f v (bare kind)) where
    tells_through : (fd : ℕ) (purpose : Purpose)
        → ((kind : Option OpenKind) → AreSame S T (behind_spots purpose kind) → f (seen_at S) (bare kind) ≡ f (seen_at T) (bare kind))
        → (d : Option Descriptor) → AreSame S T (descriptor_spots S.opens (look fd false purpose) d)
        → is_some (g (seen_at S) (open_of (seen_at S) d)) ≡ is_some (g (seen_at T) (open_of (seen_at T) d))
    tells_through fd purpose same None all = by (seen_at S) None ∙ same None (none_behind purpose) ∙ sym (by (seen_at T) None) where
      none_behind : (s : Purpose) → AreSame S T (behind_spots s None)
      none_behind to_read = tt
      none_behind to_write = tt
      none_behind to_await = tt
    tells_through fd purpose same (Some d) all =
        by (seen_at S) (get S.opens d.id) ∙ same (get S.opens d.id) (unflagged (behind_spots purpose (get S.opens d.id)) all.1) ∙ ap (f (seen_at T)) all.0
        ∙ sym (by (seen_at T) (get T.opens d.id)) where
          unflagged : (those : List Spot) → AreSame S T (with_flags false d.id those) → AreSame S T those
          unflagged [] same_all = same_all
          unflagged (spot ∷ rest) same_all = same_all

  -- the spots of the subscriptions behind the first
  rest_same : (table : Table) (what : What) (looks : List Look) → AreSame S T (look_spots S.opens table (polled_by what looks))
      → AreSame S T (look_spots S.opens table looks)
  rest_same table (FdRead fd) looks all =
      second_same S T (descriptor_spots S.opens (look fd false to_read) (get table fd)) (look_spots S.opens table looks) all
  rest_same table (FdWrite fd) looks all =
      second_same S T (descriptor_spots S.opens (look fd false to_write) (get table fd)) (look_spots S.opens table looks) all
  rest_same table (ProcTerminate fd) looks all =
      second_same S T (descriptor_spots S.opens (look fd false to_await) (get table fd)) (look_spots S.opens table looks) all
  rest_same table (Clock clock timeout precision flags) looks all = all
  rest_same table (Condvar condvar condvar_word lock lock_word condvar_scope lock_scope) looks all = all
  rest_same table (LockRdlock lock word scope) looks all = all
  rest_same table (LockWrlock lock word scope) looks all = all

  -- the constants may be others, as long as no moment has come by either
  module _ (first second : Constants) (since : ℕ) (table : Table) where
    event_same : (userdata : ℕ) (what : What) (looks : List Look) → is_due S.clock (soon (deadline_in first since what)) ≡ false
        → is_due T.clock (soon (deadline_in second since what)) ≡ false → AreSame S T (look_spots S.opens table (polled_by what looks))
        → is_some (event_now first (seen_at S) since table userdata what) ≡ is_some (event_now second (seen_at T) since table userdata what)
    event_same userdata (Clock clock timeout precision flags) looks before after all =
        ap (λ b. is_some (if b then Some (event_of userdata type.Clock) else None)) (before ∙ sym after)
    event_same userdata (FdRead fd) looks before after all =
        tells_through (reading_tells userdata) (read_event userdata) (reading_by userdata) fd to_read (reading_same userdata) (get table fd)
        (first_same S T (descriptor_spots S.opens (look fd false to_read) (get table fd)) (look_spots S.opens table looks) all)
    event_same userdata (FdWrite fd) looks before after all =
        tells_through (writing_tells userdata) (write_event userdata) (writing_by userdata) fd to_write (writing_same userdata) (get table fd)
        (first_same S T (descriptor_spots S.opens (look fd false to_write) (get table fd)) (look_spots S.opens table looks) all)
    event_same userdata (ProcTerminate fd) looks before after all =
        tells_through (ending_tells userdata) (terminate_event userdata) (ending_by userdata) fd to_await (ending_same userdata) (get table fd)
        (first_same S T (descriptor_spots S.opens (look fd false to_await) (get table fd)) (look_spots S.opens table looks) all)
    event_same userdata (Condvar condvar condvar_word lock lock_word condvar_scope lock_scope) looks before after all = refl
    event_same userdata (LockRdlock lock word scope) looks before after all = refl
    event_same userdata (LockWrlock lock word scope) looks before after all = refl

    -- whether a poll has something to tell of, where the moment of none of its clocks has come
    pub told_looks : (subs : List Subscription) → is_due S.clock (soon (soonest first since subs)) ≡ false
        → is_due T.clock (soon (soonest second since subs)) ≡ false → AreSame S T (look_spots S.opens table (polled subs))
        → is_told (events_now first (seen_at S) since table subs) ≡ is_told (events_now second (seen_at T) since table subs)
    told_looks [] before after all = refl
    told_looks (s ∷ rest) before after all =
        let own : Constants → Option ℕ = λ constants. deadline_in constants since s.what in
        let others : Constants → Option ℕ = λ constants. soonest constants since rest in
        let one = event_same s.userdata s.what (polled rest) (sooner_first S.clock (own first) (others first) before)
        (sooner_first T.clock (own second) (others second) after) all in
        let more = told_looks rest (sooner_rest S.clock (own first) (others first) before) (sooner_rest T.clock (own second) (others second) after)
        (rest_same table s.what (polled rest) all) in
        told_first (event_now first (seen_at S) since table s.userdata s.what) (events_now first (seen_at S) since table rest)
        ∙ (λ i. one i || more i)
        ∙ sym (told_first (event_now second (seen_at T) since table s.userdata s.what) (events_now second (seen_at T) since table rest))
