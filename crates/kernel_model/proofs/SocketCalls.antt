-- The meanings of sock_send, sock_recv and sock_shutdown are proper.
--     picked_all, install_all      what holds of each descriptor of a table holds of those picked from it; and of those that a table has
--         once more are installed in it
--     receive_holds      what holds of each outcome of a receive
use Rattle.std.proofs.Common.{◌≡◌, ◌≢◌, inl, inr, ℕ, zero, suc, ◌==◌, ◌||◌, not, Bool, true, false, List, [], ◌∷◌, ◌++◌, take, map, min, Option, Some, None, refl, sym, ap, subst, ◌∙◌}
use Rattle.std.proofs.lemmas.Bool.Decides.{eqb_tells}
use Rattle.std.specs.Prelude.{bit_and}
use Rattle.std.specs.FinMap.{empty, get, insert}
use Rattle.std.specs.List.{AllByRecursion}
use Rattle.abi_base.specs.declared.errno.Errno.{Errno}
use Rattle.abi_base.specs.declared.errno.Errno.TheVariants.{Again, Badf, Mfile, Notsock, Pipe}
use Rattle.abi_base.specs.declared.rights.TheConstants.Rights.{FD_READ, FD_WRITE, SOCK_SHUTDOWN}
use Rattle.abi_types.specs.declared.chan_kind.ChanKind.{ChanKind}
use Rattle.abi_types.specs.declared.descriptor.Descriptor.{Descriptor}
use Rattle.abi_types.specs.declared.open_kind.OpenKind.{OpenKind}
use Rattle.abi_types.specs.declared.open_kind.OpenKind.TheVariants.{File, Directory, End, Terminal, Process}
use Rattle.abi_types.specs.declared.reply.Answer.TheVariants as answer
use Rattle.maps.specs.Maps.{get-insert-same, get-insert-other}
use Rattle.kernel_model.specs.Channels.{Channel, Pulled, pull, reach, Gone, with_reader_shut, with_writer_shut}
use Rattle.kernel_model.specs.Families.ChannelCalls.{Installed, added, both_parts, install, is_nonblocking, must_wait_by, peeks, picked, put_first, receive_from, receive_open, received_if, received_part, received_reply, received_with, send_open, sent_part, sent_reply, shut_if, shut_open, taken_if, truncated, waits_unless, where_free}
use Rattle.kernel_model.specs.Families.DescriptorCalls.{lowest_free}
use Rattle.kernel_model.specs.Families.OpenMeaning.{at_descriptor, touched_at}
use Rattle.kernel_model.specs.Families.SocketCalls.{receiving, sending, shutting, sock_recv, sock_send, sock_shutdown}
use Rattle.kernel_model.specs.Outcome.{Outcome, is_parked, parks, replies}
use Rattle.kernel_model.specs.Proper.{AllCarryOn, CarriesOn, IsIn, IsPlain, IsProper, IsUnset, OrWaits, Sender, nothing_set}
use Rattle.kernel_model.specs.Reply.{refused, success}
use Rattle.kernel_model.specs.Rows.{base_row}
use Rattle.kernel_model.specs.Sight.{behind, channel_part, process_parts}
use Rattle.kernel_model.specs.State.{State, Table, Part, at_chan, at_clock, at_proc, at_status, has_part, part_of, put_all, put_one, same_part, set_chan}
use Rattle.kernel_model.specs.Step.{tick}
use Rattle.kernel_model.specs.Valid.{IsNamed, IsNearlyValid}
use Rattle.kernel_model.specs.View.{View, restrict, whole}
use Rattle.abi_types.specs.declared.reply.WordWrites.TheVariants.{Zero}
use Rattle.kernel_model.proofs.Branches.{seen_parts}
use Rattle.kernel_model.proofs.ChannelCalls.{AreIn, AreNamed, Ends, ends_refused, reader_seen, send_ends, send_parks, send_reads, writer_seen}
use Rattle.kernel_model.proofs.ChannelChanges.{coming_all, drawn_carries, drawn_joined, emptied_carries, same_carries, set_chan_nearly_valid, shut_reader_joined, shut_gone, shut_stays, shut_writer_joined}
use Rattle.kernel_model.proofs.OpenMeanings.{AreOfNoProcess, OpensWell, SeesWell, apart_processes, apart_unset, by_open_is_proper, patient_descriptor, plain_descriptor, reads_descriptor, seen_descriptor}
use Rattle.kernel_model.proofs.Parts.{beyond_process, has_left, has_right, number_apart, outside_cons, own_same}
use Rattle.kernel_model.proofs.Tests.{none_is_no, not_true, same_some}
use Rattle.kernel_model.proofs.Valids.{same_value, table_nearly_valid}

-- ---- sock_send

added_all : (P : Descriptor → Type 0) (o : Option Descriptor) (ds : List Descriptor) → ((d : Descriptor) → o ≡ Some d → P d) → AllByRecursion P ds
    → AllByRecursion P (added o ds)
added_all P None ds one all = all
added_all P (Some d) ds one all = (one d refl, all)

-- what holds of each descriptor of a table holds of each that is picked from it
pub picked_all : (P : Descriptor → Type 0) (table : Table) → ((n : ℕ) (d : Descriptor) → get table n ≡ Some d → P d) → (fds : List ℕ)
    → AllByRecursion P (picked table fds)
picked_all P table all [] = tt
picked_all P table all (fd ∷ fds) = added_all P (get table fd) (picked table fds) (λ d there. all fd d there) (picked_all P table all fds)

abbrev send_errors : List Errno
send_errors = Badf ∷ Notsock ∷ Again ∷ Pipe ∷ []

send_badf : IsIn Badf send_errors
send_badf = ([], Notsock ∷ Again ∷ Pipe ∷ [], refl)

send_notsock : IsIn Notsock send_errors
send_notsock = (Badf ∷ [], Again ∷ Pipe ∷ [], refl)

send_again : IsIn Again send_errors
send_again = (Badf ∷ Notsock ∷ [], Pipe ∷ [], refl)

send_pipe : IsIn Pipe send_errors
send_pipe = (Badf ∷ Notsock ∷ Again ∷ [], [], refl)

module _ (bytes : List ℕ) (carried : List Descriptor) where
  send_open_ends : (v : View) (o : ℕ) (kind : Option OpenKind)
      → Ends (AreNamed carried) (AreIn carried) send_errors (sent_part kind) v o kind (send_open v bytes carried kind)
  send_open_ends v o None = ends_refused _ _ _ _ _ _ _ Badf send_badf
  send_open_ends v o (Some (File node offset flags)) = ends_refused _ _ _ _ _ _ _ Notsock send_notsock
  send_open_ends v o (Some (Directory node flags)) = ends_refused _ _ _ _ _ _ _ Notsock send_notsock
  send_open_ends v o (Some (End None writes flags form)) = ends_refused _ _ _ _ _ _ _ Notsock send_notsock
  send_open_ends v o (Some (End (Some r) None flags form)) = ends_refused _ _ _ _ _ _ _ Notsock send_notsock
  send_open_ends v o (Some (End (Some r) (Some w) flags form)) =
      send_ends sent_reply (λ count. (refl, refl)) send_errors send_badf send_again send_pipe v o bytes carried (Some r) (Some w) flags form
  send_open_ends v o (Some (Terminal which flags)) = ends_refused _ _ _ _ _ _ _ Notsock send_notsock
  send_open_ends v o (Some (Process p object)) = ends_refused _ _ _ _ _ _ _ Notsock send_notsock

  send_open_reads : (S : State) (p o : ℕ) (kind : Option OpenKind)
      → send_open (restrict S (seen_parts S p o kind)) bytes carried kind ≡ send_open (whole S) bytes carried kind
  send_open_reads S p o None = refl
  send_open_reads S p o (Some (File node offset flags)) = refl
  send_open_reads S p o (Some (Directory node flags)) = refl
  send_open_reads S p o (Some (End None writes flags form)) = refl
  send_open_reads S p o (Some (End (Some r) None flags form)) = refl
  send_open_reads S p o (Some (End (Some r) (Some w) flags form)) = send_reads sent_reply S p o bytes carried (Some r) (Some w) flags form
  send_open_reads S p o (Some (Terminal which flags)) = refl
  send_open_reads S p o (Some (Process q object)) = refl

  send_open_parks : (v : View) (clock : ℕ) (kind : Option OpenKind) → is_parked (send_open v bytes carried kind).answer ≡ true
      → is_parked (send_open (record v { clock = clock }) bytes carried kind).answer ≡ true
  send_open_parks v clock None h = h
  send_open_parks v clock (Some (File node offset flags)) h = h
  send_open_parks v clock (Some (Directory node flags)) h = h
  send_open_parks v clock (Some (End None writes flags form)) h = h
  send_open_parks v clock (Some (End (Some r) None flags form)) h = h
  send_open_parks v clock (Some (End (Some r) (Some w) flags form)) h = send_parks sent_reply v clock flags bytes carried (Some w) h
  send_open_parks v clock (Some (Terminal which flags)) h = h
  send_open_parks v clock (Some (Process p object)) h = h

  sent_seen : (S : State) (kind : Option OpenKind) (q : Part) → has_part (sent_part kind) q ≡ true → has_part (behind S kind) q ≡ true
  sent_seen S None q h = absurd (not_true h)
  sent_seen S (Some (File node offset flags)) q h = absurd (not_true h)
  sent_seen S (Some (Directory node flags)) q h = absurd (not_true h)
  sent_seen S (Some (End reads writes flags form)) q h = has_right (channel_part reads) (channel_part writes) q h
  sent_seen S (Some (Terminal which flags)) q h = absurd (not_true h)
  sent_seen S (Some (Process p object)) q h = absurd (not_true h)

  pub send_sees_well : SeesWell (sending bytes carried)
  send_sees_well = record {
    reads = λ now S p o kind. send_open_reads S p o kind;
    seen = sent_seen;
    plain = λ now q own v o kind. (send_open_ends v o kind).plain q own;
    badf = send_badf;
    lacks = λ _. ((λ e. cc), ((λ e. cc), ((λ e. cc), ((λ e. cc), tt))));
    waits = λ _. record { patient = λ now before v clock o kind h. send_open_parks v clock kind h; keeps = refl };
  }

  -- the same of the open of a descriptor
  pub send_apart : (v : View) (d : Option Descriptor) → AreOfNoProcess (at_descriptor (λ o. send_open v bytes carried) v d).updates
  send_apart v None = tt
  send_apart v (Some d) = (send_open_ends v d.id (v.opened d.id)).apart

  send_sets : (S : State) (d : Option Descriptor) (q : Part) → has_part (touched_at (sending bytes []) S d) q ≡ false
      → IsUnset (at_descriptor (λ o. send_open (whole (tick S)) bytes carried) (whole (tick S)) d) q
  send_sets S None q h = refl
  send_sets S (Some d) q h = (send_open_ends (whole (tick S)) d.id (get S.opens d.id)).sets q h

  send_carries : (S : State) (d : Option Descriptor) (sender : Sender) → AreIn carried sender
      → AllCarryOn S sender (at_descriptor (λ o. send_open (whole S) bytes carried) (whole S) d)
  send_carries S None sender held = tt
  send_carries S (Some d) sender held = (send_open_ends (whole S) d.id (get S.opens d.id)).carries S refl sender held

  send_valid : (S : State) (d : Option Descriptor) → AreNamed carried S → IsNearlyValid S
      → IsNearlyValid (put_all (at_descriptor (λ o. send_open (whole S) bytes carried) (whole S) d).updates S)
  send_valid S None named nearly = nearly
  send_valid S (Some d) named nearly = (send_open_ends (whole S) d.id (get S.opens d.id)).valid S refl refl nearly named

pub sock_send_is_proper : (fd : ℕ) (bytes fds : List ℕ) → IsProper (sock_send fd bytes (fds))
sock_send_is_proper fd bytes fds = record {
  names = (([], fds, refl), tt);
  sees = (inl (base_row fd FD_WRITE, ([], [], refl), refl), tt);
  reads = λ constants S who table.
      reads_descriptor (sending bytes (picked table fds)) (send_sees_well bytes (picked table fds)) 0 S who.pid (get table fd);
  walks = λ S who table. refl;
  sets = λ constants S who table part h.
      send_sets bytes (picked table fds) S (get table fd) part
      (beyond_process who.pid (touched_at (sending bytes []) S (get table fd)) part h).1;
  touched = λ S table part h. seen_descriptor (sending bytes []) (send_sees_well bytes []) S (get table fd) part h;
  plain = λ constants v who table. plain_descriptor (sending bytes (picked table fds)) (send_sees_well bytes (picked table fds)) 0 who.pid (v.process who.pid) v (get table fd);
  waits = λ _. record {
    patient = λ constants v who table before earlier waits.
        patient_descriptor (sending bytes (picked table fds)) (send_sees_well bytes (picked table fds))
        ((send_sees_well bytes (picked table fds)).waits refl) 0 0 v before (get table fd) waits;
    due = λ _ constants v who table come. absurd (not_true come);
    inside = λ v table. refl;
    keeps = refl;
  };
  lacks = (send_sees_well bytes []).lacks;
  others = λ constants v who table q other _.
      apart_unset (at_descriptor (λ o. send_open v bytes (picked table fds)) v (get table fd)).updates q (send_apart bytes (picked table fds) v (get table fd));
  own = λ constants S who table.
      inl (own_same (get S.processes who.pid) _
      (ap (λ processes. get processes who.pid)
      (apart_processes (at_descriptor (λ o. send_open (whole S) bytes (picked table fds)) (whole S) (get table fd)).updates S
      (send_apart bytes (picked table fds) (whole S) (get table fd)))));
  allows = λ constants S who table. tt;
  carries = λ constants S who table nearly.
      send_carries bytes (picked table fds) S (get table fd) (table, fds, true) (inr refl, refl);
  valid = λ constants S who table there nearly.
      send_valid bytes (picked table fds) S (get table fd)
      (picked_all (λ (d : Descriptor). IsNamed (get S.opens d.id) d) table (λ n d here. nearly.named who.pid n table d there here) fds) nearly;
}

-- ---- another table

-- where one and more are installed, there was a number free, and the others are installed behind it
pub installed_from : (free : Option ℕ) (f : ℕ → Option Installed) (installed : Installed) → where_free free (λ number. put_first number (f number)) ≡ Some installed
    → (number : ℕ) × (more : Installed) × (free ≡ Some number) × (f number ≡ Some more)
    × (record { fds = number ∷ more.fds; table = more.table } ≡ installed)
installed_from None f installed h = absurd (none_is_no installed h)
installed_from (Some number) f installed h = first (f number) refl h where
  first : (o : Option Installed) → f number ≡ o → put_first number o ≡ Some installed
      → (k : ℕ) × (more : Installed) × (Some number ≡ Some k) × (f k ≡ Some more) × (record { fds = k ∷ more.fds; table = more.table } ≡ installed)
  first None made h = absurd (none_is_no installed h)
  first (Some more) made h = (number, more, refl, made, same_some (record { fds = number ∷ more.fds; table = more.table }) installed h)

inserted_all : (P : Descriptor → Type 0) (table : Table) (number : ℕ) (e : Descriptor) → ((n : ℕ) (d : Descriptor) → get table n ≡ Some d → P d) → P e
    → (m : ℕ) (x : Descriptor) → get (insert table number e) m ≡ Some x → P x
inserted_all P table number e old new m x at =
    elim (eqb_tells m number) [
      | inl same ↦ (
          let now : get (insert table number e) number ≡ Some x = subst (λ k. get (insert table number e) k ≡ Some x) same.1 at in
          subst P (same_value e x (get (insert table number e) number) (get-insert-same table number e) now) new)
      | inr other ↦ old m x (sym (get-insert-other table number e m other.1) ∙ at)
    ]

-- what holds of each descriptor of a table and of those that are installed holds of each that the table has then
pub install_all : (P : Descriptor → Type 0) (ds : List Descriptor) (table : Table) (installed : Installed) → install table ds ≡ Some installed
    → ((n : ℕ) (d : Descriptor) → get table n ≡ Some d → P d) → AllByRecursion P ds → (n : ℕ) (d : Descriptor) → get installed.table n ≡ Some d → P d
install_all P [] table installed is old new n d here =
    old n d (ap (λ (x : Installed). get x.table n) (same_some (record { fds = []; table = table }) installed is) ∙ here)
install_all P (e ∷ ds) table installed is old new n d here =
    let from = installed_from (lowest_free table) (λ number. install (insert table number e) ds) installed is in
    install_all P ds (insert table from.0 e) from.1 from.3 (inserted_all P table from.0 e old new.0) new.1 n d
    (ap (λ (x : Installed). get x.table n) from.4 ∙ here)

-- ---- sock_recv

abbrev pub receive_errors : List Errno
receive_errors = Badf ∷ Notsock ∷ Again ∷ Mfile ∷ []

receive_badf : IsIn Badf receive_errors
receive_badf = ([], Notsock ∷ Again ∷ Mfile ∷ [], refl)

receive_notsock : IsIn Notsock receive_errors
receive_notsock = (Badf ∷ [], Again ∷ Mfile ∷ [], refl)

receive_again : IsIn Again receive_errors
receive_again = (Badf ∷ Notsock ∷ [], Mfile ∷ [], refl)

receive_mfile : IsIn Mfile receive_errors
receive_mfile = (Badf ∷ Notsock ∷ Again ∷ [], [], refl)

-- what a receive comes to that takes something
abbrev pub takes : ℕ → ℕ → ℕ → Pulled → Installed → Outcome
takes p c room pulled installed = received_with p c pulled.bytes (truncated room pulled.carried) pulled.rest (Some installed)

module _ (p : ℕ) (table : Table) (v : View) (n room flags : ℕ) (P : Outcome → Type 0)
    (refuses : (errno : Errno) → IsIn errno receive_errors → P (replies (refused errno)))
    (waits : P (parks Zero)) (looks : (bytes : List ℕ) → P (replies (received_reply bytes [] 0))) where
  -- the channel is there, and the descriptors that come have been installed
  abbrev pub Takes : Option OpenKind → Type 0
  Takes kind =
      (c w mode : ℕ) (form : ChanKind) (channel : Channel) (installed : Installed) → kind ≡ Some (End (Some c) (Some w) mode form) → v.channel c ≡ Some channel
      → install table (take room (pull n channel).carried) ≡ Some installed → P (takes p c room (pull n channel) installed)

  waits_holds : (nonblocking : Bool) → P (waits_unless nonblocking)
  waits_holds true = refuses Again receive_again
  waits_holds false = waits

  installed_holds : (c : ℕ) (pulled : Pulled) (o : Option Installed)
      → ((installed : Installed) → o ≡ Some installed → P (takes p c room pulled installed))
      → P (received_with p c pulled.bytes (truncated room pulled.carried) pulled.rest o)
  installed_holds c pulled None taken = refuses Mfile receive_mfile
  installed_holds c pulled (Some installed) taken = taken installed refl

  taken_holds : (looking : Bool) (c : ℕ) (pulled : Pulled)
      → ((installed : Installed) → install table (take room pulled.carried) ≡ Some installed → P (takes p c room pulled installed))
      → P (taken_if looking p table room c pulled)
  taken_holds true c pulled taken = looks pulled.bytes
  taken_holds false c pulled taken = installed_holds c pulled (install table (take room pulled.carried)) taken

  received_holds : (must : Bool) (nonblocking looking : Bool) (c : ℕ) (pulled : Pulled)
      → ((installed : Installed) → install table (take room pulled.carried) ≡ Some installed → P (takes p c room pulled installed))
      → P (received_if must nonblocking looking p table room c pulled)
  received_holds true nonblocking looking c pulled taken = waits_holds nonblocking
  received_holds false nonblocking looking c pulled taken = taken_holds looking c pulled taken

  from_holds : (nonblocking : Bool) (c : ℕ) (o : Option Channel)
      → ((channel : Channel) (installed : Installed) → o ≡ Some channel → install table (take room (pull n channel).carried) ≡ Some installed
      → P (takes p c room (pull n channel) installed))
      → P (receive_from p table n room flags nonblocking c o)
  from_holds nonblocking c None taken = refuses Badf receive_badf
  from_holds nonblocking c (Some channel) taken =
      received_holds (must_wait_by flags n channel) nonblocking (peeks flags) c (pull n channel) (λ installed is. taken channel installed refl is)

  pub receive_holds : (kind : Option OpenKind) → Takes kind → P (receive_open p table v n room flags kind)
  receive_holds None taken = refuses Badf receive_badf
  receive_holds (Some (File node offset mode)) taken = refuses Notsock receive_notsock
  receive_holds (Some (Directory node mode)) taken = refuses Notsock receive_notsock
  receive_holds (Some (End None writes mode form)) taken = refuses Notsock receive_notsock
  receive_holds (Some (End (Some r) None mode form)) taken = refuses Notsock receive_notsock
  receive_holds (Some (End (Some r) (Some w) mode form)) taken =
      from_holds (is_nonblocking mode) r (v.channel r) (λ channel installed there is. taken r w mode form channel installed refl there is)
  receive_holds (Some (Terminal which mode)) taken = refuses Notsock receive_notsock
  receive_holds (Some (Process q object)) taken = refuses Notsock receive_notsock

module _ (p : ℕ) (table : Table) (n room flags : ℕ) where
  receive_reads : (S : State) (q o : ℕ) (kind : Option OpenKind)
      → receive_open p table (restrict S (seen_parts S q o kind)) n room flags kind ≡ receive_open p table (whole S) n room flags kind
  receive_reads S q o None = refl
  receive_reads S q o (Some (File node offset mode)) = refl
  receive_reads S q o (Some (Directory node mode)) = refl
  receive_reads S q o (Some (End None writes mode form)) = refl
  receive_reads S q o (Some (End (Some r) None mode form)) = refl
  receive_reads S q o (Some (End (Some r) (Some w) mode form)) =
      ap (receive_from p table n room flags (is_nonblocking mode) r) (reader_seen S q o r (Some w) mode form)
  receive_reads S q o (Some (Terminal which mode)) = refl
  receive_reads S q o (Some (Process x object)) = refl

  receive_parks : (v : View) (clock : ℕ) (kind : Option OpenKind) → is_parked (receive_open p table v n room flags kind).answer ≡ true
      → is_parked (receive_open p table (record v { clock = clock }) n room flags kind).answer ≡ true
  receive_parks v clock None h = h
  receive_parks v clock (Some (File node offset mode)) h = h
  receive_parks v clock (Some (Directory node mode)) h = h
  receive_parks v clock (Some (End None writes mode form)) h = h
  receive_parks v clock (Some (End (Some r) None mode form)) h = h
  receive_parks v clock (Some (End (Some r) (Some w) mode form)) h = h
  receive_parks v clock (Some (Terminal which mode)) h = h
  receive_parks v clock (Some (Process x object)) h = h

  received_seen : (S : State) (kind : Option OpenKind) (q : Part) → has_part (received_part kind) q ≡ true → has_part (behind S kind) q ≡ true
  received_seen S None q h = absurd (not_true h)
  received_seen S (Some (File node offset mode)) q h = absurd (not_true h)
  received_seen S (Some (Directory node mode)) q h = absurd (not_true h)
  received_seen S (Some (End reads writes mode form)) q h = has_left (channel_part reads) (channel_part writes) q h
  received_seen S (Some (Terminal which mode)) q h = absurd (not_true h)
  received_seen S (Some (Process x object)) q h = absurd (not_true h)

  pub receive_sees_well : SeesWell (receiving p table n room flags)
  receive_sees_well = record {
    reads = λ now S q o kind. receive_reads S q o kind;
    seen = received_seen;
    plain = λ now q own v o kind.
        receive_holds p table v n room flags (λ x. OrWaits true q own x (IsPlain receive_errors x)) (λ errno here. inr (refl, inr (refl, here)))
        (inl (refl, nothing_set refl refl)) (λ bytes. inr (refl, inl refl)) kind (λ c w mode form channel installed is there made. inr (refl, inl refl));
    badf = receive_badf;
    lacks = λ _. ((λ e. cc), ((λ e. cc), ((λ e. cc), ((λ e. cc), tt))));
    waits = λ _. record { patient = λ now before v clock o kind h. receive_parks v clock kind h; keeps = refl };
  }

-- an outcome for the open of a descriptor
abbrev receive_at : ℕ → Table → ℕ → ℕ → ℕ → View → Option Descriptor → Outcome
receive_at p table n room flags v d = at_descriptor (λ o. receive_open p table v n room flags) v d

module _ (p : ℕ) (table : Table) (n room flags : ℕ) where
  -- what it sets is of the channel and the table
  receive_sets : (S : State) (d : Option Descriptor) (q : Part)
      → has_part (process_parts p ++ touched_at (receiving 0 empty n room flags) S d) q ≡ false
      → IsUnset (receive_at p table n room flags (whole (tick S)) d) q
  receive_sets S None q h = refl
  receive_sets S (Some d) q h =
      let both = beyond_process p (received_part (get S.opens d.id)) q h in
      let own = outside_cons (at_proc p) (at_status p ∷ []) q (outside_cons at_clock (at_proc p ∷ at_status p ∷ []) q both.0).1 in
      receive_holds p table (whole (tick S)) n room flags (λ x. IsUnset x q) (λ errno here. refl) refl (λ bytes. refl) (get S.opens d.id)
      (λ c w mode form channel installed is there made.
      let chan = outside_cons (at_chan c) [] q (ap (λ kind. has_part (received_part kind) q) (sym is) ∙ both.1) in
      ap (λ b. b || (same_part (at_proc p) q || false)) chan.0 ∙ ap (λ b. b || false) own.0)

  receive_others : (v : View) (d : Option Descriptor) (q : ℕ) → q ≢ p
      → IsUnset (receive_at p table n room flags v d) (at_proc q) × IsUnset (receive_at p table n room flags v d) (at_status q)
  receive_others v None q other = (refl, refl)
  receive_others v (Some d) q other =
      receive_holds p table v n room flags (λ x. IsUnset x (at_proc q) × IsUnset x (at_status q)) (λ errno here. (refl, refl)) (refl, refl)
      (λ bytes. (refl, refl)) (v.opened d.id) (λ c w mode form channel installed is there made. (ap (λ b. b || false) (number_apart p q other), refl))

  receive_own : (S : State) (d : Option Descriptor) → get (put_all (receive_at p table n room flags (whole S) d).updates S).processes p ≡ get S.processes p
  receive_own S None = refl
  receive_own S (Some d) =
      receive_holds p table (whole S) n room flags (λ x. get (put_all x.updates S).processes p ≡ get S.processes p) (λ errno here. refl) refl (λ bytes. refl)
      (get S.opens d.id) (λ c w mode form channel installed is there made. refl)

  receive_carries : (S : State) (d : Option Descriptor) → AllCarryOn S (table, [], false) (receive_at p table n room flags (whole S) d)
  receive_carries S None = tt
  receive_carries S (Some d) =
      receive_holds p table (whole S) n room flags (AllCarryOn S (table, [], false)) (λ errno here. tt) tt (λ bytes. tt) (get S.opens d.id)
      (λ c w mode form channel installed is there made. (drawn_carries S (table, [], false) c channel there (min n (reach channel.waiting)), (tt, tt)))

  receive_valid : (fd : ℕ) (S : State) (d : Option Descriptor) → get table fd ≡ d → get S.tables p ≡ Some table → IsNearlyValid S
      → IsNearlyValid (put_all (receive_at p table n room flags (whole S) d).updates S)
  receive_valid fd S None at own v = v
  receive_valid fd S (Some d) at own v =
      receive_holds p table (whole S) n room flags (λ x. IsNearlyValid (put_all x.updates S)) (λ errno here. v) v (λ bytes. v) (get S.opens d.id)
      (λ c w mode form channel installed is there made.
      let named : Descriptor → Type 0 = λ x. IsNamed (get S.opens x.id) x in
      let taken : IsNearlyValid (put_one (set_chan c (pull n channel).rest) S) =
      set_chan_nearly_valid S c channel (pull n channel).rest there (λ h. h) (λ h. h)
      (drawn_joined S.opens c channel (min n (reach channel.waiting)) (v.channels c channel there)) v in
      table_nearly_valid (put_one (set_chan c (pull n channel).rest) S) p table installed.table own
      (install_all named (take room (pull n channel).carried) table installed made (λ m x here. v.named p m table x own here)
      (all_taken named room (pull n channel).carried (coming_all named channel.waiting (min n (reach channel.waiting)) (v.channels c channel there).carried)))
      taken) where
        all_taken : (Q : Descriptor → Type 0) (k : ℕ) (xs : List Descriptor) → AllByRecursion Q xs → AllByRecursion Q (take k xs)
        all_taken Q zero xs h = tt
        all_taken Q (suc k) [] h = tt
        all_taken Q (suc k) (x ∷ xs) h = (h.0, all_taken Q k xs h.1)

pub sock_recv_is_proper : (fd n room flags : ℕ) → IsProper (sock_recv fd n room flags)
sock_recv_is_proper fd n room flags = record {
  names = (([], [], refl), tt);
  sees = (inl (base_row fd FD_READ, ([], [], refl), refl), tt);
  reads = λ constants S who table.
      reads_descriptor (receiving who.pid table n room flags) (receive_sees_well who.pid table n room flags) 0 S who.pid (get table fd);
  walks = λ S who table. refl;
  sets = λ constants S who table part h. receive_sets who.pid table n room flags S (get table fd) part h;
  touched = λ S table part h. seen_descriptor (receiving 0 empty n room flags) (receive_sees_well 0 empty n room flags) S (get table fd) part h;
  plain = λ constants v who table.
      plain_descriptor (receiving who.pid table n room flags) (receive_sees_well who.pid table n room flags) 0 who.pid (v.process who.pid) v (get table fd);
  waits = λ _. record {
    patient = λ constants v who table before earlier waits.
        patient_descriptor (receiving who.pid table n room flags) (receive_sees_well who.pid table n room flags)
        ((receive_sees_well who.pid table n room flags).waits refl) 0 0 v before (get table fd) waits;
    due = λ _ constants v who table come. absurd (not_true come);
    inside = λ v table. refl;
    keeps = refl;
  };
  lacks = (receive_sees_well 0 empty n room flags).lacks;
  others = λ constants v who table q other _. receive_others who.pid table n room flags v (get table fd) q other;
  own = λ constants S who table. inl (own_same (get S.processes who.pid) _ (receive_own who.pid table n room flags S (get table fd)));
  allows = λ constants S who table. tt;
  carries = λ constants S who table nearly. receive_carries who.pid table n room flags S (get table fd);
  valid = λ constants S who table there nearly. receive_valid who.pid table n room flags fd S (get table fd) refl there nearly;
}

-- ---- sock_shutdown

abbrev shut_errors : List Errno
shut_errors = Badf ∷ Notsock ∷ []

shut_badf : IsIn Badf shut_errors
shut_badf = ([], Notsock ∷ [], refl)

shut_notsock : IsIn Notsock shut_errors
shut_notsock = (Badf ∷ [], [], refl)

shut_apart : (first : Bool) (r : ℕ) (x : Option Channel) (second : Bool) (w : ℕ) (y : Option Channel)
    → AreOfNoProcess (shut_if first with_reader_shut r x ++ shut_if second with_writer_shut w y)
shut_apart true r (Some x) true w (Some y) = (tt, (tt, tt))
shut_apart true r (Some x) true w None = (tt, tt)
shut_apart true r (Some x) false w y = (tt, tt)
shut_apart true r None true w (Some y) = (tt, tt)
shut_apart true r None true w None = tt
shut_apart true r None false w y = tt
shut_apart false r x true w (Some y) = (tt, tt)
shut_apart false r x true w None = tt
shut_apart false r x false w y = tt

shut_carries : (S : State) (sender : Sender) (first : Bool) (r : ℕ) (x : Option Channel) (second : Bool) (w : ℕ) (y : Option Channel) → get S.chans r ≡ x
    → get S.chans w ≡ y → AllByRecursion (CarriesOn S sender) (shut_if first with_reader_shut r x ++ shut_if second with_writer_shut w y)
shut_carries S sender true r (Some x) true w (Some y) one two =
    (emptied_carries S sender r x one, (same_carries S sender w y two (with_writer_shut y) refl refl, tt))
shut_carries S sender true r (Some x) true w None one two = (emptied_carries S sender r x one, tt)
shut_carries S sender true r (Some x) false w y one two = (emptied_carries S sender r x one, tt)
shut_carries S sender true r None true w (Some y) one two = (same_carries S sender w y two (with_writer_shut y) refl refl, tt)
shut_carries S sender true r None true w None one two = tt
shut_carries S sender true r None false w y one two = tt
shut_carries S sender false r x true w (Some y) one two = (same_carries S sender w y two (with_writer_shut y) refl refl, tt)
shut_carries S sender false r x true w None one two = tt
shut_carries S sender false r x false w y one two = tt

shut_sets : (first : Bool) (r : ℕ) (x : Option Channel) (second : Bool) (w : ℕ) (y : Option Channel) (q : Part) → same_part (at_chan r) q ≡ false
    → same_part (at_chan w) q ≡ false
    → has_part (map part_of (shut_if first with_reader_shut r x ++ shut_if second with_writer_shut w y)) q ≡ false
shut_sets true r (Some x) true w (Some y) q one two = ap (λ b. b || (same_part (at_chan w) q || false)) one ∙ ap (λ b. b || false) two
shut_sets true r (Some x) true w None q one two = ap (λ b. b || false) one
shut_sets true r (Some x) false w y q one two = ap (λ b. b || false) one
shut_sets true r None true w (Some y) q one two = ap (λ b. b || false) two
shut_sets true r None true w None q one two = refl
shut_sets true r None false w y q one two = refl
shut_sets false r x true w (Some y) q one two = ap (λ b. b || false) two
shut_sets false r x true w None q one two = refl
shut_sets false r x false w y q one two = refl

module _ (S : State) (v : IsNearlyValid S) where
  shut_first : (r : ℕ) (x : Channel) → get S.chans r ≡ Some x → IsNearlyValid (put_one (set_chan r (with_reader_shut x)) S)
  shut_first r x there =
      set_chan_nearly_valid S r x (with_reader_shut x) there (shut_stays x.reader) (λ h. h) (shut_reader_joined S.opens r x (v.channels r x there)) v

  shut_second : (w : ℕ) (y : Channel) → get S.chans w ≡ Some y → IsNearlyValid (put_one (set_chan w (with_writer_shut y)) S)
  shut_second w y there =
      set_chan_nearly_valid S w y (with_writer_shut y) there (λ h. h) (shut_stays y.writer) (shut_writer_joined S.opens w y (v.channels w y there)) v

  -- also where both are one
  shut_both : (r : ℕ) (x : Channel) (w : ℕ) (y : Channel) → get S.chans r ≡ Some x → get S.chans w ≡ Some y
      → IsNearlyValid (put_all (set_chan r (with_reader_shut x) ∷ set_chan w (with_writer_shut y) ∷ []) S)
  shut_both r x w y one two =
      elim (eqb_tells w r) [
        | inl is ↦ (
            let same : x ≡ y = same_value x y (get S.chans r) one (subst (λ k. get S.chans k ≡ Some y) is.1 two) in
            let now : get (insert S.chans r (with_reader_shut x)) w ≡ Some (with_reader_shut x) =
            ap (get (insert S.chans r (with_reader_shut x))) is.1 ∙ get-insert-same S.chans r (with_reader_shut x) in
            set_chan_nearly_valid (put_one (set_chan r (with_reader_shut x)) S) w (with_reader_shut x) (with_writer_shut y) now
            (λ h gone. h (shut_gone x.reader (ap (λ (c : Channel). c.reader) same ∙ gone)))
            (λ h. shut_stays y.writer (subst (λ (c : Channel). c.writer ≢ Gone) same h))
            (shut_writer_joined S.opens w y (v.channels w y two)) (shut_first r x one))
        | inr other ↦
            set_chan_nearly_valid (put_one (set_chan r (with_reader_shut x)) S) w y (with_writer_shut y)
            (get-insert-other S.chans r (with_reader_shut x) w other.1 ∙ two) (λ h. h) (shut_stays y.writer)
            (shut_writer_joined S.opens w y (v.channels w y two)) (shut_first r x one)
      ]

  shut_valid : (first : Bool) (r : ℕ) (x : Option Channel) (second : Bool) (w : ℕ) (y : Option Channel) → get S.chans r ≡ x → get S.chans w ≡ y
      → IsNearlyValid (put_all (shut_if first with_reader_shut r x ++ shut_if second with_writer_shut w y) S)
  shut_valid true r (Some x) true w (Some y) one two = shut_both r x w y one two
  shut_valid true r (Some x) true w None one two = shut_first r x one
  shut_valid true r (Some x) false w y one two = shut_first r x one
  shut_valid true r None true w (Some y) one two = shut_second w y two
  shut_valid true r None true w None one two = v
  shut_valid true r None false w y one two = v
  shut_valid false r x true w (Some y) one two = shut_second w y two
  shut_valid false r x true w None one two = v
  shut_valid false r x false w y one two = v

module _ (how : ℕ) where
  abbrev shuts : ℕ → Bool
  shuts bit = not (bit_and how bit == 0)

  -- what it comes to, by the two channels
  abbrev shut_then : ℕ → ℕ → Option Channel → Option Channel → Outcome
  shut_then r w x y = record {
    answer = answer.Reply (success 0 0);
    updates = shut_if (shuts 1) with_reader_shut r x ++ shut_if (shuts 2) with_writer_shut w y;
  }

  shut_reads : (S : State) (p o : ℕ) (kind : Option OpenKind) → shut_open (restrict S (seen_parts S p o kind)) how kind ≡ shut_open (whole S) how kind
  shut_reads S p o None = refl
  shut_reads S p o (Some (File node offset flags)) = refl
  shut_reads S p o (Some (Directory node flags)) = refl
  shut_reads S p o (Some (End None writes flags form)) = refl
  shut_reads S p o (Some (End (Some r) None flags form)) = refl
  shut_reads S p o (Some (End (Some r) (Some w) flags form)) =
      ap (λ x. shut_then r w x ((restrict S (seen_parts S p o (Some (End (Some r) (Some w) flags form)))).channel w)) (reader_seen S p o r (Some w) flags form)
      ∙ ap (shut_then r w (get S.chans r)) (writer_seen S p o (Some r) w flags form)
  shut_reads S p o (Some (Terminal which flags)) = refl
  shut_reads S p o (Some (Process q object)) = refl

  both_seen : (S : State) (kind : Option OpenKind) (q : Part) → has_part (both_parts kind) q ≡ true → has_part (behind S kind) q ≡ true
  both_seen S None q h = absurd (not_true h)
  both_seen S (Some (File node offset flags)) q h = absurd (not_true h)
  both_seen S (Some (Directory node flags)) q h = absurd (not_true h)
  both_seen S (Some (End reads writes flags form)) q h = h
  both_seen S (Some (Terminal which flags)) q h = absurd (not_true h)
  both_seen S (Some (Process p object)) q h = absurd (not_true h)

  -- what is shown of each outcome
  record Shuts (v : View) (o : ℕ) (kind : Option OpenKind) (outcome : Outcome) : Type 0 where
    apart : AreOfNoProcess outcome.updates
    sets : (q : Part) → has_part (both_parts kind) q ≡ false → IsUnset outcome q
    plain : IsPlain shut_errors outcome
    carries : (S : State) → whole S ≡ v → (sender : Sender) → AllCarryOn S sender outcome
    valid : (S : State) → whole S ≡ v → IsNearlyValid S → IsNearlyValid (put_all outcome.updates S)

  shuts_refused : (v : View) (o : ℕ) (kind : Option OpenKind) (errno : Errno) → IsIn errno shut_errors → Shuts v o kind (replies (refused errno))
  shuts_refused v o kind errno here =
      record { apart = tt; sets = λ q h. refl; plain = (refl, inr (refl, here)); carries = λ S seen sender. tt; valid = λ S seen nearly. nearly }

  shut_ends : (v : View) (o : ℕ) (kind : Option OpenKind) → Shuts v o kind (shut_open v how kind)
  shut_ends v o None = shuts_refused _ _ _ Badf shut_badf
  shut_ends v o (Some (File node offset flags)) = shuts_refused _ _ _ Notsock shut_notsock
  shut_ends v o (Some (Directory node flags)) = shuts_refused _ _ _ Notsock shut_notsock
  shut_ends v o (Some (End None writes flags form)) = shuts_refused _ _ _ Notsock shut_notsock
  shut_ends v o (Some (End (Some r) None flags form)) = shuts_refused _ _ _ Notsock shut_notsock
  shut_ends v o (Some (End (Some r) (Some w) flags form)) = record {
    apart = shut_apart (shuts 1) r (v.channel r) (shuts 2) w (v.channel w);
    sets = λ q h.
        let one = outside_cons (at_chan r) (at_chan w ∷ []) q h in
        shut_sets (shuts 1) r (v.channel r) (shuts 2) w (v.channel w) q one.0 (outside_cons (at_chan w) [] q one.1).0;
    plain = (refl, inl refl);
    carries = λ S seen sender.
        shut_carries S sender (shuts 1) r (v.channel r) (shuts 2) w (v.channel w) (ap (λ (x : View). x.channel r) seen) (ap (λ (x : View). x.channel w) seen);
    valid = λ S seen nearly.
        shut_valid S nearly (shuts 1) r (v.channel r) (shuts 2) w (v.channel w) (ap (λ (x : View). x.channel r) seen) (ap (λ (x : View). x.channel w) seen);
  }
  shut_ends v o (Some (Terminal which flags)) = shuts_refused _ _ _ Notsock shut_notsock
  shut_ends v o (Some (Process p object)) = shuts_refused _ _ _ Notsock shut_notsock

  pub shut_opens_well : OpensWell (shutting how)
  shut_opens_well = record {
    sees = record {
      reads = λ now S p o kind. shut_reads S p o kind;
      seen = both_seen;
      plain = λ now p own v o kind. (shut_ends v o kind).plain;
      badf = shut_badf;
      lacks = λ h. absurd (not_true h);
      waits = λ h. absurd (not_true h);
    };
    apart = λ now v o kind. (shut_ends v o kind).apart;
    sets = λ now v o kind. (shut_ends v o kind).sets;
    carries = λ now S o kind table. (shut_ends (whole S) o kind).carries S refl (table, [], false);
    valid = λ now S o kind there nearly. (shut_ends (whole S) o kind).valid S refl nearly;
  }

pub sock_shutdown_is_proper : (fd how : ℕ) → IsProper (sock_shutdown fd how)
sock_shutdown_is_proper fd how = by_open_is_proper (shutting how) (shut_opens_well how) (base_row fd SOCK_SHUTDOWN)
