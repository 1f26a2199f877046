-- What fd_create2, sock_send and sock_recv leave of their process's table is what their lines of `granted_row` say.
--     pair_reported      two ends stand under the results
--     receive_reported      what the first send carried stands under the numbers of the reply
use Rattle.std.proofs.Common.{◌≡◌, ◌≢◌, ℕ, zero, suc, ◌+◌, ◌-◌, ◌⊎◌, inl, inr, List, [], ◌∷◌, ◌++◌, take, drop, min, Option, Some, None, refl, sym, ap, subst, ◌∙◌, arith}
use Rattle.std.proofs.lemmas.List.{take-append-drop}
use Rattle.std.specs.FinMap.{get, insert}
use Rattle.abi_base.specs.declared.errno.Errno.{Errno}
use Rattle.abi_base.specs.declared.errno.Errno.TheVariants.{Badf, Success}
use Rattle.abi_types.specs.declared.chan_kind.ChanKind.{ChanKind}
use Rattle.abi_types.specs.declared.chan_kind.ChanKind.TheVariants as chan_kind
use Rattle.abi_types.specs.declared.call.Call.{Call}
use Rattle.abi_types.specs.declared.call.Call.TheVariants.{FdCreate2, SockRecv}
use Rattle.abi_types.specs.declared.descriptor.Descriptor.{Descriptor}
use Rattle.abi_types.specs.declared.open_kind.OpenKind.{OpenKind}
use Rattle.abi_types.specs.declared.open_kind.OpenKind.TheVariants.{End}
use Rattle.maps.specs.Maps.{get-insert-same, get-insert-other}
use Rattle.kernel_model.specs.Channels.{Channel, Send, coming, pull, reach}
use Rattle.kernel_model.specs.Families.ChannelCalls.{Installed, install, receive_open}
use Rattle.kernel_model.specs.Families.DescriptorCalls.{lowest_free}
use Rattle.kernel_model.specs.Families.Numbers.{made_more, object_of}
use Rattle.kernel_model.specs.Families.OpenMeaning.{at_descriptor}
use Rattle.kernel_model.specs.Families.SocketCalls.{Pair, pipe, pair, create, create_updates, end_descriptor, made_of}
use Rattle.kernel_model.specs.Proper.{IsIn}
use Rattle.kernel_model.specs.State.{State, ProcessState, Table, counts_in, put_all}
use Rattle.kernel_model.specs.View.{whole}
use Rattle.kernel_model.proofs.Lists.{in_all}
use Rattle.kernel_model.proofs.PairCalls.{create_errors, create_holds, creates}
use Rattle.kernel_model.proofs.SocketCalls.{installed_from, receive_errors, receive_holds, takes}
use Rattle.kernel_model.proofs.Tests.{same_some}
use Rattle.authority_laws.specs.Ledger.{after_of, came_for, carried_first, first_carried, new_held, put_each, recently_made, waits_for, with_held}
use Rattle.authority_laws.proofs.Rows.{LeavesRow, badf_is_error, refused_reported, row_in, row_inserted, row_of}

-- ---- fd_create2

pub create_is_error : (errno : Errno) → IsIn errno create_errors → errno ≢ Success
create_is_error errno here = in_all (λ e. e ≢ Success) errno create_errors ((λ e. cc), ((λ e. cc), ((λ e. cc), tt))) here

less_one : (n k : ℕ) → (n + suc k) - 1 ≡ n + k
less_one n k = omega arith

-- the two objects that were made last are the two ends
module _ (S : State) (p : ℕ) (own : ProcessState) (table : Table) (first second : ℕ) where
  abbrev after_pair : Pair → State
  after_pair made = put_all (create_updates made p (Some own) table first second) S

  abbrev number : ℕ → ℕ
  number k = object_of p (own.counts.objects + k)

  apart_numbers : (j k : ℕ) → j ≢ k → number j ≢ number k
  apart_numbers j k other is = omega (arith, other, is)

  abbrev last_end : (made : Pair) → ℕ → OpenKind → ℕ → OpenKind → Type 0
  last_end made a one b two =
      (new_held (recently_made (after_pair made) p 1) ≡ Some (end_descriptor a one))
      × (new_held (recently_made (after_pair made) p 0) ≡ Some (end_descriptor b two))

  pipe_made : last_end pipe (number 2) (End (Some (number 1)) None 0 chan_kind.Stream) (number 3) (End None (Some (number 1)) 0 chan_kind.Stream)
  pipe_made = (
    (λ i. new_held (record { number = object_of p (before i); kind = get (after_pair pipe).opens (object_of p (before i)) })) ∙ first_is,
    (λ i. new_held (record { number = object_of p (now i); kind = get (after_pair pipe).opens (object_of p (now i)) })) ∙ second_is,
  ) where
    now : (counts_in (get (after_pair pipe).processes p)).objects ≡ own.counts.objects + 3
    now = ap (λ o. (counts_in o).objects) (get-insert-same S.processes p (made_more 3 own))

    before : (counts_in (get (after_pair pipe).processes p)).objects - 1 ≡ own.counts.objects + 2
    before = ap (λ n. n - 1) now ∙ less_one own.counts.objects 2

    opens_is : (after_pair pipe).opens ≡ insert (insert S.opens (number 2) (End (Some (number 1)) None 0 chan_kind.Stream)) (number 3) (End None (Some (number 1)) 0 chan_kind.Stream)
    opens_is = refl

    first_is : new_held (record { number = number 2; kind = get (after_pair pipe).opens (number 2) }) ≡ Some (end_descriptor (number 2) (End (Some (number 1)) None 0 chan_kind.Stream))
    first_is =
        ap (λ k. new_held (record { number = number 2; kind = k }))
        (get-insert-other (insert S.opens (number 2) (End (Some (number 1)) None 0 chan_kind.Stream)) (number 3) (End None (Some (number 1)) 0 chan_kind.Stream) (number 2)
        (apart_numbers 2 3 (λ e. omega (arith, e)))
        ∙ get-insert-same S.opens (number 2) (End (Some (number 1)) None 0 chan_kind.Stream))

    second_is : new_held (record { number = number 3; kind = get (after_pair pipe).opens (number 3) }) ≡ Some (end_descriptor (number 3) (End None (Some (number 1)) 0 chan_kind.Stream))
    second_is =
        ap (λ k. new_held (record { number = number 3; kind = k }))
        (get-insert-same (insert S.opens (number 2) (End (Some (number 1)) None 0 chan_kind.Stream)) (number 3) (End None (Some (number 1)) 0 chan_kind.Stream))

  pair_made : last_end pair (number 3) (End (Some (number 1)) (Some (number 2)) 0 chan_kind.Stream) (number 4) (End (Some (number 2)) (Some (number 1)) 0 chan_kind.Stream)
  pair_made = (
    (λ i. new_held (record { number = object_of p (before i); kind = get (after_pair pair).opens (object_of p (before i)) })) ∙ first_is,
    (λ i. new_held (record { number = object_of p (now i); kind = get (after_pair pair).opens (object_of p (now i)) })) ∙ second_is,
  ) where
    now : (counts_in (get (after_pair pair).processes p)).objects ≡ own.counts.objects + 4
    now = ap (λ o. (counts_in o).objects) (get-insert-same S.processes p (made_more 4 own))

    before : (counts_in (get (after_pair pair).processes p)).objects - 1 ≡ own.counts.objects + 3
    before = ap (λ n. n - 1) now ∙ less_one own.counts.objects 3

    first_is : new_held (record { number = number 3; kind = get (after_pair pair).opens (number 3) })
        ≡ Some (end_descriptor (number 3) (End (Some (number 1)) (Some (number 2)) 0 chan_kind.Stream))
    first_is =
        ap (λ k. new_held (record { number = number 3; kind = k }))
        (get-insert-other (insert S.opens (number 3) (End (Some (number 1)) (Some (number 2)) 0 chan_kind.Stream)) (number 4) (End (Some (number 2)) (Some (number 1)) 0 chan_kind.Stream) (number 3)
        (apart_numbers 3 4 (λ e. omega (arith, e)))
        ∙ get-insert-same S.opens (number 3) (End (Some (number 1)) (Some (number 2)) 0 chan_kind.Stream))

    second_is : new_held (record { number = number 4; kind = get (after_pair pair).opens (number 4) })
        ≡ Some (end_descriptor (number 4) (End (Some (number 2)) (Some (number 1)) 0 chan_kind.Stream))
    second_is =
        ap (λ k. new_held (record { number = number 4; kind = k }))
        (get-insert-same (insert S.opens (number 3) (End (Some (number 1)) (Some (number 2)) 0 chan_kind.Stream)) (number 4) (End (Some (number 2)) (Some (number 1)) 0 chan_kind.Stream))

  -- so they stand under the results
  rows_are : (a b : Descriptor) (x y : Option Descriptor) → get S.tables p ≡ Some table → x ≡ Some a → y ≡ Some b
      → row_in (Some (insert (insert table first a) second b)) ≡ with_held (with_held (row_of S p) first x) second y
  rows_are a b x y there one two =
      row_inserted (insert table first a) second b
      ∙ (λ i. with_held ((row_inserted table first a ∙ (λ j. with_held (sym (ap row_in there) j) first (sym one j))) i) second (sym two i))

  pub pair_row : (made : Pair) → get S.tables p ≡ Some table
      → row_of (after_pair made) p
      ≡ with_held (with_held (row_of S p) first (new_held (recently_made (after_pair made) p 1))) second (new_held (recently_made (after_pair made) p 0))
  pair_row pipe there =
      ap row_in (get-insert-same S.tables p _)
      ∙ rows_are (end_descriptor (number 2) (End (Some (number 1)) None 0 chan_kind.Stream)) (end_descriptor (number 3) (End None (Some (number 1)) 0 chan_kind.Stream))
      (new_held (recently_made (after_pair pipe) p 1)) (new_held (recently_made (after_pair pipe) p 0)) there pipe_made.0 pipe_made.1
  pair_row pair there =
      ap row_in (get-insert-same S.tables p _)
      ∙ rows_are (end_descriptor (number 3) (End (Some (number 1)) (Some (number 2)) 0 chan_kind.Stream)) (end_descriptor (number 4) (End (Some (number 2)) (Some (number 1)) 0 chan_kind.Stream))
      (new_held (recently_made (after_pair pair) p 1)) (new_held (recently_made (after_pair pair) p 0)) there pair_made.0 pair_made.1

pub pair_reported : (kind : ℕ) (S : State) (p t : ℕ) (table : Table) → get S.tables p ≡ Some table
    → LeavesRow S p (FdCreate2 kind) (create (made_of kind) p t (get S.processes p) table)
pair_reported kind S p t table has_table =
    create_holds p t (get S.processes p) table (LeavesRow S p (FdCreate2 kind))
    (λ errno here. refused_reported S p (FdCreate2 kind) errno (create_is_error errno here)) (made_of kind)
    (λ made is first second own one two there some can.
    subst (λ o. LeavesRow S p (FdCreate2 kind) (creates made p o table first second)) (sym there) (pair_row S p own table first second made has_table))

-- ---- sock_recv

receive_is_error : (errno : Errno) → IsIn errno receive_errors → errno ≢ Success
receive_is_error errno here = in_all (λ e. e ≢ Success) errno receive_errors ((λ e. cc), ((λ e. cc), ((λ e. cc), ((λ e. cc), tt)))) here

-- what is installed stands in the row, whatever comes behind it
pub installed_row : (ds more : List Descriptor) (table : Table) (installed : Installed) → install table ds ≡ Some installed
    → row_in (Some installed.table) ≡ put_each (row_in (Some table)) installed.fds (ds ++ more)
installed_row [] more table installed is =
    subst (λ (x : Installed). row_in (Some x.table) ≡ put_each (row_in (Some table)) x.fds more)
    (same_some (record { fds = []; table = table }) installed is) refl
installed_row (d ∷ ds) more table installed is =
    let from = installed_from (lowest_free table) (λ number. install (insert table number d) ds) installed is in
    subst (λ (x : Installed). row_in (Some x.table) ≡ put_each (row_in (Some table)) x.fds (d ∷ (ds ++ more))) from.4
    (installed_row ds more (insert table from.0 d) from.1 from.3
    ∙ ap (λ row. put_each row from.1.fds (ds ++ more)) (row_inserted table from.0 d))

-- what comes is what the first send carries, or nothing
pub coming_is : (m : ℕ) (waiting : List Send) → (coming m waiting ≡ []) ⊎ (coming m waiting ≡ first_carried waiting)
coming_is zero waiting = inl refl
coming_is (suc m) [] = inl refl
coming_is (suc m) (send ∷ rest) = inr refl

abbrev no_descriptors : List Descriptor
no_descriptors = []

none_taken : (n : ℕ) → take n no_descriptors ≡ []
none_taken zero = refl
none_taken (suc n) = refl

came_row : (room m : ℕ) (waiting : List Send) (table : Table) (installed : Installed) → install table (take room (coming m waiting)) ≡ Some installed
    → row_in (Some installed.table) ≡ put_each (row_in (Some table)) installed.fds (first_carried waiting)
came_row room m waiting table installed is =
    elim (coming_is m waiting) [
      | inl none ↦ (
          let bare : install table [] ≡ Some installed = ap (install table) (sym (ap (take room) none ∙ none_taken room)) ∙ is in
          installed_row [] (first_carried waiting) table installed bare)
      | inr first ↦ (
          let from : install table (take room (first_carried waiting)) ≡ Some installed = ap (λ ds. install table (take room ds)) (sym first) ∙ is in
          installed_row (take room (first_carried waiting)) (drop room (first_carried waiting)) table installed from
          ∙ ap (put_each (row_in (Some table)) installed.fds) (take-append-drop room (first_carried waiting)))
    ]

module _ (S : State) (p : ℕ) (table : Table) (fd n room flags : ℕ) (own : get S.tables p ≡ Some table) where
  abbrev receiving : Call
  receiving = SockRecv fd n room flags

  taken_row : (d : Descriptor) (c w mode : ℕ) (form : ChanKind) (channel : Channel) (installed : Installed) → get table fd ≡ Some d
      → get S.opens d.id ≡ Some (End (Some c) (Some w) mode form) → get S.chans c ≡ Some channel
      → install table (take room (pull n channel).carried) ≡ Some installed → LeavesRow S p receiving (takes p c room (pull n channel) installed)
  taken_row d c w mode form channel installed here opened there made =
      let U : State = put_all (takes p c room (pull n channel) installed).updates S in
      let came : waits_for S.chans (get S.opens d.id) ≡ first_carried channel.waiting =
      ap (waits_for S.chans) opened ∙ ap carried_first there in
      ap row_in (get-insert-same S.tables p installed.table) ∙ came_row room (min n (reach channel.waiting)) channel.waiting table installed made
      ∙ (λ i. put_each (sym (ap row_in own) i) installed.fds (sym came i))
      ∙ ap (λ o. put_each (row_of S p) installed.fds (came_for (after_of S U p) o)) (sym (ap (λ t. row_in t fd) own ∙ here))

  pub receive_reported : (d : Option Descriptor) → get table fd ≡ d
      → LeavesRow S p receiving (at_descriptor (λ o. receive_open p table (whole S) n room flags) (whole S) d)
  receive_reported None here = refused_reported S p receiving Badf badf_is_error
  receive_reported (Some d) here =
      receive_holds p table (whole S) n room flags (LeavesRow S p receiving)
      (λ errno listed. refused_reported S p receiving errno (receive_is_error errno listed)) refl (λ bytes. refl) (get S.opens d.id)
      (λ c w mode form channel installed opened there made. taken_row d c w mode form channel installed here opened there made)
