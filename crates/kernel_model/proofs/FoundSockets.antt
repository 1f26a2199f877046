-- No call on a socket answers BADF of its own in a valid state, and fd_create2 never does.
--     created_found      its errors
--     sock_recv_found, sock_send_found, sock_shutdown_found      calls on sockets
use Rattle.std.proofs.Common.{◌≡◌, ℕ, Bool, true, false, List, take, Option, Some, None, IsSome, T, refl, sym, subst}
use Rattle.std.specs.FinMap.{get}
use Rattle.abi_base.specs.declared.errno.Errno.{Errno}
use Rattle.abi_base.specs.declared.errno.Errno.TheVariants.{Badf}
use Rattle.abi_types.specs.declared.descriptor.Descriptor.{Descriptor}
use Rattle.abi_types.specs.declared.open_kind.OpenKind.{OpenKind}
use Rattle.abi_types.specs.declared.open_kind.OpenKind.TheVariants.{File, Directory, End, Terminal, Process}
use Rattle.kernel_model.specs.Channels.{Channel, Pulled, pull}
use Rattle.kernel_model.specs.Families.ChannelCalls.{Installed, install, is_nonblocking, must_wait_by, peeks, picked, receive_from, receive_open, received_if, received_with, send_open, sent_reply, shut_open, taken_if, truncated}
use Rattle.kernel_model.specs.Families.OpenMeaning.{at_descriptor}
use Rattle.kernel_model.specs.Families.SocketCalls.{sock_recv, sock_send, sock_shutdown}
use Rattle.kernel_model.specs.Outcome.{Outcome, replies}
use Rattle.kernel_model.specs.Proper.{IsIn}
use Rattle.kernel_model.specs.Reply.{refused}
use Rattle.kernel_model.specs.State.{State, Table}
use Rattle.kernel_model.specs.Step.{tick}
use Rattle.kernel_model.specs.Valid.{HasBehind, HasReader, IsNearlyValid}
use Rattle.kernel_model.specs.View.{whole}
use Rattle.kernel_model.proofs.FoundOpens.{NeverBadf, OnlyWhere, open_there}
use Rattle.kernel_model.proofs.FoundStreams.{send_found, waits_found}
use Rattle.kernel_model.proofs.PairCalls.{create_errors}
use Rattle.kernel_model.proofs.Lists.{in_all}

-- ---- fd_create2

pub created_found : (Q : Type 0) (errno : Errno) → IsIn errno create_errors → OnlyWhere Q (replies (refused errno))
created_found Q errno here = in_all (λ x. x ≡ Badf → Q) errno create_errors ((λ e. cc), ((λ e. cc), ((λ e. cc), tt))) here

-- ---- sockets

installed_found : (p c : ℕ) (bytes : List ℕ) (flags : ℕ) (rest : Channel) (o : Option Installed) → OnlyWhere ⊥ (received_with p c bytes flags rest o)
installed_found p c bytes flags rest None = λ e. cc
installed_found p c bytes flags rest (Some installed) = λ e. cc

taken_found : (looks : Bool) (p : ℕ) (table : Table) (room c : ℕ) (pulled : Pulled) → OnlyWhere ⊥ (taken_if looks p table room c pulled)
taken_found true p table room c pulled = λ e. cc
taken_found false p table room c pulled =
    installed_found p c pulled.bytes (truncated room pulled.carried) pulled.rest (install table (take room pulled.carried))

received_found : (must nonblocking looks : Bool) (p : ℕ) (table : Table) (room c : ℕ) (pulled : Pulled)
    → OnlyWhere ⊥ (received_if must nonblocking looks p table room c pulled)
received_found true nonblocking looks p table room c pulled = waits_found nonblocking
received_found false nonblocking looks p table room c pulled = taken_found looks p table room c pulled

module _ (S : State) (nearly : IsNearlyValid S) where
  receive_open_found : (p : ℕ) (table : Table) (n room flags : ℕ) (kind : OpenKind) → HasBehind S kind
      → OnlyWhere ⊥ (receive_open p table (whole (tick S)) n room flags (Some kind))
  receive_open_found p table n room flags (File node offset mode) behind = λ e. cc
  receive_open_found p table n room flags (Directory node mode) behind = λ e. cc
  receive_open_found p table n room flags (End None writes mode form) behind = λ e. cc
  receive_open_found p table n room flags (End (Some r) None mode form) behind = λ e. cc
  receive_open_found p table n room flags (End (Some r) (Some w) mode form) behind =
      let has : HasReader S.chans (Some r) = behind.1 in
      subst (λ x. OnlyWhere ⊥ (receive_from p table n room flags (is_nonblocking mode) r x)) (sym has.1)
      (received_found (must_wait_by flags n has.0) (is_nonblocking mode) (peeks flags) p table room r (pull n has.0))
  receive_open_found p table n room flags (Terminal which mode) behind = λ e. cc
  receive_open_found p table n room flags (Process q object) behind = λ e. cc

  send_open_found : (bytes : List ℕ) (carried : List Descriptor) (kind : OpenKind) → HasBehind S kind
      → OnlyWhere ⊥ (send_open (whole (tick S)) bytes carried (Some kind))
  send_open_found bytes carried (File node offset mode) behind = λ e. cc
  send_open_found bytes carried (Directory node mode) behind = λ e. cc
  send_open_found bytes carried (End None writes mode form) behind = λ e. cc
  send_open_found bytes carried (End (Some r) None mode form) behind = λ e. cc
  send_open_found bytes carried (End (Some r) (Some w) mode form) behind =
      send_found sent_reply (λ count. (refl, refl)) S mode bytes carried (Some w) behind.2 refl
  send_open_found bytes carried (Terminal which mode) behind = λ e. cc
  send_open_found bytes carried (Process q object) behind = λ e. cc

  shut_open_found : (how : ℕ) (kind : OpenKind) → OnlyWhere ⊥ (shut_open (whole (tick S)) how (Some kind))
  shut_open_found how (File node offset mode) = λ e. cc
  shut_open_found how (Directory node mode) = λ e. cc
  shut_open_found how (End None writes mode form) = λ e. cc
  shut_open_found how (End (Some r) None mode form) = λ e. cc
  shut_open_found how (End (Some r) (Some w) mode form) = λ e. cc
  shut_open_found how (Terminal which mode) = λ e. cc
  shut_open_found how (Process q object) = λ e. cc

  -- what is done with the open of a descriptor that is there
  at_found : (effect : ℕ → Option OpenKind → Outcome) → ((o : ℕ) (kind : OpenKind) → HasBehind S kind → OnlyWhere ⊥ (effect o (Some kind))) → (p fd : ℕ)
      (table : Table) → get S.tables p ≡ Some table → IsSome (get table fd) → OnlyWhere ⊥ (at_descriptor effect (whole (tick S)) (get table fd))
  at_found effect each p fd table own some = one (get table fd) refl some where
    one : (d : Option Descriptor) → get table fd ≡ d → IsSome d → OnlyWhere ⊥ (at_descriptor effect (whole (tick S)) d)
    one None at some = absurd (subst T (sym some) tt)
    one (Some d) at some =
        let found = open_there S nearly p fd table d own at in
        subst (λ o. OnlyWhere ⊥ (effect d.id o)) (sym found.1) (each d.id found.0 (nearly.behind d.id found.0 found.1))

  pub sock_recv_found : (fd n room flags : ℕ) → NeverBadf ⊥ S (sock_recv fd n room flags)
  sock_recv_found fd n room flags constants who table own all met =
      at_found (λ o. receive_open who.pid table (whole (tick S)) n room flags) (λ o kind behind. receive_open_found who.pid table n room flags kind behind)
      who.pid fd table own all.0

  pub sock_send_found : (fd : ℕ) (bytes fds : List ℕ) → NeverBadf ⊥ S (sock_send fd bytes fds)
  sock_send_found fd bytes fds constants who table own all met =
      at_found (λ o. send_open (whole (tick S)) bytes (picked table fds))
      (λ o kind behind. send_open_found bytes (picked table fds) kind behind) who.pid fd table own
      all.0

  pub sock_shutdown_found : (fd how : ℕ) → NeverBadf ⊥ S (sock_shutdown fd how)
  sock_shutdown_found fd how constants who table own all met =
      at_found (λ o. shut_open (whole (tick S)) how) (λ o kind behind. shut_open_found how kind) who.pid fd table own all.0
