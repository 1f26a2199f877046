-- What a receive comes to.
--     receive_takes      where a receive can go on
--     take_done, take_none, take_succeeds      what a receive takes
use Rattle.std.proofs.Common.{◌≡◌, ℕ, ◌==◌, ◌++◌, not, true, false, List, [], take, None, Some, Ok, refl, sym, ap, subst, ◌∙◌}
use Rattle.std.specs.Prelude.{bit_and}
use Rattle.std.specs.FinMap.{get, insert}
use Rattle.abi_base.specs.declared.errno.Errno.TheVariants.{Mfile}
use Rattle.abi_types.specs.declared.chan_kind.ChanKind.{ChanKind}
use Rattle.abi_types.specs.declared.open_kind.OpenKind.{OpenKind}
use Rattle.abi_types.specs.declared.open_kind.OpenKind.TheVariants.{End}
use Rattle.abi_types.specs.declared.reply.Answer.{Answer}
use Rattle.abi_types.specs.declared.reply.Answer.TheVariants as answer
use Rattle.channel_calls.specs.Calls.{Channels, seen_in}
use Rattle.channel_calls.specs.Done.{IsSocketDone}
use Rattle.kernel_model.specs.Channels.{Channel, Pulled, pull}
use Rattle.kernel_model.specs.Families.ChannelCalls.{Installed, install, is_nonblocking, must_wait_by, peeks, receive_from, receive_open, received, received_if, received_reply, received_with, taken_if, truncated}
use Rattle.kernel_model.specs.Outcome.{Outcome, IsSuccess}
use Rattle.kernel_model.specs.Reply.{refused}
use Rattle.kernel_model.specs.State.{Table}

-- ---- what goes on

no_peek : (flags : ℕ) → bit_and flags 4 ≡ 0 → peeks flags ≡ false
no_peek flags none = ap (λ n. not (n == 0)) none

pub receive_takes : (p : ℕ) (table : Table) (channels : Channels) (kind : OpenKind) (c w mode n room flags : ℕ) (form : ChanKind) (channel : Channel)
    → kind ≡ End (Some c) (Some w) mode form → get channels c ≡ Some channel → must_wait_by flags n channel ≡ false → bit_and flags 4 ≡ 0
    → receive_open p table (seen_in channels) n room flags (Some kind) ≡ received p table room c (pull n channel)
receive_takes p table channels kind c w mode n room flags form channel is there goes none =
    ap (λ (k : OpenKind). receive_open p table (seen_in channels) n room flags (Some k)) is
    ∙ ap (receive_from p table n room flags (is_nonblocking mode) c) there
    ∙ ap (λ b. received_if b (is_nonblocking mode) (peeks flags) p table room c (pull n channel)) goes
    ∙ ap (λ b. taken_if b p table room c (pull n channel)) (no_peek flags none)

-- ---- what is taken

done_by : (o e : Outcome) (given : Answer) (table after : Table) (channels left : Channels) → o ≡ e → IsSocketDone true e table after channels left (Ok given)
    → IsSocketDone true o table after channels left (Ok given)
done_by o e given table after channels left is done = subst (λ (x : Outcome). IsSocketDone true x table after channels left (Ok given)) (sym is) done

pub take_done : (p : ℕ) (table : Table) (room c : ℕ) (channels : Channels) (pulled : Pulled) (installed : Installed) (given : Answer)
    (bytes fds : List ℕ) (flags : ℕ) (after : Table) (left : Channels)
    → install table (take room pulled.carried) ≡ Some installed → given ≡ answer.Reply (received_reply bytes fds flags)
    → bytes ≡ pulled.bytes → fds ≡ [] ++ installed.fds → flags ≡ truncated room pulled.carried → after ≡ installed.table → left ≡ insert channels c pulled.rest
    → IsSocketDone true (received p table room c pulled) table after channels left (Ok given)
take_done p table room c channels pulled installed given bytes fds flags after left is gives bytes_are fds_are flags_are table_is left_is =
    done_by (received p table room c pulled) (received_with p c pulled.bytes (truncated room pulled.carried) pulled.rest (Some installed)) given table after
    channels left (ap (received_with p c pulled.bytes (truncated room pulled.carried) pulled.rest) is) (
      gives ∙ ap (λ (x : List ℕ). answer.Reply (received_reply x fds flags)) bytes_are
          ∙ ap (λ (x : List ℕ). answer.Reply (received_reply pulled.bytes x flags)) fds_are
          ∙ ap (λ (x : ℕ). answer.Reply (received_reply pulled.bytes installed.fds x)) flags_are,
      table_is,
      left_is,
    )

pub take_none : (p : ℕ) (table : Table) (room c : ℕ) (channels : Channels) (pulled : Pulled) (given : Answer)
    → install table (take room pulled.carried) ≡ None → given ≡ answer.Reply (refused Mfile)
    → IsSocketDone true (received p table room c pulled) table table channels channels (Ok given)
take_none p table room c channels pulled given is gives =
    done_by (received p table room c pulled) (received_with p c pulled.bytes (truncated room pulled.carried) pulled.rest None) given table table channels channels
    (ap (received_with p c pulled.bytes (truncated room pulled.carried) pulled.rest) is) (gives, refl, refl)

pub take_succeeds : (p : ℕ) (table : Table) (room c : ℕ) (pulled : Pulled) (installed : Installed)
    → install table (take room pulled.carried) ≡ Some installed → IsSuccess (received p table room c pulled).answer
take_succeeds p table room c pulled installed is =
    subst (λ (o : Outcome). IsSuccess o.answer) (sym (ap (received_with p c pulled.bytes (truncated room pulled.carried) pulled.rest) is)) refl
