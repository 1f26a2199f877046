-- A send leaves the table as it is.
use Rattle.std.proofs.Common.{◌≡◌, ℕ, Bool, true, false, List, [], ◌∷◌, Option, None, Some, refl}
use Rattle.abi_types.specs.declared.descriptor.Descriptor.{Descriptor}
use Rattle.abi_types.specs.declared.open_kind.OpenKind.{OpenKind}
use Rattle.abi_types.specs.declared.open_kind.OpenKind.TheVariants.{File, Directory, End, Terminal, Process}
use Rattle.abi_types.specs.declared.reply.Reply.{Reply}
use Rattle.kernel_model.specs.Channels.{Channel, Push, hung, full, sends, push}
use Rattle.kernel_model.specs.Families.ChannelCalls.{is_nonblocking, send_on, send_open, send_to, sent_by, sent_reply, waits_unless}
use Rattle.kernel_model.specs.State.{Table}
use Rattle.kernel_model.specs.View.{View}
use Rattle.channel_calls.specs.Calls.{table_after}

waits_keeps : (nonblocking : Bool) (table : Table) → table ≡ table_after (waits_unless nonblocking).updates table
waits_keeps true table = refl
waits_keeps false table = refl

push_keeps : (reply : ℕ → Reply) (nonblocking : Bool) (c : ℕ) (p : Push) (table : Table) → table ≡ table_after (sent_by reply nonblocking c p).updates table
push_keeps reply nonblocking c hung table = refl
push_keeps reply nonblocking c full table = waits_keeps nonblocking table
push_keeps reply nonblocking c (sends count channel) table = refl

to_keeps : (reply : ℕ → Reply) (nonblocking : Bool) (bytes : List ℕ) (carried : List Descriptor) (c : ℕ) (o : Option Channel) (table : Table)
    → table ≡ table_after (send_to reply nonblocking bytes carried c o).updates table
to_keeps reply nonblocking bytes carried c None table = refl
to_keeps reply nonblocking bytes carried c (Some channel) table = push_keeps reply nonblocking c (push bytes carried channel) table

on_keeps : (reply : ℕ → Reply) (v : View) (flags : ℕ) (bytes : List ℕ) (carried : List Descriptor) (c : ℕ) (table : Table)
    → table ≡ table_after (send_on reply v flags bytes carried (Some c)).updates table
on_keeps reply v flags [] carried c table = refl
on_keeps reply v flags (b ∷ bytes) carried c table = to_keeps reply (is_nonblocking flags) (b ∷ bytes) carried c (v.channel c) table

pub send_keeps : (v : View) (bytes : List ℕ) (carried : List Descriptor) (kind : OpenKind) (table : Table)
    → table ≡ table_after (send_open v bytes carried (Some kind)).updates table
send_keeps v bytes carried (End (Some reads) (Some writes) flags form) table = on_keeps sent_reply v flags bytes carried writes table
send_keeps v bytes carried (End (Some reads) None flags form) table = refl
send_keeps v bytes carried (End None writes flags form) table = refl
send_keeps v bytes carried (File node offset flags) table = refl
send_keeps v bytes carried (Directory node flags) table = refl
send_keeps v bytes carried (Terminal which flags) table = refl
send_keeps v bytes carried (Process p object) table = refl
