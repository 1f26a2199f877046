-- The program that begins in a process by the answer to a call.
use Rattle.std.specs.Prelude.{◌≡◌, ℕ, true, List, if◌then◌else◌}
use Rattle.abi_types.specs.declared.call.Call.{Call}
use Rattle.abi_types.specs.declared.call.Call.TheVariants.{ProcExec}
use Rattle.abi_types.specs.declared.reply.Answer.{Answer}
use Rattle.abi_types.specs.declared.reply.Answer.TheVariants as answer
use Rattle.abi_types.specs.declared.reply.Payload.{Payload}
use Rattle.abi_types.specs.declared.reply.Payload.TheVariants.{Image}
use Rattle.call_codec.specs.Processes.{MayRestart}
use Rattle.kernel_model.specs.Threads.{is_success}
use Rattle.run_model.specs.World.{Guest, begun_guest}

-- the guest of process p after the answer to a call of its thread t, where another program begins by that, and else as it was
abbrev pub begun_by : ℕ → Guest → ℕ → Call → Answer → Guest
begun_by p guest t (ProcExec fd bytes fds) (answer.Reply reply) = if is_success reply.errno then begun_guest guest p t bytes reply.payload else guest
begun_by p guest t call given = guest

-- the payload's program can begin with this argument data, if it has one
abbrev pub CanBegin : List ℕ → Payload → Type 0
CanBegin argdata (Image elf canary) = MayRestart elf argdata canary
CanBegin argdata payload = Unit {0}

-- a program that begins by the answer to a call can begin
abbrev pub MayBegin : Call → Answer → Type 0
MayBegin (ProcExec fd bytes fds) (answer.Reply reply) = is_success reply.errno ≡ true → CanBegin bytes reply.payload
MayBegin call given = Unit {0}
