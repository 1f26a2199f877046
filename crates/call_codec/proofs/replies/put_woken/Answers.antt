use Rattle.std.proofs.Common.{◌≡◌, subst, sym}
use Rattle.call_codec.specs.Put.{memory_after, worded_memory}
use Rattle.call_codec.proofs.KeptCode.{same_code, woken_code, words_keep_code}
use Rattle.call_codec.proofs.replies.put_woken.Goals as goal
use Rattle.call_codec.proofs.replies.put_woken.Goals.{in-Success, in_default}
use Rattle.guest_memory.specs.Page.{Pages}
use Rattle.guest_memory.specs.Written.{KeepsCode}

pub returns-in-Parked-clause-code : goal.returns-in-Parked-clause-code
returns-in-Parked-clause-code c =
    subst (λ (after : Pages). KeepsCode c.args.memory.now after) (sym c.put_words.ensures) (words_keep_code c.args.memory.now c.in-Parked.writes)

pub returns-after-reply-clause-code : goal.returns-after-reply-clause-code
returns-after-reply-clause-code c =
    let m = c.args.memory.now in
    let r = c.args.regs.now in
    let call = c.args.call.now in
    let reply = c.in-Reply.reply in
    elim c.match-reply.branch [
      | in-Success w ↦
          let is : memory_after (worded_memory m call reply.writes) r call reply.payload ≡ c.match-reply.memory = cc (w.memory-is, w.put_output.ensures) in
          subst (λ (after : Pages). KeepsCode m after) is (woken_code m r call reply.writes reply.payload c.requires.waits)
      | in_default w ↦
          let is : m ≡ c.match-reply.memory = cc (w.memory-is) in
          subst (λ (after : Pages). KeepsCode m after) is (same_code m)
    ]
