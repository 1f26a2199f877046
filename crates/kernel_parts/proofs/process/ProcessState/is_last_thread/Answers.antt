use Rattle.std.proofs.Common.{◌≡◌, ℕ, ◌==◌, is_some, ap, ◌∙◌}
use Rattle.std.specs.Int.{from_bool}
use Rattle.std.specs.FinMap.{get, len, remove}
use Rattle.kernel_model.specs.State.{ProcessState}
use Rattle.kernel_parts.proofs.OwnCalls.{last_is}
use Rattle.kernel_parts.proofs.process.ProcessState.is_last_thread.Goals as goal

pub returns : goal.returns
returns c =
    let threads = c.self.inside.threads in
    let same : c.from.result ≡ c.args.tid = c.from.ensures ∙ c.tid.view_is in
    let present : c.from-own.result ≡ from_bool (is_some (get threads c.args.tid)) =
    c.from-own.ensures ∙ ap from_bool (c.contains.ensures ∙ ap (λ (t : ℕ). is_some (get threads t)) same) in
    ap (λ (n : ℕ). n == c.from-own.result) c.len.ensures.len ∙ ap (λ (n : ℕ). len threads == n) present ∙ last_is threads c.args.tid
    ∙ ap (λ (own : ProcessState). len (remove own.threads c.args.tid) == 0) c.self.view_is
