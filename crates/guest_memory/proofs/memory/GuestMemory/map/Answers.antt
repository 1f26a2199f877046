use Rattle.std.proofs.Common.{◌≡◌, ◌+◌, ◌*◌, ◌/◌, ◌≤◌, true, false, Result, Ok, Err, OnOk, OnErr, sym, subst, ◌∙◌, arith}
use Rattle.std.specs.Result.{is_err}
use Rattle.std.specs.FinMap.{len}
use Rattle.guest_memory.specs.Limits.{KeepsLimits}
use Rattle.guest_memory.proofs.KeptLimits.{keeps_mapped}
use Rattle.guest_memory.proofs.PageRanges.{unmapped_again}
use Rattle.guest_memory.proofs.memory.GuestMemory.map.Goals as goal

at_err : {T E P : Type 0} (r : Result T E) → true ≡ is_err r → OnErr r P → P
at_err (Ok x) e h = absurd (cc)
at_err (Err x) e h = h

at_ok : {T E P : Type 0} (r : Result T E) → false ≡ is_err r → OnOk r P → P
at_ok (Ok x) e h = h
at_ok (Err x) e h = absurd (cc)

pub invariant_of-self : goal.invariant_of-self
invariant_of-self c =
    subst KeepsLimits
    (sym (unmapped_again c.self.inside.pages c.add_pages.new.pages c.remove_pages.new.pages
    (c.args.at / 4096) c.from-count.result
    c.in_default.ensures (at_err c.add_pages.result c.if-is_err.ensures.value c.add_pages.ensures.err)
    c.remove_pages.ensures))
    c.self.invariant

pub returns-then-is_err-clause-err : goal.returns-then-is_err-clause-err
returns-then-is_err-clause-err c =
    unmapped_again c.self.inside.pages c.add_pages.new.pages c.remove_pages.new.pages
    (c.args.at / 4096) c.from-count.result
    c.in_default.ensures (at_err c.add_pages.result c.if-is_err.ensures.value c.add_pages.ensures.err)
    c.remove_pages.ensures
    ∙ c.self.view_is

pub invariant_of-self-else-is_err : goal.invariant_of-self-else-is_err
invariant_of-self-else-is_err c =
    let few : len c.self.inside.pages + c.from-count.result ≤ 65536 = omega arith in
    let low : 0x10000 ≤ 4096 * (c.args.at / 4096) = omega arith in
    let high : 4096 * (c.args.at / 4096 + c.from-count.result) ≤ 0x4000000000 = omega arith in
    keeps_mapped c.self.inside.pages c.add_pages.new.pages
    (c.args.at / 4096) c.from-count.result c.args.prot c.self.invariant
    (record { free = c.in_default.ensures; fits = few })
    (at_ok c.add_pages.result c.if-is_err.ensures.value c.add_pages.ensures.ok) low high
