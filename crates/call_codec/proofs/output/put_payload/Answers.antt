use Rattle.std.proofs.Common.{ℕ, ◌<◌, get_or, rules, ◌∙◌, ap, sym}
use Rattle.call_codec.specs.Output.{with_bytes, with_payload}
use Rattle.call_codec.proofs.Layouts.{fdstat_is, filestat_is}
use Rattle.call_codec.proofs.output.put_payload.Goals as goal

pub returns-in-FdStat : goal.returns-in-FdStat
returns-in-FdStat c =
    let m = c.args.memory.now in
    let small : (k : ℕ) → get_or c.write_fdstat.result k 0 < 256 = λ k. search rules in
    let bytes = fdstat_is c.in-FdStat.stat c.write_fdstat.result small c.write_fdstat.ensures in
    c.put_bytes-in-FdStat.ensures ∙ ap (with_bytes m c.args.at) bytes ∙ ap (with_payload m c.args.at) (sym c.in-FdStat.is)

pub returns-in-FileStat : goal.returns-in-FileStat
returns-in-FileStat c =
    let m = c.args.memory.now in
    let small : (k : ℕ) → get_or c.write_filestat.result k 0 < 256 = λ k. search rules in
    let bytes = filestat_is c.in-FileStat.stat c.write_filestat.result small c.write_filestat.ensures in
    c.put_bytes-in-FileStat.ensures ∙ ap (with_bytes m c.args.at) bytes ∙ ap (with_payload m c.args.at) (sym c.in-FileStat.is)
