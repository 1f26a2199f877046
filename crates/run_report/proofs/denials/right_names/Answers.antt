use Rattle.std.proofs.Common.{◌≡◌, ◌∙◌, ap, map}
use Rattle.std.proofs.lemmas.Result.{IfOk-weaker}
use Rattle.std.specs.List.{filter}
use Rattle.abi_base.specs.Rights.{has_all}
use Rattle.run_report.specs.Denials.{right_names}
use Rattle.run_report.proofs.ReportTexts.{right_names_of}
use Rattle.run_report.proofs.denials.right_names.Goals as goal

pub returns : goal.returns
returns c =
    IfOk-weaker c.names_among.result
    (λ found. found.items ≡ map (λ flag. flag.name) (filter (λ flag. has_all c.args.rights.0 flag.value.0) c.flags.result.now))
    (λ found. map (λ name. name.now) found.items ≡ right_names c.args.rights.0)
    (λ found h. ap (map (λ name. name.now)) h ∙ right_names_of c.args.rights.0 c.flags.result.now (c.flags.ensures tt)) c.names_among.ensures
