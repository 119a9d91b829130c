use Rattle.report_reading.specs.Answers.{ReadsReport}
use Rattle.report_reading.specs.declared.reported.ReportRefusal.{ReportRefusal}
use Rattle.report_reading.specs.declared.reported.ReportRefusal.TheVariants.{Refused}
use Rattle.rx_serve.proofs.Lemmas.{report_line_few}
use Rattle.rx_serve.proofs.Terms.{arith, subst, Err}
use Rattle.rx_serve.proofs.resuming_files.read_adopted.Goals as goal

pub overflow_cast-result : goal.overflow_cast-result
overflow_cast-result c =
    let read : ReadsReport c.args.text.now (Err (Refused c.in-Err-Refused.line)) =
    subst (λ (refusal : ReportRefusal). ReadsReport c.args.text.now (Err refusal)) c.in-Err-Refused.field-0-is c.in-Err-Refused.ensures in
    omega (arith, report_line_few c.args.text.now c.in-Err-Refused.line read.0, c.requires)
