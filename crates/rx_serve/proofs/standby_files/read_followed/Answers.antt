use Rattle.rx_serve.proofs.Lemmas.{line_few, answers_few}
use Rattle.rx_serve.proofs.Terms.{ap, arith, length, subst, Err, RecordRefusal, Refused, ReadsRecord}
use Rattle.rx_serve.proofs.standby_files.read_followed.Goals as goal

pub overflow_cast-result : goal.overflow_cast-result
overflow_cast-result c =
    omega (arith, answers_few c.args.text.now c.in-Ok.recorded c.in-Ok.ensures, ap length c.as_slice-lines.ensures, c.requires)

pub overflow_add-result : goal.overflow_add-result
overflow_add-result c =
    omega (arith, answers_few c.args.text.now c.in-Ok.recorded c.in-Ok.ensures, ap length c.as_slice-lines.ensures, c.requires)

pub overflow_cast-result-in-Err-Refused : goal.overflow_cast-result-in-Err-Refused
overflow_cast-result-in-Err-Refused c =
    let read : ReadsRecord c.args.text.now (Err (Refused c.in-Err-Refused.line)) =
    subst (λ (refusal : RecordRefusal). ReadsRecord c.args.text.now (Err refusal)) c.in-Err-Refused.field-0-is c.in-Err-Refused.ensures in
    omega (arith, line_few c.args.text.now c.in-Err-Refused.line read.0, c.requires)
