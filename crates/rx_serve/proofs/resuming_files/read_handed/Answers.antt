use Rattle.rx_serve.proofs.Lemmas.{unfinished_line_few}
use Rattle.rx_serve.proofs.Terms.{arith, subst, Err, RecordRefusal, Refused, ReadsUnfinished}
use Rattle.rx_serve.proofs.resuming_files.read_handed.Goals as goal

pub overflow_cast-result : goal.overflow_cast-result
overflow_cast-result c =
    let read : ReadsUnfinished c.args.text.now (Err (Refused c.in-Err-Refused.line)) =
    subst (λ (refusal : RecordRefusal). ReadsUnfinished c.args.text.now (Err refusal)) c.in-Err-Refused.field-0-is c.in-Err-Refused.ensures in
    omega (arith, unfinished_line_few c.args.text.now c.in-Err-Refused.line read.0, c.requires)
