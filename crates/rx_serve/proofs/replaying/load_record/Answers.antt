use Rattle.rx_serve.proofs.Lemmas.{line_few}
use Rattle.rx_serve.proofs.Terms.{List, arith, subst, ℕ, Err, RecordRefusal, Refused, ReadsRecord}

pub overflow_cast-result : Rattle.rx_serve.proofs.replaying.load_record.Goals.overflow_cast-result
overflow_cast-result g c =
    let read : ReadsRecord c.in-Ok.text.items (Err (Refused c.in-Err-Refused.line)) =
    subst (λ (text : List ℕ). ReadsRecord text (Err (Refused c.in-Err-Refused.line))) c.as_slice.ensures.value
    (subst (λ (refusal : RecordRefusal). ReadsRecord c.as_slice.result.now (Err refusal)) c.in-Err-Refused.field-0-is c.in-Err-Refused.ensures) in
    omega (arith, line_few c.in-Ok.text.items c.in-Err-Refused.line read.0, c.in-Ok.ensures.loads.small)
