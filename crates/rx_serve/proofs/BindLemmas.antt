-- A port that couldn't be bound.
use Rattle.rx_base.specs.declared.fault.IoFault.TheVariants as fault
use Rattle.run_history.specs.declared.answer.Answer.TheVariants as answer
use Rattle.rx_serve.proofs.Terms.{refl, sym, ℕ, ◌∙◌, ◌≡◌, Err, IoFault, HasCause, Answer, HasFaults, faults, IsBindAnswer}

-- where a port couldn't be bound, only the count of its faults has to have risen
pub bind_faults : (files files_later port port_later output : ℕ) (why : IoFault) (between answered : Answer) → IsBindAnswer why between → answered ≡ between → HasCause {T = Unit {0}} port port_later (Err why)
    → HasFaults (faults files port output) (faults files_later port_later output) answered
bind_faults files files_later port port_later output fault.Failed between answered bind same cause = record {
  file_fault = λ is. absurd (let other : answer.ReadFault ≡ answer.FileFault = sym bind ∙ sym same ∙ is in cc);
  read_fault = λ is. cause.failed refl;
  write_fault = λ is. absurd (let other : answer.ReadFault ≡ answer.WriteFault = sym bind ∙ sym same ∙ is in cc);
}
bind_faults files files_later port port_later output fault.Memory between answered bind same cause = record {
  file_fault = λ is. absurd (let other : answer.Memory ≡ answer.FileFault = sym bind ∙ sym same ∙ is in cc);
  read_fault = λ is. absurd (let other : answer.Memory ≡ answer.ReadFault = sym bind ∙ sym same ∙ is in cc);
  write_fault = λ is. absurd (let other : answer.Memory ≡ answer.WriteFault = sym bind ∙ sym same ∙ is in cc);
}
