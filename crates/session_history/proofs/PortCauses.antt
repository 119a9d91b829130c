-- Why a session over a port isn't answered by a fault of writing, nor by a refusal.
use Rattle.run_history.specs.declared.answer.Answer.TheVariants as answer
use Rattle.session_history.proofs.Terms.{None, Some, arith, inl, inr, ℕ, ◌≡◌, ◌≢◌, ComesUntold, Coming, Counts, Refuses, Image, Answer, Stop, Rules, Session, IsEnded, answer_of}
use Rattle.session_history.specs.declared.ends.SessionBreak.TheVariants as session_break
use Rattle.session_history.specs.declared.ends.SessionEnd.TheVariants as session_end
use Rattle.session_history.specs.declared.ends.Stop.TheVariants as stop
use Rattle.session_history.specs.Answering.{HasAnswerCause, port_counts}
use Rattle.session_history.proofs.Ended.{came_to}

-- no answer is a fault of writing, where no count of those rises
pub no_write_fault : {before now : Counts} {answered : Answer} → before.gives ≡ 0 → now.gives ≡ 0 → HasAnswerCause before now answered → answered ≢ answer.WriteFault
no_write_fault none still cause is = elim (cause.write_fault is) [
  | inl less ↦ omega arith
  | inr past ↦ omega arith
]

pub port_cause : {before now : Counts} {answered : Answer} → before.gives ≡ 0 → now.gives ≡ 0 → HasAnswerCause before now answered → HasAnswerCause (port_counts before.takes) (port_counts now.takes) answered
port_cause none still cause = record {
  takes = cause.takes;
  gives = omega arith;
  read_fault = cause.read_fault;
  write_fault = λ is. absurd (no_write_fault none still cause is);
}

-- nor a refusal, where it isn't told that one comes
refused_end : {rules : Rules} {image : Image} {session : Session} {kind offset : ℕ} → IsEnded rules image (Some ComesUntold) session (stop.Ends (session_end.InputRefused kind offset)) → ⊥
refused_end {rules = rules} {session = session} {kind = kind} {offset = offset} is =
    let same : ComesUntold ≡ Refuses kind offset = (came_to {rules = rules} {coming = Some ComesUntold} {session = session} {end = session_end.InputRefused kind offset} is.comes is.ends.came).stands.2 in cc

pub no_refusal : {rules : Rules} {image : Image} {session : Session} (why : Stop) (kind offset : ℕ) → IsEnded rules image (Some ComesUntold) session why → answer_of why ≢ answer.InputRefused kind offset
no_refusal (stop.Ends (session_end.InputRefused was at)) kind offset ended is = refused_end ended
no_refusal (stop.Ends session_end.Finished) kind offset ended is = cc
no_refusal (stop.Ends (session_end.Exited code)) kind offset ended is = cc
no_refusal (stop.Ends (session_end.GaveUp point cause)) kind offset ended is = cc
no_refusal (stop.Ends (session_end.MessageTooLong conn)) kind offset ended is = cc
no_refusal (stop.Ends session_end.LimitItems) kind offset ended is = cc
no_refusal (stop.Ends session_end.LimitEvents) kind offset ended is = cc
no_refusal (stop.Breaks session_break.ReadFault) kind offset ended is = cc
no_refusal (stop.Breaks session_break.WriteFault) kind offset ended is = cc
no_refusal (stop.Breaks session_break.FileFault) kind offset ended is = cc
no_refusal (stop.Breaks session_break.Memory) kind offset ended is = cc
