-- A session at its answer: what an end says that it came to.
use Rattle.session_history.proofs.Terms.{Option, Some, subst, ◌≡◌, IfSome, Coming, SessionEnd, Stop, Rules, Session, AtEnd, EndsAt, EndsBy, HasCome, HasComeTo, IsEnd, answer_of, end_answer}
use Rattle.session_history.specs.declared.ends.SessionBreak.TheVariants as session_break
use Rattle.session_history.specs.declared.ends.SessionEnd.TheVariants as session_end
use Rattle.session_history.specs.declared.ends.Stop.TheVariants as stop

-- the end that a session came to has its cause
pub came_to : {rules : Rules} {coming : Option Coming} {session : Session} {end : SessionEnd} → HasCome rules coming session → session.came ≡ Some end → HasComeTo rules coming session end
came_to {rules = rules} {coming = coming} {session = session} comes is = subst (λ (came : Option SessionEnd). IfSome came (HasComeTo rules coming session)) is comes

-- an end is answered as one
pub is_end_answer : (end : SessionEnd) → IsEnd (end_answer end)
is_end_answer session_end.Finished = tt
is_end_answer (session_end.Exited code) = tt
is_end_answer (session_end.GaveUp point cause) = tt
is_end_answer (session_end.InputRefused kind offset) = tt
is_end_answer (session_end.MessageTooLong conn) = tt
is_end_answer session_end.LimitItems = tt
is_end_answer session_end.LimitEvents = tt

-- an end that is answered is the one that it came to
pub at_its_end : (rules : Rules) (session : Session) (end : SessionEnd) → EndsBy rules session (stop.Ends end) → EndsAt rules session end
at_its_end rules session (session_end.GaveUp point cause) ends = ends.0
at_its_end rules session _ ends = ends

-- more holds at an end
pub end_then : (why : Stop) {P Q : Type 0} → (P → Q) → AtEnd why (λ end. P) → AtEnd why (λ end. Q)
end_then (stop.Ends end) then holds = then holds
end_then (stop.Breaks fault) then holds = tt

-- and what holds there, holds where an end was answered
pub holds_at_end : (why : Stop) {P : Type 0} → IsEnd (answer_of why) → AtEnd why (λ end. P) → P
holds_at_end (stop.Ends end) is holds = holds
holds_at_end (stop.Breaks session_break.ReadFault) is holds = absurd is
holds_at_end (stop.Breaks session_break.WriteFault) is holds = absurd is
holds_at_end (stop.Breaks session_break.FileFault) is holds = absurd is
holds_at_end (stop.Breaks session_break.Memory) is holds = absurd is
