use Rattle.session_history.proofs.Terms.{Some, ap, length, sym, ◌∙◌, Stop, LimitEvents, LimitItems, TooLong, Unheeded, EndsBy, HasComeTo, IsLastRefused, before_end, IsComplete, NoOtherAnswer}
use Rattle.session_history.specs.declared.ends.SessionEnd.TheVariants as session_end
use Rattle.session_history.specs.declared.ends.Stop.TheVariants as stop
use Rattle.session_history.proofs.Ended.{came_to}
use Rattle.session_history.proofs.Endings.{received_at_end, given_broken}
use Rattle.session_history.proofs.Refused.{none_refused}

pub no_other_answer : NoOtherAnswer
no_other_answer rules image next session why is heeds no_refusal = of why is.ends
  where
    never : (cause : Unheeded) → IsLastRefused rules.bounds (before_end session) cause → ⊥
    never cause last = none_refused rules.bounds (before_end session) cause heeds last

    of : (why : Stop) → EndsBy rules session why → IsComplete rules session why
    of (stop.Ends session_end.Finished) ends =
        let to : HasComeTo rules (Some next) session session_end.Finished = came_to is.comes ends.came in
        to.stands.0.taken ∙ ap length (sym (received_at_end rules.bounds session is.pieces (given_broken rules session.survivor.now.state.sends _ session.broken is.account.broken)))
    of (stop.Ends (session_end.Exited code)) ends = tt
    of (stop.Ends (session_end.GaveUp point cause)) ends = tt
    of (stop.Ends (session_end.InputRefused kind offset)) ends =
        let to : HasComeTo rules (Some next) session (session_end.InputRefused kind offset) = came_to is.comes ends.came in
        absurd (no_refusal kind offset to.stands.2)
    of (stop.Ends (session_end.MessageTooLong conn)) ends =
        let to : HasComeTo rules (Some next) session (session_end.MessageTooLong conn) = came_to is.comes ends.came in
        absurd (never TooLong to.stands.1.refused)
    of (stop.Ends session_end.LimitItems) ends =
        let to : HasComeTo rules (Some next) session session_end.LimitItems = came_to is.comes ends.came in
        absurd (never LimitItems to.stands.1)
    of (stop.Ends session_end.LimitEvents) ends =
        let to : HasComeTo rules (Some next) session session_end.LimitEvents = came_to is.comes ends.came in
        absurd (never LimitEvents to.stands.1)
    of (stop.Breaks _) ends = tt

pub returns : Rattle.session_history.proofs.account_laws.no_other_answer.Goals.returns
returns c = no_other_answer
