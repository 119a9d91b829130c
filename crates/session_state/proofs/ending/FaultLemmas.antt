-- Faults of notes.
use Rattle.session_history.specs.declared.ends.SessionBreak.TheVariants as session_break
use Rattle.session_history.specs.declared.ends.Stop.TheVariants as stop
use Rattle.rx_base.specs.declared.fault.IoFault.TheVariants as note
use Rattle.session_state.proofs.Terms.{[], subst, sym, ◌≡◌, IoFault, Seen, SessionBreak, Session, EndsBy, HandedLast, Rules, IsNoteFault, IsNoteAnswer}

-- nothing more is asked of a fault of notes
pub note_ends : (rules : Rules) (session : Session) (fault : SessionBreak) → IsNoteFault fault → EndsBy rules session (stop.Breaks fault)
note_ends rules session session_break.ReadFault is = absurd is
note_ends rules session session_break.WriteFault is = tt
note_ends rules session session_break.FileFault is = tt
note_ends rules session session_break.Memory is = tt

-- where no piece broke off, nothing is asked of what the link was handed
pub note_handed : (rules : Rules) (session : Session) (seen : Seen) (fault : SessionBreak) → session.broken ≡ [] → IsNoteFault fault → HandedLast rules session seen fault
note_handed rules session seen session_break.ReadFault none is = tt
note_handed rules session seen session_break.WriteFault none is = absurd is
note_handed rules session seen session_break.FileFault none is = tt
note_handed rules session seen session_break.Memory none is = λ some. absurd (some none)

-- a fault of notes breaks a session off so
pub note_answered : (fault : IoFault) (why : SessionBreak) → IsNoteAnswer fault why → IsNoteFault why
note_answered note.Failed why is = subst IsNoteFault (sym is) tt
note_answered note.Memory why is = subst IsNoteFault (sym is) tt
