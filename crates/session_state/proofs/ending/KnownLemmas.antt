-- What a link's grammar has next is told still, and a session's counts are those of its guest.
use Rattle.session_history.specs.declared.ends.SessionBreak.TheVariants as session_break
use Rattle.link_gate.specs.declared.heard.HearFault.TheVariants as hear
use Rattle.link_gate.specs.declared.pass_fault.PassFault.TheVariants as fault
use Rattle.session_history.specs.declared.ends.Stop.TheVariants as stop
use Rattle.session_state.proofs.Terms.{Bool, Err, None, Ok, Option, Result, Some, ap, inl, inr, refl, subst, sym, true, ℕ, ◌∙◌, ◌≡◌, ◌≤◌, IsErrOf, IsSome, Coming, Told, CpuState, SessionBreak, Stop, HearFault, Heard, PassFault, ComesOn, TakesBehind, SessionState, IsNoteFault, BreaksAt, BreaksOnce, BreaksPassing, HasNoteStop, HasSameGuest, IsAnswerTo, IsCounted, IsPassAnswer, IsStopAt, IsUnnoted, StaysKnown, TakesBy, UnlessBroken}

known_self : (coming : Option Coming) → StaysKnown coming coming
known_self None = tt
known_self (Some next) = refl

pub known_same : {old new : Option Coming} → new ≡ old → StaysKnown old new
known_same {old = old} same = subst (StaysKnown old) (sym same) (known_self old)

pub known_then : (old mid new : Option Coming) → StaysKnown old mid → StaysKnown mid new → StaysKnown old new
known_then None mid new first second = tt
known_then (Some old) None new first second = let no : ⊥ = cc in absurd no
known_then (Some old) (Some mid) new first second = second

-- what holds anyhow, holds unless a session was broken off
pub unless_broken : (result : Result (Unit {0}) Stop) (P : Type 0) → P → UnlessBroken result P
unless_broken (Ok done) P holds = holds
unless_broken (Err (stop.Ends end)) P holds = holds
unless_broken (Err (stop.Breaks end)) P holds = tt

-- first it was told still, and then it stayed
pub known_on : (old : Option Coming) {mid new : Option Coming} (result : Result (Unit {0}) Stop) → StaysKnown old mid → new ≡ mid → UnlessBroken result (StaysKnown old new)
known_on old {mid = mid} {new = new} result known same = unless_broken result (StaysKnown old new) (known_then old mid new known (known_same same))

pub known_kept : {old new : Option Coming} (result : Result (Unit {0}) Stop) → new ≡ old → UnlessBroken result (StaysKnown old new)
known_kept {old = old} {new = new} result same = unless_broken result (StaysKnown old new) (known_same same)

pub known_unless : (old mid new : Option Coming) (result : Result (Unit {0}) Stop) → StaysKnown old mid → UnlessBroken result (StaysKnown mid new) → UnlessBroken result (StaysKnown old new)
known_unless old mid new (Ok done) known unless = known_then old mid new known unless
known_unless old mid new (Err (stop.Ends end)) known unless = known_then old mid new known unless
known_unless old mid new (Err (stop.Breaks end)) known unless = tt

-- an event was heard
event_known : (old mid : Option Coming) (answer : Heard) → ComesOn old mid (Ok answer) → StaysKnown old mid
event_known None mid answer on = tt
event_known (Some old) mid answer on = on

pub known_heard : (old : Option Coming) {mid new : Option Coming} (answer : Heard) (result : Result (Unit {0}) Stop) → ComesOn old mid (Ok answer) → new ≡ mid → UnlessBroken result (StaysKnown old new)
known_heard old {mid = mid} answer result on same = known_on old result (event_known old mid answer on) same

stopped : {why now : Stop} (P : Type 0) → why ≡ now → UnlessBroken {X = Unit {0}} (Err now) P → UnlessBroken {X = Unit {0}} (Err why) P
stopped P is unless = subst (λ (w : Stop). UnlessBroken {X = Unit {0}} (Err w) P) (sym is) unless

-- none was
pub known_stopped : (old new : Option Coming) (cause : HearFault) (why : Stop) → ComesOn old new (Err cause) → IsStopAt cause why → UnlessBroken {X = Unit {0}} (Err why) (StaysKnown old new)
known_stopped None new cause why on is = unless_broken (Err why) (StaysKnown None new) tt
known_stopped (Some old) new (hear.Refused kind offset) why on is = stopped (IsSome new) is on
known_stopped (Some old) new hear.LimitEvents why on is = stopped (IsSome new) is on
known_stopped (Some old) new (hear.TooLong conn) why on is = stopped (IsSome new) is on
known_stopped (Some old) new hear.LimitItems why on is = stopped (IsSome new) is on
known_stopped (Some old) new hear.ReadFault why on is = stopped (IsSome new) is tt
known_stopped (Some old) new hear.Memory why on is = stopped (IsSome new) is tt

-- events may be taken still where nothing but pieces was given
pub takes_given : {mid new : Bool} (result : Result (Unit {0}) Stop) → mid ≡ true → new ≡ mid → BreaksPassing result → TakesBy new result
takes_given (Ok done) is same none = same ∙ is
takes_given (Err (stop.Ends end)) is same none = absurd none
takes_given (Err (stop.Breaks end)) is same none = tt

halted : (takes : Bool) {why now : Stop} → why ≡ now → TakesBy {X = Unit {0}} takes (Err now) → TakesBy {X = Unit {0}} takes (Err why)
halted takes is by = subst (λ (w : Stop). TakesBy {X = Unit {0}} takes (Err w)) (sym is) by

-- behind an event that wasn't heard
pub takes_stopped : (old new : Told) (takes : Bool) (cause : HearFault) (why : Stop) → TakesBehind old new takes (Err cause) → IsStopAt cause why → TakesBy {X = Unit {0}} takes (Err why)
takes_stopped old new takes (hear.Refused kind offset) why behind is = halted takes is behind
takes_stopped old new takes hear.LimitEvents why behind is = halted takes is behind
takes_stopped old new takes (hear.TooLong conn) why behind is = halted takes is behind
takes_stopped old new takes hear.LimitItems why behind is = halted takes is behind
takes_stopped old new takes hear.ReadFault why behind is = halted takes is tt
takes_stopped old new takes hear.Memory why behind is = halted takes is tt

-- where it was broken off, no call failed but one: a piece was given behind an event, or where none was heard
pub once_given : (old : Option Coming) {mid new : Option Coming} (gives : Bool) (result : Result (Unit {0}) Stop) → StaysKnown old mid → new ≡ mid → BreaksPassing result → BreaksOnce old new gives result
once_given old gives (Ok done) known same passing = tt
once_given old gives (Err (stop.Ends end)) known same passing = tt
once_given old {mid = mid} {new = new} gives (Err (stop.Breaks session_break.WriteFault)) known same passing = known_then old mid new known (known_same same)
once_given old {mid = mid} {new = new} gives (Err (stop.Breaks session_break.Memory)) known same passing = inl (known_then old mid new known (known_same same))
once_given old gives (Err (stop.Breaks _)) known same passing = absurd passing

pub once_heard : (old : Option Coming) {mid new : Option Coming} (gives : Bool) (heard : Heard) (result : Result (Unit {0}) Stop) → ComesOn old mid (Ok heard) → new ≡ mid → BreaksPassing result → BreaksOnce old new gives result
once_heard old {mid = mid} gives heard result on same passing = once_given old gives result (event_known old mid heard on) same passing

once_why : (old new : Option Coming) (gives : Bool) {why now : Stop} → why ≡ now → BreaksOnce {X = Unit {0}} old new gives (Err now) → BreaksOnce {X = Unit {0}} old new gives (Err why)
once_why old new gives is once = subst (λ (w : Stop). BreaksOnce {X = Unit {0}} old new gives (Err w)) (sym is) once

pub once_stopped : (old new : Option Coming) {gives : Bool} (cause : HearFault) (why : Stop) → gives ≡ true → IsStopAt cause why → BreaksOnce {X = Unit {0}} old new gives (Err why)
once_stopped old new {gives = gives} (hear.Refused kind offset) why still is = once_why old new gives is tt
once_stopped old new {gives = gives} hear.LimitEvents why still is = once_why old new gives is tt
once_stopped old new {gives = gives} (hear.TooLong conn) why still is = once_why old new gives is tt
once_stopped old new {gives = gives} hear.LimitItems why still is = once_why old new gives is tt
once_stopped old new {gives = gives} hear.ReadFault why still is = once_why old new gives is still
once_stopped old new {gives = gives} hear.Memory why still is = once_why old new gives is (inr still)

-- the same since earlier
pub once_at : (old mid new : Option Coming) (gives : Bool) (why : SessionBreak) → StaysKnown old mid → BreaksAt mid new gives why → BreaksAt old new gives why
once_at old mid new gives session_break.WriteFault known once = known_then old mid new known once
once_at old mid new gives session_break.ReadFault known once = once
once_at old mid new gives session_break.FileFault known once = (known_then old mid new known once.0, once.1)
once_at old mid new gives session_break.Memory known (inl once) = inl (known_then old mid new known once)
once_at old mid new gives session_break.Memory known (inr once) = inr once

pub once_then : (old mid new : Option Coming) (gives : Bool) (result : Result (Unit {0}) Stop) → StaysKnown old mid → BreaksOnce mid new gives result → BreaksOnce old new gives result
once_then old mid new gives (Ok done) known once = tt
once_then old mid new gives (Err (stop.Ends end)) known once = tt
once_then old mid new gives (Err (stop.Breaks end)) known once = once_at old mid new gives end known once

pub pass_answer : (why : PassFault) (broken : SessionBreak) → IsAnswerTo why broken → IsPassAnswer broken
pass_answer fault.WriteFault broken is = subst IsPassAnswer (sym is) tt
pass_answer fault.Memory broken is = subst IsPassAnswer (sym is) tt

pub once_passing : {old new : Option Coming} (gives : Bool) (why : PassFault) (broken : SessionBreak) → new ≡ old → IsAnswerTo why broken → BreaksAt old new gives broken
once_passing {old = old} {new = new} gives fault.WriteFault broken same is = subst (BreaksAt old new gives) (sym is) (known_same same)
once_passing {old = old} {new = new} gives fault.Memory broken same is = subst (BreaksAt old new gives) (sym is) (inl (known_same same))

-- passing and hearing answer no fault of the notes
pub unnoted_passing : (result : Result (Unit {0}) Stop) → BreaksPassing result → IsUnnoted result
unnoted_passing (Ok done) is = tt
unnoted_passing (Err (stop.Ends end)) is = absurd is
unnoted_passing (Err (stop.Breaks session_break.WriteFault)) is = tt
unnoted_passing (Err (stop.Breaks session_break.Memory)) is = tt
unnoted_passing (Err (stop.Breaks end)) is = absurd is

unnoted_why : {why now : Stop} → why ≡ now → IsUnnoted (Err now) → IsUnnoted (Err why)
unnoted_why is unnoted = subst (λ (w : Stop). IsUnnoted (Err w)) (sym is) unnoted

pub unnoted_stopped : (cause : HearFault) (why : Stop) → IsStopAt cause why → IsUnnoted (Err why)
unnoted_stopped (hear.Refused kind offset) why is = unnoted_why is tt
unnoted_stopped hear.LimitEvents why is = unnoted_why is tt
unnoted_stopped (hear.TooLong conn) why is = unnoted_why is tt
unnoted_stopped hear.LimitItems why is = unnoted_why is tt
unnoted_stopped hear.ReadFault why is = unnoted_why is tt
unnoted_stopped hear.Memory why is = unnoted_why is tt

file_fault : (result : Result (Unit {0}) Stop) → IsUnnoted result → IsErrOf result (stop.Breaks session_break.FileFault) → ⊥
file_fault (Ok done) unnoted is = absurd (cc)
file_fault (Err (stop.Ends end)) unnoted is = absurd (cc)
file_fault (Err (stop.Breaks end)) unnoted is = subst (λ (w : Stop). IsUnnoted (Err w)) (err_is (stop.Breaks end) (stop.Breaks session_break.FileFault) is) unnoted
  where
    err_is : (why other : Stop) → IsErrOf {T = Unit {0}} {E = Stop} (Err why) other → why ≡ other
    err_is why other is = cc (is)

-- behind notes that failed nothing
pub noted_still : {before now : ℕ} {result : Result (Unit {0}) Stop} → before ≤ now → IsUnnoted result → HasNoteStop before now result
noted_still {result = result} later unnoted = record { later = later; file_fault = λ is. absurd (file_fault result unnoted is) }

-- a fault of the notes, where the link failed nothing
pub once_noted : (coming : Option Coming) {gives : Bool} (why : SessionBreak) → gives ≡ true → IsNoteFault why → BreaksAt coming coming gives why
once_noted coming session_break.FileFault still is = (known_same refl, still)
once_noted coming session_break.Memory still is = inr still
once_noted coming _ still is = absurd is

-- a stop that isn't for want of memory
pub breaks_of : {why : Stop} {one other : SessionBreak} → why ≡ stop.Breaks one → IsErrOf {T = Unit {0}} {E = Stop} (Err why) (stop.Breaks other) → one ≡ other
breaks_of is same = cc

module _ {R : Type 0} where
  -- counts stay where the guest does
  pub counted_same : {old new : SessionState R} → HasSameGuest old new → IsCounted old → IsCounted new
  counted_same same counted = record {
    taken = same.taken ∙ counted.taken ∙ sym (ap (λ (cpu : CpuState R). cpu.slots.live.guest.machine.taken) same.cpu);
    steps = same.steps ∙ counted.steps ∙ sym (ap (λ (cpu : CpuState R). cpu.slots.live.steps) same.cpu);
  }
