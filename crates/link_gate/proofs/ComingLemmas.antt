-- What comes behind an event that was heard, by what the link's own answer says of it.
use Rattle.links.specs.declared.journal.LinkFault.TheVariants as link
use Rattle.link_gate.proofs.Terms.{Bool, None, Option, Some, [], false, inl, inr, refl, subst, sym, true, ℕ, ◌≡◌, Err, Ok, Result, LinkEvent, Closes, Ends, Opens, Piece, Settles, LinkFault, Coming, StaysTold, StillComes, Tells, Told, Log, Ledger, HearFault, Heard, ComesLast, ComesOn, IsShown, TakesBehind, IsFaultOf, TakesIn, TakesOrEnds}
use Rattle.link_gate.specs.declared.heard.Heard.TheVariants as heard
use Rattle.link_gate.specs.declared.heard.HearFault.TheVariants as fault
use Rattle.link_gate.proofs.Refusing.{IsEvent}

-- behind an event that was taken
pub comes_on : (event : LinkEvent) (old new : Option Coming) (result : Result Heard HearFault) → StaysTold old new (Ok event) → ComesOn old new result
comes_on event None new result told = tt
comes_on event (Some old) new (Ok answer) told = told
comes_on event (Some old) new (Err (fault.Refused kind offset)) told = told
comes_on event (Some old) new (Err fault.LimitEvents) told = told
comes_on event (Some old) new (Err (fault.TooLong conn)) told = told
comes_on event (Some old) new (Err fault.LimitItems) told = told
comes_on event (Some old) new (Err fault.ReadFault) told = tt
comes_on event (Some old) new (Err fault.Memory) told = tt

-- an event isn't told as the end
not_end : (event : LinkEvent) → IsEvent event → IsShown event heard.Ends → ⊥
not_end (Opens conn) one is = let no : ⊥ = cc is in no
not_end (Piece conn bytes) one is = let no : ⊥ = cc is in no
not_end (Closes conn) one is = let no : ⊥ = cc is in no
not_end Settles one is = let no : ⊥ = cc is in no
not_end Ends one is = let no : ⊥ = cc one in no

last_in : (event : LinkEvent) (log new : Log) (ledger later : Ledger) (before now most : ℕ) (coming : Option Coming) (result : Result Heard HearFault) → IsEvent event → TakesIn event log new ledger later before now most result → ComesLast coming result
last_in event log new ledger later before now most coming (Ok heard.Items) one did = tt
last_in event log new ledger later before now most coming (Ok (heard.Closes conn)) one did = tt
last_in event log new ledger later before now most coming (Ok heard.Settles) one did = tt
last_in event log new ledger later before now most coming (Ok heard.Ends) one did = absurd (not_end event one did.0)
last_in event log new ledger later before now most coming (Err (fault.Refused kind offset)) one did = absurd did.0
last_in event log new ledger later before now most coming (Err fault.LimitEvents) one did = tt
last_in event log new ledger later before now most coming (Err (fault.TooLong conn)) one did = tt
last_in event log new ledger later before now most coming (Err fault.LimitItems) one did = tt
last_in event log new ledger later before now most coming (Err fault.ReadFault) one did = tt
last_in event log new ledger later before now most coming (Err fault.Memory) one did = tt

pub comes_last : (event : LinkEvent) (log new : Log) (ledger later : Ledger) (before now most : ℕ) (coming : Option Coming) (result : Result Heard HearFault) → StillComes coming (Ok event) → TakesOrEnds event log new ledger later before now most result → ComesLast coming result
comes_last (Opens conn) log new ledger later before now most coming result still did = last_in (Opens conn) log new ledger later before now most coming result refl did
comes_last (Piece conn bytes) log new ledger later before now most coming result still did = last_in (Piece conn bytes) log new ledger later before now most coming result refl did
comes_last (Closes conn) log new ledger later before now most coming result still did = last_in (Closes conn) log new ledger later before now most coming result refl did
comes_last Settles log new ledger later before now most coming result still did = last_in Settles log new ledger later before now most coming result refl did
comes_last Ends log new ledger later before now most coming result still did = subst (ComesLast coming) (sym did.0) still

-- behind a fault of the link
pub fault_comes_on : (cause : LinkFault) (old new : Option Coming) (answer : HearFault) → IsFaultOf cause answer → StaysTold old new (Err cause) → ComesOn old new (Err answer)
fault_comes_on cause None new answer is told = tt
fault_comes_on (link.Refused kind offset) (Some old) new answer is told = subst (λ (a : HearFault). ComesOn (Some old) new (Err a)) (sym is) told
fault_comes_on link.ReadFault (Some old) new answer is told = subst (λ (a : HearFault). ComesOn (Some old) new (Err a)) (sym is) tt
fault_comes_on link.WriteFault (Some old) new answer is told = absurd is
fault_comes_on link.Memory (Some old) new answer is told = subst (λ (a : HearFault). ComesOn (Some old) new (Err a)) (sym is) tt

pub fault_comes_last : (cause : LinkFault) (coming : Option Coming) (answer : HearFault) → IsFaultOf cause answer → StillComes coming (Err cause) → ComesLast coming (Err answer)
fault_comes_last (link.Refused kind offset) coming answer is still = subst (λ (a : HearFault). ComesLast coming (Err a)) (sym is) still
fault_comes_last link.ReadFault coming answer is still = subst (λ (a : HearFault). ComesLast coming (Err a)) (sym is) tt
fault_comes_last link.WriteFault coming answer is still = absurd is
fault_comes_last link.Memory coming answer is still = subst (λ (a : HearFault). ComesLast coming (Err a)) (sym is) tt

-- whether events may be taken behind an event that was taken
takes_in : (event : LinkEvent) (log new : Log) (ledger later : Ledger) (before now most : ℕ) (old still : Told) (takes : Bool) (result : Result Heard HearFault) → takes ≡ true → TakesIn event log new ledger later before now most result → TakesBehind old still takes result
takes_in event log new ledger later before now most old still takes (Ok answer) is did = is
takes_in event log new ledger later before now most old still takes (Err (fault.Refused kind offset)) is did = absurd did.0
takes_in event log new ledger later before now most old still takes (Err fault.LimitEvents) is did = is
takes_in event log new ledger later before now most old still takes (Err (fault.TooLong conn)) is did = is
takes_in event log new ledger later before now most old still takes (Err fault.LimitItems) is did = is
takes_in event log new ledger later before now most old still takes (Err fault.ReadFault) is did = absurd did.0
takes_in event log new ledger later before now most old still takes (Err fault.Memory) is did = inr is

pub takes_behind : (event : LinkEvent) (log new : Log) (ledger later : Ledger) (before now most : ℕ) (old still : Told) (takes : Bool) (result : Result Heard HearFault) → takes ≡ true → TakesOrEnds event log new ledger later before now most result → TakesBehind old still takes result
takes_behind (Opens conn) log new ledger later before now most old still takes result is did = takes_in (Opens conn) log new ledger later before now most old still takes result is did
takes_behind (Piece conn bytes) log new ledger later before now most old still takes result is did = takes_in (Piece conn bytes) log new ledger later before now most old still takes result is did
takes_behind (Closes conn) log new ledger later before now most old still takes result is did = takes_in (Closes conn) log new ledger later before now most old still takes result is did
takes_behind Settles log new ledger later before now most old still takes result is did = takes_in Settles log new ledger later before now most old still takes result is did
takes_behind Ends log new ledger later before now most old still takes result is did = subst (TakesBehind old still takes) (sym did.0) is

-- and behind a fault of the link
pub fault_takes : (cause : LinkFault) (old still : Told) (takes : Bool) (answer : HearFault) → IsFaultOf cause answer → Tells old still [] → takes ≡ false → TakesBehind old still takes (Err answer)
fault_takes (link.Refused kind offset) old still takes answer is told none = subst (λ (a : HearFault). TakesBehind old still takes (Err a)) (sym is) none
fault_takes link.ReadFault old still takes answer is told none = subst (λ (a : HearFault). TakesBehind old still takes (Err a)) (sym is) none
fault_takes link.WriteFault old still takes answer is told none = absurd is
fault_takes link.Memory old still takes answer is told none = subst (λ (a : HearFault). TakesBehind old still takes (Err a)) (sym is) (inl told)
