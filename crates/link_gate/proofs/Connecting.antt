-- Which connections are given to behind an event, and what hearing leaves as it was.
use Rattle.reply_ledger.specs.Ledger as ledgers
use Rattle.link_gate.proofs.Terms.{Bool, List, ap, arith, false, if◌then◌else◌, inl, inr, not, refl, subst, sym, true, ℕ, ◌&&◌, ◌∙◌, ◌≡◌, ◌≤◌, ◌⊎◌, eqb-true, true≢false, Err, Ok, Result, ◌==◌, Send, Entry, LinkEvent, Closes, Ends, Opens, Piece, Settles, Closed, GivesAtClose, Open, Phase, Phases, phases_after, Log, is_open-push, stamped_to-push, Ledger, stamped_to, Bounds, events_of, heeded, closes, is_gone, opens, HearFault, Heard, HasSameReplies, Stays, IsNew, TakesIn, TakesOrEnds, entered}
use Rattle.link_gate.specs.declared.heard.HearFault.TheVariants as fault
use Rattle.link_gate.proofs.Phasing.{phase_by}
use Rattle.link_gate.proofs.Refusing.{few_heeded}
use Rattle.link_gate.proofs.Answering.{Stood}

-- behind an answer the ledger is as it was, or has the connection that opened
later_in : (event : LinkEvent) (log new : Log) (ledger later : Ledger) (before now most : ℕ) (result : Result Heard HearFault) → TakesIn event log new ledger later before now most result → (later ≡ ledger) ⊎ (later ≡ entered event ledger)
later_in event log new ledger later before now most (Ok answer) did = inr did.5
later_in event log new ledger later before now most (Err (fault.Refused kind offset)) did = inl did.1
later_in event log new ledger later before now most (Err fault.LimitEvents) did = inl did.1
later_in event log new ledger later before now most (Err (fault.TooLong conn)) did = inl did.1
later_in event log new ledger later before now most (Err fault.LimitItems) did = inl did.1
later_in event log new ledger later before now most (Err fault.ReadFault) did = inl did.1
later_in event log new ledger later before now most (Err fault.Memory) did = inl did.4

later_of : (event : LinkEvent) (log new : Log) (ledger later : Ledger) (before now most : ℕ) (result : Result Heard HearFault) → TakesOrEnds event log new ledger later before now most result → (later ≡ ledger) ⊎ (later ≡ entered event ledger)
later_of (Opens conn) log new ledger later before now most result did = later_in (Opens conn) log new ledger later before now most result did
later_of (Piece conn bytes) log new ledger later before now most result did = later_in (Piece conn bytes) log new ledger later before now most result did
later_of (Closes conn) log new ledger later before now most result did = later_in (Closes conn) log new ledger later before now most result did
later_of Settles log new ledger later before now most result did = later_in Settles log new ledger later before now most result did
later_of Ends log new ledger later before now most result did = inl did.2

-- no more events than may be are counted
counted_in : (event : LinkEvent) (log new : Log) (ledger later : Ledger) (before now most : ℕ) (result : Result Heard HearFault) → TakesIn event log new ledger later before now most result → before ≤ most → now ≤ most
counted_in event log new ledger later before now most (Ok answer) did h = omega (arith, did.1, did.4)
counted_in event log new ledger later before now most (Err (fault.Refused kind offset)) did h = absurd did.0
counted_in event log new ledger later before now most (Err fault.LimitEvents) did h = omega (arith, h, did.0.2)
counted_in event log new ledger later before now most (Err (fault.TooLong conn)) did h = omega (arith, h, did.0.4)
counted_in event log new ledger later before now most (Err fault.LimitItems) did h = omega (arith, h, did.0.3)
counted_in event log new ledger later before now most (Err fault.ReadFault) did h = absurd did.0
counted_in event log new ledger later before now most (Err fault.Memory) did h = omega (arith, did.0, did.3)

counted_of : (event : LinkEvent) (log new : Log) (ledger later : Ledger) (before now most : ℕ) (result : Result Heard HearFault) → TakesOrEnds event log new ledger later before now most result → before ≤ most → now ≤ most
counted_of (Opens conn) log new ledger later before now most result did h = counted_in (Opens conn) log new ledger later before now most result did h
counted_of (Piece conn bytes) log new ledger later before now most result did h = counted_in (Piece conn bytes) log new ledger later before now most result did h
counted_of (Closes conn) log new ledger later before now most result did h = counted_in (Closes conn) log new ledger later before now most result did h
counted_of Settles log new ledger later before now most result did h = counted_in Settles log new ledger later before now most result did h
counted_of Ends log new ledger later before now most result did h = omega (arith, did.3, h)

pub stood_below : (bounds : Bounds) (entries : List Entry) (sends : List Send) (log : Log) (ledger : Ledger) (phases : Phases) (before most : ℕ) → Stood bounds entries sends log ledger phases before most → before ≤ most
stood_below bounds entries sends log ledger phases before most stood =
    omega (arith, few_heeded bounds (events_of bounds entries) stood.items.all_heeded, stood.limit, stood.counted)

pub counted_most : (bounds : Bounds) (entries : List Entry) (sends : List Send) (event : LinkEvent) (log new : Log) (ledger later : Ledger) (phases : Phases) (before now most : ℕ) (result : Result Heard HearFault) → Stood bounds entries sends log ledger phases before most
    → TakesOrEnds event log new ledger later before now most result → now ≤ most
counted_most bounds entries sends event log new ledger later phases before now most result stood did =
    counted_of event log new ledger later before now most result did (stood_below bounds entries sends log ledger phases before most stood)

-- what was sent and passed stays
entered_stamps : (event : LinkEvent) (ledger : Ledger) (conn : ℕ) → IsNew event ledger → stamped_to (entered event ledger).connections conn ≡ stamped_to ledger.connections conn
entered_stamps (Opens place) ledger conn new = stamped_to-push ledger.connections place conn new
entered_stamps (Piece to bytes) ledger conn new = refl
entered_stamps (Closes place) ledger conn new = refl
entered_stamps Settles ledger conn new = refl
entered_stamps Ends ledger conn new = refl

entered_same : (event : LinkEvent) (ledger : Ledger) → ((entered event ledger).first ≡ ledger.first) × ((entered event ledger).kept ≡ ledger.kept) × ((entered event ledger).trial ≡ ledger.trial)
entered_same (Opens place) ledger = (refl, refl, refl)
entered_same (Piece to bytes) ledger = (refl, refl, refl)
entered_same (Closes place) ledger = (refl, refl, refl)
entered_same Settles ledger = (refl, refl, refl)
entered_same Ends ledger = (refl, refl, refl)

pub same_replies : (event : LinkEvent) (log new : Log) (ledger later : Ledger) (before now most : ℕ) (result : Result Heard HearFault) → IsNew event ledger → TakesOrEnds event log new ledger later before now most result → HasSameReplies ledger later
same_replies event log new ledger later before now most result fresh did = by (later_of event log new ledger later before now most result did)
  where
    by : (later ≡ ledger) ⊎ (later ≡ entered event ledger) → HasSameReplies ledger later
    by (inl same) = subst (HasSameReplies ledger) (sym same) (record { first = refl; kept = refl; trial = refl; stamped = λ conn. refl })
    by (inr same) = let parts = entered_same event ledger in
        subst (HasSameReplies ledger) (sym same) (record { first = parts.0; kept = parts.1; trial = parts.2; stamped = λ conn. entered_stamps event ledger conn fresh })

-- a connection that the ledger knows as open is open by the phases
open_answers : (opened closed gone : Bool) → (opened && not closed && not gone) ≡ true → phase_by closed opened ≡ Open
open_answers true false gone h = refl
open_answers true true gone h = absurd (true≢false (sym h))
open_answers false closed gone h = absurd (true≢false (sym h))

pub open_phase : (bounds : Bounds) (entries : List Entry) (sends : List Send) (log : Log) (ledger : Ledger) (phases : Phases) (before most : ℕ) (conn : ℕ) → Stood bounds entries sends log ledger phases before most → ledgers.is_open ledger.connections conn ≡ true → phases conn ≡ Open
open_phase bounds entries sends log ledger phases before most conn stood h =
    stood.is_at conn ∙ (λ i. phase_by (closes conn (sym stood.items.all_heeded i)) (opens conn (sym stood.items.all_heeded i)))
    ∙ open_answers (opens conn (heeded bounds (events_of bounds entries))) (closes conn (heeded bounds (events_of bounds entries))) (is_gone conn entries) (sym (stood.replies.may conn) ∙ h)

-- what was open is given to, also where it was closed just now
open_by_event : (place conn : ℕ) (b : Bool) (phase : Phase) → phase ≡ Open → (if b then Open else phase) ≡ Open
open_by_event place conn true phase h = refl
open_by_event place conn false phase h = h

given_before : (event : LinkEvent) (phases after : Phases) (gives : ℕ → Bool) (conn : ℕ) → ((other : ℕ) → after other ≡ Open → gives other ≡ true) → GivesAtClose gives (Ok event) → ((other : ℕ) → after other ≡ phases_after event phases other) → phases conn ≡ Open → gives conn ≡ true
given_before (Opens place) phases after gives conn law closing enters h = law conn (enters conn ∙ open_by_event place conn (conn == place) (phases conn) h)
given_before (Piece to bytes) phases after gives conn law closing enters h = law conn (enters conn ∙ h)
given_before (Closes place) phases after gives conn law closing enters h = by (conn == place) refl
  where
    by : (b : Bool) → conn == place ≡ b → gives conn ≡ true
    by true p = ap gives (eqb-true conn place p) ∙ closing
    by false p = law conn (enters conn ∙ ap (λ (b : Bool). if b then Closed else phases conn) p ∙ h)
given_before Settles phases after gives conn law closing enters h = law conn (enters conn ∙ h)
given_before Ends phases after gives conn law closing enters h = law conn (enters conn ∙ h)

given_entered : (event : LinkEvent) (ledger : Ledger) (phases after : Phases) (gives : ℕ → Bool) (conn : ℕ) → IsNew event ledger → ((other : ℕ) → after other ≡ Open → gives other ≡ true) → ((other : ℕ) → after other ≡ phases_after event phases other)
    → (ledgers.is_open ledger.connections conn ≡ true → gives conn ≡ true) → ledgers.is_open (entered event ledger).connections conn ≡ true → gives conn ≡ true
given_entered (Opens place) ledger phases after gives conn fresh law enters was h = by (conn == place) refl
  where
    by : (b : Bool) → conn == place ≡ b → gives conn ≡ true
    by true p = law conn (enters conn ∙ ap (λ (b : Bool). if b then Open else phases conn) p)
    by false p = was (sym (is_open-push ledger.connections place conn fresh p) ∙ h)
given_entered (Piece to bytes) ledger phases after gives conn fresh law enters was h = was h
given_entered (Closes place) ledger phases after gives conn fresh law enters was h = was h
given_entered Settles ledger phases after gives conn fresh law enters was h = was h
given_entered Ends ledger phases after gives conn fresh law enters was h = was h

pub connected_behind : (bounds : Bounds) (entries : List Entry) (sends : List Send) (event : LinkEvent) (log new : Log) (ledger later : Ledger) (phases after : Phases) (gives : ℕ → Bool) (before now most : ℕ) (result : Result Heard HearFault)
    → Stood bounds entries sends log ledger phases before most → IsNew event ledger → ((other : ℕ) → after other ≡ Open → gives other ≡ true) → GivesAtClose gives (Ok event) → ((other : ℕ) → after other ≡ phases_after event phases other)
    → TakesOrEnds event log new ledger later before now most result → (conn : ℕ) → ledgers.is_open later.connections conn ≡ true → gives conn ≡ true
connected_behind bounds entries sends event log new ledger later phases after gives before now most result stood fresh law closing enters did conn = by (later_of event log new ledger later before now most result did)
  where
    was : ledgers.is_open ledger.connections conn ≡ true → gives conn ≡ true
    was h = given_before event phases after gives conn law closing enters (open_phase bounds entries sends log ledger phases before most conn stood h)

    by : (later ≡ ledger) ⊎ (later ≡ entered event ledger) → ledgers.is_open later.connections conn ≡ true → gives conn ≡ true
    by (inl same) h = was (ap (λ (l : Ledger). ledgers.is_open l.connections conn) (sym same) ∙ h)
    by (inr same) h = given_entered event ledger phases after gives conn fresh law enters was (ap (λ (l : Ledger). ledgers.is_open l.connections conn) (sym same) ∙ h)

-- a fault without an event, and an event that is refused
pub fault_stays : (log : Log) (ledger : Ledger) (events : ℕ) (fault : HearFault) → Stays log log ledger ledger events events (Err fault)
fault_stays log ledger events (fault.Refused kind offset) = (refl, refl, refl)
fault_stays log ledger events fault.LimitEvents = (refl, refl, refl)
fault_stays log ledger events (fault.TooLong conn) = (refl, refl, refl)
fault_stays log ledger events fault.LimitItems = (refl, refl, refl)
fault_stays log ledger events fault.ReadFault = (refl, refl, refl)
fault_stays log ledger events fault.Memory = refl

stays_in : (event : LinkEvent) (log new : Log) (ledger later : Ledger) (before now most : ℕ) (result : Result Heard HearFault) → TakesIn event log new ledger later before now most result → Stays log new ledger later before now result
stays_in event log new ledger later before now most (Ok answer) did = tt
stays_in event log new ledger later before now most (Err (fault.Refused kind offset)) did = absurd did.0
stays_in event log new ledger later before now most (Err fault.LimitEvents) did = (did.0.1, did.1, did.0.2)
stays_in event log new ledger later before now most (Err (fault.TooLong conn)) did = (did.0.3, did.1, did.0.4)
stays_in event log new ledger later before now most (Err fault.LimitItems) did = (did.0.2, did.1, did.0.3)
stays_in event log new ledger later before now most (Err fault.ReadFault) did = absurd did.0
stays_in event log new ledger later before now most (Err fault.Memory) did = did.4

pub stays_of : (event : LinkEvent) (log new : Log) (ledger later : Ledger) (before now most : ℕ) (result : Result Heard HearFault) → TakesOrEnds event log new ledger later before now most result → Stays log new ledger later before now result
stays_of (Opens conn) log new ledger later before now most result did = stays_in (Opens conn) log new ledger later before now most result did
stays_of (Piece conn bytes) log new ledger later before now most result did = stays_in (Piece conn bytes) log new ledger later before now most result did
stays_of (Closes conn) log new ledger later before now most result did = stays_in (Closes conn) log new ledger later before now most result did
stays_of Settles log new ledger later before now most result did = stays_in Settles log new ledger later before now most result did
stays_of Ends log new ledger later before now most result did = subst (Stays log new ledger later before now) (sym did.0) tt
