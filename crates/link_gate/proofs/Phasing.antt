-- The phases of a link behind some events, and the connections that a log knows as open.
use Rattle.std.proofs.lemmas.List.Recursion.{or_push}
use Rattle.std.proofs.lemmas.Bool.Decides.{nat_tests}
use Rattle.link_gate.proofs.Terms.{Bool, List, [], ap, arith, false, if◌then◌else◌, refl, sym, true, ℕ, ◌++◌, ◌||◌, ◌∙◌, ◌∷◌, ◌≡◌, eqb-true, ◌==◌, LinkEvent, Closes, Ends, Opens, Piece, Settles, Closed, IsInOrder, Open, Phase, Phases, Unopened, phases_after, phase_after, closes, opens}

-- whether one event opens a connection, and whether it closes it
abbrev pub opens_by : ℕ → LinkEvent → Bool
opens_by conn (Opens opened) = opened == conn
opens_by conn (Piece to bytes) = false
opens_by conn (Closes closed) = false
opens_by conn Settles = false
opens_by conn Ends = false

abbrev pub closes_by : ℕ → LinkEvent → Bool
closes_by conn (Opens opened) = false
closes_by conn (Piece to bytes) = false
closes_by conn (Closes closed) = closed == conn
closes_by conn Settles = false
closes_by conn Ends = false

pub opens-first : (conn : ℕ) (event : LinkEvent) (events : List LinkEvent) → opens conn (event ∷ events) ≡ (opens_by conn event || opens conn events)
opens-first conn (Opens opened) events = refl
opens-first conn (Piece to bytes) events = refl
opens-first conn (Closes closed) events = refl
opens-first conn Settles events = refl
opens-first conn Ends events = refl

pub closes-first : (conn : ℕ) (event : LinkEvent) (events : List LinkEvent) → closes conn (event ∷ events) ≡ (closes_by conn event || closes conn events)
closes-first conn (Opens opened) events = refl
closes-first conn (Piece to bytes) events = refl
closes-first conn (Closes closed) events = refl
closes-first conn Settles events = refl
closes-first conn Ends events = refl

-- one event behind others
pub opens-last : (conn : ℕ) (events : List LinkEvent) (event : LinkEvent) → opens conn (events ++ event ∷ []) ≡ (opens conn events || opens_by conn event)
opens-last conn events event = or_push (opens conn) (opens_by conn) refl (opens-first conn) events event

pub closes-last : (conn : ℕ) (events : List LinkEvent) (event : LinkEvent) → closes conn (events ++ event ∷ []) ≡ (closes conn events || closes_by conn event)
closes-last conn events event = or_push (closes conn) (closes_by conn) refl (closes-first conn) events event

-- a phase by two answers
abbrev pub phase_by : Bool → Bool → Phase
phase_by closed opened = if closed then Closed else if opened then Open else Unopened

pub unopened_by : (closed opened : Bool) → phase_by closed opened ≡ Unopened → (closed ≡ false) × (opened ≡ false)
unopened_by true opened h = absurd (let no : ⊥ = cc in no)
unopened_by false true h = absurd (let no : ⊥ = cc in no)
unopened_by false false h = (refl, refl)

pub open_by : (closed opened : Bool) → phase_by closed opened ≡ Open → (closed ≡ false) × (opened ≡ true)
open_by true opened h = absurd (let no : ⊥ = cc in no)
open_by false true h = (refl, refl)
open_by false false h = absurd (let no : ⊥ = cc in no)

pub eqb_turns : (a b : ℕ) → (a == b) ≡ (b == a)
eqb_turns a b = grind (arith, nat_tests)

-- behind an event in order the phases are those of the events with it
opens_phase : (conn place : ℕ) (b closed opened : Bool) → conn == place ≡ b → (conn ≡ place → (closed ≡ false) × (opened ≡ false)) →
    (if b then Open else phase_by closed opened) ≡ phase_by (closed || false) (opened || b)
opens_phase conn place true closed opened p fresh = let both = fresh (eqb-true conn place p) in by closed opened both.0 both.1
  where
    by : (closed opened : Bool) → closed ≡ false → opened ≡ false → Open ≡ phase_by (closed || false) (opened || true)
    by true opened p q = absurd (let no : ⊥ = cc in no)
    by false true p q = absurd (let no : ⊥ = cc in no)
    by false false p q = refl
opens_phase conn place false true opened p fresh = refl
opens_phase conn place false false true p fresh = refl
opens_phase conn place false false false p fresh = refl

closes_phase : (b closed opened : Bool) → (if b then Closed else phase_by closed opened) ≡ phase_by (closed || b) (opened || false)
closes_phase true true opened = refl
closes_phase true false opened = refl
closes_phase false true opened = refl
closes_phase false false true = refl
closes_phase false false false = refl

same_phase : (closed opened : Bool) → phase_by closed opened ≡ phase_by (closed || false) (opened || false)
same_phase true opened = refl
same_phase false true = refl
same_phase false false = refl

phase-last : (conn : ℕ) (events : List LinkEvent) (event : LinkEvent) → phase_by (closes conn events || closes_by conn event) (opens conn events || opens_by conn event) ≡ phase_after conn (events ++ event ∷ [])
phase-last conn events event = λ i. phase_by (sym (closes-last conn events event) i) (sym (opens-last conn events event) i)

pub phases_behind : (phases : Phases) (events : List LinkEvent) (event : LinkEvent) → ((conn : ℕ) → phases conn ≡ phase_after conn events) → IsInOrder phases event → (conn : ℕ) → phases_after event phases conn ≡ phase_after conn (events ++ event ∷ [])
phases_behind phases events (Opens opened) knows order conn =
    ap (λ (phase : Phase). if conn == opened then Open else phase) (knows conn)
    ∙ opens_phase conn opened (conn == opened) (closes conn events) (opens conn events) refl (λ same. unopened_by (closes conn events) (opens conn events) (sym (knows conn) ∙ ap phases same ∙ order.1))
    ∙ ap (λ (b : Bool). phase_by (closes conn events || false) (opens conn events || b)) (eqb_turns conn opened)
    ∙ phase-last conn events (Opens opened)
phases_behind phases events (Piece to bytes) knows order conn = knows conn ∙ same_phase (closes conn events) (opens conn events) ∙ phase-last conn events (Piece to bytes)
phases_behind phases events (Closes closed) knows order conn =
    ap (λ (phase : Phase). if conn == closed then Closed else phase) (knows conn)
    ∙ closes_phase (conn == closed) (closes conn events) (opens conn events)
    ∙ ap (λ (b : Bool). phase_by (closes conn events || b) (opens conn events || false)) (eqb_turns conn closed)
    ∙ phase-last conn events (Closes closed)
phases_behind phases events Settles knows order conn = knows conn ∙ same_phase (closes conn events) (opens conn events) ∙ phase-last conn events Settles
phases_behind phases events Ends knows order conn = knows conn ∙ same_phase (closes conn events) (opens conn events) ∙ phase-last conn events Ends
