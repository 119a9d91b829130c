-- The end of a session: the pieces that it passes there, the one that a fault breaks off, and what was passed in all.
use Rattle.links.specs.declared.journal.Entry.TheVariants as entry
use Rattle.session_history.proofs.Terms.{Bool, List, Option, [], ap, append-nil, append_assoc, arith, cond, eqb, false, inl, inr, length, length-append, refl, subst, sym, true, ℕ, ◌++◌, ◌∙◌, ◌∷◌, ◌≡◌, eqb-true, is_some, Item, Prefix, Send, sent_to, Entry, events_in, items_of, Image, sent_to-more, output, Served, origin, SessionEnd, Bounds, heeded, items_in, is_open, passed_in, Moment, OwesNothing, Stands, AreDue, AreLawful, Chapter, IsDueAt, IsDuePiece, Rules, Survivor, entries_of, from_there, place_of, HasPassedAll, IsAccount, IsBroken, Session, journal_of, Carries, Ending, Serving, ending_at, AreGiven, before_end}
use Rattle.session_history.proofs.Prompt.{prompt_none}
use Rattle.session_history.proofs.Heeding.{events_in-gave, items_in-gave}
use Rattle.session_history.proofs.Accounts.{carries_piece, carries_run}
use Rattle.session_history.proofs.Due.{are_due_then}
use Rattle.session_history.proofs.Sessions.{piece_due}

pub ending_none : (rules : Rules) (image : Image) (earlier : List Chapter) (survivor : Survivor) (since : List Entry) (at_end : Bool) → Serving rules image earlier survivor since → Ending rules image earlier survivor since [] at_end
ending_none rules image earlier survivor since at_end serving =
    let none : entries_of earlier ++ since ≡ entries_of earlier ++ (since ++ []) = ap (λ es. entries_of earlier ++ es) (sym (append-nil since)) in
    let items = ap (items_in rules.bounds) none in
    record {
      carries = subst (λ es. Carries rules image es survivor.plan survivor.now) none serving.carries;
      begins = subst (λ its. Served rules.limits its survivor.plan (origin image) survivor.begun) items serving.begins;
      before = subst (λ its. AreLawful rules its [] earlier) items serving.before;
      due = subst (λ its. AreDue rules its survivor (place_of earlier [] false) since) items serving.due;
      last = prompt_none rules (items_in rules.bounds (entries_of earlier ++ (since ++ []))) survivor (place_of earlier since at_end);
    }

-- one more piece at the end
pub ending_piece : (rules : Rules) (image : Image) (earlier : List Chapter) (survivor : Survivor) (since ending : List Entry) (at_end : Bool) (conn : ℕ) (bytes : List ℕ) (gone : Bool) → Ending rules image earlier survivor since ending at_end
    → IsDueAt rules survivor.plan survivor.now (ending_at earlier (since ++ ending) at_end survivor.now.state.machine.taken) (entry.Gave conn bytes gone)
    → Ending rules image earlier survivor since (ending ++ entry.Gave conn bytes gone ∷ []) at_end
ending_piece rules image earlier survivor since ending at_end conn bytes gone was due =
    let entries : List Entry = entries_of earlier ++ (since ++ ending) in
    let items : List Item = items_in rules.bounds entries in
    let more : List Entry = entry.Gave conn bytes gone ∷ [] in
    let same : entries ++ more ≡ entries_of earlier ++ (since ++ (ending ++ more)) =
    append_assoc (entries_of earlier) (since ++ ending) more ∙ ap (λ es. entries_of earlier ++ es) (append_assoc since ending more) in
    let kept : items ≡ items_in rules.bounds (entries_of earlier ++ (since ++ (ending ++ more))) = sym (items_in-gave rules.bounds entries conn bytes gone) ∙ ap (items_in rules.bounds) same in
    record {
      carries =
          subst (λ es. Carries rules image es survivor.plan survivor.now) same
          (carries_piece rules image (ending_at earlier (since ++ ending) at_end survivor.now.state.machine.taken) conn bytes gone survivor.plan survivor.now was.carries
          (piece_due rules survivor.plan survivor.now (ending_at earlier (since ++ ending) at_end survivor.now.state.machine.taken) conn bytes gone due));
      begins = subst (λ its. Served rules.limits its survivor.plan (origin image) survivor.begun) kept was.begins;
      before = subst (λ its. AreLawful rules its [] earlier) kept was.before;
      due = subst (λ its. AreDue rules its survivor (place_of earlier [] false) since) kept was.due;
      last =
          subst (λ its. AreDue rules its (from_there survivor survivor.now) (place_of earlier since at_end) (ending ++ more)) kept
          (are_due_then rules items (from_there survivor survivor.now) (place_of earlier since at_end) ending (entry.Gave conn bytes gone) was.last (record { early = was.carries.taken; due = due }));
    }

-- the account of a session at its end
pub ending_account : (rules : Rules) (image : Image) (earlier : List Chapter) (survivor : Survivor) (since ending : List Entry) (came : Option SessionEnd) → Ending rules image earlier survivor since ending (is_some came)
    → IsAccount rules image (record { earlier = earlier; survivor = survivor; since = since; came = came; ending = ending; broken = [] })
ending_account rules image earlier survivor since ending came was =
    let none : entries_of earlier ++ (since ++ ending) ≡ entries_of earlier ++ (since ++ (ending ++ [])) = ap (λ es. entries_of earlier ++ (since ++ es)) (sym (append-nil ending)) in
    let items = ap (items_in rules.bounds) none in
    let carries : Carries rules image (entries_of earlier ++ (since ++ (ending ++ []))) survivor.plan survivor.now = subst (λ es. Carries rules image es survivor.plan survivor.now) none was.carries in
    record {
      ran = carries_run rules image (entries_of earlier ++ (since ++ (ending ++ []))) survivor.plan survivor.now carries;
      served = carries.served;
      begins = subst (λ its. Served rules.limits its survivor.plan (origin image) survivor.begun) items was.begins;
      taken = carries.taken;
      passed = carries.covers;
      feasible = carries.feasible;
      ordered = carries.ordered;
      earlier = subst (λ its. AreLawful rules its [] earlier) items was.before;
      since = subst (λ its. AreDue rules its survivor (place_of earlier [] false) since) items was.due;
      ending = subst (λ its. AreDue rules its (from_there survivor survivor.now) (place_of earlier since (is_some came)) ending) items was.last;
      broken = tt;
    }

-- and of one whose last piece was broken off
pub broken_account : (rules : Rules) (image : Image) (earlier : List Chapter) (survivor : Survivor) (since ending : List Entry) (came : Option SessionEnd) (conn : ℕ) (bytes : List ℕ) → Ending rules image earlier survivor since ending (is_some came)
    → IsDuePiece rules survivor.now.state.sends (ending_at earlier (since ++ ending) (is_some came) survivor.now.state.machine.taken) conn bytes
    → IsAccount rules image (record { earlier = earlier; survivor = survivor; since = since; came = came; ending = ending; broken = entry.Gave conn bytes false ∷ [] })
broken_account rules image earlier survivor since ending came conn bytes was due =
    let entries : List Entry = entries_of earlier ++ (since ++ ending) in
    let items : List Item = items_in rules.bounds entries in
    let more : List Entry = entry.Gave conn bytes false ∷ [] in
    let same : entries ++ more ≡ entries_of earlier ++ (since ++ (ending ++ more)) =
    append_assoc (entries_of earlier) (since ++ ending) more ∙ ap (λ es. entries_of earlier ++ es) (append_assoc since ending more) in
    let kept : items ≡ items_in rules.bounds (entries_of earlier ++ (since ++ (ending ++ more))) = sym (items_in-gave rules.bounds entries conn bytes false) ∙ ap (items_in rules.bounds) same in
    let carries : Carries rules image (entries_of earlier ++ (since ++ (ending ++ more))) survivor.plan survivor.now =
    subst (λ es. Carries rules image es survivor.plan survivor.now) same
    (carries_piece rules image (ending_at earlier (since ++ ending) (is_some came) survivor.now.state.machine.taken) conn bytes false survivor.plan survivor.now was.carries due) in
    record {
      ran = carries_run rules image (entries_of earlier ++ (since ++ (ending ++ more))) survivor.plan survivor.now carries;
      served = carries.served;
      begins = subst (λ its. Served rules.limits its survivor.plan (origin image) survivor.begun) kept was.begins;
      taken = carries.taken;
      passed = carries.covers;
      feasible = carries.feasible;
      ordered = carries.ordered;
      earlier = subst (λ its. AreLawful rules its [] earlier) kept was.before;
      since = subst (λ its. AreDue rules its survivor (place_of earlier [] false) since) kept was.due;
      ending = subst (λ its. AreDue rules its (from_there survivor survivor.now) (place_of earlier since (is_some came)) ending) kept was.last;
      broken = due;
    }

-- two fronts of one another are one
pub fronts_same : {X : Type 0} (xs ys : List X) → Prefix xs ys → Prefix ys xs → xs ≡ ys
fronts_same xs ys one other = of one.0 one.1 (omega (arith, ap length one.1, ap length other.1, length-append xs one.0, length-append ys other.0))
  where
    of : (rest : List _) → xs ++ rest ≡ ys → length rest ≡ 0 → xs ≡ ys
    of [] is none = sym (append-nil xs) ∙ is
    of (x ∷ rest) is none = absurd (omega (arith, none))

-- where each send to a connection was passed, all of them were
all_passed : (conn : ℕ) (sends front back : List Send) (passed : List ℕ) → sends ≡ front ++ back → ((send : Send) (stands : Stands sends send) → send.conn ≡ conn → Prefix (sent_to conn (stands.earlier ++ send ∷ [])) passed)
    → Prefix (sent_to conn front) passed → Prefix (sent_to conn sends) passed
all_passed conn sends front [] passed split each was = subst (λ s. Prefix (sent_to conn s) passed) (sym (split ∙ append-nil front)) was
all_passed conn sends front (send ∷ back) passed split each was =
    all_passed conn sends (front ++ send ∷ []) back passed (split ∙ sym (append_assoc front (send ∷ []) back)) each (of (eqb send.conn conn) refl)
  where
    of : (b : Bool) → eqb send.conn conn ≡ b → Prefix (sent_to conn (front ++ send ∷ [])) passed
    of true is = each send (record { earlier = front; later = back; split = split }) (eqb-true send.conn conn is)
    of false is = subst (λ bytes. Prefix bytes passed) (sym (sent_to-more conn front send ∙ ap (λ (b : Bool). sent_to conn front ++ cond b send.bytes []) is ∙ append-nil (sent_to conn front))) was

-- a session at its end that owes nothing has passed all that its connections still open are sent
pub passed_all : (rules : Rules) (image : Image) (session : Session) → ((conn : ℕ) → Prefix (sent_to conn (passed_in rules.bounds (journal_of session))) (output session.survivor.now.state conn))
    → OwesNothing rules.bounds rules.hold (record { start = entries_of session.earlier; since = session.since ++ (session.ending ++ session.broken); at_end = true; taken = session.survivor.now.state.machine.taken }) session.survivor.now.state.sends → HasPassedAll rules session
passed_all rules image session fronts owes conn is_opened =
    let sends : List Send = session.survivor.now.state.sends in
    let passed : List ℕ = sent_to conn (passed_in rules.bounds (journal_of session)) in
    fronts_same passed (sent_to conn sends) (fronts conn)
    (all_passed conn sends [] sends passed refl
    (λ send stands is.
    subst (λ c. Prefix (sent_to c (stands.earlier ++ send ∷ [])) (sent_to c (passed_in rules.bounds (journal_of session)))) is
    (owes send stands (inl (subst (λ c. is_open rules.bounds (journal_of session) c ≡ true) (sym is) is_opened, inr refl)))) (passed, refl))

-- pieces bring no event
pub events_in-given : (before more : List Entry) → AreGiven more → events_in (before ++ more) ≡ events_in before
events_in-given before [] given = ap events_in (append-nil before)
events_in-given before (entry.Gave conn bytes gone ∷ more) given =
    ap events_in (sym (append_assoc before (entry.Gave conn bytes gone ∷ []) more)) ∙ (events_in-given (before ++ entry.Gave conn bytes gone ∷ []) more given ∙ events_in-gave before conn bytes gone)
events_in-given before (entry.Took event ∷ more) given = absurd given

-- a piece that was broken off is one
pub given_broken : (rules : Rules) (sends : List Send) (moment : Moment) (broken : List Entry) → IsBroken rules sends moment broken → AreGiven broken
given_broken rules sends moment [] part = tt
given_broken rules sends moment (entry.Gave conn bytes false ∷ []) part = tt
given_broken rules sends moment (entry.Gave conn bytes true ∷ []) part = absurd part
given_broken rules sends moment (entry.Gave conn bytes false ∷ next ∷ rest) part = absurd part
given_broken rules sends moment (entry.Gave conn bytes true ∷ next ∷ rest) part = absurd part
given_broken rules sends moment (entry.Took event ∷ rest) part = absurd part

-- a session that passes pieces alone at its end has received all of its items before
pub received_at_end : (bounds : Bounds) (session : Session) → AreGiven session.ending → AreGiven session.broken → items_in bounds (journal_of session) ≡ items_in bounds (before_end session)
received_at_end bounds session ending broken =
    let before : List Entry = before_end session in
    let whole : journal_of session ≡ (before ++ session.ending) ++ session.broken =
    sym (append_assoc (entries_of session.earlier) session.since (session.ending ++ session.broken)) ∙ sym (append_assoc before session.ending session.broken) in
    ap (λ es. items_of bounds.framing (heeded bounds (bounds.before.events ++ es)))
    (ap events_in whole ∙ (events_in-given (before ++ session.ending) session.broken broken ∙ events_in-given before session.ending ending))
