-- The walk over a session's entries, up to its end: what is sent is passed.
use Rattle.links.specs.declared.journal.Entry.TheVariants as entry
use Rattle.session_history.proofs.Terms.{Bool, List, Option, [], ap, append-nil, append_assoc, arith, false, inl, inr, length, map, refl, subst, sym, true, ◌++◌, ◌∙◌, ◌∷◌, ◌≡◌, ◌≤◌, both_ways, is_some, Item, Send, Entry, Grew, events_in, pieces_in, items_of, Image, start, start_machine, origin, SessionEnd, heeded, heeded_behind, items_in, nothing_before, received, AreBetween, OwesNothing, IsDue, Rules, Survivor, Session, journal_of, OpensOnce, PassesAtOnce, SentIsPassed, ServedIsPassed, piece_of}
use Rattle.session_history.proofs.Heeding.{none_had, events_alone}
use Rattle.session_history.proofs.Paths.{served_same}
use Rattle.session_history.proofs.Due.{EachDue, due_ran, each_due}
use Rattle.session_history.proofs.Ended.{at_its_end}
use Rattle.session_history.proofs.Endings.{events_in-given}
use Rattle.session_history.proofs.Passing.{timed_on}
use Rattle.session_history.proofs.Asked.{served_grows}
use Rattle.session_history.proofs.Connected.{run_connected}
use Rattle.session_history.proofs.Fronts.{between_here, gone_here}
use Rattle.session_history.proofs.Closing.{received_longer, AreUnclosed, unclosed_nothing}
use Rattle.session_history.proofs.Pieces.{place_behind, seen_at, Knows, Walked, next_owed, step_event, step_whole}

-- one more entry
step : (rules : Rules) (image : Image) (survivor : Survivor) (entries : List Entry) (e : Entry) (more : List Entry) (at_end : Bool) → Knows rules image survivor (entries ++ e ∷ more)
    → (at_end ≡ true → received rules.bounds (entries ++ e ∷ more) ≤ received rules.bounds entries)
    → IsDue rules (items_in rules.bounds (entries ++ e ∷ more)) survivor (place_behind entries at_end) e → Walked rules.bounds entries survivor.now.state.sends → Walked rules.bounds (entries ++ e ∷ []) survivor.now.state.sends
step rules image survivor entries (entry.Took event) more at_end knows all due walked = step_event rules image survivor entries event more at_end knows due walked
step rules image survivor entries (entry.Gave conn bytes true) more at_end knows all due walked =
    absurd (both_ways _ (knows.none_gone conn) (gone_here conn bytes entries more))
step rules image survivor entries (entry.Gave conn bytes false) more at_end knows all due walked =
    let grows = served_grows rules.limits (items_in rules.bounds (entries ++ entry.Gave conn bytes false ∷ more)) survivor.plan due.way.path survivor.now due.way.on in
    step_whole rules image survivor entries conn bytes more at_end due.way.path.state.machine.taken due.way.path.state.sends grows.more knows walked due.due due.early grows.sends all

-- some entries, one after another
walk : (rules : Rules) (image : Image) (survivor : Survivor) (whole entries todo more : List Entry) (at_end : Bool) → Knows rules image survivor whole → whole ≡ entries ++ (todo ++ more)
    → (at_end ≡ true → received rules.bounds whole ≤ received rules.bounds entries)
    → EachDue rules (items_in rules.bounds whole) survivor (place_behind entries at_end) todo → Walked rules.bounds entries survivor.now.state.sends → Walked rules.bounds (entries ++ todo) survivor.now.state.sends
walk rules image survivor whole entries [] more at_end knows is all due walked = subst (λ es. Walked rules.bounds es survivor.now.state.sends) (sym (append-nil entries)) walked
walk rules image survivor whole entries (e ∷ todo) more at_end knows is all due walked =
    let next : Walked rules.bounds (entries ++ e ∷ []) survivor.now.state.sends =
    step rules image survivor entries e (todo ++ more) at_end (subst (Knows rules image survivor) is knows)
    (λ ended. subst (λ es. received rules.bounds es ≤ received rules.bounds entries) is (all ended))
    (subst (λ es. IsDue rules (items_in rules.bounds es) survivor (place_behind entries at_end) e) is due.0) walked in
    subst (λ es. Walked rules.bounds es survivor.now.state.sends) (append_assoc entries (e ∷ []) todo)
    (walk rules image survivor whole (entries ++ e ∷ []) todo more at_end knows (is ∙ sym (append_assoc entries (e ∷ []) (todo ++ more)))
    (λ ended. let longer = received_longer rules.bounds entries (e ∷ []) in omega (arith, all ended, longer)) due.1 next)

-- nothing was passed yet
walked_nothing : (rules : Rules) (survivor : Survivor) → rules.bounds.before ≡ nothing_before → Walked rules.bounds [] survivor.now.state.sends
unfolding heeded_behind
walked_nothing rules survivor alone = record {
  front = [];
  rest = survivor.now.state.sends;
  split = refl;
  pieces = refl;
  unclosed = subst (λ es. AreUnclosed (heeded rules.bounds es) survivor.now.state.sends) (sym (events_alone rules.bounds [] alone)) (unclosed_nothing survivor.now.state.sends);
}

-- what an account says to the walk
knows_all : (rules : Rules) (image : Image) (session : Session) → PassesAtOnce rules image session → Knows rules image session.survivor (journal_of session)
unfolding start start_machine
knows_all rules image session has =
    let items : List Item = items_in rules.bounds (journal_of session) in
    let connected = run_connected image items session.survivor.now.choices session.survivor.now.steps session.survivor.now.state has.account.ran in
    record {
      none_had = none_had rules.bounds has.alone;
      begins = has.account.begins;
      ordered = connected.ordered;
      timed = timed_on (origin image).state session.survivor.now.state (served_grows rules.limits items session.survivor.plan (origin image) session.survivor.now has.account.served) tt;
      taken = has.account.taken;
      sent = connected.sent;
      holds_nothing = has.holds_nothing;
      none_gone = has.none_gone;
      opens_once = subst OpensOnce (sym (events_alone rules.bounds (journal_of session) has.alone)) has.opens_once;
    }

-- at the end no send is left
none_left : (rules : Rules) (image : Image) (survivor : Survivor) (entries : List Entry) → Knows rules image survivor (entries ++ []) → (walked : Walked rules.bounds entries survivor.now.state.sends)
    → OwesNothing rules.bounds rules.hold (seen_at entries true survivor.now.state.machine.taken) survivor.now.state.sends → (rest : List Send) → walked.rest ≡ rest → survivor.now.state.sends ≡ walked.front
none_left rules image survivor entries knows walked owes [] is = walked.split ∙ ap (λ rest. walked.front ++ rest) is ∙ append-nil walked.front
none_left rules image survivor entries knows walked owes (other ∷ rest) is =
    let split : survivor.now.state.sends ≡ walked.front ++ other ∷ rest = walked.split ∙ ap (λ sends. walked.front ++ sends) is in
    let low = between_here 0 survivor.now.state.machine.taken walked.front other rest (subst (AreBetween 0 survivor.now.state.machine.taken) split knows.timed) in
    let same = ap (received rules.bounds) (append-nil entries) in
    absurd
    (next_owed rules image survivor entries [] true survivor.now.state.machine.taken survivor.now.state.sends other rest rest knows walked is split (omega (arith, low.1, knows.taken, same)) (λ opened. inl (opened, inr refl))
    (λ stands at_front owed. owes other stands owed))

-- a session of one survivor, of which no piece was broken off
alone_passed : (rules : Rules) (image : Image) (survivor : Survivor) (since : List Entry) (came : Option SessionEnd) (ending : List Entry) → PassesAtOnce rules image (record { earlier = []; survivor = survivor; since = since; came = came; ending = ending; broken = [] })
    → pieces_in (since ++ (ending ++ [])) ≡ map piece_of survivor.now.state.sends
alone_passed rules image survivor since came ending has =
    let session : Session = record { earlier = []; survivor = survivor; since = since; came = came; ending = ending; broken = [] } in
    let whole : List Entry = since ++ (ending ++ []) in
    let items : List Item = items_in rules.bounds whole in
    let knows : Knows rules image survivor whole = knows_all rules image session has in
    let first : Walked rules.bounds since survivor.now.state.sends =
    walk rules image survivor whole [] since (ending ++ []) false knows refl (λ never. absurd (cc))
    (each_due rules items survivor survivor.begun (place_behind [] false) since (served_same rules.limits items survivor.plan survivor.begun) has.account.since) (walked_nothing rules survivor has.alone) in
    let same : events_in whole ≡ events_in since = ap (λ es. events_in (since ++ es)) (append-nil ending) ∙ events_in-given since ending has.given in
    let count : received rules.bounds whole ≡ received rules.bounds since = ap (λ es. length (items_of rules.bounds.framing (heeded rules.bounds (rules.bounds.before.events ++ es)))) same in
    let walked : Walked rules.bounds (since ++ ending) survivor.now.state.sends =
    walk rules image survivor whole since ending [] (is_some came) knows refl (λ ended. omega (arith, count))
    (each_due rules items survivor survivor.now (place_behind since (is_some came)) ending (due_ran rules items survivor (place_behind [] false) since has.account.since) has.account.ending) first in
    let none : survivor.now.state.sends ≡ walked.front =
    none_left rules image survivor (since ++ ending) (subst (Knows rules image survivor) (sym (append_assoc since ending [])) knows) walked has.owes_nothing walked.rest refl in
    ap (λ es. pieces_in (since ++ es)) (append-nil ending) ∙ walked.pieces ∙ ap (map piece_of) (sym none)

pub sent_is_passed : SentIsPassed
sent_is_passed rules image session has =
    let plain : Session = record { earlier = []; survivor = session.survivor; since = session.since; came = session.came; ending = session.ending; broken = [] } in
    let same : session ≡ plain = ap (λ earlier. record session { earlier = earlier }) has.first ∙ ap (λ broken. record session { earlier = []; broken = broken }) has.unbroken in
    ap (λ (s : Session). pieces_in (journal_of s)) same
    ∙ alone_passed rules image session.survivor session.since session.came session.ending (subst (PassesAtOnce rules image) same has)

pub served_is_passed : ServedIsPassed
served_is_passed rules image began seen session end is shows alone first holds_nothing none_gone opens_once =
    let ends = at_its_end rules session end is.ends in
    let passed = sent_is_passed rules image session (record {
      account = is.account;
      alone = alone;
      first = first;
      given = is.pieces;
      unbroken = ends.unbroken;
      owes_nothing = ends.owes_nothing;
      holds_nothing = holds_nothing;
      none_gone = none_gone;
      opens_once = opens_once;
    }) in
    (passed, subst (Grew began.told.pieces seen.told.pieces) passed shows.tells.pieces)
