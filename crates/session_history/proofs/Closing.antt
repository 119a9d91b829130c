-- The items of a journal's front, and what a close in it makes of what comes behind.
use Rattle.links.specs.declared.journal.Entry.TheVariants as entry
use Rattle.links.specs.declared.journal.LinkEvent.TheVariants as event
use Rattle.session_history.proofs.Terms.{Bool, List, [], ap, append-nil, append_assoc, arith, eqb, false, inl, inr, length, length-append, refl, subst, sym, take, true, ℕ, ◌++◌, ◌+◌, ◌∙◌, ◌∷◌, ◌≡◌, ◌≢◌, ◌≤◌, cases_Bool, eq-eqb, eqb-true, or_from, or_left, or_right, take-append-le, is_none, ◌||◌, Item, Prefix, Send, Entry, LinkEvent, events_in, CLOSED, none_open, bare_item, heard, items_of, may, no_connections, Bounds, events_of, heeded, items_in, received, closes, opens, AreBetween, OpensOnce}
use Rattle.session_history.proofs.Connected.{after_items, IsSent, AreSent}
use Rattle.session_history.proofs.Heeding.{events_of-append}
use Rattle.session_history.proofs.Heeded.{heeded_front, heeded_grows, heeded_then, heeded_heard}
use Rattle.session_history.proofs.Opening.{all_open_any, none_open_again, items_behind, close_item, closed_behind, opened_before}

-- the events that are heeded of a journal's front are the first ones
pub heeded_longer : (bounds : Bounds) (entries more : List Entry) → Prefix (heeded bounds (events_of bounds entries)) (heeded bounds (events_of bounds (entries ++ more)))
heeded_longer bounds entries more =
    subst (λ es. Prefix (heeded bounds (events_of bounds entries)) (heeded bounds es)) (sym (events_of-append bounds entries more)) (heeded_grows bounds [] (events_of bounds entries) (events_in more))

-- and so are its items
pub items_longer : (bounds : Bounds) (entries more : List Entry) → Prefix (items_in bounds entries) (items_in bounds (entries ++ more))
items_longer bounds entries more =
    let front = heeded_longer bounds entries more in
    let behind = items_behind (λ c. Unit {0}) bounds.framing none_open (heeded bounds (events_of bounds entries)) front.0 (all_open_any (λ c. Unit {0}) (λ c. tt) front.0) in
    (behind.later, sym behind.split ∙ ap (items_of bounds.framing) front.1)

pub received_longer : (bounds : Bounds) (entries more : List Entry) → received bounds entries ≤ received bounds (entries ++ more)
received_longer bounds entries more =
    let front = items_longer bounds entries more in
    omega (arith, ap length front.1, length-append (items_in bounds entries) front.0)

-- a send in time goes to a connection that was opened
pub opened_in_time : (bounds : Bounds) (entries more : List Entry) (send : Send) → IsSent (items_in bounds (entries ++ more)) send → send.taken ≤ received bounds entries → opens send.conn (heeded bounds (events_of bounds entries)) ≡ true
opened_in_time bounds entries more send sent early =
    let front = items_longer bounds entries more in
    let same : take send.taken (items_in bounds (entries ++ more)) ≡ take send.taken (items_in bounds entries) =
    ap (take send.taken) (sym front.1) ∙ take-append-le send.taken (items_in bounds entries) front.0 early in
    opened_before bounds.framing (heeded bounds (events_of bounds entries)) send.conn send.taken (ap (λ its. may (after_items its no_connections) send.conn) (sym same) ∙ sent.open_then)

-- one more event that closes, or doesn't
pub closes-append : (conn : ℕ) (events more : List LinkEvent) → closes conn (events ++ more) ≡ (closes conn events || closes conn more)
closes-append conn [] more = refl
closes-append conn (event.Opens c ∷ events) more = closes-append conn events more
closes-append conn (event.Piece c bytes ∷ events) more = closes-append conn events more
closes-append conn (event.Closes c ∷ events) more = ap (λ b. eqb c conn || b) (closes-append conn events more) ∙ or_assoc (eqb c conn) (closes conn events) (closes conn more)
  where
    or_assoc : (a b c : Bool) → (a || (b || c)) ≡ ((a || b) || c)
    or_assoc true b c = refl
    or_assoc false b c = refl
closes-append conn (event.Settles ∷ events) more = closes-append conn events more
closes-append conn (event.Ends ∷ events) more = closes-append conn events more

-- behind a close that is heeded, a run sends nothing to its connection
pub closed_for : (bounds : Bounds) (entries more : List Entry) (conn : ℕ) (send : Send) → OpensOnce (events_of bounds (entries ++ entry.Took (event.Closes conn) ∷ more))
    → heeded bounds (events_of bounds (entries ++ entry.Took (event.Closes conn) ∷ [])) ≡ heeded bounds (events_of bounds entries) ++ event.Closes conn ∷ []
    → IsSent (items_in bounds (entries ++ entry.Took (event.Closes conn) ∷ more)) send → received bounds entries + 1 ≤ send.taken → send.conn ≢ conn
closed_for bounds entries more conn send once more_heeded sent late to =
    let whole : List Entry = entries ++ entry.Took (event.Closes conn) ∷ more in
    let here : List Entry = entries ++ entry.Took (event.Closes conn) ∷ [] in
    let same : here ++ more ≡ whole = append_assoc entries (entry.Took (event.Closes conn) ∷ []) more in
    let before : List LinkEvent = heeded bounds (events_of bounds entries) in
    let front : Prefix (heeded bounds (events_of bounds here)) (heeded bounds (events_of bounds whole)) = subst (λ es. Prefix (heeded bounds (events_of bounds here)) (heeded bounds (events_of bounds es))) same (heeded_longer bounds here more) in
    let left = heeded_front bounds [] (events_of bounds whole) in
    let closed : closes conn (heeded bounds (events_of bounds here)) ≡ true =
    ap (closes conn) more_heeded ∙ closes_last conn before in
    let split : events_of bounds whole ≡ heeded bounds (events_of bounds here) ++ (front.0 ++ left.0) =
    sym left.1 ∙ ap (λ es. es ++ left.0) (sym front.1) ∙ append_assoc (heeded bounds (events_of bounds here)) front.0 left.0 in
    let behind = items_behind (λ c. c ≢ conn) bounds.framing none_open (heeded bounds (events_of bounds here)) front.0 (none_open_again (events_of bounds whole) (heeded bounds (events_of bounds here)) front.0 left.0 conn once split closed) in
    let item : items_in bounds here ≡ items_in bounds entries ++ bare_item CLOSED conn ∷ [] =
    ap (items_of bounds.framing) more_heeded
    ∙ close_item bounds.framing before conn (heeded_heard bounds (events_of bounds entries)) (ap (λ es. is_none (heard bounds.framing es)) (sym more_heeded) ∙ heeded_heard bounds (events_of bounds here)) in
    let items : items_in bounds whole ≡ (items_in bounds entries ++ bare_item CLOSED conn ∷ []) ++ behind.later =
    ap (items_of bounds.framing) (sym front.1) ∙ behind.split ∙ ap (λ its. its ++ behind.later) item in
    closed_behind (items_in bounds entries) behind.later conn send.taken behind.opens late
    (ap (λ its. may (after_items (take send.taken its) no_connections) conn) (sym items) ∙ subst (λ c. may (after_items (take send.taken (items_in bounds whole)) no_connections) c ≡ true) to sent.open_then)
  where
    closes_last : (conn : ℕ) (events : List LinkEvent) → closes conn (events ++ event.Closes conn ∷ []) ≡ true
    closes_last conn events = closes-append conn events (event.Closes conn ∷ []) ∙ or_right (closes conn events) (eqb conn conn || false) (or_left (eqb conn conn) false (eq-eqb conn conn refl))

-- none of some sends goes to a connection that some events close
abbrev pub AreUnclosed : List LinkEvent → List Send → Type 0
AreUnclosed events [] = Unit {0}
AreUnclosed events (send ∷ sends) = (closes send.conn events ≡ false) × AreUnclosed events sends

pub unclosed_behind : (events : List LinkEvent) (sends more : List Send) → AreUnclosed events (sends ++ more) → AreUnclosed events more
unclosed_behind events [] more are = are
unclosed_behind events (send ∷ sends) more are = unclosed_behind events sends more are.1

pub unclosed_nothing : (sends : List Send) → AreUnclosed [] sends
unclosed_nothing [] = tt
unclosed_nothing (send ∷ sends) = (refl, unclosed_nothing sends)

-- one more event that closes none of them
unclosed_last : (events : List LinkEvent) (last : LinkEvent) (low high : ℕ) (items : List Item) (sends : List Send)
    → ((send : Send) → IsSent items send → low ≤ send.taken → closes send.conn (last ∷ []) ≡ false) → AreSent items sends → AreBetween low high sends → AreUnclosed events sends → AreUnclosed (events ++ last ∷ []) sends
unclosed_last events last low high items [] each sent between are = tt
unclosed_last events last low high items (send ∷ sends) each sent between are = (
  closes-append send.conn events (last ∷ []) ∙ or_from (closes send.conn events) (closes send.conn (last ∷ [])) are.0 (each send sent.0 between.0),
  unclosed_last events last low high items sends each sent.1 between.2 are.1,
)

-- an event that closes no connection
other_then : (bounds : Bounds) (entries : List Entry) (event : LinkEvent) (more : List Entry) (high : ℕ) (sends : List Send) → ((conn : ℕ) → closes conn (event ∷ []) ≡ false)
    → events_of bounds (entries ++ entry.Took event ∷ []) ≡ events_of bounds entries ++ event ∷ []
    → AreSent (items_in bounds (entries ++ entry.Took event ∷ more)) sends → AreBetween (received bounds entries + 1) high sends → AreUnclosed (heeded bounds (events_of bounds entries)) sends
    → AreUnclosed (heeded bounds (events_of bounds (entries ++ entry.Took event ∷ []))) sends
other_then bounds entries event more high sends no_close events sent between are =
    elim (heeded_then bounds [] (events_of bounds entries) event) [
      | inl same ↦ subst (λ es. AreUnclosed es sends) (sym (ap (heeded bounds) events ∙ same)) are
      | inr grown ↦
          subst (λ es. AreUnclosed es sends) (sym (ap (heeded bounds) events ∙ grown))
          (unclosed_last (heeded bounds (events_of bounds entries)) event (received bounds entries + 1) high (items_in bounds (entries ++ entry.Took event ∷ more)) sends (λ send is late. no_close send.conn) sent between are)
    ]

-- one more entry, an event
pub unclosed_then : (bounds : Bounds) (entries : List Entry) (event : LinkEvent) (more : List Entry) (high : ℕ) (sends : List Send) → OpensOnce (events_of bounds (entries ++ entry.Took event ∷ more))
    → AreSent (items_in bounds (entries ++ entry.Took event ∷ more)) sends → AreBetween (received bounds entries + 1) high sends → AreUnclosed (heeded bounds (events_of bounds entries)) sends
    → AreUnclosed (heeded bounds (events_of bounds (entries ++ entry.Took event ∷ []))) sends
unclosed_then bounds entries (event.Closes conn) more high sends once sent between are =
    let last : List Entry = entry.Took (event.Closes conn) ∷ [] in
    let events : events_of bounds (entries ++ last) ≡ events_of bounds entries ++ event.Closes conn ∷ [] = events_of-append bounds entries last in
    elim (heeded_then bounds [] (events_of bounds entries) (event.Closes conn)) [
      | inl same ↦ subst (λ es. AreUnclosed es sends) (sym (ap (heeded bounds) events ∙ same)) are
      | inr grown ↦
          let now : heeded bounds (events_of bounds (entries ++ last)) ≡ heeded bounds (events_of bounds entries) ++ event.Closes conn ∷ [] = ap (heeded bounds) events ∙ grown in
          subst (λ es. AreUnclosed es sends) (sym now)
          (unclosed_last (heeded bounds (events_of bounds entries)) (event.Closes conn) (received bounds entries + 1) high (items_in bounds (entries ++ entry.Took (event.Closes conn) ∷ more)) sends
          (λ send is late. elim (cases_Bool (eqb conn send.conn)) [
            | inl here ↦ absurd (closed_for bounds entries more conn send once now is late (sym (eqb-true conn send.conn here)))
            | inr apart ↦ or_from (eqb conn send.conn) false apart refl
          ]) sent between are)
    ]
unclosed_then bounds entries (event.Opens conn) more high sends once sent between are = other_then bounds entries (event.Opens conn) more high sends (λ c. refl) (events_of-append bounds entries (entry.Took (event.Opens conn) ∷ [])) sent between are
unclosed_then bounds entries (event.Piece conn bytes) more high sends once sent between are = other_then bounds entries (event.Piece conn bytes) more high sends (λ c. refl) (events_of-append bounds entries (entry.Took (event.Piece conn bytes) ∷ [])) sent between are
unclosed_then bounds entries event.Settles more high sends once sent between are = other_then bounds entries event.Settles more high sends (λ c. refl) (events_of-append bounds entries (entry.Took event.Settles ∷ [])) sent between are
unclosed_then bounds entries event.Ends more high sends once sent between are =
    subst (λ es. AreUnclosed (heeded bounds es) sends) (sym (events_of-append bounds entries (entry.Took event.Ends ∷ []) ∙ append-nil (events_of bounds entries))) are
