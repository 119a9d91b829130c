-- The pieces of a session that holds nothing back are the sends of its run.
use Rattle.links.specs.declared.journal.Entry.TheVariants as entry
use Rattle.links.specs.declared.journal.LinkEvent.TheVariants as event
use Rattle.session_history.proofs.Terms.{Bool, List, None, Option, Some, [], ap, append-nil, append_assoc, arith, false, inl, inr, length, length-append, map, refl, subst, sym, true, ℕ, ◌++◌, ◌+◌, ◌∙◌, ◌∷◌, ◌≡◌, ◌≤◌, and_right, both_ways, append_cancel_left, map-append, nil_from_length, none-some, same_Some, option_map, unwrap_or, Item, Prefix, Send, sent_to, Entry, LinkEvent, pieces_in-append, pieces_in, sent_then, Image, prefix_sent, start, start_machine, Path, Served, origin, Bounds, events_of, heeded, items_in, received, closes, is_gone, is_open, AreBetween, AreInOrder, passed_in, IsDueBy, IsMadeDue, IsOwed, IsPassed, Latest, Moment, Place, Stands, behind, latest, moment_at, IsDue, IsDueEvent, IsDuePiece, IsWholePiece, Rules, Survivor, is_closed_by, is_closing, OpensOnce, piece_of}
use Rattle.session_history.proofs.Heeding.{events_of-gave}
use Rattle.session_history.proofs.Passing.{timed_on}
use Rattle.session_history.proofs.Paths.{served_on}
use Rattle.session_history.proofs.Connected.{IsSent, AreSent, are_sent-behind}
use Rattle.session_history.proofs.Asked.{served_grows, sends_later}
use Rattle.session_history.proofs.Fronts.{two_splits, between_behind, between_here, later_taken, front_bytes, never_passed, gone_front, and_three}
use Rattle.session_history.proofs.Closing.{received_longer, opened_in_time, AreUnclosed, unclosed_behind, unclosed_then}

-- the entries before the last event are the first ones
behind_front : (first : Entry) (entries : List Entry) (found : Option Latest) (last : Latest) → ((l : Latest) → found ≡ Some l → Prefix l.before entries) → option_map (behind first) found ≡ Some last → Prefix last.before (first ∷ entries)
behind_front first entries None last front is = absurd (none-some last is)
behind_front first entries (Some l) last front is =
    let before = front l refl in
    subst (λ (x : Latest). Prefix x.before (first ∷ entries)) (same_Some (behind first l) last is) (before.0, ap (λ es. first ∷ es) before.1)

event_front : (e : LinkEvent) (entries : List Entry) (found : Option Latest) (last : Latest) → ((l : Latest) → found ≡ Some l → Prefix l.before entries)
    → Some (unwrap_or (option_map (behind (entry.Took e)) found) (record { before = []; event = e })) ≡ Some last → Prefix last.before (entry.Took e ∷ entries)
event_front e entries None last front is =
    subst (λ (x : Latest). Prefix x.before (entry.Took e ∷ entries)) (same_Some _ last is) (entry.Took e ∷ entries, refl)
event_front e entries (Some l) last front is = behind_front (entry.Took e) entries (Some l) last front is

latest_front : (entries : List Entry) (last : Latest) → latest entries ≡ Some last → Prefix last.before entries
latest_front [] last is = absurd (none-some last is)
latest_front (entry.Gave conn bytes gone ∷ entries) last is = behind_front (entry.Gave conn bytes gone) entries (latest entries) last (λ l h. latest_front entries l h) is
latest_front (entry.Took event.Ends ∷ entries) last is = behind_front (entry.Took event.Ends) entries (latest entries) last (λ l h. latest_front entries l h) is
latest_front (entry.Took (event.Opens conn) ∷ entries) last is = event_front (event.Opens conn) entries (latest entries) last (λ l h. latest_front entries l h) is
latest_front (entry.Took (event.Piece conn bytes) ∷ entries) last is = event_front (event.Piece conn bytes) entries (latest entries) last (λ l h. latest_front entries l h) is
latest_front (entry.Took (event.Closes conn) ∷ entries) last is = event_front (event.Closes conn) entries (latest entries) last (λ l h. latest_front entries l h) is
latest_front (entry.Took event.Settles ∷ entries) last is = event_front event.Settles entries (latest entries) last (λ l h. latest_front entries l h) is

-- the place of a session behind some entries, and where its survivor has taken so many items
abbrev pub place_behind : List Entry → Bool → Place
place_behind entries at_end = record { start = []; since = entries; at_end = at_end }

abbrev pub seen_at : List Entry → Bool → ℕ → Moment
seen_at entries at_end count = moment_at (place_behind entries at_end) count

-- what is owed to a connection that wasn't closed was sent in time
made_due_taken : (bounds : Bounds) (entries : List Entry) (at_end : Bool) (conn taken : ℕ) (event : LinkEvent) (before : ℕ) → closes conn (heeded bounds (events_of bounds entries)) ≡ false → IsMadeDue bounds (place_behind entries at_end) conn taken event before → taken ≤ before
made_due_taken bounds entries at_end conn taken event.Settles before unclosed due = due.1
made_due_taken bounds entries at_end conn taken (event.Closes closed) before unclosed due = due.3
made_due_taken bounds entries at_end conn taken (event.Opens c) before unclosed due = absurd due
made_due_taken bounds entries at_end conn taken (event.Piece c bytes) before unclosed due = absurd due
made_due_taken bounds entries at_end conn taken event.Ends before unclosed due = absurd due

due_taken : (bounds : Bounds) (entries : List Entry) (at_end : Bool) (conn taken : ℕ) (found : Option Latest) → latest entries ≡ found → closes conn (heeded bounds (events_of bounds entries)) ≡ false → IsDueBy bounds (place_behind entries at_end) conn taken found → taken ≤ received bounds entries
due_taken bounds entries at_end conn taken None is unclosed due = absurd due
due_taken bounds entries at_end conn taken (Some last) is unclosed due =
    let front = latest_front entries last is in
    omega (arith, made_due_taken bounds entries at_end conn taken last.event (received bounds last.before) unclosed due, received_longer bounds last.before front.0, ap (received bounds) front.1)

owed_taken : (bounds : Bounds) (hold : ℕ) (entries : List Entry) (at_end : Bool) (count : ℕ) (send : Send) → closes send.conn (heeded bounds (events_of bounds entries)) ≡ false → count ≤ received bounds entries → (at_end ≡ true → send.taken ≤ received bounds entries) → IsOwed bounds hold (seen_at entries at_end count) send → send.taken ≤ received bounds entries
owed_taken bounds hold entries at_end count send unclosed low all (inl (opened, inl early)) = omega (arith, early, low)
owed_taken bounds hold entries at_end count send unclosed low all (inl (opened, inr ended)) = all ended
owed_taken bounds hold entries at_end count send unclosed low all (inr due) = due_taken bounds entries at_end send.conn send.taken (latest entries) refl unclosed due

-- where one send is owed to a connection that wasn't closed, so is each one to an open connection that was made with no more items taken
made_due_too : (bounds : Bounds) (entries : List Entry) (at_end : Bool) (conn taken other fewer : ℕ) (event : LinkEvent) (before : ℕ) → closes conn (heeded bounds (events_of bounds entries)) ≡ false → is_open bounds entries other ≡ true → fewer ≤ taken
    → IsMadeDue bounds (place_behind entries at_end) conn taken event before → IsMadeDue bounds (place_behind entries at_end) other fewer event before
made_due_too bounds entries at_end conn taken other fewer event.Settles before unclosed opened low due = (opened, omega (arith, low, due.1))
made_due_too bounds entries at_end conn taken other fewer (event.Closes closed) before unclosed opened low due = absurd (both_ways _ unclosed due.1)
made_due_too bounds entries at_end conn taken other fewer (event.Opens c) before unclosed opened low due = due
made_due_too bounds entries at_end conn taken other fewer (event.Piece c bytes) before unclosed opened low due = due
made_due_too bounds entries at_end conn taken other fewer event.Ends before unclosed opened low due = due

due_too : (bounds : Bounds) (entries : List Entry) (at_end : Bool) (conn taken other fewer : ℕ) (found : Option Latest) → closes conn (heeded bounds (events_of bounds entries)) ≡ false → is_open bounds entries other ≡ true → fewer ≤ taken
    → IsDueBy bounds (place_behind entries at_end) conn taken found → IsDueBy bounds (place_behind entries at_end) other fewer found
due_too bounds entries at_end conn taken other fewer None unclosed opened low due = due
due_too bounds entries at_end conn taken other fewer (Some last) unclosed opened low due = made_due_too bounds entries at_end conn taken other fewer last.event (received bounds last.before) unclosed opened low due

owed_too : (bounds : Bounds) (hold : ℕ) (entries : List Entry) (at_end : Bool) (count : ℕ) (send other : Send) → closes send.conn (heeded bounds (events_of bounds entries)) ≡ false → is_open bounds entries other.conn ≡ true → other.taken ≤ send.taken
    → IsOwed bounds hold (seen_at entries at_end count) send → IsOwed bounds hold (seen_at entries at_end count) other
owed_too bounds hold entries at_end count send other unclosed opened low (inl (was, inl early)) = inl (opened, inl (omega (arith, early, low)))
owed_too bounds hold entries at_end count send other unclosed opened low (inl (was, inr ended)) = inl (opened, inr ended)
owed_too bounds hold entries at_end count send other unclosed opened low (inr due) =
    inr (due_too bounds entries at_end send.conn send.taken other.conn other.taken (latest entries) unclosed opened low due)

-- what the walk over a session's entries knows: its whole journal, and the sends of its run
pub record Knows (rules : Rules) (image : Image) (survivor : Survivor) (whole : List Entry) : Type 0 where
  pub none_had : rules.bounds.before.had ≡ []
  pub begins : Served rules.limits (items_in rules.bounds whole) survivor.plan (origin image) survivor.begun
  pub ordered : AreInOrder survivor.now.state.machine.taken survivor.now.state.sends
  pub timed : AreBetween 0 survivor.now.state.machine.taken survivor.now.state.sends
  pub taken : survivor.now.state.machine.taken ≤ received rules.bounds whole
  pub sent : AreSent (items_in rules.bounds whole) survivor.now.state.sends
  pub holds_nothing : rules.hold ≡ 0
  pub none_gone : (conn : ℕ) → is_gone conn whole ≡ false
  pub opens_once : OpensOnce (events_of rules.bounds whole)

-- The pieces so far are the first sends of the run, and none of the others goes to a connection that was closed.
pub record Walked (bounds : Bounds) (entries : List Entry) (sends : List Send) : Type 0 where
  pub front : List Send
  pub rest : List Send
  pub split : sends ≡ front ++ rest
  pub pieces : pieces_in entries ≡ map piece_of front
  pub unclosed : AreUnclosed (heeded bounds (events_of bounds entries)) rest

-- a send that wasn't passed yet goes to an open connection, if it is in time
still_open : (rules : Rules) (image : Image) (survivor : Survivor) (entries more : List Entry) (send : Send) → Knows rules image survivor (entries ++ more) → IsSent (items_in rules.bounds (entries ++ more)) send
    → closes send.conn (heeded rules.bounds (events_of rules.bounds entries)) ≡ false → send.taken ≤ received rules.bounds entries → is_open rules.bounds entries send.conn ≡ true
still_open rules image survivor entries more send knows sent unclosed early =
    and_three _ (closes send.conn (heeded rules.bounds (events_of rules.bounds entries))) (is_gone send.conn entries)
    (opened_in_time rules.bounds entries more send sent early) unclosed (gone_front send.conn entries more (knows.none_gone send.conn))

-- the sends that weren't passed yet
rest_sent : (rules : Rules) (image : Image) (survivor : Survivor) (entries whole : List Entry) → Knows rules image survivor whole → (walked : Walked rules.bounds entries survivor.now.state.sends) → AreSent (items_in rules.bounds whole) walked.rest
rest_sent rules image survivor entries whole knows walked = are_sent-behind (items_in rules.bounds whole) walked.front walked.rest (subst (AreSent (items_in rules.bounds whole)) walked.split knows.sent)

-- the next of them isn't owed where all that is owed was passed
pub next_owed : (rules : Rules) (image : Image) (survivor : Survivor) (entries more : List Entry) (at_end : Bool) (count : ℕ) (sends : List Send) (other : Send) (mid later : List Send) → Knows rules image survivor (entries ++ more)
    → (walked : Walked rules.bounds entries survivor.now.state.sends) → walked.rest ≡ other ∷ later → (split : sends ≡ walked.front ++ other ∷ mid) → other.taken ≤ received rules.bounds entries
    → (is_open rules.bounds entries other.conn ≡ true → IsOwed rules.bounds rules.hold (seen_at entries at_end count) other)
    → ((stands : Stands sends other) → stands.earlier ≡ walked.front → IsOwed rules.bounds rules.hold (seen_at entries at_end count) other → IsPassed rules.bounds entries sends other stands) → ⊥
next_owed rules image survivor entries more at_end count sends other mid later knows walked is split early owed passed =
    let sent = (subst (AreSent (items_in rules.bounds (entries ++ more))) is (rest_sent rules image survivor entries (entries ++ more) knows walked)).0 in
    never_passed walked.front other (sent_to other.conn (passed_in rules.bounds entries)) (front_bytes rules.bounds entries walked.front other.conn knows.none_had walked.pieces) sent.some
    (passed (record { earlier = walked.front; later = mid; split = split }) refl
    (owed (still_open rules image survivor entries more other knows sent ((subst (AreUnclosed (heeded rules.bounds (events_of rules.bounds entries))) is walked.unclosed).0) early)))

-- an event
pub step_event : (rules : Rules) (image : Image) (survivor : Survivor) (entries : List Entry) (event : LinkEvent) (more : List Entry) (at_end : Bool) → Knows rules image survivor (entries ++ entry.Took event ∷ more)
    → IsDue rules (items_in rules.bounds (entries ++ entry.Took event ∷ more)) survivor (place_behind entries at_end) (entry.Took event) → Walked rules.bounds entries survivor.now.state.sends → Walked rules.bounds (entries ++ entry.Took event ∷ []) survivor.now.state.sends
unfolding start start_machine
step_event rules image survivor entries event more at_end knows due walked =
    let whole : List Entry = entries ++ entry.Took event ∷ more in
    let items : List Item = items_in rules.bounds whole in
    let path : Path = due.way.path in
    let asked : IsDueEvent rules survivor.plan path (seen_at entries at_end path.state.machine.taken) = due.due in
    let later = sends_later rules.limits items survivor.plan path survivor.now (received rules.bounds entries) asked.asks due.way.on in
    let from = served_on rules.limits items survivor.plan (origin image) survivor.begun path knows.begins due.way.from in
    let timed : AreBetween 0 path.state.machine.taken path.state.sends = timed_on (origin image).state path.state (served_grows rules.limits items survivor.plan (origin image) path from) tt in
    elim (two_splits walked.front walked.rest path.state.sends later.more (sym walked.split ∙ later.sends)) [
      | inl found ↦ record {
        front = walked.front;
        rest = walked.rest;
        split = walked.split;
        pieces = pieces_in-append entries (entry.Took event ∷ []) ∙ append-nil (pieces_in entries) ∙ walked.pieces;
        unclosed =
            unclosed_then rules.bounds entries event more survivor.now.state.machine.taken walked.rest knows.opens_once (rest_sent rules image survivor entries whole knows walked)
            (between_behind (received rules.bounds entries + 1) survivor.now.state.machine.taken found.0 walked.rest (subst (AreBetween (received rules.bounds entries + 1) survivor.now.state.machine.taken) found.2 later.between)) walked.unclosed;
      }
      | inr found ↦
          let low = between_here 0 path.state.machine.taken walked.front found.0 found.1 (subst (AreBetween 0 path.state.machine.taken) found.2 timed) in
          absurd
          (next_owed rules image survivor entries (entry.Took event ∷ more) at_end path.state.machine.taken path.state.sends found.0 found.1 (found.1 ++ later.more) knows walked found.3 found.2 (omega (arith, low.1, asked.asks.taken))
          (λ opened. inl (opened, inl (omega (arith, low.1, knows.holds_nothing))))
          (λ stands is owed. asked.owes_nothing found.0 stands owed))
    ]

-- a piece: it is the next send, whole
module _ (rules : Rules) (image : Image) (survivor : Survivor) (entries : List Entry) (conn : ℕ) (bytes : List ℕ) (more : List Entry) (at_end : Bool) (count : ℕ) (sends beyond : List Send) where
  -- a send that is passed before another one
  not_between : Knows rules image survivor (entries ++ entry.Gave conn bytes false ∷ more) → (walked : Walked rules.bounds entries survivor.now.state.sends) (due : IsDuePiece rules sends (seen_at entries at_end count) conn bytes)
      → count ≤ received rules.bounds entries → survivor.now.state.sends ≡ sends ++ beyond → (at_end ≡ true → received rules.bounds (entries ++ entry.Gave conn bytes false ∷ more) ≤ received rules.bounds entries)
      → (other : Send) (mid : List Send) → due.stands.earlier ≡ walked.front ++ other ∷ mid → walked.rest ≡ (other ∷ mid) ++ (due.send ∷ (due.stands.later ++ beyond)) → ⊥
  not_between knows walked due low grown all other mid earlier rest =
      let whole : List Entry = entries ++ entry.Gave conn bytes false ∷ more in
      let behind : List Send = due.send ∷ (due.stands.later ++ beyond) in
      let events : List LinkEvent = heeded rules.bounds (events_of rules.bounds entries) in
      let unclosed : AreUnclosed events ((other ∷ mid) ++ behind) = subst (AreUnclosed events) rest walked.unclosed in
      let closed_not = (unclosed_behind events (other ∷ mid) behind unclosed).0 in
      let every : survivor.now.state.sends ≡ walked.front ++ other ∷ (mid ++ behind) = walked.split ∙ ap (λ sends. walked.front ++ sends) rest in
      let last = between_here 0 survivor.now.state.machine.taken (walked.front ++ other ∷ mid) due.send (due.stands.later ++ beyond)
      (subst (AreBetween 0 survivor.now.state.machine.taken) (every ∙ sym (append_assoc walked.front (other ∷ mid) behind)) knows.timed) in
      let early = owed_taken rules.bounds rules.hold entries at_end count due.send closed_not low (λ ended. omega (arith, all ended, knows.taken, last.1)) due.owed in
      let order = later_taken survivor.now.state.machine.taken walked.front other mid due.send (due.stands.later ++ beyond) (subst (AreInOrder survivor.now.state.machine.taken) every knows.ordered) in
      let split : sends ≡ walked.front ++ other ∷ (mid ++ due.send ∷ due.stands.later) =
      due.stands.split ∙ ap (λ front. front ++ due.send ∷ due.stands.later) earlier ∙ append_assoc walked.front (other ∷ mid) (due.send ∷ due.stands.later) in
      let send_not : is_closing rules.bounds (seen_at entries at_end count) due.send.conn ≡ false = and_right (is_closed_by (latest entries) due.send.conn) (closes due.send.conn events) closed_not in
      let long : length due.stands.earlier ≡ length walked.front + length (other ∷ mid) = ap length earlier ∙ length-append walked.front (other ∷ mid) in
      next_owed rules image survivor entries (entry.Gave conn bytes false ∷ more) at_end count sends other (mid ++ due.send ∷ due.stands.later) (mid ++ behind) knows walked rest split (omega (arith, order, early))
      (λ opened. owed_too rules.bounds rules.hold entries at_end count due.send other closed_not opened (omega (arith, order)) due.owed)
      (λ stands is owed. due.in_order other stands (inr ((and_right (is_closed_by (latest entries) other.conn) (closes other.conn events) unclosed.0) ∙ sym send_not, omega (arith, long, ap length is))) owed)

  -- a send that was passed
  not_before : rules.bounds.before.had ≡ [] → (walked : Walked rules.bounds entries survivor.now.state.sends) (piece : IsWholePiece rules sends (seen_at entries at_end count) conn bytes)
      → (mid : List Send) → walked.front ≡ piece.due.stands.earlier ++ piece.due.send ∷ mid → ⊥
  not_before none walked piece mid front =
      let due = piece.due in
      let done : List Send = due.stands.earlier ++ due.send ∷ [] in
      let bytes_are = front_bytes rules.bounds entries walked.front conn none walked.pieces in
      let begins : Prefix (sent_to conn done) (sent_to conn walked.front) = prefix_sent conn done walked.front (mid, append_assoc due.stands.earlier (due.send ∷ []) mid ∙ sym front) in
      let none : length bytes ≡ 0 =
      omega (arith, ap length piece.whole, length-append (sent_to conn (passed_in rules.bounds entries)) bytes, ap length bytes_are, ap length begins.1, length-append (sent_to conn done) begins.0) in
      due.left (sym (append-nil (sent_to conn (passed_in rules.bounds entries))) ∙ ap (λ l. sent_to conn (passed_in rules.bounds entries) ++ l) (sym (nil_from_length bytes none)) ∙ piece.whole)

  next_whole : rules.bounds.before.had ≡ [] → (walked : Walked rules.bounds entries survivor.now.state.sends) (piece : IsWholePiece rules sends (seen_at entries at_end count) conn bytes) → survivor.now.state.sends ≡ sends ++ beyond
      → piece.due.stands.earlier ≡ walked.front → walked.rest ≡ piece.due.send ∷ (piece.due.stands.later ++ beyond) → Walked rules.bounds (entries ++ entry.Gave conn bytes false ∷ []) survivor.now.state.sends
  next_whole none walked piece grown earlier rest =
      let due = piece.due in
      let bytes_are = front_bytes rules.bounds entries walked.front conn none walked.pieces in
      let own : bytes ≡ due.send.bytes =
      append_cancel_left (sent_to conn walked.front) bytes due.send.bytes
      (ap (λ front. front ++ bytes) (sym bytes_are) ∙ piece.whole ∙ sent_then conn due.stands.earlier due.send due.to ∙ ap (λ front. sent_to conn front ++ due.send.bytes) earlier) in
      let same : record { conn = conn; bytes = bytes; gone = false } ≡ piece_of due.send = ap (λ c. record { conn = c; bytes = bytes; gone = false }) (sym due.to) ∙ ap (λ b. record { conn = due.send.conn; bytes = b; gone = false }) own in
      let events : events_of rules.bounds entries ≡ events_of rules.bounds (entries ++ entry.Gave conn bytes false ∷ []) = sym (events_of-gave rules.bounds entries conn bytes false) in
      record {
        front = walked.front ++ due.send ∷ [];
        rest = due.stands.later ++ beyond;
        split = walked.split ∙ ap (λ sends. walked.front ++ sends) rest ∙ sym (append_assoc walked.front (due.send ∷ []) (due.stands.later ++ beyond));
        pieces =
            pieces_in-append entries (entry.Gave conn bytes false ∷ [])
            ∙ ap (λ pieces. pieces ++ record { conn = conn; bytes = bytes; gone = false } ∷ []) walked.pieces
            ∙ ap (λ piece. map piece_of walked.front ++ piece ∷ []) same
            ∙ sym (map-append piece_of walked.front (due.send ∷ []));
        unclosed = subst (λ es. AreUnclosed (heeded rules.bounds es) (due.stands.later ++ beyond)) events (subst (AreUnclosed (heeded rules.bounds (events_of rules.bounds entries))) rest walked.unclosed).1;
      }

  of_mid : (walked : Walked rules.bounds entries survivor.now.state.sends) (piece : IsWholePiece rules sends (seen_at entries at_end count) conn bytes) (mid : List Send)
      → piece.due.stands.earlier ≡ walked.front ++ mid → walked.rest ≡ mid ++ (piece.due.send ∷ (piece.due.stands.later ++ beyond))
      → (piece.due.stands.earlier ≡ walked.front → walked.rest ≡ piece.due.send ∷ (piece.due.stands.later ++ beyond) → Walked rules.bounds (entries ++ entry.Gave conn bytes false ∷ []) survivor.now.state.sends)
      → ((other : Send) (mid : List Send) → piece.due.stands.earlier ≡ walked.front ++ other ∷ mid → walked.rest ≡ (other ∷ mid) ++ (piece.due.send ∷ (piece.due.stands.later ++ beyond)) → ⊥)
      → Walked rules.bounds (entries ++ entry.Gave conn bytes false ∷ []) survivor.now.state.sends
  of_mid walked piece [] earlier rest next never = next (earlier ∙ append-nil walked.front) rest
  of_mid walked piece (other ∷ mid) earlier rest next never = absurd (never other mid earlier rest)

  pub step_whole : Knows rules image survivor (entries ++ entry.Gave conn bytes false ∷ more) → (walked : Walked rules.bounds entries survivor.now.state.sends) (piece : IsWholePiece rules sends (seen_at entries at_end count) conn bytes)
      → count ≤ received rules.bounds entries → survivor.now.state.sends ≡ sends ++ beyond → (at_end ≡ true → received rules.bounds (entries ++ entry.Gave conn bytes false ∷ more) ≤ received rules.bounds entries)
      → Walked rules.bounds (entries ++ entry.Gave conn bytes false ∷ []) survivor.now.state.sends
  step_whole knows walked piece low grown all =
      let due = piece.due in
      let split : survivor.now.state.sends ≡ due.stands.earlier ++ (due.send ∷ (due.stands.later ++ beyond)) =
      grown ∙ ap (λ sends. sends ++ beyond) due.stands.split ∙ append_assoc due.stands.earlier (due.send ∷ due.stands.later) beyond in
      elim (two_splits due.stands.earlier (due.send ∷ (due.stands.later ++ beyond)) walked.front walked.rest (sym split ∙ walked.split)) [
        | inl found ↦ of_mid walked piece found.0 found.1 found.2
            (λ earlier rest. next_whole knows.none_had walked piece grown earlier rest)
            (λ other mid earlier rest. not_between knows walked due low grown all other mid earlier rest)
        | inr found ↦
            let here : due.send ≡ found.0 = cc in
            absurd (not_before knows.none_had walked piece found.1 (found.2 ∙ ap (λ send. due.stands.earlier ++ send ∷ found.1) (sym here)))
      ]
