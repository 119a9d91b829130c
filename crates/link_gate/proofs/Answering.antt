-- What is heard of an event that was taken.
use Rattle.session_history.specs.Heeding as unheeded
use Rattle.link_gate.proofs.Terms.{List, None, Some, [], ap, append-nil, arith, false, inr, length, length-append, refl, subst, sym, ℕ, ◌++◌, ◌<◌, ◌∙◌, ◌∷◌, ◌≡◌, ◌≤◌, false≢true, none-some, same_Some, Err, Ok, Result, is_ok, Send, Entry, Took, LinkEvent, Closes, Ends, Opens, Piece, Settles, IsInOrder, Phases, phases_after, Seen, items_of, Fits, Log, logged, Ledger, IsHeard, IsUnheeded, closing_of, Bounds, Unheeded, events_of, heeded, items_in, refusal, KeepsItems, KeepsPhases, KeepsReplies, phase_after, closes, opens, HearFault, Heard, HearsBy, HearsEvent, HearsThis, MayHear, Takes, IsNew, TakesIn, TakesOrEnds, entered}
use Rattle.link_gate.specs.declared.heard.Heard.TheVariants as heard
use Rattle.link_gate.specs.declared.heard.HearFault.TheVariants as fault
use Rattle.link_gate.proofs.Phasing.{phases_behind, unopened_by, open_by}
use Rattle.link_gate.proofs.Refusing.{IsEvent, events_behind, events_ended, items_ended, is_heeded, keeps_items, heeded_with, heeded_without, limit_events, too_long, limit_items}
use Rattle.link_gate.proofs.Knowing.{is_unknown, keeps_unheeded, keeps_quiet, keeps_closing, keeps_opening}

-- what log, ledger and phases know of a journal before an event
pub record Stood (bounds : Bounds) (entries : List Entry) (sends : List Send) (log : Log) (ledger : Ledger) (phases : Phases) (before most : ℕ) : Type 0 where
  pub limit : most ≡ bounds.max_events
  pub counted : before ≡ length (events_of bounds entries)
  pub items : KeepsItems bounds entries log
  pub replies : KeepsReplies bounds entries None sends ledger
  pub is_at : KeepsPhases bounds entries phases

pub stood_of : {log : Log} {ledger : Ledger} {seen : Seen} {events most : ℕ} (may : MayHear log ledger seen events most) → Stood may.bounds may.entries may.sends log ledger seen.phases events most
stood_of may = record { limit = may.limit; counted = may.counted; items = may.items; replies = may.replies; is_at = may.is_at }

-- which connections were opened and closed, by the phases
was_unopened : (bounds : Bounds) (entries : List Entry) (phases : Phases) (conn : ℕ) → heeded bounds (events_of bounds entries) ≡ events_of bounds entries → KeepsPhases bounds entries phases → IsInOrder phases (Opens conn)
    → (closes conn (heeded bounds (events_of bounds entries)) ≡ false) × (opens conn (heeded bounds (events_of bounds entries)) ≡ false)
was_unopened bounds entries phases conn all knows order =
    let both = unopened_by (closes conn (events_of bounds entries)) (opens conn (events_of bounds entries)) (sym (knows conn) ∙ order.1) in
    (ap (closes conn) all ∙ both.0, ap (opens conn) all ∙ both.1)

was_open : (bounds : Bounds) (entries : List Entry) (phases : Phases) (conn : ℕ) → heeded bounds (events_of bounds entries) ≡ events_of bounds entries → KeepsPhases bounds entries phases → IsInOrder phases (Closes conn)
    → closes conn (heeded bounds (events_of bounds entries)) ≡ false
was_open bounds entries phases conn all knows order =
    let both = open_by (closes conn (events_of bounds entries)) (opens conn (events_of bounds entries)) (sym (knows conn) ∙ order.1) in ap (closes conn) all ∙ both.0

-- the ledger behind an event that is heeded
replies_behind : (bounds : Bounds) (entries : List Entry) (sends : List Send) (event : LinkEvent) (ledger : Ledger) (phases : Phases) → heeded bounds (events_of bounds entries) ≡ events_of bounds entries
    → heeded bounds (events_of bounds (entries ++ Took event ∷ [])) ≡ events_of bounds entries ++ event ∷ [] → KeepsPhases bounds entries phases → IsInOrder phases event
    → KeepsReplies bounds entries None sends ledger → KeepsReplies bounds (entries ++ Took event ∷ []) (closing_of event) sends (entered event ledger)
replies_behind bounds entries sends (Opens conn) ledger phases all heeds knows order keeps =
    let both = was_unopened bounds entries phases conn all knows order in keeps_opening bounds entries sends conn ledger all heeds both.1 both.0 keeps
replies_behind bounds entries sends (Piece conn bytes) ledger phases all heeds knows order keeps = keeps_quiet bounds entries sends (Piece conn bytes) ledger all heeds (λ _. refl) (λ _. refl) keeps
replies_behind bounds entries sends (Closes conn) ledger phases all heeds knows order keeps =
    keeps_closing bounds entries sends conn ledger all heeds (was_open bounds entries phases conn all knows order) keeps
replies_behind bounds entries sends Settles ledger phases all heeds knows order keeps = keeps_quiet bounds entries sends Settles ledger all heeds (λ _. refl) (λ _. refl) keeps
replies_behind bounds entries sends Ends ledger phases all heeds knows order keeps = keeps_quiet bounds entries sends Ends ledger all heeds (λ _. refl) (λ _. refl) keeps

-- what the event's log and ledger require
pub event_is_new : (bounds : Bounds) (entries : List Entry) (sends : List Send) (event : LinkEvent) (ledger : Ledger) (phases : Phases) → heeded bounds (events_of bounds entries) ≡ events_of bounds entries → KeepsPhases bounds entries phases → IsInOrder phases event
    → KeepsReplies bounds entries None sends ledger → IsNew event ledger
event_is_new bounds entries sends (Opens conn) ledger phases all knows order keeps = is_unknown bounds entries sends None ledger conn keeps (was_unopened bounds entries phases conn all knows order).1
event_is_new bounds entries sends (Piece conn bytes) ledger phases all knows order keeps = tt
event_is_new bounds entries sends (Closes conn) ledger phases all knows order keeps = tt
event_is_new bounds entries sends Settles ledger phases all knows order keeps = tt
event_is_new bounds entries sends Ends ledger phases all knows order keeps = tt

-- the phases behind an event
phases_with : (bounds : Bounds) (entries : List Entry) (event : LinkEvent) (phases now : Phases) → IsEvent event → KeepsPhases bounds entries phases → IsInOrder phases event → ((conn : ℕ) → now conn ≡ phases_after event phases conn) → KeepsPhases bounds (entries ++ Took event ∷ []) now
phases_with bounds entries event phases now one knows order enters conn =
    enters conn ∙ phases_behind phases (events_of bounds entries) event knows order conn ∙ ap (phase_after conn) (sym (events_behind bounds entries event one))

-- a close is the first of its connection
first_close : (bounds : Bounds) (entries : List Entry) (phases : Phases) (event : LinkEvent) → heeded bounds (events_of bounds entries) ≡ events_of bounds entries → KeepsPhases bounds entries phases → IsInOrder phases event
    → (conn : ℕ) → closing_of event ≡ Some conn → closes conn (heeded bounds (events_of bounds entries)) ≡ false
first_close bounds entries phases (Closes closed) all knows order conn is =
    subst (λ c. closes c (heeded bounds (events_of bounds entries)) ≡ false) (same_Some closed conn is) (was_open bounds entries phases closed all knows order)
first_close bounds entries phases (Opens opened) all knows order conn is = absurd (none-some conn is)
first_close bounds entries phases (Piece to bytes) all knows order conn is = absurd (none-some conn is)
first_close bounds entries phases Settles all knows order conn is = absurd (none-some conn is)
first_close bounds entries phases Ends all knows order conn is = absurd (none-some conn is)

-- an event of the journal isn't Ends
pub not_end : (found : LinkEvent) → IsEvent found → found ≡ Ends → ⊥
not_end found one is = let never : [] ≡ Ends ∷ [] = subst IsEvent is one in absurd (cc)

-- an event that is refused
unheeded_with : (bounds : Bounds) (entries : List Entry) (sends : List Send) (event : LinkEvent) (cause : Unheeded) (ledger later : Ledger) (phases : Phases) → IsEvent event → heeded bounds (events_of bounds entries) ≡ events_of bounds entries → refusal bounds (events_of bounds entries) event ≡ Some cause
    → KeepsPhases bounds entries phases → IsInOrder phases event → later ≡ ledger → KeepsReplies bounds entries None sends ledger → IsUnheeded bounds entries sends event cause later
unheeded_with bounds entries sends event cause ledger later phases one all refused knows order same keeps =
    let still = heeded_without bounds entries event cause one all refused in
    record {
      refused = refused;
      no_end = not_end event one;
      first_close = first_close bounds entries phases event all knows order;
      brings_none = ap (items_of bounds.framing) still;
      replies = subst (KeepsReplies bounds (entries ++ Took event ∷ []) None sends) (sym same) (keeps_unheeded bounds entries sends event ledger still keeps);
    }

-- an event that is heeded
heard_with : (bounds : Bounds) (entries : List Entry) (sends : List Send) (event : LinkEvent) (log new : Log) (ledger later : Ledger) (phases : Phases) (before most : ℕ) → IsEvent event → Stood bounds entries sends log ledger phases before most
    → IsInOrder phases event → before < most → logged log event ≡ Some new → Fits log.max_items (logged log event) → later ≡ entered event ledger → IsHeard bounds entries sends event new later
heard_with bounds entries sends event log new ledger later phases before most one stood order few is fits same =
    let heeds = is_heeded bounds entries event log one stood.items (omega (arith, few, stood.limit, stood.counted)) fits in
    record {
      more = heeds.more;
      brings = heeds.brings;
      items = keeps_items bounds entries event log new one stood.items heeds.allowed is;
      replies = subst (KeepsReplies bounds (entries ++ Took event ∷ []) (closing_of event) sends) (sym same)
          (replies_behind bounds entries sends event ledger phases stood.items.all_heeded (heeded_with bounds entries event one stood.items.all_heeded heeds.allowed) stood.is_at order stood.replies);
    }

-- by the answer
hears_event : (bounds : Bounds) (entries : List Entry) (sends : List Send) (event : LinkEvent) (log new : Log) (ledger later : Ledger) (seen shown : Seen) (before now most : ℕ) (result : Result Heard HearFault) → IsEvent event
    → Stood bounds entries sends log ledger seen.phases before most → IsInOrder seen.phases event → ((conn : ℕ) → shown.phases conn ≡ phases_after event seen.phases conn) → Takes seen.told shown.told event → TakesIn event log new ledger later before now most result
    → HearsEvent bounds entries sends new later now seen shown event result
hears_event bounds entries sends event log new ledger later seen shown before now most (Ok answer) one stood order enters takes did = (
  did.0,
  takes,
  heard_with bounds entries sends event log new ledger later seen.phases before most one stood order did.1 did.2 did.3 did.5,
  phases_with bounds entries event seen.phases shown.phases one stood.is_at order enters,
  omega (arith, did.4, stood.counted, (ap length (events_behind bounds entries event one) ∙ length-append (events_of bounds entries) (event ∷ []))),
)
hears_event bounds entries sends event log new ledger later seen shown before now most (Err (fault.Refused kind offset)) one stood order enters takes did = absurd did.0
hears_event bounds entries sends event log new ledger later seen shown before now most (Err fault.ReadFault) one stood order enters takes did = absurd did.0
hears_event bounds entries sends event log new ledger later seen shown before now most (Err fault.LimitEvents) one stood order enters takes did =
    let many : bounds.max_events ≤ length (events_of bounds entries) = omega (arith, did.0.0, stood.limit, stood.counted) in
    (event, takes, unheeded_with bounds entries sends event unheeded.LimitEvents ledger later seen.phases one stood.items.all_heeded (limit_events bounds (events_of bounds entries) event many) stood.is_at order did.1 stood.replies)
hears_event bounds entries sends event log new ledger later seen shown before now most (Err (fault.TooLong conn)) one stood order enters takes did =
    let few : length (events_of bounds entries) < bounds.max_events = omega (arith, did.0.0, stood.limit, stood.counted) in
    let refused = too_long bounds (events_of bounds entries) event log stood.items.shows few did.0.1 in
    (event, takes, unheeded_with bounds entries sends event unheeded.TooLong ledger later seen.phases one stood.items.all_heeded refused stood.is_at order did.1 stood.replies, did.0.2)
hears_event bounds entries sends event log new ledger later seen shown before now most (Err fault.LimitItems) one stood order enters takes did =
    let few : length (events_of bounds entries) < bounds.max_events = omega (arith, did.0.0, stood.limit, stood.counted) in
    let refused = limit_items bounds (events_of bounds entries) event log stood.items.shows stood.items.most few did.0.1 in
    (event, takes, unheeded_with bounds entries sends event unheeded.LimitItems ledger later seen.phases one stood.items.all_heeded refused stood.is_at order did.1 stood.replies)
hears_event bounds entries sends event log new ledger later seen shown before now most (Err fault.Memory) one stood order enters takes did =
    inr (event, takes, is_heeded bounds entries event log one stood.items (omega (arith, did.0, stood.limit, stood.counted)) did.1)

-- the end of the link
hears_end : (bounds : Bounds) (entries : List Entry) (sends : List Send) (log new : Log) (ledger later : Ledger) (seen shown : Seen) (before now most : ℕ)
    → Stood bounds entries sends log ledger seen.phases before most → ((conn : ℕ) → shown.phases conn ≡ seen.phases conn) → Takes seen.told shown.told Ends → new ≡ log → later ≡ ledger → now ≡ before
    → HearsThis bounds entries sends new later now seen shown Ends heard.Ends
hears_end bounds entries sends log new ledger later seen shown before now most stood enters takes same_log same_ledger same_count =
    let still : heeded bounds (events_of bounds (entries ++ Took Ends ∷ [])) ≡ heeded bounds (events_of bounds entries) = ap (heeded bounds) (events_ended bounds entries) in
    let none : items_in bounds (entries ++ Took Ends ∷ []) ≡ items_in bounds entries ++ [] = ap (items_of bounds.framing) still ∙ sym (append-nil (items_in bounds entries)) in (
      refl,
      takes,
      record {
        more = [];
        brings = none;
        items = subst (KeepsItems bounds (entries ++ Took Ends ∷ [])) (sym same_log) (items_ended bounds entries log stood.items);
        replies = subst (KeepsReplies bounds (entries ++ Took Ends ∷ []) None sends) (sym same_ledger) (keeps_unheeded bounds entries sends Ends ledger still stood.replies);
      },
      (λ conn. enters conn ∙ stood.is_at conn ∙ ap (phase_after conn) (sym (events_ended bounds entries))),
      same_count ∙ stood.counted ∙ ap length (sym (events_ended bounds entries)),
    )

pub hears_taken : (bounds : Bounds) (entries : List Entry) (sends : List Send) (event : LinkEvent) (log new : Log) (ledger later : Ledger) (seen shown : Seen) (before now most : ℕ) (result : Result Heard HearFault)
    → Stood bounds entries sends log ledger seen.phases before most → IsInOrder seen.phases event → ((conn : ℕ) → shown.phases conn ≡ phases_after event seen.phases conn) → Takes seen.told shown.told event → TakesOrEnds event log new ledger later before now most result
    → HearsEvent bounds entries sends new later now seen shown event result
hears_taken bounds entries sends (Opens conn) log new ledger later seen shown before now most result stood order enters takes did =
    hears_event bounds entries sends (Opens conn) log new ledger later seen shown before now most result refl stood order enters takes did
hears_taken bounds entries sends (Piece conn bytes) log new ledger later seen shown before now most result stood order enters takes did =
    hears_event bounds entries sends (Piece conn bytes) log new ledger later seen shown before now most result refl stood order enters takes did
hears_taken bounds entries sends (Closes conn) log new ledger later seen shown before now most result stood order enters takes did =
    hears_event bounds entries sends (Closes conn) log new ledger later seen shown before now most result refl stood order enters takes did
hears_taken bounds entries sends Settles log new ledger later seen shown before now most result stood order enters takes did =
    hears_event bounds entries sends Settles log new ledger later seen shown before now most result refl stood order enters takes did
hears_taken bounds entries sends Ends log new ledger later seen shown before now most result stood order enters takes did =
    subst (HearsEvent bounds entries sends new later now seen shown Ends) (sym did.0) (hears_end bounds entries sends log new ledger later seen shown before now most stood enters takes did.1 did.2 did.3)

-- what was heard of an event is heard of some event
pub hears_some : (bounds : Bounds) (entries : List Entry) (sends : List Send) (log : Log) (ledger : Ledger) (seen shown : Seen) (now : ℕ) (event : LinkEvent) (result : Result Heard HearFault) → HearsEvent bounds entries sends log ledger now seen shown event result
    → HearsBy bounds entries sends log ledger now seen shown result
hears_some bounds entries sends log ledger seen shown now event (Ok answer) did = (event, did)
hears_some bounds entries sends log ledger seen shown now event (Err fault) did = did

-- where none was taken in, no event is named
pub hears_none : (bounds : Bounds) (entries : List Entry) (sends : List Send) (log : Log) (ledger : Ledger) (seen shown : Seen) (now : ℕ) (came kept : LinkEvent) (result : Result Heard HearFault) → is_ok result ≡ false
    → HearsEvent bounds entries sends log ledger now seen shown came result → HearsEvent bounds entries sends log ledger now seen shown kept result
hears_none bounds entries sends log ledger seen shown now came kept (Ok answer) none did = absurd (false≢true (sym none))
hears_none bounds entries sends log ledger seen shown now came kept (Err fault) none did = did
