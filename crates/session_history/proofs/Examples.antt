-- What the definitions compute at values: a link that opens connection 0, sends two messages and closes it; the session passes
-- a reply behind the first of them.
use Rattle.links.specs.declared.journal.Entry.TheVariants as entry
use Rattle.links.specs.declared.journal.LinkEvent.TheVariants as event
use Rattle.msg_frame.specs.declared.framing.Framing.TheVariants.{Whole}
use Rattle.session_history.proofs.Terms.{List, None, Some, [], false, refl, true, ◌∷◌, ◌≡◌, Entry, LinkEvent, cut, cut_whole, none_open, heard_from, items_from, Bounds, LimitEvents, LimitItems, events_of, heeded, heeded_behind, nothing_before, received, refusal, is_open, passed_in, latest}

abbrev few : Bounds
few = record { framing = Whole; max_items = 2; max_events = 3; before = nothing_before }

abbrev enough : Bounds
enough = record { framing = Whole; max_items = 9; max_events = 9; before = nothing_before }

abbrev opening : LinkEvent
opening = event.Opens 0

abbrev message : LinkEvent
message = event.Piece 0 (97 ∷ [])

abbrev closing : LinkEvent
closing = event.Closes 0

-- the third item is one too many, and so is the fourth event
too_many_items : refusal few (opening ∷ message ∷ []) message ≡ Some LimitItems
unfolding heard_from items_from none_open cut cut_whole
too_many_items = refl

too_many_events : refusal few (opening ∷ message ∷ event.Settles ∷ []) message ≡ Some LimitEvents
too_many_events = refl

-- the events before the first refused one are heeded, and none behind it
first_two : heeded few (opening ∷ message ∷ message ∷ event.Settles ∷ []) ≡ opening ∷ message ∷ []
unfolding heeded_behind heard_from items_from none_open cut cut_whole
first_two = refl

abbrev entries : List Entry
entries = entry.Took opening ∷ entry.Took message ∷ entry.Gave 0 (120 ∷ []) false ∷ entry.Took message ∷ []

-- the reply was passed when two items were received, and connection 0 is open until its close
stamped : passed_in enough entries ≡ record { conn = 0; bytes = 120 ∷ []; taken = 2 } ∷ []
unfolding heeded_behind heard_from items_from none_open cut cut_whole
stamped = refl

opened : is_open enough entries 0 ≡ true
unfolding heeded_behind heard_from items_from none_open cut cut_whole
opened = refl

closed : is_open enough (entry.Took opening ∷ entry.Took closing ∷ []) 0 ≡ false
unfolding heeded_behind heard_from items_from none_open cut cut_whole
closed = refl

gone : is_open enough (entry.Took opening ∷ entry.Gave 0 [] true ∷ []) 0 ≡ false
unfolding heeded_behind heard_from items_from none_open cut cut_whole
gone = refl

-- the last event is the second message: behind it nothing came but Ends, which is none
last_one : latest (entry.Took opening ∷ entry.Took message ∷ entry.Took event.Ends ∷ []) ≡ Some (record { before = entry.Took opening ∷ []; event = message })
last_one = refl

-- Behind a part that was followed, of which the client has a byte that was sent with one item taken: the next event is the third, its item the
-- third too, and a reply that is passed then stands behind that byte.
abbrev later : Bounds
later = record enough { before = record { events = opening ∷ message ∷ []; had = record { conn = 0; bytes = 121 ∷ []; taken = 1 } ∷ []; plan = []; stood = None } }

abbrev reply_later : List Entry
reply_later = entry.Took message ∷ entry.Gave 0 (120 ∷ []) false ∷ []

all_later : events_of later reply_later ≡ opening ∷ message ∷ message ∷ []
all_later = refl

received_later : received later reply_later ≡ 3
unfolding heeded_behind heard_from items_from none_open cut cut_whole
received_later = refl

passed_later : passed_in later reply_later ≡ record { conn = 0; bytes = 121 ∷ []; taken = 1 } ∷ record { conn = 0; bytes = 120 ∷ []; taken = 3 } ∷ []
unfolding heeded_behind heard_from items_from none_open cut cut_whole
passed_later = refl

opened_before : is_open later [] 0 ≡ true
unfolding heeded_behind heard_from items_from none_open cut cut_whole
opened_before = refl

-- so many items are one too many there
too_many_later : refusal (record later { max_items = 2 }) (events_of later []) message ≡ Some LimitItems
unfolding heard_from items_from none_open cut cut_whole
too_many_later = refl
