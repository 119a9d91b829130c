-- An event of the link comes: what that makes of a story.
use Rattle.links.specs.declared.journal.Entry.TheVariants as entry
use Rattle.links.specs.declared.journal.LinkEvent.TheVariants as event
use Rattle.session_state.proofs.Terms.{Bool, List, Option, Some, [], ap, append_assoc, eqb, false, refl, subst, sym, true, ℕ, ◌++◌, ◌∙◌, ◌∷◌, ◌≡◌, option_map, unwrap_or, ◌||◌, Item, Entry, LinkEvent, tells_then, Tells, Told, Image, AsksFor, Served, served_with, serving_event, AreHeeded, items_in, received, Rules, Survivor, entries_of, opens, Latest, OwesNothing, behind, latest, IsTold, Since, Story, entries, moment, sends, then_story}

-- an event that is due is taken
pub told_event : {rules : Rules} {image : Image} {began : Since} {old now : Told} {story : Story} {event : LinkEvent} (more : List Item) → IsTold rules image began old story
    → AsksFor rules.limits story.survivor.plan story.survivor.now (received rules.bounds (entries story)) → OwesNothing rules.bounds rules.hold (moment story) (sends story) → AreHeeded rules.bounds (entries story) → Tells old now (entry.Took event ∷ [])
    → items_in rules.bounds (entries story ++ entry.Took event ∷ []) ≡ items_in rules.bounds (entries story) ++ more → IsTold rules image began now (then_story story (entry.Took event ∷ []))
told_event {rules = rules} {image = image} {began = began} {now = now} {story = story} {event = event} more told asks owes heeds tells brings =
    let items : List Item = items_in rules.bounds (entries story) in
    let survivor : Survivor = story.survivor in
    let same : entries story ++ entry.Took event ∷ [] ≡ entries_of story.earlier ++ (story.since ++ entry.Took event ∷ []) = append_assoc (entries_of story.earlier) story.since (entry.Took event ∷ []) in
    record {
      serving = serving_event rules image story.earlier survivor story.since event more told.serving (record { asks = asks; owes_nothing = owes; heeded = heeds }) brings;
      way =
          subst (λ its. Served rules.limits its survivor.plan survivor.begun survivor.now) (sym brings ∙ ap (items_in rules.bounds) same)
          (served_with rules.limits items more survivor.plan survivor.begun survivor.now told.way);
      tells = subst (Tells began.told now) same (tells_then _ _ _ _ _ told.tells tells);
      recovered = told.recovered;
      counted = told.counted;
      episodes = told.episodes;
      tables = told.tables;
    }

-- the latest event of some entries and one that was taken last, which isn't Ends
abbrev pub IsNoEnd : LinkEvent → Type 0
IsNoEnd event.Ends = ⊥
IsNoEnd other = Unit {0}

took : {entries : List Entry} {event : LinkEvent} {found : Option Latest} → found ≡ Some (record { before = entries; event = event }) → (first : Entry)
    → option_map (behind first) found ≡ Some (record { before = first ∷ entries; event = event })
took is first = ap (option_map (behind first)) is

-- the first entry stands before it
in_front : {first : LinkEvent} {entries : List Entry} {event : LinkEvent} {found : Option Latest} → found ≡ Some (record { before = entries; event = event })
    → Some (unwrap_or (option_map (behind (entry.Took first)) found) (record { before = []; event = first })) ≡ Some (record { before = entry.Took first ∷ entries; event = event })
in_front {first = first} {event = event} is = ap (λ (o : Option Latest). Some (unwrap_or (option_map (behind (entry.Took first)) o) (record { before = []; event = first }))) is

one_took : (event : LinkEvent) → IsNoEnd event → latest (entry.Took event ∷ []) ≡ Some (record { before = []; event = event })
one_took (event.Opens conn) is = refl
one_took (event.Piece conn bytes) is = refl
one_took (event.Closes conn) is = refl
one_took event.Settles is = refl
one_took event.Ends is = absurd is

pub latest-took : (entries : List Entry) {last : LinkEvent} → IsNoEnd last → latest (entries ++ entry.Took last ∷ []) ≡ Some (record { before = entries; event = last })
latest-took [] {last = last} is = one_took last is
latest-took (entry.Gave conn bytes gone ∷ entries) is = took (latest-took entries is) (entry.Gave conn bytes gone)
latest-took (entry.Took event.Ends ∷ entries) is = took (latest-took entries is) (entry.Took event.Ends)
latest-took (entry.Took (event.Opens conn) ∷ entries) is = in_front (latest-took entries is)
latest-took (entry.Took (event.Piece conn bytes) ∷ entries) is = in_front (latest-took entries is)
latest-took (entry.Took (event.Closes conn) ∷ entries) is = in_front (latest-took entries is)
latest-took (entry.Took event.Settles ∷ entries) is = in_front (latest-took entries is)

-- Ends is no latest event
pub latest-ended : (entries : List Entry) → latest (entries ++ entry.Took event.Ends ∷ []) ≡ latest entries
latest-ended [] = refl
latest-ended (entry.Gave conn bytes gone ∷ entries) = ap (option_map (behind (entry.Gave conn bytes gone))) (latest-ended entries)
latest-ended (entry.Took event.Ends ∷ entries) = ap (option_map (behind (entry.Took event.Ends))) (latest-ended entries)
latest-ended (entry.Took (event.Opens conn) ∷ entries) = ap (λ (o : Option Latest). Some (unwrap_or (option_map (behind (entry.Took (event.Opens conn))) o) (record { before = []; event = event.Opens conn }))) (latest-ended entries)
latest-ended (entry.Took (event.Piece conn bytes) ∷ entries) = ap (λ (o : Option Latest). Some (unwrap_or (option_map (behind (entry.Took (event.Piece conn bytes))) o) (record { before = []; event = event.Piece conn bytes }))) (latest-ended entries)
latest-ended (entry.Took (event.Closes conn) ∷ entries) = ap (λ (o : Option Latest). Some (unwrap_or (option_map (behind (entry.Took (event.Closes conn))) o) (record { before = []; event = event.Closes conn }))) (latest-ended entries)
latest-ended (entry.Took event.Settles ∷ entries) = ap (λ (o : Option Latest). Some (unwrap_or (option_map (behind (entry.Took event.Settles)) o) (record { before = []; event = event.Settles }))) (latest-ended entries)

or_more : (a : Bool) {b c : Bool} → (b ≡ true → c ≡ true) → (a || b) ≡ true → (a || c) ≡ true
or_more true more is = refl
or_more false more is = more is

pub opens_more : (conn : ℕ) (events more : List LinkEvent) → opens conn events ≡ true → opens conn (events ++ more) ≡ true
opens_more conn [] more is = absurd (let no : ⊥ = cc in no)
opens_more conn (event.Opens opened ∷ events) more is = or_more (eqb opened conn) (opens_more conn events more) is
opens_more conn (event.Piece to bytes ∷ events) more is = opens_more conn events more is
opens_more conn (event.Closes closed ∷ events) more is = opens_more conn events more is
opens_more conn (event.Settles ∷ events) more is = opens_more conn events more is
opens_more conn (event.Ends ∷ events) more is = opens_more conn events more is
