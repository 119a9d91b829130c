-- Which events are refused, and what they bring.
use Rattle.item_log.specs.Heard.{Heard}
use Rattle.link_gate.proofs.Terms.{Bool, List, None, Option, Some, [], ap, append-nil, arith, cond, drop, false, if◌then◌else◌, length, length-append, refl, subst, sym, true, ◌++◌, ◌+◌, ◌<◌, ◌∙◌, ◌∷◌, ◌≡◌, ◌≤◌, le-leb, le-ltb, leb-false, lt-leb, lt-ltb, true≢false, option_map, unwrap_or, is_none, nat_le, nat_lt, Entry, Took, LinkEvent, Ends, events_in, Framing, one_more_event, logs_show, shown_items, behind_items, hear, heard, items_by, items_of, Fits, Log, Passes, Shows, logged, with_heard, events_of-append, one_more_heeded, refused_unheeded, IsHeeded, Bounds, LimitEvents, LimitItems, TooLong, Unheeded, events_of, heeded, heeded_behind, items_in, refusal, KeepsItems}

-- by three tests
abbrev pub refused_by : Bool → Bool → Bool → Option Unheeded
refused_by many long full = if many then Some LimitEvents else if long then Some TooLong else if full then Some LimitItems else None

refusal_by : (bounds : Bounds) (before : List LinkEvent) (event : LinkEvent) (many long full : Bool) → nat_le bounds.max_events (length before) ≡ many → is_none (heard bounds.framing (before ++ event ∷ [])) ≡ long →
    nat_lt bounds.max_items (length (items_of bounds.framing (before ++ event ∷ []))) ≡ full → refusal bounds before event ≡ refused_by many long full
refusal_by bounds before event many long full m l f = λ i. refused_by (m i) (l i) (f i)

-- of events that are all heeded there are no more than may be
behind_heeded : (bounds : Bounds) (before events : List LinkEvent) → heeded_behind bounds before events ≡ events → length before ≤ bounds.max_events → length before + length events ≤ bounds.max_events
unfolding heeded_behind
behind_heeded bounds before [] all h = omega (arith, h)
behind_heeded bounds before (event ∷ events) all h =
    by (nat_le bounds.max_events (length before)) refl (is_none (refusal bounds before event)) refl (behind_heeded bounds (before ++ event ∷ []) events) all
  where
    by : (many : Bool) → nat_le bounds.max_events (length before) ≡ many → (fine : Bool) → is_none (refusal bounds before event) ≡ fine
        → (heeded_behind bounds (before ++ event ∷ []) events ≡ events → length (before ++ event ∷ []) ≤ bounds.max_events → length (before ++ event ∷ []) + length events ≤ bounds.max_events)
        → cond fine (event ∷ heeded_behind bounds (before ++ event ∷ []) events) [] ≡ event ∷ events
        → length before + length (event ∷ events) ≤ bounds.max_events
    by many m false f ih so = absurd (let no : ⊥ = cc in no)
    by true m true f ih so = absurd (true≢false (sym f ∙ ap is_none (refusal_by bounds before event true _ _ m refl refl)))
    by false m true f ih so =
        let less : length before < bounds.max_events = leb-false bounds.max_events (length before) m in
        let longer : length (before ++ event ∷ []) ≡ length before + 1 = length-append before (event ∷ []) in
        let rest : length (before ++ event ∷ []) + length events ≤ bounds.max_events = ih (ap (drop 1) so) (omega arith) in
        omega arith

pub few_heeded : (bounds : Bounds) (events : List LinkEvent) → heeded bounds events ≡ events → length events ≤ bounds.max_events
few_heeded bounds events all = let h : 0 + length events ≤ bounds.max_events = behind_heeded bounds [] events all (omega arith) in omega arith

-- an entry that is one more event, and what stands in a journal with it
abbrev pub IsEvent : LinkEvent → Type 0
IsEvent event = events_in (Took event ∷ []) ≡ event ∷ []

pub events_behind : (bounds : Bounds) (entries : List Entry) (event : LinkEvent) → IsEvent event → events_of bounds (entries ++ Took event ∷ []) ≡ events_of bounds entries ++ event ∷ []
events_behind bounds entries event one = events_of-append bounds entries (Took event ∷ []) ∙ ap (λ more. events_of bounds entries ++ more) one

-- what a log heard of its events
abbrev whole : (framing : Framing) (events : List LinkEvent) (log : Log) → Shows framing events log → Heard
whole framing events log shows = record { items = shows.items; rests = log.rests }

-- one more event is heard as the log hears it
pub heard_behind : (framing : Framing) (events : List LinkEvent) (event : LinkEvent) (log : Log) (shows : Shows framing events log) → heard framing (events ++ event ∷ []) ≡ behind_items shows.items (hear log.framing log.rests event)
heard_behind framing events event log shows =
    (one_more_event framing events event (whole framing events log shows) shows.is_heard).1 ∙ ap (λ so. behind_items shows.items (hear so log.rests event)) (sym shows.cut_so)

pub items_behind : (framing : Framing) (events : List LinkEvent) (event : LinkEvent) (log : Log) → Shows framing events log → items_of framing (events ++ event ∷ []) ≡ items_of framing events ++ items_by (hear framing log.rests event)
items_behind framing events event log shows = (one_more_event framing events event (whole framing events log shows) shows.is_heard).0

-- a log that refuses an event hears it not
not_logged : (log : Log) (found : Option Heard) → option_map (with_heard log) found ≡ None → found ≡ None
not_logged log None h = refl
not_logged log (Some found) h = absurd (let no : ⊥ = cc in no)

-- a log with one more event: what it keeps of the log before
logged_as : (log new : Log) (found : Option Heard) → option_map (with_heard log) found ≡ Some new → (new.first ≡ log.first) × (new.max_items ≡ log.max_items)
logged_as log new None h = absurd (let no : ⊥ = cc in no)
logged_as log new (Some found) h =
    let same : with_heard log found ≡ new = ap (λ (o : Option Log). unwrap_or o new) h in
    (ap (λ (l : Log). l.first) (sym same), ap (λ (l : Log). l.max_items) (sym same))

pub logged_keeps : (log new : Log) (event : LinkEvent) → logged log event ≡ Some new → (new.first ≡ log.first) × (new.max_items ≡ log.max_items)
logged_keeps log new event is = logged_as log new (hear log.framing log.rests event) is

-- the causes of a refusal, by what the log says
pub limit_events : (bounds : Bounds) (before : List LinkEvent) (event : LinkEvent) → bounds.max_events ≤ length before → refusal bounds before event ≡ Some LimitEvents
limit_events bounds before event many = refusal_by bounds before event true _ _ (le-leb bounds.max_events (length before) many) refl refl

pub too_long : (bounds : Bounds) (events : List LinkEvent) (event : LinkEvent) (log : Log) → Shows bounds.framing events log → length events < bounds.max_events → logged log event ≡ None → refusal bounds events event ≡ Some TooLong
too_long bounds events event log shows few none =
    let unheard : heard bounds.framing (events ++ event ∷ []) ≡ None = heard_behind bounds.framing events event log shows ∙ ap (behind_items shows.items) (not_logged log (hear log.framing log.rests event) none) in
    refusal_by bounds events event false true _ (lt-leb bounds.max_events (length events) few) (ap is_none unheard) refl

-- what a log shows with one more event, against the most items
logged_shows : (framing : Framing) (events : List LinkEvent) (event : LinkEvent) (log new : Log) → Shows framing events log → logged log event ≡ Some new → Shows framing (events ++ event ∷ []) new
logged_shows framing events event log new shows is = logs_show log new event is framing events shows

pub limit_items : (bounds : Bounds) (events : List LinkEvent) (event : LinkEvent) (log : Log) → Shows bounds.framing events log → log.max_items ≡ bounds.max_items → length events < bounds.max_events → Passes log.max_items (logged log event)
    → refusal bounds events event ≡ Some LimitItems
limit_items bounds events event log shows most few = by (logged log event) refl
  where
    by : (found : Option Log) → logged log event ≡ found → Passes log.max_items found → refusal bounds events event ≡ Some LimitItems
    by None is passes = absurd passes
    by (Some new) is passes =
        let later = logged_shows bounds.framing events event log new shows is in
        refusal_by bounds events event false false true (lt-leb bounds.max_events (length events) few) (ap is_none later.is_heard)
        (lt-ltb bounds.max_items (length (items_of bounds.framing (events ++ event ∷ []))) (omega (arith, passes, (shown_items bounds.framing (events ++ event ∷ []) new later).0, most)))

pub not_refused : (bounds : Bounds) (events : List LinkEvent) (event : LinkEvent) (log : Log) → Shows bounds.framing events log → log.max_items ≡ bounds.max_items → length events < bounds.max_events → Fits log.max_items (logged log event)
    → refusal bounds events event ≡ None
not_refused bounds events event log shows most few = by (logged log event) refl
  where
    by : (found : Option Log) → logged log event ≡ found → Fits log.max_items found → refusal bounds events event ≡ None
    by None is fits = absurd fits
    by (Some new) is fits =
        let later = logged_shows bounds.framing events event log new shows is in
        refusal_by bounds events event false false false (lt-leb bounds.max_events (length events) few) (ap is_none later.is_heard)
        (le-ltb bounds.max_items (length (items_of bounds.framing (events ++ event ∷ []))) (omega (arith, fits, (shown_items bounds.framing (events ++ event ∷ []) new later).0, most)))

-- an event that is heeded brings its items, and the log shows it
pub brings_more : (bounds : Bounds) (entries : List Entry) (event : LinkEvent) (log : Log) → IsEvent event → KeepsItems bounds entries log → refusal bounds (events_of bounds entries) event ≡ None
    → items_in bounds (entries ++ Took event ∷ []) ≡ items_in bounds entries ++ items_by (hear bounds.framing log.rests event)
brings_more bounds entries event log one keeps fine =
    ap (λ events. items_of bounds.framing (heeded bounds events)) (events_behind bounds entries event one)
    ∙ ap (items_of bounds.framing) (one_more_heeded bounds (events_of bounds entries) event keeps.all_heeded fine)
    ∙ items_behind bounds.framing (events_of bounds entries) event log keeps.shows
    ∙ ap (λ events. items_of bounds.framing events ++ items_by (hear bounds.framing log.rests event)) (sym keeps.all_heeded)

pub is_heeded : (bounds : Bounds) (entries : List Entry) (event : LinkEvent) (log : Log) → IsEvent event → KeepsItems bounds entries log → length (events_of bounds entries) < bounds.max_events → Fits log.max_items (logged log event) → IsHeeded bounds entries event
is_heeded bounds entries event log one keeps few fits =
    let fine = not_refused bounds (events_of bounds entries) event log keeps.shows keeps.most few fits in
    record { allowed = fine; more = items_by (hear bounds.framing log.rests event); brings = brings_more bounds entries event log one keeps fine }

pub heeded_with : (bounds : Bounds) (entries : List Entry) (event : LinkEvent) → IsEvent event → heeded bounds (events_of bounds entries) ≡ events_of bounds entries → refusal bounds (events_of bounds entries) event ≡ None
    → heeded bounds (events_of bounds (entries ++ Took event ∷ [])) ≡ events_of bounds entries ++ event ∷ []
heeded_with bounds entries event one all fine = ap (heeded bounds) (events_behind bounds entries event one) ∙ one_more_heeded bounds (events_of bounds entries) event all fine

pub keeps_items : (bounds : Bounds) (entries : List Entry) (event : LinkEvent) (log new : Log) → IsEvent event → KeepsItems bounds entries log → refusal bounds (events_of bounds entries) event ≡ None → logged log event ≡ Some new → KeepsItems bounds (entries ++ Took event ∷ []) new
keeps_items bounds entries event log new one keeps fine is = record {
  all_heeded = heeded_with bounds entries event one keeps.all_heeded fine ∙ sym (events_behind bounds entries event one);
  shows = subst (λ events. Shows bounds.framing events new) (sym (events_behind bounds entries event one)) (logged_shows bounds.framing (events_of bounds entries) event log new keeps.shows is);
  most = (logged_keeps log new event is).1 ∙ keeps.most;
}

-- an event that is refused isn't heeded, and brings none
pub heeded_without : (bounds : Bounds) (entries : List Entry) (event : LinkEvent) (cause : Unheeded) → IsEvent event → heeded bounds (events_of bounds entries) ≡ events_of bounds entries → refusal bounds (events_of bounds entries) event ≡ Some cause
    → heeded bounds (events_of bounds (entries ++ Took event ∷ [])) ≡ heeded bounds (events_of bounds entries)
heeded_without bounds entries event cause one all refused =
    ap (heeded bounds) (events_behind bounds entries event one) ∙ refused_unheeded bounds (events_of bounds entries) event all (ap is_none refused) ∙ sym all

-- the end of a link is no event
pub events_ended : (bounds : Bounds) (entries : List Entry) → events_of bounds (entries ++ Took Ends ∷ []) ≡ events_of bounds entries
events_ended bounds entries = events_of-append bounds entries (Took Ends ∷ []) ∙ append-nil (events_of bounds entries)

pub items_ended : (bounds : Bounds) (entries : List Entry) (log : Log) → KeepsItems bounds entries log → KeepsItems bounds (entries ++ Took Ends ∷ []) log
items_ended bounds entries log keeps = record {
  all_heeded = ap (heeded bounds) (events_ended bounds entries) ∙ keeps.all_heeded ∙ sym (events_ended bounds entries);
  shows = subst (λ events. Shows bounds.framing events log) (sym (events_ended bounds entries)) keeps.shows;
  most = keeps.most;
}
