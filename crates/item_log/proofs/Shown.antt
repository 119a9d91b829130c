-- The events that a log shows.
use Rattle.std.specs.List.{slice_get}
use Rattle.item_log.proofs.Terms.{Err, List, None, Ok, Option, Result, Some, [], ap, arith, drop, get_or, length, length-append, max, option_map, refl, subst, suc, sym, take, zero, zero-add, ℕ, ◌++◌, ◌+◌, ◌-◌, ◌<◌, ◌∙◌, ◌∷◌, ◌≡◌, ◌≤◌, drop-append-le, drop-drop, length-drop, take-append-le, option_map_or, unwrap_or, OnOk, Item, LinkEvent, Framing, ItemRefusal, none_open, Heard, behind_items, hear, heard_from, items_of, counted, none_counted, number_at, IsItemOf, IsNumberOf, Log, Logs, Shows, ShowsMore, ShowsStill, item_at, number_in_connection, received, trimmed, with_heard, LogsShow, ShownItems}
use Rattle.item_log.proofs.Counts.{counted-front, counted-none}
use Rattle.item_log.proofs.Hearing.{one_more_event, heard_items}

-- at its start a log shows no event
pub shows_none : (framing : Framing) (log : Log) → log.framing ≡ framing → log.first ≡ 0 → log.kept ≡ [] → log.rests ≡ none_open → log.counts ≡ none_counted → Shows framing [] log
unfolding heard_from counted
shows_none framing log cut_so first kept rests counts = record {
  items = [];
  is_heard = rw rests refl;
  cut_so = cut_so;
  kept = rw (kept, first) refl;
  given_up = rw first (omega arith);
  counts = rw (counts, first) refl;
}

-- one event more
shows_heard : (framing : Framing) (events : List LinkEvent) (event : LinkEvent) (old : Log) (more : Heard) → hear old.framing old.rests event ≡ Some more → Shows framing events old → Shows framing (events ++ event ∷ []) (with_heard old more)
shows_heard framing events event old more is shows =
    let here : hear framing old.rests event ≡ Some more = ap (λ so. hear so old.rests event) (sym shows.cut_so) ∙ is in
    record {
      items = shows.items ++ more.items;
      is_heard = (one_more_event framing events event (record { items = shows.items; rests = old.rests }) shows.is_heard).1 ∙ ap (behind_items shows.items) here;
      cut_so = shows.cut_so;
      kept = ap (λ kept. kept ++ more.items) shows.kept ∙ sym (drop-append-le old.first shows.items more.items shows.given_up);
      given_up = omega (arith, length-append shows.items more.items, shows.given_up);
      counts = shows.counts ∙ ap (counted none_counted) (sym (take-append-le old.first shows.items more.items shows.given_up));
    }

shows_more_by : (found : Option Heard) (old new : Log) (event : LinkEvent) → hear old.framing old.rests event ≡ found → option_map (with_heard old) found ≡ Some new → ShowsMore old event new
shows_more_by None old new event is same = absurd (cc)
shows_more_by (Some more) old new event is same =
    let last : with_heard old more ≡ new = ap (λ log. unwrap_or log new) same in
    λ framing events shows. subst (λ log. Shows framing (events ++ event ∷ []) log) last (shows_heard framing events event old more is shows)

pub logs_show : LogsShow
logs_show old new event is = shows_more_by (hear old.framing old.rests event) old new event refl is

-- what an answer shows that logs an event or refuses it
pub answer_shows : (old new : Log) (event : LinkEvent) (result : Result (Unit {0}) ItemRefusal) → Logs old event new result → OnOk result (ShowsMore old event new)
answer_shows old new event (Ok done) logs = logs_show old new event logs.0
answer_shows old new event (Err refusal) logs = tt

-- the element of a list at a place behind its front
slice_get-drop : {X : Type 0} (xs : List X) (n i : ℕ) → slice_get (drop n xs) i ≡ slice_get xs (n + i)
slice_get-drop xs zero i = rw zero-add
slice_get-drop [] (suc n) i = refl
slice_get-drop (x ∷ xs) (suc n) i = slice_get-drop xs n i ∙ ap (slice_get (x ∷ xs)) (let next : suc (n + i) ≡ suc n + i = omega arith in next)

-- the item of a number is that of the events
pub is_item_of : (log : Log) (number : ℕ) (item : Item) → log.first ≤ number → item_at log number ≡ Some item → IsItemOf log number item
is_item_of log number item from is framing events shows =
    let all = (heard_items framing events (record { items = shows.items; rests = log.rests }) shows.is_heard).0 in
    let place : log.first + (number - log.first) ≡ number = omega arith in
    ap (λ items. slice_get items number) all
    ∙ ap (slice_get shows.items) (sym place)
    ∙ sym (slice_get-drop shows.items log.first (number - log.first))
    ∙ ap (λ kept. slice_get kept (number - log.first)) (sym shows.kept)
    ∙ is

-- the number of the item of a number is that of the events
number_at-drop : (counts : List ℕ) (items : List Item) (first place number : ℕ) → first + place ≡ number → number_at (counted counts (take first items)) (drop first items) place ≡ number_at counts items number
number_at-drop counts items first place number at =
    let on : first + (place + 1) ≡ number + 1 = omega arith in
    let front : counted (counted counts (take first items)) (take (place + 1) (drop first items)) ≡ counted counts (take (number + 1) items) =
    counted-front counts items first (place + 1) ∙ ap (λ n. counted counts (take n items)) on in
    λ i. option_map_or (λ (item : Item). get_or (front i) item.conn 0) ((slice_get-drop items first place ∙ ap (slice_get items) at) i) 0

pub is_number_of : (log : Log) (number within : ℕ) → log.first ≤ number → within ≡ number_in_connection log number → IsNumberOf log number within
is_number_of log number within from is framing events shows =
    let all = (heard_items framing events (record { items = shows.items; rests = log.rests }) shows.is_heard).0 in
    ap (λ items. number_at none_counted items number) all
    ∙ sym (number_at-drop none_counted shows.items log.first (number - log.first) number (omega arith))
    ∙ sym (λ i. number_at (shows.counts i) (shows.kept i) (number - log.first))
    ∙ sym is

-- a log that gives items up
pub trimmed_is : (log : Log) (before : ℕ) (kept : List Item) (counts : List ℕ) → log.first < before → kept ≡ drop (before - log.first) log.kept → counts ≡ counted log.counts (take (before - log.first) log.kept) →
    record log { first = before; kept = kept; counts = counts } ≡ trimmed log before
trimmed_is log before kept counts lt items counts_are =
    let first : before ≡ max log.first before = omega arith in
    λ i. record log { first = first i; kept = items i; counts = counts_are i }

pub trimmed_none : (log : Log) (before : ℕ) → before ≤ log.first → log ≡ trimmed log before
trimmed_none log before le =
    let none : 0 ≡ before - log.first = omega arith in
    let first : log.first ≡ max log.first before = omega arith in
    λ i. record log { first = first i; kept = drop (none i) log.kept; counts = (sym (counted-none log.counts) ∙ ap (λ n. counted log.counts (take n log.kept)) none) i }

pub trimmed_later : (log : Log) (before number : ℕ) → max log.first before ≤ number → item_at (trimmed log before) number ≡ item_at log number
trimmed_later log before number from =
    let place : (before - log.first) + (number - max log.first before) ≡ number - log.first = omega arith in
    slice_get-drop log.kept (before - log.first) (number - max log.first before) ∙ ap (slice_get log.kept) place

pub trimmed_shows : (log : Log) (before : ℕ) → before ≤ received log → ShowsStill log (trimmed log before)
trimmed_shows log before most framing events shows =
    let place : log.first + (before - log.first) ≡ max log.first before = omega arith in
    record {
      items = shows.items;
      is_heard = shows.is_heard;
      cut_so = shows.cut_so;
      kept = ap (drop (before - log.first)) shows.kept ∙ drop-drop (before - log.first) log.first shows.items ∙ ap (λ n. drop n shows.items) place;
      given_up = omega (arith, ap length shows.kept, length-drop log.first shows.items, shows.given_up);
      counts = (λ i. counted (shows.counts i) (take (before - log.first) (shows.kept i))) ∙ counted-front none_counted shows.items log.first (before - log.first) ∙ ap (λ n. counted none_counted (take n shows.items)) place;
    }

pub shown_items : ShownItems
shown_items framing events log shows =
    let all : items_of framing events ≡ shows.items = (heard_items framing events (record { items = shows.items; rests = log.rests }) shows.is_heard).0 in
    (omega (arith, ap length shows.kept, length-drop log.first shows.items, ap length all, shows.given_up), shows.kept ∙ ap (drop log.first) (sym all))
