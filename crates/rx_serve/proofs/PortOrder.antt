-- No connection of a port is opened that was closed before.
use Rattle.std.proofs.Common.{◌==◌, if◌then◌else◌}
use Rattle.links.specs.declared.journal.Entry.TheVariants as entry
use Rattle.links.specs.declared.journal.LinkEvent.TheVariants as event
use Rattle.links.proofs.Journaled.{events_in-append}
use Rattle.ports.specs.declared.port_calls.PortEntry.TheVariants as made
use Rattle.ports.specs.declared.port_calls.FailedCall.TheVariants as call
use Rattle.port_link.specs.declared.place.Stage.{Stage}
use Rattle.port_link.specs.declared.place.Stage.TheVariants.{Broken, Closed, Dropped, Ended, Open, Unopened}
use Rattle.port_link.specs.Stages.{broken, is_present}
use Rattle.port_link.specs.Served.{AreCalls, IsCall, Served, after_call, closed_entries, entries_of, fresh_served, gives_all, gives_part, is_closable, served_after, takes_bytes, with_part, with_stage}
use Rattle.port_link.specs.Standing.{with_ends}
use Rattle.rx_serve.proofs.Terms.{Bool, List, [], ap, append-nil, arith, false, inl, inr, length, nat_lt, refl, subst, suc, sym, true, zero, ℕ, ◌++◌, ◌+◌, ◌<◌, ◌∙◌, ◌∷◌, ◌≡◌, ◌≤◌, cases_lt, ne_eqb, Entry, LinkEvent, events_in, PortEntry, PortLimits, OpensOnce, closes}
use Rattle.rx_serve.proofs.Opening.{closes_no_more, closes_other, none_mid, once_more, opened_conn}

-- events open each connection once, and none of those that come behind so many was closed
record InNumber (accepted : ℕ) (events : List LinkEvent) : Type 0 where
  once : OpensOnce events
  behind : (other : ℕ) → accepted ≤ other → closes other events ≡ false

number_opens : (accepted : ℕ) (events : List LinkEvent) → InNumber accepted events → InNumber (accepted + 1) (events ++ event.Opens accepted ∷ [])
number_opens accepted events numbered = record {
  once = once_more events (event.Opens accepted) numbered.once (λ other same. subst (λ (n : ℕ). closes n events ≡ false) (ap (opened_conn accepted) same) (numbered.behind accepted (omega arith)));
  behind = λ other less. closes_no_more other events (event.Opens accepted) refl (numbered.behind other (omega arith));
}

number_piece : (accepted conn : ℕ) (events : List LinkEvent) (bytes : List ℕ) → InNumber accepted events → InNumber accepted (events ++ event.Piece conn bytes ∷ [])
number_piece accepted conn events bytes numbered = record {
  once = once_more events (event.Piece conn bytes) numbered.once (λ other same. cc);
  behind = λ other less. closes_no_more other events (event.Piece conn bytes) refl (numbered.behind other less);
}

number_closes : (accepted conn : ℕ) (events : List LinkEvent) → conn < accepted → InNumber accepted events → InNumber accepted (events ++ event.Closes conn ∷ [])
number_closes accepted conn events few numbered = record {
  once = once_more events (event.Closes conn) numbered.once (λ other same. cc);
  behind = λ other less. closes_no_more other events (event.Closes conn) (closes_other conn other (omega arith)) (numbered.behind other less);
}

gave_events : (entries : List Entry) (conn : ℕ) (bytes : List ℕ) (gone : Bool) → events_in (entries ++ entry.Gave conn bytes gone ∷ []) ≡ events_in entries
gave_events entries conn bytes gone = events_in-append entries (entry.Gave conn bytes gone ∷ []) ∙ append-nil (events_in entries)

part_events : (entries : List Entry) (conn : ℕ) (part : List ℕ) → events_in (with_part entries conn part) ≡ events_in entries
part_events entries conn [] = refl
part_events entries conn (byte ∷ part) = gave_events entries conn (byte ∷ part) false

-- nothing was answered of the connections behind so many
abbrev AreFresh : ℕ → (ℕ → Stage) → Type 0
AreFresh accepted stages = (other : ℕ) → accepted ≤ other → stages other ≡ Unopened

record IsNumbered (served : Served) : Type 0 where
  events : InNumber served.accepted (events_in (entries_of served))
  fresh : AreFresh served.accepted served.stages

-- one of which something was answered is one of those
among : (accepted conn : ℕ) (stages : ℕ → Stage) → AreFresh accepted stages → (stages conn ≡ Unopened → ⊥) → conn < accepted
among accepted conn stages fresh some = elim (cases_lt conn accepted) [
  | inl less ↦ less
  | inr past ↦ absurd (some (fresh conn past))
]

open_among : (stage : Stage) → stage ≡ Open → stage ≡ Unopened → ⊥
open_among stage opened is = let same : Open ≡ Unopened = sym opened ∙ is in cc

present_among : (stage : Stage) → is_present stage ≡ true → stage ≡ Unopened → ⊥
present_among stage there is = let same : false ≡ true = sym (ap is_present is) ∙ there in cc

closable_among : (stage : Stage) → is_closable stage ≡ true → stage ≡ Unopened → ⊥
closable_among stage there is = let same : false ≡ true = sym (ap is_closable is) ∙ there in cc

other_stage : (test : Bool) (stage rest : Stage) → test ≡ false → rest ≡ Unopened → (if test then stage else rest) ≡ Unopened
other_stage true stage rest is none = cc
other_stage false stage rest is none = none

fresh_with : (accepted conn : ℕ) (stage : Stage) (stages : ℕ → Stage) → conn < accepted → AreFresh accepted stages → AreFresh accepted (with_stage conn stage stages)
fresh_with accepted conn stage stages few fresh other past = other_stage (other == conn) stage (stages other) (ne_eqb other conn (λ same. omega arith)) (fresh other past)

-- ---- what calls make of it

number_event : (accepted : ℕ) (entries : List Entry) (taken : LinkEvent) → events_in (entry.Took taken ∷ []) ≡ taken ∷ [] → InNumber accepted (events_in entries ++ taken ∷ []) → InNumber accepted (events_in (entries ++ entry.Took taken ∷ []))
number_event accepted entries taken one numbered =
    subst (λ (list : List LinkEvent). InNumber accepted list) (sym (events_in-append entries (entry.Took taken ∷ []) ∙ ap (λ (list : List LinkEvent). events_in entries ++ list) one)) numbered

took_numbered : (conn : ℕ) (bytes : List ℕ) (served : Served) → conn < served.accepted → IsNumbered served → IsNumbered (takes_bytes conn bytes served)
took_numbered conn [] served few numbered = record {
  events = number_event served.accepted (entries_of served) (event.Closes conn) refl (number_closes served.accepted conn (events_in (entries_of served)) few numbered.events);
  fresh = fresh_with served.accepted conn Ended served.stages few numbered.fresh;
}
took_numbered conn (byte ∷ bytes) served few numbered = record {
  events = number_event served.accepted (entries_of served) (event.Piece conn (byte ∷ bytes)) refl (number_piece served.accepted conn (events_in (entries_of served)) (byte ∷ bytes) numbered.events);
  fresh = numbered.fresh;
}

part_numbered : (conn : ℕ) (bytes : List ℕ) (served : Served) → IsNumbered served → IsNumbered (gives_part conn bytes served)
part_numbered conn [] served numbered = numbered
part_numbered conn (byte ∷ bytes) served numbered = record {
  events = subst (λ (list : List LinkEvent). InNumber served.accepted list) (part_events served.entries served.to served.part ∙ sym (part_events served.entries conn (served.part ++ byte ∷ bytes))) numbered.events;
  fresh = numbered.fresh;
}

gave_numbered : (conn : ℕ) (cut : Bool) (bytes : List ℕ) (served : Served) → IsNumbered served → IsNumbered (if cut then gives_part conn bytes served else gives_all conn bytes served)
gave_numbered conn true bytes served numbered = part_numbered conn bytes served numbered
gave_numbered conn false bytes served numbered = record {
  events = subst (λ (list : List LinkEvent). InNumber served.accepted list) (part_events served.entries served.to served.part ∙ sym (gave_events served.entries conn (served.part ++ bytes) false)) numbered.events;
  fresh = numbered.fresh;
}

closed_numbered : (accepted conn : ℕ) (stage : Stage) (entries : List Entry) → conn < accepted → InNumber accepted (events_in entries) → InNumber accepted (events_in (closed_entries stage conn entries))
closed_numbered accepted conn Broken entries few numbered = number_event accepted entries (event.Closes conn) refl (number_closes accepted conn (events_in entries) few numbered)
closed_numbered accepted conn Unopened entries few numbered = numbered
closed_numbered accepted conn Open entries few numbered = numbered
closed_numbered accepted conn Ended entries few numbered = numbered
closed_numbered accepted conn Dropped entries few numbered = numbered
closed_numbered accepted conn Closed entries few numbered = numbered

opened_numbered : (conn : ℕ) (served : Served) → conn ≡ served.accepted → IsNumbered served → InNumber (served.accepted + 1) (events_in (entries_of served ++ entry.Took (event.Opens conn) ∷ []))
opened_numbered conn served is numbered =
    number_event (served.accepted + 1) (entries_of served) (event.Opens conn) refl
    (subst (λ (n : ℕ). InNumber (served.accepted + 1) (events_in (entries_of served) ++ event.Opens n ∷ [])) (sym is) (number_opens served.accepted (events_in (entries_of served)) numbered.events))

after_numbered : (limits : PortLimits) (served : Served) (next : PortEntry) → IsCall limits served next → IsNumbered served → IsNumbered (after_call served next)
unfolding after_call
after_numbered limits served (made.Bound number) is numbered = absurd is
after_numbered limits served (made.Waited awaited ready) is numbered = record { events = numbered.events; fresh = numbered.fresh }
after_numbered limits served (made.Accepted conn) is numbered =
    let here = is.0 in record {
      events = opened_numbered conn served here numbered;
      fresh = λ other past. fresh_with (served.accepted + 1) conn Open served.stages (omega arith) (λ one less. numbered.fresh one (omega arith)) other past;
    }
after_numbered limits served (made.Took conn bytes room) is numbered =
    took_numbered conn bytes served (among served.accepted conn served.stages numbered.fresh (open_among (served.stages conn) is.0)) numbered
after_numbered limits served (made.Gave conn bytes offered) is numbered = gave_numbered conn (nat_lt (length bytes) offered) bytes served numbered
after_numbered limits served (made.Closed conn) is numbered =
    let few = among served.accepted conn served.stages numbered.fresh (closable_among (served.stages conn) is) in record {
      events = closed_numbered served.accepted conn (served.stages conn) (entries_of served) few numbered.events;
      fresh = fresh_with served.accepted conn Closed served.stages few numbered.fresh;
    }
after_numbered limits served (made.Failed call.Bind) is numbered = absurd is
after_numbered limits served (made.Failed call.Wait) is numbered = record { events = numbered.events; fresh = numbered.fresh }
after_numbered limits served (made.Failed call.Accept) is numbered = record { events = numbered.events; fresh = numbered.fresh }
after_numbered limits served (made.Failed (call.Take conn)) is numbered =
    took_numbered conn [] served (among served.accepted conn served.stages numbered.fresh (open_among (served.stages conn) is.0)) numbered
after_numbered limits served (made.Failed (call.Give conn)) is numbered =
    let few = among served.accepted conn served.stages numbered.fresh (present_among (served.stages conn) is.0) in record {
      events = subst (λ (list : List LinkEvent). InNumber served.accepted list) (part_events served.entries served.to served.part ∙ sym (gave_events served.entries conn (served.part ++ []) true)) numbered.events;
      fresh = fresh_with served.accepted conn (broken (served.stages conn)) served.stages few numbered.fresh;
    }

calls_numbered : (limits : PortLimits) (served : Served) (calls : List PortEntry) → AreCalls limits served calls → IsNumbered served → IsNumbered (served_after served calls)
unfolding served_after AreCalls
calls_numbered limits served [] are numbered = numbered
calls_numbered limits served (next ∷ calls) are numbered = calls_numbered limits (after_call served next) calls are.1 (after_numbered limits served next are.0 numbered)

fresh_numbered : IsNumbered fresh_served
fresh_numbered = record { events = record { once = none; behind = λ other less. refl }; fresh = λ other past. refl }
  where
    none : OpensOnce []
    none before after conn same = absurd (none_mid before after (event.Opens conn) same)

ends_once : (ends : ℕ) (entries : List Entry) → OpensOnce (events_in entries) → OpensOnce (events_in (with_ends ends entries))
ends_once zero entries once = once
ends_once (suc n) entries once =
    subst OpensOnce (sym (events_in-append (with_ends n entries) (entry.Took event.Ends ∷ []) ∙ append-nil (events_in (with_ends n entries)))) (ends_once n entries once)

-- so is it in the journal of a link
pub opens_once : (limits : PortLimits) (ends : ℕ) (calls : List PortEntry) → AreCalls limits fresh_served calls → OpensOnce (events_in (with_ends ends (entries_of (served_after fresh_served calls))))
opens_once limits ends calls are = ends_once ends (entries_of (served_after fresh_served calls)) (calls_numbered limits fresh_served calls are fresh_numbered).events.once
