-- An event that is heeded isn't refused.
use Rattle.links.specs.declared.journal.Entry.TheVariants as entry
use Rattle.links.specs.declared.journal.LinkEvent.TheVariants as event
use Rattle.session_history.proofs.Terms.{List, Option, Some, [], ap, arith, inl, inr, length, length-append, refl, subst, sym, ◌++◌, ◌∙◌, ◌∷◌, ◌≡◌, same_from_push, is_none, Entry, LinkEvent, Ends, events_in, AreHeeded, Bounds, Unheeded, events_of, heeded, refusal, IsLastRefused}
use Rattle.session_history.proofs.Heeding.{events_of-append, refused_unheeded}
use Rattle.session_history.proofs.Heeded.{heeded_front, heeded_then}

-- an event that is heeded isn't refused
last_unrefused : (bounds : Bounds) (events : List LinkEvent) (last : LinkEvent) (cause : Unheeded) → heeded bounds (events ++ last ∷ []) ≡ events ++ last ∷ [] → refusal bounds events last ≡ Some cause → ⊥
last_unrefused bounds events last cause all refused =
    let front = heeded_front bounds [] events in
    let longer = length-append events (last ∷ []) in
    elim (heeded_then bounds [] events last) [
      | inl same ↦ absurd (omega (arith, ap length front.1, length-append (heeded bounds events) front.0, longer, ap length (sym same ∙ all)))
      | inr grown ↦
          let unheeded = refused_unheeded bounds events last ((same_from_push (heeded bounds events) events last last (sym grown ∙ all)).0) (ap (λ (r : Option Unheeded). is_none r) refused) in
          absurd (omega (arith, longer, ap length (sym unheeded ∙ all)))
    ]

-- where every event is heeded, the last isn't refused
refused_not : (bounds : Bounds) (entries before : List Entry) (event : LinkEvent) (cause : Unheeded) → AreHeeded bounds entries → entries ≡ before ++ entry.Took event ∷ [] → events_in (entry.Took event ∷ []) ≡ event ∷ [] → refusal bounds (events_of bounds before) event ≡ Some cause → ⊥
refused_not bounds entries before event cause heeds last is refused =
    let events : events_of bounds entries ≡ events_of bounds before ++ event ∷ [] =
    ap (events_of bounds) last ∙ events_of-append bounds before (entry.Took event ∷ []) ∙ ap (λ es. events_of bounds before ++ es) is in
    last_unrefused bounds (events_of bounds before) event cause (subst (λ es. heeded bounds es ≡ es) events heeds) refused

pub none_refused : (bounds : Bounds) (entries : List Entry) (cause : Unheeded) → AreHeeded bounds entries → IsLastRefused bounds entries cause → ⊥
none_refused bounds entries cause heeds last = of last.event last.last last.no_end last.refused
  where
    of : (e : LinkEvent) → entries ≡ last.before ++ entry.Took e ∷ [] → (e ≡ Ends → ⊥) → refusal bounds (events_of bounds last.before) e ≡ Some cause → ⊥
    of (event.Opens conn) split counts refused = refused_not bounds entries last.before (event.Opens conn) cause heeds split refl refused
    of (event.Piece conn bytes) split counts refused = refused_not bounds entries last.before (event.Piece conn bytes) cause heeds split refl refused
    of (event.Closes conn) split counts refused = refused_not bounds entries last.before (event.Closes conn) cause heeds split refl refused
    of event.Settles split counts refused = refused_not bounds entries last.before event.Settles cause heeds split refl refused
    of event.Ends split counts refused = absurd (counts refl)
