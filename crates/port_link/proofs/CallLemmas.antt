-- What one call on a port, or none, makes of what a link over it tells.
use Rattle.ports.specs.declared.port_calls.PortEntry.TheVariants as made
use Rattle.port_link.proofs.Terms.{Awaited, List, None, Option, Some, [], ap, append-nil, refl, subst, sym, ℕ, ◌++◌, ◌∙◌, ◌∷◌, ◌≡◌, none-some, same_Some, Entry, tells_more, Tells, PortEntry, Ready, Logs, Place, PortLimits, AreCalls, IsCall, Served, after_call, served_after, served_of, Agrees, IsAt, IsJustBound, IsWhole, WasReady, link_journal, told_at, WentOn, served_of-append}

-- no call was made
pub logs_same : (told : Option (List PortEntry)) → Logs told told []
logs_same None = tt
logs_same (Some calls) = sym (append-nil calls)

pub served_push : (old new : List PortEntry) (call : PortEntry) → new ≡ old ++ call ∷ [] → served_of new ≡ after_call (served_of old) call
unfolding served_after
served_push old new call grew = ap served_of grew ∙ served_of-append old (call ∷ [])

-- a port was just bound
pub just_bound : (old new : Option (List PortEntry)) (served : ℕ) → Logs old new (made.Bound served ∷ []) → IsJustBound new
unfolding after_call
just_bound old None served logs = λ calls is. absurd (none-some calls is)
just_bound None (Some new) served logs = absurd logs
just_bound (Some old) (Some new) served logs = λ calls is. served_push old calls (made.Bound served) (sym (same_Some new calls is) ∙ logs)

-- a wait answered
pub ready_one : (old new : Option (List PortEntry)) (awaited : Awaited) (ready : Ready) → Logs old new (made.Waited awaited ready ∷ []) → WasReady ready new
unfolding after_call
ready_one old None awaited ready logs = λ calls is. absurd (none-some calls is)
ready_one None (Some new) awaited ready logs = absurd logs
ready_one (Some old) (Some new) awaited ready logs = λ calls is. ap (λ (served : Served). served.ready) (served_push old calls (made.Waited awaited ready) (sym (same_Some new calls is) ∙ logs))

pub served_kept : (old new : List PortEntry) → new ≡ old ++ [] → served_of new ≡ served_of old
served_kept old new grew = ap served_of (grew ∙ append-nil old)

pub went_one : (limits : PortLimits) (old new : Option (List PortEntry)) (call : PortEntry) → Logs old new (call ∷ []) → ((calls : List PortEntry) → old ≡ Some calls → IsCall limits (served_of calls) call) → WentOn limits old new
unfolding AreCalls
went_one limits None None call logs is = tt
went_one limits None (Some new) call logs is = absurd logs
went_one limits (Some old) None call logs is = absurd logs
went_one limits (Some old) (Some new) call logs is = record { calls = call ∷ []; grew = logs; are = (is old refl, tt) }

pub went_none : (limits : PortLimits) (old new : Option (List PortEntry)) → Logs old new [] → WentOn limits old new
unfolding AreCalls
went_none limits None None logs = tt
went_none limits None (Some new) logs = absurd logs
went_none limits (Some old) None logs = absurd logs
went_none limits (Some old) (Some new) logs = record { calls = []; grew = logs; are = tt }

pub agrees_one : (old new : Option (List PortEntry)) (call : PortEntry) (later : Place) → Logs old new (call ∷ []) → ((calls : List PortEntry) → old ≡ Some calls → IsAt later (after_call (served_of calls) call)) → Agrees new later
agrees_one old None call later logs at = λ calls is. absurd (none-some calls is)
agrees_one None (Some new) call later logs at = absurd logs
agrees_one (Some old) (Some new) call later logs at = λ calls is.
    subst (IsAt later) (sym (served_push old calls call (sym (same_Some new calls is) ∙ logs))) (at old refl)

pub agrees_none : (old new : Option (List PortEntry)) (place later : Place) → Logs old new [] → ((served : Served) → IsAt place served → IsAt later served) → Agrees old place → Agrees new later
agrees_none old None place later logs at agrees = λ calls is. absurd (none-some calls is)
agrees_none None (Some new) place later logs at agrees = absurd logs
agrees_none (Some old) (Some new) place later logs at agrees = λ calls is.
    subst (IsAt later) (sym (served_kept old calls (sym (same_Some new calls is) ∙ logs))) (at (served_of old) (agrees old refl))

pub whole_one : (old new : Option (List PortEntry)) (call : PortEntry) → Logs old new (call ∷ []) → ((served : Served) → served.part ≡ [] → (after_call served call).part ≡ []) → IsWhole old → IsWhole new
whole_one old None call logs keeps whole = λ calls is. absurd (none-some calls is)
whole_one None (Some new) call logs keeps whole = absurd logs
whole_one (Some old) (Some new) call logs keeps whole = λ calls is.
    ap (λ (served : Served). served.part) (served_push old calls call (sym (same_Some new calls is) ∙ logs)) ∙ keeps (served_of old) (whole old refl)

pub whole_none : (old new : Option (List PortEntry)) → Logs old new [] → IsWhole old → IsWhole new
whole_none old None logs whole = λ calls is. absurd (none-some calls is)
whole_none None (Some new) logs whole = absurd logs
whole_none (Some old) (Some new) logs whole = λ calls is.
    ap (λ (served : Served). served.part) (served_kept old calls (sym (same_Some new calls is) ∙ logs)) ∙ whole old refl

pub tells_one : (old new : Option (List PortEntry)) (call : PortEntry) (place later : Place) (more : List Entry) → Logs old new (call ∷ [])
    → ((calls : List PortEntry) → old ≡ Some calls → link_journal later (after_call (served_of calls) call) ≡ link_journal place (served_of calls) ++ more) → Tells (told_at old place) (told_at new later) more
unfolding told_at
tells_one None None call place later more logs journal = record { events = tt; pieces = tt; journal = tt }
tells_one None (Some new) call place later more logs journal = absurd logs
tells_one (Some old) None call place later more logs journal = absurd logs
tells_one (Some old) (Some new) call place later more logs journal =
    tells_more (link_journal place (served_of old)) (link_journal later (served_of new)) more (ap (link_journal later) (served_push old new call logs) ∙ journal old refl)

pub tells_none : (old new : Option (List PortEntry)) (place later : Place) (more : List Entry) → Logs old new []
    → ((calls : List PortEntry) → old ≡ Some calls → link_journal later (served_of calls) ≡ link_journal place (served_of calls) ++ more) → Tells (told_at old place) (told_at new later) more
unfolding told_at
tells_none None None place later more logs journal = record { events = tt; pieces = tt; journal = tt }
tells_none None (Some new) place later more logs journal = absurd logs
tells_none (Some old) None place later more logs journal = absurd logs
tells_none (Some old) (Some new) place later more logs journal =
    tells_more (link_journal place (served_of old)) (link_journal later (served_of new)) more (ap (link_journal later) (served_kept old new logs) ∙ journal old refl)
