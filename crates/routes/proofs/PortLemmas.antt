-- What a session over a port leaves, by what it leaves over a link.
use Rattle.links.specs.declared.journal.Entry.TheVariants as entry
use Rattle.port_link.specs.declared.place.Place.{Place}
use Rattle.port_link.specs.CallLaws.{served_of-append}
use Rattle.port_link.specs.Served.{IsOver}
use Rattle.port_link.specs.Steps.{Calls, WentOn}
use Rattle.port_link.proofs.EndLemmas.{ended_whole, over_at}
use Rattle.session_history.specs.declared.ends.SessionEnd.TheVariants as session_end
use Rattle.session_history.specs.Giving.{AreGiven}
use Rattle.session_history.specs.Lawful as lawful
use Rattle.session_history.specs.Owing.{Moment}
use Rattle.port_link.specs.PortLinks.{told_nothing}
use Rattle.routes.proofs.Terms.{Bool, List, None, Option, Some, [], ap, append_assoc, false, if◌then◌else◌, refl, subst, sym, true, ℕ, ◌++◌, ◌<◌, ◌==◌, ◌∙◌, ◌∷◌, ◌≡◌, IfSome, is_some, unwrap_or, Send, sent_to, Entry, LinkEvent, gave, took, ComesUntold, Coming, Grew, HasEnded, Told, last_taken, Seen, PortEntry, PortLimits, AreCalls, Served, entries_of, fresh_served, served_after, served_of, IsJustBound, Stands, link_journal, told_at, with_ends, Image, SessionEnd, Stop, came_to, none_had, IsBroken, Session, after_ending, journal_of, AtBreak, IsEnded, before_end, Bounds, nothing_before, Rules, passed_behind, Noted, Keeping, HasRecovered, IsOutcome, Outcome, CalledPort, EndsAfter, GoesOverPort, Port, RecordsAt, Watches}
use Rattle.routes.proofs.PortCallLemmas.{ends_over, given_is, open_at_most, taken_is}

-- what entries gave to a connection was passed to it
gave_passed : (bounds : Bounds) (conn : ℕ) (before entries : List Entry) → gave conn entries ≡ sent_to conn (passed_behind bounds before entries)
gave_passed bounds conn before [] = refl
gave_passed bounds conn before (entry.Took event ∷ entries) = gave_passed bounds conn (before ++ entry.Took event ∷ []) entries
gave_passed bounds conn before (entry.Gave to bytes gone ∷ entries) =
    ap (λ (l : List ℕ). (if to == conn then bytes else []) ++ l) (gave_passed bounds conn (before ++ entry.Gave to bytes gone ∷ []) entries)

-- behind pieces alone, what was taken last is as before
given_none : (entries : List Entry) → AreGiven entries → last_taken entries ≡ None
given_none [] are = refl
given_none (entry.Gave conn bytes gone ∷ entries) are = given_none entries are
given_none (entry.Took event ∷ entries) are = absurd are

broken_none : (rules : Rules) (sends : List Send) (moment : Moment) (entries : List Entry) → IsBroken rules sends moment entries → last_taken entries ≡ None
broken_none rules sends moment [] is = refl
broken_none rules sends moment (entry.Gave conn bytes false ∷ []) is = refl
broken_none rules sends moment (entry.Gave conn bytes false ∷ (one ∷ more)) is = absurd is
broken_none rules sends moment (entry.Gave conn bytes true ∷ more) is = absurd is
broken_none rules sends moment (entry.Took event ∷ more) is = absurd is

last_behind : (entries more : List Entry) → last_taken more ≡ None → last_taken (entries ++ more) ≡ last_taken entries
last_behind [] more none = none
last_behind (entry.Gave conn bytes gone ∷ entries) more none = last_behind entries more none
last_behind (entry.Took event ∷ entries) more none = ap (λ (found : Option LinkEvent). Some (unwrap_or found event)) (last_behind entries more none)

-- a session whose link had ended before its end has a journal that has ended
still_ended : {rules : Rules} {image : Image} {coming : Option Coming} {why : Stop} (session : Session) → IsEnded rules image coming session why → HasEnded (before_end session) → HasEnded (journal_of session)
still_ended {rules = rules} session is ended =
    let none : last_taken (session.ending ++ session.broken) ≡ None =
    last_behind session.ending session.broken (broken_none rules session.survivor.now.state.sends (after_ending session (is_some session.came)) session.broken is.account.broken) ∙ given_none session.ending is.pieces in
    ap last_taken (sym (append_assoc (lawful.entries_of session.earlier) session.since (session.ending ++ session.broken))) ∙ last_behind (before_end session) (session.ending ++ session.broken) none ∙ ended

-- the calls that a session's link made
called : (limits : PortLimits) (rules : Rules) {image : Image} {why : Stop} (old new : List PortEntry) (connections : List Bool) (place : Place) (session : Session) → rules.bounds.before ≡ nothing_before → IsJustBound (Some old) → Calls limits old new
    → Stands (Some new) connections limits place → link_journal place (served_of new) ≡ journal_of session → IsEnded rules image (Some ComesUntold) session why → CalledPort limits rules old new session
unfolding link_journal
called limits rules old new connections place session alone bound went stands journal is = record {
  calls = went.calls;
  grew = went.grew;
  are = are;
  made = record { ends = place.ends; ended = ended; entries_are = made };
  moved = record {
    given = λ conn. given_is limits conn place.ends went.calls are ∙ ap (gave conn) (sym made) ∙ gave_passed rules.bounds conn [] (journal_of session)
        ∙ ap (λ (had : List Send). sent_to conn (had ++ passed_behind rules.bounds [] (journal_of session))) (sym (none_had rules.bounds alone));
    taken = λ conn. taken_is limits conn place.ends went.calls are ∙ ap (took conn) (sym made);
  };
  at_most = open_at_most limits went.calls are;
  ends = ends session.came refl;
}
  where
    leads : served_of new ≡ served_after fresh_served went.calls
    leads = ap served_of went.grew ∙ served_of-append old went.calls ∙ ap (λ (served : Served). served_after served went.calls) (bound old refl)

    are : AreCalls limits fresh_served went.calls
    are = subst (λ (served : Served). AreCalls limits served went.calls) (bound old refl) went.are

    made : journal_of session ≡ with_ends place.ends (entries_of (served_after fresh_served went.calls))
    made = sym journal ∙ ap (λ (served : Served). with_ends place.ends (entries_of served)) leads

    ended : 0 < place.ends → IsOver limits (served_after fresh_served went.calls).accepted (served_after fresh_served went.calls).closed (served_after fresh_served went.calls).stopped
    ended some = subst (λ (served : Served). IsOver limits served.accepted served.closed served.stopped) leads (over_at limits place (served_of new) (stands.agrees new refl) (stands.ended some))

    finished : session.came ≡ Some session_end.Finished → EndsAfter limits went.calls session_end.Finished
    finished came =
        let last = ended_whole (Some new) connections limits place new stands refl (subst HasEnded (sym journal) (still_ended session is (came_to {rules = rules} {coming = Some ComesUntold} {session = session} {end = session_end.Finished} is.comes came).stands.1)) in
        let there : IsOver limits (served_after fresh_served went.calls).accepted (served_after fresh_served went.calls).closed (served_after fresh_served went.calls).stopped =
        subst (λ (served : Served). IsOver limits served.accepted served.closed served.stopped) leads last in
        ends_over limits went.calls are there

    ends : (came : Option SessionEnd) → session.came ≡ came → IfSome came (EndsAfter limits went.calls)
    ends None came = tt
    ends (Some session_end.Finished) came = finished came
    ends (Some _) came = tt

-- where the port tells them
goes_over : (limits : PortLimits) (rules : Rules) {image : Image} {why : Stop} (old new : Option (List PortEntry)) (connections : List Bool) (place : Place) (session : Session) → rules.bounds.before ≡ nothing_before → IsJustBound old → WentOn limits old new
    → Stands new connections limits place → Grew (told_nothing old).journal (told_at new place).journal (journal_of session) → IsEnded rules image (Some ComesUntold) session why → GoesOverPort limits rules old new session
unfolding told_at
goes_over limits rules None None connections place session alone bound went stands grew is = tt
goes_over limits rules None (Some new) connections place session alone bound went stands grew is = absurd went
goes_over limits rules (Some old) None connections place session alone bound went stands grew is = absurd went
goes_over limits rules (Some old) (Some new) connections place session alone bound went stands grew is = called limits rules old new connections place session alone bound went stands grew is

-- a session over a link that was made over a port
pub serves : (limits : PortLimits) (rules : Rules) (keeping : Keeping) (image : Image) {old new : Option (List PortEntry)} {connections : List Bool} {place : Place} (before seen : Seen) {outcome : Outcome} {noted_before noted_now : Noted} {counted : ℕ} {first last : PortLimits}
    → rules.bounds.before ≡ nothing_before → IsJustBound old → first ≡ limits → last ≡ first → WentOn first old new → Stands new connections last place → before.told ≡ told_nothing old → seen.told ≡ told_at new place → seen.coming ≡ Some ComesUntold
    → (recovered : HasRecovered rules image keeping before seen outcome noted_before noted_now counted) → AtBreak outcome.stop (RecordsAt rules image keeping recovered.telling outcome noted_before noted_now)
    → Watches (Port limits old new) rules keeping image outcome noted_before noted_now counted None None
serves limits rules keeping image {old = old} {new = new} {connections = connections} {place = place} before seen {outcome = outcome} {noted_before = noted_before} {noted_now = noted_now} {counted = counted} {first = first} {last = last}
    alone bound first_is last_is went stands began told coming recovered recorded = record {
      serves = record {
        coming = Some ComesUntold;
        telling = recovered.telling;
        is = is;
        recorded = recorded;
        goes = (
          refl,
          goes_over limits rules old new connections place recovered.telling.account alone bound (subst (λ (l : PortLimits). WentOn l old new) first_is went) (subst (λ (l : PortLimits). Stands new connections l place) (last_is ∙ first_is) stands) grew is.is.ended,
        );
      };
      watched = refl;
    }
  where
    is : IsOutcome rules image keeping (Some ComesUntold) recovered.telling outcome noted_before noted_now counted
    is = subst (λ (next : Option Coming). IsOutcome rules image keeping next recovered.telling outcome noted_before noted_now counted) coming recovered.is

    grew : Grew (told_nothing old).journal (told_at new place).journal (journal_of recovered.telling.account)
    grew =
        subst (λ (told_first : Told). Grew told_first.journal (told_at new place).journal (journal_of recovered.telling.account)) began
        (subst (λ (now : Told). Grew before.told.journal now.journal (journal_of recovered.telling.account)) told recovered.shows.tells.journal)
