-- Why a session that follows wasn't released, and that an event was asked for where none may be taken any more.
use Rattle.std.specs.Prelude.{Err, List, ℕ, ◌≡◌}
use Rattle.session_following.specs.declared.unfollowed.Unfollowed.TheVariants as unfollowed
use Rattle.rx_engine.proofs.Terms.{subst, sym, ◌∙◌, false≢true, Result, false, true, Told, Seen, Image, Stop, Rules, Noted, AsksForMore, Handed, SessionState, Unfollowed, IsUnfollowed, StoppedOn}
use Rattle.rx_engine.proofs.RequestLemmas.{unfollowed_asked}

-- one cause alone is answered
pub same_why : {T E : Type 0} {first why : E} → ◌≡◌ {A = Result T E} (Err first) (Err why) → first ≡ why
same_why is = cc

module _ {R : Type 0} (rules : Rules) (image : Image) (handed : Handed) (told : Told) (seen : Seen) (before noted : Noted) (session : SessionState R) where
  abbrev pub StopsAsked : Unfollowed → Type 0
  StopsAsked why = (stopped : IsUnfollowed rules image handed told seen before noted session.cpu.slots.live.steps session why) × (seen.takes ≡ false → AsksForMore rules image handed stopped.events)

  -- events may be taken still
  pub taking_still : {first why : Unfollowed} → seen.takes ≡ true → first ≡ why → IsUnfollowed rules image handed told seen before noted session.cpu.slots.live.steps session first → StopsAsked why
  taking_still takes is stopped = subst StopsAsked is (stopped, λ fell. absurd (false≢true (sym fell ∙ takes)))

  -- one was asked for
  pub ended_asked : {first why : Unfollowed} → first ≡ why → (stopped : IsUnfollowed rules image handed told seen before noted session.cpu.slots.live.steps session first) × AsksForMore rules image handed stopped.events → StopsAsked why
  ended_asked is ended = subst StopsAsked is (ended.0, λ fell. ended.1)

  pub hearing_asked : {missing : List ℕ} {first : Stop} {why : Unfollowed} → unfollowed.Stops first ≡ why → (e : StoppedOn rules image handed told seen before noted missing session first) × AsksForMore rules image handed e.waited.waits.asking.stands.events
      → session.cpu.slots.live.steps ≡ session.steps → StopsAsked why
  hearing_asked {first = first} is e counted =
      let s = e.0.waited.waits.asking.stands in
      let same = e.0.waited.same in
      ended_asked is (unfollowed_asked e.0.last (unfollowed.Stops first) s same.recorded same.choices same.taken same.steps e.0.heard e.0.cause (counted ∙ (same.steps ∙ s.follows.stands.answers.steps)) e.1)
