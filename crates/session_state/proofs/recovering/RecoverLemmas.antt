-- A failure, and what is due behind an adoption.
use Rattle.session_history.specs.declared.ends.SessionEnd.TheVariants as session_end
use Rattle.session_history.specs.declared.ends.Stop.TheVariants as stop
use Rattle.session_state.proofs.Lemmas.{still_takes, none_noted}
use Rattle.session_state.proofs.Terms.{Bool, Err, List, None, Ok, Option, Result, Some, [], arith, refl, subst, sym, true, ℕ, ◌++◌, ◌+◌, ◌∙◌, ◌∷◌, ◌≡◌, none-some, same_Some, option_map, IoFault, Grew, Seen, Ledger, Image, Cause, SessionEnd, Stop, Rules, CanGive, Episode, Try, EpisodeShows, Noted, Shown, Adopted, SessionState, HasMissed, HasNotedMore, IsEnding, IsFailing, IsGoing, Since, AdoptsTo, ComesBetween, HasSameOpen, TakesAtEnd, end_of}

-- the same connections are given to
pub gives_same : {seen : Seen} {old new : Ledger} → HasSameOpen old new → CanGive seen old → CanGive seen new
gives_same same can = record { gives_still = can.gives_still; connected = λ conn is. can.connected conn (sym (same conn) ∙ is) }

-- an end that a recovery comes to
pub adopted_takes : (point : ℕ) (cause : Cause) (adopted : Option Adopted) {end : SessionEnd} {takes : Bool} → takes ≡ true → end_of point cause adopted ≡ Some end → TakesAtEnd takes end
adopted_takes point cause None {end = end} {takes = takes} still is = subst (TakesAtEnd takes) (same_Some (session_end.GaveUp point cause) end is) still
adopted_takes point cause (Some adopted) {end = end} {takes = takes} still is = of adopted.code is
  where
    of : (code : Option ℕ) → option_map session_end.Exited code ≡ Some end → TakesAtEnd takes end
    of None none = absurd (none-some end none)
    of (Some code) found = subst (TakesAtEnd takes) (same_Some (session_end.Exited code) end found) still

-- one number that is counted by two equations
pub lost_behind : {lost more all steps before : ℕ} (old : ℕ) → lost + steps + old ≡ all → more + before + old ≡ all → steps ≡ before → lost ≡ more
lost_behind old counts others same = omega (arith, counts, others, same)

-- what notes tell with an episode more
pub noted_episode : {shown now : Shown} {episode : Episode} → EpisodeShows shown now episode (Ok tt) → HasNotedMore shown.told now.told [] (episode ∷ [])
noted_episode {shown = shown} shows = record {
  choices_more = subst (λ c. Grew shown.told.choices c []) (sym shows.choices) (none_noted {noted = shown.told}).choices_more;
  episodes_more = shows.noted;
  unnoted_same = shows.handed;
}

-- and where it wasn't noted
pub missed_episode : {shown now : Shown} {episode : Episode} {fault : IoFault} → EpisodeShows shown now episode (Err fault) → HasMissed shown.told now.told episode
missed_episode shows = record { choices_same = shows.choices; episodes_same = shows.noted; handed = shows.handed }

-- notes that would tell an episode more
told_more : (told : Option (List Episode)) (episode : Episode) → (more : Option (List Episode)) × Grew told more (episode ∷ [])
told_more None episode = (None, tt)
told_more (Some list) episode = (Some (list ++ episode ∷ []), refl)

pub one_more : (began : Since) {episode : Episode} → (told : Noted) × HasNotedMore began.noted told [] (episode ∷ [])
one_more began {episode = episode} =
    let more = told_more began.noted.episodes episode in
    (record began.noted { episodes = more.0 }, record { choices_more = (none_noted {noted = began.noted}).choices_more; episodes_more = more.1; unnoted_same = refl })

module _ {R : Type 0} where
  -- a watch that tells the same
  pub failing_told : {rules : Rules} {image : Image} {began : Since} {seen : Seen} {tables : Option (List (List Try))} {cause : Cause} {session : SessionState R} → began.tables ≡ tables → IsFailing rules image began seen cause session
      → IsFailing rules image (record began { tables = tables }) seen cause session
  failing_told {rules = rules} {image = image} {began = began} {seen = seen} {cause = cause} {session = session} same = subst (λ (t : Option (List (List Try))). IsFailing rules image (record began { tables = t }) seen cause session) same

  -- where an adoption ends the session, by its end
  pub ends_adopted : {rules : Rules} {image : Image} {began : Since} {seen : Seen} {session : SessionState R} (found : Option SessionEnd) {end : SessionEnd} → seen.takes ≡ true → found ≡ Some end
      → AdoptsTo rules image began seen session found → ComesBetween rules image began seen session (Err (stop.Ends end))
  ends_adopted None {end = end} still is adopts = absurd (none-some end is)
  ends_adopted {rules = rules} {image = image} {began = began} {seen = seen} {session = session} (Some other) {end = end} still is adopts =
      (subst (IsEnding rules image began seen session) (same_Some other end is) adopts, λ none. still_takes _ still none)

  -- or it goes on
  pub goes_adopted : {rules : Rules} {image : Image} {began : Since} {seen : Seen} {session : SessionState R} (found : Option SessionEnd) → found ≡ None
      → AdoptsTo rules image began seen session found → IsGoing rules image began seen session
  goes_adopted None is adopts = adopts
  goes_adopted (Some other) is adopts = absurd (none-some other (sym is))

  -- by another count of instructions that is the same
  pub comes_lost : (rules : Rules) (image : Image) (began : Since) (seen : Seen) (session : SessionState R) (result : Result (Unit {0}) Stop) {lost : ℕ} → lost ≡ began.lost
      → ComesBetween rules image began seen session result → ComesBetween rules image (record began { lost = lost }) seen session result
  comes_lost rules image began seen session result same = subst (λ n. ComesBetween rules image (record began { lost = n }) seen session result) (sym same)
