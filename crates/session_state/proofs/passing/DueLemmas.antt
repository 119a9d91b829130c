-- Where what is due was passed, or the session was broken off.
use Rattle.session_history.specs.declared.ends.Stop.TheVariants as stop
use Rattle.session_state.proofs.Lemmas.{still_takes, between_on}
use Rattle.session_state.proofs.Terms.{Err, Ok, Result, subst, sym, true, ℕ, ◌≡◌, Seen, Image, Stop, Rules, SessionState, IsBetween, IsGoing, Since, ComesBetween, PassesDue}

module _ {R : Type 0} where
  -- the session stands between two events of its guest
  pub comes_between : {rules : Rules} {image : Image} {began : Since} {before : Seen} (seen : Seen) {old new : SessionState R} (g : IsGoing rules image began before old) (result : Result (Unit {0}) Stop)
      → new ≡ record old { replies = new.replies } → new.replies.first ≡ old.replies.first → ((conn : ℕ) → seen.phases conn ≡ before.phases conn) → seen.takes ≡ true → PassesDue rules image began seen g.story new result → ComesBetween rules image began seen new result
  comes_between {rules = rules} {image = image} {began = began} seen g (Ok done) same kept stay still p =
      subst (λ (s : SessionState R). IsBetween rules image began seen s) (sym same) (between_on g p.0 p.1 stay p.2 p.3 p.4 kept)
  comes_between seen g (Err (stop.Ends end)) same kept stay still p = absurd p
  comes_between seen g (Err (stop.Breaks end)) same kept stay still p = (p, λ none. still_takes _ still none)
