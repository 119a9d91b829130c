-- What holds of each session over a trunk whose source tells its bytes.
use Rattle.std.specs.Prelude.{◌≡◌, ℕ, List, [], Option, Some}
use Rattle.routes.specs.Terms.{Stream, LinkEvent, AreFramesOf, AreInOrder, fresh, Image, IsComplete, AtEnd, Bounds, heeded, nothing_before, Rules, Noted, Keeping, Outcome}
use Rattle.routes.specs.Replaying.{WritesSends}
use Rattle.routes.specs.Serving.{Serves, Trunk}

-- bytes are the frames of events, each in order for its connection, and a session with these bounds heeds all of them, those before it among them
pub record AreAllHeeded (bounds : Bounds) (bytes : List ℕ) : Type 0 where
  pub events : List LinkEvent
  pub order : AreInOrder fresh events
  pub are : AreFramesOf events bytes
  pub all_heeded : heeded bounds events ≡ events

-- Where a source has such bytes no other answer comes: every item was taken, or the program ended itself or failed, or there was a fault or want of
-- memory.
abbrev pub NoOtherEnd : Type 0
NoOtherEnd =
    (rules : Rules) (keeping : Keeping) (image : Image) (input : Stream) (input_later : Option Stream) (output output_later : Option (List ℕ)) (outcome : Outcome) (noted_before noted_now : Noted) (counted : ℕ)
    (served : Serves (Trunk (Some input) input_later output output_later) rules keeping image outcome noted_before noted_now counted) →
    AreAllHeeded rules.bounds input.left → IsComplete rules served.telling.account outcome.stop

-- A session with nothing before it that holds nothing back and came to an end without a recovery wrote the frames of its run's sends, in order, each whole,
-- and no byte more.
abbrev pub SendsAreWritten : Type 0
SendsAreWritten =
    (rules : Rules) (keeping : Keeping) (image : Image) (input : Stream) (input_later : Option Stream) (output output_later : Option (List ℕ)) (outcome : Outcome) (noted_before noted_now : Noted) (counted : ℕ)
    (served : Serves (Trunk (Some input) input_later output output_later) rules keeping image outcome noted_before noted_now counted) →
    rules.bounds.before ≡ nothing_before → AtEnd outcome.stop (λ end. served.telling.account.earlier ≡ [] → rules.hold ≡ 0 → WritesSends output output_later served.telling.account.survivor.now.state.sends)
