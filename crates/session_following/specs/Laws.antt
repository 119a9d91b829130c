-- What holds of a session that follows, whatever its steps are.
use Rattle.std.specs.Prelude.{◌≡◌, ℕ, ◌-◌, ◌<◌, ◌≤◌, List, [], ◌∷◌, ◌++◌, None, length, take}
use Rattle.session_following.specs.Terms.{Item, Send, sent_to, Env, IsOpened, Ledger, Image, Override, Path, Served, env_at, origin, Before, events_of, IsSendable, KeepsReplies, Rules, Handed, count_of, held, plan_of}
use Rattle.session_following.specs.Following.{plan_up_to, rules_after}
use Rattle.session_following.specs.Reaching.{HasNotReached}
use Rattle.session_following.specs.Sending.{held_count, with_held}

-- Up to a count of items the plan up to it says the same as the whole one, and behind it the base.
abbrev pub UpToIsExact : Type 0
UpToIsExact =
    (base : Env) (plan : List Override) (last count : ℕ) →
    (count ≤ last → env_at base (plan_up_to base plan last) count ≡ env_at base plan count) × (last < count → env_at base (plan_up_to base plan last) count ≡ base)

-- Of one more send as much is held as the count of its connection has left.
abbrev pub HeldGrows : Type 0
HeldGrows =
    (counts : List (ℕ × ℕ)) (sends : List Send) (send : Send) →
    held counts (sends ++ send ∷ []) ≡ held counts sends ++ record send { bytes = take (count_of counts send.conn - length (sent_to send.conn sends)) send.bytes } ∷ []

-- A ledger beside a journal that has just begun, before which as much was passed as is held of the sends, is one with a send more, once as much of that is passed as is held of it.
abbrev pub SentIsHeld : Type 0
SentIsHeld =
    (rules : Rules) (what : Before) (counts : List (ℕ × ℕ)) (sends : List Send) (ledger : Ledger) (send : Send) → what.events ≡ events_of rules.bounds [] →
    rules.bounds.before.had ≡ held counts sends → what.had ≡ held counts (sends ++ send ∷ []) → IsOpened ledger send.conn → IsSendable send → KeepsReplies rules.bounds [] None sends ledger →
    KeepsReplies (rules_after rules what).bounds [] None (sends ++ send ∷ []) (with_held ledger send (held_count counts sends send))

-- A run that hasn't reached what was handed over hasn't with more items either.
abbrev pub NotReachedStays : Type 0
NotReachedStays =
    (rules : Rules) (items more : List Item) (image : Image) (handed : Handed) (now : Path) → Served rules.limits items (plan_of rules.limits.keep handed.episodes) (origin image) now → HasNotReached rules.limits items image handed now →
    HasNotReached rules.limits (items ++ more) image handed now
