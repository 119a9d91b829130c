-- What holds of the bytes that clients hold.
use Rattle.std.specs.Prelude.{◌≡◌, ℕ, ◌≤◌, List, length, take}
use Rattle.follow.specs.Terms.{Item, Prefix, Send, sent_to, Image, State, output, Limits, Override, Path, Served, origin, IsAccount, Session, journal_of, Rules, AreInOrder, Covers, IsFeasible, passed_in, until}
use Rattle.follow.specs.Held.{count_of, held}

-- What clients hold is, on each connection, as many first bytes of what was sent as the counts say, or all of it.
abbrev pub HeldIsFront : Type 0
HeldIsFront = (counts : List (ℕ × ℕ)) (sends : List Send) (conn : ℕ) → sent_to conn (held counts sends) ≡ take (count_of counts conn) (sent_to conn sends)

-- The run that sent it emits it, and in time.
abbrev pub HeldIsInTime : Type 0
HeldIsInTime = (counts : List (ℕ × ℕ)) (state : State) → Covers (held counts state.sends) state × IsFeasible (held counts state.sends) state

-- It stands in the order of its numbers of items, of which none is above that of the run.
abbrev pub HeldIsInOrder : Type 0
HeldIsInOrder =
    (limits : Limits) (items : List Item) (plan : List Override) (image : Image) (path : Path) (counts : List (ℕ × ℕ)) → Served limits items plan (origin image) path →
    AreInOrder path.state.machine.taken (held counts path.state.sends)

-- Once a run has sent as much to a connection as its count says, what is held there stays as it is, with its numbers of items.
abbrev pub HeldIsFixed : Type 0
HeldIsFixed =
    (limits : Limits) (items : List Item) (plan : List Override) (first second : Path) (counts : List (ℕ × ℕ)) (conn : ℕ) → Served limits items plan first second →
    count_of counts conn ≤ length (output first.state conn) → (item : ℕ) → sent_to conn (until item (held counts second.state.sends)) ≡ sent_to conn (until item (held counts first.state.sends))

-- Where a count is no more than a session passed, what is held of the survivor's sends is what was passed first.
abbrev pub HeldIsPassed : Type 0
HeldIsPassed =
    (rules : Rules) (image : Image) (session : Session) (counts : List (ℕ × ℕ)) (conn : ℕ) → IsAccount rules image session → count_of counts conn ≤ length (sent_to conn (passed_in rules.bounds (journal_of session))) →
    sent_to conn (held counts session.survivor.now.state.sends) ≡ take (count_of counts conn) (sent_to conn (passed_in rules.bounds (journal_of session)))

-- What a session passed with so many items received, or fewer, its survivor had sent with no more items taken.
abbrev pub PassedIsSent : Type 0
PassedIsSent =
    (rules : Rules) (image : Image) (session : Session) (item conn : ℕ) → IsAccount rules image session →
    Prefix (sent_to conn (until item (passed_in rules.bounds (journal_of session)))) (sent_to conn (until item session.survivor.now.state.sends))

-- So a run that is feasible with what is held of the survivor's sends is so with what is held of what was passed, by the numbers of items received.
abbrev pub StampsAreSafe : Type 0
StampsAreSafe =
    (rules : Rules) (image : Image) (session : Session) (counts : List (ℕ × ℕ)) (state : State) → IsAccount rules image session →
    IsFeasible (held counts session.survivor.now.state.sends) state → IsFeasible (held counts (passed_in rules.bounds (journal_of session))) state
