-- What holds of each run that follows a record, and of what its clients get.
use Rattle.std.specs.Prelude.{◌≡◌, ◌⊎◌, ℕ, ◌<◌, ◌≤◌, List, length, true, false}
use Rattle.standby.specs.Terms.{Item, Prefix, sent_to, LinkEvent, Piece, Image, Run, Path, Recorded, count_of, found_gone}
use Rattle.standby.specs.Missing.{AllGiven, PartGiven, has_got, is_opened, output_of}
use Rattle.standby.specs.Serving.{IsFollowed}

-- A run that follows a record is one run of the program from its start, on these items and with all answers of the allocator that it used.
abbrev pub FollowedIsRun : Type 0
FollowedIsRun = (image : Image) (recorded : Recorded) (budget : ℕ) (items : List Item) (path : Path) → IsFollowed image recorded budget items path → Run image items path.choices path.steps path.state

-- Where a record ended a client has no more bytes than were sent to it; and its connection is open, or it misses none, as one of a connection that
-- wasn't opened yet.
abbrev pub HadIn : List (ℕ × ℕ) → List LinkEvent → Path → ℕ → Type 0
HadIn counts events seam conn = (count_of counts conn ≤ length (output_of seam conn)) × ((is_opened conn events ≡ true) ⊎ (count_of counts conn ≡ length (output_of seam conn)))

-- Then it has a front of what the run sends to it: its first bytes by its count, followed by those that were given.
abbrev pub FrontsAreHad : Type 0
FrontsAreHad =
    (counts : List (ℕ × ℕ)) (events : List LinkEvent) (seam path : Path) (pieces : List Piece) (conn : ℕ) → conn < 4096 → HadIn counts events seam conn → PartGiven counts events seam path pieces →
    Prefix (has_got counts pieces path.state.sends conn) (sent_to conn path.state.sends)

-- Where all was given it has all of that, unless its connection was found gone.
abbrev pub AllIsHad : Type 0
AllIsHad =
    (counts : List (ℕ × ℕ)) (events : List LinkEvent) (seam path : Path) (pieces : List Piece) (conn : ℕ) → conn < 4096 → HadIn counts events seam conn → AllGiven counts events seam path pieces → found_gone conn pieces ≡ false →
    has_got counts pieces path.state.sends conn ≡ sent_to conn path.state.sends
