-- What the run of a survivor fixes: how many pages were written before its requests, and which checkpoints stand behind them. And what is followed
-- where nothing is before.
use Rattle.std.specs.Prelude.{◌≡◌, ℕ, ◌*◌, ◌<◌, ◌≤◌, List, [], length}
use Rattle.recovery.specs.Terms.{Entry, Image, nothing_before, Rules, Survivor}
use Rattle.recovery.specs.Handling.{Keeping, Stand, handled, HasWritten, AreWritten, HasFollowedRequests}

-- the number of pages that a survivor's run wrote from a checkpoint to a request is one
abbrev pub OneNumber : Type 0
OneNumber =
    (rules : Rules) (image : Image) (entries : List Entry) (survivor : Survivor) (pages from to one other : ℕ) →
    HasWritten rules image entries survivor pages from to one → HasWritten rules image entries survivor pages from to other → one ≡ other

-- so the same checkpoints stand behind as many requests of it, whatever numbers are told
abbrev pub OneRing : Type 0
OneRing =
    (rules : Rules) (image : Image) (entries : List Entry) (survivor : Survivor) (keeping : Keeping) (from : ℕ) (one other : List ℕ) (stands : List Stand) →
    AreWritten rules image entries survivor keeping from one stands → AreWritten rules image entries survivor keeping from other stands → length one ≡ length other →
    handled keeping from one stands ≡ handled keeping from other stands

-- and where one stands at first, and one alone may, these numbers are the same too
abbrev pub SameNumbers : Type 0
SameNumbers =
    (rules : Rules) (image : Image) (entries : List Entry) (survivor : Survivor) (keeping : Keeping) (from : ℕ) (one other : List ℕ) (stands : List Stand) →
    0 < length stands → 1 ≤ keeping.ring → 2 * keeping.pages ≤ keeping.frames →
    AreWritten rules image entries survivor keeping from one stands → AreWritten rules image entries survivor keeping from other stands → length one ≡ length other → one ≡ other

-- where nothing came before a session no request was followed, and that is so of it
abbrev pub NoneFollowed : Type 0
NoneFollowed =
    (rules : Rules) (image : Image) (keeping : Keeping) → rules.bounds.before ≡ nothing_before →
    HasFollowedRequests rules image keeping [] × ((followed : List ℕ) → HasFollowedRequests rules image keeping followed → followed ≡ [])
