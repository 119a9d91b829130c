-- That a run that follows hasn't reached yet what was handed over.
use Rattle.std.specs.Prelude.{◌≡◌, ◌<◌, List, ◌∷◌, ◌++◌}
use Rattle.session_following.specs.Terms.{Item, LinkEvent, Image, Limits, Path, Served, origin, Rules, AsksForMore, Handed, HasReached, Stand, plan_of}

-- where it stands now it hasn't reached it
abbrev pub IsNotReached : Limits → Handed → Path → Type 0
IsNotReached limits handed now = (stand : Stand limits (plan_of limits.keep handed.episodes) now) → ¬ HasReached limits handed now stand

-- nor did it wherever it stood before, on these items
abbrev pub HasNotReached : Limits → List Item → Image → Handed → Path → Type 0
HasNotReached limits items image handed now =
    (path : Path) (there : Stand limits (plan_of limits.keep handed.episodes) path) → Served limits items (plan_of limits.keep handed.episodes) (origin image) path → path.steps < now.steps → ¬ HasReached limits handed path there

-- before each of these events it asked for more, and hadn't reached it
abbrev pub HasAskedBefore : Rules → Image → Handed → List LinkEvent → Type 0
HasAskedBefore rules image handed events = (front back : List LinkEvent) (event : LinkEvent) → events ≡ front ++ event ∷ back → AsksForMore rules image handed front
