-- How runs of survivors are joined, and go on.
use Rattle.session_history.proofs.Terms.{List, refl, ◌++◌, ◌+◌, Item, repeated_join, served_more, Limits, Override, Path, Served, planned_next}

-- a run goes on as itself
pub served_same : (limits : Limits) (items : List Item) (plan : List Override) (path : Path) → Served limits items plan path path
served_same limits items plan path = record { more = 0; ran = refl }

-- a run that goes on as one that goes on
pub served_on : (limits : Limits) (items : List Item) (plan : List Override) (first second third : Path) → Served limits items plan first second → Served limits items plan second third → Served limits items plan first third
served_on limits items plan first second third one other = record {
  more = one.more + other.more;
  ran = repeated_join (planned_next limits items plan) first second third one.more other.more one.ran other.ran;
}

-- a run stays with more items behind
pub served_with : (limits : Limits) (items more : List Item) (plan : List Override) (first second : Path) → Served limits items plan first second → Served limits (items ++ more) plan first second
served_with limits items more plan first second one = record { more = one.more; ran = served_more limits items more plan first second one.more one.ran }
