-- Notes whose episodes are kept in other notes too.
use Rattle.std.specs.Prelude.{◌≡◌, Bool, true, false, List, Option, None, Some}
use Rattle.session_notes.specs.contracts.episode.Episode as episode
use Rattle.file_notes.specs.Terms.{Coded-set, Unit-prop, coded_list, coded_option, Episode}

-- Unless the copy was given up, the notes tell their episodes, and the others tell the same.
abbrev pub IsCopy : Bool → Option (List Episode) → Option (List Episode) → Type 0
IsCopy true told kept = Unit {0}
IsCopy false None kept = ⊥
IsCopy false (Some episodes) kept = kept ≡ Some episodes

pub IsCopy-prop : (lost : Bool) (told kept : Option (List Episode)) → IsProp (IsCopy lost told kept)
IsCopy-prop true told kept = Unit-prop
IsCopy-prop false None kept = λ p q. absurd p
IsCopy-prop false (Some episodes) kept = Coded-set (coded_option (coded_list episode.the_row.coded)) kept (Some episodes)
