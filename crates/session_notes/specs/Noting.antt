-- What a call that notes does.
use Rattle.std.specs.Prelude.{◌≡◌, ℕ, List, [], ◌∷◌, ◌++◌, Option, None, Some, Result, Ok, Err}
use Rattle.block_book.specs.declared.choice.Choice.{Choice}
use Rattle.session_notes.specs.declared.episode.Episode.{Episode}
use Rattle.links.specs.Links.{Grew}
use Rattle.rx_base.specs.Faults.{HasCause}
use Rattle.rx_base.specs.declared.fault.IoFault.{IoFault}

-- what the first call that failed was handed: none failed; or these answers of the allocator, or this episode
pub data Unnoted : Type 0 where
  NoneFailed : Unnoted
  SomeChoices : List Choice → Unnoted
  OneEpisode : Episode → Unnoted

-- what notes tell: the answers of the allocator and the episodes that were noted so far, and what the first call that failed was handed, each if they tell it
pub record Noted : Type 0 where
  pub choices : Option (List Choice)
  pub episodes : Option (List Episode)
  pub unnoted : Option Unnoted

abbrev pub noted : Option (List Choice) → Option (List Episode) → Option Unnoted → Noted
noted choices episodes unnoted = record { choices = choices; episodes = episodes; unnoted = unnoted }

-- what the first failed call was handed, once one failed that was handed this
abbrev pub failed_with : Option Unnoted → Unnoted → Option Unnoted
failed_with None part = None
failed_with (Some NoneFailed) part = Some part
failed_with (Some (SomeChoices list)) part = Some (SomeChoices list)
failed_with (Some (OneEpisode episode)) part = Some (OneEpisode episode)

-- a call that is handed this: where it noted it, that stays as it is; where it failed, it is what the first failed call was handed, unless one failed before
abbrev pub Hands : Option Unnoted → Option Unnoted → Unnoted → Result (Unit {0}) IoFault → Type 0
Hands old new part (Ok done) = new ≡ old
Hands old new part (Err fault) = new ≡ failed_with old part

-- these stand behind those noted before, where that is told; after an `Err` what is told is as before
abbrev pub IsNoted : {T : Type 0} → Option (List T) → Option (List T) → List T → Result (Unit {0}) IoFault → Type 0
IsNoted old new more (Ok done) = Grew old new more
IsNoted old new more (Err fault) = new ≡ old

-- these stand at the list's end; after an `Err` the list is as before
abbrev pub with_noted : {T : Type 0} → List T → List T → Result (Unit {0}) IoFault → List T
with_noted list more (Ok done) = list ++ more
with_noted list more (Err fault) = list

-- What notes show of themselves: what they tell, and how often a call has failed, which never falls.
pub record Shown : Type 0 where
  pub told : Noted
  pub faults : ℕ

-- answers of the allocator were noted, or none of them
pub record ChoicesShow (old new : Shown) (list : List Choice) (result : Result (Unit {0}) IoFault) : Type 0 where
  pub noted : IsNoted old.told.choices new.told.choices list result
  pub episodes : new.told.episodes ≡ old.told.episodes
  pub handed : Hands old.told.unnoted new.told.unnoted (SomeChoices list) result
  pub cause : HasCause old.faults new.faults result

-- an episode was noted, or it wasn't
pub record EpisodeShows (old new : Shown) (episode : Episode) (result : Result (Unit {0}) IoFault) : Type 0 where
  pub noted : IsNoted old.told.episodes new.told.episodes (episode ∷ []) result
  pub choices : new.told.choices ≡ old.told.choices
  pub handed : Hands old.told.unnoted new.told.unnoted (OneEpisode episode) result
  pub cause : HasCause old.faults new.faults result
