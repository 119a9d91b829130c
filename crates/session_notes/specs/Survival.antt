-- Which trials survive.
use Rattle.std.specs.Prelude.{Bool, true, false}
use Rattle.session_notes.specs.declared.episode.Tried.{Tried}
use Rattle.session_notes.specs.declared.episode.Tried.TheVariants.{Asks, Exits, Failed, Contradicts, Behind}

-- it asks for the next item, or ended itself
abbrev pub survives : Tried → Bool
survives Asks = true
survives (Exits code) = true
survives (Failed cause) = false
survives Contradicts = false
survives Behind = false
