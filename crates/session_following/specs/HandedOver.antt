-- What a second host is handed, as the code has it at hand.
use Rattle.std.specs.Prelude.{option_map}
use Rattle.session_following.specs.Terms.{Finish, Handed, HandedOver, Place}

-- where the record's last line says that its run stood
abbrev pub finish_of : Place → Finish
finish_of place = record { steps = place.steps; taken = place.taken }

abbrev pub handed_of : HandedOver → Handed
handed_of handed = record { counts = handed.counts.now; episodes = handed.episodes.now; choices = handed.choices.now; finish = option_map finish_of handed.finish }
