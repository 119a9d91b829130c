-- What the notes in memory tell.
use Rattle.std.specs.Prelude.{List, None, Some}
use Rattle.block_book.specs.declared.choice.Choice.{Choice}
use Rattle.session_notes.specs.declared.episode.Episode.{Episode}
use Rattle.rx_base.specs.Planned.{Plan}
use Rattle.session_notes.specs.Noting.{Shown}
use Rattle.session_notes.specs.declared.note_list.NoteList.{NoteList}

abbrev pub list_choices : NoteList → List Choice
list_choices notes = notes.choices.items

abbrev pub list_episodes : NoteList → List Episode
list_episodes notes = notes.episodes.items

abbrev pub list_plan : NoteList → Plan
list_plan notes = notes.fails

-- they tell both lists
abbrev pub shown_in : NoteList → Shown
shown_in notes = record {
  told = record { choices = Some (list_choices notes); episodes = Some (list_episodes notes); unnoted = None };
  faults = (list_plan notes).faults;
}

-- notes that keep nothing tell nothing and never fail
abbrev pub shows_nothing : Shown
shows_nothing = record { told = record { choices = None; episodes = None; unnoted = None }; faults = 0 }
