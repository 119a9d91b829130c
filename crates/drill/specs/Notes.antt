-- The notes of a drill: two lists in memory, of which no call fails.
use Rattle.session_notes.specs.declared.note_list.NoteList.{NoteList}
use Rattle.drill.specs.Terms.{shown_in, Shown}

-- what they show: no call of them failed
abbrev pub shown_quietly : NoteList → Shown
shown_quietly list = record (shown_in list) { faults = 0 }
