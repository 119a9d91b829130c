-- What notes in two files have.
use Rattle.std.specs.Prelude.{ℕ, ◌==◌, List, Option, None, Some, if◌then◌else◌}
use Rattle.rx_io.specs.declared.files.Files.{Ghosts}
use Rattle.file_notes.specs.Terms.{FileCall, Contents, Choice, Episode, Shown, Form}
use Rattle.file_notes.specs.declared.file_notes.FileNotes.{FileNotes}
use Rattle.file_notes.specs.Names.{Names, names_in}
use Rattle.file_notes.specs.Left.{Left, unnoted_of}
use Rattle.file_notes.specs.Past.{before_of}
use Rattle.file_notes.specs.Standing.{Stands, StandsBehind}

module _ {F : Type 0} {g : Ghosts F} where
  abbrev pub files_of : FileNotes F g → F
  files_of notes = notes.files

  abbrev pub names_of : FileNotes F g → Names
  names_of notes = names_in notes.names

  abbrev pub form_of : FileNotes F g → Form
  form_of notes = notes.form

  -- the answers of the allocator and the episodes that were noted
  abbrev pub choices_of : FileNotes F g → List Choice
  choices_of notes = notes.past.was.choices

  abbrev pub episodes_of : FileNotes F g → List Episode
  episodes_of notes = notes.past.was.episodes

  -- what a call that failed left
  abbrev pub left_of : FileNotes F g → Left
  left_of notes = notes.past.was.left

  -- what the notes show, by how their files count faults
  abbrev pub shown_of : (F → ℕ) → FileNotes F g → Shown
  shown_of faults notes = record {
    told = record { choices = Some (choices_of notes); episodes = Some (episodes_of notes); unnoted = Some (unnoted_of (left_of notes)) };
    faults = faults notes.files;
  }

  -- the number of the first episode that is noted: so many stood in the report when the notes were made
  abbrev pub first_of : FileNotes F g → ℕ
  first_of notes = notes.past.was.first

  -- what the files told when the notes were made
  abbrev pub told_behind : FileNotes F g → Option Contents
  told_behind notes = before_of (names_in notes.names) notes.past.was.had (g.told notes.files)

  -- the same of notes that begin with the first episode of all
  abbrev pub told_before : FileNotes F g → Option Contents
  told_before notes = if first_of notes == 0 then told_behind notes else None

  -- which calls on the files were told when the notes were made
  abbrev pub calls_before : FileNotes F g → Option (List FileCall)
  calls_before notes = notes.past.was.calls

  -- what stands in the files, where they told it from the start
  abbrev pub StandsIn : FileNotes F g → Type 0
  StandsIn notes = Stands (names_of notes) notes.form (told_before notes) (g.told notes.files) (choices_of notes) (episodes_of notes) (left_of notes)

  -- and of notes behind other episodes
  abbrev pub StandsInBehind : FileNotes F g → Type 0
  StandsInBehind notes = StandsBehind (names_of notes) notes.form (first_of notes) (told_behind notes) (g.told notes.files) (choices_of notes) (episodes_of notes) (left_of notes)

  -- what is known of the files when the notes were made: which they are, what they told, and the number of the first episode
  abbrev pub made_of : FileNotes F g → g.Fixed × (Option Contents × ℕ)
  made_of notes = (g.fixed notes.files, (told_behind notes, first_of notes))

  -- what no call changes: that, the names, the form, and what the files told when the notes were made, contents and calls
  abbrev pub notes_fixed : FileNotes F g → (g.Fixed × (Option Contents × ℕ)) × (Names × (Form × (Option Contents × Option (List FileCall))))
  notes_fixed notes = (made_of notes, (names_of notes, (notes.form, (told_before notes, calls_before notes))))
