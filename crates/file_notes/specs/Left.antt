-- What a call that failed leaves behind.
use Rattle.std.specs.Prelude.{◌≡◌, ℕ, Bool, true, false, List, [], take, Result, Ok, Err}
use Rattle.file_notes.specs.Terms.{IoFault, Memory, Choice, Episode, NoneFailed, OneEpisode, SomeChoices, Unnoted, Form, episode_text, choice_lines}

-- Nothing where no call failed. Else so many first bytes, perhaps none or all, of the lines of some answers of the allocator in the
-- record, or of the text of an episode in the report
pub data Left : Type 0 where
  Nothing : Left
  InRecord : List Choice → ℕ → Left
  InReport : Episode → ℕ → Left

-- a call that failed left a part of what it was handed
abbrev pub unnoted_of : Left → Unnoted
unnoted_of Nothing = NoneFailed
unnoted_of (InRecord choices count) = SomeChoices choices
unnoted_of (InReport e count) = OneEpisode e

-- no call failed
abbrev pub is_whole : Left → Bool
is_whole Nothing = true
is_whole (InRecord choices count) = false
is_whole (InReport e count) = false

-- what a call that failed left in the record, and in the report, in which so many episodes stand
abbrev pub left_in_record : Left → List ℕ
left_in_record Nothing = []
left_in_record (InRecord choices count) = take count (choice_lines choices)
left_in_record (InReport e count) = []

abbrev pub left_in_report : Form → ℕ → Left → List ℕ
left_in_report form number Nothing = []
left_in_report form number (InRecord choices count) = []
left_in_report form number (InReport e count) = take count (episode_text number e form)

-- What a call leaves: nothing at Ok, and a part of its bytes after a failure. Behind that no call does anything
abbrev pub Leaves : (ℕ → Left) → Left → Left → Result (Unit {0}) IoFault → Type 0
Leaves part Nothing new (Ok done) = new ≡ Nothing
Leaves part Nothing new (Err fault) = (count : ℕ) × (new ≡ part count)
Leaves part (InRecord choices count) new result = (new ≡ InRecord choices count) × (result ≡ Err Memory)
Leaves part (InReport e count) new result = (new ≡ InReport e count) × (result ≡ Err Memory)
