use Rattle.file_notes.proofs.Terms.{names_in}
use Rattle.file_notes.proofs.CallingLemmas.{added_alone}
use Rattle.file_notes.proofs.NotesLemmas.{stands_alone, stands_behind}
use Rattle.file_notes.proofs.file_notes.FileNotes.is_whole.Goals as goal

pub returns-clause-stands : goal.returns-clause-stands
returns-clause-stands g c =
    let notes = c.args.self.now in
    stands_alone (names_in notes.names) notes.form notes.past.was.choices notes.past.was.episodes notes.past.was.left notes.past.was.first _ (g.F.Files.told notes.files)
    (stands_behind (names_in notes.names) notes.form notes.past.was.first notes.past.was.choices notes.past.was.episodes notes.past.was.left notes.past.was.had (g.F.Files.told notes.files) notes.stands.are_two notes.stands.keeps)

pub returns-clause-behind : goal.returns-clause-behind
returns-clause-behind g c =
    let notes = c.args.self.now in
    stands_behind (names_in notes.names) notes.form notes.past.was.first notes.past.was.choices notes.past.was.episodes notes.past.was.left notes.past.was.had (g.F.Files.told notes.files) notes.stands.are_two notes.stands.keeps

pub returns-clause-adds : goal.returns-clause-adds
returns-clause-adds g c = added_alone _ _ _ c.args.self.now.called
