use Rattle.file_notes.proofs.Terms.{Err, Ok, ap, ◌∙◌, ◌≡◌, Names, names_in, Past, before_of}
use Rattle.file_notes.proofs.NotesLemmas.{before_same, fixed_same}
use Rattle.file_notes.proofs.CallingLemmas.{called_record}
use Rattle.file_notes.proofs.file_notes.FileNotesNotes.choices.Goals as goal

pub invariant_of-self-clause-called : goal.invariant_of-self-clause-called
invariant_of-self-clause-called g c = called_record (names_in c.args.self.now.names) _ _ _ _ (Err c.in-Err.fault) c.in-Err.ensures.calls (ap (λ (p : Past). p.calls) c.of-past.ensures) c.args.self.now.called

pub invariant_of-self-2-clause-called : goal.invariant_of-self-2-clause-called
invariant_of-self-2-clause-called g c = called_record (names_in c.args.self.now.names) _ _ _ _ (Ok tt) c.in_default.ensures.calls (ap (λ (p : Past). p.calls) c.of-past-2.ensures) c.args.self.now.called

pub returns-in-Err-clause-fixed : goal.returns-in-Err-clause-fixed
returns-in-Err-clause-fixed g c =
    let notes = c.args.self.now in
    let names : Names = names_in notes.names in
    let was : Past = notes.past.was in
    let before : before_of names c.of-past.result.was.had (g.F.Files.told c.add_choices.new.files) ≡ before_of names was.had (g.F.Files.told notes.files) =
    ap (λ (p : Past). before_of names p.had (g.F.Files.told c.add_choices.new.files)) c.of-past.ensures
    ∙ before_same names notes.form was.first was.choices was.episodes was.left _ _ (λ other a b. a) was.had _ _ (Err c.in-Err.fault) notes.stands.keeps c.in-Err.ensures.added in
    fixed_same names notes.form c.in-Err.ensures.fixed (ap (λ (p : Past). p.first) c.of-past.ensures) before (ap (λ (p : Past). p.calls) c.of-past.ensures)
