use Rattle.file_notes.proofs.Terms.{Err, Ok, ap, sym, ◌∙◌, ◌≡◌, Names, names_in, Past, before_of}
use Rattle.file_notes.proofs.CallingLemmas.{called_report}
use Rattle.file_notes.proofs.NotesLemmas.{before_same, fixed_same, noted_episode}
use Rattle.file_notes.proofs.file_notes.FileNotesNotes.episode.Goals as goal

pub invariant_of-self-2-clause-stands : goal.invariant_of-self-2-clause-stands
invariant_of-self-2-clause-stands g c =
    noted_episode _ c.args.self.now.form (g.F.Files.told c.args.self.now.files) (g.F.Files.told c.add_episode.new.files) c.args.self.now.past.was c.of-past-2.result.was c.args.self.now.number
    c.args.self.now.broken c.args.e.now (sym c.is_open.ensures ∙ c.if-not-is_open.false) c.of-past-2.ensures c.in_default.ensures.added c.args.self.now.stands

pub invariant_of-self-clause-called : goal.invariant_of-self-clause-called
invariant_of-self-clause-called g c = called_report (names_in c.args.self.now.names) _ _ _ _ (Err c.in-Err.fault) c.in-Err.ensures.calls (ap (λ (p : Past). p.calls) c.of-past.ensures) c.args.self.now.called

pub invariant_of-self-2-clause-called : goal.invariant_of-self-2-clause-called
invariant_of-self-2-clause-called g c = called_report (names_in c.args.self.now.names) _ _ _ _ (Ok tt) c.in_default.ensures.calls (ap (λ (p : Past). p.calls) c.of-past-2.ensures) c.args.self.now.called

pub returns-in-Err-clause-fixed : goal.returns-in-Err-clause-fixed
returns-in-Err-clause-fixed g c =
    let notes = c.args.self.now in
    let names : Names = names_in notes.names in
    let was : Past = notes.past.was in
    let before : before_of names c.of-past.result.was.had (g.F.Files.told c.add_episode.new.files) ≡ before_of names was.had (g.F.Files.told notes.files) =
    ap (λ (p : Past). before_of names p.had (g.F.Files.told c.add_episode.new.files)) c.of-past.ensures
    ∙ before_same names notes.form was.first was.choices was.episodes was.left _ _ (λ other a b. b) was.had _ _ (Err c.in-Err.fault) notes.stands.keeps c.in-Err.ensures.added in
    fixed_same names notes.form c.in-Err.ensures.fixed (ap (λ (p : Past). p.first) c.of-past.ensures) before (ap (λ (p : Past). p.calls) c.of-past.ensures)
