use Rattle.recovery.proofs.Adopting.{is_made}
use Rattle.diagnosis.proofs.Terms.{still_within}
use Rattle.diagnosis.proofs.ExaminedLemmas.{notes_one, noted_by}
use Rattle.diagnosis.proofs.examining.examine_one.Goals as goal

pub taken_at-checkpoint-requires : goal.taken_at-checkpoint-requires
taken_at-checkpoint-requires g c = still_within c.in-Ok.ensures.kept c.requires.within

pub returns-in-Ok-clause-notes : goal.returns-in-Ok-clause-notes
returns-in-Ok-clause-notes g c failure checkpoint under failed found =
    let h = c.in-Ok.ensures.tries failure checkpoint under failed found in
    noted_by c.note.result
    (λ pushed. notes_one (is_made c.args.chance.index failed found c.taken_at-checkpoint.result c.in-Ok.ensures.kept.saved c.taken_at-checkpoint.ensures.taken c.in-Ok.ensures.counts.counted pushed h)) c.note.ensures
