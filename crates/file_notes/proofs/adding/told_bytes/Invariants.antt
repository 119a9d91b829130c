use Rattle.file_notes.proofs.Terms.{take, ◌≡◌, told_text}
use Rattle.file_notes.proofs.adding.told_bytes.Given as goal

abbrev pub invariant-episodes : goal.invariant-episodes
invariant-episodes l = l.bytes.items ≡ told_text l.form (take l.i l.episodes)
