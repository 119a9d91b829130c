use Rattle.file_notes.proofs.LawLemmas.{whole_texts}

pub returns : Rattle.file_notes.proofs.laws.whole_texts.Goals.returns
returns c = whole_texts
