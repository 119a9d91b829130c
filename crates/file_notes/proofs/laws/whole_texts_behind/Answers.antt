use Rattle.file_notes.proofs.LawLemmas.{whole_texts_behind}

pub returns : Rattle.file_notes.proofs.laws.whole_texts_behind.Goals.returns
returns c = whole_texts_behind
