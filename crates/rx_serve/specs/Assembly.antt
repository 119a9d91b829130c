-- The command `asm`: a text is loaded, assembled, and written as an executable.
use Rattle.std.specs.Prelude.{◌≡◌, ◌⊎◌, ℕ, ◌<◌, ◌≤◌, List, length, Option, Some, None, IfSome, IsSomeAnd, Result, Ok, Err}
use Rattle.rv_asm.specs.Assembling.{IsAssembled, AnswersFault}
use Rattle.rv_asm.specs.Refusals.{refusal_of}
use Rattle.run_history.specs.declared.answer.Answer.TheVariants as answer
use Rattle.rx_serve.specs.Terms.{Rose, Prefix, Contents, Holds, Image, written, Answer}
use Rattle.rx_serve.specs.Limits.{assembly_window, source_limit}
use Rattle.rx_serve.specs.Loading.{Has}

-- the text of this name has an image, or why it has none; a fault comes only where the files' count of them rose
abbrev pub LoadsText : Option Contents → List ℕ → ℕ → ℕ → Result Image Answer → Type 0
LoadsText told name before now (Ok image) = (text : List ℕ) × Has told name text × (length text ≤ source_limit) × IsAssembled text assembly_window image
LoadsText told name before now (Err (answer.AsmRefused kind line)) = (text : List ℕ) × Has told name text × (length text ≤ source_limit) × AnswersFault (refusal_of text) kind line
LoadsText told name before now (Err answer.TooLarge) = IfSome told (λ files. IsSomeAnd (files name) (λ bytes. source_limit < length bytes))
LoadsText told name before now (Err answer.FileFault) = Rose before now
LoadsText told name before now (Err answer.Memory) = Unit {0}
LoadsText told name before now (Err _) = ⊥

-- a name has these bytes now, and each other has what it had, if the files tell
abbrev pub Became : Option Contents → Option Contents → List ℕ → List ℕ → Type 0
Became None new name bytes = Unit {0}
Became (Some old) None name bytes = ⊥
Became (Some old) (Some new) name bytes = Holds old new name (Some bytes)

-- it is as before, or has some first ones of these bytes, and each other has what it had, if the files tell
abbrev pub BecameInPart : Option Contents → Option Contents → List ℕ → List ℕ → Type 0
BecameInPart None new name bytes = Unit {0}
BecameInPart (Some old) None name bytes = ⊥
BecameInPart (Some old) (Some new) name bytes = Holds old new name (old name) ⊎ ((front : List ℕ) × Prefix front bytes × Holds old new name (Some front))

-- a file was written; after a fault it is as before, or written in part
abbrev pub Writes : Option Contents → Option Contents → List ℕ → List ℕ → Answer → Type 0
Writes old new name bytes answer.Finished = Became old new name bytes
Writes old new name bytes answer.FileFault = BecameInPart old new name bytes
Writes old new name bytes answer.Memory = BecameInPart old new name bytes
Writes old new name bytes _ = ⊥

-- a text was assembled, and its executable is being written or is written
pub record WritesAssembled (old new : Option Contents) (source out : List ℕ) (end : Answer) : Type 0 where
  pub text : List ℕ
  pub image : Image
  pub has : Has old source text
  pub small : length text ≤ source_limit
  pub assembled : IsAssembled text assembly_window image
  pub writes : Writes old new out (written image) end

-- What `asm` does to the files: at Finished the executable of the text's image stands under the second name. A refused text
-- changes nothing, and a fault may come before anything changed.
abbrev pub Assembles : Option Contents → Option Contents → List ℕ → List ℕ → Answer → Type 0
Assembles old new source out answer.Finished = WritesAssembled old new source out answer.Finished
Assembles old new source out (answer.AsmRefused kind line) = new ≡ old
Assembles old new source out answer.TooLarge = new ≡ old
Assembles old new source out answer.FileFault = (new ≡ old) ⊎ WritesAssembled old new source out answer.FileFault
Assembles old new source out answer.Memory = (new ≡ old) ⊎ WritesAssembled old new source out answer.Memory
Assembles old new source out _ = ⊥

-- what is behind each answer, of the files as they were
abbrev pub HasAsmCause : Option Contents → List ℕ → Answer → Type 0
HasAsmCause told source answer.Finished = (text : List ℕ) × Has told source text × (length text ≤ source_limit) × (refusal_of text ≡ None)
HasAsmCause told source (answer.AsmRefused kind line) = (text : List ℕ) × Has told source text × (length text ≤ source_limit) × AnswersFault (refusal_of text) kind line
HasAsmCause told source answer.TooLarge = IfSome told (λ files. IsSomeAnd (files source) (λ bytes. source_limit < length bytes))
HasAsmCause told source answer.FileFault = Unit {0}
HasAsmCause told source answer.Memory = Unit {0}
HasAsmCause told source _ = ⊥
