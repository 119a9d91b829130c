-- The command `asm`: its file, from the calls that make it, and its answers.
use Rattle.run_history.specs.declared.answer.Answer.TheVariants as answer
use Rattle.rx_serve.proofs.Terms.{List, Ok, Option, inr, subst, ℕ, ◌≡◌, Contents, Image, written, Answer, Assembles, HasAsmCause, LoadsText, Writes, WritesAssembled}

assembled : (old mid new : Option Contents) (source out : List ℕ) (image : Image) (before now : ℕ) (end : Answer) → LoadsText old source before now (Ok image) → mid ≡ old
    → Writes mid new out (written image) end → WritesAssembled old new source out end
assembled old mid new source out image before now end (text, has, small, is) same writes = record {
  text = text;
  image = image;
  has = has;
  small = small;
  assembled = is;
  writes = subst (λ m. Writes m new out (written image) end) same writes;
}

-- a text that has an image is assembled, whatever becomes of the file
pub assembles : (old mid new : Option Contents) (source out : List ℕ) (image : Image) (before now : ℕ) (end : Answer) → LoadsText old source before now (Ok image) → mid ≡ old
    → Writes mid new out (written image) end → Assembles old new source out end
assembles old mid new source out image before now answer.Finished loads same writes = assembled old mid new source out image before now answer.Finished loads same writes
assembles old mid new source out image before now answer.FileFault loads same writes = inr (assembled old mid new source out image before now answer.FileFault loads same writes)
assembles old mid new source out image before now answer.Memory loads same writes = inr (assembled old mid new source out image before now answer.Memory loads same writes)
assembles old mid new source out image before now _ loads same writes = absurd writes

pub writes_cause : (old mid new : Option Contents) (source out : List ℕ) (image : Image) (before now : ℕ) (end : Answer) → LoadsText old source before now (Ok image)
    → Writes mid new out (written image) end → HasAsmCause old source end
writes_cause old mid new source out image before now answer.Finished (text, has, small, is) writes = (text, has, small, is.accepted)
writes_cause old mid new source out image before now answer.FileFault loads writes = tt
writes_cause old mid new source out image before now answer.Memory loads writes = tt
writes_cause old mid new source out image before now _ loads writes = absurd writes
