-- The commands `frame` and `unframe`: lines of the input become frames on the output, and frames become lines.
use Rattle.std.specs.Prelude.{◌≡◌, ℕ}
use Rattle.trunk_text.specs.declared.line.Flaw.{Flaw}
use Rattle.run_history.specs.declared.answer.Answer.TheVariants as answer
use Rattle.trunk_text.specs.Turns.{Goes}
use Rattle.trunk_text.specs.declared.line.Flaw.TheVariants as flaw
use Rattle.trunk_text.specs.declared.turning.Ended.TheVariants as ended
use Rattle.rx_serve.specs.Terms.{IsDrained, Ended, Moved, Way, Answer}
use Rattle.rx_serve.specs.declared.ending.End.{End}
use Rattle.rx_serve.specs.Ended.{HasNoSession}
use Rattle.rx_serve.specs.Outside.{Outside}

-- The number of what is wrong. Of a frame it is that by which a trunk refuses it; a line has further ones.
abbrev pub flaw_number : Flaw → ℕ
flaw_number flaw.Kind = 1
flaw_number flaw.Cut = 5
flaw_number flaw.Payload = 6
flaw_number flaw.Form = 7
flaw_number flaw.Number = 8
flaw_number flaw.Escape = 9
flaw_number flaw.Control = 10
flaw_number flaw.LongPiece = 11
flaw_number flaw.LongLine = 12

-- how an input was turned, as an answer
abbrev pub turned_answer : Ended → Answer
turned_answer ended.Finished = answer.Finished
turned_answer (ended.Refused flaw offset) = answer.InputRefused (flaw_number flaw) offset
turned_answer ended.ReadFault = answer.ReadFault
turned_answer ended.WriteFault = answer.WriteFault
turned_answer ended.Limit = answer.LimitEvents
turned_answer ended.Memory = answer.Memory

-- The input was turned one line or frame after another, and what each becomes was written to the output, as far as the answer says. Nothing else was touched.
pub record TurnsInput (way : Way) (old new : Outside) (end : End) : Type 0 where
  pub ended : Ended
  pub answered : end.answer ≡ turned_answer ended
  pub goes : Goes way (Moved old.input new.input old.output new.output) (IsDrained new.input) ended
  pub untouched : new ≡ record old { input = new.input; output = new.output }
  pub nothing : HasNoSession end
