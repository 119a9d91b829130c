-- A record is an unfinished one whose last line is there.
use Rattle.schedule_file.proofs.Terms.{Err, List, None, Option, Some, [], ap, arith, length, refl, subst, sym, ℕ, ◌++◌, ◌+◌, ◌∙◌, ◌≡◌, append-nil, Framing, Finish, Line, RecordRefusal, Memory, Refused, Recorded, Unfinished, ReadsRecord, ReadsUnfinished, end_line, head_line, lines_text, IsReading, refused_line, IsUnfinishedReading, unfinished_of}
use Rattle.schedule_file.proofs.Refusing.{missing, reading-missing, refused_too}

pub unfinished_reading : (text : List ℕ) (value : Recorded) → IsReading text value → IsUnfinishedReading text (unfinished_of value)
unfinished_reading text value reading =
    let is = reading.0 in
    record {
      is = record { some_version = is.some_version; version = is.version; some_window = is.some_window; window = is.window; lines = is.lines; finish = (is.steps, is.taken) };
      torn = [];
      is_torn = refl;
      text_is = ap (λ last. head_line value.version value.window value.frame ++ (lines_text value.lines ++ last)) (append-nil (end_line value.steps value.taken)) ∙ reading.1;
    }

pub finished_reading : (text : List ℕ) (value : Recorded) → IsUnfinishedReading text (unfinished_of value) → IsReading text value
finished_reading text value reading =
    let is = reading.is in (
      record { some_version = is.some_version; version = is.version; some_window = is.some_window; window = is.window; lines = is.lines; steps = is.finish.0; taken = is.finish.1 },
      ap (λ last. head_line value.version value.window value.frame ++ (lines_text value.lines ++ last))
          (sym (append-nil (end_line value.steps value.taken)) ∙ ap (λ bytes. end_line value.steps value.taken ++ bytes) (sym reading.is_torn))
          ∙ reading.text_is,
    )

pub reading-unrefused : (text : List ℕ) (value : Recorded) → IsReading text value → refused_line text ≡ None
reading-unrefused text value is = reading-missing text (unfinished_of value) (unfinished_reading text value is)

pub no_reading : (text : List ℕ) (line : ℕ) → refused_line text ≡ Some line → (value : Recorded) → IsReading text value → ⊥
no_reading text line h value is =
    let none : refused_line text ≡ None = reading-unrefused text value is in
    cc

pub refuses : (text : List ℕ) (line : ℕ) → refused_line text ≡ Some line → ReadsRecord text (Err (Refused line))
refuses text line h = (h, no_reading text line h)

-- ---- what a reading that may lack its last line says of a record

abbrev pub recorded_with : Unfinished → Finish → Recorded
recorded_with read finish = record { version = read.version; window = read.window; frame = read.frame; lines = read.lines; steps = finish.steps; taken = finish.taken }

-- the reading as one of these values, where its last line is there
as_finished : (text : List ℕ) (version window : ℕ) (frame : Framing) (lines : List Line) (found : Option Finish) (finish : Finish) → found ≡ Some finish →
    IsUnfinishedReading text (record { version = version; window = window; frame = frame; lines = lines; finish = found }) → IsUnfinishedReading text (record { version = version; window = window; frame = frame; lines = lines; finish = Some finish })
as_finished text version window frame lines found finish e reading =
    subst (λ (o : Option Finish). IsUnfinishedReading text (record { version = version; window = window; frame = frame; lines = lines; finish = o })) e reading

pub reads_finished : (text : List ℕ) (read : Unfinished) (finish : Finish) → IsUnfinishedReading text read → read.finish ≡ Some finish → IsReading text (recorded_with read finish)
reads_finished text read finish reading e =
    finished_reading text (recorded_with read finish) (as_finished text read.version read.window read.frame read.lines read.finish finish e reading)

pub refuses_missing : (text : List ℕ) (read : Unfinished) → IsUnfinishedReading text read → read.finish ≡ None → ReadsRecord text (Err (Refused (length read.lines + 2)))
refuses_missing text read reading e =
    let number : 2 + length read.lines ≡ length read.lines + 2 = omega arith in
    refuses text (length read.lines + 2) (reading-missing text read reading ∙ ap (λ (o : Option Finish). missing o (2 + length read.lines)) e ∙ ap (λ (n : ℕ). Some n) number)

pub refuses_too : (text : List ℕ) (refusal : RecordRefusal) → ReadsUnfinished text (Err refusal) → ReadsRecord text (Err refusal)
refuses_too text (Refused line) h = refuses text line (refused_too text line h.0)
refuses_too text Memory h = tt
