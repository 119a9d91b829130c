-- What stands in the two files at the end.
use Rattle.std.specs.Prelude.{ℕ, List, ◌++◌, length}
use Rattle.msg_frame.specs.declared.framing.Framing.{Framing}
use Rattle.run_report.specs.Report as report
use Rattle.schedule_file.specs.Lines as recorded
use Rattle.schedule_file.specs.Records.{record_of, text_of}
use Rattle.schedule_file.specs.declared.recorded.TheConstants.{VERSION}
use Rattle.file_notes.specs.Terms.{Contents, Choice, Episode, Form}
use Rattle.file_notes.specs.Names.{Names}
use Rattle.file_notes.specs.Left.{Nothing}
use Rattle.file_notes.specs.Standing.{HasNotes, HasNotesBehind}
use Rattle.file_notes.specs.Texts.{report_text, told_text}
use Rattle.file_notes.specs.Writing.{HasBoth, nothing_kept, all_kept}

-- files that were started, in which all was noted and no call failed, and that were ended, have the text of the whole record
-- and that of the whole report, whatever they had before
abbrev pub WholeTexts : Type 0
WholeTexts =
    (names : Names) (window : ℕ) (frame : Framing) (form : Form) (before started noted now : Contents) (choices : List Choice) (episodes : List Episode) (status taken steps : ℕ) →
    HasBoth nothing_kept names (recorded.head_line VERSION window frame) (report.head_text form) before started →
    HasNotes names form started noted choices episodes Nothing →
    HasBoth all_kept names (recorded.end_line steps taken) (report.end_text status taken steps form) noted now →
    HasBoth nothing_kept names (text_of (record_of window frame choices steps taken)) (report_text form episodes status taken steps) before now

-- so have files of a session that took over: its report was started with the episodes that were told before, and the later ones are numbered on from them
abbrev pub WholeTextsBehind : Type 0
WholeTextsBehind =
    (names : Names) (window : ℕ) (frame : Framing) (form : Form) (before started noted now : Contents) (choices : List Choice) (earlier episodes : List Episode) (status taken steps : ℕ) →
    HasBoth nothing_kept names (recorded.head_line VERSION window frame) (told_text form earlier) before started →
    HasNotesBehind names form (length earlier) started noted choices episodes Nothing →
    HasBoth all_kept names (recorded.end_line steps taken) (report.end_text status taken steps form) noted now →
    HasBoth nothing_kept names (text_of (record_of window frame choices steps taken)) (report_text form (earlier ++ episodes) status taken steps) before now
