-- What is answered for a text.
use Rattle.rv_asm.proofs.Terms.{Err, List, None, Option, Some, ap, arith, min, refl, subst, sym, ℕ, ◌-◌, ◌^◌, ◌∙◌, ◌∷◌, ◌≡◌, option_or, Image, kind_of, lines_of, AsmRefusal, Fault, Stop, Layout, Sections, data_start, text_start, refusal_of, AnswersFault, AreBytes, IsAssembled, IsReason, data_segments, segment, labels_fault, layout_of, lines_fault, no_lines, IsSound, Answers, AreSections, AreSmall, IsImageOf, Surveys, WritesSections}
use Rattle.rv_asm.specs.declared.asm_refusal.Stop.TheVariants as stop
use Rattle.asm_lines.specs.declared.form.Section.TheVariants as section
use Rattle.rv_asm.proofs.Agreement.{refusal_is, cells_are, size_is}
use Rattle.rv_asm.proofs.Good.{good_sound}
use Rattle.rv_asm.proofs.Texts.{good_text, some_text, section_length}

-- the layout of a text whose lines aren't wrong
pub sound_layout : (text : List ℕ) (layout : Layout) → lines_fault no_lines (lines_of text) ≡ None → layout ≡ layout_of text → IsSound layout
sound_layout text layout h is = subst IsSound (sym is) (good_sound (layout_of text) (good_text text h))

-- a fault is answered
reason_of : (text : List ℕ) (window : ℕ) (found : Fault) (refusal : AsmRefusal) → refusal_of text ≡ Some found → Answers (stop.Refused found) refusal → IsReason text window refusal
reason_of text window found refusal h answers =
    subst (IsReason text window) (sym answers) (subst (λ (fault : Option Fault). AnswersFault fault (kind_of found.flaw) (min found.line (2 ^ 32 - 1))) (sym h) (refl, refl))

memory_reason : (text : List ℕ) (window : ℕ) (refusal : AsmRefusal) → Answers stop.Memory refusal → IsReason text window refusal
memory_reason text window refusal answers = subst (IsReason text window) (sym answers) tt

by_lines : (text : List ℕ) (found : Fault) → lines_fault no_lines (lines_of text) ≡ Some found → refusal_of text ≡ Some found
by_lines text found h = refusal_is text ∙ ap (λ fault. option_or fault (labels_fault (layout_of text) (layout_of text).statements)) h

by_labels : (text : List ℕ) (layout : Layout) (answer : Option Fault) → lines_fault no_lines (lines_of text) ≡ None → layout ≡ layout_of text → labels_fault layout layout.statements ≡ answer → refusal_of text ≡ answer
by_labels text layout answer h is found =
    refusal_is text
    ∙ ap (λ fault. option_or fault (labels_fault (layout_of text) (layout_of text).statements)) h
    ∙ ap (λ (layout : Layout). labels_fault layout layout.statements) (sym is)
    ∙ found

pub refused_by_lines : (text : List ℕ) (window : ℕ) (why : Stop) (refusal : AsmRefusal) → Surveys text (Err why) → Answers why refusal → IsReason text window refusal
refused_by_lines text window (stop.Refused found) refusal surveys answers = reason_of text window found refusal (by_lines text found surveys) answers
refused_by_lines text window stop.Memory refusal surveys answers = memory_reason text window refusal answers

pub refused_by_labels : (text : List ℕ) (window : ℕ) (layout : Layout) (why : Stop) (refusal : AsmRefusal) → lines_fault no_lines (lines_of text) ≡ None → layout ≡ layout_of text → WritesSections layout (Err why) → Answers why refusal → IsReason text window refusal
refused_by_labels text window layout (stop.Refused found) refusal h is writes answers = reason_of text window found refusal (by_labels text layout (Some found) h is writes) answers
refused_by_labels text window layout stop.Memory refusal h is writes answers = memory_reason text window refusal answers

-- the sections of a text are small
small_of : (text : List ℕ) (sections : Sections) → lines_fault no_lines (lines_of text) ≡ None → AreSections (layout_of text) sections → AreSmall (layout_of text).text_size sections.code sections.variables
small_of text sections h are =
    let good = good_text text h in
    let within = good.within in
    let text_is = good.text_is in
    let data_is = good.data_is in
    let code = section_length section.Text (layout_of text) (layout_of text).statements sections.code are.code in
    let variables = section_length section.Data (layout_of text) (layout_of text).statements sections.variables are.variables in
    record { text_is = omega (arith, code, text_is); some = some_text text h; within = omega (arith, within, variables, data_is) }

pub small_sections : (text : List ℕ) (layout : Layout) (sections : Sections) → lines_fault no_lines (lines_of text) ≡ None → layout ≡ layout_of text → AreSections layout sections → AreSmall layout.text_size sections.code sections.variables
small_sections text layout sections h is are =
    subst (λ (layout : Layout). AreSmall layout.text_size sections.code sections.variables) (sym is) (small_of text sections h (subst (λ (layout : Layout). AreSections layout sections) is are))

assembled_of : (text : List ℕ) (window : ℕ) (sections : Sections) (image : Image) → lines_fault no_lines (lines_of text) ≡ None → AreSections (layout_of text) sections → IsImageOf (layout_of text) sections window image → IsAssembled text window image
assembled_of text window sections image h are of = record {
  code = sections.code;
  variables = sections.variables;
  accepted = by_labels text (layout_of text) None h refl are.linked;
  code_is = subst (λ cells. AreBytes cells sections.code) (cells_are section.Text text) are.code;
  variables_are = subst (λ cells. AreBytes cells sections.variables) (cells_are section.Data text) are.variables;
  entry = of.entry;
  in_window = of.in_window;
  segments = of.segments ∙ ap (λ size. segment text_start 5 sections.code ∷ data_segments (data_start size) sections.variables) (size_is text);
}

pub assembled : (text : List ℕ) (window : ℕ) (layout : Layout) (sections : Sections) (image : Image) → lines_fault no_lines (lines_of text) ≡ None → layout ≡ layout_of text → AreSections layout sections → IsImageOf layout sections window image → IsAssembled text window image
assembled text window layout sections image h is are of =
    assembled_of text window sections image h (subst (λ (layout : Layout). AreSections layout sections) is are) (subst (λ (layout : Layout). IsImageOf layout sections window image) is of)
