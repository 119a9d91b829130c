-- A pass over the lines of a text.
use Rattle.std.proofs.Math.Dec.{eqb-suc-zero}
use Rattle.rv_asm.proofs.Terms.{Bool, Err, List, None, Ok, Option, Result, Some, [], ap, ap₂, false, length, option_map, refl, sym, true, ℕ, ◌++◌, ◌+◌, ◌==◌, ◌∙◌, ◌∷◌, ◌≡◌, false≢true, option_or, Flaw, Section, Line, Words, Statement, lines_by, lines_from-cut, cut, line_of, lines_from, lines_of, size_of, statement_of, Trouble, Layout, fault, added_flaw, after_line, after_lines, counted, is_end, layout_of, lines_fault, no_lines, placed_at, with_bytes, with_label, with_line, with_placed, with_read, with_statement, with_words, stopped, AddsLine, Surveys}
use Rattle.rv_asm.specs.declared.asm_refusal.Trouble.TheVariants as trouble
use Rattle.asm_lines.specs.declared.form.Section.TheVariants as section
use Rattle.asm_lines.specs.declared.statement.Statement.TheVariants as statement

more_lines : (byte : ℕ) (bytes : List ℕ) (parts : Option (List ℕ × List ℕ)) → is_end (lines_by (byte ∷ bytes) parts) ≡ false
more_lines byte bytes None = refl
more_lines byte bytes (Some parts) = refl

-- the last line is the one behind which there is nothing
pub is_end-lines_from : (bytes : List ℕ) → is_end (lines_from bytes) ≡ (length bytes == 0)
is_end-lines_from [] = refl
is_end-lines_from (byte ∷ bytes) = ap is_end (lines_from-cut (byte ∷ bytes)) ∙ more_lines byte bytes (cut 10 (byte ∷ bytes)) ∙ sym (eqb-suc-zero (length bytes))

-- a line that is wrong
pub wrong_line : (layout : Layout) (rest line behind : List ℕ) (last : Bool) (flaw : Flaw) → lines_of rest ≡ line ∷ lines_from behind → last ≡ (length behind == 0) → added_flaw layout last line ≡ Some flaw → lines_fault layout (lines_of rest) ≡ Some (fault (layout.lines + 1) flaw)
wrong_line layout rest line behind last flaw lines end wrong =
    ap (lines_fault layout) lines
    ∙ ap (λ answer. option_or (option_map (fault (layout.lines + 1)) answer) (lines_fault (after_line layout line) (lines_from behind)))
    (ap (λ last. added_flaw layout last line) (is_end-lines_from behind ∙ sym end) ∙ wrong)

-- a line that isn't
pub good_line : (layout : Layout) (rest line behind : List ℕ) (last : Bool) → lines_of rest ≡ line ∷ lines_from behind → last ≡ (length behind == 0) → added_flaw layout last line ≡ None → lines_fault layout (lines_of rest) ≡ lines_fault (after_line layout line) (lines_from behind)
good_line layout rest line behind last lines end good =
    ap (lines_fault layout) lines
    ∙ ap (λ answer. option_or (option_map (fault (layout.lines + 1)) answer) (lines_fault (after_line layout line) (lines_from behind)))
    (ap (λ last. added_flaw layout last line) (is_end-lines_from behind ∙ sym end) ∙ good)

pub after_good_line : (layout : Layout) (rest line behind : List ℕ) → lines_of rest ≡ line ∷ lines_from behind → after_lines layout (lines_of rest) ≡ after_lines (after_line layout line) (lines_from behind)
after_good_line layout rest line behind lines = ap (after_lines layout) lines

-- the lines of what is left
pub lines_left : (bytes : List ℕ) → (length bytes == 0) ≡ false → lines_from bytes ≡ lines_of bytes
lines_left [] h = absurd (false≢true (sym h))
lines_left (byte ∷ bytes) h = refl

pub no_lines_left : (bytes : List ℕ) → (length bytes == 0) ≡ true → lines_from bytes ≡ []
no_lines_left [] h = refl
no_lines_left (byte ∷ bytes) h = absurd (false≢true (sym (eqb-suc-zero (length bytes)) ∙ h))

-- ---- lines are counted

lines-with_label : (label : Option (List ℕ)) (layout : Layout) → (with_label label layout).lines ≡ layout.lines
lines-with_label None layout = refl
lines-with_label (Some name) layout = refl

lines-with_bytes : (section : Section) (size : ℕ) (layout : Layout) → (with_bytes section size layout).lines ≡ layout.lines
lines-with_bytes section.Text size layout = refl
lines-with_bytes section.Data size layout = refl

lines-with_placed : (statement : Statement) (layout : Layout) → (with_placed statement layout).lines ≡ layout.lines
lines-with_placed statement layout = lines-with_bytes layout.section (size_of statement) (record layout { statements = layout.statements ++ placed_at layout statement ∷ [] })

lines-with_statement : (statement : Statement) (layout : Layout) → (with_statement statement layout).lines ≡ layout.lines
lines-with_statement (statement.Into section) layout = refl
lines-with_statement (statement.Instruction instr) layout = lines-with_placed (statement.Instruction instr) layout
lines-with_statement (statement.Branch op rs1 rs2 name) layout = lines-with_placed (statement.Branch op rs1 rs2 name) layout
lines-with_statement (statement.Jump rd name) layout = lines-with_placed (statement.Jump rd name) layout
lines-with_statement (statement.LoadNumber rd value) layout = lines-with_placed (statement.LoadNumber rd value) layout
lines-with_statement (statement.LoadAddress rd name) layout = lines-with_placed (statement.LoadAddress rd name) layout
lines-with_statement (statement.Word value) layout = lines-with_placed (statement.Word value) layout
lines-with_statement (statement.Address name) layout = lines-with_placed (statement.Address name) layout
lines-with_statement (statement.Byte value) layout = lines-with_placed (statement.Byte value) layout
lines-with_statement (statement.Space count) layout = lines-with_placed (statement.Space count) layout
lines-with_statement (statement.Ascii text) layout = lines-with_placed (statement.Ascii text) layout

lines-with_read : (reading : Result Statement Flaw) (layout : Layout) → (with_read reading layout).lines ≡ layout.lines
lines-with_read (Ok statement) layout = lines-with_statement statement layout
lines-with_read (Err flaw) layout = refl

lines-with_words : (words : Option Words) (layout : Layout) → (with_words words layout).lines ≡ layout.lines
lines-with_words None layout = refl
lines-with_words (Some words) layout = lines-with_read (statement_of words.form words.operands) layout

lines-with_line : (line : Option Line) (layout : Layout) → (with_line line layout).lines ≡ layout.lines
lines-with_line None layout = refl
lines-with_line (Some line) layout = lines-with_words line.words (with_label line.label layout) ∙ lines-with_label line.label layout

pub lines-after_line : (layout : Layout) (bytes : List ℕ) → (after_line layout bytes).lines ≡ layout.lines + 1
unfolding after_line
lines-after_line layout bytes = lines-with_line (line_of bytes) (counted layout)

-- ---- the pass

pub survey_stops : (text rest line behind : List ℕ) (layout new : Layout) (last : Bool) (trouble : Trouble) → lines_fault layout (lines_of rest) ≡ lines_fault no_lines (lines_of text) → lines_of rest ≡ line ∷ lines_from behind → last ≡ (length behind == 0) → AddsLine layout new last line (Err trouble) → Surveys text (Err (stopped (layout.lines + 1) trouble))
survey_stops text rest line behind layout new last (trouble.Flawed flaw) first lines end wrong = sym first ∙ wrong_line layout rest line behind last flaw lines end wrong
survey_stops text rest line behind layout new last trouble.Memory first lines end wrong = tt

pub survey_ends : (text rest line behind : List ℕ) (layout new : Layout) (last : Bool) → lines_fault layout (lines_of rest) ≡ lines_fault no_lines (lines_of text) → after_lines layout (lines_of rest) ≡ after_lines no_lines (lines_of text) → lines_of rest ≡ line ∷ lines_from behind → last ≡ (length behind == 0) → last ≡ true → added_flaw layout last line ≡ None → new ≡ after_line layout line → (lines_fault no_lines (lines_of text) ≡ None) × (new ≡ layout_of text)
unfolding layout_of
survey_ends text rest line behind layout new last first after lines end true_ good is =
    let none : lines_from behind ≡ [] = no_lines_left behind (sym end ∙ true_) in (
      sym first ∙ good_line layout rest line behind last lines end good ∙ ap (lines_fault (after_line layout line)) none,
      is ∙ sym (sym after ∙ after_good_line layout rest line behind lines ∙ ap (after_lines (after_line layout line)) none),
    )

pub survey_goes_on : (text rest line behind : List ℕ) (layout new : Layout) (last : Bool) → lines_fault layout (lines_of rest) ≡ lines_fault no_lines (lines_of text) → after_lines layout (lines_of rest) ≡ after_lines no_lines (lines_of text) → lines_of rest ≡ line ∷ lines_from behind → last ≡ (length behind == 0) → last ≡ false → added_flaw layout last line ≡ None → new ≡ after_line layout line → (lines_fault new (lines_of behind) ≡ lines_fault no_lines (lines_of text)) × (after_lines new (lines_of behind) ≡ after_lines no_lines (lines_of text)) × (new.lines ≡ layout.lines + 1)
survey_goes_on text rest line behind layout new last first after lines end false_ good is =
    let left : lines_from behind ≡ lines_of behind = lines_left behind (sym end ∙ false_) in (
      ap₂ lines_fault is (sym left) ∙ sym (good_line layout rest line behind last lines end good) ∙ first,
      ap₂ after_lines is (sym left) ∙ sym (after_good_line layout rest line behind lines) ∙ after,
      ap (λ (layout : Layout). layout.lines) is ∙ lines-after_line layout line,
    )
