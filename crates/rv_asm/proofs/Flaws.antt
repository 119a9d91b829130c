-- What is wrong with a line, and what a line comes to, by its parts.
use Rattle.asm_lines.specs.declared.flaw.Flaw.TheVariants as flaw
use Rattle.rv_asm.proofs.Terms.{Bool, Err, List, None, Ok, Option, Result, Some, ap, false, refl, true, ℕ, ◌&&◌, ◌||◌, ◌∙◌, ◌≡◌, Flaw, Line, Words, Statement, line_of, statement_of, Layout, has_no_text, is_misplaced, is_too_large, read_flaw, words_flaw, added_flaw, after_line, counted, found_flaw, is_repeated, size_of_both, with_label, with_line, with_read, with_statement, with_words}

abbrev pub is_out_of_place : Layout → Bool → Option Words → Bool
is_out_of_place layout last words = is_misplaced layout.section words || last && has_no_text layout.section layout.text_size words

pub unread : (layout : Layout) (last : Bool) (bytes : List ℕ) → line_of bytes ≡ None → added_flaw layout last bytes ≡ Some flaw.UnknownWord
unfolding added_flaw
unread layout last bytes h = ap (found_flaw layout last) h

read : (layout : Layout) (last : Bool) (bytes : List ℕ) (line : Line) (answer : Option Flaw) → line_of bytes ≡ Some line → found_flaw layout last (Some line) ≡ answer → added_flaw layout last bytes ≡ answer
unfolding added_flaw
read layout last bytes line answer h e = ap (found_flaw layout last) h ∙ e

pub out_of_place : (layout : Layout) (last : Bool) (bytes : List ℕ) (line : Line) → line_of bytes ≡ Some line → is_out_of_place layout last line.words ≡ true → added_flaw layout last bytes ≡ Some flaw.UnknownWord
out_of_place layout last bytes line h e = read layout last bytes line _ h (rw e refl)

pub repeated : (layout : Layout) (last : Bool) (bytes : List ℕ) (line : Line) → line_of bytes ≡ Some line → is_out_of_place layout last line.words ≡ false → is_repeated layout line.label ≡ true → added_flaw layout last bytes ≡ Some flaw.DoubleLabel
repeated layout last bytes line h e r = read layout last bytes line _ h (rw (e, r) refl)

in_place : (layout : Layout) (last : Bool) (bytes : List ℕ) (line : Line) (answer : Option Flaw) → line_of bytes ≡ Some line → is_out_of_place layout last line.words ≡ false → is_repeated layout line.label ≡ false → words_flaw (size_of_both layout) line.words ≡ answer → added_flaw layout last bytes ≡ answer
in_place layout last bytes line answer h e r w = read layout last bytes line answer h (rw (e, r) w)

pub no_words : (layout : Layout) (last : Bool) (bytes : List ℕ) (line : Line) → line_of bytes ≡ Some line → is_out_of_place layout last line.words ≡ false → is_repeated layout line.label ≡ false → line.words ≡ None → added_flaw layout last bytes ≡ None
no_words layout last bytes line h e r w = in_place layout last bytes line None h e r (ap (words_flaw (size_of_both layout)) w)

words_read : (layout : Layout) (words : Option Words) (some : Words) (reading : Result Statement Flaw) → words ≡ Some some → statement_of some.form some.operands ≡ reading → words_flaw (size_of_both layout) words ≡ read_flaw (size_of_both layout) reading
words_read layout words some reading w s = ap (words_flaw (size_of_both layout)) w ∙ ap (read_flaw (size_of_both layout)) s

pub bad_words : (layout : Layout) (last : Bool) (bytes : List ℕ) (line : Line) (words : Words) (flaw : Flaw) → line_of bytes ≡ Some line → is_out_of_place layout last line.words ≡ false → is_repeated layout line.label ≡ false → line.words ≡ Some words → statement_of words.form words.operands ≡ Err flaw → added_flaw layout last bytes ≡ Some flaw
bad_words layout last bytes line words flaw h e r w s = in_place layout last bytes line (Some flaw) h e r (words_read layout line.words words (Err flaw) w s)

pub too_large : (layout : Layout) (last : Bool) (bytes : List ℕ) (line : Line) (words : Words) (statement : Statement) → line_of bytes ≡ Some line → is_out_of_place layout last line.words ≡ false → is_repeated layout line.label ≡ false → line.words ≡ Some words → statement_of words.form words.operands ≡ Ok statement → is_too_large (size_of_both layout) statement ≡ true → added_flaw layout last bytes ≡ Some flaw.Range
too_large layout last bytes line words statement h e r w s large = in_place layout last bytes line (Some flaw.Range) h e r (words_read layout line.words words (Ok statement) w s ∙ rw large refl)

pub good_words : (layout : Layout) (last : Bool) (bytes : List ℕ) (line : Line) (words : Words) (statement : Statement) → line_of bytes ≡ Some line → is_out_of_place layout last line.words ≡ false → is_repeated layout line.label ≡ false → line.words ≡ Some words → statement_of words.form words.operands ≡ Ok statement → is_too_large (size_of_both layout) statement ≡ false → added_flaw layout last bytes ≡ None
good_words layout last bytes line words statement h e r w s small = in_place layout last bytes line None h e r (words_read layout line.words words (Ok statement) w s ∙ rw small refl)

-- what a line comes to
after : (layout : Layout) (bytes : List ℕ) (line : Line) → line_of bytes ≡ Some line → after_line layout bytes ≡ with_words line.words (with_label line.label (counted layout))
unfolding after_line
after layout bytes line h = ap (λ line. with_line line (counted layout)) h

pub after_label : (layout : Layout) (bytes : List ℕ) (line : Line) → line_of bytes ≡ Some line → line.words ≡ None → after_line layout bytes ≡ with_label line.label (counted layout)
after_label layout bytes line h w = after layout bytes line h ∙ ap (λ words. with_words words (with_label line.label (counted layout))) w

pub after_words : (layout : Layout) (bytes : List ℕ) (line : Line) (words : Words) (statement : Statement) → line_of bytes ≡ Some line → line.words ≡ Some words → statement_of words.form words.operands ≡ Ok statement → after_line layout bytes ≡ with_statement statement (with_label line.label (counted layout))
after_words layout bytes line words statement h w s =
    after layout bytes line h
    ∙ ap (λ words. with_words words (with_label line.label (counted layout))) w
    ∙ ap (λ reading. with_read reading (with_label line.label (counted layout))) s
