-- What holds behind lines that aren't wrong.
use Rattle.asm_lines.specs.declared.flaw.Flaw.TheVariants as flaw
use Rattle.asm_lines.specs.declared.form.Section.TheVariants as section
use Rattle.asm_lines.specs.declared.statement.Statement.TheVariants as statement
use Rattle.rv_asm.proofs.Terms.{Bool, Err, List, None, Ok, Option, Result, Some, [], ap, arith, cond, false, inl, inr, lit≤, refl, subst, sym, true, ℕ, ◌%◌, ◌&&◌, ◌++◌, ◌+◌, ◌==◌, ◌∙◌, ◌∷◌, ◌≡◌, ◌≢◌, ◌≤◌, ◌⊎◌, and_parts, eqb-false, false≢true, ltb-false, not-false, or_parts, All-nil, All-push, none-some, All, if◌then◌else◌, Flaw, Form, Section, Line, Words, Statement, line_of, gives_bytes, is_data, is_text, stands_in, size_of, statement_of, Layout, MOST_BYTES, Placed, definition_of, gives_text, has_no_text, is_misplaced, is_too_large, read_flaw, size_flaw, words_flaw, added_flaw, after_line, counted, found_flaw, is_placed_in, is_repeated, next_spot, no_lines, placed_at, size_of_both, size_of_section, with_bytes, with_label, with_placed, with_statement, IsDefined, IsEncodable, IsReady, IsSmall, IsSound}
use Rattle.rv_asm.proofs.Encodable.{AllOk, IsForm, Means, means}
use Rattle.rv_asm.proofs.Forms.{line_form}
use Rattle.rv_asm.proofs.Flaws.{is_out_of_place, after_label, after_words}

-- how many bytes some statements give a section
abbrev pub size_in : Section → Placed → ℕ
size_in section placed = if is_placed_in section placed then size_of placed.statement else 0

abbrev pub sizes : Section → List Placed → ℕ
sizes section [] = 0
sizes section (placed ∷ statements) = size_in section placed + sizes section statements

pub sizes-push : (section : Section) (statements : List Placed) (placed : Placed) → sizes section (statements ++ placed ∷ []) ≡ sizes section statements + size_in section placed
sizes-push section [] placed = omega arith
sizes-push section (first ∷ statements) placed = let rest = sizes-push section statements placed in omega (arith, rest)

pub record IsGood (layout : Layout) : Type 0 where
  pub within : layout.text_size + layout.data_size ≤ MOST_BYTES
  pub labels : All IsDefined layout.labels
  pub statements : All IsReady layout.statements
  pub text_is : layout.text_size ≡ sizes section.Text layout.statements
  pub data_is : layout.data_size ≡ sizes section.Data layout.statements
  pub whole : layout.text_size % 4 ≡ 0

pub good_start : IsGood no_lines
good_start = record { within = lit≤ tt; labels = All-nil IsDefined; statements = All-nil IsReady; text_is = refl; data_is = refl; whole = refl }

pub good_sound : (layout : Layout) → IsGood layout → IsSound layout
good_sound layout good = record { within = good.within; labels = good.labels; statements = good.statements }

good_counted : (layout : Layout) → IsGood layout → IsGood (counted layout)
good_counted layout good = record { within = good.within; labels = good.labels; statements = good.statements; text_is = good.text_is; data_is = good.data_is; whole = good.whole }

small_bytes : (in_force : Section) (layout : Layout) → layout.text_size + layout.data_size ≤ MOST_BYTES → size_of_section in_force layout ≤ MOST_BYTES
small_bytes section.Text layout h = omega arith
small_bytes section.Data layout h = omega arith

small_next : (layout : Layout) → IsGood layout → IsSmall (next_spot layout)
small_next layout good = small_bytes layout.section layout good.within

good_label : (label : Option (List ℕ)) (layout : Layout) → IsGood layout → IsGood (with_label label layout)
good_label None layout good = good
good_label (Some name) layout good = record {
  within = good.within;
  labels = All-push IsDefined layout.labels (definition_of name (next_spot layout)) good.labels (small_next layout good);
  statements = good.statements;
  text_is = good.text_is;
  data_is = good.data_is;
  whole = good.whole;
}

good_section : (in_force : Section) (layout : Layout) → IsGood layout → IsGood (record layout { section = in_force })
good_section in_force layout good = record { within = good.within; labels = good.labels; statements = good.statements; text_is = good.text_is; data_is = good.data_is; whole = good.whole }

-- a statement may come behind some lines
pub record Comes (layout : Layout) (statement : Statement) : Type 0 where
  pub small : layout.text_size + layout.data_size + size_of statement ≤ MOST_BYTES
  pub encodable : IsEncodable statement
  pub whole : is_text layout.section ≡ true → size_of statement % 4 ≡ 0

all_ready : (layout : Layout) (statement : Statement) → IsGood layout → IsEncodable statement → All IsReady (layout.statements ++ placed_at layout statement ∷ [])
all_ready layout statement good encodable = All-push IsReady layout.statements (placed_at layout statement) good.statements (record { small = small_next layout good; encodable = encodable })

size_here : (in_force : Section) (layout : Layout) (statement : Statement) → is_placed_in in_force (placed_at layout statement) ≡ true → sizes in_force (layout.statements ++ placed_at layout statement ∷ []) ≡ sizes in_force layout.statements + size_of statement
size_here in_force layout statement h = sizes-push in_force layout.statements (placed_at layout statement) ∙ ap (λ (b : Bool). sizes in_force layout.statements + (if b then size_of statement else 0)) h

size_elsewhere : (in_force : Section) (layout : Layout) (statement : Statement) → is_placed_in in_force (placed_at layout statement) ≡ false → sizes in_force (layout.statements ++ placed_at layout statement ∷ []) ≡ sizes in_force layout.statements
size_elsewhere in_force layout statement h = sizes-push in_force layout.statements (placed_at layout statement) ∙ ap (λ (b : Bool). sizes in_force layout.statements + (if b then size_of statement else 0)) h ∙ omega arith

abbrev with_last : Layout → Statement → Layout
with_last layout statement = record layout { statements = layout.statements ++ placed_at layout statement ∷ [] }

good_in : (in_force : Section) (layout : Layout) (statement : Statement) → layout.section ≡ in_force → IsGood layout → Comes layout statement → IsGood (with_bytes in_force (size_of statement) (with_last layout statement))
good_in section.Text layout statement here good comes =
    let more = size_here section.Text layout statement (ap is_text here) in
    let same = size_elsewhere section.Data layout statement (ap is_data here) in
    let four = comes.whole (ap is_text here) in
    record {
      within = omega (arith, comes.small);
      labels = good.labels;
      statements = all_ready layout statement good comes.encodable;
      text_is = omega (arith, more, good.text_is);
      data_is = omega (arith, same, good.data_is);
      whole = omega (arith, four, good.whole);
    }
good_in section.Data layout statement here good comes =
    let more = size_here section.Data layout statement (ap is_data here) in
    let same = size_elsewhere section.Text layout statement (ap is_text here) in
    record {
      within = omega (arith, comes.small);
      labels = good.labels;
      statements = all_ready layout statement good comes.encodable;
      text_is = omega (arith, same, good.text_is);
      data_is = omega (arith, more, good.data_is);
      whole = good.whole;
    }

good_placed : (layout : Layout) (statement : Statement) → IsGood layout → Comes layout statement → IsGood (with_placed statement layout)
good_placed layout statement good comes = good_in layout.section layout statement refl good comes

good_statement : (statement : Statement) (layout : Layout) → IsGood layout → Comes layout statement → IsGood (with_statement statement layout)
good_statement (statement.Into in_force) layout good comes = good_section in_force layout good
good_statement (statement.Instruction instr) layout good comes = good_placed layout (statement.Instruction instr) good comes
good_statement (statement.Branch op rs1 rs2 name) layout good comes = good_placed layout (statement.Branch op rs1 rs2 name) good comes
good_statement (statement.Jump rd name) layout good comes = good_placed layout (statement.Jump rd name) good comes
good_statement (statement.LoadNumber rd value) layout good comes = good_placed layout (statement.LoadNumber rd value) good comes
good_statement (statement.LoadAddress rd name) layout good comes = good_placed layout (statement.LoadAddress rd name) good comes
good_statement (statement.Word value) layout good comes = good_placed layout (statement.Word value) good comes
good_statement (statement.Address name) layout good comes = good_placed layout (statement.Address name) good comes
good_statement (statement.Byte value) layout good comes = good_placed layout (statement.Byte value) good comes
good_statement (statement.Space count) layout good comes = good_placed layout (statement.Space count) good comes
good_statement (statement.Ascii text) layout good comes = good_placed layout (statement.Ascii text) good comes

-- ---- a line

-- what a line that isn't wrong has: a statement that may come, if it has one
comes_after_label : (label : Option (List ℕ)) (layout : Layout) (statement : Statement) → Comes layout statement → Comes (with_label label (counted layout)) statement
comes_after_label None layout statement comes = record { small = comes.small; encodable = comes.encodable; whole = comes.whole }
comes_after_label (Some name) layout statement comes = record { small = comes.small; encodable = comes.encodable; whole = comes.whole }

good_behind : (label : Option (List ℕ)) (layout : Layout) (statement : Statement) → IsGood layout → Comes layout statement → IsGood (with_statement statement (with_label label (counted layout)))
good_behind label layout statement good comes =
    good_statement statement (with_label label (counted layout)) (good_label label (counted layout) (good_counted layout good)) (comes_after_label label layout statement comes)

-- a form that isn't in the wrong section
in_text : (in_force : Section) (found : Form) → stands_in in_force found ≡ true → is_text in_force ≡ true → stands_in section.Text found ≡ true
in_text section.Text found stands text = stands
in_text section.Data found stands text = absurd (false≢true text)

none_if : (b : Bool) (flaw : Flaw) (rest : Option Flaw) → cond b (Some flaw) rest ≡ None → (b ≡ false) × (rest ≡ None)
none_if true flaw rest h = absurd (none-some flaw (sym h))
none_if false flaw rest h = (refl, h)

small_enough : (layout : Layout) (statement : Statement) → size_flaw (size_of_both layout) statement ≡ None → layout.text_size + layout.data_size + size_of statement ≤ MOST_BYTES
small_enough layout statement h = ltb-false _ _ (none_if (is_too_large (size_of_both layout) statement) flaw.Range None h).0

-- a statement that was read and isn't too large
reads : (layout : Layout) (found : Form) (reading : Result Statement Flaw) → AllOk (Means found) reading → stands_in layout.section found ≡ true → read_flaw (size_of_both layout) reading ≡ None → (statement : Statement) × (reading ≡ Ok statement) × Means found statement × Comes layout statement
reads layout found (Err bad) all stands h = absurd (none-some bad (sym h))
reads layout found (Ok statement) all stands h =
    (statement, refl, all, record { small = small_enough layout statement h; encodable = all.encodable; whole = λ text. all.whole (in_text layout.section found stands text) })

-- the parts of a line that isn't wrong
pub record IsRight (layout : Layout) (last : Bool) (bytes : List ℕ) (line : Line) : Type 0 where
  pub read : line_of bytes ≡ Some line
  pub placed : is_misplaced layout.section line.words ≡ false
  pub texted : (last && has_no_text layout.section layout.text_size line.words) ≡ false
  pub worded : words_flaw (size_of_both layout) line.words ≡ None

right_parts : (layout : Layout) (last : Bool) (bytes : List ℕ) (found : Option Line) → line_of bytes ≡ found → found_flaw layout last found ≡ None → (line : Line) × IsRight layout last bytes line
right_parts layout last bytes None read h = absurd (none-some flaw.UnknownWord (sym h))
right_parts layout last bytes (Some line) read h =
    let outer = none_if (is_out_of_place layout last line.words) flaw.UnknownWord _ h in
    let places = or_parts (is_misplaced layout.section line.words) (last && has_no_text layout.section layout.text_size line.words) outer.0 in
    let inner = none_if (is_repeated layout line.label) flaw.DoubleLabel (words_flaw (size_of_both layout) line.words) outer.1 in
    (line, record { read = read; placed = places.0; texted = places.1; worded = inner.1 })

right_line : (layout : Layout) (last : Bool) (bytes : List ℕ) → added_flaw layout last bytes ≡ None → (line : Line) × IsRight layout last bytes line
unfolding added_flaw
right_line layout last bytes h = right_parts layout last bytes (line_of bytes) refl h

-- a line without a statement, or with one that comes
pub record HasStatement (layout : Layout) (bytes : List ℕ) (line : Line) : Type 0 where
  pub words : Words
  pub worded : line.words ≡ Some words
  pub statement : Statement
  pub read : statement_of words.form words.operands ≡ Ok statement
  pub means : Means words.form statement
  pub stands : stands_in layout.section words.form ≡ true
  pub comes : Comes layout statement

has_words : (layout : Layout) (last : Bool) (bytes : List ℕ) (line : Line) (words : Words) → IsRight layout last bytes line → line.words ≡ Some words → HasStatement layout bytes line
has_words layout last bytes line words right worded =
    let form : IsForm words.form = line_form bytes line words right.read worded in
    let stands : stands_in layout.section words.form ≡ true = not-false _ (sym (ap (is_misplaced layout.section) worded) ∙ right.placed) in
    let found = reads layout words.form (statement_of words.form words.operands) (means words.form words.operands form) stands (sym (ap (words_flaw (size_of_both layout)) worded) ∙ right.worded) in
    record { words = words; worded = worded; statement = found.0; read = found.1; means = found.2; stands = stands; comes = found.3 }

by_found : (layout : Layout) (last : Bool) (bytes : List ℕ) (line : Line) (found : Option Words) → IsRight layout last bytes line → line.words ≡ found → (line.words ≡ None) ⊎ HasStatement layout bytes line
by_found layout last bytes line None right worded = inl worded
by_found layout last bytes line (Some words) right worded = inr (has_words layout last bytes line words right worded)

after_right : (layout : Layout) (bytes : List ℕ) (line : Line) → IsGood layout → line_of bytes ≡ Some line → (line.words ≡ None) ⊎ HasStatement layout bytes line → IsGood (after_line layout bytes)
after_right layout bytes line good read (inl none) = subst IsGood (sym (after_label layout bytes line read none)) (good_label line.label (counted layout) (good_counted layout good))
after_right layout bytes line good read (inr has) = subst IsGood (sym (after_words layout bytes line has.words has.statement read has.worded has.read)) (good_behind line.label layout has.statement good has.comes)

-- behind a line that isn't wrong
pub good_after : (layout : Layout) (last : Bool) (bytes : List ℕ) → IsGood layout → added_flaw layout last bytes ≡ None → IsGood (after_line layout bytes)
good_after layout last bytes good h =
    let line = right_line layout last bytes h in
    after_right layout bytes line.0 good line.1.read (by_found layout last bytes line.0 line.0.words line.1 refl)

-- ---- text has bytes

text-with_bytes : (in_force : Section) (size : ℕ) (layout : Layout) → layout.text_size ≤ (with_bytes in_force size layout).text_size
text-with_bytes section.Text size layout = omega arith
text-with_bytes section.Data size layout = omega arith

text-with_placed : (statement : Statement) (layout : Layout) → layout.text_size ≤ (with_placed statement layout).text_size
text-with_placed statement layout = text-with_bytes layout.section (size_of statement) (with_last layout statement)

text-with_statement : (statement : Statement) (layout : Layout) → layout.text_size ≤ (with_statement statement layout).text_size
text-with_statement (statement.Into in_force) layout = omega arith
text-with_statement (statement.Instruction instr) layout = text-with_placed (statement.Instruction instr) layout
text-with_statement (statement.Branch op rs1 rs2 name) layout = text-with_placed (statement.Branch op rs1 rs2 name) layout
text-with_statement (statement.Jump rd name) layout = text-with_placed (statement.Jump rd name) layout
text-with_statement (statement.LoadNumber rd value) layout = text-with_placed (statement.LoadNumber rd value) layout
text-with_statement (statement.LoadAddress rd name) layout = text-with_placed (statement.LoadAddress rd name) layout
text-with_statement (statement.Word value) layout = text-with_placed (statement.Word value) layout
text-with_statement (statement.Address name) layout = text-with_placed (statement.Address name) layout
text-with_statement (statement.Byte value) layout = text-with_placed (statement.Byte value) layout
text-with_statement (statement.Space count) layout = text-with_placed (statement.Space count) layout
text-with_statement (statement.Ascii text) layout = text-with_placed (statement.Ascii text) layout

text-with_label : (label : Option (List ℕ)) (layout : Layout) → (with_label label (counted layout)).text_size ≡ layout.text_size
text-with_label None layout = refl
text-with_label (Some name) layout = refl

section-with_label : (label : Option (List ℕ)) (layout : Layout) → (with_label label (counted layout)).section ≡ layout.section
section-with_label None layout = refl
section-with_label (Some name) layout = refl

-- a statement of some bytes in text
filled_in : (in_force : Section) (size : ℕ) (layout : Layout) → is_text in_force ≡ true → 4 ≤ size → 4 ≤ (with_bytes in_force size layout).text_size
filled_in section.Text size layout text some = omega arith
filled_in section.Data size layout text some = absurd (false≢true text)

filled_placed : (statement : Statement) (layout : Layout) → is_text layout.section ≡ true → 4 ≤ size_of statement → 4 ≤ (with_placed statement layout).text_size
filled_placed statement layout text some = filled_in layout.section (size_of statement) (with_last layout statement) text some

filled_statement : (statement : Statement) (layout : Layout) → is_text layout.section ≡ true → 4 ≤ size_of statement → 4 ≤ (with_statement statement layout).text_size
filled_statement (statement.Into in_force) layout text some = absurd (omega (arith, some))
filled_statement (statement.Instruction instr) layout text some = filled_placed (statement.Instruction instr) layout text some
filled_statement (statement.Branch op rs1 rs2 name) layout text some = filled_placed (statement.Branch op rs1 rs2 name) layout text some
filled_statement (statement.Jump rd name) layout text some = filled_placed (statement.Jump rd name) layout text some
filled_statement (statement.LoadNumber rd value) layout text some = filled_placed (statement.LoadNumber rd value) layout text some
filled_statement (statement.LoadAddress rd name) layout text some = filled_placed (statement.LoadAddress rd name) layout text some
filled_statement (statement.Word value) layout text some = filled_placed (statement.Word value) layout text some
filled_statement (statement.Address name) layout text some = filled_placed (statement.Address name) layout text some
filled_statement (statement.Byte value) layout text some = filled_placed (statement.Byte value) layout text some
filled_statement (statement.Space count) layout text some = filled_placed (statement.Space count) layout text some
filled_statement (statement.Ascii written) layout text some = filled_placed (statement.Ascii written) layout text some

-- a number that isn't 0 and is a multiple of 4
four_at_least : (n : ℕ) → n % 4 ≡ 0 → n ≢ 0 → 4 ≤ n
four_at_least n whole some = omega arith

had_text : (layout : Layout) → IsGood layout → (layout.text_size == 0) ≡ false → 4 ≤ layout.text_size
had_text layout good h = four_at_least layout.text_size good.whole (eqb-false layout.text_size 0 h)

-- text had bytes before, or the line gives it some
texts : (layout : Layout) (words : Option Words) → has_no_text layout.section layout.text_size words ≡ false → ((layout.text_size == 0) ≡ false) ⊎ (gives_text layout.section words ≡ true)
texts layout words h = by (layout.text_size == 0) refl
  where
    by : (b : Bool) → (layout.text_size == 0) ≡ b → ((layout.text_size == 0) ≡ false) ⊎ (gives_text layout.section words ≡ true)
    by false e = inl e
    by true e = inr (not-false _ (rw e at h))

gives_parts : (layout : Layout) (words : Words) → gives_text layout.section (Some words) ≡ true → (is_text layout.section ≡ true) × (gives_bytes words.form ≡ true)
gives_parts layout words h = and_parts (is_text layout.section) (gives_bytes words.form) h

text_of_statement : (layout : Layout) (bytes : List ℕ) (line : Line) → IsGood layout → line_of bytes ≡ Some line → ((layout.text_size == 0) ≡ false) ⊎ (gives_text layout.section line.words ≡ true) → (line.words ≡ None) ⊎ HasStatement layout bytes line → 4 ≤ (after_line layout bytes).text_size
text_of_statement layout bytes line good read (inl had) (inl none) =
    let e : (after_line layout bytes).text_size ≡ layout.text_size = ap (λ (layout : Layout). layout.text_size) (after_label layout bytes line read none) ∙ text-with_label line.label layout in
    let some = had_text layout good had in
    omega (arith, e, some)
text_of_statement layout bytes line good read (inr gives) (inl none) = absurd (false≢true (sym (ap (gives_text layout.section) none) ∙ gives))
text_of_statement layout bytes line good read (inl had) (inr has) =
    let e : (after_line layout bytes).text_size ≡ (with_statement has.statement (with_label line.label (counted layout))).text_size = ap (λ (layout : Layout). layout.text_size) (after_words layout bytes line has.words has.statement read has.worded has.read) in
    let more = text-with_statement has.statement (with_label line.label (counted layout)) in
    let same = text-with_label line.label layout in
    let some = had_text layout good had in
    omega (arith, e, more, same, some)
text_of_statement layout bytes line good read (inr gives) (inr has) =
    let e : (after_line layout bytes).text_size ≡ (with_statement has.statement (with_label line.label (counted layout))).text_size = ap (λ (layout : Layout). layout.text_size) (after_words layout bytes line has.words has.statement read has.worded has.read) in
    let parts = gives_parts layout has.words (sym (ap (gives_text layout.section) has.worded) ∙ gives) in
    let size : 4 ≤ size_of has.statement = has.means.some (in_text layout.section has.words.form has.stands parts.0) parts.1 in
    let filled = filled_statement has.statement (with_label line.label (counted layout)) (ap is_text (section-with_label line.label layout) ∙ parts.0) size in
    omega (arith, e, filled)

pub text_at_end : (layout : Layout) (bytes : List ℕ) → IsGood layout → added_flaw layout true bytes ≡ None → 4 ≤ (after_line layout bytes).text_size
text_at_end layout bytes good h =
    let line = right_line layout true bytes h in
    text_of_statement layout bytes line.0 good line.1.read (texts layout line.0.words line.1.texted) (by_found layout true bytes line.0 line.0.words line.1 refl)
