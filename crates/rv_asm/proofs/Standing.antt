-- What the passes of the code hold behind some lines is what the definitions say of those lines.
use Rattle.std.proofs.lemmas.List.Sums.{sum_by-append}
use Rattle.asm_lines.specs.declared.form.Section.TheVariants as section
use Rattle.asm_lines.specs.declared.statement.Statement.TheVariants as statement
use Rattle.rv_asm.proofs.Terms.{Bool, Err, List, None, Ok, Option, Result, Some, [], ap, append_assoc, ap₂, arith, false, length, length-append, map, option_map, refl, subst, sym, true, ℕ, ◌++◌, ◌+◌, ◌∙◌, ◌∷◌, ◌≡◌, append-nil, filter_map-append, cons_option, filter_map, sum_by, if◌then◌else◌, result_ok, Flaw, Section, Line, Words, Statement, line_of, lines_of, size_of, statement_of, Layout, Placed, Spot, Definition, definition_of, Place, bytes_in, in_force_behind, is_in, label_on, last_named, line_number, named_by, place, places, places_behind, read_lines, section_at, size_at, size_on, statement_in, statement_on, after_line, after_lines, counted, layout_of, next_spot, no_lines, placed_at, size_of_section, with_bytes, with_label, with_line, with_placed, with_read, with_statement, with_words}

-- ---- one line more

places_push : (before lines : List (Option Line)) (last : Option Line) → places_behind before (lines ++ last ∷ []) ≡ places_behind before lines ++ place (before ++ lines) last ∷ []
places_push before [] last = ap (λ others. place others last ∷ []) (sym (append-nil before))
places_push before (line ∷ lines) last =
    ap (λ rest. place before line ∷ rest)
    (places_push (before ++ line ∷ []) lines last
    ∙ ap (λ others. places_behind (before ++ line ∷ []) lines ++ place others last ∷ []) (append_assoc before (line ∷ []) lines))

named_push : (in_force : Section) (lines : List (Option Line)) (last : Option Line) → last_named in_force (lines ++ last ∷ []) ≡ in_force_behind (last_named in_force lines) (statement_on last)
named_push in_force [] last = refl
named_push in_force (line ∷ lines) last = named_push (in_force_behind in_force (statement_on line)) lines last

bytes_push : (section : Section) (lines : List (Option Line)) (last : Option Line) → bytes_in section (lines ++ last ∷ []) ≡ bytes_in section lines + size_at section (place lines last)
bytes_push section lines last =
    let parts = ap (sum_by (size_at section)) (places_push [] lines last) ∙ sum_by-append (size_at section) (places lines) (place lines last ∷ []) in
    omega (arith, parts)

-- what the code holds of a line

abbrev pub spot_at : Place → Spot
spot_at place = record { section = section_at place; offset = bytes_in (section_at place) place.before }

abbrev pub definition_by : Spot → Option (List ℕ) → Option Definition
definition_by spot label = option_map (λ name. definition_of name spot) label

abbrev pub definition_at : Place → Option Definition
definition_at place = definition_by (spot_at place) (label_on place.line)

abbrev pub placed_as : ℕ → Spot → Statement → Option Placed
placed_as line spot (statement.Into section) = None
placed_as line spot statement = Some (record { line = line; spot = spot; statement = statement })

abbrev pub placed_by : ℕ → Spot → Option Statement → Option Placed
placed_by line spot None = None
placed_by line spot (Some statement) = placed_as line spot statement

abbrev pub placed_on : Place → Option Placed
placed_on place = placed_by (line_number place) (spot_at place) (statement_on place.line)

definitions_push : (lines : List (Option Line)) (last : Option Line) → filter_map definition_at (places (lines ++ last ∷ [])) ≡ filter_map definition_at (places lines) ++ cons_option (definition_at (place lines last)) []
definitions_push lines last = ap (filter_map definition_at) (places_push [] lines last) ∙ filter_map-append definition_at (places lines) (place lines last ∷ [])

placed_push : (lines : List (Option Line)) (last : Option Line) → filter_map placed_on (places (lines ++ last ∷ [])) ≡ filter_map placed_on (places lines) ++ cons_option (placed_on (place lines last)) []
placed_push lines last = ap (filter_map placed_on) (places_push [] lines last) ∙ filter_map-append placed_on (places lines) (place lines last ∷ [])

-- ---- what a statement adds

-- the bytes that it gives a section
abbrev pub given : Section → Section → Option Statement → ℕ
given section in_force found = if is_in section in_force then size_on found else 0

pub record Grows (old new : Layout) (found : Option Statement) : Type 0 where
  pub lines : new.lines ≡ old.lines
  pub in_force : new.section ≡ in_force_behind old.section found
  pub text : new.text_size ≡ old.text_size + given section.Text old.section found
  pub variables : new.data_size ≡ old.data_size + given section.Data old.section found
  pub labels : new.labels ≡ old.labels
  pub statements : new.statements ≡ old.statements ++ cons_option (placed_by old.lines (next_spot old) found) []

nothing : (b : Bool) (size : ℕ) → size ≡ size + (if b then 0 else 0)
nothing true size = omega arith
nothing false size = omega arith

given_as : (size more : ℕ) (b c : Bool) → b ≡ c → size + (if c then more else 0) ≡ size + (if b then more else 0)
given_as size more b c h = ap (λ (d : Bool). size + (if d then more else 0)) (sym h)

grows_in : (in_force : Section) (layout : Layout) (statement : Statement) → layout.section ≡ in_force → named_by layout.section statement ≡ layout.section → placed_as layout.lines (next_spot layout) statement ≡ Some (placed_at layout statement) → Grows layout (with_bytes in_force (size_of statement) (record layout { statements = layout.statements ++ placed_at layout statement ∷ [] })) (Some statement)
grows_in section.Text layout statement here named placed = record {
  lines = refl;
  in_force = sym named;
  text = given_as layout.text_size (size_of statement) (is_in section.Text layout.section) true (ap (is_in section.Text) here);
  variables = nothing true layout.data_size ∙ given_as layout.data_size (size_of statement) (is_in section.Data layout.section) false (ap (is_in section.Data) here);
  labels = refl;
  statements = ap (λ more. layout.statements ++ cons_option more []) (sym placed);
}
grows_in section.Data layout statement here named placed = record {
  lines = refl;
  in_force = sym named;
  text = nothing true layout.text_size ∙ given_as layout.text_size (size_of statement) (is_in section.Text layout.section) false (ap (is_in section.Text) here);
  variables = given_as layout.data_size (size_of statement) (is_in section.Data layout.section) true (ap (is_in section.Data) here);
  labels = refl;
  statements = ap (λ more. layout.statements ++ cons_option more []) (sym placed);
}

grows_by : (layout : Layout) (statement : Statement) → named_by layout.section statement ≡ layout.section → placed_as layout.lines (next_spot layout) statement ≡ Some (placed_at layout statement) → Grows layout (with_placed statement layout) (Some statement)
grows_by layout statement named placed = grows_in layout.section layout statement refl named placed

grows_none : (layout : Layout) → Grows layout layout None
grows_none layout = record {
  lines = refl;
  in_force = refl;
  text = nothing (is_in section.Text layout.section) layout.text_size;
  variables = nothing (is_in section.Data layout.section) layout.data_size;
  labels = refl;
  statements = sym (append-nil layout.statements);
}

grows : (layout : Layout) (statement : Statement) → Grows layout (with_statement statement layout) (Some statement)
grows layout (statement.Into in_force) = record {
  lines = refl;
  in_force = refl;
  text = nothing (is_in section.Text layout.section) layout.text_size;
  variables = nothing (is_in section.Data layout.section) layout.data_size;
  labels = refl;
  statements = sym (append-nil layout.statements);
}
grows layout (statement.Instruction instr) = grows_by layout (statement.Instruction instr) refl refl
grows layout (statement.Branch op rs1 rs2 name) = grows_by layout (statement.Branch op rs1 rs2 name) refl refl
grows layout (statement.Jump rd name) = grows_by layout (statement.Jump rd name) refl refl
grows layout (statement.LoadNumber rd value) = grows_by layout (statement.LoadNumber rd value) refl refl
grows layout (statement.LoadAddress rd name) = grows_by layout (statement.LoadAddress rd name) refl refl
grows layout (statement.Word value) = grows_by layout (statement.Word value) refl refl
grows layout (statement.Address name) = grows_by layout (statement.Address name) refl refl
grows layout (statement.Byte value) = grows_by layout (statement.Byte value) refl refl
grows layout (statement.Space count) = grows_by layout (statement.Space count) refl refl
grows layout (statement.Ascii text) = grows_by layout (statement.Ascii text) refl refl

grows_read : (layout : Layout) (reading : Result Statement Flaw) → Grows layout (with_read reading layout) (result_ok reading)
grows_read layout (Ok statement) = grows layout statement
grows_read layout (Err flaw) = grows_none layout

grows_words : (layout : Layout) (words : Option Words) → Grows layout (with_words words layout) (statement_in words)
grows_words layout None = grows_none layout
grows_words layout (Some words) = grows_read layout (statement_of words.form words.operands)

-- ---- what a label adds

pub record Names (old new : Layout) (label : Option (List ℕ)) : Type 0 where
  pub lines : new.lines ≡ old.lines
  pub in_force : new.section ≡ old.section
  pub text : new.text_size ≡ old.text_size
  pub variables : new.data_size ≡ old.data_size
  pub spot : next_spot new ≡ next_spot old
  pub labels : new.labels ≡ old.labels ++ cons_option (definition_by (next_spot old) label) []
  pub statements : new.statements ≡ old.statements

same_size : (in_force : Section) (old new : Layout) → new.text_size ≡ old.text_size → new.data_size ≡ old.data_size → size_of_section in_force new ≡ size_of_section in_force old
same_size section.Text old new text variables = text
same_size section.Data old new text variables = variables

same_spot : (old new : Layout) → new.section ≡ old.section → new.text_size ≡ old.text_size → new.data_size ≡ old.data_size → next_spot new ≡ next_spot old
same_spot old new in_force text variables = ap₂ (λ (section : Section) (offset : ℕ). record { section = section; offset = offset }) in_force (same_size new.section old new text variables ∙ ap (λ section. size_of_section section old) in_force)

names : (layout : Layout) (label : Option (List ℕ)) → Names layout (with_label label layout) label
names layout None = record { lines = refl; in_force = refl; text = refl; variables = refl; spot = refl; labels = sym (append-nil layout.labels); statements = refl }
names layout (Some name) = record {
  lines = refl;
  in_force = refl;
  text = refl;
  variables = refl;
  spot = same_spot layout (with_label (Some name) layout) refl refl refl;
  labels = refl;
  statements = refl;
}

-- ---- what a line adds

pub record Adds (old new : Layout) (label : Option (List ℕ)) (found : Option Statement) : Type 0 where
  pub lines : new.lines ≡ old.lines + 1
  pub in_force : new.section ≡ in_force_behind old.section found
  pub text : new.text_size ≡ old.text_size + given section.Text old.section found
  pub variables : new.data_size ≡ old.data_size + given section.Data old.section found
  pub labels : new.labels ≡ old.labels ++ cons_option (definition_by (next_spot old) label) []
  pub statements : new.statements ≡ old.statements ++ cons_option (placed_by (old.lines + 1) (next_spot old) found) []

adds_parts : (old middle new : Layout) (label : Option (List ℕ)) (found : Option Statement) → Names (counted old) middle label → Grows middle new found → Adds old new label found
adds_parts old middle new label found named grown =
    let spot : next_spot (counted old) ≡ next_spot old = same_spot old (counted old) refl refl refl in
    record {
      lines = grown.lines ∙ named.lines;
      in_force = grown.in_force ∙ ap (λ section. in_force_behind section found) named.in_force;
      text = grown.text ∙ ap₂ (λ size named. size + given section.Text named found) named.text named.in_force;
      variables = grown.variables ∙ ap₂ (λ size named. size + given section.Data named found) named.variables named.in_force;
      labels = grown.labels ∙ named.labels ∙ ap (λ spot. old.labels ++ cons_option (definition_by spot label) []) spot;
      statements =
          grown.statements
          ∙ ap₂ (λ statements lines. statements ++ cons_option (placed_by lines (next_spot middle) found) []) named.statements named.lines
          ∙ ap (λ spot. old.statements ++ cons_option (placed_by (old.lines + 1) spot found) []) (named.spot ∙ spot);
    }

adds : (layout : Layout) (line : Option Line) → Adds layout (with_line line (counted layout)) (label_on line) (statement_on line)
adds layout None = adds_parts layout (counted layout) (counted layout) None None (names (counted layout) None) (grows_none (counted layout))
adds layout (Some line) =
    adds_parts layout (with_label line.label (counted layout)) (with_words line.words (with_label line.label (counted layout))) line.label (statement_in line.words)
    (names (counted layout) line.label) (grows_words (with_label line.label (counted layout)) line.words)

-- ---- what the code holds

pub record Holds (layout : Layout) (lines : List (Option Line)) : Type 0 where
  pub count : layout.lines ≡ length lines
  pub in_force : layout.section ≡ last_named section.Text lines
  pub text : layout.text_size ≡ bytes_in section.Text lines
  pub variables : layout.data_size ≡ bytes_in section.Data lines
  pub labels : layout.labels ≡ filter_map definition_at (places lines)
  pub statements : layout.statements ≡ filter_map placed_on (places lines)

holds_start : Holds no_lines []
holds_start = record { count = refl; in_force = refl; text = refl; variables = refl; labels = refl; statements = refl }

size_held : (in_force : Section) (layout : Layout) (lines : List (Option Line)) → Holds layout lines → size_of_section in_force layout ≡ bytes_in in_force lines
size_held section.Text layout lines holds = holds.text
size_held section.Data layout lines holds = holds.variables

spot_held : (layout : Layout) (lines : List (Option Line)) (line : Option Line) → Holds layout lines → next_spot layout ≡ spot_at (place lines line)
spot_held layout lines line holds = ap₂ (λ (section : Section) (offset : ℕ). record { section = section; offset = offset }) holds.in_force (ap (λ section. size_of_section section layout) holds.in_force ∙ size_held (last_named section.Text lines) layout lines holds)

holds_more : (layout new : Layout) (lines : List (Option Line)) (line : Option Line) → Holds layout lines → Adds layout new (label_on line) (statement_on line) → Holds new (lines ++ line ∷ [])
holds_more layout new lines line holds added =
    let found = statement_on line in
    let spot = spot_held layout lines line holds in
    let longer = length-append lines (line ∷ []) in
    let number = added.lines in
    let count = holds.count in
    record {
      count = omega (arith, longer, number, count);
      in_force = added.in_force ∙ ap (λ section. in_force_behind section found) holds.in_force ∙ sym (named_push section.Text lines line);
      text = added.text ∙ ap₂ (λ size named. size + given section.Text named found) holds.text holds.in_force ∙ sym (bytes_push section.Text lines line);
      variables = added.variables ∙ ap₂ (λ size named. size + given section.Data named found) holds.variables holds.in_force ∙ sym (bytes_push section.Data lines line);
      labels = added.labels ∙ ap₂ (λ labels spot. labels ++ cons_option (definition_by spot (label_on line)) []) holds.labels spot ∙ sym (definitions_push lines line);
      statements =
          added.statements
          ∙ ap₂ (λ statements lines. statements ++ cons_option (placed_by (lines + 1) (next_spot layout) found) []) holds.statements holds.count
          ∙ ap (λ spot. filter_map placed_on (places lines) ++ cons_option (placed_by (length lines + 1) spot found) []) spot
          ∙ sym (placed_push lines line);
    }

pub holds_line : (layout : Layout) (lines : List (Option Line)) (bytes : List ℕ) → Holds layout lines → Holds (after_line layout bytes) (lines ++ line_of bytes ∷ [])
unfolding after_line
holds_line layout lines bytes holds = holds_more layout (with_line (line_of bytes) (counted layout)) lines (line_of bytes) holds (adds layout (line_of bytes))

holds_lines : (layout : Layout) (lines : List (Option Line)) (rest : List (List ℕ)) → Holds layout lines → Holds (after_lines layout rest) (lines ++ map line_of rest)
holds_lines layout lines [] holds = subst (Holds layout) (sym (append-nil lines)) holds
holds_lines layout lines (bytes ∷ rest) holds =
    subst (Holds (after_lines (after_line layout bytes) rest)) (append_assoc lines (line_of bytes ∷ []) (map line_of rest))
    (holds_lines (after_line layout bytes) (lines ++ line_of bytes ∷ []) rest (holds_line layout lines bytes holds))

-- behind the lines of a text
pub holds_text : (text : List ℕ) → Holds (layout_of text) (read_lines text)
unfolding layout_of read_lines
holds_text text = holds_lines no_lines [] (lines_of text) holds_start

pub holds_none : Holds no_lines []
holds_none = holds_start
