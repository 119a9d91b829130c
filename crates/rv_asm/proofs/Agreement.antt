-- The two passes of the code come to what the definitions say: the same refusal, the same addresses, the same bytes.
use Rattle.rv_isa.specs.declared.instr.Instr.TheVariants as instr
use Rattle.asm_lines.specs.declared.form.Section.TheVariants as section
use Rattle.asm_lines.specs.declared.statement.Statement.TheVariants as statement
use Rattle.rv_asm.proofs.Terms.{Bool, List, None, Option, Some, [], ap, ap₂, arith, cond, false, length, length-append, map, option_map, refl, sym, true, ℕ, ◌++◌, ◌+◌, ◌==◌, ◌||◌, ◌∙◌, ◌∷◌, ◌≡◌, eq-eqb, ne_eqb, length-map, cons_option, filter, filter_map, find, list_any, option_or, bytes_eq, flat_map, is_some, unwrap_or, little_bytes, Flaw, Section, Line, Statement, line_of, lines_of, Layout, Spot, Definition, spot_of, Place, address_at, address_in, address_of, bytes_in, has_label, is_name_of, label_on, last_named, line_number, place, places, places_behind, read_lines, section_at, stands_at, statement_on, address_flaw, distance, fault, first_fault, is_defined_on, label_flaw, line_flaw, lines_refusal, link_flaw, parts_flaw, place_flaw, refusal_of, size_behind, target_flaw, Cell, Coded, Raw, cells_at, cells_in, cells_of, cells_on, loading, added_flaw, after_line, found_flaw, is_end, is_placed_in, is_repeated, label_address, labels_fault, layout_of, lines_fault, no_lines, placed_cells, section_cells, size_of_both, spot_address}
use Rattle.rv_asm.proofs.Standing.{spot_at, definition_by, definition_at, placed_as, placed_by, placed_on, Holds, holds_none, holds_line, holds_text}

-- ---- a line, whatever the labels' places are

some_if : (b : Bool) (spot : Spot) (rest : Option Spot) → is_some (cond b (Some spot) rest) ≡ (b || is_some rest)
some_if true spot rest = refl
some_if false spot rest = refl

defined_by : (spot : Spot) (name : List ℕ) (label : Option (List ℕ)) (rest : List Definition) (others : Bool) → is_some (spot_of rest name) ≡ others → is_some (spot_of (cons_option (definition_by spot label) rest) name) ≡ (is_name_of name label || others)
defined_by spot name None rest others h = h
defined_by spot name (Some label) rest others h = some_if (bytes_eq name label) spot (spot_of rest name) ∙ ap (λ others. bytes_eq name label || others) h

defined_on : (before lines : List (Option Line)) (name : List ℕ) → is_some (spot_of (filter_map definition_at (places_behind before lines)) name) ≡ list_any (has_label name) lines
defined_on before [] name = refl
defined_on before (line ∷ lines) name =
    defined_by (spot_at (place before line)) name (label_on line) (filter_map definition_at (places_behind (before ++ line ∷ []) lines)) (list_any (has_label name) lines) (defined_on (before ++ line ∷ []) lines name)

repeated_on : (layout : Layout) (lines : List (Option Line)) (label : Option (List ℕ)) → Holds layout lines → is_repeated layout label ≡ is_defined_on lines label
repeated_on layout lines None holds = refl
repeated_on layout lines (Some name) holds = ap (λ labels. is_some (spot_of labels name)) holds.labels ∙ defined_on [] lines name

same_flaw : (layout : Layout) (lines : List (Option Line)) (count : ℕ) (last : Bool) (line : Option Line) → Holds layout lines → last ≡ (length lines + 1 == count) → found_flaw layout last line ≡ line_flaw count (place lines line)
same_flaw layout lines count last line holds end =
    ap (λ in_force. parts_flaw in_force layout.text_size (size_of_both layout) (is_repeated layout (label_on line)) last line) holds.in_force
    ∙ ap₂ (λ text variables. parts_flaw (last_named section.Text lines) text (text + variables) (is_repeated layout (label_on line)) last line) holds.text holds.variables
    ∙ ap₂ (λ repeated last. parts_flaw (last_named section.Text lines) (bytes_in section.Text lines) (size_behind lines) repeated last line) (repeated_on layout lines (label_on line) holds) end

is_last : (count earlier : ℕ) (rest : List (List ℕ)) → earlier + 1 + length rest ≡ count → is_end rest ≡ (earlier + 1 == count)
is_last count earlier [] h = sym (eq-eqb (earlier + 1) count (omega (arith, h)))
is_last count earlier (line ∷ rest) h = sym (ne_eqb (earlier + 1) count (λ e. omega (arith, h, e)))

same_added : (layout : Layout) (lines : List (Option Line)) (count : ℕ) (last : Bool) (bytes : List ℕ) → Holds layout lines → last ≡ (length lines + 1 == count) → added_flaw layout last bytes ≡ line_flaw count (place lines (line_of bytes))
unfolding added_flaw
same_added layout lines count last bytes holds end = same_flaw layout lines count last (line_of bytes) holds end

same_faults : (layout : Layout) (lines : List (Option Line)) (rest : List (List ℕ)) (count : ℕ) → Holds layout lines → length lines + length rest ≡ count → lines_fault layout rest ≡ first_fault (line_flaw count) (places_behind lines (map line_of rest))
same_faults layout lines [] count holds h = refl
same_faults layout lines (bytes ∷ rest) count holds h =
    let longer = length-append lines (line_of bytes ∷ []) in
    let here = same_added layout lines count (is_end rest) bytes holds (is_last count (length lines) rest (omega (arith, h))) in
    let behind = same_faults (after_line layout bytes) (lines ++ line_of bytes ∷ []) rest count (holds_line layout lines bytes holds) (omega (arith, h, longer)) in
    ap₂ (λ (number : ℕ) (flaw : Option Flaw). option_or (option_map (fault (number + 1)) flaw) (lines_fault (after_line layout bytes) rest)) holds.count here
    ∙ ap (option_or (option_map (fault (length lines + 1)) (line_flaw count (place lines (line_of bytes))))) behind

-- ---- addresses

same_address : (layout : Layout) (lines : List (Option Line)) (at : Place) → Holds layout lines → spot_address layout (spot_at at) ≡ address_at lines at
same_address layout lines at holds = ap (λ size. address_in size (section_at at) (bytes_in (section_at at) at.before)) holds.text

found_if : (b : Bool) (layout : Layout) (lines : List (Option Line)) (at : Place) (rest : Option Spot) (others : Option Place) → spot_address layout (spot_at at) ≡ address_at lines at → option_map (spot_address layout) rest ≡ option_map (address_at lines) others → option_map (spot_address layout) (cond b (Some (spot_at at)) rest) ≡ option_map (address_at lines) (cond b (Some at) others)
found_if true layout lines at rest others same h = ap Some same
found_if false layout lines at rest others same h = h

found_by : (layout : Layout) (lines : List (Option Line)) (at : Place) (name : List ℕ) (label : Option (List ℕ)) (rest : List Definition) (others : Option Place) → spot_address layout (spot_at at) ≡ address_at lines at → option_map (spot_address layout) (spot_of rest name) ≡ option_map (address_at lines) others → option_map (spot_address layout) (spot_of (cons_option (definition_by (spot_at at) label) rest) name) ≡ option_map (address_at lines) (cond (is_name_of name label) (Some at) others)
found_by layout lines at name None rest others same h = h
found_by layout lines at name (Some label) rest others same h = found_if (bytes_eq name label) layout lines at (spot_of rest name) others same h

found_in : (layout : Layout) (lines : List (Option Line)) (among : List Place) (name : List ℕ) → Holds layout lines → option_map (spot_address layout) (spot_of (filter_map definition_at among) name) ≡ option_map (address_at lines) (find (λ place. has_label name place.line) among)
found_in layout lines [] name holds = refl
found_in layout lines (at ∷ among) name holds =
    found_by layout lines at name (label_on at.line) (filter_map definition_at among) (find (λ place. has_label name place.line) among) (same_address layout lines at holds) (found_in layout lines among name holds)

same_label : (layout : Layout) (lines : List (Option Line)) → Holds layout lines → (name : List ℕ) → label_address layout name ≡ address_of lines name
same_label layout lines holds name = ap (λ labels. option_map (spot_address layout) (spot_of labels name)) holds.labels ∙ found_in layout lines (places lines) name holds

-- ---- labels that are used

flaw_by : (labels others : List ℕ → Option ℕ) (at : ℕ) → ((name : List ℕ) → labels name ≡ others name) → (statement : Statement) → label_flaw labels at statement ≡ label_flaw others at statement
flaw_by labels others at same (statement.Branch op rs1 rs2 name) = ap (target_flaw 4096 at) (same name)
flaw_by labels others at same (statement.Jump rd name) = ap (target_flaw 1048576 at) (same name)
flaw_by labels others at same (statement.LoadAddress rd name) = ap address_flaw (same name)
flaw_by labels others at same (statement.Address name) = ap address_flaw (same name)
flaw_by labels others at same (statement.Into in_force) = refl
flaw_by labels others at same (statement.Instruction instr) = refl
flaw_by labels others at same (statement.LoadNumber rd value) = refl
flaw_by labels others at same (statement.Word value) = refl
flaw_by labels others at same (statement.Byte value) = refl
flaw_by labels others at same (statement.Space count) = refl
flaw_by labels others at same (statement.Ascii text) = refl

same_link : (layout : Layout) (lines : List (Option Line)) (at : Place) (statement : Statement) → Holds layout lines → label_flaw (label_address layout) (spot_address layout (spot_at at)) statement ≡ label_flaw (address_of lines) (address_at lines at) statement
same_link layout lines at statement holds =
    flaw_by (label_address layout) (address_of lines) (spot_address layout (spot_at at)) (same_label layout lines holds) statement
    ∙ ap (λ at. label_flaw (address_of lines) at statement) (same_address layout lines at holds)

-- a statement that the code places, and `.text` and `.data`, which it doesn't
links_by : (layout : Layout) (lines : List (Option Line)) (at : Place) (among : List Place) (found : Option Statement) → Holds layout lines → labels_fault layout (filter_map placed_on among) ≡ first_fault (place_flaw lines) among → labels_fault layout (cons_option (placed_by (line_number at) (spot_at at) found) (filter_map placed_on among)) ≡ option_or (option_map (fault (line_number at)) (link_flaw (address_of lines) (address_at lines at) found)) (first_fault (place_flaw lines) among)
links_by layout lines at among None holds h = h
links_by layout lines at among (Some found) holds h = placed found
  where
    linked : (statement : Statement) → option_or (option_map (fault (line_number at)) (label_flaw (label_address layout) (spot_address layout (spot_at at)) statement)) (labels_fault layout (filter_map placed_on among)) ≡ option_or (option_map (fault (line_number at)) (label_flaw (address_of lines) (address_at lines at) statement)) (first_fault (place_flaw lines) among)
    linked statement = ap₂ (λ flaw rest. option_or (option_map (fault (line_number at)) flaw) rest) (same_link layout lines at statement holds) h

    placed : (statement : Statement) → labels_fault layout (cons_option (placed_as (line_number at) (spot_at at) statement) (filter_map placed_on among)) ≡ option_or (option_map (fault (line_number at)) (label_flaw (address_of lines) (address_at lines at) statement)) (first_fault (place_flaw lines) among)
    placed (statement.Into in_force) = h
    placed (statement.Instruction instr) = linked (statement.Instruction instr)
    placed (statement.Branch op rs1 rs2 name) = linked (statement.Branch op rs1 rs2 name)
    placed (statement.Jump rd name) = linked (statement.Jump rd name)
    placed (statement.LoadNumber rd value) = linked (statement.LoadNumber rd value)
    placed (statement.LoadAddress rd name) = linked (statement.LoadAddress rd name)
    placed (statement.Word value) = linked (statement.Word value)
    placed (statement.Address name) = linked (statement.Address name)
    placed (statement.Byte value) = linked (statement.Byte value)
    placed (statement.Space count) = linked (statement.Space count)
    placed (statement.Ascii text) = linked (statement.Ascii text)

same_links : (layout : Layout) (lines : List (Option Line)) (among : List Place) → Holds layout lines → labels_fault layout (filter_map placed_on among) ≡ first_fault (place_flaw lines) among
same_links layout lines [] holds = refl
same_links layout lines (at ∷ among) holds = links_by layout lines at among (statement_on at.line) holds (same_links layout lines among holds)

-- ---- the refusal

by_passes : (layout : Layout) (lines : List (Option Line)) (rest : List (List ℕ)) → lines ≡ map line_of rest → Holds layout lines → lines_refusal lines ≡ option_or (lines_fault no_lines rest) (labels_fault layout layout.statements)
by_passes layout lines rest read holds =
    let many = length-map rest line_of in
    let count : length rest ≡ length lines = sym (ap length read ∙ many) in
    sym
    (ap₂ option_or
    (same_faults no_lines [] rest (length lines) holds_none (omega (arith, count)) ∙ ap (λ lines_read. first_fault (line_flaw (length lines)) (places lines_read)) (sym read))
    (ap (labels_fault layout) holds.statements ∙ same_links layout lines (places lines) holds))

pub refusal_is : (text : List ℕ) → refusal_of text ≡ option_or (lines_fault no_lines (lines_of text)) (labels_fault (layout_of text) (layout_of text).statements)
unfolding refusal_of read_lines
refusal_is text = by_passes (layout_of text) (map line_of (lines_of text)) (lines_of text) refl (holds_text text)

-- ---- bytes

cells_by : (labels others : List ℕ → Option ℕ) (at : ℕ) → ((name : List ℕ) → labels name ≡ others name) → (statement : Statement) → cells_at labels at statement ≡ cells_at others at statement
cells_by labels others at same (statement.Branch op rs1 rs2 name) = ap (λ address. Coded (instr.Branch op rs1 rs2 (distance at (unwrap_or address 0))) ∷ []) (same name)
cells_by labels others at same (statement.Jump rd name) = ap (λ address. Coded (instr.Jal rd (distance at (unwrap_or address 0))) ∷ []) (same name)
cells_by labels others at same (statement.LoadAddress rd name) = ap (λ address. loading rd (unwrap_or address 0)) (same name)
cells_by labels others at same (statement.Address name) = ap (λ address. Raw (little_bytes 4 (unwrap_or address 0)) ∷ []) (same name)
cells_by labels others at same (statement.Into in_force) = refl
cells_by labels others at same (statement.Instruction instr) = refl
cells_by labels others at same (statement.LoadNumber rd value) = refl
cells_by labels others at same (statement.Word value) = refl
cells_by labels others at same (statement.Byte value) = refl
cells_by labels others at same (statement.Space count) = refl
cells_by labels others at same (statement.Ascii text) = refl

same_cells : (layout : Layout) (lines : List (Option Line)) (at : Place) (statement : Statement) → Holds layout lines → cells_at (label_address layout) (spot_address layout (spot_at at)) statement ≡ cells_at (address_of lines) (address_at lines at) statement
same_cells layout lines at statement holds =
    cells_by (label_address layout) (address_of lines) (spot_address layout (spot_at at)) (same_label layout lines holds) statement
    ∙ ap (λ at. cells_at (address_of lines) at statement) (same_address layout lines at holds)

-- what is put into a section of what stands there
abbrev cells_if : (b : Bool) (here : List Cell) (rest : List Cell) → List Cell
cells_if true here rest = here ++ rest
cells_if false here rest = rest

none_if : (b : Bool) (rest : List Cell) → rest ≡ cells_if b [] rest
none_if true rest = refl
none_if false rest = refl

flat_if : {A : Type 0} (f : A → List Cell) (b : Bool) (first : A) (rest : List A) → flat_map f (cond b (first ∷ rest) rest) ≡ cells_if b (f first) (flat_map f rest)
flat_if f true first rest = refl
flat_if f false first rest = refl

cells_found : (section : Section) (layout : Layout) (lines : List (Option Line)) (at : Place) (among : List Place) (found : Option Statement) → Holds layout lines → section_cells section layout (cons_option (placed_by (line_number at) (spot_at at) found) (filter_map placed_on among)) ≡ cells_if (stands_at section at) (cells_of (address_of lines) (address_at lines at) found) (section_cells section layout (filter_map placed_on among))
cells_found section layout lines at among None holds = none_if (stands_at section at) (section_cells section layout (filter_map placed_on among))
cells_found section layout lines at among (Some found) holds = placed found
  where
    rest : List Cell
    rest = section_cells section layout (filter_map placed_on among)

    put : (statement : Statement) → section_cells section layout (record { line = line_number at; spot = spot_at at; statement = statement } ∷ filter_map placed_on among) ≡ cells_if (stands_at section at) (cells_at (address_of lines) (address_at lines at) statement) rest
    put statement =
        flat_if (placed_cells layout) (stands_at section at) (record { line = line_number at; spot = spot_at at; statement = statement }) (filter (is_placed_in section) (filter_map placed_on among))
        ∙ ap (λ cells. cells_if (stands_at section at) cells rest) (same_cells layout lines at statement holds)

    placed : (statement : Statement) → section_cells section layout (cons_option (placed_as (line_number at) (spot_at at) statement) (filter_map placed_on among)) ≡ cells_if (stands_at section at) (cells_at (address_of lines) (address_at lines at) statement) rest
    placed (statement.Into in_force) = none_if (stands_at section at) rest
    placed (statement.Instruction instr) = put (statement.Instruction instr)
    placed (statement.Branch op rs1 rs2 name) = put (statement.Branch op rs1 rs2 name)
    placed (statement.Jump rd name) = put (statement.Jump rd name)
    placed (statement.LoadNumber rd value) = put (statement.LoadNumber rd value)
    placed (statement.LoadAddress rd name) = put (statement.LoadAddress rd name)
    placed (statement.Word value) = put (statement.Word value)
    placed (statement.Address name) = put (statement.Address name)
    placed (statement.Byte value) = put (statement.Byte value)
    placed (statement.Space count) = put (statement.Space count)
    placed (statement.Ascii text) = put (statement.Ascii text)

cells_among : (section : Section) (layout : Layout) (lines : List (Option Line)) (among : List Place) → Holds layout lines → section_cells section layout (filter_map placed_on among) ≡ flat_map (cells_on lines) (filter (stands_at section) among)
cells_among section layout lines [] holds = refl
cells_among section layout lines (at ∷ among) holds =
    cells_found section layout lines at among (statement_on at.line) holds
    ∙ ap (cells_if (stands_at section at) (cells_on lines at)) (cells_among section layout lines among holds)
    ∙ sym (flat_if (cells_on lines) (stands_at section at) at (filter (stands_at section) among))

-- what the code puts into a section, and how many bytes text has
pub cells_are : (section : Section) (text : List ℕ) → section_cells section (layout_of text) (layout_of text).statements ≡ cells_in section (read_lines text)
cells_are section text =
    let holds = holds_text text in
    ap (section_cells section (layout_of text)) holds.statements ∙ cells_among section (layout_of text) (read_lines text) (places (read_lines text)) holds

pub size_is : (text : List ℕ) → (layout_of text).text_size ≡ bytes_in section.Text (read_lines text)
size_is text = (holds_text text).text
