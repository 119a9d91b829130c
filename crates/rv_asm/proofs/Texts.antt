-- A text whose lines aren't wrong: its layout is sound, and its sections have the bytes that were counted.
use Rattle.asm_lines.specs.declared.statement.Statement.TheVariants as statement
use Rattle.rv_asm.proofs.Terms.{Bool, List, None, Option, Some, [], ap, arith, cond, false, length, length-append, option_map, refl, sym, true, ℕ, ◌++◌, ◌+◌, ◌∙◌, ◌∷◌, ◌≡◌, ◌≤◌, length-replicate, none-some, filter, option_or, flat_map, replicate, little_bytes, Flaw, Section, Statement, lines_by, lines_from-cut, cut, lines_from, lines_of, size_of, Fault, Layout, Placed, fault, AreBytes, Cell, Coded, Raw, cells_at, added_flaw, after_line, after_lines, is_end, is_placed_in, label_address, layout_of, lines_fault, no_lines, placed_cells, section_cells, spot_address}
use Rattle.rv_asm.proofs.Good.{sizes, IsGood, good_start, good_after, text_at_end}

no_flaw : (line : ℕ) (found : Option Flaw) (rest : Option Fault) → option_or (option_map (fault line) found) rest ≡ None → (found ≡ None) × (rest ≡ None)
no_flaw line None rest h = (refl, h)
no_flaw line (Some flaw) rest h = absurd (none-some (fault line flaw) (sym h))

good_lines : (layout : Layout) (lines : List (List ℕ)) → IsGood layout → lines_fault layout lines ≡ None → IsGood (after_lines layout lines)
good_lines layout [] good h = good
good_lines layout (line ∷ lines) good h =
    let parts = no_flaw (layout.lines + 1) (added_flaw layout (is_end lines) line) (lines_fault (after_line layout line) lines) h in
    good_lines (after_line layout line) lines (good_after layout (is_end lines) line good parts.0) parts.1

text_lines : (layout : Layout) (line : List ℕ) (lines : List (List ℕ)) → IsGood layout → lines_fault layout (line ∷ lines) ≡ None → 4 ≤ (after_lines layout (line ∷ lines)).text_size
text_lines layout line [] good h = text_at_end layout line good (no_flaw (layout.lines + 1) (added_flaw layout true line) None h).0
text_lines layout line (next ∷ lines) good h =
    let parts = no_flaw (layout.lines + 1) (added_flaw layout false line) (lines_fault (after_line layout line) (next ∷ lines)) h in
    text_lines (after_line layout line) next lines (good_after layout false line good parts.0) parts.1

-- a text has a line
some_by : (byte : ℕ) (bytes : List ℕ) (parts : Option (List ℕ × List ℕ)) → (line : List ℕ) × ((lines : List (List ℕ)) × (lines_by (byte ∷ bytes) parts ≡ line ∷ lines))
some_by byte bytes None = (byte ∷ bytes, ([], refl))
some_by byte bytes (Some parts) = (parts.0, (lines_from parts.1, refl))

some_line : (text : List ℕ) → (line : List ℕ) × ((lines : List (List ℕ)) × (lines_of text ≡ line ∷ lines))
some_line [] = ([], ([], refl))
some_line (byte ∷ bytes) = let some = some_by byte bytes (cut 10 (byte ∷ bytes)) in (some.0, (some.1.0, lines_from-cut (byte ∷ bytes) ∙ some.1.1))

pub good_text : (text : List ℕ) → lines_fault no_lines (lines_of text) ≡ None → IsGood (layout_of text)
unfolding layout_of
good_text text h = good_lines no_lines (lines_of text) good_start h

pub some_text : (text : List ℕ) → lines_fault no_lines (lines_of text) ≡ None → 4 ≤ (layout_of text).text_size
unfolding layout_of
some_text text h =
    let some = some_line text in
    let size = text_lines no_lines some.0 some.1.0 good_start (sym (ap (lines_fault no_lines) some.1.1) ∙ h) in
    let same : (after_lines no_lines (lines_of text)).text_size ≡ (after_lines no_lines (some.0 ∷ some.1.0)).text_size = ap (λ lines. (after_lines no_lines lines).text_size) some.1.1 in
    omega (arith, size, same)

-- ---- how many bytes cells are

abbrev pub cell_size : Cell → ℕ
cell_size (Coded instr) = 4
cell_size (Raw bytes) = length bytes

abbrev pub cells_size : List Cell → ℕ
cells_size [] = 0
cells_size (cell ∷ cells) = cell_size cell + cells_size cells

cells_size-append : (cells others : List Cell) → cells_size (cells ++ others) ≡ cells_size cells + cells_size others
cells_size-append [] others = omega arith
cells_size-append (cell ∷ cells) others = let rest = cells_size-append cells others in omega (arith, rest)

are_length : (cells : List Cell) (bytes : List ℕ) → AreBytes cells bytes → length bytes ≡ cells_size cells
are_length [] bytes h = ap length h
are_length (Coded instr ∷ cells) bytes h =
    let rest = are_length cells h.2.0 h.2.2 in
    let whole = ap length h.2.1 in
    let parts = length-append (little_bytes 4 h.0) h.2.0 in
    omega (arith, rest, whole, parts)
are_length (Raw front ∷ cells) bytes h =
    let rest = are_length cells h.0 h.2 in
    let whole = ap length h.1 in
    let parts = length-append front h.0 in
    omega (arith, rest, whole, parts)

size_at : (layout : Layout) (at : ℕ) (statement : Statement) → cells_size (cells_at (label_address layout) at statement) ≡ size_of statement
size_at layout at (statement.Into in_force) = refl
size_at layout at (statement.Instruction instr) = refl
size_at layout at (statement.Branch op rs1 rs2 name) = refl
size_at layout at (statement.Jump rd name) = refl
size_at layout at (statement.LoadNumber rd value) = refl
size_at layout at (statement.LoadAddress rd name) = refl
size_at layout at (statement.Word value) = refl
size_at layout at (statement.Address name) = refl
size_at layout at (statement.Byte value) = refl
size_at layout at (statement.Space count) = let e : length (replicate count 0) ≡ count = length-replicate {A = ℕ} count 0 in omega (arith, e)
size_at layout at (statement.Ascii text) = omega arith

size_kept : (in_force : Section) (layout : Layout) (placed : Placed) (rest : List Placed) (b : Bool) (others : ℕ) → cells_size (flat_map (placed_cells layout) rest) ≡ others → cells_size (flat_map (placed_cells layout) (cond b (placed ∷ rest) rest)) ≡ cond b (size_of placed.statement) 0 + others
size_kept in_force layout placed rest true others h =
    let e = cells_size-append (placed_cells layout placed) (flat_map (placed_cells layout) rest) in
    let s = size_at layout (spot_address layout placed.spot) placed.statement in
    omega (arith, e, s, h)
size_kept in_force layout placed rest false others h = omega (arith, h)

size_cells : (in_force : Section) (layout : Layout) (statements : List Placed) → cells_size (section_cells in_force layout statements) ≡ sizes in_force statements
size_cells in_force layout [] = refl
size_cells in_force layout (placed ∷ statements) =
    size_kept in_force layout placed (filter (is_placed_in in_force) statements) (is_placed_in in_force placed) (sizes in_force statements) (size_cells in_force layout statements)

pub section_length : (in_force : Section) (layout : Layout) (statements : List Placed) (bytes : List ℕ) → AreBytes (section_cells in_force layout statements) bytes → length bytes ≡ sizes in_force statements
section_length in_force layout statements bytes are = are_length (section_cells in_force layout statements) bytes are ∙ size_cells in_force layout statements
