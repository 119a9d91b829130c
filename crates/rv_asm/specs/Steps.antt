-- What the parts of the code answer, case by case. Nothing here is promised to callers of the crate.
use Rattle.std.specs.Prelude.{◌≡◌, ℕ, ◌+◌, ◌≤◌, Bool, List, [], ◌∷◌, ◌++◌, length, Some, None, Result, Ok, Err, ℤ, if◌then◌else◌}
use Rattle.rv_asm.specs.Terms.{Image, Flaw, Section, Statement, lines_of, Placed, Sections}
use Rattle.rv_asm.specs.declared.asm_refusal.Trouble.{Trouble}
use Rattle.rv_asm.specs.declared.asm_refusal.Trouble.TheVariants as trouble
use Rattle.rv_asm.specs.declared.asm_refusal.Stop.{Stop}
use Rattle.rv_asm.specs.declared.asm_refusal.Stop.TheVariants as stop
use Rattle.rv_asm.specs.declared.layout.Layout.{Layout}
use Rattle.asm_lines.specs.declared.form.Section.TheVariants as section
use Rattle.rv_asm.specs.Layout.{text_start, data_start}
use Rattle.rv_asm.specs.Refusals.{distance, target_flaw, label_flaw}
use Rattle.rv_asm.specs.Assembling.{Cell, AreBytes, known_address, cells_at, segment, data_segments}
use Rattle.rv_asm.specs.Passes.{spot_address, is_placed_in, layout_of, placed_cells, section_cells, label_address, lines_fault, added_flaw, labels_fault, after_line, no_lines}
use Rattle.rv_asm.specs.declared.layout.TheConstants.{MOST_BYTES}

-- a line more is taken, or it is wrong
abbrev pub AddsLine : Layout → Layout → Bool → List ℕ → Result (Unit {0}) Trouble → Type 0
AddsLine old new last bytes (Ok done) = (added_flaw old last bytes ≡ None) × (new ≡ after_line old bytes)
AddsLine old new last bytes (Err (trouble.Flawed flaw)) = added_flaw old last bytes ≡ Some flaw
AddsLine old new last bytes (Err trouble.Memory) = Unit {0}

-- the lines of a text are taken, or the first that is wrong is found
abbrev pub Surveys : List ℕ → Result Layout Stop → Type 0
Surveys text (Ok layout) = (lines_fault no_lines (lines_of text) ≡ None) × (layout ≡ layout_of text)
Surveys text (Err (stop.Refused fault)) = lines_fault no_lines (lines_of text) ≡ Some fault
Surveys text (Err stop.Memory) = Unit {0}

-- the bytes of some cells are put behind others
pub record Puts (old new : List ℕ) (cells : List Cell) : Type 0 where
  pub bytes : List ℕ
  pub new_is : new ≡ old ++ bytes
  pub are : AreBytes cells bytes

-- how far it is to a label, or why it isn't reached
abbrev pub Reaches : ℕ → ℕ → Layout → List ℕ → Result ℤ Flaw → Type 0
Reaches most at layout name (Ok far) = (target_flaw most at (label_address layout name) ≡ None) × (far ≡ distance at (known_address (label_address layout) name))
Reaches most at layout name (Err flaw) = target_flaw most at (label_address layout name) ≡ Some flaw

-- a statement's bytes are put behind others, or its label is wrong
abbrev pub WritesStatement : Layout → ℕ → Statement → List ℕ → List ℕ → Result (Unit {0}) Trouble → Type 0
WritesStatement layout at statement old new (Ok done) = (label_flaw (label_address layout) at statement ≡ None) × Puts old new (cells_at (label_address layout) at statement)
WritesStatement layout at statement old new (Err (trouble.Flawed flaw)) = label_flaw (label_address layout) at statement ≡ Some flaw
WritesStatement layout at statement old new (Err trouble.Memory) = Unit {0}

-- what a statement puts into a section
abbrev pub cells_for : Section → Layout → Placed → List Cell
cells_for in_force layout placed = if is_placed_in in_force placed then placed_cells layout placed else []

-- the same for a statement at its place, in the one section or the other
pub record PutsPlaced (layout : Layout) (placed : Placed) (code new_code variables new_variables : List ℕ) : Type 0 where
  pub linked : label_flaw (label_address layout) (spot_address layout placed.spot) placed.statement ≡ None
  pub code_puts : Puts code new_code (cells_for section.Text layout placed)
  pub variables_put : Puts variables new_variables (cells_for section.Data layout placed)

abbrev pub WritesPlaced : Layout → Placed → List ℕ → List ℕ → List ℕ → List ℕ → Result (Unit {0}) Trouble → Type 0
WritesPlaced layout placed code new_code variables new_variables (Ok done) = PutsPlaced layout placed code new_code variables new_variables
WritesPlaced layout placed code new_code variables new_variables (Err (trouble.Flawed flaw)) = label_flaw (label_address layout) (spot_address layout placed.spot) placed.statement ≡ Some flaw
WritesPlaced layout placed code new_code variables new_variables (Err trouble.Memory) = Unit {0}

-- the sections' bytes, or the first statement whose label is wrong
pub record AreSections (layout : Layout) (sections : Sections) : Type 0 where
  pub linked : labels_fault layout layout.statements ≡ None
  pub code : AreBytes (section_cells section.Text layout layout.statements) sections.code
  pub variables : AreBytes (section_cells section.Data layout layout.statements) sections.variables

abbrev pub WritesSections : Layout → Result Sections Stop → Type 0
WritesSections layout (Ok sections) = AreSections layout sections
WritesSections layout (Err (stop.Refused fault)) = labels_fault layout layout.statements ≡ Some fault
WritesSections layout (Err stop.Memory) = Unit {0}

-- both sections are small, and text isn't empty
pub record AreSmall (text_size : ℕ) (code variables : List ℕ) : Type 0 where
  pub text_is : length code ≡ text_size
  pub some : 4 ≤ text_size
  pub within : text_size + length variables ≤ MOST_BYTES

-- the image of these sections
pub record IsImageOf (layout : Layout) (sections : Sections) (window : ℕ) (image : Image) : Type 0 where
  pub entry : image.entry ≡ text_start
  pub in_window : image.window ≡ window
  pub segments : image.segments ≡ segment text_start 5 sections.code ∷ data_segments (data_start layout.text_size) sections.variables
