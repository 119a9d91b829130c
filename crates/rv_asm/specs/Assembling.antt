-- The image of a text: the bytes of its sections at their addresses.
use Rattle.std.specs.Prelude.{◌≡◌, ℕ, ◌-◌, ◌%◌, ◌^◌, ◌<◌, min, List, [], ◌∷◌, ◌++◌, length, replicate, flat_map, Option, Some, None, unwrap_or, ℤ, pos, ◌-ℤ◌}
use Rattle.rv_isa.specs.declared.instr.ImmOp.TheVariants as imm
use Rattle.rv_isa.specs.declared.instr.Instr.TheVariants as instr
use Rattle.rv_asm.specs.Terms.{filter, Instr, to_word, row, little_bytes, signed, Image, Segment, Section, Line, Statement, kind_of, characters}
use Rattle.rv_asm.specs.declared.asm_refusal.AsmRefusal.{AsmRefusal}
use Rattle.rv_asm.specs.declared.asm_refusal.AsmRefusal.TheVariants.{Refused, Memory}
use Rattle.rv_asm.specs.declared.asm_refusal.Fault.{Fault}
use Rattle.asm_lines.specs.declared.form.Section.TheVariants as section
use Rattle.asm_lines.specs.declared.statement.Statement.TheVariants as statement
use Rattle.rv_asm.specs.Layout.{Place, places, read_lines, statement_on, stands_at, bytes_in, text_start, data_start, address_at, address_of}
use Rattle.rv_asm.specs.Refusals.{distance, refusal_of}

-- what a statement puts into its section: an instruction, or bytes as they are
pub data Cell : Type 0 where
  Coded : Instr → Cell
  Raw : List ℕ → Cell

-- a number into a register: its low twelve bits as a signed number, and in front of that what is left of it
abbrev pub low_part : ℕ → ℤ
low_part value = signed 12 (value % 2 ^ 12)

abbrev pub high_part : ℕ → ℤ
high_part value = signed 32 (to_word (pos value -ℤ low_part value))

abbrev pub loading : ℕ → ℕ → List Cell
loading rd value = Coded (instr.Lui rd (high_part value)) ∷ Coded (instr.OpImm imm.Addi rd rd (low_part value)) ∷ []

-- the address of a label that is defined
abbrev pub known_address : (List ℕ → Option ℕ) → List ℕ → ℕ
known_address labels name = unwrap_or (labels name) 0

-- a statement at this address, where labels have these addresses
abbrev pub cells_at : (List ℕ → Option ℕ) → ℕ → Statement → List Cell
cells_at labels at (statement.Into section) = []
cells_at labels at (statement.Instruction instr) = Coded instr ∷ []
cells_at labels at (statement.Branch op rs1 rs2 name) = Coded (instr.Branch op rs1 rs2 (distance at (known_address labels name))) ∷ []
cells_at labels at (statement.Jump rd name) = Coded (instr.Jal rd (distance at (known_address labels name))) ∷ []
cells_at labels at (statement.LoadNumber rd value) = loading rd value
cells_at labels at (statement.LoadAddress rd name) = loading rd (known_address labels name)
cells_at labels at (statement.Word value) = Raw (little_bytes 4 value) ∷ []
cells_at labels at (statement.Address name) = Raw (little_bytes 4 (known_address labels name)) ∷ []
cells_at labels at (statement.Byte value) = Raw (value ∷ []) ∷ []
cells_at labels at (statement.Space count) = Raw (replicate count 0) ∷ []
cells_at labels at (statement.Ascii text) = Raw (characters text) ∷ []

abbrev pub cells_of : (List ℕ → Option ℕ) → ℕ → Option Statement → List Cell
cells_of labels at None = []
cells_of labels at (Some statement) = cells_at labels at statement

abbrev pub cells_on : List (Option Line) → Place → List Cell
cells_on lines place = cells_of (address_of lines) (address_at lines place) (statement_on place.line)

-- what the lines of a text put into a section
abbrev pub cells_in : Section → List (Option Line) → List Cell
cells_in section lines = flat_map (cells_on lines) (filter (stands_at section) (places lines))

-- the word of an instruction: the one whose row in the instruction table it is
pub record IsWord (instr : Instr) (word : ℕ) : Type 0 where
  pub below : word < 2 ^ 32
  pub row_is : row word ≡ Some instr

-- the bytes of some cells; a word has its lowest byte first
abbrev pub AreBytes : List Cell → List ℕ → Type 0
AreBytes [] bytes = bytes ≡ []
AreBytes (Coded instr ∷ cells) bytes = (word : ℕ) × (IsWord instr word) × ((rest : List ℕ) × (bytes ≡ little_bytes 4 word ++ rest) × AreBytes cells rest)
AreBytes (Raw front ∷ cells) bytes = (rest : List ℕ) × (bytes ≡ front ++ rest) × AreBytes cells rest

-- the segment of a section; flags: 5 read and execute, 6 read and write
abbrev pub segment : ℕ → ℕ → List ℕ → Segment
segment start flags bytes = record { vaddr = start; flags = flags; memsz = length bytes; filled = bytes }

-- a section without bytes has no segment
abbrev pub data_segments : ℕ → List ℕ → List Segment
data_segments start [] = []
data_segments start (byte ∷ bytes) = segment start 6 (byte ∷ bytes) ∷ []

-- the image of a text, in a window of so many bytes
pub record IsAssembled (text : List ℕ) (window : ℕ) (image : Image) : Type 0 where
  pub code : List ℕ
  pub variables : List ℕ
  pub accepted : refusal_of text ≡ None
  pub code_is : AreBytes (cells_in section.Text (read_lines text)) code
  pub variables_are : AreBytes (cells_in section.Data (read_lines text)) variables
  pub entry : image.entry ≡ text_start
  pub in_window : image.window ≡ window
  pub segments : image.segments ≡ segment text_start 5 code ∷ data_segments (data_start (bytes_in section.Text (read_lines text))) variables

-- a refusal as it is answered: a line past 2 ^ 32 - 1 is answered as that
abbrev pub AnswersFault : Option Fault → ℕ → ℕ → Type 0
AnswersFault None kind line = ⊥
AnswersFault (Some fault) kind line = (kind ≡ kind_of fault.flaw) × (line ≡ min fault.line (2 ^ 32 - 1))

-- why there is no image: the refusal, or want of memory, which is free
abbrev pub IsReason : List ℕ → ℕ → AsmRefusal → Type 0
IsReason text window (Refused kind line) = AnswersFault (refusal_of text) kind line
IsReason text window Memory = Unit {0}

-- a text has one image at most in a window
abbrev pub OneImage : Type 0
OneImage = (text : List ℕ) (window : ℕ) (image other : Image) → IsAssembled text window image → IsAssembled text window other → image ≡ other
