-- A text has one image at most: a word is that of one instruction, and an image is what it says.
use Rattle.rv_isa.proofs.OneWord.{one_word}
use Rattle.rv_isa.proofs.Rows.{row_to}
use Rattle.guest_image.proofs.Same.{same_image}
use Rattle.asm_lines.specs.declared.form.Section.TheVariants as section
use Rattle.rv_asm.proofs.Terms.{List, [], ap, ap₂, sym, ℕ, ◌++◌, ◌∙◌, ◌∷◌, ◌≡◌, Instr, little_bytes, Image, bytes_in, data_start, read_lines, text_start, AreBytes, Cell, Coded, IsAssembled, IsWord, Raw, cells_in, data_segments, segment}

same_word : (instr : Instr) (word other : ℕ) → IsWord instr word → IsWord instr other → word ≡ other
same_word instr word other is also = one_word word other instr is.below also.below (row_to word instr is.row_is) (row_to other instr also.row_is)

same_bytes : (cells : List Cell) (bytes others : List ℕ) → AreBytes cells bytes → AreBytes cells others → bytes ≡ others
same_bytes [] bytes others are also = are ∙ sym also
same_bytes (Coded instr ∷ cells) bytes others are also =
    are.2.1
    ∙ ap₂ (λ word rest. little_bytes 4 word ++ rest) (same_word instr are.0 also.0 are.1 also.1) (same_bytes cells are.2.0 also.2.0 are.2.2 also.2.2)
    ∙ sym also.2.1
same_bytes (Raw front ∷ cells) bytes others are also = are.1 ∙ ap (λ rest. front ++ rest) (same_bytes cells are.0 also.0 are.2 also.2) ∙ sym also.1

pub one_image : (text : List ℕ) (window : ℕ) (image other : Image) → IsAssembled text window image → IsAssembled text window other → image ≡ other
one_image text window image other is also =
    let code = same_bytes (cells_in section.Text (read_lines text)) is.code also.code is.code_is also.code_is in
    let variables = same_bytes (cells_in section.Data (read_lines text)) is.variables also.variables is.variables_are also.variables_are in
    same_image image other (is.entry ∙ sym also.entry) (is.in_window ∙ sym also.in_window)
    (is.segments
    ∙ ap₂ (λ code variables. segment text_start 5 code ∷ data_segments (data_start (bytes_in section.Text (read_lines text))) variables) code variables
    ∙ sym also.segments)
