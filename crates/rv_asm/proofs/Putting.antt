-- Bytes put behind others.
use Rattle.rv_asm.proofs.Terms.{Bool, Err, List, None, Ok, Result, [], ap, append_assoc, cond, drop, false, get_or, length, option_map, refl, subst, sym, take, true, ℕ, ◌++◌, ◌+◌, ◌<◌, ◌∙◌, ◌∷◌, ◌≡◌, append-nil, at_drop_more, take_more, filter, option_or, flat_map, if◌then◌else◌, little_bytes, Section, is_data, is_text, Trouble, Layout, Placed, fault, label_flaw, AreBytes, Cell, Coded, Raw, is_placed_in, label_address, labels_fault, placed_cells, section_cells, spot_address, Puts, WritesPlaced, WritesStatement, cells_for}
use Rattle.rv_asm.specs.declared.asm_refusal.Trouble.TheVariants as trouble
use Rattle.asm_lines.specs.declared.form.Section.TheVariants as section

-- cells behind cells
pub are_more : (cells others : List Cell) (xs ys : List ℕ) → AreBytes cells xs → AreBytes others ys → AreBytes (cells ++ others) (xs ++ ys)
are_more [] others xs ys h k = rw h k
are_more (Coded instr ∷ cells) others xs ys h k = (h.0, h.1, (h.2.0 ++ ys, ap (λ bytes. bytes ++ ys) h.2.1 ∙ append_assoc (little_bytes 4 h.0) h.2.0 ys, are_more cells others h.2.0 ys h.2.2 k))
are_more (Raw front ∷ cells) others xs ys h k = (h.0 ++ ys, ap (λ bytes. bytes ++ ys) h.1 ∙ append_assoc front h.0 ys, are_more cells others h.0 ys h.2 k)

pub puts_none : (bytes : List ℕ) → Puts bytes bytes []
puts_none bytes = record { bytes = []; new_is = sym (append-nil bytes); are = refl }

-- what is put behind cells
pub are_put : (cells others : List Cell) (old new : List ℕ) → AreBytes cells old → Puts old new others → AreBytes (cells ++ others) new
are_put cells others old new are puts = subst (AreBytes (cells ++ others)) (sym puts.new_is) (are_more cells others old puts.bytes are puts.are)

-- a statement in its section
pub puts_for : (section : Section) (layout : Layout) (placed : Placed) (old new : List ℕ) → is_placed_in section placed ≡ true → Puts old new (placed_cells layout placed) → Puts old new (cells_for section layout placed)
puts_for section layout placed old new here puts = rw here puts

pub puts_not_for : (section : Section) (layout : Layout) (placed : Placed) (bytes : List ℕ) → is_placed_in section placed ≡ false → Puts bytes bytes (cells_for section layout placed)
puts_not_for section layout placed bytes elsewhere = rw elsewhere (puts_none bytes)

pub placed_in_text : (layout : Layout) (placed : Placed) (code new variables : List ℕ) (result : Result (Unit {0}) Trouble) → placed.spot.section ≡ section.Text → WritesStatement layout (spot_address layout placed.spot) placed.statement code new result → WritesPlaced layout placed code new variables variables result
placed_in_text layout placed code new variables (Ok done) here writes = record {
  linked = writes.0;
  code_puts = puts_for section.Text layout placed code new (ap is_text here) writes.1;
  variables_put = puts_not_for section.Data layout placed variables (ap is_data here);
}
placed_in_text layout placed code new variables (Err (trouble.Flawed flaw)) here writes = writes
placed_in_text layout placed code new variables (Err trouble.Memory) here writes = tt

pub placed_in_data : (layout : Layout) (placed : Placed) (code variables new : List ℕ) (result : Result (Unit {0}) Trouble) → placed.spot.section ≡ section.Data → WritesStatement layout (spot_address layout placed.spot) placed.statement variables new result → WritesPlaced layout placed code code variables new result
placed_in_data layout placed code variables new (Ok done) here writes = record {
  linked = writes.0;
  code_puts = puts_not_for section.Text layout placed code (ap is_text here);
  variables_put = puts_for section.Data layout placed variables new (ap is_data here) writes.1;
}
placed_in_data layout placed code variables new (Err (trouble.Flawed flaw)) here writes = writes
placed_in_data layout placed code variables new (Err trouble.Memory) here writes = tt

-- one statement more
cells_kept : (section : Section) (layout : Layout) (placed last : Placed) (before after : List Placed) (b : Bool) → flat_map (placed_cells layout) after ≡ flat_map (placed_cells layout) before ++ cells_for section layout last → flat_map (placed_cells layout) (cond b (placed ∷ after) after) ≡ flat_map (placed_cells layout) (cond b (placed ∷ before) before) ++ cells_for section layout last
cells_kept section layout placed last before after true h = ap (λ cells. placed_cells layout placed ++ cells) h ∙ sym (append_assoc (placed_cells layout placed) (flat_map (placed_cells layout) before) (cells_for section layout last))
cells_kept section layout placed last before after false h = h

one_cell : (section : Section) (layout : Layout) (placed : Placed) (b : Bool) → flat_map (placed_cells layout) (cond b (placed ∷ []) []) ≡ (if b then placed_cells layout placed else [])
one_cell section layout placed true = append-nil (placed_cells layout placed)
one_cell section layout placed false = refl

cells_in-more : (section : Section) (layout : Layout) (statements : List Placed) (last : Placed) → section_cells section layout (statements ++ last ∷ []) ≡ section_cells section layout statements ++ cells_for section layout last
cells_in-more section layout [] last = one_cell section layout last (is_placed_in section last)
cells_in-more section layout (placed ∷ statements) last =
    cells_kept section layout placed last (filter (is_placed_in section) statements) (filter (is_placed_in section) (statements ++ last ∷ [])) (is_placed_in section placed) (cells_in-more section layout statements last)

pub are_in_more : (section : Section) (layout : Layout) (statements : List Placed) (i : ℕ) (placed : Placed) (old new : List ℕ) → i < length statements → placed ≡ get_or statements i placed → AreBytes (section_cells section layout (take i statements)) old → Puts old new (cells_for section layout placed) → AreBytes (section_cells section layout (take (i + 1) statements)) new
are_in_more section layout statements i placed old new below is are puts =
    let more : take (i + 1) statements ≡ take i statements ++ placed ∷ [] = take_more statements i placed below ∙ ap (λ placed. take i statements ++ placed ∷ []) (sym is) in
    subst (λ cells. AreBytes cells new) (sym (ap (section_cells section layout) more ∙ cells_in-more section layout (take i statements) placed))
    (are_put (section_cells section layout (take i statements)) (cells_for section layout placed) old new are puts)

-- the first statement whose label is wrong
next_fault : (layout : Layout) (statements : List Placed) (i : ℕ) (placed : Placed) → i < length statements → placed ≡ get_or statements i placed → labels_fault layout (drop i statements) ≡ labels_fault layout (placed ∷ drop (i + 1) statements)
next_fault layout statements i placed below is = at_drop_more (labels_fault layout) statements i placed below ∙ ap (λ placed. labels_fault layout (placed ∷ drop (i + 1) statements)) (sym is)

pub linked_fault : (layout : Layout) (statements : List Placed) (i : ℕ) (placed : Placed) → i < length statements → placed ≡ get_or statements i placed → label_flaw (label_address layout) (spot_address layout placed.spot) placed.statement ≡ None → labels_fault layout (drop i statements) ≡ labels_fault layout (drop (i + 1) statements)
linked_fault layout statements i placed below is linked =
    next_fault layout statements i placed below is
    ∙ ap (λ answer. option_or (option_map (fault placed.line) answer) (labels_fault layout (drop (i + 1) statements))) linked
