-- A search among blocks in order stops at the one block that can be meant.
use Rattle.block_book.proofs.Terms.{Bool, List, None, Some, [], ap, arith, cond, eqb, false, filter, if◌then◌else◌, inl, inr, map, nat_le, nat_lt, not, refl, set, slice_get, subst, suc, sym, true, ℕ, ◌+◌, ◌-◌, ◌<◌, ◌||◌, ◌∙◌, ◌∷◌, ◌≡◌, ◌≤◌, and_parts, cases_Bool, eq-eqb, eqb-true, false_from_ne_true, le-ltb, leb-false, leb-true, lt-ltb, ne_eqb, or_cases, or_parts, find, insert, list_all, list_any, remove, Block, IsAligned, extent_end, extent_start, is_apart, StandWithin, delayed_at, insert_block, passed}
use Rattle.block_book.proofs.Sizes.{reserved-least}
use Rattle.block_book.proofs.Rising.{extent-rises}

-- a test that only the block with an address in its extent can pass
abbrev pub IsAbout : ℕ → (Block → Bool) → Type 0
IsAbout at test = (block : Block) → test block ≡ true → (extent_start block ≤ at) × (at < extent_end block)

pub at-is-about : (at : ℕ) → IsAbout at (λ block. eqb block.at at)
at-is-about at block h =
    let same = eqb-true block.at at h in
    let least = reserved-least block.size in
    ((omega arith), (omega arith))

-- no block that stands above an address passes
pub any-above : (at : ℕ) (test : Block → Bool) → IsAbout at test → (from : ℕ) (blocks : List Block) (to : ℕ) → StandWithin from blocks to → at < from → list_any test blocks ≡ false
any-above at test about from [] to h above = refl
any-above at test about from (block ∷ blocks) to h above =
    let rises = extent-rises block in
    let here : test block ≡ false = false_from_ne_true (test block) (λ p. let q = about block p in let a = q.0 in let b = h.1 in absurd (omega arith)) in
    ap (λ b. b || list_any test blocks) here ∙ any-above at test about (extent_end block) blocks to h.2 (let b = h.1 in omega arith)

-- how a search goes past one block, or stops at it
pub passed-more : (at : ℕ) (block : Block) (blocks : List Block) → nat_le (extent_end block) at ≡ true → passed (block ∷ blocks) at ≡ suc (passed blocks at)
passed-more at block blocks h = ap (λ b. cond b (1 + passed blocks at) 0) h ∙ omega arith

pub passed-none : (at : ℕ) (block : Block) (blocks : List Block) → nat_le (extent_end block) at ≡ false → passed (block ∷ blocks) at ≡ 0
passed-none at block blocks h = ap (λ b. cond b (1 + passed blocks at) 0) h

-- whether a block passes is said by the block at which the search stops
pub any-some : (at : ℕ) (test : Block → Bool) → IsAbout at test → (from : ℕ) (blocks : List Block) (to : ℕ) (found : Block) → StandWithin from blocks to → slice_get blocks (passed blocks at) ≡ Some found → list_any test blocks ≡ test found
any-some at test about from [] to found h is = absurd (cc is)
any-some at test about from (block ∷ blocks) to found h is =
    elim (cases_Bool (nat_le (extent_end block) at)) [
      | inl past ↦
          let ends = leb-true (extent_end block) at past in
          let here : test block ≡ false = false_from_ne_true (test block) (λ p. let q = about block p in let a = q.1 in absurd (omega arith)) in
          let later : slice_get blocks (passed blocks at) ≡ Some found = subst (λ n. slice_get (block ∷ blocks) n ≡ Some found) (passed-more at block blocks past) is in
          ap (λ b. b || list_any test blocks) here ∙ any-some at test about (extent_end block) blocks to found h.2 later
      | inr stops ↦
          let ends = leb-false (extent_end block) at stops in
          let now : slice_get (block ∷ blocks) 0 ≡ Some found = subst (λ n. slice_get (block ∷ blocks) n ≡ Some found) (passed-none at block blocks stops) is in
          let same : block ≡ found = cc now in
          ap (λ b. test block || b) (any-above at test about (extent_end block) blocks to h.2 ends) ∙ or-false (test block) ∙ ap test same
    ]
  where
    or-false : (b : Bool) → (b || false) ≡ b
    or-false true = refl
    or-false false = refl

pub any-none : (at : ℕ) (test : Block → Bool) → IsAbout at test → (from : ℕ) (blocks : List Block) (to : ℕ) → StandWithin from blocks to → slice_get blocks (passed blocks at) ≡ None → list_any test blocks ≡ false
any-none at test about from [] to h is = refl
any-none at test about from (block ∷ blocks) to h is =
    elim (cases_Bool (nat_le (extent_end block) at)) [
      | inl past ↦
          let ends = leb-true (extent_end block) at past in
          let here : test block ≡ false = false_from_ne_true (test block) (λ p. let q = about block p in let a = q.1 in absurd (omega arith)) in
          let later : slice_get blocks (passed blocks at) ≡ None = subst (λ n. slice_get (block ∷ blocks) n ≡ None) (passed-more at block blocks past) is in
          ap (λ b. b || list_any test blocks) here ∙ any-none at test about (extent_end block) blocks to h.2 later
      | inr stops ↦
          let now : slice_get (block ∷ blocks) 0 ≡ None = subst (λ n. slice_get (block ∷ blocks) n ≡ None) (passed-none at block blocks stops) is in
          absurd (cc now)
    ]

-- where no block passes none is found
pub find-no_block : (test : Block → Bool) (blocks : List Block) → list_any test blocks ≡ false → find test blocks ≡ None
find-no_block test [] h = refl
find-no_block test (block ∷ blocks) h =
    let p = or_parts (test block) (list_any test blocks) h in
    ap (λ b. cond b (Some block) (find test blocks)) p.0 ∙ find-no_block test blocks p.1

-- the block at which the search stops is found, if it passes
pub find-some : (at : ℕ) (test : Block → Bool) → IsAbout at test → (blocks : List Block) (found : Block) → slice_get blocks (passed blocks at) ≡ Some found → test found ≡ true → find test blocks ≡ Some found
find-some at test about [] found is good = absurd (cc is)
find-some at test about (block ∷ blocks) found is good =
    elim (cases_Bool (nat_le (extent_end block) at)) [
      | inl past ↦
          let ends = leb-true (extent_end block) at past in
          let here : test block ≡ false = false_from_ne_true (test block) (λ p. let q = about block p in let a = q.1 in absurd (omega arith)) in
          let later : slice_get blocks (passed blocks at) ≡ Some found = subst (λ n. slice_get (block ∷ blocks) n ≡ Some found) (passed-more at block blocks past) is in
          ap (λ b. cond b (Some block) (find test blocks)) here ∙ find-some at test about blocks found later good
      | inr stops ↦
          let now : slice_get (block ∷ blocks) 0 ≡ Some found = subst (λ n. slice_get (block ∷ blocks) n ≡ Some found) (passed-none at block blocks stops) is in
          let same : block ≡ found = cc now in
          ap (λ b. cond b (Some block) (find test blocks)) (ap test same ∙ good) ∙ ap Some same
    ]

-- no block that stands above an address begins there
filter-above : (at from : ℕ) (blocks : List Block) (to : ℕ) → StandWithin from blocks to → at < from → filter (λ block. not (eqb block.at at)) blocks ≡ blocks
filter-above at from [] to h above = refl
filter-above at from (block ∷ blocks) to h above =
    let rises = extent-rises block in
    let begins = h.1 in
    let here : eqb block.at at ≡ false = ne_eqb block.at at (λ e. absurd (omega arith)) in
    ap (λ b. cond (not b) (block ∷ filter (λ block. not (eqb block.at at)) blocks) (filter (λ block. not (eqb block.at at)) blocks)) here
    ∙ ap (λ xs. block ∷ xs) (filter-above at (extent_end block) blocks to h.2 (omega arith))

map-above : (at from : ℕ) (blocks : List Block) (to : ℕ) → StandWithin from blocks to → at < from → map (delayed_at at) blocks ≡ blocks
map-above at from [] to h above = refl
map-above at from (block ∷ blocks) to h above =
    let rises = extent-rises block in
    let begins = h.1 in
    let here : eqb block.at at ≡ false = ne_eqb block.at at (λ e. absurd (omega arith)) in
    ap (λ b. (if b then record block { delayed = true } else block) ∷ map (delayed_at at) blocks) here
    ∙ ap (λ xs. block ∷ xs) (map-above at (extent_end block) blocks to h.2 (omega arith))

-- the block at which the search stops is taken away
pub remove-found : (at from : ℕ) (blocks : List Block) (to : ℕ) (found : Block) → StandWithin from blocks to → slice_get blocks (passed blocks at) ≡ Some found → found.at ≡ at → remove blocks (passed blocks at) ≡ filter (λ block. not (eqb block.at at)) blocks
remove-found at from [] to found h is begins = absurd (cc is)
remove-found at from (block ∷ blocks) to found h is begins =
    elim (cases_Bool (nat_le (extent_end block) at)) [
      | inl past ↦
          let ends = leb-true (extent_end block) at past in
          let least = reserved-least block.size in
          let here : eqb block.at at ≡ false = ne_eqb block.at at (λ e. absurd (omega arith)) in
          let more = passed-more at block blocks past in
          let later : slice_get blocks (passed blocks at) ≡ Some found = subst (λ n. slice_get (block ∷ blocks) n ≡ Some found) more is in
          ap (λ n. remove (block ∷ blocks) n) more
          ∙ ap (λ xs. block ∷ xs) (remove-found at (extent_end block) blocks to found h.2 later begins)
          ∙ sym (ap (λ b. cond (not b) (block ∷ filter (λ block. not (eqb block.at at)) blocks) (filter (λ block. not (eqb block.at at)) blocks)) here)
      | inr stops ↦
          let ends = leb-false (extent_end block) at stops in
          let none = passed-none at block blocks stops in
          let now : slice_get (block ∷ blocks) 0 ≡ Some found = subst (λ n. slice_get (block ∷ blocks) n ≡ Some found) none is in
          let same : block ≡ found = cc now in
          let here : eqb block.at at ≡ true = eq-eqb block.at at (ap (λ (b : Block). b.at) same ∙ begins) in
          ap (λ n. remove (block ∷ blocks) n) none
          ∙ sym (filter-above at (extent_end block) blocks to h.2 ends)
          ∙ sym (ap (λ b. cond (not b) (block ∷ filter (λ block. not (eqb block.at at)) blocks) (filter (λ block. not (eqb block.at at)) blocks)) here)
    ]

-- or delayed
pub set-found : (at from : ℕ) (blocks : List Block) (to : ℕ) (found : Block) → StandWithin from blocks to → slice_get blocks (passed blocks at) ≡ Some found → found.at ≡ at → set blocks (passed blocks at) (record found { delayed = true }) ≡ map (delayed_at at) blocks
set-found at from [] to found h is begins = absurd (cc is)
set-found at from (block ∷ blocks) to found h is begins =
    elim (cases_Bool (nat_le (extent_end block) at)) [
      | inl past ↦
          let ends = leb-true (extent_end block) at past in
          let least = reserved-least block.size in
          let here : eqb block.at at ≡ false = ne_eqb block.at at (λ e. absurd (omega arith)) in
          let more = passed-more at block blocks past in
          let later : slice_get blocks (passed blocks at) ≡ Some found = subst (λ n. slice_get (block ∷ blocks) n ≡ Some found) more is in
          ap (λ n. set (block ∷ blocks) n (record found { delayed = true })) more
          ∙ ap (λ xs. block ∷ xs) (set-found at (extent_end block) blocks to found h.2 later begins)
          ∙ sym (ap (λ b. (if b then record block { delayed = true } else block) ∷ map (delayed_at at) blocks) here)
      | inr stops ↦
          let ends = leb-false (extent_end block) at stops in
          let none = passed-none at block blocks stops in
          let now : slice_get (block ∷ blocks) 0 ≡ Some found = subst (λ n. slice_get (block ∷ blocks) n ≡ Some found) none is in
          let same : found ≡ block = cc now in
          let here : eqb block.at at ≡ true = eq-eqb block.at at (sym (ap (λ (b : Block). b.at) same) ∙ begins) in
          ap (λ n. set (block ∷ blocks) n (record found { delayed = true })) none
          ∙ ap (λ (b : Block). let later : Block = record b { delayed = true } in later ∷ blocks) same
          ∙ ap (λ xs. record block { delayed = true } ∷ xs) (sym (map-above at (extent_end block) blocks to h.2 ends))
          ∙ sym (ap (λ b. (if b then record block { delayed = true } else block) ∷ map (delayed_at at) blocks) here)
    ]

-- a block whose extent is apart from all others goes in where the search stops
pub insert-passed : (new : Block) (from : ℕ) (blocks : List Block) (to : ℕ) → StandWithin from blocks to → IsAligned new → list_all (λ block. is_apart (extent_start new) (extent_end new - extent_start new) (extent_start block) (extent_end block)) blocks ≡ true → insert blocks (passed blocks new.at) new ≡ insert_block new blocks
insert-passed new from [] to h aligned apart = refl
insert-passed new from (block ∷ blocks) to h aligned apart =
    let p = and_parts (is_apart (extent_start new) (extent_end new - extent_start new) (extent_start block) (extent_end block)) (list_all (λ block. is_apart (extent_start new) (extent_end new - extent_start new) (extent_start block) (extent_end block)) blocks) apart in
    let least = reserved-least block.size in
    let least' = reserved-least new.size in
    let side = aligned.side_within in
    let side' = h.0.side_within in
    elim (cases_Bool (nat_le (extent_end block) new.at)) [
      | inl past ↦
          let ends = leb-true (extent_end block) new.at past in
          let more = passed-more new.at block blocks past in
          let higher : nat_lt new.at block.at ≡ false = le-ltb new.at block.at (omega arith) in
          ap (λ n. insert (block ∷ blocks) n new) more
          ∙ ap (λ xs. block ∷ xs) (insert-passed new (extent_end block) blocks to h.2 aligned p.1)
          ∙ sym (ap (λ b. if b then new ∷ (block ∷ blocks) else block ∷ insert_block new blocks) higher)
      | inr stops ↦
          let ends = leb-false (extent_end block) new.at stops in
          let none = passed-none new.at block blocks stops in
          let lower : nat_lt new.at block.at ≡ true =
          elim (or_cases (nat_le (extent_start new + (extent_end new - extent_start new)) (extent_start block)) (nat_le (extent_end block) (extent_start new)) p.0) as (λ _. nat_lt new.at block.at ≡ true) [
            | inl l ↦ let le = leb-true (extent_start new + (extent_end new - extent_start new)) (extent_start block) l in lt-ltb new.at block.at (omega arith)
            | inr r ↦ let le = leb-true (extent_end block) (extent_start new) r in absurd (omega arith)
          ] in
          ap (λ n. insert (block ∷ blocks) n new) none
          ∙ sym (ap (λ b. if b then new ∷ (block ∷ blocks) else block ∷ insert_block new blocks) lower)
    ]
