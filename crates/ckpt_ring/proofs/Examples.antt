-- The definitions at values: two pages, two saved slots.
use Rattle.cow_pages.specs.declared.frame_copy.TheConstants.{PAGE}
use Rattle.ckpt_ring.proofs.Terms.{List, None, Some, [], false, refl, true, ℕ, ◌+◌, ◌-◌, ◌∷◌, ◌≡◌, Pages, Space, used_of, line_of, slots_of, with_reached, written_pages, Slots, used_pages, without_oldest}

abbrev space : List ℕ → Space
space numbers = record { numbers = numbers; bytes = [] }

-- slot 1 was saved first, then the first page was written, slot 0 was saved, and the second page was written
abbrev store : Pages
store = record { pages = 2; frames = 6; live = space (2 ∷ 3 ∷ []); slots = Some (space (2 ∷ 1 ∷ [])) ∷ Some (space (0 ∷ 1 ∷ [])) ∷ [] }

abbrev seen : Slots ℕ
seen = slots_of (λ slot. slot + 10) 12 store (line_of (0 ∷ 1 ∷ []) 0)

its_slots : seen ≡ record {
  live = 12;
  saved = record { state = 10; pages = 1 } ∷ record { state = 11; pages = 2 } ∷ [];
  newer = 0;
  written = 1;
  count = 2;
  pages = 2;
  frames = 6;
}
its_slots = refl

frames_in_use : used_of store ≡ 4
frames_in_use = refl

pages_in_use : used_pages seen ≡ 4
pages_in_use = refl

-- the second page alone was written since slot 0, and both since slot 1
since_the_newest : written_pages store (line_of (0 ∷ 1 ∷ []) 0) ≡ false ∷ true ∷ []
since_the_newest = refl

since_the_oldest : written_pages store (line_of (0 ∷ 1 ∷ []) 1) ≡ true ∷ true ∷ []
since_the_oldest = refl

-- without slot 1
without_it : slots_of (λ slot. slot + 10) 12 (record store { slots = Some (space (2 ∷ 1 ∷ [])) ∷ None ∷ [] }) (line_of (0 ∷ []) 0) ≡ without_oldest seen
without_it = refl

-- two bytes over a page's end, one byte behind it, and no byte
over_the_end : with_reached (PAGE - 1) 2 (false ∷ false ∷ false ∷ []) ≡ true ∷ true ∷ false ∷ []
over_the_end = refl

behind_the_end : with_reached PAGE 1 (false ∷ false ∷ true ∷ []) ≡ false ∷ true ∷ true ∷ []
behind_the_end = refl

of_nothing : with_reached PAGE 0 (false ∷ false ∷ []) ≡ false ∷ false ∷ []
of_nothing = refl
