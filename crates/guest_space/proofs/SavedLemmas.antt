-- Windows of a memory that is saved, or of which a slot is given up.
use Rattle.cow_pages.proofs.Counting.{has-append}
use Rattle.guest_space.proofs.Terms.{List, None, Option, Some, [], ap, false, set, subst, suc, sym, zero, ℕ, ◌+◌, ◌-◌, ◌/◌, ◌||◌, ◌∙◌, ◌∷◌, ◌≡◌, or_parts, slice_index, PAGE, Space, has, saved_numbers, Window, Windows, GuestPages, Releases, AreWindows, EachIs, IsLoadWindow, IsStoreWindow, window_of}

-- a memory with other slots
abbrev pub with_slots : GuestPages → List (Option Space) → GuestPages
with_slots space slots = record space { store = record space.store { slots = slots } }

-- a window of bytes that may be read stays one, whatever the slots have
pub load_window_saved : (space : GuestPages) (slots : List (Option Space)) (window : Window) → IsLoadWindow space window → IsLoadWindow (with_slots space slots) window
load_window_saved space slots window so = record {
  below = so.below;
  small = so.small;
  held = so.held;
  stands = λ away within. record {
    inside = (so.stands away within).inside;
    within = (so.stands away within).within;
    place_is = (so.stands away within).place_is;
  };
}

-- the windows after a save, where those of stores are forgotten
pub windows_saved : (old new : GuestPages) (slots : List (Option Space)) (windows after : Windows) → new ≡ with_slots old slots → AreWindows old windows → after.loads ≡ windows.loads
    → EachIs (IsStoreWindow new) after.stores → AreWindows new after
windows_saved old new slots windows after is so loads stores = record {
  loads = subst (EachIs (IsLoadWindow new)) (sym loads) (subst (λ space. EachIs (IsLoadWindow space) windows.loads) (sym is) (λ register. load_window_saved old slots (window_of windows.loads register) (so.loads register)));
  stores = stores;
}

-- what no slot has, none has where one of them is given up
saved_fewer : (n : ℕ) (slots : List (Option Space)) (slot : ℕ) → has n (saved_numbers slots) ≡ false → has n (saved_numbers (set slots slot None)) ≡ false
saved_fewer n [] slot none = none
saved_fewer n (None ∷ slots) zero none = none
saved_fewer n (None ∷ slots) (suc slot) none = saved_fewer n slots slot none
saved_fewer n (Some space ∷ slots) zero none = (or_parts (has n space.numbers) (has n (saved_numbers slots)) (sym (has-append n space.numbers (saved_numbers slots)) ∙ none)).1
saved_fewer n (Some space ∷ slots) (suc slot) none =
    let parts = or_parts (has n space.numbers) (has n (saved_numbers slots)) (sym (has-append n space.numbers (saved_numbers slots)) ∙ none) in
    has-append n space.numbers (saved_numbers (set slots slot None)) ∙ ap (λ b. b || has n (saved_numbers (set slots slot None))) parts.0 ∙ saved_fewer n slots slot parts.1

-- a window of bytes that may be written stays one where a slot is given up
store_window_released : (space : GuestPages) (slot : ℕ) (window : Window) → IsStoreWindow space window → IsStoreWindow (with_slots space (set space.store.slots slot None)) window
store_window_released space slot window so = record {
  window_is = record {
    below = so.window_is.below;
    small = so.window_is.small;
    held = so.window_is.held;
    stands = λ away within. record {
      inside = (so.window_is.stands away within).inside;
      within = (so.window_is.stands away within).within;
      place_is = (so.window_is.stands away within).place_is;
    };
  };
  own = λ away within. saved_fewer (slice_index space.store.live.numbers ((window.start + away - space.base) / PAGE)) space.store.slots slot (so.own away within);
}

-- the windows where a slot is given up
pub windows_released : (old new : GuestPages) (slot : ℕ) (windows : Windows) → Releases old slot new → AreWindows old windows → AreWindows new windows
windows_released old new slot windows gone so =
    let slots = set old.store.slots slot None in
    subst (λ space. AreWindows space windows) (sym gone.store_is) record {
      loads = λ register. load_window_saved old slots (window_of windows.loads register) (so.loads register);
      stores = λ register. store_window_released old slot (window_of windows.stores register) (so.stores register);
    }
