-- Addresses whose bytes are found without the tables of pages.
use Rattle.std.specs.Prelude.{◌≡◌, ℕ, ◌+◌, ◌-◌, ◌*◌, ◌/◌, ◌%◌, ◌^◌, ◌<◌, ◌≤◌, ◌&&◌, nat_le, nat_lt, if◌then◌else◌, false, List, length, slice_index}
use Rattle.guest_space.specs.Terms.{PAGE, Pages, StandsAt, is_shared}
use Rattle.guest_space.specs.declared.window.Window.{Window}
use Rattle.guest_space.specs.declared.window.RegisterWindows.{RegisterWindows}
use Rattle.guest_space.specs.declared.window.Windows.{Windows}
use Rattle.guest_space.specs.Space.{GuestPages, IsLawfulSpace, Span}
use Rattle.guest_space.specs.Access.{Puts}
use Rattle.guest_space.specs.Ranges.{AreHeld}

-- from each address of a window on, four bytes are in spans that permit this, and stand in the frames where the window says
pub record IsWindow (flag base : ℕ) (spans : List Span) (store : Pages) (window : Window) : Type 0 where
  pub below : window.start + window.count ≤ 2 ^ 32
  pub small : window.place + window.count ≤ 2 ^ 32
  pub held : (away : ℕ) → away < window.count → AreHeld flag spans (window.start + away) 4
  pub stands : (away : ℕ) → away < window.count → StandsAt store (window.start + away - base) 4 (window.place + away)

-- a window of bytes that may be read
abbrev pub IsLoadWindow : GuestPages → Window → Type 0
IsLoadWindow space window = IsWindow 4 space.base space.spans space.store window

-- a window of bytes that may be written, in frames that no saved slot has
pub record IsStoreWindow (space : GuestPages) (window : Window) : Type 0 where
  pub window_is : IsWindow 2 space.base space.spans space.store window
  pub own : (away : ℕ) → away < window.count → is_shared space.store ((window.start + away - space.base) / PAGE) ≡ false

-- a window's addresses are of the page of an address
abbrev pub IsOfPage : GuestPages → ℕ → Window → Type 0
IsOfPage space at window = (away : ℕ) → away < window.count → (window.start + away - space.base) / PAGE ≡ (at - space.base) / PAGE

-- a window has an address
abbrev pub HasAddress : Window → ℕ → Type 0
HasAddress window at = (window.start ≤ at) × (at < window.start + window.count)

-- where a place goes where the frame that begins at one place was copied to the one that begins at another: elsewhere it stays
abbrev pub followed : ℕ → ℕ → ℕ → ℕ
followed from to place = if nat_le from place && nat_lt place (from + PAGE) then to + (place - from) else place

-- a window whose place went so
abbrev pub follow : ℕ → ℕ → Window → Window
follow from to window = record { start = window.start; count = window.count; place = followed from to window.place }

-- the window of a register; past the last one that of no address
abbrev pub window_of : RegisterWindows → ℕ → Window
window_of windows register = record { start = slice_index windows.starts register; count = slice_index windows.counts register; place = slice_index windows.places register }

-- the window of each register is so
abbrev pub EachIs : (Window → Type 0) → RegisterWindows → Type 0
EachIs Is windows = (register : ℕ) → Is (window_of windows register)

-- the window of a register for loads
abbrev pub load_window : Windows → ℕ → Window
load_window windows register = window_of windows.loads register

-- the windows of loads and of stores, for each register as a base and behind them those that were found of late
pub record AreWindows (space : GuestPages) (windows : Windows) : Type 0 where
  pub loads : EachIs (IsLoadWindow space) windows.loads
  pub stores : EachIs (IsStoreWindow space) windows.stores

-- bytes of one page were written, and its frame began at one place before and begins at another one now
pub record WritesPage (old : GuestPages) (at : ℕ) (bytes : List ℕ) (new : GuestPages) (from to : ℕ) : Type 0 where
  pub put : Puts old at bytes new
  pub lawful : IsLawfulSpace old
  pub within : (at - old.base) % PAGE + length bytes ≤ PAGE
  pub inside : (at - old.base) / PAGE < old.store.pages
  pub from_is : from ≡ PAGE * slice_index old.store.live.numbers ((at - old.base) / PAGE)
  pub to_is : to ≡ PAGE * slice_index new.store.live.numbers ((at - old.base) / PAGE)
