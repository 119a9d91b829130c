-- What each call adds to the journal of a link, and what stages say of one another.
use Rattle.links.specs.declared.journal.Entry.TheVariants as entry
use Rattle.links.specs.declared.journal.LinkEvent.TheVariants as event
use Rattle.port_link.proofs.Terms.{List, [], add-one, ap, append-nil, arith, false, refl, suc, sym, true, zero, ℕ, ◌++◌, ◌+◌, ◌<◌, ◌∙◌, ◌∷◌, ◌≡◌, Entry, Ready, Place, Stage, Broken, Closed, Dropped, Ended, Open, Unopened, is_broken, is_done, is_present, shown, Served, closed_entries, closes, entries_of, is_closable, opens, takes_bytes, with_ready, without_ready, link_journal, with_ends, closed_place, dropped_place, ended_place, opened_place, settled_place, waited_place}

-- a link that isn't at its end hasn't answered it
pub no_ends : (ends : ℕ) {A : Type 0} → (0 < ends → A) → (A → ⊥) → ends ≡ 0
no_ends zero at not = refl
no_ends (suc n) at not = absurd (not (at (omega arith)))

more_in : (ends : ℕ) (entries more : List Entry) → ends ≡ 0 → with_ends ends (entries ++ more) ≡ with_ends ends entries ++ more
more_in ends entries more none = rw none refl

-- what a wait answered is no part of it
pub ready_journal : (place : Place) (served : Served) (ready : Ready) → link_journal (waited_place ready place) (with_ready ready served) ≡ link_journal place served ++ []
unfolding link_journal
ready_journal place served ready = sym (append-nil _)

pub unready_journal : (place : Place) (served : Served) → link_journal place (without_ready served) ≡ link_journal place served ++ []
unfolding link_journal
unready_journal place served = sym (append-nil _)

-- an accept opens the next connection
pub opened : (place : Place) (served : Served) → place.ends ≡ 0
    → link_journal (opened_place place) (opens place.accepted served) ≡ link_journal place served ++ entry.Took (event.Opens place.accepted) ∷ []
unfolding link_journal
opened place served none = more_in place.ends (entries_of served) (entry.Took (event.Opens place.accepted) ∷ []) none

-- bytes that were taken are a piece
pub took : (place : Place) (served : Served) (conn byte : ℕ) (bytes : List ℕ) → place.ends ≡ 0
    → link_journal place (takes_bytes conn (byte ∷ bytes) served) ≡ link_journal place served ++ entry.Took (event.Piece conn (byte ∷ bytes)) ∷ []
unfolding link_journal
took place served conn byte bytes none = more_in place.ends (entries_of served) (entry.Took (event.Piece conn (byte ∷ bytes)) ∷ []) none

-- none are the close
pub ended : (place : Place) (served : Served) (conn : ℕ) → place.ends ≡ 0
    → link_journal (ended_place conn place) (takes_bytes conn [] served) ≡ link_journal place served ++ entry.Took (event.Closes conn) ∷ []
unfolding link_journal
ended place served conn none = more_in place.ends (entries_of served) (entry.Took (event.Closes conn) ∷ []) none

closed_told : (was : Stage) (conn : ℕ) (entries : List Entry) → was ≡ Ended → closed_entries was conn entries ≡ entries
closed_told was conn entries is = ap (λ (s : Stage). closed_entries s conn entries) is

closed_newly : (was : Stage) (conn : ℕ) (entries : List Entry) → was ≡ Broken → closed_entries was conn entries ≡ entries ++ entry.Took (event.Closes conn) ∷ []
closed_newly was conn entries is = ap (λ (s : Stage). closed_entries s conn entries) is

-- one to which a give failed is told as closed where it is
pub dropped : (place : Place) (served : Served) (conn : ℕ) → served.stages conn ≡ Broken → place.ends ≡ 0
    → link_journal (dropped_place conn place) (closes conn served) ≡ link_journal place served ++ entry.Took (event.Closes conn) ∷ []
unfolding link_journal
dropped place served conn is none =
    ap (with_ends place.ends) (closed_newly (served.stages conn) conn (entries_of served) is) ∙ more_in place.ends (entries_of served) (entry.Took (event.Closes conn) ∷ []) none

-- one whose end was found was told as closed before
pub closed : (place : Place) (served : Served) (conn : ℕ) → served.stages conn ≡ Ended → link_journal (closed_place conn place) (closes conn served) ≡ link_journal place served ++ []
unfolding link_journal
closed place served conn is = ap (with_ends place.ends) (closed_told (served.stages conn) conn (entries_of served) is) ∙ sym (append-nil _)

-- the end is one entry more
pub ended_more : (place : Place) (served : Served) → link_journal (record place { ends = place.ends + 1 }) served ≡ link_journal place served ++ entry.Took event.Ends ∷ []
unfolding link_journal
ended_more place served = rw add-one refl

-- nothing more
pub same_journal : (place : Place) (served : Served) → link_journal place served ≡ link_journal place served ++ []
same_journal place served = sym (append-nil _)

pub settled : (place : Place) (served : Served) (conn : ℕ) → link_journal (settled_place conn place) served ≡ link_journal place served ++ []
unfolding link_journal
settled place served conn = sym (append-nil _)

-- where none is to be closed, and no give failed, none may be closed
pub none_closable : (stage was : Stage) → is_done stage ≡ false → is_broken stage ≡ false → was ≡ shown stage → is_closable was ≡ false
none_closable Unopened was done broken is = ap is_closable is
none_closable Open was done broken is = ap is_closable is
none_closable Ended was done broken is = cc
none_closable Broken was done broken is = cc
none_closable Dropped was done broken is = cc
none_closable Closed was done broken is = ap is_closable is

-- such a connection that is open at the port is one whose end wasn't found
pub only_open : (stage : Stage) → is_done stage ≡ false → is_broken stage ≡ false → is_present stage ≡ true → stage ≡ Open
only_open Unopened done broken there = cc
only_open Open done broken there = refl
only_open Ended done broken there = cc
only_open Broken done broken there = cc
only_open Dropped done broken there = cc
only_open Closed done broken there = cc

pub broken_is : (stage : Stage) → is_broken stage ≡ true → stage ≡ Broken
broken_is Unopened is = cc
broken_is Open is = cc
broken_is Ended is = cc
broken_is Broken is = refl
broken_is Dropped is = cc
broken_is Closed is = cc
