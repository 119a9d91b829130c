-- What each event of a session makes of its account.
use Rattle.links.specs.declared.journal.Entry.TheVariants as entry
use Rattle.session_history.proofs.Terms.{Bool, List, [], ap, append_assoc, arith, length, length-append, refl, subst, sym, ℕ, ◌++◌, ◌+◌, ◌∙◌, ◌∷◌, ◌≡◌, ◌≤◌, Item, Prefix, Send, Entry, LinkEvent, items_from, Image, Follows, IsUsed, served_follows, served_is_run, start, start_machine, Run, Limits, Override, Path, Served, origin, Before, heeded_behind, items_in, nothing_before, received, AreInOrder, Covers, IsFeasible, passed_in, Moment, journal, IsDuePiece, Rules, Carries, IsSoundBefore}
use Rattle.session_history.specs.Laws.{NothingIsSound}
use Rattle.session_history.proofs.Paths.{served_same, served_on, served_with}
use Rattle.session_history.proofs.Growing.{Grows, run_grows}
use Rattle.session_history.proofs.Passing.{in_order_wider, in_order_then, covers_on, covers_pass, feasible_on, feasible_pass, timed_on}
use Rattle.session_history.proofs.Heeding.{passed_in-gave, passed_in-took, items_in-gave}

-- a run under a plan, from where all of its answers of the allocator were used, and what it adds
pub record Went (items : List Item) (first second : Path) : Type 0 where
  pub more : ℕ
  pub follows : Follows items first second more
  pub grows : Grows first.state second.state

pub went : (limits : Limits) (items : List Item) (plan : List Override) (first second : Path) → IsUsed first → Served limits items plan first second → Went items first second
went limits items plan first second used served =
    let follows = served_follows limits items plan first second served.more used served.ran in
    record { more = served.more; follows = follows; grows = run_grows items second.choices first.state second.state served.more follows.ran }

-- all answers of the allocator of a run from the start were used
pub used_from : (limits : Limits) (image : Image) (items : List Item) (plan : List Override) (path : Path) → Served limits items plan (origin image) path → IsUsed path
unfolding start start_machine
used_from limits image items plan path served = (served_follows limits items plan (origin image) path served.more refl served.ran).used

-- nothing came and went, and nothing was run
abbrev from_nothing : Rules → Rules
from_nothing rules = record rules { bounds = record rules.bounds { before = nothing_before } }

carries_none : (rules : Rules) (image : Image) → Carries (from_nothing rules) image [] [] (origin image)
unfolding start start_machine heeded_behind items_from
carries_none rules image = record {
  served = served_same rules.limits (items_in (from_nothing rules).bounds []) [] (origin image);
  taken = omega arith;
  covers = (λ conn. ([], refl));
  feasible = (λ item low. absurd (omega (arith, low)));
  ordered = tt;
  timed = tt;
}

sound_none : (rules : Rules) (image : Image) → IsSoundBefore (from_nothing rules) image
unfolding heeded_behind
sound_none rules image = record { heeded = refl; carries = carries_none rules image }

pub nothing_is_sound : NothingIsSound
nothing_is_sound rules image alone = subst (λ (b : Before). IsSoundBefore (record rules { bounds = record rules.bounds { before = b } }) image) (sym alone) (sound_none rules image)

-- the survivor goes on
pub carries_on : (rules : Rules) (image : Image) (entries : List Entry) (plan : List Override) (now to : Path) → Carries rules image entries plan now
    → Served rules.limits (items_in rules.bounds entries) plan now to → to.state.machine.taken ≤ received rules.bounds entries → Carries rules image entries plan to
carries_on rules image entries plan now to carries on taken =
    let items : List Item = items_in rules.bounds entries in
    let pieces : List Send = passed_in rules.bounds entries in
    let grown : Went items now to = went rules.limits items plan now to (used_from rules.limits image items plan now carries.served) on in
    record {
      served = served_on rules.limits items plan (origin image) now to carries.served on;
      taken = taken;
      covers = covers_on pieces now.state to.state grown.grows carries.covers;
      feasible = feasible_on (received rules.bounds entries) pieces now.state to.state grown.grows carries.ordered carries.timed carries.covers carries.feasible;
      ordered = carries.ordered;
      timed = timed_on now.state to.state grown.grows carries.timed;
    }

-- an event is taken, which brings these items or none
pub carries_event : (rules : Rules) (image : Image) (entries : List Entry) (event : LinkEvent) (more : List Item) (plan : List Override) (now : Path) → Carries rules image entries plan now
    → items_in rules.bounds (entries ++ entry.Took event ∷ []) ≡ items_in rules.bounds entries ++ more → Carries rules image (entries ++ entry.Took event ∷ []) plan now
carries_event rules image entries event more plan now carries brings =
    let after : List Entry = entries ++ entry.Took event ∷ [] in
    let same : passed_in rules.bounds after ≡ passed_in rules.bounds entries = passed_in-took rules.bounds entries event in
    let count : received rules.bounds after ≡ received rules.bounds entries + length more = ap length brings ∙ length-append (items_in rules.bounds entries) more in
    record {
      served = subst (λ items. Served rules.limits items plan (origin image) now) (sym brings) (served_with rules.limits (items_in rules.bounds entries) more plan (origin image) now carries.served);
      taken = omega (arith, count, carries.taken);
      covers = subst (λ pieces. Covers pieces now.state) (sym same) carries.covers;
      feasible = subst (λ pieces. IsFeasible pieces now.state) (sym same) carries.feasible;
      ordered = subst (AreInOrder (received rules.bounds after)) (sym same) (in_order_wider (received rules.bounds entries) (received rules.bounds after) (passed_in rules.bounds entries) (omega (arith, count)) carries.ordered);
      timed = carries.timed;
    }

-- a piece is passed that is due where the survivor stands
pub carries_piece : (rules : Rules) (image : Image) (moment : Moment) (conn : ℕ) (bytes : List ℕ) (gone : Bool) (plan : List Override) (now : Path) → Carries rules image (journal moment) plan now
    → IsDuePiece rules now.state.sends moment conn bytes → Carries rules image (journal moment ++ entry.Gave conn bytes gone ∷ []) plan now
carries_piece rules image moment conn bytes gone plan now carries due =
    let entries : List Entry = journal moment in
    let after : List Entry = entries ++ entry.Gave conn bytes gone ∷ [] in
    let items : List Item = items_in rules.bounds entries in
    let piece : Send = record { conn = conn; bytes = bytes; taken = received rules.bounds entries } in
    let passed : passed_in rules.bounds after ≡ passed_in rules.bounds entries ++ piece ∷ [] = passed_in-gave rules.bounds entries conn bytes gone in
    let brings : items_in rules.bounds after ≡ items = items_in-gave rules.bounds entries conn bytes gone in
    let front : List Send = due.stands.earlier ++ due.send ∷ [] in
    let begins : Prefix front now.state.sends = (due.stands.later, append_assoc due.stands.earlier (due.send ∷ []) due.stands.later ∙ sym due.stands.split) in
    record {
      served = subst (λ its. Served rules.limits its plan (origin image) now) (sym brings) carries.served;
      taken = subst (λ its. now.state.machine.taken ≤ length its) (sym brings) carries.taken;
      covers = subst (λ pieces. Covers pieces now.state) (sym passed) (covers_pass (passed_in rules.bounds entries) piece now.state front begins due.part carries.covers);
      feasible = subst (λ pieces. IsFeasible pieces now.state) (sym passed) (feasible_pass (passed_in rules.bounds entries) piece now.state carries.taken carries.feasible);
      ordered =
          subst (λ its. AreInOrder (length its) (passed_in rules.bounds after)) (sym brings)
          (subst (AreInOrder (length items)) (sym passed) (in_order_then (length items) (passed_in rules.bounds entries) piece refl carries.ordered));
      timed = carries.timed;
    }

-- the survivor's run is one of the image, with all answers of the allocator that it used
pub carries_run : (rules : Rules) (image : Image) (entries : List Entry) (plan : List Override) (now : Path) → Carries rules image entries plan now → Run image (items_in rules.bounds entries) now.choices now.steps now.state
unfolding start start_machine
carries_run rules image entries plan now carries =
    let items : List Item = items_in rules.bounds entries in
    let count : carries.served.more ≡ now.steps = omega (arith, (served_follows rules.limits items plan (origin image) now carries.served.more refl carries.served.ran).counted) in
    subst (λ steps. Run image items now.choices steps now.state) count (served_is_run rules.limits image items plan now carries.served.more carries.served.ran)
