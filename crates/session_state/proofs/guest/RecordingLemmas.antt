-- What a session records while its guest waits for an item.
use Rattle.session_state.proofs.Terms.{List, Ok, Result, arith, length, subst, sym, ℕ, ◌+◌, ◌-◌, ◌≡◌, ◌≤◌, Seen, Choice, Image, Stop, Rules, Shown, AreBehind, SessionState, IsWaitingFor, Since, WaitsBy, KeepsNotes, NotesUpTo}
use Rattle.session_state.proofs.guest.ChoiceLemmas.{waits_noted}

-- where no more was noted before, so many are
pub up_to_safe : {safe recorded later : ℕ} → recorded ≤ safe → later ≡ recorded + (safe - recorded) → safe ≡ later
up_to_safe low is = omega (arith, low, is)

module _ {R : Type 0} where
  -- the answers of the allocator up to a number were noted, and the guest still waits
  pub waits_up_to : {rules : Rules} {image : Image} (began : Since) {seen : Seen} (shown now : Shown) {old : SessionState R} {safe recorded : ℕ} {left : List Choice}
      (w : IsWaitingFor rules image (record began { noted = shown.told }) seen old) → AreBehind safe w.hearing.saved.paths → safe ≤ length w.hearing.story.survivor.now.choices → old.recorded ≤ safe
      → NotesUpTo safe old.recorded old.choices shown now recorded left (Ok tt) → KeepsNotes shown now (Ok tt)
      → IsWaitingFor rules image (record began { noted = now.told }) seen (record old { recorded = recorded; choices = left })
  waits_up_to {rules = rules} {image = image} began {seen = seen} shown now {old = old} {safe = safe} {recorded = recorded} {left = left} w behind low more n keeps =
      let count : safe ≡ recorded = up_to_safe more n.1 in
      subst (λ k. IsWaitingFor rules image (record began { noted = now.told }) seen (record old { recorded = k; choices = left })) count
      (waits_noted began shown.told now.told w behind low more n.0 keeps.episodes keeps.unnoted n.2)

  -- what is said of a session where noting failed, since it is the same as before
  pub waits_same : (rules : Rules) (image : Image) (began : Since) (seen : Seen) (old : SessionState R) {recorded : ℕ} {left : List Choice} (result : Result (Unit {0}) Stop) → recorded ≡ old.recorded → left ≡ old.choices
      → WaitsBy rules image began seen old result → WaitsBy rules image began seen (record old { recorded = recorded; choices = left }) result
  waits_same rules image began seen old {recorded = recorded} {left = left} result same alike w =
      subst (λ k. WaitsBy rules image began seen (record old { recorded = k; choices = left }) result) (sym same)
      (subst (λ cs. WaitsBy rules image began seen (record old { choices = cs }) result) (sym alike) w)
