-- What a session left, of what the notes show by other names.
use Rattle.std.proofs.Common.{List, Option, subst, ℕ, ◌≡◌}
use Rattle.links.specs.Seen.{Seen}
use Rattle.run_history.specs.declared.answer.Answer.{Answer}
use Rattle.session_history.specs.Lawful.{Rules}
use Rattle.session_notes.specs.Noting.{Shown}
use Rattle.session_notes.specs.declared.episode.Try.{Try}
use Rattle.session_state.specs.Serving.{HasServedLink}
use Rattle.session_state.specs.Sessions.{SessionState}

module _ {R : Type 0} where
  pub served_at : {rules : Rules} {before seen : Seen} {shown shown_now other other_now : Shown} {counted : ℕ} {tables_before tables : Option (List (List Try))} {old new : SessionState R} {answered : Answer}
      → shown ≡ other → shown_now ≡ other_now → HasServedLink rules before seen shown shown_now counted tables_before tables old new answered
      → HasServedLink rules before seen other other_now counted tables_before tables old new answered
  served_at {rules = rules} {before = before} {seen = seen} {shown_now = shown_now} {other = other} {counted = counted} {tables_before = tables_before} {tables = tables} {old = old} {new = new} {answered = answered} same same_now served =
      subst (λ (s : Shown). HasServedLink rules before seen other s counted tables_before tables old new answered) same_now
      (subst (λ (s : Shown). HasServedLink rules before seen s shown_now counted tables_before tables old new answered) same served)

-- what holds of what notes showed before and show now, by other names
pub shown_at : (P : Shown → Shown → Type 0) {shown shown_now other other_now : Shown} → shown ≡ other → shown_now ≡ other_now → P shown shown_now → P other other_now
shown_at P {shown_now = shown_now} {other = other} same same_now holds = subst (λ (s : Shown). P other s) same_now (subst (λ (s : Shown). P s shown_now) same holds)
