-- What is known to differ, and that it does.
use Rattle.run_history.specs.declared.answer.Answer.TheVariants as answer
use Rattle.item_log.specs.declared.item_refusal.ItemRefusal.TheVariants as refusal
use Rattle.replay.proofs.Terms.{Bool, List, None, Option, Some, arith, cond, false, length, refl, subst, sym, true, true≢false, ℕ, ◌∙◌, ◌≡◌, ◌≤◌, both_ways, eqb-false, eqb-true, ltb-false, ltb-true, Err, IsSome, Ok, Result, nat_lt, slice_get, unwrap_or, ◌==◌, Send, Entry, LinkFault, Memory, ReadFault, Refused, WriteFault, Coming, HasEnded, Ask, Choice, same-is, same-self, same_ask, ItemRefusal, Image, Answer, Chooses, Fails, Wants, Standing, Line, Recorded, Difference, Differs, Ended, EndsBy, Failed, IsUnusable, Replay, Starved, Unanswered, Untaken, Unused, WaitsForItem, choice_by, DiffersBy, HasFound, IsApart, IsDifference, IsInputEnd, Never, TellsDifference, WouldDo, replay_of, answer_of, refusal_answer, ended_apart, judged, left_over, unusable_apart}
use Rattle.replay.specs.declared.difference.Difference.TheVariants as difference

-- ---- what a call leaves

pub differs_weaker : {P Q : Option Difference → Type 0} (old new : Option Difference) (result : Result (Unit {0}) Answer) → ((found : Option Difference) → P found → Q found) → DiffersBy P old new result → DiffersBy Q old new result
differs_weaker old new (Ok done) weaker differs = differs
differs_weaker old new (Err (answer.Mismatch step)) weaker differs = weaker new differs
differs_weaker old new (Err _) weaker differs = differs

pub differs_never : (Q : Option Difference → Type 0) (old new : Option Difference) (result : Result (Unit {0}) Answer) → DiffersBy Never old new result → DiffersBy Q old new result
differs_never Q old new result never = differs_weaker {P = Never} {Q = Q} old new result (λ found no. absurd no) never

-- behind a call that left it as it was
pub differs_after : (P : Option Difference → Type 0) {old mid : Option Difference} (new : Option Difference) (result : Result (Unit {0}) Answer) → mid ≡ old → DiffersBy P mid new result → DiffersBy P old new result
differs_after P new result same differs = subst (λ (found : Option Difference). DiffersBy P found new result) same differs

-- a fault of a link is no Mismatch, nor is a refused event
pub fault_never : (P : Option Difference → Type 0) (found : Option Difference) (fault : LinkFault) → DiffersBy P found found (Err (answer_of fault))
fault_never P found (Refused kind offset) = refl
fault_never P found ReadFault = refl
fault_never P found WriteFault = refl
fault_never P found Memory = refl

pub refusal_never : (P : Option Difference → Type 0) (found : Option Difference) (why : ItemRefusal) → DiffersBy P found found (Err (refusal_answer why))
refusal_never P found (refusal.TooLong conn) = refl
refusal_never P found refusal.Items = refl
refusal_never P found refusal.Memory = refl

-- the input has ended where a guest asks for an item
pub input_found : (recording : Recorded) (s : Standing) → WouldDo recording s.steps s.ended s.guest.machine Wants → (found : Option Difference) → IsInputEnd found → HasFound recording s found
input_found recording s would found is = subst (HasFound recording s) (sym is) would

-- ---- an answer that can't be used

told_is : (ask : Ask) (told : Option Ask) → same_ask (unwrap_or told ask) ask ≡ false → told ≡ Some (unwrap_or told ask)
told_is ask None apart = absurd (both_ways (same_ask ask ask) apart (same-self ask))
told_is ask (Some told) apart = refl

other_is : (told ask : Ask) → same_ask told ask ≡ false → told ≡ ask → ⊥
other_is told ask apart same = both_ways (same_ask told ask) apart (subst (λ (a : Ask). same_ask a ask ≡ true) (sym same) (same-self ask))

unusable_found : (recording : Recorded) (s : Standing) (ask : Ask) (line : Line) → WouldDo recording s.steps s.ended s.guest.machine (Chooses ask) → slice_get recording.lines s.guest.machine.allocations ≡ Some line
    → IsUnusable s.guest.machine ask (Some line) → HasFound recording s (Some (unusable_apart s.guest.machine.allocations ask (choice_by ask line)))
unusable_found recording s ask line would here unusable = by (same_ask (unwrap_or line.ask ask) ask) refl
  where
    by : (same : Bool) → same_ask (unwrap_or line.ask ask) ask ≡ same
        → HasFound recording s (Some (cond same (difference.Unusable s.guest.machine.allocations ask line.at line.zeroed line.carried) (difference.OtherAsk s.guest.machine.allocations ask (unwrap_or line.ask ask))))
    by true same = (would, refl, record { line = line; is = here; tells = same-is (unwrap_or line.ask ask) ask same; address = refl; mark = refl; carries = refl; unusable = unusable })
    by false apart = (would, refl, record { line = line; is = here; tells = told_is ask line.ask apart; other = other_is (unwrap_or line.ask ask) ask apart })

pub unusable_differs : (recording : Recorded) (old : Option Difference) (s later : Standing) (end : Answer) (number : ℕ) (ask : Ask) (choice : Choice) (line : Line) (found : Difference)
    → later ≡ s → found ≡ unusable_apart number ask choice → number ≡ s.guest.machine.allocations → choice ≡ choice_by ask line → end ≡ answer.Mismatch later.steps
    → WouldDo recording s.steps s.ended s.guest.machine (Chooses ask) → slice_get recording.lines s.guest.machine.allocations ≡ Some line → IsUnusable s.guest.machine ask (Some line)
    → DiffersBy (HasFound recording later) old (Some found) (Err end)
unusable_differs recording old s later end number ask choice line found later_is found_is number_is choice_is end_is would here unusable =
    subst (λ (e : Answer). DiffersBy (HasFound recording later) old (Some found) (Err e)) (sym end_is)
    (subst (λ (t : Standing). HasFound recording t (Some found)) (sym later_is)
    (subst (λ (f : Difference). HasFound recording s (Some f)) (sym (found_is ∙ (λ i. unusable_apart (number_is i) ask (choice_is i)))) (unusable_found recording s ask line would here unusable)))

-- ---- the end

module _ (recording : Recorded) (s : Standing) where
  pub left_differs : s.steps ≡ recording.steps → s.guest.machine.allocations ≤ length recording.lines → DiffersBy (HasFound recording s) None (left_over recording s) (Err (judged (left_over recording s) s.steps))
  left_differs at_end most = by (s.guest.machine.allocations == length recording.lines) (s.guest.machine.taken == recording.taken) refl refl
    where
      by : (used taken : Bool) → (s.guest.machine.allocations == length recording.lines) ≡ used → (s.guest.machine.taken == recording.taken) ≡ taken → DiffersBy (HasFound recording s) None
          (cond used (cond taken None (Some (difference.ItemsApart s.guest.machine.taken recording.taken))) (Some (difference.LinesLeft s.guest.machine.allocations (length recording.lines))))
          (Err (judged (cond used (cond taken None (Some (difference.ItemsApart s.guest.machine.taken recording.taken))) (Some (difference.LinesLeft s.guest.machine.allocations (length recording.lines)))) s.steps))
      by true true u t = refl
      by true false u t = (at_end, eqb-true s.guest.machine.allocations (length recording.lines) u, refl, refl, eqb-false s.guest.machine.taken recording.taken t)
      by false taken u t =
          let apart = eqb-false s.guest.machine.allocations (length recording.lines) u in
          (at_end, refl, refl, omega (arith, apart, most))

  pub ended_differs : (code : ℕ) → s.ended ≡ Some code → s.steps ≤ recording.steps → s.guest.machine.allocations ≤ length recording.lines
      → DiffersBy (HasFound recording s) None (ended_apart recording code s) (Err (judged (ended_apart recording code s) s.steps))
  ended_differs code is within most = by (nat_lt s.steps recording.steps) refl
    where
      by : (early : Bool) → nat_lt s.steps recording.steps ≡ early
          → DiffersBy (HasFound recording s) None (cond early (Some (difference.Ended code)) (left_over recording s)) (Err (judged (cond early (Some (difference.Ended code)) (left_over recording s)) s.steps))
      by true early = (ltb-true s.steps recording.steps early, is)
      by false early = left_differs (omega (arith, ltb-false s.steps recording.steps early, within)) most

-- the answer at an end, by what was found to differ
pub judge_differs : (P : Option Difference → Type 0) {old found expected : Option Difference} (end : Answer) (steps : ℕ) → old ≡ None → found ≡ expected → end ≡ judged found steps
    → DiffersBy P None expected (Err (judged expected steps)) → DiffersBy P old found (Err end)
judge_differs P {old = old} {found = found} end steps none is end_is differs =
    subst (λ (e : Answer). DiffersBy P old found (Err e)) (sym end_is)
    (subst (λ (o : Option Difference). DiffersBy P o found (Err (judged found steps))) (sym none)
    (subst (λ (f : Option Difference). DiffersBy P None f (Err (judged f steps))) (sym is) differs))

-- ---- the whole replay

starved : (recording : Recorded) (entries : List Entry) (replay : Replay) → WouldDo recording replay.steps replay.state.ended replay.state.machine Wants → Differs recording entries replay → WaitsForItem recording entries replay × HasEnded entries
starved recording entries replay would (Ended low some) = absurd (true≢false (sym (subst (λ (e : Option ℕ). IsSome e) would.1 some)))
starved recording entries replay would (Failed cause low lives fails) = absurd (let same : Wants ≡ Fails cause = sym would.2 ∙ fails in cc)
starved recording entries replay would (Unanswered ask low lives chooses none) = absurd (let same : Wants ≡ Chooses ask = sym would.2 ∙ chooses in cc)
starved recording entries replay would (Starved waits ended) = (waits, ended)
starved recording entries replay would (Unused at_end some) = absurd (let no : ⊥ = omega (arith, at_end, would.0) in no)
starved recording entries replay would (Untaken at_end apart) = absurd (let no : ⊥ = omega (arith, at_end, would.0) in no)

module _ (recording : Recorded) (entries : List Entry) (replay : Replay) (used : replay.state.machine.allocations ≡ length replay.choices) where
  same_place : (found : Difference) → IsApart recording replay.state.machine.allocations replay.steps replay.state.ended replay.state.machine found → IsApart recording (length replay.choices) replay.steps replay.state.ended replay.state.machine found
  same_place found apart = subst (λ (n : ℕ). IsApart recording n replay.steps replay.state.ended replay.state.machine found) used apart

  pub found_is : (found : Difference) → Differs recording entries replay → IsApart recording replay.state.machine.allocations replay.steps replay.state.ended replay.state.machine found → IsDifference recording entries replay found
  found_is difference.InputEnded differs apart = starved recording entries replay apart differs
  found_is (difference.Ended code) differs apart = same_place (difference.Ended code) apart
  found_is (difference.Failed cause) differs apart = same_place (difference.Failed cause) apart
  found_is (difference.NoLine number asked) differs apart = same_place (difference.NoLine number asked) apart
  found_is (difference.OtherAsk number asked told) differs apart = same_place (difference.OtherAsk number asked told) apart
  found_is (difference.Unusable number asked at zeroed carried) differs apart = same_place (difference.Unusable number asked at zeroed carried) apart
  found_is (difference.LinesLeft count lines) differs apart = same_place (difference.LinesLeft count lines) apart
  found_is (difference.ItemsApart taken told) differs apart = same_place (difference.ItemsApart taken told) apart

-- what was found to differ where a replay has ended
pub tells_found : (image : Image) (recording : Recorded) (entries : List Entry) (coming : Option Coming) (choices : List Choice) (sends : List Send) (s : Standing) (found : Option Difference) (end : Answer)
    → s.guest.machine.allocations ≡ length choices → EndsBy image recording entries coming (replay_of choices sends s) end → DiffersBy (HasFound recording s) None found (Err end) → TellsDifference recording entries (replay_of choices sends s) end found
tells_found image recording entries coming choices sends s None (answer.Mismatch step) used ends differs = differs
tells_found image recording entries coming choices sends s (Some found) (answer.Mismatch step) used ends differs = found_is recording entries (replay_of choices sends s) used found ends.1 differs
tells_found image recording entries coming choices sends s found _ used ends differs = differs
