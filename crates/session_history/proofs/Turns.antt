-- A link whose events are in order opens no connection again.
use Rattle.links.specs.declared.journal.LinkEvent.TheVariants as event
use Rattle.session_history.proofs.Terms.{Bool, List, [], ap, cond, eqb, false, inl, inr, refl, subst, sym, ℕ, ◌++◌, ◌∙◌, ◌∷◌, ◌≡◌, cases_Bool, eq-eqb, eqb-true, or_from, LinkEvent, Closed, IsInOrder, Open, Phase, Phases, Unopened, phases_after, closes, AreInTurn, LinksOpenOnce}

unopened_not : (phase : Phase) → phase ≡ Unopened → phase ≡ Closed → ⊥
unopened_not phase one other = let h : Unopened ≡ Closed = sym one ∙ other in cc

-- a connection that was closed stays so
stays_closed : (phases : Phases) (first : LinkEvent) (conn : ℕ) → IsInOrder phases first → phases conn ≡ Closed → phases_after first phases conn ≡ Closed
stays_closed phases (event.Opens c) conn order closed =
    elim (cases_Bool (eqb conn c)) [
      | inl here ↦ absurd (unopened_not (phases c) order.1 (ap phases (sym (eqb-true conn c here)) ∙ closed))
      | inr apart ↦ ap (λ (b : Bool). cond b Open (phases conn)) apart ∙ closed
    ]
stays_closed phases (event.Piece c bytes) conn order closed = closed
stays_closed phases (event.Closes c) conn order closed =
    elim (cases_Bool (eqb conn c)) [
      | inl here ↦ ap (λ (b : Bool). cond b Closed (phases conn)) here
      | inr apart ↦ ap (λ (b : Bool). cond b Closed (phases conn)) apart ∙ closed
    ]
stays_closed phases event.Settles conn order closed = closed
stays_closed phases event.Ends conn order closed = closed

-- and isn't opened
never_opened : (phases : Phases) (before after : List LinkEvent) (conn : ℕ) → phases conn ≡ Closed → AreInTurn phases (before ++ event.Opens conn ∷ after) → ⊥
never_opened phases [] after conn closed are = unopened_not (phases conn) are.0.1 closed
never_opened phases (first ∷ before) after conn closed are = never_opened (phases_after first phases) before after conn (stays_closed phases first conn are.0 closed) are.1

opens_late : (phases : Phases) (before after : List LinkEvent) (conn : ℕ) → AreInTurn phases (before ++ event.Opens conn ∷ after) → closes conn before ≡ false
opens_late phases [] after conn are = refl
opens_late phases (event.Opens c ∷ before) after conn are = opens_late (phases_after (event.Opens c) phases) before after conn are.1
opens_late phases (event.Piece c bytes ∷ before) after conn are = opens_late phases before after conn are.1
opens_late phases (event.Closes c ∷ before) after conn are =
    elim (cases_Bool (eqb c conn)) [
      | inl here ↦
          absurd (never_opened (phases_after (event.Closes c) phases) before after conn
          (ap (λ (b : Bool). cond b Closed (phases conn)) (eq-eqb conn c (sym (eqb-true c conn here)))) are.1)
      | inr apart ↦ or_from (eqb c conn) (closes conn before) apart (opens_late (phases_after (event.Closes c) phases) before after conn are.1)
    ]
opens_late phases (event.Settles ∷ before) after conn are = opens_late phases before after conn are.1
opens_late phases (event.Ends ∷ before) after conn are = opens_late phases before after conn are.1

pub links_open_once : LinksOpenOnce
links_open_once phases events are before after conn split = opens_late phases before after conn (subst (AreInTurn phases) split are)
