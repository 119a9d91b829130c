-- What a session allows where its frame stays.
use Rattle.session_state.proofs.Terms.{Bool, ap, subst, sym, ℕ, ◌∙◌, ◌≡◌, Heap, CpuState, rules_in, SessionState, HasSameFrame, HasSameGuest, IsAdoptedLater, IsCounted, rules_by}

module _ {R : Type 0} where
  pub guest_frame : {old new : SessionState R} → HasSameGuest old new → HasSameFrame old new
  guest_frame same = record { options = same.options; rule = ap (λ (cpu : CpuState R). cpu.rule) same.cpu; before = same.before; hold = same.hold }

  pub same_rules : (permits : R → Heap → ℕ → ℕ → Bool) {old new : SessionState R} → HasSameFrame old new → rules_by permits new ≡ rules_by permits old
  same_rules permits same = λ i. rules_in (same.options i) (same.before i) (same.hold i) (permits (same.rule i))

  pub saved_frame : {old new : SessionState R} → new ≡ record old { cpu = new.cpu } → new.cpu.rule ≡ old.cpu.rule → HasSameFrame old new
  saved_frame same rule = record { options = ap (λ (s : SessionState R). s.options) same; rule = rule; before = ap (λ (s : SessionState R). s.before) same; hold = ap (λ (s : SessionState R). s.hold) same }

  pub noted_frame : {old new : SessionState R} → new ≡ record old { recorded = new.recorded; choices = new.choices } → HasSameFrame old new
  noted_frame same = record { options = ap (λ (s : SessionState R). s.options) same; rule = ap (λ (s : SessionState R). s.cpu.rule) same; before = ap (λ (s : SessionState R). s.before) same; hold = ap (λ (s : SessionState R). s.hold) same }

  pub forgot_frame : {old new : SessionState R} → new ≡ record old { log = new.log; replies = new.replies } → HasSameFrame old new
  forgot_frame same = record { options = ap (λ (s : SessionState R). s.options) same; rule = ap (λ (s : SessionState R). s.cpu.rule) same; before = ap (λ (s : SessionState R). s.before) same; hold = ap (λ (s : SessionState R). s.hold) same }

  -- what passing leaves
  pub passed_frame : {old mid new : SessionState R} → new ≡ record mid { replies = new.replies } → HasSameFrame old mid → HasSameFrame old new
  passed_frame same frame = record {
    options = ap (λ (s : SessionState R). s.options) same ∙ frame.options;
    rule = ap (λ (s : SessionState R). s.cpu.rule) same ∙ frame.rule;
    before = ap (λ (s : SessionState R). s.before) same ∙ frame.before;
    hold = ap (λ (s : SessionState R). s.hold) same ∙ frame.hold;
  }

  pub passed_counted : {old new : SessionState R} → new ≡ record old { replies = new.replies } → IsCounted old → IsCounted new
  passed_counted {new = new} same counted = subst (λ (s : SessionState R). IsCounted s) (sym same) (record { taken = counted.taken; steps = counted.steps })

  pub passed_adopted : {old mid new : SessionState R} → new ≡ record mid { replies = new.replies } → IsAdoptedLater old mid → IsAdoptedLater old new
  passed_adopted {old = old} {new = new} same later = subst (λ (s : SessionState R). IsAdoptedLater old s) (sym same) (record { past = later.past; most = later.most })
