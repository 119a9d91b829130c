use Rattle.rx_engine.proofs.Terms.{[], ap, rules, subst, sym, ◌∙◌, ◌∷◌, ◌≡◌, Slots, Log, Ledger, origin, Standing, alone, keeping_by, KeepsRing, taken_in, starts_at, starts_none, keeping_of, SessionState}
use Rattle.rx_engine.proofs.HeldLemmas.{ring_as}
use Rattle.rx_engine.proofs.session.Session.save_start.Goals as goal

pub returns-clause-rings : goal.returns-clause-rings
returns-clause-rings g c any image begun =
    subst (λ (s : SessionState _). KeepsRing any image [] [] (origin image) (origin image ∷ []) c.save_start.new.self.cpu s.log s.replies) c.self.view_is
    (ring_as c.save_start.ensures.kept
    (c.save_start.ensures.keeps any image
    (record {
      live = ap (λ (s : SessionState _). s.cpu.slots.live) c.self.view_is ∙ starts_at begun;
      window = ap (λ (s : SessionState _). s.cpu.base) c.self.view_is ∙ begun.cpu.base_is;
      items = ap (λ (s : SessionState _). s.log.first) c.self.view_is ∙ ap (λ (log : Log). log.first) begun.log;
      sends = ap (λ (s : SessionState _). s.replies.first) c.self.view_is ∙ ap (λ (ledger : Ledger). ledger.first) begun.replies;
    })))

pub returns-clause-first : goal.returns-clause-first
returns-clause-first g c =
    let none : taken_in c.self.inside.held.cpu.slots.live ≡ 0 = ap (λ (s : SessionState _). taken_in s.cpu.slots.live) c.self.view_is ∙ starts_none c.requires.begun in
    c.save_start.ensures.first ∙ (ap (λ n. alone n c.self.inside.held.cpu.slots.pages) none ∙ ap (λ (slots : Slots Standing). alone 0 slots.pages) (sym c.save_start.ensures.saved))

pub returns-clause-keeps : goal.returns-clause-keeps
returns-clause-keeps g c = record {
  same = search rules;
  live = search rules;
  rule = search rules;
  keeping = ap (keeping_by c.self.inside.options.every) c.save_start.ensures.saved ∙ ap (λ (s : SessionState _). keeping_of s) c.self.view_is;
}
