use Rattle.rx_engine.proofs.Terms.{List, ap, length, min, subst, sym, ℕ, ◌∙◌, ◌≡◌, Send, oldest_of, IsOpened, Ledger, NotBefore, is_open, stamped_to, stamps_of, times_of, keeping_of, SessionState, later_following, opened_following, stamped_following, memory_run, sends_on, before_sent, held_count, with_held}
use Rattle.rx_engine.proofs.StepKeeping.{first_failed, first_held, open_failed, open_held}
use Rattle.session_following.proofs.Held.{held_is_least}
use Rattle.rx_engine.proofs.session.Session.follow_send.Goals as goal

pub note_held-requires-clause-later : goal.note_held-requires-clause-later
note_held-requires-clause-later g c =
    let h = c.requires.1.is in
    subst (λ (s : SessionState _). NotBefore s.taken (times_of s.replies.kept)) (sym (c.self.view_is ∙ h.same))
    (subst (λ (n : ℕ). NotBefore n (times_of h.was.replies.kept)) (sym h.stood.follows.stands.answers.taken) (later_following h.stood.follows))

pub note_held-requires-clause-stamped : goal.note_held-requires-clause-stamped
note_held-requires-clause-stamped g c =
    let h = c.requires.1.is in
    subst (λ (s : SessionState _). NotBefore s.taken (stamps_of (stamped_to s.replies.connections c.args.conn))) (sym (c.self.view_is ∙ h.same))
    (subst (λ (n : ℕ). NotBefore n (stamps_of (stamped_to h.was.replies.connections c.args.conn))) (sym h.stood.follows.stands.answers.taken) (stamped_following h.stood.follows c.args.conn))

pub returns-in-Err-clause-turns : goal.returns-in-Err-clause-turns
returns-in-Err-clause-turns g c taken image handed before seen noted_before noted h =
    memory_run g.R.AccessRule.rule h.stood.alone h (ap (λ (s : SessionState _). s.recorded) c.self.view_is) (ap (λ (s : SessionState _). s.choices) c.self.view_is) (ap (λ (s : SessionState _). s.taken) c.self.view_is) (ap (λ (s : SessionState _). s.steps) c.self.view_is)

pub returns-clause-turns : goal.returns-clause-turns
returns-clause-turns g c taken image handed before seen noted_before noted h =
    let here = c.count_run.ensures in
    let to = here ∙ (λ i. record (c.self.view_is i) { replies = c.note_held.new.replies; taken = c.self.inside.held.cpu.slots.live.guest.machine.taken; steps = c.self.inside.held.cpu.slots.live.steps; before = c.of-sent.result.before }) in
    let same = to ∙ (λ i. record c.args.self.now { replies = (sym to i).replies; choices = (sym to i).choices; taken = (sym to i).taken; steps = (sym to i).steps; before = (sym to i).before; hold = (sym to i).hold }) in
    let items : c.self.inside.taken ≡ h.stood.now.state.machine.taken = ap (λ (s : SessionState _). s.taken) c.self.view_is ∙ (ap (λ (s : SessionState _). s.taken) h.same ∙ h.stood.follows.stands.answers.taken) in
    let send : Send = record { conn = c.args.conn; bytes = c.args.bytes; taken = h.stood.now.state.machine.taken } in
    let count : min c.left-left.result (length c.args.bytes) ≡ held_count handed.counts h.stood.now.state.sends send =
    ap (λ (n : ℕ). min n (length c.args.bytes)) (c.left-left.ensures ∙ h.stood.missing_are c.args.conn) ∙ sym (held_is_least handed.counts h.stood.now.state.sends send) in
    let comes = h.runs.ran.comes in
    sends_on g.R.AccessRule.rule h.stood.alone h same (ap (λ (s : SessionState _). s.hold) to) (ap (λ (s : SessionState _). s.choices) to)
    (record { taken = ap (λ (s : SessionState _). s.taken) here ∙ sym (ap (λ (s : SessionState _). s.cpu.slots.live.guest.machine.taken) here); steps = ap (λ (s : SessionState _). s.steps) here ∙ sym (ap (λ (s : SessionState _). s.cpu.slots.live.steps) here) })
    (ap (λ (s : SessionState _). s.replies) here ∙ (c.in_default.ensures.ok ∙ (λ i. with_held (c.self.view_is i).replies (record { conn = c.args.conn; bytes = c.args.bytes; taken = items i }) (count i))))
    (ap (λ (s : SessionState _). s.before) here ∙ (c.of-sent.ensures ∙ (λ i. before_sent (c.self.view_is i).before (c.self.view_is i).cpu.slots.live (record { conn = c.args.conn; bytes = c.args.bytes; taken = items i }) ((c.min.ensures ∙ (ap (λ (all : List ℕ). min c.left-left.result (length all)) c.as_slice.ensures ∙ count)) i))))
    comes.0 comes.1 comes.5 (subst (λ (l : Ledger). IsOpened l c.args.conn) (sym (ap (λ (s : SessionState _). s.replies) h.same)) (opened_following c.args.conn h.stood.follows comes.2))
    (record { some = comes.3; few = comes.4 }) (c.sent.ensures handed.counts h.stood.now.state.sends send (λ i. c.args.conn) (sym (ap (λ (all : List ℕ). length all) c.as_slice.ensures)) h.stood.missing_are)

pub returns-in-Err-clause-keeps : goal.returns-in-Err-clause-keeps
returns-in-Err-clause-keeps g c = let send : Send = record { conn = c.args.conn; bytes = c.args.bytes; taken = c.self.inside.taken } in (
  record {
    oldest = ap (λ (s : SessionState _). oldest_of s.cpu.slots.saved) c.self.view_is;
    first = ap (λ (s : SessionState _). s.log.first) c.self.view_is;
    recorded = ap (λ (s : SessionState _). s.recorded) c.self.view_is;
    sends = first_failed send c.in-Err.ensures.err ∙ ap (λ (s : SessionState _). s.replies.first) c.self.view_is;
    keeping = ap (λ (s : SessionState _). keeping_of s) c.self.view_is;
  },
  ap (λ (s : SessionState _). s.options) c.self.view_is,
  ap (λ (s : SessionState _). s.cpu) c.self.view_is,
  λ conn. open_failed send c.in-Err.ensures.err conn ∙ ap (λ (s : SessionState _). is_open s.replies.connections conn) c.self.view_is,
)

pub returns-clause-keeps : goal.returns-clause-keeps
returns-clause-keeps g c =
    let here = c.count_run.ensures in
    let send : Send = record { conn = c.args.conn; bytes = c.args.bytes; taken = c.self.inside.taken } in
    let count = min c.left-left.result (length c.args.bytes) in (
      record {
        oldest = ap (λ (s : SessionState _). oldest_of s.cpu.slots.saved) here ∙ ap (λ (s : SessionState _). oldest_of s.cpu.slots.saved) c.self.view_is;
        first = ap (λ (s : SessionState _). s.log.first) here ∙ ap (λ (s : SessionState _). s.log.first) c.self.view_is;
        recorded = ap (λ (s : SessionState _). s.recorded) here ∙ ap (λ (s : SessionState _). s.recorded) c.self.view_is;
        sends = ap (λ (s : SessionState _). s.replies.first) here ∙ (ap (λ (l : Ledger). l.first) c.in_default.ensures.ok ∙ (first_held c.self.inside.held.replies send count ∙ ap (λ (s : SessionState _). s.replies.first) c.self.view_is));
        keeping = ap (λ (s : SessionState _). keeping_of s) here ∙ ap (λ (s : SessionState _). keeping_of s) c.self.view_is;
      },
      ap (λ (s : SessionState _). s.options) here ∙ ap (λ (s : SessionState _). s.options) c.self.view_is,
      ap (λ (s : SessionState _). s.cpu) here ∙ ap (λ (s : SessionState _). s.cpu) c.self.view_is,
      λ conn. ap (λ (s : SessionState _). is_open s.replies.connections conn) here ∙ (ap (λ (l : Ledger). is_open l.connections conn) c.in_default.ensures.ok ∙ (open_held c.self.inside.held.replies send count conn ∙ ap (λ (s : SessionState _). is_open s.replies.connections conn) c.self.view_is)),
    )
