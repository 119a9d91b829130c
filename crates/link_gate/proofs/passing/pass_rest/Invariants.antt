use Rattle.link_gate.proofs.Terms.{List, true, ℕ, ◌≡◌, Send, IsOpened, is_open, IsClosing, received, Rules, Moment, journal, AreStampedBy, HasSameSends}
use Rattle.link_gate.proofs.GoingLemmas.{Going}
use Rattle.link_gate.proofs.NotingLemmas.{HasGiven, left}
use Rattle.link_gate.proofs.passing.pass_rest.Given as goal

-- all that was given so far was due, and the ledger is as far
abbrev pub invariant-pieces : goal.invariant-pieces
invariant-pieces g l = record {
  going : (rules : Rules) (sends : List Send) (moment : Moment) → received rules.bounds (journal moment) ≡ l.stamp → IsClosing rules sends moment l.conn l.fn.replies
      → Going rules sends moment (λ here. IsClosing rules sends here l.conn l.replies) (g.K.Link.seen l.fn.link).told (g.K.Link.seen l.link).told;
  sends : HasSameSends l.fn.replies l.replies;
  stamped : AreStampedBy l.stamp l.replies;
  opened : IsOpened l.replies l.conn;
  connected : (other : ℕ) → is_open l.replies.connections other ≡ true → (g.K.Link.seen l.link).gives_to other ≡ true;
  given : HasGiven (g.K.Link.seen l.fn.link) (g.K.Link.seen l.link);
  went : g.K.Link.Went l.fn.link l.link;
}

abbrev pub decreases-pieces : goal.decreases-pieces
decreases-pieces g l = left l.replies
