use Rattle.msg_frame.proofs.Terms.{List, length, ℕ, ◌+◌, ◌≡◌, ◌≤◌, behind, cut, IsRest}
use Rattle.msg_frame.proofs.framer.Framer.completes.Given as goal

-- the messages so far
abbrev pub invariant-messages : goal.invariant-messages
invariant-messages l = record {
  found : List (List ℕ);
  number : length found ≡ l.count;
  room : l.count + length l.bytes ≤ length l.piece;
  is_rest : IsRest l.self-inside.framing l.rest;
  so_far : cut l.fn.self.framing l.fn.self.rest l.piece ≡ behind found (cut l.self-inside.framing l.rest l.bytes);
}

abbrev pub decreases-messages : goal.decreases-messages
decreases-messages l = length l.bytes
