use Rattle.msg_frame.proofs.Terms.{length, ◌++◌, ◌≡◌, behind, cut, IsRest, left_of}
use Rattle.msg_frame.proofs.framer.take_messages.Given as goal

abbrev pub invariant-messages : goal.invariant-messages
invariant-messages l = record {
  is_rest : IsRest l.framing l.rest;
  left : left_of l.messages.items l.old l.bytes ≡ l.rest ++ l.bytes;
  so_far : cut l.framing l.old l.piece ≡ behind l.messages.items (cut l.framing l.rest l.bytes);
}

abbrev pub decreases-messages : goal.decreases-messages
decreases-messages l = length l.bytes
