use Rattle.reply_ledger.proofs.Lemmas.{holds-none}
use Rattle.reply_ledger.proofs.replies.Replies.make.Goals as goal

pub invariant_of-result : goal.invariant_of-result
invariant_of-result c = rw (c.new-3.ensures.empty, c.new.ensures.items, c.new-2.ensures.items) (holds-none _)
