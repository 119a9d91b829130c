use Rattle.reply_ledger.proofs.Lemmas.{lawful}
use Rattle.reply_ledger.proofs.replies.Replies.sound.Goals as goal

pub returns : goal.returns
returns c = record { lawful = lawful c.self.inside.accounts.entries c.self.invariant c.self.view_is }
