-- The lemmas that the proofs of this crate's functions cite.
pub use Rattle.reply_ledger.proofs.RunLemmas.{length-bytes_of, longer_run, one_run_more, stamps_past, stamps_rise, until-passed_of, until_reach}
pub use Rattle.reply_ledger.proofs.AgreeLemmas.{agree-placed, agree-turn}
pub use Rattle.reply_ledger.proofs.AccountLemmas.{account_at-restarted, all-kept, keys-push, keys-restarted, none_kept, of_opened, of_written, restarted-more}
pub use Rattle.reply_ledger.proofs.ConnectionLemmas.{opened-known, stamped_to-of, unknown-of}
pub use Rattle.reply_ledger.proofs.PositionLemmas.{find-at, find-none}
pub use Rattle.reply_ledger.proofs.EntryLemmas.{behind_front, ending-more, ending-none, given-fits, given-known, given-more, given-none, length-sends_of, one_more, sends_of-drop, sends_of-take}
pub use Rattle.reply_ledger.proofs.StandsLemmas.{agree-front, agrees-sent, appended, begun-agrees, compared-with, covers-says, holds-adopted, holds-none, holds-opened, holds-passed, holds-recounted, holds-room, holds-sent, holds-tried, holds-trimmed, lawful, marked-holds, next-past, passed-length, passed-stamps, rest-of, rests, rests-before, rests-bytes, rests-part, seen-adopted, seen-recounted, seen-trimmed, sent-ends, sent-shown, settled-is, shared-none, trial-same, trial-sent, until-front, written-is}
