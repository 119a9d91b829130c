-- The words that this crate's definitions are written in: those of crates below, and types of its code.
pub use Rattle.rx_base.specs.declared.item.Item.{Item}
pub use Rattle.rx_base.specs.Prefix.{Prefix}
pub use Rattle.rx_base.specs.Sends.{sent_to}
pub use Rattle.links.specs.declared.journal.LinkEvent.{LinkEvent}
pub use Rattle.run_history.specs.Served.{Limits, Path, Served, origin}
pub use Rattle.session_history.specs.Account.{HasPassedAll, IsAccount, Session, journal_of}
pub use Rattle.session_history.specs.Heeding.{AreHeeded, Bounds, events_of, items_in, nothing_before}
unfoldable pub use Rattle.session_history.specs.Heeding.{heeded_behind}
pub use Rattle.session_history.specs.Lawful.{Rules}
pub use Rattle.session_history.specs.Passing.{passed_behind, passed_in}
pub use Rattle.session_history.specs.Serving.{IsSoundBefore, first_survivor}
pub use Rattle.trials.specs.Episodes.{AreRecovered, Recovery}
pub use Rattle.follow.specs.Following.{HasFollowed, heard_alone, rules_behind}
pub use Rattle.follow.specs.Handed.{Handed, HasReached, IsHandedBy, Stand}
pub use Rattle.follow.specs.Held.{count_of, held}
pub use Rattle.follow.specs.Takeover.{IsFollowed, IsTakeover, Takeover, passed_first}
