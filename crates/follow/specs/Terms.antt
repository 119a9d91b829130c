-- The words that this crate's definitions are written in: those of crates below, and types of its code.
pub use Rattle.std.specs.List.{last_or}
pub use Rattle.std.specs.Option.{option_map_or}
pub use Rattle.rx_base.specs.declared.item.Item.{Item}
pub use Rattle.rx_base.specs.Prefix.{Prefix}
pub use Rattle.rx_base.specs.Sends.{Send, sent_to}
pub use Rattle.links.specs.declared.journal.Entry.{Entry}
pub use Rattle.links.specs.declared.journal.LinkEvent.{LinkEvent}
pub use Rattle.links.specs.Links.{events_in}
pub use Rattle.block_book.specs.declared.choice.Choice.{Choice}
pub use Rattle.block_book.specs.Heap.{Heap}
pub use Rattle.alloc_env.specs.declared.env.Env.{Env}
pub use Rattle.guest_image.specs.declared.image.Image.{Image}
pub use Rattle.run_history.specs.declared.answer.Cause.{Cause}
pub use Rattle.run_history.specs.declared.answer.Cause.TheVariants.{BadAccess, Hang}
pub use Rattle.run_history.specs.Machine.{Effect, Fails, State, Wants}
pub use Rattle.run_history.specs.Run.{after, output}
unfoldable pub use Rattle.run_history.specs.Run.{does}
pub use Rattle.run_history.specs.Served.{AsksFor, FailsBy, Guest, Limits, Override, Path, Served, does_with, env_at, guest_of, is_refused, listed, longer, origin, planned_next}
unfoldable pub use Rattle.run_history.specs.Served.{grant, served_next, serves}
pub use Rattle.session_history.specs.Account.{IsAccount, Session, journal_of}
pub use Rattle.session_history.specs.Heeding.{AreHeeded, events_of, items_in, nothing_before, received}
pub use Rattle.session_history.specs.Lawful.{Chapter, Rules, Survivor, place_of}
pub use Rattle.session_history.specs.Passing.{AreBetween, AreInOrder, Covers, IsFeasible, passed_in, until}
pub use Rattle.session_history.specs.Serving.{IsSoundBefore, first_survivor, starting_path}
pub use Rattle.session_notes.specs.declared.episode.Episode.{Episode}
pub use Rattle.session_notes.specs.declared.episode.Try.{Try}
pub use Rattle.session_notes.specs.Survival.{survives}
pub use Rattle.trials.specs.Episodes.{AreRecovered, BeginsAs, IsRecovery, Recovery, adopted_by, episode_of, point_of}
pub use Rattle.trials.specs.Tables.{Trial, survivor_in, try_of}
pub use Rattle.trials.specs.Trials.{ComesTo, plan_of_trial}
