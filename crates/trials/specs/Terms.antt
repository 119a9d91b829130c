-- The words that this crate's definitions are written in: those of crates below, and types of its code.
pub use Rattle.rx_base.specs.declared.item.Item.{Item}
pub use Rattle.rx_base.specs.Prefix.{Prefix}
pub use Rattle.rx_base.specs.Sends.{Send, sent_to}
pub use Rattle.links.specs.declared.journal.Entry.{Entry}
pub use Rattle.block_book.specs.declared.choice.Choice.{Choice}
pub use Rattle.alloc_env.specs.declared.env.Env.{Env}
pub use Rattle.alloc_env.specs.declared.env.Env.TheVariants.{All, Delay, Isolate, Pad, Plain, Zero}
unfoldable pub use Rattle.reply_ledger.specs.Trials.{agree}
pub use Rattle.guest_image.specs.declared.image.Image.{Image}
pub use Rattle.run_history.specs.declared.answer.Cause.{Cause}
pub use Rattle.run_history.specs.declared.answer.Cause.TheVariants.{BadAccess, Hang}
pub use Rattle.run_history.specs.Call.{takes}
unfoldable pub use Rattle.run_history.specs.Call.{freed}
pub use Rattle.run_history.specs.Machine.{Effect, Fails, Goes, Machine, State, Wants, register}
unfoldable pub use Rattle.run_history.specs.Machine.{start, start_machine}
pub use Rattle.run_history.specs.Run.{after, output}
unfoldable pub use Rattle.run_history.specs.Run.{does}
pub use Rattle.run_history.specs.Served.{Allocate, AsksFor, FailsBy, Free, Grant, Guest, Limits, Nothing, Override, Path, Request, Served, does_with, env_at, granted, guest_of, is_refused, longer, origin, planned_next, request_of, serve, site_of}
unfoldable pub use Rattle.run_history.specs.Served.{grant, served_next, serves}
unfoldable pub use Rattle.run_history.specs.Touching.{instruction_at, touched}
pub use Rattle.session_history.specs.Account.{IsAccount, Session, after_ending, journal_of}
pub use Rattle.session_history.specs.Giving.{AreGiven}
pub use Rattle.session_history.specs.Heeding.{Bounds, items_in, received}
pub use Rattle.session_history.specs.Lawful.{AreDue, AreLawful, Chapter, IsDue, IsDueAt, IsDueEvent, IsDuePiece, IsPrompt, LeavesNothing, Rules, Survivor, entries_of, from_there, gone_on, place_of}
pub use Rattle.session_history.specs.Owing.{Latest, Place, Stands, latest, moment_at}
pub use Rattle.session_history.specs.Passing.{Agrees, AreBetween, Covers, CoversBefore, IsFeasible, passed_in, until}
pub use Rattle.session_history.specs.Serving.{IsSoundBefore, Serving, first_survivor, moment_of}
pub use Rattle.session_notes.specs.declared.episode.Tried.{Tried}
pub use Rattle.session_notes.specs.Survival.{survives}
