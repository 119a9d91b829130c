-- The words that this crate's definitions are written in: those of crates below, and types of its code.
pub use Rattle.std.specs.declared.alloc.AllocError.{AllocError}
pub use Rattle.rx_base.specs.declared.item.Item.{Item}
pub use Rattle.rx_base.specs.Sends.{Send}
pub use Rattle.alloc_env.specs.declared.env.Env.{Env}
pub use Rattle.run_history.specs.Served.{Limits, Override, Path}
pub use Rattle.session_history.specs.Passing.{AreBetween}
pub use Rattle.session_notes.specs.declared.episode.Try.{Try}
pub use Rattle.session_notes.specs.Survival.{survives}
pub use Rattle.trials.specs.Tables.{Chance, IsRight, Trial, WalksOver, chances_at, environments, survivor_in, table, try_of}
pub use Rattle.recovery.specs.Sessions.{FailedAt, Failure, IsUnder, items_of, pieces_of}
pub use Rattle.recovery.specs.Watching.{IsTableOf, IsWholeTable}
pub use Rattle.run_report.specs.TextLines.{try_lines}
