-- The words that this crate's definitions are written in: those of crates below, and types of its code.
pub use Rattle.std.specs.Fmt.{decimal}
unfoldable pub use Rattle.std.specs.Fmt.{digits}
pub use Rattle.serde_json.specs.View.{items_of, view}
pub use Rattle.serde_json.specs.Written.{compact_text, has_float, items_have_float}
pub use Rattle.session_notes.specs.declared.episode.Episode.{Episode}
pub use Rattle.session_notes.specs.declared.episode.Try.{Try}
unfoldable pub use Rattle.session_notes.specs.Lines.{failure_text, try_text}
pub use Rattle.session_notes.specs.Words.{cause_text, env_word, tried_text}
unfoldable pub use Rattle.session_notes.specs.Words.{eight_digits}
pub use Rattle.run_report.specs.declared.form.Form.TheVariants.{Json, Text}
