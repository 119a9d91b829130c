-- The words that this crate's definitions are written in: those of crates below, and types of its code.
pub use Rattle.std.specs.Coded.{Coded, Coded-set, Unit-prop, code_by, coded_list, coded_option, coded_ℕ, coded×, coded⊎}
pub use Rattle.rx_base.specs.declared.fault.IoFault.{IoFault}
pub use Rattle.rx_base.specs.declared.fault.IoFault.TheVariants.{Failed, Memory}
pub use Rattle.rx_io.specs.declared.file_calls.FileCall.{FileCall}
pub use Rattle.rx_io.specs.declared.file_calls.FileCall.TheVariants.{Added, Loaded, Started}
pub use Rattle.rx_io.specs.Calling.{Calls, calls_of}
pub use Rattle.rx_io.specs.Named.{Adds, AddsFront, Contents, Holds, Starts}
pub use Rattle.block_book.specs.declared.choice.Choice.{Choice}
pub use Rattle.session_notes.specs.declared.episode.Episode.{Episode}
pub use Rattle.session_notes.specs.Noting.{NoneFailed, OneEpisode, Shown, SomeChoices, Unnoted}
pub use Rattle.run_report.specs.declared.form.Form.{Form}
pub use Rattle.run_report.specs.Report.{end_text, episode_text, head_text}
pub use Rattle.schedule_file.specs.Lines.{choice_line, choice_lines}
pub use Rattle.schedule_file.specs.Telling.{is_ask}
