-- The lemmas that the proofs of this crate's functions cite.
pub use Rattle.rx_serve.proofs.SettingsLemmas.{at_once_few, budget_few, conns_few, options_in_range, port_few, window_few, window_is}
pub use Rattle.rx_serve.proofs.NotingLemmas.{closes_other, closes_same, kept_at, not_read, not_write, served_at, watched_at, watches_kept, watches_noted}
pub use Rattle.rx_serve.proofs.CallingLemmas.{adds_of, asm_refused, asm_written, convert_broken, convert_none, convert_written, replay_both, replay_none, replay_one, run_all, run_none, run_part, run_served, write_fails}
pub use Rattle.rx_serve.proofs.RunLemmas.{begun_own, counts_fit, has_begun, no_memory, no_more, not_begun, not_loaded, not_risen, not_started, ready, rose_within, run_ends, unwatched}
pub use Rattle.rx_serve.proofs.DiagnosingLemmas.{diagnosed, diagnosis_other, diagnosis_part, kept_is, some_kept, start_faults, watched_length}
pub use Rattle.rx_serve.proofs.ResumeLemmas.{faults_as, has_resumed, has_stopped, may_be_handed, notes_later, resumed_faults, resumed_fits, resumes_at, resumes_noted, served_behind}
pub use Rattle.rx_serve.proofs.RecordLemmas.{line_few}
pub use Rattle.rx_serve.proofs.ReplayLemmas.{has_recording, no_file_fault, no_read_cause, no_write_cause}
pub use Rattle.rx_serve.proofs.ConvertLemmas.{as_replay, leaves_text, not_file_fault, not_read_of_writes, not_write_of_writes}
pub use Rattle.rx_serve.proofs.StandbyFileLemmas.{answers_few, called_none, called_one, called_two, no_counts, no_record, same_loads}
pub use Rattle.rx_serve.proofs.ResumeFileLemmas.{four_called_none, four_called_one, four_called_three, four_called_two, four_no_counts, four_no_record, four_no_report, no_adopted, report_line_few, unfinished_line_few}
pub use Rattle.rx_serve.proofs.StandbyLemmas.{broken_faults, broken_off, closed_text, closes_as, faults_at, first_short, none_short, served_faults, served_no_file, serves_as, takes_at, unstarted_faults, wider_faults}
pub use Rattle.rx_serve.proofs.CommandLemmas.{records_are_converted, records_are_replayed, second_version_stays}
pub use Rattle.rx_serve.proofs.SessionLaws.{all_sends_are_written, good_input_is_taken}
pub use Rattle.rx_serve.proofs.ServeLaws.{all_sends_are_given, good_clients_are_served, no_serve_is_refused}
