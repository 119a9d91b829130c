-- The words and lemmas that this crate's proofs are written in: those of crates below, and its own words.
pub use Rattle.std.proofs.Common.{Bool, Err, List, None, Ok, OnOk, Option, Result, Some, [], add-one, ap, append-nil, append_assoc, arith, cond, drop, false, if◌then◌else◌, inl, inr, length, nat_lt, not, refl, rules, subst, suc, sym, take, true, unwrap_or, zero, ℕ, ◌&&◌, ◌||◌, ◌++◌, ◌+◌, ◌-◌, ◌<◌, ◌==◌, ◌∙◌, ◌∷◌, ◌≡◌, ◌≢◌, ◌≤◌, ◌⊎◌}
pub use Rattle.std.proofs.Math.Path.{fun_ext}
pub use Rattle.std.proofs.lemmas.Bool.{and_parts, and_right, cases_lt, eq-eqb, or_cases, or_left, or_right, eqb-false, eqb-true, le-ltb, lt-ltb, ltb-true, ne_eqb}
pub use Rattle.std.proofs.lemmas.List.{get_or-replicate, get_or-set_other, get_or-set_same, get_or_append_left, get_or_past, get_or_push, length-append, length-drop, length-replicate, length-set, length-take-le, nil_from_length, set-get_or, take-append-drop, take_all}
pub use Rattle.std.proofs.lemmas.Option.{none-some, same_Some}
pub use Rattle.std.specs.Prelude.{IfErr, IsErrOf, replicate, slice_index_or, slice_set, ◌^◌}
pub use Rattle.links.proofs.Journaled.{tells_more}
pub use Rattle.port_link.specs.Terms.{Accepts, All, Awaited, ComesUntold, Counts, Enters, Entry, Given, Gives, GoesBy, Gone, Handed, HasCause, HasEnded, HasGiveCause, IoFault, IsGone, IsReady, LinkEvent, LinkFault, Logs, Memory, Phases, PortAccepts, PortEntry, PortWaits, Prefix, ReadFault, Reads, Ready, Refused, Rose, Seen, Stops, Tells, TellsHanded, Told, WriteFault, cut_entries, is_open, last_taken, one_more, open_count, open_fewer, open_more, open_within, told_by, without}
pub use Rattle.port_link.specs.declared.place.Closing.{Closing}
pub use Rattle.port_link.specs.declared.place.Place.{Place}
pub use Rattle.port_link.specs.declared.place.PortLimits.{PortLimits}
pub use Rattle.port_link.specs.declared.place.Stage.{Stage}
pub use Rattle.port_link.specs.declared.place.Stage.TheVariants.{Broken, Closed, Dropped, Ended, Open, Unopened}
pub use Rattle.port_link.specs.Stages.{broken, first_broken, gones_behind, is_broken, is_done, is_given, is_present, phase_of, shown, stage_behind}
pub use Rattle.port_link.specs.StageTables.{stage_in}
pub use Rattle.port_link.specs.Served.{GoesOn, IsCall, IsOver, Served, StopsAwaited, awaited_of, can_accept, closed_entries, closes, entries_of, fresh_served, gives_all, gives_gone, gives_part, is_closable, is_stop, opens, takes_bytes, with_part, with_ready, with_stage, without_ready}
unfoldable pub use Rattle.port_link.specs.Served.{AreCalls, after_call, served_after, served_of}
pub use Rattle.port_link.specs.Standing.{Agrees, IsAt, IsClosing, IsJustBound, IsWhole, NoOther, Stands, WasReady, gives_at, phases_at, stage_at, with_ends}
unfoldable pub use Rattle.port_link.specs.Standing.{link_journal, told_at}
pub use Rattle.port_link.specs.Steps.{AnswersEnd, HasOpenCause, IsTake, NextAt, Settles, TakesNext, TakesPiece, WaitsAt, WentOn, closed_place, dropped_place, ended_place, opened_place, read_fault_of, settled_place, taken, waited_place}
pub use Rattle.port_link.specs.Gives.{GivesPiece, GivesTo, Leads, given_place}
pub use Rattle.port_link.specs.PortLinks.{told_nothing}
pub use Rattle.port_link.specs.CallLaws.{are_calls-append, calls_on, calls_same, served_after-append, served_of-append}
