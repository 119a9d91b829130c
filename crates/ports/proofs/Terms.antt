-- The words and lemmas that this crate's proofs are written in: those of crates below, and its own words.
pub use Rattle.std.proofs.Common.{Bool, List, None, Ok, Option, Some, [], ap, arith, cond, drop, false, if◌then◌else◌, length, nat_lt, not, refl, rules, subst, suc, sym, take, true, zero, ℕ, ◌++◌, ◌+◌, ◌<◌, ◌∙◌, ◌∷◌, ◌≡◌, ◌≢◌, ◌≤◌}
pub use Rattle.std.proofs.lemmas.List.{drop-drop, get_or-map, get_or-set_other, get_or-set_same, length-drop, length-map, length-set, map-set, nil_from_length, take-append-drop}
pub use Rattle.std.specs.Prelude.{min, position, slice_index_or, slice_set, unwrap_or}
pub use Rattle.ports.specs.Terms.{Accepts, Awaited, IoFault, Reads, Ready, Stops, Stream, Takes, fresh, into_iter_items, piece_len}
pub use Rattle.ports.specs.declared.input.Input.{Input}
pub use Rattle.ports.specs.Connections.{IsReady, is_open, open_count}
pub use Rattle.ports.specs.PortPlans.{is_to_fail}
pub use Rattle.ports.specs.Inputs.{input_stream, streams_of}
pub use Rattle.ports.specs.Scripts.{first_open, first_ready, is_ready, next_ready}
pub use Rattle.ports.specs.ConnectionLaws.{open_fewer, open_more, open_within}
