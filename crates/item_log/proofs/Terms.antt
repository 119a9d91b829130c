-- The words and lemmas that this crate's proofs are written in: those of crates below, and its own words.
pub use Rattle.std.proofs.Common.{Err, List, None, Ok, Option, Result, Some, Vec, [], ap, append_assoc, arith, drop, get_or, if◌then◌else◌, inl, inr, length, length-append, map, max, option_map, refl, replicate, rules, set, subst, suc, sym, take, true, zero, zero-add, ℕ, ◌++◌, ◌+◌, ◌-◌, ◌<◌, ◌∙◌, ◌∷◌, ◌≡◌, ◌≤◌}
pub use Rattle.std.proofs.lemmas.Bool.{cases_lt, cond-true, cond_both}
pub use Rattle.std.proofs.lemmas.List.{append-nil, drop-append-le, drop-drop, get_or-drop, get_or-map, get_or-replicate, get_or-set_other, get_or-set_same, get_or_past, length-drop, length-map, length-replicate, length-set, length-take, map-set, set-get_or, set_past, take-append-le, take_more, with_items_is}
pub use Rattle.std.proofs.lemmas.Option.{gets, same_Some, slice_get-get_or}
pub use Rattle.std.specs.Prelude.{All, OnOk, ◌==◌, ◌≢◌}
pub use Rattle.msg_frame.specs.declared.framing.FrameRefusal.TheVariants.{Memory, TooLong}
pub use Rattle.item_log.specs.Terms.{CONNECTIONS, Closes, Ends, Feeds, FrameRefusal, Framing, Global, Item, ItemRefusal, LinkEvent, MESSAGE, OPENED, Opens, Parts, Piece, Settles, Unfinished, is_some, option_map_or, unwrap_or}
unfoldable pub use Rattle.item_log.specs.Terms.{cut}
pub use Rattle.item_log.specs.Connections.{in_order, is_open, rest_of}
unfoldable pub use Rattle.item_log.specs.Connections.{none_open}
pub use Rattle.item_log.specs.Heard.{Heard, behind_items, brought, first_items, hear, hear_parts, heard, items_by, items_of, message_item, then_hear}
unfoldable pub use Rattle.item_log.specs.Heard.{heard_from, items_from}
pub use Rattle.item_log.specs.Watched.{AreFramers, Watched, rest_in, rests_of}
pub use Rattle.item_log.specs.Counting.{count_then, counted_one, number_at}
unfoldable pub use Rattle.item_log.specs.Counting.{counted, none_counted}
pub use Rattle.item_log.specs.Log.{IsItemOf, IsNumberOf, Log, Logs, Shows, ShowsMore, ShowsStill, item_at, number_in_connection, received, trimmed, with_heard}
pub use Rattle.item_log.specs.Laws.{HeardItems, LogsShow, OneMoreEvent, RefusedGiveNone, ShownItems}
