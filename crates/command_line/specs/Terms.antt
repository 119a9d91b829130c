-- The words that this crate's definitions are written in: those of crates below, and types of its code.
pub use Rattle.std.specs.declared.alloc.Global.{Global}
pub use Rattle.std.specs.Char.{digit_value, is_ascii_digit}
pub use Rattle.std.specs.List.{before_first, filter, find, list_all, list_any, slice_index_or}
pub use Rattle.std.specs.Option.{option_map, option_map_or, option_or}
pub use Rattle.std.specs.Str.{bytes_eq}
pub use Rattle.std.specs.Str.Parse.{AllDigits, IsNumeral, ParsesUnsigned, digits_value, without_leading_plus}
pub use Rattle.clap.specs.declared.parser.matches.ArgMatches.{ArgMatches}
pub use Rattle.clap.specs.declared.parser.matches.ValueSource.TheVariants.{CommandLine, DefaultValue}
pub use Rattle.clap.specs.Lexer.{has_byte, long_of_rest, short_of, usize_max}
pub use Rattle.clap.specs.Matches.{first_value, found_of}
pub use Rattle.clap.specs.Simple.{Shape, argument_words, built, label_of, names_of, new_app}
pub use Rattle.clap.specs.Takes.{built_takes, default_passes, is_valid, level_passes, settle_passes, turn_passes}
unfoldable pub use Rattle.clap.specs.Takes.{walk_passes}
pub use Rattle.clap.specs.Walk.{Held, Row, Rule, Text, Walk, arg_by_id, arg_by_index, arg_by_long, at_row, finished, first_of, has_long, has_row, idle, more_values, nothing_held, reading_by, rows_after, rows_of, settled_rows, walk, with_default}
unfoldable pub use Rattle.clap.specs.Walk.{walked}
pub use Rattle.clap.specs.Words.{App, app_of, is_simple, matches_of, new_rule, rule_of, takes, with_rule}
pub use Rattle.msg_frame.specs.declared.framing.Framing.{Framing}
