-- The words and lemmas that this crate's proofs are written in: those of crates below, and its own words.
pub use Rattle.std.proofs.Common.{Bool, List, Option, Some, [], ap, append-nil, append_assoc, arith, cond, drop, eqb, false, length, refl, subst, suc, sym, take, true, ℕ, ◌&&◌, ◌++◌, ◌+◌, ◌<◌, ◌∙◌, ◌∷◌, ◌≡◌, ◌≤◌}
pub use Rattle.std.proofs.lemmas.List.Elements.{All-append, All-cons, All-head, All-nil, All-tail}
pub use Rattle.std.specs.Prelude.{All, Err, MatchBool, Ok, OnOk, Result, map, slice_get}
pub use Rattle.recovery.proofs.HeldLemmas.{can_still, still_failed, still_under, still_within, untried_on, untried_same, untried_settled}
pub use Rattle.diagnosis.specs.Terms.{AllocError, AreBetween, Chance, Env, FailedAt, Failure, IsRight, IsTableOf, IsUnder, Item, Limits, Override, Path, Send, Trial, Try, WalksOver, chances_at, environments, items_of, pieces_of, survives, survivor_in, table, try_lines, try_of}
pub use Rattle.diagnosis.specs.Diagnosis.{cured_at, cures, env_words, envs_at, envs_where, episodes_lines}
pub use Rattle.diagnosis.specs.Examined.{NotesBy, NotesTries}
