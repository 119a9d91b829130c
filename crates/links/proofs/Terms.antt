-- The words and lemmas that this crate's proofs are written in: those of crates below, and its own words.
pub use Rattle.std.proofs.Common.{Bool, Err, List, None, Ok, Option, Result, Some, [], ap, append-nil, append_assoc, arith, drop, false, if◌then◌else◌, inl, inr, length, min, nat_lt, refl, replicate, rules, slice_index_or, subst, sym, true, ℕ, ◌++◌, ◌==◌, ◌∙◌, ◌∷◌, ◌≡◌, ◌≤◌}
pub use Rattle.std.proofs.lemmas.Bool.{cases_lt}
pub use Rattle.std.specs.Prelude.{flat_map}
pub use Rattle.links.specs.Terms.{All, Entry, Given, Gone, LinkEvent, LinkFault, Memory, ReadFault, Refused, WriteFault, fails_next}
pub use Rattle.links.specs.Links.{Gives, Grew, Nexts, Tells, Told, Unopened, events_in, pieces_in}
pub use Rattle.links.specs.ConnectionTables.{phase_of}
pub use Rattle.links.specs.LinkForms.{told_by}
pub use Rattle.links.specs.MemoryLinks.{AnswersAs, Script, after_giving, after_taking, given_of, gone_at, link_script, planned_give}
