-- The definitions at values that were written by hand from the report's format.
use Rattle.std.proofs.Common.{◌≡◌, [], codes, refl}
use Rattle.std.specs.Fmt.{digits}
use Rattle.alloc_env.specs.declared.env.Env.TheVariants.{Delay, All}
use Rattle.run_history.specs.declared.answer.Cause.TheVariants.{AssertFailed, BadFree}
use Rattle.session_notes.specs.declared.episode.Tried.TheVariants.{Exits, Failed, Behind}
use Rattle.session_notes.specs.declared.episode.Try.{Try}
use Rattle.session_notes.specs.declared.episode.Episode.{Episode}
use Rattle.session_notes.specs.Words.{tried_text, eight_digits}
use Rattle.session_notes.specs.Lines.{failure_text, try_text}

digits_of_an_address : eight_digits 0xdeadbeef ≡ codes "deadbeef"
unfolding eight_digits
digits_of_an_address = refl

digits_of_a_low_address : eight_digits 0x1004c ≡ codes "0001004c"
unfolding eight_digits
digits_of_a_low_address = refl

abbrev freed : Episode
freed = record { point = 12; cause = AssertFailed 6; pc = 0x101fc; tries = [] }

failure_of_an_assertion : failure_text 3 freed ≡ codes "failure 3 point 12 cause AssertFailed 6 at 000101fc\n"
unfolding failure_text eight_digits digits
failure_of_an_assertion = refl

abbrev delayed : Try
delayed = record { checkpoint = 10; env = Delay; tried = Failed BadFree }

try_that_fails : try_text 0 delayed ≡ codes "try 0 checkpoint 10 env delay result BadFree\n"
unfolding try_text digits
try_that_fails = refl

abbrev ended : Try
ended = record { checkpoint = 0; env = All; tried = Exits 4 }

try_that_survives : try_text 9 ended ≡ codes "try 9 checkpoint 0 env all result survived\n"
unfolding try_text digits
try_that_survives = refl

result_behind : tried_text Behind ≡ codes "Behind"
result_behind = refl
