-- How the logic stores what proofs remember of notes.
use Rattle.std.specs.Prelude.{◌≡◌, ◌⊎◌, ℕ, List, Option, refl}
use Rattle.std.proofs.Common.{inl, inr}
use base.Stored.{coded_unit}
use Rattle.rx_io.specs.contracts.file_calls.FileCall as file_call
use Rattle.block_book.specs.contracts.choice.Choice as choice
use Rattle.session_notes.specs.contracts.episode.Episode as episode
use Rattle.file_notes.specs.Terms.{Coded, code_by, coded_list, coded_option, coded_ℕ, coded×, coded⊎, FileCall, Choice, Episode}
use Rattle.file_notes.specs.Left.{Left, Nothing, InRecord, InReport}
use Rattle.file_notes.specs.Past.{Had, Past}

abbrev pub bytes_code : Coded (Option (List ℕ))
bytes_code = coded_option (coded_list coded_ℕ)

abbrev pub had_code : Coded Had
had_code = code_by (Option (List ℕ) × Option (List ℕ)) (coded× bytes_code bytes_code) (λ h. (h.record_bytes, h.report_bytes)) (λ p. record { record_bytes = p.0; report_bytes = p.1 }) (λ _. refl)

abbrev pub LeftParts : Type 0
LeftParts = Unit {0} ⊎ ((List Choice × ℕ) ⊎ (Episode × ℕ))

abbrev pub left_parts : Left → LeftParts
left_parts Nothing = inl tt
left_parts (InRecord choices count) = inr (inl (choices, count))
left_parts (InReport e count) = inr (inr (e, count))

abbrev pub of_parts : LeftParts → Left
of_parts (inl _) = Nothing
of_parts (inr (inl p)) = InRecord p.0 p.1
of_parts (inr (inr p)) = InReport p.0 p.1

pub of_parts-left_parts : (left : Left) → of_parts (left_parts left) ≡ left
of_parts-left_parts Nothing = refl
of_parts-left_parts (InRecord choices count) = refl
of_parts-left_parts (InReport e count) = refl

abbrev pub left_code : Coded Left
left_code = code_by LeftParts (coded⊎ coded_unit (coded⊎ (coded× (coded_list choice.the_row.coded) coded_ℕ) (coded× episode.the_row.coded coded_ℕ))) left_parts of_parts of_parts-left_parts

abbrev pub calls_code : Coded (Option (List FileCall))
calls_code = coded_option (coded_list file_call.the_row.coded)

abbrev pub past_code : Coded Past
past_code = code_by (ℕ × (Option Had × (Option (List FileCall) × (List Choice × (List Episode × Left))))) (coded× coded_ℕ (coded× (coded_option had_code) (coded× calls_code (coded× (coded_list choice.the_row.coded) (coded× (coded_list episode.the_row.coded) left_code))))) (λ p. (p.first, (p.had, (p.calls, (p.choices, (p.episodes, p.left)))))) (λ p. record { first = p.0; had = p.1.0; calls = p.1.1.0; choices = p.1.1.1.0; episodes = p.1.1.1.1.0; left = p.1.1.1.1.1 }) (λ _. refl)
