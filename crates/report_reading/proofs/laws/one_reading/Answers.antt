use Rattle.report_reading.proofs.Terms.{List, Ok, ℕ, ◌≡◌, ReadReport, outcome, IsReading}
use Rattle.report_reading.proofs.Completing.{reading_read}
use Rattle.report_reading.proofs.laws.one_reading.Goals as goal

one_reading : (text : List ℕ) (a b : ReadReport) → IsReading text a → IsReading text b → a ≡ b
one_reading text a b is_a is_b =
    let first : outcome text ≡ Ok a = reading_read text a is_a in
    let second : outcome text ≡ Ok b = reading_read text b is_b in
    cc

pub returns : goal.returns
returns c = one_reading
