-- No number of a report is a float.
use Rattle.std.proofs.Common.{◌≡◌, ℕ, false, List, [], ◌∷◌, refl}
use Rattle.run_report.specs.Terms.{has_float, items_have_float, Episode, Try}
use Rattle.run_report.specs.JsonLines.{tries_data, episode_data}

no_float_tried : (tries : List Try) → items_have_float (tries_data tries) ≡ false
no_float_tried [] = refl
no_float_tried (t ∷ tries) = no_float_tried tries

pub no_float : (place : ℕ) (e : Episode) → has_float (episode_data place e) ≡ false
no_float place e = rw (no_float_tried e.tries) refl
