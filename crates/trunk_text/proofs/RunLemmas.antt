-- What a call tells of its source and its sink, by the bytes alone.
use Rattle.trunk_text.proofs.Terms.{List, Some, length, sym, ℕ, ◌++◌, ◌∙◌, ◌≡◌, append_cancel_left, IsDrained, Stream, Ended, Goes, Moved, Way, framing, unframing, CallsRun, Runs}
use Rattle.trunk_text.proofs.TurnLemmas.{ends_as}

run_of : (way : Way) (before after : Stream) (old new output : List ℕ) (ended : Ended) → new ≡ old ++ output
    → Goes way (Moved (Some before) (Some after) (Some old) (Some new)) (IsDrained (Some after)) ended → Runs way before.left after.left output ended
run_of way before after old new output ended grew (from, to, turned, ends) = (
  from,
  to,
  turned,
  ends_as way (λ more out. Moved (Some before) (Some after) (Some old) (Some new) (from ++ more) (to ++ out)) (λ more out. (before.left ≡ (from ++ more) ++ after.left) × (to ++ out ≡ output))
      (IsDrained (Some after)) (IsDrained (Some after)) (length from) ended (λ x. x) (λ flaw from x. x)
      (λ more out moved. (moved.took.1, append_cancel_left old (to ++ out) output (sym moved.wrote ∙ grew))) ends,
)

pub calls_run : CallsRun
calls_run before after old new output ended grew =
    ((λ goes. run_of framing before after old new output ended grew goes), (λ goes. run_of unframing before after old new output ended grew goes))
