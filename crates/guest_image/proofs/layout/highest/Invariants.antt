use Rattle.guest_image.proofs.Terms.{drop, max, ◌<◌, ◌^◌, ◌≡◌, highest}
use Rattle.guest_image.proofs.layout.highest.Given as goal

abbrev pub invariant-loop-segment : goal.invariant-loop-segment
invariant-loop-segment l = record {
  rest : max l.high (highest (drop l.segment-index l.segments)) ≡ highest l.segments;
  bound : l.high < 2 ^ 33;
}
