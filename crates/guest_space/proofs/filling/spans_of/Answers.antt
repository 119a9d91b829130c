use Rattle.guest_space.proofs.StartLemmas.{seen_end}
use Rattle.guest_space.proofs.filling.spans_of.Goals as goal

pub segment_span-requires : goal.segment_span-requires
segment_span-requires c = seen_end c.args.image.now c.as_slice-segments.result.now c.loop-segment.segment-index c.segment-item.result c.as_slice-segments.ensures c.loop-segment-test.true c.segment-item.is
