use Rattle.guest_image.proofs.Terms.{ap, rules, ◌∙◌, IsNonDecreasingBy-from_sort_by_key, meets_from}
use Rattle.guest_image.proofs.Overlaps.{overlap_from_sorted, start_of}
use Rattle.guest_image.proofs.overlap.has_overlap.Goals as goal

pub returns : goal.returns
returns c =
    c.neighbours_meet.ensures
    ∙ ap (meets_from 0) c.deref.ensures.value
    ∙ overlap_from_sorted _ _ _ c.in_ok-extents.ensures c.in_ok-sort_by_key.ensures.permutation
    (IsNonDecreasingBy-from_sort_by_key start_of _ c.in_ok-sort_by_key.ensures.sorted (λ a r q k. search rules)) c.requires
