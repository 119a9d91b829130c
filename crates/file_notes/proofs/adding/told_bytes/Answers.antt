use Rattle.file_notes.proofs.Terms.{ap, arith, length, ◌<◌, ◌∙◌, ◌≤◌, length-take-le, take_more, Episode, episode_text}
use Rattle.file_notes.proofs.TextLemmas.{one_more_told}
use Rattle.file_notes.proofs.adding.told_bytes.Goals as goal

pub episodes-preserved : goal.episodes-preserved
episodes-preserved c =
    let less : c.episodes.i < length c.args.episodes.now = grind arith in
    let within : c.episodes.i ≤ length c.args.episodes.now = omega (arith, less) in
    one_more_told c.args.form c.args.episodes.now c.episodes.i _ _ _ _ (take_more c.args.episodes.now c.episodes.i c.index-episodes-i.result less) (length-take-le c.episodes.i c.args.episodes.now within) c.episodes.invariant
    (c.as_slice-in-episodes.ensures ∙ c.in_ok-text.ensures ∙ ap (λ (e : Episode). episode_text c.episodes.i e c.args.form) c.index-episodes-i.is) c.in_ok-extend_from_slice-2.ensures.items
