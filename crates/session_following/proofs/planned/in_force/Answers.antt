use Rattle.session_following.proofs.Terms.{ap, arith, sym, ◌∙◌, adopted_try}
use Rattle.session_following.proofs.Placing.{ends_last, followed_last, last_in_force, none_left, placed_last}
use Rattle.session_following.proofs.planned.in_force.Goals as goal

pub overflow_add-result : goal.overflow_add-result
overflow_add-result c =
    let f = followed_last c.args.episodes.now c.last-item.result c.args.taken c.in-len1-up.len_at_least c.last-item.is c.requires.behind in
    omega (arith, f.1)

pub returns-in-Some-clause-in_force : goal.returns-in-Some-clause-in_force
returns-in-Some-clause-in_force c =
    let f = followed_last c.args.episodes.now c.last-item.result c.args.taken c.in-len1-up.len_at_least c.last-item.is c.requires.behind in
    let is = ap adopted_try (sym c.as_slice.ensures) ∙ sym c.in-Some.ensures in
    let placed = placed_last c.args.episodes.now c.last-item.result c.in-Some.attempt c.in-len1-up.len_at_least c.last-item.is is c.requires.placed in
    last_in_force c.args.base c.args.keep c.args.episodes.now c.last-item.result c.in-Some.attempt c.args.taken c.in-len1-up.len_at_least c.last-item.is is placed f.1

pub returns-in-Some-clause-until : goal.returns-in-Some-clause-until
returns-in-Some-clause-until c = ends_last c.args.keep c.args.episodes.now c.last-item.result c.in-len1-up.len_at_least c.last-item.is

pub returns-in-None-clause-in_force : goal.returns-in-None-clause-in_force
returns-in-None-clause-in_force c =
    absurd (none_left c.args.episodes.now c.last-item.result c.args.taken c.in-len1-up.len_at_least c.last-item.is c.requires.behind (ap adopted_try (sym c.as_slice.ensures) ∙ sym c.in-None.ensures))

pub returns-in-None-clause-until : goal.returns-in-None-clause-until
returns-in-None-clause-until c =
    absurd (none_left c.args.episodes.now c.last-item.result c.args.taken c.in-len1-up.len_at_least c.last-item.is c.requires.behind (ap adopted_try (sym c.as_slice.ensures) ∙ sym c.in-None.ensures))
