use Rattle.session_following.proofs.Terms.{refl, false≢true}
use Rattle.session_following.proofs.Said.{may_early, may_lack, never_early, never_lack, said_early, said_place, said_stuck, said_there}
use Rattle.session_following.proofs.judging.judge.Goals as goal

pub returns-then-stuck-clause-judged : goal.returns-then-stuck-clause-judged
returns-then-stuck-clause-judged c = λ limits items path stand at. said_early c.args.handed.now at c.if-stuck.true (λ files. false≢true ((c.if-not-has_files.ensures).1 files))

pub returns-then-is_elsewhere-clause-judged : goal.returns-then-is_elsewhere-clause-judged
returns-then-is_elsewhere-clause-judged c =
    λ limits items path stand at. said_place c.args.handed.now at ((c.if-is_elsewhere.ensures).0 refl) (never_early c.args.handed.now at (λ files. false≢true ((c.if-not-has_files.ensures).1 files)))

pub returns-then-not-has_files-clause-judged : goal.returns-then-not-has_files-clause-judged
returns-then-not-has_files-clause-judged c =
    λ limits items path stand at.
    may_early c.args.handed.now at c.if-stuck.false (λ elsewhere. false≢true ((c.if-is_elsewhere.ensures).1 elsewhere)) (λ files. false≢true ((c.if-not-has_files.ensures).1 files))

pub returns-then-is_elsewhere-2-clause-judged : goal.returns-then-is_elsewhere-2-clause-judged
returns-then-is_elsewhere-2-clause-judged c =
    λ limits items path stand at. said_place c.args.handed.now at ((c.if-is_elsewhere-2.ensures).0 refl) (never_lack c.args.handed.now at c.in-Some.conn c.in-Some.ensures.least)

pub returns-then-stuck-2-clause-judged : goal.returns-then-stuck-2-clause-judged
returns-then-stuck-2-clause-judged c = λ limits items path stand at. said_stuck c.args.handed.now at c.if-stuck-2.true (λ elsewhere. false≢true ((c.if-is_elsewhere-2.ensures).1 elsewhere)) ((c.if-not-has_files.ensures).0 refl) c.in-Some.conn c.in-Some.ensures.least

pub returns-then-is_there-clause-judged : goal.returns-then-is_there-clause-judged
returns-then-is_there-clause-judged c =
    λ limits items path stand at. said_there c.args.handed.now at ((c.if-is_there.ensures).0 refl) (λ elsewhere. false≢true ((c.if-is_elsewhere-2.ensures).1 elsewhere)) ((c.if-not-has_files.ensures).0 refl) c.in-Some.conn c.in-Some.ensures.least

pub returns-clause-judged : goal.returns-clause-judged
returns-clause-judged c = λ limits items path stand at. may_lack c.args.handed.now at c.if-stuck-2.false (λ elsewhere. false≢true ((c.if-is_elsewhere-2.ensures).1 elsewhere)) c.in-Some.conn c.in-Some.ensures.least
