use Rattle.rx_engine.proofs.Terms.{ap, sym, false≢true, AtRequest, SessionState}
use Rattle.rx_engine.proofs.RequestLemmas.{asks_whole, ended_items, ended_now, judged_end, short_end, unlike_end}
use Rattle.rx_engine.proofs.session.Session.unfollowed_end.Goals as goal

pub returns-in-Short-clause-unfollowed : goal.returns-in-Short-clause-unfollowed
returns-in-Short-clause-unfollowed g c taken image before seen noted_before noted counted e is =
    short_end e is (c.in-Short.ensures.judged taken.limits (ended_items e) (ended_now e) (AtRequest (asks_whole e.waited.waits.asking)) (judged_end e))

pub returns-in-Unlike-clause-unfollowed : goal.returns-in-Unlike-clause-unfollowed
returns-in-Unlike-clause-unfollowed g c taken image before seen noted_before noted counted e is =
    unlike_end e c.requires.placed (sym (ap (λ (s : SessionState _). s.steps) c.self.view_is)) is (c.in-Unlike.ensures.judged taken.limits (ended_items e) (ended_now e) (AtRequest (asks_whole e.waited.waits.asking)) (judged_end e))

pub returns-in-Reached-clause-unfollowed : goal.returns-in-Reached-clause-unfollowed
returns-in-Reached-clause-unfollowed g c taken image before seen noted_before noted counted e is =
    absurd (e.waited.waits.not_yet (AtRequest (asks_whole e.waited.waits.asking)) (c.in-Reached.ensures.judged taken.limits (ended_items e) (ended_now e) (AtRequest (asks_whole e.waited.waits.asking)) (judged_end e)))

pub returns-in-GoesOn-clause-unfollowed : goal.returns-in-GoesOn-clause-unfollowed
returns-in-GoesOn-clause-unfollowed g c taken image before seen noted_before noted counted e is =
    absurd (false≢true (sym (c.in-GoesOn.ensures.judged taken.limits (ended_items e) (ended_now e) (AtRequest (asks_whole e.waited.waits.asking)) (judged_end e)).goes_on))
