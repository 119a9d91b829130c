use Rattle.rx_engine.proofs.Terms.{refl}
use Rattle.rx_engine.proofs.session.Session.begin.Goals as goal

pub returns : goal.returns
returns g c =
    let fresh = c.in_ok-held.ensures in
    record {
      options_are = refl;
      in_range = c.requires.in_range;
      window = c.requires.window;
      cpu = fresh.cpu;
      log = fresh.log;
      shows = fresh.shows;
      replies = fresh.replies;
      no_events = refl;
      none_recorded = fresh.none_recorded;
      no_choices = fresh.no_choices;
      no_items = refl;
      no_steps = refl;
      based = refl;
      until_none = refl;
      nothing_came = c.of.ensures;
      hold_is = refl;
    }
