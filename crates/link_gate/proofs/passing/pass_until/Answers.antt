use Rattle.link_gate.proofs.Terms.{length, subst, sym, ◌∙◌, first_fits, opened_known, next_part, shown_part, AreSendable}
use Rattle.link_gate.proofs.FoundLemmas.{next_found, none_found, first_some, first_few, until_moves, until_breaks, until_ends}
use Rattle.link_gate.proofs.NotingLemmas.{given_then, given_stopped, given_done, still_given, sends_again, noted_sends, noted_stamps, noted_open, noted_less, noted_gives}
use Rattle.link_gate.proofs.passing.pass_until.Goals as goal

pub give-given-requires-clause-connected : goal.give-given-requires-clause-connected
give-given-requires-clause-connected g c =
    c.pieces.invariant.connected c.in-Some.conn (next_found c.pieces.replies c.args.until c.in-Some.conn c.in-Some.bytes.now c.sound.ensures.lawful.times c.in-Some.ensures).opened

pub give-given-requires-clause-some : goal.give-given-requires-clause-some
give-given-requires-clause-some g c =
    first_some c.pieces.replies c.in-Some.conn c.in-Some.bytes.now (next_found c.pieces.replies c.args.until c.in-Some.conn c.in-Some.bytes.now c.sound.ensures.lawful.times c.in-Some.ensures).first

pub give-given-requires-clause-few : goal.give-given-requires-clause-few
give-given-requires-clause-few g c =
    let next = next_found c.pieces.replies c.args.until c.in-Some.conn c.in-Some.bytes.now c.sound.ensures.lawful.times c.in-Some.ensures in
    first_few c.pieces.replies c.in-Some.conn c.in-Some.bytes.now (subst AreSendable (sym c.pieces.invariant.sends.kept) c.requires.sendable) next.first

pub note-requires-clause-opened : goal.note-requires-clause-opened
note-requires-clause-opened g c =
    opened_known c.pieces.replies.connections c.in-Some.conn (next_found c.pieces.replies c.args.until c.in-Some.conn c.in-Some.bytes.now c.sound.ensures.lawful.times c.in-Some.ensures).opened

pub note-requires-clause-sent : goal.note-requires-clause-sent
note-requires-clause-sent g c =
    first_fits c.pieces.replies c.in-Some.conn c.in-Some.bytes.now (next_found c.pieces.replies c.args.until c.in-Some.conn c.in-Some.bytes.now c.sound.ensures.lawful.times c.in-Some.ensures).first

pub pieces-smaller : goal.pieces-smaller
pieces-smaller g c =
    let next = next_found c.pieces.replies c.args.until c.in-Some.conn c.in-Some.bytes.now c.sound.ensures.lawful.times c.in-Some.ensures in
    noted_less c.args.stamp c.in-Some.conn (length c.in-Some.bytes.now) c.pieces.replies c.note.new.replies c.give-given.result c.in-Ok.field-0 next.opened (first_some c.pieces.replies c.in-Some.conn c.in-Some.bytes.now next.first)
    (first_fits c.pieces.replies c.in-Some.conn c.in-Some.bytes.now next.first) c.in-Ok.ensures

pub pieces-preserved : goal.pieces-preserved
pieces-preserved g c =
    let next = next_found c.pieces.replies c.args.until c.in-Some.conn c.in-Some.bytes.now c.sound.ensures.lawful.times c.in-Some.ensures in
    let known = opened_known c.pieces.replies.connections c.in-Some.conn next.opened in
    let count = length c.in-Some.bytes.now in
    record {
      going = (λ rules sends moment received ready.
          until_moves rules sends moment c.args.until c.in-Some.conn c.args.stamp c.pieces.replies c.note.new.replies c.in-Some.bytes.now (g.K.Link.seen c.args.link.now).told (g.K.Link.seen c.pieces.link).told (g.K.Link.seen c.give-given.new.self).told c.give-given.result c.in-Ok.field-0
          (c.pieces.invariant.going rules sends moment received ready) received next c.give-given.ensures.shows.told c.in-Ok.ensures);
      sends = sends_again c.args.replies.now c.pieces.replies c.note.new.replies c.pieces.invariant.sends (noted_sends c.args.stamp c.in-Some.conn count c.pieces.replies c.note.new.replies c.give-given.result c.note.result c.note.ensures);
      stamped = noted_stamps c.args.stamp c.in-Some.conn count c.pieces.replies c.note.new.replies c.give-given.result c.in-Ok.field-0 known c.in-Ok.ensures c.pieces.invariant.stamped;
      connected = (λ other opened.
          still_given c.give-given.ensures.shows other
          ∙ c.pieces.invariant.connected other (noted_open c.args.stamp c.in-Some.conn count c.pieces.replies c.note.new.replies c.give-given.result c.note.result other c.note.ensures opened));
      given = given_then c.pieces.invariant.given c.give-given.ensures.shows (noted_gives c.args.stamp c.in-Some.conn count c.pieces.replies c.note.new.replies c.give-given.result c.in-Ok.field-0 c.in-Ok.ensures);
      went = g.met.K.Link.went_on c.args.link.now c.pieces.link c.give-given.new.self c.pieces.invariant.went c.give-given.ensures.went;
    }

pub returns-in-Err-clause-passes : goal.returns-in-Err-clause-passes
returns-in-Err-clause-passes g c =
    let next = next_found c.pieces.replies c.args.until c.in-Some.conn c.in-Some.bytes.now c.sound.ensures.lawful.times c.in-Some.ensures in
    (λ rules sends moment received ready.
    until_breaks rules sends moment c.args.until c.in-Some.conn c.pieces.replies c.note.new.replies c.in-Some.bytes.now (g.K.Link.seen c.args.link.now).told (g.K.Link.seen c.pieces.link).told (g.K.Link.seen c.give-given.new.self) c.give-given.result c.in-Err.fault
    (c.pieces.invariant.going rules sends moment received ready) next c.give-given.ensures.shows.gives c.give-given.ensures.shows.handed c.give-given.ensures.shows.told)

pub returns-clause-passes : goal.returns-clause-passes
returns-clause-passes g c =
    (λ rules sends moment received ready.
    until_ends rules sends moment c.args.until c.pieces.replies (g.K.Link.seen c.args.link.now).told (g.K.Link.seen c.pieces.link) (c.pieces.invariant.going rules sends moment received ready)
    (none_found shown_part (next_part c.pieces.replies c.args.until) c.in_default.ensures))

pub returns-clause-keeps : goal.returns-clause-keeps
returns-clause-keeps g c = record {
  shows = given_done c.pieces.invariant.given;
  sends = c.pieces.invariant.sends;
  stamped = c.pieces.invariant.stamped;
  connected = c.pieces.invariant.connected;
}

pub returns-in-Err-clause-keeps : goal.returns-in-Err-clause-keeps
returns-in-Err-clause-keeps g c =
    let count = length c.in-Some.bytes.now in
    record {
      shows = given_stopped c.args.stamp count c.pieces.replies c.note.new.replies c.give-given.result c.in-Err.fault c.pieces.invariant.given c.give-given.ensures.shows c.in-Err.ensures;
      sends = sends_again c.args.replies.now c.pieces.replies c.note.new.replies c.pieces.invariant.sends (noted_sends c.args.stamp c.in-Some.conn count c.pieces.replies c.note.new.replies c.give-given.result c.note.result c.note.ensures);
      stamped = tt;
      connected = (λ other opened.
          still_given c.give-given.ensures.shows other
          ∙ c.pieces.invariant.connected other (noted_open c.args.stamp c.in-Some.conn count c.pieces.replies c.note.new.replies c.give-given.result c.note.result other c.note.ensures opened));
    }
