use Rattle.link_gate.proofs.Terms.{length, refl, subst, sym, true, ◌∙◌, ◌≡◌, Send, first_fits, is_open, rest_part, IsClosing, AreSendable}
use Rattle.link_gate.proofs.GoingLemmas.{going_none}
use Rattle.link_gate.proofs.FoundLemmas.{rest_found, none_found, first_some, first_few, rest_moves, rest_breaks, rest_ends, rest_gone}
use Rattle.link_gate.proofs.NotingLemmas.{given_none, given_then, given_stopped, given_done, still_given, sends_again, noted_sends, noted_stamps, noted_open, noted_known, noted_less, noted_gives}
use Rattle.link_gate.proofs.passing.pass_rest.Goals as goal

pub pieces-init : goal.pieces-init
pieces-init g c = record {
  going = (λ rules sends moment received closing. going_none rules sends moment (λ here. IsClosing rules sends here c.args.conn c.args.replies.now) (g.K.Link.seen c.args.link.now).told closing);
  sends = record { first = refl; kept = refl; trial = refl };
  stamped = c.requires.may.stamped;
  opened = c.requires.opened;
  connected = c.requires.may.gives.connected;
  given = given_none c.requires.may.gives.gives_still;
  went = g.met.K.Link.went_same c.args.link.now;
}

pub returns-in_default-clause-passes : goal.returns-in_default-clause-passes
returns-in_default-clause-passes g c =
    (λ rules sends moment received closing.
    rest_ends rules sends moment c.args.conn c.pieces.replies (g.K.Link.seen c.args.link.now).told (g.K.Link.seen c.pieces.link) (c.pieces.invariant.going rules sends moment received closing)
    (none_found (λ (part : Send). part.bytes) (rest_part c.pieces.replies c.args.conn) c.in_default.ensures))

pub give-given-requires-clause-some : goal.give-given-requires-clause-some
give-given-requires-clause-some g c =
    first_some c.pieces.replies c.args.conn c.in-Some.bytes.now (rest_found c.pieces.replies c.args.conn c.in-Some.bytes.now c.in-Some.ensures).first

pub give-given-requires-clause-few : goal.give-given-requires-clause-few
give-given-requires-clause-few g c =
    let rest = rest_found c.pieces.replies c.args.conn c.in-Some.bytes.now c.in-Some.ensures in
    first_few c.pieces.replies c.args.conn c.in-Some.bytes.now (subst AreSendable (sym c.pieces.invariant.sends.kept) c.requires.may.sendable) rest.first

pub note-requires-clause-sent : goal.note-requires-clause-sent
note-requires-clause-sent g c =
    first_fits c.pieces.replies c.args.conn c.in-Some.bytes.now (rest_found c.pieces.replies c.args.conn c.in-Some.bytes.now c.in-Some.ensures).first

pub pieces-smaller : goal.pieces-smaller
pieces-smaller g c =
    let rest = rest_found c.pieces.replies c.args.conn c.in-Some.bytes.now c.in-Some.ensures in
    let opened : is_open c.pieces.replies.connections c.args.conn ≡ true = sym c.is_open.ensures ∙ c.pieces-test.true in
    noted_less c.args.stamp c.args.conn (length c.in-Some.bytes.now) c.pieces.replies c.note.new.replies c.give-given.result c.in-Ok.field-0 opened (first_some c.pieces.replies c.args.conn c.in-Some.bytes.now rest.first)
    (first_fits c.pieces.replies c.args.conn c.in-Some.bytes.now rest.first) c.in-Ok.ensures

pub pieces-preserved : goal.pieces-preserved
pieces-preserved g c =
    let opened : is_open c.pieces.replies.connections c.args.conn ≡ true = sym c.is_open.ensures ∙ c.pieces-test.true in
    let count = length c.in-Some.bytes.now in
    record {
      going = (λ rules sends moment received closing.
          rest_moves rules sends moment c.args.conn c.args.stamp c.pieces.replies c.note.new.replies c.in-Some.bytes.now (g.K.Link.seen c.args.link.now).told (g.K.Link.seen c.pieces.link).told (g.K.Link.seen c.give-given.new.self).told c.give-given.result c.in-Ok.field-0
          (c.pieces.invariant.going rules sends moment received closing) received (rest_found c.pieces.replies c.args.conn c.in-Some.bytes.now c.in-Some.ensures) opened c.give-given.ensures.shows.told c.in-Ok.ensures);
      sends = sends_again c.args.replies.now c.pieces.replies c.note.new.replies c.pieces.invariant.sends (noted_sends c.args.stamp c.args.conn count c.pieces.replies c.note.new.replies c.give-given.result c.note.result c.note.ensures);
      stamped = noted_stamps c.args.stamp c.args.conn count c.pieces.replies c.note.new.replies c.give-given.result c.in-Ok.field-0 c.pieces.invariant.opened c.in-Ok.ensures c.pieces.invariant.stamped;
      opened = noted_known c.args.stamp c.args.conn count c.pieces.replies c.note.new.replies c.give-given.result c.in-Ok.field-0 c.args.conn c.in-Ok.ensures c.pieces.invariant.opened;
      connected = (λ other still.
          still_given c.give-given.ensures.shows other
          ∙ c.pieces.invariant.connected other (noted_open c.args.stamp c.args.conn count c.pieces.replies c.note.new.replies c.give-given.result c.note.result other c.note.ensures still));
      given = given_then c.pieces.invariant.given c.give-given.ensures.shows (noted_gives c.args.stamp c.args.conn count c.pieces.replies c.note.new.replies c.give-given.result c.in-Ok.field-0 c.in-Ok.ensures);
      went = g.met.K.Link.went_on c.args.link.now c.pieces.link c.give-given.new.self c.pieces.invariant.went c.give-given.ensures.went;
    }

pub returns-in-Err-clause-passes : goal.returns-in-Err-clause-passes
returns-in-Err-clause-passes g c =
    let rest = rest_found c.pieces.replies c.args.conn c.in-Some.bytes.now c.in-Some.ensures in
    let opened : is_open c.pieces.replies.connections c.args.conn ≡ true = sym c.is_open.ensures ∙ c.pieces-test.true in
    (λ rules sends moment received closing.
    rest_breaks rules sends moment c.args.conn c.pieces.replies c.note.new.replies c.in-Some.bytes.now (g.K.Link.seen c.args.link.now).told (g.K.Link.seen c.pieces.link).told (g.K.Link.seen c.give-given.new.self) c.give-given.result c.in-Err.fault
    (c.pieces.invariant.going rules sends moment received closing) rest opened c.give-given.ensures.shows.gives c.give-given.ensures.shows.handed c.give-given.ensures.shows.told)

pub returns-clause-passes : goal.returns-clause-passes
returns-clause-passes g c =
    (λ rules sends moment received closing.
    rest_gone rules sends moment c.args.conn c.pieces.replies (g.K.Link.seen c.args.link.now).told (g.K.Link.seen c.pieces.link) (c.pieces.invariant.going rules sends moment received closing) c.pieces.invariant.opened
    (sym c.is_open.ensures ∙ c.pieces-test.false))

pub returns-clause-keeps : goal.returns-clause-keeps
returns-clause-keeps g c = record {
  shows = given_done c.pieces.invariant.given;
  sends = c.pieces.invariant.sends;
  stamped = c.pieces.invariant.stamped;
  connected = c.pieces.invariant.connected;
}

pub returns-in_default-clause-keeps : goal.returns-in_default-clause-keeps
returns-in_default-clause-keeps g c = record {
  shows = given_done c.pieces.invariant.given;
  sends = c.pieces.invariant.sends;
  stamped = c.pieces.invariant.stamped;
  connected = c.pieces.invariant.connected;
}

pub returns-in-Err-clause-keeps : goal.returns-in-Err-clause-keeps
returns-in-Err-clause-keeps g c =
    let count = length c.in-Some.bytes.now in
    record {
      shows = given_stopped c.args.stamp count c.pieces.replies c.note.new.replies c.give-given.result c.in-Err.fault c.pieces.invariant.given c.give-given.ensures.shows c.in-Err.ensures;
      sends = sends_again c.args.replies.now c.pieces.replies c.note.new.replies c.pieces.invariant.sends (noted_sends c.args.stamp c.args.conn count c.pieces.replies c.note.new.replies c.give-given.result c.note.result c.note.ensures);
      stamped = tt;
      connected = (λ other still.
          still_given c.give-given.ensures.shows other
          ∙ c.pieces.invariant.connected other (noted_open c.args.stamp c.args.conn count c.pieces.replies c.note.new.replies c.give-given.result c.note.result other c.note.ensures still));
    }
