use Rattle.port_link.proofs.Terms.{arith, length, subst, sym, ◌<◌, slice_set, Stage, stage_at, GivesPiece}
use Rattle.port_link.proofs.GiveLemmas.{give_does, give_dropped, given_there}
use Rattle.port_link.proofs.giving.give_present.Goals as goal

pub returns-in-Dropped-clause-gives : goal.returns-in-Dropped-clause-gives
returns-in-Dropped-clause-gives g c =
    give_dropped c.args.limits c.args.conn (g.P.Port.told c.args.port.now) (g.P.Port.connections c.args.port.now) c.args.place.now c.args.bytes.now c.requires.stands

pub returns-clause-gives : goal.returns-clause-gives
returns-clause-gives g c =
    let told = g.P.Port.told in
    let place = c.args.place.now in
    let few = c.requires.few in
    let room = c.requires.stands.room in
    let inside : c.args.conn < length place.stages = omega arith in
    subst (λ (s : Stage). GivesPiece c.args.limits c.args.conn (told c.args.port.now) (told c.give_piece-answer.new.port) (g.P.Port.connections c.give_piece-answer.new.port) place
    (record place { stages = slice_set place.stages c.args.conn s }) c.args.bytes.now c.give_piece-answer.result) (sym c.stage_behind.ensures)
    (give_does c.args.limits c.args.conn (told c.args.port.now) (told c.give_piece-answer.new.port) place c.args.bytes.now (g.P.Port.connections c.args.port.now) (g.P.Port.connections c.give_piece-answer.new.port)
    c.give_piece-answer.result c.give_piece-answer.ensures.calls c.requires.stands c.requires.whole (given_there (stage_at place c.args.conn) c.requires.given c.in_default.not-Dropped) inside c.give_piece-answer.ensures.connections)
