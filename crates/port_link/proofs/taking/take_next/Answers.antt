use Rattle.port_link.proofs.Terms.{Bool, Err, List, Ok, arith, subst, sym, ℕ, ◌∙◌, nil_from_length, TakesNext, ended_place}
use Rattle.port_link.proofs.JournalLemmas.{only_open}
use Rattle.port_link.proofs.StepLemmas.{end_takes, none_done, piece_takes, take_fails}
use Rattle.links.specs.declared.journal.LinkEvent.TheVariants as event
use Rattle.port_link.proofs.taking.take_next.Goals as goal

pub returns-then-len-eq0-clause-takes : goal.returns-then-len-eq0-clause-takes
returns-then-len-eq0-clause-takes g c =
    let told = g.P.Port.told in
    let place = c.args.place.now in
    let call = c.in-Ok.ensures.calls in
    let opened = only_open _ (none_done place.closing place.stages c.requires.nothing c.requires.stands.closing c.args.conn) (c.requires.none c.args.conn) (sym (c.requires.stands.present c.args.conn) ∙ c.requires.connected) in
    subst (λ (l : List Bool). TakesNext c.args.limits (told c.args.port.now) (told c.take_piece.new.port) l place (ended_place c.args.conn place) (Ok (event.Closes c.args.conn))) (sym c.in-Ok.ensures.connections)
    (end_takes c.args.limits (told c.args.port.now) (told c.take_piece.new.port) (g.P.Port.connections c.args.port.now) place c.requires.stands c.args.conn c.in-Ok.bytes.items call.0 call.1 call.2
    (nil_from_length c.in-Ok.bytes.items (omega (arith, c.in-Ok.bytes.ok.0))) opened c.requires.was c.requires.few c.requires.nothing)

pub returns-else-len-eq0-clause-takes : goal.returns-else-len-eq0-clause-takes
returns-else-len-eq0-clause-takes g c =
    let told = g.P.Port.told in
    let place = c.args.place.now in
    let call = c.in-Ok.ensures.calls in
    let opened = only_open _ (none_done place.closing place.stages c.requires.nothing c.requires.stands.closing c.args.conn) (c.requires.none c.args.conn) (sym (c.requires.stands.present c.args.conn) ∙ c.requires.connected) in
    subst (λ (l : List ℕ). TakesNext c.args.limits (told c.args.port.now) (told c.take_piece.new.port) (g.P.Port.connections c.take_piece.new.port) place place (Ok (event.Piece c.args.conn l))) (sym c.from_vec.ensures)
    (subst (λ (l : List Bool). TakesNext c.args.limits (told c.args.port.now) (told c.take_piece.new.port) l place place (Ok (event.Piece c.args.conn c.in-Ok.bytes.items))) (sym c.in-Ok.ensures.connections)
    (piece_takes c.args.limits (told c.args.port.now) (told c.take_piece.new.port) (g.P.Port.connections c.args.port.now) place c.requires.stands c.args.conn c.in-Ok.bytes.items call.0 call.1 call.2
    (omega (arith, c.in-Ok.bytes.ok.0)) opened c.requires.was c.requires.few))

pub returns-in-Err-clause-takes : goal.returns-in-Err-clause-takes
returns-in-Err-clause-takes g c =
    let told = g.P.Port.told in
    let place = c.args.place.now in
    subst (λ (l : List Bool). TakesNext c.args.limits (told c.args.port.now) (told c.take_piece.new.port) l place place (Err c.in-Err.fault)) (sym c.in-Err.ensures.connections)
    (take_fails c.args.limits (told c.args.port.now) (told c.take_piece.new.port) (g.P.Port.connections c.args.port.now) place c.requires.stands c.args.conn c.in-Err.fault c.in-Err.ensures.calls)
