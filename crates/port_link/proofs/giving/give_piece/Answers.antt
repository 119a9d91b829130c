use Rattle.port_link.proofs.Terms.{Bool, List, ap, arith, refl, subst, sym, ℕ, ◌∙◌, is_open}
use Rattle.port_link.proofs.GiveLemmas.{Giving, giving_start, giving_on, gave_rest, gave_cut, gave_some}
use Rattle.port_link.proofs.giving.give_piece.Goals as goal

pub rest-init : goal.rest-init
rest-init g c = record {
  gave = giving_start c.args.conn (g.P.Port.told c.args.port.now) c.args.bytes.now c.requires.some;
  connections = refl;
  connected = c.requires.connected;
  later = omega arith;
  faults = refl;
  fixed = refl;
}

pub returns-then-count-rest-clause-calls : goal.returns-then-count-rest-clause-calls
returns-then-count-rest-clause-calls g c =
    gave_rest c.args.conn (g.P.Port.told c.args.port.now) (g.P.Port.told c.rest.port) (g.P.Port.told c.give.new.self) c.args.bytes.now c.rest.rest.now c.in-Ok.count
    c.rest.invariant.gave c.in-Ok.ensures.call c.if-count-rest.true

pub rest-preserved : goal.rest-preserved
rest-preserved g c = record {
  gave = subst (λ (l : List ℕ). Giving c.args.conn (g.P.Port.told c.args.port.now) (g.P.Port.told c.give.new.self) c.args.bytes.now l) (sym c.split_at.ensures.back)
      (giving_on c.args.conn (g.P.Port.told c.args.port.now) (g.P.Port.told c.rest.port) (g.P.Port.told c.give.new.self) c.args.bytes.now c.rest.rest.now c.in-Ok.count
      c.rest.invariant.gave c.in-Ok.ensures.call c.in-Ok.ensures.count.some (let within = c.in-Ok.ensures.count.within in let other = c.if-count-rest.false in omega arith));
  connections = c.in-Ok.ensures.connections ∙ c.rest.invariant.connections;
  connected = ap (λ (l : List Bool). is_open c.args.conn l) c.in-Ok.ensures.connections ∙ c.rest.invariant.connected;
  later = let before = c.rest.invariant.later in let more = c.in-Ok.ensures.cause.later in omega arith;
  faults = c.in-Ok.ensures.other ∙ c.rest.invariant.faults;
  fixed = c.in-Ok.ensures.fixed ∙ c.rest.invariant.fixed;
}

pub returns-in-Err-Failed-clause-calls : goal.returns-in-Err-Failed-clause-calls
returns-in-Err-Failed-clause-calls g c = (
  omega arith,
  gave_cut c.args.conn (g.P.Port.told c.args.port.now) (g.P.Port.told c.rest.port) (g.P.Port.told c.give.new.self) c.args.bytes.now c.rest.rest.now
      c.rest.invariant.gave (rw c.in-Err-Failed.field-0-is at c.in-Err-Failed.ensures.call),
)

pub returns-in-Err-Memory-clause-calls : goal.returns-in-Err-Memory-clause-calls
returns-in-Err-Memory-clause-calls g c =
    gave_some c.args.conn (g.P.Port.told c.args.port.now) (g.P.Port.told c.rest.port) (g.P.Port.told c.give.new.self) c.args.bytes.now c.rest.rest.now
    c.rest.invariant.gave (rw c.in-Err-Memory.field-0-is at c.in-Err-Memory.ensures.call)
