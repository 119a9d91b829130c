use Rattle.trunk_wire.proofs.Terms.{rules}
use Rattle.trunk_wire.proofs.GiveLemmas.{start_told}
use Rattle.trunk_wire.proofs.trunk_link.TrunkLink.make.Goals as goal

pub returns-clause-told : goal.returns-clause-told
returns-clause-told g c = start_told (g.S.Source.told c.args.source) (g.K.Sink.told c.args.sink) _ c.new.ensures

pub returns-clause-shows : goal.returns-clause-shows
returns-clause-shows g c = record { phases = search rules; handed = search rules; takes = search rules; gives = search rules }
