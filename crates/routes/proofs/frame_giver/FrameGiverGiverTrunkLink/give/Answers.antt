use Rattle.routes.proofs.FrontLemmas.{gave_first}

pub returns-clause-gave : Rattle.routes.proofs.frame_giver.FrameGiverGiverTrunkLink.give.Goals.returns-clause-gave
returns-clause-gave g c = gave_first _ _ _ _ c.args.conn c.args.bytes.now c.give.result c.give.ensures.frame.frame
