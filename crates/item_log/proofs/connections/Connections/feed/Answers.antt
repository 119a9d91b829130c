use Rattle.item_log.proofs.Terms.{Some, ap, get_or, true, ◌∙◌, ◌≡◌, is_open, Watched, rests_of}
use Rattle.item_log.proofs.Watch.{feeds_one, open_below}
use Rattle.item_log.proofs.connections.Connections.feed.Goals as goal

pub returns : goal.returns
returns c =
    let framers = c.self.inside.framers.items in
    let here : Some c.in-Some.framer ≡ get_or framers c.args.conn (Some c.in-Some.framer) = rw c.in-Some.is at c.index_mut.ensures.value in
    let watched : is_open (rests_of framers) c.args.conn ≡ true = ap (λ (now : Watched). is_open now.rests c.args.conn) c.self.view_is ∙ c.requires in
    rw (← c.self.view_is)
    (feeds_one c.self.inside.framing framers c.args.conn c.args.piece.now c.in-Some.framer c.feed.new.self c.feed.result c.self.invariant (open_below framers c.args.conn watched) here c.feed.ensures.fed)
