use Rattle.guest_space.proofs.StretchLemmas.{parts_open, stretch_held}
use Rattle.guest_space.proofs.space.GuestSpace.reaches.Goals as goal

pub returns : goal.returns
returns c =
    let is = parts_open c.args.flag c.self.inside.base c.self.inside.spans.items _ c.self.inside.store c.self.inside.code.value c.args.self.now _ c.self.view_is c.deref.ensures.value c.stretch_at.ensures in
    record { holds = is; held = stretch_held c.args.flag c.args.self.now.spans _ c.args.at _ is c.has-2.ensures }
