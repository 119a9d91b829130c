use Rattle.guest_space.proofs.Terms.{arith}
use Rattle.guest_space.proofs.SpaceLemmas.{parts_place}
use Rattle.guest_space.proofs.WindowLemmas.{parts_window, none_of_page}
use Rattle.guest_space.proofs.space.GuestSpace.window_in.Goals as goal

pub returns-then-offset-gt-PAGE-clause-window : goal.returns-then-offset-gt-PAGE-clause-window
returns-then-offset-gt-PAGE-clause-window c = c.none.ensures.any c.args.flag c.args.self.now.base c.args.self.now.spans c.args.self.now.store

pub returns-then-offset-gt-PAGE-clause-page : goal.returns-then-offset-gt-PAGE-clause-page
returns-then-offset-gt-PAGE-clause-page c = none_of_page c.args.self.now c.args.at c.none.result c.none.ensures.none

pub overflow_sub-near : goal.overflow_sub-near
overflow_sub-near c =
    (parts_place c.args.flag c.self.inside.base c.self.inside.spans.items c.self.inside.store c.self.inside.code.value c.args.self.now c.args.at 4 c.self.invariant c.self.view_is (omega arith) (c.requires.open.held c.args.at c.requires.has.0 c.requires.has.1)).0

pub place-requires : goal.place-requires
place-requires c =
    let room = parts_place c.args.flag c.self.inside.base c.self.inside.spans.items c.self.inside.store c.self.inside.code.value c.args.self.now c.args.at 4 c.self.invariant c.self.view_is (omega arith) (c.requires.open.held c.args.at c.requires.has.0 c.requires.has.1) in
    omega arith

pub returns-clause-window : goal.returns-clause-window
returns-clause-window c =
    parts_window c.args.flag c.self.inside.base c.self.inside.spans.items c.self.inside.store c.self.inside.code.value c.args.self.now c.args.stretch c.args.at c.min-back.result c.min.result c.place.result c.self.invariant c.self.view_is c.requires.open c.requires.has.0 c.requires.has.1
    (omega arith) (omega arith) (omega arith) (omega arith) (omega arith) c.place.ensures.place c.place.ensures.small
