use Rattle.guest_cpu.proofs.Terms.{arith, rules, ◌+◌, live_blocks}
use Rattle.guest_cpu.proofs.PlaceLemmas.{came_is, is_placed, is_ready, is_told, block_set, nothing_set}
use Rattle.guest_cpu.proofs.placing.set_block.Goals as goal

pub overflow_add-moved : goal.overflow_add-moved
overflow_add-moved c =
    let small = (is_told c.args.space.now c.args.choice c.args.kept c.requires).small (search rules) in
    omega (arith, small)

pub count_set-count-requires : goal.count_set-count-requires
count_set-count-requires c = λ there.
    (is_placed c.requires.heap.start c.requires.heap.end (live_blocks c.requires.heap.blocks) c.requires.ask c.args.choice c.requires.allowed there).few

pub returns-then-count-eq0 : goal.returns-then-count-eq0
returns-then-count-eq0 c = λ m memory kept_is.
    nothing_set m c.args.choice (c.args.kept + c.args.choice.carried) c.count_set-count.result c.args.space.now memory (came_is c.args.space.now c.args.choice c.args.kept m.blocks c.requires kept_is)
    c.count_set-count.ensures c.if-count-eq0.true

pub copy-requires : goal.copy-requires
copy-requires c =
    let ready = is_ready c.args.space.now c.args.choice c.source.result c.args.kept c.count_set-count.result c.sound.ensures c.requires c.source.ensures (search rules) c.count_set-count.ensures c.if-count-eq0.false in
    record { read = ready.source; written = ready.target; apart = ready.apart }

pub overflow_add-choice : goal.overflow_add-choice
overflow_add-choice c =
    let ready = is_ready c.args.space.now c.args.choice c.source.result c.args.kept c.count_set-count.result c.sound.ensures c.requires c.source.ensures (search rules) c.count_set-count.ensures c.if-count-eq0.false in
    let few = ready.few in
    let near = ready.near in
    omega arith

pub overflow_sub-count : goal.overflow_sub-count
overflow_sub-count c =
    let ready = is_ready c.args.space.now c.args.choice c.source.result c.args.kept c.count_set-count.result c.sound.ensures c.requires c.source.ensures (search rules) c.count_set-count.ensures c.if-count-eq0.false in
    ready.few

pub zero-requires : goal.zero-requires
zero-requires c =
    let ready = is_ready c.args.space.now c.args.choice c.source.result c.args.kept c.count_set-count.result c.sound.ensures c.requires c.source.ensures (search rules) c.count_set-count.ensures c.if-count-eq0.false in
    ready.zeros c.copy.new.self c.copy.ensures.lawful c.copy.ensures.spans_stay

pub returns : goal.returns
returns c = λ m memory kept_is.
    let ready = is_ready c.args.space.now c.args.choice c.source.result c.args.kept c.count_set-count.result c.sound.ensures c.requires c.source.ensures (search rules) c.count_set-count.ensures c.if-count-eq0.false in
    block_set m c.args.choice c.source.result (c.args.kept + c.args.choice.carried) c.count_set-count.result c.args.space.now c.zero.new.self memory
    (came_is c.args.space.now c.args.choice c.args.kept m.blocks c.requires kept_is) c.source.ensures c.count_set-count.ensures c.if-count-eq0.false
    (ready.both c.copy.new.self c.zero.new.self c.copy.ensures c.zero.ensures)
