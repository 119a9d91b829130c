use Rattle.guest_cpu.proofs.Terms.{None, refl, subst, sym, ◌≡◌, Ask, bytes_asked, kept_count, live_blocks, replaced, flat, machine_of, set_range}
use Rattle.guest_cpu.proofs.PlaceLemmas.{allowed_asked}
use Rattle.guest_cpu.proofs.CoreLemmas.{allocated_turn, bad_turn}
use Rattle.guest_cpu.proofs.calling.allocate.Goals as goal

pub set_block-requires : goal.set_block-requires
set_block-requires g c = record {
  heap = c.args.core.now.book;
  sound = c.sound.ensures.heap;
  near = c.sound.ensures.within;
  has_heap = c.requires.heap;
  ask = c.args.ask;
  allowed = c.in-Ok.ensures.allowed;
  kept_is = c.kept_count-kept.ensures;
}

pub returns-in-Ok-clause-turned : goal.returns-in-Ok-clause-turned
returns-in-Ok-clause-turned g c =
    let core = c.args.core.now in
    let asked = allowed_asked core.book.start core.book.end (live_blocks core.book.blocks) c.args.ask c.in-Ok.choice c.in-Ok.ensures.allowed in
    let kept = subst (λ (ask : Ask). c.kept_count-kept.result ≡ kept_count (live_blocks core.book.blocks) (bytes_asked ask) (replaced ask)) (sym asked) c.kept_count-kept.ensures in
    let was_set = c.set_block.ensures (machine_of core (flat c.args.space.now)) refl kept in
    record {
      written = set_range (live_blocks core.book.blocks) c.in-Ok.choice;
      turns = allocated_turn c.args.env core c.answer.new.self c.serve_ask.new.book c.site-site.result c.in-Ok.choice c.args.ask (flat c.args.space.now) (flat c.set_block.new.space)
          c.site-site.ensures c.in-Ok.ensures.answer c.in-Ok.ensures.allowed c.in-Ok.ensures.live c.in-Ok.ensures.ends was_set.0 c.answer.ensures;
      wrote = was_set.1;
    }

pub returns-in-Err-clause-turned : goal.returns-in-Err-clause-turned
returns-in-Err-clause-turned g c =
    record { written = None; turns = bad_turn c.args.env c.args.core.now c.serve_ask.new.book c.site-site.result c.args.ask (flat c.args.space.now) c.site-site.ensures c.in-Err.ensures.answer; wrote = refl }
