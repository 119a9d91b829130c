-- What the session of a drill is held to: every option at its default.
use Rattle.std.specs.Prelude.{ℕ, ◌*◌, ◌^◌, Bool, true}
use Rattle.rx_base.specs.declared.item.TheConstants.{MAX_ITEMS}
use Rattle.alloc_env.specs.declared.env.Env.TheVariants.{Plain}
use Rattle.msg_frame.specs.declared.framing.Framing.TheVariants.{Line}
use Rattle.block_book.specs.Heap.{Heap}
use Rattle.recovery.specs.Handling.{Keeping}
use Rattle.drill.specs.Terms.{Rules, Options, keeping_for, rules_of}

-- A window of 4 MiB, messages of one line each, no reply held back, eight checkpoints with an item between them, four times as many frames as
-- pages, a million instructions between two items, and environments that are kept for four items, Plain where none is; and as many items and events as a session may have.
abbrev pub settings : Options
settings = record {
  window = 4 * 2 ^ 20;
  frame = Line;
  hold = 0;
  ring = 8;
  every = 1;
  frames = 4;
  budget = 1000000;
  keep = 4;
  base = Plain;
  max_items = MAX_ITEMS;
  max_events = 2 ^ 32;
}

-- the rule that every access keeps: the program's own memory alone refuses one
abbrev pub refuses_none : Heap → ℕ → ℕ → Bool
refuses_none heap at len = true

abbrev pub rules : Rules
rules = rules_of settings refuses_none

abbrev pub keeping : Keeping
keeping = keeping_for settings
