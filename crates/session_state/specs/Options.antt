-- What a session is asked for.
use Rattle.std.specs.Prelude.{ℕ, ◌*◌, ◌/◌, ◌≤◌, ◌^◌, Bool}
use Rattle.session_state.specs.Terms.{MAX_ITEMS, Heap, Before, nothing_before, Rules, Keeping, Options}

-- each number is in its range
pub record AreInRange (options : Options) : Type 0 where
  pub hold : options.hold ≤ 1000
  pub some_ring : 1 ≤ options.ring
  pub few_ring : options.ring ≤ 16
  pub some_every : 1 ≤ options.every
  pub few_every : options.every ≤ 64
  pub some_frames : 2 ≤ options.frames
  pub few_frames : options.frames ≤ 16
  pub some_budget : 1 ≤ options.budget
  pub few_budget : options.budget ≤ 2 ^ 36
  pub some_keep : 1 ≤ options.keep
  pub some_items : 1 ≤ options.max_items
  pub few_items : options.max_items ≤ MAX_ITEMS
  pub some_events : 1 ≤ options.max_events
  pub few_events : options.max_events ≤ 2 ^ 32

-- how a session with these options keeps its checkpoints
abbrev pub keeping_for : Options → Keeping
keeping_for options = record { ring = options.ring; every = options.every; pages = options.window / 4096; frames = options.frames * (options.window / 4096) }

-- what a session with these options allows its guest, by an access rule, and its link, where this came before it, and where so many items more have to be
-- taken before a reply is passed
abbrev pub rules_in : Options → Before → ℕ → (Heap → ℕ → ℕ → Bool) → Rules
rules_in options before hold permits = record {
  limits = record { budget = options.budget; permits = permits; keep = options.keep; base = options.base };
  bounds = record { framing = options.frame; max_items = options.max_items; max_events = options.max_events; before = before };
  hold = hold;
}

-- so it is where nothing came before it, and as many items have to be taken as its options say
abbrev pub rules_of : Options → (Heap → ℕ → ℕ → Bool) → Rules
rules_of options permits = rules_in options nothing_before options.hold permits
