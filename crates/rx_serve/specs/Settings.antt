-- What a session is held to, by the command that asks for it.
use Rattle.std.specs.Prelude.{ℕ, ◌*◌, ◌^◌, Bool, true}
use Rattle.command_line.specs.declared.run_words.Guard.TheVariants as guarded
use Rattle.heap_guard.specs.declared.guard.GuardMode.TheVariants as mode
use Rattle.rx_serve.specs.Terms.{MAX_ITEMS, Heap, permits, Rules, Options, rules_of, Guard, RunValue}
use Rattle.rx_serve.specs.declared.settings.TheConstants.{MAX_EVENTS}

-- the bytes of the program's window
abbrev pub window_of : RunValue → ℕ
window_of value = value.window * 2 ^ 20

abbrev pub options_of : RunValue → Options
options_of value = record {
  window = window_of value;
  frame = value.frame;
  hold = value.hold;
  ring = value.ring;
  every = value.every;
  frames = value.frames;
  budget = value.budget;
  keep = value.keep;
  base = value.env;
  max_items = MAX_ITEMS;
  max_events = MAX_EVENTS;
}

-- What else has to hold of an access: nothing, so that the program's own memory alone refuses one; or what the guard of the heap permits.
abbrev pub rule_of : Guard → Heap → ℕ → ℕ → Bool
rule_of guarded.Off = λ heap at len. true
rule_of guarded.Extent = permits mode.Extent
rule_of guarded.Block = permits mode.Block

-- what a session allows its guest, by its guard, and its link
abbrev pub rules_of_run : RunValue → Rules
rules_of_run value = rules_of (options_of value) (rule_of value.guard)
