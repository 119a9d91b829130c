-- The settings of a session, by the ranges of its command's numbers.
use Rattle.command_line.specs.Ranges.{AreInRange as RangesHold}
use Rattle.guest_image.specs.Layout.{IsWindow}
use Rattle.rx_serve.proofs.Terms.{arith, subst, sym, ◌<◌, ◌^◌, ◌≡◌, ◌≤◌, Options, AreInRange, RunValue, ServeValue, StandbyValue, serve, standby, HasRanges, conns_row, port_row, options_of}

pub window_few : (value : RunValue) → RangesHold value → value.window ≤ 64
window_few value (window, others) = window.1

pub window_is : (value : RunValue) → RangesHold value → (options : Options) → options ≡ options_of value → IsWindow options.window
window_is value (window, others) options is =
    let least = window.0 in
    let most = window.1 in
    subst (λ (o : Options). IsWindow o.window) (sym is) (record { whole = omega arith; least = omega arith; most = omega arith })

pub options_in_range : (value : RunValue) → RangesHold value → (options : Options) → options ≡ options_of value → AreInRange options
options_in_range value (window, (hold, (ring, (every, (frames, (budget, (keep, others))))))) options is =
    subst AreInRange (sym is) (record {
      hold = hold.1;
      some_ring = ring.0;
      few_ring = ring.1;
      some_every = every.0;
      few_every = every.1;
      some_frames = frames.0;
      few_frames = frames.1;
      some_budget = budget.0;
      few_budget = budget.1;
      some_keep = keep.0;
      some_items = omega arith;
      few_items = omega arith;
      some_events = omega arith;
      few_events = omega arith;
    })

-- a port, and a number of connections
pub port_few : (value : ServeValue) → HasRanges (serve value) → value.port < 2 ^ 16
unfolding port_row
port_few value ((port, others), none) =
    let most = port.1 in
    omega arith

pub conns_few : (value : ServeValue) → HasRanges (serve value) → (1 ≤ value.conns) × (value.conns ≤ 4096)
unfolding conns_row
conns_few value ((port, (conns, others)), none) = conns

-- the budget of a takeover
pub budget_few : (value : StandbyValue) → HasRanges (standby value) → (1 ≤ value.budget) × (value.budget ≤ 2 ^ 36)
budget_few value (budget, others) = budget

-- and of clients at the same time
pub at_once_few : (value : ServeValue) → HasRanges (serve value) → (1 ≤ value.at_once) × (value.at_once ≤ 256)
at_once_few value ((port, (conns, (window, (ring, (every, (frames, (budget, (keep, (patience, (at_once, others)))))))))), none) = at_once
