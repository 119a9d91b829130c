-- How many instructions a session executes at most: a budget for each of its items, and one more each.
use Rattle.std.proofs.Common.{arith, ℕ, ◌*◌, ◌+◌, ◌<◌, ◌^◌, ◌≤◌}
use Rattle.std.proofs.lemmas.Nat.{mul-le}
use Rattle.rx_base.specs.declared.item.TheConstants.{MAX_ITEMS}

pub few_in_all : (items budget : ℕ) → items ≤ MAX_ITEMS → budget ≤ 2 ^ 36 → items * (budget + 1) < 2 ^ 57
few_in_all items budget few least = omega (arith, mul-le items (budget + 1) MAX_ITEMS (2 ^ 36 + 1) few (omega (arith, least)))
