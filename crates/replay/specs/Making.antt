-- A player that was just made.
use Rattle.std.specs.Prelude.{◌≡◌, ◌^◌, [], None}
use Rattle.item_log.specs.Log as logs
use Rattle.replay.specs.Terms.{MAX_ITEMS, Framing, empty_log, Image, no_connections, start_standing}
use Rattle.replay.specs.declared.player.Player.{Player}

-- its guest stands at the start, no event came, no answer of the allocator was used, and nothing differs
pub record IsMade (image : Image) (framing : Framing) (player : Player) : Type 0 where
  pub live : player.cpu.slots.live ≡ start_standing image
  pub log : player.log ≡ empty_log framing MAX_ITEMS
  pub shows : logs.Shows framing [] player.log
  pub events : player.events ≡ 0
  pub gone : player.gone ≡ no_connections
  pub choices : player.choices.items ≡ []
  pub difference : player.difference ≡ None
