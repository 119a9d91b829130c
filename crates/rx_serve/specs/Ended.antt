-- What an end says of a command.
use Rattle.std.specs.Prelude.{◌≡◌, []}
use Rattle.rx_serve.specs.declared.ending.End.{End}

-- an end without a session: nothing was recorded, run or taken
pub record HasNoSession (end : End) : Type 0 where
  pub recorded : end.recorded ≡ 0
  pub tail : end.tail ≡ []
  pub steps : end.steps ≡ 0
  pub taken : end.taken ≡ 0
