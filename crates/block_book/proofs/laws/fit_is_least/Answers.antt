use Rattle.block_book.proofs.Fitting.{fit-least}
use Rattle.block_book.proofs.laws.fit_is_least.Goals as goal

pub returns : goal.returns
returns c = fit-least
