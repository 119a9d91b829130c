use Rattle.std.proofs.lemmas.Iterator.Search.{find_from_yields_List}
use Rattle.std.proofs.lemmas.Iterator.Consumers.{YieldsList-from_rest}
use Rattle.block_book.proofs.Terms.{Bool, ap, of_calls, rules, ◌∙◌, Freed, extent_end, extent_start, lies_in, freed_at}
use Rattle.block_book.proofs.book.Book.freed_at.Goals as goal

pub returns : goal.returns
returns c =
    let has : Freed → Bool = λ freed. lies_in c.args.at 1 (extent_start freed.block) (extent_end freed.block) in
    c.copied.ensures
    ∙ find_from_yields_List has _ _ _ c.find.ensures.ran (YieldsList-from_rest c.self.inside.freed.items c.iter.ensures.rest) (λ x b q h. search (rules, of_calls))
    ∙ ap (λ h. freed_at h c.args.at) c.self.view_is
