use Rattle.elf_file.proofs.Terms.{ap, map, rules, ◌+◌, ◌<◌, ◌^◌, ◌∙◌, ◌≡◌, ◌≤◌, filter, window_start, is_loaded, place_of}
use Rattle.elf_file.proofs.Found.{same_some}
use Rattle.elf_file.proofs.Reaches.{lowest_found, highest_found}
use Rattle.elf_file.proofs.refused_field.field_of_window.Goals as goal

pub returns-then-top-clause-found : goal.returns-then-top-clause-found
returns-then-top-clause-found c =
    let start : c.window_start-start.result ≡ window_start (map place_of (filter is_loaded c.args.headers.now)) =
    c.window_start-start.ensures ∙ ap window_start (c.deref.ensures.value ∙ c.in_ok-places.ensures) in
    let past : 2 ^ 32 ≤ c.window_start-start.result + c.args.window = search rules in
    same_some _ _ _ c.field_of_lowest.ensures.first
    ∙ lowest_found c.args.headers.now c.args.window c.window_start-start.result start c.requires.window.most past

pub returns-clause-found : goal.returns-clause-found
returns-clause-found c =
    let start : c.window_start-start.result ≡ window_start (map place_of (filter is_loaded c.args.headers.now)) =
    c.window_start-start.ensures ∙ ap window_start (c.deref.ensures.value ∙ c.in_ok-places.ensures) in
    let below : c.window_start-start.result + c.args.window < 2 ^ 32 = search rules in
    same_some _ _ _ c.field_of_highest.ensures.first
    ∙ highest_found c.args.headers.now c.args.window c.window_start-start.result _ c.requires.window start below (search rules)
