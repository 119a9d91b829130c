use Rattle.indexmap.proofs.CallerLemmas.{insert_entry-new}
use Rattle.rv_asm.proofs.Terms.{[], ap, sym, ◌++◌, ◌∙◌, ◌∷◌, definition_of, spot_of}
use Rattle.rv_asm.proofs.Labelling.{labels_in, spot_of-labels_in, labels_in-append}
use Rattle.rv_asm.proofs.labels.Labels.push.Goals as goal

pub returns : goal.returns
returns c =
    ap labels_in (c.in_ok-insert.ensures.entries ∙ insert_entry-new _ c.self.inside.spots c.args.name c.args.spot (sym (spot_of-labels_in c.self.inside.spots.entries c.args.name.now) ∙ ap (λ labels. spot_of labels c.args.name.now) c.self.view_is ∙ c.requires))
    ∙ labels_in-append c.self.inside.spots.entries c.args.name c.args.spot
    ∙ ap (λ labels. labels ++ definition_of c.args.name.now c.args.spot ∷ []) c.self.view_is
