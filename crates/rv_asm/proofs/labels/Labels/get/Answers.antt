use Rattle.rv_asm.proofs.Terms.{ap, sym, ◌∙◌, spot_of}
use Rattle.rv_asm.proofs.Labelling.{spot_of-labels_in}
use Rattle.rv_asm.proofs.labels.Labels.get.Goals as goal

pub returns : goal.returns
returns c = c.copied.ensures ∙ c.get.ensures.value ∙ sym (spot_of-labels_in c.self.inside.spots.entries c.args.name.now) ∙ ap (λ labels. spot_of labels c.args.name.now) c.self.view_is
