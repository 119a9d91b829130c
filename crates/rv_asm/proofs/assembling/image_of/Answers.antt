use Rattle.rv_asm.proofs.Terms.{List, ap, length, rules, subst, sym, ◌<◌, ◌^◌, ◌∙◌, ◌≡◌, All-same, Segment, IsPlaced, layout_refusal, text_start}
use Rattle.rv_asm.proofs.Images.{segments_of, accepted, all_placed, few}
use Rattle.rv_asm.proofs.assembling.image_of.Goals as goal

pub invariant_of-result : goal.invariant_of-result
invariant_of-result c =
    let size = c.args.layout.now.text_size in
    let code = c.args.sections.code in
    let variables = c.args.sections.variables in
    let same : c.from_vec.result ≡ segments_of size code variables = search rules in
    record {
      in_window = c.requires.window;
      placed = All-same IsPlaced _ _ same (all_placed size code variables c.requires.small);
      few = subst (λ (segments : List Segment). length segments < 2 ^ 16) (sym same) (few size code variables);
      accepted = ap (layout_refusal text_start c.args.window) same ∙ accepted size c.args.window code variables c.requires.small c.requires.window;
    }
