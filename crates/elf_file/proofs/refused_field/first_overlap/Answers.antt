use Rattle.elf_file.proofs.Terms.{ap, arith, map, ◌+◌, ◌-◌, ◌/◌, ◌∙◌, ◌≡◌, All-same, filter, HasBytes, is_loaded, place_of, first_places}
use Rattle.elf_file.proofs.Prefixes.{full_first, overlap-none, overlap_some, overlap-all}
use Rattle.elf_file.proofs.refused_field.first_overlap.Goals as goal

pub halves-init : goal.halves-init
halves-init c = record {
  before = overlap-none c.args.headers.now;
  reached = overlap-all c.args.headers.now c.requires.overlap;
  order = overlap_some c.args.headers.now c.requires.overlap;
  within = omega arith;
}

pub has_overlap-requires : goal.has_overlap-requires
has_overlap-requires c =
    let places : c.deref.result.now ≡ first_places (c.halves.low + (c.halves.high - c.halves.low) / 2) c.args.headers.now =
    c.deref.ensures.value ∙ c.in_ok-places.ensures ∙ ap (λ hs. map place_of (filter is_loaded hs)) c.split_at.ensures.front in
    All-same HasBytes _ _ places (full_first _ c.args.headers.now c.requires.full)
