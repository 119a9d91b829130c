use Rattle.elf_file.proofs.Terms.{ap, drop, length, subst, sym, ◌++◌, ◌+◌, ◌∙◌, take_all, All-more, All-same, Segment, HasWordFlags, file_bytes}
use Rattle.elf_file.specs.Written.{program_headers}
use Rattle.elf_file.proofs.Written.{headers_more, place_more}
use Rattle.elf_file.proofs.writing.write_program_headers.Goals as goal

pub segments-preserved : goal.segments-preserved
segments-preserved c = record {
  rest =
      ap (λ n. c.write_program_header.new.file.items ++ program_headers (c.segments.offset + length n) (drop (c.segments.segment-index + 1) c.args.segments.now)) c.as_slice.ensures
      ∙ headers_more _ _ _ _ _ _ c.segment-item.result c.segments-test.true c.segment-item.is c.in_ok-write_program_header.ensures.value c.segments.invariant.rest;
  place =
      ap (λ n. c.segments.offset + length n + length (file_bytes (drop (c.segments.segment-index + 1) c.args.segments.now))) c.as_slice.ensures
      ∙ place_more _ _ _ _ c.segment-item.result c.segments-test.true c.segment-item.is c.segments.invariant.place;
  flags =
      All-more HasWordFlags _ _ c.segment-item.result c.segments-test.true c.segments.invariant.flags
      (subst (λ (s : Segment). HasWordFlags s) c.segment-item.is c.in_ok-write_program_header.ensures.flags);
}

pub returns-clause-flags : goal.returns-clause-flags
returns-clause-flags c = All-same HasWordFlags _ _ (sym (take_all c.segments.segment-index c.args.segments.now c.segments-test.false)) c.segments.invariant.flags
