use Rattle.elf_file.proofs.Terms.{List, None, Some, ap₂, arith, length, map, refl, rules, sym, ℕ, ◌∙◌, ◌≡◌, All-same, filter, Segment, HasBytes, IsPlaced, layout_refusal, is_loaded, place_of, program_headers, segment_of, header_refusal, table_refusal}
use Rattle.elf_file.proofs.Refusing.{header_lies, few_segments, segments_unrefused, all_placed, all_full, segments_are, layout_is, refused_by_header, refused_by_table, refused_by_layout}
use Rattle.elf_file.proofs.reading.read_image.Goals as goal

pub returns-in-Some-clause-refused : goal.returns-in-Some-clause-refused
returns-in-Some-clause-refused c = refused_by_header _ _ _ (search rules)

pub returns-in-Some-refusal_of_table-clause-refused : goal.returns-in-Some-refusal_of_table-clause-refused
returns-in-Some-refusal_of_table-clause-refused c =
    let h : header_refusal c.args.bytes.now ≡ None = search rules in
    let t : table_refusal (length c.args.bytes.now) (program_headers c.args.bytes.now) ≡ Some c.in-Some-refusal_of_table.number = search rules in
    refused_by_table _ _ _ h t

pub word_at-entry-requires : goal.word_at-entry-requires
word_at-entry-requires c =
    let h : header_refusal c.args.bytes.now ≡ None = search rules in
    omega (arith, header_lies _ h)

pub refusal_of_layout-requires-clause-full : goal.refusal_of_layout-requires-clause-full
refusal_of_layout-requires-clause-full c =
    let t : table_refusal (length c.args.bytes.now) c.in_ok-headers.headers.items ≡ None = search rules in
    let places : c.deref-3.result.now ≡ map place_of (filter is_loaded c.in_ok-headers.headers.items) = search rules in
    All-same HasBytes _ _ places (all_full _ _ (segments_unrefused _ _ t))

pub returns-in-Some-2-clause-refused : goal.returns-in-Some-2-clause-refused
returns-in-Some-2-clause-refused c =
    let h : header_refusal c.args.bytes.now ≡ None = search rules in
    let t : table_refusal (length c.args.bytes.now) (program_headers c.args.bytes.now) ≡ None = search rules in
    let places : c.deref-3.result.now ≡ map place_of (filter is_loaded c.in_ok-headers.headers.items) = search rules in
    refused_by_layout _ _ _ h t (layout_is _ _ _ _ _ _ c.in_ok-headers.ensures.value places c.word_at-entry.ensures (sym c.in-Some-2.is ∙ c.in_ok-number.ensures))

pub invariant_of-result : goal.invariant_of-result
invariant_of-result c =
    let t : table_refusal (length c.args.bytes.now) c.in_ok-headers.headers.items ≡ None = search rules in
    let places : c.deref-3.result.now ≡ map place_of (filter is_loaded c.in_ok-headers.headers.items) = search rules in
    let segments : c.from_vec-segments.result ≡ map (segment_of c.args.bytes.now) (filter is_loaded c.in_ok-headers.headers.items) = search rules in
    let none : c.in_ok-number.field-0 ≡ None = search rules in
    record {
      in_window = c.requires;
      few = few_segments _ _ c.in_ok-headers.headers.items _ segments c.in_ok-headers.ensures.few;
      placed = All-same IsPlaced _ _ segments (all_placed _ _ (segments_unrefused _ _ t));
      accepted =
          ap₂ (λ (entry : ℕ) (segments : List Segment). layout_refusal entry c.args.window segments) c.word_at-entry.ensures (segments_are _ _ _ c.in_ok-headers.ensures.value segments)
          ∙ layout_is _ _ _ _ _ _ c.in_ok-headers.ensures.value places c.word_at-entry.ensures (sym none ∙ c.in_ok-number.ensures);
    }

pub returns-clause-image : goal.returns-clause-image
returns-clause-image c =
    let h : header_refusal c.args.bytes.now ≡ None = search rules in
    let t : table_refusal (length c.args.bytes.now) (program_headers c.args.bytes.now) ≡ None = search rules in
    let places : c.deref-3.result.now ≡ map place_of (filter is_loaded c.in_ok-headers.headers.items) = search rules in
    let segments : c.from_vec-segments.result ≡ map (segment_of c.args.bytes.now) (filter is_loaded c.in_ok-headers.headers.items) = search rules in
    let none : c.in_ok-number.field-0 ≡ None = search rules in
    record {
      accepted = refused_by_layout _ _ _ h t (layout_is _ _ _ _ _ _ c.in_ok-headers.ensures.value places c.word_at-entry.ensures (sym none ∙ c.in_ok-number.ensures));
      entry = c.word_at-entry.ensures;
      in_window = refl;
      segments = segments_are _ _ _ c.in_ok-headers.ensures.value segments;
    }
