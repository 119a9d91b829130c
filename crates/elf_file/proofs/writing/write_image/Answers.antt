use Rattle.elf_file.proofs.Terms.{List, rules, subst, sym, ℕ, ◌≡◌, All-same, HasWordFlags, written, IsImage}
use Rattle.elf_file.proofs.RoundTrip.{round_trip, file_bytes-fit}
use Rattle.elf_file.proofs.writing.write_image.Goals as goal

pub write_program_headers-requires-clause-bytes : goal.write_program_headers-requires-clause-bytes
write_program_headers-requires-clause-bytes c = rw c.as_slice-segments.ensures (file_bytes-fit c.args.image.now)

pub returns-clause-round_trip : goal.returns-clause-round_trip
returns-clause-round_trip c =
    let bytes : c.write_segments.new.file.items ≡ written c.args.image.now = search rules in
    subst (λ (v : List ℕ). IsImage v c.args.image.now.window c.args.image.now) (sym bytes)
    (round_trip c.args.image.now (All-same HasWordFlags _ _ (sym c.as_slice-segments.ensures) c.in_ok-write_program_headers.ensures.flags))
