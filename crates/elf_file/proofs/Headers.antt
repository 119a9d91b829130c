-- The program headers of a file, as a list.
use Rattle.elf_file.proofs.Terms.{List, None, [], arith, length, length-append, refl, subst, suc, sym, zero, ℕ, ◌*◌, ◌+◌, ◌∷◌, ◌≡◌, e_phnum, e_phoff, header_at, headers_from, program_headers, header_refusal, HasTable}
use Rattle.elf_file.proofs.Refusing.{header_lies, table_lies}

pub length-headers_from : (offset count : ℕ) (bytes : List ℕ) → length (headers_from offset count bytes) ≡ count
length-headers_from offset zero bytes = refl
length-headers_from offset (suc count) bytes =
    omega (arith, length-append (headers_from offset count bytes) (header_at (offset + 32 * count) bytes ∷ []), length-headers_from offset count bytes)

length-program_headers : (bytes : List ℕ) → length (program_headers bytes) ≡ e_phnum bytes
unfolding program_headers
length-program_headers bytes = length-headers_from (e_phoff bytes) (e_phnum bytes) bytes

-- the program headers lie in a file whose ELF header isn't refused
pub has_table : (bytes : List ℕ) → header_refusal bytes ≡ None → HasTable bytes (length (program_headers bytes))
has_table bytes h =
    let counted : HasTable bytes (e_phnum bytes) = record { header = header_lies bytes h; table = table_lies bytes h } in
    subst (HasTable bytes) (sym (length-program_headers bytes)) counted
