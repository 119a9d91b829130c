-- The definitions of lines at values that were worked out by hand from the assembler's rules.
use Rattle.asm_lines.proofs.Terms.{None, Some, [], refl, ◌++◌, ◌∷◌, ◌≡◌, codes, negsuc, pos, code_of, lines_of, decimal, hexadecimal, number_of, signed_decimal, register_of, register_table}

-- lines, with and without the last line feed
pub lines_split : lines_of (codes "a" ++ 10 ∷ 10 ∷ codes "bc") ∷ lines_of (codes "a" ++ 10 ∷ []) ∷ lines_of (10 ∷ []) ∷ lines_of [] ∷ []
    ≡ (codes "a" ∷ [] ∷ codes "bc" ∷ []) ∷ (codes "a" ∷ []) ∷ ([] ∷ []) ∷ ([] ∷ []) ∷ []
lines_split = refl

pub codes_of_lines : code_of (codes "  nop # rest") ∷ code_of (codes "# all") ∷ code_of (34 ∷ 35 ∷ 34 ∷ 35 ∷ []) ∷ code_of (34 ∷ 35 ∷ 9 ∷ []) ∷ [] ≡ codes "nop" ∷ [] ∷ (34 ∷ 35 ∷ 34 ∷ []) ∷ (34 ∷ 35 ∷ []) ∷ []
unfolding code_of
codes_of_lines = refl

pub numbers : number_of (codes "007") ∷ number_of (codes "-0") ∷ number_of (codes "-12") ∷ number_of (codes "0xfF") ∷ number_of (codes "0x00000001") ∷ number_of (codes "4294967296") ∷ []
    ≡ Some (pos 7) ∷ Some (pos 0) ∷ Some (negsuc 11) ∷ Some (pos 255) ∷ Some (pos 1) ∷ Some (pos 4294967296) ∷ []
unfolding number_of signed_decimal decimal hexadecimal
numbers = refl

pub no_numbers : number_of [] ∷ number_of (codes "-") ∷ number_of (codes "+1") ∷ number_of (codes "-0x1") ∷ number_of (codes "0X1") ∷ number_of (codes "0x") ∷ number_of (codes "0x123456789") ∷ number_of (codes "1a") ∷ number_of (codes "0xg") ∷ []
    ≡ None ∷ None ∷ None ∷ None ∷ None ∷ None ∷ None ∷ None ∷ None ∷ []
unfolding number_of signed_decimal decimal hexadecimal
no_numbers = refl

pub registers : register_of (codes "x31") ∷ register_of (codes "zero") ∷ register_of (codes "fp") ∷ register_of (codes "a7") ∷ register_of (codes "s11") ∷ register_of (codes "t6") ∷ register_of (codes "x32") ∷ register_of (codes "x01") ∷ register_of (codes "A0") ∷ []
    ≡ Some 31 ∷ Some 0 ∷ Some 8 ∷ Some 17 ∷ Some 27 ∷ Some 31 ∷ None ∷ None ∷ None ∷ []
unfolding register_of register_table
registers = refl
