-- A line is read as the value that it was written of, and as no other: for any form.
use Rattle.std.proofs.lemmas.Option.{same_Some}
use Rattle.std.proofs.lemmas.Slice.Eq.{bytes_eq-Decides}
use Rattle.text_lines.proofs.Terms.{Bool, List, None, Option, Some, cond, false, refl, sym, true, ℕ, ◌&&◌, ◌≡◌, bytes_eq}
use Rattle.text_lines.specs.Written.{if_written}

by_test : {Value : Type 0} (test same : Bool) (told value : Value) → cond (test && same) (Some told) None ≡ Some value → (test ≡ true) × (same ≡ true) × (told ≡ value)
by_test true true told value h = (refl, refl, same_Some _ _ h)
by_test true false told value h = absurd (cc)
by_test false same told value h = absurd (cc)

pub written_sound : {Value : Type 0} (test : Value → Bool) (write : Value → List ℕ) (told : Value) (line : List ℕ) (value : Value) → if_written test write told line ≡ Some value → (test value ≡ true) × (write value ≡ line)
written_sound test write told line value h =
    let parts = by_test (test told) (bytes_eq (write told) line) told value h in
    (rw (sym parts.2) parts.0, rw (sym parts.2) ((bytes_eq-Decides (write told) line).0 parts.1))

pub written_complete : {Value : Type 0} (test : Value → Bool) (write : Value → List ℕ) (told value : Value) → test value ≡ true → told ≡ value → if_written test write told (write value) ≡ Some value
written_complete test write told value ok same = rw same (rw (ok, (bytes_eq-Decides (write value) (write value)).1 refl) refl)

pub not_in_range : {Value : Type 0} (test : Value → Bool) (write : Value → List ℕ) (told : Value) (line : List ℕ) → test told ≡ false → None ≡ if_written test write told line
not_in_range test write told line h = rw h refl

pub by_same : {Value : Type 0} (test : Value → Bool) (write : Value → List ℕ) (told value : Value) (line : List ℕ) (same : Bool) → told ≡ value → test value ≡ true → bytes_eq (write value) line ≡ same → if_written test write told line ≡ cond same (Some value) None
by_same test write told value line same is ok h = rw is (rw (ok, h) refl)

pub by_option : {Value : Type 0} (o : Option Value) → ((value : Value) → o ≡ Some value → ⊥) → o ≡ None
by_option None h = refl
by_option (Some value) h = absurd (h value refl)
