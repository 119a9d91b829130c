-- The payload of what a trunk's session wrote is what its account says was passed.
use Rattle.links.specs.declared.journal.Entry.TheVariants as entry
use Rattle.routes.proofs.Terms.{Bool, List, Option, Some, [], ap, if◌then◌else◌, length, refl, sym, ℕ, ◌++◌, ◌==◌, ◌∙◌, ◌∷◌, ◌≡◌, Appends, sent_to, Entry, Grew, pieces_in, count_after, given_to, told_pieces, sent_to-append, Bounds, passed_behind, Carried}
use Rattle.routes.proofs.WriteLemmas.{Short, pieces_told}

-- the pieces of a journal have for each connection what was passed to it
given_passed : (bounds : Bounds) (conn : ℕ) (before entries : List Entry) → given_to conn (pieces_in entries) ≡ sent_to conn (passed_behind bounds before entries)
given_passed bounds conn before [] = refl
given_passed bounds conn before (entry.Took event ∷ entries) = given_passed bounds conn (before ++ entry.Took event ∷ []) entries
given_passed bounds conn before (entry.Gave to bytes gone ∷ entries) =
    ap (λ l. (if to == conn then bytes else []) ++ l) (given_passed bounds conn (before ++ entry.Gave to bytes gone ∷ []) entries)

-- and so has the payload of the bytes that were written, behind what clients had before
pub carried : (bounds : Bounds) (old : List ℕ) (new : Option (List ℕ)) (wrote : ℕ) (gives : Bool) (entries : List Entry) (bytes : List ℕ) → Short new → Appends (Some old) new bytes → wrote ≡ count_after 0 (length bytes)
    → Grew (Some []) (told_pieces new wrote gives) (pieces_in entries) → Carried bounds (Some old) new entries
carried bounds old new wrote gives entries bytes few gained count grew = record {
  written = bytes;
  wrote = gained;
  payload_is = λ conn. ap (λ (more : List ℕ). sent_to conn bounds.before.had ++ more) (ap (given_to conn) (pieces_told old new wrote gives (pieces_in entries) bytes few gained count grew) ∙ given_passed bounds conn [] entries)
      ∙ sym (sent_to-append conn bounds.before.had (passed_behind bounds [] entries));
}
