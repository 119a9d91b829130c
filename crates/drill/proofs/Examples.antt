-- The generator at values that are worked out by hand.
use Rattle.links.specs.declared.journal.LinkEvent.TheVariants as event
use Rattle.drill.proofs.Terms.{[], codes, refl, ◌++◌, ◌∷◌, ◌≡◌, digits, failing_line, get_line, line_of, message, next_state, set_line, third_state}

first_state : next_state 0 ≡ 0x3c6ef35f
unfolding next_state
first_state = refl

second_state : next_state 0x3c6ef35f ≡ 0x47502932
unfolding next_state
second_state = refl

third : next_state 0x47502932 ≡ 0xd1ccf6e9
unfolding next_state
third = refl

-- with the seed 0 the first message is a get over connection 2, and the third is a set there
first_message : message 0 ≡ event.Piece 2 (codes "get k6" ++ 10 ∷ [])
unfolding next_state get_line digits
first_message = refl

third_message : message (third_state (third_state 0)) ≡ event.Piece 2 (codes "set k45 v277" ++ 10 ∷ [])
unfolding next_state set_line digits
third_message = refl

-- a number that 64 divides makes the line at which the server fails, whatever the key is
failing : line_of 7 128 ≡ codes "set aaaaaaaaaaaaaaaaaaaaaaaaaaaaaaaaaaaaaaaa z" ++ 10 ∷ []
unfolding failing_line
failing = refl
