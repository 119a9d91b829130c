-- What is known of each answer of the allocator that was noted.
use Rattle.std.specs.Prelude.{◌≡◌, true, List, All}
use Rattle.file_notes.specs.Terms.{Choice, is_ask}

-- the numbers of what was asked have 32 bits each
abbrev pub AreAsks : List Choice → Type 0
AreAsks choices = All (λ choice. is_ask choice.ask ≡ true) choices
