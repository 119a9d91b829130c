-- A report's lines as JSON: a compact object and a line feed. The keys are in the order of their bytes.
use Rattle.std.specs.Prelude.{ℕ, List, [], ◌∷◌, ◌++◌, map, codes}
use Rattle.serde_json.specs.Data.{Data, number, unsigned, string, array, object, Items, Members, member, no_members}
use Rattle.run_report.specs.Terms.{items_of, compact_text, Episode, Try, cause_text, eight_digits, env_word, tried_text}

unfoldable pub json_line : Data → List ℕ
json_line value = compact_text value ++ 10 ∷ []

-- a member with a number, and one with a text, before others
abbrev pub with_number : List ℕ → ℕ → Members → Members
with_number key n others = member key (number (unsigned n)) others

abbrev pub with_text : List ℕ → List ℕ → Members → Members
with_text key text others = member key (string text) others

abbrev pub head_data : Data
head_data = object (with_number (codes "report") 1 no_members)

abbrev pub try_data : Try → Data
try_data t =
    object
    (with_number (codes "checkpoint") t.checkpoint
    (with_text (codes "env") (env_word t.env)
    (with_text (codes "result") (tried_text t.tried)
    no_members)))

abbrev pub tries_data : List Try → Items
tries_data tries = items_of (map try_data tries)

-- an episode by its place from 0
abbrev pub episode_data : ℕ → Episode → Data
episode_data place e =
    object
    (with_text (codes "cause") (cause_text e.cause)
    (with_number (codes "failure") place
    (with_text (codes "pc") (eight_digits e.pc)
    (with_number (codes "point") e.point
    (member (codes "tries") (array (tries_data e.tries))
    no_members)))))

abbrev pub end_data : ℕ → ℕ → ℕ → Data
end_data status taken steps =
    object
    (with_number (codes "end") status
    (with_number (codes "steps") steps
    (with_number (codes "taken") taken
    no_members)))
