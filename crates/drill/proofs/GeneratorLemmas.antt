-- The generator: a product and a sum that wrap, and one message more.
use Rattle.std.proofs.Math.Nat.{mod-add-mod, mod-lt}
use Rattle.std.proofs.lemmas.List.Folds.{list_any-append}
use Rattle.links.specs.declared.journal.LinkEvent.TheVariants as event
use Rattle.drill.proofs.Terms.{List, [], ap, append-nil, append_assoc, arith, false, mul_comm, refl, subst, suc, sym, true, zero, ℕ, ◌%◌, ◌&&◌, ◌*◌, ◌++◌, ◌+◌, ◌-◌, ◌<◌, ◌^◌, ◌||◌, ◌∙◌, ◌∷◌, ◌≡◌, ◌≤◌, list_any, LinkEvent, is_in_order, Phases, phases_after, closing, drawn, drill_events, is_end, line_of, message, messages, next_state, second_state, third_state, are_in_order, none_opened}

-- the next state, by a product and a sum that each wrap
pub wrapped : (state : ℕ) → (((state * 1664525) % 2 ^ 32) + 1013904223) % 2 ^ 32 ≡ next_state state
unfolding next_state
wrapped state = mod-add-mod (state * 1664525) (2 ^ 32) 1013904223 ∙ ap (λ n. (n + 1013904223) % 2 ^ 32) (mul_comm state 1664525)

-- one message more stands behind those so far, and one fewer is to come
pub one_more_message : (events : List LinkEvent) (left state : ℕ) (whole : List LinkEvent) → events ++ messages (suc left) state ≡ whole → (events ++ message state ∷ []) ++ messages left (third_state state) ≡ whole
unfolding messages
one_more_message events left state whole is = append_assoc events (message state ∷ []) (messages left (third_state state)) ∙ is

-- the same by how many were made, and by what the code has
pub message_made : (events more : List LinkEvent) (event : LinkEvent) (count made state later : ℕ) (whole : List LinkEvent) → more ≡ events ++ event ∷ [] → event ≡ message state → later ≡ third_state state → made < count
    → events ++ messages (count - made) state ≡ whole → more ++ messages (count - (made + 1)) later ≡ whole
message_made events more event count made state later whole pushed is behind below so_far =
    let left : count - made ≡ suc (count - (made + 1)) = omega arith in
    ap (λ l. l ++ messages (count - (made + 1)) later) (pushed ∙ ap (λ e. events ++ e ∷ []) is)
    ∙ ap (λ n. (events ++ message state ∷ []) ++ messages (count - (made + 1)) n) behind
    ∙ one_more_message events (count - (made + 1)) state whole (subst (λ n. events ++ messages n state ≡ whole) left so_far)

-- none is to come any more
pub all_made : (events : List LinkEvent) (count made state : ℕ) (whole : List LinkEvent) → count ≤ made → events ++ messages (count - made) state ≡ whole → events ≡ whole
unfolding messages
all_made events count made state whole done is =
    let none : count - made ≡ 0 = omega arith in
    sym (append-nil events) ∙ subst (λ n. events ++ messages n state ≡ whole) none is

-- four events, one behind the other
pub four_more : (events : List LinkEvent) (a b c d : LinkEvent) → (((events ++ a ∷ []) ++ b ∷ []) ++ c ∷ []) ++ d ∷ [] ≡ events ++ a ∷ b ∷ c ∷ d ∷ []
four_more events a b c d =
    ap (λ l. (l ++ c ∷ []) ++ d ∷ []) (append_assoc events (a ∷ []) (b ∷ [])) ∙ ap (λ l. l ++ d ∷ []) (append_assoc events (a ∷ b ∷ []) (c ∷ [])) ∙ append_assoc events (a ∷ b ∷ c ∷ []) (d ∷ [])

-- no event of a drill says that none is left
messages_go_on : (count state : ℕ) → list_any is_end (messages count state) ≡ false
unfolding messages
messages_go_on zero state = refl
messages_go_on (suc count) state = messages_go_on count (third_state state)

pub drill_goes_on : (seed count : ℕ) → list_any is_end (drill_events seed count) ≡ false
unfolding drill_events
drill_goes_on seed count = list_any-append is_end (messages count seed) closing ∙ ap (λ b. b || list_any is_end closing) (messages_go_on count seed)

-- the phases of connections behind the opening: four are open
abbrev opened : Phases
opened = phases_after (event.Opens 3) (phases_after (event.Opens 2) (phases_after (event.Opens 1) (phases_after (event.Opens 0) none_opened)))

takes_four : (conn : ℕ) (line : List ℕ) → conn < 4 → is_in_order opened (event.Piece conn line) ≡ true
takes_four zero line below = refl
takes_four (suc zero) line below = refl
takes_four (suc (suc zero)) line below = refl
takes_four (suc (suc (suc zero))) line below = refl
takes_four (suc (suc (suc (suc conn)))) line below = absurd (omega arith)

-- each message is in order while the four are open, and so is what comes behind them
messages_in_order : (count state : ℕ) (more : List LinkEvent) → are_in_order opened more ≡ true → are_in_order opened (messages count state ++ more) ≡ true
unfolding messages
messages_in_order zero state more is = is
messages_in_order (suc count) state more is =
    ap (λ b. b && are_in_order opened (messages count (third_state state) ++ more)) (takes_four (drawn state % 4) (line_of (drawn (next_state state)) (drawn (second_state state))) (mod-lt (drawn state) (omega arith)))
    ∙ messages_in_order count (third_state state) more is

pub drill_in_order : (seed count : ℕ) → are_in_order none_opened (drill_events seed count) ≡ true
unfolding drill_events
drill_in_order seed count = messages_in_order count seed closing refl
