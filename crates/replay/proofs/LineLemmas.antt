-- Answers of the allocator, and the lines that tell of them.
use Rattle.replay.proofs.Terms.{List, None, Option, Some, [], ap, arith, inl, inr, length, map, refl, subst, suc, sym, zero, ℕ, ◌++◌, ◌<◌, ◌∙◌, ◌∷◌, ◌≡◌, ◌≤◌, length-map, none-some, same_Some, slice_get, unwrap_or, Ask, Choice, Line, line_of, AreOfLines, HasAsk, IsOfLine, choice_by, AreLinesOf, bare_line}

-- there are no more of them than lines
pub few_lines : (lines : List Line) (choices : List Choice) → AreOfLines lines choices → length choices ≤ length lines
few_lines lines [] are = omega arith
few_lines [] (choice ∷ choices) are = absurd are
few_lines (line ∷ lines) (choice ∷ choices) are = let rest = few_lines lines choices are.1 in omega (arith, rest)

-- the line of an answer has its number
pub line_at : (lines : List Line) (choices : List Choice) (n : ℕ) {choice : Choice} → AreOfLines lines choices → slice_get choices n ≡ Some choice → (line : Line) × (slice_get lines n ≡ Some line) × IsOfLine line choice
line_at lines [] n {choice = choice} are here = absurd (none-some choice here)
line_at [] (first ∷ choices) n are here = absurd are
line_at (line ∷ lines) (first ∷ choices) zero {choice = choice} are here = (line, refl, subst (IsOfLine line) (same_Some first choice here) are.0)
line_at (line ∷ lines) (first ∷ choices) (suc n) are here = line_at lines choices n are.1 here

-- one more answer is that of the next line
pub one_more_line : (lines : List Line) (choices : List Choice) {line : Line} {choice : Choice} → AreOfLines lines choices → slice_get lines (length choices) ≡ Some line → IsOfLine line choice → AreOfLines lines (choices ++ choice ∷ [])
one_more_line [] [] {line = line} are here is = absurd (none-some line here)
one_more_line (first ∷ lines) [] {line = line} {choice = choice} are here is = (subst (λ (l : Line). IsOfLine l choice) (sym (same_Some first line here)) is, tt)
one_more_line [] (last ∷ choices) are here is = absurd are
one_more_line (first ∷ lines) (last ∷ choices) are here is =
    let more : length (last ∷ choices) ≡ suc (length choices) = omega arith in
    (are.0, one_more_line lines choices are.1 (sym (ap (slice_get (first ∷ lines)) more) ∙ here) is)

-- two answers of one line to the same ask are the same
pub same_answer : {line : Line} {one other : Choice} → IsOfLine line one → IsOfLine line other → one.ask ≡ other.ask → one ≡ other
same_answer {one = one} {other = other} first second asked =
    let at : one.at ≡ other.at = first.address ∙ sym second.address in
    let zeroed : one.zeroed ≡ other.zeroed = first.mark ∙ sym second.mark in
    let carried : one.carried ≡ other.carried = first.carried ∙ sym second.carried in
    λ i. record { ask = asked i; at = at i; zeroed = zeroed i; carried = carried i }

-- an answer to an ask is the one that its line tells of there
asked_by : (known : Option Ask) (choice : Choice) {ask : Ask} → HasAsk known choice → choice.ask ≡ ask → choice.ask ≡ unwrap_or known ask
asked_by None choice has is = is
asked_by (Some known) choice has is = has

pub choice_is : {line : Line} {choice : Choice} {ask : Ask} → IsOfLine line choice → choice.ask ≡ ask → choice ≡ choice_by ask line
choice_is {line = line} {choice = choice} {ask = ask} is asked =
    let same : choice.ask ≡ unwrap_or line.ask ask = asked_by line.ask choice is.asked asked in
    let at = is.address in
    let mark = is.mark in
    let carried = is.carried in
    λ i. record { ask = same i; at = at i; zeroed = mark i; carried = carried i }

-- and that is one of its line
has_own : (known : Option Ask) (choice : Choice) (ask : Ask) → choice.ask ≡ unwrap_or known ask → HasAsk known choice
has_own None choice ask is = tt
has_own (Some known) choice ask is = is

pub by_is_of : (ask : Ask) (line : Line) → IsOfLine line (choice_by ask line)
by_is_of ask line = record { asked = has_own line.ask (choice_by ask line) ask refl; address = refl; mark = refl; carried = refl }

-- answers are those of their own lines, in both versions
of_written : (choices : List Choice) → AreOfLines (map line_of choices) choices
of_written [] = tt
of_written (choice ∷ choices) = (record { asked = refl; address = refl; mark = refl; carried = refl }, of_written choices)

of_bare : (choices : List Choice) → AreOfLines (map bare_line choices) choices
of_bare [] = tt
of_bare (choice ∷ choices) = (record { asked = tt; address = refl; mark = refl; carried = refl }, of_bare choices)

pub of_own : (lines : List Line) (choices : List Choice) → AreLinesOf lines choices → AreOfLines lines choices
of_own lines choices (inl is) = subst (λ (all : List Line). AreOfLines all choices) (sym is) (of_written choices)
of_own lines choices (inr is) = subst (λ (all : List Line). AreOfLines all choices) (sym is) (of_bare choices)

pub as_many : (lines : List Line) (choices : List Choice) → AreLinesOf lines choices → length choices ≡ length lines
as_many lines choices (inl is) = sym (ap length is ∙ length-map choices line_of)
as_many lines choices (inr is) = sym (ap length is ∙ length-map choices bare_line)

-- answers that agree at each number are the same
pub same_answers : (ones others : List Choice) → length ones ≡ length others → ((i : ℕ) → i < length ones → slice_get ones i ≡ slice_get others i) → ones ≡ others
same_answers [] [] many each = refl
same_answers [] (other ∷ others) many each = absurd (omega (arith, many))
same_answers (one ∷ ones) [] many each = absurd (omega (arith, many))
same_answers (one ∷ ones) (other ∷ others) many each =
    let here : one ≡ other = same_Some one other (each 0 (omega arith)) in
    let rest : ones ≡ others = same_answers ones others (omega (arith, many)) (λ i low. each (suc i) (omega (arith, low))) in
    λ i. here i ∷ rest i
