use Rattle.command_line.proofs.Terms.{ap, false, refl, sym, true, ◌∙◌, ◌≡◌, is_dashed}
use Rattle.command_line.proofs.Taking.{positional_first, option_alone, option_first}
use Rattle.command_line.proofs.parts.next_part.Goals as goal

pub returns-then-not-begins_with_dash : goal.returns-then-not-begins_with_dash
returns-then-not-begins_with_dash c =
    let text = c.as_str-then-not-begins_with_dash in
    let same : text.result.now ≡ c.as_str.result.now = text.ensures.value ∙ sym c.as_str.ensures.value in
    let plain : is_dashed text.result.now ≡ false = ap is_dashed same ∙ sym c.begins_with_dash.ensures ∙ c.if-not-begins_with_dash.true in
    positional_first _ c.word-item.result text.result c.in-len1-up.len_at_least c.word-item.is text.ensures.value plain

pub returns-in-empty-rest : goal.returns-in-empty-rest
returns-in-empty-rest c =
    let text = c.as_str-in-empty-rest in
    let same : text.result.now ≡ c.as_str.result.now = text.ensures.value ∙ sym c.as_str.ensures.value in
    let dashed : is_dashed text.result.now ≡ true = ap is_dashed same ∙ sym c.begins_with_dash.ensures ∙ c.if-not-begins_with_dash.false in
    option_alone _ c.word-item.result text.result _ c.in-len1-up.len_at_least c.word-item.is text.ensures.value dashed refl c.in-empty-rest.len_below

pub returns-in-len1-up-rest : goal.returns-in-len1-up-rest
returns-in-len1-up-rest c =
    let text = c.as_str-in-len1-up-rest in
    let value = c.as_str-in-len1-up-rest-2 in
    let same : text.result.now ≡ c.as_str.result.now = text.ensures.value ∙ sym c.as_str.ensures.value in
    let dashed : is_dashed text.result.now ≡ true = ap is_dashed same ∙ sym c.begins_with_dash.ensures ∙ c.if-not-begins_with_dash.false in
    option_first _ _ c.word-item.result c.value-item.result text.result value.result c.in-len1-up.len_at_least c.word-item.is text.ensures.value dashed
    refl c.in-len1-up-rest.len_at_least c.value-item.is value.ensures.value
