-- What stands in the two files at the end.
use Rattle.std.proofs.Common.{unwrap_or}
use Rattle.schedule_file.proofs.Same.{text-written}
use Rattle.file_notes.proofs.Terms.{List, Option, Some, [], ap, append-nil, append_assoc, length, sym, zero-add, ℕ, ◌++◌, ◌∙◌, ◌≡◌, Episode, Form, head_text, episode_texts}
use Rattle.file_notes.specs.Laws.{WholeTexts, WholeTextsBehind}
use Rattle.file_notes.proofs.TextLemmas.{texts_behind}

-- first a file was started, then it grew, and last it was ended
whole_of : (first middle last : List ℕ) (started noted now : Option (List ℕ)) → started ≡ Some first → unwrap_or noted [] ≡ unwrap_or started [] ++ (middle ++ []) → now ≡ Some (unwrap_or noted [] ++ last)
    → now ≡ Some (first ++ (middle ++ last))
whole_of first middle last started noted now start grew ended =
    ended ∙ ap (λ text. Some (text ++ last)) (grew ∙ ap (λ file. unwrap_or file [] ++ (middle ++ [])) start ∙ ap (λ more. first ++ more) (append-nil middle)) ∙ ap Some (append_assoc first middle last)

pub whole_texts : WholeTexts
whole_texts names window frame form before started noted now choices episodes status taken steps starts has ends = record {
  record_has = whole_of _ _ _ (started names.record_name) (noted names.record_name) (now names.record_name) starts.record_has has.record_has ends.record_has ∙ ap Some (sym (text-written window frame choices steps taken));
  report_has = whole_of _ _ _ (started names.report_name) (noted names.report_name) (now names.report_name) starts.report_has has.report_has ends.report_has;
  others = λ other a b. ends.others other a b ∙ has.others other a b ∙ starts.others other a b;
}

-- the texts of earlier episodes, of those behind them, and what follows
two_parts : (form : Form) (earlier episodes : List Episode) (last : List ℕ) → (head_text form ++ episode_texts form 0 earlier) ++ (episode_texts form (length earlier) episodes ++ last)
    ≡ head_text form ++ (episode_texts form 0 (earlier ++ episodes) ++ last)
two_parts form earlier episodes last =
    let front : List ℕ = episode_texts form 0 earlier in
    let back : List ℕ = episode_texts form (length earlier) episodes in
    append_assoc (head_text form) front (back ++ last)
    ∙ ap (λ l. head_text form ++ l) (sym (append_assoc front back last)
    ∙ ap (λ l. l ++ last) (ap (λ n. front ++ episode_texts form n episodes) (sym (zero-add (length earlier))) ∙ sym (texts_behind form 0 earlier episodes)))

pub whole_texts_behind : WholeTextsBehind
whole_texts_behind names window frame form before started noted now choices earlier episodes status taken steps starts has ends = record {
  record_has = whole_of _ _ _ (started names.record_name) (noted names.record_name) (now names.record_name) starts.record_has has.record_has ends.record_has ∙ ap Some (sym (text-written window frame choices steps taken));
  report_has =
      whole_of _ _ _ (started names.report_name) (noted names.report_name) (now names.report_name) starts.report_has has.report_has ends.report_has
      ∙ ap Some (two_parts form earlier episodes _);
  others = λ other a b. ends.others other a b ∙ has.others other a b ∙ starts.others other a b;
}
