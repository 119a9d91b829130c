use Rattle.command_line.proofs.Terms.{drop, map, ◌≡◌, find, option_map, bytes_eq, CommandForm, form_read}
use Rattle.command_line.proofs.command.name_among.Given as goal

abbrev pub invariant-loop-row : goal.invariant-loop-row
invariant-loop-row l =
    option_map (λ (form : CommandForm). form.which) (find (λ (form : CommandForm). bytes_eq form.name l.word) (map form_read (drop l.row-index l.rows)))
    ≡ option_map (λ (form : CommandForm). form.which) (find (λ (form : CommandForm). bytes_eq form.name l.word) (map form_read l.rows))
