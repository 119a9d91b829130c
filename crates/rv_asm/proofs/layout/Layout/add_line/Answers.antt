use Rattle.rv_asm.proofs.Terms.{ap, rules, sym, ◌∙◌, with_statement}
use Rattle.rv_asm.proofs.Flaws.{unread, out_of_place, repeated, no_words, bad_words, too_large, good_words, after_label, after_words}
use Rattle.rv_asm.proofs.layout.Layout.add_line.Goals as goal

pub returns-in_default : goal.returns-in_default
returns-in_default c = unread c.args.self.now c.args.last c.args.bytes.now (search rules)

pub returns-then-is_out_of_place : goal.returns-then-is_out_of_place
returns-then-is_out_of_place c = out_of_place c.args.self.now c.args.last c.args.bytes.now c.in-Some.line (search rules) (search rules)

pub returns-then-is_repeated : goal.returns-then-is_repeated
returns-then-is_repeated c = repeated c.args.self.now c.args.last c.args.bytes.now c.in-Some.line (search rules) (search rules) (search rules)

pub returns-in_default-words : goal.returns-in_default-words
returns-in_default-words c = (
  no_words c.args.self.now c.args.last c.args.bytes.now c.in-Some.line (search rules) (search rules) (search rules) (search rules),
  c.in_ok-add_label.ensures ∙ sym (after_label c.args.self.now c.args.bytes.now c.in-Some.line (search rules) (search rules)),
)

pub returns-in-Err : goal.returns-in-Err
returns-in-Err c = bad_words c.args.self.now c.args.last c.args.bytes.now c.in-Some.line c.in-Some-words.words c.in-Err.flaw (search rules) (search rules) (search rules) (search rules) (search rules)

pub returns-then-is_too_large : goal.returns-then-is_too_large
returns-then-is_too_large c = too_large c.args.self.now c.args.last c.args.bytes.now c.in-Some.line c.in-Some-words.words c.in-Ok.statement (search rules) (search rules) (search rules) (search rules) (search rules) (search rules)

pub returns : goal.returns
returns c = (
  good_words c.args.self.now c.args.last c.args.bytes.now c.in-Some.line c.in-Some-words.words c.in-Ok.statement (search rules) (search rules) (search rules) (search rules) (search rules) (search rules),
  c.in_ok-add_statement.ensures ∙ ap (with_statement c.in-Ok.statement) c.in_ok-add_label-2.ensures ∙ sym (after_words c.args.self.now c.args.bytes.now c.in-Some.line c.in-Some-words.words c.in-Ok.statement (search rules) (search rules) (search rules)),
)
