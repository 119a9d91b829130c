use Rattle.session_following.proofs.Terms.{List, [], append-nil, get_or, length, subst, ℕ, ◌-◌, ◌∙◌, ◌∷◌, HasCounts}
use Rattle.session_following.proofs.Lacking.{last_line, none_before}
use Rattle.session_following.proofs.missing.put_lines.Goals as goal

pub lines-init : goal.lines-init
lines-init c = record { behind = []; whole = append-nil c.args.counts.now; few = c.requires.few; are = c.requires.none }

pub lines-preserved : goal.lines-preserved
lines-preserved c = record {
  behind = get_or c.lines.rest.now (length c.lines.rest.now - 1) (0, 0) ∷ c.lines.invariant.behind;
  whole = last_line c.lines.rest.now c.lines.invariant.behind c.args.counts.now (0, 0) c.in-len1-up.len_at_least c.lines.invariant.whole;
  few = c.put_line.ensures.few c.lines.invariant.few;
  are = c.in_ok-put_line.ensures.put c.lines.invariant.behind c.lines.invariant.are;
}

pub returns-clause-put : goal.returns-clause-put
returns-clause-put c = subst (λ (lines : List (ℕ × ℕ)). HasCounts c.lines.numbers.items lines) (none_before c.lines.rest.now c.lines.invariant.behind c.args.counts.now c.in_default.len_below c.lines.invariant.whole) c.lines.invariant.are
