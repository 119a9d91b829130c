use Rattle.session_state.proofs.Terms.{arith, drop, refl, rules, take, ◌-◌, length-take-le, take-append-drop}
use Rattle.session_state.proofs.recording.note_up_to.Goals as goal

pub returns-in-Err-clause-noted : goal.returns-in-Err-clause-noted
returns-in-Err-clause-noted g c =
    let count = c.args.safe - c.args.recorded.now in
    let all = c.args.choices.now.items in (
      search rules,
      refl,
      refl,
      record {
        list = take count all;
        first = (drop count all, take-append-drop count all);
        some = let count_is = length-take-le count all c.requires in let more = c.if-safe-recorded.false in omega (arith, count_is, more);
        handed = search rules;
      },
      record { more = let more = c.if-safe-recorded.false in omega (arith, more); handed = search rules },
    )
